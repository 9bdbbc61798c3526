use Rattle.std.proofs.Common.{◌∙◌, ◌/◌, ◌++◌, ℕ, List, subst, ap}
use Rattle.std.specs.Prelude.{codes, unwrap_or}
use Rattle.std.specs.Int.{w64, to_be_bytes}
use Rattle.hex.specs.Hex.{encode_lower}
use Rattle.sha2.specs.Sha256.{sha256}
use Rattle.tesla_commit.specs.SetupText.{setup_text}
use Rattle.tesla_clock.specs.Schedule.{Times}
use Rattle.tesla_front.specs.Lines.{count_line}
use Rattle.tesla_run_info.specs.info.Calendar.{IsMoment}
use Rattle.tesla_run_info.specs.info.Left.{end_of}
use Rattle.tesla_run_info.specs.info.Lines.{chain_lines, head_text, left_lines, places, word_line}
use Rattle.tesla_run_info.proofs.info.Chains.{all_lines, stream_short, sum_short}
use Rattle.tesla_run_info.proofs.info.lines.lines_of.Goals as goal

pub add_head-requires-clause-stream : goal.add_head-requires-clause-stream
add_head-requires-clause-stream c = stream_short c.args.setup.now.stream.0 c.args.stream.now c.requires.stream

pub add_word-requires-clause-value : goal.add_word-requires-clause-value
add_word-requires-clause-value c = sum_short _ c.args.sum.now c.requires.sum

pub returns : goal.returns
returns c =
    let setup = c.args.setup.now in
    let begins = c.moment_of-begins.result in
    let ends = c.moment_of-ends.result in
    let rate = unwrap_or c.args.rate 1 in
    record {
      begins = begins;
      ends = ends;
      begin = subst (λ (t : ℕ). IsMoment (t / 1000000) begins) (c.start.ensures ∙ ap (λ (t : Times). t.start) c.schedule-schedule.ensures) c.moment_of-begins.ensures;
      end = subst (λ (t : ℕ). IsMoment (t / 1000000) ends) (c.end_of.ensures.value ∙ ap end_of c.schedule-schedule.ensures) c.moment_of-ends.ensures;
      lines = all_lines (head_text setup (encode_lower (to_be_bytes w64 setup.stream.0)) begins ends) (left_lines setup.times c.args.reading) (chain_lines setup.times.length 0 setup.rows) (count_line (codes "capacity") (places rate setup))
          (word_line (codes "sha256") (encode_lower (sha256 (setup_text setup)))) c.add_head.new.lines.bytes c.add_left.new.lines.bytes c.add_chains.new.lines.bytes c.add_wide.new.lines.bytes c.add_word.new.lines.bytes
          (c.add_head.ensures.text ∙ ap (λ (bytes : List ℕ). bytes ++ head_text setup c.args.stream.now begins ends) c.new-lines.ensures ∙ ap (λ (digits : List ℕ). head_text setup digits begins ends) c.requires.stream)
          (c.add_left.ensures.text ∙ ap (λ (times : Times). c.add_head.new.lines.bytes ++ left_lines times c.args.reading) c.schedule-schedule.ensures)
          c.add_chains.ensures.text
          (c.add_wide.ensures.text ∙ ap (λ (n : ℕ). c.add_chains.new.lines.bytes ++ count_line (codes "capacity") n) (c.places_of.ensures ∙ ap (λ (r : ℕ). places r setup) c.unwrap_or.ensures))
          (c.add_word.ensures.text ∙ ap (λ (digits : List ℕ). c.add_wide.new.lines.bytes ++ word_line (codes "sha256") digits) c.requires.sum);
    }
