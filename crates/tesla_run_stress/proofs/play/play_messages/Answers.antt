use Rattle.std.proofs.Common.{◌≡◌, ◌∙◌, ◌+◌, ◌*◌, ◌%◌, ℕ, List, refl, sym, ap, subst, arith}
use Rattle.tesla_capture.specs.Capture.{Record}
use Rattle.tesla_run_stress.specs.Base.{base_stream}
use Rattle.tesla_run_stress.specs.Load.{choice_at, number_at, records_to}
use Rattle.tesla_run_stress.specs.Steps.{HasPlayed}
use Rattle.tesla_run_stress.proofs.Chosen.{number_first, number_next}
use Rattle.tesla_run_stress.proofs.Histories.{records_more, records_none}
use Rattle.tesla_run_stress.proofs.play.play_messages.Goals as goal

pub loop-k-init : goal.loop-k-init
loop-k-init g c = record {
  number = c.from-number.ensures ∙ sym (number_first c.args.seed);
  limit = omega arith;
  count = refl;
  sent = c.requires.sent;
  kept = c.requires.kept;
  played = λ cfg was. subst (λ (l : List Record). HasPlayed cfg l c.args.parties.now.receiver) (sym (records_none (base_stream c.args.parties.now.messages.count) c.args.seed)) was;
  calls = omega arith;
}

pub loop-k-preserved : goal.loop-k-preserved
loop-k-preserved g c =
    let count = c.play_message.new.parties.messages.count in
    let number : c.next_number-number.result ≡ number_at c.args.seed (c.loop-k.k + 1) = c.next_number-number.ensures.value ∙ ap (λ (n : ℕ). (75 * n + 74) % 65537) c.loop-k.invariant.number ∙ sym (number_next c.args.seed c.loop-k.k) in
    let chosen : c.next_number-number.result % 16 ≡ choice_at c.args.seed c.loop-k.k = ap (λ (n : ℕ). n % 16) number in
    record {
      number = number;
      limit = c.next_number-number.ensures.limit;
      count = c.play_message.ensures.count ∙ c.loop-k.invariant.count;
      sent = c.play_message.ensures.sent;
      kept = c.play_message.ensures.kept;
      played = λ cfg was.
          subst (λ (l : List Record). HasPlayed cfg l c.play_message.new.parties.receiver) (sym (records_more (base_stream count) c.args.seed c.loop-k.k))
          (c.play_message.ensures.played cfg _ c.args.seed chosen
          (subst (λ (n : ℕ). HasPlayed cfg (records_to (base_stream n) c.args.seed c.loop-k.k) c.loop-k.parties.receiver) (sym c.play_message.ensures.count) (c.loop-k.invariant.played cfg was)));
      calls = c.play_message.ensures.calls;
    }

pub returns-clause-played : goal.returns-clause-played
returns-clause-played g c = λ cfg was.
    let all : c.loop-k.k ≡ c.loop-k.parties.messages.count = omega (arith, c.loop-k.invariant.count) in
    subst (λ (n : ℕ). HasPlayed cfg (records_to (base_stream c.loop-k.parties.messages.count) c.args.seed n) c.loop-k.parties.receiver) all (c.loop-k.invariant.played cfg was)
