use Rattle.std.proofs.Common.{◌≡◌, ◌+◌, ◌*◌, ◌≤◌, ◌++◌, drop}
use Rattle.arrayvec.specs.ArrayString.{array_string_len}
use Rattle.tesla_front.specs.Parts.{texts_of}
use Rattle.tesla_run_receive.specs.watch.Lines.{others_text}
use Rattle.tesla_run_receive.proofs.watch.line.add_others.Given as goal

-- what was added and what is left to add are all of them
abbrev pub invariant-loop-place : goal.invariant-loop-place
invariant-loop-place l = record {
  text : l.line.bytes ++ others_text (drop l.place (texts_of l.names)) (drop l.place l.counts) ≡ l.initial.line.bytes ++ others_text (texts_of l.names) l.counts;
  few : array_string_len l.line ≤ array_string_len l.initial.line + 65 * l.place;
}
