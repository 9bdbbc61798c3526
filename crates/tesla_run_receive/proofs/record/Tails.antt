-- The last entries of a history as they are written to TAIL.
use Rattle.std.proofs.Common.{◌≡◌, ◌∙◌, ℕ, ◌-◌, List, ◌++◌, length, flat_map, ap, arith}
use Rattle.std.proofs.lemmas.List.{length-drop, length-map}
use Rattle.tesla_receiver.specs.Entries.{Entry}
use Rattle.tesla_recorder.specs.Recorded.{RecordedState, RecordedStands, last_entries}
use Rattle.tesla_recorder.proofs.LastEntries.{all_spelled}
use Rattle.tesla_trace.specs.Trace.{entry_text, tail_head}
use Rattle.tesla_run_receive.specs.record.Record.{tail_of}

-- the number of the first entry and the texts are those of the history
pub tail_is : {V : Type 0} (stands_for : V → List Entry → Type 0) (state : RecordedState V) (history : List Entry) (first : ℕ) → RecordedStands stands_for state history → first ≡ length history - length state.texts → tail_head first ++ flat_map (λ text. text) state.texts ≡ tail_of state.keep history
tail_is stands_for state history first stands is =
    let kept = last_entries state.keep history in
    let size : length state.texts ≡ length history - (length history - state.keep) = ap length stands.last ∙ length-map kept entry_text ∙ length-drop (length history - state.keep) history in
    let number : first ≡ length history - state.keep = omega (arith, is, size) in
    ap (λ (n : ℕ). tail_head n ++ flat_map (λ text. text) state.texts) number
    ∙ ap (λ (texts : List (List ℕ)). tail_head (length history - state.keep) ++ flat_map (λ text. text) texts) stands.last
    ∙ ap (λ (bytes : List ℕ). tail_head (length history - state.keep) ++ bytes) (all_spelled kept)
