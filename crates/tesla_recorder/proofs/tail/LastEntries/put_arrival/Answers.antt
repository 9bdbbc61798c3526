use Rattle.std.proofs.Common.{◌∙◌, List, ℕ, [], ◌∷◌, ◌++◌, length, take, ap}
use Rattle.std.specs.Int.{w16, w64, to_be_bytes}
use Rattle.tesla_recorder.specs.Recorded.{with_text}
use Rattle.tesla_recorder.proofs.tail.LastEntries.put_arrival.Goals as goal

pub returns : goal.returns
returns c =
    c.put.ensures ∙ ap (λ (text : List ℕ). with_text c.args.self.now text)
    (ap (λ (prefix : List ℕ). prefix ++ c.args.bytes.now ++ take c.verdict_bytes-returned.result.length c.verdict_bytes-returned.result.bytes) c.arrival_header-header.ensures
    ∙ ap (λ (returned : List ℕ). 1 ∷ c.args.ingest ∷ [] ++ to_be_bytes w64 c.args.reading ++ to_be_bytes w16 (length c.args.bytes.now) ++ c.args.bytes.now ++ returned) c.verdict_bytes-returned.ensures)
