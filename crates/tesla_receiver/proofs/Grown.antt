-- The lists of a book with one more arrival.
use Rattle.std.proofs.Common.{◌≡◌, cond, List, [], ◌∷◌, ◌++◌, sym, ap, ◌∙◌}
use Rattle.std.specs.Prelude.{filter, nat_lt}
use Rattle.tesla_fitting.specs.declared.config.Config.{Config}
use Rattle.tesla_receiver.specs.Entries.{Arrival}
use Rattle.tesla_state.specs.Releases.{each_after}
use Rattle.tesla_receiver.specs.Keys.{takes_keys, keys_in, keys_taken, newest, new_keys}
use Rattle.tesla_fitting.specs.declared.verdict.Verdict.{Verdict}
use Rattle.tesla_frame.specs.Reading.{frame_of}
use Rattle.tesla_receiver.specs.Packets.{proved_by, batch, candidates}
use Rattle.tesla_receiver.proofs.EachAfter.{each_after_more}

-- an arrival takes the same keys with another verdict with which it takes them
pub same_taken : (cfg : Config) (a : Arrival) (verdict : Verdict) → takes_keys a.verdict ≡ takes_keys verdict → keys_taken cfg a ≡ keys_taken cfg (record { ingest = a.ingest; reading = a.reading; bytes = a.bytes; verdict = verdict })
same_taken cfg a verdict e = ap (λ b. cond b (keys_in cfg (frame_of a.bytes)) []) e

-- what is proved is the same where the last arrival takes the same keys
pub candidates_same : (cfg : Config) (prefix : List Arrival) (a b : Arrival) → keys_taken cfg a ≡ keys_taken cfg b → candidates cfg (prefix ++ a ∷ []) ≡ candidates cfg (prefix ++ b ∷ [])
unfolding candidates
candidates_same cfg prefix a b same =
    let new : new_keys cfg prefix a ≡ new_keys cfg prefix b = ap (filter (λ row. nat_lt (newest cfg prefix row.chain.0) row.index)) same in
    each_after_more (batch cfg) prefix a ∙ ap (λ rs. each_after (batch cfg) [] prefix ++ proved_by cfg prefix rs) new ∙ sym (each_after_more (batch cfg) prefix b)
