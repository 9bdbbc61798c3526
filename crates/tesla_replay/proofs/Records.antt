-- The release records of histories that grow.
use Rattle.std.proofs.Common.{◌≡◌, ℕ, List, [], ◌∷◌, ◌++◌, ap, ◌∙◌}
use Rattle.std.proofs.lemmas.List.{append-nil}
use Rattle.std.proofs.lemmas.List.Concat.{flat_map-append}
use Rattle.tesla_receiver.specs.Entries.{Entry}
use Rattle.tesla_replay.specs.Records.{record_in, records_of}

-- the records of two histories, one after the other
pub records_both : (releaser : ℕ) (h more : List Entry) → records_of releaser (h ++ more) ≡ records_of releaser h ++ records_of releaser more
records_both releaser h more = flat_map-append (record_in releaser) h more

-- the records with one entry more
pub records_more : (releaser : ℕ) (h : List Entry) (e : Entry) → records_of releaser (h ++ e ∷ []) ≡ records_of releaser h ++ record_in releaser e
records_more releaser h e = records_both releaser h (e ∷ []) ∙ ap (λ r. records_of releaser h ++ r) (append-nil (record_in releaser e))
