-- The spelling of release records, and of messages accepted on arrival. Such records follow each other without a head.
use Rattle.std.specs.Prelude.{ℕ, List, [], ◌∷◌, ◌++◌, length}
use Rattle.std.specs.Int.{w16, w32, w64, to_be_bytes}
use Rattle.tesla_base.specs.declared.names.Name.{Name}
use Rattle.tesla_base.specs.declared.release.Head.{Head}

-- the fields before the payload
abbrev pub head_text : Head → List ℕ
head_text head =
    to_be_bytes w64 head.position ++ to_be_bytes w32 head.interval ++ to_be_bytes w16 head.number ++ head.chain ∷ []
    ++ to_be_bytes w16 head.length

-- the one spelling of a record
abbrev pub release_text : Head → List ℕ → List ℕ
release_text head payload = head_text head ++ payload

-- a record behind one byte, which tells its epoch or its kind
abbrev pub marked_text : ℕ → Head → List ℕ → List ℕ
marked_text mark head payload = mark ∷ release_text head payload

-- the record of a message that was accepted on arrival: the byte of its kind, its name and its payload
abbrev pub accepted_text : Name → List ℕ → List ℕ
accepted_text name payload =
    1 ∷ [] ++ to_be_bytes w32 name.interval ++ to_be_bytes w16 name.number ++ to_be_bytes w16 (length payload) ++ payload

-- a record of a follower: the byte of its kind, its epoch, and then a release record
abbrev pub followed_text : ℕ → ℕ → Head → List ℕ → List ℕ
followed_text kind epoch head payload = (kind ∷ to_be_bytes w32 epoch ++ head_text head) ++ payload
