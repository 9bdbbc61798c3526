-- The payload that names the setup of the next stream.
use Rattle.std.specs.Prelude.{◌≡◌, ℕ, List, [], ◌∷◌, ◌++◌, take, drop, Option, Some, None, Result, Ok, Err, codes, bytes_eq, if◌then◌else◌}
use Rattle.tesla_commit.specs.Parsing.{judged}
use Rattle.tesla_commit.specs.Parts.{Parts}
use Rattle.tesla_commit.specs.declared.refusal.SetupKind.{SetupKind}

-- the bytes that a handover payload begins with
abbrev pub handover_mark : List ℕ
handover_mark = codes "TNXT" ++ 1 ∷ []

-- the payload is the mark, and this text of a setup behind it
abbrev pub IsHandover : List ℕ → List ℕ → Type 0
IsHandover payload text = payload ≡ handover_mark ++ text

-- the text behind the mark, where the payload begins with it
abbrev pub handover_text : List ℕ → Option (List ℕ)
handover_text payload = if bytes_eq (take 5 payload) handover_mark then Some (drop 5 payload) else None

abbrev pub setup_judged : Result Parts (ℕ × SetupKind) → List Parts
setup_judged (Ok setup) = setup ∷ []
setup_judged (Err refused) = []

abbrev pub setup_spelled : Option (List ℕ) → List Parts
setup_spelled (Some text) = setup_judged (judged text)
setup_spelled None = []

-- the setup that a payload hands over to, where it spells one
abbrev pub setup_in : List ℕ → List Parts
setup_in payload = setup_spelled (handover_text payload)
