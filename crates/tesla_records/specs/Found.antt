-- What pending bytes tell of a place of a file.
use Rattle.std.specs.Prelude.{◌≡◌, ◌≢◌, ℕ, zero, suc, ◌+◌, ◌<◌, ◌≤◌, List, [], ◌++◌, length, drop, Option, Some, None}
use Rattle.tesla_desk.specs.Outside.{after_bytes, Ends}
use Rattle.tesla_desk.specs.declared.source.ReadStep.{ReadStep}
use Rattle.tesla_desk.specs.declared.source.ReadStep.TheVariants as reads
use Rattle.tesla_records.specs.Grammar.{Grammar, Awaits, Whole, AwaitsHead, HeadIs, limit}
use Rattle.tesla_records.specs.Records.{AtEnd, Recorded, Refuses, record_next, refusal_by, dropped_by, parsed_head}
use Rattle.tesla_records.specs.Judged.{BeginsWhole}
use Rattle.tesla_records.specs.declared.refusal.Refusal.TheVariants.{BadHead}
use Rattle.tesla_records.specs.declared.found.Found.{Found}
use Rattle.tesla_records.specs.declared.found.Found.TheVariants.{Record, Refused, End, Failed}
use Rattle.tesla_records.specs.declared.found.HeadFound.{HeadFound}
use Rattle.tesla_records.specs.declared.found.HeadFound.TheVariants as heads

-- what was found says what comes next in the rest of a file, at whose start these bytes are pending, and what is left behind them
abbrev pub Finds : (G : Grammar) {K : Type 0} → (K → G.Kind) → Found K → ℕ → List ℕ → List ℕ → Option (List ℕ) → Type 0
Finds G kind_of (Record size) offset bytes rest now =
    (left : List ℕ) × (now ≡ Some left) × (rest ≡ bytes ++ left) × ((it : G.Record) → G.parse bytes ≡ Whole it size → record_next G offset rest ≡ Recorded it (offset + size) (drop size bytes ++ left))
Finds G kind_of (Refused refusal) offset bytes rest now =
    (record_next G offset rest ≡ Refuses offset (refusal_by kind_of refusal)) × (after_bytes bytes now ≡ Some (drop (dropped_by offset refusal) rest))
Finds G kind_of End offset bytes rest now = (record_next G offset rest ≡ AtEnd) × (after_bytes bytes now ≡ Some [])
Finds G kind_of Failed offset bytes rest now = after_bytes bytes now ≡ Some rest

-- a record that was found is pending, and no record is refused for the head
abbrev pub IsPending : Grammar → {K : Type 0} → Found K → List ℕ → Type 0
IsPending G (Record size) bytes = BeginsWhole G size bytes
IsPending G (Refused refusal) bytes = refusal ≢ BadHead
IsPending G End bytes = Unit {0}
IsPending G Failed bytes = Unit {0}

-- what these bytes alone tell of the record at their start
abbrev pub Tells : (G : Grammar) {K : Type 0} → (K → G.Kind) → Option (Found K) → List ℕ → Type 0
Tells G kind_of None bytes = G.parse bytes ≡ Awaits
Tells G kind_of (Some found) bytes =
    (found ≢ Failed) × IsPending G found bytes × ((offset : ℕ) (left : List ℕ) → offset + length bytes ≤ limit → Finds G kind_of found offset bytes (bytes ++ left) (Some left))

-- neither a whole record nor a refused one stands at a place behind the head, whatever follows, and a part of a record ends before the limit
pub record AwaitsRecord (G : Grammar) (offset : ℕ) (bytes : List ℕ) : Type 0 where
  pub awaits : G.parse bytes ≡ Awaits
  pub within : 0 < length bytes → offset + length bytes < limit

-- only what follows these bytes tells what comes next at a place; at place 0 the head comes first
abbrev pub AwaitsAt : Grammar → ℕ → List ℕ → Type 0
AwaitsAt G zero bytes = G.parse_head bytes ≡ AwaitsHead
AwaitsAt G (suc offset) bytes = AwaitsRecord G (suc offset) bytes

-- what these bytes alone tell of the head: a part of it tells nothing yet
abbrev pub TellsHead : (G : Grammar) {H : Type 0} → (H → G.Head) → Option (HeadFound H) → List ℕ → Type 0
TellsHead G head_of None bytes = G.parse_head bytes ≡ AwaitsHead
TellsHead G head_of (Some (heads.Whole head)) bytes =
    (G.parse_head bytes ≡ HeadIs (head_of head)) × ((left : List ℕ) → G.parse_head (bytes ++ left) ≡ HeadIs (head_of head))
TellsHead G head_of (Some heads.Bad) bytes = (left : List ℕ) → parsed_head (G.parse_head (bytes ++ left)) ≡ None
TellsHead G head_of (Some heads.Failed) bytes = ⊥

-- what was found at place 0 says whether the head stands there, at whose start these bytes are pending, and what is left behind them
abbrev pub FindsHead : (G : Grammar) {H : Type 0} → (H → G.Head) → HeadFound H → List ℕ → List ℕ → Option (List ℕ) → Type 0
FindsHead G head_of (heads.Whole head) bytes rest now = (G.parse_head rest ≡ HeadIs (head_of head)) × (after_bytes bytes now ≡ Some rest)
FindsHead G head_of heads.Bad bytes rest now = (parsed_head (G.parse_head rest) ≡ None) × (after_bytes bytes now ≡ Some rest)
FindsHead G head_of heads.Failed bytes rest now = after_bytes bytes now ≡ Some rest

-- a whole head is pending
abbrev pub HeadIsPending : (G : Grammar) {H : Type 0} → (H → G.Head) → HeadFound H → List ℕ → Type 0
HeadIsPending G head_of (heads.Whole head) bytes = G.parse_head bytes ≡ HeadIs (head_of head)
HeadIsPending G head_of heads.Bad bytes = Unit {0}
HeadIsPending G head_of heads.Failed bytes = Unit {0}

-- what one read does to the bytes that are pending and to what is left
abbrev pub ReadsOn : ReadStep → List ℕ → Option (List ℕ) → List ℕ → Option (List ℕ) → Type 0
ReadsOn (reads.Got n) before left now after = (length before < length now) × (after_bytes now after ≡ after_bytes before left)
ReadsOn reads.End before left now after = (now ≡ before) × Ends left after
ReadsOn reads.Failed before left now after = (now ≡ before) × (after ≡ left)
