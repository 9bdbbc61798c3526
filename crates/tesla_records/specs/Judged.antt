-- What a format's own calls tell of bytes that were read.
use Rattle.std.specs.Prelude.{◌≡◌, ℕ, List, length, take}
use Rattle.tesla_records.specs.Grammar.{Grammar, Awaits, Whole, Bad, AwaitsHead, HeadIs, NoHead}
use Rattle.tesla_records.specs.declared.format.Judged.{Judged}
use Rattle.tesla_records.specs.declared.format.Judged.TheVariants as judged
use Rattle.tesla_records.specs.declared.format.HeadJudged.{HeadJudged}
use Rattle.tesla_records.specs.declared.format.HeadJudged.TheVariants as heads

-- the bytes tell so much of the head
abbrev pub JudgesHead : (G : Grammar) {H : Type 0} → (H → G.Head) → HeadJudged H → List ℕ → Type 0
JudgesHead G head_of heads.Awaits bytes = G.parse_head bytes ≡ AwaitsHead
JudgesHead G head_of (heads.Whole head) bytes = G.parse_head bytes ≡ HeadIs (head_of head)
JudgesHead G head_of heads.Bad bytes = G.parse_head bytes ≡ NoHead

-- a whole record of so many bytes stands at the front
abbrev pub BeginsWhole : Grammar → ℕ → List ℕ → Type 0
BeginsWhole G size bytes = (it : G.Record) × (G.parse bytes ≡ Whole it size)

-- the bytes tell so much of the record at their start
abbrev pub Judges : (G : Grammar) {K : Type 0} → (K → G.Kind) → Judged K → List ℕ → Type 0
Judges G kind_of judged.Awaits bytes = G.parse bytes ≡ Awaits
Judges G kind_of (judged.Whole size) bytes = BeginsWhole G size bytes
Judges G kind_of (judged.Bad kind) bytes = G.parse bytes ≡ Bad (kind_of kind)

-- the record of so many bytes at the front of these is within its limits, and it is given
pub record TakesWhole (G : Grammar) (bytes : List ℕ) (it : G.Record) (size : ℕ) (given : G.Record) : Type 0 where
  pub is : given ≡ it
  pub limits : G.IsRecord it
  pub spelled : take size bytes ≡ G.record_text it
  pub sized : length (G.record_text it) ≡ size
