-- What a sink gets of the answer to a take.
use Rattle.std.specs.Prelude.{◌≡◌, ℕ, Bool, true, false, List, [], ◌++◌, flat_map}
use Rattle.tesla_shared.specs.declared.station.Gathered.{Gathered}
use Rattle.tesla_shared.specs.declared.station.Gathered.TheVariants as gathered

-- an answer yields the text of a record, or none now, or none any more
pub data Yield : Type 0 where
  Record : (text : List ℕ) → Yield
  Nothing : Yield
  Over : Yield

-- the text of the record, and nothing where there is none
abbrev pub text_in : Yield → List ℕ
text_in (Record text) = text
text_in Nothing = []
text_in Over = []

-- it is not that there is none any more
abbrev pub is_more : Yield → Bool
is_more (Record text) = true
is_more Nothing = true
is_more Over = false

-- what was gathered of it, told the bytes that were gathered before and afterwards
abbrev pub GathersYield : Yield → List ℕ → List ℕ → Gathered → Type 0
GathersYield yield before after gathered.Record = (text : List ℕ) × (yield ≡ Record text) × (after ≡ before ++ text)
GathersYield yield before after gathered.Nothing = (yield ≡ Nothing) × (after ≡ before)
GathersYield yield before after gathered.Over = (yield ≡ Over) × (after ≡ before)

module _ {R : Type 0} (yields : R → Yield) where
  -- the record that is written of an answer, and nothing where there is none
  abbrev pub record_of : R → List ℕ
  record_of reply = text_in (yields reply)

  -- the answer is not that all is over
  abbrev pub goes_on : R → Bool
  goes_on reply = is_more (yields reply)

  -- the records of answers, in order
  abbrev pub records : List R → List ℕ
  records answers = flat_map record_of answers
