-- Records as they are taken, and what comes of each.
use Rattle.std.specs.Prelude.{◌≡◌, ℕ, ◌≤◌, List, [], ◌∷◌, ◌++◌, length, Option, Some, None}
use Rattle.tesla_capture.specs.Gathering.{Gathers}
use Rattle.tesla_capture.specs.Grammar.{Grammar}
use Rattle.tesla_desk.specs.Outside.{AppendsPrefix, with_bytes}
use Rattle.tesla_convert.specs.Rule.{Rule}
use Rattle.tesla_convert.specs.declared.converter.Converted.{Converted}
use Rattle.tesla_convert.specs.declared.converter.Converted.TheVariants.{Whole, Refused, WriteFault, NoMemory}
use Rattle.tesla_convert.specs.declared.converter.TakenRecord.{TakenRecord}
use Rattle.tesla_convert.specs.declared.converter.TakenRecord.TheVariants.{Carrying, Bare}

-- the record of the grammar that was taken
abbrev pub record_of : (G : Grammar) → TakenRecord → G.Record
record_of G (Carrying reading bytes) = G.carrying reading bytes.now
record_of G (Bare reading) = G.bare reading

-- it carries at most as many bytes as the grammar allows
abbrev pub IsWithin : Grammar → TakenRecord → Type 0
IsWithin G (Carrying reading bytes) = length bytes.now ≤ G.longest
IsWithin G (Bare reading) = Unit {0}

-- what came of a record behind those before it is what the rule says: what is written of it is held behind what was held, or it is refused, or a prefix of both was written, or memory was wanting, and both were written
abbrev pub Answers : (G : Grammar) {Kind : Type 0} → Rule G Kind → (List G.Record → Type 0) → List G.Record → G.Record → Converted Kind → Option (List ℕ) → Option (List ℕ) → List ℕ → List ℕ → Type 0
Answers G rule Has before first Whole written now held rest = (rule.refuses before first ≡ None) × Has (before ++ first ∷ []) × Gathers written now rest (held ++ rule.adds before first)
Answers G rule Has before first (Refused kind) written now held rest = (rule.refuses before first ≡ Some kind) × (now ≡ written) × (rest ≡ held)
Answers G rule Has before first WriteFault written now held rest = (rule.refuses before first ≡ None) × AppendsPrefix written now (held ++ rule.adds before first)
Answers G rule Has before first NoMemory written now held rest = (rule.refuses before first ≡ None) × (rest ≡ []) × (now ≡ with_bytes written (held ++ rule.adds before first))
