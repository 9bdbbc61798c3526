-- The forms of commands, as lists of what each word spells.
use Rattle.std.specs.Prelude.{◌≡◌, ℕ, ℤ, List, [], ◌∷◌, FitsSigned}
use Rattle.std.specs.Fmt.{signed_decimal}
use Rattle.std.specs.Int.{w64}
use Rattle.tesla_front.specs.Names.{AreNames}
use Rattle.tesla_front.specs.Words.{IsName, IsNumberWithin, ArePacketLimits}
use Rattle.tesla_front.specs.declared.words.PacketLimits.{PacketLimits}

-- the first of the words spells something, and the others spell the rest
pub record HasFirst (Spells : List ℕ → Type 0) (Others : List (List ℕ) → Type 0) (words : List (List ℕ)) : Type 0 where
  pub word : List ℕ
  pub others : List (List ℕ)
  pub are : words ≡ word ∷ others
  pub first : Spells word
  pub rest : Others others

-- each of the words spells one of the parts, in order, and there are no more
abbrev pub AreSpelled : List (List ℕ → Type 0) → List (List ℕ) → Type 0
AreSpelled [] words = words ≡ []
AreSpelled (Spells ∷ parts) words = HasFirst Spells (AreSpelled parts) words

-- ---- the parts of forms, told a word that may spell them

-- this very word
abbrev pub WordIs : List ℕ → List ℕ → Type 0
WordIs text word = word ≡ text

-- a name
abbrev pub NameIs : List ℕ → List ℕ → Type 0
NameIs name word = IsName name × (word ≡ name)

-- names with a comma between two
abbrev pub NamesAre : List (List ℕ) → List ℕ → Type 0
NamesAre names word = AreNames word names

-- a decimal within these limits
abbrev pub NumberIs : ℕ → ℕ → ℕ → List ℕ → Type 0
NumberIs low high number word = IsNumberWithin low high word number

-- a signed decimal of 64 bits: how many microseconds a clock is ahead
abbrev pub LagIs : ℤ → List ℕ → Type 0
LagIs lag word = (word ≡ signed_decimal lag) × FitsSigned w64 lag

-- how many packets are held at most
abbrev pub LimitsAre : PacketLimits → List ℕ → Type 0
LimitsAre limits word = ArePacketLimits word limits
