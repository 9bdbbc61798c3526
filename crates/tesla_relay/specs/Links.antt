-- Which letters left a link, and whether it ended or failed.
use Rattle.std.specs.Prelude.{◌≡◌, true, false, List, [], ◌++◌, Option, Some, None}
use Rattle.tesla_desk.specs.Live.{Remainder, Wire, UntoldWire, AbsentWire, HoldsWire}
use Rattle.tesla_desk.specs.declared.link.Letter.{Letter}

-- these letters left the link, in order, where the desk tells letters
abbrev pub LeftWhere : List Letter → Wire → Option Remainder → Type 0
LeftWhere taken (HoldsWire letters) (Some remainder) = letters ≡ taken ++ remainder.letters
LeftWhere taken (HoldsWire letters) None = ⊥
LeftWhere taken AbsentWire remainder = ⊥
LeftWhere taken UntoldWire remainder = Unit {0}

-- nothing is left of the link, and it didn't fail, where that is told
abbrev pub HasEnded : Option Remainder → Type 0
HasEnded None = Unit {0}
HasEnded (Some remainder) = (remainder.letters ≡ []) × (remainder.failed ≡ false)

-- the link failed, where that is told
abbrev pub HasBroken : Option Remainder → Type 0
HasBroken None = Unit {0}
HasBroken (Some remainder) = remainder.failed ≡ true
