-- What a desk tells of links, posts and clocks.
use Rattle.std.specs.Prelude.{◌≡◌, ℕ, Bool, false, nat_lt, List, [], Option, Some, None}
use Rattle.tesla_desk.specs.Clocks.{Ticking}
use Rattle.tesla_desk.specs.declared.link.Letter.{Letter}

-- what a desk has for links under a name: it doesn't tell, there is nothing, or these letters
pub data Wire : Type 0 where
  UntoldWire : Wire
  AbsentWire : Wire
  HoldsWire : List Letter → Wire

-- what was left of a closed link, and whether it failed
pub record Remainder : Type 0 where
  pub letters : List Letter
  pub failed : Bool

-- what a closed link leaves, from the letters that it told and its count of faults
abbrev pub remainder_of : Option (List Letter) → ℕ → Option Remainder
remainder_of None faults = None
remainder_of (Some letters) faults = Some (record { letters = letters; failed = nat_lt 0 faults })

-- no letter left a link: it wasn't closed, or all that was there for it is left
abbrev pub LeavesAll : Wire → Option Remainder → Type 0
LeavesAll (HoldsWire letters) remainder = remainder ≡ Some (record { letters = letters; failed = false })
LeavesAll _ remainder = Unit {0}

-- what a desk has of posts under a name: it doesn't tell, none was closed, or the datagrams that the post that was closed last sent, and whether it failed
pub data Mail : Type 0 where
  UntoldMail : Mail
  AbsentMail : Mail
  HoldsMail : List (List ℕ) → Bool → Mail

-- the mail under the name of a closed post, from the datagrams that it told and its count of faults
abbrev pub mail_of : Option (List (List ℕ)) → ℕ → Mail
mail_of None faults = UntoldMail
mail_of (Some sent) faults = HoldsMail sent (nat_lt 0 faults)

-- what a desk tells beside its files: what it has for links under each name, what was left of the link that was closed last under it, the mail of posts under each name, the readings of each clock by its number, and how many clocks it made
pub record Live : Type 0 where
  pub wire : List ℕ → Wire
  pub left : List ℕ → Option Remainder
  pub mail : List ℕ → Mail
  pub readings : Option (ℕ → List ℕ)
  pub made : Option ℕ

-- nothing is told
abbrev pub untold : Live
untold = record { wire = λ _. UntoldWire; left = λ _. None; mail = λ _. UntoldMail; readings = None; made = None }

-- a new link has what its desk tells under the name
abbrev pub OpenedLink : Wire → Option (List Letter) → Type 0
OpenedLink UntoldWire left = left ≡ None
OpenedLink AbsentWire left = ⊥
OpenedLink (HoldsWire letters) left = left ≡ Some letters

-- a new clock has the readings of its number, and has given none
abbrev pub clock_told : Option (ℕ → List ℕ) → Option ℕ → Option Ticking
clock_told (Some readings) (Some number) = Some (record { ahead = readings number; given = [] })
clock_told (Some readings) None = None
clock_told None made = None
