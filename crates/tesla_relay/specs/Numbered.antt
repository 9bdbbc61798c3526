-- Datagrams with the numbers under which a link brought them.
use Rattle.std.specs.Prelude.{◌≡◌, ℕ, suc, ◌<◌, ◌≤◌, Bool, true, List, [], ◌∷◌}

-- a datagram and its number, counted from 0 among those of its link
pub record Numbered : Type 0 where
  pub number : ℕ
  pub bytes : List ℕ

abbrev pub datagram_of : Numbered → List ℕ
datagram_of one = one.bytes

-- a link brought each of these under its number, and their numbers rise from the least one on: they are in order and each once
abbrev pub AreBroughtFrom : (brought : ℕ → List ℕ → Bool) (least : ℕ) → List Numbered → Type 0
AreBroughtFrom brought least [] = Unit {0}
AreBroughtFrom brought least (one ∷ more) = (least ≤ one.number) × (brought one.number one.bytes ≡ true) × AreBroughtFrom brought (suc one.number) more

-- the same from 0 on
abbrev pub AreBrought : (brought : ℕ → List ℕ → Bool) → List Numbered → Type 0
AreBrought brought datagrams = AreBroughtFrom brought 0 datagrams

-- all came before that of this number
abbrev pub AreBelow : ℕ → List Numbered → Type 0
AreBelow number [] = Unit {0}
AreBelow number (one ∷ more) = (one.number < number) × AreBelow number more
