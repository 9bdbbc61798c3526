-- What the calls of links do to the letters that these tell.
use Rattle.std.specs.Prelude.{◌≡◌, ℕ, suc, ◌≤◌, Bool, nat_le, true, List, [], ◌∷◌, ◌++◌, length, take, flat_map, Option, IfSome}
use Rattle.std.specs.Option.{option_map}
use Rattle.tesla_desk.specs.declared.link.Letter.{Letter}
use Rattle.tesla_desk.specs.declared.link.Letter.TheVariants as letters
use Rattle.tesla_desk.specs.declared.link.Got.{Got}
use Rattle.tesla_desk.specs.declared.link.Got.TheVariants.{Datagram, Quiet, End, Failed}

-- the bytes of a letter that is a datagram
abbrev pub datagram_in : Letter → List (List ℕ)
datagram_in (letters.Datagram bytes) = bytes ∷ []
datagram_in letters.Quiet = []

-- the datagrams among letters, in order
abbrev pub datagrams : List Letter → List (List ℕ)
datagrams taken = flat_map datagram_in taken

-- a datagram of a letter has at most 2,048 bytes
abbrev pub fits : Letter → Bool
fits (letters.Datagram bytes) = nat_le (length bytes) 2048
fits letters.Quiet = true

-- what is left, where it is told, was led by these letters
abbrev pub after_letters : List Letter → Option (List Letter) → Option (List Letter)
after_letters taken left = option_map (λ rest. taken ++ rest) left

-- the next letter was a datagram of n bytes, which now stand at the front of the buffer
pub record BringsDatagram (n : ℕ) (old new : Option (List Letter)) (into : List ℕ) : Type 0 where
  pub fits : n ≤ 2048
  pub left : old ≡ after_letters (letters.Datagram (take n into) ∷ []) new

-- no letter is left
pub record EndsLink (old new : Option (List Letter)) : Type 0 where
  pub empty : IfSome old (λ rest. rest ≡ [])
  pub left : new ≡ old

-- what one call does to what is left, and to the buffer that it fills
abbrev pub Gets : Option (List Letter) → Option (List Letter) → List ℕ → Got → Type 0
Gets old new into (Datagram n) = BringsDatagram n old new into
Gets old new into Quiet = old ≡ after_letters (letters.Quiet ∷ []) new
Gets old new into End = EndsLink old new
Gets old new into Failed = new ≡ old

-- what one call of a link that has brought so many datagrams adds to them: a datagram has that number, and there is one more then
abbrev pub Numbers : (ℕ → List ℕ → Bool) → (ℕ → Bool) → ℕ → List ℕ → Got → Type 0
Numbers brought has_brought number into (Datagram n) = (brought number (take n into) ≡ true) × (has_brought (suc number) ≡ true)
Numbers brought has_brought number into Quiet = has_brought number ≡ true
Numbers brought has_brought number into End = has_brought number ≡ true
Numbers brought has_brought number into Failed = has_brought number ≡ true
