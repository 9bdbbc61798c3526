-- What posts tell, as those that hand datagrams to them see it.
use Rattle.std.specs.Prelude.{ℕ, List, ◌++◌, Option}
use Rattle.std.specs.Option.{option_map}

-- what a post tells: the name that it was opened under, the datagrams that it sent, and how often it failed
pub record PostSeen : Type 0 where
  pub name : List ℕ
  pub sent : Option (List (List ℕ))
  pub faults : ℕ

-- what was sent, where it is told, with these datagrams at its end
abbrev pub with_datagrams : Option (List (List ℕ)) → List (List ℕ) → Option (List (List ℕ))
with_datagrams sent datagrams = option_map (λ prefix. prefix ++ datagrams) sent
