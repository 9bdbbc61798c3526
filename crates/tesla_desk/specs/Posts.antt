-- What the calls of posts do to the datagrams that these tell.
use Rattle.std.specs.Prelude.{◌≡◌, ℕ, List, [], ◌∷◌, ◌++◌, Option}
use Rattle.std.specs.Option.{option_map}
use Rattle.tesla_desk.specs.declared.post.PostStep.{PostStep}
use Rattle.tesla_desk.specs.declared.post.PostStep.TheVariants.{Sent, Failed}

-- what was sent, where it is told, with this datagram at its end
abbrev pub with_datagram : Option (List (List ℕ)) → List ℕ → Option (List (List ℕ))
with_datagram sent datagram = option_map (λ prefix. prefix ++ datagram ∷ []) sent

-- what one call does to what was sent
abbrev pub Posts : Option (List (List ℕ)) → Option (List (List ℕ)) → List ℕ → PostStep → Type 0
Posts old new datagram Sent = new ≡ with_datagram old datagram
Posts old new datagram Failed = new ≡ old
