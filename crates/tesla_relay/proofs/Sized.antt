-- How many counts a relay gives.
use Rattle.std.proofs.Common.{◌≡◌, ℕ, List, [], ◌∷◌, length, refl, arith}
use Rattle.tesla_relay.specs.Posts.{PostSeen}
use Rattle.tesla_relay.specs.Relay.{RelaysPosts}
use Rattle.tesla_relay.specs.declared.relayed.PostCount.{PostCount}

-- of each post there is a count
pub each_counted : (capacity : ℕ) (arrived : List (List ℕ)) (olds news : List PostSeen) (counts : List PostCount) → RelaysPosts capacity arrived olds news counts → length counts ≡ length olds
each_counted capacity arrived [] [] [] relays = refl
each_counted capacity arrived [] [] (count ∷ counts) relays = absurd relays
each_counted capacity arrived [] (new ∷ news) counts relays = absurd relays
each_counted capacity arrived (old ∷ olds) [] counts relays = absurd relays
each_counted capacity arrived (old ∷ olds) (new ∷ news) [] relays = absurd relays
each_counted capacity arrived (old ∷ olds) (new ∷ news) (count ∷ counts) (one, others) =
    let rest : length counts ≡ length olds = each_counted capacity arrived olds news counts others in omega (arith, rest)
