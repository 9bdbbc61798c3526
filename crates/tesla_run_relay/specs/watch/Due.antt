-- The same as Due of relay, for watch-relay.
use Rattle.std.specs.Prelude.{ℕ, Bool, List, length, Option}
use Rattle.tesla_relay.specs.Offers.{MayAskNext}
use Rattle.tesla_run_relay.specs.Due.{IsNextUnder}
use Rattle.tesla_run_relay.specs.watch.Arguments.{IsWatchForm, WatchArguments}

-- the words are of the form, and a post under one of POSTS is to send a datagram that a link brought, behind those that it has sent
pub record IsDue (brought : ℕ → List ℕ → Bool) (words : List (List ℕ)) (name : List ℕ) (sent : Option (List (List ℕ))) (datagram : List ℕ) : Type 0 where
  pub arguments : WatchArguments
  pub form : IsWatchForm arguments words
  pub next : IsNextUnder brought arguments.relay.posts name sent datagram

-- where the words are of the form, a link may be asked for its next letter once each datagram that it has brought was offered to the queue of each of POSTS
abbrev pub MayAskForWords : {K : Type 0} → (was_put : ℕ → ℕ → Bool) → (was_full : ℕ → ℕ → ℕ → Bool) → (has_brought : K → ℕ → Bool) → (may_ask : K → Bool) → List (List ℕ) → Type 0
MayAskForWords was_put was_full has_brought may_ask words =
    (arguments : WatchArguments) → IsWatchForm arguments words → MayAskNext was_put was_full has_brought may_ask arguments.relay.capacity (length arguments.relay.posts)
