-- Events at readings that the clock gave.
use Rattle.std.proofs.Common.{ℕ, Bool, List, [], ◌∷◌, ◌++◌}
use Rattle.std.specs.List.{fold}
use Rattle.tesla_feed.specs.Due.{AreGiven, IsGiven, datagrams_by}
use Rattle.tesla_feed.specs.Fed.{Event}

-- one event more
pub given_more : (gave : ℕ → Bool) (read_for : ℕ → List ℕ → ℕ → Bool) (number : ℕ) (events : List Event) (event : Event)
    → AreGiven gave read_for number events → IsGiven gave read_for (fold datagrams_by number events) event
    → AreGiven gave read_for number (events ++ event ∷ [])
given_more gave read_for number [] event given one = (one, tt)
given_more gave read_for number (first ∷ events) event given one =
    (given.0, given_more gave read_for (datagrams_by number first) events event given.1 one)
