-- What going on with the chains costs.
use Rattle.std.proofs.Common.{◌≡◌, ℕ, zero, suc, ◌+◌, ◌-◌, ◌*◌, ◌<◌, ◌≤◌, List, [], ◌∷◌, length, map, get_or, ◌∙◌, ap, subst, arith}
use Rattle.std.proofs.Math.Nat.{add-mul, mul-add, mul-le-mul_right}
use Rattle.std.proofs.lemmas.List.Sums.{sum_by-cons, sum_by-le}
use Rattle.std.specs.Prelude.{min}
use Rattle.std.specs.List.{All, sum_by}
use Rattle.tesla_chain.specs.Cost.{bits}
use Rattle.tesla_commit.specs.Parts.{Parts}
use Rattle.tesla_sender.specs.Chains.{Progress, chain_in, steps_to}
use Rattle.tesla_sender.specs.Cost.{steps_along, steps_between}
use Rattle.tesla_sender.specs.Made.{Chain}
use Rattle.tesla_sender.specs.Senders.{IsSender, stream_of}
use Rattle.tesla_sender.proofs.Senders.{lasts}

-- a chain that has come to the interval has no way to go
pub none_further : (interval : ℕ) (now : Progress) → now.reached ≡ interval → steps_to interval now ≡ 0
none_further interval now is =
    let none : interval - now.reached ≡ 0 = omega arith in
    rw none (omega arith)

-- from a later index on it is no more
nearer : (early from to : ℕ) (chain : Chain) → early ≤ from → steps_along from to chain ≤ steps_along early to chain
nearer early from to chain later =
    let way : (to - from) * bits chain.last ≤ (to - early) * bits chain.last = mul-le-mul_right (bits chain.last) (omega arith) in
    omega arith

-- chains that have all come to that index at least
along : (from to : ℕ) (chains : List Progress) → All (λ (now : Progress). from ≤ now.reached) chains → sum_by (steps_to to) chains ≤ sum_by (steps_along from to) (map chain_in chains)
along from to [] reached = omega arith
along from to (now ∷ chains) reached =
    let first : steps_to to now ≤ steps_along from to now.chain = nearer from now.reached to now.chain (reached zero now (omega arith)) in
    let rest = along from to chains (λ k d within. reached (suc k) d (omega arith)) in
    omega (arith, first, rest, sum_by-cons (steps_to to) now chains, sum_by-cons (steps_along from to) now.chain (map chain_in chains))

-- the chains of a sender
pub all_along : (setup : Parts) (chains : List Progress) (latest used interval : ℕ) → IsSender setup chains latest used → sum_by (steps_to (min interval setup.times.last)) chains ≤ steps_between (stream_of setup chains) latest interval
all_along setup chains latest used interval is =
    let from = min latest setup.times.last in
    let to = min interval setup.times.last in
    let each : All (λ (now : Progress). from ≤ now.reached) chains = λ k d within. omega (arith, (is.reached k d within).least, lasts setup chains latest used is k d within) in
    subst (λ (all : List Chain). sum_by (steps_to to) chains ≤ sum_by (steps_along from to) all) is.same (along from to chains each)

-- the next keys of all chains
pub next_cost : (setup : Parts) (chains : List Progress) (latest used : ℕ) → IsSender setup chains latest used → latest < setup.times.last → sum_by (steps_to (latest + 1)) chains ≤ length setup.rows * bits setup.times.last
next_cost setup chains latest used is before =
    let digits = bits setup.times.last in
    let one : All (λ (now : Progress). steps_to (latest + 1) now ≤ digits) chains = λ k d within.
    let now = get_or chains k d in
    let last = lasts setup chains latest used is k d within in
    let few : latest + 1 - now.reached ≤ 1 = omega (arith, (is.reached k d within).least, last) in
    let way : (latest + 1 - now.reached) * bits now.chain.last ≤ 1 * bits now.chain.last = mul-le-mul_right (bits now.chain.last) few in
    omega (arith, way, ap bits last) in
    omega (arith, sum_by-le (steps_to (latest + 1)) digits chains one, ap (λ (n : ℕ). n * digits) is.count)

-- a long way, over whose first part the traversal advances at once
pub far_cost : (way gap room last index to digits old middle new : ℕ) → way ≡ gap + room → to ≡ index + room → to ≤ last → middle ≤ old + gap * digits → middle ≤ old + (last - index) → new ≤ middle + room * digits → new ≤ old + min (way * digits) ((last - to) + room * (digits + 1))
far_cost way gap room last index to digits old middle new is at within each whole cost =
    let sum : way * digits ≡ gap * digits + room * digits = ap (λ (n : ℕ). n * digits) is ∙ add-mul gap room digits in
    omega (arith, each, whole, cost, sum, mul-add room digits 1)
