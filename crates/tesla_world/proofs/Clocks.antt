-- Clocks that err on the safe side: the clock bound of right clocks holds of them.
use Rattle.std.proofs.Common.{◌≡◌, ℕ, zero, suc, ◌≤◌, List, [], ◌∷◌, Some, arith}
use Rattle.std.specs.Prelude.{slice_get}
use Rattle.std.proofs.lemmas.Int.{ints}
use Rattle.std.proofs.lemmas.Option.{none-some}
use Rattle.tesla_world.specs.World.{Moment, Sent, Received}
use Rattle.tesla_world.specs.Laws.{ErrsSafely, SafeClocksAreBounded, SafeClocksAreSecure, SecurityCondition}

-- what was sent at a moment was sent at that of the other world, at a reading that is no less
sent_too : (world right : List Moment) (i sent : ℕ) (text : List ℕ) → ErrsSafely world right → slice_get world i ≡ Some (Sent sent text) → (by_right : ℕ) × (slice_get right i ≡ Some (Sent by_right text)) × (sent ≤ by_right)
sent_too [] right i sent text errs at = absurd (none-some (Sent sent text) at)
sent_too (moment ∷ world) [] i sent text errs at = absurd errs
sent_too (Sent reading bytes ∷ world) (Sent by_right same ∷ right) zero sent text errs at =
    let now : reading ≡ sent = cc in
    (by_right, cc (errs.0.1), omega arith)
sent_too (Sent reading bytes ∷ world) (Received by_right same ∷ right) zero sent text errs at = absurd errs.0
sent_too (Received reading bytes ∷ world) (moment ∷ right) zero sent text errs at = absurd (cc)
sent_too (moment ∷ world) (other ∷ right) (suc i) sent text errs at = sent_too world right i sent text errs.1 at

-- and what came at a moment came at that of the other, at a reading that is no more
received_too : (world right : List Moment) (j received : ℕ) (bytes : List ℕ) → ErrsSafely world right → slice_get world j ≡ Some (Received received bytes) → (by_right : ℕ) × (slice_get right j ≡ Some (Received by_right bytes)) × (by_right ≤ received)
received_too [] right j received bytes errs at = absurd (none-some (Received received bytes) at)
received_too (moment ∷ world) [] j received bytes errs at = absurd errs
received_too (Received reading text ∷ world) (Received by_right same ∷ right) zero received bytes errs at =
    let now : reading ≡ received = cc in
    (by_right, cc (errs.0.1), omega arith)
received_too (Received reading text ∷ world) (Sent by_right same ∷ right) zero received bytes errs at = absurd errs.0
received_too (Sent reading text ∷ world) (moment ∷ right) zero received bytes errs at = absurd (cc)
received_too (moment ∷ world) (other ∷ right) (suc j) received bytes errs at = received_too world right j received bytes errs.1 at

pub bounded_too : SafeClocksAreBounded
bounded_too lag world right errs bounded i j sent received text bytes before sent_at_i received_at_j =
    let later = sent_too world right i sent text errs sent_at_i in
    let earlier = received_too world right j received bytes errs received_at_j in
    let within = bounded i j later.0 earlier.0 text bytes before later.1 earlier.1 in
    omega (arith, ints, within)

pub secure_too : SecurityCondition → SafeClocksAreSecure
secure_too secure cfg seeds world right log history joined errs bounded =
    (secure cfg seeds world log history joined).undisclosed (bounded_too cfg.lag world right errs bounded)
