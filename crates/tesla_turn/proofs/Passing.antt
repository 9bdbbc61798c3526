-- A pass that gives a further one, and a pass that takes one in.
use Rattle.std.proofs.Common.{◌≡◌, ◌≢◌, ℕ, zero, suc, ◌+◌, ◌-◌, ◌*◌, ◌<◌, ◌≤◌, Bool, true, false, [], ◌∷◌, length, None, refl, ap, ◌∙◌, arith, suc-mul, length-append}
use Rattle.tesla_turn.specs.Steps.{Mine, gave_pass, new_view}
use Rattle.tesla_turn.specs.Passes.{IsPass, closing}

-- who has room has the tickets of one pass more
pub enough_tickets : (left room calls k : ℕ) → room ≢ 0 → calls ≤ left + room * calls + k
enough_tickets left zero calls k some_room = absurd (some_room refl)
enough_tickets left (suc n) calls k some_room = let m = suc-mul n calls in let p : ℕ = n * calls in omega arith

-- room for one pass less
less_room : (left room calls k : ℕ) → room ≢ 0 → left + room * calls + k - calls ≡ left + (room - 1) * calls + k
less_room left zero calls k some_room = absurd (some_room refl)
less_room left (suc n) calls k some_room = let m = suc-mul n calls in let e : suc n - 1 ≡ n = omega arith in rw (e, m) (let p : ℕ = n * calls in omega arith)

module _ {V C E : Type 0} where
  -- who has room is the first pass
  pub room_is_first : (me : Mine V C E) (left room calls : ℕ) (first : Bool) → IsPass me left room calls first → room ≢ 0 → first ≡ true
  room_is_first me left room calls true p some_room = refl
  room_is_first me left room calls false p some_room = absurd (some_room (p.first_is.1 refl).1)

  pub first_number : (me : Mine V C E) (left room calls : ℕ) (first : Bool) → IsPass me left room calls first → room ≢ 0 → (me.0.number ≡ 0) × (0 < length me.0.joined)
  first_number me left room calls first p some_room = p.first_is.0 (room_is_first me left room calls first p some_room)

  pub room_tickets : (me : Mine V C E) (left room calls : ℕ) (first : Bool) → IsPass me left room calls first → room ≢ 0 → me.0.calls ≤ me.0.tickets
  room_tickets me left room calls first p some_room = let t = p.tickets in let n = p.numbers.1 in let e = enough_tickets left room calls (closing first) some_room in omega arith

  -- the pass that gave one
  pub gave_is_pass : (me : Mine V C E) (left room calls : ℕ) (first : Bool) → IsPass me left room calls first → room ≢ 0 → IsPass {V = V} (gave_pass me.0, me.1) left (room - 1) calls first
  gave_is_pass me left room calls first p some_room = record {
    idle = p.idle;
    live = p.live;
    numbers = (ap (λ k. k - 1) p.numbers.0, p.numbers.1);
    left_is = p.left_is;
    tickets = (λ i. p.tickets i - p.numbers.1 i) ∙ less_room left room calls (closing first) some_room;
    first_is = ((λ e. let f = p.first_is.0 e in let n = length-append me.0.joined (None ∷ []) in (f.0, omega arith)), (λ e. absurd (some_room (p.first_is.1 e).1)));
  }

  -- the pass that was given
  pub new_is_pass : (me : Mine V C E) (left room calls : ℕ) (first : Bool) → IsPass me left room calls first → room ≢ 0 → IsPass {V = V} (new_view me.0, []) calls 0 calls false
  new_is_pass me left room calls first p some_room = let some_joined = (first_number me left room calls first p some_room).1 in record {
    idle = (refl, refl);
    live = p.live;
    numbers = (refl, p.numbers.1);
    left_is = omega arith;
    tickets = p.numbers.1 ∙ (let z : calls ≡ calls + 0 * calls + 0 = grind arith in z);
    first_is = ((λ e. absurd cc), (λ _. ((λ z. omega arith), refl)));
  }
