use Rattle.std.proofs.Common.{rules, ◌≢◌, ◌-◌, false, sym, subst}
use Rattle.tesla_turn.specs.Steps.{Mine}
use Rattle.tesla_turn.specs.Passes.{IsPass}
use Rattle.tesla_turn.proofs.StepsKept.{splits}
use Rattle.tesla_turn.proofs.Passing.{first_number, room_tickets, gave_is_pass, new_is_pass}
use Rattle.tesla_turn.proofs.turn.Turn.split.Goals as goal

pub split_seat-seat-requires : goal.split_seat-seat-requires
split_seat-seat-requires g c = let p = c.pass.invariant in let some_room : c.pass.inside.room ≢ 0 = c.if-pass-eq0.false in
    (search rules, search rules, splits g.V.Chronicle.config g.V.Chronicle.stands g.V.Permitting.permits _ _ _ _ p.live.0 p.live.1 (first_number _ _ _ _ _ p some_room).0 p.idle.0 (room_tickets _ _ _ _ _ p some_room))

pub invariant_of-result : goal.invariant_of-result
invariant_of-result g c = let some_room : c.pass.inside.room ≢ 0 = c.if-pass-eq0.false in let p = c.pass.inside in
    subst (λ (m : Mine g.row.V.Denot g.row.V-Config.Denot g.row.V-Entry.Denot). IsPass m p.calls 0 p.calls false) (sym c.split_seat-seat.ensures.4) (new_is_pass _ _ _ _ _ c.pass.invariant some_room)

pub invariant_of-pass : goal.invariant_of-pass
invariant_of-pass g c = let some_room : c.pass.inside.room ≢ 0 = c.if-pass-eq0.false in let p = c.pass.inside in
    subst (λ (m : Mine g.row.V.Denot g.row.V-Config.Denot g.row.V-Entry.Denot). IsPass m p.left (p.room - 1) p.calls p.first) (sym c.split_seat-seat.ensures.2) (gave_is_pass _ _ _ _ _ c.pass.invariant some_room)
