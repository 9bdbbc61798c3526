use Rattle.std.proofs.Common.{◌≡◌, ◌≤◌, false, true, subst, length, Some}
use Rattle.std.specs.Prelude.{Option, not}
use Rattle.std.specs.List.{filter, list_any}
use Rattle.tesla_base.specs.declared.names.Place.{Place}
use Rattle.tesla_state.specs.Stored.{is_of, stands_at, waits}
use Rattle.tesla_state.proofs.Sweeping.{Sweeping, sweeping_none, sweeping_more, swept_through, swept_long, found_next, next_at, found_any}
use Rattle.tesla_state.proofs.store.Store.sweep_passed.Goals.{In-Some}
use Rattle.tesla_state.proofs.store.Store.sweep_passed.Goals as goal

pub loop-looked-init : goal.loop-looked-init
loop-looked-init c = sweeping_none c.args.self.now false c.args.interval (λ x. not (waits x)) c.first_of-next.result c.first_of-next.ensures

pub returns-in_default-clause-held : goal.returns-in_default-clause-held
returns-in_default-clause-held c =
    swept_through c.args.self.now c.loop-looked.self false c.args.interval (λ x. not (waits x)) c.loop-looked._looked c.loop-looked.next c.loop-looked.invariant c.in_default.is

-- the slot at which the sweep stands
sweeping : (c : In-Some) → Sweeping c.args.self.now c.loop-looked.self false c.args.interval (λ x. not (waits x)) c.loop-looked._looked (Some c.in-Some.place)
sweeping c = subst (λ (o : Option Place). Sweeping c.args.self.now c.loop-looked.self false c.args.interval (λ x. not (waits x)) c.loop-looked._looked o) c.in-Some.is c.loop-looked.invariant

-- and a packet stands there
there : (c : In-Some) → list_any (stands_at c.in-Some.place.0) c.loop-looked.self.held ≡ true
there c =
    let s = sweeping c in
    let first = (next_at c.args.self.now c.loop-looked.self false c.args.interval (λ x. not (waits x)) c.loop-looked._looked c.in-Some.place s).first in
    found_any c.in-Some.place.0 first c.loop-looked.self.held (found_next c.args.self.now c.loop-looked.self false c.args.interval (λ x. not (waits x)) c.loop-looked._looked c.in-Some.place c.requires s)

pub next_of-next-requires : goal.next_of-next-requires
next_of-next-requires c = there (goal.at.next_of-next-requires c).In-Some

pub let_go_resting-requires : goal.let_go_resting-requires
let_go_resting-requires c = there (goal.at.let_go_resting-requires c).In-Some

pub loop-looked-preserved : goal.loop-looked-preserved
loop-looked-preserved c =
    let s = sweeping (goal.at.loop-looked-preserved c).In-Some in
    sweeping_more c.args.self.now c.loop-looked.self c.let_go_resting.new.self false c.args.interval (λ x. not (waits x)) c.loop-looked._looked c.in-Some.place c.next_of-next.result c.requires s c.next_of-next.ensures
    c.let_go_resting.ensures.capacity c.let_go_resting.ensures.reserved c.let_go_resting.ensures.chains c.let_go_resting.ensures.waiting c.let_go_resting.ensures.given c.let_go_resting.ensures.held

pub returns-clause-held : goal.returns-clause-held
returns-clause-held c =
    let count : c.held_in-looked-end.result ≡ length (filter (is_of c.args.interval) c.args.self.now.held) = c.held_in-looked-end.ensures in
    let all : length (filter (is_of c.args.interval) c.args.self.now.held) ≤ c.loop-looked._looked = rw count at c.loop-looked-test.false in
    swept_long c.args.self.now c.loop-looked.self false c.args.interval (λ x. not (waits x)) c.loop-looked._looked c.loop-looked.next c.loop-looked.invariant all
