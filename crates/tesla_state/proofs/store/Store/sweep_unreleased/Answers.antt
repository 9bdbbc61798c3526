use Rattle.std.proofs.Common.{◌≡◌, ◌≤◌, ◌&&◌, true, subst, length, Some}
use Rattle.std.specs.Prelude.{Option, not}
use Rattle.std.specs.List.{filter, list_all, list_any}
use Rattle.tesla_base.specs.declared.names.Place.{Place}
use Rattle.std.proofs.lemmas.Bool.{and_parts}
use Rattle.tesla_fitting.specs.Config.{chains}
use Rattle.tesla_state.specs.Steps.{is_over}
use Rattle.tesla_state.specs.Stored.{is_of, is_unreleased_of, stands_at}
use Rattle.tesla_state.proofs.Sweeping.{Sweeping, sweeping_none, sweeping_more, swept_through, swept_long, found_next, found_picked, next_at, found_stands}
use Rattle.tesla_state.proofs.store.Store.sweep_unreleased.Goals.{In-Some}
use Rattle.tesla_state.proofs.store.Store.sweep_unreleased.Goals as goal

pub loop-looked-init : goal.loop-looked-init
loop-looked-init c = sweeping_none c.args.self.now true c.args.interval (λ x. list_all (is_over c.args.tips.now x.holding) (chains c.args.config.now)) c.first_unreleased-next.result c.first_unreleased-next.ensures

pub returns-in_default-clause-held : goal.returns-in_default-clause-held
returns-in_default-clause-held c =
    swept_through c.args.self.now c.loop-looked.self true c.args.interval (λ x. list_all (is_over c.args.tips.now x.holding) (chains c.args.config.now)) c.loop-looked._looked c.loop-looked.next c.loop-looked.invariant c.in_default.is

-- the slot at which the sweep stands
sweeping : (c : In-Some) → Sweeping c.args.self.now c.loop-looked.self true c.args.interval (λ x. list_all (is_over c.args.tips.now x.holding) (chains c.args.config.now)) c.loop-looked._looked (Some c.in-Some.place)
sweeping c = subst (λ (o : Option Place). Sweeping c.args.self.now c.loop-looked.self true c.args.interval (λ x. list_all (is_over c.args.tips.now x.holding) (chains c.args.config.now)) c.loop-looked._looked o) c.in-Some.is c.loop-looked.invariant

-- and a packet that was not released stands there
there : (c : In-Some) → list_any (λ y. stands_at c.in-Some.place.0 y && not y.holding.released) c.loop-looked.self.held ≡ true
there c =
    let s = sweeping c in
    let first = (next_at c.args.self.now c.loop-looked.self true c.args.interval (λ x. list_all (is_over c.args.tips.now x.holding) (chains c.args.config.now)) c.loop-looked._looked c.in-Some.place s).first in
    found_stands c.in-Some.place.0 (λ y. not y.holding.released) first c.loop-looked.self.held (found_next c.args.self.now c.loop-looked.self true c.args.interval (λ x. list_all (is_over c.args.tips.now x.holding) (chains c.args.config.now)) c.loop-looked._looked c.in-Some.place c.requires.apart s)
    (and_parts (is_of c.args.interval first) (not first.holding.released) (found_picked c.args.self.now c.loop-looked.self true c.args.interval (λ x. list_all (is_over c.args.tips.now x.holding) (chains c.args.config.now)) c.loop-looked._looked c.in-Some.place c.requires.apart s)).1

pub next_unreleased-next-requires : goal.next_unreleased-next-requires
next_unreleased-next-requires c = there (goal.at.next_unreleased-next-requires c).In-Some

pub let_go_over-requires-clause-live : goal.let_go_over-requires-clause-live
let_go_over-requires-clause-live c = there (goal.at.let_go_over-requires-clause-live c).In-Some

pub loop-looked-preserved : goal.loop-looked-preserved
loop-looked-preserved c =
    let s = sweeping (goal.at.loop-looked-preserved c).In-Some in
    sweeping_more c.args.self.now c.loop-looked.self c.let_go_over.new.self true c.args.interval (λ x. list_all (is_over c.args.tips.now x.holding) (chains c.args.config.now)) c.loop-looked._looked c.in-Some.place c.next_unreleased-next.result c.requires.apart s c.next_unreleased-next.ensures
    c.let_go_over.ensures.capacity c.let_go_over.ensures.reserved c.let_go_over.ensures.chains c.let_go_over.ensures.waiting c.let_go_over.ensures.given c.let_go_over.ensures.held

pub returns-clause-held : goal.returns-clause-held
returns-clause-held c =
    let count : c.unreleased_in-looked-end.result ≡ length (filter (is_unreleased_of c.args.interval) c.args.self.now.held) = c.unreleased_in-looked-end.ensures in
    let all : length (filter (is_unreleased_of c.args.interval) c.args.self.now.held) ≤ c.loop-looked._looked = rw count at c.loop-looked-test.false in
    swept_long c.args.self.now c.loop-looked.self true c.args.interval (λ x. list_all (is_over c.args.tips.now x.holding) (chains c.args.config.now)) c.loop-looked._looked c.loop-looked.next c.loop-looked.invariant all
