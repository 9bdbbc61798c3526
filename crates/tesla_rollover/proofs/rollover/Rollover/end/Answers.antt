use Rattle.std.proofs.Common.{◌≡◌, ◌+◌, List, [], ◌∷◌, ◌++◌, sym, ap, subst, ◌∙◌, arith}
use Rattle.std.specs.List.{AllByRecursion}
use Rattle.tesla_rollover.specs.History.{RollEnded}
use Rattle.tesla_rollover.specs.Kept.{IsCalled, IsRollKept, configs_of, receivers_of, rooms_of}
use Rattle.tesla_rollover.specs.Stands.{RollState, RollStands, StandAll, histories_in, rooms_in}
use Rattle.tesla_rollover.specs.declared.epoch.Epoch.{Epoch}
use Rattle.tesla_rollover.proofs.Called.{epochs_back, kept_called}
use Rattle.tesla_rollover.proofs.Moved.{roll_ended}
use Rattle.tesla_rollover.proofs.rollover.Rollover.end.Goals as goal

pub end_all-requires : goal.end_all-requires
end_all-requires c =
    let few = c.self.invariant.few in
    (c.self.inside.calls + 256, omega (arith, few), subst (λ (es : List Epoch). AllByRecursion (IsCalled (c.self.inside.calls + 256)) es) (sym c.as_mut_slice.ensures.value) c.self.invariant.called)

pub invariant_of-self : goal.invariant_of-self
invariant_of-self c =
    let i = c.self.inside in
    let new = c.end_all.new.epochs in
    let was = c.as_mut_slice.ensures.value in
    let calls : i.calls ≡ c.args.self.now.calls = ap (λ (s : RollState). s.calls) c.self.view_is in
    let below = c.requires in
    let called = c.end_all.ensures.calls (i.calls + 256) (subst (λ (es : List Epoch). AllByRecursion (IsCalled (i.calls + 256)) es) (sym was) c.self.invariant.called) in
    subst (λ (es : List Epoch). IsRollKept i.config es i.epochs.cap i.given (i.calls + 1)) (sym (epochs_back i.epochs.len c.as_mut_slice.result.now new i.epochs.items c.as_mut_slice.ensures.len c.end_all.ensures.configs))
    (kept_called i.config i.epochs.items new i.epochs.cap i.given i.calls i.given c.self.invariant (omega (arith, calls, below)) (omega arith) (c.end_all.ensures.configs ∙ ap configs_of was) called)

pub returns-clause-stands : goal.returns-clause-stands
returns-clause-stands c h st =
    let i = c.self.inside in
    let new = c.end_all.new.epochs in
    let was = c.as_mut_slice.ensures.value in
    let old : RollState = record { config = i.config; receivers = receivers_of i.epochs.items; given = i.given; calls = i.calls } in
    let before : RollStands old h = subst (λ (s : RollState). RollStands s h) (sym c.self.view_is) st in
    let hs = histories_in i.config.ingests h in
    let stands = c.end_all.ensures.stand hs (subst (λ (es : List Epoch). StandAll (receivers_of es) hs) (sym was) before.receivers) in
    subst (λ (es : List Epoch). RollStands (record { config = i.config; receivers = receivers_of es; given = i.given; calls = i.calls + 1 }) (h ++ RollEnded c.args.ingest ∷ []))
    (sym (epochs_back i.epochs.len c.as_mut_slice.result.now new i.epochs.items c.as_mut_slice.ensures.len c.end_all.ensures.configs))
    (roll_ended old h c.args.ingest (receivers_of new) before (c.end_all.ensures.configs ∙ ap configs_of was) stands)

pub returns-clause-rooms : goal.returns-clause-rooms
returns-clause-rooms c =
    let i = c.self.inside in
    ap rooms_of (epochs_back i.epochs.len c.as_mut_slice.result.now c.end_all.new.epochs i.epochs.items c.as_mut_slice.ensures.len c.end_all.ensures.configs)
    ∙ c.end_all.ensures.rooms ∙ ap rooms_of c.as_mut_slice.ensures.value ∙ ap (λ (s : RollState). rooms_in s) c.self.view_is
