use Rattle.std.proofs.Common.{true, false, sym, subst}
use Rattle.tesla_state.specs.State.{State}
use Rattle.tesla_rollover.specs.Kept.{OpensEpoch}
use Rattle.tesla_rollover.proofs.Opened.{first_is, next_is}
use Rattle.tesla_rollover.proofs.opening.open_next.Goals as goal

pub returns-then-is_some-clause-next : goal.returns-then-is_some-clause-next
returns-then-is_some-clause-next c =
    next_is c.args.epochs.now.items c.as_slice.result.now c.in-Ok.setup c.stream-stream.result _ c.epoch_of.result _ true c.as_slice.ensures.value c.stream-stream.ensures c.in-Ok.ensures.exact c.epoch_of.ensures c.if-is_some.ensures

pub returns-in-Ok-open_epoch-clause-next : goal.returns-in-Ok-open_epoch-clause-next
returns-in-Ok-open_epoch-clause-next c =
    next_is c.args.epochs.now.items c.as_slice.result.now c.in-Ok.setup c.stream-stream.result _ c.epoch_of.result _ true c.as_slice.ensures.value c.stream-stream.ensures c.in-Ok.ensures.exact c.epoch_of.ensures c.if-is_some.ensures

pub returns-in-Err-clause-next : goal.returns-in-Err-clause-next
returns-in-Err-clause-next c =
    next_is c.args.epochs.now.items c.as_slice.result.now c.in-Ok.setup c.stream-stream.result _ c.epoch_of.result _ false c.as_slice.ensures.value c.stream-stream.ensures c.in-Ok.ensures.exact c.epoch_of.ensures c.if-is_some.ensures

pub returns-in-Ok-open_epoch-clause-opened : goal.returns-in-Ok-open_epoch-clause-opened
returns-in-Ok-open_epoch-clause-opened c = λ first rest receivers opened. (
  c.in-Ok.setup,
  c.in-Ok-open_epoch.epoch,
  c.in-Ok.ensures.exact,
  c.push_reserved.ensures.items,
  subst (λ (own : State). OpensEpoch c.args.config.now own c.in-Ok.setup c.in-Ok-open_epoch.epoch)
      (first_is c.args.epochs.now.items c.index.result.now first rest (sym c.index.ensures) receivers) c.in-Ok-open_epoch.ensures,
)
