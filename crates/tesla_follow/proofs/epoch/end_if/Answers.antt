use Rattle.std.proofs.Common.{Bool, sym, subst}
use Rattle.tesla_receiver.specs.Stands.{Stands}
use Rattle.tesla_follow.specs.Kept.{ends_if}
use Rattle.tesla_follow.proofs.epoch.end_if.Goals as goal

pub returns-then-flag-clause-stands : goal.returns-then-flag-clause-stands
returns-then-flag-clause-stands c h st = subst (λ (b : Bool). Stands c.end.new.self (ends_if b c.args.ingest h)) (sym c.if-flag.true) (c.end.ensures.stands h st)

pub returns-else-flag-clause-stands : goal.returns-else-flag-clause-stands
returns-else-flag-clause-stands c h st = subst (λ (b : Bool). Stands c.args.receiver.now (ends_if b c.args.ingest h)) (sym c.if-flag.false) st
