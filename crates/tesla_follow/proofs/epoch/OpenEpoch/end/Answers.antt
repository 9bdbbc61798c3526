use Rattle.std.proofs.Common.{refl, subst}
use Rattle.tesla_follow.specs.Followed.{ended_in}
use Rattle.tesla_follow.specs.Stands.{EpochStands, EpochState}
use Rattle.tesla_follow.proofs.Epochs.{stands_ended}
use Rattle.tesla_follow.proofs.epoch.OpenEpoch.end.Goals as goal

pub returns-clause-stands : goal.returns-clause-stands
returns-clause-stands c e =
    let i = c.self.inside in
    let before : EpochState = record { receiver = i.receiver; promises = i.promises } in
    let after : EpochState = record { receiver = c.end.new.self; promises = i.promises } in
    subst (λ (s : EpochState). EpochStands s e → EpochStands after (ended_in c.args.ingest e)) c.self.view_is
    (λ st. stands_ended before after e c.args.ingest st c.end.ensures.stands c.end.ensures.config refl)
