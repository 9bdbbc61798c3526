use Rattle.std.proofs.Common.{◌≡◌, length, ap, subst, ◌∙◌}
use Rattle.tesla_receiver.specs.Undelivered.{undelivered_in}
use Rattle.tesla_follow.specs.Stands.{EpochStands, EpochState}
use Rattle.tesla_follow.proofs.Opened.{begun_stands, lost_are}
use Rattle.tesla_follow.proofs.epoch.OpenEpoch.begin.Goals as goal

pub returns-clause-dropped : goal.returns-clause-dropped
returns-clause-dropped c e =
    let i = c.self.inside in
    subst (λ (s : EpochState). EpochStands s e → c.reopen-dropped.result ≡ undelivered_in e.config e.history) c.self.view_is
    (λ st. lost_are (record { receiver = i.receiver; promises = i.promises }) e c.reopen-dropped.result st c.reopen-dropped.ensures.dropped)

pub returns-clause-stands : goal.returns-clause-stands
returns-clause-stands c most =
    begun_stands (record { receiver = c.end_each.new.receiver; promises = c.clear.new.self }) (length c.args.flags.now) c.args.flags.now (c.end_each.ensures.stands c.reopen-dropped.ensures.stands)
    (c.clear.ensures.most ∙ ap (λ (s : EpochState). s.promises.most) c.self.view_is ∙ most) c.clear.ensures.none
