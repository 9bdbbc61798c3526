use Rattle.tesla_follow.proofs.Epochs.{stands_new}
use Rattle.tesla_follow.proofs.epoch.OpenEpoch.open.Goals as goal

pub returns-clause-stands : goal.returns-clause-stands
returns-clause-stands c =
    stands_new (record { receiver = c.in_ok-receiver.receiver; promises = c.in_ok-promises.promises }) c.in_ok-receiver.ensures.stands c.in_ok-promises.ensures.most c.in_ok-promises.ensures.none
