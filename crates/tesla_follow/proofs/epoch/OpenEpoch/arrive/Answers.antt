use Rattle.std.proofs.Common.{◌≡◌, Option, ap, subst, ◌∙◌}
use Rattle.tesla_frame.specs.Frame.{Frame}
use Rattle.tesla_early.specs.Early.{is_early}
use Rattle.tesla_early.specs.Kept.{candidate_in, is_promised_by}
use Rattle.tesla_follow.specs.Followed.{acceptance_with, arrival_in, arrived_in, most_promises}
use Rattle.tesla_follow.specs.Kept.{kept_by}
use Rattle.tesla_follow.specs.Stands.{EpochStands, EpochState}
use Rattle.tesla_follow.proofs.Epochs.{ArrivesIn, acceptance_arrived, placed_room, stands_arrived}
use Rattle.tesla_follow.proofs.epoch.OpenEpoch.arrive.Goals.{After-accept}
use Rattle.tesla_follow.proofs.epoch.OpenEpoch.arrive.Goals as goal

abbrev before : (g : _) (c : After-accept g) → EpochState
before g c = record { receiver = c.self.inside.receiver; promises = c.self.inside.promises }

abbrev after : (g : _) (c : After-accept g) → EpochState
after g c = record { receiver = c.arrive_read-verdict.new.self; promises = c.accept.new.promises }

arrives : (g : _) (c : After-accept g) → ArrivesIn (before g c) (after g c) c.args.ingest c.args.reading c.args.bytes.now c.args.room c.arrive_read-verdict.result c.accept.result
arrives g c =
    let i = c.self.inside in
    record {
      answer = c.arrive_read-verdict.ensures.answer;
      stands = c.arrive_read-verdict.ensures.stands;
      config = c.arrive_read-verdict.ensures.config;
      most = c.accept.ensures.most;
      accepts = c.accept.ensures.acceptance ∙ ap (λ (o : Option Frame). acceptance_with (is_promised_by i.promises.kept (candidate_in c.arrive_read-verdict.result o)) c.args.room) c.requires.read;
      kept = c.accept.ensures.kept ∙ ap (λ (o : Option Frame). kept_by c.accept.result i.promises.most i.promises.kept (candidate_in c.arrive_read-verdict.result o)) c.requires.read;
    }

pub returns-clause-acceptance : goal.returns-clause-acceptance
returns-clause-acceptance g c e =
    let at = (goal.at.returns-clause-acceptance g c).After-accept in
    subst (λ (s : EpochState). EpochStands s e → c.accept.result ≡ acceptance_with (is_early most_promises e.teaching (arrival_in e c.args.ingest c.args.reading c.args.bytes.now)) c.args.room) c.self.view_is
    (λ st. acceptance_arrived (before g at) (after g at) c.args.ingest c.args.reading c.args.bytes.now c.args.room c.arrive_read-verdict.result c.accept.result (arrives g at) e st)

pub returns-clause-stands : goal.returns-clause-stands
returns-clause-stands g c e =
    let at = (goal.at.returns-clause-stands g c).After-accept in
    subst (λ (s : EpochState). EpochStands s e → EpochStands (after g at) (arrived_in e c.accept.result (arrival_in e c.args.ingest c.args.reading c.args.bytes.now))) c.self.view_is
    (λ st. stands_arrived (before g at) (after g at) c.args.ingest c.args.reading c.args.bytes.now c.args.room c.arrive_read-verdict.result c.accept.result (arrives g at) e st)

pub returns-clause-placed : goal.returns-clause-placed
returns-clause-placed g c = placed_room _ c.args.room c.accept.result c.accept.ensures.acceptance
