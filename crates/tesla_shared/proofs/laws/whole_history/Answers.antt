use Rattle.tesla_shared.proofs.Whole.{is_whole, whole_size}
use Rattle.tesla_shared.proofs.laws.whole_history.Goals as goal

pub returns-clause-workers : goal.returns-clause-workers
returns-clause-workers g c links sinks are = (is_whole c.args.last.now.history c.args.last.now.passes links sinks are c.requires.calls).workers

pub returns-clause-arrivals : goal.returns-clause-arrivals
returns-clause-arrivals g c links sinks are = (is_whole c.args.last.now.history c.args.last.now.passes links sinks are c.requires.calls).arrivals

pub returns-clause-replies : goal.returns-clause-replies
returns-clause-replies g c links sinks are = (is_whole c.args.last.now.history c.args.last.now.passes links sinks are c.requires.calls).replies

pub returns-clause-ended : goal.returns-clause-ended
returns-clause-ended g c links sinks are ingest low =
    let whole = is_whole c.args.last.now.history c.args.last.now.passes links sinks are c.requires.calls in
    (whole.ended ingest low, whole.ended_once ingest low)

pub returns-clause-size : goal.returns-clause-size
returns-clause-size g c links sinks are = whole_size c.args.last.now.history c.args.last.now.passes links sinks are c.requires.calls
