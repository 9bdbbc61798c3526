use Rattle.tesla_laws.proofs.Timely.{on_time}
use Rattle.tesla_laws.proofs.feeds.on_time.Goals as goal

pub returns : goal.returns
returns c = on_time
