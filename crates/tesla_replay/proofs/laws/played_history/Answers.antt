use Rattle.tesla_replay.proofs.Playing.{played_legal, played_all}
use Rattle.tesla_replay.proofs.laws.played_history.Goals as goal

pub returns-clause-legal : goal.returns-clause-legal
returns-clause-legal c = played_legal

pub returns-clause-all : goal.returns-clause-all
returns-clause-all c = played_all
