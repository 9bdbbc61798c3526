use Rattle.tesla_frame.proofs.Both.{frame_takes, frame_again}
use Rattle.tesla_frame.proofs.Rising.{disclosed_rise}
use Rattle.tesla_frame.proofs.laws.frames.Goals as goal

pub returns-clause-found : goal.returns-clause-found
returns-clause-found c = frame_takes

pub returns-clause-only : goal.returns-clause-only
returns-clause-only c = frame_again

pub returns-clause-rise : goal.returns-clause-rise
returns-clause-rise c = disclosed_rise
