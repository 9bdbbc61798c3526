use Rattle.tesla_world.proofs.Time.{time_bounds}
use Rattle.tesla_world.proofs.laws.time.Goals as goal

pub returns : goal.returns
returns c = time_bounds (λ t_s t_r drift lag judged. (c.lags.ensures.found t_s t_r drift lag judged).0)
