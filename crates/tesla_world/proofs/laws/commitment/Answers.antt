use Rattle.tesla_world.proofs.Commitments.{commits}
use Rattle.tesla_world.proofs.laws.commitment.Goals as goal

pub returns : goal.returns
returns c = commits c.prefixes.ensures.newest c.new_keys.ensures.taken c.new_keys.ensures.fresh
