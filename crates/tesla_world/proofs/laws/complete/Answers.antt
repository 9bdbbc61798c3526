-- The honest completeness, from the receiver's laws of kept packets, new keys and proved packets.
use Rattle.tesla_world.proofs.Completeness.{complete}
use Rattle.tesla_world.proofs.laws.complete.Goals as goal

pub returns : goal.returns
returns c = complete c.kept.ensures c.new_keys.ensures.taken c.new_keys.ensures.rises c.proved.ensures
