-- The delivery, from the laws of frames, and the receiver's of what stays released, of kept packets, new keys and proved packets.
use Rattle.tesla_world.proofs.Delivery.{delivered}
use Rattle.tesla_world.proofs.laws.delivered.Goals as goal

pub returns : goal.returns
returns c = delivered c.frames.ensures.only c.prefixes.ensures.released c.kept.ensures c.new_keys.ensures.taken c.new_keys.ensures.rises c.proved.ensures
