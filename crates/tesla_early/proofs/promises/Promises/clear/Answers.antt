use Rattle.tesla_early.proofs.Cleared.{each_there, ring_cleared}
use Rattle.tesla_early.proofs.promises.Promises.clear.Goals as goal

pub take_out-requires : goal.take_out-requires
take_out-requires c = let i = c.self.inside in each_there i.most i.count i.next i.buckets i.slots.items c.self.invariant

pub invariant_of-self : goal.invariant_of-self
invariant_of-self c = let i = c.self.inside in ring_cleared i.most i.count i.next i.buckets i.slots.items c.self.invariant c.take_out.new.buckets c.take_out.ensures.slot_count c.take_out.ensures.lists
