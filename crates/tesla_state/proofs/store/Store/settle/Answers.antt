use Rattle.tesla_state.proofs.Stored.{proved_rests}
use Rattle.tesla_state.proofs.store.Store.settle.Goals as goal

pub discard-requires : goal.discard-requires
discard-requires c = proved_rests c.args.proved.now c.args.self.now.held c.requires
