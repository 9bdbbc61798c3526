use Rattle.std.proofs.Common.{◌+◌, ◌<◌, ◌^◌, List, ℕ, get_or, sym, subst}
use Rattle.tesla_follow_station.proofs.by_chain.by_chain_with.Goals as goal

pub raise-requires : goal.raise-requires
raise-requires c k = subst (λ (by_chain : List ℕ). get_or by_chain k 0 + 1 < 2 ^ 64) (sym c.by_chain_in-by_chain.ensures) (c.requires k)
