use Rattle.std.proofs.Common.{◌≡◌, ◌+◌, ◌*◌, ◌≤◌, length, take, None}
use Rattle.std.specs.Prelude.{All, find, count_by}
use Rattle.tesla_fitting.specs.Config.{chains}
use Rattle.tesla_walks.specs.ItemShown.{holding_in}
use Rattle.tesla_walks.specs.Proved.{proves_on}
use Rattle.tesla_walks.specs.Walking.{rows_of, IsAbove, left, is_tried}
use Rattle.tesla_walks.proofs.proving.proving_chain.Given as goal

-- no chain so far proves the item, and the walks have cost no more than the item was tried
abbrev pub invariant-loop-chain : goal.invariant-loop-chain
invariant-loop-chain g l =
    let shown = holding_in (length l.config.setup.rows) l.item in
    (find (proves_on l.config l.tips (rows_of l.initial.walks) shown) (take l.chain (chains l.config)) ≡ None)
    × (rows_of l.walks ≡ rows_of l.initial.walks)
    × All (IsAbove l.item.name.interval) l.walks
    × (l.steps + left l.tips l.walks ≤ l.initial.steps + left l.tips l.initial.walks + 2 * count_by (is_tried l.tips (rows_of l.initial.walks) shown) (take l.chain (chains l.config)))
