-- What a receiver is set up with, chain by chain.
use Rattle.std.specs.Prelude.{ℕ, List, length, get_or, replicate}
use Rattle.std.specs.List.{range_with_len}
use Rattle.tesla_commit.specs.declared.chain_row.ChainRow.{ChainRow}
use Rattle.tesla_fitting.specs.declared.config.Config.{Config}

-- the numbers of the stream's key chains
abbrev pub chains : Config → List ℕ
chains cfg = range_with_len 0 (length cfg.setup.rows)

-- what stands for a chain that the setup doesn't have
abbrev pub no_row : ChainRow
no_row = record { delay = 0; index = 0; key = record { 0 = replicate 32 0 } }

-- the commitment and delay of a chain
abbrev pub chain_row : Config → ℕ → ChainRow
chain_row cfg chain = get_or cfg.setup.rows chain no_row
