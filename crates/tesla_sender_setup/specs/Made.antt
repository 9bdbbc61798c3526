-- The setup that parameters and seeds make.
use Rattle.std.specs.Prelude.{ℕ, List, [], ◌∷◌}
use Rattle.tesla_base.specs.declared.names.Key.{Key}
use Rattle.tesla_commit.specs.Parts.{Parts}
use Rattle.tesla_commit.specs.declared.chain_row.ChainRow.{ChainRow}
use Rattle.tesla_prf.specs.Keys.{walk}
use Rattle.tesla_sender_setup.specs.Parameters.{StreamParameters}

-- the chains of a stream: of each its delay and its commitment, the key of index 0 where the seed is the key of index last
abbrev pub rows_of : ℕ → List ℕ → List Key → List ChainRow
rows_of last [] seeds = []
rows_of last (delay ∷ delays) [] = []
rows_of last (delay ∷ delays) (seed ∷ seeds) = record { delay = delay; index = 0; key = walk seed last } ∷ rows_of last delays seeds

-- the setup of the parameters, with these chains
abbrev pub setup_with : StreamParameters → List ChainRow → Parts
setup_with it rows = record { version = it.version; stream = it.stream; times = it.times; tag_length = it.tag_length; rows = rows }

-- the setup of the parameters, with the chains of these seeds
abbrev pub setup_made : StreamParameters → List Key → Parts
setup_made it seeds = setup_with it (rows_of it.times.last it.delays seeds)
