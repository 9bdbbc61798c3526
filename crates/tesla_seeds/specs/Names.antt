-- The names of the kinds of refused seeds, as they are printed.
use Rattle.std.specs.Prelude.{ℕ, List, codes}
use Rattle.tesla_seeds.specs.declared.refusal.SeedsKind.{SeedsKind}
use Rattle.tesla_seeds.specs.declared.refusal.SeedsKind.TheVariants.{BadLine, BadHex, WrongCount, TooLong}

-- the name of a kind
abbrev pub seeds_kind_name : SeedsKind → List ℕ
seeds_kind_name BadLine = codes "BadLine"
seeds_kind_name BadHex = codes "BadHex"
seeds_kind_name WrongCount = codes "WrongCount"
seeds_kind_name TooLong = codes "TooLong"
