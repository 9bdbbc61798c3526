-- The names of the kinds of refused lines, as they are printed.
use Rattle.std.specs.Prelude.{ℕ, List, codes}
use Rattle.tesla_commit.specs.declared.refusal.SetupKind.{SetupKind}
use Rattle.tesla_commit.specs.declared.refusal.SetupKind.TheVariants.{BadLine, BadNumber, BadHex, NoChain, TooManyChains, DelaysNotRising, IndexPastLast, LimitPassed, TooLong}

-- the name of a kind
abbrev pub kind_name : SetupKind → List ℕ
kind_name BadLine = codes "BadLine"
kind_name BadNumber = codes "BadNumber"
kind_name BadHex = codes "BadHex"
kind_name NoChain = codes "NoChain"
kind_name TooManyChains = codes "TooManyChains"
kind_name DelaysNotRising = codes "DelaysNotRising"
kind_name IndexPastLast = codes "IndexPastLast"
kind_name LimitPassed = codes "LimitPassed"
kind_name TooLong = codes "TooLong"
