-- The names of the kinds of refused entries, as they are printed.
use Rattle.std.specs.Prelude.{ℕ, List, codes}
use Rattle.tesla_trace.specs.declared.kind.TraceKind.{TraceKind}
use Rattle.tesla_trace.specs.declared.kind.TraceKind.TheVariants.{BadHead, BadKind, Truncated, TooLong, TooLarge, BadCode}

-- the name of a kind
abbrev pub kind_name : TraceKind → List ℕ
kind_name BadHead = codes "BadHead"
kind_name BadKind = codes "BadKind"
kind_name Truncated = codes "Truncated"
kind_name TooLong = codes "TooLong"
kind_name TooLarge = codes "TooLarge"
kind_name BadCode = codes "BadCode"
