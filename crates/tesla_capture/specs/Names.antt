-- The names of the kinds of refused records, as they are printed.
use Rattle.std.specs.Prelude.{ℕ, List, codes}
use Rattle.tesla_capture.specs.declared.record.RecordKind.{RecordKind}
use Rattle.tesla_capture.specs.declared.record.RecordKind.TheVariants.{BadHead, BadKind, Truncated, TooLong, TooLarge}

-- the name of a kind
abbrev pub kind_name : RecordKind → List ℕ
kind_name BadHead = codes "BadHead"
kind_name BadKind = codes "BadKind"
kind_name Truncated = codes "Truncated"
kind_name TooLong = codes "TooLong"
kind_name TooLarge = codes "TooLarge"
