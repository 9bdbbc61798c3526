-- Why a script is refused at a place, and what each kind is called.
use Rattle.std.specs.Prelude.{ℕ, List, codes}
use Rattle.tesla_capture.specs.declared.record.RecordKind.{RecordKind}
use Rattle.tesla_capture.specs.declared.record.RecordKind.TheVariants as files
use Rattle.tesla_run_send.specs.declared.script_kind.ScriptKind.{ScriptKind}
use Rattle.tesla_run_send.specs.declared.script_kind.ScriptKind.TheVariants.{BadHead, BadKind, Truncated, TooLong, TooLarge, Early, Over, Backward, IntervalFull}

-- the name of a kind, as it is printed
abbrev pub script_kind_name : ScriptKind → List ℕ
script_kind_name BadHead = codes "BadHead"
script_kind_name BadKind = codes "BadKind"
script_kind_name Truncated = codes "Truncated"
script_kind_name TooLong = codes "TooLong"
script_kind_name TooLarge = codes "TooLarge"
script_kind_name Early = codes "Early"
script_kind_name Over = codes "Over"
script_kind_name Backward = codes "Backward"
script_kind_name IntervalFull = codes "IntervalFull"

-- the kind of a file that is no script
abbrev pub script_kind_of : RecordKind → ScriptKind
script_kind_of files.BadHead = BadHead
script_kind_of files.BadKind = BadKind
script_kind_of files.Truncated = Truncated
script_kind_of files.TooLong = TooLong
script_kind_of files.TooLarge = TooLarge
