-- Why a script isn't woven at a place, and what each kind is called.
use Rattle.std.specs.Prelude.{ℕ, List, codes}
use Rattle.tesla_capture.specs.declared.record.RecordKind.{RecordKind}
use Rattle.tesla_run_send.specs.ScriptKind.{script_kind_name, script_kind_of}
use Rattle.tesla_run_weave.specs.declared.weave_kind.WeaveKind.{WeaveKind}
use Rattle.tesla_run_weave.specs.declared.weave_kind.WeaveKind.TheVariants.{Script, LongBody}

-- the name of a kind, as it is printed
abbrev pub weave_kind_name : WeaveKind → List ℕ
weave_kind_name (Script kind) = script_kind_name kind
weave_kind_name LongBody = codes "LongBody"

-- the kind of a file that is no script
abbrev pub weave_kind_of : RecordKind → WeaveKind
weave_kind_of kind = Script (script_kind_of kind)
