-- Which records of a script are refused, and the names of its messages. Each record is judged behind those before it.
use Rattle.std.specs.Prelude.{ℕ, List, [], ◌∷◌, ◌++◌, length, Option, Some, None, Result, Ok, Err, nat_lt, if◌then◌else◌}
use Rattle.std.specs.List.{flat_map}
use Rattle.tesla_base.specs.declared.names.Name.{Name}
use Rattle.tesla_base.specs.declared.version.Version.TheVariants.{One}
use Rattle.tesla_capture.specs.Script.{Record, Sends, Discloses, script}
use Rattle.tesla_commit.specs.Parts.{Parts}
use Rattle.tesla_convert.specs.Rule.{Rule}
use Rattle.tesla_run_send.specs.Script.{call_of, message_kind}
use Rattle.tesla_run_send.specs.declared.script_kind.ScriptKind.TheVariants as scripts
use Rattle.tesla_sender.specs.Made.{Call, name_of}
use Rattle.tesla_sender.specs.Names.{disclosed_of}
use Rattle.tesla_sender.specs.declared.refusal.DiscloseRefusal.{DiscloseRefusal}
use Rattle.tesla_sender.specs.declared.refusal.DiscloseRefusal.TheVariants as undisclosed
use Rattle.tesla_sender.specs.declared.refusal.SendRefusal.{SendRefusal}
use Rattle.tesla_run_weave.specs.WeaveKind.{weave_kind_of}
use Rattle.tesla_run_weave.specs.declared.weave_kind.WeaveKind.{WeaveKind}
use Rattle.tesla_run_weave.specs.declared.weave_kind.WeaveKind.TheVariants.{Script, LongBody}

-- ---- one record

-- what a record comes to: the name of a message, a disclosure that is accepted, one with nothing due, or a refusal
pub data Answer : Type 0 where
  Named : Name → Answer
  Accepted : Answer
  Undue : Answer
  Refuses : WeaveKind → Answer

-- a message that has a name is refused where its body is too long for a promise before it
abbrev pub message_answer : List ℕ → Result Name SendRefusal → Answer
message_answer body (Ok name) = if nat_lt 1161 (length body) then Refuses LongBody else Named name
message_answer body (Err refusal) = Refuses (Script (message_kind refusal))

-- a disclosure with nothing due isn't refused
abbrev pub disclosure_answer : Result ℕ DiscloseRefusal → Answer
disclosure_answer (Ok interval) = Accepted
disclosure_answer (Err (undisclosed.Backward interval)) = Refuses (Script scripts.Backward)
disclosure_answer (Err undisclosed.NothingDue) = Undue

-- what a record comes to after the calls that were accepted, without a seed
abbrev pub answer_to : Parts → List Call → Record → Answer
answer_to setup log (Sends reading body) = message_answer body (name_of setup.times log reading body)
answer_to setup log (Discloses reading) = disclosure_answer (disclosed_of setup log reading)

-- why a record is refused
abbrev pub refusal_of : Answer → Option WeaveKind
refusal_of (Refuses kind) = Some kind
refusal_of _ = None

-- the calls that were accepted, once a record was answered so
abbrev pub log_with : Answer → Record → List Call → List Call
log_with (Named name) first log = log ++ call_of first ∷ []
log_with Accepted first log = log ++ call_of first ∷ []
log_with Undue first log = log
log_with (Refuses kind) first log = log

-- the name of a message
abbrev pub name_in : Answer → List Name
name_in (Named name) = name ∷ []
name_in _ = []

-- ---- all records

-- the calls of these records that are accepted, behind those of a log
abbrev pub log_behind : Parts → List Call → List Record → List Call
log_behind setup log [] = log
log_behind setup log (first ∷ records) = log_behind setup (log_with (answer_to setup log first) first log) records

-- the names of the messages of these records, behind the calls of a log
abbrev pub names_behind : Parts → List Call → List Record → List Name
names_behind setup log [] = []
names_behind setup log (first ∷ records) = name_in (answer_to setup log first) ++ names_behind setup (log_with (answer_to setup log first) first log) records

-- the body of a message
abbrev pub body_in : Record → List (List ℕ)
body_in (Sends reading body) = body ∷ []
body_in (Discloses reading) = []

-- the calls of the records of a script that are accepted, and the names and the bodies of its messages
abbrev pub log_of : Parts → List Record → List Call
log_of setup records = log_behind setup [] records

abbrev pub names_of : Parts → List Record → List Name
names_of setup records = names_behind setup [] records

abbrev pub bodies_of : List Record → List (List ℕ)
bodies_of records = flat_map body_in records

-- which records of a script are refused; nothing is written while it is read
abbrev pub rule_of : Parts → Rule script WeaveKind
rule_of setup = record {
  begins = [];
  refuses = λ before first. refusal_of (answer_to setup (log_of setup before) first);
  adds = λ before first. [];
  ends = λ before. [];
  kind_of = weave_kind_of;
}

-- a setup without a chain
abbrev pub no_setup : Parts
no_setup = record { version = One; stream = record { 0 = 0 }; times = record { start = 0; length = 0; last = 0 }; tag_length = 0; rows = [] }
