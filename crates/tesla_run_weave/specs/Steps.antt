-- What the inner steps of weave come to.
use Rattle.std.specs.Prelude.{◌≡◌, ◌⊎◌, ℕ, ◌≤◌, suc, Bool, true, false, Option, Some, None, Result, Ok, Err, IfErr, List, [], ◌∷◌, ◌++◌}
use Rattle.tesla_base.specs.declared.names.Name.{Name}
use Rattle.tesla_capture.specs.Records.{outline_of}
use Rattle.tesla_capture.specs.Script.{Record, Sends, Discloses, record_text, script, script_text}
use Rattle.tesla_commit.specs.Parts.{Parts}
use Rattle.tesla_convert.specs.Rule.{made}
use Rattle.tesla_convert.specs.declared.converter.Converted.{Converted}
use Rattle.tesla_convert.specs.declared.converter.Converted.TheVariants.{Whole, Refused, WriteFault, NoMemory}
use Rattle.tesla_desk.specs.Faults.{HasCausesBeside}
use Rattle.tesla_desk.specs.Outside.{AppendsPrefix, OfSink, OfSource, Page, Told, with_bytes}
use Rattle.tesla_front.specs.OutcomeView as outcome_views
use Rattle.tesla_front.specs.OutcomeView.{OutcomeView, Failed, stop_view}
use Rattle.tesla_front.specs.Files.{HoldsWhere}
use Rattle.tesla_front.specs.Openings.{AnyFailed, Opens, file_told}
use Rattle.tesla_front.specs.declared.fault.Fault.TheVariants as faults
use Rattle.tesla_front.specs.declared.refusal.Stop.{Stop}
use Rattle.tesla_early.specs.Woven.{woven}
use Rattle.tesla_sender.specs.Made.{Call}
use Rattle.tesla_sender.specs.Names.{NamesAfter, Naming}
use Rattle.tesla_run_weave.specs.Arguments.{WeaveArguments}
use Rattle.tesla_run_weave.specs.Plan.{Planned, filled, plan_of}
use Rattle.tesla_run_weave.specs.Rule.{Answer, Named, Accepted, Undue, Refuses, log_of, rule_of}
use Rattle.tesla_run_weave.specs.Weave.{IsRefusedAt, StopsAtScript, StopsReading, WeavesScript}
use Rattle.tesla_run_weave.specs.declared.plan.Slot.{Slot}
use Rattle.tesla_run_weave.specs.declared.plan.Slot.TheVariants.{Message, Disclosure}
use Rattle.tesla_run_weave.specs.declared.weave_kind.WeaveKind.{WeaveKind}

-- ---- one record

-- what was judged of a message
abbrev pub message_judged : Result Name WeaveKind → Answer
message_judged (Ok name) = Named name
message_judged (Err kind) = Refuses kind

-- what was judged of a disclosure: whether it is accepted, or why it is refused
abbrev pub disclosure_judged : Result Bool WeaveKind → Answer
disclosure_judged (Ok true) = Accepted
disclosure_judged (Ok false) = Undue
disclosure_judged (Err kind) = Refuses kind

-- the log behind a call that was judged so
abbrev pub log_judged : Bool → Call → List Call → List Call
log_judged true call log = log ++ call ∷ []
log_judged false call log = log

-- these records of a script were read: the namer names what comes after their calls, and this is kept of them
pub record HasCollected (setup : Parts) (namer : Naming) (plan : Planned) (records : List Record) : Type 0 where
  pub under : namer.setup ≡ setup
  pub names : NamesAfter namer (log_of setup records)
  pub plan_is : plan ≡ plan_of setup records

-- a record behind these was taken: it is kept, or it is refused, or memory was wanting
abbrev pub Collects : Parts → Naming → Planned → List Record → Record → Converted WeaveKind → Type 0
Collects setup namer plan before first Whole = ((rule_of setup).refuses before first ≡ None) × HasCollected setup namer plan (before ++ first ∷ [])
Collects setup namer plan before first (Refused kind) = (rule_of setup).refuses before first ≡ Some kind
Collects setup namer plan before first WriteFault = ⊥
Collects setup namer plan before first NoMemory = (rule_of setup).refuses before first ≡ None

-- where memory was wanting, what was held is written, or a write failed; else nothing has changed
abbrev pub Settles : Converted WeaveKind → Converted WeaveKind → Option (List ℕ) → Option (List ℕ) → List ℕ → List ℕ → Type 0
Settles NoMemory NoMemory before now held rest = (now ≡ with_bytes before held) × (rest ≡ [])
Settles NoMemory WriteFault before now held rest = AppendsPrefix before now held
Settles NoMemory _ before now held rest = ⊥
Settles outcome settled before now held rest = (settled ≡ outcome) × (now ≡ before) × (rest ≡ held)

-- ---- a script that is read

-- nothing of the script is refused, and this is kept of it
pub record IsRead (setup : Parts) (bytes : List ℕ) (plan : Planned) : Type 0 where
  pub whole : (made script WeaveKind (rule_of setup) bytes).refused ≡ None
  pub plan_is : plan ≡ plan_of setup (outline_of script bytes).records

-- the same of the script on a page, where it is told
abbrev pub IsReadIn : Parts → Page → Planned → Type 0
IsReadIn setup page plan = HoldsWhere page (λ bytes. IsRead setup bytes plan)

-- why nothing is kept of a script with these bytes
abbrev pub IsNoText : Parts → List ℕ → Option (List ℕ) → OutcomeView → Type 0
IsNoText setup bytes left (outcome_views.Refused status line) = IsRefusedAt setup bytes (outcome_views.Refused status line)
IsNoText setup bytes left (Failed faults.Read) = StopsReading setup bytes left
IsNoText setup bytes left _ = Unit {0}

-- what reading a script with these bytes comes to, with what is left of it
abbrev pub ReadsTo : Parts → List ℕ → Option (List ℕ) → Result Planned Stop → Type 0
ReadsTo setup bytes left (Ok plan) = IsRead setup bytes plan
ReadsTo setup bytes left (Err stop) = IsNoText setup bytes left (stop_view stop)

-- reading a script that is open stops only at a refused place, at a failed read or for want of memory
abbrev pub MayStop : OutcomeView → Type 0
MayStop (outcome_views.Refused status line) = Unit {0}
MayStop (Failed faults.Read) = Unit {0}
MayStop (Failed faults.NoMemory) = Unit {0}
MayStop _ = ⊥

abbrev pub IsReadSource : Result Planned Stop → Type 0
IsReadSource result = IfErr result (λ stop. MayStop (stop_view stop))

-- ---- a script that is written

-- what is written of a record, told the payloads of the messages from there on
abbrev pub slot_text : Slot → List (List ℕ) → List ℕ
slot_text (Message reading) [] = []
slot_text (Message reading) (payload ∷ payloads) = record_text (Sends reading payload)
slot_text (Disclosure reading) payloads = record_text (Discloses reading)

-- the payloads of the messages behind it
abbrev pub payloads_behind : Slot → List (List ℕ) → List (List ℕ)
payloads_behind (Message reading) [] = []
payloads_behind (Message reading) (payload ∷ payloads) = payloads
payloads_behind (Disclosure reading) payloads = payloads

-- of a whole text a front was written behind what was there, then come the bytes that are held, and this rest
pub record IsPutTo (whole : List ℕ) (before now : Option (List ℕ)) (held rest : List ℕ) : Type 0 where
  pub done : List ℕ
  pub written : now ≡ with_bytes before done
  pub parts : whole ≡ done ++ (held ++ rest)

-- the script of a plan with woven payloads
abbrev pub plan_text : ℕ → Planned → List ℕ
plan_text gap plan = script_text (filled plan.slots (woven gap plan.names plan.bodies))

-- the output was asked for, or not; where memory was wanting it wasn't
pub record OpensOut (name : List ℕ) (old new : Told) (wanting : Type 0) : Type 0 where
  pub opened : ℕ
  pub few : opened ≤ 1
  pub opens : Opens (OfSink name ∷ []) opened old new
  pub unasked : wanting → opened ≡ 0

-- ---- the files

-- under a setup that was found and was opened before, the script was read, and then woven and written
pub record WeavesFiles (arguments : WeaveArguments) (setup : Parts) (old new : Told) (outcome : OutcomeView) : Type 0 where
  pub opened : ℕ
  pub opens : Opens (OfSource arguments.script ∷ OfSink arguments.out ∷ []) opened old new
  pub does : StopsAtScript setup (file_told old arguments.script) (file_told new arguments.script) (old.page arguments.out) (new.page arguments.out) (suc opened) outcome
      ⊎ WeavesScript setup arguments.gap (old.page arguments.script) (old.page arguments.out) (new.page arguments.out) (suc opened) outcome
  pub counts : HasCausesBeside ((outcome ≡ Failed faults.Read) × AnyFailed (OfSink arguments.out ∷ []) new) old.faults new.faults (outcome ≡ Failed faults.Read) (outcome ≡ Failed faults.Write) (outcome ≡ Failed faults.Open)
