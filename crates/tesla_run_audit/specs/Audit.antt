-- What audit comes to, by the bytes of a trace.
use Rattle.std.specs.Prelude.{◌≡◌, ◌≢◌, ◌⊎◌, ℕ, ◌≤◌, Bool, Option, Some, None, unwrap_or, List, [], ◌∷◌, ◌++◌, length, codes, decimal}
use Rattle.tesla_commit.specs.Parts.{Parts}
use Rattle.tesla_convert.specs.Meaning.{StopsAtSetup}
use Rattle.tesla_desk.specs.Outside.{Page, Absent, Holds}
use Rattle.tesla_fitting.specs.declared.config.Config.{Config}
use Rattle.tesla_front.specs.OutcomeView.{OutcomeView, Done, Refused, Failed}
use Rattle.tesla_front.specs.Command.{Command}
use Rattle.tesla_front.specs.Lines.{count_line}
use Rattle.tesla_front.specs.Openings.{File}
use Rattle.tesla_front.specs.Refusal.{refused_line}
use Rattle.tesla_front.specs.Setup.{IsSetupIn}
use Rattle.tesla_front.specs.declared.fault.Fault.TheVariants as faults
use Rattle.tesla_receiver.specs.History.{IsLegal}
use Rattle.tesla_receiver.specs.Entries.{Entry}
use Rattle.tesla_records.specs.Taken.{HoldsNoRefusal}
use Rattle.tesla_trace.specs.Grammar.{trace}
use Rattle.tesla_trace.specs.Names.{kind_name}
use Rattle.tesla_trace.specs.declared.kind.TraceKind.{TraceKind}
use Rattle.tesla_audit.specs.Answers.{answer_line}
use Rattle.tesla_audit.specs.Outline.{TraceOutline, trace_outline}
use Rattle.tesla_audit.specs.Wrong.{first_wrong}
use Rattle.tesla_run_audit.specs.Arguments.{AuditArguments, IsAudit, config_of, files_of_audit}

-- ---- what a trace comes to

-- the number of an entry, and an answer
abbrev pub refuted_text : ℕ → List ℕ → List ℕ
refuted_text number answer = codes "refuted " ++ decimal number ++ codes " " ++ answer ++ codes "\n"

-- the line of the first wrong entry: its number, and the right answer
abbrev pub refuted_line : ℕ × Entry → List ℕ
refuted_line wrong = refuted_text wrong.0 (answer_line wrong.1)

-- where every entry is right: how many there are, or the first refused place
abbrev pub end_outcome : Option (ℕ × TraceKind) → ℕ → OutcomeView
end_outcome None entries = Done (count_line (codes "legal") entries)
end_outcome (Some fault) entries = Refused 3 (refused_line (codes "trace") fault.0 (kind_name fault.1))

-- a wrong entry comes before what stands behind it
abbrev pub outcome_with : Option (ℕ × Entry) → OutcomeView → OutcomeView
outcome_with None end = end
outcome_with (Some wrong) end = Refused 8 (refuted_line wrong)

-- what an outline comes to, told the configuration of a receiver of so many ingests
abbrev pub audit_outcome : (ℕ → Config) → TraceOutline → OutcomeView
audit_outcome cfg outline = outcome_with (first_wrong (cfg (unwrap_or outline.ingests 0)) outline.entries) (end_outcome outline.fault (length outline.entries))

-- what the bytes of a trace come to where nothing fails
abbrev pub audit_of : (ℕ → Config) → List ℕ → OutcomeView
audit_of cfg bytes = audit_outcome cfg (trace_outline bytes)

-- a read failed: the bytes that had left the file hold no refused place, and all their whole entries are right
pub record StopsReading (cfg : ℕ → Config) (bytes : List ℕ) (left : Option (List ℕ)) : Type 0 where
  pub read : List ℕ
  pub rest : List ℕ
  pub left_is : left ≡ Some rest
  pub parts : bytes ≡ read ++ rest
  pub unrefused : HoldsNoRefusal trace read
  pub legal : IsLegal (cfg (unwrap_or (trace_outline read).ingests 0)) (trace_outline read).entries

-- what auditing bytes came to, told what was left of them; memory is wanting no more once the trace is open, so before any entry is judged
abbrev pub AuditsBytes : (ℕ → Config) → List ℕ → Option (List ℕ) → OutcomeView → Type 0
AuditsBytes cfg bytes left (Done lines) = Done lines ≡ audit_of cfg bytes
AuditsBytes cfg bytes left (Refused status line) = Refused status line ≡ audit_of cfg bytes
AuditsBytes cfg bytes left (Failed faults.Read) = StopsReading cfg bytes left
AuditsBytes cfg bytes left _ = ⊥

-- what it may come to, whatever the bytes are
abbrev pub IsAuditOutcome : OutcomeView → Type 0
IsAuditOutcome (Done lines) = Unit {0}
IsAuditOutcome (Refused status line) = (status ≡ 3) ⊎ (status ≡ 8)
IsAuditOutcome (Failed faults.Read) = Unit {0}
IsAuditOutcome _ = ⊥

-- the same of a source that is open, told what it had left before and afterwards
abbrev pub AuditsBetween : (ℕ → Config) → Option (List ℕ) → Option (List ℕ) → OutcomeView → Type 0
AuditsBetween cfg before left outcome = IsAuditOutcome outcome × ((bytes : List ℕ) → before ≡ Some bytes → AuditsBytes cfg bytes left outcome)

-- ---- files

-- the trace was opened and audited
pub record IsAudited (cfg : ℕ → Config) (page : Page) (left : Option (List ℕ)) (outcome : OutcomeView) : Type 0 where
  pub there : page ≢ Absent
  pub possible : IsAuditOutcome outcome
  pub audits : (bytes : List ℕ) (failed : Bool) → page ≡ Holds bytes failed → AuditsBytes cfg bytes left outcome

-- the trace wasn't opened, told how many files were asked to be opened of which so many stand before it
abbrev pub IsUnopened : ℕ → ℕ → OutcomeView → Type 0
IsUnopened before opened outcome = (outcome ≡ Failed faults.Open) ⊎ ((outcome ≡ Failed faults.NoMemory) × (opened ≤ before))

-- under the setup the trace was audited, told what there was of each file before, and of the trace afterwards
pub record AuditsUnder (arguments : AuditArguments) (setup trace_before trace_now : File) (opened : ℕ) (outcome : OutcomeView) : Type 0 where
  pub parts : Parts
  pub found : IsSetupIn setup.page parts
  pub audits : IsUnopened 1 opened outcome ⊎ IsAudited (config_of arguments parts) trace_before.page trace_now.left outcome

-- what the command does: there is no setup, or the trace was audited under it
abbrev pub DoesAudit : AuditArguments → ℕ → List File → List File → OutcomeView → Type 0
DoesAudit arguments opened (setup ∷ before ∷ []) (setup_now ∷ now ∷ []) outcome = StopsAtSetup setup opened outcome ⊎ AuditsUnder arguments setup before now opened outcome
DoesAudit arguments opened before after outcome = ⊥

-- the command
abbrev pub audit : Command
audit = record { Arguments = AuditArguments; IsForm = IsAudit; files = files_of_audit; Does = DoesAudit }
