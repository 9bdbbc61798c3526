-- A run of audit, from its steps.
use Rattle.std.proofs.Common.{◌≡◌, ◌∙◌, ◌⊎◌, inl, inr, ℕ, suc, Option, Result, Ok, Err, List, [], ◌∷◌, refl, sym, ap, subst, arith}
use Rattle.tesla_commit.specs.Parts.{Parts}
use Rattle.tesla_desk.specs.Faults.{CountsOpening, Faults, HasCause, HasCauses}
use Rattle.tesla_desk.specs.Outside.{Page, Untold, Absent, Holds, Told, Opened, OfSource, OpensSource, ClosesSource}
use Rattle.tesla_desk.specs.declared.desk.OpenRefusal.{OpenRefusal}
use Rattle.tesla_desk.specs.declared.desk.OpenRefusal.TheVariants as refused
use Rattle.tesla_desk.proofs.Counts.{causes_as, causes_none, causes_opening, causes_plain, causes_source, causes_then, counts_stay}
use Rattle.tesla_desk.proofs.Told.{opened_holds}
use Rattle.tesla_fitting.specs.declared.config.Config.{Config}
use Rattle.tesla_front.specs.OutcomeView.{OutcomeView, Failed, stop_view}
use Rattle.tesla_front.specs.Command.{Performs}
use Rattle.tesla_front.specs.Fault.{unopened}
use Rattle.tesla_front.specs.Openings.{AreFiles, Opens, OpensSome}
use Rattle.tesla_front.specs.Refusal.{StopCauses}
use Rattle.tesla_front.specs.Setup.{IsNoSetup, IsSetupIn}
use Rattle.tesla_front.specs.declared.fault.Fault.{Fault}
use Rattle.tesla_front.specs.declared.fault.Fault.TheVariants as faults
use Rattle.tesla_front.specs.declared.refusal.Stop.{Stop}
use Rattle.tesla_front.proofs.Commands.{counts_stopped}
use Rattle.tesla_front.proofs.Openings.{opens_first, opens_none, opens_some, opens_then, source_closed}
use Rattle.tesla_state.specs.Steps.{with_ingests}
use Rattle.tesla_run_audit.specs.Arguments.{AuditArguments, IsAudit, config_of, files_of_audit}
use Rattle.tesla_run_audit.specs.Audit.{AuditsBetween, AuditsBytes, IsAuditOutcome, IsAudited, IsUnopened, audit}
use Rattle.tesla_run_audit.specs.Files.{AuditsFile}

-- neither file is the console
pub are_files : (arguments : AuditArguments) (words : List (List ℕ)) → IsAudit arguments words → AreFiles (files_of_audit arguments)
are_files arguments words is = (is.rest.first.0.file, (is.rest.rest.rest.rest.first.0.file, tt))

-- ---- the trace

unopened_by : {A : Type 0} (name : List ℕ) (refusal : OpenRefusal) (old new : Told) → OpensSource {A = A} name (Err refusal) old new → (opened : ℕ) × Opens (OfSource name ∷ []) opened old new × IsUnopened 0 opened (Failed (unopened refusal))
unopened_by name refused.Failed old new tried = (1, opens_first (OfSource name) [] old new tried.asked (λ n none. tried.pages n) (λ n none. tried.lefts n), inl refl)
unopened_by name refused.NoMemory old new tried = (0, opens_none (OfSource name ∷ []) old new tried.asked tried.pages tried.lefts, inr (refl, omega arith))

counts_unopened : {A : Type 0} (refusal : OpenRefusal) (old new : Faults) → CountsOpening old new (◌≡◌ {A = Result A OpenRefusal} (Err refusal) (Err refused.Failed)) → HasCauses old new (Failed (unopened refusal) ≡ Failed faults.Read) (Failed (unopened refusal) ≡ Failed faults.Write) (Failed (unopened refusal) ≡ Failed faults.Open)
counts_unopened refused.Failed old new counts = causes_opening old new counts (λ e. absurd cc) (λ e. absurd cc) (λ e. refl) (λ e. refl)
counts_unopened refused.NoMemory old new counts = causes_opening old new counts (λ e. absurd cc) (λ e. absurd cc) (λ e. absurd cc) (λ e. absurd cc)

-- it wasn't opened
pub audits_unopened : {A : Type 0} (cfg : ℕ → Config) (name : List ℕ) (refusal : OpenRefusal) (fault : Fault) (old new : Told) → fault ≡ unopened refusal → OpensSource {A = A} name (Err refusal) old new → AuditsFile cfg name old new (Failed fault)
audits_unopened {A} cfg name refusal fault old new is tried =
    let it = unopened_by {A = A} name refusal old new tried in
    subst (λ (f : Fault). AuditsFile cfg name old new (Failed f)) (sym is) (record {
      opened = it.0;
      opens = it.1;
      audits = inl it.2;
      counts = counts_unopened {A = A} refusal old.faults new.faults tried.counts;
    })

opened_there : (page : Page) (left : Option (List ℕ)) → Opened page left → page ≡ Absent → ⊥
opened_there Untold left opened e = absurd cc
opened_there Absent left opened e = absurd opened
opened_there (Holds bytes failed) left opened e = absurd cc

never : (outcome : OutcomeView) (fault : Fault) → (IsAuditOutcome (Failed fault) → ⊥) → IsAuditOutcome outcome → outcome ≡ Failed fault → ⊥
never outcome fault other possible e = other (subst (λ (c : OutcomeView). IsAuditOutcome c) e possible)

-- it was opened, audited and closed
pub audits_closed : {A : Type 0} (cfg : ℕ → Config) (name own : List ℕ) (it : A) (outcome : OutcomeView) (before left : Option (List ℕ)) (fresh count : ℕ) (old mid new : Told) → own ≡ name → Opened (old.page name) before → OpensSource {A = A} name (Ok it) old mid → AuditsBetween cfg before left outcome → fresh ≡ 0 → HasCause fresh count (outcome ≡ Failed faults.Read) → ClosesSource own left count mid new → AuditsFile cfg name old new outcome
audits_closed {A} cfg name own it outcome before left fresh count old mid new named opened opens between sound cause closes =
    let same : mid.faults ≡ old.faults = counts_stay old.faults mid.faults opens.counts (λ e. absurd cc) in
    let left_is : new.left name ≡ left = ap new.left (sym named) ∙ closes.own in
    let counts : HasCauses mid.faults new.faults (outcome ≡ Failed faults.Read) (outcome ≡ Failed faults.Write) (outcome ≡ Failed faults.Open) =
    causes_source mid.faults new.faults count closes.counts (subst (λ (n : ℕ). HasCause n count (outcome ≡ Failed faults.Read)) sound cause) (λ e. e) (λ e. e) (never outcome faults.Write (λ it. it) between.0) (never outcome faults.Open (λ it. it) between.0) in
    record {
      opened = 1;
      opens = source_closed name own it old mid new left count named opens closes;
      audits = inr (record {
        there = opened_there (old.page name) before opened;
        possible = between.0;
        audits = λ bytes failed page. subst (λ (l : Option (List ℕ)). AuditsBytes cfg bytes l outcome) (sym left_is) (between.1 bytes (opened_holds (old.page name) before bytes failed page opened));
      });
      counts = subst (λ (f : Faults). HasCauses f new.faults (outcome ≡ Failed faults.Read) (outcome ≡ Failed faults.Write) (outcome ≡ Failed faults.Open)) same counts;
    }

-- ---- the setup, and then the trace

-- there was no setup
pub performs_none : (arguments : AuditArguments) (before now : Told) (stop : Stop) → AreFiles (files_of_audit arguments) → OpensSome (OfSource arguments.setup ∷ []) before now → IsNoSetup (before.page arguments.setup) (stop_view stop) → StopCauses {A = Parts} (Err stop) before.faults now.faults → Performs audit arguments before now (stop_view stop)
performs_none arguments before now stop named some why causes =
    let it = opens_some (OfSource arguments.setup) (OfSource arguments.trace ∷ []) before now some in
    record { named = named; opened = it.0; opens = it.2; does = inl (record { alone = it.1; why = why }); counts = counts_stopped stop before.faults now.faults causes }

-- the setup was read, and there was no memory for a receiver
pub performs_wanting : (arguments : AuditArguments) (setup : Parts) (before now : Told) → AreFiles (files_of_audit arguments) → OpensSome (OfSource arguments.setup ∷ []) before now → IsSetupIn (before.page arguments.setup) setup → StopCauses {A = Parts} (Ok setup) before.faults now.faults → Performs audit arguments before now (Failed faults.NoMemory)
performs_wanting arguments setup before now named some found causes =
    let it = opens_some (OfSource arguments.setup) (OfSource arguments.trace ∷ []) before now some in
    record {
      named = named;
      opened = it.0;
      opens = it.2;
      does = inr (record { parts = setup; found = found; audits = inl (inr (refl, it.1)) });
      counts = causes_as before.faults now.faults (causes_plain before.faults now.faults causes) (λ h. h) (λ e. absurd cc) (λ e. absurd cc) (λ e. absurd cc) (λ e. absurd cc) (λ e. absurd cc) (λ e. absurd cc);
    }

behind_setup : (opened : ℕ) (outcome : OutcomeView) → IsUnopened 0 opened outcome → IsUnopened 1 (suc opened) outcome
behind_setup opened outcome (inl failed) = inl failed
behind_setup opened outcome (inr memory) = inr (memory.0, (let none = memory.1 in omega (arith, none)))

audited_by : (cfg : ℕ → Config) (opened : ℕ) (before mid : Page) (left : Option (List ℕ)) (outcome : OutcomeView) → mid ≡ before → IsUnopened 0 opened outcome ⊎ IsAudited cfg mid left outcome → IsUnopened 1 (suc opened) outcome ⊎ IsAudited cfg before left outcome
audited_by cfg opened before mid left outcome same (inl none) = inl (behind_setup opened outcome none)
audited_by cfg opened before mid left outcome same (inr done) = inr (subst (λ (p : Page). IsAudited cfg p left outcome) same done)

-- the setup was read, and then the trace audited
pub performs_audit : (arguments : AuditArguments) (setup : Parts) (before mid now : Told) (outcome : OutcomeView) → AreFiles (files_of_audit arguments) → Opens (OfSource arguments.setup ∷ []) 1 before mid → ((name : List ℕ) → mid.page name ≡ before.page name) → IsSetupIn (before.page arguments.setup) setup → StopCauses {A = Parts} (Ok setup) before.faults mid.faults
    → (config : Config) → config ≡ config_of arguments setup 255 → AuditsFile (with_ingests config) arguments.trace mid now outcome → Performs audit arguments before now outcome
performs_audit arguments setup before mid now outcome named opened pages found causes config is audited =
    let file : AuditsFile (config_of arguments setup) arguments.trace mid now outcome = subst (λ (c : Config). AuditsFile (with_ingests c) arguments.trace mid now outcome) is audited in
    record {
      named = named;
      opened = suc file.opened;
      opens = opens_then (OfSource arguments.setup) (OfSource arguments.trace ∷ []) file.opened before mid now opened file.opens;
      does = inr (record {
        parts = setup;
        found = found;
        audits = audited_by (config_of arguments setup) file.opened (before.page arguments.trace) (mid.page arguments.trace) (now.left arguments.trace) outcome (pages arguments.trace) file.audits;
      });
      counts = causes_then before.faults mid.faults now.faults (causes_none before.faults mid.faults causes (λ e. absurd cc) (λ e. absurd cc) (λ e. absurd cc)) (causes_plain mid.faults now.faults file.counts);
    }
