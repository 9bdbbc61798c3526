-- A run of weave, from its steps.
use Rattle.std.proofs.Common.{◌≡◌, ◌∙◌, ◌≢◌, ◌⊎◌, inl, inr, ℕ, suc, ◌≤◌, Option, Some, IfErr, Result, Ok, Err, List, [], ◌∷◌, length, map, refl, sym, ap, subst, arith}
use Rattle.tesla_capture.specs.Records.{outline_of}
use Rattle.tesla_capture.specs.Script.{Record, Sends, Discloses, script, script_text}
use Rattle.tesla_commit.specs.Parts.{Parts}
use Rattle.tesla_desk.specs.Faults.{Faults, HasCausesBeside}
use Rattle.tesla_desk.specs.Outside.{Absent, Holds, Opened, OpensSink, OfSink, OfSource, Page, Told, Untold}
use Rattle.tesla_desk.specs.declared.desk.OpenRefusal.{OpenRefusal}
use Rattle.tesla_desk.specs.declared.desk.OpenRefusal.TheVariants as refused
use Rattle.tesla_desk.proofs.Counts.{cause_as, causes_none, causes_then}
use Rattle.tesla_desk.proofs.Told.{opened_holds}
use Rattle.tesla_front.specs.OutcomeView as outcome_views
use Rattle.tesla_front.specs.OutcomeView.{OutcomeView, Done, Failed, Usage, stop_view}
use Rattle.tesla_front.specs.Command.{Performs}
use Rattle.tesla_front.specs.Fault.{Causes, unopened}
use Rattle.tesla_front.specs.Files.{HoldsWhere}
use Rattle.tesla_front.specs.Openings.{AnyFailed, AreFiles, Opens, OpensSome, file_told}
use Rattle.tesla_front.specs.Refusal.{StopCauses}
use Rattle.tesla_front.specs.Setup.{IsNoSetup, IsSetupIn}
use Rattle.tesla_front.specs.declared.fault.Fault.{Fault}
use Rattle.tesla_front.specs.declared.fault.Fault.TheVariants as faults
use Rattle.tesla_front.specs.declared.refusal.Stop.{Stop}
use Rattle.tesla_front.specs.declared.refusal.Stop.TheVariants as stops
use Rattle.tesla_front.proofs.Commands.{counts_stopped}
use Rattle.tesla_front.proofs.Openings.{opens_first, opens_none, opens_some, opens_then, pages_tried}
use Rattle.tesla_early.specs.Woven.{woven}
use Rattle.tesla_run_weave.specs.Arguments.{IsWeave, WeaveArguments, files_of_weave}
use Rattle.tesla_run_weave.specs.Plan.{Planned, filled, slot_of, with_payloads}
use Rattle.tesla_run_weave.specs.Rule.{bodies_of, names_of}
use Rattle.tesla_run_weave.specs.Steps.{IsNoText, IsRead, IsReadIn, IsReadSource, MayStop, OpensOut, ReadsTo, WeavesFiles, plan_text}
use Rattle.tesla_run_weave.specs.Weave.{IsNoScript, IsWoven, StopsAtScript, WeavesScript, WritesWoven, weave}

-- none of the files is the console
pub are_files : (arguments : WeaveArguments) (words : List (List ℕ)) → IsWeave arguments words → AreFiles (files_of_weave arguments)
are_files arguments words is = (is.spelled.rest.first.0.file, (is.spelled.rest.rest.first.0.file, (is.spelled.rest.rest.rest.first.0.file, tt)))

-- ---- reading the script

-- a source was opened: there is a file
there : (page : Page) (before : Option (List ℕ)) → Opened page before → page ≢ Absent
there page before opened e = subst (λ (p : Page). Opened p before) e opened

no_script : (setup : Parts) (page : Page) (before left : Option (List ℕ)) (outcome : OutcomeView) → Opened page before → ((bytes : List ℕ) → before ≡ Some bytes → IsNoText setup bytes left outcome) → MayStop outcome → IsNoScript setup page left outcome
no_script setup page before left (outcome_views.Refused status line) opened reads may =
    (there page before opened, λ bytes failed is. reads bytes (opened_holds page before bytes failed is opened))
no_script setup page before left (Failed faults.Read) opened reads may =
    (there page before opened, λ bytes failed is. reads bytes (opened_holds page before bytes failed is opened))
no_script setup page before left (Failed faults.NoMemory) opened reads may = tt
no_script setup page before left (Failed faults.Open) opened reads may = absurd may
no_script setup page before left (Failed faults.Write) opened reads may = absurd may
no_script setup page before left (Done lines) opened reads may = absurd may
no_script setup page before left Usage opened reads may = absurd may

-- what stopped the reading of a source is why the script isn't woven
pub stops_reading : (setup : Parts) (page : Page) (before left own : Option (List ℕ)) (result : Result Planned Stop) → own ≡ left → Opened page before → ((bytes : List ℕ) → before ≡ Some bytes → ReadsTo setup bytes left result) → IsReadSource result → IfErr result (λ stop. IsNoScript setup page own (stop_view stop))
stops_reading setup page before left own (Ok plan) same opened reads may = tt
stops_reading setup page before left own (Err stop) same opened reads may =
    subst (λ (l : Option (List ℕ)). IsNoScript setup page l (stop_view stop)) (sym same) (no_script setup page before left (stop_view stop) opened reads may)

-- ---- writing the script

-- the output wasn't opened; where there was no memory it wasn't asked for
pub out_unopened : {A : Type 0} (out : List ℕ) (refusal : OpenRefusal) (fault : Fault) (before now : Told) → OpensSink {A = A} out (Err refusal) before now → fault ≡ unopened refusal → OpensOut out before now (◌≡◌ {A = Result (Unit {0}) Fault} (Err fault) (Err faults.NoMemory))
out_unopened {A} out refused.Failed fault before now tried is = record {
  opened = 1;
  few = omega arith;
  opens = opens_first (OfSink out) [] before now tried.asked (λ name none. pages_tried {A = A} out (Err refused.Failed) before now tried name) (λ name none. tried.lefts name);
  unasked = λ e. absurd (let no : faults.Open ≡ faults.NoMemory = sym is ∙ (let same : fault ≡ faults.NoMemory = cc in same) in cc);
}
out_unopened {A} out refused.NoMemory fault before now tried is = record {
  opened = 0;
  few = omega arith;
  opens = opens_none (OfSink out ∷ []) before now tried.asked (pages_tried {A = A} out (Err refused.NoMemory) before now tried) tried.lefts;
  unasked = λ e. refl;
}

-- it was opened and closed
pub out_opened : {wanting : Type 0} (out : List ℕ) (before now : Told) → Opens (OfSink out ∷ []) 1 before now → (wanting → ⊥) → OpensOut out before now wanting
out_opened out before now opens never = record { opened = 1; few = omega arith; opens = opens; unasked = λ w. absurd (never w) }

-- it wasn't asked for
pub out_unasked : {wanting : Type 0} (out : List ℕ) (desk : Told) → OpensOut out desk desk wanting
out_unasked out desk = record { opened = 0; few = omega arith; opens = opens_none (OfSink out ∷ []) desk desk refl (λ name. refl) (λ name. refl); unasked = λ w. refl }

-- a fault of writing is one of the command
pub stopped_causes : {A B : Type 0} (fault : Fault) (old new : Faults) → Causes {A = A} (Err fault) old new → StopCauses {A = B} (Err (stops.Failed fault)) old new
stopped_causes fault old new causes = record {
  reads = cause_as old.reads new.reads causes.reads (λ e. cc) (λ e. cc);
  writes = cause_as old.writes new.writes causes.writes (λ e. cc) (λ e. cc);
  openings = cause_as old.openings new.openings causes.openings (λ e. cc) (λ e. cc);
}

-- ---- what is written

-- what is kept of records is filled as they are
filled_is : (records : List Record) (payloads : List (List ℕ)) → filled (map slot_of records) payloads ≡ with_payloads records payloads
filled_is [] payloads = refl
filled_is (Sends reading body ∷ records) [] = filled_is records []
filled_is (Sends reading body ∷ records) (payload ∷ payloads) = ap (λ (rs : List Record). Sends reading payload ∷ rs) (filled_is records payloads)
filled_is (Discloses reading ∷ records) payloads = ap (λ (rs : List Record). Discloses reading ∷ rs) (filled_is records payloads)

woven_as : (setup : Parts) (gap : ℕ) (bytes : List ℕ) (plan : Planned) → IsRead setup bytes plan → IsWoven setup gap bytes (plan_text gap plan) (length plan.bodies)
woven_as setup gap bytes plan read =
    let records : List Record = (outline_of script bytes).records in
    record {
      whole = read.whole;
      text_is = ap (plan_text gap) read.plan_is ∙ ap script_text (filled_is records (woven gap (names_of setup records) (bodies_of records)));
      messages_is = ap (λ (p : Planned). length p.bodies) read.plan_is;
    }

woven_in : (setup : Parts) (gap : ℕ) (page : Page) (plan : Planned) → IsReadIn setup page plan → HoldsWhere page (λ bytes. IsWoven setup gap bytes (plan_text gap plan) (length plan.bodies))
woven_in setup gap Untold plan read = tt
woven_in setup gap Absent plan read = absurd read
woven_in setup gap (Holds bytes failed) plan read = woven_as setup gap bytes plan read

-- so many files were asked for
writes_with : (text : List ℕ) (messages opened : ℕ) (before after : Page) (outcome : OutcomeView) → WritesWoven text messages before after 2 outcome → (outcome ≡ Failed faults.NoMemory → opened ≤ 2) → WritesWoven text messages before after opened outcome
writes_with text messages opened before after (Done lines) writes few = writes
writes_with text messages opened before after (Failed faults.Write) writes few = writes
writes_with text messages opened before after (Failed faults.Open) writes few = writes
writes_with text messages opened before after (Failed faults.NoMemory) writes few = (writes.0, few refl)
writes_with text messages opened before after (Failed faults.Read) writes few = absurd writes
writes_with text messages opened before after (outcome_views.Refused status line) writes few = absurd writes
writes_with text messages opened before after Usage writes few = absurd writes

-- ---- under the setup

-- the script wasn't read, or is refused
pub under_unread : (arguments : WeaveArguments) (setup : Parts) (before now : Told) (stop : Stop) → OpensSome (OfSource arguments.script ∷ []) before now → ((name : List ℕ) → now.page name ≡ before.page name)
    → IsNoScript setup (before.page arguments.script) (now.left arguments.script) (stop_view stop) → StopCauses {A = Planned} (Err stop) before.faults now.faults → WeavesFiles arguments setup before now (stop_view stop)
under_unread arguments setup before now stop opens pages why causes =
    let it = opens_some (OfSource arguments.script) (OfSink arguments.out ∷ []) before now opens in
    record { opened = it.0; opens = it.2; does = inl (record { few = omega (arith, it.1); same = pages arguments.out; why = why }); counts = counts_stopped stop before.faults now.faults causes }

-- the script was read, and then woven and written
pub under_written : (arguments : WeaveArguments) (setup : Parts) (plan : Planned) (before mid now : Told) (outcome : OutcomeView) → Opens (OfSource arguments.script ∷ []) 1 before mid → ((name : List ℕ) → mid.page name ≡ before.page name) → StopCauses {A = Planned} (Ok plan) before.faults mid.faults → IsReadIn setup (before.page arguments.script) plan
    → OpensOut arguments.out mid now (outcome ≡ Failed faults.NoMemory) → WritesWoven (plan_text arguments.gap plan) (length plan.bodies) (mid.page arguments.out) (now.page arguments.out) 2 outcome
    → HasCausesBeside ((outcome ≡ Failed faults.Read) × AnyFailed (OfSink arguments.out ∷ []) now) mid.faults now.faults (outcome ≡ Failed faults.Read) (outcome ≡ Failed faults.Write) (outcome ≡ Failed faults.Open) → WeavesFiles arguments setup before now outcome
under_written arguments setup plan before mid now outcome first pages still read out writes causes = record {
  opened = suc out.opened;
  opens = opens_then (OfSource arguments.script) (OfSink arguments.out ∷ []) out.opened before mid now first out.opens;
  does = inr (record {
    text = plan_text arguments.gap plan;
    messages = length plan.bodies;
    found = woven_in setup arguments.gap (before.page arguments.script) plan read;
    writes = writes_with (plan_text arguments.gap plan) (length plan.bodies) (suc (suc out.opened)) (before.page arguments.out) (now.page arguments.out) outcome
        (subst (λ (p : Page). WritesWoven (plan_text arguments.gap plan) (length plan.bodies) p (now.page arguments.out) 2 outcome) (pages arguments.out) writes)
        (λ e. omega (arith, out.unasked e));
  });
  counts = causes_then before.faults mid.faults now.faults (causes_none before.faults mid.faults still (λ e. absurd cc) (λ e. absurd cc) (λ e. absurd cc)) causes;
}

-- ---- the setup

-- there was no setup
pub performs_unset : (arguments : WeaveArguments) (before now : Told) (stop : Stop) → AreFiles (files_of_weave arguments) → OpensSome (OfSource arguments.setup ∷ []) before now → IsNoSetup (before.page arguments.setup) (stop_view stop) → StopCauses {A = Parts} (Err stop) before.faults now.faults → Performs weave arguments before now (stop_view stop)
performs_unset arguments before now stop named opens why causes =
    let it = opens_some (OfSource arguments.setup) (OfSource arguments.script ∷ OfSink arguments.out ∷ []) before now opens in
    record { named = named; opened = it.0; opens = it.2; does = inl (record { alone = it.1; why = why }); counts = counts_stopped stop before.faults now.faults causes }

-- what was done under a setup is told of pages that are the same
under_moves : (arguments : WeaveArguments) (setup : Parts) (opened : ℕ) (before mid now : Told) (outcome : OutcomeView) → ((name : List ℕ) → mid.page name ≡ before.page name)
    → StopsAtScript setup (file_told mid arguments.script) (file_told now arguments.script) (mid.page arguments.out) (now.page arguments.out) opened outcome ⊎ WeavesScript setup arguments.gap (mid.page arguments.script) (mid.page arguments.out) (now.page arguments.out) opened outcome
    → StopsAtScript setup (file_told before arguments.script) (file_told now arguments.script) (before.page arguments.out) (now.page arguments.out) opened outcome ⊎ WeavesScript setup arguments.gap (before.page arguments.script) (before.page arguments.out) (now.page arguments.out) opened outcome
under_moves arguments setup opened before mid now outcome pages (inl stops) = inl (record {
  few = stops.few;
  same = stops.same ∙ pages arguments.out;
  why = subst (λ (p : Page). IsNoScript setup p (now.left arguments.script) outcome) (pages arguments.script) stops.why;
})
under_moves arguments setup opened before mid now outcome pages (inr weaves) = inr (record {
  text = weaves.text;
  messages = weaves.messages;
  found = subst (λ (p : Page). HoldsWhere p (λ bytes. IsWoven setup arguments.gap bytes weaves.text weaves.messages)) (pages arguments.script) weaves.found;
  writes = subst (λ (p : Page). WritesWoven weaves.text weaves.messages p (now.page arguments.out) opened outcome) (pages arguments.out) weaves.writes;
})

-- the setup was read, and what follows done under it
pub performs_under : (arguments : WeaveArguments) (setup : Parts) (before mid now : Told) (outcome : OutcomeView) → AreFiles (files_of_weave arguments) → Opens (OfSource arguments.setup ∷ []) 1 before mid → ((name : List ℕ) → mid.page name ≡ before.page name) → StopCauses {A = Parts} (Ok setup) before.faults mid.faults → IsSetupIn (before.page arguments.setup) setup → WeavesFiles arguments setup mid now outcome → Performs weave arguments before now outcome
performs_under arguments setup before mid now outcome named first pages still found weaves = record {
  named = named;
  opened = suc weaves.opened;
  opens = opens_then (OfSource arguments.setup) (OfSource arguments.script ∷ OfSink arguments.out ∷ []) weaves.opened before mid now first weaves.opens;
  does = inr (record { parts = setup; found = found; does = under_moves arguments setup (suc weaves.opened) before mid now outcome pages weaves.does });
  counts = causes_then before.faults mid.faults now.faults (causes_none before.faults mid.faults still (λ e. absurd cc) (λ e. absurd cc) (λ e. absurd cc)) weaves.counts;
}
