-- A console that was opened before, told what came, and closed.
use Rattle.std.proofs.Common.{◌≡◌, ◌∙◌, ◌≢◌, ◌⊎◌, inl, inr, ◌<◌, ℕ, Bool, true, false, nat_lt, Option, Some, None, IfSome, Result, Err, List, [], ◌∷◌, take, codes, refl, sym, ap, subst, arith}
use Rattle.std.proofs.lemmas.Bool.Decides.{nat_tests}
use Rattle.tesla_desk.specs.Live.{Live}
use Rattle.tesla_desk.specs.Faults.{Faults, HasCausesBeside, after_sink}
use Rattle.tesla_desk.specs.Outside.{Page, Holds, Told, Opening, OfSink, OfPost, OpensSink, with_opening, with_openings, page_of}
use Rattle.tesla_desk.specs.declared.desk.OpenRefusal.{OpenRefusal}
use Rattle.tesla_desk.specs.declared.desk.OpenRefusal.TheVariants as refused
use Rattle.tesla_desk.proofs.Counts.{cause_as}
use Rattle.tesla_desk.proofs.Told.{first_written, openings_none, openings_first, asks_tried}
use Rattle.tesla_front.specs.OutcomeView.{OutcomeView, Usage, Failed, text_of}
use Rattle.tesla_front.specs.Command.{Command, Performs, RunsAs}
use Rattle.tesla_front.specs.Console.{Shows, Tells}
use Rattle.tesla_front.specs.Fault.{unopened}
use Rattle.tesla_front.specs.Files.{HasFailed, HasFailedMail}
use Rattle.tesla_front.specs.Openings.{AnyFailed, AreFiles, File, files_told}
use Rattle.tesla_front.specs.Run.{HasConsole, HasNoConsole, IsDoneAs, TellsUsage, console}
use Rattle.tesla_front.specs.Table.{Reports}
use Rattle.tesla_front.specs.declared.fault.Fault.TheVariants as faults
use Rattle.tesla_front.proofs.Openings.{files_same, stays_all}

-- ---- what the console shows

held_by : (usage : List ℕ) (outcome reported : OutcomeView) (before : Option (List ℕ)) (text : List ℕ) (count : ℕ) (failed : Bool) → (0 < count → failed ≡ true) → (count ≡ 0 → failed ≡ false) → IfSome before (λ bytes. bytes ≡ []) → Tells usage outcome reported before (Some text) count → Shows usage outcome reported count (Holds text failed)
held_by usage outcome reported before text count false some none empty (inl it) = (it.0, it.1, first_written before (Some text) (text_of usage outcome) text empty it.2 refl)
held_by usage outcome reported before text count false some none empty (inr (inl it)) = absurd (let no : false ≡ true = some it.2 in cc)
held_by usage outcome reported before text count false some none empty (inr (inr it)) = absurd (let no : false ≡ true = some it.2 in cc)
held_by usage outcome reported before text count true some none empty (inl it) = absurd (let no : true ≡ false = none it.1 in cc)
held_by usage outcome reported before text count true some none empty (inr (inl it)) =
    inl (it.0, it.1, it.2, (it.3.0, first_written before (Some text) (take it.3.0 (text_of usage outcome)) text empty it.3.1.written refl))
held_by usage outcome reported before text count true some none empty (inr (inr it)) =
    let same : text ≡ it.3.0 = first_written before (Some text) it.3.0 text empty it.3.2 refl in
    inr (it.0, it.1, it.2, (it.3.1.0, it.3.1.1, same ∙ it.3.1.2))

shows_by : (usage : List ℕ) (outcome reported : OutcomeView) (before now : Option (List ℕ)) (count : ℕ) → IfSome before (λ bytes. bytes ≡ []) → Tells usage outcome reported before now count → Shows usage outcome reported count (page_of now count)
shows_by usage outcome reported before None count empty (inl it) = inl it.0
shows_by usage outcome reported before None count empty (inr (inl it)) = inl it.0
shows_by usage outcome reported before None count empty (inr (inr it)) = inr (it.0, it.1, it.2)
shows_by usage outcome reported before (Some text) count empty tells = held_by usage outcome reported before text count (nat_lt 0 count) (λ some. grind (arith, nat_tests, some)) (λ none. grind (arith, nat_tests, none)) empty tells

-- ---- the console wasn't opened

no_console : (refusal : OpenRefusal) → (Failed (unopened refusal) ≡ Failed faults.Open) ⊎ (Failed (unopened refusal) ≡ Failed faults.NoMemory)
no_console refused.Failed = inl refl
no_console refused.NoMemory = inr refl

failed_open : (A : Type 0) (refusal : OpenRefusal) → Failed (unopened refusal) ≡ Failed faults.Open → ◌≡◌ {A = Result A OpenRefusal} (Err refusal) (Err refused.Failed)
failed_open A refused.Failed e = refl
failed_open A refused.NoMemory e = absurd cc

open_failed : (A : Type 0) (refusal : OpenRefusal) → ◌≡◌ {A = Result A OpenRefusal} (Err refusal) (Err refused.Failed) → Failed (unopened refusal) ≡ Failed faults.Open
open_failed A refused.Failed e = refl
open_failed A refused.NoMemory e = absurd cc

-- nothing else was opened then
pub unopened_console : (A : Type 0) (refusal : OpenRefusal) (old new : Told) → OpensSink {A = A} (codes "-") (Err refusal) old new → HasNoConsole old new (Failed (unopened refusal))
unopened_console A refusal old new opens = record {
  fault = no_console refusal;
  asked = asks_tried {A = A} console [] (Err refusal) old.openings new.openings opens.asked;
  pages = stays_all (codes "-") old.page new.page opens.refused opens.pages;
  lefts = opens.lefts;
  live = opens.live;
  counts = record { reads = opens.counts.reads; writes = opens.counts.writes; openings = cause_as old.faults.openings new.faults.openings opens.counts.openings (failed_open A refusal) (open_failed A refusal) };
}

-- ---- the console was opened

shown : (usage : List ℕ) (old opened done new : Told) (outcome reported : OutcomeView) (written : Option (List ℕ)) (failed : ℕ) → Reports usage old opened done new outcome reported written failed → Shows usage outcome reported failed (new.page (codes "-"))
shown usage old opened done new outcome reported written failed it = subst (λ (p : Page). Shows usage outcome reported failed p) (sym it.closes.own) (shows_by usage outcome reported it.before written failed it.opens.empty it.tells)

usage_stays : (usage : List ℕ) (reported : OutcomeView) (before now : Option (List ℕ)) (failed : ℕ) → Tells usage Usage reported before now failed → reported ≡ Usage
usage_stays usage reported before now failed (inl it) = it.0
usage_stays usage reported before now failed (inr (inl it)) = it.0
usage_stays usage reported before now failed (inr (inr it)) = absurd it.1

refused_run : (usage : List ℕ) (old opened done new : Told) (outcome reported : OutcomeView) (written : Option (List ℕ)) (failed : ℕ) → Reports usage old opened done new outcome reported written failed → outcome ≡ Usage → done ≡ opened → TellsUsage usage old new reported
refused_run usage old opened done new outcome reported written failed it is still =
    let one : Reports usage old opened opened new Usage reported written failed = subst (λ (c : OutcomeView). Reports usage old opened opened new c reported written failed) is (subst (λ (t : Told). Reports usage old opened t new outcome reported written failed) still it) in
    record {
      asked = one.closes.asked ∙ one.opens.asked ∙ openings_none (with_opening old.openings console) ∙ openings_first old.openings console [];
      pages = λ name other. one.closes.pages name other ∙ one.opens.pages name other;
      lefts = λ name. one.closes.lefts name ∙ one.opens.lefts name;
      live = one.closes.live ∙ one.opens.live;
      is_usage = usage_stays usage reported one.before written failed one.tells;
      failed = failed;
      counts = one.closes.counts ∙ ap (λ f. after_sink f failed) one.opens.counts;
      shows = shown usage old opened opened new Usage reported written failed one;
    }

-- an output that failed is none whose page or mail the console's closing changes
pub failed_stays : (files : List Opening) (done new : Told) → AreFiles files → ((name : List ℕ) → name ≢ codes "-" → new.page name ≡ done.page name) → new.live ≡ done.live → AnyFailed files done → AnyFailed files new
failed_stays [] done new named pages live failed = failed
failed_stays (OfSink name ∷ files) done new named pages live (inl own) = inl (subst (λ (p : Page). HasFailed p) (sym (pages name named.0)) own)
failed_stays (OfSink name ∷ files) done new named pages live (inr others) = inr (failed_stays files done new named.1 pages live others)
failed_stays (OfPost name ∷ files) done new named pages live (inl own) = inl (subst (λ (l : Live). HasFailedMail (l.mail name)) (sym live) own)
failed_stays (OfPost name ∷ files) done new named pages live (inr others) = inr (failed_stays files done new named.1 pages live others)
failed_stays (opening ∷ files) done new named pages live failed = failed_stays files done new named.1 pages live failed

-- the same causes where no output's failure is lost
pub wider : (files : List Opening) (outcome : OutcomeView) (old counts : Faults) (done new : Told) → (AnyFailed files done → AnyFailed files new)
    → HasCausesBeside ((outcome ≡ Failed faults.Read) × AnyFailed files done) old counts (outcome ≡ Failed faults.Read) (outcome ≡ Failed faults.Write) (outcome ≡ Failed faults.Open)
    → HasCausesBeside ((outcome ≡ Failed faults.Read) × AnyFailed files new) old counts (outcome ≡ Failed faults.Read) (outcome ≡ Failed faults.Write) (outcome ≡ Failed faults.Open)
wider files outcome old counts done new to causes = record {
  reads = causes.reads;
  writes = record { stays = causes.writes.stays; rose = causes.writes.rose; still = λ none clear. causes.writes.still none (λ hidden. clear (hidden.0, to hidden.1)) };
  openings = causes.openings;
}

done_run : (command : Command) (usage : List ℕ) (arguments : command.Arguments) (old opened done new : Told) (outcome reported : OutcomeView) (written : Option (List ℕ)) (failed : ℕ) → Reports usage old opened done new outcome reported written failed → Performs command arguments opened done outcome → IsDoneAs command arguments usage old new reported
done_run command usage arguments old opened done new outcome reported written failed it performs = record {
  opened = performs.opened;
  asked = it.closes.asked ∙ performs.opens.asked ∙ ap (λ asked. with_openings asked (take performs.opened (command.files arguments))) it.opens.asked ∙ openings_first old.openings console (take performs.opened (command.files arguments));
  pages = λ name other none. it.closes.pages name other ∙ performs.opens.pages name none ∙ it.opens.pages name other;
  lefts = λ name none. it.closes.lefts name ∙ performs.opens.lefts name none ∙ it.opens.lefts name;
  outcome = outcome;
  does = subst (λ (files : List File). command.Does arguments performs.opened files (files_told new (command.files arguments)) outcome) (files_same (command.files arguments) old opened performs.named it.opens.pages it.opens.lefts)
      (subst (λ (files : List File). command.Does arguments performs.opened (files_told opened (command.files arguments)) files outcome) (sym (files_same (command.files arguments) done new performs.named it.closes.pages it.closes.lefts)) performs.does);
  before_console = done.faults;
  counts = wider (command.files arguments) outcome old.faults done.faults done new (failed_stays (command.files arguments) done new performs.named it.closes.pages it.closes.live)
      (subst (λ (f : Faults). HasCausesBeside ((outcome ≡ Failed faults.Read) × AnyFailed (command.files arguments) done) f done.faults (outcome ≡ Failed faults.Read) (outcome ≡ Failed faults.Write) (outcome ≡ Failed faults.Open)) it.opens.counts performs.counts);
  failed = failed;
  closed = it.closes.counts;
  shows = shown usage old opened done new outcome reported written failed it;
}

-- a run with the console opened
pub console_opened : (command : Command) (usage : List ℕ) (words : List (List ℕ)) (old opened done new : Told) (outcome reported : OutcomeView) (written : Option (List ℕ)) (failed : ℕ) → Reports usage old opened done new outcome reported written failed → RunsAs command words opened done outcome → HasConsole command usage words old new reported
console_opened command usage words old opened done new outcome reported written failed it runs = record {
  no_form = λ none. let usage_is = runs.usage none in refused_run usage old opened done new outcome reported written failed it usage_is.0 usage_is.1;
  form = λ arguments spelled. done_run command usage arguments old opened done new outcome reported written failed it (runs.form arguments spelled);
}

-- the same of a command that is told what the desk has of links and clocks, of which the console changes nothing
pub live_console_opened : (command : Live → Live → Command) (usage : List ℕ) (words : List (List ℕ)) (old opened done new : Told) (outcome reported : OutcomeView) (written : Option (List ℕ)) (failed : ℕ) → Reports usage old opened done new outcome reported written failed
    → RunsAs (command opened.live done.live) words opened done outcome → HasConsole (command old.live new.live) usage words old new reported
live_console_opened command usage words old opened done new outcome reported written failed it runs =
    subst (λ (live : Live). HasConsole (command live new.live) usage words old new reported) it.opens.live
    (subst (λ (live : Live). HasConsole (command opened.live live) usage words old new reported) (sym it.closes.live)
    (console_opened (command opened.live done.live) usage words old opened done new outcome reported written failed it runs))
