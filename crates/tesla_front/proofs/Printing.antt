-- A console that was opened before, on which a command printed lines, and that was told what came, and closed.
use Rattle.std.proofs.Common.{◌≡◌, ◌∙◌, inl, inr, ◌<◌, ◌+◌, ℕ, Bool, true, false, nat_lt, Option, Some, None, IfSome, List, [], ◌++◌, length, take, codes, refl, sym, ap, subst, arith}
use Rattle.std.specs.Option.{option_map}
use Rattle.std.proofs.Math.Seq.{take-append-add}
use Rattle.std.proofs.lemmas.Bool.Decides.{nat_tests}
use Rattle.std.proofs.lemmas.List.{take-append-le}
use Rattle.tesla_desk.specs.Faults.{Faults, HasCause, HasCausesBeside}
use Rattle.tesla_desk.specs.Outside.{Page, Holds, Told, ClosesSink, AppendsPrefix, with_bytes, with_openings, page_of}
use Rattle.tesla_desk.proofs.Told.{first_written, openings_first, with_bytes_twice}
use Rattle.tesla_front.specs.OutcomeView.{OutcomeView, Done, Usage, Refused, Failed, IsDone, outcome_view, text_of}
use Rattle.tesla_front.specs.Command.{RunsAs, no_command}
use Rattle.tesla_front.specs.Console.{Tells}
use Rattle.tesla_front.specs.Openings.{AnyFailed, File, files_told}
use Rattle.tesla_front.specs.Printing.{HasPrinted, IsFault, IsPrintedAs, PerformsPrinting, PrintingCommand, PrintsAs, PrintsLines, ShowsAfter, TellsBehind, TellsPrinted, summary_of}
use Rattle.tesla_front.specs.Run.{TellsUsage, console}
use Rattle.tesla_front.specs.Table.{OpensConsole, Reports}
use Rattle.tesla_front.specs.declared.fault.Fault.{Fault}
use Rattle.tesla_front.specs.declared.fault.Fault.TheVariants as faults
use Rattle.tesla_front.specs.declared.outcome.Outcome.TheVariants as outcomes
use Rattle.tesla_front.specs.declared.printed.Printed.{Printed}
use Rattle.tesla_front.specs.declared.printed.Printed.TheVariants.{Whole, Broken}
use Rattle.tesla_front.proofs.Consoles.{console_opened, failed_stays, wider}
use Rattle.tesla_front.proofs.Openings.{files_same}
use Rattle.tesla_front.proofs.Reported.{rose_some}

-- ---- what is told behind the lines

-- a summary was told whole
pub behind_done : (usage lines : List ℕ) (before now : Option (List ℕ)) (old new : ℕ) (text : List ℕ) → text ≡ lines → now ≡ with_bytes before text → HasCause old new (true ≡ false) → old ≡ 0 → TellsBehind usage (Done lines) (Done lines) before now new
behind_done usage lines before now old new text text_is written cause e = inl (refl, cause.still (λ f. absurd cc) ∙ e, written ∙ ap (with_bytes before) text_is)

-- a summary was lost
pub behind_lost : (usage lines : List ℕ) (before now : Option (List ℕ)) (old new : ℕ) (text : List ℕ) (whole : Bool) → text ≡ lines → AppendsPrefix before now text → HasCause old new (whole ≡ false) → whole ≡ false → old ≡ 0 → TellsBehind usage (Done lines) (Failed faults.Write) before now new
behind_lost usage lines before now old new text whole text_is prefix cause lost e =
    inr (inr (refl, tt, rose_some old new e (cause.rose lost), subst (λ (t : List ℕ). AppendsPrefix before now t) text_is prefix))

-- the lines of an outcome without a summary were told, or a prefix of them
pub behind_lines : (usage : List ℕ) (outcome : OutcomeView) (whole : Bool) (before now : Option (List ℕ)) (old new : ℕ) → (IsDone outcome → ⊥) → (whole ≡ true → now ≡ with_bytes before (text_of usage outcome)) → AppendsPrefix before now (text_of usage outcome) → HasCause old new (whole ≡ false) → old ≡ 0 → TellsBehind usage outcome outcome before now new
behind_lines usage outcome true before now old new none all prefix cause e = inl (refl, cause.still (λ f. absurd cc) ∙ e, all refl)
behind_lines usage outcome false before now old new none all prefix cause e = inr (inl (refl, none, rose_some old new e (cause.rose refl), prefix))

-- ---- what the console shows

no_fault_done : (outcome : OutcomeView) → IsDone outcome → IsFault outcome → ⊥
no_fault_done (Done lines) is fault = fault
no_fault_done Usage is fault = absurd is
no_fault_done (Refused status line) is fault = absurd is
no_fault_done (Failed kind) is fault = absurd is

is_summary : (usage : List ℕ) (outcome : OutcomeView) → IsDone outcome → text_of usage outcome ≡ summary_of outcome
is_summary usage (Done lines) is = refl
is_summary usage Usage is = absurd is
is_summary usage (Refused status line) is = absurd is
is_summary usage (Failed kind) is = absurd is

-- what the console holds, told how much of which text was written
written_is : (before mid : Option (List ℕ)) (lines more text : List ℕ) → IfSome before (λ bytes. bytes ≡ []) → mid ≡ with_bytes before lines → Some text ≡ with_bytes mid more → text ≡ lines ++ more
written_is before mid lines more text empty whole behind =
    first_written before (Some text) (lines ++ more) text empty (behind ∙ ap (λ (w : Option (List ℕ)). with_bytes w more) whole ∙ with_bytes_twice before lines more) refl

-- whether a write failed is told of the count
record Counted (count : ℕ) (failed : Bool) : Type 0 where
  some : 0 < count → failed ≡ true
  none : count ≡ 0 → failed ≡ false

whole_held : (usage lines : List ℕ) (outcome reported : OutcomeView) (before mid : Option (List ℕ)) (text : List ℕ) (count : ℕ) (failed : Bool) → Counted count failed → IfSome before (λ bytes. bytes ≡ []) → mid ≡ with_bytes before lines → TellsBehind usage outcome reported mid (Some text) count → ShowsAfter lines usage outcome reported count (Holds text failed)
whole_held usage lines outcome reported before mid text count false counted empty whole (inl it) = (it.0, it.1, written_is before mid lines (text_of usage outcome) text empty whole it.2)
whole_held usage lines outcome reported before mid text count false counted empty whole (inr (inl it)) = absurd (let no : false ≡ true = counted.some it.2 in cc)
whole_held usage lines outcome reported before mid text count false counted empty whole (inr (inr it)) = absurd (let no : false ≡ true = counted.some it.2 in cc)
whole_held usage lines outcome reported before mid text count true counted empty whole (inl it) = absurd (let no : true ≡ false = counted.none it.1 in cc)
whole_held usage lines outcome reported before mid text count true counted empty whole (inr (inl it)) =
    (it.2, inl (it.0, it.1, (it.3.0, written_is before mid lines (take it.3.0 (text_of usage outcome)) text empty whole it.3.1.written)))
whole_held usage lines outcome reported before mid text count true counted empty whole (inr (inr it)) =
    let n = it.3.0 in
    let same : take n (text_of usage outcome) ≡ take n (summary_of outcome) = ap (take n) (is_summary usage outcome it.1) in
    let is : text ≡ lines ++ take n (summary_of outcome) = written_is before mid lines (take n (text_of usage outcome)) text empty whole it.3.1.written ∙ ap (λ (t : List ℕ). lines ++ t) same in
    (it.2, inr (inr (it.0, no_fault_done outcome it.1, (length lines + n, is ∙ sym (take-append-add lines (summary_of outcome) n)))))

prefix_is : (before : Option (List ℕ)) (lines text : List ℕ) → IfSome before (λ bytes. bytes ≡ []) → (prefix : AppendsPrefix before (Some text) lines) → text ≡ take prefix.0 lines
prefix_is before lines text empty prefix = first_written before (Some text) (take prefix.0 lines) text empty prefix.1.written refl

broken_held : (usage lines : List ℕ) (outcome reported : OutcomeView) (fault : Fault) (before : Option (List ℕ)) (text : List ℕ) (count : ℕ) (failed : Bool) → Counted count failed → IfSome before (λ bytes. bytes ≡ []) → reported ≡ Failed fault → PrintsLines lines outcome (Broken fault) before (Some text) count → ShowsAfter lines usage outcome reported count (Holds text failed)
broken_held usage lines outcome reported fault before text count false counted empty is it = absurd (let no : false ≡ true = counted.some it.1 in cc)
broken_held usage lines outcome reported fault before text count true counted empty is (inl first, some, prefix) =
    (some, inr (inl (is ∙ sym first, subst (λ (c : OutcomeView). IsFault c) (sym first) tt, (prefix.0, prefix_is before lines text empty prefix))))
broken_held usage lines outcome reported fault before text count true counted empty is (inr first, some, prefix) =
    let longer : take prefix.0 lines ≡ take prefix.0 (lines ++ summary_of outcome) = sym (take-append-le prefix.0 lines (summary_of outcome) prefix.1.fits) in
    (some, inr (inr (is ∙ ap (λ (f : Fault). Failed f) first.0, first.1, (prefix.0, prefix_is before lines text empty prefix ∙ longer))))

whole_shown : (usage lines : List ℕ) (outcome reported : OutcomeView) (before mid now : Option (List ℕ)) (count : ℕ) → IfSome before (λ bytes. bytes ≡ []) → mid ≡ with_bytes before lines → TellsBehind usage outcome reported mid now count → ShowsAfter lines usage outcome reported count (page_of now count)
whole_shown usage lines outcome reported before mid None count empty whole (inl it) = inl it.0
whole_shown usage lines outcome reported before mid None count empty whole (inr (inl it)) = inl it.0
whole_shown usage lines outcome reported before mid None count empty whole (inr (inr it)) = inr (it.0, no_fault_done outcome it.1, it.2)
whole_shown usage lines outcome reported before mid (Some text) count empty whole tells =
    whole_held usage lines outcome reported before mid text count (nat_lt 0 count) (record { some = λ some. grind (arith, nat_tests, some); none = λ none. grind (arith, nat_tests, none) }) empty whole tells

broken_shown : (usage lines : List ℕ) (outcome reported : OutcomeView) (fault : Fault) (before now : Option (List ℕ)) (count : ℕ) → IfSome before (λ bytes. bytes ≡ []) → reported ≡ Failed fault → PrintsLines lines outcome (Broken fault) before now count → ShowsAfter lines usage outcome reported count (page_of now count)
broken_shown usage lines outcome reported fault before None count empty is (inl first, some, prefix) = inl (is ∙ sym first)
broken_shown usage lines outcome reported fault before None count empty is (inr first, some, prefix) = inr (is ∙ ap (λ (f : Fault). Failed f) first.0, first.1, some)
broken_shown usage lines outcome reported fault before (Some text) count empty is prints =
    broken_held usage lines outcome reported fault before text count (nat_lt 0 count) (record { some = λ some. grind (arith, nat_tests, some); none = λ none. grind (arith, nat_tests, none) }) empty is prints

-- the lines were printed on a new console, and what came was told behind them
pub shown_after : (usage lines : List ℕ) (outcome reported : OutcomeView) (printed : Printed) (before mid now : Option (List ℕ)) (old new : ℕ) → IfSome before (λ bytes. bytes ≡ []) → PrintsLines lines outcome printed before mid old → TellsPrinted usage printed reported mid now old new → ShowsAfter lines usage outcome reported new (page_of now new)
shown_after usage lines outcome reported (Whole whole) before mid now old new empty prints tells =
    subst (λ (c : OutcomeView). ShowsAfter lines usage c reported new (page_of now new)) (sym prints.0) (whole_shown usage lines (outcome_view whole) reported before mid now new empty prints.2 tells)
shown_after usage lines outcome reported (Broken fault) before mid now old new empty prints tells =
    subst (λ (n : ℕ). ShowsAfter lines usage outcome reported n (page_of now n)) (sym tells.2)
    (subst (λ (w : Option (List ℕ)). ShowsAfter lines usage outcome reported old (page_of w old)) (sym tells.1) (broken_shown usage lines outcome reported fault before mid old empty tells.0 prints))

-- ---- a run

-- the console was opened before what was done, has the lines that were printed, was told what came, and closed
pub record Printeds (usage : List ℕ) (old opened done new : Told) (printed : Printed) (reported : OutcomeView) (mid written : Option (List ℕ)) (middle failed : ℕ) : Type 0 where
  pub before : Option (List ℕ)
  pub opens : OpensConsole old opened before
  pub tells : TellsPrinted usage printed reported mid written middle failed
  pub closes : ClosesSink (codes "-") written failed done new

-- wrong words are told as by any other command
tells_usage : (usage : List ℕ) (reported : OutcomeView) (mid written : Option (List ℕ)) (failed : ℕ) → TellsBehind usage Usage reported mid written failed → Tells usage Usage reported mid written failed
tells_usage usage reported mid written failed (inl it) = inl it
tells_usage usage reported mid written failed (inr (inl it)) = inr (inl it)
tells_usage usage reported mid written failed (inr (inr it)) = absurd it.1

usage_reported : (usage : List ℕ) (reported : OutcomeView) (printed : Printed) (mid written : Option (List ℕ)) (middle failed : ℕ) → printed ≡ Whole outcomes.Usage → TellsPrinted usage printed reported mid written middle failed → Tells usage Usage reported mid written failed
usage_reported usage reported printed mid written middle failed is tells =
    let whole : TellsPrinted usage (Whole outcomes.Usage) reported mid written middle failed = subst (λ (p : Printed). TellsPrinted usage p reported mid written middle failed) is tells in
    tells_usage usage reported mid written failed whole

unprinted_run : (usage : List ℕ) (words : List (List ℕ)) (old opened done new : Told) (printed : Printed) (reported : OutcomeView) (mid written : Option (List ℕ)) (middle failed : ℕ) → (it : Printeds usage old opened done new printed reported mid written middle failed)
    → printed ≡ Whole outcomes.Usage → done ≡ opened → mid ≡ it.before → TellsUsage usage old new reported
unprinted_run usage words old opened done new printed reported mid written middle failed it is still same =
    let reports : Reports usage old opened done new Usage reported written failed = record {
      before = it.before;
      opens = it.opens;
      tells = subst (λ (m : Option (List ℕ)). Tells usage Usage reported m written failed) same (usage_reported usage reported printed mid written middle failed is it.tells);
      closes = it.closes;
    } in
    let runs : RunsAs no_command words opened done Usage = record { form = λ arguments. absurd arguments; usage = λ none. (refl, still) } in
    (console_opened no_command usage words old opened done new Usage reported written failed reports runs).no_form (λ arguments form. form)

printed_run : (command : PrintingCommand) (usage : List ℕ) (arguments : command.Arguments) (old opened done new : Told) (printed : Printed) (reported : OutcomeView) (mid written : Option (List ℕ)) (middle failed : ℕ) → (it : Printeds usage old opened done new printed reported mid written middle failed)
    → PerformsPrinting command arguments opened done it.before mid middle printed → IsPrintedAs command arguments usage old new reported
printed_run command usage arguments old opened done new printed reported mid written middle failed it performs =
    let files = command.files arguments in
    let outcome = performs.outcome in
    record {
      opened = performs.opened;
      asked = it.closes.asked ∙ performs.opens.asked ∙ ap (λ asked. with_openings asked (take performs.opened files)) it.opens.asked ∙ openings_first old.openings console (take performs.opened files);
      pages = λ name other none. it.closes.pages name other ∙ performs.opens.pages name none ∙ it.opens.pages name other;
      lefts = λ name none. it.closes.lefts name ∙ performs.opens.lefts name none ∙ it.opens.lefts name;
      lines = performs.lines;
      outcome = outcome;
      does = subst (λ (fs : List File). command.Does arguments performs.opened fs (files_told new files) performs.lines outcome) (files_same files old opened performs.named it.opens.pages it.opens.lefts)
          (subst (λ (fs : List File). command.Does arguments performs.opened (files_told opened files) fs performs.lines outcome) (sym (files_same files done new performs.named it.closes.pages it.closes.lefts)) performs.does);
      before_console = done.faults;
      counts = wider files outcome old.faults done.faults done new (failed_stays files done new performs.named it.closes.pages it.closes.live)
          (subst (λ (f : Faults). HasCausesBeside ((outcome ≡ Failed faults.Read) × AnyFailed files done) f done.faults (outcome ≡ Failed faults.Read) (outcome ≡ Failed faults.Write) (outcome ≡ Failed faults.Open)) it.opens.counts performs.counts);
      failed = failed;
      closed = it.closes.counts;
      shows = subst (λ (p : Page). ShowsAfter performs.lines usage outcome reported failed p) (sym it.closes.own)
          (shown_after usage performs.lines outcome reported printed it.before mid written middle failed it.opens.empty performs.prints it.tells);
    }

-- a run with the console opened
pub printing_opened : (command : PrintingCommand) (usage : List ℕ) (words : List (List ℕ)) (old opened done new : Told) (printed : Printed) (reported : OutcomeView) (mid written : Option (List ℕ)) (middle failed : ℕ) → (it : Printeds usage old opened done new printed reported mid written middle failed)
    → PrintsAs command words opened done it.before mid middle printed → HasPrinted command usage words old new reported
printing_opened command usage words old opened done new printed reported mid written middle failed it runs = record {
  no_form = λ none. let is = runs.usage none in unprinted_run usage words old opened done new printed reported mid written middle failed it is.0 is.1 is.2;
  form = λ arguments spelled. printed_run command usage arguments old opened done new printed reported mid written middle failed it (runs.form arguments spelled);
}

-- ---- the steps of a command

-- words that were read as those of a form were run as that form
pub prints_form : {A : Type 0} (command : PrintingCommand) (read : A → command.Arguments) (words : List (List ℕ)) (result : Option A) (found : A) (old new : Told) (before written : Option (List ℕ)) (failed : ℕ) (printed : Printed) → result ≡ Some found → ((arguments : command.Arguments) → command.IsForm arguments words → option_map read result ≡ Some arguments) → command.IsForm (read found) words
    → PerformsPrinting command (read found) old new before written failed printed → PrintsAs command words old new before written failed printed
prints_form command read words result found old new before written failed printed is only spelled performs = record {
  form = λ arguments form.
      let same : Some (read found) ≡ Some arguments = sym (ap (option_map read) is) ∙ only arguments form in
      let one : read found ≡ arguments = cc in
      subst (λ (a : command.Arguments). PerformsPrinting command a old new before written failed printed) one performs;
  usage = λ none. absurd (none (read found) spelled);
}

-- words that were read as no form were told so, and nothing was done or printed
pub prints_usage : {A : Type 0} (command : PrintingCommand) (read : A → command.Arguments) (words : List (List ℕ)) (result : Option A) (desk : Told) (written : Option (List ℕ)) (failed : ℕ) → failed ≡ 0 → result ≡ None → ((arguments : command.Arguments) → command.IsForm arguments words → option_map read result ≡ Some arguments) → PrintsAs command words desk desk written written failed (Whole outcomes.Usage)
prints_usage command read words result desk written failed fresh is only = record {
  form = λ arguments form. absurd (let no : None ≡ Some arguments = sym (ap (option_map read) is) ∙ only arguments form in cc);
  usage = λ none. (refl, refl, refl, fresh);
}
