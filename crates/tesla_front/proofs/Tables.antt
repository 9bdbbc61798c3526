-- A table of commands: which of them words name, and one run of it, from what was run with the console.
use Rattle.std.proofs.Common.{◌≡◌, ◌≤◌, ◌∙◌, inl, inr, ◌||◌, Bool, true, Option, List, [], ◌∷◌, ℕ, length, get_or, map, refl, sym, ap, subst, arith}
use denote.Ref.{Bor, MutBor}
use Rattle.std.specs.List.{list_any}
use Rattle.std.specs.Str.{bytes_eq}
use Rattle.std.proofs.lemmas.Slice.Eq.{bytes_eq-Decides}
use Rattle.tesla_desk.specs.Live.{Live}
use Rattle.tesla_desk.specs.Outside.{Told}
use Rattle.tesla_front.specs.OutcomeView.{OutcomeView, outcome_view, status_of}
use Rattle.tesla_front.specs.Command.{Command, IsNoForm, RunsAs}
use Rattle.tesla_front.specs.Forms.{HasFirst, WordIs}
use Rattle.tesla_front.specs.Parts.{texts_of}
use Rattle.tesla_front.specs.Run.{HasStatusCauses, Runs}
use Rattle.tesla_front.specs.Table.{IsFirst, ReportsRun, RunsConsole, RunsLeaving, RunsTable, is_named}
use Rattle.tesla_front.specs.declared.outcome.LiveRun.{LiveRun}
use Rattle.tesla_front.specs.declared.outcome.Outcome.{Outcome}
use Rattle.tesla_front.proofs.Consoles.{live_console_opened}
use Rattle.tesla_front.proofs.Statuses.{own_status, status_causes}

-- ---- the words

any_text : (names : List (Bor (List ℕ))) (word : List ℕ)
    → list_any (λ name. bytes_eq name.now word) names ≡ list_any (λ name. bytes_eq name word) (texts_of names)
any_text [] word = refl
any_text (name ∷ names) word = ap (λ rest. bytes_eq name.now word || rest) (any_text names word)

-- the first of some words, told, is one of these names
pub first_named : {A : Type 0} (f : A → List ℕ) (names : List (Bor (List ℕ))) (xs : List A) (first : A) (word : List ℕ) → 1 ≤ length xs
    → first ≡ get_or xs 0 first → word ≡ f first
    → list_any (λ name. bytes_eq name.now word) names ≡ is_named (texts_of names) (map f xs)
first_named f names [] first word some is same = absurd (omega arith)
first_named f names (x ∷ xs) first word some is same = any_text names word ∙ ap (λ w. list_any (λ name. bytes_eq name w) (texts_of names)) (same ∙ ap f is)

-- where the first of some words, told, is tested to be this name, it is
pub first_is : {A : Type 0} (f : A → List ℕ) (name : List ℕ) (xs : List A) (first : A) (word : List ℕ) (test : Bool) → 1 ≤ length xs
    → first ≡ get_or xs 0 first → word ≡ f first → test ≡ bytes_eq word name → test ≡ true → IsFirst name (map f xs)
first_is f name [] first word test some is same tests passed = absurd (omega arith)
first_is f name (x ∷ xs) first word test some is same tests passed = sym (same ∙ ap f is) ∙ (bytes_eq-Decides word name).0 (sym tests ∙ passed)

-- words of a form begin with its name
pub begins_with_name : {Others : List (List ℕ) → Type 0} (name : List ℕ) (words : List (List ℕ)) (is : HasFirst (WordIs name) Others words) → words ≡ name ∷ is.others
begins_with_name name words is = is.are ∙ ap (λ (word : List ℕ). word ∷ is.others) is.first

-- words that are spelled so were run as the command of such words
pub as_spelled : (command : List (List ℕ) → Command) (words spelled : List (List ℕ)) (old new : Told) (outcome : OutcomeView) → words ≡ spelled
    → RunsAs (command words) words old new outcome → RunsAs (command spelled) words old new outcome
as_spelled command words spelled old new outcome is runs = subst (λ (all : List (List ℕ)). RunsAs (command all) words old new outcome) is runs

-- ---- the run

-- words that were run with the console, which was told what that came to, are a run of their command
pub table_ran : {T : Type 0} (command : Live → Live → Option T → Command) (Leaves : Type 0) (usage : List ℕ) (words : List (List ℕ)) (old opened done new : Told)
    (last : Option T) (outcome reported : OutcomeView) → ReportsRun usage old opened done new outcome reported
    → RunsLeaving command Leaves words opened done last outcome → RunsTable command Leaves usage words old new last reported
table_ran command Leaves usage words old opened done new last outcome reported (written, failed, reports) ran =
    let live = λ (before now : Live). command before now last in
    let unformed : IsNoForm (live old.live new.live) words → IsNoForm (live opened.live done.live) words =
    λ none. subst (λ (now : Live). IsNoForm (live opened.live now) words) reports.closes.live
    (subst (λ (before : Live). IsNoForm (live before new.live) words) (sym reports.opens.live) none) in
    inr (
      live_console_opened live usage words old opened done new outcome reported written failed reports ran.runs,
      λ none. ran.none (ran.runs.usage (unformed none)).0,
      ran.others,
    )

-- what was run with the console is a run of its command, told what the desk has of clocks before and afterwards
pub live_run : {D T : Type 0} (told : D → Told) (Calls : MutBor D → LiveRun T → MutBor D → Type 0) (command : Live → Live → Command) (usage : List ℕ)
    (words : List (List ℕ)) (old new : D) (result : LiveRun T)
    → ((opened done : MutBor D) (run : LiveRun T) → Calls opened run done → RunsAs (command (told opened.now).live (told done.now).live) words (told opened.now) (told done.now) (outcome_view run.outcome))
    → RunsConsole told Calls usage old new result → Runs (command (told old).live (told new).live) usage words (told old) (told new) (outcome_view result.outcome)
live_run told Calls command usage words old new result runs (inl none) = inl none.0
live_run told Calls command usage words old new result runs (inr it) =
    inr (live_console_opened command usage words (told old) (told it.opened.now) (told it.done.now) (told new) (outcome_view it.run.outcome)
    (outcome_view result.outcome) it.written it.failed it.reports (runs it.opened it.done it.run it.runs))

-- so it is where the command is told neither
pub plain_run : {D T : Type 0} (told : D → Told) (Calls : MutBor D → LiveRun T → MutBor D → Type 0) (command : Command) (usage : List ℕ)
    (words : List (List ℕ)) (old new : D) (result : LiveRun T)
    → ((opened done : MutBor D) (run : LiveRun T) → Calls opened run done → RunsAs command words (told opened.now) (told done.now) (outcome_view run.outcome))
    → RunsConsole told Calls usage old new result → Runs command usage words (told old) (told new) (outcome_view result.outcome)
plain_run told Calls command usage words old new result runs console = live_run told Calls (λ _ _. command) usage words old new result runs console

-- where what is run with the console changes nothing that lives, the whole run changes nothing of it
pub plain_live : {D T : Type 0} (told : D → Told) (Calls : MutBor D → LiveRun T → MutBor D → Type 0) (usage : List ℕ) (old new : D) (result : LiveRun T)
    → ((opened done : MutBor D) (run : LiveRun T) → Calls opened run done → (told done.now).live ≡ (told opened.now).live)
    → RunsConsole told Calls usage old new result → (told new).live ≡ (told old).live
plain_live told Calls usage old new result stays (inl none) = none.0.live
plain_live told Calls usage old new result stays (inr it) = it.reports.closes.live ∙ stays it.opened it.done it.run it.runs ∙ it.reports.opens.live

-- the status of what a run came to is that of a fault only where its count rose
pub plain_causes : (command : Command) (usage : List ℕ) (words : List (List ℕ)) (old new : Told) (outcome : Outcome) (status : ℕ)
    → status ≡ status_of (outcome_view outcome)
    → Runs command usage words old new (outcome_view outcome) → HasStatusCauses status old.faults new.faults
plain_causes command usage words old new outcome status is runs =
    subst (λ (s : ℕ). HasStatusCauses s old.faults new.faults) (sym is)
    (status_causes command usage words old new (outcome_view outcome) (own_status outcome) runs)

-- so it is of a command that is told the history
pub table_causes : {T : Type 0} (command : Live → Live → Option T → Command) (Leaves : Type 0) (usage : List ℕ) (words : List (List ℕ)) (old new : Told)
    (last : Option T) (outcome : Outcome) (status : ℕ) → status ≡ status_of (outcome_view outcome)
    → RunsTable command Leaves usage words old new last (outcome_view outcome) → HasStatusCauses status old.faults new.faults
table_causes command Leaves usage words old new last outcome status is (inl none) =
    plain_causes (command old.live new.live last) usage words old new outcome status is (inl none.0)
table_causes command Leaves usage words old new last outcome status is (inr ran) =
    plain_causes (command old.live new.live last) usage words old new outcome status is (inr ran.0)
