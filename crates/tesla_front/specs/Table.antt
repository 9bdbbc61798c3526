-- A table of commands, and one run of it. The console is opened before and closed afterwards, and the history that the run leaves stays.
use Rattle.std.specs.Prelude.{◌≡◌, ◌≢◌, ◌⊎◌, ℕ, Bool, true, false, Option, None, IfSome, List, [], ◌∷◌, codes}
use denote.Ref.{MutBor}
use Rattle.std.specs.List.{list_any}
use Rattle.std.specs.Str.{bytes_eq}
use Rattle.tesla_desk.specs.Live.{Live}
use Rattle.tesla_desk.specs.Outside.{ClosesSink, Told, with_opening}
use Rattle.tesla_front.specs.OutcomeView.{OutcomeView, Usage, outcome_view}
use Rattle.tesla_front.specs.Command.{Command, IsNoForm, RunsAs, no_command}
use Rattle.tesla_front.specs.Console.{Tells}
use Rattle.tesla_front.specs.Run.{HasConsole, HasNoConsole, console}
use Rattle.tesla_front.specs.declared.outcome.LiveRun.{LiveRun}

-- ---- the words

-- the first word is one of these names
abbrev pub is_named : List (List ℕ) → List (List ℕ) → Bool
is_named names [] = false
is_named names (word ∷ words) = list_any (λ name. bytes_eq name word) names

-- the first word is this one
abbrev pub IsFirst : List ℕ → List (List ℕ) → Type 0
IsFirst name [] = ⊥
IsFirst name (word ∷ words) = word ≡ name

-- the command where the word is this one, and else another
abbrev pub where_named : Bool → Command → Command → Command
where_named true command other = command
where_named false command other = other

-- the command of these words, told which one a word names: the first of them names it
abbrev pub command_in : (List ℕ → Command) → List (List ℕ) → Command
command_in named [] = no_command
command_in named (word ∷ words) = named word

-- ---- the run

-- the console was opened, with this written on it, and nothing else has changed
pub record OpensConsole (old opened : Told) (before : Option (List ℕ)) : Type 0 where
  pub asked : opened.openings ≡ with_opening old.openings console
  pub pages : (name : List ℕ) → name ≢ codes "-" → opened.page name ≡ old.page name
  pub lefts : (name : List ℕ) → opened.left name ≡ old.left name
  pub live : opened.live ≡ old.live
  pub counts : opened.faults ≡ old.faults
  pub empty : IfSome before (λ bytes. bytes ≡ [])

-- the console was opened before what was done, told what came, and closed
pub record Reports (usage : List ℕ) (old opened done new : Told) (outcome reported : OutcomeView) (written : Option (List ℕ)) (failed : ℕ) : Type 0 where
  pub before : Option (List ℕ)
  pub opens : OpensConsole old opened before
  pub tells : Tells usage outcome reported before written failed
  pub closes : ClosesSink (codes "-") written failed done new

-- the same, with something written on the console, where so many of its calls failed
abbrev pub ReportsRun : List ℕ → Told → Told → Told → Told → OutcomeView → OutcomeView → Type 0
ReportsRun usage old opened done new outcome reported = (written : Option (List ℕ)) × (failed : ℕ) × Reports usage old opened done new outcome reported written failed

-- this ran over a desk whose console is open, told which calls at a desk there may be, and the console was told what it came to; the history that it left stays
pub record TellsRun {D T : Type 0} (told : D → Told) (Runs : MutBor D → LiveRun T → MutBor D → Type 0) (usage : List ℕ) (old new : D)
    (result : LiveRun T) : Type 0 where
  pub opened : MutBor D
  pub run : LiveRun T
  pub done : MutBor D
  pub runs : Runs opened run done
  pub last : result.last ≡ run.last
  pub written : Option (List ℕ)
  pub failed : ℕ
  pub reports : Reports usage (told old) (told opened.now) (told done.now) (told new) (outcome_view run.outcome) (outcome_view result.outcome) written failed

-- this ran with the console; without one nothing was opened or run
abbrev pub RunsConsole : {D T : Type 0} → (D → Told) → (MutBor D → LiveRun T → MutBor D → Type 0) → List ℕ → D → D → LiveRun T → Type 0
RunsConsole told Runs usage old new result =
    (HasNoConsole (told old) (told new) (outcome_view result.outcome) × (result.last ≡ None)) ⊎ TellsRun told Runs usage old new result

-- the words were run as those of the command, told the history that they leave: there is none of words that are no form, nor where they don't leave one
pub record RunsLeaving {T : Type 0} (command : Live → Live → Option T → Command) (Leaves : Type 0) (words : List (List ℕ)) (old new : Told) (last : Option T)
    (outcome : OutcomeView) : Type 0 where
  pub runs : RunsAs (command old.live new.live last) words old new outcome
  pub none : outcome ≡ Usage → last ≡ None
  pub others : (Leaves → ⊥) → last ≡ None

-- one run of the words of a table over a desk: what it tells before and after, the whole history where there is one, and what the run came to, as it was told
abbrev pub RunsTable : {T : Type 0} → (Live → Live → Option T → Command) → Type 0 → List ℕ → List (List ℕ) → Told → Told → Option T → OutcomeView → Type 0
RunsTable command Leaves usage words old new last reported =
    (HasNoConsole old new reported × (last ≡ None))
    ⊎ (HasConsole (command old.live new.live last) usage words old new reported
    × (IsNoForm (command old.live new.live last) words → last ≡ None) × ((Leaves → ⊥) → last ≡ None))
