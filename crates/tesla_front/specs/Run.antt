-- What a run is: what was opened, what changed, what is told, and which count rose. It is that of any words over any
-- desk, told the command that the first word names and the usage lines of all.
use Rattle.std.specs.Prelude.{◌≡◌, ◌≢◌, ◌⊎◌, ℕ, ◌-◌, ◌^◌, ◌<◌, List, [], ◌∷◌, take, codes}
use Rattle.tesla_desk.specs.Faults.{Faults, CountsOpening, HasCausesBeside, Rose, after_sink}
use Rattle.tesla_desk.specs.Outside.{Opening, OfSource, OfSink, Told, with_openings, AsksPrefix}
use Rattle.tesla_front.specs.OutcomeView.{OutcomeView, Usage, Failed}
use Rattle.tesla_front.specs.Command.{Command, IsNoForm}
use Rattle.tesla_front.specs.Console.{Shows}
use Rattle.tesla_front.specs.Openings.{AnyFailed, IsAmong, files_told}
use Rattle.tesla_front.specs.declared.fault.Fault.TheVariants as faults

-- the console, which is opened first
abbrev pub console : Opening
console = OfSink (codes "-")

-- the console wasn't opened: nothing else was, and nothing is written
pub record HasNoConsole (old new : Told) (reported : OutcomeView) : Type 0 where
  pub fault : (reported ≡ Failed faults.Open) ⊎ (reported ≡ Failed faults.NoMemory)
  pub asked : AsksPrefix (console ∷ []) old.openings new.openings
  pub pages : (name : List ℕ) → new.page name ≡ old.page name
  pub lefts : (name : List ℕ) → new.left name ≡ old.left name
  pub live : new.live ≡ old.live
  pub counts : CountsOpening old.faults new.faults (reported ≡ Failed faults.Open)

-- words that are no form: the console alone was opened, and told so
pub record TellsUsage (usage : List ℕ) (old new : Told) (reported : OutcomeView) : Type 0 where
  pub asked : new.openings ≡ with_openings old.openings (console ∷ [])
  pub pages : (name : List ℕ) → name ≢ codes "-" → new.page name ≡ old.page name
  pub lefts : (name : List ℕ) → new.left name ≡ old.left name
  pub live : new.live ≡ old.live
  pub is_usage : reported ≡ Usage
  -- so many writes to the console failed, and nothing else did
  pub failed : ℕ
  pub counts : new.faults ≡ after_sink old.faults failed
  pub shows : Shows usage Usage reported failed (new.page (codes "-"))

-- words that are a form: the console was opened, the command did what it does, and the console is told what it came to
pub record IsDoneAs (command : Command) (arguments : command.Arguments) (usage : List ℕ) (old new : Told) (reported : OutcomeView) : Type 0 where
  -- after the console so many of its files were asked to be opened, in order
  pub opened : ℕ
  pub asked : new.openings ≡ with_openings old.openings (console ∷ take opened (command.files arguments))
  -- what is neither the console nor an output that was asked for is as before, and of what isn't an input that was asked for nothing was read
  pub pages : (name : List ℕ) → name ≢ codes "-" → (IsAmong (OfSink name) (take opened (command.files arguments)) → ⊥) → new.page name ≡ old.page name
  pub lefts : (name : List ℕ) → (IsAmong (OfSource name) (take opened (command.files arguments)) → ⊥) → new.left name ≡ old.left name
  -- the command did what it does, and came to the first thing that failed
  pub outcome : OutcomeView
  pub does : command.Does arguments opened (files_told old (command.files arguments)) (files_told new (command.files arguments)) outcome
  pub before_console : Faults
  pub counts : HasCausesBeside ((outcome ≡ Failed faults.Read) × AnyFailed (command.files arguments) new) old.faults before_console (outcome ≡ Failed faults.Read) (outcome ≡ Failed faults.Write) (outcome ≡ Failed faults.Open)
  -- and the console is told that, on which so many writes failed
  pub failed : ℕ
  pub closed : new.faults ≡ after_sink before_console failed
  pub shows : Shows usage outcome reported failed (new.page (codes "-"))

-- a run with the console opened
pub record HasConsole (command : Command) (usage : List ℕ) (words : List (List ℕ)) (old new : Told) (reported : OutcomeView) : Type 0 where
  pub no_form : IsNoForm command words → TellsUsage usage old new reported
  pub form : (arguments : command.Arguments) → command.IsForm arguments words → IsDoneAs command arguments usage old new reported

-- one run of the words over a desk: what it tells before and after, and what the run came to, as it was told
abbrev pub Runs : Command → List ℕ → List (List ℕ) → Told → Told → OutcomeView → Type 0
Runs command usage words old new reported = HasNoConsole old new reported ⊎ HasConsole command usage words old new reported

-- no count of faults rose, and none stands at the end of its type
pub record NothingFailed (old new : Faults) : Type 0 where
  pub reads : (new.reads ≡ old.reads) × (old.reads < 2 ^ 64 - 1)
  pub writes : (new.writes ≡ old.writes) × (old.writes < 2 ^ 64 - 1)
  pub openings : (new.openings ≡ old.openings) × (old.openings < 2 ^ 64 - 1)

-- the status of a fault comes only where its count rose
pub record HasStatusCauses (status : ℕ) (before now : Faults) : Type 0 where
  pub read : status ≡ 4 → Rose before.reads now.reads
  pub write : status ≡ 5 → Rose before.writes now.writes
  pub opening : status ≡ 7 → Rose before.openings now.openings
