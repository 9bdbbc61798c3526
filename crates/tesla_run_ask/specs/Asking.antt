-- What ask comes to, and what ASK-OUT holds.
use Rattle.std.specs.Prelude.{ℕ, List, [], ◌∷◌, codes}
use Rattle.tesla_desk.specs.Outside.{Page}
use Rattle.tesla_front.specs.OutcomeView.{OutcomeView}
use Rattle.tesla_front.specs.Command.{Command}
use Rattle.tesla_front.specs.Lines.{count_line}
use Rattle.tesla_front.specs.Openings.{File}
use Rattle.tesla_sync.specs.Ask.{IsAsk}
use Rattle.tesla_run_ask.specs.Arguments.{AskArguments, IsAskForm, files_of_ask}
use Rattle.tesla_run_ask.specs.Writing.{WritesMessage}

-- the line that tells the reading that was asked at
abbrev pub asked_line : ℕ → List ℕ
asked_line reading = count_line (codes "asked") reading

-- the ask of this reading was written
pub record Asks (reading : ℕ) (before after : Page) (outcome : OutcomeView) : Type 0 where
  pub message : List ℕ
  pub is_ask : IsAsk message reading
  pub writes : WritesMessage message (asked_line reading) before after outcome

-- a run of the command, with what is told of ASK-OUT before and after it, and what it came to
abbrev pub DoesAsk : AskArguments → ℕ → List File → List File → OutcomeView → Type 0
DoesAsk arguments opened (out ∷ []) (written ∷ []) outcome = Asks arguments.reading out.page written.page outcome
DoesAsk arguments opened before after outcome = ⊥

-- the command
abbrev pub ask : Command
ask = record { Arguments = AskArguments; IsForm = IsAskForm; files = files_of_ask; Does = DoesAsk }
