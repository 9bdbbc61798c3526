-- What a command does that is receive with one output more. It is opened behind the sinks.
use Rattle.std.specs.Prelude.{◌≡◌, ◌⊎◌, ℕ, suc, true, List, [], ◌∷◌, ◌++◌, length, take, drop, Option, Some}
use Rattle.tesla_commit.specs.Parts.{Parts}
use Rattle.tesla_desk.specs.Live.{Live}
use Rattle.tesla_desk.specs.Outside.{Opening, OfSink, Page, Holds}
use Rattle.tesla_front.specs.OutcomeView.{OutcomeView, Failed}
use Rattle.tesla_front.specs.Command.{Command}
use Rattle.tesla_front.specs.Openings.{File}
use Rattle.tesla_front.specs.declared.fault.Fault.TheVariants.{Read, Write}
use Rattle.tesla_receiver.specs.declared.history.Entry.{Entry}
use Rattle.tesla_turn.specs.Held.{Ended}
use Rattle.tesla_turn.specs.History.{entries}
use Rattle.tesla_run_receive.specs.Arguments.{ReceiveArguments, files_of_receive, workers_wanted}
use Rattle.tesla_run_receive.specs.Receive.{LiveKind, Receives, Stops}
use Rattle.tesla_run_receive.specs.OutputArguments.{OutputArguments}

-- a form of a live command with one output more: its kind, which words ask for what, and what the output's page holds, told the setup and the history that was made under it
pub record WithOutput (V R : Type 0) : Type 1 where
  pub kind : LiveKind V R
  pub IsForm : OutputArguments → List (List ℕ) → Type 0
  pub Holds : OutputArguments → Parts → List (Entry V R) → Page → Type 0

-- where the output failed, a link or an output is told to have failed
abbrev pub TellsFailed : Page → OutcomeView → Type 0
TellsFailed (Holds bytes true) outcome = (outcome ≡ Failed Read) ⊎ (outcome ≡ Failed Write)
TellsFailed _ outcome = Unit {0}

-- what is opened, in order: the setup, the links, the sinks and the output
abbrev pub files_with : ReceiveArguments → List ℕ → List Opening
files_with arguments output = files_of_receive arguments ++ OfSink output ∷ []

module _ {V R : Type 0} where
  -- the output, as the only file behind the sinks, told the history that was made
  abbrev pub OutputHolds : (List (Entry V R) → Page → Type 0) → Option (Ended (Entry V R)) → List File → OutcomeView → Type 0
  OutputHolds Told (Some end) (output ∷ []) outcome = Told (entries end.history) output.page × TellsFailed output.page outcome
  OutputHolds Told _ _ outcome = ⊥

  -- what the run does: nothing was received, nor written to an output; or all was opened, a history was received, and the output holds what the form says of it and of the setup
  abbrev pub DoesWith : LiveKind V R → ReceiveArguments → (Parts → List (Entry V R) → Page → Type 0) → Live → Live → Option (Ended (Entry V R)) → ℕ → List File → List File → OutcomeView → Type 0
  DoesWith kind arguments Told before now last opened (setup ∷ files) (setup_now ∷ files_now) outcome =
      Stops kind arguments opened before now last setup (drop (length arguments.links) files) (drop (length arguments.links) files_now) outcome
      ⊎ ((opened ≡ suc (suc (length (workers_wanted arguments))))
      × (received : Receives kind arguments before now last setup (take (length arguments.sinks) (drop (length arguments.links) files_now)) outcome)
      × OutputHolds (Told received.parts) last (drop (length arguments.sinks) (drop (length arguments.links) files_now)) outcome)
  DoesWith kind arguments Told before now last opened files files_now outcome = ⊥

  -- the command of a form, told what the desk has of links and clocks before and afterwards, and the end of the turn where there was one: its words, its files and what it does
  abbrev pub with_output : WithOutput V R → Live → Live → Option (Ended (Entry V R)) → Command
  with_output form before now last = record {
    Arguments = OutputArguments;
    IsForm = form.IsForm;
    files = λ arguments. files_with arguments.receive arguments.output;
    Does = λ arguments. DoesWith form.kind arguments.receive (form.Holds arguments) before now last;
  }
