-- Where nothing fails, a live run ends or lacks memory. The inputs are in their grammars.
use Rattle.std.specs.Prelude.{◌≡◌, ◌⊎◌, ℕ, ◌<◌, Bool, List, length, Option, None, IfSome}
use Rattle.tesla_capture.specs.Outline.{outline_of}
use Rattle.tesla_commit.specs.Parts.{Parts}
use Rattle.tesla_desk.specs.Live.{Live}
use Rattle.tesla_desk.specs.Outside.{Told, Holds}
use Rattle.tesla_front.specs.Command.{Performs}
use Rattle.tesla_front.specs.OutcomeView.{OutcomeView, Failed, IsDone}
use Rattle.tesla_front.specs.Run.{NothingFailed}
use Rattle.tesla_front.specs.Setup.{IsSetupText}
use Rattle.tesla_front.specs.declared.fault.Fault.TheVariants as faults
use Rattle.tesla_receiver.specs.Entries as receiving
use Rattle.tesla_receiver.specs.declared.history.Entry.{Entry}
use Rattle.tesla_run_capture.specs.Arguments.{CaptureArguments}
use Rattle.tesla_run_capture.specs.Capture.{capture}
use Rattle.tesla_run_receive.specs.Arguments.{ReceiveArguments}
use Rattle.tesla_run_receive.specs.Output.{WithOutput, with_output}
use Rattle.tesla_run_receive.specs.OutputArguments.{OutputArguments}
use Rattle.tesla_run_receive.specs.Receive.{entries_of_ingest, receive}
use Rattle.tesla_run_relay.specs.Arguments.{RelayArguments}
use Rattle.tesla_run_relay.specs.Relay.{relay}
use Rattle.tesla_run_relay.specs.play.Arguments.{PlayArguments}
use Rattle.tesla_run_relay.specs.play.Playing.{play}
use Rattle.tesla_session.specs.Session.{calls_most}
use Rattle.tesla_shared.specs.Whole.{replies_by}
use Rattle.tesla_turn.specs.Held.{Ended}
use Rattle.tesla_turn.specs.History.{entries}

-- the run came to its end, so its status is 0, or to want of memory
abbrev pub ComesToEnd : OutcomeView → Type 0
ComesToEnd outcome = IsDone outcome ⊎ (outcome ≡ Failed faults.NoMemory)

-- ---- the receivers

module _ {V R : Type 0} where
  -- a history has fewer entries of each ingest, and fewer takes of each releaser, than a worker may make calls
  pub record HasFewCalls (links sinks : ℕ) (history : List (Entry V R)) : Type 0 where
    pub of_links : (ingest : ℕ) → ingest < links → entries_of_ingest ingest history < calls_most
    pub of_sinks : (releaser : ℕ) → releaser < sinks → length (replies_by releaser history) < calls_most

  -- so it is of the history that was made, where there was one
  abbrev pub HaveFewCalls : ReceiveArguments → Option (Ended (Entry V R)) → Type 0
  HaveFewCalls arguments last =
      IfSome last (λ end. HasFewCalls (length arguments.links) (length arguments.sinks) (entries end.history))

-- receive: where the desk tells a setup, and no worker came to the end of its calls
abbrev pub ReceiveIsComplete : Type 0
ReceiveIsComplete =
    (arguments : ReceiveArguments) (before now : Live) (last : Option (Ended receiving.Entry)) (old new : Told)
    (outcome : OutcomeView) (text : List ℕ) (failed : Bool) (setup : Parts) →
    Performs (receive before now last) arguments old new outcome →
    old.page arguments.setup ≡ Holds text failed → IsSetupText text setup → HaveFewCalls arguments last →
    NothingFailed old.faults new.faults → ComesToEnd outcome

-- the same of a form of receive with one output more
abbrev pub OutputIsComplete : {V R : Type 0} → WithOutput V R → Type 0
OutputIsComplete {V} {R} form =
    (arguments : OutputArguments) (before now : Live) (last : Option (Ended (Entry V R))) (old new : Told)
    (outcome : OutcomeView) (text : List ℕ) (failed : Bool) (setup : Parts) →
    Performs (with_output form before now last) arguments old new outcome →
    old.page arguments.receive.setup ≡ Holds text failed → IsSetupText text setup → HaveFewCalls arguments.receive last →
    NothingFailed old.faults new.faults → ComesToEnd outcome

-- ---- the relays

-- relay has no input but its link
abbrev pub RelayIsComplete : Type 0
RelayIsComplete =
    (arguments : RelayArguments) (before now : Live) (old new : Told) (outcome : OutcomeView) →
    Performs (relay before now) arguments old new outcome → NothingFailed old.faults new.faults → ComesToEnd outcome

-- play: where the desk tells a capture
abbrev pub PlayIsComplete : Type 0
PlayIsComplete =
    (arguments : PlayArguments) (before now : Live) (old new : Told) (outcome : OutcomeView)
    (bytes : List ℕ) (failed : Bool) →
    Performs (play before now) arguments old new outcome →
    old.page arguments.capture ≡ Holds bytes failed → (outline_of bytes).fault ≡ None →
    NothingFailed old.faults new.faults → ComesToEnd outcome

-- capture has no input but its link
abbrev pub CaptureIsComplete : Type 0
CaptureIsComplete =
    (arguments : CaptureArguments) (before now : Live) (old new : Told) (outcome : OutcomeView) →
    Performs (capture before now) arguments old new outcome → NothingFailed old.faults new.faults → ComesToEnd outcome
