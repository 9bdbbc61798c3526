-- What a live run comes to: its workers, and what is beside them.
use Rattle.std.specs.Prelude.{◌≡◌, ◌⊎◌, ◌||◌, ℕ, Bool, true, false, List, [], ◌∷◌, ◌++◌, Option, Some, None, Ok}
use Rattle.std.specs.List.{list_any}
use Rattle.tesla_fitting.specs.declared.verdict.Verdict.{Verdict}
use Rattle.tesla_state.specs.declared.replies.Reply.{Reply}
use Rattle.tesla_shared.specs.Receiving.{yield_of}
use Rattle.tesla_desk.specs.Faults.{HasCause}
use Rattle.tesla_desk.specs.Outside.{Told, Opening, OfSink, Page, OpensSink, ClosesSink, MakesClock, page_of}
use Rattle.tesla_fitting.specs.declared.config.Config.{Config}
use Rattle.tesla_front.specs.OutcomeView.{OutcomeView, Failed}
use Rattle.tesla_front.specs.declared.fault.Fault.{Fault}
use Rattle.tesla_front.specs.declared.fault.Fault.TheVariants.{NoMemory}
use Rattle.tesla_receiver.specs.History.{IsLegal}
use Rattle.tesla_receiver.specs.Report.{report_of}
use Rattle.tesla_receiver.specs.declared.history.Entry.{Entry}
use Rattle.tesla_run_replay.specs.ReportText.{report_text}
use Rattle.tesla_session.specs.Session.{ClosesWorkers, OpensAll, PassSeen, RefusedSession, RefusesWorker, RunsOpened, Seen, outcome_by, has_spent, link_failed, sink_failed, stop_by}
use Rattle.tesla_session.specs.Wanted.{Wanted, WantedSink}
use Rattle.tesla_shared.specs.Yields.{Yield}
use Rattle.tesla_turn.specs.Held.{Ended, TurnId}
use Rattle.tesla_turn.specs.History.{entries}

-- ---- a station

-- what a run is told of its station: what a sink gets of an answer, which histories are legal, and the text for the console of a history
pub record Behaviour (V R : Type 0) : Type 1 where
  pub yields : R → Yield
  pub IsLegal : List (Entry V R) → Type 0
  pub text : List (Entry V R) → List ℕ

-- that of a station that answers as a receiver of one stream with this configuration
abbrev pub receiving : Config → Behaviour Verdict Reply
receiving config = record { yields = yield_of; IsLegal = IsLegal config; text = λ history. report_text (report_of history) }

-- ---- one output more, or none

-- these openings, and then that of the output
abbrev pub with_behind : List Opening → Option (List ℕ) → List Opening
with_behind files None = files
with_behind files (Some output) = files ++ OfSink output ∷ []

-- the output was opened, and then a clock more may have been made
abbrev pub OpensBehind : Option (List ℕ) → Told → Told → Type 0
OpensBehind None before now = now ≡ before
OpensBehind (Some output) before now = (opened : Told) × OpensSink {A = Unit {0}} output (Ok tt) before opened × ((now ≡ opened) ⊎ MakesClock opened now)

-- the opening of the output was refused
abbrev pub RefusesBehind : Option (List ℕ) → Told → Told → Fault → Type 0
RefusesBehind None before now fault = ⊥
RefusesBehind (Some output) before now fault = RefusesWorker (WantedSink 0 output) before now fault

-- the output was closed, told what its page holds then, and whether it failed
pub record EndsOutput (Holds : Page → Type 0) (output : List ℕ) (before now : Told) (failed : Bool) : Type 0 where
  pub written : Option (List ℕ)
  pub faults : ℕ
  pub holds : Holds (page_of written faults)
  pub cause : HasCause 0 faults (failed ≡ true)
  pub closes : ClosesSink output written faults before now

abbrev pub EndsBehind : (Page → Type 0) → Option (List ℕ) → Told → Told → Bool → Type 0
EndsBehind Holds None before now failed = (now ≡ before) × (failed ≡ false)
EndsBehind Holds (Some output) before now failed = EndsOutput Holds output before now failed

-- ---- a run

-- there was no memory, and nothing was opened
pub record Unopened {E : Type 0} (before now : Told) (last : Option (Ended E)) (outcome : OutcomeView) : Type 0 where
  pub same : now ≡ before
  pub none : last ≡ None
  pub outcome_is : outcome ≡ Failed NoMemory

module _ (V R : Type 0) {C : Type 0} where
  -- the opening of the output was refused, and the workers were closed
  pub record RefusedOutput (wanted : List Wanted) (cfg : C) (output : Option (List ℕ)) (before now : Told) (fault : Fault) : Type 0 where
    pub turn : TurnId
    pub first : PassSeen C V R
    pub later : PassSeen C V R
    pub workers : List (Seen C V R)
    pub opened : Told
    pub opens : OpensAll wanted cfg before opened turn first workers
    pub tried : Told
    pub refuses : RefusesBehind output opened tried fault
    pub closes : ClosesWorkers workers tried now first later

module _ {C V R : Type 0} where
  -- the opening of a link, of a sink or of the output was refused, and what was opened before was closed
  pub record Refused (wanted : List Wanted) (cfg : C) (output : Option (List ℕ)) (before now : Told) (last : Option (Ended (Entry V R))) (outcome : OutcomeView) : Type 0 where
    pub fault : Fault
    pub refused : RefusedSession V R wanted cfg before now fault ⊎ RefusedOutput V R wanted cfg output before now fault
    pub none : last ≡ None
    pub outcome_is : outcome ≡ Failed fault

  module _ (behaviour : Behaviour V R) (Holds : List (Entry V R) → Page → Type 0) (output : Option (List ℕ)) where
    -- workers that are opened did their work and were closed, and then the output was: one legal history was made, and the text for the console is its own
    pub record RunsBegun (first : PassSeen C V R) (workers : List (Seen C V R)) (running now : Told) (last : Option (Ended (Entry V R))) (outcome : OutcomeView) : Type 0 where
      pub closed : Told
      pub end : Ended (Entry V R)
      pub stop : Option OutcomeView
      pub ran : RunsOpened behaviour.yields first workers running closed end stop
      pub failed : Bool
      pub ends : EndsBehind (Holds (entries end.history)) output closed now failed
      pub last_is : last ≡ Some end
      pub legal : behaviour.IsLegal (entries end.history)
      pub outcome_is : outcome ≡ outcome_by (stop_by (list_any link_failed ran.done) (list_any sink_failed ran.done || failed) (list_any has_spent ran.done)) (behaviour.text (entries end.history))

    -- all was opened, and the workers did their work
    pub record Ran (wanted : List Wanted) (cfg : C) (before now : Told) (last : Option (Ended (Entry V R))) (outcome : OutcomeView) : Type 0 where
      pub turn : TurnId
      pub first : PassSeen C V R
      pub workers : List (Seen C V R)
      pub opened : Told
      pub opens : OpensAll wanted cfg before opened turn first workers
      pub running : Told
      pub behind : OpensBehind output opened running
      pub runs : RunsBegun first workers running now last outcome

    -- what a run comes to, told the behaviour of the station, what the output then holds of the history, and the configuration of the station
    abbrev pub RunsStation : List Wanted → C → Told → Told → Option (Ended (Entry V R)) → OutcomeView → Type 0
    RunsStation wanted cfg before now last outcome = Unopened before now last outcome ⊎ Refused wanted cfg output before now last outcome ⊎ Ran wanted cfg before now last outcome
