-- What receive does: one legal history, and what links, clocks and sinks have of it. Commands over other stations do as it does.
use Rattle.std.specs.Prelude.{◌≡◌, ◌⊎◌, ℕ, zero, suc, ◌<◌, ◌≤◌, true, false, List, [], ◌∷◌, ◌++◌, length, map, drop, Option, Some, None}
use Rattle.std.specs.List.{list_all, Contains}
use Rattle.tesla_commit.specs.Parts.{Parts}
use Rattle.tesla_desk.specs.Clocks.{readings_from}
use Rattle.tesla_desk.specs.Faults.{raised}
use Rattle.tesla_desk.specs.Links.{datagrams}
use Rattle.tesla_desk.specs.Live.{Live, Wire, UntoldWire, AbsentWire, HoldsWire, Remainder, LeavesAll}
use Rattle.tesla_desk.specs.Outside.{Page, Untold, Absent, Holds}
use Rattle.tesla_desk.specs.declared.link.Letter.{Letter}
use Rattle.tesla_fitting.specs.declared.config.Config.{Config}
use Rattle.tesla_fitting.specs.declared.verdict.Verdict.{Verdict}
use Rattle.tesla_front.specs.OutcomeView.{OutcomeView, Done, Refused, Failed}
use Rattle.tesla_front.specs.Command.{Command}
use Rattle.tesla_front.specs.Files.{IsPrefix, IsUnwritten}
use Rattle.tesla_front.specs.Openings.{File}
use Rattle.tesla_front.specs.Setup.{IsSetupIn, IsNoSetup}
use Rattle.tesla_front.specs.declared.fault.Fault.TheVariants as faults
use Rattle.tesla_receiver.specs.History.{arrivals_in, given_in, has_end}
use Rattle.tesla_receiver.specs.Packets.{released}
use Rattle.tesla_receiver.specs.declared.history.Entry.{Entry}
use Rattle.tesla_shared.specs.Whole.{arrivals_by, replies_by, is_of_workers}
use Rattle.tesla_shared.specs.Workers.{bytes_of, reading_of}
use Rattle.tesla_shared.specs.Yields.{Yield, Over, record_of, records}
use Rattle.tesla_state.specs.declared.replies.Reply.{Reply}
use Rattle.tesla_turn.specs.Held.{Ended}
use Rattle.tesla_turn.specs.History.{entries, HasCalls}
use Rattle.tesla_run_receive.specs.Arguments.{ReceiveArguments, IsReceive, workers_wanted, files_of_receive}
use Rattle.tesla_run_receive.specs.Running.{Behaviour, receiving}
use Rattle.tesla_session.specs.Session.{calls_most, spent_line}

-- the configuration of a receiver: that of the words, with an ingest for each link
abbrev pub config_of : ReceiveArguments → Parts → Config
config_of arguments setup =
    record { setup = setup; lag = arguments.lag; capacity = arguments.limits.capacity; quota = arguments.limits.quota; ingests = length arguments.links }

-- A kind of live command: which setups it takes, and why it takes none; and told the configuration, how its station behaves, and which histories have all that is to be given
pub record LiveKind (V R : Type 0) : Type 1 where
  pub IsSetup : Page → Parts → Type 0
  pub IsNoSetup : Page → OutcomeView → Type 0
  pub behaviour : Config → Behaviour V R
  pub IsComplete : Config → List (Entry V R) → Type 0

-- ---- links

-- the number of the clock that is made so many clocks later: the number stands still at the end of its type
abbrev pub clock_after : ℕ → ℕ → ℕ
clock_after zero made = made
clock_after (suc number) made = raised (clock_after number made)

module _ {V R : Type 0} where
  -- how many entries of a history are of an ingest: its arrivals and one end
  abbrev pub entries_of_ingest : ℕ → List (Entry V R) → ℕ
  entries_of_ingest ingest history = suc (length (arrivals_by ingest history))

  -- the letters that left a link, which were all but where it failed or its calls were spent, and each datagram among them is one arrival
  pub record LeftLink (ingest : ℕ) (letters : List Letter) (remainder : Remainder) (history : List (Entry V R)) : Type 0 where
    pub taken : List Letter
    pub letters_are : letters ≡ taken ++ remainder.letters
    pub arrivals : map bytes_of (arrivals_by ingest history) ≡ datagrams taken
    pub all : remainder.failed ≡ false → entries_of_ingest ingest history < calls_most → remainder.letters ≡ []

  abbrev pub LeftWhere : ℕ → Wire → Option Remainder → List (Entry V R) → Type 0
  LeftWhere ingest (HoldsWire letters) (Some remainder) history = LeftLink ingest letters remainder history
  LeftWhere ingest (HoldsWire letters) None history = ⊥
  LeftWhere ingest AbsentWire remainder history = ⊥
  LeftWhere ingest UntoldWire remainder history = Unit {0}

  -- the arrivals of a link have, in order, the first readings of its clock
  abbrev pub ReadWhere : ℕ → Option (ℕ → List ℕ) → Option ℕ → List (Entry V R) → Type 0
  ReadWhere ingest (Some readings) (Some made) history =
      map reading_of (arrivals_by ingest history) ≡ readings_from (length (arrivals_by ingest history)) (readings (clock_after ingest made))
  ReadWhere ingest _ _ history = Unit {0}

  -- each link's arrivals, told what the desk has of links and clocks before and afterwards
  abbrev pub HeardLinks : ℕ → List (List ℕ) → Live → Live → List (Entry V R) → Type 0
  HeardLinks ingest [] before now history = Unit {0}
  HeardLinks ingest (name ∷ names) before now history =
      LeftWhere ingest (before.wire name) (now.left name) history × ReadWhere ingest before.readings before.made history × HeardLinks (suc ingest) names before now history

-- ---- sinks

module _ {R : Type 0} (yields : R → Yield) where
  -- the sink holds the records of its releaser; where it failed, but for the last of them or the end of that one
  pub record BreaksOff (answers : List R) (written : List ℕ) : Type 0 where
    pub others : List R
    pub last : R
    pub answers_are : answers ≡ others ++ last ∷ []
    pub prefix : List ℕ
    pub prefix_is : IsPrefix (record_of yields last) prefix
    pub written_is : written ≡ records yields others ++ prefix

  -- one of these answers is that all is over
  pub record AnswersOver (answers : List R) : Type 0 where
    pub answer : R
    pub among : Contains answers answer
    pub over : yields answer ≡ Over

  module _ {V : Type 0} where
    abbrev pub HoldsRecords : ℕ → List (Entry V R) → Page → Type 0
    HoldsRecords releaser history Untold = Unit {0}
    HoldsRecords releaser history Absent = ⊥
    HoldsRecords releaser history (Holds bytes false) = bytes ≡ records yields (replies_by releaser history)
    HoldsRecords releaser history (Holds bytes true) = BreaksOff (replies_by releaser history) bytes

    -- a take of the releaser was answered that all is over, but where its sink failed or its calls were spent
    abbrev pub EndsOver : ℕ → List (Entry V R) → Page → Type 0
    EndsOver releaser history (Holds bytes false) = length (replies_by releaser history) < calls_most → AnswersOver (replies_by releaser history)
    EndsOver releaser history _ = Unit {0}

    -- each sink, told its page afterwards
    abbrev pub HeldSinks : ℕ → List File → List (Entry V R) → Type 0
    HeldSinks releaser [] history = Unit {0}
    HeldSinks releaser (out ∷ outs) history = HoldsRecords releaser history out.page × EndsOver releaser history out.page × HeldSinks (suc releaser) outs history

-- ---- the end

module _ {V R : Type 0} where
  -- an ingest or a releaser has no fewer entries than a pass may have calls
  pub record HasSpent (links sinks : ℕ) (history : List (Entry V R)) : Type 0 where
    pub number : ℕ
    pub spent : ((number < links) × (calls_most ≤ entries_of_ingest number history)) ⊎ ((number < sinks) × (calls_most ≤ length (replies_by number history)))

  module _ (kind : LiveKind V R) where
    -- what it comes to: what is told of the history, which has all that is to be given; a link or a sink that failed; or calls that were spent
    abbrev pub EndsAs : ReceiveArguments → Config → List (Entry V R) → OutcomeView → Type 0
    EndsAs arguments cfg history (Done text) = (text ≡ (kind.behaviour cfg).text history) × kind.IsComplete cfg history
    EndsAs arguments cfg history (Failed faults.Read) = Unit {0}
    EndsAs arguments cfg history (Failed faults.Write) = Unit {0}
    EndsAs arguments cfg history (Refused status line) = (status ≡ 11) × (line ≡ spent_line) × HasSpent (length arguments.links) (length arguments.sinks) history
    EndsAs arguments cfg history _ = ⊥

    -- under the setup one legal history was made of the links, and the sinks hold what it gives
    pub record Receives (arguments : ReceiveArguments) (before now : Live) (last : Option (Ended (Entry V R))) (setup : File) (outs : List File) (outcome : OutcomeView) : Type 0 where
      pub parts : Parts
      pub found : kind.IsSetup setup.page parts
      pub end : Ended (Entry V R)
      pub last_is : last ≡ Some end
      -- each entry is one call of one pass, of the worker of a link or of a sink
      pub calls : HasCalls end.history end.passes
      pub workers : list_all (is_of_workers (length arguments.links) (length arguments.sinks)) (entries end.history) ≡ true
      pub legal : (kind.behaviour (config_of arguments parts)).IsLegal (entries end.history)
      pub heard : HeardLinks 0 arguments.links before now (entries end.history)
      pub held : HeldSinks (kind.behaviour (config_of arguments parts)).yields 0 outs (entries end.history)
      pub ended : (ingest : ℕ) → ingest < length arguments.links → has_end (entries end.history) ingest ≡ true
      pub outcome_is : EndsAs arguments (config_of arguments parts) (entries end.history) outcome

-- ---- nothing was received

-- no letter left a link: it wasn't closed in this run, or all that was there for it is left
abbrev pub UnheardLinks : List (List ℕ) → Live → Live → Type 0
UnheardLinks [] before now = Unit {0}
UnheardLinks (name ∷ names) before now = ((now.left name ≡ before.left name) ⊎ LeavesAll (before.wire name) (now.left name)) × UnheardLinks names before now

-- nothing was written to a sink and it didn't fail: its page is as before, or empty
abbrev pub UnwrittenSinks : List File → List File → Type 0
UnwrittenSinks [] outs = Unit {0}
UnwrittenSinks (before ∷ befores) [] = ⊥
UnwrittenSinks (before ∷ befores) (out ∷ outs) = ((out.page ≡ before.page) ⊎ IsUnwritten out.page) × UnwrittenSinks befores outs

module _ {V R : Type 0} (kind : LiveKind V R) where
  -- there was no setup, and nothing else was opened; an opening was refused, or there was no memory
  pub record Stops (arguments : ReceiveArguments) (opened : ℕ) (before now : Live) (last : Option (Ended (Entry V R))) (setup : File) (outs outs_now : List File) (outcome : OutcomeView) : Type 0 where
    pub none : last ≡ None
    pub unheard : UnheardLinks arguments.links before now
    pub unwritten : UnwrittenSinks outs outs_now
    pub cause : (kind.IsNoSetup setup.page outcome × (opened ≤ 1)) ⊎ (outcome ≡ Failed faults.Open) ⊎ (outcome ≡ Failed faults.NoMemory)

-- ---- the command

-- receive: its station is a receiver, and a history has all where all that is released was given
abbrev pub of_receiver : LiveKind Verdict Reply
of_receiver = record {
  IsSetup = IsSetupIn;
  IsNoSetup = IsNoSetup;
  behaviour = receiving;
  IsComplete = λ cfg history. given_in history ≡ length (released cfg (arrivals_in history));
}

-- what the run does: nothing was received; or all was opened, and a history was received
abbrev pub DoesReceive : Live → Live → Option (Ended (Entry Verdict Reply)) → ReceiveArguments → ℕ → List File → List File → OutcomeView → Type 0
DoesReceive before now last arguments opened (setup ∷ files) (setup_now ∷ files_now) outcome =
    Stops of_receiver arguments opened before now last setup (drop (length arguments.links) files) (drop (length arguments.links) files_now) outcome
    ⊎ ((opened ≡ suc (length (workers_wanted arguments))) × Receives of_receiver arguments before now last setup (drop (length arguments.links) files_now) outcome)
DoesReceive before now last arguments opened files files_now outcome = ⊥

-- the command, told what the desk has of links and clocks before and afterwards, and the end of the turn where there was one: its words, its files and what it does
abbrev pub receive : Live → Live → Option (Ended (Entry Verdict Reply)) → Command
receive before now last = record { Arguments = ReceiveArguments; IsForm = IsReceive; files = files_of_receive; Does = DoesReceive before now last }
