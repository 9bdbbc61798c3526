-- What workers are seen to do, and how many calls each may make. It is told from their openings to their closings.
use Rattle.std.specs.Prelude.{◌≡◌, ◌⊎◌, ◌↔◌, ℕ, suc, ◌-◌, ◌^◌, ◌<◌, ◌≤◌, length, Bool, true, false, List, [], ◌∷◌, ◌++◌, map, codes, slice_set, Option, Some, None, IfSome, Result, Ok, Err}
use Rattle.std.specs.List.{list_any}
use denote.Ref.{Bor}
use Rattle.tesla_desk.specs.Clocks.{Ticking}
use Rattle.tesla_desk.specs.Faults.{HasCause}
use Rattle.tesla_desk.specs.Live.{OpenedLink, clock_told}
use Rattle.tesla_desk.specs.Outside.{Told, OpensLink, OpensSink, ClosesLink, ClosesSink, MakesClock}
use Rattle.tesla_desk.specs.declared.desk.OpenRefusal.{OpenRefusal}
use Rattle.tesla_desk.specs.declared.link.Letter.{Letter}
use Rattle.tesla_front.specs.OutcomeView.{OutcomeView, Done, Refused, Failed}
use Rattle.tesla_front.specs.Fault.{unopened}
use Rattle.tesla_front.specs.declared.fault.Fault.{Fault}
use Rattle.tesla_front.specs.declared.fault.Fault.TheVariants.{Read, Write}
use Rattle.tesla_receiver.specs.declared.history.Entry.{Entry}
use Rattle.tesla_shared.specs.Workers.{Ingests, Drains}
use Rattle.tesla_shared.specs.declared.draining.SinkEnd.{SinkEnd}
use Rattle.tesla_shared.specs.declared.draining.SinkEnd.TheVariants as sink_ends
use Rattle.tesla_shared.specs.declared.ingesting.LinkEnd.{LinkEnd}
use Rattle.tesla_shared.specs.declared.ingesting.LinkEnd.TheVariants as link_ends
use Rattle.tesla_turn.specs.Held.{Held, Ended, TurnId, OnlyCalls, first_pass, next_pass, left_of}
use Rattle.tesla_turn.specs.History.{HasCalls, longer}
use Rattle.tesla_shared.specs.Yields.{Yield}
use Rattle.tesla_session.specs.Wanted.{Wanted, WantedLink, WantedSink, wanted_from}

-- a pass of a turn over a station with a configuration, verdicts and replies of these types
abbrev pub PassSeen : (C V R : Type 0) → Type 0
PassSeen C V R = Held C (Entry V R)

-- what is seen of the worker of a link: its number and name, the letters that are left and the count of faults of the link, what its clock tells, its pass, and why it ended last
pub record LinkSeen (C V R : Type 0) : Type 0 where
  pub ingest : ℕ
  pub name : List ℕ
  pub left : Option (List Letter)
  pub faults : ℕ
  pub told : Option Ticking
  pub pass : PassSeen C V R
  pub end : LinkEnd

-- what is seen of the worker of a sink: its number and name, what was written and the count of faults of the sink, its pass, and why it ended last
pub record SinkSeen (C V R : Type 0) : Type 0 where
  pub releaser : ℕ
  pub name : List ℕ
  pub written : Option (List ℕ)
  pub faults : ℕ
  pub pass : PassSeen C V R
  pub end : SinkEnd

pub data Seen (C V R : Type 0) : Type 0 where
  SeenLink : LinkSeen C V R → Seen C V R
  SeenSink : SinkSeen C V R → Seen C V R

abbrev pub ended_failed : LinkEnd → Bool
ended_failed link_ends.Ended = false
ended_failed link_ends.Failed = true
ended_failed link_ends.Spent = false

abbrev pub ended_spent : LinkEnd → Bool
ended_spent link_ends.Ended = false
ended_spent link_ends.Failed = false
ended_spent link_ends.Spent = true

abbrev pub drained_failed : SinkEnd → Bool
drained_failed sink_ends.Over = false
drained_failed sink_ends.Failed = true
drained_failed sink_ends.Spent = false

abbrev pub drained_spent : SinkEnd → Bool
drained_spent sink_ends.Over = false
drained_spent sink_ends.Failed = false
drained_spent sink_ends.Spent = true

-- how many calls a pass may make
abbrev pub calls_most : ℕ
calls_most = 2 ^ 56

-- the line that tells that calls were spent
abbrev pub spent_line : List ℕ
spent_line = codes "calls spent\n"

-- the worker ended so
abbrev pub is_link_end : LinkEnd → LinkEnd → Bool
is_link_end link_ends.Ended link_ends.Ended = true
is_link_end link_ends.Failed link_ends.Failed = true
is_link_end link_ends.Spent link_ends.Spent = true
is_link_end _ _ = false

abbrev pub is_sink_end : SinkEnd → SinkEnd → Bool
is_sink_end sink_ends.Over sink_ends.Over = true
is_sink_end sink_ends.Failed sink_ends.Failed = true
is_sink_end sink_ends.Spent sink_ends.Spent = true
is_sink_end _ _ = false

-- why the workers came to no end: a link failed, or else a sink, or else calls were spent
abbrev pub stop_by : Bool → Bool → Bool → Option OutcomeView
stop_by true write spent = Some (Failed Read)
stop_by false true spent = Some (Failed Write)
stop_by false false true = Some (Refused 11 spent_line)
stop_by false false false = None

-- what workers come to: why they came to no end, or this text is told
abbrev pub outcome_by : Option OutcomeView → List ℕ → OutcomeView
outcome_by (Some stop) text = stop
outcome_by None text = Done text

-- the bytes of a name
abbrev pub name_of : Bor (List ℕ) → List ℕ
name_of name = name.now

-- the opening for a worker was refused
abbrev pub RefusesWorker : Wanted → Told → Told → Fault → Type 0
RefusesWorker (WantedLink ingest name) before now fault = (refusal : OpenRefusal) × OpensLink {A = Unit {0}} name (Err refusal) before now × (fault ≡ unopened refusal)
RefusesWorker (WantedSink releaser name) before now fault = (refusal : OpenRefusal) × OpensSink {A = Unit {0}} name (Err refusal) before now × (fault ≡ unopened refusal)

module _ {C V R : Type 0} where
  abbrev pub pass_of : Seen C V R → PassSeen C V R
  pass_of (SeenLink worker) = worker.pass
  pass_of (SeenSink worker) = worker.pass

  -- all these workers have passes of one turn
  abbrev pub AreOf : TurnId → List (Seen C V R) → Type 0
  AreOf turn [] = Unit {0}
  AreOf turn (worker ∷ workers) = ((pass_of worker).turn ≡ turn) × AreOf turn workers

  -- ---- opening

  -- the first pass after a split
  abbrev pub split_pass : PassSeen C V R → PassSeen C V R
  split_pass first = record first { room = first.room - 1; joined = first.joined ++ None ∷ [] }

  -- the link was opened and its clock made; the worker has made no call
  pub record OpensLinkWorker (ingest : ℕ) (name : List ℕ) (before now : Told) (first later : PassSeen C V R) (worker : LinkSeen C V R) : Type 0 where
    pub opened : Told
    pub opens : OpensLink {A = Unit {0}} name (Ok tt) before opened
    pub makes : MakesClock opened now
    pub ingest_is : worker.ingest ≡ ingest
    pub name_is : worker.name ≡ name
    pub letters : OpenedLink (before.live.wire name) worker.left
    pub fresh : worker.faults ≡ 0
    pub told_is : worker.told ≡ clock_told opened.live.readings opened.live.made
    pub pass_is : worker.pass ≡ next_pass first
    pub later_is : later ≡ split_pass first

  -- the sink was opened; the worker has made no call
  pub record OpensSinkWorker (releaser : ℕ) (name : List ℕ) (before now : Told) (first later : PassSeen C V R) (worker : SinkSeen C V R) : Type 0 where
    pub opens : OpensSink {A = Unit {0}} name (Ok tt) before now
    pub releaser_is : worker.releaser ≡ releaser
    pub name_is : worker.name ≡ name
    pub empty : IfSome worker.written (λ bytes. bytes ≡ [])
    pub fresh : worker.faults ≡ 0
    pub pass_is : worker.pass ≡ next_pass first
    pub later_is : later ≡ split_pass first

  abbrev pub OpensWorker : Wanted → Told → Told → PassSeen C V R → PassSeen C V R → Seen C V R → Type 0
  OpensWorker (WantedLink ingest name) before now first later (SeenLink worker) = OpensLinkWorker ingest name before now first later worker
  OpensWorker (WantedSink releaser name) before now first later (SeenSink worker) = OpensSinkWorker releaser name before now first later worker
  OpensWorker _ before now first later _ = ⊥

  -- the workers were opened in order, until an opening was refused
  abbrev pub OpensWorkers : List Wanted → Told → Told → PassSeen C V R → PassSeen C V R → List (Seen C V R) → Result (Unit {0}) Fault → Type 0
  OpensWorkers [] before now first later workers result = (workers ≡ []) × (now ≡ before) × (later ≡ first) × (result ≡ Ok tt)
  OpensWorkers (wanted ∷ others) before now first later workers result =
      ((fault : Fault) × RefusesWorker wanted before now fault × (later ≡ first) × (workers ≡ []) × (result ≡ Err fault))
      ⊎ ((worker : Seen C V R) × (rest : List (Seen C V R)) × (mid : Told) × (middle : PassSeen C V R) × (workers ≡ worker ∷ rest)
      × OpensWorker wanted before mid first middle worker × OpensWorkers others mid now middle later rest result)

  -- the workers that are wanted so under these names were opened, numbered from the number on, and put behind the others
  abbrev pub OpensMore : {X : Type 0} → (X → Seen C V R) → (ℕ → List ℕ → Wanted) → ℕ → List (List ℕ) → Told → Told → PassSeen C V R → PassSeen C V R → List X → List X → Result (Unit {0}) Fault → Type 0
  OpensMore {X} seen wanted number names before now first later old new result =
      (workers : List X) × (new ≡ old ++ workers) × OpensWorkers (wanted_from wanted number names) before now first later (map seen workers) result

  -- ---- running

  -- the worker has made no call and has one left, and nothing is written to its sink
  abbrev pub IsReady : Seen C V R → Type 0
  IsReady (SeenLink worker) = (0 < left_of worker.pass) × (worker.pass.made ≡ [])
  IsReady (SeenSink worker) = (worker.pass.made ≡ []) × IfSome worker.written (λ bytes. bytes ≡ [])

  -- the same of each of these workers
  abbrev pub AreReady : List (Seen C V R) → Type 0
  AreReady [] = Unit {0}
  AreReady (worker ∷ workers) = IsReady worker × AreReady workers

  -- the worker of a link did its work
  pub record RunsLink (before after : LinkSeen C V R) : Type 0 where
    pub ingest : after.ingest ≡ before.ingest
    pub name : after.name ≡ before.name
    pub ingests : Ingests before.ingest before.pass.made after.pass.made before.left after.left before.told after.told
    pub ended : after.end ≡ link_ends.Ended → IfSome after.left (λ rest. rest ≡ [])
    pub cause : HasCause before.faults after.faults (after.end ≡ link_ends.Failed)
    pub spent : (after.end ≡ link_ends.Spent) ↔ (left_of after.pass ≡ 0)
    pub few : length after.pass.made ≤ after.pass.calls
    pub calls : OnlyCalls before.pass after.pass

  -- the worker of a sink did its work
  pub record RunsSink (yields : R → Yield) (before after : SinkSeen C V R) : Type 0 where
    pub releaser : after.releaser ≡ before.releaser
    pub name : after.name ≡ before.name
    pub drains : Drains yields before.releaser after.end before.pass.made after.pass.made before.written after.written
    pub cause : HasCause before.faults after.faults (after.end ≡ sink_ends.Failed)
    pub spent : after.end ≡ sink_ends.Spent → left_of after.pass ≡ 0
    pub calls : OnlyCalls before.pass after.pass

  abbrev pub RunsWorker : (yields : R → Yield) → Seen C V R → Seen C V R → Type 0
  RunsWorker yields (SeenLink before) (SeenLink after) = RunsLink before after
  RunsWorker yields (SeenSink before) (SeenSink after) = RunsSink yields before after
  RunsWorker yields _ _ = ⊥

  -- each worker did its work
  abbrev pub RunWorkers : (yields : R → Yield) → List (Seen C V R) → List (Seen C V R) → Type 0
  RunWorkers yields [] [] = Unit {0}
  RunWorkers yields (before ∷ befores) (after ∷ afters) = RunsWorker yields before after × RunWorkers yields befores afters
  RunWorkers yields _ _ = ⊥

  -- ---- closing

  -- the first pass after it took in another
  abbrev pub join_pass : PassSeen C V R → PassSeen C V R → PassSeen C V R
  join_pass into other = record into { seen = longer into.seen other.seen; joined = slice_set into.joined other.number (Some other.made) }

  -- the link or the sink of a worker was closed
  abbrev pub ClosesWorker : Seen C V R → Told → Told → Type 0
  ClosesWorker (SeenLink worker) before now = ClosesLink worker.name worker.left worker.faults before now
  ClosesWorker (SeenSink worker) before now = ClosesSink worker.name worker.written worker.faults before now

  -- the workers were closed, the last first, and their passes taken into the first pass
  abbrev pub ClosesWorkers : List (Seen C V R) → Told → Told → PassSeen C V R → PassSeen C V R → Type 0
  ClosesWorkers [] before now first later = (now ≡ before) × (later ≡ first)
  ClosesWorkers (worker ∷ workers) before now first later =
      (mid : Told) × (middle : PassSeen C V R) × ClosesWorkers workers before mid first middle × ClosesWorker worker mid now × (later ≡ join_pass middle (pass_of worker))

  -- ---- the end

  abbrev pub link_failed : Seen C V R → Bool
  link_failed (SeenLink worker) = ended_failed worker.end
  link_failed (SeenSink worker) = false

  abbrev pub sink_failed : Seen C V R → Bool
  sink_failed (SeenLink worker) = false
  sink_failed (SeenSink worker) = drained_failed worker.end

  abbrev pub has_spent : Seen C V R → Bool
  has_spent (SeenLink worker) = ended_spent worker.end
  has_spent (SeenSink worker) = drained_spent worker.end

  -- one of these links ended so
  abbrev pub any_link_ended : LinkEnd → List (LinkSeen C V R) → Bool
  any_link_ended end links = list_any (λ (worker : LinkSeen C V R). is_link_end worker.end end) links

  -- one of these sinks ended so
  abbrev pub any_sink_ended : SinkEnd → List (SinkSeen C V R) → Bool
  any_sink_ended end sinks = list_any (λ (worker : SinkSeen C V R). is_sink_end worker.end end) sinks

  -- the workers as those of links and of sinks
  abbrev pub workers_of : List (LinkSeen C V R) → List (SinkSeen C V R) → List (Seen C V R)
  workers_of links sinks = map SeenLink links ++ map SeenSink sinks

  abbrev pub stop_of : List (Seen C V R) → Option OutcomeView
  stop_of workers = stop_by (list_any link_failed workers) (list_any sink_failed workers) (list_any has_spent workers)

  -- ---- one run of the workers

  -- all of these workers were opened: the turn, and its first pass behind the splits
  abbrev pub OpensAll : List Wanted → C → Told → Told → TurnId → PassSeen C V R → List (Seen C V R) → Type 0
  OpensAll wanted cfg before now turn first workers = OpensWorkers wanted before now (first_pass turn cfg (suc (length wanted)) calls_most) first workers (Ok tt)

  -- workers that are opened did their work and were closed, and then the turn was: of its history each pass has its calls
  pub record RunsOpened (yields : R → Yield) (first : PassSeen C V R) (workers : List (Seen C V R)) (before now : Told) (end : Ended (Entry V R)) (stop : Option OutcomeView) : Type 0 where
    pub later : PassSeen C V R
    pub done : List (Seen C V R)
    pub runs : RunWorkers yields workers done
    pub closes : ClosesWorkers done before now first later
    pub passes : end.passes ≡ slice_set later.joined 0 (Some later.made)
    pub calls : HasCalls end.history end.passes
    pub stop_is : stop ≡ stop_of done

  -- all workers were opened, did their work and were closed, told the desk before the openings and behind them, and before the closings and behind them
  pub record RanSession (yields : R → Yield) (wanted : List Wanted) (cfg : C) (before opened running now : Told) (end : Ended (Entry V R)) (stop : Option OutcomeView) : Type 0 where
    pub turn : TurnId
    pub first : PassSeen C V R
    pub workers : List (Seen C V R)
    pub opens : OpensAll wanted cfg before opened turn first workers
    pub ran : RunsOpened yields first workers running now end stop

module _ (V R : Type 0) {C : Type 0} where
  -- an opening was refused, and those that were opened before were closed
  pub record RefusedSession (wanted : List Wanted) (cfg : C) (before now : Told) (fault : Fault) : Type 0 where
    pub turn : TurnId
    pub mid : Told
    pub first : PassSeen C V R
    pub later : PassSeen C V R
    pub workers : List (Seen C V R)
    pub opens : OpensWorkers wanted before mid (first_pass turn cfg (suc (length wanted)) calls_most) first workers (Err fault)
    pub closes : ClosesWorkers workers mid now first later
