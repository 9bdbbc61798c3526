-- A run of a live command comes to its end where its inputs are taken and nothing fails.
use Rattle.std.proofs.Common.{◌≡◌, ◌∙◌, ◌⊎◌, inl, inr, ℕ, Bool, Option, Some, None, Result, Ok, Err, List, length, refl, sym, subst, ⊎_elim, arith}
use Rattle.std.specs.Prelude.{IfSome}
use Rattle.tesla_capture.specs.Outline.{outline_of}
use Rattle.tesla_capture.specs.declared.record.RecordKind.{RecordKind}
use Rattle.tesla_commit.specs.Parts.{Parts}
use Rattle.tesla_commit.specs.declared.refusal.SetupKind.{SetupKind}
use Rattle.tesla_desk.specs.Faults.{Faults, HasCausesBeside}
use Rattle.tesla_desk.specs.Live.{Live, Remainder}
use Rattle.tesla_desk.specs.Outside.{Page, Holds}
use Rattle.tesla_fitting.specs.declared.config.Config.{Config}
use Rattle.tesla_front.specs.OutcomeView.{OutcomeView, Done, Usage, Refused, Failed, IsDone}
use Rattle.tesla_front.specs.Files.{HoldsWhere}
use Rattle.tesla_front.specs.Openings.{File, file_told}
use Rattle.tesla_front.specs.Run.{NothingFailed}
use Rattle.tesla_front.specs.Setup.{IsNoSetup, IsNoSetupText, IsSetupText}
use Rattle.tesla_front.specs.declared.fault.Fault.{Fault}
use Rattle.tesla_front.specs.declared.fault.Fault.TheVariants as faults
use Rattle.tesla_front.proofs.Commands.{memory_alone}
use Rattle.tesla_receiver.specs.declared.history.Entry.{Entry}
use Rattle.tesla_relay.specs.Play.{FileTo, Played}
use Rattle.tesla_relay.specs.declared.playing.PlayEnd.{PlayEnd}
use Rattle.tesla_relay.specs.declared.playing.PlayEnd.TheVariants as ends
use Rattle.tesla_relay.specs.declared.relayed.PostCount.{PostCount}
use Rattle.tesla_run_capture.specs.Capture as captures
use Rattle.tesla_run_capture.specs.Heard.{Heard}
use Rattle.tesla_run_receive.specs.Arguments.{ReceiveArguments}
use Rattle.tesla_run_receive.specs.Output.{WithOutput}
use Rattle.tesla_run_receive.specs.Receive.{HasSpent, LiveKind, Receives, Stops, of_receiver}
use Rattle.tesla_run_receive.specs.Receive as receives
use Rattle.tesla_run_relay.specs.Relay as relays
use Rattle.tesla_run_relay.specs.play.Playing as plays
use Rattle.tesla_turn.specs.Held.{Ended}
use Rattle.tesla_turn.specs.History.{entries}
use Rattle.tesla_laws.specs.Completeness.{CaptureIsComplete, ComesToEnd, HasFewCalls, HaveFewCalls, OutputIsComplete, PlayIsComplete, ReceiveIsComplete, RelayIsComplete}

-- ---- ends and faults

-- it came to its end, or to a fault
abbrev Ends : OutcomeView → Type 0
Ends outcome = IsDone outcome ⊎ ((fault : Fault) × (outcome ≡ Failed fault))

-- where nothing failed, the fault is want of memory
to_end : {hidden : Type 0} (old new : Faults) (outcome : OutcomeView)
    → HasCausesBeside hidden old new (outcome ≡ Failed faults.Read) (outcome ≡ Failed faults.Write)
    (outcome ≡ Failed faults.Open)
    → NothingFailed old new → Ends outcome → ComesToEnd outcome
to_end old new outcome causes none (inl done) = inl done
to_end old new outcome causes none (inr fault) = inr (memory_alone old new outcome fault.0 causes none fault.1)

-- an opening was refused, or there was no memory
unopened_ends : (outcome : OutcomeView) → (outcome ≡ Failed faults.Open) ⊎ (outcome ≡ Failed faults.NoMemory)
    → Ends outcome
unopened_ends outcome (inl unopened) = inr (faults.Open, unopened)
unopened_ends outcome (inr memory) = inr (faults.NoMemory, memory)

-- a setup that is told isn't refused
setup_ends : (page : Page) (outcome : OutcomeView) (text : List ℕ) (failed : Bool) (setup : Parts)
    → page ≡ Holds text failed → IsSetupText text setup → IsNoSetup page outcome → Ends outcome
setup_ends page (Failed fault) text failed setup is found why = inr (fault, refl)
setup_ends page (Refused status line) text failed setup is found why =
    ⊎_elim
    (λ refused. absurd (let no : ◌≡◌ {A = Result Parts (ℕ × SetupKind)} (Ok setup) (Err refused.0) =
    sym found ∙ refused.1 in cc))
    (λ memory. inr (faults.NoMemory, memory))
    (subst (λ (p : Page). HoldsWhere p (λ t. IsNoSetupText t (Refused status line))) is why)
setup_ends page (Done lines) text failed setup is found why = absurd why
setup_ends page Usage text failed setup is found why = absurd why

-- ---- the receivers

-- no calls are spent in a history with few
unspent : {V R : Type 0} (links sinks : ℕ) (history : List (Entry V R)) → HasFewCalls links sinks history → HasSpent links sinks history → ⊥
unspent links sinks history few spent =
    ⊎_elim
    (λ link. let less = few.of_links spent.number link.0 in let least = link.1 in omega arith)
    (λ sink. let less = few.of_sinks spent.number sink.0 in let least = sink.1 in omega arith)
    spent.spent

history_ends : {V R : Type 0} (kind : LiveKind V R) (arguments : ReceiveArguments) (cfg : Config) (history : List (Entry V R)) (outcome : OutcomeView)
    → HasFewCalls (length arguments.links) (length arguments.sinks) history
    → receives.EndsAs kind arguments cfg history outcome → Ends outcome
history_ends kind arguments cfg history (Done text) few end = inl tt
history_ends kind arguments cfg history (Failed fault) few end = inr (fault, refl)
history_ends kind arguments cfg history (Refused status line) few end =
    absurd (unspent (length arguments.links) (length arguments.sinks) history few end.2)
history_ends kind arguments cfg history Usage few end = absurd end

module _ {V R : Type 0} (kind : LiveKind V R) (arguments : ReceiveArguments) (before now : Live) (last : Option (Ended (Entry V R))) (setup : File)
    (outcome : OutcomeView) where
  -- nothing was received
  stop_ends : (opened : ℕ) (outs outs_now : List File) → (kind.IsNoSetup setup.page outcome → Ends outcome)
      → Stops kind arguments opened before now last setup outs outs_now outcome → Ends outcome
  stop_ends opened outs outs_now refused stops =
      ⊎_elim
      (λ none. refused none.0)
      (unopened_ends outcome)
      stops.cause

  -- or a history was
  received_ends : (outs : List File) → HaveFewCalls arguments last
      → Receives kind arguments before now last setup outs outcome → Ends outcome
  received_ends outs few received =
      let made : HaveFewCalls arguments (Some received.end) =
      subst (λ (o : Option (Ended (Entry V R))). HaveFewCalls arguments o) received.last_is few in
      history_ends kind arguments _ (entries received.end.history) outcome made received.outcome_is

pub receive_complete : ReceiveIsComplete
receive_complete arguments before now last old new outcome text failed setup performs page found few none =
    to_end old.faults new.faults outcome performs.counts none
    (⊎_elim
    (stop_ends of_receiver arguments before now last (file_told old arguments.setup) outcome performs.opened _ _
    (setup_ends (old.page arguments.setup) outcome text failed setup page found))
    (λ ran. received_ends of_receiver arguments before now last (file_told old arguments.setup) outcome _ few ran.1)
    performs.does)

-- a form of which a setup is refused as receive refuses it
pub output_complete : {V R : Type 0} (form : WithOutput V R) → ((page : Page) (outcome : OutcomeView) → form.kind.IsNoSetup page outcome → IsNoSetup page outcome) → OutputIsComplete form
output_complete form refused arguments before now last old new outcome text failed setup performs page found few none =
    to_end old.faults new.faults outcome performs.counts none
    (⊎_elim
    (stop_ends form.kind arguments.receive before now last (file_told old arguments.receive.setup) outcome performs.opened _ _
    (λ why. setup_ends (old.page arguments.receive.setup) outcome text failed setup page found (refused (old.page arguments.receive.setup) outcome why)))
    (λ ran. received_ends form.kind arguments.receive before now last (file_told old arguments.receive.setup) outcome _ few ran.1)
    performs.does)

-- ---- the relays

relayed_ends : (remainder : Option Remainder) (failed : Bool) (counts : List PostCount) (outcome : OutcomeView)
    → relays.EndsAs remainder failed counts outcome → Ends outcome
relayed_ends remainder failed counts (Done text) end = inl tt
relayed_ends remainder failed counts (Failed fault) end = inr (fault, refl)
relayed_ends remainder failed counts (Refused status line) end = absurd end
relayed_ends remainder failed counts Usage end = absurd end

pub relay_complete : RelayIsComplete
relay_complete arguments before now old new outcome performs none =
    to_end old.faults new.faults outcome performs.counts none
    (⊎_elim
    (λ stops. unopened_ends outcome stops.cause)
    (λ ran. relayed_ends (now.left arguments.link) _ ran.1.counts outcome ran.1.ends)
    performs.does.1)

-- a capture that is told isn't refused
played_ends : (end : PlayEnd) (page : Page) (outcome : OutcomeView) (bytes : List ℕ) (failed : Bool)
    (left : Option (List ℕ)) (played : List Played)
    → page ≡ Holds bytes failed → (outline_of bytes).fault ≡ None → outcome ≡ plays.outcome_with end
    → HoldsWhere page (λ text. FileTo end text left played) → Ends outcome
played_ends (ends.Ended sent) page outcome bytes failed left played is whole comes file =
    inl (subst IsDone (sym comes) tt)
played_ends (ends.Refused offset kind) page outcome bytes failed left played is whole comes file =
    absurd (let told = subst (λ (p : Page). HoldsWhere p (λ text. FileTo (ends.Refused offset kind) text left played))
    is file in
    let no : ◌≡◌ {A = Option (ℕ × RecordKind)} None (Some (offset, kind)) = sym whole ∙ told.0 in cc)
played_ends ends.ReadFault page outcome bytes failed left played is whole comes file = inr (faults.Read, comes)
played_ends ends.PostFault page outcome bytes failed left played is whole comes file = inr (faults.Write, comes)

pub play_complete : PlayIsComplete
play_complete arguments before now old new outcome bytes failed performs page whole none =
    let capture = file_told old arguments.capture in
    let capture_now = file_told new arguments.capture in
    to_end old.faults new.faults outcome performs.counts none
    (⊎_elim
    (λ stops. unopened_ends outcome stops.cause)
    (λ ran. played_ends ran.1.end capture.page outcome bytes failed capture_now.left ran.1.played page whole
    ran.1.outcome_is ran.1.file)
    performs.does.1)

-- ---- the capture of a link

captured_ends : (heard : List Heard) (remainder : Option Remainder) (out : Page) (outcome : OutcomeView)
    → captures.EndsAs heard remainder out outcome → Ends outcome
captured_ends heard remainder out (Done lines) end = inl tt
captured_ends heard remainder out (Failed fault) end = inr (fault, refl)
captured_ends heard remainder out (Refused status line) end = absurd end
captured_ends heard remainder out Usage end = absurd end

pub capture_complete : CaptureIsComplete
capture_complete arguments before now old new outcome performs none =
    to_end old.faults new.faults outcome performs.counts none
    (⊎_elim
    (λ stops. unopened_ends outcome stops.cause)
    (λ ran. captured_ends ran.1.heard (now.left arguments.link) (new.page arguments.out) outcome ran.1.ends)
    performs.does.1)
