-- What a live command did, told what became of its setup, and then of its workers and of its output.
use Rattle.std.proofs.Common.{◌≡◌, ◌∙◌, ◌⊎◌, ◌||◌, inl, inr, ℕ, suc, ◌≤◌, Bool, true, false, Option, None, Some, Ok, Err, List, [], ◌∷◌, ◌++◌, length, map, take, drop, refl, sym, ap, subst, arith}
use Rattle.std.specs.List.{list_any}
use Rattle.std.proofs.lemmas.Bool.{or_parts}
use Rattle.std.proofs.lemmas.List.{length-append, length-map}
use Rattle.tesla_commit.specs.Parts.{Parts}
use Rattle.tesla_fitting.specs.declared.verdict.Verdict.{Verdict}
use Rattle.tesla_state.specs.declared.replies.Reply.{Reply}
use Rattle.tesla_desk.specs.Faults.{HasCauses, HasCausesBeside}
use Rattle.tesla_desk.specs.Live.{Live, LeavesAll}
use Rattle.tesla_desk.specs.Outside.{Told, Opening, OfSource, OfSink, Page}
use Rattle.tesla_desk.proofs.Counts.{cause_none, causes_both, causes_none, causes_then}
use Rattle.tesla_fitting.specs.declared.config.Config.{Config}
use Rattle.tesla_front.specs.OutcomeView.{OutcomeView, Failed, stop_view}
use Rattle.tesla_front.specs.Command.{Performs}
use Rattle.tesla_front.specs.Files.{IsUnwritten}
use Rattle.tesla_front.specs.Names.{AreListNames}
use Rattle.tesla_front.specs.Openings.{AnyFailed, AreFiles, File, IsAmong, Opens, OpensSome, file_told, files_told}
use Rattle.tesla_front.specs.Refusal.{StopCauses}
use Rattle.tesla_front.specs.declared.fault.Fault.{Fault}
use Rattle.tesla_front.specs.declared.fault.Fault.TheVariants as faults
use Rattle.tesla_front.specs.declared.refusal.Stop.{Stop}
use Rattle.tesla_front.proofs.Commands.{counts_stopped}
use Rattle.tesla_front.proofs.Openings.{opens_none, opens_some, opens_then}
use Rattle.tesla_receiver.specs.declared.history.Entry.{Entry}
use Rattle.tesla_session.specs.Session.{RanSession, RefusedSession, outcome_by, has_spent, link_failed, sink_failed, stop_by}
use Rattle.tesla_session.specs.Wanted.{Wanted, links_wanted, opening_for, sinks_wanted}
use Rattle.tesla_session.proofs.Counted.{apart_wanted, counts_outcome, counts_outcome_none, counts_opened, counts_ran, counts_refused, counts_unrun}
use Rattle.tesla_session.proofs.Fresh.{refused_fault, unheard_links, unwritten_pages}
use Rattle.tesla_session.proofs.Opened.{closes_after, opening_of, openings_are, opens_files, opens_refused_session, runs_openings}
use Rattle.tesla_turn.specs.Held.{Ended}
use Rattle.tesla_turn.specs.History.{entries}
use Rattle.tesla_run_receive.specs.Arguments.{ReceiveArguments, IsReceive, files_of_receive, workers_wanted}
use Rattle.tesla_run_receive.specs.Output.{WithOutput, OutputHolds, with_output}
use Rattle.tesla_run_receive.specs.OutputArguments.{OutputArguments}
use Rattle.tesla_run_receive.specs.Receive.{LiveKind, Receives, UnheardLinks, config_of, of_receiver, receive}
use Rattle.tesla_run_receive.specs.Running.{Behaviour, Ran, RefusedOutput, RunsStation, Unopened, with_behind}
use Rattle.tesla_run_receive.proofs.Behind.{BehindHolds, IsApart, all_opened, among_all, are_files_behind, ends_behind, prefix_opened, refused_behind}
use Rattle.tesla_run_receive.proofs.Held as holding
use Rattle.tesla_run_receive.proofs.Histories.{Completes, receives}
use Rattle.tesla_run_receive.proofs.Outputs.{outs_told, output_told, sinks_told, unwritten_behind}

-- ---- names

are_sinks : (releaser : ℕ) (sinks : List (List ℕ)) → AreListNames sinks → AreFiles (map opening_for (sinks_wanted releaser sinks))
are_sinks releaser [] named = tt
are_sinks releaser (name ∷ names) (own, named) = (own.named.file, are_sinks (suc releaser) names named)

are_wanted : (ingest releaser : ℕ) (links sinks : List (List ℕ)) → AreListNames links → AreListNames sinks → AreFiles (map opening_for (links_wanted ingest links ++ sinks_wanted releaser sinks))
are_wanted ingest releaser [] sinks links_named named = are_sinks releaser sinks named
are_wanted ingest releaser (name ∷ names) sinks (own, links_named) named = (own.named.file, are_wanted (suc ingest) releaser names sinks links_named named)

-- ---- what it came to

-- what it came to, told why the workers came to no end and which text is told else
pub outcome_as : (outcome : OutcomeView) (stop own : Option OutcomeView) (text told : List ℕ) → outcome ≡ outcome_by stop text → stop ≡ own → text ≡ told → outcome ≡ outcome_by own told
outcome_as outcome stop own text told outcome_is stops texts = outcome_is ∙ ap (λ (t : List ℕ). outcome_by stop t) texts ∙ ap (λ (s : Option OutcomeView). outcome_by s told) stops

-- where the output failed, it came to a failed read or a failed write
outcome_failed : (text : List ℕ) (read write spent failed : Bool) (outcome : OutcomeView) → outcome ≡ outcome_by (stop_by read (write || failed) spent) text → failed ≡ true → (outcome ≡ Failed faults.Read) ⊎ (outcome ≡ Failed faults.Write)
outcome_failed text true true spent failed outcome is some = inl is
outcome_failed text true false spent true outcome is some = inl is
outcome_failed text true false spent false outcome is some = absurd cc
outcome_failed text false true spent failed outcome is some = inr is
outcome_failed text false false spent true outcome is some = inr is
outcome_failed text false false spent false outcome is some = absurd cc

either : (a b : Bool) → (a || b) ≡ true → (a ≡ true) ⊎ (b ≡ true)
either true b is = inl refl
either false b is = inr is

from_either : (a b : Bool) → (a ≡ true) ⊎ (b ≡ true) → (a || b) ≡ true
from_either true b some = refl
from_either false b (inl never) = absurd cc
from_either false b (inr is) = is

-- ---- a live run

unheard_names : (names : List (List ℕ)) (before now : Live) → ((name : List ℕ) → (now.left name ≡ before.left name) ⊎ LeavesAll (before.wire name) (now.left name)) → UnheardLinks names before now
unheard_names [] before now all = tt
unheard_names (name ∷ names) before now all = (all name, unheard_names names before now all)

module _ {V R : Type 0} (kind : LiveKind V R) where
  -- nothing was received, nor written
  record Unreceived (received : ReceiveArguments) (opened : ℕ) (before now : Told) (last : Option (Ended (Entry V R))) (outcome : OutcomeView) : Type 0 where
    none : last ≡ None
    unheard : UnheardLinks received.links before.live now.live
    unwritten : (name : List ℕ) → (now.page name ≡ before.page name) ⊎ IsUnwritten (now.page name)
    cause : (kind.IsNoSetup (before.page received.setup) outcome × (opened ≤ 1)) ⊎ (outcome ≡ Failed faults.Open) ⊎ (outcome ≡ Failed faults.NoMemory)

  -- a history was received, and the output holds what is said of it and of the setup
  record Received (Holds : Parts → List (Entry V R) → Page → Type 0) (output : Option (List ℕ)) (received : ReceiveArguments) (before now : Told) (last : Option (Ended (Entry V R))) (outcome : OutcomeView) : Type 0 where
    receives : Receives kind received before.live now.live last (file_told before received.setup) (files_told now (map opening_for (sinks_wanted 0 received.sinks))) outcome
    end : Ended (Entry V R)
    last_is : last ≡ Some end
    holds : BehindHolds (Holds receives.parts (entries end.history)) output now outcome

  -- a live run, whatever the files of its command are called
  pub record Lives (Holds : Parts → List (Entry V R) → Page → Type 0) (output : Option (List ℕ)) (received : ReceiveArguments) (before now : Told) (last : Option (Ended (Entry V R))) (outcome : OutcomeView) : Type 0 where
    named : AreFiles (with_behind (files_of_receive received) output)
    opened : ℕ
    opens : Opens (with_behind (files_of_receive received) output) opened before now
    does : Unreceived received opened before now last outcome ⊎ ((opened ≡ length (with_behind (files_of_receive received) output)) × Received Holds output received before now last outcome)
    counts : HasCausesBeside ((outcome ≡ Failed faults.Read) × AnyFailed (with_behind (files_of_receive received) output) now) before.faults now.faults (outcome ≡ Failed faults.Read) (outcome ≡ Failed faults.Write) (outcome ≡ Failed faults.Open)

-- the setup stands before the other files
behind_setup : (received : ReceiveArguments) (output : Option (List ℕ)) → with_behind (files_of_receive received) output ≡ OfSource received.setup ∷ with_behind (map opening_for (workers_wanted received)) output
behind_setup received None = refl
behind_setup received (Some output) = refl

-- there was no setup
pub lives_none : {A V R : Type 0} (kind : LiveKind V R) (Holds : Parts → List (Entry V R) → Page → Type 0) (output : Option (List ℕ)) (received : ReceiveArguments) (words : List (List ℕ)) (before now : Told) (last : Option (Ended (Entry V R))) (stop : Stop) → IsReceive received words → IsApart output received.sinks
    → OpensSome (OfSource received.setup ∷ []) before now → ((name : List ℕ) → now.page name ≡ before.page name) → now.live ≡ before.live → kind.IsNoSetup (before.page received.setup) (stop_view stop) → StopCauses {A = A} (Err stop) before.faults now.faults → last ≡ None
    → Lives kind Holds output received before now last (stop_view stop)
lives_none kind Holds output received words before now last stop is apart some pages live why causes none =
    let it = opens_some (OfSource received.setup) (with_behind (map opening_for (workers_wanted received)) output) before now some in
    record {
      named = are_files_behind (files_of_receive received) output received.sinks (is.setup.file, are_wanted 0 0 received.links received.sinks is.links_are.each is.sinks_are.each) apart;
      opened = it.0;
      opens = subst (λ (files : List Opening). Opens files it.0 before now) (sym (behind_setup received output)) it.2;
      does = inl (record {
        none = none;
        unheard = unheard_names received.links before.live now.live (λ name. inl (ap (λ (l : Live). l.left name) live));
        unwritten = λ name. inl (pages name);
        cause = inl (why, it.1);
      });
      counts = counts_stopped stop before.faults now.faults causes;
    }

-- the setup was read, and then the workers and the output were opened, or not all were
module _ {V R : Type 0} (kind : LiveKind V R) (completes : Completes kind) (Holds : Parts → List (Entry V R) → Page → Type 0) (output : Option (List ℕ)) (received : ReceiveArguments) (words : List (List ℕ)) (parts : Parts) {C : Type 0} (cfg : C) (before read now : Told) (last : Option (Ended (Entry V R))) (outcome : OutcomeView)
    (is : IsReceive received words) (apart : IsApart output received.sinks) (pages : (name : List ℕ) → read.page name ≡ before.page name) (live : read.live ≡ before.live) (found : kind.IsSetup (before.page received.setup) parts) where
  abbrev behaviour : Behaviour V R
  behaviour = kind.behaviour (config_of received parts)

  abbrev Files : List Opening
  Files = map opening_for (workers_wanted received)

  abbrev Whole : List Opening
  Whole = with_behind Files output

  -- so many of the files behind the setup were opened, and what came of it, and which counts rose
  record Comes (n : ℕ) : Type 0 where
    opens : Opens Whole n read now
    does : Unreceived kind received (suc n) before now last outcome ⊎ ((n ≡ length Whole) × Received kind Holds output received before now last outcome)
    counts : HasCausesBeside ((outcome ≡ Failed faults.Read) × AnyFailed Whole now) read.faults now.faults (outcome ≡ Failed faults.Read) (outcome ≡ Failed faults.Write) (outcome ≡ Failed faults.Open)

  stops : (n : ℕ) → last ≡ None → ((name : List ℕ) → (now.live.left name ≡ read.live.left name) ⊎ LeavesAll (read.live.wire name) (now.live.left name)) → ((name : List ℕ) → (now.page name ≡ read.page name) ⊎ IsUnwritten (now.page name)) → (fault : Fault) → outcome ≡ Failed fault → (fault ≡ faults.Open) ⊎ (fault ≡ faults.NoMemory)
      → Unreceived kind received (suc n) before now last outcome
  stops n none unheard unwritten fault outcome_is why = record {
    none = none;
    unheard = unheard_names received.links before.live now.live (subst (λ (l : Live). (name : List ℕ) → (now.live.left name ≡ l.left name) ⊎ LeavesAll (l.wire name) (now.live.left name)) live unheard);
    unwritten = λ name. elim (unwritten name) [
      | inl same ↦ inl (same ∙ pages name)
      | inr empty ↦ inr empty
    ];
    cause = elim why [
      | inl open_fault ↦ inr (inl (outcome_is ∙ ap (λ (f : Fault). Failed f) open_fault))
      | inr memory ↦ inr (inr (outcome_is ∙ ap (λ (f : Fault). Failed f) memory))
    ];
  }

  outcome_unopened : Unopened read now last outcome → Comes 0
  outcome_unopened unopened =
      let same = unopened.same in record {
        opens = opens_none Whole read now (ap (λ (t : Told). t.openings) same) (λ name. ap (λ (t : Told). t.page name) same) (λ name. ap (λ (t : Told). t.left name) same);
        does = inl (stops 0 unopened.none (λ name. inl (ap (λ (t : Told). t.live.left name) same)) (λ name. inl (ap (λ (t : Told). t.page name) same)) faults.NoMemory unopened.outcome_is (inr refl));
        counts = counts_outcome_none Whole now read.faults now.faults outcome faults.NoMemory unopened.outcome_is (record {
          reads = ap (λ (t : Told). t.faults.reads) same;
          writes = ap (λ (t : Told). t.faults.writes) same;
          openings = cause_none read.faults.openings now.faults.openings (ap (λ (t : Told). t.faults.openings) same) (λ e. absurd cc);
        }) (inr refl);
      }

  outcome_refused_session : (fault : Fault) → RefusedSession V R (workers_wanted received) cfg read now fault → last ≡ None → outcome ≡ Failed fault → (n : ℕ) × Comes n
  outcome_refused_session fault it none outcome_is =
      let wanted = workers_wanted received in
      let some = opens_refused_session wanted cfg read now fault it in
      let why = refused_fault wanted read it.mid _ it.first it.workers (Err fault) fault it.opens refl in (
        some.0,
        record {
          opens = prefix_opened Files output some.0 read now some.1 some.2;
          does = inl (stops some.0 none
              (unheard_links wanted read it.mid it.mid now _ it.first it.later it.workers (Err fault) it.opens refl it.closes)
              (unwritten_pages wanted read it.mid it.mid now _ it.first it.later it.workers (Err fault) it.opens (λ name. refl) it.closes)
              fault outcome_is why);
          counts = counts_outcome_none Whole now read.faults now.faults outcome fault outcome_is (counts_refused wanted cfg read now fault it) why;
        },
      )

  outcome_ran : Ran behaviour (Holds parts) output (workers_wanted received) cfg read now last outcome → Comes (length Whole)
  outcome_ran it =
      let wanted = workers_wanted received in
      let t = it.runs in
      let history : List (Entry V R) = entries t.end.history in
      let text : List ℕ = behaviour.text history in
      let session : RanSession behaviour.yields wanted cfg read it.opened it.running t.closed t.end t.stop = record { turn = it.turn; first = it.first; workers = it.workers; opens = it.opens; ran = t.ran } in
      let reads : Bool = list_any link_failed t.ran.done in
      let wrote : Bool = list_any sink_failed t.ran.done in
      let spent : Bool = list_any has_spent t.ran.done in
      let opened : it.opened.faults ≡ read.faults = counts_opened wanted cfg read it.opened it.turn it.first it.workers it.opens in
      let all = all_opened Files output read it.opened it.running (opens_files wanted cfg read it.opened it.turn it.first it.workers it.opens) it.behind in
      let names : map opening_of t.ran.done ≡ Files = runs_openings behaviour.yields it.workers t.ran.done t.ran.runs ∙ openings_are wanted read it.opened _ it.first it.workers (Ok tt) refl it.opens in
      let counts = counts_ran behaviour.yields wanted cfg read it.opened it.running t.closed t.end t.stop (apart_wanted 0 0 received.links received.sinks is.sinks_are.distinct) session in
      let ends = ends_behind (Holds parts history) output received.links received.sinks t.closed now t.failed outcome apart t.ends (outcome_failed text reads wrote spent t.failed outcome t.outcome_is) in
      let closed : HasCauses it.running.faults now.faults (reads ≡ true) ((wrote || t.failed) ≡ true) ⊥ =
      causes_both it.running.faults t.closed.faults now.faults counts.closes ends.own (λ e. inl e) (λ e. elim e [ inl is ↦ is | inr never ↦ absurd never ]) (either wrote t.failed) (from_either wrote t.failed) (λ e. absurd e) (λ e. elim e [ inl never ↦ never | inr never ↦ never ]) in
      let got : (r : Receives kind received read.live t.closed.live last (file_told before received.setup) (drop (length received.links) (files_told t.closed Files)) outcome) × (r.parts ≡ parts) =
      receives kind completes received words parts (file_told before received.setup) cfg read it.opened it.running t.closed t.end t.stop (wrote || t.failed) last outcome is session t.legal found t.last_is (λ none. (or_parts wrote t.failed none).0) t.outcome_is in
      let outs : drop (length received.links) (files_told t.closed Files) ≡ files_told now (map opening_for (sinks_wanted 0 received.sinks)) = holding.outs_told received t.closed ∙ sym ends.sinks_same in
      let moved : (r : Receives kind received read.live now.live last (file_told before received.setup) (files_told now (map opening_for (sinks_wanted 0 received.sinks))) outcome) × (r.parts ≡ parts) =
      subst (λ (l : Live). (r : Receives kind received read.live l last (file_told before received.setup) (files_told now (map opening_for (sinks_wanted 0 received.sinks))) outcome) × (r.parts ≡ parts)) (sym ends.live)
      (subst (λ (fs : List File). (r : Receives kind received read.live t.closed.live last (file_told before received.setup) fs outcome) × (r.parts ≡ parts)) outs got) in
      let made : (r : Receives kind received before.live now.live last (file_told before received.setup) (files_told now (map opening_for (sinks_wanted 0 received.sinks))) outcome) × (r.parts ≡ parts) =
      subst (λ (l : Live). (r : Receives kind received l now.live last (file_told before received.setup) (files_told now (map opening_for (sinks_wanted 0 received.sinks))) outcome) × (r.parts ≡ parts)) live moved in
      record {
        opens = ends.opens read (closes_after Whole (length Whole) t.ran.done read it.running t.closed it.first t.ran.later all.0 (λ name among. among_all (OfSink name) Files output (subst (λ (os : List Opening). IsAmong (OfSink name) os) names among)) t.ran.closes);
        does = inr (
          refl,
          record {
            receives = made.0;
            end = t.end;
            last_is = t.last_is;
            holds = subst (λ (setup : Parts). BehindHolds (Holds setup history) output now outcome) (sym made.1) ends.holds;
          },
        );
        counts = causes_then read.faults it.opened.faults now.faults opened (causes_then it.opened.faults it.running.faults now.faults all.1
            (counts_outcome Whole now it.running.faults now.faults text reads (wrote || t.failed) spent outcome t.outcome_is closed
            (λ some. elim (either wrote t.failed some) [
              | inl sink ↦ ends.still_failed (counts.failed sink)
              | inr own ↦ ends.own_failed own
            ])));
      }

  outcome_refused_output : (fault : Fault) → RefusedOutput V R (workers_wanted received) cfg output read now fault → last ≡ None → outcome ≡ Failed fault → (n : ℕ) × Comes n
  outcome_refused_output fault it none outcome_is =
      let wanted = workers_wanted received in
      let names : map opening_of it.workers ≡ Files = openings_are wanted read it.opened _ it.first it.workers (Ok tt) refl it.opens in
      let opened : it.opened.faults ≡ read.faults = counts_opened wanted cfg read it.opened it.turn it.first it.workers it.opens in
      let closed : now.faults ≡ it.tried.faults = counts_unrun wanted cfg read it.opened it.tried now it.turn it.first it.later it.workers it.opens it.closes in
      let tried = refused_behind Files output read it.opened it.tried fault (opens_files wanted cfg read it.opened it.turn it.first it.workers it.opens) it.refuses in (
        tried.number,
        record {
          opens = closes_after Whole tried.number it.workers read it.tried now it.first it.later tried.opens (λ name among. tried.among (OfSink name) (subst (λ (os : List Opening). IsAmong (OfSink name) os) names among)) it.closes;
          does = inl (stops tried.number none
              (unheard_links wanted read it.opened it.tried now _ it.first it.later it.workers (Ok tt) it.opens tried.live it.closes)
              (unwritten_pages wanted read it.opened it.tried now _ it.first it.later it.workers (Ok tt) it.opens tried.pages it.closes)
              fault outcome_is tried.why);
          counts = causes_then read.faults it.opened.faults now.faults opened
              (subst (λ f. HasCausesBeside ((outcome ≡ Failed faults.Read) × AnyFailed Whole now) it.opened.faults f (outcome ≡ Failed faults.Read) (outcome ≡ Failed faults.Write) (outcome ≡ Failed faults.Open)) (sym closed)
              (counts_outcome_none Whole now it.opened.faults it.tried.faults outcome fault outcome_is tried.counts tried.why));
        },
      )

  result_view : RunsStation behaviour (Holds parts) output (workers_wanted received) cfg read now last outcome → (n : ℕ) × Comes n
  result_view (inl unopened) = (0, outcome_unopened unopened)
  result_view (inr (inl it)) = elim it.refused [
    | inl session ↦ outcome_refused_session it.fault session it.none it.outcome_is
    | inr own ↦ outcome_refused_output it.fault own it.none it.outcome_is
  ]
  result_view (inr (inr ran)) = (length Whole, outcome_ran ran)

  pub lives_run : {A : Type 0} (made : A) → Opens (OfSource received.setup ∷ []) 1 before read → StopCauses {A = A} (Ok made) before.faults read.faults → RunsStation behaviour (Holds parts) output (workers_wanted received) cfg read now last outcome → Lives kind Holds output received before now last outcome
  lives_run made opened causes runs =
      let it = result_view runs in
      let whole = sym (behind_setup received output) in
      record {
        named = are_files_behind (files_of_receive received) output received.sinks (is.setup.file, are_wanted 0 0 received.links received.sinks is.links_are.each is.sinks_are.each) apart;
        opened = suc it.0;
        opens = subst (λ (fs : List Opening). Opens fs (suc it.0) before now) whole (opens_then (OfSource received.setup) Whole it.0 before read now opened it.1.opens);
        does = elim it.1.does [
          | inl none ↦ inl none
          | inr all ↦ inr (ap suc all.0 ∙ ap length whole, all.1)
        ];
        counts = causes_then before.faults read.faults now.faults (causes_none before.faults read.faults causes (λ e. absurd cc) (λ e. absurd cc) (λ e. absurd cc))
            (subst (λ (fs : List Opening). HasCausesBeside ((outcome ≡ Failed faults.Read) × AnyFailed fs now) read.faults now.faults (outcome ≡ Failed faults.Read) (outcome ≡ Failed faults.Write) (outcome ≡ Failed faults.Open)) whole it.1.counts);
      }

-- the same run, told the configuration of its station otherwise
pub runs_as : {C V R : Type 0} (behaviour : Config → Behaviour V R) (Holds : List (Entry V R) → Page → Type 0) (output : Option (List ℕ)) (config own : Config) (wanted : List Wanted) (cfg : C) (before now : Told) (last : Option (Ended (Entry V R))) (outcome : OutcomeView)
    → config ≡ own → RunsStation (behaviour config) Holds output wanted cfg before now last outcome → RunsStation (behaviour own) Holds output wanted cfg before now last outcome
runs_as behaviour Holds output config own wanted cfg before now last outcome same runs = subst (λ (one : Config). RunsStation (behaviour one) Holds output wanted cfg before now last outcome) same runs

-- ---- the commands

-- a live run with no output is one of receive
pub performs_receive : (Holds : Parts → List (Entry Verdict Reply) → Page → Type 0) (arguments : ReceiveArguments) (before now : Told) (last : Option (Ended (Entry Verdict Reply))) (outcome : OutcomeView) → Lives of_receiver Holds None arguments before now last outcome → Performs (receive before.live now.live last) arguments before now outcome
performs_receive Holds arguments before now last outcome it = record {
  named = it.named;
  opened = it.opened;
  opens = it.opens;
  does = elim it.does [
    | inl none ↦ inl (record {
      none = none.none;
      unheard = none.unheard;
      unwritten = unwritten_behind (length arguments.links) (map opening_for (workers_wanted arguments)) before now none.unwritten;
      cause = none.cause;
    })
    | inr (opened, all) ↦ inr (
      opened ∙ ap suc (length-map (workers_wanted arguments) opening_for),
      subst (λ (fs : List File). Receives of_receiver arguments before.live now.live last (file_told before arguments.setup) fs outcome) (sym (holding.outs_told arguments now)) all.receives,
    )
  ];
  counts = it.counts;
}

-- a live run with an output is one of a command with one output more
pub performs_with : {V R : Type 0} (form : WithOutput V R) (arguments : OutputArguments) (before now : Told) (last : Option (Ended (Entry V R))) (outcome : OutcomeView) → Lives form.kind (form.Holds arguments) (Some arguments.output) arguments.receive before now last outcome → Performs (with_output form before.live now.live last) arguments before now outcome
performs_with {V = V} {R = R} form arguments before now last outcome it =
    let received : ReceiveArguments = arguments.receive in
    let files : List Opening = map opening_for (workers_wanted received) in
    let behind : List Opening = OfSink arguments.output ∷ [] in
    let outs : drop (length received.links) (files_told now (files ++ behind)) ≡ files_told now (map opening_for (sinks_wanted 0 received.sinks) ++ behind) = outs_told 0 received.links (sinks_wanted 0 received.sinks) behind now in
    let sinks : take (length received.sinks) (drop (length received.links) (files_told now (files ++ behind))) ≡ files_told now (map opening_for (sinks_wanted 0 received.sinks)) = ap (take (length received.sinks)) outs ∙ sinks_told 0 received.sinks behind now in
    let own : drop (length received.sinks) (drop (length received.links) (files_told now (files ++ behind))) ≡ file_told now arguments.output ∷ [] = ap (drop (length received.sinks)) outs ∙ output_told 0 received.sinks behind now in
    record {
      named = it.named;
      opened = it.opened;
      opens = it.opens;
      does = elim it.does [
        | inl none ↦ inl (record {
          none = none.none;
          unheard = none.unheard;
          unwritten = unwritten_behind (length received.links) (files ++ behind) before now none.unwritten;
          cause = none.cause;
        })
        | inr (opened, all) ↦ (
            let parts : Parts = all.receives.parts in
            let made : (r : Receives form.kind received before.live now.live last (file_told before received.setup) (take (length received.sinks) (drop (length received.links) (files_told now (files ++ behind)))) outcome) × (r.parts ≡ parts) =
            subst (λ (fs : List File). (r : Receives form.kind received before.live now.live last (file_told before received.setup) fs outcome) × (r.parts ≡ parts)) (sym sinks) (all.receives, refl) in
            inr (
              opened ∙ ap suc (length-append files behind ∙ omega (arith, length-map (workers_wanted received) opening_for)),
              made.0,
              subst (λ (setup : Parts). OutputHolds (form.Holds arguments setup) last (drop (length received.sinks) (drop (length received.links) (files_told now (files ++ behind)))) outcome) (sym made.1)
                  (subst (λ (fs : List File). OutputHolds (form.Holds arguments parts) last fs outcome) (sym own)
                  (subst (λ (l : Option (Ended (Entry V R))). OutputHolds (form.Holds arguments parts) l (file_told now arguments.output ∷ []) outcome) (sym all.last_is) all.holds)),
            ))
      ];
      counts = it.counts;
    }
