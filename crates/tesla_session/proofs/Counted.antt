-- Which counts of faults a session raises.
use Rattle.std.proofs.Common.{◌≡◌, ◌∙◌, ◌⊎◌, inl, inr, ◌<◌, ℕ, suc, Bool, true, false, ◌||◌, Option, Some, None, Result, Ok, Err, List, [], ◌∷◌, ◌++◌, map, refl, sym, ap, subst, arith}
use Rattle.std.specs.List.{list_any}
use Rattle.std.proofs.lemmas.Bool.Decides.{nat_tests}
use Rattle.tesla_desk.specs.Faults.{Faults, HasCause, HasCauses, HasCausesBeside, CountsOpening, after_source, after_sink}
use Rattle.tesla_desk.specs.Live.{Wire}
use Rattle.tesla_desk.specs.Outside.{Told, Page, Opening, OfSource, OfSink, OfLink, OfPost, MakesClock, page_of}
use Rattle.tesla_desk.specs.declared.desk.OpenRefusal.{OpenRefusal}
use Rattle.tesla_desk.specs.declared.desk.OpenRefusal.TheVariants as refusals
use Rattle.tesla_desk.proofs.Counts.{cause_as, cause_none, causes_both, causes_opening, causes_plain, causes_sink, causes_source, counts_stay}
use Rattle.tesla_front.specs.OutcomeView.{OutcomeView, Failed}
use Rattle.tesla_front.specs.Fault.{unopened}
use Rattle.tesla_front.specs.Files.{HasFailed}
use Rattle.tesla_front.specs.Openings.{AnyFailed, IsAmong}
use Rattle.tesla_front.specs.declared.fault.Fault.{Fault}
use Rattle.tesla_front.specs.declared.fault.Fault.TheVariants as faults
use Rattle.tesla_front.proofs.Reported.{rose_some}
use Rattle.tesla_front.specs.Names.{AreDistinct, IsNoneOf}
use Rattle.tesla_receiver.specs.declared.history.Entry.{Entry}
use Rattle.tesla_shared.specs.declared.draining.SinkEnd.{SinkEnd}
use Rattle.tesla_shared.specs.declared.draining.SinkEnd.TheVariants as sink_ends
use Rattle.tesla_shared.specs.declared.ingesting.LinkEnd.{LinkEnd}
use Rattle.tesla_shared.specs.declared.ingesting.LinkEnd.TheVariants as link_ends
use Rattle.tesla_turn.specs.Held.{Ended, TurnId}
use Rattle.tesla_shared.specs.Yields.{Yield}
use Rattle.tesla_session.specs.Wanted.{Wanted, WantedLink, WantedSink, links_wanted, sinks_wanted, opening_for}
use Rattle.tesla_session.specs.Session.{PassSeen, Seen, SeenLink, SeenSink, OpensWorker, RefusesWorker, OpensWorkers, OpensAll, RunWorkers, ClosesWorkers, RefusedSession, RanSession, ended_failed, drained_failed, link_failed, sink_failed, stop_by, outcome_by}
use Rattle.tesla_session.proofs.Opened.{opening_of, openings_are, runs_openings}
use Rattle.tesla_session.proofs.Fresh.{AreFresh, fresh_workers}

-- ---- openings

made_faults : (before now : Told) → MakesClock before now → now.faults ≡ before.faults
made_faults before now makes = ap (λ (t : Told). t.faults) makes.same

module _ {C V R : Type 0} where
  -- the opening of a worker raises no count
  worker_faults : (before now : Told) (first later : PassSeen C V R) (wanted : Wanted) (worker : Seen C V R) → OpensWorker wanted before now first later worker → now.faults ≡ before.faults
  worker_faults before now first later (WantedLink ingest own) (SeenLink worker) opens = made_faults opens.opened now opens.makes ∙ counts_stay before.faults opens.opened.faults opens.opens.counts (λ e. absurd cc)
  worker_faults before now first later (WantedLink ingest own) (SeenSink worker) opens = absurd opens
  worker_faults before now first later (WantedSink releaser own) (SeenLink worker) opens = absurd opens
  worker_faults before now first later (WantedSink releaser own) (SeenSink worker) opens = counts_stay before.faults now.faults opens.opens.counts (λ e. absurd cc)

-- a refusal raises the count of openings where it is told as a failed opening
refused_counts_by : (refusal : OpenRefusal) (fault : Fault) (before now : Faults) → fault ≡ unopened refusal → CountsOpening before now (◌≡◌ {A = Result (Unit {0}) OpenRefusal} (Err refusal) (Err refusals.Failed)) → CountsOpening before now (fault ≡ faults.Open)
refused_counts_by refusals.Failed fault before now is counts = record {
  reads = counts.reads;
  writes = counts.writes;
  openings = cause_as before.openings now.openings counts.openings (λ e. refl) (λ e. is);
}
refused_counts_by refusals.NoMemory fault before now is counts = record {
  reads = counts.reads;
  writes = counts.writes;
  openings = cause_as before.openings now.openings counts.openings (λ e. absurd (let no : faults.Open ≡ faults.NoMemory = sym e ∙ is in cc)) (λ e. absurd cc);
}

pub refused_counts : (wanted : Wanted) (before now : Told) (fault : Fault) → RefusesWorker wanted before now fault → CountsOpening before.faults now.faults (fault ≡ faults.Open)
refused_counts (WantedLink ingest own) before now fault (refusal, tried, fault_is) = refused_counts_by refusal fault before.faults now.faults fault_is tried.counts
refused_counts (WantedSink releaser own) before now fault (refusal, tried, fault_is) = refused_counts_by refusal fault before.faults now.faults fault_is tried.counts

counts_as : (fault : Fault) (result : Result (Unit {0}) Fault) (before now : Faults) → result ≡ Err fault → CountsOpening before now (fault ≡ faults.Open) → CountsOpening before now (result ≡ Err faults.Open)
counts_as fault result before now is counts = record {
  reads = counts.reads;
  writes = counts.writes;
  openings = cause_as before.openings now.openings counts.openings (λ e. cc) (λ e. cc);
}

module _ {C V R : Type 0} where
  -- the openings raise the count of openings where one was told as failed, and no other
  opens_counts : (wanted : List Wanted) (before now : Told) (first later : PassSeen C V R) (workers : List (Seen C V R)) (result : Result (Unit {0}) Fault) → OpensWorkers wanted before now first later workers result → CountsOpening before.faults now.faults (result ≡ Err faults.Open)
  opens_counts [] before now first later workers result (workers_is, now_is, later_is, result_is) = record {
    reads = ap (λ (t : Told). t.faults.reads) now_is;
    writes = ap (λ (t : Told). t.faults.writes) now_is;
    openings = cause_none before.faults.openings now.faults.openings (ap (λ (t : Told). t.faults.openings) now_is) (λ e. cc);
  }
  opens_counts (wanted ∷ others) before now first later workers result (inl (fault, refused, later_is, workers_is, result_is)) =
      counts_as fault result before.faults now.faults result_is (refused_counts wanted before now fault refused)
  opens_counts (wanted ∷ others) before now first later workers result (inr (worker, rest, mid, middle, workers_is, opens, opened)) =
      subst (λ (f : Faults). CountsOpening f now.faults (result ≡ Err faults.Open)) (worker_faults before mid first middle wanted worker opens) (opens_counts others mid now middle later rest result opened)

  -- ---- closings of new workers

  -- the closings of workers that didn't fail raise no count
  closes_fresh : (wire : List ℕ → Wire) (workers : List (Seen C V R)) (before now : Told) (first later : PassSeen C V R) → AreFresh wire workers → ClosesWorkers workers before now first later → now.faults ≡ before.faults
  closes_fresh wire [] before now first later fresh (now_is, later_is) = ap (λ (t : Told). t.faults) now_is
  closes_fresh wire (SeenLink worker ∷ workers) before now first later (own, fresh) (mid, middle, others, closes, later_is) =
      closes.counts ∙ ap (λ n. after_source mid.faults n) own.1 ∙ closes_fresh wire workers before mid first middle fresh others
  closes_fresh wire (SeenSink worker ∷ workers) before now first later (own, fresh) (mid, middle, others, closes, later_is) =
      closes.counts ∙ ap (λ n. after_sink mid.faults n) own.1 ∙ closes_fresh wire workers before mid first middle fresh others

  -- ---- closings of workers that did their work

  -- the count of faults of a worker rose from none exactly where it failed
  abbrev IsCounted : Seen C V R → Type 0
  IsCounted (SeenLink worker) = HasCause 0 worker.faults (worker.end ≡ link_ends.Failed)
  IsCounted (SeenSink worker) = HasCause 0 worker.faults (worker.end ≡ sink_ends.Failed)

  abbrev AreCounted : List (Seen C V R) → Type 0
  AreCounted [] = Unit {0}
  AreCounted (worker ∷ workers) = IsCounted worker × AreCounted workers

  runs_counted : (yields : R → Yield) (wire : List ℕ → Wire) (workers done : List (Seen C V R)) → AreFresh wire workers → RunWorkers yields workers done → AreCounted done
  runs_counted yields wire [] [] fresh runs = tt
  runs_counted yields wire [] (after ∷ afters) fresh runs = absurd runs
  runs_counted yields wire (before ∷ befores) [] fresh runs = absurd runs
  runs_counted yields wire (SeenLink before ∷ befores) (SeenLink after ∷ afters) (own, fresh) (runs, others) =
      (subst (λ (n : ℕ). HasCause n after.faults (after.end ≡ link_ends.Failed)) own.1 runs.cause, runs_counted yields wire befores afters fresh others)
  runs_counted yields wire (SeenLink before ∷ befores) (SeenSink after ∷ afters) fresh (runs, others) = absurd runs
  runs_counted yields wire (SeenSink before ∷ befores) (SeenLink after ∷ afters) fresh (runs, others) = absurd runs
  runs_counted yields wire (SeenSink before ∷ befores) (SeenSink after ∷ afters) (own, fresh) (runs, others) =
      (subst (λ (n : ℕ). HasCause n after.faults (after.end ≡ sink_ends.Failed)) own.1 runs.cause, runs_counted yields wire befores afters fresh others)

link_is : (end : LinkEnd) → ended_failed end ≡ true → end ≡ link_ends.Failed
link_is link_ends.Ended test = absurd cc
link_is link_ends.Failed test = refl
link_is link_ends.Spent test = absurd cc

sink_is : (end : SinkEnd) → drained_failed end ≡ true → end ≡ sink_ends.Failed
sink_is sink_ends.Over test = absurd cc
sink_is sink_ends.Failed test = refl
sink_is sink_ends.Spent test = absurd cc

or_parts : (a b : Bool) → (a || b) ≡ true → (b ≡ true) ⊎ (a ≡ true)
or_parts true b test = inr refl
or_parts false b test = inl test

or_made : (a b : Bool) → (b ≡ true) ⊎ (a ≡ true) → (a || b) ≡ true
or_made true b test = refl
or_made false b (inl test) = test
or_made false b (inr test) = absurd cc

module _ {C V R : Type 0} where
  -- the closings raise the count of reads where a link failed, and that of writes where a sink failed
  closes_causes : (workers : List (Seen C V R)) (before now : Told) (first later : PassSeen C V R) → AreCounted workers → ClosesWorkers workers before now first later → HasCauses before.faults now.faults (list_any link_failed workers ≡ true) (list_any sink_failed workers ≡ true) ⊥
  closes_causes [] before now first later counted (now_is, later_is) = record {
    reads = cause_none before.faults.reads now.faults.reads (ap (λ (t : Told). t.faults.reads) now_is) (λ e. cc);
    writes = cause_none before.faults.writes now.faults.writes (ap (λ (t : Told). t.faults.writes) now_is) (λ e. cc);
    openings = cause_none before.faults.openings now.faults.openings (ap (λ (t : Told). t.faults.openings) now_is) (λ e. e);
  }
  closes_causes (SeenLink worker ∷ workers) before now first later (own, counted) (mid, middle, others, closes, later_is) =
      let head : HasCauses mid.faults now.faults (ended_failed worker.end ≡ true) ⊥ ⊥ =
      causes_source mid.faults now.faults worker.faults closes.counts own (link_is worker.end) (λ e. ap ended_failed e) (λ e. e) (λ e. e) in
      causes_both before.faults mid.faults now.faults (closes_causes workers before mid first middle counted others) head
      (or_parts (ended_failed worker.end) (list_any link_failed workers)) (or_made (ended_failed worker.end) (list_any link_failed workers))
      (λ e. inl e) (λ e. elim e [ inl is ↦ is | inr never ↦ absurd never ])
      (λ e. absurd e) (λ e. elim e [ inl never ↦ never | inr never ↦ never ])
  closes_causes (SeenSink worker ∷ workers) before now first later (own, counted) (mid, middle, others, closes, later_is) =
      let head : HasCauses mid.faults now.faults ⊥ (drained_failed worker.end ≡ true) ⊥ =
      causes_sink mid.faults now.faults worker.faults closes.counts own (λ e. e) (sink_is worker.end) (λ e. ap drained_failed e) (λ e. e) in
      causes_both before.faults mid.faults now.faults (closes_causes workers before mid first middle counted others) head
      (λ e. inl e) (λ e. elim e [ inl is ↦ is | inr never ↦ absurd never ])
      (or_parts (drained_failed worker.end) (list_any sink_failed workers)) (or_made (drained_failed worker.end) (list_any sink_failed workers))
      (λ e. absurd e) (λ e. elim e [ inl never ↦ never | inr never ↦ never ])

-- ---- sinks that failed beside a link

-- no two sinks among these have the same name
abbrev pub AreApart : List Opening → Type 0
AreApart [] = Unit {0}
AreApart (OfSource name ∷ others) = AreApart others
AreApart (OfLink name ∷ others) = AreApart others
AreApart (OfPost name ∷ others) = AreApart others
AreApart (OfSink name ∷ others) = (IsAmong (OfSink name) others → ⊥) × AreApart others

none_among : (name : List ℕ) (releaser : ℕ) (names : List (List ℕ)) → IsNoneOf name names → IsAmong (OfSink name) (map opening_for (sinks_wanted releaser names)) → ⊥
none_among name releaser [] none among = among
none_among name releaser (other ∷ others) (own, none) (inl same) = own (let e : name ≡ other = cc in e)
none_among name releaser (other ∷ others) (own, none) (inr among) = none_among name (suc releaser) others none among

apart_sinks : (releaser : ℕ) (sinks : List (List ℕ)) → AreDistinct sinks → AreApart (map opening_for (sinks_wanted releaser sinks))
apart_sinks releaser [] distinct = tt
apart_sinks releaser (name ∷ names) (none, distinct) = (none_among name (suc releaser) names none, apart_sinks (suc releaser) names distinct)

-- sinks with distinct names are apart, beside any links
pub apart_wanted : (ingest releaser : ℕ) (links sinks : List (List ℕ)) → AreDistinct sinks → AreApart (map opening_for (links_wanted ingest links ++ sinks_wanted releaser sinks))
apart_wanted ingest releaser [] sinks distinct = apart_sinks releaser sinks distinct
apart_wanted ingest releaser (name ∷ names) sinks distinct = apart_wanted (suc ingest) releaser names sinks distinct

pub has_failed : (written : Option (List ℕ)) (count : ℕ) → 0 < count → HasFailed (page_of written count)
has_failed None count some = tt
has_failed (Some bytes) count some = grind (arith, nat_tests)

-- the page of a sink that failed, told the openings and the desk afterwards
abbrev FailedSink : List Opening → Told → Type 0
FailedSink openings now = (name : List ℕ) × IsAmong (OfSink name) openings × HasFailed (now.page name)

failed_later : (openings : List Opening) (opening : Opening) (mid now : Told) → FailedSink openings mid → ((name : List ℕ) → IsAmong (OfSink name) openings → now.page name ≡ mid.page name) → FailedSink (opening ∷ openings) now
failed_later openings opening mid now (name, among, failed) same = (name, inr among, subst (λ (p : Page). HasFailed p) (sym (same name among)) failed)

module _ {C V R : Type 0} where
  -- where a sink failed, the page under the name of one tells so after all closings
  closes_failed : (workers : List (Seen C V R)) (before now : Told) (first later : PassSeen C V R) → AreApart (map opening_of workers) → AreCounted workers → ClosesWorkers workers before now first later → list_any sink_failed workers ≡ true → FailedSink (map opening_of workers) now
  closes_failed [] before now first later apart counted closes failed = absurd cc
  closes_failed (SeenLink worker ∷ workers) before now first later apart (own, counted) (mid, middle, others, closes, later_is) failed =
      failed_later (map opening_of workers) (OfLink worker.name) mid now (closes_failed workers before mid first middle apart counted others failed) (λ name among. closes.pages name)
  closes_failed (SeenSink worker ∷ workers) before now first later (alone, apart) (own, counted) (mid, middle, others, closes, later_is) failed =
      elim (or_parts (drained_failed worker.end) (list_any sink_failed workers) failed) [
        | inl other ↦ failed_later (map opening_of workers) (OfSink worker.name) mid now (closes_failed workers before mid first middle apart counted others other)
            (λ name among. closes.pages name (λ same. alone (subst (λ (n : List ℕ). IsAmong (OfSink n) (map opening_of workers)) same among)))
        | inr this ↦ (worker.name, inl refl, subst (λ (p : Page). HasFailed p) (sym closes.own) (has_failed worker.written worker.faults (rose_some 0 worker.faults refl (own.rose (sink_is worker.end this)))))
      ]

any_failed : (files : List Opening) (now : Told) (name : List ℕ) → IsAmong (OfSink name) files → HasFailed (now.page name) → AnyFailed files now
any_failed [] now name among failed = absurd among
any_failed (OfSource own ∷ others) now name (inl same) failed = absurd cc
any_failed (OfSource own ∷ others) now name (inr among) failed = any_failed others now name among failed
any_failed (OfLink own ∷ others) now name (inl same) failed = absurd cc
any_failed (OfLink own ∷ others) now name (inr among) failed = any_failed others now name among failed
any_failed (OfPost own ∷ others) now name (inl same) failed = absurd cc
any_failed (OfPost own ∷ others) now name (inr among) failed = inr (any_failed others now name among failed)
any_failed (OfSink own ∷ others) now name (inl same) failed = inl (let is : name ≡ own = cc in subst (λ (n : List ℕ). HasFailed (now.page n)) is failed)
any_failed (OfSink own ∷ others) now name (inr among) failed = inr (any_failed others now name among failed)

module _ {C V R : Type 0} where
  failed_told : (wanted : List Wanted) (now : Told) (done : List (Seen C V R)) (mid : Told) (first later : PassSeen C V R) → map opening_of done ≡ map opening_for wanted → AreApart (map opening_for wanted) → AreCounted done → ClosesWorkers done mid now first later → list_any sink_failed done ≡ true → AnyFailed (map opening_for wanted) now
  failed_told wanted now done mid first later names apart counted closes failed =
      let it = closes_failed done mid now first later (subst (λ (os : List Opening). AreApart os) (sym names) apart) counted closes failed in
      any_failed (map opening_for wanted) now it.0 (subst (λ (os : List Opening). IsAmong (OfSink it.0) os) names it.1) it.2

-- ---- what a session came to

module _ (text : List ℕ) where
  read_from : (read write spent : Bool) → outcome_by (stop_by read write spent) text ≡ Failed faults.Read → read ≡ true
  read_from true write spent e = refl
  read_from false true spent e = absurd cc
  read_from false false true e = absurd cc
  read_from false false false e = absurd cc

  read_to : (read write spent : Bool) → read ≡ true → outcome_by (stop_by read write spent) text ≡ Failed faults.Read
  read_to true write spent e = refl
  read_to false write spent e = absurd cc

  write_from : (read write spent : Bool) → outcome_by (stop_by read write spent) text ≡ Failed faults.Write → write ≡ true
  write_from true write spent e = absurd cc
  write_from false true spent e = refl
  write_from false false true e = absurd cc
  write_from false false false e = absurd cc

  write_to : (read write spent : Bool) → write ≡ true → (outcome_by (stop_by read write spent) text ≡ Failed faults.Read) ⊎ (outcome_by (stop_by read write spent) text ≡ Failed faults.Write)
  write_to true write spent e = inl refl
  write_to false true spent e = inr refl
  write_to false false spent e = absurd cc

  no_open : (read write spent : Bool) → outcome_by (stop_by read write spent) text ≡ Failed faults.Open → ⊥
  no_open true write spent e = cc
  no_open false true spent e = cc
  no_open false false true e = cc
  no_open false false false e = cc

-- each count rose for what workers came to, and for nothing else
pub counts_outcome : (files : List Opening) (desk : Told) (before now : Faults) (text : List ℕ) (read write spent : Bool) (outcome : OutcomeView) → outcome ≡ outcome_by (stop_by read write spent) text → HasCauses before now (read ≡ true) (write ≡ true) ⊥ → (write ≡ true → AnyFailed files desk)
    → HasCausesBeside ((outcome ≡ Failed faults.Read) × AnyFailed files desk) before now (outcome ≡ Failed faults.Read) (outcome ≡ Failed faults.Write) (outcome ≡ Failed faults.Open)
counts_outcome files desk before now text read write spent outcome is counts any = record {
  reads = cause_as before.reads now.reads counts.reads (λ e. read_from text read write spent (sym is ∙ e)) (λ failed. is ∙ read_to text read write spent failed);
  writes = record {
    stays = counts.writes.stays;
    rose = λ e. counts.writes.rose (write_from text read write spent (sym is ∙ e));
    still = λ none clear. counts.writes.still (λ failed. elim (write_to text read write spent failed) [
      | inl read_is ↦ clear (is ∙ read_is, any failed)
      | inr write_is ↦ none (is ∙ write_is)
    ]);
  };
  openings = cause_as before.openings now.openings counts.openings (λ e. no_open text read write spent (sym is ∙ e)) (λ never. absurd never);
}

-- an opening was refused, or there was no memory: what that raised
pub counts_outcome_none : (files : List Opening) (desk : Told) (before now : Faults) (outcome : OutcomeView) (fault : Fault) → outcome ≡ Failed fault → CountsOpening before now (fault ≡ faults.Open) → (fault ≡ faults.Open) ⊎ (fault ≡ faults.NoMemory)
    → HasCausesBeside ((outcome ≡ Failed faults.Read) × AnyFailed files desk) before now (outcome ≡ Failed faults.Read) (outcome ≡ Failed faults.Write) (outcome ≡ Failed faults.Open)
counts_outcome_none files desk before now outcome fault is counts why =
    causes_plain before now (causes_opening before now counts
    (λ e. elim why [ inl open_fault ↦ cc | inr memory ↦ cc ])
    (λ e. elim why [ inl open_fault ↦ cc | inr memory ↦ cc ])
    (λ e. let same : fault ≡ faults.Open = cc in same)
    (λ e. is ∙ ap (λ (f : Fault). Failed f) e))

-- ---- sessions

-- the closings raised the count of reads where a link failed, and that of writes where a sink failed, whose page tells so then
pub record CountsRan (files : List Opening) (read write : Bool) (running now : Told) : Type 0 where
  pub closes : HasCauses running.faults now.faults (read ≡ true) (write ≡ true) ⊥
  pub failed : write ≡ true → AnyFailed files now

module _ {C V R : Type 0} where
  -- an opening was refused, and no other count rose
  pub counts_refused : (wanted : List Wanted) (cfg : C) (before now : Told) (fault : Fault) → RefusedSession V R wanted cfg before now fault → CountsOpening before.faults now.faults (fault ≡ faults.Open)
  counts_refused wanted cfg before now fault refused =
      let opened = opens_counts wanted before refused.mid _ refused.first refused.workers (Err fault) refused.opens in
      let fresh = fresh_workers wanted before refused.mid _ refused.first refused.workers (Err fault) refused.opens in
      let same : now.faults ≡ refused.mid.faults = closes_fresh before.live.wire refused.workers refused.mid now refused.first refused.later fresh refused.closes in
      subst (λ (f : Faults). CountsOpening before.faults f (fault ≡ faults.Open)) (sym same) (record {
        reads = opened.reads;
        writes = opened.writes;
        openings = cause_as before.faults.openings refused.mid.faults.openings opened.openings (λ e. ap (λ (f : Fault). Err f) e) (λ e. let is : Err fault ≡ Err faults.Open = e in cc);
      })

  -- all were opened, and no count rose
  pub counts_opened : (wanted : List Wanted) (cfg : C) (before now : Told) (turn : TurnId) (first : PassSeen C V R) (workers : List (Seen C V R)) → OpensAll wanted cfg before now turn first workers → now.faults ≡ before.faults
  counts_opened wanted cfg before now turn first workers opens = counts_stay before.faults now.faults (opens_counts wanted before now _ first workers (Ok tt) opens) (λ e. absurd cc)

  -- workers that were opened and made no call were closed, and no count rose
  pub counts_unrun : (wanted : List Wanted) (cfg : C) (before mid start now : Told) (turn : TurnId) (first later : PassSeen C V R) (workers : List (Seen C V R)) → OpensAll wanted cfg before mid turn first workers → ClosesWorkers workers start now first later → now.faults ≡ start.faults
  counts_unrun wanted cfg before mid start now turn first later workers opens closes =
      closes_fresh before.live.wire workers start now first later (fresh_workers wanted before mid _ first workers (Ok tt) opens) closes

  pub counts_ran : (yields : R → Yield) (wanted : List Wanted) (cfg : C) (before opened running now : Told) (end : Ended (Entry V R)) (stop : Option OutcomeView) → AreApart (map opening_for wanted) → (it : RanSession yields wanted cfg before opened running now end stop) → CountsRan (map opening_for wanted) (list_any link_failed it.ran.done) (list_any sink_failed it.ran.done) running now
  counts_ran yields wanted cfg before opened running now end stop apart it =
      let fresh = fresh_workers wanted before opened _ it.first it.workers (Ok tt) it.opens in
      let counted = runs_counted yields before.live.wire it.workers it.ran.done fresh it.ran.runs in
      let names : map opening_of it.ran.done ≡ map opening_for wanted = runs_openings yields it.workers it.ran.done it.ran.runs ∙ openings_are wanted before opened _ it.first it.workers (Ok tt) refl it.opens in
      record {
        closes = closes_causes it.ran.done running now it.first it.ran.later counted it.ran.closes;
        failed = λ some. failed_told wanted now it.ran.done running it.first it.ran.later names apart counted it.ran.closes some;
      }
