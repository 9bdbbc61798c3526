-- Workers that are new: what their openings and closings leave of links and sinks.
use Rattle.std.proofs.Common.{◌≡◌, ◌∙◌, ◌⊎◌, inl, inr, ℕ, Option, Result, Err, IfSome, List, [], ◌∷◌, map, sym, ap, subst}
use Rattle.tesla_desk.specs.Live.{Live, Wire, Remainder, OpenedLink, LeavesAll}
use Rattle.tesla_desk.specs.Outside.{Told, OfSink, MakesClock}
use Rattle.tesla_desk.specs.declared.desk.OpenRefusal.{OpenRefusal}
use Rattle.tesla_desk.specs.declared.desk.OpenRefusal.TheVariants as refusals
use Rattle.tesla_desk.proofs.Told.{leaves_all}
use Rattle.tesla_front.specs.Fault.{unopened}
use Rattle.tesla_front.specs.Files.{IsUnwritten}
use Rattle.tesla_front.specs.Openings.{IsAmong}
use Rattle.tesla_front.specs.declared.fault.Fault.{Fault}
use Rattle.tesla_front.specs.declared.fault.Fault.TheVariants as faults
use Rattle.tesla_front.proofs.Openings.{unwritten_page}
use Rattle.tesla_shared.specs.Yields.{Yield}
use Rattle.tesla_session.specs.Wanted.{Wanted, WantedLink, WantedSink}
use Rattle.tesla_session.specs.Session.{PassSeen, Seen, SeenLink, SeenSink, OpensWorker, RefusesWorker, OpensWorkers, ClosesWorkers}
use Rattle.tesla_session.proofs.Opened.{opening_of, opens_workers, same_or_not}

-- ---- the openings leave what is told of links

record KeepsLinks (before now : Live) : Type 0 where
  wires : (name : List ℕ) → now.wire name ≡ before.wire name
  lefts : (name : List ℕ) → now.left name ≡ before.left name

keeps_same : (before now : Live) → now ≡ before → KeepsLinks before now
keeps_same before now same = record { wires = λ name. ap (λ (l : Live). l.wire name) same; lefts = λ name. ap (λ (l : Live). l.left name) same }

keeps_then : (before mid now : Live) → KeepsLinks before mid → KeepsLinks mid now → KeepsLinks before now
keeps_then before mid now first later = record { wires = λ name. later.wires name ∙ first.wires name; lefts = λ name. later.lefts name ∙ first.lefts name }

keeps_made : (before now : Told) → MakesClock before now → KeepsLinks before.live now.live
keeps_made before now makes = record { wires = λ name. ap (λ (t : Told). t.live.wire name) makes.same; lefts = λ name. ap (λ (t : Told). t.live.left name) makes.same }

module _ {C V R : Type 0} where
  module _ (before now : Told) (first later : PassSeen C V R) where
    worker_keeps : (wanted : Wanted) (worker : Seen C V R) → OpensWorker wanted before now first later worker → KeepsLinks before.live now.live
    worker_keeps (WantedLink ingest own) (SeenLink worker) opens = keeps_then before.live opens.opened.live now.live (keeps_same before.live opens.opened.live opens.opens.live) (keeps_made opens.opened now opens.makes)
    worker_keeps (WantedLink ingest own) (SeenSink worker) opens = absurd opens
    worker_keeps (WantedSink releaser own) (SeenLink worker) opens = absurd opens
    worker_keeps (WantedSink releaser own) (SeenSink worker) opens = keeps_same before.live now.live opens.opens.live

refused_keeps : (wanted : Wanted) (before now : Told) (fault : Fault) → RefusesWorker wanted before now fault → KeepsLinks before.live now.live
refused_keeps (WantedLink ingest own) before now fault (refusal, tried, fault_is) = keeps_same before.live now.live tried.live
refused_keeps (WantedSink releaser own) before now fault (refusal, tried, fault_is) = keeps_same before.live now.live tried.live

module _ {C V R : Type 0} where
  opens_keep : (wanted : List Wanted) (before now : Told) (first later : PassSeen C V R) (workers : List (Seen C V R)) (result : Result (Unit {0}) Fault) → OpensWorkers wanted before now first later workers result → KeepsLinks before.live now.live
  opens_keep [] before now first later workers result (workers_is, now_is, later_is, result_is) = keeps_same before.live now.live (ap (λ (t : Told). t.live) now_is)
  opens_keep (wanted ∷ others) before now first later workers result (inl (fault, refused, later_is, workers_is, result_is)) = refused_keeps wanted before now fault refused
  opens_keep (wanted ∷ others) before now first later workers result (inr (worker, rest, mid, middle, workers_is, opens, opened)) =
      keeps_then before.live mid.live now.live (worker_keeps before mid first middle wanted worker opens) (opens_keep others mid now middle later rest result opened)

  -- ---- new workers

  -- a new worker has all letters that are there for its link, or nothing was written to its sink, and neither failed
  abbrev pub IsFresh : (List ℕ → Wire) → Seen C V R → Type 0
  IsFresh wire (SeenLink worker) = OpenedLink (wire worker.name) worker.left × (worker.faults ≡ 0)
  IsFresh wire (SeenSink worker) = IfSome worker.written (λ bytes. bytes ≡ []) × (worker.faults ≡ 0)

  abbrev pub AreFresh : (List ℕ → Wire) → List (Seen C V R) → Type 0
  AreFresh wire [] = Unit {0}
  AreFresh wire (worker ∷ workers) = IsFresh wire worker × AreFresh wire workers

  fresh_by : (wire other : List ℕ → Wire) → ((name : List ℕ) → other name ≡ wire name) → (worker : Seen C V R) → IsFresh other worker → IsFresh wire worker
  fresh_by wire other same (SeenLink worker) fresh = (subst (λ (w : Wire). OpenedLink w worker.left) (same worker.name) fresh.0, fresh.1)
  fresh_by wire other same (SeenSink worker) fresh = fresh

  all_fresh_by : (wire other : List ℕ → Wire) → ((name : List ℕ) → other name ≡ wire name) → (workers : List (Seen C V R)) → AreFresh other workers → AreFresh wire workers
  all_fresh_by wire other same [] fresh = tt
  all_fresh_by wire other same (worker ∷ workers) (own, others) = (fresh_by wire other same worker own, all_fresh_by wire other same workers others)

  fresh_worker : (before now : Told) (first later : PassSeen C V R) (wanted : Wanted) (worker : Seen C V R) → OpensWorker wanted before now first later worker → IsFresh before.live.wire worker
  fresh_worker before now first later (WantedLink ingest own) (SeenLink worker) opens = (subst (λ (n : List ℕ). OpenedLink (before.live.wire n) worker.left) (sym opens.name_is) opens.letters, opens.fresh)
  fresh_worker before now first later (WantedLink ingest own) (SeenSink worker) opens = absurd opens
  fresh_worker before now first later (WantedSink releaser own) (SeenLink worker) opens = absurd opens
  fresh_worker before now first later (WantedSink releaser own) (SeenSink worker) opens = (opens.empty, opens.fresh)

  -- workers that were opened are new
  pub fresh_workers : (wanted : List Wanted) (before now : Told) (first later : PassSeen C V R) (workers : List (Seen C V R)) (result : Result (Unit {0}) Fault) → OpensWorkers wanted before now first later workers result → AreFresh before.live.wire workers
  fresh_workers [] before now first later workers result (workers_is, now_is, later_is, result_is) =
      subst (λ (ws : List (Seen C V R)). AreFresh before.live.wire ws) (sym workers_is) tt
  fresh_workers (wanted ∷ others) before now first later workers result (inl (fault, refused, later_is, workers_is, result_is)) =
      subst (λ (ws : List (Seen C V R)). AreFresh before.live.wire ws) (sym workers_is) tt
  fresh_workers (wanted ∷ others) before now first later workers result (inr (worker, rest, mid, middle, workers_is, opens, opened)) =
      subst (λ (ws : List (Seen C V R)). AreFresh before.live.wire ws) (sym workers_is)
      (fresh_worker before mid first middle wanted worker opens, all_fresh_by before.live.wire mid.live.wire (worker_keeps before mid first middle wanted worker opens).wires rest (fresh_workers others mid now middle later rest result opened))

-- ---- the closings of new workers

left_on : (wire : Wire) (first mid now : Option Remainder) → now ≡ mid → (mid ≡ first) ⊎ LeavesAll wire mid → (now ≡ first) ⊎ LeavesAll wire now
left_on wire first mid now same (inl is) = inl (same ∙ is)
left_on wire first mid now same (inr all) = inr (subst (λ (r : Option Remainder). LeavesAll wire r) (sym same) all)

module _ {C V R : Type 0} where
  -- what was left of a link is as before, or all that there is
  closed_lefts : (wire : List ℕ → Wire) (workers : List (Seen C V R)) (before now : Told) (first later : PassSeen C V R) → AreFresh wire workers → ClosesWorkers workers before now first later → (name : List ℕ) → (now.live.left name ≡ before.live.left name) ⊎ LeavesAll (wire name) (now.live.left name)
  closed_lefts wire [] before now first later fresh (now_is, later_is) name = inl (ap (λ (t : Told). t.live.left name) now_is)
  closed_lefts wire (SeenLink worker ∷ workers) before now first later (own, fresh) (mid, middle, others, closes, later_is) name =
      elim (same_or_not name worker.name) [
        | inl same ↦ inr (subst (λ (n : List ℕ). LeavesAll (wire n) (now.live.left n)) (sym same)
            (subst (λ (r : Option Remainder). LeavesAll (wire worker.name) r) (sym closes.own) (leaves_all (wire worker.name) worker.left worker.faults own.0 own.1)))
        | inr other ↦ left_on (wire name) (before.live.left name) (mid.live.left name) (now.live.left name) (closes.others name other) (closed_lefts wire workers before mid first middle fresh others name)
      ]
  closed_lefts wire (SeenSink worker ∷ workers) before now first later (own, fresh) (mid, middle, others, closes, later_is) name =
      left_on (wire name) (before.live.left name) (mid.live.left name) (now.live.left name) (ap (λ (l : Live). l.left name) closes.live) (closed_lefts wire workers before mid first middle fresh others name)

  -- a page is as before and no sink among these was closed under its name, or nothing was written to it
  abbrev ClosedPage : List ℕ → List (Seen C V R) → Told → Told → Type 0
  ClosedPage name workers before now =
      ((now.page name ≡ before.page name) × (IsAmong (OfSink name) (map opening_of workers) → ⊥)) ⊎ IsUnwritten (now.page name)

  closed_pages : (wire : List ℕ → Wire) (workers : List (Seen C V R)) (before now : Told) (first later : PassSeen C V R) → AreFresh wire workers → ClosesWorkers workers before now first later → (name : List ℕ) → ClosedPage name workers before now
  closed_pages wire [] before now first later fresh (now_is, later_is) name = inl (ap (λ (t : Told). t.page name) now_is, λ never. never)
  closed_pages wire (SeenLink worker ∷ workers) before now first later (own, fresh) (mid, middle, others, closes, later_is) name =
      elim (closed_pages wire workers before mid first middle fresh others name) [
        | inl as_before ↦ inl (closes.pages name ∙ as_before.0, λ among. elim among [ inl is ↦ absurd cc | inr other ↦ as_before.1 other ])
        | inr empty ↦ inr (rw (closes.pages name) empty)
      ]
  closed_pages wire (SeenSink worker ∷ workers) before now first later (own, fresh) (mid, middle, others, closes, later_is) name =
      elim (same_or_not name worker.name) [
        | inl same ↦ inr (rw same (rw closes.own (unwritten_page worker.written worker.faults own.0 own.1)))
        | inr other ↦ elim (closed_pages wire workers before mid first middle fresh others name) [
          | inl as_before ↦ inl (closes.pages name other ∙ as_before.0, λ among. elim among [ inl is ↦ absurd (other (let same : name ≡ worker.name = cc in same)) | inr tail ↦ as_before.1 tail ])
          | inr empty ↦ inr (rw (closes.pages name other) empty)
        ]
      ]

-- ---- the cause

unopened_fault : (refusal : OpenRefusal) (fault : Fault) → fault ≡ unopened refusal → (fault ≡ faults.Open) ⊎ (fault ≡ faults.NoMemory)
unopened_fault refusals.Failed fault is = inl is
unopened_fault refusals.NoMemory fault is = inr is

pub refused_by : (wanted : Wanted) (before now : Told) (fault : Fault) → RefusesWorker wanted before now fault → (fault ≡ faults.Open) ⊎ (fault ≡ faults.NoMemory)
refused_by (WantedLink ingest own) before now fault (refusal, tried, fault_is) = unopened_fault refusal fault fault_is
refused_by (WantedSink releaser own) before now fault (refusal, tried, fault_is) = unopened_fault refusal fault fault_is

module _ {C V R : Type 0} where
  -- a refused opening is told as a failed opening or as want of memory
  pub refused_fault : (wanted : List Wanted) (before now : Told) (first later : PassSeen C V R) (workers : List (Seen C V R)) (result : Result (Unit {0}) Fault) (fault : Fault) → OpensWorkers wanted before now first later workers result → result ≡ Err fault → (fault ≡ faults.Open) ⊎ (fault ≡ faults.NoMemory)
  refused_fault [] before now first later workers result fault (workers_is, now_is, later_is, result_is) refused = absurd cc
  refused_fault (wanted ∷ others) before now first later workers result fault (inl (own, why, later_is, workers_is, result_is)) refused =
      let same : own ≡ fault = cc in
      subst (λ (f : Fault). (f ≡ faults.Open) ⊎ (f ≡ faults.NoMemory)) same (refused_by wanted before now own why)
  refused_fault (wanted ∷ others) before now first later workers result fault (inr (worker, rest, mid, middle, workers_is, opens, opened)) refused =
      refused_fault others mid now middle later rest result fault opened refused

  -- ---- workers that made no call

  -- workers were opened, and closed again: no letter left a link
  pub unheard_links : (wanted : List Wanted) (before mid start now : Told) (first middle later : PassSeen C V R) (workers : List (Seen C V R)) (result : Result (Unit {0}) Fault) → OpensWorkers wanted before mid first middle workers result → start.live ≡ mid.live → ClosesWorkers workers start now middle later
      → (name : List ℕ) → (now.live.left name ≡ before.live.left name) ⊎ LeavesAll (before.live.wire name) (now.live.left name)
  unheard_links wanted before mid start now first middle later workers result opens live closes name =
      let fresh = fresh_workers wanted before mid first middle workers result opens in
      let keeps = opens_keep wanted before mid first middle workers result opens in
      elim (closed_lefts before.live.wire workers start now middle later fresh closes name) [
        | inl same ↦ inl (same ∙ ap (λ (l : Live). l.left name) live ∙ keeps.lefts name)
        | inr all ↦ inr all
      ]

  -- and nothing was written to a sink
  pub unwritten_pages : (wanted : List Wanted) (before mid start now : Told) (first middle later : PassSeen C V R) (workers : List (Seen C V R)) (result : Result (Unit {0}) Fault) → OpensWorkers wanted before mid first middle workers result → ((name : List ℕ) → start.page name ≡ mid.page name) → ClosesWorkers workers start now middle later
      → (name : List ℕ) → (now.page name ≡ before.page name) ⊎ IsUnwritten (now.page name)
  unwritten_pages wanted before mid start now first middle later workers result opens pages closes name =
      let fresh = fresh_workers wanted before mid first middle workers result opens in
      let opened = opens_workers wanted before mid first middle workers result opens in
      elim (closed_pages before.live.wire workers start now middle later fresh closes name) [
        | inl same ↦ inl (same.0 ∙ pages name ∙ opened.pages name same.1)
        | inr empty ↦ inr empty
      ]
