-- The openings and closings of workers, as openings of files.
use Rattle.std.proofs.Common.{◌≡◌, ◌∙◌, ◌≢◌, ◌⊎◌, inl, inr, ℕ, suc, ◌≤◌, Bool, true, false, Result, Ok, Err, List, [], ◌∷◌, length, map, take, refl, sym, ap, subst, arith}
use Rattle.std.proofs.lemmas.Slice.Eq.{bytes_eq-Decides}
use Rattle.std.specs.Str.{bytes_eq}
use Rattle.tesla_desk.specs.Outside.{Told, Opening, OfSink, OfLink, with_opening, OpensLink, MakesClock}
use Rattle.tesla_desk.specs.declared.desk.OpenRefusal.{OpenRefusal}
use Rattle.tesla_desk.specs.declared.desk.OpenRefusal.TheVariants as refusals
use Rattle.tesla_front.specs.Openings.{IsAmong, Opens, OpensSome}
use Rattle.tesla_front.specs.declared.fault.Fault.{Fault}
use Rattle.tesla_front.proofs.Openings.{opens_first, opens_none, opens_some, opens_then, pages_tried, sink_tried}
use Rattle.tesla_turn.specs.Held.{TurnId}
use Rattle.tesla_shared.specs.Yields.{Yield}
use Rattle.tesla_session.specs.Wanted.{Wanted, WantedLink, WantedSink, opening_for}
use Rattle.tesla_session.specs.Session.{PassSeen, Seen, SeenLink, SeenSink, OpensWorker, RefusesWorker, OpensWorkers, OpensAll, RunWorkers, RunsWorker, ClosesWorkers, RefusedSession}

-- ---- names

same_by : (same : Bool) (a b : List ℕ) → bytes_eq a b ≡ same → (a ≡ b) ⊎ (a ≢ b)
same_by true a b test = inl ((bytes_eq-Decides a b).0 test)
same_by false a b test = inr (λ e. absurd (let no : true ≡ false = sym ((bytes_eq-Decides a b).1 e) ∙ test in cc))

-- two names are the same or not
pub same_or_not : (a b : List ℕ) → (a ≡ b) ⊎ (a ≢ b)
same_or_not a b = same_by (bytes_eq a b) a b refl

module _ {C V R : Type 0} where
  -- what was opened for a worker
  abbrev pub opening_of : Seen C V R → Opening
  opening_of (SeenLink worker) = OfLink worker.name
  opening_of (SeenSink worker) = OfSink worker.name

-- ---- the opening of one worker

-- the making of a clock changes no page
made_pages : (before now : Told) → MakesClock before now → (name : List ℕ) → now.page name ≡ before.page name
made_pages before now makes name = ap (λ (t : Told). t.page name) makes.same

made_lefts : (before now : Told) → MakesClock before now → (name : List ℕ) → now.left name ≡ before.left name
made_lefts before now makes name = ap (λ (t : Told). t.left name) makes.same

made_asked : (before now : Told) → MakesClock before now → now.openings ≡ before.openings
made_asked before now makes = ap (λ (t : Told). t.openings) makes.same

module _ {C V R : Type 0} where
  module _ (before now : Told) (first later : PassSeen C V R) where
    -- what was opened for a worker is what was wanted for it
    pub opening_is : (wanted : Wanted) (worker : Seen C V R) → OpensWorker wanted before now first later worker → opening_of worker ≡ opening_for wanted
    opening_is (WantedLink ingest name) (SeenLink worker) opens = ap OfLink opens.name_is
    opening_is (WantedLink ingest name) (SeenSink worker) opens = absurd opens
    opening_is (WantedSink releaser name) (SeenLink worker) opens = absurd opens
    opening_is (WantedSink releaser name) (SeenSink worker) opens = ap OfSink opens.name_is

    -- no page but that of its sink changed
    worker_pages : (wanted : Wanted) (worker : Seen C V R) → OpensWorker wanted before now first later worker → (name : List ℕ) → (opening_of worker ≡ OfSink name → ⊥) → now.page name ≡ before.page name
    worker_pages (WantedLink ingest own) (SeenLink worker) opens name none = made_pages opens.opened now opens.makes name ∙ opens.opens.pages name
    worker_pages (WantedLink ingest own) (SeenSink worker) opens name none = absurd opens
    worker_pages (WantedSink releaser own) (SeenLink worker) opens name none = absurd opens
    worker_pages (WantedSink releaser own) (SeenSink worker) opens name none = opens.opens.pages name (λ e. none (ap OfSink (opens.name_is ∙ sym e)))

    worker_lefts : (wanted : Wanted) (worker : Seen C V R) → OpensWorker wanted before now first later worker → (name : List ℕ) → now.left name ≡ before.left name
    worker_lefts (WantedLink ingest own) (SeenLink worker) opens name = made_lefts opens.opened now opens.makes name ∙ opens.opens.lefts name
    worker_lefts (WantedLink ingest own) (SeenSink worker) opens name = absurd opens
    worker_lefts (WantedSink releaser own) (SeenLink worker) opens name = absurd opens
    worker_lefts (WantedSink releaser own) (SeenSink worker) opens name = opens.opens.lefts name

    worker_asked : (wanted : Wanted) (worker : Seen C V R) → OpensWorker wanted before now first later worker → now.openings ≡ with_opening before.openings (opening_for wanted)
    worker_asked (WantedLink ingest own) (SeenLink worker) opens = made_asked opens.opened now opens.makes ∙ opens.opens.asked
    worker_asked (WantedLink ingest own) (SeenSink worker) opens = absurd opens
    worker_asked (WantedSink releaser own) (SeenLink worker) opens = absurd opens
    worker_asked (WantedSink releaser own) (SeenSink worker) opens = opens.opens.asked

    -- it is an opening of one file
    worker_opens : (wanted : Wanted) (worker : Seen C V R) → OpensWorker wanted before now first later worker → Opens (opening_for wanted ∷ []) 1 before now
    worker_opens wanted worker opens =
        opens_first (opening_for wanted) [] before now (worker_asked wanted worker opens)
        (λ name none. worker_pages wanted worker opens name (λ e. none (inl (sym (opening_is wanted worker opens) ∙ e))))
        (λ name none. worker_lefts wanted worker opens name)

-- ---- an opening that was refused

-- it was tried whether a link opens
link_tried : {A : Type 0} (name : List ℕ) (refusal : OpenRefusal) (before now : Told) → OpensLink {A = A} name (Err refusal) before now → OpensSome (OfLink name ∷ []) before now
link_tried name refusals.Failed before now tried = (1, omega arith, opens_first (OfLink name) [] before now tried.asked (λ n none. tried.pages n) (λ n none. tried.lefts n))
link_tried name refusals.NoMemory before now tried = (0, omega arith, opens_none (OfLink name ∷ []) before now tried.asked tried.pages tried.lefts)

module _ (before now : Told) (fault : Fault) where
  pub refused_opens : (wanted : Wanted) → RefusesWorker wanted before now fault → OpensSome (opening_for wanted ∷ []) before now
  refused_opens (WantedLink ingest name) (refusal, tried, fault_is) = link_tried name refusal before now tried
  refused_opens (WantedSink releaser name) (refusal, tried, fault_is) = sink_tried {A = Unit {0}} name (Err refusal) before now tried

  -- every page is as before
  pub refused_pages : (wanted : Wanted) → RefusesWorker wanted before now fault → (name : List ℕ) → now.page name ≡ before.page name
  refused_pages (WantedLink ingest own) (refusal, tried, fault_is) = tried.pages
  refused_pages (WantedSink releaser own) (refusal, tried, fault_is) = pages_tried {A = Unit {0}} own (Err refusal) before now tried

module _ {C V R : Type 0} where
  -- ---- the openings of all workers

  -- the openings of workers are openings of files, of all of them where none was refused: the sinks of these workers are among those that were asked for, and no other page changed
  pub record OpensTo (files : List Opening) (workers : List (Seen C V R)) (before now : Told) (result : Result (Unit {0}) Fault) : Type 0 where
    pub opened : ℕ
    pub few : opened ≤ length files
    pub all : result ≡ Ok tt → opened ≡ length files
    pub opens : Opens files opened before now
    pub among : (name : List ℕ) → IsAmong (OfSink name) (map opening_of workers) → IsAmong (OfSink name) (take opened files)
    pub pages : (name : List ℕ) → (IsAmong (OfSink name) (map opening_of workers) → ⊥) → now.page name ≡ before.page name

  opens_no_worker : (before now : Told) (result : Result (Unit {0}) Fault) → now ≡ before → OpensTo [] [] before now result
  opens_no_worker before now result same = record {
    opened = 0;
    few = omega arith;
    all = λ whole. refl;
    opens = opens_none [] before now (ap (λ (t : Told). t.openings) same) (λ name. ap (λ (t : Told). t.page name) same) (λ name. ap (λ (t : Told). t.left name) same);
    among = λ name never. never;
    pages = λ name none. ap (λ (t : Told). t.page name) same;
  }

  opens_refused : (wanted : Wanted) (files : List Opening) (before now : Told) (fault : Fault) (result : Result (Unit {0}) Fault) → result ≡ Err fault → RefusesWorker wanted before now fault → OpensTo (opening_for wanted ∷ files) [] before now result
  opens_refused wanted files before now fault result result_is refused =
      let (opened, few, opens) = opens_some (opening_for wanted) files before now (refused_opens before now fault wanted refused) in
      record {
        opened = opened;
        few = omega arith;
        all = λ whole. absurd cc;
        opens = opens;
        among = λ name never. absurd never;
        pages = λ name none. refused_pages before now fault wanted refused name;
      }

  opens_worker_then : (wanted : Wanted) (files : List Opening) (worker : Seen C V R) (workers : List (Seen C V R)) (before mid now : Told) (first later : PassSeen C V R) (result : Result (Unit {0}) Fault) → OpensWorker wanted before mid first later worker → OpensTo files workers mid now result → OpensTo (opening_for wanted ∷ files) (worker ∷ workers) before now result
  opens_worker_then wanted files worker workers before mid now first later result opens others = record {
    opened = suc others.opened;
    few = omega (arith, others.few);
    all = λ whole. ap suc (others.all whole);
    opens = opens_then (opening_for wanted) files others.opened before mid now (worker_opens before mid first later wanted worker opens) others.opens;
    among = λ name among. elim among [
      | inl own ↦ inl (sym (opening_is before mid first later wanted worker opens) ∙ own)
      | inr other ↦ inr (others.among name other)
    ];
    pages = λ name none. others.pages name (λ among. none (inr among)) ∙ worker_pages before mid first later wanted worker opens name (λ own. none (inl own));
  }

  -- workers were opened in order, until an opening was refused
  pub opens_workers : (wanted : List Wanted) (before now : Told) (first later : PassSeen C V R) (workers : List (Seen C V R)) (result : Result (Unit {0}) Fault) → OpensWorkers wanted before now first later workers result → OpensTo (map opening_for wanted) workers before now result
  opens_workers [] before now first later workers result (workers_is, now_is, later_is, result_is) =
      subst (λ (ws : List (Seen C V R)). OpensTo [] ws before now result) (sym workers_is) (opens_no_worker before now result now_is)
  opens_workers (wanted ∷ others) before now first later workers result (inl (fault, refused, later_is, workers_is, result_is)) =
      subst (λ (ws : List (Seen C V R)). OpensTo (map opening_for (wanted ∷ others)) ws before now result) (sym workers_is) (opens_refused wanted (map opening_for others) before now fault result result_is refused)
  opens_workers (wanted ∷ others) before now first later workers result (inr (worker, rest, mid, middle, workers_is, opens, opened)) =
      subst (λ (ws : List (Seen C V R)). OpensTo (map opening_for (wanted ∷ others)) ws before now result) (sym workers_is)
      (opens_worker_then wanted (map opening_for others) worker rest before mid now first middle result opens (opens_workers others mid now middle later rest result opened))

  -- ---- closings

  -- no page but those of the sinks changed
  pub closes_pages : (workers : List (Seen C V R)) (before now : Told) (first later : PassSeen C V R) → ClosesWorkers workers before now first later → (name : List ℕ) → (IsAmong (OfSink name) (map opening_of workers) → ⊥) → now.page name ≡ before.page name
  closes_pages [] before now first later (now_is, later_is) name none = ap (λ (t : Told). t.page name) now_is
  closes_pages (SeenLink worker ∷ workers) before now first later (mid, middle, others, closes, later_is) name none =
      closes.pages name ∙ closes_pages workers before mid first middle others name (λ among. none (inr among))
  closes_pages (SeenSink worker ∷ workers) before now first later (mid, middle, others, closes, later_is) name none =
      closes.pages name (λ e. none (inl (ap OfSink (sym e)))) ∙ closes_pages workers before mid first middle others name (λ among. none (inr among))

  closes_lefts : (workers : List (Seen C V R)) (before now : Told) (first later : PassSeen C V R) → ClosesWorkers workers before now first later → (name : List ℕ) → now.left name ≡ before.left name
  closes_lefts [] before now first later (now_is, later_is) name = ap (λ (t : Told). t.left name) now_is
  closes_lefts (SeenLink worker ∷ workers) before now first later (mid, middle, others, closes, later_is) name = closes.lefts name ∙ closes_lefts workers before mid first middle others name
  closes_lefts (SeenSink worker ∷ workers) before now first later (mid, middle, others, closes, later_is) name = closes.lefts name ∙ closes_lefts workers before mid first middle others name

  closes_asked : (workers : List (Seen C V R)) (before now : Told) (first later : PassSeen C V R) → ClosesWorkers workers before now first later → now.openings ≡ before.openings
  closes_asked [] before now first later (now_is, later_is) = ap (λ (t : Told). t.openings) now_is
  closes_asked (SeenLink worker ∷ workers) before now first later (mid, middle, others, closes, later_is) = closes.asked ∙ closes_asked workers before mid first middle others
  closes_asked (SeenSink worker ∷ workers) before now first later (mid, middle, others, closes, later_is) = closes.asked ∙ closes_asked workers before mid first middle others

  -- behind openings workers were closed whose sinks are among the files
  pub closes_after : (files : List Opening) (opened : ℕ) (workers : List (Seen C V R)) (before mid now : Told) (first later : PassSeen C V R) → Opens files opened before mid → ((name : List ℕ) → IsAmong (OfSink name) (map opening_of workers) → IsAmong (OfSink name) (take opened files)) → ClosesWorkers workers mid now first later → Opens files opened before now
  closes_after files opened workers before mid now first later opens among closes = record {
    asked = closes_asked workers mid now first later closes ∙ opens.asked;
    pages = λ name none. closes_pages workers mid now first later closes name (λ is. none (among name is)) ∙ opens.pages name none;
    lefts = λ name none. closes_lefts workers mid now first later closes name ∙ opens.lefts name none;
  }

  -- ---- runs

  runs_opening : (yields : R → Yield) (before after : Seen C V R) → RunsWorker yields before after → opening_of after ≡ opening_of before
  runs_opening yields (SeenLink before) (SeenLink after) runs = ap OfLink runs.name
  runs_opening yields (SeenLink before) (SeenSink after) runs = absurd runs
  runs_opening yields (SeenSink before) (SeenLink after) runs = absurd runs
  runs_opening yields (SeenSink before) (SeenSink after) runs = ap OfSink runs.name

  -- workers keep their names
  pub runs_openings : (yields : R → Yield) (workers done : List (Seen C V R)) → RunWorkers yields workers done → map opening_of done ≡ map opening_of workers
  runs_openings yields [] [] runs = refl
  runs_openings yields [] (after ∷ afters) runs = absurd runs
  runs_openings yields (before ∷ befores) [] runs = absurd runs
  runs_openings yields (before ∷ befores) (after ∷ afters) (runs, others) =
      let own : opening_of after ≡ opening_of before = runs_opening yields before after runs in
      let rest : map opening_of afters ≡ map opening_of befores = runs_openings yields befores afters others in
      cc

  -- ---- sessions

  -- an opening was refused: a prefix of what is wanted was opened
  pub opens_refused_session : (wanted : List Wanted) (cfg : C) (before now : Told) (fault : Fault) → RefusedSession V R wanted cfg before now fault → OpensSome (map opening_for wanted) before now
  opens_refused_session wanted cfg before now fault refused =
      let opens = opens_workers wanted before refused.mid _ refused.first refused.workers (Err fault) refused.opens in
      (opens.opened, opens.few, closes_after (map opening_for wanted) opens.opened refused.workers before refused.mid now refused.first refused.later opens.opens opens.among refused.closes)

  -- all that is wanted was opened
  pub opens_files : (wanted : List Wanted) (cfg : C) (before now : Told) (turn : TurnId) (first : PassSeen C V R) (workers : List (Seen C V R)) → OpensAll wanted cfg before now turn first workers → Opens (map opening_for wanted) (length (map opening_for wanted)) before now
  opens_files wanted cfg before now turn first workers opens =
      let it = opens_workers wanted before now _ first workers (Ok tt) opens in
      subst (λ (n : ℕ). Opens (map opening_for wanted) n before now) (it.all refl) it.opens

  -- where all were opened, that is what was wanted
  pub openings_are : (wanted : List Wanted) (before now : Told) (first later : PassSeen C V R) (workers : List (Seen C V R)) (result : Result (Unit {0}) Fault) → result ≡ Ok tt → OpensWorkers wanted before now first later workers result → map opening_of workers ≡ map opening_for wanted
  openings_are [] before now first later workers result whole (workers_is, now_is, later_is, result_is) = ap (λ (ws : List (Seen C V R)). map opening_of ws) workers_is
  openings_are (wanted ∷ others) before now first later workers result whole (inl (fault, refused, later_is, workers_is, result_is)) = absurd cc
  openings_are (wanted ∷ others) before now first later workers result whole (inr (worker, rest, mid, middle, workers_is, opens, opened)) =
      let own : opening_of worker ≡ opening_for wanted = opening_is before mid first middle wanted worker opens in
      let tail : map opening_of rest ≡ map opening_for others = openings_are others mid now middle later rest result whole opened in
      ap (λ (ws : List (Seen C V R)). map opening_of ws) workers_is ∙ (let both : opening_of worker ∷ map opening_of rest ≡ opening_for wanted ∷ map opening_for others = cc in both)
