-- Links and sinks as the workers of one session, and what stays of the first pass and of the workers' passes.
use Rattle.std.proofs.Common.{◌≡◌, ◌∙◌, inl, inr, ℕ, suc, ◌+◌, ◌-◌, ◌<◌, ◌≤◌, List, [], ◌∷◌, ◌++◌, map, take, drop, length, Result, Ok, Err, refl, sym, ap, subst, append-nil, length-append, arith}
use Rattle.std.proofs.Math.Seq.{take-append_seam}
use Rattle.std.proofs.lemmas.List.{length-map}
use Rattle.tesla_desk.specs.Outside.{Told}
use Rattle.tesla_front.specs.declared.fault.Fault.{Fault}
use Rattle.tesla_turn.specs.Held.{TurnId, first_pass, left_of, next_pass}
use Rattle.tesla_shared.specs.Yields.{Yield}
use Rattle.tesla_session.specs.Wanted.{Wanted, WantedLink, WantedSink, links_wanted, sinks_wanted, wanted_for}
use Rattle.tesla_session.specs.Session.{PassSeen, LinkSeen, SinkSeen, Seen, SeenLink, SeenSink, pass_of, AreOf, AreReady, IsReady, OpensWorker, OpensWorkers, RunWorkers, ClosesWorkers, OpensMore, OpensAll, RefusedSession, calls_most, workers_of}

pub wants_links : (number : ℕ) (names : List (List ℕ)) → length (links_wanted number names) ≡ length names
wants_links number [] = refl
wants_links number (name ∷ names) = ap suc (wants_links (suc number) names)

wants_sinks : (number : ℕ) (names : List (List ℕ)) → length (sinks_wanted number names) ≡ length names
wants_sinks number [] = refl
wants_sinks number (name ∷ names) = ap suc (wants_sinks (suc number) names)

-- a worker is wanted for each link and each sink
pub wants_all : (links sinks : List (List ℕ)) → length (wanted_for links sinks) ≡ length links + length sinks
wants_all links sinks = omega (arith, length-append (links_wanted 0 links) (sinks_wanted 0 sinks), wants_links 0 links, wants_sinks 0 sinks)

module _ {C V R : Type 0} where
  -- ---- one list

  -- all of some workers were opened, and then others
  pub opens_both : (wanted others : List Wanted) (before mid now : Told) (first middle later : PassSeen C V R) (workers more : List (Seen C V R)) (result : Result (Unit {0}) Fault)
      → OpensWorkers wanted before mid first middle workers (Ok tt) → OpensWorkers others mid now middle later more result → OpensWorkers (wanted ++ others) before now first later (workers ++ more) result
  opens_both [] others before mid now first middle later workers more result (none, same, still, done) rest =
      subst (λ (ws : List (Seen C V R)). OpensWorkers others before now first later (ws ++ more) result) (sym none)
      (subst (λ (t : Told). OpensWorkers others t now first later more result) same (subst (λ (p : PassSeen C V R). OpensWorkers others mid now p later more result) still rest))
  opens_both (one ∷ wanted) others before mid now first middle later workers more result (inl refused) rest = absurd cc
  opens_both (one ∷ wanted) others before mid now first middle later workers more result (inr (worker, ws, after, pass, are, opens, opened)) rest =
      inr (worker, ws ++ more, after, pass, ap (λ (all : List (Seen C V R)). all ++ more) are, opens, opens_both wanted others after mid now pass middle later ws more result opened rest)

  -- an opening among the first was refused
  pub opens_refused : (wanted others : List Wanted) (before now : Told) (first later : PassSeen C V R) (workers : List (Seen C V R)) (fault : Fault)
      → OpensWorkers wanted before now first later workers (Err fault) → OpensWorkers (wanted ++ others) before now first later workers (Err fault)
  opens_refused [] others before now first later workers fault (none, same, still, done) = absurd cc
  opens_refused (one ∷ wanted) others before now first later workers fault (inl refused) = inl refused
  opens_refused (one ∷ wanted) others before now first later workers fault (inr (worker, ws, after, pass, are, opens, opened)) =
      inr (worker, ws, after, pass, are, opens, opens_refused wanted others after now pass later ws fault opened)

  -- workers of both kinds did their work
  pub runs_both : (yields : R → Yield) (befores afters others dones : List (Seen C V R)) → RunWorkers yields befores afters → RunWorkers yields others dones → RunWorkers yields (befores ++ others) (afters ++ dones)
  runs_both yields [] [] others dones runs rest = rest
  runs_both yields [] (after ∷ afters) others dones runs rest = absurd runs
  runs_both yields (before ∷ befores) [] others dones runs rest = absurd runs
  runs_both yields (before ∷ befores) (after ∷ afters) others dones runs rest = (runs.0, runs_both yields befores afters others dones runs.1 rest)

  -- the last of some workers were closed, and then those before them
  pub closes_both : (workers others : List (Seen C V R)) (before mid now : Told) (first middle later : PassSeen C V R) → ClosesWorkers others before mid first middle → ClosesWorkers workers mid now middle later → ClosesWorkers (workers ++ others) before now first later
  closes_both [] others before mid now first middle later closed (same, still) =
      subst (λ (t : Told). ClosesWorkers others before t first later) (sym same) (subst (λ (p : PassSeen C V R). ClosesWorkers others before mid first p) (sym still) closed)
  closes_both (worker ∷ workers) others before mid now first middle later closed (told, pass, rest, closes, joins) =
      (told, pass, closes_both workers others before mid told first middle pass closed rest, closes, joins)

  -- ---- passes

  -- two passes of one turn with one number and one configuration
  pub record IsSamePass (before now : PassSeen C V R) : Type 0 where
    pub turn : now.turn ≡ before.turn
    pub number : now.number ≡ before.number
    pub config : now.config ≡ before.config
    pub calls : now.calls ≡ before.calls

  same_twice : (a b c : PassSeen C V R) → IsSamePass a b → IsSamePass b c → IsSamePass a c
  same_twice a b c one two = record { turn = two.turn ∙ one.turn; number = two.number ∙ one.number; config = two.config ∙ one.config; calls = two.calls ∙ one.calls }

  same_is : (a b : PassSeen C V R) → b ≡ a → IsSamePass a b
  same_is a b e = record { turn = ap (λ (p : PassSeen C V R). p.turn) e; number = ap (λ (p : PassSeen C V R). p.number) e; config = ap (λ (p : PassSeen C V R). p.config) e; calls = ap (λ (p : PassSeen C V R). p.calls) e }

  left_fresh : (first pass : PassSeen C V R) → pass ≡ next_pass first → left_of pass ≡ first.calls
  left_fresh first pass is = ap (λ (p : PassSeen C V R). left_of p) is ∙ (let all : first.calls - 0 ≡ first.calls = omega arith in all)

  opens_one : (wanted : Wanted) (before now : Told) (first later : PassSeen C V R) (worker : Seen C V R) → OpensWorker wanted before now first later worker
      → IsSamePass first later × ((pass_of worker).turn ≡ first.turn) × (left_of (pass_of worker) ≡ first.calls)
  opens_one (WantedLink ingest name) before now first later (SeenLink worker) it = (
    record { turn = ap (λ (p : PassSeen C V R). p.turn) it.later_is; number = ap (λ (p : PassSeen C V R). p.number) it.later_is; config = ap (λ (p : PassSeen C V R). p.config) it.later_is; calls = ap (λ (p : PassSeen C V R). p.calls) it.later_is },
    ap (λ (p : PassSeen C V R). p.turn) it.pass_is,
    left_fresh first worker.pass it.pass_is,
  )
  opens_one (WantedSink releaser name) before now first later (SeenSink worker) it = (
    record { turn = ap (λ (p : PassSeen C V R). p.turn) it.later_is; number = ap (λ (p : PassSeen C V R). p.number) it.later_is; config = ap (λ (p : PassSeen C V R). p.config) it.later_is; calls = ap (λ (p : PassSeen C V R). p.calls) it.later_is },
    ap (λ (p : PassSeen C V R). p.turn) it.pass_is,
    left_fresh first worker.pass it.pass_is,
  )
  opens_one (WantedLink ingest name) before now first later (SeenSink worker) it = absurd it
  opens_one (WantedSink releaser name) before now first later (SeenLink worker) it = absurd it

  -- opening workers leaves what the first pass is
  pub opens_same : (wanted : List Wanted) (before now : Told) (first later : PassSeen C V R) (workers : List (Seen C V R)) (result : Result (Unit {0}) Fault) → OpensWorkers wanted before now first later workers result → IsSamePass first later
  opens_same [] before now first later workers result it = same_is first later it.2
  opens_same (wanted ∷ others) before now first later workers result (inl (fault, refused, same, none, is)) = same_is first later same
  opens_same (wanted ∷ others) before now first later workers result (inr (worker, ws, mid, middle, are, opens, opened)) =
      same_twice first middle later (opens_one wanted before mid first middle worker opens).0 (opens_same others mid now middle later ws result opened)

  -- workers that were opened have passes of the turn
  pub opens_of : (wanted : List Wanted) (before now : Told) (first later : PassSeen C V R) (workers : List (Seen C V R)) (result : Result (Unit {0}) Fault) → OpensWorkers wanted before now first later workers result → AreOf first.turn workers
  opens_of [] before now first later workers result it = subst (λ (ws : List (Seen C V R)). AreOf first.turn ws) (sym it.0) tt
  opens_of (wanted ∷ others) before now first later workers result (inl (fault, refused, same, none, is)) = subst (λ (ws : List (Seen C V R)). AreOf first.turn ws) (sym none) tt
  opens_of (wanted ∷ others) before now first later workers result (inr (worker, ws, mid, middle, are, opens, opened)) =
      let one = opens_one wanted before mid first middle worker opens in
      subst (λ (ws : List (Seen C V R)). AreOf first.turn ws) (sym are) (one.1, subst (λ (turn : TurnId). AreOf turn ws) one.0.turn (opens_of others mid now middle later ws result opened))

  opens_ready : (wanted : Wanted) (before now : Told) (first later : PassSeen C V R) (worker : Seen C V R) → 0 < first.calls → OpensWorker wanted before now first later worker → IsReady worker
  opens_ready (WantedLink ingest name) before now first later (SeenLink worker) some it =
      (omega (arith, left_fresh first worker.pass it.pass_is, some), ap (λ (p : PassSeen C V R). p.made) it.pass_is)
  opens_ready (WantedSink releaser name) before now first later (SeenSink worker) some it = (ap (λ (p : PassSeen C V R). p.made) it.pass_is, it.empty)
  opens_ready (WantedLink ingest name) before now first later (SeenSink worker) some it = absurd it
  opens_ready (WantedSink releaser name) before now first later (SeenLink worker) some it = absurd it

  -- and are ready
  pub open_ready : (wanted : List Wanted) (before now : Told) (first later : PassSeen C V R) (workers : List (Seen C V R)) (result : Result (Unit {0}) Fault) → 0 < first.calls → OpensWorkers wanted before now first later workers result → AreReady workers
  open_ready [] before now first later workers result some it = subst AreReady (sym it.0) tt
  open_ready (wanted ∷ others) before now first later workers result some (inl (fault, refused, same, none, is)) = subst AreReady (sym none) tt
  open_ready (wanted ∷ others) before now first later workers result some (inr (worker, ws, mid, middle, are, opens, opened)) =
      let one = opens_one wanted before mid first middle worker opens in
      subst AreReady (sym are) (opens_ready wanted before mid first middle worker some opens, open_ready others mid now middle later ws result (omega (arith, one.0.calls, some)) opened)

  -- workers that did their work have the passes that they had
  pub runs_of : (yields : R → Yield) (turn : TurnId) (befores afters : List (Seen C V R)) → RunWorkers yields befores afters → AreOf turn befores → AreOf turn afters
  runs_of yields turn [] [] runs are = tt
  runs_of yields turn [] (after ∷ afters) runs are = absurd runs
  runs_of yields turn (before ∷ befores) [] runs are = absurd runs
  runs_of yields turn (SeenLink before ∷ befores) (SeenLink after ∷ afters) runs are = (ap (λ (p : PassSeen C V R). p.turn) runs.0.calls ∙ are.0, runs_of yields turn befores afters runs.1 are.1)
  runs_of yields turn (SeenSink before ∷ befores) (SeenSink after ∷ afters) runs are = (ap (λ (p : PassSeen C V R). p.turn) runs.0.calls ∙ are.0, runs_of yields turn befores afters runs.1 are.1)
  runs_of yields turn (SeenLink before ∷ befores) (SeenSink after ∷ afters) runs are = absurd runs.0
  runs_of yields turn (SeenSink before ∷ befores) (SeenLink after ∷ afters) runs are = absurd runs.0

  -- closing workers leaves what the first pass is
  pub closes_same : (workers : List (Seen C V R)) (before now : Told) (first later : PassSeen C V R) → ClosesWorkers workers before now first later → IsSamePass first later
  closes_same [] before now first later it = same_is first later it.1
  closes_same (worker ∷ workers) before now first later (mid, middle, rest, closes, joins) =
      same_twice first middle later (closes_same workers before mid first middle rest)
      (record { turn = ap (λ (p : PassSeen C V R). p.turn) joins; number = ap (λ (p : PassSeen C V R). p.number) joins; config = ap (λ (p : PassSeen C V R). p.config) joins; calls = ap (λ (p : PassSeen C V R). p.calls) joins })

  -- ---- of both kinds

  pub of_prefix : (turn : TurnId) (workers others : List (Seen C V R)) → AreOf turn (workers ++ others) → AreOf turn workers
  of_prefix turn [] others are = tt
  of_prefix turn (worker ∷ workers) others are = (are.0, of_prefix turn workers others are.1)

  pub of_back : (turn : TurnId) (workers others : List (Seen C V R)) → AreOf turn (workers ++ others) → AreOf turn others
  of_back turn [] others are = are
  of_back turn (worker ∷ workers) others are = of_back turn workers others are.1

  pub ready_prefix : (workers others : List (Seen C V R)) → AreReady (workers ++ others) → AreReady workers
  ready_prefix [] others are = tt
  ready_prefix (worker ∷ workers) others are = (are.0, ready_prefix workers others are.1)

  pub ready_back : (workers others : List (Seen C V R)) → AreReady (workers ++ others) → AreReady others
  ready_back [] others are = are
  ready_back (worker ∷ workers) others are = ready_back workers others are.1

  -- as many workers come out of a run as went in
  pub runs_length : (yields : R → Yield) (befores afters : List (Seen C V R)) → RunWorkers yields befores afters → length afters ≡ length befores
  runs_length yields [] [] runs = refl
  runs_length yields [] (after ∷ afters) runs = absurd runs
  runs_length yields (before ∷ befores) [] runs = absurd runs
  runs_length yields (before ∷ befores) (after ∷ afters) runs = ap suc (runs_length yields befores afters runs.1)

  -- what a slice of all of a list leaves in its place
  pub written_back : (yields : R → Yield) {X : Type 0} (seen : X → Seen C V R) (old new slice : List X) (size : ℕ) → slice ≡ old → length slice ≡ size → RunWorkers yields (map seen slice) (map seen new) → take size (new ++ drop (length new) old) ≡ new
  written_back yields seen old new slice size same many runs =
      let count : length new ≡ size = sym (length-map new seen) ∙ runs_length yields (map seen slice) (map seen new) runs ∙ length-map slice seen ∙ many in
      ap (λ (n : ℕ). take n (new ++ drop (length new) old)) (sym count) ∙ take-append_seam new (drop (length new) old)

  one_room : (wanted : Wanted) (before now : Told) (first later : PassSeen C V R) (worker : Seen C V R) → OpensWorker wanted before now first later worker → first.room ≤ later.room + 1
  one_room (WantedLink ingest name) before now first later (SeenLink worker) it = omega (arith, ap (λ (p : PassSeen C V R). p.room) it.later_is)
  one_room (WantedSink releaser name) before now first later (SeenSink worker) it = omega (arith, ap (λ (p : PassSeen C V R). p.room) it.later_is)
  one_room (WantedLink ingest name) before now first later (SeenSink worker) it = absurd it
  one_room (WantedSink releaser name) before now first later (SeenLink worker) it = absurd it

  opens_room : (wanted : List Wanted) (before now : Told) (first later : PassSeen C V R) (workers : List (Seen C V R)) → OpensWorkers wanted before now first later workers (Ok tt) → first.room ≤ later.room + length wanted
  opens_room [] before now first later workers it = omega (arith, ap (λ (p : PassSeen C V R). p.room) it.2)
  opens_room (wanted ∷ others) before now first later workers (inl (fault, refused, same, none, is)) = absurd cc
  opens_room (wanted ∷ others) before now first later workers (inr (worker, ws, mid, middle, are, opens, opened)) =
      let one : first.room ≤ middle.room + 1 = one_room wanted before mid first middle worker opens in
      omega (arith, one, opens_room others mid now middle later ws opened)

  -- the links were opened, and there is room for the sinks
  pub room_left : (names : List (List ℕ)) (before now : Told) (first later : PassSeen C V R) (old new : List (LinkSeen C V R)) (sinks : ℕ) → OpensMore SeenLink WantedLink 0 names before now first later old new (Ok tt) → length names + sinks ≤ first.room → sinks ≤ later.room
  room_left names before now first later old new sinks (workers, are, opens) room =
      omega (arith, room, wants_links 0 names, opens_room (links_wanted 0 names) before now first later (map SeenLink workers) opens)

  -- the links were opened, and then of the sinks what came of it
  pub opens_links_sinks : (links sinks : List (List ℕ)) (before mid now : Told) (first middle later : PassSeen C V R) (olds news : List (LinkSeen C V R)) (old new : List (SinkSeen C V R)) (result : Result (Unit {0}) Fault) → olds ≡ [] → old ≡ []
      → OpensMore SeenLink WantedLink 0 links before mid first middle olds news (Ok tt) → OpensMore SeenSink WantedSink 0 sinks mid now middle later old new result → OpensWorkers (links_wanted 0 links ++ sinks_wanted 0 sinks) before now first later (workers_of news new) result
  opens_links_sinks links sinks before mid now first middle later olds news old new result none nothing (workers, are, opens) (others, are_others, opened) =
      let first_are : news ≡ workers = are ∙ ap (λ (ws : List (LinkSeen C V R)). ws ++ workers) none in
      let last_are : new ≡ others = are_others ∙ ap (λ (ws : List (SinkSeen C V R)). ws ++ others) nothing in
      subst (λ (ws : List (LinkSeen C V R)). OpensWorkers (links_wanted 0 links ++ sinks_wanted 0 sinks) before now first later (workers_of ws new) result) (sym first_are)
      (subst (λ (ws : List (SinkSeen C V R)). OpensWorkers (links_wanted 0 links ++ sinks_wanted 0 sinks) before now first later (workers_of workers ws) result) (sym last_are)
      (opens_both (links_wanted 0 links) (sinks_wanted 0 sinks) before mid now first middle later (map SeenLink workers) (map SeenSink others) result opens opened))

  -- a link wasn't opened
  pub opens_no_more : (links sinks : List (List ℕ)) (before now : Told) (first later : PassSeen C V R) (olds news : List (LinkSeen C V R)) (old : List (SinkSeen C V R)) (fault : Fault) → olds ≡ [] → old ≡ []
      → OpensMore SeenLink WantedLink 0 links before now first later olds news (Err fault) → OpensWorkers (links_wanted 0 links ++ sinks_wanted 0 sinks) before now first later (workers_of news old) (Err fault)
  opens_no_more links sinks before now first later olds news old fault none nothing (workers, are, opens) =
      let first_are : news ≡ workers = are ∙ ap (λ (ws : List (LinkSeen C V R)). ws ++ workers) none in
      subst (λ (ws : List (LinkSeen C V R)). OpensWorkers (links_wanted 0 links ++ sinks_wanted 0 sinks) before now first later (workers_of ws old) (Err fault)) (sym first_are)
      (subst (λ (ws : List (SinkSeen C V R)). OpensWorkers (links_wanted 0 links ++ sinks_wanted 0 sinks) before now first later (workers_of workers ws) (Err fault)) (sym nothing)
      (subst (λ (ws : List (Seen C V R)). OpensWorkers (links_wanted 0 links ++ sinks_wanted 0 sinks) before now first later ws (Err fault)) (sym (append-nil (map SeenLink workers)))
      (opens_refused (links_wanted 0 links) (sinks_wanted 0 sinks) before now first later (map SeenLink workers) fault opens)))

  -- ---- one session

  -- all were opened behind the opening of the turn
  pub opens_all : (wanted : List Wanted) (cfg : C) (turn : TurnId) (size : ℕ) (before now : Told) (start first : PassSeen C V R) (workers : List (Seen C V R)) → start ≡ first_pass turn cfg size calls_most → size ≡ suc (length wanted)
      → OpensWorkers wanted before now start first workers (Ok tt) → OpensAll wanted cfg before now turn first workers
  opens_all wanted cfg turn size before now start first workers starts sized opens =
      subst (λ (p : PassSeen C V R). OpensWorkers wanted before now p first workers (Ok tt)) (starts ∙ ap (λ (n : ℕ). first_pass turn cfg n calls_most) sized) opens

  -- an opening was refused
  pub session_refused : (wanted : List Wanted) (cfg : C) (turn : TurnId) (size : ℕ) (before mid now : Told) (start first later : PassSeen C V R) (workers : List (Seen C V R)) (fault : Fault) → start ≡ first_pass turn cfg size calls_most → size ≡ suc (length wanted)
      → OpensWorkers wanted before mid start first workers (Err fault) → ClosesWorkers workers mid now first later → RefusedSession V R wanted cfg before now fault
  session_refused wanted cfg turn size before mid now start first later workers fault starts sized opens closes = record {
    turn = turn;
    mid = mid;
    first = first;
    later = later;
    workers = workers;
    opens = subst (λ (p : PassSeen C V R). OpensWorkers wanted before mid p first workers (Err fault)) (starts ∙ ap (λ (n : ℕ). first_pass turn cfg n calls_most) sized) opens;
    closes = closes;
  }

  -- the first pass behind the openings is the first still, with the configuration of the station
  pub opened_same : (wanted : List Wanted) (cfg : C) (before now : Told) (turn : TurnId) (first : PassSeen C V R) (workers : List (Seen C V R)) → OpensAll wanted cfg before now turn first workers → IsSamePass (first_pass turn cfg (suc (length wanted)) calls_most) first
  opened_same wanted cfg before now turn first workers opens = opens_same wanted before now (first_pass turn cfg (suc (length wanted)) calls_most) first workers (Ok tt) opens

  -- the workers have passes of its turn
  pub opened_of : (wanted : List Wanted) (cfg : C) (before now : Told) (turn : TurnId) (first : PassSeen C V R) (workers : List (Seen C V R)) → OpensAll wanted cfg before now turn first workers → AreOf turn workers
  opened_of wanted cfg before now turn first workers opens = opens_of wanted before now (first_pass turn cfg (suc (length wanted)) calls_most) first workers (Ok tt) opens

  -- and are ready
  pub opened_ready : (wanted : List Wanted) (cfg : C) (before now : Told) (turn : TurnId) (first : PassSeen C V R) (workers : List (Seen C V R)) → OpensAll wanted cfg before now turn first workers → AreReady workers
  opened_ready wanted cfg before now turn first workers opens = open_ready wanted before now (first_pass turn cfg (suc (length wanted)) calls_most) first workers (Ok tt) (omega arith) opens
