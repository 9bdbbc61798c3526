-- What the workers of a session made: the passes in their order, and the arrivals and takes that their calls are.
use Rattle.std.proofs.Common.{◌≡◌, inl, inr, ℕ, zero, suc, ◌+◌, ◌≤◌, Ok, Err, List, [], ◌∷◌, ◌++◌, length, map, Option, Some, None, IfSome, option_map, refl, sym, ap, subst, ◌∙◌, arith, append_assoc, append-nil}
use Rattle.std.specs.Prelude.{◌==◌, true, slice_index_or, slice_set}
use Rattle.std.specs.List.{list_all}
use Rattle.std.proofs.lemmas.List.{length-append, map-append}
use Rattle.tesla_desk.specs.Faults.{HasCause, raised}
use Rattle.tesla_desk.specs.Live.{Live, Wire, OpenedLink, clock_told}
use Rattle.tesla_desk.specs.Outside.{Told}
use Rattle.tesla_desk.specs.declared.link.Letter.{Letter}
use Rattle.tesla_receiver.specs.declared.history.Arrival.{Arrival}
use Rattle.tesla_receiver.specs.declared.history.Entry.{Entry}
use Rattle.tesla_shared.specs.Whole.{AreWorkers, link_calls, links_made, sinks_made}
use Rattle.tesla_shared.specs.Workers.{Hears, Writes, takes_of}
use Rattle.tesla_shared.specs.declared.draining.SinkEnd.TheVariants as sink_ends
use Rattle.tesla_shared.specs.declared.ingesting.LinkEnd.TheVariants as link_ends
use Rattle.tesla_turn.specs.Held.{left_of, next_pass}
use Rattle.tesla_shared.specs.Yields.{Yield}
use Rattle.tesla_session.specs.Wanted.{Wanted, WantedLink, WantedSink, links_wanted, sinks_wanted}
use Rattle.tesla_session.specs.Session.{PassSeen, LinkSeen, SinkSeen, Seen, SeenLink, SeenSink, ClosesWorkers, OpensLinkWorker, OpensSinkWorker, OpensWorker, OpensWorkers, RunWorkers, RunsLink, RunsSink, RunsWorker, pass_of, split_pass}

-- the worker of a link after its work, and the arrivals that it made
pub record LinkWork (C V R : Type 0) : Type 0 where
  pub seen : LinkSeen C V R
  pub arrivals : List (Arrival V)

-- the worker of a sink after its work, and the answers to its takes
pub record SinkWork (C V R : Type 0) : Type 0 where
  pub seen : SinkSeen C V R
  pub answers : List R

module _ {C V R : Type 0} where
  -- ---- the front and the back of the workers

  -- the workers that were opened for two lists of them
  pub record OpensBoth (xs ys : List Wanted) (before now : Told) (first later : PassSeen C V R) (workers : List (Seen C V R)) : Type 0 where
    pub prefix : List (Seen C V R)
    pub back : List (Seen C V R)
    pub mid : Told
    pub middle : PassSeen C V R
    pub workers_are : workers ≡ prefix ++ back
    pub opens_prefix : OpensWorkers xs before mid first middle prefix (Ok tt)
    pub opens_back : OpensWorkers ys mid now middle later back (Ok tt)

  pub opens_both : (xs ys : List Wanted) (before now : Told) (first later : PassSeen C V R) (workers : List (Seen C V R)) → OpensWorkers (xs ++ ys) before now first later workers (Ok tt) → OpensBoth xs ys before now first later workers
  opens_both [] ys before now first later workers opens =
      record { prefix = []; back = workers; mid = before; middle = first; workers_are = refl; opens_prefix = (refl, refl, refl, refl); opens_back = opens }
  opens_both (x ∷ xs) ys before now first later workers (inl refused) = absurd (let no : Ok tt ≡ Err refused.0 = refused.4 in cc)
  opens_both (x ∷ xs) ys before now first later workers (inr (worker, rest, mid, middle, are, opens, others)) =
      let both = opens_both xs ys mid now middle later rest others in record {
        prefix = worker ∷ both.prefix;
        back = both.back;
        mid = both.mid;
        middle = both.middle;
        workers_are = are ∙ ap (λ (more : List (Seen C V R)). worker ∷ more) both.workers_are;
        opens_prefix = inr (worker, both.prefix, mid, middle, refl, opens, both.opens_prefix);
        opens_back = both.opens_back;
      }

  -- the work of two lists of workers
  pub record RunBoth (yields : R → Yield) (prefix back done : List (Seen C V R)) : Type 0 where
    pub prefix_done : List (Seen C V R)
    pub back_done : List (Seen C V R)
    pub done_are : done ≡ prefix_done ++ back_done
    pub runs_prefix : RunWorkers yields prefix prefix_done
    pub runs_back : RunWorkers yields back back_done

  pub run_both : (yields : R → Yield) (prefix back done : List (Seen C V R)) → RunWorkers yields (prefix ++ back) done → RunBoth yields prefix back done
  run_both yields [] back done runs = record { prefix_done = []; back_done = done; done_are = refl; runs_prefix = tt; runs_back = runs }
  run_both yields (worker ∷ prefix) back [] runs = absurd runs
  run_both yields (worker ∷ prefix) back (after ∷ done) runs =
      let both = run_both yields prefix back done runs.1 in record {
        prefix_done = after ∷ both.prefix_done;
        back_done = both.back_done;
        done_are = ap (λ (more : List (Seen C V R)). after ∷ more) both.done_are;
        runs_prefix = (runs.0, both.runs_prefix);
        runs_back = both.runs_back;
      }

  -- the closings of two lists of workers: the back is closed first
  pub record ClosesBoth (prefix back : List (Seen C V R)) (before now : Told) (first later : PassSeen C V R) : Type 0 where
    pub mid : Told
    pub middle : PassSeen C V R
    pub closes_back : ClosesWorkers back before mid first middle
    pub closes_prefix : ClosesWorkers prefix mid now middle later

  pub closes_both : (prefix back : List (Seen C V R)) (before now : Told) (first later : PassSeen C V R) → ClosesWorkers (prefix ++ back) before now first later → ClosesBoth prefix back before now first later
  closes_both [] back before now first later closes = record { mid = now; middle = later; closes_back = closes; closes_prefix = (refl, refl) }
  closes_both (worker ∷ prefix) back before now first later (mid, middle, closes, close, later_is) =
      let both = closes_both prefix back before mid first middle closes in
      record { mid = both.mid; middle = both.middle; closes_back = both.closes_back; closes_prefix = (mid, middle, both.closes_prefix, close, later_is) }

  -- ---- passes

  -- the calls of the pass of a worker, once it is joined
  abbrev pub calls_made : Seen C V R → Option (List (Entry V R))
  calls_made worker = Some (pass_of worker).made

  -- and before
  abbrev pub not_joined : Seen C V R → Option (List (Entry V R))
  not_joined worker = None

  -- the passes of these workers are numbered from the first argument on
  abbrev pub AreNumbered : ℕ → List (Seen C V R) → Type 0
  AreNumbered number [] = Unit {0}
  AreNumbered number (worker ∷ workers) = ((pass_of worker).number ≡ number) × AreNumbered (suc number) workers

  -- the pass of a worker was split off
  record SplitsPass (first later pass : PassSeen C V R) : Type 0 where
    pass_is : pass ≡ next_pass first
    later_is : later ≡ split_pass first

  splits_pass : (wanted : Wanted) (worker : Seen C V R) (before now : Told) (first later : PassSeen C V R) → OpensWorker wanted before now first later worker → SplitsPass first later (pass_of worker)
  splits_pass (WantedLink ingest name) (SeenLink worker) before now first later opens = record { pass_is = opens.pass_is; later_is = opens.later_is }
  splits_pass (WantedLink ingest name) (SeenSink worker) before now first later opens = absurd opens
  splits_pass (WantedSink releaser name) (SeenLink worker) before now first later opens = absurd opens
  splits_pass (WantedSink releaser name) (SeenSink worker) before now first later opens = record { pass_is = opens.pass_is; later_is = opens.later_is }

  -- the passes of workers that were opened
  pub record OpensPasses (first later : PassSeen C V R) (workers : List (Seen C V R)) : Type 0 where
    pub numbered : AreNumbered (length first.joined) workers
    pub joined : later.joined ≡ first.joined ++ map not_joined workers
    pub made : later.made ≡ first.made
    pub calls : later.calls ≡ first.calls

one_longer : {A : Type 0} (xs : List A) (x : A) → length (xs ++ x ∷ []) ≡ suc (length xs)
one_longer xs x = omega (arith, length-append xs (x ∷ []))

module _ {C V R : Type 0} where
  pub opens_passes : (wanted : List Wanted) (before now : Told) (first later : PassSeen C V R) (workers : List (Seen C V R)) → OpensWorkers wanted before now first later workers (Ok tt) → OpensPasses first later workers
  opens_passes [] before now first later workers (none, same, later_is, ok) =
      subst (OpensPasses first later) (sym none)
      (record { numbered = tt; joined = ap (λ (p : PassSeen C V R). p.joined) later_is ∙ sym (append-nil first.joined); made = ap (λ (p : PassSeen C V R). p.made) later_is; calls = ap (λ (p : PassSeen C V R). p.calls) later_is })
  opens_passes (wanted ∷ others) before now first later workers (inl refused) = absurd (let no : Ok tt ≡ Err refused.0 = refused.4 in cc)
  opens_passes (wanted ∷ others) before now first later workers (inr (worker, rest, mid, middle, are, opens, more)) =
      let split = splits_pass wanted worker before mid first middle opens in
      let passes = opens_passes others mid now middle later rest more in
      let joined : middle.joined ≡ first.joined ++ None ∷ [] = ap (λ (p : PassSeen C V R). p.joined) split.later_is in
      let count : length middle.joined ≡ suc (length first.joined) = ap length joined ∙ one_longer first.joined None in
      subst (OpensPasses first later) (sym are) (record {
        numbered = (ap (λ (p : PassSeen C V R). p.number) split.pass_is, subst (λ (n : ℕ). AreNumbered n rest) count passes.numbered);
        joined = passes.joined ∙ ap (λ (prefix : List (Option (List (Entry V R)))). prefix ++ map not_joined rest) joined ∙ append_assoc first.joined (None ∷ []) (map not_joined rest);
        made = passes.made ∙ ap (λ (p : PassSeen C V R). p.made) split.later_is;
        calls = passes.calls ∙ ap (λ (p : PassSeen C V R). p.calls) split.later_is;
      })

  run_number : (yields : R → Yield) (before after : Seen C V R) → RunsWorker yields before after → (pass_of after).number ≡ (pass_of before).number
  run_number yields (SeenLink before) (SeenLink after) runs = ap (λ (p : PassSeen C V R). p.number) runs.calls
  run_number yields (SeenLink before) (SeenSink after) runs = absurd runs
  run_number yields (SeenSink before) (SeenLink after) runs = absurd runs
  run_number yields (SeenSink before) (SeenSink after) runs = ap (λ (p : PassSeen C V R). p.number) runs.calls

  -- their work leaves the numbers
  pub run_numbered : (yields : R → Yield) (number : ℕ) (workers done : List (Seen C V R)) → RunWorkers yields workers done → AreNumbered number workers → AreNumbered number done
  run_numbered yields number [] [] runs numbered = tt
  run_numbered yields number [] (after ∷ done) runs numbered = absurd runs
  run_numbered yields number (worker ∷ workers) [] runs numbered = absurd runs
  run_numbered yields number (worker ∷ workers) (after ∷ done) runs numbered = (run_number yields worker after runs.0 ∙ numbered.0, run_numbered yields (suc number) workers done runs.1 numbered.1)

  pub run_as_many : (yields : R → Yield) (workers done : List (Seen C V R)) → RunWorkers yields workers done → map not_joined workers ≡ map not_joined done
  run_as_many yields [] [] runs = refl
  run_as_many yields [] (after ∷ done) runs = absurd runs
  run_as_many yields (worker ∷ workers) [] runs = absurd runs
  run_as_many yields (worker ∷ workers) (after ∷ done) runs = ap (λ (more : List (Option (List (Entry V R)))). None ∷ more) (run_as_many yields workers done runs.1)

put_behind : {A : Type 0} (prefix rest : List A) (x y : A) (n : ℕ) → n ≡ length prefix → slice_set (prefix ++ x ∷ rest) n y ≡ prefix ++ y ∷ rest
put_behind [] rest x y zero e = refl
put_behind [] rest x y (suc n) e = absurd (omega (arith, e))
put_behind (z ∷ prefix) rest x y zero e = absurd (omega (arith, e))
put_behind (z ∷ prefix) rest x y (suc n) e = ap (λ zs. z ∷ zs) (put_behind prefix rest x y n (omega (arith, e)))

module _ {C V R : Type 0} where
  -- the closings set the calls of each
  pub record ClosesPasses (prefix : List (Option (List (Entry V R)))) (first later : PassSeen C V R) (done : List (Seen C V R)) : Type 0 where
    pub joined : later.joined ≡ prefix ++ map calls_made done
    pub made : later.made ≡ first.made

  pub closes_passes : (done : List (Seen C V R)) (prefix : List (Option (List (Entry V R)))) (before now : Told) (first later : PassSeen C V R) → ClosesWorkers done before now first later → AreNumbered (length prefix) done → first.joined ≡ prefix ++ map not_joined done → ClosesPasses prefix first later done
  closes_passes [] prefix before now first later (same, later_is) numbered joined = record { joined = ap (λ (p : PassSeen C V R). p.joined) later_is ∙ joined; made = ap (λ (p : PassSeen C V R). p.made) later_is }
  closes_passes (worker ∷ done) prefix before now first later (mid, middle, closes, close, later_is) numbered joined =
      let others = closes_passes done (prefix ++ None ∷ []) before mid first middle closes (subst (λ (n : ℕ). AreNumbered n done) (sym (one_longer prefix None)) numbered.1) (joined ∙ sym (append_assoc prefix (None ∷ []) (map not_joined done))) in
      let joined' : middle.joined ≡ prefix ++ None ∷ map calls_made done = others.joined ∙ append_assoc prefix (None ∷ []) (map calls_made done) in record {
        joined = ap (λ (p : PassSeen C V R). p.joined) later_is
            ∙ ap (λ (xs : List (Option (List (Entry V R)))). slice_set xs (pass_of worker).number (calls_made worker)) joined'
            ∙ put_behind prefix (map calls_made done) None (calls_made worker) (pass_of worker).number numbered.0;
        made = ap (λ (p : PassSeen C V R). p.made) later_is ∙ others.made;
      }

  -- ---- the workers of links

  abbrev pub link_seen : LinkWork C V R → Seen C V R
  link_seen work = SeenLink work.seen

  abbrev pub link_name : LinkWork C V R → List ℕ
  link_name work = work.seen.name

  abbrev pub link_arrivals : LinkWork C V R → List (Arrival V)
  link_arrivals work = work.arrivals

  -- the worker was opened, with what there was for its link and its clock, and did its work with at most so many calls
  pub record LinkDid (most ingest : ℕ) (wire : Wire) (readings : Option (ℕ → List ℕ)) (clock : Option ℕ) (work : LinkWork C V R) : Type 0 where
    pub left : Option (List Letter)
    pub letters : OpenedLink wire left
    pub hears : Hears ingest work.arrivals left work.seen.left (clock_told readings clock) work.seen.told
    pub made : work.seen.pass.made ≡ link_calls ingest work.arrivals
    pub calls : work.seen.pass.calls ≡ most
    pub few : length work.seen.pass.made ≤ most
    pub ended : work.seen.end ≡ link_ends.Ended → IfSome work.seen.left (λ rest. rest ≡ [])
    pub cause : HasCause 0 work.seen.faults (work.seen.end ≡ link_ends.Failed)
    pub spent : work.seen.end ≡ link_ends.Spent → left_of work.seen.pass ≡ 0

  -- the same of each link, with ingests numbered from here on, and clocks too
  abbrev pub LinksDid : ℕ → (List ℕ → Wire) → Option (ℕ → List ℕ) → ℕ → Option ℕ → List (LinkWork C V R) → Type 0
  LinksDid most wire readings ingest clock [] = Unit {0}
  LinksDid most wire readings ingest clock (work ∷ works) = LinkDid most ingest (wire work.seen.name) readings clock work × LinksDid most wire readings (suc ingest) (option_map raised clock) works

  -- what links under these names came to
  pub record LinksWork (most : ℕ) (wire : List ℕ → Wire) (readings : Option (ℕ → List ℕ)) (ingest : ℕ) (clock : Option ℕ) (names : List (List ℕ)) (done : List (Seen C V R)) : Type 0 where
    pub works : List (LinkWork C V R)
    pub names_are : names ≡ map link_name works
    pub done_are : done ≡ map link_seen works
    pub did : LinksDid most wire readings ingest clock works

  -- what a link under this name came to
  record OneLink (most : ℕ) (wire : List ℕ → Wire) (readings : Option (ℕ → List ℕ)) (ingest : ℕ) (clock : Option ℕ) (name : List ℕ) (after : LinkSeen C V R) : Type 0 where
    arrivals : List (Arrival V)
    name_is : name ≡ after.name
    did : LinkDid most ingest (wire after.name) readings clock (record { seen = after; arrivals = arrivals })

  one_link : (most ingest : ℕ) (name : List ℕ) (before now : Told) (first later : PassSeen C V R) (worker after : LinkSeen C V R) → OpensLinkWorker ingest name before now first later worker → RunsLink worker after → first.calls ≡ most → OneLink most before.live.wire before.live.readings ingest before.live.made name after
  one_link most ingest name before now first later worker after opens runs calls =
      let named : name ≡ after.name = sym (runs.name ∙ opens.name_is) in
      let none : worker.pass.made ≡ [] = ap (λ (p : PassSeen C V R). p.made) opens.pass_is in
      let told : worker.told ≡ clock_told before.live.readings before.live.made = opens.told_is ∙ ap (λ (l : Live). clock_told l.readings l.made) opens.opens.live in
      let many : after.pass.calls ≡ most = ap (λ (p : PassSeen C V R). p.calls) runs.calls ∙ ap (λ (p : PassSeen C V R). p.calls) opens.pass_is ∙ calls in record {
        arrivals = runs.ingests.arrivals;
        name_is = named;
        did = record {
          left = worker.left;
          letters = subst (λ (n : List ℕ). OpenedLink (before.live.wire n) worker.left) named opens.letters;
          hears = subst (λ t. Hears ingest runs.ingests.arrivals worker.left after.left t after.told) told (subst (λ (i : ℕ). Hears i runs.ingests.arrivals worker.left after.left worker.told after.told) opens.ingest_is runs.ingests.hears);
          made = runs.ingests.made_are ∙ ap (λ (made : List (Entry V R)). made ++ link_calls worker.ingest runs.ingests.arrivals) none ∙ ap (λ (i : ℕ). link_calls i runs.ingests.arrivals) opens.ingest_is;
          calls = many;
          few = omega (arith, runs.few, many);
          ended = runs.ended;
          cause = subst (λ (n : ℕ). HasCause n after.faults (after.end ≡ link_ends.Failed)) opens.fresh runs.cause;
          spent = runs.spent.0;
        };
      }

-- the opening of a link makes a clock, and leaves what else is told
record NextLive (before now : Live) : Type 0 where
  wire : now.wire ≡ before.wire
  readings : now.readings ≡ before.readings
  clock : now.made ≡ option_map raised before.made

module _ {C V R : Type 0} where
  next_live : (ingest : ℕ) (name : List ℕ) (before now : Told) (first later : PassSeen C V R) (worker : LinkSeen C V R) → OpensLinkWorker ingest name before now first later worker → NextLive before.live now.live
  next_live ingest name before now first later worker opens = record {
    wire = ap (λ (t : Told). t.live.wire) opens.makes.same ∙ ap (λ (l : Live). l.wire) opens.opens.live;
    readings = ap (λ (t : Told). t.live.readings) opens.makes.same ∙ ap (λ (l : Live). l.readings) opens.opens.live;
    clock = opens.makes.counted ∙ ap (λ (l : Live). option_map raised l.made) opens.opens.live;
  }

  links_first : (most : ℕ) (wire : List ℕ → Wire) (readings : Option (ℕ → List ℕ)) (ingest : ℕ) (clock : Option ℕ) (name : List ℕ) (names : List (List ℕ)) (after : LinkSeen C V R) (done : List (Seen C V R)) → OneLink most wire readings ingest clock name after → LinksWork most wire readings (suc ingest) (option_map raised clock) names done → LinksWork most wire readings ingest clock (name ∷ names) (SeenLink after ∷ done)
  links_first most wire readings ingest clock name names after done one others = record {
    works = record { seen = after; arrivals = one.arrivals } ∷ others.works;
    names_are = ap (λ (n : List ℕ). n ∷ names) one.name_is ∙ ap (λ (more : List (List ℕ)). after.name ∷ more) others.names_are;
    done_are = ap (λ (more : List (Seen C V R)). SeenLink after ∷ more) others.done_are;
    did = (one.did, others.did);
  }

  none_done : (yields : R → Yield) (done : List (Seen C V R)) → RunWorkers yields [] done → done ≡ []
  none_done yields [] runs = refl
  none_done yields (after ∷ done) runs = absurd runs

  pub links_work : (yields : R → Yield) (most ingest : ℕ) (names : List (List ℕ)) (before now : Told) (first later : PassSeen C V R) (workers done : List (Seen C V R)) → OpensWorkers (links_wanted ingest names) before now first later workers (Ok tt) → RunWorkers yields workers done → first.calls ≡ most → LinksWork most before.live.wire before.live.readings ingest before.live.made names done
  links_work yields most ingest [] before now first later workers done (none, same, later_is, ok) runs calls =
      record { works = []; names_are = refl; done_are = none_done yields done (subst (λ (ws : List (Seen C V R)). RunWorkers yields ws done) none runs); did = tt }
  links_work yields most ingest (name ∷ names) before now first later workers done (inl refused) runs calls = absurd (let no : Ok tt ≡ Err refused.0 = refused.4 in cc)
  links_work yields most ingest (name ∷ names) before now first later workers done (inr (worker, rest, mid, middle, are, opens, more)) runs calls =
      opened worker done opens (subst (λ (ws : List (Seen C V R)). RunWorkers yields ws done) are runs) (λ ds runs' calls'. links_work yields most (suc ingest) names mid now middle later rest ds more runs' calls')
    where
      opened : (w : Seen C V R) (ds : List (Seen C V R)) → OpensWorker (WantedLink ingest name) before mid first middle w → RunWorkers yields (w ∷ rest) ds
          → ((es : List (Seen C V R)) → RunWorkers yields rest es → middle.calls ≡ most → LinksWork most mid.live.wire mid.live.readings (suc ingest) mid.live.made names es) → LinksWork most before.live.wire before.live.readings ingest before.live.made (name ∷ names) ds
      opened (SeenSink w) ds opens' runs' others = absurd opens'
      opened (SeenLink w) [] opens' runs' others = absurd runs'
      opened (SeenLink w) (SeenSink after ∷ ds) opens' runs' others = absurd runs'.0
      opened (SeenLink w) (SeenLink after ∷ ds) opens' runs' others =
          let next = next_live ingest name before mid first middle w opens' in
          links_first most before.live.wire before.live.readings ingest before.live.made name names after ds
          (one_link most ingest name before mid first middle w after opens' runs'.0 calls)
          (subst (λ (wire : List ℕ → Wire). LinksWork most wire before.live.readings (suc ingest) (option_map raised before.live.made) names ds) next.wire
          (subst (λ (readings : Option (ℕ → List ℕ)). LinksWork most mid.live.wire readings (suc ingest) (option_map raised before.live.made) names ds) next.readings
          (subst (λ (clock : Option ℕ). LinksWork most mid.live.wire mid.live.readings (suc ingest) clock names ds) next.clock
          (others ds runs'.1 (ap (λ (p : PassSeen C V R). p.calls) opens'.later_is ∙ calls)))))

  -- ---- the workers of sinks

  abbrev pub sink_seen : SinkWork C V R → Seen C V R
  sink_seen work = SeenSink work.seen

  abbrev pub sink_name : SinkWork C V R → List ℕ
  sink_name work = work.seen.name

  abbrev pub sink_answers : SinkWork C V R → List R
  sink_answers work = work.answers

  -- the worker was opened and did its work, with at most so many calls
  pub record SinkDid (yields : R → Yield) (most releaser : ℕ) (work : SinkWork C V R) : Type 0 where
    pub written : Option (List ℕ)
    pub empty : IfSome written (λ bytes. bytes ≡ [])
    pub made : work.seen.pass.made ≡ takes_of releaser work.answers
    pub writes : Writes yields work.seen.end work.answers written work.seen.written
    pub calls : work.seen.pass.calls ≡ most
    pub cause : HasCause 0 work.seen.faults (work.seen.end ≡ sink_ends.Failed)
    pub spent : work.seen.end ≡ sink_ends.Spent → left_of work.seen.pass ≡ 0

  -- the same of each sink, with releasers numbered from here on
  abbrev pub SinksDid : (yields : R → Yield) → ℕ → ℕ → List (SinkWork C V R) → Type 0
  SinksDid yields most releaser [] = Unit {0}
  SinksDid yields most releaser (work ∷ works) = SinkDid yields most releaser work × SinksDid yields most (suc releaser) works

  -- what sinks under these names came to
  pub record SinksWork (yields : R → Yield) (most releaser : ℕ) (names : List (List ℕ)) (done : List (Seen C V R)) : Type 0 where
    pub works : List (SinkWork C V R)
    pub names_are : names ≡ map sink_name works
    pub done_are : done ≡ map sink_seen works
    pub did : SinksDid yields most releaser works

  -- what a sink under this name came to
  record OneSink (yields : R → Yield) (most releaser : ℕ) (name : List ℕ) (after : SinkSeen C V R) : Type 0 where
    answers : List R
    name_is : name ≡ after.name
    did : SinkDid yields most releaser (record { seen = after; answers = answers })

  one_sink : (yields : R → Yield) (most releaser : ℕ) (name : List ℕ) (before now : Told) (first later : PassSeen C V R) (worker after : SinkSeen C V R) → OpensSinkWorker releaser name before now first later worker → RunsSink yields worker after → first.calls ≡ most → OneSink yields most releaser name after
  one_sink yields most releaser name before now first later worker after opens runs calls =
      let none : worker.pass.made ≡ [] = ap (λ (p : PassSeen C V R). p.made) opens.pass_is in record {
        answers = runs.drains.answers;
        name_is = sym (runs.name ∙ opens.name_is);
        did = record {
          written = worker.written;
          empty = opens.empty;
          made = runs.drains.made_are ∙ ap (λ (made : List (Entry V R)). made ++ takes_of worker.releaser runs.drains.answers) none ∙ ap (λ (r : ℕ). takes_of r runs.drains.answers) opens.releaser_is;
          writes = runs.drains.writes;
          calls = ap (λ (p : PassSeen C V R). p.calls) runs.calls ∙ ap (λ (p : PassSeen C V R). p.calls) opens.pass_is ∙ calls;
          cause = subst (λ (n : ℕ). HasCause n after.faults (after.end ≡ sink_ends.Failed)) opens.fresh runs.cause;
          spent = runs.spent;
        };
      }

  sinks_first : (yields : R → Yield) (most releaser : ℕ) (name : List ℕ) (names : List (List ℕ)) (after : SinkSeen C V R) (done : List (Seen C V R)) → OneSink yields most releaser name after → SinksWork yields most (suc releaser) names done → SinksWork yields most releaser (name ∷ names) (SeenSink after ∷ done)
  sinks_first yields most releaser name names after done one others = record {
    works = record { seen = after; answers = one.answers } ∷ others.works;
    names_are = ap (λ (n : List ℕ). n ∷ names) one.name_is ∙ ap (λ (more : List (List ℕ)). after.name ∷ more) others.names_are;
    done_are = ap (λ (more : List (Seen C V R)). SeenSink after ∷ more) others.done_are;
    did = (one.did, others.did);
  }

  pub sinks_work : (yields : R → Yield) (most releaser : ℕ) (names : List (List ℕ)) (before now : Told) (first later : PassSeen C V R) (workers done : List (Seen C V R)) → OpensWorkers (sinks_wanted releaser names) before now first later workers (Ok tt) → RunWorkers yields workers done → first.calls ≡ most → SinksWork yields most releaser names done
  sinks_work yields most releaser [] before now first later workers done (none, same, later_is, ok) runs calls =
      record { works = []; names_are = refl; done_are = none_done yields done (subst (λ (ws : List (Seen C V R)). RunWorkers yields ws done) none runs); did = tt }
  sinks_work yields most releaser (name ∷ names) before now first later workers done (inl refused) runs calls = absurd (let no : Ok tt ≡ Err refused.0 = refused.4 in cc)
  sinks_work yields most releaser (name ∷ names) before now first later workers done (inr (worker, rest, mid, middle, are, opens, more)) runs calls =
      opened worker done opens (subst (λ (ws : List (Seen C V R)). RunWorkers yields ws done) are runs) (λ ds runs' calls'. sinks_work yields most (suc releaser) names mid now middle later rest ds more runs' calls')
    where
      opened : (w : Seen C V R) (ds : List (Seen C V R)) → OpensWorker (WantedSink releaser name) before mid first middle w → RunWorkers yields (w ∷ rest) ds → ((es : List (Seen C V R)) → RunWorkers yields rest es → middle.calls ≡ most → SinksWork yields most (suc releaser) names es) → SinksWork yields most releaser (name ∷ names) ds
      opened (SeenLink w) ds opens' runs' others = absurd opens'
      opened (SeenSink w) [] opens' runs' others = absurd runs'
      opened (SeenSink w) (SeenLink after ∷ ds) opens' runs' others = absurd runs'.0
      opened (SeenSink w) (SeenSink after ∷ ds) opens' runs' others =
          sinks_first yields most releaser name names after ds
          (one_sink yields most releaser name before mid first middle w after opens' runs'.0 calls)
          (others ds runs'.1 (ap (λ (p : PassSeen C V R). p.calls) opens'.later_is ∙ calls))

  -- ---- the passes of all workers

  links_passes : (most ingest : ℕ) (wire : List ℕ → Wire) (readings : Option (ℕ → List ℕ)) (clock : Option ℕ) (works : List (LinkWork C V R)) → LinksDid most wire readings ingest clock works → map calls_made (map link_seen works) ≡ map Some (links_made ingest (map link_arrivals works))
  links_passes most ingest wire readings clock [] did = refl
  links_passes most ingest wire readings clock (work ∷ works) did =
      let more : map calls_made (map link_seen works) ≡ map Some (links_made (ingest + 1) (map link_arrivals works)) =
      links_passes most (suc ingest) wire readings (option_map raised clock) works did.1 ∙ ap (λ (k : ℕ). map Some (links_made k (map link_arrivals works))) (let next : suc ingest ≡ ingest + 1 = omega arith in next) in
      ap (λ (made : List (Entry V R)). Some made ∷ map calls_made (map link_seen works)) did.0.made ∙ ap (λ (others : List (Option (List (Entry V R)))). Some (link_calls ingest work.arrivals) ∷ others) more

  sinks_passes : (yields : R → Yield) (most releaser : ℕ) (works : List (SinkWork C V R)) → SinksDid yields most releaser works → map calls_made (map sink_seen works) ≡ map Some (sinks_made releaser (map sink_answers works))
  sinks_passes yields most releaser [] did = refl
  sinks_passes yields most releaser (work ∷ works) did =
      let more : map calls_made (map sink_seen works) ≡ map Some (sinks_made (releaser + 1) (map sink_answers works)) =
      sinks_passes yields most (suc releaser) works did.1 ∙ ap (λ (r : ℕ). map Some (sinks_made r (map sink_answers works))) (let next : suc releaser ≡ releaser + 1 = omega arith in next) in
      ap (λ (made : List (Entry V R)). Some made ∷ map calls_made (map sink_seen works)) did.0.made ∙ ap (λ (others : List (Option (List (Entry V R)))). Some (takes_of releaser work.answers) ∷ others) more

  links_numbered : (most ingest : ℕ) (wire : List ℕ → Wire) (readings : Option (ℕ → List ℕ)) (clock : Option ℕ) (works : List (LinkWork C V R)) → LinksDid most wire readings ingest clock works → (k : ℕ) → list_all (λ (a : Arrival V). a.ingest == ingest + k) (slice_index_or (map link_arrivals works) k []) ≡ true
  links_numbered most ingest wire readings clock [] did zero = refl
  links_numbered most ingest wire readings clock [] did (suc k) = refl
  links_numbered most ingest wire readings clock (work ∷ works) did zero = ap (λ (i : ℕ). list_all (λ (a : Arrival V). a.ingest == i) work.arrivals) (let same : ingest + 0 ≡ ingest = omega arith in same) ∙ did.0.hears.numbered
  links_numbered most ingest wire readings clock (work ∷ works) did (suc k) =
      ap (λ (i : ℕ). list_all (λ (a : Arrival V). a.ingest == i) (slice_index_or (map link_arrivals works) k [])) (let same : ingest + suc k ≡ suc ingest + k = omega arith in same)
      ∙ links_numbered most (suc ingest) wire readings (option_map raised clock) works did.1 k

  -- the passes of a closed turn are those of the workers
  pub are_workers : (yields : R → Yield) (most : ℕ) (wire : List ℕ → Wire) (readings : Option (ℕ → List ℕ)) (clock : Option ℕ) (links : List (LinkWork C V R)) (sinks : List (SinkWork C V R)) (later : PassSeen C V R) (passes : List (Option (List (Entry V R)))) → LinksDid most wire readings 0 clock links → SinksDid yields most 0 sinks
      → later.joined ≡ None ∷ map calls_made (map link_seen links ++ map sink_seen sinks) → later.made ≡ [] → passes ≡ slice_set later.joined 0 (Some later.made) → AreWorkers (map link_arrivals links) (map sink_answers sinks) passes
  are_workers yields most wire readings clock links sinks later passes links_did sinks_did joined made are = record {
    passes_are = are
        ∙ ap (λ (xs : List (Option (List (Entry V R)))). slice_set xs 0 (Some later.made)) joined
        ∙ ap (λ (own : List (Entry V R)). Some own ∷ map calls_made (map link_seen links ++ map sink_seen sinks)) made
        ∙ ap (λ (xs : List (Option (List (Entry V R)))). Some [] ∷ xs)
        (map-append calls_made (map link_seen links) (map sink_seen sinks)
        ∙ ap (λ (xs : List (Option (List (Entry V R)))). xs ++ map calls_made (map sink_seen sinks)) (links_passes most 0 wire readings clock links links_did)
        ∙ ap (λ (xs : List (Option (List (Entry V R)))). map Some (links_made 0 (map link_arrivals links)) ++ xs) (sinks_passes yields most 0 sinks sinks_did));
    numbered = λ k. ap (λ (i : ℕ). list_all (λ (a : Arrival V). a.ingest == i) (slice_index_or (map link_arrivals links) k [])) (let same : k ≡ 0 + k = omega arith in same) ∙ links_numbered most 0 wire readings clock links links_did k;
  }
