-- What a session whose workers were all opened comes to.
use Rattle.std.proofs.Common.{◌≡◌, ◌⊎◌, inl, inr, ℕ, suc, ◌+◌, ◌<◌, ◌≤◌, ◌||◌, Bool, true, false, Ok, List, [], ◌∷◌, ◌++◌, length, map, drop, get_or, Option, Some, None, option_map, refl, sym, ap, subst, ◌∙◌, arith, ⊎_elim}
use Rattle.std.specs.List.{list_all, list_any}
use Rattle.std.proofs.lemmas.Bool.{or_parts}
use Rattle.std.proofs.lemmas.List.{length-map}
use Rattle.std.proofs.lemmas.List.Folds.{list_any-append}
use Rattle.tesla_shared.specs.Yields.{Yield}
use Rattle.tesla_commit.specs.Parts.{Parts}
use Rattle.tesla_desk.specs.Faults.{raised}
use Rattle.tesla_desk.specs.Live.{Wire}
use Rattle.tesla_desk.specs.Outside.{Told}
use Rattle.tesla_fitting.specs.declared.config.Config.{Config}
use Rattle.tesla_front.specs.OutcomeView.{OutcomeView}
use Rattle.tesla_front.specs.Openings.{File, files_told}
use Rattle.tesla_front.specs.Names.{AreDistinct}
use Rattle.tesla_receiver.specs.History.{has_end}
use Rattle.tesla_receiver.specs.declared.history.Arrival.{Arrival}
use Rattle.tesla_receiver.specs.declared.history.Entry.{Entry}
use Rattle.tesla_shared.specs.Whole.{AreWorkers, IsWhole, arrivals_by, is_of_workers, replies_by}
use Rattle.tesla_shared.specs.declared.draining.SinkEnd.{SinkEnd}
use Rattle.tesla_shared.specs.declared.draining.SinkEnd.TheVariants as sink_ends
use Rattle.tesla_shared.specs.declared.ingesting.LinkEnd.{LinkEnd}
use Rattle.tesla_shared.specs.declared.ingesting.LinkEnd.TheVariants as link_ends
use Rattle.tesla_shared.proofs.Whole.{is_whole}
use Rattle.tesla_turn.specs.Held.{Ended, TurnId, first_pass}
use Rattle.tesla_turn.specs.History.{HasCalls, entries}
use Rattle.tesla_turn.specs.declared.view.Call.{Call}
use Rattle.tesla_session.specs.Wanted.{Wanted, links_wanted, opening_for, sinks_wanted}
use Rattle.tesla_run_receive.specs.Arguments.{ReceiveArguments, IsReceive, workers_wanted}
use Rattle.tesla_run_receive.specs.Receive.{AnswersOver, EndsAs, HasSpent, HeardLinks, HeldSinks, LiveKind, Receives, clock_after, config_of}
use Rattle.tesla_session.specs.Session.{PassSeen, Seen, ClosesWorkers, OpensWorkers, RanSession, RunWorkers, calls_most, outcome_by, drained_failed, drained_spent, ended_spent, has_spent, link_failed, sink_failed, stop_by}
use Rattle.tesla_session.proofs.Made.{LinkWork, LinksDid, SinkWork, SinksDid, are_workers, calls_made, closes_both, closes_passes, link_arrivals, link_name, link_seen, links_work, not_joined, opens_both, opens_passes, run_as_many, run_both, run_numbered, sink_answers, sink_name, sink_seen, sinks_work}
use Rattle.tesla_run_receive.proofs.Heard.{AreArrivals, LinksClosed, are_arrivals, heard_links, link_entries, links_closed, links_leave_pages}
use Rattle.tesla_run_receive.proofs.Held.{AllReplies, SinksClosed, all_replies, closed_same, held_sinks, outs_told, over_told, sink_entries, sinks_closed}

-- ---- calls that were spent

spent_link : (end : LinkEnd) → ended_spent end ≡ true → end ≡ link_ends.Spent
spent_link link_ends.Ended e = absurd cc
spent_link link_ends.Failed e = absurd cc
spent_link link_ends.Spent e = refl

spent_sink : (end : SinkEnd) → drained_spent end ≡ true → end ≡ sink_ends.Spent
spent_sink sink_ends.Over e = absurd cc
spent_sink sink_ends.Failed e = absurd cc
spent_sink sink_ends.Spent e = refl

either : (a b : Bool) → (a || b) ≡ true → (a ≡ true) ⊎ (b ≡ true)
either true b e = inl refl
either false b e = inr e

module _ {C V R : Type 0} where
  -- a link whose calls were spent has its number
  links_spent : (ingest links sinks : ℕ) (wire : List ℕ → Wire) (readings : Option (ℕ → List ℕ)) (clock : Option ℕ) (works : List (LinkWork C V R)) (history : List (Entry V R)) → ingest + length works ≤ links → LinksDid calls_most wire readings ingest clock works → AreArrivals ingest works history → list_any has_spent (map link_seen works) ≡ true → HasSpent links sinks history
  links_spent ingest links sinks wire readings clock [] history fits did are some = absurd cc
  links_spent ingest links sinks wire readings clock (work ∷ works) history fits did are some =
      let others = links_spent (suc ingest) links sinks wire readings (option_map raised clock) works history (omega (arith, fits)) did.1 are.1 in
      ⊎_elim
      (λ here. record { number = ingest; spent = inl (omega (arith, fits), link_entries calls_most ingest (wire work.seen.name) readings clock work history did.0 are.0 (spent_link work.seen.end here)) })
      others
      (either (ended_spent work.seen.end) (list_any has_spent (map link_seen works)) some)

  sinks_spent : (yields : R → Yield) (releaser links sinks : ℕ) (works : List (SinkWork C V R)) (history : List (Entry V R)) → releaser + length works ≤ sinks → SinksDid yields calls_most releaser works → AllReplies releaser works history → list_any has_spent (map sink_seen works) ≡ true → HasSpent links sinks history
  sinks_spent yields releaser links sinks [] history fits did are some = absurd cc
  sinks_spent yields releaser links sinks (work ∷ works) history fits did are some =
      let others = sinks_spent yields (suc releaser) links sinks works history (omega (arith, fits)) did.1 are.1 in
      ⊎_elim
      (λ here. record { number = releaser; spent = inr (omega (arith, fits), sink_entries yields calls_most releaser work history did.0 are.0 (spent_sink work.seen.end here)) })
      others
      (either (drained_spent work.seen.end) (list_any has_spent (map sink_seen works)) some)

-- ---- the end of all sinks

over_end : (end : SinkEnd) → drained_failed end ≡ false → drained_spent end ≡ false → end ≡ sink_ends.Over
over_end sink_ends.Over failed spent = refl
over_end sink_ends.Failed failed spent = absurd cc
over_end sink_ends.Spent failed spent = absurd cc

module _ {C V R : Type 0} where
  -- where no sink failed or was spent, the first was told that all is over
  first_over : (yields : R → Yield) (works : List (SinkWork C V R)) → 1 ≤ length works → SinksDid yields calls_most 0 works → list_any sink_failed (map sink_seen works) ≡ false → list_any has_spent (map sink_seen works) ≡ false → AnswersOver yields (get_or (map sink_answers works) 0 [])
  first_over yields [] some did failed spent = absurd (omega (arith, some))
  first_over yields (work ∷ works) some did failed spent =
      over_told yields work.seen.end work.answers did.0.written work.seen.written did.0.writes
      (over_end work.seen.end
      (or_parts (drained_failed work.seen.end) (list_any sink_failed (map sink_seen works)) failed).0
      (or_parts (drained_spent work.seen.end) (list_any has_spent (map sink_seen works)) spent).0)

  -- ---- the session

  -- what the passes of a closed turn are
  record PassesJoined (later : PassSeen C V R) (done : List (Seen C V R)) : Type 0 where
    joined : later.joined ≡ None ∷ map calls_made done
    made : later.made ≡ []

  passes_joined : (yields : R → Yield) (wanted : List Wanted) (before mid start now : Told) (turn : TurnId) (cfg : C) (first later : PassSeen C V R) (workers done : List (Seen C V R)) → OpensWorkers wanted before mid (first_pass turn cfg (suc (length wanted)) calls_most) first workers (Ok tt) → RunWorkers yields workers done → ClosesWorkers done start now first later → PassesJoined later done
  passes_joined yields wanted before mid start now turn cfg first later workers done opens runs closes =
      let one : PassSeen C V R = first_pass turn cfg (suc (length wanted)) calls_most in
      let opened = opens_passes wanted before mid one first workers opens in
      let joined : first.joined ≡ None ∷ map not_joined done = opened.joined ∙ ap (λ (others : List (Option (List (Entry V R)))). None ∷ others) (run_as_many yields workers done runs) in
      let closed = closes_passes done (None ∷ []) start now first later closes (run_numbered yields 1 workers done runs opened.numbered) joined in
      record { joined = closed.joined; made = closed.made ∙ opened.made }

  -- the workers of a session, as those of its links and its sinks
  record Works (yields : R → Yield) (arguments : ReceiveArguments) (before now : Told) (done : List (Seen C V R)) (end : Ended (Entry V R)) : Type 0 where
    links : List (LinkWork C V R)
    sinks : List (SinkWork C V R)
    link_names : arguments.links ≡ map link_name links
    sink_names : arguments.sinks ≡ map sink_name sinks
    done_are : done ≡ map link_seen links ++ map sink_seen sinks
    links_did : LinksDid calls_most before.live.wire before.live.readings 0 before.live.made links
    sinks_did : SinksDid yields calls_most 0 sinks
    links_are : LinksClosed links now.live
    sinks_are : SinksClosed sinks now
    workers_are : AreWorkers (map link_arrivals links) (map sink_answers sinks) end.passes
    whole : IsWhole (map link_arrivals links) (map sink_answers sinks) (entries end.history)

  works_of : (yields : R → Yield) (arguments : ReceiveArguments) (cfg : C) (before opened running now : Told) (end : Ended (Entry V R)) (stop : Option OutcomeView) → AreDistinct arguments.links → AreDistinct arguments.sinks → (it : RanSession yields (workers_wanted arguments) cfg before opened running now end stop)
      → Works yields arguments before now it.ran.done end
  works_of yields arguments cfg before opened running now end stop apart apart_sinks it =
      let ran = it.ran in
      let start : PassSeen C V R = first_pass it.turn cfg (suc (length (workers_wanted arguments))) calls_most in
      let both = opens_both (links_wanted 0 arguments.links) (sinks_wanted 0 arguments.sinks) before opened start it.first it.workers it.opens in
      let run = run_both yields both.prefix both.back ran.done (subst (λ (ws : List (Seen C V R)). RunWorkers yields ws ran.done) both.workers_are ran.runs) in
      let closed = closes_both run.prefix_done run.back_done running now it.first ran.later (subst (λ (ds : List (Seen C V R)). ClosesWorkers ds running now it.first ran.later) run.done_are ran.closes) in
      let links = links_work yields calls_most 0 arguments.links before both.mid start both.middle both.prefix run.prefix_done both.opens_prefix run.runs_prefix refl in
      let calls : both.middle.calls ≡ calls_most = (opens_passes (links_wanted 0 arguments.links) before both.mid start both.middle both.prefix both.opens_prefix).calls in
      let sinks = sinks_work yields calls_most 0 arguments.sinks both.mid opened both.middle it.first both.back run.back_done both.opens_back run.runs_back calls in
      let are : ran.done ≡ map link_seen links.works ++ map sink_seen sinks.works = run.done_are ∙ ap (λ (prefix : List (Seen C V R)). prefix ++ run.back_done) links.done_are ∙ ap (λ (back : List (Seen C V R)). map link_seen links.works ++ back) sinks.done_are in
      let passes = passes_joined yields (workers_wanted arguments) before opened running now it.turn cfg it.first ran.later it.workers ran.done it.opens ran.runs ran.closes in
      let closes_links = subst (λ (ds : List (Seen C V R)). ClosesWorkers ds closed.mid now closed.middle ran.later) links.done_are closed.closes_prefix in
      let closes_sinks = subst (λ (ds : List (Seen C V R)). ClosesWorkers ds running closed.mid it.first closed.middle) sinks.done_are closed.closes_back in
      let workers = are_workers yields calls_most before.live.wire before.live.readings before.live.made links.works sinks.works ran.later end.passes links.did sinks.did (passes.joined ∙ ap (λ (ds : List (Seen C V R)). None ∷ map calls_made ds) are) passes.made ran.passes in
      record {
        links = links.works;
        sinks = sinks.works;
        link_names = links.names_are;
        sink_names = sinks.names_are;
        done_are = are;
        links_did = links.did;
        sinks_did = sinks.did;
        links_are = links_closed links.works closed.mid now closed.middle ran.later closes_links (subst AreDistinct links.names_are apart);
        sinks_are = closed_same sinks.works closed.mid now (links_leave_pages links.works closed.mid now closed.middle ran.later closes_links)
            (sinks_closed sinks.works running closed.mid it.first closed.middle closes_sinks (subst AreDistinct sinks.names_are apart_sinks));
        workers_are = workers;
        whole = is_whole end.history end.passes (map link_arrivals links.works) (map sink_answers sinks.works) workers ran.calls;
      }

-- the first clock has the number that was to be given
first_clock : (made : Option ℕ) → made ≡ option_map (clock_after 0) made
first_clock None = refl
first_clock (Some made) = refl

-- where each ingest has a link, and a take of workers was answered that all is over, the whole history has all that is to be given
abbrev pub Completes : {V R : Type 0} → LiveKind V R → Type 0
Completes {V} {R} kind =
    (cfg : Config) (history : List (Call (Entry V R))) (passes : List (Option (List (Entry V R)))) (links : List (List (Arrival V))) (sinks : List (List R)) → AreWorkers links sinks passes → HasCalls history passes → (kind.behaviour cfg).IsLegal (entries history)
    → cfg.ingests ≡ length links → (releaser : ℕ) → AnswersOver (kind.behaviour cfg).yields (get_or sinks releaser []) → kind.IsComplete cfg (entries history)

module _ {C V R : Type 0} where
  module _ (yields : R → Yield) (arguments : ReceiveArguments) (before now : Told) (done : List (Seen C V R)) (end : Ended (Entry V R)) (works : Works yields arguments before now done end) where
    abbrev made : List (Entry V R)
    made = entries end.history

    count_links : length (map link_arrivals works.links) ≡ length arguments.links
    count_links = length-map works.links link_arrivals ∙ sym (length-map works.links link_name) ∙ ap length (sym works.link_names)

    count_sinks : length (map sink_answers works.sinks) ≡ length arguments.sinks
    count_sinks = length-map works.sinks sink_answers ∙ sym (length-map works.sinks sink_name) ∙ ap length (sym works.sink_names)

    arrivals : AreArrivals 0 works.links made
    arrivals = are_arrivals 0 works.links made (λ k. ap (λ (i : ℕ). arrivals_by i made) (let same : 0 + k ≡ k = omega arith in same) ∙ works.whole.arrivals k)

    replies : AllReplies 0 works.sinks made
    replies = all_replies 0 works.sinks made (λ r. ap (λ (i : ℕ). replies_by i made) (let same : 0 + r ≡ r = omega arith in same) ∙ works.whole.replies r)

    workers : list_all (is_of_workers (length arguments.links) (length arguments.sinks)) made ≡ true
    workers = ap (λ (n : ℕ). list_all (is_of_workers n (length arguments.sinks)) made) (sym count_links)
        ∙ ap (λ (m : ℕ). list_all (is_of_workers (length (map link_arrivals works.links)) m) made) (sym count_sinks) ∙ works.whole.workers

    ended : (ingest : ℕ) → ingest < length arguments.links → has_end made ingest ≡ true
    ended ingest low = works.whole.ended ingest (omega (arith, low, count_links))

    heard : HeardLinks 0 arguments.links before.live now.live made
    heard = subst (λ (names : List (List ℕ)). HeardLinks 0 names before.live now.live made) (sym works.link_names)
        (heard_links 0 works.links before.live now.live made (subst (λ (clock : Option ℕ). LinksDid calls_most before.live.wire before.live.readings 0 clock works.links) (first_clock before.live.made) works.links_did) arrivals works.links_are)

    held : HeldSinks yields 0 (files_told now (map opening_for (sinks_wanted 0 arguments.sinks))) made
    held = subst (λ (names : List (List ℕ)). HeldSinks yields 0 (files_told now (map opening_for (sinks_wanted 0 names))) made) (sym works.sink_names)
        (held_sinks yields 0 works.sinks now made works.sinks_did replies works.sinks_are)

    both : (p : Seen C V R → Bool) → list_any p done ≡ (list_any p (map link_seen works.links) || list_any p (map sink_seen works.sinks))
    both p = ap (list_any p) works.done_are ∙ list_any-append p (map link_seen works.links) (map sink_seen works.sinks)

    spent : list_any has_spent done ≡ true → HasSpent (length arguments.links) (length arguments.sinks) made
    spent some =
        let links : length works.links ≡ length arguments.links = sym (length-map works.links link_arrivals) ∙ count_links in
        let sinks : length works.sinks ≡ length arguments.sinks = sym (length-map works.sinks sink_answers) ∙ count_sinks in
        ⊎_elim
        (links_spent 0 (length arguments.links) (length arguments.sinks) before.live.wire before.live.readings before.live.made works.links made (omega (arith, links)) works.links_did arrivals)
        (sinks_spent yields 0 (length arguments.links) (length arguments.sinks) works.sinks made (omega (arith, sinks)) works.sinks_did replies)
        (either (list_any has_spent (map link_seen works.links)) (list_any has_spent (map sink_seen works.sinks)) (sym (both has_spent) ∙ some))

    over : 1 ≤ length arguments.sinks → list_any sink_failed done ≡ false → list_any has_spent done ≡ false → AnswersOver yields (get_or (map sink_answers works.sinks) 0 [])
    over some failed none =
        let sinks : length works.sinks ≡ length arguments.sinks = sym (length-map works.sinks sink_answers) ∙ count_sinks in
        first_over yields works.sinks (omega (arith, some, sinks)) works.sinks_did
        (or_parts (list_any sink_failed (map link_seen works.links)) (list_any sink_failed (map sink_seen works.sinks)) (sym (both sink_failed) ∙ failed)).1
        (or_parts (list_any has_spent (map link_seen works.links)) (list_any has_spent (map sink_seen works.sinks)) (sym (both has_spent) ∙ none)).1

-- what it comes to, by cases of why the workers came to no end
ends_as : {V R : Type 0} (kind : LiveKind V R) (arguments : ReceiveArguments) (cfg : Config) (history : List (Entry V R)) (read write spent : Bool) → (spent ≡ true → HasSpent (length arguments.links) (length arguments.sinks) history)
    → (write ≡ false → spent ≡ false → kind.IsComplete cfg history) → EndsAs kind arguments cfg history (outcome_by (stop_by read write spent) ((kind.behaviour cfg).text history))
ends_as kind arguments cfg history true write spent has given = tt
ends_as kind arguments cfg history false true spent has given = tt
ends_as kind arguments cfg history false false true has given = (refl, refl, has refl)
ends_as kind arguments cfg history false false false has given = (refl, given refl refl)

module _ {C V R : Type 0} (kind : LiveKind V R) (completes : Completes kind) where
  -- where all workers were opened, one legal history was made of the links, and the sinks hold what it gives. It comes to a failed write where a sink failed at the least
  pub receives : (arguments : ReceiveArguments) (words : List (List ℕ)) (parts : Parts) (setup : File) (cfg : C) (before opened running now : Told) (end : Ended (Entry V R)) (stop : Option OutcomeView) (write : Bool) (last : Option (Ended (Entry V R))) (outcome : OutcomeView) → IsReceive arguments words
      → (it : RanSession (kind.behaviour (config_of arguments parts)).yields (workers_wanted arguments) cfg before opened running now end stop) → (kind.behaviour (config_of arguments parts)).IsLegal (entries end.history) → kind.IsSetup setup.page parts → last ≡ Some end → (write ≡ false → list_any sink_failed it.ran.done ≡ false)
      → outcome ≡ outcome_by (stop_by (list_any link_failed it.ran.done) write (list_any has_spent it.ran.done)) ((kind.behaviour (config_of arguments parts)).text (entries end.history))
      → (received : Receives kind arguments before.live now.live last setup (drop (length arguments.links) (files_told now (map opening_for (workers_wanted arguments)))) outcome) × (received.parts ≡ parts)
  receives arguments words parts setup cfg before opened running now end stop write last outcome is it legal found last_is wrote outcome_is =
      let config : Config = config_of arguments parts in
      let yields : R → Yield = (kind.behaviour config).yields in
      let made : List (Entry V R) = entries end.history in
      let works = works_of yields arguments cfg before opened running now end stop is.links_are.distinct is.sinks_are.distinct it in (
        record {
          parts = parts;
          found = found;
          end = end;
          last_is = last_is;
          calls = it.ran.calls;
          workers = workers yields arguments before now it.ran.done end works;
          legal = legal;
          heard = heard yields arguments before now it.ran.done end works;
          held = subst (λ (outs : List File). HeldSinks yields 0 outs made) (sym (outs_told arguments now)) (held yields arguments before now it.ran.done end works);
          ended = ended yields arguments before now it.ran.done end works;
          outcome_is = subst (EndsAs kind arguments config made) (sym outcome_is)
              (ends_as kind arguments config made (list_any link_failed it.ran.done) write (list_any has_spent it.ran.done)
              (spent yields arguments before now it.ran.done end works)
              (λ none clear. completes config end.history end.passes (map link_arrivals works.links) (map sink_answers works.sinks) works.workers_are it.ran.calls legal
              (sym (count_links yields arguments before now it.ran.done end works)) 0 (over yields arguments before now it.ran.done end works is.sinks_are.some (wrote none) clear)));
        },
        refl,
      )
