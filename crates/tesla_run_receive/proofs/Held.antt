-- What the sinks of a session hold.
use Rattle.std.proofs.Common.{◌≡◌, ◌≢◌, ℕ, suc, ◌+◌, ◌<◌, ◌≤◌, nat_lt, Bool, true, false, List, [], ◌∷◌, ◌++◌, length, map, get_or, take, drop, Option, Some, None, IfSome, refl, sym, ap, subst, ◌∙◌, arith, append-nil}
use Rattle.std.proofs.lemmas.Bool.Decides.{nat_tests}
use Rattle.std.proofs.lemmas.List.{length-map, map-append}
use Rattle.std.proofs.lemmas.List.Concat.{flat_map-append}
use Rattle.std.proofs.lemmas.List.Elements.{Contains-append_right}
use Rattle.tesla_desk.specs.Faults.{HasCause}
use Rattle.tesla_desk.specs.Outside.{Told, Holds, page_of}
use Rattle.tesla_desk.proofs.Told.{first_written, with_bytes_twice}
use Rattle.tesla_front.specs.Openings.{File, files_told}
use Rattle.tesla_front.specs.Names.{AreDistinct, IsNoneOf}
use Rattle.tesla_receiver.specs.declared.history.Entry.{Entry}
use Rattle.tesla_shared.specs.Whole.{replies_by}
use Rattle.tesla_shared.specs.Workers.{Writes}
use Rattle.tesla_shared.specs.Yields.{Yield, Over, record_of, records, text_in}
use Rattle.tesla_shared.specs.declared.draining.SinkEnd.{SinkEnd}
use Rattle.tesla_shared.specs.declared.draining.SinkEnd.TheVariants as sink_ends
use Rattle.tesla_turn.specs.Held.{left_of}
use Rattle.tesla_session.specs.Wanted.{links_wanted, opening_for, sinks_wanted}
use Rattle.tesla_run_receive.specs.Arguments.{ReceiveArguments, workers_wanted}
use Rattle.tesla_run_receive.specs.Receive.{AnswersOver, BreaksOff, EndsOver, HeldSinks, HoldsRecords}
use Rattle.tesla_session.specs.Session.{PassSeen, ClosesWorkers, calls_most}
use Rattle.tesla_run_receive.proofs.Heard.{fails_not}
use Rattle.tesla_session.proofs.Made.{SinkDid, SinkWork, SinksDid, sink_answers, sink_name, sink_seen}

module _ {C V R : Type 0} where
  -- ---- closings

  -- the page of each sink, once all are closed
  abbrev pub SinksClosed : List (SinkWork C V R) → Told → Type 0
  SinksClosed [] now = Unit {0}
  SinksClosed (work ∷ works) now = (now.page work.seen.name ≡ page_of work.seen.written work.seen.faults) × SinksClosed works now

  -- the closing of a sink under another name changes nothing of that
  still_closed : (works : List (SinkWork C V R)) (name : List ℕ) (before now : Told) → IsNoneOf name (map sink_name works) → ((n : List ℕ) → n ≢ name → now.page n ≡ before.page n) → SinksClosed works before → SinksClosed works now
  still_closed [] name before now none others closed = tt
  still_closed (work ∷ works) name before now none others closed = (others work.seen.name (λ e. none.0 (sym e)) ∙ closed.0, still_closed works name before now none.1 others closed.1)

  pub sinks_closed : (works : List (SinkWork C V R)) (before now : Told) (first later : PassSeen C V R) → ClosesWorkers (map sink_seen works) before now first later → AreDistinct (map sink_name works) → SinksClosed works now
  sinks_closed [] before now first later closes distinct = tt
  sinks_closed (work ∷ works) before now first later (mid, middle, closes, close, later_is) distinct =
      (close.own, still_closed works work.seen.name mid now distinct.0 close.pages (sinks_closed works before mid first middle closes distinct.1))

  -- what changes no page changes nothing of that
  pub closed_same : (works : List (SinkWork C V R)) (before now : Told) → ((name : List ℕ) → now.page name ≡ before.page name) → SinksClosed works before → SinksClosed works now
  closed_same [] before now same closed = tt
  closed_same (work ∷ works) before now same closed = (same work.seen.name ∙ closed.0, closed_same works before now same closed.1)

-- ---- records

module _ {R : Type 0} (yields : R → Yield) where
  -- the answer that all is over has no record
  records_over : (others : List R) (last : R) → yields last ≡ Over → records yields (others ++ last ∷ []) ≡ records yields others
  records_over others last over =
      flat_map-append (record_of yields) others (last ∷ [])
      ∙ ap (λ (text : List ℕ). records yields others ++ (text ++ [])) (ap text_in over)
      ∙ append-nil (records yields others)

  -- a sink that didn't fail holds all records
  all_written : (faults : ℕ) (end : SinkEnd) (answers : List R) (written later : Option (List ℕ)) (bytes : List ℕ) → HasCause 0 faults (end ≡ sink_ends.Failed) → nat_lt 0 faults ≡ false → IfSome written (λ prefix. prefix ≡ []) → Writes yields end answers written later → later ≡ Some bytes → bytes ≡ records yields answers
  all_written faults sink_ends.Spent answers written later bytes cause none empty writes told = first_written written later (records yields answers) bytes empty writes.1 told
  all_written faults sink_ends.Failed answers written later bytes cause none empty writes told = absurd (fails_not faults cause none refl)
  all_written faults sink_ends.Over answers written later bytes cause none empty (others, last, are, is, goes, wrote) told =
      first_written written later (records yields others) bytes empty wrote told ∙ sym (records_over others last is) ∙ ap (λ (rs : List R). records yields rs) (sym are)

-- no fault where nothing failed
no_fault : {P : Type 0} (faults : ℕ) → HasCause 0 faults P → nat_lt 0 faults ≡ true → (P → ⊥) → ⊥
no_fault faults cause some not = let none = cause.still not in absurd (grind (arith, nat_tests, some, none))

module _ {R : Type 0} (yields : R → Yield) where
  -- one that failed holds all but for the last, or the end of that
  breaks_off : (faults : ℕ) (end : SinkEnd) (answers : List R) (written later : Option (List ℕ)) (bytes : List ℕ) → HasCause 0 faults (end ≡ sink_ends.Failed) → nat_lt 0 faults ≡ true → IfSome written (λ prefix. prefix ≡ []) → Writes yields end answers written later → later ≡ Some bytes → BreaksOff yields answers bytes
  breaks_off faults sink_ends.Spent answers written later bytes cause some empty writes told = absurd (no_fault faults cause some (λ e. absurd cc))
  breaks_off faults sink_ends.Over answers written later bytes cause some empty writes told = absurd (no_fault faults cause some (λ e. absurd cc))
  breaks_off faults sink_ends.Failed answers written later bytes cause some empty (others, last, are, goes, prefix) told = record {
    others = others;
    last = last;
    answers_are = are;
    prefix = take prefix.0 (record_of yields last);
    prefix_is = (prefix.0, refl);
    written_is = first_written written later (records yields others ++ take prefix.0 (record_of yields last)) bytes empty (prefix.1.written ∙ with_bytes_twice written (records yields others) (take prefix.0 (record_of yields last))) told;
  }

module _ {C V R : Type 0} (yields : R → Yield) where
  -- how many answers a sink has where its calls were spent
  pub sink_entries : (most releaser : ℕ) (work : SinkWork C V R) (history : List (Entry V R)) → SinkDid yields most releaser work → replies_by releaser history ≡ work.answers → work.seen.end ≡ sink_ends.Spent → most ≤ length (replies_by releaser history)
  sink_entries most releaser work history did same end =
      let spent : left_of work.seen.pass ≡ 0 = did.spent end in
      let size : length work.seen.pass.made ≡ length work.answers = ap length did.made ∙ length-map work.answers _ in
      omega (arith, spent, size, did.calls, ap length same)

-- an answer of a sink that came to its end is that all is over
pub over_told : {R : Type 0} (yields : R → Yield) (end : SinkEnd) (answers : List R) (written later : Option (List ℕ)) → Writes yields end answers written later → end ≡ sink_ends.Over → AnswersOver yields answers
over_told yields sink_ends.Spent answers written later writes over = absurd cc
over_told yields sink_ends.Failed answers written later writes over = absurd cc
over_told {R = R} yields sink_ends.Over answers written later (others, last, are, is, goes, wrote) over =
    subst (AnswersOver yields) (sym are) (record { answer = last; among = Contains-append_right others (last ∷ []) last (0, omega arith, refl); over = is })

ends_over : (most size faults : ℕ) (end : SinkEnd) → HasCause 0 faults (end ≡ sink_ends.Failed) → nat_lt 0 faults ≡ false → (end ≡ sink_ends.Spent → most ≤ size) → size < most → end ≡ sink_ends.Over
ends_over most size faults sink_ends.Over cause none spent few = refl
ends_over most size faults sink_ends.Failed cause none spent few = absurd (fails_not faults cause none refl)
ends_over most size faults sink_ends.Spent cause none spent few = let many = spent refl in absurd (omega (arith, many, few))

module _ {C V R : Type 0} where
  -- the history has the answers for these sinks
  abbrev pub AllReplies : ℕ → List (SinkWork C V R) → List (Entry V R) → Type 0
  AllReplies releaser [] history = Unit {0}
  AllReplies releaser (work ∷ works) history = (replies_by releaser history ≡ work.answers) × AllReplies (suc releaser) works history

  pub all_replies : (releaser : ℕ) (works : List (SinkWork C V R)) (history : List (Entry V R)) → ((r : ℕ) → replies_by (releaser + r) history ≡ get_or (map sink_answers works) r []) → AllReplies releaser works history
  all_replies releaser [] history each = tt
  all_replies releaser (work ∷ works) history each =
      let here : releaser ≡ releaser + 0 = omega arith in
      let next : (r : ℕ) → suc releaser + r ≡ releaser + suc r = λ r. omega arith in (
        ap (λ (r : ℕ). replies_by r history) here ∙ each 0,
        all_replies (suc releaser) works history (λ r. ap (λ (i : ℕ). replies_by i history) (next r) ∙ each (suc r)),
      )

module _ {C V R : Type 0} (yields : R → Yield) where
  module _ (releaser : ℕ) (work : SinkWork C V R) (history : List (Entry V R)) (did : SinkDid yields calls_most releaser work) (are : replies_by releaser history ≡ work.answers) where
    holds_where : (failed : Bool) (bytes : List ℕ) → nat_lt 0 work.seen.faults ≡ failed → work.seen.written ≡ Some bytes → HoldsRecords yields releaser history (Holds bytes failed) × EndsOver yields releaser history (Holds bytes failed)
    holds_where false bytes none told = (
      all_written yields work.seen.faults work.seen.end work.answers did.written work.seen.written bytes did.cause none did.empty did.writes told ∙ ap (λ (rs : List R). records yields rs) (sym are),
      λ few. subst (AnswersOver yields) (sym are)
          (over_told yields work.seen.end work.answers did.written work.seen.written did.writes
          (ends_over calls_most (length (replies_by releaser history)) work.seen.faults work.seen.end did.cause none (sink_entries yields calls_most releaser work history did are) few)),
    )
    holds_where true bytes some told = (
      subst (λ (rs : List R). BreaksOff yields rs bytes) (sym are) (breaks_off yields work.seen.faults work.seen.end work.answers did.written work.seen.written bytes did.cause some did.empty did.writes told),
      tt,
    )

    holds_page : (written : Option (List ℕ)) → work.seen.written ≡ written → HoldsRecords yields releaser history (page_of written work.seen.faults) × EndsOver yields releaser history (page_of written work.seen.faults)
    holds_page None told = (tt, tt)
    holds_page (Some bytes) told = holds_where (nat_lt 0 work.seen.faults) bytes refl told

  pub held_sinks : (releaser : ℕ) (works : List (SinkWork C V R)) (now : Told) (history : List (Entry V R)) → SinksDid yields calls_most releaser works → AllReplies releaser works history → SinksClosed works now → HeldSinks yields releaser (files_told now (map opening_for (sinks_wanted releaser (map sink_name works)))) history
  held_sinks releaser [] now history did are closed = tt
  held_sinks releaser (work ∷ works) now history did are closed =
      let both = holds_page releaser work history did.0 are.0 work.seen.written refl in (
        subst (HoldsRecords yields releaser history) (sym closed.0) both.0,
        subst (EndsOver yields releaser history) (sym closed.0) both.1,
        held_sinks (suc releaser) works now history did.1 are.1 closed.1,
      )

-- ---- files

links_dropped : (ingest : ℕ) (names : List (List ℕ)) (now : Told) (files : List File) → drop (length names) (files_told now (map opening_for (links_wanted ingest names)) ++ files) ≡ files
links_dropped ingest [] now files = refl
links_dropped ingest (name ∷ names) now files = links_dropped (suc ingest) names now files

-- behind the links the files are those of the sinks
pub outs_told : (arguments : ReceiveArguments) (now : Told) → drop (length arguments.links) (files_told now (map opening_for (workers_wanted arguments))) ≡ files_told now (map opening_for (sinks_wanted 0 arguments.sinks))
outs_told arguments now =
    ap (λ os. drop (length arguments.links) (files_told now os)) (map-append opening_for (links_wanted 0 arguments.links) (sinks_wanted 0 arguments.sinks))
    ∙ ap (drop (length arguments.links)) (map-append _ (map opening_for (links_wanted 0 arguments.links)) (map opening_for (sinks_wanted 0 arguments.sinks)))
    ∙ links_dropped 0 arguments.links now (files_told now (map opening_for (sinks_wanted 0 arguments.sinks)))
