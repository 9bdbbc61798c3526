-- Records that are written of answers to takes, one after another.
use Rattle.std.proofs.Common.{◌≡◌, ℕ, List, [], ◌∷◌, ◌++◌, Option, Some, None, true, refl, sym, ap, subst, ◌∙◌, append_assoc, append-nil, arith}
use Rattle.std.proofs.lemmas.List.{map-append}
use Rattle.std.proofs.lemmas.List.Concat.{flat_map-append}
use Rattle.tesla_base.proofs.Lists.{list_all_both}
use Rattle.tesla_desk.specs.Outside.{AppendsPrefix, with_bytes}
use Rattle.tesla_desk.proofs.Told.{appends_none, with_bytes_twice}
use Rattle.tesla_receiver.specs.declared.history.Entry.{Entry}
use Rattle.tesla_receiver.specs.declared.history.Entry.TheVariants.{Taken}
use Rattle.tesla_shared.specs.declared.draining.SinkEnd.TheVariants as ends
use Rattle.tesla_shared.specs.Workers.{takes_of, Drains}
use Rattle.tesla_shared.specs.Yields.{Yield, Record, Nothing, Over, is_more, record_of, records, goes_on, text_in}

module _ {V R : Type 0} where
  -- one take more
  pub takes_more : (releaser : ℕ) (made mid now : List (Entry V R)) (answers : List R) (reply : R) (by : ℕ) → by ≡ releaser → mid ≡ made ++ takes_of releaser answers → now ≡ mid ++ Taken by reply ∷ [] → now ≡ made ++ takes_of releaser (answers ++ reply ∷ [])
  takes_more releaser made mid now answers reply by same prefix last =
      last ∙ ap (λ (k : ℕ). mid ++ Taken k reply ∷ []) same ∙ ap (λ (es : List (Entry V R)). es ++ Taken releaser reply ∷ []) prefix ∙ append_assoc made (takes_of releaser answers) (Taken releaser reply ∷ []) ∙ ap (λ (es : List (Entry V R)). made ++ es) (sym (map-append (λ (r : R). Taken releaser r) answers (reply ∷ [])))

module _ {R : Type 0} (yields : R → Yield) where
  -- one record more
  records_more : (answers : List R) (reply : R) → records yields (answers ++ reply ∷ []) ≡ records yields answers ++ record_of yields reply
  records_more answers reply = flat_map-append (record_of yields) answers (reply ∷ []) ∙ ap (λ (bytes : List ℕ). records yields answers ++ bytes) (append-nil (record_of yields reply))

module _ {V R : Type 0} (yields : R → Yield) where
  -- no packet was taken
  pub drains_none : (releaser : ℕ) (made : List (Entry V R)) (written : Option (List ℕ)) → Drains yields releaser ends.Spent made made written written
  drains_none releaser made None = record { answers = []; made_are = sym (append-nil made); writes = (refl, refl) }
  drains_none releaser made (Some bytes) = record { answers = []; made_are = sym (append-nil made); writes = (refl, ap (λ (bs : List ℕ). Some bs) (sym (append-nil bytes))) }

  -- a take more that did not say that all is over, and its record
  pub drains_more : (releaser : ℕ) (made mid now : List (Entry V R)) (written before after : Option (List ℕ)) (reply : R) (by : ℕ) → goes_on yields reply ≡ true → by ≡ releaser → Drains yields releaser ends.Spent made mid written before → now ≡ mid ++ Taken by reply ∷ [] → after ≡ with_bytes before (record_of yields reply) → Drains yields releaser ends.Spent made now written after
  drains_more releaser made mid now written before after reply by on same all last wrote = record {
    answers = all.answers ++ reply ∷ [];
    made_are = takes_more releaser made mid now all.answers reply by same all.made_are last;
    writes = (
      list_all_both (goes_on yields) all.answers (reply ∷ []) all.writes.0 (grind (arith, on)),
      wrote ∙ ap (λ (w : Option (List ℕ)). with_bytes w (record_of yields reply)) all.writes.1 ∙ with_bytes_twice written (records yields all.answers) (record_of yields reply) ∙ ap (λ (bytes : List ℕ). with_bytes written bytes) (sym (records_more yields all.answers reply)),
    );
  }

  -- a take more that yielded a record, which was written
  pub drains_record : (releaser : ℕ) (made mid now : List (Entry V R)) (written before after : Option (List ℕ)) (reply : R) (text : List ℕ) (by : ℕ) → yields reply ≡ Record text → by ≡ releaser → Drains yields releaser ends.Spent made mid written before → now ≡ mid ++ Taken by reply ∷ [] → after ≡ with_bytes before text → Drains yields releaser ends.Spent made now written after
  drains_record releaser made mid now written before after reply text by is same all last wrote =
      drains_more releaser made mid now written before after reply by (ap is_more is) same all last (wrote ∙ ap (λ (y : Yield). with_bytes before (text_in y)) (sym is))

  -- a take more that yielded none
  pub drains_nothing : (releaser : ℕ) (made mid now : List (Entry V R)) (written before : Option (List ℕ)) (reply : R) (by : ℕ) → yields reply ≡ Nothing → by ≡ releaser → Drains yields releaser ends.Spent made mid written before → now ≡ mid ++ Taken by reply ∷ [] → Drains yields releaser ends.Spent made now written before
  drains_nothing releaser made mid now written before reply by is same all last =
      drains_more releaser made mid now written before before reply by (ap is_more is) same all last (appends_none before ∙ ap (λ (y : Yield). with_bytes before (text_in y)) (sym is))

  -- a take more that said that all is over
  pub drains_over : (releaser : ℕ) (made mid now : List (Entry V R)) (written before : Option (List ℕ)) (reply : R) (by : ℕ) → yields reply ≡ Over → by ≡ releaser → Drains yields releaser ends.Spent made mid written before → now ≡ mid ++ Taken by reply ∷ [] → Drains yields releaser ends.Over made now written before
  drains_over releaser made mid now written before reply by is same all last = record {
    answers = all.answers ++ reply ∷ [];
    made_are = takes_more releaser made mid now all.answers reply by same all.made_are last;
    writes = (all.answers, reply, refl, is, all.writes.0, all.writes.1);
  }

  -- a take more, of whose record a prefix was written
  pub drains_failed : (releaser : ℕ) (made mid now : List (Entry V R)) (written before after : Option (List ℕ)) (reply : R) (text : List ℕ) (by : ℕ) → yields reply ≡ Record text → by ≡ releaser → Drains yields releaser ends.Spent made mid written before → now ≡ mid ++ Taken by reply ∷ [] → AppendsPrefix before after text → Drains yields releaser ends.Failed made now written after
  drains_failed releaser made mid now written before after reply text by is same all last wrote = record {
    answers = all.answers ++ reply ∷ [];
    made_are = takes_more releaser made mid now all.answers reply by same all.made_are last;
    writes = (
      all.answers,
      reply,
      refl,
      list_all_both (goes_on yields) all.answers (reply ∷ []) all.writes.0 (let on : goes_on yields reply ≡ true = ap is_more is in grind (arith, on)),
      subst (λ (w : Option (List ℕ)). AppendsPrefix w after (record_of yields reply)) all.writes.1 (subst (λ (y : Yield). AppendsPrefix before after (text_in y)) (sym is) wrote),
    );
  }
