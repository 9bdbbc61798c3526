-- What the answers for the sinks come to where the station answers as a receiver of one stream.
use Rattle.std.proofs.Common.{◌≡◌, ℕ, suc, ◌<◌, ◌≤◌, ◌==◌, ltb, Bool, true, false, cond, List, [], ◌∷◌, ◌++◌, length, map, get_or, Option, None, refl, sym, ap, subst, ⊎_elim, ◌∙◌, arith, append_assoc}
use Rattle.std.specs.Prelude.{slice_get}
use Rattle.std.specs.List.{filter, list_all, list_any, range_with_len, Contains}
use Rattle.std.proofs.lemmas.Bool.{and_parts, cases_Bool, eq-eqb, eqb-true, ltb-true}
use Rattle.std.proofs.lemmas.List.{append-nil}
use Rattle.std.proofs.lemmas.List.Concat.{flat_map-append}
use Rattle.std.proofs.lemmas.List.Elements.{filter-append}
use Rattle.std.proofs.lemmas.List.Folds.{list_all-append}
use Rattle.std.proofs.lemmas.Option.{slice_get_cases}
use Rattle.tesla_base.proofs.Lists.{not_all_numbers}
use Rattle.tesla_turn.specs.declared.view.Call.{Call}
use Rattle.tesla_turn.specs.History.{HasCalls, entries}
use Rattle.tesla_fitting.specs.declared.config.Config.{Config}
use Rattle.tesla_state.specs.declared.replies.Reply.{Reply}
use Rattle.tesla_state.specs.declared.replies.Reply.TheVariants.{Given, Empty, Over}
use Rattle.tesla_receiver.specs.Entries.{Arrival, Entry}
use Rattle.tesla_receiver.specs.declared.history.Entry.TheVariants.{Arrived, Taken, Ended}
use Rattle.tesla_receiver.specs.History.{IsLegal, IsLegalAfter, arrival_in, arrivals_in, ends, entry_of, event_of, given_in, has_end, reply_to, reply_with}
use Rattle.tesla_receiver.specs.Packets.{released}
use Rattle.tesla_replay.specs.Records.{records_of, text_given}
use Rattle.tesla_replay.specs.Records as replaying
use Rattle.tesla_receiver.proofs.Events.{given_rises}
use Rattle.tesla_receiver.proofs.Legal.{given_fits}
use Rattle.tesla_shared.specs.Receiving.{Releases, record_in, records, yield_of}
use Rattle.tesla_shared.specs.Whole.{AreWorkers, arrival_by, arrivals_by, is_of_workers, link_calls, pass_of, replies_by, reply_by}
use Rattle.tesla_shared.specs.Yields.{goes_on}
use Rattle.tesla_shared.proofs.Whole.{MadeBy, arrival_elsewhere, end_elsewhere, made_by, no_end, replies_are}
use Rattle.tesla_shared.proofs.WholeLists.{flat_map-filter, given_at, last_alone, list_any-filter}

-- a given packet has one record
text_same : (reply : Reply) → text_given reply ≡ record_in reply
text_same (Given head payload) = refl
text_same Empty = refl
text_same Over = refl

record_same : (r : ℕ) (e : Entry) → replaying.record_in r e ≡ records (reply_by r e)
record_same r (Arrived a) = refl
record_same r (Taken releaser reply) = of_own (releaser == r)
  where
    of_own : (own : Bool) → cond own (text_given reply) [] ≡ records (cond own (reply ∷ []) [])
    of_own true = text_same reply ∙ sym (append-nil (record_in reply))
    of_own false = refl
record_same r (Ended ingest) = refl

-- the records of a releaser are those of the answers to its takes
pub records_of_replies : (r : ℕ) (es : List Entry) → records_of r es ≡ records (replies_by r es)
records_of_replies r [] = refl
records_of_replies r (e ∷ es) =
    ap (λ text. text ++ records_of r es) (record_same r e)
    ∙ ap (λ text. records (reply_by r e) ++ text) (records_of_replies r es)
    ∙ sym (flat_map-append record_in (reply_by r e) (replies_by r es))

-- ---- all that is released was given

-- the answer Over says that none waits, and that all ingests have ended
over_ended : (xs : List Arrival) (given : ℕ) (ended : Bool) → reply_with xs given None ended ≡ Over → ended ≡ true
over_ended xs given true over = refl
over_ended xs given false over = absurd cc

over_means : (cfg : Config) (xs : List Arrival) (given : ℕ) (ended : Bool) → reply_with xs given (slice_get (released cfg xs) given) ended ≡ Over → (length (released cfg xs) ≤ given) × (ended ≡ true)
over_means cfg xs given ended over =
    ⊎_elim
    (λ p. let clash : true ≡ false = ap (goes_on yield_of) (sym (ap (λ o. reply_with xs given o ended) p.2) ∙ over) in absurd cc)
    (λ p. (p.0, over_ended xs given ended (sym (ap (λ o. reply_with xs given o ended) p.1) ∙ over)))
    (slice_get_cases (released cfg xs) given).1

-- an entry of which Over is an answer of the releaser
over_at : (r : ℕ) (e : Entry) → Contains (reply_by r e) Over → e ≡ Taken r Over
over_at r (Arrived a) has = absurd (omega (arith, has.1))
over_at r (Ended ingest) has = absurd (omega (arith, has.1))
over_at r (Taken releaser reply) has = of_own (releaser == r) refl has
  where
    of_own : (own : Bool) → (releaser == r) ≡ own → Contains (cond own (reply ∷ []) []) Over → ◌≡◌ {A = Entry} (Taken releaser reply) (Taken r Over)
    of_own true e has' =
        let first : has'.0 ≡ 0 = omega (arith, has'.1) in
        let same : reply ≡ Over = sym (ap (λ (k : ℕ). get_or (reply ∷ []) k Over) first) ∙ has'.2 in
        λ i. Taken (eqb-true releaser r e i) (same i)
    of_own false e has' = absurd (omega (arith, has'.1))

-- a legal history answers a take after the entries before it
legal_here : (cfg : Config) (before prefix : List Entry) (e : Entry) (back : List Entry) → IsLegalAfter cfg before (prefix ++ e ∷ back) → e ≡ entry_of cfg (before ++ prefix) (event_of e)
legal_here cfg before [] e back l = l.0 ∙ ap (λ (h : List Entry). entry_of cfg h (event_of e)) (sym (append-nil before))
legal_here cfg before (x ∷ prefix) e back l = legal_here cfg (before ++ x ∷ []) prefix e back l.1 ∙ ap (λ (h : List Entry). entry_of cfg h (event_of e)) (append_assoc before (x ∷ []) prefix)

-- what is known of a history up to a take that was answered Over
record AtOver (cfg : Config) (prefix : List Entry) : Type 0 where
  none : length (released cfg (arrivals_in prefix)) ≤ given_in prefix
  ended : (k : ℕ) → k < cfg.ingests → has_end prefix k ≡ true

at_over : (cfg : Config) (prefix : List Entry) → reply_to cfg prefix ≡ Over → AtOver cfg prefix
unfolding reply_to
at_over cfg prefix over =
    let all : List ℕ = range_with_len 0 cfg.ingests in
    let means = over_means cfg (arrivals_in prefix) (given_in prefix) (list_all (has_end prefix) all) over in record {
      none = means.0;
      ended = λ k low. ⊎_elim (λ yes. yes) (λ no. let clash : true ≡ false = sym means.1 ∙ not_all_numbers (has_end prefix) cfg.ingests k low no in absurd cc) (cases_Bool (has_end prefix k));
    }

-- where no ingest that may have an arrival has one, there is none
no_arrivals : (n m : ℕ) (es : List Entry) → list_all (is_of_workers n m) es ≡ true → ((k : ℕ) → k < n → arrivals_by k es ≡ []) → arrivals_in es ≡ []
no_arrivals n m [] of none = refl
no_arrivals n m (Arrived a ∷ es) of none =
    let parts = and_parts (ltb a.ingest n) (list_all (is_of_workers n m) es) of in
    let here : a ∷ arrivals_by a.ingest es ≡ [] = ap (λ b. cond b (a ∷ []) [] ++ arrivals_by a.ingest es) (sym (eq-eqb a.ingest a.ingest refl)) ∙ none a.ingest (ltb-true a.ingest n parts.0) in
    absurd cc
no_arrivals n m (Taken releaser reply ∷ es) of none = no_arrivals n m es (and_parts (ltb releaser m) (list_all (is_of_workers n m) es) of).1 none
no_arrivals n m (Ended ingest ∷ es) of none = no_arrivals n m es (and_parts (ltb ingest n) (list_all (is_of_workers n m) es) of).1 none

module _ (links : List (List Arrival)) (sinks : List (List Reply)) (prefix rest : List Entry) (made : MadeBy links sinks (prefix ++ rest)) where
  -- behind the end of its ingest a link made no call
  nothing_behind : (k : ℕ) → k < length links → has_end prefix k ≡ true → arrivals_by k rest ≡ []
  nothing_behind k low ended =
      let here : Entry → Bool = λ e. pass_of (length links) e == suc k in
      let both : filter here prefix ++ filter here rest ≡ link_calls k (get_or links k []) = sym (filter-append here prefix rest) ∙ made.link k low in
      let some : list_any (ends k) (filter here prefix) ≡ true = list_any-filter here (ends k) (end_elsewhere (length links) k) prefix ∙ ended in
      let empty : filter here rest ≡ [] = last_alone (ends k) (filter here prefix) (filter here rest) (map Arrived (get_or links k [])) (Ended k) both (no_end Reply k (get_or links k [])) some in
      sym (flat_map-filter here (arrival_by k) (arrival_elsewhere (length links) k) rest) ∙ ap (arrivals_by k) empty

  -- where all ingests have ended, nothing arrives behind
  same_arrivals : ((k : ℕ) → k < length links → has_end prefix k ≡ true) → arrivals_in (prefix ++ rest) ≡ arrivals_in prefix
  same_arrivals ended =
      let of = and_parts (list_all (is_of_workers (length links) (length sinks)) prefix) (list_all (is_of_workers (length links) (length sinks)) rest)
      (sym (list_all-append (is_of_workers (length links) (length sinks)) prefix rest) ∙ made.workers) in
      flat_map-append arrival_in prefix rest
      ∙ ap (λ xs. arrivals_in prefix ++ xs) (no_arrivals (length links) (length sinks) rest of.1 (λ k low. nothing_behind k low (ended k low)))
      ∙ append-nil (arrivals_in prefix)

  -- so what was released up to there is all, and all of it was given
  all_given : (cfg : Config) → cfg.ingests ≡ length links → IsLegal cfg (prefix ++ rest) → AtOver cfg prefix → given_in (prefix ++ rest) ≡ length (released cfg (arrivals_in (prefix ++ rest)))
  all_given cfg ingests legal over =
      let same : length (released cfg (arrivals_in (prefix ++ rest))) ≡ length (released cfg (arrivals_in prefix)) = ap (λ xs. length (released cfg xs)) (same_arrivals (λ k low. over.ended k (omega arith))) in
      omega (arith, same, over.none, given_rises prefix rest, given_fits cfg (prefix ++ rest) legal)

complete : (cfg : Config) (links : List (List Arrival)) (sinks : List (List Reply)) (es : List Entry) → MadeBy links sinks es → cfg.ingests ≡ length links → IsLegal cfg es → (r : ℕ) → Contains (get_or sinks r []) Over → given_in es ≡ length (released cfg (arrivals_in es))
complete cfg links sinks es made ingests legal r has =
    let at = given_at (reply_by r) es Over (subst (λ (replies : List Reply). Contains replies Over) (sym (replies_are links sinks es made r)) has) in
    let over : at.at ≡ Taken r Over = over_at r at.at at.gives in
    let rest : List Entry = Taken r Over ∷ at.back in
    let whole : es ≡ at.prefix ++ rest = at.whole ∙ ap (λ (e : Entry). at.prefix ++ e ∷ at.back) over in
    let legal' : IsLegal cfg (at.prefix ++ rest) = subst (IsLegal cfg) whole legal in
    let answer : ◌≡◌ {A = Entry} (Taken r Over) (Taken r (reply_to cfg at.prefix)) = legal_here cfg [] at.prefix (Taken r Over) at.back legal' in
    let reply : reply_to cfg at.prefix ≡ Over = cc in
    subst (λ (h : List Entry). given_in h ≡ length (released cfg (arrivals_in h))) (sym whole)
    (all_given links sinks at.prefix rest (subst (MadeBy links sinks) whole made) cfg ingests legal' (at_over cfg at.prefix reply))

-- ---- the whole

-- what the answers for the sinks of a closed turn come to
pub are_released : (cfg : Config) (history : List (Call Entry)) (passes : List (Option (List Entry))) (links : List (List Arrival)) (sinks : List (List Reply)) → AreWorkers links sinks passes → HasCalls history passes → IsLegal cfg (entries history) → Releases cfg links sinks (entries history)
are_released cfg history passes links sinks are has legal =
    let es : List Entry = entries history in
    let made = made_by history links sinks (subst (HasCalls history) are.passes_are has) are.numbered in record {
      written = λ r. records_of_replies r es ∙ ap (λ (replies : List Reply). records replies) (replies_are links sinks es made r);
      complete = λ ingests. complete cfg links sinks es made ingests legal;
    }
