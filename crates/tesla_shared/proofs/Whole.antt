-- What the calls of the workers of a station come to in its whole history.
use Rattle.std.proofs.Common.{◌≡◌, ℕ, zero, suc, ◌+◌, ◌-◌, ◌<◌, ◌≤◌, ◌==◌, ◌&&◌, ltb, Bool, true, false, cond, List, [], ◌∷◌, ◌++◌, length, map, get_or, count_by, Option, Some, None, refl, sym, ap, subst, ⊎_elim, ◌∙◌, arith}
use Rattle.std.specs.List.{filter, list_all, list_any, sum_by}
use Rattle.std.proofs.lemmas.Bool.{and_from, and_parts, cases_Bool, cases_lt, eq-eqb, eqb-false, eqb-true, lt-ltb, ltb-true, ne_eqb}
use Rattle.std.proofs.lemmas.List.{append-nil, get_or-append_right, get_or-map, get_or_append_left, get_or_past, length-append, length-map}
use Rattle.std.proofs.lemmas.List.Folds.{list_all-map}
use Rattle.std.proofs.lemmas.List.Sums.{sum_by_push, sum_by-append, sum_by-cons}
use Rattle.tesla_base.proofs.Lists.{list_all_both, list_all_weaker}
use Rattle.tesla_turn.specs.declared.view.Call.{Call}
use Rattle.tesla_turn.specs.History.{AllJoined, entries, calls_by, calls_of, HasCalls, known_calls}
use Rattle.tesla_turn.proofs.Merging.{merge_from_joined, merge_length}
use Rattle.tesla_receiver.specs.declared.history.Arrival.{Arrival}
use Rattle.tesla_receiver.specs.declared.history.Entry.{Entry}
use Rattle.tesla_receiver.specs.declared.history.Entry.TheVariants.{Arrived, Taken, Ended}
use Rattle.tesla_receiver.specs.History.{ends, has_end}
use Rattle.tesla_shared.specs.Workers.{takes_of}
use Rattle.tesla_shared.specs.Whole.{AreWorkers, ArrivalsNumbered, IsWhole, arrival_by, arrivals_by, is_of_workers, link_calls, link_size, links_made, pass_of, replies_by, reply_by, sinks_made, worker_passes}
use Rattle.tesla_shared.proofs.WholeLists.{all_entries, all_pass, calls_by_entries, count_by-filter, count_none, each_call, flat_map-filter, flat_map_none, get_or-numbered, length-numbered}

-- ---- the passes of the workers

module _ {V R : Type 0} (links : List (List (Arrival V))) (sinks : List (List R)) where
  length-links_made : length (map Some (links_made {V = V} {R = R} 0 links)) ≡ length links
  length-links_made = length-map (links_made {V = V} {R = R} 0 links) Some ∙ length-numbered (link_calls {V = V} {R = R}) links

  length-sinks_made : length (map Some (sinks_made {V = V} {R = R} 0 sinks)) ≡ length sinks
  length-sinks_made = length-map (sinks_made {V = V} {R = R} 0 sinks) Some ∙ length-numbered (takes_of {V = V} {R = R}) sinks

  pub length-worker_passes : length (worker_passes {V = V} {R = R} links sinks) ≡ suc (length links + length sinks)
  length-worker_passes = omega (arith, length-append (map Some (links_made {V = V} {R = R} 0 links)) (map Some (sinks_made {V = V} {R = R} 0 sinks)), length-links_made, length-sinks_made)

  -- the pass of a link
  pub pass_of_link : (k : ℕ) → k < length links → calls_of (worker_passes links sinks) (suc k) ≡ Some (link_calls k (get_or links k []))
  pass_of_link k low =
      let size : length (links_made {V = V} {R = R} 0 links) ≡ length links = length-numbered (link_calls {V = V} {R = R}) links in
      get_or_append_left (map Some (links_made 0 links)) (map Some (sinks_made 0 sinks)) None k (omega (arith, length-links_made))
      ∙ get_or-map Some (links_made 0 links) k [] None (omega (arith, size))
      ∙ ap (λ (es : List (Entry V R)). Some es) (get_or-numbered link_calls links k [] [] low)

  -- the pass for a sink
  pub pass_of_sink : (r : ℕ) → r < length sinks → calls_of (worker_passes links sinks) (suc (length links + r)) ≡ Some (takes_of r (get_or sinks r []))
  pass_of_sink r low =
      let size : length (sinks_made {V = V} {R = R} 0 sinks) ≡ length sinks = length-numbered (takes_of {V = V} {R = R}) sinks in
      let behind : length links + r - length links ≡ r = omega arith in
      get_or-append_right (map Some (links_made 0 links)) (map Some (sinks_made 0 sinks)) (length links) (length links + r) None length-links_made (omega arith)
      ∙ ap (λ (j : ℕ). get_or (map Some (sinks_made 0 sinks)) j None) behind
      ∙ get_or-map Some (sinks_made 0 sinks) r [] None (omega (arith, size))
      ∙ ap (λ (es : List (Entry V R)). Some es) (get_or-numbered takes_of sinks r [] [] low)

-- ---- each call is one of its worker

module _ {V R : Type 0} where
  -- the entry is one of the worker that has this pass
  abbrev is_call : ℕ → ℕ → ℕ → Entry V R → Bool
  is_call n m pass e = is_of_workers n m e && (pass_of n e == pass)

module _ {V : Type 0} (R : Type 0) where
  link_each : (n m k : ℕ) (arrivals : List (Arrival V)) → k < n → list_all (λ (a : Arrival V). a.ingest == k) arrivals ≡ true → list_all (is_call {V = V} {R = R} n m (suc k)) (link_calls {V = V} {R = R} k arrivals) ≡ true
  link_each n m k arrivals low numbered =
      list_all_both (is_call {V = V} {R = R} n m (suc k)) (map Arrived arrivals) (Ended k ∷ [])
      (list_all-map (is_call {V = V} {R = R} n m (suc k)) Arrived arrivals
      ∙ list_all_weaker (λ (a : Arrival V). a.ingest == k) (λ (a : Arrival V). is_call {V = V} {R = R} n m (suc k) (Arrived a)) arrivals
      (λ a e. let same : a.ingest ≡ k = eqb-true a.ingest k e in and_from (ltb a.ingest n) (suc a.ingest == suc k) (lt-ltb a.ingest n (omega arith)) (eq-eqb (suc a.ingest) (suc k) (ap suc same)))
      numbered)
      (and_from (is_call {V = V} {R = R} n m (suc k) (Ended k)) true (and_from (ltb k n) (suc k == suc k) (lt-ltb k n low) (eq-eqb (suc k) (suc k) refl)) refl)

module _ (V : Type 0) {R : Type 0} where
  sink_each : (n m r : ℕ) (replies : List R) → r < m → list_all (is_call {V = V} {R = R} n m (suc (n + r))) (takes_of {V = V} {R = R} r replies) ≡ true
  sink_each n m r replies low =
      list_all-map (is_call {V = V} {R = R} n m (suc (n + r))) (λ (reply : R). Taken r reply) replies
      ∙ all_pass (λ (reply : R). is_call {V = V} {R = R} n m (suc (n + r)) (Taken r reply)) (λ reply. and_from (ltb r m) (suc (n + r) == suc (n + r)) (lt-ltb r m low) (eq-eqb (suc (n + r)) (suc (n + r)) refl)) replies

module _ {V R : Type 0} where
  -- entries that are the calls of workers, told by their passes
  pub record MadeBy (links : List (List (Arrival V))) (sinks : List (List R)) (es : List (Entry V R)) : Type 0 where
    pub workers : list_all (is_of_workers (length links) (length sinks)) es ≡ true
    pub link : (k : ℕ) → k < length links → filter (λ (e : Entry V R). pass_of (length links) e == suc k) es ≡ link_calls k (get_or links k [])
    pub sink : (r : ℕ) → r < length sinks → filter (λ (e : Entry V R). pass_of (length links) e == suc (length links + r)) es ≡ takes_of r (get_or sinks r [])
    pub numbered : ArrivalsNumbered links

module _ {V R : Type 0} (history : List (Call (Entry V R))) (links : List (List (Arrival V))) (sinks : List (List R)) (has : HasCalls history (worker_passes links sinks)) (numbered : ArrivalsNumbered links) where
  abbrev n : ℕ
  n = length links

  abbrev m : ℕ
  m = length sinks

  abbrev OfPass : ℕ → Type 0
  OfPass j = list_all (is_call n m j) (calls_by j history) ≡ true

  of_link : (k : ℕ) → k < n → OfPass (suc k)
  of_link k low = ap (list_all (is_call n m (suc k))) (has.0 (suc k) (link_calls k (get_or links k [])) (pass_of_link links sinks k low)) ∙ link_each R n m k (get_or links k []) low (numbered k)

  of_sink : (r : ℕ) → r < m → OfPass (suc (n + r))
  of_sink r low = ap (list_all (is_call n m (suc (n + r)))) (has.0 (suc (n + r)) (takes_of r (get_or sinks r [])) (pass_of_sink links sinks r low)) ∙ sink_each V n m r (get_or sinks r []) low

  of_pass : (j : ℕ) → OfPass j
  of_pass zero = ap (list_all (is_call n m 0)) (has.0 0 [] refl)
  of_pass (suc i) =
      ⊎_elim (λ low. of_link i low)
      (λ high. ⊎_elim
      (λ low. let same : n + (i - n) ≡ i = omega arith in subst (λ (j : ℕ). OfPass (suc j)) same (of_sink (i - n) (omega arith)))
      (λ past. ap (list_all (is_call n m (suc i))) (has.1 (suc i) (omega (arith, length-worker_passes links sinks))))
      (cases_lt i (n + m)))
      (cases_lt i n)

  each_made : list_all (λ (c : Call (Entry V R)). is_call n m c.by c.entry) history ≡ true
  each_made = each_call (is_call n m) history of_pass

  each_pass : list_all (λ (c : Call (Entry V R)). pass_of n c.entry == c.by) history ≡ true
  each_pass = list_all_weaker (λ (c : Call (Entry V R)). is_call n m c.by c.entry) (λ (c : Call (Entry V R)). pass_of n c.entry == c.by) history (λ c e. (and_parts (is_of_workers n m c.entry) (pass_of n c.entry == c.by) e).1) each_made

  pub made_by : MadeBy links sinks (entries history)
  made_by = record {
    workers = all_entries (is_of_workers n m) history
        (list_all_weaker (λ (c : Call (Entry V R)). is_call n m c.by c.entry) (λ (c : Call (Entry V R)). is_of_workers n m c.entry) history (λ c e. (and_parts (is_of_workers n m c.entry) (pass_of n c.entry == c.by) e).0) each_made);
    link = λ k low. sym (calls_by_entries (pass_of n) (suc k) history each_pass) ∙ has.0 (suc k) (link_calls k (get_or links k [])) (pass_of_link links sinks k low);
    sink = λ r low. sym (calls_by_entries (pass_of n) (suc (n + r)) history each_pass) ∙ has.0 (suc (n + r)) (takes_of r (get_or sinks r [])) (pass_of_sink links sinks r low);
    numbered = numbered;
  }

-- ---- arrivals, replies and ends

module _ {V R : Type 0} where
  -- what is of an ingest or of a releaser is of its pass
  pub arrival_elsewhere : (n k : ℕ) (e : Entry V R) → (pass_of n e == suc k) ≡ false → arrival_by k e ≡ []
  arrival_elsewhere n k (Arrived a) other = ap (λ b. cond b (a ∷ []) []) (ne_eqb a.ingest k (λ same. eqb-false (suc a.ingest) (suc k) other (ap suc same)))
  arrival_elsewhere n k (Taken releaser reply) other = refl
  arrival_elsewhere n k (Ended ingest) other = refl

  pub reply_elsewhere : (n r : ℕ) (e : Entry V R) → (pass_of n e == suc (n + r)) ≡ false → reply_by r e ≡ []
  reply_elsewhere n r (Arrived a) other = refl
  reply_elsewhere n r (Taken releaser reply) other = ap (λ b. cond b (reply ∷ []) []) (ne_eqb releaser r (λ same. eqb-false (suc (n + releaser)) (suc (n + r)) other (ap (λ k. suc (n + k)) same)))
  reply_elsewhere n r (Ended ingest) other = refl

  pub end_elsewhere : (n k : ℕ) (e : Entry V R) → (pass_of n e == suc k) ≡ false → ends k e ≡ false
  end_elsewhere n k (Arrived a) other = refl
  end_elsewhere n k (Taken releaser reply) other = refl
  end_elsewhere n k (Ended ingest) other = ne_eqb ingest k (λ same. eqb-false (suc ingest) (suc k) other (ap suc same))

module _ {V : Type 0} (R : Type 0) where
  -- the arrivals among the calls of a link
  arrivals_of_link : (k : ℕ) (arrivals : List (Arrival V)) → list_all (λ (a : Arrival V). a.ingest == k) arrivals ≡ true → arrivals_by k (link_calls {V = V} {R = R} k arrivals) ≡ arrivals
  arrivals_of_link k [] numbered = refl
  arrivals_of_link k (a ∷ arrivals) numbered =
      let parts = and_parts (a.ingest == k) (list_all (λ (x : Arrival V). x.ingest == k) arrivals) numbered in
      ap (λ b. cond b (a ∷ []) [] ++ arrivals_by k (link_calls {V = V} {R = R} k arrivals)) parts.0 ∙ ap (λ xs. a ∷ xs) (arrivals_of_link k arrivals parts.1)

  -- arrivals are no ends
  pub no_end : (k : ℕ) (arrivals : List (Arrival V)) → list_any (ends {V = V} {R = R} k) (map Arrived arrivals) ≡ false
  no_end k [] = refl
  no_end k (a ∷ arrivals) = no_end k arrivals

  one_end : (k : ℕ) (arrivals : List (Arrival V)) → count_by (ends {V = V} {R = R} k) (link_calls k arrivals) ≡ 1
  one_end k arrivals =
      let last : ◌≡◌ {A = ℕ} (cond (k == k) 1 0) 1 = ap (λ b. cond b 1 0) (eq-eqb k k refl) in
      omega (arith, last, count_none (ends {V = V} {R = R} k) (map Arrived arrivals) (no_end k arrivals), sum_by_push (λ (x : Entry V R). cond (ends k x) 1 0) (map Arrived arrivals) (Ended k))

module _ (V : Type 0) {R : Type 0} where
  -- the answers among the takes for a sink
  pub replies_of_sink : (r : ℕ) (replies : List R) → replies_by r (takes_of {V = V} {R = R} r replies) ≡ replies
  replies_of_sink r [] = refl
  replies_of_sink r (reply ∷ replies) = ap (λ b. cond b (reply ∷ []) [] ++ replies_by r (takes_of {V = V} {R = R} r replies)) (eq-eqb r r refl) ∙ ap (λ xs. reply ∷ xs) (replies_of_sink r replies)

module _ {V R : Type 0} where
  -- of an ingest without a link nothing arrived
  arrival_past : (n m k : ℕ) → n ≤ k → (e : Entry V R) → is_of_workers n m e ≡ true → arrival_by k e ≡ []
  arrival_past n m k past (Arrived a) of = let below = ltb-true a.ingest n of in ap (λ b. cond b (a ∷ []) []) (ne_eqb a.ingest k (λ same. omega arith))
  arrival_past n m k past (Taken releaser reply) of = refl
  arrival_past n m k past (Ended ingest) of = refl

  -- nor did a releaser without a sink take
  reply_past : (n m r : ℕ) → m ≤ r → (e : Entry V R) → is_of_workers n m e ≡ true → reply_by r e ≡ []
  reply_past n m r past (Arrived a) of = refl
  reply_past n m r past (Taken releaser reply) of = let below = ltb-true releaser m of in ap (λ b. cond b (reply ∷ []) []) (ne_eqb releaser r (λ same. omega arith))
  reply_past n m r past (Ended ingest) of = refl

module _ {V R : Type 0} (links : List (List (Arrival V))) (sinks : List (List R)) (es : List (Entry V R)) (made : MadeBy links sinks es) where
  abbrev of_this_pass : ℕ → Entry V R → Bool
  of_this_pass j e = pass_of (length links) e == j

  arrivals_are : (k : ℕ) → arrivals_by k es ≡ get_or links k []
  arrivals_are k =
      ⊎_elim
      (λ low. sym (flat_map-filter (of_this_pass (suc k)) (arrival_by k) (arrival_elsewhere (length links) k) es) ∙ ap (arrivals_by k) (made.link k low) ∙ arrivals_of_link R k (get_or links k []) (made.numbered k))
      (λ past. flat_map_none (is_of_workers (length links) (length sinks)) (arrival_by k) (arrival_past (length links) (length sinks) k past) es made.workers ∙ sym (get_or_past links k [] past))
      (cases_lt k (length links))

  pub replies_are : (r : ℕ) → replies_by r es ≡ get_or sinks r []
  replies_are r =
      ⊎_elim
      (λ low. sym (flat_map-filter (of_this_pass (suc (length links + r))) (reply_by r) (reply_elsewhere (length links) r) es) ∙ ap (replies_by r) (made.sink r low) ∙ replies_of_sink V r (get_or sinks r []))
      (λ past. flat_map_none (is_of_workers (length links) (length sinks)) (reply_by r) (reply_past (length links) (length sinks) r past) es made.workers ∙ sym (get_or_past sinks r [] past))
      (cases_lt r (length sinks))

  ended_once : (k : ℕ) → k < length links → count_by (ends k) es ≡ 1
  ended_once k low = sym (count_by-filter (of_this_pass (suc k)) (ends k) (end_elsewhere (length links) k) es) ∙ ap (count_by (ends k)) (made.link k low) ∙ one_end R k (get_or links k [])

  has_ended : (k : ℕ) → k < length links → has_end es k ≡ true
  has_ended k low =
      ⊎_elim (λ yes. yes)
      (λ no. absurd (omega (arith, ended_once k low, count_none (ends k) es no)))
      (cases_Bool (has_end es k))

-- ---- the whole

module _ {V R : Type 0} where
  -- what the calls of the workers of a closed turn come to
  pub is_whole : (history : List (Call (Entry V R))) (passes : List (Option (List (Entry V R)))) (links : List (List (Arrival V))) (sinks : List (List R)) → AreWorkers links sinks passes → HasCalls history passes → IsWhole links sinks (entries history)
  is_whole history passes links sinks are has =
      let es : List (Entry V R) = entries history in
      let made = made_by history links sinks (subst (HasCalls history) are.passes_are has) are.numbered in record {
        workers = made.workers;
        arrivals = arrivals_are links sinks es made;
        replies = replies_are links sinks es made;
        ended = has_ended links sinks es made;
        ended_once = ended_once links sinks es made;
      }

  -- every pass of the workers was joined
  some_joined : (xs : List (List (Entry V R))) (more : List (Option (List (Entry V R)))) → AllJoined more → AllJoined (map Some xs ++ more)
  some_joined [] more all = all
  some_joined (x ∷ xs) more all = some_joined xs more all

  pub workers_joined : (links : List (List (Arrival V))) (sinks : List (List R)) → AllJoined (worker_passes links sinks)
  workers_joined links sinks =
      some_joined (links_made 0 links) (map Some (sinks_made 0 sinks))
      (subst AllJoined (append-nil (map Some (sinks_made 0 sinks))) (some_joined (sinks_made 0 sinks) [] tt))

  -- their calls
  known_some : (xs : List (List (Entry V R))) (more : List (Option (List (Entry V R)))) → known_calls (map Some xs ++ more) ≡ xs ++ known_calls more
  known_some [] more = refl
  known_some (x ∷ xs) more = ap (λ (calls : List (List (Entry V R))). x ∷ calls) (known_some xs more)

  pub workers_known : (links : List (List (Arrival V))) (sinks : List (List R)) → known_calls (worker_passes links sinks) ≡ [] ∷ (links_made 0 links ++ sinks_made 0 sinks)
  workers_known links sinks =
      let second : known_calls (map Some (sinks_made 0 sinks)) ≡ sinks_made 0 sinks =
      ap known_calls (sym (append-nil (map Some (sinks_made 0 sinks)))) ∙ known_some (sinks_made 0 sinks) [] ∙ append-nil (sinks_made 0 sinks) in
      ap (λ (calls : List (List (Entry V R))). [] ∷ calls) (known_some (links_made 0 links) (map Some (sinks_made 0 sinks)) ∙ ap (λ (calls : List (List (Entry V R))). links_made 0 links ++ calls) second)

module _ {V : Type 0} (R : Type 0) where
  -- how many calls there are
  abbrev arrived_one : Arrival V → Entry V R
  arrived_one a = Arrived a

  links_size : (k : ℕ) (links : List (List (Arrival V))) → sum_by length (links_made {V = V} {R = R} k links) ≡ sum_by link_size links
  links_size k [] = refl
  links_size k (arrivals ∷ links) =
      let first : length (link_calls {V = V} {R = R} k arrivals) ≡ link_size arrivals = omega (arith, length-append (map arrived_one arrivals) (Ended k ∷ []), length-map arrivals arrived_one) in
      sum_by-cons length (link_calls {V = V} {R = R} k arrivals) (links_made (k + 1) links) ∙ (λ i. first i + links_size (k + 1) links i) ∙ sym (sum_by-cons link_size arrivals links)

module _ (V : Type 0) {R : Type 0} where
  abbrev taken_one : ℕ → R → Entry V R
  taken_one r reply = Taken r reply

  sinks_size : (r : ℕ) (sinks : List (List R)) → sum_by length (sinks_made {V = V} {R = R} r sinks) ≡ sum_by length sinks
  sinks_size r [] = refl
  sinks_size r (replies ∷ sinks) =
      let first : length (takes_of {V = V} {R = R} r replies) ≡ length replies = length-map replies (taken_one r) in
      sum_by-cons length (takes_of {V = V} {R = R} r replies) (sinks_made (r + 1) sinks) ∙ (λ i. first i + sinks_size (r + 1) sinks i) ∙ sym (sum_by-cons length replies sinks)

module _ {V R : Type 0} where
  pub whole_size : (history : List (Call (Entry V R))) (passes : List (Option (List (Entry V R)))) (links : List (List (Arrival V))) (sinks : List (List R)) → AreWorkers links sinks passes → HasCalls history passes → length history ≡ sum_by link_size links + sum_by length sinks
  whole_size history passes links sinks are has =
      let workers = subst (HasCalls history) are.passes_are has in
      let calls : length history ≡ sum_by length ([] ∷ (links_made 0 links ++ sinks_made 0 sinks)) =
      merge_length history (known_calls (worker_passes links sinks)) (merge_from_joined history (worker_passes links sinks) workers (workers_joined links sinks)) ∙ ap (sum_by length) (workers_known links sinks) in
      omega (arith, calls, sum_by-cons length [] (links_made 0 links ++ sinks_made 0 sinks), sum_by-append length (links_made 0 links) (sinks_made 0 sinks), links_size R 0 links, sinks_size V 0 sinks)
