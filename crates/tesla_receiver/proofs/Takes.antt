-- A receiver's state stands for one take more.
use Rattle.std.proofs.Common.{◌≡◌, ℕ, ◌+◌, Bool, true, false, cond, ◌&&◌, ◌||◌, List, [], ◌∷◌, ◌++◌, length-append, map, take, drop, flat_map, Option, Some, None, refl, sym, ap, subst, ⊎_elim, ◌∙◌, ◌==◌, add-zero}
use Rattle.std.specs.Prelude.{not, find, slice_get, is_some}
use Rattle.std.specs.List.{list_any, list_all, enumerate_from, range_with_len}
use Rattle.std.proofs.Math.Bool.{or-false}
use Rattle.std.proofs.lemmas.Bool.{and_right, or_right, cases_eq, ne_eqb, eq-eqb}
use Rattle.std.proofs.lemmas.List.{append-nil}
use Rattle.std.proofs.lemmas.List.Folds.{list_all-map, list_any_more}
use Rattle.std.proofs.lemmas.Option.{slice_get_within, get_or_from_slice_get}
use Rattle.tesla_base.proofs.Lists.{drop_next, first_in, next_first}
use Rattle.tesla_base.proofs.Numbered.{flat_map-flat_map, gathered_same}
use Rattle.tesla_keys.specs.Tip.{Tip}
use Rattle.tesla_fitting.specs.declared.config.Config.{Config}
use Rattle.tesla_receiver.specs.Entries.{Arrival, Entry}
use Rattle.tesla_state.specs.declared.replies.Reply.TheVariants.{Given}
use Rattle.tesla_receiver.specs.declared.packet.Packet.{Packet}
use Rattle.tesla_walks.specs.declared.release.Release.{Release}
use Rattle.tesla_state.specs.declared.report.Report.{Report}
use Rattle.tesla_fitting.specs.Config.{chains}
use Rattle.tesla_state.specs.Releases.{is_at, head_of}
use Rattle.tesla_receiver.specs.Held.{has_passed, is_settled, is_gone}
use Rattle.tesla_receiver.specs.History.{Takes, entry_of, arrivals_in, given_in, has_end, payload_of, reply_with, reply_to}
use Rattle.tesla_receiver.specs.Packets.{packet_of, released}
use Rattle.tesla_receiver.specs.Report.{report_on}
use Rattle.tesla_walks.specs.Holding.{Holding}
use Rattle.tesla_state.specs.State.{State}
use Rattle.tesla_receiver.specs.Stands.{Stands, holding_of, held_at, holdings}
use Rattle.tesla_state.specs.Steps.{is_passed, payload_held, is_numbered, payload_at, reply_for, reply_by, taken_after, with_taken, after_take}
use Rattle.tesla_receiver.specs.Tips.{tip_of}
use Rattle.tesla_receiver.proofs.Arriving.{keeps_of}
use Rattle.tesla_receiver.proofs.Batches.{TipsOf}
use Rattle.tesla_receiver.proofs.HeldAfter.{passed_same}
use Rattle.tesla_receiver.proofs.KeptState.{tips_kept}
use Rattle.tesla_receiver.proofs.Legal.{arrivals_same, given_take}
use Rattle.tesla_receiver.proofs.Once.{order_once, next_out, untaken_stays, payload_next}
use Rattle.tesla_receiver.proofs.Standing.{entered_legal, ended_same}

-- ---- the answer

ended_all : (s : State) (h : List Entry) → Stands s h → list_all (λ flag. flag) s.ended ≡ list_all (has_end h) (range_with_len 0 s.config.ingests)
ended_all s h st = ap (list_all (λ flag. flag)) st.ended ∙ list_all-map (λ flag. flag) (has_end h) (range_with_len 0 s.config.ingests)

reply_on : (s : State) (h : List Entry) (waiting : List Release) (over : Bool) → Stands s h → drop (given_in h) (released s.config (arrivals_in h)) ≡ waiting → reply_with (arrivals_in h) (given_in h) (first_in waiting) over ≡ reply_for s waiting over
reply_on s h [] true st e = refl
reply_on s h [] false st e = refl
reply_on s h (r ∷ rest) over st e =
    let next : slice_get (released s.config (arrivals_in h)) (given_in h) ≡ Some r = next_first (released s.config (arrivals_in h)) (given_in h) ∙ ap first_in e in
    let payload : payload_of (slice_get (arrivals_in h) r.place) ≡ payload_at s r.place = sym (payload_next s.config (arrivals_in h) (given_in h) r next) ∙ ap (λ hs. payload_held (find (is_numbered r.place) hs)) (sym st.held) in
    let count : given_in h ≡ s.counts.given = sym (ap (λ (c : Report). c.given) st.counts) in
    ap (λ (p : List ℕ). Given (head_of (given_in h) r p) p) payload ∙ ap (λ (g : ℕ). Given (head_of g r (payload_at s r.place)) (payload_at s r.place)) count

-- the answer to a take by what a receiver keeps is the one by the history
pub reply_same : (s : State) (h : List Entry) → Stands s h → reply_to s.config h ≡ reply_by s
unfolding reply_to
reply_same s h st =
    ap (λ o. reply_with (arrivals_in h) (given_in h) o (list_all (has_end h) (range_with_len 0 s.config.ingests))) (next_first (released s.config (arrivals_in h)) (given_in h))
    ∙ ap (λ w. reply_with (arrivals_in h) (given_in h) (first_in w) (list_all (has_end h) (range_with_len 0 s.config.ingests))) (sym st.waiting)
    ∙ reply_on s h s.waiting (list_all (has_end h) (range_with_len 0 s.config.ingests)) st (sym st.waiting)
    ∙ ap (reply_for s s.waiting) (sym (ended_all s h st))

-- ---- the packets that are held after a take

untouched : (cfg : Config) (tips : List Tip) (order : ℕ) (item : Holding) (gone : Bool) → (item.order == order) ≡ false → cond gone [] (item ∷ []) ≡ flat_map (taken_after cfg tips order) (cond gone [] (item ∷ []))
untouched cfg tips order item true other = refl
untouched cfg tips order item false other = ap (λ b. cond b (cond (list_all (is_passed tips item.name.interval) (chains cfg)) [] (record item { taken = true } ∷ [])) (item ∷ []) ++ []) (sym other)

-- a packet, by whether it was taken
abbrev at_taken : Config → List Arrival → ℕ → ℕ → Packet → Bool → List Holding
at_taken cfg xs given order packet taken =
    cond (is_settled cfg xs order packet && not (list_any (is_at order) (released cfg xs)) || taken && list_all (has_passed cfg xs packet.frame.name.interval) (chains cfg)) [] (record (holding_of cfg xs given order packet) { taken = taken } ∷ [])

released_gone : (settled out passed : Bool) → out ≡ true → (settled && not out || true && passed) ≡ passed
released_gone settled true passed e = ap (λ b. b || passed) (and_right settled false refl)
released_gone settled false passed e = absurd (cc)

module _ (cfg : Config) (xs : List Arrival) (given : ℕ) (tips : List Tip) (newer : TipsOf cfg xs tips) (r : Release) (next : slice_get (released cfg xs) given ≡ Some r) where
  taken_now : (order : ℕ) → list_any (is_at order) (take (given + 1) (released cfg xs)) ≡ (list_any (is_at order) (take given (released cfg xs)) || r.place == order)
  taken_now order =
      list_any_more (is_at order) (released cfg xs) given r (slice_get_within (released cfg xs) given r next)
      ∙ ap (λ (x : Release). list_any (is_at order) (take given (released cfg xs)) || x.place == order) (get_or_from_slice_get (released cfg xs) given r r next)

  other_after : (order : ℕ) (packet : Packet) → (order ≡ r.place → ⊥) → held_at cfg xs (given + 1) order (Some packet) ≡ flat_map (taken_after cfg tips r.place) (held_at cfg xs given order (Some packet))
  other_after order packet other =
      let same : list_any (is_at order) (take (given + 1) (released cfg xs)) ≡ list_any (is_at order) (take given (released cfg xs)) =
      taken_now order ∙ ap (λ b. list_any (is_at order) (take given (released cfg xs)) || b) (ne_eqb r.place order (λ e. other (sym e))) ∙ or-false (list_any (is_at order) (take given (released cfg xs))) in
      ap (at_taken cfg xs given order packet) same
      ∙ untouched cfg tips r.place (holding_of cfg xs given order packet) (is_gone cfg xs given order packet) (ne_eqb order r.place other)

  next_after : (packet : Packet) → held_at cfg xs (given + 1) r.place (Some packet) ≡ flat_map (taken_after cfg tips r.place) (held_at cfg xs given r.place (Some packet))
  next_after packet =
      let order : ℕ = r.place in
      let item : Holding = holding_of cfg xs given order packet in
      let out = next_out cfg xs given r next in
      let stays = untaken_stays cfg xs given order packet out (order_once cfg xs given r next) in
      let now : list_any (is_at order) (take (given + 1) (released cfg xs)) ≡ true = taken_now order ∙ or_right (list_any (is_at order) (take given (released cfg xs))) (order == order) (eq-eqb order order refl) in
      ap (at_taken cfg xs given order packet) now
      ∙ ap (λ b. cond b [] (record item { taken = true } ∷ []))
      (released_gone (is_settled cfg xs order packet) (list_any (is_at order) (released cfg xs)) (list_all (has_passed cfg xs packet.frame.name.interval) (chains cfg)) out
      ∙ sym (passed_same cfg xs tips packet.frame.name.interval newer))
      ∙ ap (λ b. cond b (cond (list_all (is_passed tips item.name.interval) (chains cfg)) [] (record item { taken = true } ∷ [])) (item ∷ [])) (sym (eq-eqb order order refl))
      ∙ sym (append-nil (taken_after cfg tips order item))
      ∙ ap (λ b. flat_map (taken_after cfg tips order) (cond b [] (item ∷ []))) (sym stays)

  one_taken : (order : ℕ) (o : Option Packet) → held_at cfg xs (given + 1) order o ≡ flat_map (taken_after cfg tips r.place) (held_at cfg xs given order o)
  one_taken order None = refl
  one_taken order (Some packet) =
      ⊎_elim
      (λ e. subst (λ (p : ℕ). held_at cfg xs (given + 1) p (Some packet) ≡ flat_map (taken_after cfg tips r.place) (held_at cfg xs given p (Some packet))) (sym e) (next_after packet))
      (λ other. other_after order packet other)
      (cases_eq order r.place)

  holdings_taken : flat_map (taken_after cfg tips r.place) (holdings cfg xs given) ≡ holdings cfg xs (given + 1)
  unfolding holdings
  holdings_taken =
      flat_map-flat_map (taken_after cfg tips r.place) (λ (p : ℕ × Arrival). held_at cfg xs given p.0 (packet_of p.1)) (enumerate_from 0 xs)
      ∙ sym (gathered_same (λ (p : ℕ × Arrival). held_at cfg xs (given + 1) p.0 (packet_of p.1)) (λ (p : ℕ × Arrival). flat_map (taken_after cfg tips r.place) (held_at cfg xs given p.0 (packet_of p.1))) 0 xs (λ k x at. one_taken (0 + k) (packet_of x)))

-- ---- one take more

module _ (s : State) (h : List Entry) (st : Stands s h) (releaser : ℕ) where
  took : (given : ℕ) (held : List Holding) (waiting : List Release) (counts : Report) → given_in (h ++ entry_of s.config h (Takes releaser) ∷ []) ≡ given → held ≡ holdings s.config (arrivals_in h) given → waiting ≡ drop given (released s.config (arrivals_in h)) → counts ≡ report_on (arrivals_in h) given → Stands (record s { held = held; waiting = waiting; counts = counts; calls = s.calls + 1 }) (h ++ entry_of s.config h (Takes releaser) ∷ [])
  took given held waiting counts count held_are waiting_are counts_are =
      let cfg : Config = s.config in
      let e : Entry = entry_of cfg h (Takes releaser) in
      let arrivals : arrivals_in h ≡ arrivals_in (h ++ e ∷ []) = sym (arrivals_same h e refl) in
      let after : List Arrival = arrivals_in (h ++ e ∷ []) in
      record {
        legal = entered_legal cfg h (Takes releaser) st.legal;
        tips = st.tips ∙ ap (λ ys. map (tip_of cfg ys) (chains cfg)) arrivals;
        held = held_are ∙ ap (λ ys. holdings cfg ys given) arrivals ∙ ap (holdings cfg after) (sym count);
        waiting = waiting_are ∙ ap (λ ys. drop given (released cfg ys)) arrivals ∙ ap (λ (g : ℕ). drop g (released cfg after)) (sym count);
        ended = st.ended ∙ ended_same h e cfg.ingests (λ k. refl);
        counts = counts_are ∙ ap (λ ys. report_on ys given) arrivals ∙ ap (report_on after) (sym count);
        calls = ap (λ (n : ℕ). n + 1) st.calls ∙ sym (length-append h (e ∷ []));
      }

  waited : (waiting : List Release) → drop (given_in h) (released s.config (arrivals_in h)) ≡ waiting → Stands (with_taken s waiting) (h ++ entry_of s.config h (Takes releaser) ∷ [])
  waited [] e =
      let none : slice_get (released s.config (arrivals_in h)) (given_in h) ≡ None = next_first (released s.config (arrivals_in h)) (given_in h) ∙ ap first_in e in
      took (given_in h) s.held s.waiting s.counts
      (given_take s.config h releaser ∙ ap (λ (o : Option Release). given_in h + cond (is_some o) 1 0) none ∙ add-zero (given_in h))
      st.held st.waiting st.counts
  waited (r ∷ rest) e =
      let next : slice_get (released s.config (arrivals_in h)) (given_in h) ≡ Some r = next_first (released s.config (arrivals_in h)) (given_in h) ∙ ap first_in e in
      took (given_in h + 1) (flat_map (taken_after s.config s.tips r.place) s.held) rest (record s.counts { given = s.counts.given + 1 })
      (given_take s.config h releaser ∙ ap (λ (o : Option Release). given_in h + cond (is_some o) 1 0) next)
      (ap (flat_map (taken_after s.config s.tips r.place)) st.held ∙ holdings_taken s.config (arrivals_in h) (given_in h) s.tips (tips_kept s (arrivals_in h) (given_in h) (keeps_of s h st)) r next)
      (sym (drop_next (released s.config (arrivals_in h)) (given_in h) r rest e))
      (ap (λ (c : Report). record c { given = c.given + 1 }) st.counts)

-- what is kept after a take stands for the history with it
pub stands_took : (s : State) (h : List Entry) → Stands s h → (releaser : ℕ) → Stands (after_take s) (h ++ entry_of s.config h (Takes releaser) ∷ [])
unfolding after_take
stands_took s h st releaser = waited s h st releaser s.waiting (sym st.waiting)
