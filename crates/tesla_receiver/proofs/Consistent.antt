-- Every state that stands for a history is consistent.
use Rattle.std.proofs.Common.{◌≡◌, ℕ, zero, suc, ◌+◌, ◌<◌, ◌≤◌, Bool, true, false, cond, List, [], ◌∷◌, ◌++◌, length, take, drop, flat_map, count_by, Option, Some, None, refl, sym, ap, subst, ⊎_elim, ◌∙◌, arith}
use Rattle.std.specs.Prelude.{not, filter, slice_get}
use Rattle.std.specs.List.{list_any, enumerate_from}
use Rattle.std.proofs.lemmas.Bool.{or_cases, cases_order, both_ways, not-true, not_from_false, false_from_ne_true, eq-eqb, eqb-true, ne_eqb}
use Rattle.std.proofs.lemmas.List.FromFn.{length-map-range_with_len}
use Rattle.std.proofs.lemmas.Map.Views.{any-filter_same}
use Rattle.std.proofs.lemmas.Option.{same_Some, slice_get_within}
use Rattle.tesla_base.specs.declared.names.Name.{Name}
use Rattle.tesla_base.proofs.Lists.{from_drop}
use Rattle.tesla_base.proofs.Filtered.{fails_fewer, found_filtered}
use Rattle.tesla_base.proofs.Numbered.{each_gathered}
use Rattle.tesla_base.proofs.Passing.{any_before, any_further, any_taken, passes_at, passes_somewhere}
use Rattle.tesla_fitting.specs.declared.config.Config.{Config}
use Rattle.tesla_receiver.specs.Entries.{Arrival, Entry}
use Rattle.tesla_receiver.specs.declared.packet.Packet.{Packet}
use Rattle.tesla_walks.specs.declared.release.Release.{Release}
use Rattle.tesla_state.specs.declared.report.Report.{Report}
use Rattle.tesla_receiver.specs.Consistent.{RisesFrom, IsWaiting, IsCounted, IsConsistent}
use Rattle.tesla_state.specs.Releases.{is_at, has_name}
use Rattle.tesla_receiver.specs.Held.{is_gone, held_of}
use Rattle.tesla_receiver.specs.History.{arrivals_in, given_in, has_end}
use Rattle.tesla_receiver.specs.Packets.{packet_of, released}
use Rattle.tesla_walks.specs.Holding.{Holding}
use Rattle.tesla_state.specs.State.{State}
use Rattle.tesla_receiver.specs.Stands.{Stands, holding_of, held_at, holdings}
use Rattle.tesla_state.specs.Steps.{in_interval, is_let_go, is_released, is_numbered}
use Rattle.tesla_receiver.specs.Tips.{tip_of}
use Rattle.tesla_receiver.proofs.Arriving.{keeps_of}
use Rattle.tesla_receiver.proofs.Counts.{report_sum, entered_few}
use Rattle.tesla_receiver.proofs.Gone.{Brought, is_called, called_same}
use Rattle.tesla_state.proofs.Named.{same_name}
use Rattle.tesla_receiver.proofs.Judged.{held_all, held_interval}
use Rattle.tesla_receiver.proofs.KeptState.{none_let_go}
use Rattle.tesla_receiver.proofs.Limits.{capacity_kept, quota_kept}
use Rattle.tesla_receiver.proofs.Once.{released_once, all_called, order_once, next_out, untaken_stays, found_held}
use Rattle.tesla_receiver.proofs.Owners.{owned_at}

-- ---- the packets in order

rises_less : (n m : ℕ) (held : List Holding) → n ≤ m → RisesFrom m held → RisesFrom n held
rises_less n m [] less r = tt
rises_less n m (item ∷ held) less r = let first = r.0 in (omega (arith, first), r.1)

rises_if : (m : ℕ) (item : Holding) (rest : List Holding) (gone : Bool) → item.order ≡ m → RisesFrom (m + 1) rest → RisesFrom m (cond gone [] (item ∷ []) ++ rest)
rises_if m item rest true e r = rises_less m (m + 1) rest (omega arith) r
rises_if m item rest false e r = (omega (arith, e), subst (λ (n : ℕ). RisesFrom (n + 1) rest) (sym e) r)

rises_at : (cfg : Config) (xs : List Arrival) (given m : ℕ) (o : Option Packet) (rest : List Holding) → RisesFrom (m + 1) rest → RisesFrom m (held_at cfg xs given m o ++ rest)
rises_at cfg xs given m None rest r = rises_less m (m + 1) rest (omega arith) r
rises_at cfg xs given m (Some packet) rest r = rises_if m (holding_of cfg xs given m packet) rest (is_gone cfg xs given m packet) refl r

rises_along : (cfg : Config) (all : List Arrival) (given m : ℕ) (xs : List Arrival) → RisesFrom m (flat_map (λ (p : ℕ × Arrival). held_at cfg all given p.0 (packet_of p.1)) (enumerate_from m xs))
rises_along cfg all given m [] = tt
rises_along cfg all given m (x ∷ xs) = rises_at cfg all given m (packet_of x) (flat_map (λ (p : ℕ × Arrival). held_at cfg all given p.0 (packet_of p.1)) (enumerate_from (m + 1) xs)) (rises_along cfg all given (m + 1) xs)

holdings_rise : (cfg : Config) (xs : List Arrival) (given : ℕ) → RisesFrom 0 (holdings cfg xs given)
unfolding holdings
holdings_rise cfg xs given = rises_along cfg xs given 0 xs

rises_above : (n : ℕ) (held : List Holding) (k : ℕ) (item : Holding) → RisesFrom n held → slice_get held k ≡ Some item → n ≤ item.order
rises_above n [] k item r at = absurd (cc)
rises_above n (x ∷ held) zero item r at = let first = r.0 in subst (λ (i : Holding). n ≤ i.order) (same_Some x item at) first
rises_above n (x ∷ held) (suc k) item r at = let rest = rises_above (x.order + 1) held k item r.1 at in let first = r.0 in omega (arith, rest, first)

-- two packets of one number are one
pub one_order : (n : ℕ) (held : List Holding) (j k : ℕ) (a b : Holding) → RisesFrom n held → slice_get held j ≡ Some a → slice_get held k ≡ Some b → a.order ≡ b.order → j ≡ k
one_order n [] j k a b r at there same = absurd (cc)
one_order n (x ∷ held) zero zero a b r at there same = refl
one_order n (x ∷ held) zero (suc k) a b r at there same =
    let above = rises_above (x.order + 1) held k b r.1 there in
    let first : x.order ≡ a.order = ap (λ (i : Holding). i.order) (same_Some x a at) in
    absurd (omega (arith, above, first, same))
one_order n (x ∷ held) (suc j) zero a b r at there same =
    let above = rises_above (x.order + 1) held j a r.1 at in
    let first : x.order ≡ b.order = ap (λ (i : Holding). i.order) (same_Some x b there) in
    absurd (omega (arith, above, first, same))
one_order n (x ∷ held) (suc j) (suc k) a b r at there same = ap suc (one_order (x.order + 1) held j k a b r.1 at there same)

-- ---- where a held packet comes from

pub record HeldFrom (cfg : Config) (xs : List Arrival) (given : ℕ) (item : Holding) : Type 0 where
  pub packet : Packet
  pub brought : Brought xs item.order packet
  pub stays : is_gone cfg xs given item.order packet ≡ false
  pub same : item ≡ holding_of cfg xs given item.order packet

held_if : (made : Holding) (gone : Bool) (i : ℕ) (item : Holding) → slice_get (cond gone [] (made ∷ [])) i ≡ Some item → (gone ≡ false) × (made ≡ item)
held_if made true i item at = absurd (cc)
held_if made false zero item at = (refl, same_Some made item at)
held_if made false (suc i) item at = absurd (cc)

from_at : (cfg : Config) (xs : List Arrival) (given order : ℕ) (x : Arrival) (o : Option Packet) → slice_get xs order ≡ Some x → packet_of x ≡ o → (i : ℕ) (item : Holding) → slice_get (held_at cfg xs given order o) i ≡ Some item → HeldFrom cfg xs given item
from_at cfg xs given order x None at kept i item there = absurd (cc)
from_at cfg xs given order x (Some packet) at kept i item there =
    let parts = held_if (holding_of cfg xs given order packet) (is_gone cfg xs given order packet) i item there in
    subst (λ (h : Holding). HeldFrom cfg xs given h) parts.1 (record { packet = packet; brought = record { arrival = x; at = at; kept = kept }; stays = parts.0; same = refl })

pub held_from : (cfg : Config) (xs : List Arrival) (given : ℕ) (i : ℕ) (item : Holding) → slice_get (holdings cfg xs given) i ≡ Some item → HeldFrom cfg xs given item
unfolding holdings
held_from cfg xs given i item at =
    each_gathered (HeldFrom cfg xs given) (λ (p : ℕ × Arrival). held_at cfg xs given p.0 (packet_of p.1)) 0 xs
    (λ k x there j b here. let count : k ≡ 0 + k = omega arith in from_at cfg xs given (0 + k) x (packet_of x) (ap (slice_get xs) (sym count) ∙ there) refl j b here) i item at

-- ---- each release once

named_apart : (cfg : Config) (xs : List Arrival) (j k : ℕ) (a b : Release) → slice_get (released cfg xs) j ≡ Some a → slice_get (released cfg xs) k ≡ Some b → a.name ≡ b.name → j < k → ⊥
named_apart cfg xs j k a b at there same less =
    both_ways (list_any (has_name b.name) (take k (released cfg xs))) (released_once cfg xs k b there)
    (any_before (has_name b.name) (released cfg xs) j k a less at (called_same 0 0 b.name a same))

-- two releases of one name are one
pub name_unique : (cfg : Config) (xs : List Arrival) (j k : ℕ) (a b : Release) → slice_get (released cfg xs) j ≡ Some a → slice_get (released cfg xs) k ≡ Some b → a.name ≡ b.name → j ≡ k
name_unique cfg xs j k a b at there same =
    ⊎_elim (λ e. e)
    (λ other. ⊎_elim (λ less. absurd (named_apart cfg xs j k a b at there same less)) (λ less. absurd (named_apart cfg xs k j b a there at (sym same) less)) other)
    (cases_order j k)

orders_apart : (cfg : Config) (xs : List Arrival) (j k : ℕ) (a b : Release) → slice_get (released cfg xs) j ≡ Some a → slice_get (released cfg xs) k ≡ Some b → a.place ≡ b.place → j < k → ⊥
orders_apart cfg xs j k a b at there same less =
    both_ways (list_any (is_at b.place) (take k (released cfg xs))) (order_once cfg xs k b there)
    (any_before (is_at b.place) (released cfg xs) j k a less at (eq-eqb a.place b.place same))

-- two releases of one packet are one
pub order_unique : (cfg : Config) (xs : List Arrival) (j k : ℕ) (a b : Release) → slice_get (released cfg xs) j ≡ Some a → slice_get (released cfg xs) k ≡ Some b → a.place ≡ b.place → j ≡ k
order_unique cfg xs j k a b at there same =
    ⊎_elim (λ e. e)
    (λ other. ⊎_elim (λ less. absurd (orders_apart cfg xs j k a b at there same less)) (λ less. absurd (orders_apart cfg xs k j b a there at (sym same) less)) other)
    (cases_order j k)

-- ---- released packets that are held

record ReleaseOf (cfg : Config) (xs : List Arrival) (item : Holding) : Type 0 where
  index : ℕ
  release : Release
  at : slice_get (released cfg xs) index ≡ Some release
  place : release.place ≡ item.order
  name : release.name ≡ item.name

called_name : (order : ℕ) (name : Name) (release : Release) → is_at order release ≡ true → is_called order name release ≡ true → release.name ≡ name
called_name order name release here h =
    ⊎_elim
    (λ e. absurd (both_ways (is_at order release) (not-true (is_at order release) e) here))
    (λ e. same_name name release e)
    (or_cases (not (is_at order release)) (has_name name release) h)

release_of_held : (cfg : Config) (xs : List Arrival) (given : ℕ) (item : Holding) → HeldFrom cfg xs given item → item.released ≡ true → ReleaseOf cfg xs item
release_of_held cfg xs given item from out =
    let here : list_any (is_at item.order) (released cfg xs) ≡ true = sym (ap (λ (i : Holding). i.released) from.same) ∙ out in
    let found = passes_somewhere (is_at item.order) (released cfg xs) here in
    let called = passes_at (is_called item.order from.packet.frame.name) (released cfg xs) found.place found.element (all_called cfg xs item.order from.packet from.brought) found.at in
    record {
      index = found.place;
      release = found.element;
      at = found.at;
      place = eqb-true found.element.place item.order found.passes;
      name = called_name item.order from.packet.frame.name found.element found.passes called ∙ sym (ap (λ (i : Holding). i.name) from.same);
    }

same_order : (cfg : Config) (xs : List Arrival) (given : ℕ) (a b : Holding) → HeldFrom cfg xs given a → HeldFrom cfg xs given b → a.released ≡ true → b.released ≡ true → a.name ≡ b.name → a.order ≡ b.order
same_order cfg xs given a b from_a from_b out_a out_b same =
    let ra = release_of_held cfg xs given a from_a out_a in
    let rb = release_of_held cfg xs given b from_b out_b in
    let one : ra.index ≡ rb.index = name_unique cfg xs ra.index rb.index ra.release rb.release ra.at rb.at (ra.name ∙ same ∙ sym rb.name) in
    let equal : ra.release ≡ rb.release = same_Some ra.release rb.release (sym ra.at ∙ ap (slice_get (released cfg xs)) one ∙ rb.at) in
    sym ra.place ∙ ap (λ (r : Release). r.place) equal ∙ rb.place

-- ---- what waits

waits_from : (cfg : Config) (xs : List Arrival) (given k : ℕ) (r : Release) → slice_get (drop given (released cfg xs)) k ≡ Some r → slice_get (released cfg xs) (given + k) ≡ Some r
waits_from cfg xs given k r at = sym (from_drop (released cfg xs) given k) ∙ at

pub is_waiting : (cfg : Config) (xs : List Arrival) (given k : ℕ) (r : Release) → slice_get (released cfg xs) (given + k) ≡ Some r → IsWaiting (holdings cfg xs given) r
is_waiting cfg xs given k r at =
    let owned = owned_at cfg xs (given + k) r at in
    let out = next_out cfg xs (given + k) r at in
    let untaken : list_any (is_at r.place) (take given (released cfg xs)) ≡ false =
    false_from_ne_true (list_any (is_at r.place) (take given (released cfg xs))) (λ e. both_ways (list_any (is_at r.place) (take (given + k) (released cfg xs))) (order_once cfg xs (given + k) r at) (any_further (is_at r.place) (released cfg xs) given k e)) in
    record {
      item = holding_of cfg xs given r.place owned.packet;
      found = found_held cfg xs given r.place owned.packet owned.brought (untaken_stays cfg xs given r.place owned.packet out untaken);
      name = owned.name;
      released = out;
      taken = untaken;
    }

-- releases of different numbers that all stand in a list are no more than its elements
all_numbered : (rs : List Release) (held : List Holding) → ((k : ℕ) (r : Release) → slice_get rs k ≡ Some r → list_any (is_numbered r.place) held ≡ true) → ((j k : ℕ) (a b : Release) → slice_get rs j ≡ Some a → slice_get rs k ≡ Some b → a.place ≡ b.place → j ≡ k) → length rs ≤ length held
all_numbered [] held stand apart = omega arith
all_numbered (r ∷ rs) held stand apart =
    let others : List Holding = filter (λ item. not (is_numbered r.place item)) held in
    let fewer = fails_fewer (is_numbered r.place) held (stand 0 r refl) in
    let rest = all_numbered rs others
    (λ k q at. any-filter_same (is_numbered q.place) (λ item. not (is_numbered r.place item)) true
    (λ item e. not_from_false (is_numbered r.place item) (ne_eqb item.order r.place (λ same. let clash : 0 ≡ suc k = apart 0 (suc k) r q refl at (sym same ∙ eqb-true item.order q.place e) in omega (arith, clash)))) held
    ∙ stand (suc k) q at)
    (λ j k a b at there same. let one : suc j ≡ suc k = apart (suc j) (suc k) a b at there same in omega (arith, one)) in
    omega (arith, fewer, rest)

-- ---- all of it

pub consistent : (s : State) (h : List Entry) → Stands s h → IsConsistent s
consistent s h st =
    let cfg : Config = s.config in
    let xs : List Arrival = arrivals_in h in
    let given : ℕ = given_in h in
    let from : (k : ℕ) (item : Holding) → slice_get s.held k ≡ Some item → HeldFrom cfg xs given item = λ k item at. held_from cfg xs given k item (ap (λ hs. slice_get hs k) (sym st.held) ∙ at) in
    let rise : RisesFrom 0 s.held = subst (λ (hs : List Holding). RisesFrom 0 hs) (sym st.held) (holdings_rise cfg xs given) in
    let released_at : (k : ℕ) (r : Release) → slice_get s.waiting k ≡ Some r → slice_get (released cfg xs) (given + k) ≡ Some r = λ k r at. waits_from cfg xs given k r (ap (λ w. slice_get w k) (sym st.waiting) ∙ at) in
    let waits : (k : ℕ) (r : Release) → slice_get s.waiting k ≡ Some r → IsWaiting s.held r = λ k r at. subst (λ (hs : List Holding). IsWaiting hs r) (sym st.held) (is_waiting cfg xs given k r (released_at k r at)) in
    let apart : (j k : ℕ) (a b : Release) → slice_get s.waiting j ≡ Some a → slice_get s.waiting k ≡ Some b → a.place ≡ b.place → j ≡ k =
    λ j k a b at there same. (let one : given + j ≡ given + k = order_unique cfg xs (given + j) (given + k) a b (released_at j a at) (released_at k b there) same in omega (arith, one)) in
    let held_few : held_of cfg xs given None ≤ cfg.capacity = capacity_kept cfg h st.legal in
    let held_count : length s.held ≡ held_of cfg xs given None = ap length st.held ∙ held_all cfg xs given in
    record {
      tips = ap length st.tips ∙ length-map-range_with_len (tip_of cfg xs) 0 (length cfg.setup.rows);
      ended = ap length st.ended ∙ length-map-range_with_len (has_end h) 0 cfg.ingests;
      counted = subst (λ (c : Report). IsCounted c) (sym st.counts) (report_sum xs given);
      entered = (let all = entered_few h in
          let count : s.counts.arrivals ≡ length xs = ap (λ (c : Report). c.arrivals) st.counts in
          let gave : s.counts.given ≡ given = ap (λ (c : Report). c.given) st.counts in
          let calls = st.calls in omega (arith, all, count, gave, calls));
      few = omega (arith, held_few, held_count);
      quota = λ interval. (let own_few : held_of cfg xs given (Some interval) ≤ cfg.quota = quota_kept cfg h st.legal interval in
          let own_count : count_by (in_interval interval) s.held ≡ held_of cfg xs given (Some interval) = ap (count_by (in_interval interval)) st.held ∙ held_interval cfg xs given interval in
          omega (arith, own_few, own_count));
      rise = rise;
      numbered = λ k item at. (let below = slice_get_within xs item.order (from k item at).brought.arrival (from k item at).brought.at in
          let count : s.counts.arrivals ≡ length xs = ap (λ (c : Report). c.arrivals) st.counts in omega (arith, below, count));
      stays = λ k item at. not-true (is_let_go cfg s.tips [] item) (passes_at (λ i. not (is_let_go cfg s.tips [] i)) s.held k item (none_let_go s xs given (keeps_of s h st)) at);
      taken = λ k item at e. (let same = (from k item at).same in ap (λ (i : Holding). i.released) same ∙ any_taken (is_at item.order) given (released cfg xs) (sym (ap (λ (i : Holding). i.taken) same) ∙ e));
      names = λ j k a b at there out_a out_b same. one_order 0 s.held j k a b rise at there (same_order cfg xs given a b (from j a at) (from k b there) out_a out_b same);
      waiting = waits;
      once = apart;
      few_waiting = all_numbered s.waiting (filter is_released s.held) (λ k r at. (let w = waits k r at in found_filtered (is_numbered r.place) is_released s.held w.item w.found w.released)) apart;
    }
