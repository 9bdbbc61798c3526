-- The packets that are held with one arrival more.
use Rattle.std.proofs.Common.{◌≡◌, ℕ, ◌+◌, ◌<◌, ◌≤◌, Bool, true, false, cond, ◌&&◌, ◌||◌, List, [], ◌∷◌, ◌++◌, length, take, flat_map, Option, Some, None, refl, sym, ap, subst, ⊎_elim, ◌∙◌, arith, ◌==◌}
use Rattle.std.specs.Prelude.{not, slice_get, nat_lt, nat_le, find}
use Rattle.std.specs.List.{list_any, list_all, enumerate_from}
use Rattle.std.proofs.Math.Bool.{or-false}
use Rattle.std.proofs.lemmas.Bool.{and_left, and_right, and_cases, or_parts, or_from, cases_Bool, not_from_true, not_from_false, both_ways, ltb-true, lt-leb, ne_eqb}
use Rattle.std.proofs.lemmas.List.{append-nil, take-append-le}
use Rattle.std.proofs.lemmas.List.Concat.{flat_map-append}
use Rattle.std.proofs.lemmas.List.Folds.{list_any-append}
use Rattle.tesla_base.proofs.Lists.{enumerate_from-append, list_all_both, list_all_weaker, list_all-take, not_all_numbers}
use Rattle.tesla_base.proofs.Below.{all_below}
use Rattle.tesla_base.proofs.Numbered.{any_at, flat_map-flat_map, gathered_same}
use Rattle.tesla_base.proofs.Passing.{none_passes}
use Rattle.tesla_clock.specs.Safe.{has_chain}
use Rattle.tesla_frame.specs.declared.row.KeyRow.{KeyRow}
use Rattle.tesla_frame.specs.Frame.{DataFrame}
use Rattle.tesla_keys.specs.Tip.{Tip}
use Rattle.tesla_fitting.specs.declared.config.Config.{Config}
use Rattle.tesla_receiver.specs.Entries.{Arrival}
use Rattle.tesla_receiver.specs.declared.packet.Packet.{Packet}
use Rattle.tesla_walks.specs.declared.release.Release.{Release}
use Rattle.tesla_fitting.specs.Config.{chains}
use Rattle.tesla_state.specs.Releases.{is_at, each_after, unless_named}
use Rattle.tesla_receiver.specs.Held.{has_passed, is_past, is_settled, is_gone}
use Rattle.tesla_receiver.specs.Keys.{newest, new_keys}
use Rattle.tesla_receiver.specs.Packets.{packet_of, proves, release_on, release_of, proved_by, batch, candidates, released}
use Rattle.tesla_walks.specs.Holding.{Holding}
use Rattle.tesla_receiver.specs.Stands.{holding_of, held_at, holdings}
use Rattle.tesla_walks.specs.Proved.{proves_on, released_on, proof_of}
use Rattle.tesla_state.specs.Steps.{batch_of, released_of, is_passed, is_over, is_let_go, marked, kept_after}
use Rattle.tesla_receiver.proofs.Batches.{TipsOf, proof_held, released_by}
use Rattle.tesla_receiver.proofs.EachAfter.{each_after-append, each_after_more}
use Rattle.tesla_receiver.proofs.Gone.{Brought, gone_stays}
use Rattle.tesla_receiver.proofs.ArrivalOrders.{is_below, proved_below, candidates_below, firsts_pass}

-- ---- what is proved and released with one arrival more

pub candidates_grow : (cfg : Config) (xs : List Arrival) (a : Arrival) → candidates cfg (xs ++ a ∷ []) ≡ candidates cfg xs ++ batch cfg xs a
unfolding candidates
candidates_grow cfg xs a = each_after_more (batch cfg) xs a

pub released_grow : (cfg : Config) (xs : List Arrival) (a : Arrival) → released cfg (xs ++ a ∷ []) ≡ released cfg xs ++ each_after unless_named (candidates cfg xs) (batch cfg xs a)
unfolding released
released_grow cfg xs a = ap (each_after unless_named []) (candidates_grow cfg xs a) ∙ each_after-append unless_named [] (candidates cfg xs) (batch cfg xs a)

-- ---- releases of one place

on_other : (order j : ℕ) (f : DataFrame) (o : Option ℕ) → (j ≡ order → ⊥) → list_any (is_at order) (release_on j f o) ≡ false
on_other order j f None other = refl
on_other order j f (Some chain) other = or-false (j == order) ∙ ne_eqb j order other

of_other : (cfg : Config) (xs : List Arrival) (new : List KeyRow) (order j : ℕ) (o : Option Packet) → (j ≡ order → ⊥) → list_any (is_at order) (release_of cfg xs new j o) ≡ false
of_other cfg xs new order j None other = refl
of_other cfg xs new order j (Some packet) other = on_other order j packet.frame (find (proves cfg xs new packet) (chains cfg)) other

released_other : (order : ℕ) (item : Holding) (o : Option ℕ) → (item.order ≡ order → ⊥) → list_any (is_at order) (released_on item o) ≡ false
released_other order item None other = refl
released_other order item (Some chain) other = or-false (item.order == order) ∙ ne_eqb item.order order other

unless_other : (order : ℕ) (item : Holding) (o : Option ℕ) (b : Bool) → (item.order ≡ order → ⊥) → list_any (is_at order) (cond b [] (released_on item o)) ≡ false
unless_other order item o true other = refl
unless_other order item o false other = released_other order item o other

if_other : (cfg : Config) (tips : List Tip) (new : List KeyRow) (order : ℕ) (item : Holding) (gone : Bool) → (item.order ≡ order → ⊥) → list_any (is_at order) (flat_map (proof_of cfg tips new) (cond gone [] (item ∷ []))) ≡ false
if_other cfg tips new order item true other = refl
if_other cfg tips new order item false other =
    ap (list_any (is_at order)) (append-nil (proof_of cfg tips new item)) ∙ unless_other order item (find (proves_on cfg tips new item) (chains cfg)) item.released other

held_other : (cfg : Config) (xs : List Arrival) (given : ℕ) (tips : List Tip) (new : List KeyRow) (order j : ℕ) (o : Option Packet) → (j ≡ order → ⊥) → list_any (is_at order) (flat_map (proof_of cfg tips new) (held_at cfg xs given j o)) ≡ false
held_other cfg xs given tips new order j None other = refl
held_other cfg xs given tips new order j (Some packet) other = if_other cfg tips new order (holding_of cfg xs given j packet) (is_gone cfg xs given j packet) other

proved_here : (cfg : Config) (xs : List Arrival) (new : List KeyRow) (order : ℕ) (packet : Packet) → Brought xs order packet → list_any (is_at order) (proved_by cfg xs new) ≡ list_any (is_at order) (release_of cfg xs new order (Some packet))
proved_here cfg xs new order packet brought =
    let count : 0 + order ≡ order = omega arith in
    any_at (is_at order) (λ (p : ℕ × Arrival). release_of cfg xs new p.0 (packet_of p.1)) 0 xs order brought.arrival brought.at (λ j y other. of_other cfg xs new order j (packet_of y) (λ e. other (e ∙ sym count)))
    ∙ ap (λ (n : ℕ). list_any (is_at order) (release_of cfg xs new n (packet_of brought.arrival))) count ∙ ap (λ o. list_any (is_at order) (release_of cfg xs new order o)) brought.kept

batch_here : (cfg : Config) (xs : List Arrival) (given : ℕ) (tips : List Tip) (new : List KeyRow) (order : ℕ) (packet : Packet) → Brought xs order packet → is_gone cfg xs given order packet ≡ false → list_any (is_at order) (batch_of cfg tips new (holdings cfg xs given)) ≡ list_any (is_at order) (proof_of cfg tips new (holding_of cfg xs given order packet))
unfolding holdings
batch_here cfg xs given tips new order packet brought stays =
    let count : 0 + order ≡ order = omega arith in
    ap (list_any (is_at order)) (flat_map-flat_map (proof_of cfg tips new) (λ (p : ℕ × Arrival). held_at cfg xs given p.0 (packet_of p.1)) (enumerate_from 0 xs))
    ∙ any_at (is_at order) (λ (p : ℕ × Arrival). flat_map (proof_of cfg tips new) (held_at cfg xs given p.0 (packet_of p.1))) 0 xs order brought.arrival brought.at (λ j y other. held_other cfg xs given tips new order j (packet_of y) (λ e. other (e ∙ sym count)))
    ∙ ap (λ (n : ℕ). list_any (is_at order) (flat_map (proof_of cfg tips new) (held_at cfg xs given n (packet_of brought.arrival)))) count
    ∙ ap (λ o. list_any (is_at order) (flat_map (proof_of cfg tips new) (held_at cfg xs given order o))) brought.kept
    ∙ ap (λ b. list_any (is_at order) (flat_map (proof_of cfg tips new) (cond b [] (holding_of cfg xs given order packet ∷ [])))) stays
    ∙ ap (list_any (is_at order)) (append-nil (proof_of cfg tips new (holding_of cfg xs given order packet)))

-- ---- tests

left_same : (x y r : Bool) → (r ≡ false → x ≡ y) → (x && not r) ≡ (y && not r)
left_same x y true same = and_right x false refl ∙ sym (and_right y false refl)
left_same x y false same = ap (λ b. b && true) (same refl)

-- a packet that isn't gone nor released wasn't proved
unproved : (c p r t : Bool) → ((c || p) && not r || t) ≡ false → r ≡ false → c ≡ false
unproved c p r t stays waits =
    ⊎_elim
    (λ e. (or_parts c p e).0)
    (λ e. absurd (both_ways (not r) e (not_from_false r waits)))
    (and_cases (c || p) (not r) ((or_parts ((c || p) && not r) t stays).0))

-- ---- chains, by the newest keys

pub over_same : (cfg : Config) (xs : List Arrival) (tips : List Tip) (packet : Packet) (item : Holding) → TipsOf cfg xs tips → item.name ≡ packet.frame.name → item.chains ≡ packet.chains → list_all (is_over tips item) (chains cfg) ≡ list_all (is_past cfg xs packet) (chains cfg)
over_same cfg xs tips packet item newer name set =
    all_below (is_over tips item) (is_past cfg xs packet) 0 (length cfg.setup.rows) (λ c h.
    ap (λ (n : ℕ). not (has_chain item.chains c) || nat_le item.name.interval n) (newer c (omega arith))
    ∙ ap (λ (s : ℕ). not (has_chain s c) || nat_le item.name.interval (newest cfg xs c)) set
    ∙ ap (λ (n : _). not (has_chain packet.chains c) || nat_le n.interval (newest cfg xs c)) name)

pub passed_same : (cfg : Config) (xs : List Arrival) (tips : List Tip) (interval : ℕ) → TipsOf cfg xs tips → list_all (is_passed tips interval) (chains cfg) ≡ list_all (has_passed cfg xs interval) (chains cfg)
passed_same cfg xs tips interval newer = all_below (is_passed tips interval) (has_passed cfg xs interval) 0 (length cfg.setup.rows) (λ c h. ap (nat_le interval) (newer c (omega arith)))

-- ---- one packet

module _ (cfg : Config) (xs : List Arrival) (a : Arrival) (given : ℕ) (tips after : List Tip) (newer : TipsOf cfg xs tips) (newer_after : TipsOf cfg (xs ++ a ∷ []) after) (few : given ≤ length (released cfg xs)) where
  -- what the arrival proves
  abbrev pub proved_now : List Release
  proved_now = batch_of cfg tips (new_keys cfg xs a) (holdings cfg xs given)

  -- what it releases
  abbrev pub released_now : List Release
  released_now = released_of (holdings cfg xs given) proved_now

  pub released_after : released cfg (xs ++ a ∷ []) ≡ released cfg xs ++ released_now
  released_after = released_grow cfg xs a ∙ ap (λ r. released cfg xs ++ r) (released_by cfg xs given (new_keys cfg xs a) tips newer)

  taken_after : take given (released cfg (xs ++ a ∷ [])) ≡ take given (released cfg xs)
  taken_after = ap (take given) released_after ∙ take-append-le given (released cfg xs) released_now few

  holding_after : (order : ℕ) (packet : Packet) → holding_of cfg (xs ++ a ∷ []) given order packet ≡ marked released_now (holding_of cfg xs given order packet)
  holding_after order packet =
      ap (λ rs. record (holding_of cfg (xs ++ a ∷ []) given order packet) { taken = list_any (is_at order) rs }) taken_after
      ∙ ap (λ b. record (holding_of cfg xs given order packet) { released = b }) (ap (list_any (is_at order)) released_after ∙ list_any-append (is_at order) (released cfg xs) released_now)

  -- a packet that isn't released after the arrival was proved exactly where the batch has it
  candidate_after : (order : ℕ) (packet : Packet) → Brought xs order packet → is_gone cfg xs given order packet ≡ false → list_any (is_at order) (released cfg (xs ++ a ∷ [])) ≡ false → list_any (is_at order) (candidates cfg (xs ++ a ∷ [])) ≡ list_any (is_at order) proved_now
  candidate_after order packet brought stays waits_after =
      let item : Holding = holding_of cfg xs given order packet in
      let new : List KeyRow = new_keys cfg xs a in
      let waits : list_any (is_at order) (released cfg xs) ≡ false =
      (or_parts (list_any (is_at order) (released cfg xs)) (list_any (is_at order) released_now) (sym (list_any-append (is_at order) (released cfg xs) released_now) ∙ ap (list_any (is_at order)) (sym released_after) ∙ waits_after)).0 in
      let none : list_any (is_at order) (candidates cfg xs) ≡ false =
      unproved (list_any (is_at order) (candidates cfg xs)) (list_all (is_past cfg xs packet) (chains cfg)) (list_any (is_at order) (released cfg xs)) (list_any (is_at order) (take given (released cfg xs)) && list_all (has_passed cfg xs packet.frame.name.interval) (chains cfg)) stays waits in
      ap (list_any (is_at order)) (candidates_grow cfg xs a) ∙ list_any-append (is_at order) (candidates cfg xs) (batch cfg xs a)
      ∙ ap (λ b. b || list_any (is_at order) (batch cfg xs a)) none
      ∙ proved_here cfg xs new order packet brought
      ∙ ap (list_any (is_at order)) (sym (proof_held cfg xs given new tips newer order packet waits))
      ∙ sym (batch_here cfg xs given tips new order packet brought stays)

  gone_after : (order : ℕ) (packet : Packet) → Brought xs order packet → is_gone cfg xs given order packet ≡ false → is_gone cfg (xs ++ a ∷ []) given order packet ≡ is_let_go cfg after proved_now (marked released_now (holding_of cfg xs given order packet))
  gone_after order packet brought stays =
      let all : List Arrival = xs ++ a ∷ [] in
      let item : Holding = marked released_now (holding_of cfg xs given order packet) in
      let same = holding_after order packet in
      let out : Bool = list_any (is_at order) (released cfg all) in
      let passed : list_all (has_passed cfg all packet.frame.name.interval) (chains cfg) ≡ list_all (is_passed after packet.frame.name.interval) (chains cfg) = sym (passed_same cfg all after packet.frame.name.interval newer_after) in
      let past : list_all (is_past cfg all packet) (chains cfg) ≡ list_all (is_over after item) (chains cfg) = sym (over_same cfg all after packet item newer_after refl refl) in
      let left : (is_settled cfg all order packet && not out) ≡ ((list_any (is_at order) proved_now || list_all (is_over after item) (chains cfg)) && not out) =
      left_same (is_settled cfg all order packet) (list_any (is_at order) proved_now || list_all (is_over after item) (chains cfg)) out
      (λ waits. ap (λ b. b || list_all (is_past cfg all packet) (chains cfg)) (candidate_after order packet brought stays waits) ∙ ap (λ b. list_any (is_at order) proved_now || b) past) in
      ap (λ b. b || list_any (is_at order) (take given (released cfg all)) && list_all (has_passed cfg all packet.frame.name.interval) (chains cfg)) left
      ∙ ap (λ b. (list_any (is_at order) proved_now || list_all (is_over after item) (chains cfg)) && not out || list_any (is_at order) (take given (released cfg all)) && b) passed
      ∙ ap (λ (i : Holding). (list_any (is_at order) proved_now || list_all (is_over after item) (chains cfg)) && not i.released || i.taken && list_all (is_passed after packet.frame.name.interval) (chains cfg)) same

  one_after : (order : ℕ) (o : Option Packet) → ((packet : Packet) → o ≡ Some packet → Brought xs order packet) → held_at cfg (xs ++ a ∷ []) given order o ≡ flat_map (kept_after cfg after proved_now released_now) (held_at cfg xs given order o)
  one_after order None brought = refl
  one_after order (Some packet) brought =
      let all : List Arrival = xs ++ a ∷ [] in
      let item : Holding = holding_of cfg xs given order packet in
      let none : given + 0 ≡ given = omega arith in
      ⊎_elim
      (λ e. let gone : is_gone cfg all given order packet ≡ true = subst (λ (g : ℕ). is_gone cfg all g order packet ≡ true) none (gone_stays cfg xs (a ∷ []) order packet given 0 (brought packet refl) e) in
      ap (λ b. cond b [] (holding_of cfg all given order packet ∷ [])) gone
      ∙ ap (λ b. flat_map (kept_after cfg after proved_now released_now) (cond b [] (item ∷ []))) (sym e))
      (λ e. ap (λ b. cond b [] (holding_of cfg all given order packet ∷ [])) (gone_after order packet (brought packet refl) e)
      ∙ ap (λ i. cond (is_let_go cfg after proved_now (marked released_now item)) [] (i ∷ [])) (holding_after order packet)
      ∙ sym (append-nil (kept_after cfg after proved_now released_now item))
      ∙ ap (λ b. flat_map (kept_after cfg after proved_now released_now) (cond b [] (item ∷ []))) (sym e))
      (cases_Bool (is_gone cfg xs given order packet))

  -- ---- all packets

  -- the packets that are held are what is left of those before, and what the arrival brought
  pub holdings_more : holdings cfg (xs ++ a ∷ []) given ≡ flat_map (kept_after cfg after proved_now released_now) (holdings cfg xs given) ++ held_at cfg (xs ++ a ∷ []) given (length xs) (packet_of a)
  unfolding holdings
  holdings_more =
      let all : List Arrival = xs ++ a ∷ [] in
      let f : ℕ × Arrival → List Holding = λ p. held_at cfg all given p.0 (packet_of p.1) in
      let before : ℕ × Arrival → List Holding = λ p. held_at cfg xs given p.0 (packet_of p.1) in
      let count : 0 + length xs ≡ length xs = omega arith in
      let kept : Holding → List Holding = kept_after cfg after proved_now released_now in
      ap (flat_map f) (enumerate_from-append 0 xs (a ∷ [])) ∙ flat_map-append f (enumerate_from 0 xs) ((0 + length xs, a) ∷ [])
      ∙ ap (λ r. r ++ (f (0 + length xs, a) ++ []))
      (gathered_same f (λ (p : ℕ × Arrival). flat_map kept (before p)) 0 xs (λ k x at. let here : k ≡ 0 + k = omega arith in one_after (0 + k) (packet_of x) (λ packet brings. record { arrival = x; at = ap (slice_get xs) (sym here) ∙ at; kept = brings }))
      ∙ sym (flat_map-flat_map kept before (enumerate_from 0 xs)))
      ∙ ap (λ r. flat_map kept (flat_map before (enumerate_from 0 xs)) ++ r) (append-nil (f (0 + length xs, a)) ∙ ap (λ (n : ℕ). held_at cfg all given n (packet_of a)) count)

-- ---- the arrival's own packet

none_at : (n : ℕ) (xs : List Release) → list_all (is_below n) xs ≡ true → list_any (is_at n) xs ≡ false
none_at n xs h =
    none_passes (is_at n) xs
    (list_all_weaker (is_below n) (λ r. not (is_at n r)) xs (λ r e. not_from_false (is_at n r) (let less = ltb-true r.place n e in ne_eqb r.place n (λ same. omega (arith, less, same)))) h)

candidates_before : (cfg : Config) (xs : List Arrival) (a : Arrival) → list_all (is_below (length xs)) (candidates cfg (xs ++ a ∷ [])) ≡ true
unfolding candidates
candidates_before cfg xs a =
    let same : length {A = Arrival} [] + length xs ≡ length xs = omega arith in
    ap (list_all (is_below (length xs))) (candidates_grow cfg xs a)
    ∙ list_all_both (is_below (length xs)) (candidates cfg xs) (batch cfg xs a)
    (subst (λ n. list_all (is_below n) (each_after (batch cfg) [] xs) ≡ true) same (candidates_below cfg [] xs))
    (proved_below cfg xs (new_keys cfg xs a) (length xs) 0 xs (omega arith))

-- a packet that some safe chain hasn't passed is held, neither released nor taken
pub own_held : (cfg : Config) (xs : List Arrival) (a : Arrival) (given chain : ℕ) (packet : Packet) → packet_of a ≡ Some packet → chain < length cfg.setup.rows → has_chain packet.chains chain ≡ true → nat_lt (newest cfg (xs ++ a ∷ []) chain) packet.frame.name.interval ≡ true → held_at cfg (xs ++ a ∷ []) given (length xs) (packet_of a) ≡ record (holding_of cfg (xs ++ a ∷ []) given (length xs) packet) { released = false; taken = false } ∷ []
unfolding released
own_held cfg xs a given chain packet kept within safe ahead =
    let all : List Arrival = xs ++ a ∷ [] in
    let n : ℕ = length xs in
    let below = candidates_before cfg xs a in
    let below_out : list_all (is_below n) (released cfg all) ≡ true = firsts_pass (is_below n) [] (candidates cfg all) below in
    let unproved_here : list_any (is_at n) (candidates cfg all) ≡ false = none_at n (candidates cfg all) below in
    let out : list_any (is_at n) (released cfg all) ≡ false = none_at n (released cfg all) below_out in
    let given_none : list_any (is_at n) (take given (released cfg all)) ≡ false = none_at n (take given (released cfg all)) (list_all-take (is_below n) given (released cfg all) below_out) in
    let not_passed : has_passed cfg all packet.frame.name.interval chain ≡ false = lt-leb packet.frame.name.interval (newest cfg all chain) (ltb-true (newest cfg all chain) packet.frame.name.interval ahead) in
    let not_past : list_all (is_past cfg all packet) (chains cfg) ≡ false =
    not_all_numbers (is_past cfg all packet) (length cfg.setup.rows) chain within (or_from (not (has_chain packet.chains chain)) (has_passed cfg all packet.frame.name.interval chain) (not_from_true (has_chain packet.chains chain) safe) not_passed) in
    let stays : is_gone cfg all given n packet ≡ false =
    or_from (is_settled cfg all n packet && not (list_any (is_at n) (released cfg all))) (list_any (is_at n) (take given (released cfg all)) && list_all (has_passed cfg all packet.frame.name.interval) (chains cfg))
    (and_left (is_settled cfg all n packet) (not (list_any (is_at n) (released cfg all))) (or_from (list_any (is_at n) (candidates cfg all)) (list_all (is_past cfg all packet) (chains cfg)) unproved_here not_past))
    (and_left (list_any (is_at n) (take given (released cfg all))) (list_all (has_passed cfg all packet.frame.name.interval) (chains cfg)) given_none) in
    ap (held_at cfg all given n) kept
    ∙ ap (λ b. cond b [] (holding_of cfg all given n packet ∷ [])) stays
    ∙ ap (λ b. record (holding_of cfg all given n packet) { released = b } ∷ []) out
    ∙ ap (λ b. record (holding_of cfg all given n packet) { released = false; taken = b } ∷ []) given_none
