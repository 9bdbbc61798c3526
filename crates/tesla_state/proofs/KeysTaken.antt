-- What is held once keys were taken: what is let go as a batch is released, and what is let go then, are together what the definition lets go.
use Rattle.std.proofs.Common.{◌≡◌, ℕ, suc, zero, ◌+◌, ◌<◌, Bool, true, false, cond, ◌&&◌, ◌||◌, List, [], ◌∷◌, ◌++◌, length, map, flat_map, refl, sym, ap, subst, ⊎_elim, ◌∙◌, arith, ◌==◌}
use Rattle.std.specs.Prelude.{not, nat_lt, nat_le, All, fold, find, get_or, Option, None, Some}
use Rattle.std.specs.List.{list_any, list_all, filter, enumerate_from}
use Rattle.std.proofs.lemmas.Bool.{false≢true, cases_Bool, and_parts, and_from, or_from, or_left, or_right, or_parts, and_cases, both_ways, false_from_ne_true, ltb-true, eqb-true}
use Rattle.std.proofs.lemmas.Bool.Decides.{nat_tests}
use Rattle.std.proofs.lemmas.List.Elements.{All-cons, All-head, All-nil, All-tail, All-weaker, filter-append}
use Rattle.std.proofs.lemmas.List.Folds.{list_any-append, flat_map-map}
use Rattle.tesla_base.proofs.Lists.{list_all_weaker}
use Rattle.tesla_frame.specs.declared.row.KeyRow.{KeyRow}
use Rattle.tesla_keys.specs.Tip.{Tip}
use Rattle.tesla_base.specs.Members.{is_in, Distinct}
use Rattle.tesla_base.proofs.Passing.{all_same}
use Rattle.tesla_fitting.specs.declared.config.Config.{Config}
use Rattle.tesla_walks.specs.declared.release.Release.{Release}
use Rattle.tesla_fitting.specs.Config.{chains}
use Rattle.tesla_clock.specs.Safe.{has_chain}
use Rattle.tesla_walks.specs.ReachedIntervals.{AreIndices, Spans, index_at, index_in, is_first, is_reached}
use Rattle.tesla_state.specs.Releases.{is_at}
use Rattle.tesla_fitting.specs.Rows.{is_of}
use Rattle.tesla_walks.specs.Offered.{IsOfChains}
use Rattle.tesla_walks.specs.Tips.{raised, no_tip, tips_after}
use Rattle.tesla_walks.specs.Holding.{Holding}
use Rattle.tesla_state.specs.declared.reach.Reach.{Reach}
use Rattle.tesla_state.specs.Steps.{is_let_go, is_over, is_passed, marked, kept_after, batch_of, released_of}
use Rattle.tesla_walks.specs.Proved.{proof_of, proves_on, released_on}
use Rattle.tesla_state.specs.Stored.{Placed, slot_of, holding_at, order_of, after_batch, is_idle, in_span, in_reach, AreNeeded}
use Rattle.tesla_state.proofs.Gathering.{unreached_unproved}
use Rattle.tesla_state.proofs.UnreachedIntervals.{outside_unreached, reached_by}
use Rattle.tesla_state.proofs.ReleasedPackets.{flat_same_in, eq_turn}

-- ---- one packet

span_only : (c s : Bool) → (s || not c) ≡ true → c ≡ (s && c)
span_only true true h = refl
span_only true false h = absurd (false≢true h)
span_only false true h = refl
span_only false false h = refl

span_true : (s : Bool) → (s || false) ≡ true → true ≡ (s && true)
span_true true h = refl
span_true false h = absurd (false≢true h)

span_past : (c s : Bool) → (s || false) ≡ true → c ≡ (s && c)
span_past c true h = refl
span_past c false h = absurd (false≢true h)

-- in the batch, released now, was released, taken, no chain can prove it, all have passed it, in the span
let_go_both : (b n r t a p s : Bool) → (not b || not r) ≡ true → (s || not ((a && not r) || (t && p))) ≡ true → (((b || a) && not (r || n)) || (t && p)) ≡ ((b && not n) || (s && ((a && not (r || n)) || (t && p))))
let_go_both true n true t a p s h k = absurd (false≢true h)
let_go_both false n true t true p s h k = span_only (t && p) s k
let_go_both false n true t false p s h k = span_only (t && p) s k
let_go_both true true false t true p s h k = span_past (t && p) s k
let_go_both true true false t false p s h k = span_only (t && p) s k
let_go_both false true false t true p s h k = span_past (t && p) s k
let_go_both false true false t false p s h k = span_only (t && p) s k
let_go_both true false false t a p s h k = refl
let_go_both false false false t true p s h k = span_true s k
let_go_both false false false t false p s h k = span_only (t && p) s k

filter_one : (b r : Bool) (q : Placed → Bool) (x : Placed) → q x ≡ not r → map holding_at (filter q (cond b [] (x ∷ []))) ≡ cond (b || r) [] (x.holding ∷ [])
filter_one true r q x h = refl
filter_one false true q x h = ap (λ t. map holding_at (cond t (x ∷ []) [])) h
filter_one false false q x h = ap (λ t. map holding_at (cond t (x ∷ []) [])) h

-- what is known of a packet: one of the batch isn't released, and one of another interval is needed
abbrev pub is_fit : Config → List Tip → List Release → Reach → List KeyRow → Placed → Bool
is_fit cfg tips batch reach new x = (not (list_any (is_at x.holding.order) batch) || not x.holding.released) && (in_reach reach new x || not (is_idle cfg tips x))

one_after : (cfg : Config) (tips : List Tip) (batch now : List Release) (reach : Reach) (new : List KeyRow) (x : Placed) → is_fit cfg tips batch reach new x ≡ true → map holding_at (filter (λ y. not (in_reach reach new y && is_idle cfg tips y)) (after_batch batch now x)) ≡ kept_after cfg tips batch now x.holding
one_after cfg tips batch now reach new x fit =
    let parts = and_parts (not (list_any (is_at x.holding.order) batch) || not x.holding.released) (in_reach reach new x || not (is_idle cfg tips x)) fit in
    let y : Placed = record x { holding = marked now x.holding } in
    let b : Bool = list_any (is_at x.holding.order) batch in
    let n : Bool = list_any (is_at x.holding.order) now in
    let a : Bool = list_all (is_over tips x.holding) (chains cfg) in
    let p : Bool = list_all (is_passed tips x.holding.name.interval) (chains cfg) in
    filter_one (b && not n) (in_reach reach new x && is_idle cfg tips y) (λ z. not (in_reach reach new z && is_idle cfg tips z)) y refl
    ∙ ap (λ t. cond t [] (marked now x.holding ∷ []))
    (sym (let_go_both b n x.holding.released x.holding.taken a p (in_reach reach new x) parts.0 parts.1))

-- ---- all packets

filter_flat : {A B : Type 0} (q : B → Bool) (f : A → List B) (xs : List A) → filter q (flat_map f xs) ≡ flat_map (λ x. filter q (f x)) xs
filter_flat q f [] = refl
filter_flat q f (x ∷ xs) = filter-append q (f x) (flat_map f xs) ∙ ap (λ ys. filter q (f x) ++ ys) (filter_flat q f xs)

map-append_holdings : (xs ys : List Placed) → map holding_at (xs ++ ys) ≡ map holding_at xs ++ map holding_at ys
map-append_holdings [] ys = refl
map-append_holdings (x ∷ xs) ys = ap (λ zs. x.holding ∷ zs) (map-append_holdings xs ys)

pub map_flat : {A : Type 0} (f : A → List Placed) (xs : List A) → map holding_at (flat_map f xs) ≡ flat_map (λ x. map holding_at (f x)) xs
map_flat f [] = refl
map_flat f (x ∷ xs) = map-append_holdings (f x) (flat_map f xs) ∙ ap (λ ys. map holding_at (f x) ++ ys) (map_flat f xs)

pub held_after : (cfg : Config) (tips : List Tip) (batch now : List Release) (reach : Reach) (new : List KeyRow) (held : List Placed) → list_all (is_fit cfg tips batch reach new) held ≡ true → map holding_at (filter (λ y. not (in_reach reach new y && is_idle cfg tips y)) (flat_map (after_batch batch now) held)) ≡ flat_map (kept_after cfg tips batch now) (map holding_at held)
held_after cfg tips batch now reach new held fit =
    ap (map holding_at) (filter_flat (λ y. not (in_reach reach new y && is_idle cfg tips y)) (after_batch batch now) held)
    ∙ map_flat (λ x. filter (λ y. not (in_reach reach new y && is_idle cfg tips y)) (after_batch batch now x)) held
    ∙ flat_same_in (λ x. map holding_at (filter (λ y. not (in_reach reach new y && is_idle cfg tips y)) (after_batch batch now x))) (λ x. kept_after cfg tips batch now x.holding) (is_fit cfg tips batch reach new)
    (λ x h. one_after cfg tips batch now reach new x h) held fit
    ∙ sym (flat_map-map (kept_after cfg tips batch now) holding_at held)

-- ---- what is proved wasn't released

on_order : (n : ℕ) (item : Holding) (o : Option ℕ) → (item.order == n) ≡ false → list_any (is_at n) (released_on item o) ≡ false
on_order n item None h = refl
on_order n item (Some chain) h = ap (λ t. t || false) h

proof_order : (cfg : Config) (tips : List Tip) (new : List KeyRow) (n : ℕ) (item : Holding) (b : Bool) → (item.order == n) ≡ false → list_any (is_at n) (cond b [] (released_on item (find (proves_on cfg tips new item) (chains cfg)))) ≡ false
proof_order cfg tips new n item true h = refl
proof_order cfg tips new n item false h = on_order n item (find (proves_on cfg tips new item) (chains cfg)) h

none_of_order : (cfg : Config) (tips : List Tip) (new : List KeyRow) (n : ℕ) (held : List Placed) → is_in n (map order_of held) ≡ false → list_any (is_at n) (batch_of cfg tips new (map holding_at held)) ≡ false
none_of_order cfg tips new n [] h = refl
none_of_order cfg tips new n (x ∷ xs) h =
    let first : (x.holding.order == n) ≡ false = false_from_ne_true (x.holding.order == n) (λ e. both_ways (is_in n (map order_of (x ∷ xs))) h (or_left (x.holding.order == n) (is_in n (map order_of xs)) e)) in
    let rest : is_in n (map order_of xs) ≡ false = sym (ap (λ t. t || is_in n (map order_of xs)) first) ∙ h in
    list_any-append (is_at n) (proof_of cfg tips new x.holding) (batch_of cfg tips new (map holding_at xs))
    ∙ or_from (list_any (is_at n) (proof_of cfg tips new x.holding)) (list_any (is_at n) (batch_of cfg tips new (map holding_at xs))) (proof_order cfg tips new n x.holding x.holding.released first) (none_of_order cfg tips new n xs rest)

abbrev unreleased_in : List Release → Placed → Bool
unreleased_in batch x = not (list_any (is_at x.holding.order) batch) || not x.holding.released

head_unreleased : (b r : Bool) → (r ≡ true → b ≡ false) → (not b || not r) ≡ true
head_unreleased b false h = or_right (not b) true refl
head_unreleased b true h = or_left (not b) false (ap not (h refl))

-- the batch of one packet more has the same of the others
others_same : (cfg : Config) (tips : List Tip) (new : List KeyRow) (x : Placed) (xs ys : List Placed) → is_in x.holding.order (map order_of ys) ≡ false → list_all (unreleased_in (batch_of cfg tips new (map holding_at xs))) ys ≡ true → list_all (unreleased_in (batch_of cfg tips new (map holding_at (x ∷ xs)))) ys ≡ true
others_same cfg tips new x xs [] none h = refl
others_same cfg tips new x xs (y ∷ ys) none h =
    let parts = and_parts (unreleased_in (batch_of cfg tips new (map holding_at xs)) y) (list_all (unreleased_in (batch_of cfg tips new (map holding_at xs))) ys) h in
    let first : (y.holding.order == x.holding.order) ≡ false = false_from_ne_true (y.holding.order == x.holding.order) (λ e. both_ways (is_in x.holding.order (map order_of (y ∷ ys))) none (or_left (y.holding.order == x.holding.order) (is_in x.holding.order (map order_of ys)) e)) in
    let rest : is_in x.holding.order (map order_of ys) ≡ false = sym (ap (λ t. t || is_in x.holding.order (map order_of ys)) first) ∙ none in
    let other : (x.holding.order == y.holding.order) ≡ false = eq_turn x.holding.order y.holding.order ∙ first in
    and_from (unreleased_in (batch_of cfg tips new (map holding_at (x ∷ xs))) y) (list_all (unreleased_in (batch_of cfg tips new (map holding_at (x ∷ xs)))) ys)
    (ap (λ t. not t || not y.holding.released) (list_any-append (is_at y.holding.order) (proof_of cfg tips new x.holding) (batch_of cfg tips new (map holding_at xs))
    ∙ ap (λ t. t || list_any (is_at y.holding.order) (batch_of cfg tips new (map holding_at xs))) (proof_order cfg tips new y.holding.order x.holding x.holding.released other)) ∙ parts.0)
    (others_same cfg tips new x xs ys rest parts.1)

pub all_unreleased : (cfg : Config) (tips : List Tip) (new : List KeyRow) (held : List Placed) → Distinct (map order_of held) → list_all (unreleased_in (batch_of cfg tips new (map holding_at held))) held ≡ true
all_unreleased cfg tips new [] d = refl
all_unreleased cfg tips new (x ∷ xs) d =
    and_from (unreleased_in (batch_of cfg tips new (map holding_at (x ∷ xs))) x) (list_all (unreleased_in (batch_of cfg tips new (map holding_at (x ∷ xs)))) xs)
    (head_unreleased (list_any (is_at x.holding.order) (batch_of cfg tips new (map holding_at (x ∷ xs)))) x.holding.released
    (λ e. list_any-append (is_at x.holding.order) (proof_of cfg tips new x.holding) (batch_of cfg tips new (map holding_at xs))
    ∙ or_from (list_any (is_at x.holding.order) (proof_of cfg tips new x.holding)) (list_any (is_at x.holding.order) (batch_of cfg tips new (map holding_at xs)))
    (ap (λ t. list_any (is_at x.holding.order) (cond t [] (released_on x.holding (find (proves_on cfg tips new x.holding) (chains cfg))))) e)
    (none_of_order cfg tips new x.holding.order xs d.0)))
    (others_same cfg tips new x xs xs d.0 (all_unreleased cfg tips new xs d.1))

-- ---- packets of other intervals

-- a higher index passes no interval that it doesn't reach first
passes_same : (i old new : ℕ) → (nat_lt old i && nat_le i new) ≡ false → old < new → nat_le i new ≡ nat_le i old
passes_same i old new out b = grind (arith, nat_tests)

still_out : (i old new later : ℕ) → (nat_lt old i && nat_le i later) ≡ false → old < new → (nat_lt new i && nat_le i later) ≡ false
still_out i old new later out b = grind (arith, nat_tests)

raised_same : (i chain : ℕ) (tip : Tip) (rows : List KeyRow) → All (λ (row : KeyRow). is_of chain row ≡ true → (nat_lt tip.index i && nat_le i row.index) ≡ false) rows → nat_le i (fold (raised chain) tip rows).index ≡ nat_le i tip.index
raised_same i chain tip [] out = refl
raised_same i chain tip (row ∷ rows) out =
    let here : is_of chain row ≡ true → (nat_lt tip.index i && nat_le i row.index) ≡ false = All-head (λ (r : KeyRow). is_of chain r ≡ true → (nat_lt tip.index i && nat_le i r.index) ≡ false) row rows out in
    let others = All-tail (λ (r : KeyRow). is_of chain r ≡ true → (nat_lt tip.index i && nat_le i r.index) ≡ false) row rows out in
    ⊎_elim
    (λ e. let parts = and_parts (is_of chain row) (nat_lt tip.index row.index) e in
    let higher : tip.index < row.index = ltb-true tip.index row.index parts.1 in
    let next : Tip = record { index = row.index; key = row.key } in
    ap (λ t. nat_le i (fold (raised chain) (cond t next tip) rows).index) e
    ∙ raised_same i chain next rows
    (All-weaker (λ (r : KeyRow). is_of chain r ≡ true → (nat_lt tip.index i && nat_le i r.index) ≡ false) (λ (r : KeyRow). is_of chain r ≡ true → (nat_lt row.index i && nat_le i r.index) ≡ false)
    (λ r h k. still_out i tip.index row.index r.index (h k) higher) rows others)
    ∙ passes_same i tip.index row.index (here parts.0) higher)
    (λ e. ap (λ t. nat_le i (fold (raised chain) (cond t (record { index = row.index; key = row.key }) tip) rows).index) e
    ∙ raised_same i chain tip rows others)
    (cases_Bool (is_of chain row && nat_lt tip.index row.index))

abbrev raise_from : ℕ → List Tip → List KeyRow → List Tip
raise_from n tips rows = map (λ (p : ℕ × Tip). fold (raised p.0) p.1 rows) (enumerate_from n tips)

tips_same : (i n : ℕ) (tips : List Tip) (rows : List KeyRow) → ((c : ℕ) → All (λ (row : KeyRow). is_of (n + c) row ≡ true → (nat_lt (get_or tips c no_tip).index i && nat_le i row.index) ≡ false) rows) → (c : ℕ) → nat_le i (get_or (raise_from n tips rows) c no_tip).index ≡ nat_le i (get_or tips c no_tip).index
tips_same i n [] rows out c = refl
tips_same i n (t ∷ ts) rows out zero =
    let first : n + 0 ≡ n = omega arith in
    raised_same i n t rows (subst (λ (k : ℕ). All (λ (row : KeyRow). is_of k row ≡ true → (nat_lt t.index i && nat_le i row.index) ≡ false) rows) first (out 0))
tips_same i n (t ∷ ts) rows out (suc c) =
    tips_same i (n + 1) ts rows
    (λ k. let next : n + suc k ≡ n + 1 + k = omega arith in subst (λ (m : ℕ). All (λ (row : KeyRow). is_of m row ≡ true → (nat_lt (get_or ts k no_tip).index i && nat_le i row.index) ≡ false) rows) next (out (suc k))) c

-- no key of any chain is the first to reach it
none_first : (tips : List Tip) (new : List KeyRow) (i k : ℕ) → is_reached (index_in tips) new i ≡ false → All (λ (row : KeyRow). is_of k row ≡ true → (nat_lt (get_or tips k no_tip).index i && nat_le i row.index) ≡ false) new
none_first tips [] i k none = All-nil (λ (row : KeyRow). is_of k row ≡ true → (nat_lt (get_or tips k no_tip).index i && nat_le i row.index) ≡ false)
none_first tips (row ∷ rows) i k none =
    let parts = or_parts (is_first (index_in tips) i row) (is_reached (index_in tips) rows i) none in
    All-cons (λ (r : KeyRow). is_of k r ≡ true → (nat_lt (get_or tips k no_tip).index i && nat_le i r.index) ≡ false) row rows
    (λ e. ap (λ (m : ℕ). nat_lt (get_or tips m no_tip).index i && nat_le i row.index) (sym (eqb-true row.chain.0 k e)) ∙ parts.0)
    (none_first tips rows i k parts.1)

pub passed_same : (tips : List Tip) (new : List KeyRow) (i : ℕ) → is_reached (index_in tips) new i ≡ false → (c : ℕ) → is_passed (tips_after tips new) i c ≡ is_passed tips i c
passed_same tips new i none c =
    tips_same i 0 tips new
    (λ k. let same : 0 + k ≡ k = omega arith in subst (λ (m : ℕ). All (λ (row : KeyRow). is_of m row ≡ true → (nat_lt (get_or tips k no_tip).index i && nat_le i row.index) ≡ false) new) (sym same) (none_first tips new i k none)) c

-- a packet of an interval that no new key reaches first is needed as before
pub idle_same : (cfg : Config) (tips : List Tip) (new : List KeyRow) (x : Placed) → is_reached (index_in tips) new x.holding.name.interval ≡ false → is_idle cfg (tips_after tips new) x ≡ is_idle cfg tips x
idle_same cfg tips new x none =
    let i : ℕ = x.holding.name.interval in
    let same = passed_same tips new i none in
    ap (λ t. (t && not x.holding.released) || (x.holding.taken && list_all (is_passed (tips_after tips new) i) (chains cfg)))
    (all_same (is_over (tips_after tips new) x.holding) (is_over tips x.holding) (chains cfg) (λ c. ap (λ t. not (has_chain x.holding.chains c) || t) (same c)))
    ∙ ap (λ t. (list_all (is_over tips x.holding) (chains cfg) && not x.holding.released) || (x.holding.taken && t)) (all_same (is_passed (tips_after tips new) i) (is_passed tips i) (chains cfg) same)

all_and : {A : Type 0} (p q : A → Bool) (xs : List A) → list_all p xs ≡ true → list_all q xs ≡ true → list_all (λ x. p x && q x) xs ≡ true
all_and p q [] a b = refl
all_and p q (x ∷ xs) a b =
    let u = and_parts (p x) (list_all p xs) a in
    let v = and_parts (q x) (list_all q xs) b in
    and_from (p x && q x) (list_all (λ y. p y && q y) xs) (and_from (p x) (q x) u.0 v.0) (all_and p q xs u.1 v.1)

module _ (cfg : Config) (tips : List Tip) (new : List KeyRow) (reach : Reach) (spans : Spans tips new reach.low reach.high) (are : AreIndices tips reach.indices) (of_chains : All (IsOfChains (length tips)) new) where
  unreached : (x : Placed) → in_reach reach new x ≡ false → is_reached (index_in tips) new x.holding.name.interval ≡ false
  unreached x out =
      ⊎_elim
      (λ e. outside_unreached tips new reach.low reach.high x.holding.name.interval spans.above spans.below e)
      (λ e. sym (reached_by tips reach.indices new x.holding.name.interval are of_chains) ∙ e)
      (and_cases (in_span reach.low reach.high x) (is_reached (index_at reach.indices) new x.holding.name.interval) out)

  fit_one : (x : Placed) → not (is_idle cfg tips x) ≡ true → (in_reach reach new x || not (is_idle cfg (tips_after tips new) x)) ≡ true
  fit_one x h =
      ⊎_elim
      (λ e. or_left (in_reach reach new x) (not (is_idle cfg (tips_after tips new) x)) e)
      (λ e. or_right (in_reach reach new x) (not (is_idle cfg (tips_after tips new) x)) (ap not (idle_same cfg tips new x (unreached x e)) ∙ h))
      (cases_Bool (in_reach reach new x))

  -- what is held once keys were taken
  pub kept_is : (now : List Release) (held : List Placed) → Distinct (map order_of held) → AreNeeded cfg tips held → map holding_at (filter (λ y. not (in_reach reach new y && is_idle cfg (tips_after tips new) y)) (flat_map (after_batch (batch_of cfg tips new (map holding_at held)) now) held)) ≡ flat_map (kept_after cfg (tips_after tips new) (batch_of cfg tips new (map holding_at held)) now) (map holding_at held)
  kept_is now held d needed =
      held_after cfg (tips_after tips new) (batch_of cfg tips new (map holding_at held)) now reach new held
      (all_and (unreleased_in (batch_of cfg tips new (map holding_at held))) (λ x. in_reach reach new x || not (is_idle cfg (tips_after tips new) x)) held
      (all_unreleased cfg tips new held d)
      (list_all_weaker (λ x. not (is_idle cfg tips x)) (λ x. in_reach reach new x || not (is_idle cfg (tips_after tips new) x)) held fit_one needed))

-- ---- without new keys

not_true : (b : Bool) → not b ≡ true → b ≡ false
not_true true h = absurd (false≢true h)
not_true false h = refl

or_none : (b : Bool) → (b || false) ≡ b
or_none true = refl
or_none false = refl

module _ (cfg : Config) (tips : List Tip) where
  -- nothing is proved
  pub none_proved : (held : List Holding) → batch_of cfg tips [] held ≡ []
  none_proved [] = refl
  none_proved (x ∷ xs) = ap (λ rs. rs ++ batch_of cfg tips [] xs) (unreached_unproved cfg tips [] x refl) ∙ none_proved xs

  one_stays : (x : Placed) → not (is_idle cfg tips x) ≡ true → kept_after cfg (tips_after tips []) [] [] x.holding ≡ x.holding ∷ []
  one_stays x h =
      let needed : is_idle cfg (tips_after tips []) x ≡ false = idle_same cfg tips [] x refl ∙ not_true (is_idle cfg tips x) h in
      ap (λ b. cond (is_let_go cfg (tips_after tips []) [] (record x.holding { released = b })) [] (record x.holding { released = b } ∷ [])) (or_none x.holding.released)
      ∙ ap (λ b. cond b [] (x.holding ∷ [])) needed

  -- and all that is held stays
  pub all_stay : (held : List Placed) → AreNeeded cfg tips held → flat_map (kept_after cfg (tips_after tips []) [] []) (map holding_at held) ≡ map holding_at held
  all_stay [] h = refl
  all_stay (x ∷ xs) h =
      let parts = and_parts (not (is_idle cfg tips x)) (list_all (λ y. not (is_idle cfg tips y)) xs) h in
      ap (λ hs. hs ++ flat_map (kept_after cfg (tips_after tips []) [] []) (map holding_at xs)) (one_stays x parts.0)
      ∙ ap (λ hs. x.holding ∷ hs) (all_stay xs parts.1)

  pub held_stays : (rows : List KeyRow) → rows ≡ [] → (held : List Placed) → AreNeeded cfg tips held →
      map holding_at held ≡ flat_map (kept_after cfg (tips_after tips rows) (batch_of cfg tips rows (map holding_at held)) (released_of (map holding_at held) (batch_of cfg tips rows (map holding_at held)))) (map holding_at held)
  held_stays rows none held needed =
      sym (ap (λ (rs : List KeyRow). flat_map (kept_after cfg (tips_after tips rs) (batch_of cfg tips rs (map holding_at held)) (released_of (map holding_at held) (batch_of cfg tips rs (map holding_at held)))) (map holding_at held)) none
      ∙ ap (λ (batch : List Release). flat_map (kept_after cfg (tips_after tips []) batch (released_of (map holding_at held) batch)) (map holding_at held)) (none_proved (map holding_at held))
      ∙ all_stay held needed)

  pub none_released : (rows : List KeyRow) → rows ≡ [] → (held : List Holding) → released_of held (batch_of cfg tips rows held) ≡ []
  none_released rows none held = ap (λ (rs : List KeyRow). released_of held (batch_of cfg tips rs held)) none ∙ ap (released_of held) (none_proved held)

-- where nothing is held, nothing is after any keys
module _ (cfg : Config) (tips later : List Tip) (rows : List KeyRow) where
  pub held_none : (held : List Placed) → held ≡ [] → map holding_at held ≡ flat_map (kept_after cfg later (batch_of cfg tips rows (map holding_at held)) (released_of (map holding_at held) (batch_of cfg tips rows (map holding_at held)))) (map holding_at held)
  held_none held none =
      subst (λ (hs : List Placed). map holding_at hs ≡ flat_map (kept_after cfg later (batch_of cfg tips rows (map holding_at hs)) (released_of (map holding_at hs) (batch_of cfg tips rows (map holding_at hs)))) (map holding_at hs)) (sym none) refl

  pub released_none : (held : List Placed) → held ≡ [] → released_of (map holding_at held) (batch_of cfg tips rows (map holding_at held)) ≡ []
  released_none held none = ap (λ (hs : List Placed). released_of (map holding_at hs) (batch_of cfg tips rows (map holding_at hs))) none

-- ---- slots stay apart

in_cond : (n : ℕ) (t : Bool) (y : Placed) (rest : List Placed) → (y.place == n) ≡ false → is_in n (map slot_of rest) ≡ false → is_in n (map slot_of (cond t [] (y ∷ []) ++ rest)) ≡ false
in_cond n true y rest first h = h
in_cond n false y rest first h = or_from (y.place == n) (is_in n (map slot_of rest)) first h

none_after : (n : ℕ) (batch now : List Release) (held : List Placed) → is_in n (map slot_of held) ≡ false → is_in n (map slot_of (flat_map (after_batch batch now) held)) ≡ false
none_after n batch now [] h = refl
none_after n batch now (x ∷ xs) h =
    let first : (x.place == n) ≡ false = false_from_ne_true (x.place == n) (λ e. both_ways (is_in n (map slot_of (x ∷ xs))) h (or_left (x.place == n) (is_in n (map slot_of xs)) e)) in
    let rest : is_in n (map slot_of xs) ≡ false = sym (ap (λ t. t || is_in n (map slot_of xs)) first) ∙ h in
    in_cond n (list_any (is_at x.holding.order) batch && not (list_any (is_at x.holding.order) now)) (record x { holding = marked now x.holding }) (flat_map (after_batch batch now) xs) first (none_after n batch now xs rest)

apart_cond : (t : Bool) (y : Placed) (rest : List Placed) → is_in y.place (map slot_of rest) ≡ false → Distinct (map slot_of rest) → Distinct (map slot_of (cond t [] (y ∷ []) ++ rest))
apart_cond true y rest none d = d
apart_cond false y rest none d = (none, d)

pub apart_after : (batch now : List Release) (held : List Placed) → Distinct (map slot_of held) → Distinct (map slot_of (flat_map (after_batch batch now) held))
apart_after batch now [] d = tt
apart_after batch now (x ∷ xs) d =
    apart_cond (list_any (is_at x.holding.order) batch && not (list_any (is_at x.holding.order) now)) (record x { holding = marked now x.holding }) (flat_map (after_batch batch now) xs) (none_after x.place batch now xs d.0) (apart_after batch now xs d.1)
