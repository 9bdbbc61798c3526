-- Packets are tried one after another.
use Rattle.std.proofs.Common.{◌≡◌, ℕ, ◌+◌, ◌-◌, ◌*◌, ◌<◌, ◌≤◌, suc, zero, Bool, true, false, cond, ◌&&◌, List, [], ◌∷◌, ◌++◌, length, map, drop, take, flat_map, Option, Some, None, refl, sym, ap, subst, inl, inr, ◌∙◌, arith, ◌==◌, append_assoc}
use Rattle.std.specs.Prelude.{not, find, nat_lt, nat_le, All, option_to_list, IfSome}
use Rattle.std.specs.List.{list_any, list_all, filter}
use Rattle.std.proofs.lemmas.Bool.{cases_Bool, and_from, and_parts, eq-eqb, ltb-true, leb-true}
use Rattle.std.proofs.lemmas.Bool.Decides.{nat_tests}
use Rattle.std.proofs.lemmas.List.{append-nil, length-map}
use Rattle.std.specs.List.Sorted.{IsPermutation}
use Rattle.std.proofs.lemmas.List.Sorted.{IsPermutation-append_comm, IsPermutation-append_left, IsPermutation-refl, IsPermutation-trans}
use Rattle.std.proofs.lemmas.List.Elements.{All-weaker}
use Rattle.std.proofs.lemmas.List.Concat.{flat_map-append}
use Rattle.tesla_base.specs.declared.names.Name.{Name}
use Rattle.tesla_base.specs.declared.names.Place.{Place}
use Rattle.tesla_frame.specs.declared.row.KeyRow.{KeyRow}
use Rattle.tesla_keys.specs.Tip.{Tip}
use Rattle.tesla_base.specs.Members.{Distinct}
use Rattle.tesla_base.proofs.Filtered.{filter-map, filter_shorter}
use Rattle.tesla_fitting.specs.declared.config.Config.{Config}
use Rattle.tesla_walks.specs.declared.ordering.Proved.{Proved}
use Rattle.tesla_walks.specs.declared.release.Release.{Release}
use Rattle.tesla_fitting.specs.Config.{chains}
use Rattle.tesla_walks.specs.ReachedIntervals.{AreIndices, IsHighest, Spans, index_at, index_in, is_reached}
use Rattle.tesla_state.specs.Gathering.{in_turn}
use Rattle.tesla_walks.specs.Offered.{IsOfChains}
use Rattle.tesla_walks.specs.Proved.{release_in, proof_of, proves_on, released_on}
use Rattle.tesla_walks.specs.Holding.{Holding}
use Rattle.tesla_state.specs.Steps.{batch_of, in_interval}
use Rattle.tesla_state.specs.Stored.{Placed, slot_of, holding_at, stands_at, is_of, is_unreleased_of, is_proved_by, first_slot, next_unreleased, AreProved}
use Rattle.tesla_walks.specs.Walking.{Walking, rows_of, IsAbove, left, tries, pairs}
use Rattle.tesla_state.proofs.Gathering.{is_past, nothing_given, only_those, past_parts, past_sum, same_given, sum_ones, unreached_unproved}
use Rattle.tesla_state.proofs.UnreachedIntervals.{highest_by, outside_unreached, reached_by}
use Rattle.tesla_state.proofs.Sweeping.{Comes, comes, found_stands, picked_of}

-- ---- what is proved of a packet

-- the release is of the packet, which isn't released
pub record IsOf (item : Holding) (r : Release) : Type 0 where
  pub unreleased : item.released ≡ false
  pub order : item.order ≡ r.place
  pub name : item.name ≡ r.name

on_chain : (item : Holding) (r : Release) (o : Option ℕ) → item.released ≡ false → r ∷ [] ≡ released_on item o → IsOf item r
on_chain item r None u h = absurd (cc)
on_chain item r (Some chain) u h =
    let same : r ≡ record { place = item.order; name = item.name; chain = record { 0 = chain } } = cc in
    record { unreleased = u; order = sym (ap (λ (k : Release). k.place) same); name = sym (ap (λ (k : Release). k.name) same) }

of_proof : (cfg : Config) (tips : List Tip) (new : List KeyRow) (item : Holding) (r : Release) (b : Bool) → item.released ≡ b → r ∷ [] ≡ cond b [] (released_on item (find (proves_on cfg tips new item) (chains cfg))) → IsOf item r
of_proof cfg tips new item r true e h = absurd (cc)
of_proof cfg tips new item r false e h = on_chain item r (find (proves_on cfg tips new item) (chains cfg)) e h

is_ours : (x : Placed) (p : Proved) → IsOf x.holding p.release →
    (not x.holding.released && (x.holding.order == p.release.place && (x.holding.name.interval == p.release.name.interval && x.holding.name.number == p.release.name.number))) ≡ true
is_ours x p h =
    and_from (not x.holding.released) (x.holding.order == p.release.place && (x.holding.name.interval == p.release.name.interval && x.holding.name.number == p.release.name.number)) (ap not h.unreleased)
    (and_from (x.holding.order == p.release.place) (x.holding.name.interval == p.release.name.interval && x.holding.name.number == p.release.name.number) (eq-eqb x.holding.order p.release.place h.order)
    (and_from (x.holding.name.interval == p.release.name.interval) (x.holding.name.number == p.release.name.number)
    (eq-eqb x.holding.name.interval p.release.name.interval (ap (λ (n : Name). n.interval) h.name)) (eq-eqb x.holding.name.number p.release.name.number (ap (λ (n : Name). n.number) h.name))))

pub one_proved : (cfg : Config) (tips : List Tip) (new : List KeyRow) (held : List Placed) (slot : Place) (x : Placed) (o : Option Proved) → find (stands_at slot.0) held ≡ Some x → map release_in (option_to_list o) ≡ proof_of cfg tips new x.holding → IfSome o (λ p. p.place ≡ slot) → AreProved held (option_to_list o)
one_proved cfg tips new held slot x None found is here = refl
one_proved cfg tips new held slot x (Some p) found is here =
    let of : IsOf x.holding p.release = of_proof cfg tips new x.holding p.release x.holding.released refl is in
    let at : find (stands_at p.place.0) held ≡ Some x = ap (λ (k : Place). find (stands_at k.0) held) here ∙ found in
    and_from (list_any (is_proved_by p) held) true
    (found_stands p.place.0 (λ y. not y.holding.released && (y.holding.order == p.release.place && (y.holding.name.interval == p.release.name.interval && y.holding.name.number == p.release.name.number))) x held at (is_ours x p of)) refl

pub map-released : (xs ys : List Proved) → map release_in (xs ++ ys) ≡ map release_in xs ++ map release_in ys
map-released [] ys = refl
map-released (x ∷ xs) ys = ap (λ rs. x.release ∷ rs) (map-released xs ys)

-- ---- a walk through an interval

-- so many packets of the interval that aren't released were tried; this is the slot of the next
pub record Trying (cfg : Config) (tips : List Tip) (begun walks : List Walking) (held : List Placed) (i n : ℕ) (at : Option Place) (before batch : List Proved) : Type 0 where
  pub next : at ≡ first_slot (drop n (filter (is_unreleased_of i) held))
  pub rows : rows_of walks ≡ rows_of begun
  pub above : All (IsAbove i) walks
  pub releases : map release_in batch ≡ map release_in before ++ flat_map (λ (x : Placed). proof_of cfg tips (rows_of begun) x.holding) (take n (filter (is_unreleased_of i) held))
  pub proved : AreProved held before → AreProved held batch
  pub long : length batch ≤ length before + n
  pub within : n ≤ length (filter (is_unreleased_of i) held)

pub trying_none : (cfg : Config) (tips : List Tip) (walks : List Walking) (held : List Placed) (i : ℕ) (at : Option Place) (batch : List Proved) → at ≡ first_slot (filter (is_unreleased_of i) held) → All (IsAbove i) walks → Trying cfg tips walks walks held i 0 at batch batch
trying_none cfg tips walks held i at batch h above = record {
  next = h;
  rows = refl;
  above = above;
  releases = sym (append-nil (map release_in batch));
  proved = λ k. k;
  long = omega arith;
  within = omega arith;
}

pub take_next : {A : Type 0} (n : ℕ) (xs : List A) (y : A) (rest : List A) → drop n xs ≡ y ∷ rest → (take (suc n) xs ≡ take n xs ++ y ∷ []) × (n < length xs)
take_next zero [] y rest h = absurd (cc)
take_next (suc n) [] y rest h = absurd (cc)
take_next zero (x ∷ xs) y rest h = let same : x ≡ y = cc in (ap (λ z. z ∷ []) same, omega arith)
take_next (suc n) (x ∷ xs) y rest h = let r = take_next n xs y rest h in (ap (λ ys. x ∷ ys) r.0, omega (arith, r.1))

pub tried_slot : (cfg : Config) (tips : List Tip) (begun walks : List Walking) (held : List Placed) (i n : ℕ) (slot : Place) (before batch : List Proved) → Distinct (map slot_of held) → Trying cfg tips begun walks held i n (Some slot) before batch → Comes true i n held slot
tried_slot cfg tips begun walks held i n slot before batch d s = comes true i n held slot d s.next

-- the packet there is of the interval
pub above_there : (cfg : Config) (tips : List Tip) (begun walks : List Walking) (held : List Placed) (i n : ℕ) (slot : Place) (before batch : List Proved) → Distinct (map slot_of held) → Trying cfg tips begun walks held i n (Some slot) before batch → (x : Placed) → find (stands_at slot.0) held ≡ Some x → All (IsAbove x.holding.name.interval) walks
above_there cfg tips begun walks held i n slot before batch d s x h =
    let c = comes true i n held slot d s.next in
    let found : Some c.packet ≡ Some x = sym c.found ∙ h in
    let same : c.packet ≡ x = cc in
    subst (λ (k : ℕ). All (IsAbove k) walks) (sym (ap (λ (y : Placed). y.holding.name.interval) (sym same) ∙ picked_of true i c.packet c.of)) s.above

pub room_there : (cfg : Config) (tips : List Tip) (begun walks : List Walking) (held : List Placed) (i n room : ℕ) (slot : Place) (before batch : List Proved) → Distinct (map slot_of held) → Trying cfg tips begun walks held i n (Some slot) before batch → length before + length (filter (is_unreleased_of i) held) ≤ room → length batch < room
room_there cfg tips begun walks held i n room slot before batch d s h =
    let c = comes true i n held slot d s.next in
    let more = (take_next n (filter (is_unreleased_of i) held) c.packet c.behind c.is).1 in
    let long = s.long in
    omega arith

pub trying_more : (cfg : Config) (tips : List Tip) (begun walks later : List Walking) (held : List Placed) (i n : ℕ) (slot : Place) (next : Option Place) (before batch more : List Proved) → Distinct (map slot_of held) → Trying cfg tips begun walks held i n (Some slot) before batch → next ≡ next_unreleased slot.0 held → rows_of later ≡ rows_of walks → ((x : Placed) → find (stands_at slot.0) held ≡ Some x → All (IsAbove x.holding.name.interval) later) → ((x : Placed) → find (stands_at slot.0) held ≡ Some x → map release_in more ≡ map release_in batch ++ proof_of cfg tips (rows_of walks) x.holding) → (AreProved held batch → AreProved held more) → length more ≤ length batch + 1 → Trying cfg tips begun later held i (n + 1) next before more
trying_more cfg tips begun walks later held i n slot next before batch more d s e rows above releases proved long =
    let c = comes true i n held slot d s.next in
    let taken = take_next n (filter (is_unreleased_of i) held) c.packet c.behind c.is in
    let count : suc n ≡ n + 1 = omega arith in
    let f : Placed → List Release = λ (x : Placed). proof_of cfg tips (rows_of begun) x.holding in
    record {
      next = e ∙ c.next;
      rows = rows ∙ s.rows;
      above = subst (λ (k : ℕ). All (IsAbove k) later) (picked_of true i c.packet c.of) (above c.packet c.found);
      releases = releases c.packet c.found
          ∙ ap (λ rs. rs ++ proof_of cfg tips (rows_of walks) c.packet.holding) s.releases
          ∙ ap (λ w. (map release_in before ++ flat_map f (take n (filter (is_unreleased_of i) held))) ++ proof_of cfg tips w c.packet.holding) s.rows
          ∙ append_assoc (map release_in before) (flat_map f (take n (filter (is_unreleased_of i) held))) (f c.packet)
          ∙ ap (λ rs. map release_in before ++ rs) (ap (λ r. flat_map f (take n (filter (is_unreleased_of i) held)) ++ r) (sym (append-nil (f c.packet))) ∙ sym (flat_map-append f (take n (filter (is_unreleased_of i) held)) (c.packet ∷ []))
          ∙ ap (flat_map f) (sym taken.0) ∙ ap (λ (k : ℕ). flat_map f (take k (filter (is_unreleased_of i) held))) count);
      proved = λ k. proved (s.proved k);
      long = (let so_far = s.long in omega arith);
      within = (let within = taken.1 in omega arith);
    }

pub take_all : {A : Type 0} (n : ℕ) (xs : List A) → drop n xs ≡ [] → take n xs ≡ xs
take_all zero [] h = refl
take_all (suc n) [] h = refl
take_all zero (x ∷ xs) h = absurd (cc)
take_all (suc n) (x ∷ xs) h = ap (λ ys. x ∷ ys) (take_all n xs h)

no_first : (xs : List Placed) → first_slot xs ≡ None → xs ≡ []
no_first [] h = refl
no_first (x ∷ xs) h = absurd (cc)

flat_mapped : (f : Holding → List Release) (xs : List Placed) → flat_map f (map holding_at xs) ≡ flat_map (λ (x : Placed). f x.holding) xs
flat_mapped f [] = refl
flat_mapped f (x ∷ xs) = ap (λ rs. f x.holding ++ rs) (flat_mapped f xs)

released_nothing : (b : Bool) (rs : List Release) → b ≡ true → cond b [] rs ≡ []
released_nothing true rs e = refl
released_nothing false rs e = absurd (cc)

turn_step : (f : Holding → List Release) (x : Placed) (a r : Bool) (unreleased all : List Placed) → (r ≡ true → f x.holding ≡ []) → flat_map (λ (y : Placed). f y.holding) unreleased ≡ flat_map (λ (y : Placed). f y.holding) all
    → flat_map (λ (y : Placed). f y.holding) (cond (a && not r) (x ∷ unreleased) unreleased) ≡ flat_map (λ (y : Placed). f y.holding) (cond a (x ∷ all) all)
turn_step f x true true unreleased all none h = h ∙ sym (ap (λ rs. rs ++ flat_map (λ (y : Placed). f y.holding) all) (none refl))
turn_step f x true false unreleased all none h = ap (λ rs. f x.holding ++ rs) h
turn_step f x false r unreleased all none h = h

-- where f gives nothing for a released packet
turn_unreleased : (f : Holding → List Release) → ((item : Holding) → item.released ≡ true → f item ≡ []) → (held : List Placed) (i : ℕ) → flat_map (λ (x : Placed). f x.holding) (filter (is_unreleased_of i) held) ≡ flat_map (λ (x : Placed). f x.holding) (filter (is_of i) held)
turn_unreleased f none [] i = refl
turn_unreleased f none (x ∷ xs) i = turn_step f x (is_of i x) x.holding.released (filter (is_unreleased_of i) xs) (filter (is_of i) xs) (none x.holding) (turn_unreleased f none xs i)

turn_is : (f : Holding → List Release) → ((item : Holding) → item.released ≡ true → f item ≡ []) → (held : List Placed) (i : ℕ) → flat_map (λ (x : Placed). f x.holding) (filter (is_unreleased_of i) held) ≡ in_turn f (map holding_at held) i
turn_is f none held i = turn_unreleased f none held i ∙ sym (ap (flat_map f) (filter-map (in_interval i) holding_at held) ∙ flat_mapped f (filter (is_of i) held))

pub tried_all : (cfg : Config) (tips : List Tip) (begun walks : List Walking) (held : List Placed) (i n : ℕ) (at : Option Place) (before batch : List Proved) → Trying cfg tips begun walks held i n at before batch → drop n (filter (is_unreleased_of i) held) ≡ [] → map release_in batch ≡ map release_in before ++ in_turn (proof_of cfg tips (rows_of begun)) (map holding_at held) i
tried_all cfg tips begun walks held i n at before batch s h =
    s.releases ∙ ap (λ xs. map release_in before ++ flat_map (λ (x : Placed). proof_of cfg tips (rows_of begun) x.holding) xs) (take_all n (filter (is_unreleased_of i) held) h)
    ∙ ap (λ rs. map release_in before ++ rs) (turn_is (proof_of cfg tips (rows_of begun)) (λ item e. released_nothing item.released (released_on item (find (proves_on cfg tips (rows_of begun) item) (chains cfg))) e) held i)

pub none_left : (cfg : Config) (tips : List Tip) (begun walks : List Walking) (held : List Placed) (i n : ℕ) (at : Option Place) (before batch : List Proved) → Trying cfg tips begun walks held i n at before batch → at ≡ None → drop n (filter (is_unreleased_of i) held) ≡ []
none_left cfg tips begun walks held i n at before batch s h = no_first (drop n (filter (is_unreleased_of i) held)) (sym s.next ∙ h)

-- those that aren't released are no more
pub unreleased_few : (held : List Placed) (i : ℕ) → length (filter (is_unreleased_of i) held) ≤ length (filter (is_of i) held)
unreleased_few [] i = omega arith
unreleased_few (x ∷ xs) i =
    let rest = unreleased_few xs i in
    elim (is_of i x) as (λ b. length (cond (b && not x.holding.released) (x ∷ filter (is_unreleased_of i) xs) (filter (is_unreleased_of i) xs)) ≤ length (cond b (x ∷ filter (is_of i) xs) (filter (is_of i) xs))) [
      | true ↦ elim (x.holding.released) as (λ r. length (cond (true && not r) (x ∷ filter (is_unreleased_of i) xs) (filter (is_unreleased_of i) xs)) ≤ length (x ∷ filter (is_of i) xs)) [ true ↦ omega arith | false ↦ omega arith ]
      | false ↦ rest
    ]

-- ---- a walk down the intervals that are reached

-- the packets of an interval count as many with their slots
turn_length : (held : List Placed) (i : ℕ) → length (filter (in_interval i) (map holding_at held)) ≡ length (filter (is_of i) held)
turn_length held i = ap length (filter-map (in_interval i) holding_at held) ∙ length-map (filter (is_of i) held) holding_at

-- the packets of the intervals above this one were tried, or new keys prove nothing of them
pub record Spanning (cfg : Config) (tips : List Tip) (begun walks : List Walking) (held : List Placed) (most : ℕ) (batch : List Proved) : Type 0 where
  pub rows : rows_of walks ≡ rows_of begun
  pub above : All (IsAbove most) walks
  pub releases : IsPermutation (flat_map (proof_of cfg tips (rows_of begun)) (filter (is_past most) (map holding_at held))) (map release_in batch)
  pub proved : AreProved held batch
  pub long : length batch ≤ length (filter (is_past most) (map holding_at held))

below_too : (i j : ℕ) → i ≤ j → (w : Walking) → IsAbove j w → IsAbove i w
below_too i j h w a = omega arith

pub lower_too : (i j : ℕ) → i ≤ j → (walks : List Walking) → All (IsAbove j) walks → All (IsAbove i) walks
lower_too i j h walks all = All-weaker (IsAbove j) (IsAbove i) (below_too i j h) walks all

-- an interval between two others, or one that is above both or neither
past_same : (interval most number : ℕ) → interval ≤ most → (nat_lt interval number && nat_le number most) ≡ false → nat_lt interval number ≡ nat_lt most number
past_same interval most number below out = grind (arith, nat_tests)

not_between : (low high most number : ℕ) → nat_lt most number ≡ false → (nat_lt low number && nat_le number high) ≡ true → (low < number) × (number ≤ most)
not_between low high most number e span = (grind (arith, nat_tests), grind (arith, nat_tests))

outside : (low high number : ℕ) → nat_lt high number ≡ true → (nat_lt low number && nat_le number high) ≡ false
outside low high number e = grind (arith, nat_tests)

module _ (cfg : Config) (tips : List Tip) (begun : List Walking) (held : List Placed) where
  -- a test of intervals: a new key is the first of its chain to reach it
  abbrev met : ℕ → Bool
  met = is_reached (index_in tips) (rows_of begun)

  abbrev proof : Holding → List Release
  proof = proof_of cfg tips (rows_of begun)

  abbrev items : List Holding
  items = map holding_at held

  -- the highest interval that is reached, by the indices of the newest keys
  pub highest_met : (walks : List Walking) (indices : List ℕ) (low most : ℕ) (o : Option ℕ) → AreIndices tips indices → All (IsOfChains (length tips)) (rows_of begun) → rows_of walks ≡ rows_of begun
      → IsHighest (is_reached (index_at indices) (rows_of walks)) low most o → IsHighest met low most o
  highest_met walks indices low most o are chains same is =
      highest_by (is_reached (index_at indices) (rows_of walks)) met low most
      (λ n. ap (λ (rows : List KeyRow). is_reached (index_at indices) rows n) same ∙ reached_by tips indices (rows_of begun) n are chains) o is

  pub spanning_none : (low high : ℕ) (batch : List Proved) → Spans tips (rows_of begun) low high → batch ≡ [] → All (IsAbove high) begun → Spanning cfg tips begun begun held high batch
  spanning_none low high batch spans empty above =
      let none : flat_map proof (filter (is_past high) items) ≡ [] =
      nothing_given proof (is_past high)
      (λ item e. unreached_unproved cfg tips (rows_of begun) item (outside_unreached tips (rows_of begun) low high item.name.interval spans.above spans.below (outside low high item.name.interval e))) items in
      record {
        rows = refl;
        above = above;
        releases = subst (λ (rs : List Release). IsPermutation rs (map release_in batch)) (sym none) (subst (λ (qs : List Proved). IsPermutation [] (map release_in qs)) (sym empty) (IsPermutation-refl []));
        proved = ap (λ qs. list_all (λ (p : Proved). list_any (is_proved_by p) held) qs) empty;
        long = (let nothing : length batch ≡ 0 = ap length empty in omega arith);
      }

  -- the packets of the next interval, and those of intervals above, are among those above the interval before
  turn_fits : (interval most : ℕ) → 0 < interval → interval ≤ most → length (filter (is_of interval) held) + length (filter (is_past most) items) ≤ length (filter (is_past (interval - 1)) items)
  turn_fits interval most some below =
      omega (arith, past_sum (λ item. 1) items interval most some below, sum_ones (filter (in_interval interval) items), sum_ones (filter (is_past most) items), sum_ones (filter (is_past (interval - 1)) items), turn_length held interval)

  pub spanning_room : (walks : List Walking) (interval most room : ℕ) (batch : List Proved) → 0 < interval → interval ≤ most → Spanning cfg tips begun walks held most batch → length held ≤ room → length batch + length (filter (is_of interval) held) ≤ room
  spanning_room walks interval most room batch some below s h =
      let long = s.long in
      omega (arith, turn_fits interval most some below, filter_shorter (is_past (interval - 1)) items, length-map held holding_at)

  -- the next interval that is reached was tried
  pub spanning_more : (walks later : List Walking) (low interval most : ℕ) (batch more : List Proved) → IsHighest met low most (Some interval) → Spanning cfg tips begun walks held most batch → rows_of later ≡ rows_of walks → All (IsAbove interval) later
      → map release_in more ≡ map release_in batch ++ in_turn (proof_of cfg tips (rows_of walks)) items interval → (AreProved held batch → AreProved held more) → length more ≤ length batch + length (filter (is_of interval) held)
      → Spanning cfg tips begun later held (interval - 1) more
  spanning_more walks later low interval most batch more is s rows above releases proved long =
      let some : 0 < interval = omega (arith, is.0) in
      let so_far = s.long in
      let told : map release_in more ≡ map release_in batch ++ in_turn proof items interval =
      releases ∙ ap (λ w. map release_in batch ++ in_turn (proof_of cfg tips w) items interval) s.rows in
      let between : flat_map proof (filter (is_past interval) items) ≡ flat_map proof (filter (is_past most) items) =
      same_given proof (is_past interval) (is_past most)
      (λ item. elim (cases_Bool (nat_lt interval item.name.interval && nat_le item.name.interval most)) [
        | inl e ↦
            let parts = and_parts (nat_lt interval item.name.interval) (nat_le item.name.interval most) e in
            inr (unreached_unproved cfg tips (rows_of begun) item (is.3 item.name.interval (ltb-true interval item.name.interval parts.0) (leb-true item.name.interval most parts.1)))
        | inr e ↦ inl (past_same interval most item.name.interval is.1 e)
      ]) items in
      record {
        rows = rows ∙ s.rows;
        above = lower_too (interval - 1) interval (omega arith) later above;
        releases = subst (λ (rs : List Release). IsPermutation (flat_map proof (filter (is_past (interval - 1)) items)) rs) (sym told)
            (IsPermutation-trans (flat_map proof (filter (is_past (interval - 1)) items)) (in_turn proof items interval ++ flat_map proof (filter (is_past most) items)) (map release_in batch ++ in_turn proof items interval)
            (subst (λ (rs : List Release). IsPermutation (flat_map proof (filter (is_past (interval - 1)) items)) (in_turn proof items interval ++ rs)) between (past_parts proof items interval some))
            (IsPermutation-trans (in_turn proof items interval ++ flat_map proof (filter (is_past most) items)) (flat_map proof (filter (is_past most) items) ++ in_turn proof items interval) (map release_in batch ++ in_turn proof items interval)
            (IsPermutation-append_comm (in_turn proof items interval) (flat_map proof (filter (is_past most) items)))
            (IsPermutation-append_left (in_turn proof items interval) (flat_map proof (filter (is_past most) items)) (map release_in batch) s.releases)));
        proved = proved s.proved;
        long = omega (arith, turn_fits interval most some is.1);
      }

  -- no interval is left that is reached
  pub spanned_releases : (walks : List Walking) (low high most : ℕ) (batch : List Proved) → Spans tips (rows_of begun) low high → IsHighest met low most None → Spanning cfg tips begun walks held most batch → IsPermutation (batch_of cfg tips (rows_of begun) items) (map release_in batch)
  spanned_releases walks low high most batch spans is s =
      subst (λ (rs : List Release). IsPermutation rs (map release_in batch))
      (only_those proof (is_past most)
      (λ item e. unreached_unproved cfg tips (rows_of begun) item
      (elim (cases_Bool (nat_lt low item.name.interval && nat_le item.name.interval high)) [
        | inl span ↦ let here = not_between low high most item.name.interval e span in is item.name.interval here.0 here.1
        | inr out ↦ outside_unreached tips (rows_of begun) low high item.name.interval spans.above spans.below out
      ])) items)
      s.releases

  -- the steps for one interval more
  pub spanning_cost : (walks later : List Walking) (low interval most : ℕ) (batch : List Proved) (start now after : ℕ) → IsHighest met low most (Some interval) → Spanning cfg tips begun walks held most batch
      → now + left tips walks ≤ start + left tips begun + 2 * pairs cfg tips (rows_of begun) (filter (is_past most) items)
      → after + left tips later ≤ now + left tips walks + 2 * pairs cfg tips (rows_of walks) (filter (in_interval interval) items)
      → after + left tips later ≤ start + left tips begun + 2 * pairs cfg tips (rows_of begun) (filter (is_past (interval - 1)) items)
  spanning_cost walks later low interval most batch start now after is s so_far cost =
      let here = subst (λ (rows : List KeyRow). after + left tips later ≤ now + left tips walks + 2 * pairs cfg tips rows (filter (in_interval interval) items)) s.rows cost in
      let some : 0 < interval = omega (arith, is.0) in
      omega (arith, so_far, here, past_sum (tries cfg tips (rows_of begun)) items interval most some is.1)
