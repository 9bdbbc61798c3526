-- A walk along the packets of an interval, some of which are let go on the way.
use Rattle.std.proofs.Common.{◌≡◌, ℕ, ◌+◌, ◌-◌, ◌<◌, ◌≤◌, suc, zero, Bool, true, false, cond, ◌&&◌, ◌||◌, List, [], ◌∷◌, length, map, drop, Option, Some, None, refl, sym, ap, subst, ◌⊎◌, inl, inr, ⊎_elim, ◌∙◌, arith, ◌==◌}
use Rattle.std.specs.Prelude.{not, find, nat_lt, nat_le, min}
use Rattle.std.specs.List.{list_any, list_all, filter}
use Rattle.std.proofs.Math.ListN.{drop_of_length-le}
use Rattle.std.proofs.lemmas.Bool.{cases_Bool, and_from, and_parts, ltb-true, leb-true, or_left, or_right, both_ways, eqb-true, eq-eqb, false_from_ne_true}
use Rattle.std.proofs.Math.Bool.{and-false, and-true}
use Rattle.std.proofs.lemmas.Bool.Decides.{nat_tests}
use Rattle.tesla_base.specs.declared.names.Place.{Place}
use Rattle.tesla_keys.specs.Tip.{Tip}
use Rattle.tesla_base.specs.Members.{is_in, Distinct}
use Rattle.tesla_fitting.specs.declared.config.Config.{Config}
use Rattle.tesla_fitting.specs.Config.{chains}
use Rattle.tesla_walks.specs.ReachedIntervals.{IsHighest}
use Rattle.tesla_walks.specs.Holding.{Holding}
use Rattle.tesla_state.specs.Steps.{is_over, is_passed}
use Rattle.tesla_clock.specs.Safe.{has_chain}
use Rattle.tesla_base.proofs.Lists.{list_all_weaker, drop_suc}
use Rattle.tesla_base.proofs.Filtered.{filter_both, filter_same}
use Rattle.tesla_base.proofs.Members.{head_other}
use Rattle.tesla_state.proofs.Marked.{any_weaker}
use Rattle.tesla_state.specs.Stored.{Placed, Stored, slot_of, stands_at, waits, without, is_of, is_unreleased_at, is_unreleased_of, rests_at, first_slot, next_slot, next_unreleased, is_idle, in_span}

-- the packets of an interval, or those of them alone that aren't released
abbrev pub picks : Bool → ℕ → Placed → Bool
picks true interval x = is_unreleased_of interval x
picks false interval x = is_of interval x

-- the next of them
abbrev pub nexts : Bool → ℕ → List Placed → Option Place
nexts true slot held = next_unreleased slot held
nexts false slot held = next_slot slot held

pub picked_of : (u : Bool) (i : ℕ) (x : Placed) → picks u i x ≡ true → x.holding.name.interval ≡ i
picked_of true i x e = eqb-true x.holding.name.interval i (and_parts (is_of i x) (not x.holding.released) e).0
picked_of false i x e = eqb-true x.holding.name.interval i e

nexts_cons : (u : Bool) (slot : ℕ) (x : Placed) (xs : List Placed) → nexts u slot (x ∷ xs) ≡ cond (stands_at slot x) (first_slot (filter (picks u x.holding.name.interval) xs)) (nexts u slot xs)
nexts_cons true slot x xs = refl
nexts_cons false slot x xs = refl

-- what is held after the first so many packets of an interval were looked at, and let go where they pass a test
pub swept : Bool → ℕ → (Placed → Bool) → ℕ → List Placed → List Placed
swept u i over zero held = held
swept u i over (suc n) [] = []
swept u i over (suc n) (x ∷ xs) = cond (picks u i x) (cond (over x) (swept u i over n xs) (x ∷ swept u i over n xs)) (x ∷ swept u i over (suc n) xs)

some_first : {A : Type 0} (x y : A) (xs ys : List A) → x ∷ xs ≡ y ∷ ys → x ≡ y
some_first x y xs ys h = cc

some_rest : {A : Type 0} (x y : A) (xs ys : List A) → x ∷ xs ≡ y ∷ ys → xs ≡ ys
some_rest x y xs ys h = cc

not_empty : {A : Type 0} (x : A) (xs : List A) → x ∷ xs ≡ [] → ⊥
not_empty x xs h = cc

nothing : {A : Type 0} (n : ℕ) (y : A) (rest : List A) → drop n [] ≡ y ∷ rest → ⊥
nothing zero y rest h = cc
nothing (suc n) y rest h = cc

-- the packet that comes next: it is found, the one behind it, and what stays once it was looked at
pub record Next (u : Bool) (i : ℕ) (over : Placed → Bool) (n : ℕ) (held : List Placed) (y : Placed) (rest : List Placed) : Type 0 where
  pub there : is_in y.place (map slot_of held) ≡ true
  pub of : picks u i y ≡ true
  pub found : find (stands_at y.place) (swept u i over n held) ≡ Some y
  pub next : nexts u y.place (swept u i over n held) ≡ first_slot rest
  pub more : swept u i over (suc n) held ≡ cond (over y) (without y.place (swept u i over n held)) (swept u i over n held)

found_past : (x y : Placed) (s : List Placed) → (x.place == y.place) ≡ false → find (stands_at y.place) s ≡ Some y → find (stands_at y.place) (x ∷ s) ≡ Some y
found_past x y s none h = ap (λ t. cond t (Some x) (find (stands_at y.place) s)) none ∙ h

next_past : (u : Bool) (x y : Placed) (s rest : List Placed) → (x.place == y.place) ≡ false → nexts u y.place s ≡ first_slot rest → nexts u y.place (x ∷ s) ≡ first_slot rest
next_past u x y s rest none h =
    nexts_cons u y.place x s ∙ ap (λ t. cond t (first_slot (filter (picks u x.holding.name.interval) s)) (nexts u y.place s)) none ∙ h

more_past : (x y : Placed) (b : Bool) (s t : List Placed) → (x.place == y.place) ≡ false → t ≡ cond b (without y.place s) s → x ∷ t ≡ cond b (without y.place (x ∷ s)) (x ∷ s)
more_past x y true s t none h = ap (λ r. x ∷ r) h ∙ sym (ap (λ u. cond (not u) (x ∷ without y.place s) (without y.place s)) none)
more_past x y false s t none h = ap (λ r. x ∷ r) h

pub none_without : (p : ℕ) (held : List Placed) → is_in p (map slot_of held) ≡ false → without p held ≡ held
none_without p [] h = refl
none_without p (x ∷ xs) h =
    let first : (x.place == p) ≡ false = false_from_ne_true (x.place == p) (λ e. both_ways (is_in p (map slot_of (x ∷ xs))) h (or_left (x.place == p) (is_in p (map slot_of xs)) e)) in
    let rest : is_in p (map slot_of xs) ≡ false = sym (ap (λ t. t || is_in p (map slot_of xs)) first) ∙ h in
    ap (λ t. cond (not t) (x ∷ without p xs) (without p xs)) first ∙ ap (λ r. x ∷ r) (none_without p xs rest)

-- the first of the interval stands at the head
next_head : (u : Bool) (i : ℕ) (over : Placed → Bool) (x : Placed) (xs : List Placed) → is_in x.place (map slot_of xs) ≡ false → picks u i x ≡ true → Next u i over 0 (x ∷ xs) x (filter (picks u i) xs)
unfolding swept
next_head u i over x xs none e =
    let here : (x.place == x.place) ≡ true = eq-eqb x.place x.place refl in
    record {
      there = or_left (x.place == x.place) (is_in x.place (map slot_of xs)) here;
      of = e;
      found = ap (λ t. cond t (Some x) (find (stands_at x.place) xs)) here;
      next = nexts_cons u x.place x xs ∙ ap (λ t. cond t (first_slot (filter (picks u x.holding.name.interval) xs)) (nexts u x.place xs)) here
          ∙ ap (λ (k : ℕ). first_slot (filter (picks u k) xs)) (picked_of u i x e);
      more = ap (λ t. cond t (cond (over x) xs (x ∷ xs)) (x ∷ swept u i over 1 xs)) e
          ∙ ap (λ r. cond (over x) r (x ∷ xs)) (sym (ap (λ t. cond (not t) (x ∷ without x.place xs) (without x.place xs)) here ∙ none_without x.place xs none));
    }

-- the head was looked at
next_looked : (u : Bool) (i : ℕ) (over : Placed → Bool) (m : ℕ) (x : Placed) (xs : List Placed) (y : Placed) (rest : List Placed) (b : Bool) → over x ≡ b → is_in x.place (map slot_of xs) ≡ false → picks u i x ≡ true → Next u i over m xs y rest → Next u i over (suc m) (x ∷ xs) y rest
unfolding swept
next_looked u i over m x xs y rest true o none e r =
    let now : swept u i over (suc m) (x ∷ xs) ≡ swept u i over m xs = ap (λ t. cond t (cond (over x) (swept u i over m xs) (x ∷ swept u i over m xs)) (x ∷ swept u i over (suc m) xs)) e ∙ ap (λ t. cond t (swept u i over m xs) (x ∷ swept u i over m xs)) o in
    let then : swept u i over (suc (suc m)) (x ∷ xs) ≡ swept u i over (suc m) xs = ap (λ t. cond t (cond (over x) (swept u i over (suc m) xs) (x ∷ swept u i over (suc m) xs)) (x ∷ swept u i over (suc (suc m)) xs)) e ∙ ap (λ t. cond t (swept u i over (suc m) xs) (x ∷ swept u i over (suc m) xs)) o in
    record {
      there = or_right (x.place == y.place) (is_in y.place (map slot_of xs)) r.there;
      of = r.of;
      found = ap (find (stands_at y.place)) now ∙ r.found;
      next = ap (nexts u y.place) now ∙ r.next;
      more = then ∙ r.more ∙ ap (λ s. cond (over y) (without y.place s) s) (sym now);
    }
next_looked u i over m x xs y rest false o none e r =
    let other : (x.place == y.place) ≡ false = head_other y.place x.place (map slot_of xs) none r.there in
    let now : swept u i over (suc m) (x ∷ xs) ≡ x ∷ swept u i over m xs = ap (λ t. cond t (cond (over x) (swept u i over m xs) (x ∷ swept u i over m xs)) (x ∷ swept u i over (suc m) xs)) e ∙ ap (λ t. cond t (swept u i over m xs) (x ∷ swept u i over m xs)) o in
    let then : swept u i over (suc (suc m)) (x ∷ xs) ≡ x ∷ swept u i over (suc m) xs = ap (λ t. cond t (cond (over x) (swept u i over (suc m) xs) (x ∷ swept u i over (suc m) xs)) (x ∷ swept u i over (suc (suc m)) xs)) e ∙ ap (λ t. cond t (swept u i over (suc m) xs) (x ∷ swept u i over (suc m) xs)) o in
    record {
      there = or_right (x.place == y.place) (is_in y.place (map slot_of xs)) r.there;
      of = r.of;
      found = ap (find (stands_at y.place)) now ∙ found_past x y (swept u i over m xs) other r.found;
      next = ap (nexts u y.place) now ∙ next_past u x y (swept u i over m xs) rest other r.next;
      more = then ∙ more_past x y (over y) (swept u i over m xs) (swept u i over (suc m) xs) other r.more ∙ ap (λ s. cond (over y) (without y.place s) s) (sym now);
    }

swept_other : (u : Bool) (i : ℕ) (over : Placed → Bool) (n : ℕ) (x : Placed) (xs : List Placed) → picks u i x ≡ false → swept u i over n (x ∷ xs) ≡ x ∷ swept u i over n xs
unfolding swept
swept_other u i over zero x xs e = refl
swept_other u i over (suc n) x xs e = ap (λ t. cond t (cond (over x) (swept u i over n xs) (x ∷ swept u i over n xs)) (x ∷ swept u i over (suc n) xs)) e

-- the head is of another interval
next_other : (u : Bool) (i : ℕ) (over : Placed → Bool) (n : ℕ) (x : Placed) (xs : List Placed) (y : Placed) (rest : List Placed) → is_in x.place (map slot_of xs) ≡ false → picks u i x ≡ false → Next u i over n xs y rest → Next u i over n (x ∷ xs) y rest
next_other u i over n x xs y rest none e r =
    let other : (x.place == y.place) ≡ false = head_other y.place x.place (map slot_of xs) none r.there in
    let now : swept u i over n (x ∷ xs) ≡ x ∷ swept u i over n xs = swept_other u i over n x xs e in
    record {
      there = or_right (x.place == y.place) (is_in y.place (map slot_of xs)) r.there;
      of = r.of;
      found = ap (find (stands_at y.place)) now ∙ found_past x y (swept u i over n xs) other r.found;
      next = ap (nexts u y.place) now ∙ next_past u x y (swept u i over n xs) rest other r.next;
      more = swept_other u i over (suc n) x xs e ∙ more_past x y (over y) (swept u i over n xs) (swept u i over (suc n) xs) other r.more ∙ ap (λ s. cond (over y) (without y.place s) s) (sym now);
    }

pub next_is : (u : Bool) (i : ℕ) (over : Placed → Bool) (n : ℕ) (held : List Placed) (y : Placed) (rest : List Placed) → Distinct (map slot_of held) → drop n (filter (picks u i) held) ≡ y ∷ rest → Next u i over n held y rest
next_is u i over n [] y rest d h = absurd (nothing n y rest h)
next_is u i over zero (x ∷ xs) y rest d h =
    ⊎_elim
    (λ e. let same : x ∷ filter (picks u i) xs ≡ y ∷ rest = sym (ap (λ t. cond t (x ∷ filter (picks u i) xs) (filter (picks u i) xs)) e) ∙ h in
    let first : x ≡ y = some_first x y (filter (picks u i) xs) rest same in
    let behind : filter (picks u i) xs ≡ rest = some_rest x y (filter (picks u i) xs) rest same in
    subst (λ z. Next u i over 0 (x ∷ xs) z rest) first (subst (λ zs. Next u i over 0 (x ∷ xs) x zs) behind (next_head u i over x xs d.0 e)))
    (λ e. next_other u i over 0 x xs y rest d.0 e (next_is u i over zero xs y rest d.1 (sym (ap (λ t. cond t (x ∷ filter (picks u i) xs) (filter (picks u i) xs)) e) ∙ h)))
    (cases_Bool (picks u i x))
next_is u i over (suc m) (x ∷ xs) y rest d h =
    ⊎_elim
    (λ e. next_looked u i over m x xs y rest (over x) refl d.0 e (next_is u i over m xs y rest d.1 (sym (ap (λ t. drop (suc m) (cond t (x ∷ filter (picks u i) xs) (filter (picks u i) xs))) e) ∙ h)))
    (λ e. next_other u i over (suc m) x xs y rest d.0 e (next_is u i over (suc m) xs y rest d.1 (sym (ap (λ t. drop (suc m) (cond t (x ∷ filter (picks u i) xs) (filter (picks u i) xs))) e) ∙ h)))
    (cases_Bool (picks u i x))

-- all of the interval were looked at
kept_step : (b : Bool) (x : Placed) (s f : List Placed) → s ≡ f → cond b s (x ∷ s) ≡ cond (not b) (x ∷ f) f
kept_step true x s f h = h
kept_step false x s f h = ap (λ r. x ∷ r) h

pub swept_all : (u : Bool) (i : ℕ) (over : Placed → Bool) (n : ℕ) (held : List Placed) → drop n (filter (picks u i) held) ≡ [] → swept u i over n held ≡ filter (λ x. not (picks u i x && over x)) held
unfolding swept
swept_all u i over zero [] h = refl
swept_all u i over (suc n) [] h = refl
swept_all u i over zero (x ∷ xs) h =
    ⊎_elim
    (λ e. absurd (not_empty x (filter (picks u i) xs) (sym (ap (λ t. cond t (x ∷ filter (picks u i) xs) (filter (picks u i) xs)) e) ∙ h)))
    (λ e. ap (λ r. x ∷ r) (swept_all u i over zero xs (sym (ap (λ t. cond t (x ∷ filter (picks u i) xs) (filter (picks u i) xs)) e) ∙ h))
    ∙ sym (ap (λ t. cond (not (t && over x)) (x ∷ filter (λ y. not (picks u i y && over y)) xs) (filter (λ y. not (picks u i y && over y)) xs)) e))
    (cases_Bool (picks u i x))
swept_all u i over (suc m) (x ∷ xs) h =
    ⊎_elim
    (λ e. let rest = swept_all u i over m xs (sym (ap (λ t. drop (suc m) (cond t (x ∷ filter (picks u i) xs) (filter (picks u i) xs))) e) ∙ h) in
    ap (λ t. cond t (cond (over x) (swept u i over m xs) (x ∷ swept u i over m xs)) (x ∷ swept u i over (suc m) xs)) e
    ∙ kept_step (over x) x (swept u i over m xs) (filter (λ y. not (picks u i y && over y)) xs) rest
    ∙ sym (ap (λ t. cond (not (t && over x)) (x ∷ filter (λ y. not (picks u i y && over y)) xs) (filter (λ y. not (picks u i y && over y)) xs)) e))
    (λ e. let rest = swept_all u i over (suc m) xs (sym (ap (λ t. drop (suc m) (cond t (x ∷ filter (picks u i) xs) (filter (picks u i) xs))) e) ∙ h) in
    ap (λ t. cond t (cond (over x) (swept u i over m xs) (x ∷ swept u i over m xs)) (x ∷ swept u i over (suc m) xs)) e
    ∙ ap (λ r. x ∷ r) rest
    ∙ sym (ap (λ t. cond (not (t && over x)) (x ∷ filter (λ y. not (picks u i y && over y)) xs) (filter (λ y. not (picks u i y && over y)) xs)) e))
    (cases_Bool (picks u i x))

-- ---- a walk through an interval

-- so many packets of the interval were looked at; this is the slot of the next
pub record Sweeping (old new : Stored) (u : Bool) (i : ℕ) (over : Placed → Bool) (n : ℕ) (at : Option Place) : Type 0 where
  pub capacity : new.capacity ≡ old.capacity
  pub reserved : new.reserved ≡ old.reserved
  pub chains : new.chains ≡ old.chains
  pub waiting : new.waiting ≡ old.waiting
  pub given : new.given ≡ old.given
  pub held : new.held ≡ swept u i over n old.held
  pub next : at ≡ first_slot (drop n (filter (picks u i) old.held))

pub sweeping_none : (old : Stored) (u : Bool) (i : ℕ) (over : Placed → Bool) (o : Option Place) → o ≡ first_slot (filter (picks u i) old.held) → Sweeping old old u i over 0 o
unfolding swept
sweeping_none old u i over o h = record { capacity = refl; reserved = refl; chains = refl; waiting = refl; given = refl; held = refl; next = h }

first_none : (xs : List Placed) → first_slot xs ≡ None → xs ≡ []
first_none [] h = refl
first_none (x ∷ xs) h = absurd (cc)

pub record FirstOf (xs : List Placed) (slot : Place) : Type 0 where
  pub first : Placed
  pub rest : List Placed
  pub is : xs ≡ first ∷ rest
  pub slot_is : slot.0 ≡ first.place

pub first_some : (xs : List Placed) (slot : Place) → first_slot xs ≡ Some slot → FirstOf xs slot
first_some [] slot h = absurd (cc)
first_some (x ∷ xs) slot h = record { first = x; rest = xs; is = refl; slot_is = (let same : record { 0 = x.place } ≡ slot = cc in sym (ap (λ (p : Place). p.0) same)) }

pub swept_through : (old new : Stored) (u : Bool) (i : ℕ) (over : Placed → Bool) (n : ℕ) (next : Option Place) → Sweeping old new u i over n next → next ≡ None → new.held ≡ filter (λ x. not (picks u i x && over x)) old.held
swept_through old new u i over n next s none =
    s.held ∙ swept_all u i over n old.held (first_none (drop n (filter (picks u i) old.held)) (sym s.next ∙ none))

pub swept_long : (old new : Stored) (u : Bool) (i : ℕ) (over : Placed → Bool) (n : ℕ) (next : Option Place) → Sweeping old new u i over n next → length (filter (picks u i) old.held) ≤ n → new.held ≡ filter (λ x. not (picks u i x && over x)) old.held
swept_long old new u i over n next s all = s.held ∙ swept_all u i over n old.held (drop_of_length-le (filter (picks u i) old.held) all)

pub next_at : (old new : Stored) (u : Bool) (i : ℕ) (over : Placed → Bool) (n : ℕ) (slot : Place) → Sweeping old new u i over n (Some slot) → FirstOf (drop n (filter (picks u i) old.held)) slot
next_at old new u i over n slot s = first_some (drop n (filter (picks u i) old.held)) slot (sym s.next)

pub found_next : (old new : Stored) (u : Bool) (i : ℕ) (over : Placed → Bool) (n : ℕ) (slot : Place) → Distinct (map slot_of old.held) → (s : Sweeping old new u i over n (Some slot)) → find (stands_at slot.0) new.held ≡ Some (next_at old new u i over n slot s).first
found_next old new u i over n slot d s =
    let f = next_at old new u i over n slot s in
    ap (find (stands_at slot.0)) s.held ∙ ap (λ (p : ℕ). find (stands_at p) (swept u i over n old.held)) f.slot_is
    ∙ (next_is u i over n old.held f.first f.rest d f.is).found

-- it is one of those that are picked
pub found_picked : (old new : Stored) (u : Bool) (i : ℕ) (over : Placed → Bool) (n : ℕ) (slot : Place) → Distinct (map slot_of old.held) → (s : Sweeping old new u i over n (Some slot)) → picks u i (next_at old new u i over n slot s).first ≡ true
found_picked old new u i over n slot d s = let f = next_at old new u i over n slot s in (next_is u i over n old.held f.first f.rest d f.is).of

pub sweeping_more : (old new then : Stored) (u : Bool) (i : ℕ) (over : Placed → Bool) (n : ℕ) (slot : Place) (next : Option Place) → Distinct (map slot_of old.held) → Sweeping old new u i over n (Some slot) → next ≡ nexts u slot.0 new.held → then.capacity ≡ new.capacity → then.reserved ≡ new.reserved → then.chains ≡ new.chains → then.waiting ≡ new.waiting → then.given ≡ new.given → ((x : Placed) → find (stands_at slot.0) new.held ≡ Some x → then.held ≡ cond (over x) (without slot.0 new.held) new.held) → Sweeping old then u i over (n + 1) next
sweeping_more old new then u i over n slot next d s e capacity reserved chains waiting given held =
    let f = next_at old new u i over n slot s in
    let r = next_is u i over n old.held f.first f.rest d f.is in
    let count : suc n ≡ n + 1 = omega arith in
    record {
      capacity = capacity ∙ s.capacity;
      reserved = reserved ∙ s.reserved;
      chains = chains ∙ s.chains;
      waiting = waiting ∙ s.waiting;
      given = given ∙ s.given;
      held = held f.first (found_next old new u i over n slot d s)
          ∙ ap (λ (p : ℕ). cond (over f.first) (without p new.held) new.held) f.slot_is
          ∙ ap (λ h. cond (over f.first) (without f.first.place h) h) s.held
          ∙ sym r.more ∙ ap (λ (k : ℕ). swept u i over k old.held) count;
      next = e ∙ ap (nexts u slot.0) s.held ∙ ap (λ (p : ℕ). nexts u p (swept u i over n old.held)) f.slot_is ∙ r.next
          ∙ ap first_slot (sym (drop_suc (filter (picks u i) old.held) n f.first f.rest f.is)) ∙ ap (λ (k : ℕ). first_slot (drop k (filter (picks u i) old.held))) count;
    }

pub found_stands : (p : ℕ) (f : Placed → Bool) (x : Placed) (held : List Placed) → find (stands_at p) held ≡ Some x → f x ≡ true → list_any (λ y. stands_at p y && f y) held ≡ true
found_stands p f x [] h k = absurd (cc)
found_stands p f x (y ∷ ys) h k =
    ⊎_elim
    (λ e. let same : Some y ≡ Some x = sym (ap (λ t. cond t (Some y) (find (stands_at p) ys)) e) ∙ h in
    let here : y ≡ x = cc in
    or_left (stands_at p y && f y) (list_any (λ z. stands_at p z && f z) ys) (and_from (stands_at p y) (f y) e (ap f here ∙ k)))
    (λ e. or_right (stands_at p y && f y) (list_any (λ z. stands_at p z && f z) ys) (found_stands p f x ys (sym (ap (λ t. cond t (Some y) (find (stands_at p) ys)) e) ∙ h) k))
    (cases_Bool (stands_at p y))

pub found_any : (p : ℕ) (x : Placed) (held : List Placed) → find (stands_at p) held ≡ Some x → list_any (stands_at p) held ≡ true
found_any p x [] h = absurd (cc)
found_any p x (y ∷ ys) h =
    ⊎_elim
    (λ e. or_left (stands_at p y) (list_any (stands_at p) ys) e)
    (λ e. or_right (stands_at p y) (list_any (stands_at p) ys) (found_any p x ys (sym (ap (λ t. cond t (Some y) (find (stands_at p) ys)) e) ∙ h)))
    (cases_Bool (stands_at p y))

unreleased_waits_not : (a r t : Bool) → (a && not r) ≡ true → (a && not (r && not t)) ≡ true
unreleased_waits_not a true t h = absurd (both_ways (a && false) (and-false a) h)
unreleased_waits_not a false t h = h

-- a packet that isn't released doesn't wait to be taken
pub unreleased_rests : (p : ℕ) (held : List Placed) → list_any (is_unreleased_at p) held ≡ true → list_any (rests_at p) held ≡ true
unreleased_rests p held h = any_weaker (is_unreleased_at p) (rests_at p) (λ x e. unreleased_waits_not (stands_at p x) x.holding.released x.holding.taken e) held h

pub unreleased_stands : (p : ℕ) (held : List Placed) → list_any (is_unreleased_at p) held ≡ true → list_any (stands_at p) held ≡ true
unreleased_stands p held h = any_weaker (is_unreleased_at p) (stands_at p) (λ x e. (and_parts (stands_at p x) (not x.holding.released) e).0) held h

-- ---- what isn't needed any more

-- released, taken, no chain can prove it, every chain has passed it
idle_passed : (r t a p : Bool) → a ≡ true → p ≡ true → not (r && not t) ≡ (((false || a) && not r) || (t && p))
idle_passed r t false p h k = absurd (cc)
idle_passed r t true false h k = absurd (cc)
idle_passed true true true true h k = refl
idle_passed true false true true h k = refl
idle_passed false t true true h k = refl

-- of the interval, and the same
idle_open : (s r t a p : Bool) → p ≡ false → ((s && not r) && a) ≡ (s && (((false || a) && not r) || (t && p)))
idle_open s r t a true h = absurd (cc)
idle_open false r t a false h = refl
idle_open true true true true false h = refl
idle_open true true true false false h = refl
idle_open true true false true false h = refl
idle_open true true false false false h = refl
idle_open true false t true false h = refl
idle_open true false true false false h = refl
idle_open true false false false false h = refl

module _ (cfg : Config) (tips : List Tip) (i : ℕ) where
  over_too : (x : Holding) → list_all (is_passed tips x.name.interval) (chains cfg) ≡ true → list_all (is_over tips x) (chains cfg) ≡ true
  over_too x h = list_all_weaker (is_passed tips x.name.interval) (is_over tips x) (chains cfg) (λ c k. or_right (not (has_chain x.chains c)) (is_passed tips x.name.interval c) k) h

  -- where every chain has passed the interval, a packet is needed only while it waits to be taken
  pub passed_go : list_all (is_passed tips i) (chains cfg) ≡ true → (held : List Placed) → filter (λ x. not (is_of i x && not (waits x))) held ≡ filter (λ x. not (is_of i x && is_idle cfg tips x)) held
  passed_go h held =
      filter_same (λ x. not (is_of i x && not (waits x))) (λ x. not (is_of i x && is_idle cfg tips x)) held
      (λ x. elim (cases_Bool (is_of i x)) [
        | inl e ↦
            let passed : list_all (is_passed tips x.holding.name.interval) (chains cfg) ≡ true = ap (λ (k : ℕ). list_all (is_passed tips k) (chains cfg)) (eqb-true x.holding.name.interval i e) ∙ h in
            ap (λ t. not (is_of i x && t))
            (idle_passed x.holding.released x.holding.taken (list_all (is_over tips x.holding) (chains cfg)) (list_all (is_passed tips x.holding.name.interval) (chains cfg)) (over_too x.holding passed) passed)
        | inr e ↦ ap (λ t. not (t && not (waits x))) e ∙ sym (ap (λ t. not (t && is_idle cfg tips x)) e)
      ])

  -- before that, a released packet is needed
  pub unreleased_go : list_all (is_passed tips i) (chains cfg) ≡ false → (held : List Placed) → filter (λ x. not (is_unreleased_of i x && list_all (is_over tips x.holding) (chains cfg))) held ≡ filter (λ x. not (is_of i x && is_idle cfg tips x)) held
  unreleased_go h held =
      filter_same (λ x. not (is_unreleased_of i x && list_all (is_over tips x.holding) (chains cfg))) (λ x. not (is_of i x && is_idle cfg tips x)) held
      (λ x. ap not (elim (cases_Bool (is_of i x)) [
        | inl e ↦
            idle_open (is_of i x) x.holding.released x.holding.taken (list_all (is_over tips x.holding) (chains cfg)) (list_all (is_passed tips x.holding.name.interval) (chains cfg))
            (ap (λ (k : ℕ). list_all (is_passed tips k) (chains cfg)) (eqb-true x.holding.name.interval i e) ∙ h)
        | inr e ↦ ap (λ t. (t && not x.holding.released) && list_all (is_over tips x.holding) (chains cfg)) e ∙ sym (ap (λ t. t && is_idle cfg tips x) e)
      ]))

-- ---- intervals one after another

span_none : (high i : ℕ) → (nat_lt high i && nat_le i high) ≡ false
span_none high i = grind (arith, nat_tests)

all_stay : {A : Type 0} (p : A → Bool) → ((x : A) → p x ≡ true) → (xs : List A) → filter p xs ≡ xs
all_stay p h [] = refl
all_stay p h (x ∷ xs) = ap (λ t. cond t (x ∷ filter p xs) (filter p xs)) (h x) ∙ ap (λ ys. x ∷ ys) (all_stay p h xs)

-- the packets of the intervals above this one, up to the highest, were let go where the interval passes one test and the packet another
pub record Spanned (old new : Stored) (met : ℕ → Bool) (over : Placed → Bool) (low most high : ℕ) : Type 0 where
  pub capacity : new.capacity ≡ old.capacity
  pub reserved : new.reserved ≡ old.reserved
  pub chains : new.chains ≡ old.chains
  pub waiting : new.waiting ≡ old.waiting
  pub given : new.given ≡ old.given
  pub held : new.held ≡ filter (λ x. not ((in_span most high x && met x.holding.name.interval) && over x)) old.held
  pub within : most ≤ high
  pub least : min low high ≤ most

pub spanned_none : (old : Stored) (met : ℕ → Bool) (over : Placed → Bool) (low high : ℕ) → Spanned old old met over low high high
spanned_none old met over low high = record {
  capacity = refl;
  reserved = refl;
  chains = refl;
  waiting = refl;
  given = refl;
  held = sym (all_stay (λ x. not ((in_span high high x && met x.holding.name.interval) && over x)) (λ x. ap (λ t. not ((t && met x.holding.name.interval) && over x)) (span_none high x.holding.name.interval)) old.held);
  within = omega arith;
  least = omega arith;
}

-- the interval itself
span_here : (interval most high i : ℕ) → 0 < interval → interval ≤ most → most ≤ high → (i == interval) ≡ true → ((nat_lt most i && nat_le i high) ≡ false) × ((nat_lt (interval - 1) i && nat_le i high) ≡ true)
span_here interval most high i some below within e = (grind (arith, nat_tests), grind (arith, nat_tests))

-- another that isn't between
span_other : (interval most high i : ℕ) → 0 < interval → interval ≤ most → (i == interval) ≡ false → (nat_lt interval i && nat_le i most) ≡ false → (nat_lt most i && nat_le i high) ≡ (nat_lt (interval - 1) i && nat_le i high)
span_other interval most high i some below e out = grind (arith, nat_tests)

-- none is left
span_rest : (low most high i : ℕ) → most ≤ high → min low high ≤ most → (nat_lt low i && nat_le i most) ≡ false → (nat_lt most i && nat_le i high) ≡ (nat_lt low i && nat_le i high)
span_rest low most high i within least out = grind (arith, nat_tests)

-- of this interval, of those above, of those above the one before, passes the test of the interval, the other test
one_here : (t s r m o : Bool) → t ≡ true → s ≡ false → r ≡ true → m ≡ true → (not ((s && m) && o) && not (t && o)) ≡ not ((r && m) && o)
one_here true false true true o a b c d = refl
one_here false s r m o a b c d = absurd (cc)
one_here true true r m o a b c d = absurd (cc)
one_here true false false m o a b c d = absurd (cc)
one_here true false true false o a b c d = absurd (cc)

one_other : (t s r m o : Bool) → t ≡ false → (s ≡ r) ⊎ (m ≡ false) → (not ((s && m) && o) && not (t && o)) ≡ not ((r && m) && o)
one_other true s r m o a b = absurd (cc)
one_other false s r m o a (inl e) = and-true (not ((s && m) && o)) ∙ ap (λ t. not ((t && m) && o)) e
one_other false s r m o a (inr e) = and-true (not ((s && m) && o)) ∙ ap (λ t. not (t && o)) (ap (λ k. s && k) e ∙ and-false s) ∙ sym (ap (λ t. not (t && o)) (ap (λ k. r && k) e ∙ and-false r))

module _ (met : ℕ → Bool) (over : Placed → Bool) (low most high : ℕ) where
  -- one packet, once the next interval was looked at
  one_more : (interval : ℕ) → IsHighest met low most (Some interval) → most ≤ high → (x : Placed) →
      (not ((in_span most high x && met x.holding.name.interval) && over x) && not (is_of interval x && over x)) ≡ not ((in_span (interval - 1) high x && met x.holding.name.interval) && over x)
  one_more interval is within x =
      let i : ℕ = x.holding.name.interval in
      let some : 0 < interval = omega (arith, is.0) in
      elim (cases_Bool (i == interval)) [
        | inl e ↦
            let here = span_here interval most high i some is.1 within e in
            one_here (i == interval) (in_span most high x) (in_span (interval - 1) high x) (met i) (over x) e here.0 here.1 (ap met (eqb-true i interval e) ∙ is.2)
        | inr e ↦
            one_other (i == interval) (in_span most high x) (in_span (interval - 1) high x) (met i) (over x) e
            (elim (cases_Bool (nat_lt interval i && nat_le i most)) [
              | inl between ↦ let parts = and_parts (nat_lt interval i) (nat_le i most) between in inr (is.3 i (ltb-true interval i parts.0) (leb-true i most parts.1))
              | inr out ↦ inl (span_other interval most high i some is.1 e out)
            ])
      ]

  -- the next interval was looked at
  pub spanned_more : (old new then : Stored) (interval : ℕ) → IsHighest met low most (Some interval) → Spanned old new met over low most high → then.capacity ≡ new.capacity → then.reserved ≡ new.reserved → then.chains ≡ new.chains → then.waiting ≡ new.waiting → then.given ≡ new.given
      → then.held ≡ filter (λ x. not (is_of interval x && over x)) new.held → Spanned old then met over low (interval - 1) high
  spanned_more old new then interval is s capacity reserved chains waiting given held = record {
    capacity = capacity ∙ s.capacity;
    reserved = reserved ∙ s.reserved;
    chains = chains ∙ s.chains;
    waiting = waiting ∙ s.waiting;
    given = given ∙ s.given;
    held = held ∙ ap (filter (λ x. not (is_of interval x && over x))) s.held
        ∙ filter_both (λ x. not ((in_span most high x && met x.holding.name.interval) && over x)) (λ x. not (is_of interval x && over x)) old.held
        ∙ filter_same (λ x. not ((in_span most high x && met x.holding.name.interval) && over x) && not (is_of interval x && over x)) (λ x. not ((in_span (interval - 1) high x && met x.holding.name.interval) && over x)) old.held (one_more interval is s.within);
    within = omega (arith, s.within, is.1);
    least = omega (arith, is.0);
  }

  -- no interval is left that passes the test
  pub span_ends : (old new : Stored) → IsHighest met low most None → Spanned old new met over low most high → new.held ≡ filter (λ x. not ((in_span low high x && met x.holding.name.interval) && over x)) old.held
  span_ends old new is s =
      s.held ∙ filter_same (λ x. not ((in_span most high x && met x.holding.name.interval) && over x)) (λ x. not ((in_span low high x && met x.holding.name.interval) && over x)) old.held
      (λ x. let i : ℕ = x.holding.name.interval in
      elim (cases_Bool (nat_lt low i && nat_le i most)) [
        | inl between ↦
            let parts = and_parts (nat_lt low i) (nat_le i most) between in
            let none : met i ≡ false = is i (ltb-true low i parts.0) (leb-true i most parts.1) in
            ap (λ t. not (t && over x)) (ap (λ k. in_span most high x && k) none ∙ and-false (in_span most high x) ∙ sym (ap (λ k. in_span low high x && k) none ∙ and-false (in_span low high x)))
        | inr out ↦ ap (λ t. not ((t && met i) && over x)) (span_rest low most high i s.within s.least out)
      ])

-- ---- a walk that lets nothing go

pub never : Placed → Bool
never x = false

pub swept_never : (u : Bool) (i n : ℕ) (held : List Placed) → swept u i never n held ≡ held
unfolding swept never
swept_never u i zero held = refl
swept_never u i (suc n) [] = refl
swept_never u i (suc n) (x ∷ xs) =
    ⊎_elim
    (λ e. ap (λ t. cond t (x ∷ swept u i never n xs) (x ∷ swept u i never (suc n) xs)) e ∙ ap (λ r. x ∷ r) (swept_never u i n xs))
    (λ e. ap (λ t. cond t (x ∷ swept u i never n xs) (x ∷ swept u i never (suc n) xs)) e ∙ ap (λ r. x ∷ r) (swept_never u i (suc n) xs))
    (cases_Bool (picks u i x))

-- the packet that comes next, where nothing is let go
pub record Comes (u : Bool) (i n : ℕ) (held : List Placed) (slot : Place) : Type 0 where
  pub packet : Placed
  pub behind : List Placed
  pub is : drop n (filter (picks u i) held) ≡ packet ∷ behind
  pub of : picks u i packet ≡ true
  pub found : find (stands_at slot.0) held ≡ Some packet
  pub next : nexts u slot.0 held ≡ first_slot (drop (n + 1) (filter (picks u i) held))

pub comes : (u : Bool) (i n : ℕ) (held : List Placed) (slot : Place) → Distinct (map slot_of held) → Some slot ≡ first_slot (drop n (filter (picks u i) held)) → Comes u i n held slot
comes u i n held slot d h =
    let f = first_some (drop n (filter (picks u i) held)) slot (sym h) in
    let r = next_is u i never n held f.first f.rest d f.is in
    let count : suc n ≡ n + 1 = omega arith in
    record {
      packet = f.first;
      behind = f.rest;
      is = f.is;
      of = r.of;
      found = ap (λ (p : ℕ). find (stands_at p) held) f.slot_is ∙ ap (find (stands_at f.first.place)) (sym (swept_never u i n held)) ∙ r.found;
      next = ap (λ (p : ℕ). nexts u p held) f.slot_is ∙ ap (nexts u f.first.place) (sym (swept_never u i n held)) ∙ r.next
          ∙ ap first_slot (sym (drop_suc (filter (picks u i) held) n f.first f.rest f.is)) ∙ ap (λ (k : ℕ). first_slot (drop k (filter (picks u i) held))) count;
    }
