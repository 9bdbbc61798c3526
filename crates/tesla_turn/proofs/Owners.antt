-- A function on numbers with one value changed, the tickets of all passes, and lists of one element.
use Rattle.std.proofs.Common.{◌≡◌, ◌≢◌, ◌⊎◌, ⊎_elim, inl, inr, ℕ, zero, suc, ◌+◌, ◌≤◌, List, [], ◌∷◌, ◌++◌, length, get_or, set, refl, sym, ap, arith}
use mathlib.Core.Option.{some, some-injective, some-ne-none}
use native.Mathlib.Decide.{ℕ_discrete}
use lib.ListN.{get_elem?}
use Rattle.tesla_turn.specs.declared.view.View.{View}
use Rattle.tesla_turn.specs.Rule.{all_tickets}

abbrev pick : {P : Type 0} → Dec P → ℕ → ℕ → ℕ
pick (yes _) a b = a
pick (no _) a b = b

pub put : (ℕ → ℕ) → ℕ → ℕ → ℕ → ℕ
put f i c j = pick (ℕ_discrete j i) c (f j)

pub put_here : (f : ℕ → ℕ) (i c : ℕ) → put f i c i ≡ c
unfolding put
put_here f i c = go (ℕ_discrete i i)
  where
    go : (d : Dec (i ≡ i)) → pick d c (f i) ≡ c
    go (yes _) = refl
    go (no n) = absurd (n refl)

pub put_else : (f : ℕ → ℕ) (i c j : ℕ) → j ≢ i → put f i c j ≡ f j
unfolding put
put_else f i c j other = go (ℕ_discrete j i)
  where
    go : (d : Dec (j ≡ i)) → pick d c (f j) ≡ f j
    go (yes e) = absurd (other e)
    go (no _) = refl

module _ {C E : Type 0} where
  pub tickets_set : (vs : List (View C E)) (i : ℕ) (v w : View C E) → get_elem? vs i ≡ some v → all_tickets (set vs i w) + v.tickets ≡ all_tickets vs + w.tickets
  tickets_set [] i v w at = absurd (some-ne-none v (sym at))
  tickets_set (x ∷ vs) zero v w at = let e = ap (λ (u : View C E). u.tickets) (some-injective x v at) in omega arith
  tickets_set (x ∷ vs) (suc i) v w at = let e = tickets_set vs i v w at in omega arith

  pub tickets_snoc : (vs : List (View C E)) (w : View C E) → all_tickets (vs ++ w ∷ []) ≡ all_tickets vs + w.tickets
  tickets_snoc [] w = omega arith
  tickets_snoc (x ∷ vs) w = let e = tickets_snoc vs w in omega arith

  pub tickets_at : (vs : List (View C E)) (i : ℕ) (v : View C E) → get_elem? vs i ≡ some v → v.tickets ≤ all_tickets vs
  tickets_at [] i v at = absurd (some-ne-none v (sym at))
  tickets_at (x ∷ vs) zero v at = let e = ap (λ (u : View C E). u.tickets) (some-injective x v at) in omega arith
  tickets_at (x ∷ vs) (suc i) v at = let e = tickets_at vs i v at in omega arith

module _ {A : Type 0} where
  pub there_below : (l : List A) (i : ℕ) (a : A) → get_elem? l i ≡ some a → suc i ≤ length l
  there_below [] i a at = absurd (some-ne-none a (sym at))
  there_below (x ∷ l) zero a at = omega arith
  there_below (x ∷ l) (suc i) a at = let e = there_below l i a at in omega arith

  -- what stands in a list with one element more
  pub at_end : (l : List A) (a b : A) (j : ℕ) → get_elem? (l ++ a ∷ []) j ≡ some b → (get_elem? l j ≡ some b) ⊎ ((j ≡ length l) × (a ≡ b))
  at_end [] a b zero e = inr (refl, some-injective a b e)
  at_end [] a b (suc j) e = absurd (some-ne-none b (sym e))
  at_end (x ∷ l) a b zero e = inl e
  at_end (x ∷ l) a b (suc j) e = ⊎_elim inl (λ (t : (j ≡ length l) × (a ≡ b)). inr (ap suc t.0, t.1)) (at_end l a b j e)

  pub alone_set : (l : List A) (a : A) → length l ≡ 1 → set l 0 a ≡ a ∷ []
  alone_set [] a e = absurd (omega arith)
  alone_set (x ∷ []) a e = refl
  alone_set (x ∷ y ∷ l) a e = absurd (omega arith)

  -- one default more at the end changes no read
  pub read_grown : (l : List A) (d : A) (k : ℕ) → get_or (l ++ d ∷ []) k d ≡ get_or l k d
  read_grown [] d zero = refl
  read_grown [] d (suc k) = refl
  read_grown (x ∷ l) d zero = refl
  read_grown (x ∷ l) d (suc k) = read_grown l d k
