-- The calls of a pass in a history that grows.
use Rattle.std.proofs.Common.{◌≡◌, ◌≢◌, ℕ, ◌==◌, Bool, true, false, List, [], ◌∷◌, ◌++◌, length, refl, sym, ap, ◌∙◌, if◌then◌else◌, ltb, append_assoc}
use Rattle.std.proofs.lemmas.Bool.{eq-eqb, ne_eqb}
use Rattle.std.proofs.lemmas.List.{append-nil}
use Rattle.tesla_turn.specs.declared.view.Call.{Call}
use Rattle.tesla_turn.specs.History.{entries, calls_by, BeginsWith, longer}

module _ {E : Type 0} where
  pub entries-append : (h g : List (Call E)) → entries (h ++ g) ≡ entries h ++ entries g
  entries-append [] g = refl
  entries-append (c ∷ h) g = ap (λ es. c.entry ∷ es) (entries-append h g)

  put_before : (b : Bool) (x : E) (xs ys : List E) → (if b then x ∷ (xs ++ ys) else xs ++ ys) ≡ (if b then x ∷ xs else xs) ++ ys
  put_before true x xs ys = refl
  put_before false x xs ys = refl

  pub calls_by-append : (k : ℕ) (h g : List (Call E)) → calls_by k (h ++ g) ≡ calls_by k h ++ calls_by k g
  calls_by-append k [] g = refl
  calls_by-append k (c ∷ h) g = ap (λ es. if c.by == k then c.entry ∷ es else es) (calls_by-append k h g) ∙ put_before (c.by == k) c.entry (calls_by k h) (calls_by k g)

  -- a history that begins with a call of the pass, or of another one
  pub calls_here : (c : Call E) (h : List (Call E)) (k : ℕ) → c.by ≡ k → calls_by k (c ∷ h) ≡ c.entry ∷ calls_by k h
  calls_here c h k e = ap (λ (b : Bool). if b then c.entry ∷ calls_by k h else calls_by k h) (eq-eqb c.by k e)

  pub calls_else : (c : Call E) (h : List (Call E)) (k : ℕ) → c.by ≢ k → calls_by k (c ∷ h) ≡ calls_by k h
  calls_else c h k ne = ap (λ (b : Bool). if b then c.entry ∷ calls_by k h else calls_by k h) (ne_eqb c.by k ne)

  -- one call more of the pass itself
  pub calls_by_own : (k : ℕ) (h : List (Call E)) (e : E) → calls_by k (h ++ record { by = k; entry = e } ∷ []) ≡ calls_by k h ++ e ∷ []
  calls_by_own k h e = calls_by-append k h (record { by = k; entry = e } ∷ []) ∙ ap (λ b. calls_by k h ++ (if b then e ∷ [] else [])) (eq-eqb k k refl)

  -- one call more of another pass
  pub calls_by_other : (k j : ℕ) (h : List (Call E)) (e : E) → k ≢ j → calls_by k (h ++ record { by = j; entry = e } ∷ []) ≡ calls_by k h
  calls_by_other k j h e other =
      calls_by-append k h (record { by = j; entry = e } ∷ [])
      ∙ (ap (λ b. calls_by k h ++ (if b then e ∷ [] else [])) (ne_eqb j k (λ i. other (sym i))) ∙ append-nil (calls_by k h))

module _ {A : Type 0} where
  pub begins_self : (xs : List A) → BeginsWith xs xs
  begins_self xs = ([], sym (append-nil xs))

  pub begins_more : (xs ys zs : List A) → BeginsWith ys xs → BeginsWith (ys ++ zs) xs
  begins_more xs ys zs b = (b.0 ++ zs, ap (λ l. l ++ zs) b.1 ∙ append_assoc xs b.0 zs)

  choose : (b : Bool) (P : List A → Type 0) (xs ys : List A) → P xs → P ys → P (if b then ys else xs)
  choose true P xs ys p q = q
  choose false P xs ys p q = p

  pub longer_either : (P : List A → Type 0) (xs ys : List A) → P xs → P ys → P (longer xs ys)
  longer_either P xs ys = choose (ltb (length xs) (length ys)) P xs ys
