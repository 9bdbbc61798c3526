-- Permitted calls of a history that grows, of its beginnings, and of one pass.
use Rattle.std.proofs.Common.{◌≡◌, ◌⊎◌, inl, inr, ⊎_elim, ℕ, suc, List, [], ◌∷◌, ◌++◌, length, take, drop, Some, refl, sym, ap, ◌∙◌, subst, arith, append_assoc, length-append}
use Rattle.std.specs.Prelude.{slice_get}
use Rattle.std.proofs.Math.Seq.{drop-cons}
use Rattle.std.proofs.lemmas.List.{take-append-drop}
use Rattle.std.proofs.lemmas.Option.{get_or_from_slice_get, slice_get_within}
use mathlib.Core.Logic.{dite}
use native.Mathlib.Decide.{ℕ_discrete}
use Rattle.tesla_turn.specs.declared.view.Call.{Call}
use Rattle.tesla_turn.specs.History.{calls_by}
use Rattle.tesla_turn.specs.Permitted.{ArePermitted}
use Rattle.tesla_turn.proofs.Histories.{calls_here, calls_else}

module _ {A : Type 0} where
  -- an element of a list with one more at the end is that one, or stands in the list
  at_or_before_end : (xs : List A) (x : A) (before : List A) (y : A) (after : List A)
      → xs ++ x ∷ [] ≡ before ++ y ∷ after
      → ((before ≡ xs) × (y ≡ x)) ⊎ ((rest : List A) × (xs ≡ before ++ y ∷ rest))
  at_or_before_end [] x [] y after e = inl (refl, cc)
  at_or_before_end [] x (b ∷ before) y after e =
      let n = ap length e in let m = length-append before (y ∷ after) in absurd (omega arith)
  at_or_before_end (z ∷ xs) x [] y after e = inr (xs, cc)
  at_or_before_end (z ∷ xs) x (b ∷ before) y after e =
      let first : z ≡ b = cc in let others : xs ++ x ∷ [] ≡ before ++ y ∷ after = cc in
      ⊎_elim (λ (t : (before ≡ xs) × (y ≡ x)). inl ((λ i. sym first i ∷ t.0 i), t.1))
      (λ (t : (rest : List A) × (xs ≡ before ++ y ∷ rest)). inr (t.0, λ i. first i ∷ t.1 i))
      (at_or_before_end xs x before y after others)

module _ {E : Type 0} where
  -- a call of the pass k in a history, by those that k made before it
  record Found (k : ℕ) (log : List (Call E)) (front : List E) (e : E) : Type 0 where
    before : List (Call E)
    call : Call E
    after : List (Call E)
    log_is : log ≡ before ++ call ∷ after
    by_is : call.by ≡ k
    front_is : calls_by k before ≡ front
    entry_is : call.entry ≡ e

  found_later : (k : ℕ) (c : Call E) (log : List (Call E)) (front front' : List E) (e : E) → Found k log front e
      → ((before : List (Call E)) → calls_by k before ≡ front → calls_by k (c ∷ before) ≡ front')
      → Found k (c ∷ log) front' e
  found_later k c log front front' e f more = record {
    before = c ∷ f.before;
    call = f.call;
    after = f.after;
    log_is = ap (λ h. c ∷ h) f.log_is;
    by_is = f.by_is;
    front_is = more f.before f.front_is;
    entry_is = f.entry_is;
  }

  found_own : (k : ℕ) (c : Call E) (log : List (Call E)) (front : List E) (e : E) (rest : List E) → c.by ≡ k
      → c.entry ∷ calls_by k log ≡ front ++ e ∷ rest
      → ((others : List E) → calls_by k log ≡ others ++ e ∷ rest → Found k log others e) → Found k (c ∷ log) front e
  found_own k c log [] e rest own is later = record {
    before = [];
    call = c;
    after = log;
    log_is = refl;
    by_is = own;
    front_is = refl;
    entry_is = cc;
  }
  found_own k c log (x ∷ front) e rest own is later =
      let first : c.entry ≡ x = cc in let others : calls_by k log ≡ front ++ e ∷ rest = cc in
      found_later k c log front (x ∷ front) e (later front others)
      (λ before same. calls_here c before k own ∙ (λ i. first i ∷ same i))

  found : (k : ℕ) (log : List (Call E)) (front : List E) (e : E) (rest : List E)
      → calls_by k log ≡ front ++ e ∷ rest → Found k log front e
  found k [] front e rest is =
      let n = ap length is in let m = length-append front (e ∷ rest) in absurd (omega arith)
  found k (c ∷ log) front e rest is = dite (ℕ_discrete c.by k)
      (λ own. found_own k c log front e rest own (sym (calls_here c log k own) ∙ is)
      (λ others later. found k log others e rest later))
      (λ other. found_later k c log front front e (found k log front e rest (sym (calls_else c log k other) ∙ is))
      (λ before same. calls_else c before k other ∙ same))

module _ {E : Type 0} (may : ℕ → List E → E → Type 0) where
  -- a history without calls
  pub permitted_none : ArePermitted may []
  permitted_none = record {
    each = λ before call after e.
        let n = ap length e in let m = length-append before (call ∷ after) in absurd (omega arith);
  }

  -- one call more, which is permitted
  pub permitted_more : (log : List (Call E)) (c : Call E) → ArePermitted may log
      → may c.by (calls_by c.by log) c.entry → ArePermitted may (log ++ c ∷ [])
  permitted_more log c known last = record {
    each = λ before call after e. ⊎_elim
        (λ (t : (before ≡ log) × (call ≡ c)).
        subst (λ (z : List (Call E) × Call E). may z.1.by (calls_by z.1.by z.0) z.1.entry)
        (λ i. (sym t.0 i, sym t.1 i)) last)
        (λ (t : (rest : List (Call E)) × (log ≡ before ++ call ∷ rest)). known.each before call t.0 t.1)
        (at_or_before_end log c before call after e);
  }

  -- the last call
  pub permitted_last : (log : List (Call E)) (c : Call E) → ArePermitted may (log ++ c ∷ [])
      → may c.by (calls_by c.by log) c.entry
  permitted_last log c known = known.each log c [] refl

  -- a beginning of a history
  pub permitted_before : (log more : List (Call E)) → ArePermitted may (log ++ more) → ArePermitted may log
  permitted_before log more known = record {
    each = λ before call after e. known.each before call (after ++ more)
        (ap (λ h. h ++ more) e ∙ append_assoc before (call ∷ after) more);
  }

  -- of one pass, each call was permitted behind those that it made before
  pub permitted_by_pass : (log : List (Call E)) → ArePermitted may log
      → (k : ℕ) (front : List E) (e : E) (rest : List E) → calls_by k log ≡ front ++ e ∷ rest → may k front e
  permitted_by_pass log known k front e rest is =
      let f = found k log front e rest is in
      let own = subst (λ (j : ℕ). may j (calls_by j f.before) f.call.entry) f.by_is
      (known.each f.before f.call f.after f.log_is) in
      subst (λ (z : List E × E). may k z.0 z.1) (λ i. (f.front_is i, f.entry_is i)) own

  -- the same of its n-th call
  pub permitted_nth : (log : List (Call E)) → ArePermitted may log → (k n : ℕ) (e : E)
      → slice_get (calls_by k log) n ≡ Some e → may k (take n (calls_by k log)) e
  permitted_nth log known k n e at =
      let calls : List E = calls_by k log in
      let rest = drop-cons calls n e (slice_get_within calls n e at)
      ∙ ap (λ (x : E). x ∷ drop (suc n) calls) (get_or_from_slice_get calls n e e at) in
      permitted_by_pass log known k (take n calls) e (drop (suc n) calls)
      (sym (take-append-drop n calls) ∙ ap (λ (es : List E). take n calls ++ es) rest)
