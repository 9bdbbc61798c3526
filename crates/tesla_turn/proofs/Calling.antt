-- What a call adds to what its pass has seen.
use Rattle.std.proofs.Common.{◌≡◌, ℕ, List, [], ◌∷◌, ◌++◌, Some, sym, ap, ◌∙◌, subst}
use Rattle.tesla_turn.specs.declared.view.Call.{Call}
use Rattle.tesla_turn.specs.declared.view.View.{View}
use Rattle.tesla_turn.specs.declared.view.Phase.TheVariants.{Waits}
use Rattle.tesla_turn.specs.History.{calls_by}
use Rattle.tesla_turn.specs.Held.{TurnId, Held, held, Made}
use Rattle.tesla_turn.specs.Steps.{Reached, with_ticket, with_call}
use Rattle.tesla_turn.specs.Permitted.{ArePermitted, OnlyPermitted, MayAdd}
use Rattle.tesla_turn.proofs.Histories.{calls_by_own}
use Rattle.tesla_turn.proofs.Permissions.{permitted_more}

module _ {V C E : Type 0} (config_of : V → C) (stands : V → List E → Type 0)
    (permits : C → ℕ → List E → E → Type 0) where
  pub made_by : (turn turn' : TurnId) (v u : View C E) (t : ℕ) (x : V) (e : E) → turn' ≡ turn → Reached config_of stands permits (with_ticket v (Waits t)) u t x → Made (held turn v) (held turn' (with_call u e)) e
  made_by turn turn' v u t x e same r =
      let number : u.number ≡ v.number = ap (λ (z : View C E). z.number) r.now in
      let add : List (Call E) → ℕ → List (Call E) = λ h k. h ++ record { by = k; entry = e } ∷ [] in
      let own : calls_by v.number (add u.seen v.number) ≡ v.made ++ e ∷ [] = calls_by_own v.number u.seen e ∙ ap (λ (es : List E). es ++ e ∷ []) r.own in
      let made : u.made ≡ v.made = ap (λ (z : View C E). z.made) r.now in record {
        between = r.begins.0;
        history = λ i. add (r.begins.1 i) (number i);
        own = ap (λ k. calls_by v.number (add u.seen k)) number ∙ (own ∙ ap (λ (es : List E). es ++ e ∷ []) (sym made));
        made = ap (λ (es : List E). es ++ e ∷ []) made;
        only_calls = λ i. record {
          turn = same i;
          number = number i;
          config = (r.now i).config;
          seen = add u.seen u.number;
          made = u.made ++ e ∷ [];
          room = (r.now i).room;
          calls = (r.now i).calls;
          joined = (r.now i).joined;
        };
      }

  -- at its turn a pass has the number, configuration and calls that it had before, so it may add what it might then
  pub may_still : (turn turn' : TurnId) (p : Held C E) (v u : View C E) (t : ℕ) (x : V) (e : E) → held turn v ≡ p
      → Reached config_of stands permits (with_ticket v (Waits t)) u t x → MayAdd permits p e
      → MayAdd permits (held turn' u) e
  may_still turn turn' p v u t x e same r =
      subst (λ (h : Held C E). MayAdd permits h e → MayAdd permits (held turn' u) e) same
      (subst (λ (w : View C E). MayAdd permits (held turn v) e → MayAdd permits (held turn' w) e) (sym r.now)
      (λ may. may))

  -- with a call that it may add, a pass has still seen permitted calls alone
  pub permitted_by : (turn turn' : TurnId) (p : Held C E) (v u : View C E) (t : ℕ) (x : V) (e : E) → held turn v ≡ p
      → Reached config_of stands permits (with_ticket v (Waits t)) u t x → MayAdd permits p e
      → OnlyPermitted permits (held turn' (with_call u e))
  permitted_by turn turn' p v u t x e same r may c is =
      let number = ap (λ (z : View C E). calls_by z.number u.seen) r.now in
      let own : calls_by u.number u.seen ≡ u.made = number ∙ (r.own ∙ sym (ap (λ (z : View C E). z.made) r.now)) in
      let known = ap (λ (z : View C E). z.config) r.now in
      let both : Some (config_of x) ≡ Some c = sym r.configured ∙ (sym known ∙ is) in
      let configured : config_of x ≡ c = cc in
      let before = subst (λ (z : C). ArePermitted (permits z) u.seen) configured r.permitted in
      let call = may_still turn turn' p v u t x e same r may c is in
      permitted_more (permits c) u.seen (record { by = u.number; entry = e }) before
      (subst (λ (es : List E). permits c u.number es e) (sym own) call)
