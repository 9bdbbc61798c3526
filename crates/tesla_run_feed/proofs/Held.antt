-- A feed that is held until it is fed.
use Rattle.std.proofs.Common.{◌≡◌, ◌∙◌, Option, Some, None, sym, subst}
use Rattle.std.specs.Prelude.{IfSome, MatchOption}

module _ {A : Type 0} (held taken : Option A) (one : A) (value : taken ≡ held) (is : taken ≡ Some one) where
  -- what holds of it
  pub held_some : (P : A → Type 0) → MatchOption held ⊥ P → P one
  held_some P may = subst (λ (h : Option A). MatchOption h ⊥ P) (sym value ∙ is) may

  -- what is shown of it
  pub some_held : (P : A → Type 0) → P one → IfSome held P
  some_held P shown = subst (λ (h : Option A). IfSome h P) (sym is ∙ value) shown

-- one is
pub none_held : {A : Type 0} (held taken : Option A) (P : A → Type 0) → taken ≡ held → taken ≡ None → MatchOption held ⊥ P → ⊥
none_held {A} held taken P value is may = subst (λ (h : Option A). MatchOption h ⊥ P) (sym value ∙ is) may
