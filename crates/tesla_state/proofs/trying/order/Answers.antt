use Rattle.std.proofs.Common.{◌≡◌, ℕ, ◌++◌, suc, zero, ap, sym, ◌∙◌, subst, map, take, drop, length, List, [], ◌∷◌, refl, arith}
use Rattle.std.specs.List.Sorted.{IsPermutation}
use Rattle.std.proofs.lemmas.List.Sorted.{length_permutation}
use Rattle.tesla_walks.specs.declared.ordering.Proved.{Proved}
use Rattle.tesla_walks.specs.Proved.{release_in}
use Rattle.tesla_state.proofs.trying.order.Goals as goal

take_prefix : (n : ℕ) (ys zs : List Proved) → length ys ≡ n → take n (ys ++ zs) ≡ ys
take_prefix zero [] zs h = refl
take_prefix zero (y ∷ ys) zs h = absurd (omega (arith, h))
take_prefix (suc n) [] zs h = absurd (omega (arith, h))
take_prefix (suc n) (y ∷ ys) zs h = ap (λ rs. y ∷ rs) (take_prefix n ys zs (omega (arith, h)))

whole : (n : ℕ) (now xs ys : List Proved) → now ≡ xs → length now ≡ n → IsPermutation now ys → take n (ys ++ drop (length ys) xs) ≡ ys
whole n now xs ys same long h = take_prefix n ys (drop (length ys) xs) (length_permutation now ys h ∙ long)

pub returns-clause-order : goal.returns-clause-order
returns-clause-order c releases rises h =
    ap (map release_in) (whole c.args.batch.now.len c.deref_mut.result.now c.args.batch.now.items c.sort.new.proved c.deref_mut.ensures.value c.deref_mut.ensures.len c.sort.ensures.same)
    ∙ c.sort.ensures.order releases rises (subst (λ (qs : List Proved). IsPermutation releases (map release_in qs)) (sym c.deref_mut.ensures.value) h)

pub returns-clause-same : goal.returns-clause-same
returns-clause-same c =
    subst (λ (qs : List Proved). IsPermutation c.args.batch.now.items qs) (sym (whole c.args.batch.now.len c.deref_mut.result.now c.args.batch.now.items c.sort.new.proved c.deref_mut.ensures.value c.deref_mut.ensures.len c.sort.ensures.same))
    (subst (λ (qs : List Proved). IsPermutation qs c.sort.new.proved) c.deref_mut.ensures.value c.sort.ensures.same)
