-- Walks along a chain of keys.
use Rattle.std.proofs.Common.{◌≡◌, ℕ, zero, suc, ◌+◌, refl, sym, ◌∙◌, ap, add-one, add-zero, arith}
use Rattle.tesla_base.specs.declared.names.Key.{Key}
use Rattle.tesla_prf.specs.Keys.{next_of, walk}

pub walk_none : (key : Key) → walk key 0 ≡ key
unfolding walk
walk_none key = refl

pub walk_more : (key : Key) (n : ℕ) → walk key (n + 1) ≡ next_of (walk key n)
unfolding walk
walk_more key n = rw add-one refl

-- one walk after another
pub walk_on : (key : Key) (a b : ℕ) → walk (walk key a) b ≡ walk key (a + b)
unfolding walk
walk_on key a zero = ap (walk key) (sym (add-zero a))
walk_on key a (suc b) =
    let more : suc (a + b) ≡ a + suc b = omega arith in
    ap next_of (walk_on key a b) ∙ ap (walk key) more
