-- How many calls a pass has left after one.
use Rattle.std.proofs.Common.{◌≡◌, ◌+◌, ◌<◌, List, [], ◌∷◌, ◌++◌, length, ap, ◌∙◌, arith, length-append}
use Rattle.tesla_turn.specs.Held.{Held, OnlyCalls, left_of}

module _ {C E : Type 0} where
  pub one_call : (p q : Held C E) (e : E) → q.made ≡ p.made ++ e ∷ [] → OnlyCalls p q → 0 < left_of p → left_of q + 1 ≡ left_of p
  one_call p q e made only some =
      let calls : q.calls ≡ p.calls = ap (λ (z : Held C E). z.calls) only in
      let size : length q.made ≡ length p.made + 1 = ap (λ (es : List E). length es) made ∙ length-append p.made (e ∷ []) in
      omega (arith, calls, size)

  pub only_more : (p q r : Held C E) → OnlyCalls p q → OnlyCalls q r → OnlyCalls p r
  only_more p q r a b = b ∙ ap (λ (z : Held C E). record z { seen = r.seen; made = r.made }) a
