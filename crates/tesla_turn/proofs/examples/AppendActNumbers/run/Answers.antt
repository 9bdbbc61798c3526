use Rattle.std.proofs.Common.{◌≡◌, ◌<◌, ℕ, ◌++◌, [], ◌∷◌, List, length, Some, sym, subst, arith, rules}
use Rattle.tesla_turn.specs.Examples.{taken, IsLegal, appended}
use Rattle.tesla_turn.proofs.Exampled.{full_more, taken_more}
use Rattle.tesla_turn.proofs.examples.AppendActNumbers.run.Goals as goal

pub returns-then-place-value-clause-stands : goal.returns-then-place-value-clause-stands
returns-then-place-value-clause-stands c = let size : c.len-place.result ≡ length c.args.value.now.items.items = search rules in λ h _ s. full_more c.args.value.now.items.items c.args.value.now.limit c.args.self.now.number h (omega arith) s

pub returns-clause-stands : goal.returns-clause-stands
returns-clause-stands c = let v = c.args.value.now in let x : ℕ = c.args.self.now.number in let size : c.len-place.result ≡ length v.items.items = search rules in let below : length v.items.items < v.limit = omega arith in λ h _ s.
    subst (λ (z : List ℕ × ℕ). (z.0 ≡ taken (h ++ appended x (Some z.1) ∷ [])) × IsLegal v.limit (h ++ appended x (Some z.1) ∷ [])) (λ i. (sym c.push_reserved.ensures.items i, sym size i))
    (taken_more v.items.items v.limit x h below s)
