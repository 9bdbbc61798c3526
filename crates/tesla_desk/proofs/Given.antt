-- The readings that a clock gives one after another.
use Rattle.std.proofs.Common.{◌≡◌, ◌∙◌, ℕ, ◌+◌, ◌-◌, ◌^◌, ◌<◌, List, [], ◌∷◌, ◌++◌, length, Option, Some, None, refl, ap, subst, arith}
use Rattle.std.proofs.lemmas.List.{length-append}
use Rattle.tesla_desk.specs.Clocks.{Gives, Ticking, Ticks, next_reading, readings_from}

-- one reading more
pub gives_more : (readings : List ℕ) (before mid after : Option Ticking) (reading : ℕ) → Gives readings before mid → Ticks mid after reading → Gives (readings ++ reading ∷ []) before after
gives_more [] before mid after reading gives ticks = (after, subst (λ (told : Option Ticking). Ticks told after reading) gives ticks, refl)
gives_more (first ∷ readings) before mid after reading gives ticks = (gives.0, gives.1, gives_more readings gives.0 mid after reading gives.2 ticks)

-- a clock that tells its readings gave the first of them
first_by : (reading : ℕ) (readings : List ℕ) (before : Ticking) (mid after : Option Ticking) → length before.given + length (reading ∷ readings) < 2 ^ 64 - 1 → Ticks (Some before) mid reading → Gives readings mid after
    → ((next : Ticking) → length next.given + length readings < 2 ^ 64 - 1 → Gives readings (Some next) after → readings ≡ readings_from (length readings) next.ahead)
    → reading ∷ readings ≡ readings_from (length (reading ∷ readings)) before.ahead
first_by reading readings before None after few ticks gives others = absurd (omega (arith, few, ticks))
first_by reading readings before (Some next) after few ticks gives others =
    let given : length next.given ≡ length before.given + 1 = ap (λ (t : Ticking). length t.given) ticks.0 ∙ length-append before.given (next_reading before.ahead ∷ []) in
    let rest : readings ≡ readings_from (length readings) next.ahead = others next (omega (arith, few, given)) gives in
    ap (λ (r : ℕ). r ∷ readings) ticks.1 ∙ ap (λ (rs : List ℕ). next_reading before.ahead ∷ rs) (rest ∙ ap (λ (t : Ticking). readings_from (length readings) t.ahead) ticks.0)

pub first_readings : (readings : List ℕ) (before : Ticking) (after : Option Ticking) → length before.given + length readings < 2 ^ 64 - 1 → Gives readings (Some before) after → readings ≡ readings_from (length readings) before.ahead
first_readings [] before after few gives = refl
first_readings (reading ∷ readings) before after few gives = first_by reading readings before gives.0 after few gives.1 gives.2 (λ next fits more. first_readings readings next after fits more)
