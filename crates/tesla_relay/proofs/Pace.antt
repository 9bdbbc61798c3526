-- The readings of a clock that are taken before each arrival.
use Rattle.std.proofs.Common.{inl, inr, ℕ, ◌<◌, ◌≤◌, List, [], ◌∷◌, ◌++◌, Option, refl, subst}
use Rattle.std.specs.List.{AllByRecursion}
use Rattle.tesla_desk.specs.Clocks.{Gives, Ticking, Ticks}
use Rattle.tesla_desk.proofs.Given.{gives_more}
use Rattle.tesla_relay.specs.Play.{Paced}
use Rattle.tesla_relay.specs.Steps.{Awaits, WaitsFor}

-- readings behind others
pub gives_both : (readings more : List ℕ) (before mid after : Option Ticking) → Gives readings before mid → Gives more mid after → Gives (readings ++ more) before after
gives_both [] more before mid after first then = subst (λ (told : Option Ticking). Gives more told after) first then
gives_both (reading ∷ readings) more before mid after first then = (first.0, first.1, gives_both readings more first.0 mid after first.2 then)

all_more : (reading now : ℕ) (early : List ℕ) → AllByRecursion (λ r. r < reading) early → now < reading → AllByRecursion (λ r. r < reading) (early ++ now ∷ [])
all_more reading now [] below less = (less, tt)
all_more reading now (first ∷ early) below less = (below.0, all_more reading now early below.1 less)

-- no reading was taken yet
pub awaits_none : (reading : ℕ) (told : Option Ticking) → Awaits reading told told
awaits_none reading told = record { early = []; gives = refl; below = tt }

-- one more was too small
pub awaits_more : (reading now : ℕ) (before mid after : Option Ticking) → Awaits reading before mid → Ticks mid after now → now < reading → Awaits reading before after
awaits_more reading now before mid after awaits ticks less = record {
  early = awaits.early ++ now ∷ [];
  gives = gives_more awaits.early before mid after now awaits.gives ticks;
  below = all_more reading now awaits.early awaits.below less;
}

paced_one : (reading now : ℕ) (early : List ℕ) → AllByRecursion (λ r. r < reading) early → reading ≤ now → Paced (reading ∷ []) (early ++ now ∷ [])
paced_one reading now [] below enough = inr (enough, tt)
paced_one reading now (first ∷ early) below enough = inl (below.0, paced_one reading now early below.1 enough)

-- one was large enough
pub waits_for : (reading now : ℕ) (before mid after : Option Ticking) → Awaits reading before mid → Ticks mid after now → reading ≤ now → WaitsFor reading before after
waits_for reading now before mid after awaits ticks enough = record {
  readings = awaits.early ++ now ∷ [];
  gives = gives_more awaits.early before mid after now awaits.gives ticks;
  paced = paced_one reading now awaits.early awaits.below enough;
}

-- what is due behind others takes the readings behind theirs
pub paced_both : (readings due more later : List ℕ) → Paced due readings → Paced later more → Paced (due ++ later) (readings ++ more)
paced_both [] [] more later first then = then
paced_both [] (reading ∷ due) more later first then = absurd first
paced_both (now ∷ readings) [] more later first then = absurd first
paced_both (now ∷ readings) (reading ∷ due) more later (inl early) then = inl (early.0, paced_both readings (reading ∷ due) more later early.1 then)
paced_both (now ∷ readings) (reading ∷ due) more later (inr enough) then = inr (enough.0, paced_both readings due more later enough.1 then)
