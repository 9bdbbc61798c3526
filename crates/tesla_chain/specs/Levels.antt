-- The keys that a traversal keeps. They stand between the seed and those that it has given. Places along the chain are
-- counted from the seed: the key at the distance d is F of the seed, d times.
use Rattle.std.specs.Prelude.{◌≡◌, ℕ, ◌+◌, ◌-◌, ◌^◌, ◌<◌, ◌≤◌, List, [], ◌∷◌, length}
use Rattle.tesla_base.specs.declared.names.Key.{Key}
use Rattle.tesla_prf.specs.Keys.{walk}
use Rattle.tesla_chain.specs.declared.level.Level.{Level}

-- Levels stand from the highest on, and the span of a level with n levels below it is 2^n. The next key to give is at the
-- distance `base + ahead`, `base` is a multiple of twice the first level's span, and `ahead` is less than that.

-- each mark stands at the greatest odd multiple of its level's span that is not beyond the next key. Of the first levels,
-- whose marks are nearer to the seed than the base, this is said only where their span is more than `free`.
abbrev pub Marks : Key → ℕ → ℕ → ℕ → List Level → Type 0
Marks seed base ahead free [] = Unit {0}
Marks seed base ahead free (level ∷ lower) =
    let span = 2 ^ length lower in
    (ahead < span → (free < span → level.mark ≡ walk seed (base - span)) × Marks seed base ahead free lower)
    × (span ≤ ahead → (level.mark ≡ walk seed (base + span)) × Marks seed (base + span) (ahead - span) 0 lower)

-- where the next key is a level's mark, or beyond it by less than the span, the level's traveller has as many steps to go
-- to the key after the mark as there are keys from the next one to the mark. This is said of the travellers nearer to the
-- seed than `reached`.
abbrev pub Travellers : Key → ℕ → ℕ → ℕ → List Level → Type 0
Travellers seed base ahead reached [] = Unit {0}
Travellers seed base ahead reached (level ∷ lower) =
    let span = 2 ^ length lower in
    let position = ((base + span) + span) - (1 + ahead) in
    (ahead < span → Travellers seed base ahead reached lower)
    × (span ≤ ahead → (position < reached → level.traveller ≡ walk seed position) × Travellers seed (base + span) (ahead - span) reached lower)

-- both, of all travellers
pub record Stand (seed : Key) (base ahead free : ℕ) (levels : List Level) : Type 0 where
  pub marks : Marks seed base ahead free levels
  pub travellers : (reached : ℕ) → Travellers seed base ahead reached levels
