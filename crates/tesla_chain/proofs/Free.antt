-- Marks that are free.
use Rattle.std.proofs.Common.{◌≡◌, ℕ, ◌+◌, ◌-◌, ◌*◌, ◌^◌, ◌<◌, ◌≤◌, inl, inr, List, [], ◌∷◌, length, arith}
use Rattle.std.proofs.lemmas.Bool.{cases_lt}
use Rattle.std.proofs.lemmas.Nat.{pow_pos}
use Rattle.tesla_base.specs.declared.names.Key.{Key}
use Rattle.tesla_prf.specs.Keys.{walk}
use Rattle.tesla_chain.specs.declared.level.Level.{Level}
use Rattle.tesla_chain.specs.Levels.{Marks}
use Rattle.tesla_chain.proofs.Levels.{at, doubled}

-- where all spans are small enough, all marks above the base are free
pub any_free : (seed : Key) (base ahead free other : ℕ) (levels : List Level) → 2 ^ length levels ≤ 2 * other + 1 → Marks seed base ahead free levels → Marks seed base ahead other levels
any_free seed base ahead free other [] small marks = tt
any_free seed base ahead free other (level ∷ lower) small marks =
    let whole = doubled level lower in
    (λ h. (λ low. absurd (omega arith), any_free seed base ahead free other lower (omega arith) (marks.0 h).1), marks.1)

all_free : (seed : Key) (base free : ℕ) (levels : List Level) → 2 ^ length levels ≤ 2 * free + 1 → Marks seed base 0 free levels
all_free seed base free [] small = tt
all_free seed base free (level ∷ lower) small =
    let whole = doubled level lower in
    let some : 0 < 2 ^ length lower = pow_pos (length lower) in
    (λ h. (λ low. absurd (omega arith), all_free seed base free lower (omega arith)), λ h. absurd (omega arith))

-- the marks above the base that are known, seen from the base
pub afresh : (seed : Key) (base ahead free more : ℕ) (levels : List Level) → free ≤ more → ahead ≤ more → Marks seed base ahead free levels → Marks seed base 0 more levels
afresh seed base ahead free more [] wider within marks = tt
afresh seed base ahead free more (level ∷ lower) wider within marks =
    let some : 0 < 2 ^ length lower = pow_pos (length lower) in
    elim (cases_lt ahead (2 ^ length lower)) [
      | inl below ↦ (λ h. (λ low. (marks.0 below).0 (omega arith), afresh seed base ahead free more lower wider within (marks.0 below).1), λ h. absurd (omega arith))
      | inr above ↦ (λ h. (λ low. absurd (omega arith), all_free seed base more lower (omega arith)), λ h. absurd (omega arith))
    ]

-- a mark above the base has a span of more than what lies below the base
pub none_free : (seed : Key) (base ahead : ℕ) (levels : List Level) → Marks seed base ahead ahead levels → Marks seed base ahead 0 levels
none_free seed base ahead [] marks = tt
none_free seed base ahead (level ∷ lower) marks = (λ h. (λ low. (marks.0 h).0 h, none_free seed base ahead lower (marks.0 h).1), marks.1)

-- a mark that a traveller leaves
pub handed : (seed : Key) (base left free distance : ℕ) (key : Key) (level : Level) (lower : List Level) → distance ≡ 2 ^ length lower → distance ≡ free + 1 → left < distance → key ≡ walk seed (base - distance) → Marks seed base left distance (level ∷ lower) → Marks seed base left free (record { mark = key; traveller = level.traveller } ∷ lower)
handed seed base left free distance key level lower here e low is marks =
    (λ h. (λ less. at seed key _ _ is (omega arith), any_free seed base left distance free lower (omega arith) (marks.0 h).1), λ h. absurd (omega arith))

pub not_handed : (seed : Key) (base left free distance : ℕ) (level : Level) (lower : List Level) → 2 ^ length lower < distance → distance ≡ free + 1 → Marks seed base left distance (level ∷ lower) → Marks seed base left free (level ∷ lower)
not_handed seed base left free distance level lower beyond e marks =
    let whole = doubled level lower in
    any_free seed base left distance free (level ∷ lower) (omega arith) marks
