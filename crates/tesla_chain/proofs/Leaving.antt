-- What the walk that opens a traversal leaves in its levels.
use Rattle.std.proofs.Common.{◌≡◌, ℕ, zero, suc, ◌+◌, ◌-◌, ◌*◌, ◌^◌, ◌<◌, ◌≤◌, List, [], ◌∷◌, length, replicate, refl, sym, ◌∙◌, ap, subst, arith}
use Rattle.std.proofs.lemmas.Nat.{pow_pos}
use Rattle.tesla_base.specs.declared.names.Key.{Key}
use Rattle.tesla_prf.specs.Keys.{walk}
use Rattle.tesla_prf.proofs.Walks.{walk_none, walk_on}
use Rattle.tesla_chain.specs.declared.level.Level.{Level}
use Rattle.tesla_chain.specs.Levels.{Marks, Travellers}
use Rattle.tesla_chain.proofs.Levels.{at, doubled}

-- the marks between two multiples of the levels' whole span are the same, seen from either
marks_turn : (seed : Key) (base before top free : ℕ) (levels : List Level) → top ≡ base + 2 ^ length levels → before + 1 ≡ 2 ^ length levels → Marks seed base before free levels → Marks seed top 0 0 levels
marks_turn seed base before top free [] end all marks = tt
marks_turn seed base before top free (level ∷ lower) end all marks =
    let whole = doubled level lower in
    let some : 0 < 2 ^ length lower = pow_pos (length lower) in
    let own = marks.1 (omega arith) in
    (λ h. (λ low. at seed level.mark _ _ own.0 (omega arith), marks_turn seed (base + 2 ^ length lower) (before - 2 ^ length lower) top 0 lower (omega arith) (omega arith) own.1), λ h. absurd (omega arith))

-- a level's own mark
pub mark_left : (seed : Key) (base before ahead free : ℕ) (key : Key) (level : Level) (lower : List Level) → ahead ≡ 2 ^ length lower → ahead ≡ before + 1 → key ≡ walk seed (base + ahead) → Marks seed base before free (level ∷ lower) → Marks seed base ahead free (record { mark = key; traveller = level.traveller } ∷ lower)
mark_left seed base before ahead free key level lower here e is marks =
    let low = (marks.0 (omega arith)).1 in
    let none : ahead - 2 ^ length lower ≡ 0 = omega arith in
    let P : ℕ → Type 0 = λ n. Marks seed (base + 2 ^ length lower) n 0 lower in
    (λ h. absurd (omega arith), λ h. (at seed key _ _ is (omega arith), subst P (sym none) (marks_turn seed base before (base + 2 ^ length lower) free lower refl (omega arith) low)))

-- travellers stand above the base
pub none_below : (seed : Key) (base ahead reached : ℕ) (levels : List Level) → reached ≤ base → ahead < 2 ^ length levels → Travellers seed base ahead reached levels
none_below seed base ahead reached [] low within = tt
none_below seed base ahead reached (level ∷ lower) low within =
    let whole = doubled level lower in
    (λ h. none_below seed base ahead reached lower low h, λ h. (λ near. absurd (omega arith), none_below seed (base + 2 ^ length lower) (ahead - 2 ^ length lower) reached lower (omega arith) (omega arith)))

-- a level's own traveller
pub traveller_left : (seed : Key) (base ahead position reached span : ℕ) (key : Key) (level : Level) (lower : List Level) → span ≡ 2 ^ length lower → span ≤ ahead → ahead < 2 ^ length (level ∷ lower) → (position + ahead) + 1 ≡ 2 * span → reached ≡ (base + position) + 1 → key ≡ walk seed (base + position) → Travellers seed base ahead reached (record { mark = level.mark; traveller = key } ∷ lower)
traveller_left seed base ahead position reached span key level lower spans above within here e is =
    let whole = doubled level lower in
    (λ h. absurd (omega arith), λ h. (λ near. at seed key _ _ is (omega arith), none_below seed (base + 2 ^ length lower) (ahead - 2 ^ length lower) reached lower (omega arith) (omega arith)))

-- no traveller stands here
pub none_left : (seed : Key) (base ahead position reached span : ℕ) (level : Level) (lower : List Level) → span ≡ 2 ^ length lower → span ≤ ahead → ahead < 2 ^ length (level ∷ lower) → position < span → ((position + ahead) + 1 ≡ 2 * span → ⊥) → reached ≡ (base + position) + 1 → Travellers seed base ahead (base + position) (level ∷ lower) → Travellers seed base ahead reached (level ∷ lower)
none_left seed base ahead position reached span level lower spans above within low other e travellers =
    let whole = doubled level lower in
    let own = (travellers.1 (omega arith)).0 in
    let elsewhere : ((position + ahead) + 1 ≡ 2 * span) → ⊥ = other in
    (λ h. absurd (omega arith), λ h. (λ near. own (omega (arith, elsewhere)), none_below seed (base + 2 ^ length lower) (ahead - 2 ^ length lower) reached lower (omega arith) (omega arith)))

-- none stands beyond the key that is given next
pub all_reached : (seed : Key) (base ahead top reached : ℕ) (levels : List Level) → top ≡ (base + ahead) + 1 → ahead < 2 ^ length levels → Travellers seed base ahead top levels → Travellers seed base ahead reached levels
all_reached seed base ahead top reached [] end within travellers = tt
all_reached seed base ahead top reached (level ∷ lower) end within travellers =
    let whole = doubled level lower in (
      λ h. all_reached seed base ahead top reached lower end h (travellers.0 h),
      λ h. (λ near. (travellers.1 h).0 (omega arith), all_reached seed (base + 2 ^ length lower) (ahead - 2 ^ length lower) top reached lower (omega arith) (omega arith) (travellers.1 h).1),
    )

-- a key so far below a mark
pub below : (seed high key : Key) (base distance : ℕ) → high ≡ walk seed base → key ≡ walk high distance → key ≡ walk seed (base + distance)
below seed high key base distance top is = is ∙ ap (λ (k : Key). walk k distance) top ∙ walk_on seed base distance

-- ---- before the walk

pub unset_marks : (seed : Key) (n free : ℕ) (unset : Level) → unset.mark ≡ seed → Marks seed 0 0 free (replicate n unset)
unset_marks seed zero free unset is = tt
unset_marks seed (suc n) free unset is =
    let some : 0 < 2 ^ length (replicate n unset) = pow_pos (length (replicate n unset)) in
    let none : 0 ≡ 0 - 2 ^ length (replicate n unset) = omega arith in
    (λ h. (λ low. at seed unset.mark 0 _ (is ∙ sym (walk_none seed)) none, unset_marks seed n free unset is), λ h. absurd (omega arith))
