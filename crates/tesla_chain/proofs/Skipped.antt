-- A traversal that goes on over many keys.
use Rattle.std.proofs.Common.{◌≡◌, ℕ, ◌+◌, ◌-◌, ◌^◌, ◌<◌, ◌≤◌, List, ◌∷◌, length, sym, ◌∙◌, subst, arith}
use Rattle.tesla_base.specs.declared.names.Key.{Key}
use Rattle.tesla_prf.specs.Keys.{walk}
use Rattle.tesla_chain.specs.declared.level.Level.{Level}
use Rattle.tesla_chain.specs.Levels.{Marks, Stand, Travellers}
use Rattle.tesla_chain.proofs.Free.{afresh}
use Rattle.tesla_chain.proofs.Levels.{at, doubled, far, position_of, put_far, put_near, same_span}
use Rattle.tesla_chain.proofs.Leaving.{below}

-- the levels below, where a span is known by another number
pub far_of : (seed : Key) (base ahead free span : ℕ) (level : Level) (lower : List Level) → span ≡ 2 ^ length lower → span ≤ ahead → Stand seed base ahead free (level ∷ lower) → Stand seed (base + span) (ahead - span) 0 lower
far_of seed base ahead free span level lower spans above stand =
    let P : ℕ → Type 0 = λ n. Stand seed (base + n) (ahead - n) 0 lower in
    subst P (sym spans) (far seed base ahead free level lower (omega arith) stand)

pub mark_of : (seed : Key) (base ahead free span : ℕ) (level : Level) (lower : List Level) → span ≡ 2 ^ length lower → span ≤ ahead → Stand seed base ahead free (level ∷ lower) → level.mark ≡ walk seed (base + span)
mark_of seed base ahead free span level lower spans above stand = at seed level.mark _ _ (stand.marks.1 (omega arith)).0 (omega arith)

-- the level's mark stays above the base
pub skipped_near : (seed : Key) (base ahead left free more : ℕ) (level : Level) (lower after : List Level) → length after ≡ length lower → ahead < 2 ^ length lower → left < ahead → free ≤ more → Stand seed base ahead free (level ∷ lower) → Stand seed base left more after → Stand seed base left more (level ∷ after)
skipped_near seed base ahead left free more level lower after same low less wider stand rest =
    let span = same_span lower after same in
    put_near seed base left more level after (omega arith) (λ h. at seed level.mark _ _ ((stand.marks.0 low).0 (omega arith)) (omega arith)) rest

-- the next key stays below the level's mark
pub skipped_far : (seed : Key) (base ahead left free more span : ℕ) (walked : Key) (level : Level) (lower mid after : List Level) → length mid ≡ length lower → length after ≡ length mid → span ≡ 2 ^ length lower → span ≤ left → left < ahead → ahead < 2 ^ length (level ∷ lower)
    → walked ≡ walk level.traveller ((ahead - span) - (left - span)) → Stand seed base ahead free (level ∷ lower)
    → Stand seed (base + span) (left - span) (ahead - span) mid
    → (Marks seed (base + span) (left - span) (ahead - span) mid → Marks seed (base + span) (left - span) 0 after)
    → ((reached : ℕ) → Travellers seed (base + span) (left - span) reached mid → Travellers seed (base + span) (left - span) reached after)
    → Stand seed base left more (record { mark = level.mark; traveller = walked } ∷ after)
skipped_far seed base ahead left free more span walked level lower mid after same_mid same spans above less within is stand rest marks travellers =
    let whole = doubled level lower in
    let span_after : 2 ^ length after ≡ 2 ^ length lower = same_span lower after (same ∙ same_mid) in
    let start : level.traveller ≡ walk seed (((base + 2 ^ length lower) + 2 ^ length lower) - (1 + ahead)) = position_of seed base ahead free level lower (omega arith) stand in
    let position : walked ≡ walk seed ((((base + 2 ^ length lower) + 2 ^ length lower) - (1 + ahead)) + ((ahead - span) - (left - span))) = below seed level.traveller walked _ _ start is in
    let deeper : Stand seed (base + span) (left - span) 0 after = record { marks = marks rest.marks; travellers = λ reached. travellers reached (rest.travellers reached) } in
    let P : ℕ → Type 0 = λ n. Stand seed (base + n) (left - n) 0 after in
    let by_span : span ≡ 2 ^ length after = omega arith in
    put_far seed base left more (record { mark = level.mark; traveller = walked }) after (omega arith) (at seed level.mark _ _ (mark_of seed base ahead free span level lower spans (omega arith) stand) (omega arith)) (at seed walked _ _ position (omega arith)) (subst P by_span deeper)

-- where the traveller of the level starts
pub starts : (seed : Key) (base ahead free span : ℕ) (level : Level) (lower : List Level) → span ≡ 2 ^ length lower → span ≤ ahead → ahead < 2 ^ length (level ∷ lower) → Stand seed base ahead free (level ∷ lower) → level.traveller ≡ walk seed ((base + span) - ((ahead - span) + 1))
starts seed base ahead free span level lower spans above within stand =
    let whole = doubled level lower in
    at seed level.traveller _ _ (position_of seed base ahead free level lower (omega arith) stand) (omega arith)

-- the next key comes to be above the level's mark: the marks of the levels below
pub turned : (seed : Key) (base ahead free span : ℕ) (level : Level) (lower mid : List Level) → span ≡ 2 ^ length lower → span ≤ ahead → ahead < 2 ^ length (level ∷ lower) → Stand seed base ahead free (level ∷ lower)
    → ((seed : Key) (base : ℕ) → ahead - span < base → level.traveller ≡ walk seed (base - ((ahead - span) + 1)) → Marks seed base 0 (ahead - span) lower → Marks seed base 0 0 mid)
    → Marks seed (base + span) 0 0 mid
turned seed base ahead free span level lower mid spans above within stand marks =
    let whole = doubled level lower in
    let deeper = far_of seed base ahead free span level lower spans above stand in
    marks seed (base + span) (omega arith) (starts seed base ahead free span level lower spans above within stand) (afresh seed (base + span) (ahead - span) 0 (ahead - span) lower (omega arith) (omega arith) deeper.marks)

-- and then the levels themselves, once their travellers have set out again
pub turned_full : (seed : Key) (base ahead left free more span : ℕ) (high : Key) (level : Level) (lower mid after : List Level) → length mid ≡ length lower → span ≡ 2 ^ length lower → span ≤ ahead → left + 1 ≡ span → ahead < 2 ^ length (level ∷ lower) → high ≡ walk seed base → Stand seed base ahead free (level ∷ lower)
    → ((seed : Key) (base : ℕ) → ahead - span < base → level.traveller ≡ walk seed (base - ((ahead - span) + 1)) → Marks seed base 0 (ahead - span) lower → Marks seed base 0 0 mid)
    → ((seed : Key) (base top ahead free : ℕ) → top ≡ base + 2 ^ length mid → ahead + 1 ≡ 2 ^ length mid → high ≡ walk seed base → Marks seed top 0 0 mid → Stand seed base ahead free after)
    → Stand seed base left more after
turned_full seed base ahead left free more span high level lower mid after same spans above last within top stand marks set_out =
    let span_mid = same_span lower mid same in
    set_out seed base (base + span) left more (omega arith) (omega arith) top (turned seed base ahead free span level lower mid spans above within stand marks)

pub crossed : (seed : Key) (base ahead left more span : ℕ) (level : Level) (lower after : List Level) → length after ≡ length lower → span ≡ 2 ^ length lower → span ≤ ahead → left < span → ahead ≤ more → Stand seed base left more after → Stand seed base left more (level ∷ after)
crossed seed base ahead left more span level lower after same spans above low within rest =
    let span_after = same_span lower after same in
    put_near seed base left more level after (omega arith) (λ h. absurd (omega arith)) rest
