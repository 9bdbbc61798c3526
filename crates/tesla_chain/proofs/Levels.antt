-- How the levels of a traversal stand as it goes on.
use Rattle.std.proofs.Common.{◌≡◌, ℕ, ◌+◌, ◌-◌, ◌^◌, ◌<◌, ◌≤◌, List, ◌∷◌, length, refl, sym, ◌∙◌, ap, subst, arith}
use Rattle.std.proofs.Math.Nat.{pow-suc}
use Rattle.std.proofs.lemmas.Nat.{pow_pos}
use Rattle.tesla_base.specs.declared.names.Key.{Key}
use Rattle.tesla_prf.specs.Keys.{next_of, walk}
use Rattle.tesla_prf.proofs.Walks.{walk_more}
use Rattle.tesla_chain.specs.declared.level.Level.{Level}
use Rattle.tesla_chain.specs.Levels.{Marks, Stand}

pub doubled : (level : Level) (lower : List Level) → 2 ^ length (level ∷ lower) ≡ 2 ^ length lower + 2 ^ length lower
doubled level lower = omega (arith, pow-suc 2 (length lower))

-- the levels below one whose mark is above the base, and below one whose mark is below it
pub near : (seed : Key) (base ahead free : ℕ) (level : Level) (lower : List Level) → ahead < 2 ^ length lower → Stand seed base ahead free (level ∷ lower) → Stand seed base ahead free lower
near seed base ahead free level lower below stand = record { marks = (stand.marks.0 below).1; travellers = λ reached. (stand.travellers reached).0 below }

pub far : (seed : Key) (base ahead free : ℕ) (level : Level) (lower : List Level) → 2 ^ length lower ≤ ahead → Stand seed base ahead free (level ∷ lower) → Stand seed (base + 2 ^ length lower) (ahead - 2 ^ length lower) 0 lower
far seed base ahead free level lower above stand = record { marks = (stand.marks.1 above).1; travellers = λ reached. ((stand.travellers reached).1 above).1 }

-- and a level put before them
pub put_near : (seed : Key) (base ahead free : ℕ) (level : Level) (lower : List Level) → ahead < 2 ^ length lower → (free < 2 ^ length lower → level.mark ≡ walk seed (base - 2 ^ length lower)) → Stand seed base ahead free lower → Stand seed base ahead free (level ∷ lower)
put_near seed base ahead free level lower below mark stand = record {
  marks = (λ h. (mark, stand.marks), λ h. absurd (omega arith));
  travellers = λ reached. (λ h. stand.travellers reached, λ h. absurd (omega arith));
}

pub put_far : (seed : Key) (base ahead free : ℕ) (level : Level) (lower : List Level) → 2 ^ length lower ≤ ahead → level.mark ≡ walk seed (base + 2 ^ length lower) → level.traveller ≡ walk seed (((base + 2 ^ length lower) + 2 ^ length lower) - (1 + ahead)) → Stand seed (base + 2 ^ length lower) (ahead - 2 ^ length lower) 0 lower → Stand seed base ahead free (level ∷ lower)
put_far seed base ahead free level lower above mark traveller stand = record {
  marks = (λ h. absurd (omega arith), λ h. (mark, stand.marks));
  travellers = λ reached. (λ h. absurd (omega arith), λ h. (λ near. traveller, stand.travellers reached));
}

-- a key at the same place
pub at : (seed key : Key) (a b : ℕ) → key ≡ walk seed a → a ≡ b → key ≡ walk seed b
at seed key a b is same = is ∙ ap (walk seed) same

pub same_span : (lower after : List Level) → length after ≡ length lower → 2 ^ length after ≡ 2 ^ length lower
same_span lower after same = ap (λ (n : ℕ). 2 ^ n) same

-- ---- the levels below a mark that was given

pub set_out_first : (seed : Key) (base top ahead free : ℕ) (high : Key) (level : Level) (lower after : List Level) → length after ≡ length lower → top ≡ base + 2 ^ length (level ∷ lower) → ahead + 1 ≡ 2 ^ length (level ∷ lower) → high ≡ walk seed base → Marks seed top 0 0 (level ∷ lower)
    → ((seed : Key) (base top ahead free : ℕ) → top ≡ base + 2 ^ length lower → ahead + 1 ≡ 2 ^ length lower → level.mark ≡ walk seed base → Marks seed top 0 0 lower → Stand seed base ahead free after)
    → Stand seed base ahead free (record { mark = level.mark; traveller = high } ∷ after)
set_out_first seed base top ahead free high level lower after same end all is marks rest =
    let whole = doubled level lower in
    let some : 0 < 2 ^ length lower = pow_pos (length lower) in
    let span = same_span lower after same in
    let own = marks.0 some in
    let mark : level.mark ≡ walk seed (base + 2 ^ length after) = at seed level.mark _ _ (own.0 some) (omega arith) in
    put_far seed base ahead free (record { mark = level.mark; traveller = high }) after (omega arith) mark (at seed high _ _ is (omega arith))
    (rest seed (base + 2 ^ length after) top (ahead - 2 ^ length after) 0 (omega arith) (omega arith) mark own.1)

-- ---- one key further

pub pass_near : (seed : Key) (base ahead left free : ℕ) (level : Level) (lower after : List Level) → length after ≡ length lower → ahead < 2 ^ length lower → ahead ≡ left + 1 → Stand seed base ahead free (level ∷ lower) → Stand seed base left free after → Stand seed base left free (level ∷ after)
pass_near seed base ahead left free level lower after same below e stand rest =
    let span = same_span lower after same in
    put_near seed base left free level after (omega arith) (λ h. at seed level.mark _ _ ((stand.marks.0 below).0 (omega arith)) (omega arith)) rest

pub pass_here : (seed : Key) (base ahead left free : ℕ) (high traveller : Key) (level : Level) (lower after : List Level) → length after ≡ length lower → ahead ≡ 2 ^ length lower → ahead ≡ left + 1 → high ≡ walk seed base → traveller ≡ walk seed (base - ahead) → Stand seed base ahead free (level ∷ lower)
    → ((seed : Key) (base top ahead free : ℕ) → top ≡ base + 2 ^ length lower → ahead + 1 ≡ 2 ^ length lower → high ≡ walk seed base → Marks seed top 0 0 lower → Stand seed base ahead free after)
    → Stand seed base left free (record { mark = traveller; traveller = level.traveller } ∷ after)
pass_here seed base ahead left free high traveller level lower after same here e top is stand rest =
    let span = same_span lower after same in
    let none : ahead - 2 ^ length lower ≡ 0 = omega arith in
    let P : ℕ → Type 0 = λ n. Marks seed (base + 2 ^ length lower) n 0 lower in
    let marks : Marks seed (base + 2 ^ length lower) 0 0 lower = subst P none (stand.marks.1 (omega arith)).1 in
    put_near seed base left free (record { mark = traveller; traveller = level.traveller }) after (omega arith) (λ h. at seed traveller _ _ is (omega arith))
    (rest seed base (base + 2 ^ length lower) left free refl (omega arith) top marks)

-- where a traveller stands
pub position_of : (seed : Key) (base ahead free : ℕ) (level : Level) (lower : List Level) → 2 ^ length lower ≤ ahead → Stand seed base ahead free (level ∷ lower) → level.traveller ≡ walk seed (((base + 2 ^ length lower) + 2 ^ length lower) - (1 + ahead))
position_of seed base ahead free level lower above stand =
    let position = ((base + 2 ^ length lower) + 2 ^ length lower) - (1 + ahead) in
    ((stand.travellers (position + 1)).1 above).0 (omega arith)

-- and after its step
pub stepped : (seed : Key) (base ahead left free : ℕ) (level : Level) (lower : List Level) → 2 ^ length lower < ahead → ahead < 2 ^ length (level ∷ lower) → ahead ≡ left + 1 → Stand seed base ahead free (level ∷ lower) → next_of level.traveller ≡ walk seed (((base + 2 ^ length lower) + 2 ^ length lower) - (1 + left))
stepped seed base ahead left free level lower above within e stand =
    let whole = doubled level lower in
    let position = ((base + 2 ^ length lower) + 2 ^ length lower) - (1 + ahead) in
    ap next_of (position_of seed base ahead free level lower (omega arith) stand) ∙ sym (walk_more seed position) ∙ ap (walk seed) (omega arith)

pub pass_far : (seed : Key) (base ahead left free span : ℕ) (traveller : Key) (level : Level) (lower after : List Level) → length after ≡ length lower → span ≡ 2 ^ length lower → span < ahead → ahead < 2 ^ length (level ∷ lower) → ahead ≡ left + 1 → traveller ≡ next_of level.traveller → Stand seed base ahead free (level ∷ lower)
    → ((seed : Key) (base left free : ℕ) → ahead - span ≡ left + 1 → level.mark ≡ walk seed base → traveller ≡ walk seed (base - (ahead - span)) → Stand seed base (ahead - span) free lower → Stand seed base left free after)
    → Stand seed base left free (record { mark = level.mark; traveller = traveller } ∷ after)
pass_far seed base ahead left free span traveller level lower after same spans above within e step stand rest =
    let over : 2 ^ length lower < ahead = omega arith in
    let own = stand.marks.1 (omega arith) in
    let is : traveller ≡ walk seed (((base + 2 ^ length lower) + 2 ^ length lower) - (1 + left)) = step ∙ stepped seed base ahead left free level lower over within e stand in
    let P : ℕ → Type 0 = λ n. Stand seed (base + 2 ^ length lower) (ahead - n) 0 lower in
    let before = subst P (sym spans) (far seed base ahead free level lower (omega arith) stand) in
    let whole = doubled level lower in
    let deeper = rest seed (base + 2 ^ length lower) (left - 2 ^ length lower) 0 (omega arith) own.0 (at seed traveller _ _ is (omega arith)) before in
    let span_after = same_span lower after same in
    let Q : ℕ → Type 0 = λ n. Stand seed (base + n) (left - n) 0 after in
    put_far seed base left free (record { mark = level.mark; traveller = traveller }) after (omega arith) (at seed level.mark _ _ own.0 (omega arith)) (at seed traveller _ _ is (omega arith)) (subst Q (sym span_after) deeper)
