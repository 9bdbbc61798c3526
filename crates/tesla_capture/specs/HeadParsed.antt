-- What bytes tell that have to begin with a head.
use Rattle.std.proofs.Common.{◌≡◌, ℕ, ◌<◌, ◌≤◌, Bool, true, false, eqb, List, [], ◌∷◌, ◌++◌, length, take, drop, refl, sym, ap, ◌∙◌, arith}
use Rattle.std.specs.Prelude.{if◌then◌else◌, bytes_eq}
use Rattle.std.proofs.lemmas.Bool.{eqb-true, eq-eqb}
use Rattle.std.proofs.lemmas.List.{take-append-drop}
use Rattle.std.proofs.lemmas.Slice.Eq.{bytes_eq-Decides}
use Rattle.tesla_records.specs.Grammar.{ParsedHead, AwaitsHead, HeadIs, NoHead}
use Rattle.tesla_capture.specs.Parsing.{parse_head}

test_is : (t : Bool) (o : ParsedHead (Unit {0})) (parsed : Unit {0}) → (if t then o else NoHead) ≡ HeadIs parsed → (t ≡ true) × (o ≡ HeadIs parsed)
test_is true o parsed e = (refl, e)
test_is false o parsed e = absurd cc

test_awaits : (t : Bool) (o : ParsedHead (Unit {0})) → (if t then o else NoHead) ≡ AwaitsHead → o ≡ AwaitsHead
test_awaits true o e = e
test_awaits false o e = absurd cc

test_none : (t : Bool) (o later : ParsedHead (Unit {0})) → (o ≡ NoHead → later ≡ NoHead) → (if t then o else NoHead) ≡ NoHead → (if t then later else NoHead) ≡ NoHead
test_none true o later h e = h e
test_none false o later h e = refl

none_by : (t : Bool) (o : ParsedHead (Unit {0})) → (t ≡ true → o ≡ NoHead) → (if t then o else NoHead) ≡ NoHead
none_by true o h = h refl
none_by false o h = refl

-- while a head is awaited there are fewer bytes than it has
pub head_awaits : (head bytes : List ℕ) → parse_head head bytes ≡ AwaitsHead → length bytes < length head
unfolding parse_head
head_awaits [] bytes e = absurd cc
head_awaits (wanted ∷ head) [] e = omega arith
head_awaits (wanted ∷ head) (b ∷ bytes) e = let h = head_awaits head bytes (test_awaits (eqb b wanted) (parse_head head bytes) e) in omega (arith, h)

-- a head that is told stands there
pub head_stands : (head bytes : List ℕ) (parsed : Unit {0}) → parse_head head bytes ≡ HeadIs parsed → bytes ≡ head ++ drop (length head) bytes
unfolding parse_head
head_stands [] bytes parsed e = refl
head_stands (wanted ∷ head) [] parsed e = absurd cc
head_stands (wanted ∷ head) (b ∷ bytes) parsed e =
    let t = test_is (eqb b wanted) (parse_head head bytes) parsed e in
    ap (λ (r : List ℕ). b ∷ r) (head_stands head bytes parsed t.1) ∙ ap (λ (k : ℕ). k ∷ (head ++ drop (length head) bytes)) (eqb-true b wanted t.0)

-- a head that stands there is told, whatever follows
pub head_again : (head more : List ℕ) → parse_head head (head ++ more) ≡ HeadIs tt
unfolding parse_head
head_again [] more = refl
head_again (wanted ∷ head) more = ap (λ (c : Bool). if c then parse_head head (head ++ more) else NoHead) (eq-eqb wanted wanted refl) ∙ head_again head more

-- no head begins so, whatever follows
pub head_none : (head bytes more : List ℕ) → parse_head head bytes ≡ NoHead → parse_head head (bytes ++ more) ≡ NoHead
unfolding parse_head
head_none [] bytes more e = absurd cc
head_none (wanted ∷ head) [] more e = absurd cc
head_none (wanted ∷ head) (b ∷ bytes) more e = test_none (eqb b wanted) (parse_head head bytes) (parse_head head (bytes ++ more)) (λ h. head_none head bytes more h) e

-- ---- bytes that are compared with the head

same_first : (a b : ℕ) (xs ys : List ℕ) → a ∷ xs ≡ b ∷ ys → a ≡ b
same_first a b xs ys e = cc

same_rest : (a b : ℕ) (xs ys : List ℕ) → a ∷ xs ≡ b ∷ ys → xs ≡ ys
same_rest a b xs ys e = cc

joined : (a b : ℕ) (xs ys : List ℕ) → a ≡ b → xs ≡ ys → a ∷ xs ≡ b ∷ ys
joined a b xs ys e h = cc

not_true : true ≡ false → ⊥
not_true e = absurd cc

part_awaits : (head bytes : List ℕ) → length bytes < length head → bytes ≡ take (length bytes) head → parse_head head bytes ≡ AwaitsHead
unfolding parse_head
part_awaits [] bytes few same = absurd (omega (arith, few))
part_awaits (wanted ∷ head) [] few same = refl
part_awaits (wanted ∷ head) (b ∷ bytes) few same =
    ap (λ (c : Bool). if c then parse_head head bytes else NoHead) (eq-eqb b wanted (same_first b wanted bytes (take (length bytes) head) same))
    ∙ part_awaits head bytes (omega (arith, few)) (same_rest b wanted bytes (take (length bytes) head) same)

part_none : (head bytes : List ℕ) → length bytes ≤ length head → (bytes ≡ take (length bytes) head → ⊥) → parse_head head bytes ≡ NoHead
unfolding parse_head
part_none head [] few other = absurd (other refl)
part_none [] (b ∷ bytes) few other = absurd (omega (arith, few))
part_none (wanted ∷ head) (b ∷ bytes) few other =
    none_by (eqb b wanted) (parse_head head bytes) (λ t. part_none head bytes (omega (arith, few)) (λ e. other (joined b wanted bytes (take (length bytes) head) (eqb-true b wanted t) e)))

whole_none : (head bytes : List ℕ) → length head ≤ length bytes → (take (length head) bytes ≡ head → ⊥) → parse_head head bytes ≡ NoHead
unfolding parse_head
whole_none [] bytes long other = absurd (other refl)
whole_none (wanted ∷ head) [] long other = absurd (omega (arith, long))
whole_none (wanted ∷ head) (b ∷ bytes) long other =
    none_by (eqb b wanted) (parse_head head bytes) (λ t. whole_none head bytes (omega (arith, long)) (λ e. other (joined b wanted (take (length head) bytes) head (eqb-true b wanted t) e)))

-- a part of the head
pub part_tells : (head bytes : List ℕ) → length bytes < length head → bytes_eq bytes (take (length bytes) head) ≡ true → parse_head head bytes ≡ AwaitsHead
part_tells head bytes few same = part_awaits head bytes few ((bytes_eq-Decides bytes (take (length bytes) head)).0 same)

-- other bytes, fewer than the head has
pub other_part_tells : (head bytes : List ℕ) → length bytes < length head → bytes_eq bytes (take (length bytes) head) ≡ false → parse_head head bytes ≡ NoHead
other_part_tells head bytes few other = part_none head bytes (omega (arith, few)) (λ e. not_true (sym ((bytes_eq-Decides bytes (take (length bytes) head)).1 e) ∙ other))

-- the whole head
pub whole_is : (head bytes : List ℕ) → take (length head) bytes ≡ head → parse_head head bytes ≡ HeadIs tt
whole_is head bytes same =
    ap (parse_head head) (sym (take-append-drop (length head) bytes) ∙ ap (λ (h : List ℕ). h ++ drop (length head) bytes) same) ∙ head_again head (drop (length head) bytes)

pub whole_tells : (head bytes : List ℕ) → bytes_eq (take (length head) bytes) head ≡ true → parse_head head bytes ≡ HeadIs tt
whole_tells head bytes same = whole_is head bytes ((bytes_eq-Decides (take (length head) bytes) head).0 same)

-- as many other bytes
pub other_tells : (head bytes : List ℕ) → length head ≤ length bytes → bytes_eq (take (length head) bytes) head ≡ false → parse_head head bytes ≡ NoHead
other_tells head bytes long other = whole_none head bytes long (λ e. not_true (sym ((bytes_eq-Decides (take (length head) bytes) head).1 e) ∙ other))
