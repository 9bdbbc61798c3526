-- One entry more in the two small chronicles.
use Rattle.std.proofs.Common.{◌≡◌, ℕ, ◌+◌, ◌<◌, ◌≤◌, Bool, if◌then◌else◌, List, [], ◌∷◌, ◌++◌, length, Option, Some, None, refl, sym, ap, ◌∙◌, arith}
use Rattle.std.proofs.lemmas.Bool.{le-ltb, lt-ltb}
use Rattle.std.proofs.lemmas.List.{append-nil}
use Rattle.tesla_turn.specs.declared.examples.Appended.{Appended}
use Rattle.tesla_turn.specs.Examples.{appended, taken, taken_before, index_at, after_index, IsLegalFrom, IsLegal}

taken_first : (place : Option ℕ) (number : ℕ) (xs ys : List ℕ) → taken_before place number (xs ++ ys) ≡ taken_before place number xs ++ ys
taken_first None number xs ys = refl
taken_first (Some p) number xs ys = refl

pub taken-append : (h g : List Appended) → taken (h ++ g) ≡ taken h ++ taken g
taken-append [] g = refl
taken-append (e ∷ h) g = ap (taken_before e.place e.number) (taken-append h g) ∙ taken_first e.place e.number (taken h) (taken g)

taken_length : (place : Option ℕ) (number n : ℕ) (xs : List ℕ) → after_index place n + length xs ≡ n + length (taken_before place number xs)
taken_length None number n xs = refl
taken_length (Some p) number n xs = omega arith

pub legal_more : (limit n : ℕ) (h : List Appended) (e : Appended) → IsLegalFrom limit n h → e.place ≡ index_at limit (n + length (taken h)) → IsLegalFrom limit n (h ++ e ∷ [])
legal_more limit n [] e legal right = (right ∙ ap (index_at limit) (let z : n + 0 ≡ n = omega arith in z), tt)
legal_more limit n (x ∷ h) e legal right = (legal.0, legal_more limit (after_index x.place n) h e legal.1 (right ∙ ap (index_at limit) (sym (taken_length x.place x.number n (taken h)))))

index_past : (limit n : ℕ) → limit ≤ n → index_at limit n ≡ None
index_past limit n h = ap (λ (b : Bool). if b then Some n else None) (le-ltb n limit h)

index_below : (limit n : ℕ) → n < limit → index_at limit n ≡ Some n
index_below limit n h = ap (λ (b : Bool). if b then Some n else None) (lt-ltb n limit h)

pub full_more : (items : List ℕ) (limit number : ℕ) (h : List Appended) → limit ≤ length items → (items ≡ taken h) × IsLegal limit h
    → (items ≡ taken (h ++ appended number None ∷ [])) × IsLegal limit (h ++ appended number None ∷ [])
full_more items limit number h full s = let n = ap length s.0 in (
  s.0 ∙ (sym (append-nil (taken h)) ∙ sym (taken-append h (appended number None ∷ []))),
  legal_more limit 0 h (appended number None) s.1 (sym (index_past limit (0 + length (taken h)) (omega arith))),
)

pub taken_more : (items : List ℕ) (limit number : ℕ) (h : List Appended) → length items < limit → (items ≡ taken h) × IsLegal limit h
    → (items ++ number ∷ [] ≡ taken (h ++ appended number (Some (length items)) ∷ [])) × IsLegal limit (h ++ appended number (Some (length items)) ∷ [])
taken_more items limit number h some_room s = let n = ap length s.0 in let size : 0 + length (taken h) ≡ length items = omega arith in (
  ap (λ (xs : List ℕ). xs ++ number ∷ []) s.0 ∙ sym (taken-append h (appended number (Some (length items)) ∷ [])),
  legal_more limit 0 h (appended number (Some (length items))) s.1 (sym (ap (index_at limit) size ∙ index_below limit (length items) some_room)),
)
