-- What is read off the start of bytes is what was written there, and what was written is read again.
use Rattle.std.proofs.Common.{◌≡◌, ℕ, zero, suc, ◌^◌, ◌<◌, ◌≤◌, Bool, true, false, cond, ltb, List, [], ◌∷◌, ◌++◌, length, take, drop, get_or, Option, Some, None, refl, sym, ap, subst, ◌∙◌, append_assoc, arith}
use Rattle.std.specs.Int.{Width, w16, w32, w64, byte_len, from_be_bytes, to_be_bytes}
use Rattle.std.proofs.lemmas.Bool.{ltb-true, ltb-false, le-ltb}
use Rattle.std.proofs.lemmas.List.{take_at, drop_at, take-append-le, drop-append-le, take-append-drop, length-append, length-take, length-drop}
use Rattle.std.proofs.lemmas.Nat.{be_bytes_2, be_bytes_4, be_bytes_8, from_be_bytes-to_be_bytes_2, from_be_bytes-to_be_bytes_4, from_be_bytes-to_be_bytes_8}
use Rattle.tesla_base.specs.Prefix.{AreBytes, ◌>>=◌, parse_bytes, parse_number}

-- ---- bytes

-- bytes without their first ones are bytes
pub AreBytes-drop : (n : ℕ) (bytes : List ℕ) → AreBytes bytes → AreBytes (drop n bytes)
AreBytes-drop zero bytes h = h
AreBytes-drop (suc n) [] h = h
AreBytes-drop (suc n) (b ∷ bytes) h = AreBytes-drop n bytes h.1

-- a prefix of bytes is bytes
pub AreBytes-take : (n : ℕ) (bytes : List ℕ) → AreBytes bytes → AreBytes (take n bytes)
AreBytes-take zero bytes h = tt
AreBytes-take (suc n) [] h = tt
AreBytes-take (suc n) (b ∷ bytes) h = (h.0, AreBytes-take n bytes h.1)

-- bytes after bytes are bytes
pub AreBytes-append : (xs ys : List ℕ) → AreBytes xs → AreBytes ys → AreBytes (xs ++ ys)
AreBytes-append [] ys h k = k
AreBytes-append (b ∷ xs) ys h k = (h.0, AreBytes-append xs ys h.1 k)

-- both parts of bytes are bytes
pub AreBytes-parts : (xs ys : List ℕ) → AreBytes (xs ++ ys) → AreBytes xs × AreBytes ys
AreBytes-parts [] ys h = (tt, h)
AreBytes-parts (b ∷ xs) ys h = let parts = AreBytes-parts xs ys h.1 in ((h.0, parts.0), parts.1)

byte_at : (bytes : List ℕ) → AreBytes bytes → (i : ℕ) → get_or bytes i 0 < 256
byte_at [] h i = omega arith
byte_at (b ∷ bytes) h zero = h.0
byte_at (b ∷ bytes) h (suc i) = byte_at bytes h.1 i

pub bytes_from : (bytes : List ℕ) → ((i : ℕ) → get_or bytes i 0 < 256) → AreBytes bytes
bytes_from [] h = tt
bytes_from (b ∷ bytes) h = (h 0, bytes_from bytes (λ i. h (suc i)))

-- ---- steps that may fail

-- the value of a step that did not fail
pub bind_some : {A B : Type 0} (o : Option A) (f : A → Option B) (y : B) → (o >>= f) ≡ Some y → (x : A) × (o ≡ Some x) × (f x ≡ Some y)
bind_some (Some x) f y e = (x, refl, e)
bind_some None f y e = absurd cc

-- a test that did not fail
pub guard_some : {A : Type 0} (b : Bool) (o : Option A) (y : A) → cond b None o ≡ Some y → (b ≡ false) × (o ≡ Some y)
guard_some true o y e = absurd cc
guard_some false o y e = (refl, e)

-- a test that holds
pub test_some : {A : Type 0} (b : Bool) (o : Option A) (y : A) → cond b o None ≡ Some y → (b ≡ true) × (o ≡ Some y)
test_some true o y e = (refl, e)
test_some false o y e = absurd cc

-- a test that failed
pub guard_none : {A : Type 0} (b : Bool) (x : A) → cond b None (Some x) ≡ None → b ≡ true
guard_none true x e = refl
guard_none false x e = absurd cc

-- a step that failed, before one that can't
pub bind_none : {A B : Type 0} (o : Option A) (f : A → B) → (o >>= λ x. Some (f x)) ≡ None → o ≡ None
bind_none None f e = refl
bind_none (Some x) f e = absurd cc

abbrev pub done : {A : Type 0} → A → Option A
done x = Some x

pub some_is : {A : Type 0} (x y : A) → done x ≡ done y → x ≡ y
some_is x y e = cc

-- ---- readers of a field

-- what a reader took from the front
pub record Takes (bytes text rest : List ℕ) : Type 0 where
  pub parts : bytes ≡ text ++ rest
  pub rest_fits : AreBytes rest

pub Takes-then : (a x b y c : List ℕ) → Takes a x b → Takes b y c → Takes a (x ++ y) c
Takes-then a x b y c p q = record { parts = p.parts ∙ ap (λ (t : List ℕ). x ++ t) q.parts ∙ sym (append_assoc x y c); rest_fits = q.rest_fits }

-- a reader of fields with a text and limits
pub record IsField {A : Type 0} (at : List ℕ → Option (A × List ℕ)) (text : A → List ℕ) (Fits : A → Type 0) : Type 0 where
  pub takes : (bytes : List ℕ) (x : A × List ℕ) → AreBytes bytes → at bytes ≡ Some x → Takes bytes (text x.0) x.1 × Fits x.0
  pub again : (x : A) (rest : List ℕ) → Fits x → at (text x ++ rest) ≡ Some (x, rest)

-- ---- so many bytes, and numbers

pub bytes_take : (n : ℕ) (bytes : List ℕ) (x : List ℕ × List ℕ) → AreBytes bytes → parse_bytes n bytes ≡ Some x → Takes bytes x.0 x.1 × (length x.0 ≡ n) × AreBytes x.0
bytes_take n bytes x fits e =
    let g = guard_some (ltb (length bytes) n) (Some (take n bytes, drop n bytes)) x e in
    let long : n ≤ length bytes = ltb-false _ _ g.0 in
    let len : length (take n bytes) ≡ n = omega (arith, length-take n bytes) in
    subst (λ (p : List ℕ × List ℕ). Takes bytes p.0 p.1 × (length p.0 ≡ n) × AreBytes p.0) (some_is (take n bytes, drop n bytes) x g.1)
    (record { parts = sym (take-append-drop n bytes); rest_fits = AreBytes-drop n bytes fits }, len, AreBytes-take n bytes fits)

pub bytes_again : (n : ℕ) (x rest : List ℕ) → length x ≡ n → parse_bytes n (x ++ rest) ≡ Some (x, rest)
bytes_again n x rest len =
    let long : ltb (length (x ++ rest)) n ≡ false = le-ltb _ _ (omega (arith, length-append x rest)) in
    rw (long, take_at x rest n len, drop_at x rest n len) refl

record IsWide (w : Width) (limit : ℕ) : Type 0 where
  pub len : (n : ℕ) → length (to_be_bytes w n) ≡ byte_len w
  pub back : (bytes : List ℕ) → length bytes ≡ byte_len w → AreBytes bytes → to_be_bytes w (from_be_bytes w bytes) ≡ bytes
  pub again : (n : ℕ) → n < limit → from_be_bytes w (to_be_bytes w n) ≡ n
  pub below : (bytes : List ℕ) → AreBytes bytes → from_be_bytes w bytes < limit

wide16 : IsWide w16 (2 ^ 16)
wide16 = record {
  len = λ n. refl;
  back = λ bytes len fits. be_bytes_2 bytes _ len (byte_at bytes fits) refl;
  again = λ n lt. from_be_bytes-to_be_bytes_2 n lt;
  below = λ bytes fits. omega (arith, byte_at bytes fits 0, byte_at bytes fits 1);
}

wide32 : IsWide w32 (2 ^ 32)
wide32 = record {
  len = λ n. refl;
  back = λ bytes len fits. be_bytes_4 bytes _ len (byte_at bytes fits) refl;
  again = λ n lt. from_be_bytes-to_be_bytes_4 n lt;
  below = λ bytes fits. omega (arith, byte_at bytes fits 0, byte_at bytes fits 1, byte_at bytes fits 2, byte_at bytes fits 3);
}

wide64 : IsWide w64 (2 ^ 64)
wide64 = record {
  len = λ n. refl;
  back = λ bytes len fits. be_bytes_8 bytes _ len (byte_at bytes fits) refl;
  again = λ n lt. from_be_bytes-to_be_bytes_8 n lt;
  below = λ bytes fits. omega (arith, byte_at bytes fits 0, byte_at bytes fits 1, byte_at bytes fits 2, byte_at bytes fits 3, byte_at bytes fits 4, byte_at bytes fits 5, byte_at bytes fits 6, byte_at bytes fits 7);
}

number_takes : (w : Width) (limit : ℕ) (wide : IsWide w limit) (bytes : List ℕ) (x : ℕ × List ℕ) → AreBytes bytes → parse_number w bytes ≡ Some x → Takes bytes (to_be_bytes w x.0) x.1 × (x.0 < limit)
number_takes w limit wide bytes x fits e =
    let n = byte_len w in
    let g = guard_some (ltb (length bytes) n) (Some (from_be_bytes w (take n bytes), drop n bytes)) x e in
    let long : n ≤ length bytes = ltb-false _ _ g.0 in
    let same : to_be_bytes w (from_be_bytes w (take n bytes)) ≡ take n bytes = wide.back (take n bytes) (omega (arith, length-take n bytes)) (AreBytes-take n bytes fits) in
    subst (λ (p : ℕ × List ℕ). Takes bytes (to_be_bytes w p.0) p.1 × (p.0 < limit)) (some_is (from_be_bytes w (take n bytes), drop n bytes) x g.1)
    (record { parts = rw same (sym (take-append-drop n bytes)); rest_fits = AreBytes-drop n bytes fits }, wide.below (take n bytes) (AreBytes-take n bytes fits))

number_again : (w : Width) (limit : ℕ) (wide : IsWide w limit) (n : ℕ) (rest : List ℕ) → n < limit → parse_number w (to_be_bytes w n ++ rest) ≡ Some (n, rest)
number_again w limit wide n rest lt =
    let len = wide.len n in
    let long : ltb (length (to_be_bytes w n ++ rest)) (byte_len w) ≡ false = le-ltb _ _ (omega (arith, length-append (to_be_bytes w n) rest)) in
    rw (long, take_at (to_be_bytes w n) rest (byte_len w) len, drop_at (to_be_bytes w n) rest (byte_len w) len, wide.again n lt) refl

number_field : (w : Width) (limit : ℕ) → IsWide w limit → IsField (parse_number w) (to_be_bytes w) (λ n. n < limit)
number_field w limit wide = record { takes = number_takes w limit wide; again = number_again w limit wide }

pub field16 : IsField (parse_number w16) (to_be_bytes w16) (λ n. n < 2 ^ 16)
field16 = number_field w16 (2 ^ 16) wide16

pub field32 : IsField (parse_number w32) (to_be_bytes w32) (λ n. n < 2 ^ 32)
field32 = number_field w32 (2 ^ 32) wide32

pub field64 : IsField (parse_number w64) (to_be_bytes w64) (λ n. n < 2 ^ 64)
field64 = number_field w64 (2 ^ 64) wide64

-- ---- what stands behind a number

-- a number that is there has its bytes
pub number_parts : (w : Width) (bytes : List ℕ) (x : ℕ × List ℕ) → parse_number w bytes ≡ Some x → (byte_len w ≤ length bytes) × (x.0 ≡ from_be_bytes w (take (byte_len w) bytes)) × (x.1 ≡ drop (byte_len w) bytes)
number_parts w bytes x e =
    let n = byte_len w in
    let g = guard_some (ltb (length bytes) n) (Some (from_be_bytes w (take n bytes), drop n bytes)) x e in
    let same = some_is (from_be_bytes w (take n bytes), drop n bytes) x g.1 in
    (ltb-false _ _ g.0, ap (λ (y : ℕ × List ℕ). y.0) (sym same), ap (λ (y : ℕ × List ℕ). y.1) (sym same))

-- a number that is there stays so, whatever follows
pub number_more : (w : Width) (bytes more : List ℕ) (x : ℕ × List ℕ) → parse_number w bytes ≡ Some x → parse_number w (bytes ++ more) ≡ Some (x.0, x.1 ++ more)
number_more w bytes more x e =
    let n = byte_len w in
    let parts = number_parts w bytes x e in
    let fits : n ≤ length bytes = parts.0 in
    let long : ltb (length (bytes ++ more)) n ≡ false = le-ltb _ _ (omega (arith, length-append bytes more)) in
    rw (long, take-append-le n bytes more fits, drop-append-le n bytes more fits, sym parts.1, sym parts.2) refl

-- a number that isn't there is short of bytes
pub number_none : (w : Width) (bytes : List ℕ) → parse_number w bytes ≡ None → length bytes < byte_len w
number_none w bytes e = ltb-true _ _ (guard_none (ltb (length bytes) (byte_len w)) (from_be_bytes w (take (byte_len w) bytes), drop (byte_len w) bytes) e)

-- ---- the bytes after a field are no more

pub bytes_shorter : (n : ℕ) (bytes : List ℕ) (x : List ℕ × List ℕ) → parse_bytes n bytes ≡ Some x → length x.1 ≤ length bytes
bytes_shorter n bytes x e =
    let g = guard_some (ltb (length bytes) n) (Some (take n bytes, drop n bytes)) x e in
    subst (λ (p : List ℕ × List ℕ). length p.1 ≤ length bytes) (some_is (take n bytes, drop n bytes) x g.1) (omega (arith, length-drop n bytes))

pub number_shorter : (w : Width) (bytes : List ℕ) (x : ℕ × List ℕ) → parse_number w bytes ≡ Some x → length x.1 ≤ length bytes
number_shorter w bytes x e =
    let n = byte_len w in
    let g = guard_some (ltb (length bytes) n) (Some (from_be_bytes w (take n bytes), drop n bytes)) x e in
    subst (λ (p : ℕ × List ℕ). length p.1 ≤ length bytes) (some_is (from_be_bytes w (take n bytes), drop n bytes) x g.1) (omega (arith, length-drop n bytes))
