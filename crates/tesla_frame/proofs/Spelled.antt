-- A field that is read is the field that was written, and what was written is read again.
use Rattle.std.proofs.Common.{◌≡◌, ℕ, zero, suc, ◌<◌, ◌≤◌, true, false, cond, ltb, leb, ◌&&◌, List, [], ◌∷◌, ◌++◌, length, Option, Some, None, refl, sym, ap, subst, ◌∙◌, append_assoc, arith}
use Rattle.std.specs.Prelude.{IfSome}
use Rattle.std.specs.List.{flat_map, AllByRecursion}
use Rattle.std.specs.Int.{w16, w32, to_be_bytes}
use Rattle.std.proofs.lemmas.Bool.{ltb-false, le-ltb, leb-true, le-leb, and_parts}
use Rattle.std.proofs.lemmas.List.Concat.{flat_map-cons}
use Rattle.tesla_base.specs.Prefix.{AreBytes, ◌>>=◌, parse_bytes, parse_number}
use Rattle.tesla_base.specs.Version.{IsTagLength, shortest_tag, longest_tag}
use Rattle.tesla_base.specs.declared.names.Key.{Key}
use Rattle.tesla_base.specs.declared.version.Version.{Version}
use Rattle.tesla_base.specs.declared.version.Version.TheVariants.{One, Two}
use Rattle.tesla_base.proofs.Prefixes.{bind_some, guard_some, test_some, some_is, Takes, Takes-then, IsField, bytes_take, bytes_again, field16, field32}
use Rattle.tesla_frame.specs.declared.row.KeyRow.{KeyRow}
use Rattle.tesla_frame.specs.Frame.{TagRow, IsKey, IsTagRow, IsKeyRow, key_text, tag_row_text, key_row_text}
use Rattle.tesla_frame.specs.Reading.{key_at, optional_key_at, tag_row_at, byte_at, key_row_at, rows_at, byte_within, tag_length_at, payload_at}

-- ---- keys and tags

key_takes : (bytes : List ℕ) (x : Key × List ℕ) → AreBytes bytes → key_at bytes ≡ Some x → Takes bytes x.0.0 x.1 × IsKey x.0
unfolding key_at
key_takes bytes x fits e =
    let b = bind_some (parse_bytes 32 bytes) (λ key. Some (record { 0 = key.0 }, key.1)) x e in
    let t = bytes_take 32 bytes b.0 fits b.1 in
    let made : Key × List ℕ = (record { 0 = b.0.0 }, b.0.1) in
    subst (λ (p : Key × List ℕ). Takes bytes p.0.0 p.1 × IsKey p.0) (some_is made x b.2) (t.0, (t.1, t.2))

key_again : (x : Key) (rest : List ℕ) → IsKey x → key_at (x.0 ++ rest) ≡ Some (x, rest)
unfolding key_at
key_again x rest fits = rw (bytes_again 32 x.0 rest fits.0) refl

pub key_field : IsField key_at (λ key. key.0) IsKey
key_field = record { takes = key_takes; again = key_again }

optional_takes : (bytes : List ℕ) (x : Option Key × List ℕ) → AreBytes bytes → optional_key_at bytes ≡ Some x → Takes bytes (key_text x.0) x.1 × IfSome x.0 IsKey
unfolding optional_key_at
optional_takes [] x fits e = absurd cc
optional_takes (zero ∷ bytes) x fits e =
    subst (λ (p : Option Key × List ℕ). Takes (0 ∷ bytes) (key_text p.0) p.1 × IfSome p.0 IsKey) (some_is (None, bytes) x e) (record { parts = refl; rest_fits = fits.1 }, tt)
optional_takes (suc zero ∷ bytes) x fits e =
    let b = bind_some (key_at bytes) (λ key. Some (Some key.0, key.1)) x e in
    let t = key_takes bytes b.0 fits.1 b.1 in
    subst (λ (p : Option Key × List ℕ). Takes (1 ∷ bytes) (key_text p.0) p.1 × IfSome p.0 IsKey) (some_is (Some b.0.0, b.0.1) x b.2)
    (record { parts = ap (λ (w : List ℕ). 1 ∷ w) t.0.parts; rest_fits = t.0.rest_fits }, t.1)
optional_takes (suc (suc b) ∷ bytes) x fits e = absurd cc

optional_again : (x : Option Key) (rest : List ℕ) → IfSome x IsKey → optional_key_at (key_text x ++ rest) ≡ Some (x, rest)
unfolding optional_key_at
optional_again None rest fits = refl
optional_again (Some key) rest fits = rw (key_again key rest fits) refl

-- ---- rows

tag_row_takes : (size : ℕ) (bytes : List ℕ) (x : TagRow × List ℕ) → AreBytes bytes → tag_row_at size bytes ≡ Some x → Takes bytes (tag_row_text x.0) x.1 × IsTagRow size x.0
unfolding tag_row_at
tag_row_takes size bytes x fits e =
    let a = bind_some (parse_bytes size bytes) (λ tag. optional_key_at tag.1 >>= λ key. Some (record { tag = tag.0; key = key.0 }, key.1)) x e in
    let b = bind_some (optional_key_at a.0.1) (λ key. Some (record { tag = a.0.0; key = key.0 }, key.1)) x a.2 in
    let s = bytes_take size bytes a.0 fits a.1 in
    let t = optional_takes a.0.1 b.0 s.0.rest_fits b.1 in
    let made : TagRow × List ℕ = (record { tag = a.0.0; key = b.0.0 }, b.0.1) in
    subst (λ (p : TagRow × List ℕ). Takes bytes (tag_row_text p.0) p.1 × IsTagRow size p.0) (some_is made x b.2)
    (Takes-then bytes a.0.0 a.0.1 (key_text b.0.0) b.0.1 s.0 t.0, record { tag = s.1; bytes = s.2; key = t.1 })

tag_row_again : (size : ℕ) (x : TagRow) (rest : List ℕ) → IsTagRow size x → tag_row_at size (tag_row_text x ++ rest) ≡ Some (x, rest)
unfolding tag_row_at
tag_row_again size x rest fits =
    ap (tag_row_at size) (append_assoc x.tag (key_text x.key) rest) ∙ rw (bytes_again size x.tag (key_text x.key ++ rest) fits.tag, optional_again x.key rest fits.key) refl

pub tag_row_field : (size : ℕ) → IsField (tag_row_at size) tag_row_text (IsTagRow size)
tag_row_field size = record { takes = tag_row_takes size; again = tag_row_again size }

byte_takes : (bytes : List ℕ) (x : ℕ × List ℕ) → AreBytes bytes → byte_at bytes ≡ Some x → Takes bytes (x.0 ∷ []) x.1 × (x.0 < 256)
unfolding byte_at
byte_takes [] x fits e = absurd cc
byte_takes (b ∷ bytes) x fits e =
    subst (λ (p : ℕ × List ℕ). Takes (b ∷ bytes) (p.0 ∷ []) p.1 × (p.0 < 256)) (some_is (b, bytes) x e) (record { parts = refl; rest_fits = fits.1 }, fits.0)

byte_again : (b : ℕ) (rest : List ℕ) → b < 256 → byte_at (b ∷ [] ++ rest) ≡ Some (b, rest)
unfolding byte_at
byte_again b rest fits = refl

pub byte_field : IsField byte_at (λ b. b ∷ []) (λ b. b < 256)
byte_field = record { takes = byte_takes; again = byte_again }

key_row_takes : (bytes : List ℕ) (x : KeyRow × List ℕ) → AreBytes bytes → key_row_at bytes ≡ Some x → Takes bytes (key_row_text x.0) x.1 × IsKeyRow x.0
unfolding key_row_at
key_row_takes bytes x fits e =
    let a = bind_some (byte_at bytes) (λ chain. parse_number w32 chain.1 >>= λ index. key_at index.1 >>= λ key. Some (record { chain = record { 0 = chain.0 }; index = index.0; key = key.0 }, key.1)) x e in
    let b = bind_some (parse_number w32 a.0.1) (λ index. key_at index.1 >>= λ key. Some (record { chain = record { 0 = a.0.0 }; index = index.0; key = key.0 }, key.1)) x a.2 in
    let d = bind_some (key_at b.0.1) (λ key. Some (record { chain = record { 0 = a.0.0 }; index = b.0.0; key = key.0 }, key.1)) x b.2 in
    let s = byte_takes bytes a.0 fits a.1 in
    let t = field32.takes a.0.1 b.0 s.0.rest_fits b.1 in
    let u = key_takes b.0.1 d.0 t.0.rest_fits d.1 in
    let e1 = Takes-then a.0.1 (to_be_bytes w32 b.0.0) b.0.1 d.0.0.0 d.0.1 t.0 u.0 in
    let e0 = Takes-then bytes (a.0.0 ∷ []) a.0.1 (to_be_bytes w32 b.0.0 ++ d.0.0.0) d.0.1 s.0 e1 in
    let made : KeyRow × List ℕ = (record { chain = record { 0 = a.0.0 }; index = b.0.0; key = d.0.0 }, d.0.1) in
    subst (λ (p : KeyRow × List ℕ). Takes bytes (key_row_text p.0) p.1 × IsKeyRow p.0) {x = made} (some_is made x d.2)
    (e0, record { chain = s.1; index = t.1; key = u.1 })

key_row_again : (x : KeyRow) (rest : List ℕ) → IsKeyRow x → key_row_at (key_row_text x ++ rest) ≡ Some (x, rest)
unfolding key_row_at byte_at
key_row_again x rest fits =
    rw (field32.again x.index (x.key.0 ++ rest) fits.index, key_again x.key rest fits.key) refl

pub key_row_field : IsField key_row_at key_row_text IsKeyRow
key_row_field = record { takes = key_row_takes; again = key_row_again }

pub rows_take : {A : Type 0} (at : List ℕ → Option (A × List ℕ)) (text : A → List ℕ) (Fits : A → Type 0) (field : IsField at text Fits) (n : ℕ) (bytes : List ℕ) (x : List A × List ℕ)
    → AreBytes bytes → rows_at at n bytes ≡ Some x → Takes bytes (flat_map text x.0) x.1 × (length x.0 ≡ n) × AllByRecursion Fits x.0
unfolding rows_at
rows_take {A = A} at text Fits field zero bytes x fits e =
    subst (λ (y : List A × List ℕ). Takes bytes (flat_map text y.0) y.1 × (length y.0 ≡ 0) × AllByRecursion Fits y.0) (some_is ([], bytes) x e) (record { parts = refl; rest_fits = fits }, refl, tt)
rows_take {A = A} at text Fits field (suc n) bytes x fits e =
    let a = bind_some (at bytes) (λ first. rows_at at n first.1 >>= λ others. Some (first.0 ∷ others.0, others.1)) x e in
    let b = bind_some (rows_at at n a.0.1) (λ others. Some (a.0.0 ∷ others.0, others.1)) x a.2 in
    let first = field.takes bytes a.0 fits a.1 in
    let second = rows_take at text Fits field n a.0.1 b.0 first.0.rest_fits b.1 in
    let both = Takes-then bytes (text a.0.0) a.0.1 (flat_map text b.0.0) b.0.1 first.0 second.0 in
    let made : List A × List ℕ = (a.0.0 ∷ b.0.0, b.0.1) in
    subst (λ (y : List A × List ℕ). Takes bytes (flat_map text y.0) y.1 × (length y.0 ≡ suc n) × AllByRecursion Fits y.0) (some_is made x b.2)
    (rw flat_map-cons both, ap suc second.1, (first.1, second.2))

pub rows_again : {A : Type 0} (at : List ℕ → Option (A × List ℕ)) (text : A → List ℕ) (Fits : A → Type 0) (field : IsField at text Fits) (rows : List A) (rest : List ℕ)
    → AllByRecursion Fits rows → rows_at at (length rows) (flat_map text rows ++ rest) ≡ Some (rows, rest)
unfolding rows_at
rows_again at text Fits field [] rest fits = refl
rows_again at text Fits field (row ∷ rows) rest fits =
    let regrouped : flat_map text (row ∷ rows) ++ rest ≡ text row ++ (flat_map text rows ++ rest) = ap (λ (x : List ℕ). x ++ rest) (flat_map-cons text row rows) ∙ append_assoc (text row) (flat_map text rows) rest in
    ap (rows_at at (suc (length rows))) regrouped ∙ rw (field.again row (flat_map text rows ++ rest) fits.0, rows_again at text Fits field rows rest fits.1) refl

-- ---- bytes within limits, and payloads

within_takes : (least most : ℕ) (bytes : List ℕ) (x : ℕ × List ℕ) → AreBytes bytes → byte_within least most bytes ≡ Some x → Takes bytes (x.0 ∷ []) x.1 × ((least ≤ x.0) × (x.0 ≤ most))
unfolding byte_within
within_takes least most bytes x fits e =
    let a = bind_some (byte_at bytes) (λ byte. cond (leb least byte.0 && leb byte.0 most) (Some byte) None) x e in
    let g = test_some (leb least a.0.0 && leb a.0.0 most) (Some a.0) x a.2 in
    let tests = and_parts (leb least a.0.0) (leb a.0.0 most) g.0 in
    let t = byte_takes bytes a.0 fits a.1 in
    subst (λ (p : ℕ × List ℕ). Takes bytes (p.0 ∷ []) p.1 × ((least ≤ p.0) × (p.0 ≤ most))) (some_is a.0 x g.1) (t.0, (leb-true _ _ tests.0, leb-true _ _ tests.1))

within_again : (least most n : ℕ) (rest : List ℕ) → (least ≤ n) × (n ≤ most) → byte_within least most (n ∷ [] ++ rest) ≡ Some (n, rest)
unfolding byte_within byte_at
within_again least most n rest fits =
    let low : leb least n ≡ true = le-leb _ _ fits.0 in
    let high : leb n most ≡ true = le-leb _ _ fits.1 in
    rw (low, high) refl

pub within_field : (least most : ℕ) → IsField (byte_within least most) (λ n. n ∷ []) (λ n. (least ≤ n) × (n ≤ most))
within_field least most = record { takes = within_takes least most; again = within_again least most }

-- how long the tags are, in version 2
abbrev pub length_text : Version → ℕ → List ℕ
length_text One size = []
length_text Two size = size ∷ []

length_takes : (version : Version) (bytes : List ℕ) (x : ℕ × List ℕ) → AreBytes bytes → tag_length_at version bytes ≡ Some x → Takes bytes (length_text version x.0) x.1 × IsTagLength version x.0
unfolding tag_length_at
length_takes One bytes x fits e =
    subst (λ (p : ℕ × List ℕ). Takes bytes [] p.1 × IsTagLength One p.0) (some_is (longest_tag One, bytes) x e) (record { parts = refl; rest_fits = fits }, record { shortest = omega arith; longest = omega arith })
length_takes Two bytes x fits e = let t = within_takes (shortest_tag Two) (longest_tag Two) bytes x fits e in (t.0, record { shortest = t.1.0; longest = t.1.1 })

length_again : (version : Version) (size : ℕ) (rest : List ℕ) → IsTagLength version size → tag_length_at version (length_text version size ++ rest) ≡ Some (size, rest)
unfolding tag_length_at
length_again One size rest fits =
    let same : longest_tag One ≡ size = omega (arith, fits.shortest, fits.longest) in
    ap (λ (n : ℕ). Some (n, rest)) same
length_again Two size rest fits = within_again (shortest_tag Two) (longest_tag Two) size rest (fits.shortest, fits.longest)

pub length_field : (version : Version) → IsField (tag_length_at version) (length_text version) (IsTagLength version)
length_field version = record { takes = length_takes version; again = length_again version }

-- the length, and so many bytes
abbrev pub payload_text : List ℕ → List ℕ
payload_text payload = to_be_bytes w16 (length payload) ++ payload

payload_takes : (bytes : List ℕ) (x : List ℕ × List ℕ) → AreBytes bytes → payload_at bytes ≡ Some x → Takes bytes (payload_text x.0) x.1 × ((length x.0 ≤ 1200) × AreBytes x.0)
unfolding payload_at
payload_takes bytes x fits e =
    let a = bind_some (parse_number w16 bytes) (λ n. cond (ltb 1200 n.0) None (parse_bytes n.0 n.1)) x e in
    let g = guard_some (ltb 1200 a.0.0) (parse_bytes a.0.0 a.0.1) x a.2 in
    let few : a.0.0 ≤ 1200 = ltb-false _ _ g.0 in
    let s = field16.takes bytes a.0 fits a.1 in
    let t = bytes_take a.0.0 a.0.1 x s.0.rest_fits g.1 in
    let both = Takes-then bytes (to_be_bytes w16 a.0.0) a.0.1 x.0 x.1 s.0 t.0 in
    (subst (λ (k : ℕ). Takes bytes (to_be_bytes w16 k ++ x.0) x.1) (sym t.1) both, (omega (arith, t.1), t.2))

payload_again : (x rest : List ℕ) → length x ≤ 1200 → payload_at (payload_text x ++ rest) ≡ Some (x, rest)
unfolding payload_at
payload_again x rest few =
    let short : ltb 1200 (length x) ≡ false = le-ltb _ _ few in
    rw (field16.again (length x) (x ++ rest) (omega arith), short, bytes_again (length x) x rest refl) refl

pub payload_field : IsField payload_at payload_text (λ x. (length x ≤ 1200) × AreBytes x)
payload_field = record { takes = payload_takes; again = λ x rest fits. payload_again x rest fits.0 }
