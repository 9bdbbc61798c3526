-- Rows that stand in the bytes are what is read there.
use Rattle.std.proofs.Common.{◌≡◌, ℕ, zero, suc, ◌+◌, ◌-◌, ◌*◌, ◌<◌, ◌≤◌, inl, inr, eq-eqb, Bool, true, false, cond, ltb, eqb, ◌&&◌, List, [], ◌∷◌, length, get_or, take, drop, Option, Some, None, refl, sym, ap, ◌∙◌, arith}
use Rattle.std.specs.Prelude.{slice_get}
use Rattle.std.specs.Int.{w32, from_be_bytes}
use Rattle.std.proofs.Math.ListN.{drop_of_length-le}
use Rattle.std.proofs.lemmas.Bool.{le-ltb, lt-ltb, ne_eqb, cases_lt}
use Rattle.std.proofs.lemmas.List.{drop-drop, drop_more, get_or-drop, length-drop}
use Rattle.tesla_base.specs.Prefix.{◌>>=◌}
use Rattle.tesla_base.specs.declared.names.Key.{Key}
use Rattle.tesla_frame.specs.declared.row.KeyRow.{KeyRow}
use Rattle.tesla_frame.specs.Frame.{TagRow}
use Rattle.tesla_frame.specs.Reading.{key_at, optional_key_at, tag_row_at, byte_at, key_row_at, rows_at, chains_rise}
use Rattle.tesla_frame.specs.View.{key_in, tag_row_in, key_row_in, key_rows_in}

-- ---- keys

key_here : (bytes : List ℕ) (at : ℕ) → at + 32 ≤ length bytes → key_at (drop at bytes) ≡ Some (key_in (drop at bytes), drop (at + 32) bytes)
unfolding key_at
key_here bytes at fits =
    let long : ltb (length (drop at bytes)) 32 ≡ false = le-ltb _ _ (omega (arith, length-drop at bytes)) in
    rw long (ap (λ (rest : List ℕ). Some (key_in (drop at bytes), rest)) (drop-drop 32 at bytes))

key_cut : (bytes : List ℕ) → length bytes < 32 → key_at bytes ≡ None
unfolding key_at
key_cut bytes cut =
    let short : ltb (length bytes) 32 ≡ true = lt-ltb _ _ cut in
    rw short refl

-- ---- rows of a data frame

-- a row with that tag, from the key and what follows it
abbrev row_with : List ℕ → Option Key × List ℕ → Option (TagRow × List ℕ)
row_with tag key = Some (record { tag = tag; key = key.0 }, key.1)

-- a step that fails on what is read, if anything is
none_after : {A B : Type 0} (short : Bool) (x : A) (f : A → Option B) → f x ≡ None → (cond short None (Some x) >>= f) ≡ None
none_after true x f e = refl
none_after false x f e = e

no_flag : (size : ℕ) (bytes : List ℕ) → length bytes ≤ size → tag_row_at size bytes ≡ None
unfolding tag_row_at optional_key_at
no_flag size bytes cut =
    none_after (ltb (length bytes) size) (take size bytes, drop size bytes) (λ tag. optional_key_at tag.1 >>= row_with tag.0) (rw (drop_of_length-le bytes cut) refl)

-- the bytes end before the flag
pub row_before_flag : (size : ℕ) (bytes : List ℕ) (at : ℕ) → length bytes ≤ at + size → None ≡ tag_row_at size (drop at bytes)
row_before_flag size bytes at cut = sym (no_flag size (drop at bytes) (omega (arith, length-drop at bytes)))

-- what is read where the tag stands whole
flag_next : (size : ℕ) (bytes : List ℕ) (at flag : ℕ) → at + size < length bytes → get_or bytes (at + size) 0 ≡ flag
    → tag_row_at size (drop at bytes) ≡ (optional_key_at (flag ∷ drop (at + size + 1) bytes) >>= row_with (take size (drop at bytes)))
unfolding tag_row_at
flag_next size bytes at flag fits is =
    let long : ltb (length (drop at bytes)) size ≡ false = le-ltb _ _ (omega (arith, length-drop at bytes)) in
    let next : drop size (drop at bytes) ≡ flag ∷ drop (at + size + 1) bytes = drop-drop size at bytes ∙ drop_more bytes (at + size) 0 fits ∙ ap (λ (b : ℕ). b ∷ drop (at + size + 1) bytes) is in
    rw (long, next) refl

flag_in : (size : ℕ) (bytes : List ℕ) (at flag : ℕ) → at + size < length bytes → get_or bytes (at + size) 0 ≡ flag → drop (at + size) bytes ≡ flag ∷ drop (at + size + 1) bytes
flag_in size bytes at flag fits is = drop_more bytes (at + size) 0 fits ∙ ap (λ (b : ℕ). b ∷ drop (at + size + 1) bytes) is

-- the row has no key
pub bare_row : (size : ℕ) (bytes : List ℕ) (at : ℕ) → at + size < length bytes → get_or bytes (at + size) 0 ≡ 0 → Some (tag_row_in size bytes at, drop (at + size + 1) bytes) ≡ tag_row_at size (drop at bytes)
unfolding optional_key_at
bare_row size bytes at fits is = rw (flag_next size bytes at 0 fits is, flag_in size bytes at 0 fits is) refl

-- the row has a key
pub keyed_row : (size : ℕ) (bytes : List ℕ) (at : ℕ) → get_or bytes (at + size) 0 ≡ 1 → at + size + 33 ≤ length bytes → Some (tag_row_in size bytes at, drop (at + size + 33) bytes) ≡ tag_row_at size (drop at bytes)
unfolding optional_key_at
keyed_row size bytes at is fits =
    let within : at + size < length bytes = omega arith in
    let key = key_here bytes (at + size + 1) (omega arith) in
    let end : at + size + 33 ≡ at + size + 1 + 32 = omega arith in
    rw (flag_next size bytes at 1 within is, flag_in size bytes at 1 within is, key, end) refl

-- the bytes end within the key
pub row_within_key : (size : ℕ) (bytes : List ℕ) (at : ℕ) → at + size < length bytes → get_or bytes (at + size) 0 ≡ 1 → length bytes < at + size + 33 → None ≡ tag_row_at size (drop at bytes)
unfolding optional_key_at
row_within_key size bytes at fits is cut = rw (flag_next size bytes at 1 fits is, key_cut (drop (at + size + 1) bytes) (omega (arith, length-drop (at + size + 1) bytes))) refl

other_flag : (flag : ℕ) (rest : List ℕ) → 2 ≤ flag → optional_key_at (flag ∷ rest) ≡ None
unfolding optional_key_at
other_flag zero rest h = absurd (omega arith)
other_flag (suc zero) rest h = absurd (omega arith)
other_flag (suc (suc flag)) rest h = refl

-- the flag is neither 0 nor 1
pub row_of_other_flag : (size : ℕ) (bytes : List ℕ) (at : ℕ) → at + size < length bytes → 2 ≤ get_or bytes (at + size) 0 → None ≡ tag_row_at size (drop at bytes)
row_of_other_flag size bytes at fits h = rw (flag_next size bytes at (get_or bytes (at + size) 0) fits refl, other_flag (get_or bytes (at + size) 0) (drop (at + size + 1) bytes) h) refl

-- ---- rows of a disclosure frame

-- a row with that chain and index, from the key and what follows it
abbrev key_row_with : ℕ → ℕ → Key × List ℕ → Option (KeyRow × List ℕ)
key_row_with chain index key = Some (record { chain = record { 0 = chain }; index = index; key = key.0 }, key.1)

key_row_here : (bytes : List ℕ) → 37 ≤ length bytes → key_row_at bytes ≡ Some (key_row_in bytes, drop 37 bytes)
unfolding key_row_at byte_at
key_row_here [] fits = absurd (omega arith)
key_row_here (chain ∷ bytes) fits =
    let long : ltb (length bytes) 4 ≡ false = le-ltb _ _ (omega arith) in
    rw (long, key_here bytes 4 (omega arith)) refl

key_row_cut : (bytes : List ℕ) → length bytes < 37 → key_row_at bytes ≡ None
unfolding key_row_at byte_at
key_row_cut [] cut = refl
key_row_cut (chain ∷ bytes) cut =
    none_after (ltb (length bytes) 4) (from_be_bytes w32 (take 4 bytes), drop 4 bytes) (λ index. key_at index.1 >>= key_row_with chain index.0) (rw (key_cut (drop 4 bytes) (omega (arith, length-drop 4 bytes))) refl)

-- all rows are there
pub key_rows_here : (n : ℕ) (bytes : List ℕ) → 37 * n ≤ length bytes → rows_at key_row_at n bytes ≡ Some (key_rows_in n bytes, drop (37 * n) bytes)
unfolding rows_at
key_rows_here zero bytes fits = refl
key_rows_here (suc n) bytes fits =
    let others = key_rows_here n (drop 37 bytes) (omega (arith, length-drop 37 bytes)) in
    let end : drop (37 * n) (drop 37 bytes) ≡ drop (37 * suc n) bytes = drop-drop (37 * n) 37 bytes ∙ ap (λ (k : ℕ). drop k bytes) (omega arith) in
    rw (key_row_here bytes (omega arith), others) (ap (λ (rest : List ℕ). Some (key_rows_in (suc n) bytes, rest)) end)

-- not all rows are there
key_rows_cut : (n : ℕ) (bytes : List ℕ) → length bytes < 37 * n → rows_at key_row_at n bytes ≡ None
unfolding rows_at
key_rows_cut zero bytes cut = absurd (omega arith)
key_rows_cut (suc n) bytes cut =
    elim (cases_lt (length bytes) 37) [
      | inl short ↦ rw (key_row_cut bytes short) refl
      | inr long ↦ rw (key_row_here bytes long, key_rows_cut n (drop 37 bytes) (omega (arith, length-drop 37 bytes))) refl
    ]

-- all of the bytes, where they are so many rows
abbrev pub all_rows : {A : Type 0} → (List KeyRow → Bool) → (List KeyRow → A) → List KeyRow × List ℕ → Option A
all_rows test make rows = cond (eqb (length rows.1) 0 && test rows.0) (Some (make rows.0)) None

-- bytes of another length are not so many rows and no more
pub rows_of_other_length : {A : Type 0} (n : ℕ) (bytes : List ℕ) (test : List KeyRow → Bool) (make : List KeyRow → A) → (length bytes ≡ 37 * n → ⊥) → None ≡ (rows_at key_row_at n bytes >>= all_rows test make)
rows_of_other_length n bytes test make other =
    elim (cases_lt (length bytes) (37 * n)) [
      | inl short ↦ rw (key_rows_cut n bytes short) refl
      | inr long ↦ let more : eqb (length (drop (37 * n) bytes)) 0 ≡ false = ne_eqb _ _ (λ same. other (omega (arith, length-drop (37 * n) bytes))) in rw (key_rows_here n bytes long, more) refl
    ]

-- bytes of that length are so many rows and no more
pub rows_of_length : {A : Type 0} (n : ℕ) (bytes : List ℕ) (test : List KeyRow → Bool) (make : List KeyRow → A) (b : Bool) → length bytes ≡ 37 * n → b ≡ test (key_rows_in n bytes)
    → cond b (Some (make (key_rows_in n bytes))) None ≡ (rows_at key_row_at n bytes >>= all_rows test make)
rows_of_length n bytes test make b same is =
    let all : eqb (length (drop (37 * n) bytes)) 0 ≡ true = eq-eqb _ _ (omega (arith, length-drop (37 * n) bytes)) in
    rw (key_rows_here n bytes (omega arith), all, is) refl

-- the first chain is below the second, and the others rise
pub rises_next : (n : ℕ) (bytes : List ℕ) → 2 ≤ n → chains_rise (key_rows_in n bytes) ≡ (ltb (get_or bytes 0 0) (get_or bytes 37 0) && chains_rise (key_rows_in (n - 1) (drop 37 bytes)))
rises_next zero bytes h = absurd (omega arith)
rises_next (suc zero) bytes h = absurd (omega arith)
rises_next (suc (suc n)) bytes h =
    let less : suc (suc n) - 1 ≡ suc n = omega arith in
    rw less (ap (λ (second : ℕ). ltb (get_or bytes 0 0) second && chains_rise (key_rows_in (suc n) (drop 37 bytes))) (get_or-drop 37 bytes 0 0))

pub key_rows_length : (n : ℕ) (bytes : List ℕ) → length (key_rows_in n bytes) ≡ n
key_rows_length zero bytes = refl
key_rows_length (suc n) bytes = ap suc (key_rows_length n (drop 37 bytes))

pub key_rows_get : (n : ℕ) (bytes : List ℕ) (place : ℕ) → place < n → slice_get (key_rows_in n bytes) place ≡ Some (key_row_in (drop (37 * place) bytes))
key_rows_get zero bytes place h = absurd (omega arith)
key_rows_get (suc n) bytes zero h = refl
key_rows_get (suc n) bytes (suc place) h =
    key_rows_get n (drop 37 bytes) place (omega arith) ∙ ap (λ (l : List ℕ). Some (key_row_in l)) (drop-drop (37 * place) 37 bytes ∙ ap (λ (k : ℕ). drop k bytes) (omega arith))
