-- The frames that are made, and the last ones that are kept.
use Rattle.std.proofs.Common.{◌≡◌, ◌∙◌, ℕ, zero, suc, ◌+◌, ◌-◌, ◌*◌, ◌<◌, ◌≤◌, true, false, List, [], ◌∷◌, ◌++◌, length, drop, Option, Some, None, refl, sym, ap, subst, inl, inr, arith, add-one}
use Rattle.std.specs.Prelude.{slice_get, nat_lt, if◌then◌else◌, IfSome}
use Rattle.std.specs.List.{AllByRecursion, flat_map}
use Rattle.std.proofs.lemmas.Bool.{cases_lt, le-ltb, lt-ltb}
use Rattle.std.proofs.lemmas.List.{length-append, length-drop, drop-append-le, drop-drop}
use Rattle.circular_buffer.specs.Buffer.{Buffer, buffer, keep_last}
use Rattle.tesla_base.proofs.Lists.{slice_get-append}
use Rattle.tesla_base.specs.declared.names.Key.{Key}
use Rattle.tesla_base.specs.declared.version.Version.TheVariants.{One}
use Rattle.tesla_frame.specs.Frame.{DataFrame, Data, IsDataFrame, IsKey, IsTagRow, TagRow, frame_text, key_text, tag_row_text}
use Rattle.tesla_sender.specs.Made.{Stream}
use Rattle.tesla_run_stress.specs.Base.{base_stream}
use Rattle.tesla_run_stress.specs.Load.{message_text, text_before}
use Rattle.tesla_run_stress.specs.Steps.{Keeps, texts_to}

-- ---- lists

-- an element behind the first ones
slice_get-drop : {A : Type 0} (n : ℕ) (xs : List A) (i : ℕ) → slice_get (drop n xs) i ≡ slice_get xs (n + i)
slice_get-drop zero xs i = ap (λ k. slice_get xs k) (omega arith)
slice_get-drop (suc n) [] i = refl
slice_get-drop (suc n) (x ∷ xs) i =
    let more : suc n + i ≡ suc (n + i) = omega arith in
    rw more (slice_get-drop n xs i)

-- the element behind the others
slice_get-end : {A : Type 0} (xs : List A) (x : A) (i : ℕ) → i ≡ length xs → slice_get (xs ++ x ∷ []) i ≡ Some x
slice_get-end [] x zero h = refl
slice_get-end [] x (suc i) h = absurd (omega arith)
slice_get-end (y ∷ xs) x zero h = absurd (omega arith)
slice_get-end (y ∷ xs) x (suc i) h = slice_get-end xs x i (omega arith)

-- of the last ones and others behind them, the last ones
keep_append : {A : Type 0} (c : ℕ) (xs ys : List A) → keep_last c (keep_last c xs ++ ys) ≡ keep_last c (xs ++ ys)
keep_append c xs ys =
    let a = length xs - c in
    let within : a ≤ length xs = omega arith in
    let joined : drop a xs ++ ys ≡ drop a (xs ++ ys) = sym (drop-append-le a xs ys within) in
    let b = length (drop a (xs ++ ys)) - c in
    let lengths : a + b ≡ length (xs ++ ys) - c = omega (arith, length-drop a (xs ++ ys), length-append xs ys) in
    ap (λ zs. drop (length zs - c) zs) joined ∙ drop-drop b a (xs ++ ys) ∙ ap (λ k. drop k (xs ++ ys)) lengths

-- ---- the frames that are kept

texts_more : (stream : Stream) (n : ℕ) → texts_to stream (n + 1) ≡ texts_to stream n ++ message_text stream n ∷ []
unfolding texts_to
texts_more stream n = rw add-one refl

texts_length : (stream : Stream) (n : ℕ) → length (texts_to stream n) ≡ n
unfolding texts_to
texts_length stream zero = refl
texts_length stream (suc n) = omega (arith, texts_length stream n, length-append (texts_to stream n) (message_text stream n ∷ []))

text_at : (stream : Stream) (n i : ℕ) → i < n → slice_get (texts_to stream n) i ≡ Some (message_text stream i)
unfolding texts_to
text_at stream zero i h = absurd (omega arith)
text_at stream (suc n) i h =
    let len = texts_length stream n in
    elim (cases_lt i n) as (λ _. slice_get (texts_to stream n ++ message_text stream n ∷ []) i ≡ Some (message_text stream i)) [
      | inl below ↦ slice_get-append (texts_to stream n) (message_text stream n ∷ []) i (omega (arith, len)) ∙ text_at stream n i below
      | inr above ↦
          let at : i ≡ n = omega arith in
          slice_get-end (texts_to stream n) (message_text stream n) i (omega (arith, len)) ∙ ap (λ k. Some (message_text stream k)) (sym at)
    ]

pub keeps_none : (count : ℕ) (kept : Buffer (List ℕ)) → kept ≡ buffer [] 30 → Keeps count 0 kept
unfolding texts_to
keeps_none count kept empty = record {
  room = ap (λ (b : Buffer (List ℕ)). b.capacity) empty;
  texts = ap (λ (b : Buffer (List ℕ)). b.items) empty;
}

pub keeps_more : (count k : ℕ) (kept now : Buffer (List ℕ)) (text : List ℕ) → Keeps count k kept → text ≡ message_text (base_stream count) k → now ≡ buffer (keep_last kept.capacity (kept.items ++ text ∷ [])) kept.capacity → Keeps count (k + 1) now
keeps_more count k kept now text was is pushed =
    let stream = base_stream count in
    record {
      room = ap (λ (b : Buffer (List ℕ)). b.capacity) pushed ∙ was.room;
      texts =
          ap (λ (b : Buffer (List ℕ)). b.items) pushed ∙ ap (λ (c : ℕ). keep_last c (kept.items ++ text ∷ [])) was.room
          ∙ ap (λ (l : List (List ℕ)). keep_last 30 (l ++ text ∷ [])) was.texts ∙ keep_append 30 (texts_to stream k) (text ∷ [])
          ∙ ap (λ (t : List ℕ). keep_last 30 (texts_to stream k ++ t ∷ [])) is ∙ ap (keep_last 30) (sym (texts_more stream k));
    }

-- the frame that is given back when one is kept
pub given_back : (count k : ℕ) (kept : Buffer (List ℕ)) (text : List ℕ) (given : Option (List ℕ)) → Keeps count k kept → given ≡ (if nat_lt (length kept.items) kept.capacity then None else slice_get (kept.items ++ text ∷ []) 0) → given ≡ text_before (base_stream count) k
given_back count k kept text given was gives =
    let stream = base_stream count in
    let len : length (texts_to stream k) ≡ k = texts_length stream k in
    let from = length (texts_to stream k) - 30 in
    let size : length kept.items ≡ length (keep_last 30 (texts_to stream k)) = ap length was.texts in
    let room = was.room in
    elim (cases_lt k 30) as (λ _. given ≡ text_before stream k) [
      | inl few ↦
          let more : nat_lt (length kept.items) kept.capacity ≡ true = lt-ltb _ _ (omega (arith, len, size, room, length-drop from (texts_to stream k))) in
          let none : given ≡ None = rw more at gives in
          none ∙ rw (lt-ltb k 30 few) refl
      | inr many ↦
          let full : nat_lt (length kept.items) kept.capacity ≡ false = le-ltb _ _ (omega (arith, len, size, room, length-drop from (texts_to stream k))) in
          let first : given ≡ slice_get (kept.items ++ text ∷ []) 0 = rw full at gives in
          let offset : from + 0 ≡ k - 30 = omega arith in
          first ∙ slice_get-append kept.items (text ∷ []) 0 (omega (arith, len, size, length-drop from (texts_to stream k)))
          ∙ ap (λ (l : List (List ℕ)). slice_get l 0) was.texts ∙ slice_get-drop from (texts_to stream k) 0
          ∙ ap (slice_get (texts_to stream k)) offset ∙ text_at stream k (k - 30) (omega arith) ∙ sym (rw (le-ltb k 30 many) refl)
    ]

-- ---- how long a frame is

key_short : (key : Option Key) → IfSome key IsKey → length (key_text key) ≤ 33
key_short None is = omega arith
key_short (Some key) is = omega (arith, is.0)

rows_short : (rows : List TagRow) → AllByRecursion (IsTagRow 16) rows → length (flat_map tag_row_text rows) ≤ 49 * length rows
rows_short [] all = omega arith
rows_short (row ∷ rows) all =
    let others = rows_short rows all.1 in
    let key = key_short row.key all.0.key in
    omega (arith, others, key, all.0.tag, length-append (tag_row_text row) (flat_map tag_row_text rows), length-append row.tag (key_text row.key))

-- a frame of version 1 with a payload of 8 bytes, and tags of 16 bytes of two chains
pub frame_short : (f : DataFrame) → IsDataFrame f → f.version ≡ One → length f.payload ≡ 8 → f.tag_length ≡ 16 → length f.rows ≡ 2 → length (frame_text (Data f)) ≤ 129
frame_short f is version payload size rows =
    let all : AllByRecursion (IsTagRow 16) f.rows = subst (λ (n : ℕ). AllByRecursion (IsTagRow n) f.rows) size is.rows in
    let tail = rows_short f.rows all in
    rw version (omega (arith, tail, payload, rows, length-append (f.payload ++ length f.rows ∷ []) (flat_map tag_row_text f.rows), length-append f.payload (length f.rows ∷ [])))
