-- A text at the front of a room, written one piece after the other.
use Rattle.std.proofs.Common.{◌≡◌, ◌∙◌, ℕ, ◌+◌, ◌-◌, List, ◌++◌, length, take, drop, ap, sym, refl, subst, arith, append_assoc, length-append, [], ◌∷◌, Option}
use Rattle.std.proofs.lemmas.List.{take_at, drop_at, drop-drop}
use borrow.Rule.Slice.PartMut.{put_mid}
use Rattle.tesla_frame.specs.Written.{Begins, rows_of}
use Rattle.std.specs.List.{flat_map}
use Rattle.tesla_base.specs.declared.names.Key.{Key}
use Rattle.tesla_base.specs.declared.names.WideTag.{WideTag}
use Rattle.tesla_base.specs.declared.version.Version.{Version}
use Rattle.tesla_frame.specs.Frame.{counts_text, tag_row_text}

-- the next piece stands behind the text
pub begins_more : (text piece before now new : List ℕ) (at : ℕ) → new ≡ take at now ++ (piece ++ drop (at + length piece) now) → length text ≡ at → Begins text before now → Begins (text ++ piece) before new
begins_more text piece before now new at step len begun =
    let k = length piece in
    let behind = drop (length text) before in
    let prefix : take at now ≡ text = ap (take at) begun ∙ take_at text behind at len in
    let back : drop (at + k) now ≡ drop (length (text ++ piece)) before =
    sym (drop-drop k at now) ∙ ap (λ (l : List ℕ). drop k (drop at l)) begun ∙ ap (drop k) (drop_at text behind at len) ∙ drop-drop k (length text) before ∙ ap (λ (n : ℕ). drop n before) (sym (length-append text piece)) in
    step ∙ ap (λ (a : List ℕ). a ++ (piece ++ drop (at + k) now)) prefix ∙ ap (λ (b : List ℕ). text ++ (piece ++ b)) back ∙ sym (append_assoc text piece (drop (length (text ++ piece)) before))

-- the same, from what a write to a part of a slice leaves
pub begins_put : (text piece before now part : List ℕ) (at : ℕ) → part ≡ piece → length text ≡ at → Begins text before now → Begins (text ++ piece) before (put_mid at (at + length piece - at) now part)
begins_put text piece before now part at same len begun =
    let k : at + length piece - at ≡ length piece = omega arith in
    begins_more text piece before now (put_mid at (at + length piece - at) now part) at (rw (k, same, ← drop-drop) refl) len begun

-- nothing is written yet
pub begins_none : (before : List ℕ) → Begins [] before before
begins_none before = refl

pub rows_length : (tags : List WideTag) (keys : List (Option Key)) → length keys ≡ length tags → length (rows_of tags keys) ≡ length tags
rows_length [] keys same = refl
rows_length (tag ∷ tags) [] same = absurd (omega arith)
rows_length (tag ∷ tags) (key ∷ keys) same = (let rest = rows_length tags keys (omega arith) in omega (arith, rest))

-- the count is the number of rows
pub data_begun : (prefix payload : List ℕ) (version : Version) (size : ℕ) (tags : List WideTag) (keys : List (Option Key)) (before new : List ℕ) → length keys ≡ length tags
    → Begins (((prefix ++ payload) ++ counts_text version (length tags) size) ++ flat_map tag_row_text (rows_of tags keys)) before new
    → Begins (((prefix ++ payload) ++ counts_text version (length (rows_of tags keys)) size) ++ flat_map tag_row_text (rows_of tags keys)) before new
data_begun prefix payload version size tags keys before new same begun =
    subst (λ (n : ℕ). Begins (((prefix ++ payload) ++ counts_text version n size) ++ flat_map tag_row_text (rows_of tags keys)) before new) (sym (rows_length tags keys same)) begun
