-- The tags of an item, written one after the other.
use Rattle.std.proofs.Common.{◌≡◌, ℕ, ◌<◌, ◌≤◌, List, [], length, get_or, map, take, sym, ◌∙◌, arith, None}
use Rattle.std.proofs.lemmas.List.{ext_get_or, get_or-map, get_or-take, length-map, length-take-le}
use Rattle.tesla_base.specs.declared.names.WideTag.{WideTag}
use Rattle.tesla_frame.specs.Frame.{TagRow}
use Rattle.tesla_buffer.specs.Held.{wide_tag_in}

-- what stands for a row that the frame doesn't have
abbrev pub no_tag : TagRow
no_tag = record { tag = []; key = None }

-- the first tags of the room are those of the rows
abbrev pub AreWritten : List TagRow → ℕ → List WideTag → Type 0
AreWritten rows n room = (k : ℕ) (d : WideTag) → k < n → get_or room k d ≡ wide_tag_in (get_or rows k no_tag)

module _ (rows : List TagRow) (room : List WideTag) (fits : length rows ≤ length room) (are : AreWritten rows (length rows) room) where
  pub written : take (length rows) room ≡ map wide_tag_in rows
  written =
      let empty : WideTag = record { bytes = []; length = 0 } in
      let long : length (take (length rows) room) ≡ length rows = length-take-le (length rows) room fits in
      ext_get_or empty (take (length rows) room) (map wide_tag_in rows) (long ∙ sym (length-map rows wide_tag_in))
      (λ k h.
      let inside : k < length rows = omega (arith, h, long) in
      get_or-take (length rows) room k empty inside ∙ are k empty inside
      ∙ sym (get_or-map wide_tag_in rows k no_tag empty inside))
