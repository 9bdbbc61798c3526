-- The greatest delay of the chains.
use Rattle.std.proofs.Common.{◌≡◌, ◌∙◌, ◌<◌, ℕ, ◌+◌, List, [], ◌∷◌, ◌++◌, length, take, Some, max, ap, sym}
use Rattle.std.specs.Prelude.{slice_get}
use Rattle.std.specs.List.{fold}
use Rattle.std.proofs.lemmas.List.Sums.{fold-append}
use Rattle.std.proofs.lemmas.List.{take_more}
use Rattle.std.proofs.lemmas.Option.{get_or_from_slice_get}
use Rattle.tesla_commit.specs.declared.chain_row.ChainRow.{ChainRow}
use Rattle.tesla_feeds.specs.Order.{greater_delay}

pub delay_more : (rows : List ChainRow) (i : ℕ) (row : ChainRow) (most : ℕ) → i < length rows → slice_get rows i ≡ Some row → most ≡ fold greater_delay 0 (take i rows)
    → max most row.delay ≡ fold greater_delay 0 (take (i + 1) rows)
delay_more rows i row most lt at is =
    let further : take (i + 1) rows ≡ take i rows ++ row ∷ [] = take_more rows i row lt ∙ ap (λ (r : ChainRow). take i rows ++ r ∷ []) (get_or_from_slice_get rows i row row at) in
    ap (λ (m : ℕ). max m row.delay) is ∙ sym (fold-append greater_delay 0 (take i rows) (row ∷ [])) ∙ ap (λ (rs : List ChainRow). fold greater_delay 0 rs) (sym further)
