-- Writing the lines of chains one after another.
use Rattle.std.proofs.Common.{◌≡◌, ℕ, ◌+◌, ◌<◌, ◌≤◌, List, [], ◌∷◌, ◌++◌, length, take, get_or, Some, sym, ap, ◌∙◌}
use Rattle.std.specs.Prelude.{slice_get}
use Rattle.std.specs.List.{flat_map}
use Rattle.std.proofs.lemmas.List.{flat_map_more, take_more, take_all}
use Rattle.std.proofs.lemmas.Option.{get_or_from_slice_get}
use Rattle.tesla_commit.specs.SetupText.{chain_line}
use Rattle.tesla_commit.specs.declared.chain_row.ChainRow.{ChainRow}

-- the line of one chain more
pub chains_more : (before : List ℕ) (rows : List ChainRow) (i : ℕ) (row : ChainRow) → i < length rows → slice_get rows i ≡ Some row → (before ++ flat_map chain_line (take i rows)) ++ chain_line row ≡ before ++ flat_map chain_line (take (i + 1) rows)
chains_more before rows i row lt h =
    let at_offset : get_or rows i row ≡ row = get_or_from_slice_get rows i row row h in
    let further : take (i + 1) rows ≡ take i rows ++ row ∷ [] = take_more rows i row lt ∙ ap (λ (r : ChainRow). take i rows ++ r ∷ []) at_offset in
    flat_map_more chain_line before (take i rows) row ∙ ap (λ (rs : List ChainRow). before ++ flat_map chain_line rs) (sym further)

-- the lines of all chains
pub chains_all : (text prefix : List ℕ) (rows : List ChainRow) (i : ℕ) → length rows ≤ i → text ≡ prefix ++ flat_map chain_line (take i rows) → text ≡ prefix ++ flat_map chain_line rows
chains_all text prefix rows i le h = h ∙ ap (λ (rs : List ChainRow). prefix ++ flat_map chain_line rs) (take_all i rows le)
