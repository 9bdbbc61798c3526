-- Writing the lines of seeds one after another.
use Rattle.std.proofs.Common.{◌≡◌, ℕ, ◌+◌, ◌<◌, ◌≤◌, List, [], ◌∷◌, ◌++◌, length, take, get_or, Some, sym, ap, ◌∙◌}
use Rattle.std.specs.Prelude.{slice_get}
use Rattle.std.specs.List.{flat_map}
use Rattle.std.proofs.lemmas.List.{flat_map_more, take_more, take_all}
use Rattle.std.proofs.lemmas.Option.{get_or_from_slice_get}
use Rattle.tesla_base.specs.declared.names.Key.{Key}
use Rattle.tesla_seeds.specs.Text.{seed_line}

-- the line of one seed more
pub seeds_more : (before : List ℕ) (seeds : List Key) (i : ℕ) (seed : Key) → i < length seeds → slice_get seeds i ≡ Some seed → (before ++ flat_map seed_line (take i seeds)) ++ seed_line seed ≡ before ++ flat_map seed_line (take (i + 1) seeds)
seeds_more before seeds i seed lt h =
    let at_offset : get_or seeds i seed ≡ seed = get_or_from_slice_get seeds i seed seed h in
    let further : take (i + 1) seeds ≡ take i seeds ++ seed ∷ [] = take_more seeds i seed lt ∙ ap (λ (s : Key). take i seeds ++ s ∷ []) at_offset in
    flat_map_more seed_line before (take i seeds) seed ∙ ap (λ (ss : List Key). before ++ flat_map seed_line ss) (sym further)

-- the lines of all seeds
pub seeds_all : (text prefix : List ℕ) (seeds : List Key) (i : ℕ) → length seeds ≤ i → text ≡ prefix ++ flat_map seed_line (take i seeds) → text ≡ prefix ++ flat_map seed_line seeds
seeds_all text prefix seeds i le h = h ∙ ap (λ (ss : List Key). prefix ++ flat_map seed_line ss) (take_all i seeds le)
