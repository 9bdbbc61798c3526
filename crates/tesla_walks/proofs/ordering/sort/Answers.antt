use Rattle.std.proofs.Common.{map, rules}
use Rattle.std.proofs.lemmas.List.Sorted.{IsNonDecreasingBy-from_sort_by_key, IsPermutation-map, IsPermutation-trans}
use Rattle.tesla_walks.specs.Proved.{arrival_number, release_in}
use Rattle.tesla_walks.proofs.Sorting.{only_order, up_by}
use Rattle.tesla_walks.proofs.ordering.sort.Goals as goal

pub returns-clause-order : goal.returns-clause-order
returns-clause-order c releases rise moved =
    let up = IsNonDecreasingBy-from_sort_by_key (λ p. arrival_number (release_in p)) _ c.sort_unstable_by_key.ensures.sorted (λ a r q k. search rules) in
    only_order arrival_number releases (map release_in c.sort_unstable_by_key.new.self) rise (up_by release_in arrival_number c.sort_unstable_by_key.new.self up)
    (IsPermutation-trans _ _ _ moved (IsPermutation-map release_in c.args.proved.now c.sort_unstable_by_key.new.self c.sort_unstable_by_key.ensures.permutation))
