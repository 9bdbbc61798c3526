use Rattle.std.proofs.Common.{◌≡◌, length}
use Rattle.std.specs.List.{AllByRecursion}
use Rattle.std.specs.Prelude.{vec_capacity}
use Rattle.tesla_follow.specs.Kept.{IsNew}
use Rattle.tesla_follow.proofs.keeping.open_epochs.Given as goal

-- so many are open so far, and nothing has happened in them
abbrev pub invariant-loop : goal.invariant-loop
invariant-loop l = record {
  count : length l.epochs.items ≡ l.counter;
  new : AllByRecursion (IsNew l.config) l.epochs.items;
  room : vec_capacity l.epochs ≡ 3;
}
