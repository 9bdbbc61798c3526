use Rattle.std.proofs.Common.{◌≡◌, ◌+◌, ◌≤◌, length, map, None}
use Rattle.std.specs.Prelude.{find, vec_capacity}
use Rattle.tesla_frame.specs.Shown.{shown}
use Rattle.tesla_walks.specs.Offered.{gaps, newer_keys}
use Rattle.tesla_walks.specs.Tips.{fails}
use Rattle.tesla_walks.specs.Walking.{fresh}
use Rattle.tesla_walks.proofs.offers.offer_keys.Given as goal

-- no key so far fails, and the newer ones among them have a walk each
abbrev pub invariant-loop-place : goal.invariant-loop-place
invariant-loop-place g l = record {
  fit : find (fails l.tips) (newer_keys l.config l.tips (shown l.frame) l.place) ≡ None;
  walks : l.walks.items ≡ map fresh (newer_keys l.config l.tips (shown l.frame) l.place);
  few : length l.walks.items ≤ l.place;
  capacity : vec_capacity l.walks ≡ vec_capacity l.initial.walks;
  steps : l.steps ≡ l.initial.steps + gaps l.tips (newer_keys l.config l.tips (shown l.frame) l.place);
}
