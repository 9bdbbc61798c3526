-- The opening of posts, from what its call ensures.
use Rattle.std.proofs.Common.{◌≡◌, ◌∙◌, ℕ, Ok, List, [], length, map}
use Rattle.std.proofs.lemmas.List.{length-map}
use Rattle.tesla_desk.specs.Outside.{Told}
use Rattle.tesla_relay.specs.Opening.{OpensPosts}
use Rattle.tesla_relay.specs.Posts.{PostSeen}
use Rattle.tesla_relay.proofs.Openings.{opened_size}

-- there are as many posts as names
pub opened_each : {P X : Type 0} (seen : P → PostSeen) (name : X → List ℕ) (names : List X) (before mid : Told) (old : List PostSeen) (posts : List P) → OpensPosts (map name names) before mid old (map seen posts) (Ok tt) → old ≡ [] → length posts ≡ length names
opened_each seen name names before mid old posts opens none = opened_size seen (map name names) before mid old posts opens none ∙ length-map names name
