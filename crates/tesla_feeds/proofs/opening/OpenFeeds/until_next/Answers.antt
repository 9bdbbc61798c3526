use Rattle.std.proofs.Common.{arith, ap, List}
use Rattle.tesla_feeds.specs.Fed.{Part}
use Rattle.tesla_feeds.specs.Later.{with_parts}
use Rattle.tesla_feeds.specs.Waits.{until_next}
use Rattle.tesla_feeds.proofs.Needs.{next_both}
use Rattle.tesla_feeds.proofs.opening.OpenFeeds.until_next.Goals as goal

pub returns : goal.returns
returns c = λ left fed on.
    let reading = c.args.self.now.feeders.reading in
    let behind = c.until_later-behind.ensures left (search (on.later, c.as_slice.ensures.value)) in
    let front = c.until_next.ensures (with_parts fed on.front) on.stands in
    let both = next_both on.front left c.args.self.now.opening reading in
    let all = ap (λ (ps : List Part). until_next ps reading) on.parts_are in
    omega (arith, c.min.ensures, front, behind, both, all)
