use Rattle.std.proofs.Common.{arith}
use Rattle.tesla_feeds.specs.Opening.{streams_fed}
use Rattle.tesla_feeds.proofs.Needs.{first_both}
use Rattle.tesla_feeds.proofs.opening.OpenFeeds.until_first.Goals as goal

pub returns : goal.returns
returns c = λ left are.
    let behind = c.until_later-behind.ensures left (search (are, c.as_slice.ensures.value)) in
    let both = first_both (streams_fed c.args.self.now.feeders) left c.args.self.now.opening c.args.self.now.feeders.reading in
    omega (arith, c.min.ensures, c.until_first.ensures, behind, both)
