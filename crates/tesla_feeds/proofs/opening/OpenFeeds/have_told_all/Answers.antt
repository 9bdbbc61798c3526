use Rattle.std.proofs.Common.{◌∙◌, sym, ap}
use Rattle.tesla_feeds.specs.Later.{with_parts}
use Rattle.tesla_feeds.specs.Waits.{are_told}
use Rattle.tesla_feeds.proofs.Needs.{told_front}
use Rattle.tesla_feeds.proofs.opening.OpenFeeds.have_told_all.Goals as goal

pub returns : goal.returns
returns c = λ left fed on.
    c.have_told_all.ensures (with_parts fed on.front) on.stands
    ∙ sym (ap are_told on.parts_are ∙ told_front on.front c.args.self.now.opening left)
