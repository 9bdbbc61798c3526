use Rattle.std.proofs.Common.{◌∙◌, sym, arith}
use Rattle.std.proofs.lemmas.Bool.Decides.{nat_tests}
use Rattle.tesla_feeds.specs.Opening.{streams_fed}
use Rattle.tesla_feeds.proofs.Needs.{needed_past}
use Rattle.tesla_feeds.proofs.opening.OpenFeeds.needs.Goals as goal

pub returns-then-are_past-clause-is : goal.returns-then-are_past-clause-is
returns-then-are_past-clause-is c = λ left are.
    c.if-are_past.true
    ∙ sym (needed_past c.args.self.now.later.items (streams_fed c.args.self.now.feeders) left c.args.self.now.opening c.args.reading are (λ none. grind (arith, nat_tests, none, c.is_empty.ensures, c.if-is_empty.false)) (sym c.is_unread.ensures ∙ c.if-is_unread.false) (sym c.are_past.ensures ∙ c.if-are_past.true))
