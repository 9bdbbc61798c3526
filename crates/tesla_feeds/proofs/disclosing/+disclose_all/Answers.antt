use Rattle.std.proofs.Common.{◌≡◌, List, ◌∷◌, rules, subst}
use Rattle.tesla_feeds.specs.Fed.{disclosed}
use Rattle.tesla_feeds.specs.Steps.{FeedParts}
use Rattle.tesla_feeds.specs.declared.listed.ListedFeeder.{ListedFeeder}
use Rattle.tesla_feeds.proofs.Each.{each_counted, each_more, may_others}
use Rattle.tesla_feeds.proofs.disclosing.+disclose_all.Goals as goal

pub disclose_all-requires : goal.disclose_all-requires
disclose_all-requires g t c κs within =
    let whole : c.args.feeders.now ≡ c.in-Some.feeder.now ∷ c.in-Some.behind.now = c.in-Some.ensures.cases.0 in (
      search rules,
      (
        search rules,
        (
          search rules,
          (
            c.requires.read,
            (
              search rules,
              may_others (disclosed c.args.reading) _ _ c.in-Some.feeder.now c.in-Some.behind.now _ _ c.disclose_one.new.feeder _ _ c.args.feeders.now whole c.requires.may c.disclose_one.ensures.does,
            ),
          ),
        ),
      ),
    )

pub returns-clause-does : goal.returns-clause-does
returns-clause-does g t c = λ parts stands.
    let whole : c.args.feeders.now ≡ c.in-Some.feeder.now ∷ c.in-Some.behind.now = c.in-Some.ensures.cases.0 in
    each_more (disclosed c.args.reading) c.in-Some.feeder.now c.disclose_one.new.feeder c.in-Some.behind.now _ parts _ _ _ _ _ _ c.disclose_one.ensures.does c.disclose_all.ensures.does (subst (λ (fs : List ListedFeeder). FeedParts fs parts) whole stands)

pub returns-clause-counts : goal.returns-clause-counts
returns-clause-counts g t c = λ parts made stands is.
    let whole : c.args.feeders.now ≡ c.in-Some.feeder.now ∷ c.in-Some.behind.now = c.in-Some.ensures.cases.0 in
    each_counted (disclosed c.args.reading) c.in-Some.feeder.now c.in-Some.behind.now parts made _ _ _ c.disclose_one.ensures.counts c.disclose_all.ensures.counts (subst (λ (fs : List ListedFeeder). FeedParts fs parts) whole stands) is
