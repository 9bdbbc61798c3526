use Rattle.std.proofs.Common.{◌≡◌, ◌∙◌, ℕ, List, ◌++◌, drop, length, map, take, ap, sym, subst}
use Rattle.std.proofs.Math.Seq.{take-append_seam}
use Rattle.tesla_feeds.specs.Feeds.{ComesTo}
use Rattle.tesla_feeds.specs.Opening.{streams_fed}
use Rattle.tesla_relay.specs.Posts.{PostSeen}
use Rattle.tesla_run_feed.specs.Listing.{is_right_stream}
use Rattle.tesla_run_feed.specs.Steps.{FeedsHeld}
use Rattle.tesla_run_feed.proofs.beside.feed_counted.Goals as goal

pub returns-clause-feeds : goal.returns-clause-feeds
returns-clause-feeds g c =
    let post = g.P.Post in let clock = g.C.Clock in
    let seen : g.row.P.Denot → PostSeen = λ it. record { name = post.name it; sent = post.sent it; faults = post.faults it } in
    let feed = c.args.ready.opened in
    let its = c.new-instruments.result in
    let opened = drop its.later.taken g.X.Later.streams in
    let posts = c.feeds-end.new.posts in
    let size : c.args.posts.now.len ≡ length posts = sym (c.feeds-end.auto.posts ∙ c.as_mut_slice.ensures.len) in
    let rest = drop (length posts) c.args.posts.now.items in
    let kept : take c.args.posts.now.len (posts ++ rest) ≡ posts = ap (λ (n : ℕ). take n (posts ++ rest)) size ∙ take-append_seam posts rest in
    let streams = streams_fed feed.feeders ++ opened in
    let after = clock.told c.feeds-end.new.instruments.clock in
    let before = clock.told its.clock in
    let left = g.K.Link.left c.args.link.now in
    let now = g.K.Link.left c.feeds-end.new.link in
    let was_told = g.N.Notes.was_told c.feeds-end.new.instruments.notes in
    let end = c.feeds-end.result in
    let first : ComesTo is_right_stream g.G.Gate.over streams feed.opening end left now before after (map seen c.as_mut_slice.result.now) (map seen posts) was_told = c.feeds-end.ensures.feeds in
    let own : FeedsHeld is_right_stream g.G.Gate.over clock.gave clock.read_for feed opened end left now before (map seen c.args.posts.now.items) (map seen (take c.args.posts.now.len (posts ++ rest))) was_told = record {
      fed = record {
        after = after;
        comes = subst (λ (ps : List g.row.P.Denot). ComesTo is_right_stream g.G.Gate.over streams feed.opening end left now before after (map seen c.args.posts.now.items) (map seen ps) was_told) (sym kept)
            (subst (λ (ps : List g.row.P.Denot). ComesTo is_right_stream g.G.Gate.over streams feed.opening end left now before after (map seen ps) (map seen posts) was_told) c.as_mut_slice.ensures.value first);
      };
      given = c.feeds-end.ensures.given;
    } in
    let counted : FeedsHeld is_right_stream g.G.Gate.over clock.gave clock.read_for feed (drop c.args.taking.taken g.X.Later.streams) end left now (clock.told c.args.ready.clock) (map seen c.args.posts.now.items) (map seen (take c.args.posts.now.len (posts ++ rest))) was_told =
    subst (λ (it : _). FeedsHeld is_right_stream g.G.Gate.over clock.gave clock.read_for feed (drop it.later.taken g.X.Later.streams) end left now (clock.told it.clock) (map seen c.args.posts.now.items) (map seen (take c.args.posts.now.len (posts ++ rest))) was_told) c.new-instruments.ensures own in
    subst (λ (taken : ℕ). FeedsHeld is_right_stream g.G.Gate.over clock.gave clock.read_for feed (drop taken g.X.Later.streams) end left now (clock.told c.args.ready.clock) (map seen c.args.posts.now.items) (map seen (take c.args.posts.now.len (posts ++ rest))) was_told) c.requires.none_taken counted
