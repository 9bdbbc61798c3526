use Rattle.std.proofs.Common.{rules, ◌≡◌, ◌∙◌, List, [], ◌∷◌, ◌++◌, map, ap, subst, subst₂}
use Rattle.std.proofs.lemmas.List.{map-append}
use Rattle.tesla_relay.specs.Posts.{PostSeen}
use Rattle.tesla_relay.specs.Feeding.{ServerSeen}
use Rattle.tesla_relay.specs.Lists.{Ends}
use Rattle.tesla_relay.specs.Queues.{Ending, GivesBack}
use Rattle.tesla_relay.specs.Relay.{RelaysPost, RelaysPosts}
use Rattle.tesla_relay.specs.declared.feed.Feed.{Feed}
use Rattle.tesla_relay.specs.declared.relayed.PostCount.{PostCount}
use Rattle.tesla_relay.proofs.Queued.{back_fed, back_none, back_pop, ending_of, gives_none, gives_one, relays_one}
use Rattle.tesla_relay.proofs.queues.+give_back.Goals as goal

pub returns-in_default-clause-given : goal.returns-in_default-clause-given
returns-in_default-clause-given g t c = λ capacity arrived starts ending.
    gives_none capacity arrived starts _ c.args.counts.now.items (back_none (Ends capacity arrived) starts c.args.feeds.now.items c.args.servers.now.items ending (search rules))

pub unreachable-requires : goal.unreachable-requires
unreachable-requires g t c =
    let e = c.requires.ending in
    back_fed (Ends e.0 e.1) e.2 c.args.feeds.now.items c.pop.new.self.items c.in-Some.server (subst (λ (ss : List ServerSeen). Ending e.0 e.1 e.2 c.args.feeds.now.items ss) c.in-Some.ensures.items e.3) (search rules)

pub settle_one-post-requires : goal.settle_one-post-requires
settle_one-post-requires g t c =
    let e = c.requires.ending in
    let popped = back_pop (Ends e.0 e.1) e.2 c.pop-2.new.self.items c.in-Some-pop.feed c.pop.new.self.items c.in-Some.server (subst₂ (λ (fs : List (Feed g.row.X.Denot)) (ss : List ServerSeen). Ending e.0 e.1 e.2 fs ss) c.in-Some-pop.ensures.items c.in-Some.ensures.items e.3) in
    ending_of e.0 e.1 popped.0 c.in-Some-pop.feed c.in-Some.server popped.3

pub give_back-requires : goal.give_back-requires
give_back-requires g t c κs within =
    let e = c.requires.ending in
    let popped = back_pop (Ends e.0 e.1) e.2 c.pop-2.new.self.items c.in-Some-pop.feed c.pop.new.self.items c.in-Some.server (subst₂ (λ (fs : List (Feed g.row.X.Denot)) (ss : List ServerSeen). Ending e.0 e.1 e.2 fs ss) c.in-Some-pop.ensures.items c.in-Some.ensures.items e.3) in
    (search rules, (search rules, (search rules, (search rules, ((e.0, e.1, popped.1, popped.4), (search rules, search rules))))))

pub returns-clause-given : goal.returns-clause-given
returns-clause-given g t c =
    let seen : g.row.P.Denot → PostSeen = λ post. record { name = g.P.Post.name post; sent = g.P.Post.sent post; faults = g.P.Post.faults post } in
    λ capacity arrived starts ending.
    let popped = back_pop (Ends capacity arrived) starts c.pop-2.new.self.items c.in-Some-pop.feed c.pop.new.self.items c.in-Some.server (subst₂ (λ (fs : List (Feed g.row.X.Denot)) (ss : List ServerSeen). Ending capacity arrived starts fs ss) c.in-Some-pop.ensures.items c.in-Some.ensures.items ending) in
    let posts = map seen c.args.posts.now.items in let more = map seen c.give_back.new.posts.items in
    let counts = c.args.counts.now.items in let others = c.give_back.new.counts.items in
    let post = c.settle_one-post.result.0 in let count = c.settle_one-post.result.1.1 in
    let own : RelaysPost capacity arrived popped.0 (seen post) count = c.settle_one-post.ensures capacity arrived popped.0 popped.3 in
    let put : map seen c.push_reserved.new.self.items ≡ posts ++ seen post ∷ [] = ap (λ ps. map seen ps) c.push_reserved.ensures.items ∙ map-append seen c.args.posts.now.items (post ∷ []) in
    let rest : GivesBack (RelaysPosts capacity arrived) popped.1 (posts ++ seen post ∷ []) more (counts ++ count ∷ []) others =
    subst₂ (λ (ps : List PostSeen) (cs : List PostCount). GivesBack (RelaysPosts capacity arrived) popped.1 ps more cs others) put c.push.ensures.items (c.give_back.ensures.given capacity arrived popped.1 popped.4) in
    gives_one (RelaysPosts capacity arrived) (RelaysPost capacity arrived) (relays_one capacity arrived) popped.0 (seen post) count popped.1 starts posts more counts others popped.2 own rest
