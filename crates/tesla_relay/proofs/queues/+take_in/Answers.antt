use Rattle.std.proofs.Common.{rules, ◌≡◌, ◌∙◌, List, [], ◌∷◌, ◌++◌, ◌+◌, length, map, ap, sym, subst, arith, append-nil, append_assoc}
use Rattle.std.proofs.lemmas.List.{length-append}
use Rattle.std.proofs.lemmas.List.{map-append}
use Rattle.tesla_relay.specs.Posts.{PostSeen}
use Rattle.tesla_relay.specs.Feeding.{ServerSeen}
use Rattle.tesla_relay.specs.Lists.{Starts}
use Rattle.tesla_relay.specs.Queues.{Adds, AreNew, Starting}
use Rattle.tesla_relay.specs.declared.feed.Feed.{Feed}
use Rattle.tesla_relay.specs.declared.queues.Queue.{Queue}
use Rattle.tesla_relay.proofs.Offering.{starts_at}
use Rattle.tesla_relay.proofs.Queued.{adds_none, adds_one, new_last, starts_new}
use Rattle.tesla_relay.proofs.queues.+take_in.Goals as goal

pub returns-in_default-clause-starting : goal.returns-in_default-clause-starting
returns-in_default-clause-starting g t c =
    let seen : g.row.P.Denot → PostSeen = λ post. record { name = g.P.Post.name post; sent = g.P.Post.sent post; faults = g.P.Post.faults post } in
    let feeds = c.args.feeds.now.items in let servers = c.args.servers.now.items in
    let none : c.args.posts.now.items ≡ [] = search rules in
    λ capacity new. subst (λ (posts : List g.row.P.Denot). Adds (Starting capacity) (map seen posts) feeds feeds servers servers) (sym none) (adds_none (Starts capacity) feeds servers)

pub returns-clause-starting : goal.returns-clause-starting
returns-clause-starting g t c =
    let seen : g.row.P.Denot → PostSeen = λ post. record { name = g.P.Post.name post; sent = g.P.Post.sent post; faults = g.P.Post.faults post } in
    let feeds = c.args.feeds.now.items in let servers = c.args.servers.now.items in
    let more = c.take_in.new.feeds.items in let others = c.take_in.new.servers.items in
    let queue = c.in-Some-pop-2.queue in
    λ capacity new.
    let feed : Feed g.row.X.Denot = record queue.feed { post = c.len.result } in
    let split = new_last capacity c.pop-3.new.self.items queue (subst (λ (qs : List (Queue g.row.X.Denot)). AreNew capacity qs) c.in-Some-pop-2.ensures.items new) in
    let rest : Adds (Starting capacity) (map seen c.pop.new.self.items) (feeds ++ feed ∷ []) more (servers ++ c.new.result ∷ []) others =
    subst (λ (fs : List (Feed g.row.X.Denot)). Adds (Starting capacity) (map seen c.pop.new.self.items) fs more (servers ++ c.new.result ∷ []) others) c.push_reserved.ensures.items
    (subst (λ (ss : List ServerSeen). Adds (Starting capacity) (map seen c.pop.new.self.items) c.push_reserved.new.self.items more ss others) c.push_reserved-2.ensures.items (c.take_in.ensures.starting capacity split.0)) in
    let starts : Starts capacity (seen c.in-Some.post) feed c.new.result =
    starts_at capacity (seen c.in-Some.post) queue.feed c.new.result c.len.result (starts_new capacity queue (seen c.in-Some.post) c.new.result split.1 c.new.ensures.post c.new.ensures.pass.0 c.new.ensures.pass.1 c.new.ensures.counts.0 c.new.ensures.counts.1) in
    let all : map seen c.args.posts.now.items ≡ map seen c.pop.new.self.items ++ seen c.in-Some.post ∷ [] = (ap (λ ps. map seen ps) c.in-Some.ensures.items) ∙ map-append seen c.pop.new.self.items (c.in-Some.post ∷ []) in
    subst (λ (ps : List PostSeen). Adds (Starting capacity) ps feeds more servers others) (sym all) (adds_one (Starts capacity) (map seen c.pop.new.self.items) (seen c.in-Some.post) feeds more feed servers others c.new.result starts rest)

pub returns-in_default-clause-numbered : goal.returns-in_default-clause-numbered
returns-in_default-clause-numbered g t c =
    let none : c.args.posts.now.items ≡ [] = search rules in
    ([], sym (append-nil c.args.feeds.now.items), tt, sym (ap (λ (ps : List g.row.P.Denot). length ps) none))

pub returns-clause-numbered : goal.returns-clause-numbered
returns-clause-numbered g t c =
    let feeds = c.args.feeds.now.items in
    let feed : Feed g.row.X.Denot = record c.in-Some-pop-2.queue.feed { post = c.len.result } in
    let rest = c.take_in.ensures.numbered in
    let place : c.len.result ≡ length c.pop.new.self.items = search rules in
    let all : length c.args.posts.now.items ≡ length c.pop.new.self.items + 1 = (ap (λ (ps : List g.row.P.Denot). length ps) c.in-Some.ensures.items) ∙ length-append c.pop.new.self.items (c.in-Some.post ∷ []) in (
      feed ∷ rest.0,
      rest.1 ∙ ap (λ (fs : List (Feed g.row.X.Denot)). fs ++ rest.0) c.push_reserved.ensures.items ∙ append_assoc feeds (feed ∷ []) rest.0,
      (place ∙ sym rest.3, rest.2),
      omega (arith, all, rest.3),
    )
