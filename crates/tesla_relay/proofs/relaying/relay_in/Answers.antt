use Rattle.std.proofs.Common.{rules, ◌≡◌, ◌∙◌, List, ◌++◌, map, ap, sym, subst, subst₂, length, arith}
use Rattle.std.specs.List.{AllByRecursion, Contains}
use Rattle.std.proofs.lemmas.List.{length-map, map-id}
use Rattle.tesla_desk.specs.Links.{datagrams}
use Rattle.tesla_relay.specs.Posts.{PostSeen}
use Rattle.tesla_relay.specs.Feeding.{ServerSeen}
use Rattle.tesla_relay.specs.Lists.{AreFeeding, AreServing, Each, FeedsAll, HaveCome, ServesAll}
use Rattle.tesla_relay.specs.Offers.{AreNumbered, HaveOffered, MayAskNext, MayHear}
use Rattle.tesla_relay.specs.Queues.{Ending, Starting}
use Rattle.tesla_relay.specs.Relay.{RelaysPosts}
use Rattle.tesla_relay.specs.declared.feed.Feed.{Feed}
use Rattle.tesla_relay.specs.declared.relayed.PostCount.{PostCount}
use Rattle.tesla_relay.proofs.Offering.{starting_offered}
use Rattle.tesla_relay.proofs.Queued.{adds_all, all_written, among_all, each_length, gives_all, starting_ending, starting_come, starting_feeding, starting_length, starting_serving}
use Rattle.tesla_relay.proofs.relaying.relay_in.Goals as goal

pub run_all-end-requires-clause-some : goal.run_all-end-requires-clause-some
run_all-end-requires-clause-some g c κs within =
    let seen : g.row.P.Denot → PostSeen = λ post. record { name = g.P.Post.name post; sent = g.P.Post.sent post; faults = g.P.Post.faults post } in
    let posts = map seen c.args.posts.now.items in let feeds = c.take_in.new.feeds.items in let servers = c.take_in.new.servers.items in
    let capacity = c.requires.new.0 in
    let starting : Starting capacity posts feeds servers = adds_all (Starting capacity) posts c.args.rooms.feeds.items feeds c.args.rooms.servers.items servers c.requires.rooms.0 c.requires.rooms.1 (c.take_in.ensures.starting capacity c.requires.new.1) in
    let size = starting_length capacity posts feeds servers starting in
    let told : length posts ≡ length c.args.posts.now.items = length-map c.args.posts.now.items seen in
    omega (arith, size, told, c.requires.some.0, ap (λ (l : List ServerSeen). length l) c.as_mut_slice-2.ensures.value)

pub run_all-end-requires-clause-feeding : goal.run_all-end-requires-clause-feeding
run_all-end-requires-clause-feeding g c κs within =
    let seen : g.row.P.Denot → PostSeen = λ post. record { name = g.P.Post.name post; sent = g.P.Post.sent post; faults = g.P.Post.faults post } in
    let posts = map seen c.args.posts.now.items in let feeds = c.take_in.new.feeds.items in let servers = c.take_in.new.servers.items in
    let capacity = c.requires.new.0 in
    let starting : Starting capacity posts feeds servers = adds_all (Starting capacity) posts c.args.rooms.feeds.items feeds c.args.rooms.servers.items servers c.requires.rooms.0 c.requires.rooms.1 (c.take_in.ensures.starting capacity c.requires.new.1) in
    (subst AreFeeding (sym c.as_mut_slice.ensures.value) (starting_feeding capacity posts feeds servers starting), subst (HaveCome 0) (sym c.as_mut_slice.ensures.value) (starting_come capacity posts feeds servers starting))

pub run_all-end-requires-clause-serving : goal.run_all-end-requires-clause-serving
run_all-end-requires-clause-serving g c κs within =
    let seen : g.row.P.Denot → PostSeen = λ post. record { name = g.P.Post.name post; sent = g.P.Post.sent post; faults = g.P.Post.faults post } in
    let posts = map seen c.args.posts.now.items in let feeds = c.take_in.new.feeds.items in let servers = c.take_in.new.servers.items in
    let capacity = c.requires.new.0 in
    let starting : Starting capacity posts feeds servers = adds_all (Starting capacity) posts c.args.rooms.feeds.items feeds c.args.rooms.servers.items servers c.requires.rooms.0 c.requires.rooms.1 (c.take_in.ensures.starting capacity c.requires.new.1) in
    let basis = g.X.Based.basis in
    let among : AllByRecursion (Contains basis.posts) posts = subst (λ (all : List PostSeen). AllByRecursion (Contains all) posts) (sym c.requires.posts) (among_all posts) in
    subst (AreServing basis) (sym (map-id c.as_mut_slice-2.result.now ∙ c.as_mut_slice-2.ensures.value)) (starting_serving basis capacity posts feeds servers among starting)

pub run_all-end-requires-clause-next : goal.run_all-end-requires-clause-next
run_all-end-requires-clause-next g c κs within =
    let seen : g.row.P.Denot → PostSeen = λ post. record { name = g.P.Post.name post; sent = g.P.Post.sent post; faults = g.P.Post.faults post } in
    let posts = map seen c.args.posts.now.items in let feeds = c.take_in.new.feeds.items in let servers = c.take_in.new.servers.items in
    let capacity = c.requires.new.0 in
    let starting : Starting capacity posts feeds servers = adds_all (Starting capacity) posts c.args.rooms.feeds.items feeds c.args.rooms.servers.items servers c.requires.rooms.0 c.requires.rooms.1 (c.take_in.ensures.starting capacity c.requires.new.1) in
    let link = g.K.Link in
    let put = g.Q.PostQueues.was_put link.brought in let full = g.Q.PostQueues.was_full link.brought in
    let numbered = c.take_in.ensures.numbered in
    let own : feeds ≡ numbered.0 = numbered.1 ∙ ap (λ (fs : List (Feed g.row.X.Denot)). fs ++ numbered.0) c.requires.rooms.0 in
    let size : length feeds ≡ length c.args.posts.now.items = ap (λ (fs : List (Feed g.row.X.Denot)). length fs) own ∙ numbered.3 in
    let offered : HaveOffered put full capacity 0 feeds = starting_offered put full capacity posts feeds servers starting (subst AreNumbered (sym own) numbered.2) in
    subst (MayHear put full link.has_brought link.may_ask) (sym c.as_mut_slice.ensures.value)
    (capacity, offered, subst (MayAskNext put full link.has_brought link.may_ask capacity) (sym size) c.requires.new.2)

pub give_back-requires-clause-ending : goal.give_back-requires-clause-ending
give_back-requires-clause-ending g c =
    let seen : g.row.P.Denot → PostSeen = λ post. record { name = g.P.Post.name post; sent = g.P.Post.sent post; faults = g.P.Post.faults post } in
    let posts = map seen c.args.posts.now.items in let feeds = c.take_in.new.feeds.items in let servers = c.take_in.new.servers.items in
    let capacity = c.requires.new.0 in let new = c.requires.new.1 in
    let starting : Starting capacity posts feeds servers = adds_all (Starting capacity) posts c.args.rooms.feeds.items feeds c.args.rooms.servers.items servers c.requires.rooms.0 c.requires.rooms.1 (c.take_in.ensures.starting capacity new) in
    let hears = c.run_all-end.ensures.hears.hears in let arrived = datagrams hears.taken in
    let fed : Each (FeedsAll arrived) feeds c.run_all-end.new.feeds = subst (λ (l : List (Feed g.row.X.Denot)). Each (FeedsAll arrived) l c.run_all-end.new.feeds) c.as_mut_slice.ensures.value hears.feeds in
    let served : Each ServesAll servers c.run_all-end.new.servers =
    subst₂ (λ (a b : List ServerSeen). Each ServesAll a b) (map-id c.as_mut_slice-2.result.now ∙ c.as_mut_slice-2.ensures.value) (map-id c.run_all-end.new.servers) c.run_all-end.ensures.serves in
    let ending : Ending capacity arrived posts c.run_all-end.new.feeds c.run_all-end.new.servers = starting_ending capacity arrived posts feeds c.run_all-end.new.feeds servers c.run_all-end.new.servers starting fed served in
    let all_fed = all_written c.take_in.new.feeds.len c.run_all-end.new.feeds feeds (omega (arith, c.run_all-end.auto.feeds, c.as_mut_slice.ensures.len)) in
    let all_served = all_written c.take_in.new.servers.len c.run_all-end.new.servers servers (omega (arith, c.run_all-end.auto.servers, c.as_mut_slice-2.ensures.len)) in
    (capacity, arrived, posts, subst₂ (λ (f : List (Feed g.row.X.Denot)) (s : List ServerSeen). Ending capacity arrived posts f s) (sym all_fed) (sym all_served) ending)

pub give_back-requires-clause-space : goal.give_back-requires-clause-space
give_back-requires-clause-space g c =
    let seen : g.row.P.Denot → PostSeen = λ post. record { name = g.P.Post.name post; sent = g.P.Post.sent post; faults = g.P.Post.faults post } in
    let posts = map seen c.args.posts.now.items in let feeds = c.take_in.new.feeds.items in let servers = c.take_in.new.servers.items in
    let capacity = c.requires.new.0 in let new = c.requires.new.1 in
    let starting : Starting capacity posts feeds servers = adds_all (Starting capacity) posts c.args.rooms.feeds.items feeds c.args.rooms.servers.items servers c.requires.rooms.0 c.requires.rooms.1 (c.take_in.ensures.starting capacity new) in
    let hears = c.run_all-end.ensures.hears.hears in let arrived = datagrams hears.taken in
    let fed : Each (FeedsAll arrived) feeds c.run_all-end.new.feeds = subst (λ (l : List (Feed g.row.X.Denot)). Each (FeedsAll arrived) l c.run_all-end.new.feeds) c.as_mut_slice.ensures.value hears.feeds in
    let served : Each ServesAll servers c.run_all-end.new.servers =
    subst₂ (λ (a b : List ServerSeen). Each ServesAll a b) (map-id c.as_mut_slice-2.result.now ∙ c.as_mut_slice-2.ensures.value) (map-id c.run_all-end.new.servers) c.run_all-end.ensures.serves in
    let ending : Ending capacity arrived posts c.run_all-end.new.feeds c.run_all-end.new.servers = starting_ending capacity arrived posts feeds c.run_all-end.new.feeds servers c.run_all-end.new.servers starting fed served in
    let all_fed = all_written c.take_in.new.feeds.len c.run_all-end.new.feeds feeds (omega (arith, c.run_all-end.auto.feeds, c.as_mut_slice.ensures.len)) in
    let all_served = all_written c.take_in.new.servers.len c.run_all-end.new.servers servers (omega (arith, c.run_all-end.auto.servers, c.as_mut_slice-2.ensures.len)) in
    let size = starting_length capacity posts feeds servers starting in
    let told : length posts ≡ length c.args.posts.now.items = length-map c.args.posts.now.items seen in
    let many = each_length ServesAll servers c.run_all-end.new.servers served in
    let written = ap (λ (l : List ServerSeen). length l) all_served in
    (grind (arith, size, told, many, written, c.take_in.ensures.empty.0, c.take_in.ensures.capacity.0, c.requires.some.2), grind (arith, size, told, many, written, c.take_in.ensures.empty.1, c.take_in.ensures.capacity.1, c.requires.some.2))

pub give_back-requires-clause-room : goal.give_back-requires-clause-room
give_back-requires-clause-room g c =
    let seen : g.row.P.Denot → PostSeen = λ post. record { name = g.P.Post.name post; sent = g.P.Post.sent post; faults = g.P.Post.faults post } in
    let posts = map seen c.args.posts.now.items in let feeds = c.take_in.new.feeds.items in let servers = c.take_in.new.servers.items in
    let capacity = c.requires.new.0 in let new = c.requires.new.1 in
    let starting : Starting capacity posts feeds servers = adds_all (Starting capacity) posts c.args.rooms.feeds.items feeds c.args.rooms.servers.items servers c.requires.rooms.0 c.requires.rooms.1 (c.take_in.ensures.starting capacity new) in
    let hears = c.run_all-end.ensures.hears.hears in let arrived = datagrams hears.taken in
    let fed : Each (FeedsAll arrived) feeds c.run_all-end.new.feeds = subst (λ (l : List (Feed g.row.X.Denot)). Each (FeedsAll arrived) l c.run_all-end.new.feeds) c.as_mut_slice.ensures.value hears.feeds in
    let served : Each ServesAll servers c.run_all-end.new.servers =
    subst₂ (λ (a b : List ServerSeen). Each ServesAll a b) (map-id c.as_mut_slice-2.result.now ∙ c.as_mut_slice-2.ensures.value) (map-id c.run_all-end.new.servers) c.run_all-end.ensures.serves in
    let ending : Ending capacity arrived posts c.run_all-end.new.feeds c.run_all-end.new.servers = starting_ending capacity arrived posts feeds c.run_all-end.new.feeds servers c.run_all-end.new.servers starting fed served in
    let all_fed = all_written c.take_in.new.feeds.len c.run_all-end.new.feeds feeds (omega (arith, c.run_all-end.auto.feeds, c.as_mut_slice.ensures.len)) in
    let all_served = all_written c.take_in.new.servers.len c.run_all-end.new.servers servers (omega (arith, c.run_all-end.auto.servers, c.as_mut_slice-2.ensures.len)) in
    let size = starting_length capacity posts feeds servers starting in
    let told : length posts ≡ length c.args.posts.now.items = length-map c.args.posts.now.items seen in
    let many = each_length ServesAll servers c.run_all-end.new.servers served in
    let written = ap (λ (l : List ServerSeen). length l) all_served in
    let none = ap (λ (l : List PostCount). length l) c.new-counts.ensures in
    omega (arith, size, told, many, written, none, c.requires.some.1)

pub returns-clause-relays : goal.returns-clause-relays
returns-clause-relays g c =
    let seen : g.row.P.Denot → PostSeen = λ post. record { name = g.P.Post.name post; sent = g.P.Post.sent post; faults = g.P.Post.faults post } in
    let posts = map seen c.args.posts.now.items in let feeds = c.take_in.new.feeds.items in let servers = c.take_in.new.servers.items in
    λ capacity new.
    let starting : Starting capacity posts feeds servers = adds_all (Starting capacity) posts c.args.rooms.feeds.items feeds c.args.rooms.servers.items servers c.requires.rooms.0 c.requires.rooms.1 (c.take_in.ensures.starting capacity new) in
    let hears = c.run_all-end.ensures.hears.hears in let arrived = datagrams hears.taken in
    let fed : Each (FeedsAll arrived) feeds c.run_all-end.new.feeds = subst (λ (l : List (Feed g.row.X.Denot)). Each (FeedsAll arrived) l c.run_all-end.new.feeds) c.as_mut_slice.ensures.value hears.feeds in
    let served : Each ServesAll servers c.run_all-end.new.servers =
    subst₂ (λ (a b : List ServerSeen). Each ServesAll a b) (map-id c.as_mut_slice-2.result.now ∙ c.as_mut_slice-2.ensures.value) (map-id c.run_all-end.new.servers) c.run_all-end.ensures.serves in
    let ending : Ending capacity arrived posts c.run_all-end.new.feeds c.run_all-end.new.servers = starting_ending capacity arrived posts feeds c.run_all-end.new.feeds servers c.run_all-end.new.servers starting fed served in
    let all_fed = all_written c.take_in.new.feeds.len c.run_all-end.new.feeds feeds (omega (arith, c.run_all-end.auto.feeds, c.as_mut_slice.ensures.len)) in
    let all_served = all_written c.take_in.new.servers.len c.run_all-end.new.servers servers (omega (arith, c.run_all-end.auto.servers, c.as_mut_slice-2.ensures.len)) in
    let gives = c.give_back.ensures.given capacity arrived posts (subst₂ (λ (f : List (Feed g.row.X.Denot)) (s : List ServerSeen). Ending capacity arrived posts f s) (sym all_fed) (sym all_served) ending) in
    let relays : RelaysPosts capacity arrived posts (map seen c.give_back.new.posts.items) c.give_back.new.counts.items =
    gives_all (RelaysPosts capacity arrived) posts _ (map seen c.give_back.new.posts.items) c.new-counts.result.items c.give_back.new.counts.items (ap (λ ps. map seen ps) c.take_in.ensures.empty.0) (search rules) gives in
    record {
      taken = hears.taken;
      left_is = hears.left_is;
      posts = subst (λ (cs : List PostCount). RelaysPosts capacity arrived posts (map seen c.give_back.new.posts.items) cs) (sym c.new.ensures.1) relays;
      ended = λ is. hears.ended (sym c.new.ensures.0 ∙ is);
    }
