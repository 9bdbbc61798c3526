use Rattle.std.proofs.Common.{◌≡◌, ◌∙◌, ◌∷◌, inl, inr, Err, Ok, List, Option, Some, None, length, ap, map, refl, subst, sym}
use Rattle.std.specs.Prelude.{IfOk}
use Rattle.tesla_commit.specs.Parts.{Parts}
use Rattle.tesla_desk.specs.Clocks.{Ticking}
use Rattle.tesla_desk.specs.Outside.{MakesClock, Told}
use Rattle.tesla_feed.specs.Feed.{OpensAt}
use Rattle.tesla_feeds.specs.Later.{AreOf, OpensFeeds, last_streams}
use Rattle.std.proofs.lemmas.Result.{err_from_is_err_and}
use Rattle.tesla_feeds.specs.declared.opening.OpenFeeds.{OpenFeeds}
use Rattle.tesla_relay.specs.Opening.{OpensPosts, name_of}
use Rattle.tesla_relay.specs.Posts.{PostSeen}
use Rattle.tesla_run_feed.specs.Listing.{streams_in}
use Rattle.tesla_run_feed.specs.Steps.{OpensByClock}
use Rattle.tesla_run_feed.proofs.Opened.{are_of, is_ready}
use Rattle.tesla_run_feed.proofs.Steps.{opened_each}
use Rattle.tesla_run_feed.proofs.ready.open_feeding.Goals as goal

pub returns-clause-size : goal.returns-clause-size
returns-clause-size g c =
    let told = g.D.Environment.told in let port = g.D.Port.Post in
    let seen : g.row.D-Port.Denot → PostSeen = λ post. record { name = port.name post; sent = port.sent post; faults = port.faults post } in
    opened_each seen name_of c.args.names.now _ (told c.open_posts.new.desk) (map seen c.args.posts.now.items) c.open_posts.new.posts.items c.in_ok-open_posts.ensures (ap (map seen) c.requires.empty)

pub returns-in-Ok-None-clause-refused : goal.returns-in-Ok-None-clause-refused
returns-in-Ok-None-clause-refused g c =
    let told = g.D.Environment.told in let port = g.D.Port.Post in let clock = g.D.Time.Clock in
    let seen : g.row.D-Port.Denot → PostSeen = λ post. record { name = port.name post; sent = port.sent post; faults = port.faults post } in
    let first = c.args.senders.first in
    let behind = c.args.senders.behind.list in
    let streams = streams_in behind in
    let opening = c.first_reading-opening.result in
    let after = clock.told c.first_reading-opening.new.clock in
    let are : AreOf streams c.as_slice.result.now = subst (λ (ps : List Parts). AreOf streams ps) (sym c.as_slice.ensures.value) (are_of behind.setups.items behind.seeds.items c.requires.first.each c.requires.first.have) in
    let opens : OpensFeeds opening first.sender.stream streams None =
    subst (λ (feed : Option OpenFeeds). OpensFeeds opening first.sender.stream streams feed) c.in-Ok-None.field-0-is (subst (λ (r : _). IfOk r (OpensFeeds opening first.sender.stream streams)) c.in-Ok-None.is (c.open_counted.ensures streams are)) in
    let clocked : OpensByClock (first.sender.stream ∷ streams) None after (told c.args.desk.now) (told c.gate-gate.new.self) = record {
      opening = opening;
      opens_at = subst (λ (t : Option Ticking). OpensAt opening t after) c.clock-clock.ensures.told c.first_reading-opening.ensures.opens;
      first = first.sender.stream;
      streams_are = refl;
      opens = opens;
      makes = subst (λ (t : Told). MakesClock (told c.args.desk.now) t) (sym c.gate-gate.ensures.desk) c.clock-clock.ensures.desk;
    } in
    inl (record { ticking = after; opens = clocked; none = ap (map seen) c.requires.empty; outcome_is = c.streams_over.ensures })

pub returns-in_err-open_posts-clause-refused : goal.returns-in_err-open_posts-clause-refused
returns-in_err-open_posts-clause-refused g c =
    let p = err_from_is_err_and c.from_residual.result c.from_residual.ensures.1 in
    let told = g.D.Environment.told in let port = g.D.Port.Post in let clock = g.D.Time.Clock in
    let seen : g.row.D-Port.Denot → PostSeen = λ post. record { name = port.name post; sent = port.sent post; faults = port.faults post } in
    let first = c.args.senders.first in
    let behind = c.args.senders.behind.list in
    let streams = streams_in behind in
    let opening = c.first_reading-opening.result in
    let after = clock.told c.first_reading-opening.new.clock in
    let are : AreOf streams c.as_slice.result.now = subst (λ (ps : List Parts). AreOf streams ps) (sym c.as_slice.ensures.value) (are_of behind.setups.items behind.seeds.items c.requires.first.each c.requires.first.have) in
    let opens : OpensFeeds opening first.sender.stream streams (Some c.in-Ok-Some.opened) =
    subst (λ (feed : Option OpenFeeds). OpensFeeds opening first.sender.stream streams feed) c.in-Ok-Some.field-0-is (subst (λ (r : _). IfOk r (OpensFeeds opening first.sender.stream streams)) c.in-Ok-Some.is (c.open_counted.ensures streams are)) in
    let clocked : OpensByClock (first.sender.stream ∷ streams) (Some c.in-Ok-Some.opened) after (told c.args.desk.now) (told c.gate-gate.new.self) = record {
      opening = opening;
      opens_at = subst (λ (t : Option Ticking). OpensAt opening t after) c.clock-clock.ensures.told c.first_reading-opening.ensures.opens;
      first = first.sender.stream;
      streams_are = refl;
      opens = opens;
      makes = subst (λ (t : Told). MakesClock (told c.args.desk.now) t) (sym c.gate-gate.ensures.desk) c.clock-clock.ensures.desk;
    } in
    rw (p.1, p.2) (inr (inr (record {
      feed = c.in-Ok-Some.opened;
      ticking = after;
      fault = c.in_err-open_posts.field-0.0;
      opens = record {
        clocked = told c.gate-gate.new.self;
        opens = clocked;
        posts_open = subst (λ (ps : List PostSeen). OpensPosts (map name_of c.args.names.now) (told c.gate-gate.new.self) (told c.open_posts.new.desk) ps (map seen c.open_posts.new.posts.items) (Err c.in_err-open_posts.field-0.0)) (ap (map seen) c.requires.empty) c.in_err-open_posts.ensures;
      };
      outcome_is = refl;
    })))

pub returns-clause-ready : goal.returns-clause-ready
returns-clause-ready g c =
    let told = g.D.Environment.told in let port = g.D.Port.Post in let clock = g.D.Time.Clock in
    let seen : g.row.D-Port.Denot → PostSeen = λ post. record { name = port.name post; sent = port.sent post; faults = port.faults post } in
    let first = c.args.senders.first in
    let behind = c.args.senders.behind.list in
    let streams = streams_in behind in
    let opening = c.first_reading-opening.result in
    let after = clock.told c.first_reading-opening.new.clock in
    let are : AreOf streams c.as_slice.result.now = subst (λ (ps : List Parts). AreOf streams ps) (sym c.as_slice.ensures.value) (are_of behind.setups.items behind.seeds.items c.requires.first.each c.requires.first.have) in
    let opens : OpensFeeds opening first.sender.stream streams (Some c.in-Ok-Some.opened) =
    subst (λ (feed : Option OpenFeeds). OpensFeeds opening first.sender.stream streams feed) c.in-Ok-Some.field-0-is (subst (λ (r : _). IfOk r (OpensFeeds opening first.sender.stream streams)) c.in-Ok-Some.is (c.open_counted.ensures streams are)) in
    let clocked : OpensByClock (first.sender.stream ∷ streams) (Some c.in-Ok-Some.opened) after (told c.args.desk.now) (told c.gate-gate.new.self) = record {
      opening = opening;
      opens_at = subst (λ (t : Option Ticking). OpensAt opening t after) c.clock-clock.ensures.told c.first_reading-opening.ensures.opens;
      first = first.sender.stream;
      streams_are = refl;
      opens = opens;
      makes = subst (λ (t : Told). MakesClock (told c.args.desk.now) t) (sym c.gate-gate.ensures.desk) c.clock-clock.ensures.desk;
    } in
    let feed = c.in-Ok-Some.opened in
    let later = c.keep_last.new.list in
    let later_is : streams_in later ≡ last_streams (length feed.later.items) streams = c.keep_last.ensures.last ∙ ap (λ (n : _). last_streams n streams) (c.len.ensures ∙ feed.later.ok.0) in
    record {
      opens = record {
        clocked = told c.gate-gate.new.self;
        opens = clocked;
        posts_open = subst (λ (ps : List PostSeen). OpensPosts (map name_of c.args.names.now) (told c.gate-gate.new.self) (told c.open_posts.new.desk) ps (map seen c.open_posts.new.posts.items) (Ok tt)) (ap (map seen) c.requires.empty) c.in_ok-open_posts.ensures;
      };
      later_is = later_is;
      ready = is_ready opening first behind later feed c.requires.first opens c.keep_last.ensures.each later_is;
    }

pub returns-clause-opening : goal.returns-clause-opening
returns-clause-opening g c =
    let told = g.D.Environment.told in let port = g.D.Port.Post in let clock = g.D.Time.Clock in
    let seen : g.row.D-Port.Denot → PostSeen = λ post. record { name = port.name post; sent = port.sent post; faults = port.faults post } in
    let first = c.args.senders.first in
    let behind = c.args.senders.behind.list in
    let streams = streams_in behind in
    let opening = c.first_reading-opening.result in
    let after = clock.told c.first_reading-opening.new.clock in
    let are : AreOf streams c.as_slice.result.now = subst (λ (ps : List Parts). AreOf streams ps) (sym c.as_slice.ensures.value) (are_of behind.setups.items behind.seeds.items c.requires.first.each c.requires.first.have) in
    let opens : OpensFeeds opening first.sender.stream streams (Some c.in-Ok-Some.opened) =
    subst (λ (feed : Option OpenFeeds). OpensFeeds opening first.sender.stream streams feed) c.in-Ok-Some.field-0-is (subst (λ (r : _). IfOk r (OpensFeeds opening first.sender.stream streams)) c.in-Ok-Some.is (c.open_counted.ensures streams are)) in
    let clocked : OpensByClock (first.sender.stream ∷ streams) (Some c.in-Ok-Some.opened) after (told c.args.desk.now) (told c.gate-gate.new.self) = record {
      opening = opening;
      opens_at = subst (λ (t : Option Ticking). OpensAt opening t after) c.clock-clock.ensures.told c.first_reading-opening.ensures.opens;
      first = first.sender.stream;
      streams_are = refl;
      opens = opens;
      makes = subst (λ (t : Told). MakesClock (told c.args.desk.now) t) (sym c.gate-gate.ensures.desk) c.clock-clock.ensures.desk;
    } in
    ap clock.gave opens.0 ∙ c.first_reading-opening.ensures.gave
