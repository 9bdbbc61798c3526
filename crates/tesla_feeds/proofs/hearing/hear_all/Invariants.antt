use Rattle.std.proofs.Common.{◌≡◌, ◌≤◌, ◌++◌, ℕ, List, length, map, true, vec_len}
use Rattle.tesla_relay.specs.Posts.{PostSeen}
use Rattle.tesla_feeds.specs.Fed.{Fed}
use Rattle.tesla_feeds.specs.Going.{Goes, GoesOn, Hears}
use Rattle.tesla_feeds.specs.Opening.{streams_fed}
use Rattle.tesla_feeds.proofs.hearing.hear_all.Given as goal

abbrev pub invariant-loop : goal.invariant-loop
invariant-loop g l =
    let one = λ (post : g.row.P.Denot). let it : PostSeen = record { name = g.P.Post.name post; sent = g.P.Post.sent post; faults = g.P.Post.faults post } in it in
    let seen = λ (posts : List g.row.P.Denot). map one posts in
    let first = l.initial.feeds in
    let was_told = g.N.Notes.was_told in
    let told = g.C.Clock.told in
    let right = g.Y.LaterSenders.is_right in
    let over = g.Y.LaterSenders.left l.initial.instruments.later in
    let left = g.Y.LaterSenders.left l.instruments.later in
    record {
      size : length l.buffer ≡ 2048;
      each : length l.failed ≡ length l.posts;
      posts : length l.posts ≡ length l.initial.posts;
      marks : length l.failed ≡ length l.initial.failed;
      hears : (fed : Fed) (firsts : List PostSeen) → Goes right over fed firsts first (seen l.initial.posts) l.initial.failed → Hears right left fed firsts l.feeds l.failed (g.K.Link.left l.initial.link) (g.K.Link.left l.link) (told l.initial.instruments.clock) (told l.instruments.clock) (seen l.posts) (was_told l.initial.instruments.notes) (was_told l.instruments.notes);
      going : (number : ℕ) × (g.K.Link.has_brought l.link number ≡ true) × GoesOn right one g.P.Post.may_send was_told g.N.Notes.may_note g.C.Clock.gave g.C.Clock.read_for (streams_fed first.feeders ++ over) number left l.feeds l.posts l.failed l.instruments.notes;
      opening : l.feeds.opening ≡ first.opening;
      no_more : vec_len l.feeds.later ≤ vec_len first.later;
      fixed : g.N.Notes.fixed l.instruments.notes ≡ g.N.Notes.fixed l.initial.instruments.notes;
      read : g.K.Link.faults l.link ≡ g.K.Link.faults l.initial.link;
      name : g.K.Link.name l.link ≡ g.K.Link.name l.initial.link;
    }
