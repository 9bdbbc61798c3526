use Rattle.std.proofs.Common.{◌≡◌, ◌≤◌, List, length, map, true}
use Rattle.tesla_capture.specs.Grammar.{limit}
use Rattle.tesla_capture.specs.Steps.{ahead}
use Rattle.tesla_relay.specs.Posts.{PostSeen}
use Rattle.tesla_relay.specs.Steps.{PlaysOn}
use Rattle.tesla_relay.proofs.playing.play.Given as goal

abbrev pub invariant-loop : goal.invariant-loop
invariant-loop g l =
    let seen = λ (posts : List g.row.P.Denot). map (λ post. let it : PostSeen = record { name = g.P.Post.name post; sent = g.P.Post.sent post; faults = g.P.Post.faults post } in it) posts in
    record {
      size : length l.datagram ≡ 2048;
      going : l.reader.going ≡ true;
      few : l.sent ≤ l.reader.place;
      limited : l.reader.place ≤ limit;
      read : g.S.Source.faults l.source ≡ g.S.Source.faults l.initial.source;
      name : g.S.Source.name l.source ≡ g.S.Source.name l.initial.source;
      plays : PlaysOn l.sent l.reader.place (g.S.Source.left l.initial.source) (ahead l.reader (g.S.Source.left l.source)) (g.C.Clock.told l.initial.clock) (g.C.Clock.told l.clock) (seen l.initial.posts) (seen l.posts);
    }
