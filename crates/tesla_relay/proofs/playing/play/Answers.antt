use Rattle.std.proofs.Common.{◌∙◌, ℕ, List, [], take, refl, ap, arith, rules}
use Rattle.std.proofs.lemmas.List.{length-take}
use Rattle.tesla_desk.specs.Outside.{after_bytes}
use Rattle.tesla_relay.specs.Play.{Played, IsPlayed}
use Rattle.tesla_relay.specs.Posts.{PostSeen}
use Rattle.tesla_relay.proofs.Causes.{cause_since}
use Rattle.tesla_relay.proofs.Due.{all_permitted}
use Rattle.tesla_relay.proofs.Taken.{offset_rises, plays_arrival, plays_broken, plays_cut, plays_ended, plays_none, plays_refused, plays_take}
use Rattle.tesla_relay.proofs.playing.play.Goals as goal

pub loop-init : goal.loop-init
loop-init g c = record {
  size = refl;
  going = c.new-reader.ensures.going;
  few = omega arith;
  limited = omega (arith, c.new-reader.ensures.place);
  read = refl;
  name = refl;
  plays = plays_none 0 _ _ _ _ _ refl c.new-reader.ensures.place (λ bytes told. ap (λ (p : List ℕ). after_bytes p (g.S.Source.left c.args.source.now)) c.new-reader.ensures.pending ∙ ap (after_bytes []) told);
}

pub hand-requires-clause-permitted : goal.hand-requires-clause-permitted
hand-requires-clause-permitted g c =
    let seen : g.row.P.Denot → PostSeen = λ post. record { name = g.P.Post.name post; sent = g.P.Post.sent post; faults = g.P.Post.faults post } in
    all_permitted seen g.P.Post.may_send g.C.Clock.gave c.in-Arrival.reading (take c.in-Arrival.length c.next-in-loop.new.into) c.loop.posts c.args.posts.now c.loop.sent c.loop.reader.place c.next-in-loop.new.self.place _ _ _ _ _
    c.loop.invariant.plays c.in-Arrival.ensures.gives c.wait_until.ensures.given c.requires.due

pub returns-then-not-hand-clause-plays : goal.returns-then-not-hand-clause-plays
returns-then-not-hand-clause-plays g c =
    let one : Played = record { reading = c.in-Arrival.reading; bytes = take c.in-Arrival.length c.next-in-loop.new.into } in
    let fits : IsPlayed one = (omega arith, omega (arith, length-take c.in-Arrival.length c.next-in-loop.new.into, c.in-Arrival.ensures.moves.1)) in
    plays_broken one c.loop.sent c.loop.reader.place c.next-in-loop.new.self.place _ _ _ _ _ _ _ _ _ _ c.loop.invariant.plays c.in-Arrival.ensures.gives fits c.wait_until.ensures.waits (c.if-not-hand.ensures)

pub loop-preserved-in-Arrival : goal.loop-preserved-in-Arrival
loop-preserved-in-Arrival g c =
    let one : Played = record { reading = c.in-Arrival.reading; bytes = take c.in-Arrival.length c.next-in-loop.new.into } in
    let fits : IsPlayed one = (omega arith, omega (arith, length-take c.in-Arrival.length c.next-in-loop.new.into, c.in-Arrival.ensures.moves.1)) in
    record {
      size = search rules;
      going = c.in-Arrival.ensures.goes;
      few = (let moves = c.in-Arrival.ensures.moves.0 in omega (arith, moves, offset_rises c.loop.reader.place, c.loop.invariant.few));
      limited = c.next-in-loop.ensures.limited;
      read = c.in-Arrival.ensures.cause.still (λ e. absurd cc) ∙ c.loop.invariant.read;
      name = c.next-in-loop.ensures.name ∙ c.loop.invariant.name;
      plays = plays_arrival one c.loop.sent _ c.loop.reader.place c.next-in-loop.new.self.place _ _ _ _ _ _ _ _ _ c.loop.invariant.plays c.in-Arrival.ensures.gives fits c.wait_until.ensures.waits (c.if-not-hand.ensures) refl;
    }

pub loop-preserved : goal.loop-preserved
loop-preserved g c = record {
  size = search rules;
  going = c.in-Take.ensures.goes;
  few = (let moves = c.in-Take.ensures.moves in omega (arith, moves, offset_rises c.loop.reader.place, c.loop.invariant.few));
  limited = c.next-in-loop.ensures.limited;
  read = c.in-Take.ensures.cause.still (λ e. absurd cc) ∙ c.loop.invariant.read;
  name = c.next-in-loop.ensures.name ∙ c.loop.invariant.name;
  plays = plays_take c.loop.sent c.loop.reader.place c.next-in-loop.new.self.place _ _ _ _ _ _ _ c.loop.invariant.plays c.in-Take.ensures.gives;
}

pub returns-in-End-clause-plays : goal.returns-in-End-clause-plays
returns-in-End-clause-plays g c = plays_ended c.loop.sent c.loop.reader.place _ _ _ _ _ _ _ c.loop.invariant.plays (λ rest told. (c.in-End.ensures.gives rest told).0)

pub returns-in-Refused-clause-plays : goal.returns-in-Refused-clause-plays
returns-in-Refused-clause-plays g c =
    plays_refused c.in-Refused.place c.in-Refused.kind c.loop.sent c.loop.reader.place _ _ _ _ _ _ _ c.loop.invariant.plays (λ rest told. (c.in-Refused.ensures.gives rest told).0)

pub returns-in-ReadFault-clause-plays : goal.returns-in-ReadFault-clause-plays
returns-in-ReadFault-clause-plays g c =
    plays_cut c.loop.sent c.loop.reader.place c.next-in-loop.new.self.place c.next-in-loop.new.self.pending _ _ _ _ _ _ _ c.loop.invariant.plays c.in-ReadFault.ensures.gives (c.in-ReadFault.ensures.cut refl)

pub returns-then-not-hand-clause-cause : goal.returns-then-not-hand-clause-cause
returns-then-not-hand-clause-cause g c = cause_since _ _ _ c.loop.invariant.read c.in-Arrival.ensures.cause (λ e. absurd cc) (λ e. absurd cc)

pub returns-then-not-hand-clause-name : goal.returns-then-not-hand-clause-name
returns-then-not-hand-clause-name g c = c.next-in-loop.ensures.name ∙ c.loop.invariant.name

pub returns-in-End-clause-cause : goal.returns-in-End-clause-cause
returns-in-End-clause-cause g c = cause_since _ _ _ c.loop.invariant.read c.in-End.ensures.cause (λ e. absurd cc) (λ e. absurd cc)

pub returns-in-End-clause-name : goal.returns-in-End-clause-name
returns-in-End-clause-name g c = c.next-in-loop.ensures.name ∙ c.loop.invariant.name

pub returns-in-Refused-clause-cause : goal.returns-in-Refused-clause-cause
returns-in-Refused-clause-cause g c = cause_since _ _ _ c.loop.invariant.read c.in-Refused.ensures.cause (λ e. absurd cc) (λ e. absurd cc)

pub returns-in-Refused-clause-name : goal.returns-in-Refused-clause-name
returns-in-Refused-clause-name g c = c.next-in-loop.ensures.name ∙ c.loop.invariant.name

pub returns-in-ReadFault-clause-cause : goal.returns-in-ReadFault-clause-cause
returns-in-ReadFault-clause-cause g c = cause_since _ _ _ c.loop.invariant.read c.in-ReadFault.ensures.cause (λ e. refl) (λ e. refl)

pub returns-in-ReadFault-clause-name : goal.returns-in-ReadFault-clause-name
returns-in-ReadFault-clause-name g c = c.next-in-loop.ensures.name ∙ c.loop.invariant.name
