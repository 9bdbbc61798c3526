use Rattle.std.proofs.Common.{◌∙◌, ◌++◌, not, suc, take, refl, sym, ap, arith, rules}
use Rattle.tesla_desk.specs.declared.link.Letter.TheVariants as letters
use Rattle.tesla_feed.specs.Fed.{Received}
use Rattle.tesla_feed.specs.Feed.{Heard}
use Rattle.tesla_feeds.specs.Opening.{streams_fed}
use Rattle.tesla_feeds.proofs.Brought.{brings_both, with_feeders}
use Rattle.tesla_feeds.proofs.Going.{goes_on_brought, goes_on_more, goes_on_next, hears_brought, hears_more, hears_next, hears_none, loses_none, loses_nothing, loses_one, lost_at, may_take, may_tell, next_is, taken_is}
use Rattle.tesla_feeds.proofs.Run.{goes_on_own}
use Rattle.tesla_feeds.proofs.hearing.hear_all.Goals as goal

pub loop-init : goal.loop-init
loop-init g c = record {
  size = refl;
  each = c.requires.each;
  posts = refl;
  marks = refl;
  hears = λ fed firsts goes. hears_none _ _ fed firsts c.args.feeds.now c.args.failed.now _ _ _ _ goes;
  going = (0, c.requires.none, c.requires.going);
  opening = refl;
  no_more = omega arith;
  fixed = refl;
  read = refl;
  name = refl;
}

pub returns-then-have_all_failed-clause-going : goal.returns-then-have_all_failed-clause-going
returns-then-have_all_failed-clause-going g c = (c.loop.invariant.going.0, c.loop.invariant.going.2)

pub returns-then-have_all_failed-clause-hears : goal.returns-then-have_all_failed-clause-hears
returns-then-have_all_failed-clause-hears g c = λ fed firsts goes. record { mid = _; then = _; hears = c.loop.invariant.hears fed firsts goes; loses = loses_none _ _ _ _ }

pub is_ready-requires-clause-room : goal.is_ready-requires-clause-room
is_ready-requires-clause-room g c = c.loop.invariant.going.2.goes.room

pub is_ready-requires-clause-later : goal.is_ready-requires-clause-later
is_ready-requires-clause-later g c = c.loop.invariant.going.2.goes.stands.later

pub returns-then-not-is_ready-clause-hears : goal.returns-then-not-is_ready-clause-hears
returns-then-not-is_ready-clause-hears g c = λ fed firsts goes.
    record { mid = _; then = _; hears = hears_brought _ _ _ fed firsts c.loop.feeds c.is_ready.new.feeds c.loop.failed _ _ _ _ _ _ _ c.is_ready.ensures.brings (c.loop.invariant.hears fed firsts goes); loses = loses_none _ _ _ _ }

pub returns-then-not-is_ready-clause-going : goal.returns-then-not-is_ready-clause-going
returns-then-not-is_ready-clause-going g c =
    (c.loop.invariant.going.0, goes_on_brought _ _ _ _ _ _ _ _ c.loop.invariant.going.0 _ c.loop.feeds c.loop.posts c.loop.failed _ c.loop.invariant.going.2 c.is_ready.new.feeds _ c.is_ready.ensures.brings)

pub returns-in-End-clause-hears : goal.returns-in-End-clause-hears
returns-in-End-clause-hears g c = λ fed firsts goes.
    record { mid = _; then = _; hears = hears_brought _ _ _ fed firsts c.loop.feeds c.is_ready.new.feeds c.loop.failed _ _ _ _ _ _ _ c.is_ready.ensures.brings (c.loop.invariant.hears fed firsts goes); loses = loses_nothing _ _ _ _ _ (c.in-End.ensures.step.left ∙ c.wait_at_most.ensures.left) }

pub returns-in-End-clause-going : goal.returns-in-End-clause-going
returns-in-End-clause-going g c =
    (c.loop.invariant.going.0, goes_on_brought _ _ _ _ _ _ _ _ c.loop.invariant.going.0 _ c.loop.feeds c.loop.posts c.loop.failed _ c.loop.invariant.going.2 c.is_ready.new.feeds _ c.is_ready.ensures.brings)

pub returns-in-Failed-clause-hears : goal.returns-in-Failed-clause-hears
returns-in-Failed-clause-hears g c = λ fed firsts goes.
    record { mid = _; then = _; hears = hears_brought _ _ _ fed firsts c.loop.feeds c.is_ready.new.feeds c.loop.failed _ _ _ _ _ _ _ c.is_ready.ensures.brings (c.loop.invariant.hears fed firsts goes); loses = loses_nothing _ _ _ _ _ (c.in-Failed.ensures.step ∙ c.wait_at_most.ensures.left) }

pub returns-in-Failed-clause-going : goal.returns-in-Failed-clause-going
returns-in-Failed-clause-going g c =
    (c.loop.invariant.going.0, goes_on_brought _ _ _ _ _ _ _ _ c.loop.invariant.going.0 _ c.loop.feeds c.loop.posts c.loop.failed _ c.loop.invariant.going.2 c.is_ready.new.feeds _ c.is_ready.ensures.brings)

pub returns-then-not-bring_needed-clause-hears : goal.returns-then-not-bring_needed-clause-hears
returns-then-not-bring_needed-clause-hears g c = λ fed firsts goes.
    let one : Heard = record { reading = c.now_for-reading.result; letter = letters.Datagram (take c.in-Datagram.length c.next-in-loop.new.into) } in
    let streams = streams_fed c.args.feeds.now.feeders ++ g.Y.LaterSenders.left c.args.instruments.now.later in
    let left = g.Y.LaterSenders.left c.bring_needed.new.later in
    let brought = c.bring_needed.new.feeds in
    let number = c.loop.invariant.going.0 in
    let numbered = c.in-Datagram.ensures.numbered number (c.wait_at_most.ensures.numbered number c.loop.invariant.going.1) in
    let brings = brings_both _ c.loop.feeds c.is_ready.new.feeds brought _ _ left c.is_ready.ensures.brings c.bring_needed.ensures.brings in
    let on = goes_on_brought _ _ _ _ _ _ _ streams number _ c.loop.feeds c.loop.posts c.loop.failed _ c.loop.invariant.going.2 brought left brings in
    let own = goes_on_own _ _ _ _ _ _ _ streams number left brought c.loop.posts c.loop.failed _ on in
    record {
      mid = _;
      then = _;
      hears = hears_brought _ _ left fed firsts c.loop.feeds brought c.loop.failed _ _ _ _ _ _ _ brings (c.loop.invariant.hears fed firsts goes);
      loses = loses_one streams c.args.feeds.now.opening one _ _ _ _ (sym c.wait_at_most.ensures.left ∙ c.in-Datagram.ensures.step.left) c.now_for-reading.ensures.ticks
          (lost_at streams c.args.feeds.now.opening one.reading left brought own (brings.opening ∙ c.loop.invariant.opening) (c.bring_needed.ensures.needed ∙ ap not c.if-not-bring_needed.true));
    }

pub returns-then-not-bring_needed-clause-going : goal.returns-then-not-bring_needed-clause-going
returns-then-not-bring_needed-clause-going g c =
    let streams = streams_fed c.args.feeds.now.feeders ++ g.Y.LaterSenders.left c.args.instruments.now.later in
    let left = g.Y.LaterSenders.left c.bring_needed.new.later in
    let brought = c.bring_needed.new.feeds in
    let number = c.loop.invariant.going.0 in
    let numbered = c.in-Datagram.ensures.numbered number (c.wait_at_most.ensures.numbered number c.loop.invariant.going.1) in
    let brings = brings_both _ c.loop.feeds c.is_ready.new.feeds brought _ _ left c.is_ready.ensures.brings c.bring_needed.ensures.brings in
    let on = goes_on_brought _ _ _ _ _ _ _ streams number _ c.loop.feeds c.loop.posts c.loop.failed _ c.loop.invariant.going.2 brought left brings in
    (number, on)

pub take_noted-requires-clause-may : goal.take_noted-requires-clause-may
take_noted-requires-clause-may g c =
    let streams = streams_fed c.args.feeds.now.feeders ++ g.Y.LaterSenders.left c.args.instruments.now.later in
    let left = g.Y.LaterSenders.left c.bring_needed.new.later in
    let brought = c.bring_needed.new.feeds in
    let number = c.loop.invariant.going.0 in
    let numbered = c.in-Datagram.ensures.numbered number (c.wait_at_most.ensures.numbered number c.loop.invariant.going.1) in
    let brings = brings_both _ c.loop.feeds c.is_ready.new.feeds brought _ _ left c.is_ready.ensures.brings c.bring_needed.ensures.brings in
    let on = goes_on_brought _ _ _ _ _ _ _ streams number _ c.loop.feeds c.loop.posts c.loop.failed _ c.loop.invariant.going.2 brought left brings in
    may_take _ _ _ _ _ _ _ streams number left brought c.loop.posts c.loop.failed _ on (Received c.now_for-reading.result (letters.Datagram (take c.in-Datagram.length c.next-in-loop.new.into))) (c.now_for-reading.ensures.gave, c.now_for-reading.ensures.read number (c.requires.asks number _ numbered.0)) (c.bring_needed.ensures.needed ∙ ap not c.if-not-bring_needed.false)

pub tell-instruments-requires : goal.tell-instruments-requires
tell-instruments-requires g c =
    let streams = streams_fed c.args.feeds.now.feeders ++ g.Y.LaterSenders.left c.args.instruments.now.later in
    let left = g.Y.LaterSenders.left c.bring_needed.new.later in
    let brought = c.bring_needed.new.feeds in
    let number = c.loop.invariant.going.0 in
    let numbered = c.in-Datagram.ensures.numbered number (c.wait_at_most.ensures.numbered number c.loop.invariant.going.1) in
    let brings = brings_both _ c.loop.feeds c.is_ready.new.feeds brought _ _ left c.is_ready.ensures.brings c.bring_needed.ensures.brings in
    let on = goes_on_brought _ _ _ _ _ _ _ streams number _ c.loop.feeds c.loop.posts c.loop.failed _ c.loop.invariant.going.2 brought left brings in
    let taken = taken_is (Received c.now_for-reading.result (letters.Datagram (take c.in-Datagram.length c.next-in-loop.new.into))) left brought c.take_noted.new.feeders _ _ _ _ c.take_noted.ensures.takes c.take_noted.ensures.room (c.bring_needed.ensures.needed ∙ ap not c.if-not-bring_needed.false) in
    let permitted = may_tell _ _ _ _ _ _ _ streams number left brought c.loop.posts c.loop.failed _ on (Received c.now_for-reading.result (letters.Datagram (take c.in-Datagram.length c.next-in-loop.new.into))) c.take_noted.new.feeders c.take_noted.new.posts c.take_noted.new.failed (c.now_for-reading.ensures.gave, c.now_for-reading.ensures.read number (c.requires.asks number _ numbered.0)) taken in
    record { permitted = permitted }

pub loop-preserved-in-Datagram : goal.loop-preserved-in-Datagram
loop-preserved-in-Datagram g c =
    let one : Heard = record { reading = c.now_for-reading.result; letter = letters.Datagram (take c.in-Datagram.length c.next-in-loop.new.into) } in
    let streams = streams_fed c.args.feeds.now.feeders ++ g.Y.LaterSenders.left c.args.instruments.now.later in
    let left = g.Y.LaterSenders.left c.bring_needed.new.later in
    let brought = c.bring_needed.new.feeds in
    let number = c.loop.invariant.going.0 in
    let numbered = c.in-Datagram.ensures.numbered number (c.wait_at_most.ensures.numbered number c.loop.invariant.going.1) in
    let brings = brings_both _ c.loop.feeds c.is_ready.new.feeds brought _ _ left c.is_ready.ensures.brings c.bring_needed.ensures.brings in
    let on = goes_on_brought _ _ _ _ _ _ _ streams number _ c.loop.feeds c.loop.posts c.loop.failed _ c.loop.invariant.going.2 brought left brings in
    let taken = taken_is (Received c.now_for-reading.result (letters.Datagram (take c.in-Datagram.length c.next-in-loop.new.into))) left brought c.take_noted.new.feeders _ _ _ _ c.take_noted.ensures.takes c.take_noted.ensures.room (c.bring_needed.ensures.needed ∙ ap not c.if-not-bring_needed.false) in
    record {
      size = search rules;
      each = c.take_noted.ensures.each.1 ∙ c.loop.invariant.each ∙ sym c.take_noted.ensures.each.0;
      posts = c.take_noted.ensures.each.0 ∙ c.loop.invariant.posts;
      marks = c.take_noted.ensures.each.1 ∙ c.loop.invariant.marks;
      hears = λ fed firsts goes.
          hears_more _ left fed firsts one brought c.take_noted.new.feeders c.loop.failed _ _ _ _ _ _ _ _ _ _ _ _ (hears_brought _ _ left fed firsts c.loop.feeds brought c.loop.failed _ _ _ _ _ _ _ brings (c.loop.invariant.hears fed firsts goes)) (sym c.wait_at_most.ensures.left ∙ c.in-Datagram.ensures.step.left) c.now_for-reading.ensures.ticks taken c.tell-instruments.ensures.told;
      going = (
        suc number,
        numbered.1,
        goes_on_more _ _ _ _ _ _ _ streams number left brought c.loop.posts c.loop.failed c.loop.instruments.notes on (Received one.reading one.letter) c.take_noted.new.feeders c.take_noted.new.posts c.take_noted.new.failed (c.now_for-reading.ensures.gave, c.now_for-reading.ensures.read number (c.requires.asks number _ numbered.0)) taken c.tell-instruments.new.notes c.tell-instruments.ensures.told,
      );
      opening = brings.opening ∙ c.loop.invariant.opening;
      no_more = omega (arith, c.is_ready.ensures.no_more, c.bring_needed.ensures.no_more, c.loop.invariant.no_more);
      fixed = c.tell-instruments.ensures.fixed ∙ c.loop.invariant.fixed;
      read = c.in-Datagram.ensures.cause.still (λ e. absurd cc) ∙ c.wait_at_most.ensures.faults ∙ c.loop.invariant.read;
      name = c.in-Datagram.ensures.name ∙ c.wait_at_most.ensures.name ∙ c.loop.invariant.name;
    }

pub returns-then-not-bring_needed-2-clause-hears : goal.returns-then-not-bring_needed-2-clause-hears
returns-then-not-bring_needed-2-clause-hears g c = λ fed firsts goes.
    let one : Heard = record { reading = c.now-reading.result; letter = letters.Quiet } in
    let streams = streams_fed c.args.feeds.now.feeders ++ g.Y.LaterSenders.left c.args.instruments.now.later in
    let left = g.Y.LaterSenders.left c.bring_needed-in-Quiet.new.later in
    let brought = c.bring_needed-in-Quiet.new.feeds in
    let number = c.loop.invariant.going.0 in
    let brings = brings_both _ c.loop.feeds c.is_ready.new.feeds brought _ _ left c.is_ready.ensures.brings c.bring_needed-in-Quiet.ensures.brings in
    let on = goes_on_brought _ _ _ _ _ _ _ streams number _ c.loop.feeds c.loop.posts c.loop.failed _ c.loop.invariant.going.2 brought left brings in
    let own = goes_on_own _ _ _ _ _ _ _ streams number left brought c.loop.posts c.loop.failed _ on in
    record {
      mid = _;
      then = _;
      hears = hears_brought _ _ left fed firsts c.loop.feeds brought c.loop.failed _ _ _ _ _ _ _ brings (c.loop.invariant.hears fed firsts goes);
      loses = loses_one streams c.args.feeds.now.opening one _ _ _ _ (sym c.wait_at_most.ensures.left ∙ c.in-Quiet.ensures.step) c.now-reading.ensures.ticks
          (lost_at streams c.args.feeds.now.opening one.reading left brought own (brings.opening ∙ c.loop.invariant.opening) (c.bring_needed-in-Quiet.ensures.needed ∙ ap not c.if-not-bring_needed-2.true));
    }

pub returns-then-not-bring_needed-2-clause-going : goal.returns-then-not-bring_needed-2-clause-going
returns-then-not-bring_needed-2-clause-going g c =
    let streams = streams_fed c.args.feeds.now.feeders ++ g.Y.LaterSenders.left c.args.instruments.now.later in
    let left = g.Y.LaterSenders.left c.bring_needed-in-Quiet.new.later in
    let brought = c.bring_needed-in-Quiet.new.feeds in
    let number = c.loop.invariant.going.0 in
    let brings = brings_both _ c.loop.feeds c.is_ready.new.feeds brought _ _ left c.is_ready.ensures.brings c.bring_needed-in-Quiet.ensures.brings in
    let on = goes_on_brought _ _ _ _ _ _ _ streams number _ c.loop.feeds c.loop.posts c.loop.failed _ c.loop.invariant.going.2 brought left brings in
    (number, on)

pub take_noted-requires-in-Quiet-clause-may : goal.take_noted-requires-in-Quiet-clause-may
take_noted-requires-in-Quiet-clause-may g c =
    let streams = streams_fed c.args.feeds.now.feeders ++ g.Y.LaterSenders.left c.args.instruments.now.later in
    let left = g.Y.LaterSenders.left c.bring_needed-in-Quiet.new.later in
    let brought = c.bring_needed-in-Quiet.new.feeds in
    let number = c.loop.invariant.going.0 in
    let brings = brings_both _ c.loop.feeds c.is_ready.new.feeds brought _ _ left c.is_ready.ensures.brings c.bring_needed-in-Quiet.ensures.brings in
    let on = goes_on_brought _ _ _ _ _ _ _ streams number _ c.loop.feeds c.loop.posts c.loop.failed _ c.loop.invariant.going.2 brought left brings in
    may_take _ _ _ _ _ _ _ streams number left brought c.loop.posts c.loop.failed _ on (Received c.now-reading.result (letters.Quiet)) c.now-reading.ensures.gave (c.bring_needed-in-Quiet.ensures.needed ∙ ap not c.if-not-bring_needed-2.false)

pub tell-instruments-requires-in-Quiet : goal.tell-instruments-requires-in-Quiet
tell-instruments-requires-in-Quiet g c =
    let streams = streams_fed c.args.feeds.now.feeders ++ g.Y.LaterSenders.left c.args.instruments.now.later in
    let left = g.Y.LaterSenders.left c.bring_needed-in-Quiet.new.later in
    let brought = c.bring_needed-in-Quiet.new.feeds in
    let number = c.loop.invariant.going.0 in
    let brings = brings_both _ c.loop.feeds c.is_ready.new.feeds brought _ _ left c.is_ready.ensures.brings c.bring_needed-in-Quiet.ensures.brings in
    let on = goes_on_brought _ _ _ _ _ _ _ streams number _ c.loop.feeds c.loop.posts c.loop.failed _ c.loop.invariant.going.2 brought left brings in
    let taken = taken_is (Received c.now-reading.result (letters.Quiet)) left brought c.take_noted-in-Quiet.new.feeders _ _ _ _ c.take_noted-in-Quiet.ensures.takes c.take_noted-in-Quiet.ensures.room (c.bring_needed-in-Quiet.ensures.needed ∙ ap not c.if-not-bring_needed-2.false) in
    let permitted = may_tell _ _ _ _ _ _ _ streams number left brought c.loop.posts c.loop.failed _ on (Received c.now-reading.result (letters.Quiet)) c.take_noted-in-Quiet.new.feeders c.take_noted-in-Quiet.new.posts c.take_noted-in-Quiet.new.failed c.now-reading.ensures.gave taken in
    record { permitted = permitted }

pub loop-preserved : goal.loop-preserved
loop-preserved g c =
    let one : Heard = record { reading = c.now-reading.result; letter = letters.Quiet } in
    let streams = streams_fed c.args.feeds.now.feeders ++ g.Y.LaterSenders.left c.args.instruments.now.later in
    let left = g.Y.LaterSenders.left c.bring_needed-in-Quiet.new.later in
    let brought = c.bring_needed-in-Quiet.new.feeds in
    let number = c.loop.invariant.going.0 in
    let brings = brings_both _ c.loop.feeds c.is_ready.new.feeds brought _ _ left c.is_ready.ensures.brings c.bring_needed-in-Quiet.ensures.brings in
    let on = goes_on_brought _ _ _ _ _ _ _ streams number _ c.loop.feeds c.loop.posts c.loop.failed _ c.loop.invariant.going.2 brought left brings in
    let taken = taken_is (Received c.now-reading.result (letters.Quiet)) left brought c.take_noted-in-Quiet.new.feeders _ _ _ _ c.take_noted-in-Quiet.ensures.takes c.take_noted-in-Quiet.ensures.room (c.bring_needed-in-Quiet.ensures.needed ∙ ap not c.if-not-bring_needed-2.false) in
    let next = next_is c.take_noted-in-Quiet.new.feeders c.make_next.new.self c.make_next.ensures.makes c.make_next.ensures.room in
    record {
      size = search rules;
      each = c.take_noted-in-Quiet.ensures.each.1 ∙ c.loop.invariant.each ∙ sym c.take_noted-in-Quiet.ensures.each.0;
      posts = c.take_noted-in-Quiet.ensures.each.0 ∙ c.loop.invariant.posts;
      marks = c.take_noted-in-Quiet.ensures.each.1 ∙ c.loop.invariant.marks;
      hears = λ fed firsts goes.
          hears_next _ left fed firsts (with_feeders brought c.take_noted-in-Quiet.new.feeders) c.make_next.new.self _ _ _ _ _ _ _ _ next
          (hears_more _ left fed firsts one brought c.take_noted-in-Quiet.new.feeders c.loop.failed _ _ _ _ _ _ _ _ _ _ _ _ (hears_brought _ _ left fed firsts c.loop.feeds brought c.loop.failed _ _ _ _ _ _ _ brings (c.loop.invariant.hears fed firsts goes)) (sym c.wait_at_most.ensures.left ∙ c.in-Quiet.ensures.step) c.now-reading.ensures.ticks taken c.tell-instruments-in-Quiet.ensures.told);
      going = (
        number,
        c.in-Quiet.ensures.numbered number (c.wait_at_most.ensures.numbered number c.loop.invariant.going.1),
        goes_on_next _ _ _ _ _ _ _ streams number left (with_feeders brought c.take_noted-in-Quiet.new.feeders) c.take_noted-in-Quiet.new.posts c.take_noted-in-Quiet.new.failed c.tell-instruments-in-Quiet.new.notes
            (goes_on_more _ _ _ _ _ _ _ streams number left brought c.loop.posts c.loop.failed c.loop.instruments.notes on (Received one.reading one.letter) c.take_noted-in-Quiet.new.feeders c.take_noted-in-Quiet.new.posts c.take_noted-in-Quiet.new.failed c.now-reading.ensures.gave taken c.tell-instruments-in-Quiet.new.notes c.tell-instruments-in-Quiet.ensures.told)
            c.make_next.new.self next,
      );
      opening = brings.opening ∙ c.loop.invariant.opening;
      no_more = omega (arith, c.is_ready.ensures.no_more, c.bring_needed-in-Quiet.ensures.no_more, c.loop.invariant.no_more);
      fixed = c.tell-instruments-in-Quiet.ensures.fixed ∙ c.loop.invariant.fixed;
      read = c.in-Quiet.ensures.cause.still (λ e. absurd cc) ∙ c.wait_at_most.ensures.faults ∙ c.loop.invariant.read;
      name = c.in-Quiet.ensures.name ∙ c.wait_at_most.ensures.name ∙ c.loop.invariant.name;
    }
