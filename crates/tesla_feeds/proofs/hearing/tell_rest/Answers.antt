use Rattle.std.proofs.Common.{◌∙◌, ◌++◌, not, refl, sym, ap, arith}
use Rattle.std.specs.List.{list_all}
use Rattle.tesla_feed.specs.Fed.{Rested}
use Rattle.tesla_feed.specs.Feed.{has_failed}
use Rattle.tesla_feed.proofs.Going.{both_ways}
use Rattle.tesla_feeds.specs.Opening.{streams_fed}
use Rattle.tesla_feeds.proofs.Brought.{with_feeders}
use Rattle.tesla_feeds.proofs.Going.{goes_on_brought, goes_on_more, goes_on_next, loses_no_rest, loses_rest, lost_at, may_take, may_tell, next_is, rests_brought, rests_more, rests_next, rests_none, taken_is}
use Rattle.tesla_feeds.proofs.Run.{differ, goes_on_own}
use Rattle.tesla_feeds.proofs.hearing.tell_rest.Goals as goal

pub loop-init : goal.loop-init
loop-init g c = record { each = c.requires.each; stays = λ all. refl; fixed = refl; opening = refl; no_more = omega arith; going = c.requires.going; rests = λ fed firsts goes. rests_none _ _ fed firsts c.args.feeds.now c.args.failed.now _ _ _ goes }

pub returns-then-have_all_failed-clause-rests : goal.returns-then-have_all_failed-clause-rests
returns-then-have_all_failed-clause-rests g c = λ fed firsts goes. record { then = _; rests = c.loop.invariant.rests fed firsts goes; loses = loses_no_rest _ _ _ }

pub returns-then-have_all_failed-clause-going : goal.returns-then-have_all_failed-clause-going
returns-then-have_all_failed-clause-going g c = c.loop.invariant.going

pub returns-then-have_all_failed-clause-ends : goal.returns-then-have_all_failed-clause-ends
returns-then-have_all_failed-clause-ends g c = λ left fed stands whole some. absurd (both_ways (list_all has_failed c.loop.failed) (sym c.have_all_failed.ensures ∙ c.if-have_all_failed.true) some)

pub returns-then-have_told_all-clause-rests : goal.returns-then-have_told_all-clause-rests
returns-then-have_told_all-clause-rests g c = λ fed firsts goes. record { then = _; rests = c.loop.invariant.rests fed firsts goes; loses = loses_no_rest _ _ _ }

pub returns-then-have_told_all-clause-going : goal.returns-then-have_told_all-clause-going
returns-then-have_told_all-clause-going g c = c.loop.invariant.going

pub returns-then-have_told_all-clause-ends : goal.returns-then-have_told_all-clause-ends
returns-then-have_told_all-clause-ends g c = λ left fed stands whole some. sym (c.have_told_all.ensures left fed stands) ∙ c.if-have_told_all.true

pub returns-then-not-bring_needed-clause-ends : goal.returns-then-not-bring_needed-clause-ends
returns-then-not-bring_needed-clause-ends g c = λ left fed stands whole some. absurd (differ _ refl whole)

pub bring_needed-requires-clause-room : goal.bring_needed-requires-clause-room
bring_needed-requires-clause-room g c = c.loop.invariant.going.1.goes.room

pub bring_needed-requires-clause-later : goal.bring_needed-requires-clause-later
bring_needed-requires-clause-later g c = c.loop.invariant.going.1.goes.stands.later

pub returns-then-not-bring_needed-clause-rests : goal.returns-then-not-bring_needed-clause-rests
returns-then-not-bring_needed-clause-rests g c = λ fed firsts goes.
    let streams = streams_fed c.args.feeds.now.feeders ++ g.Y.LaterSenders.left c.args.instruments.now.later in
    let brought = c.bring_needed.new.feeds in
    let brings = c.bring_needed.ensures.brings in
    let number = c.loop.invariant.going.0 in
    let left = g.Y.LaterSenders.left c.bring_needed.new.later in
    let on = goes_on_brought _ _ _ _ _ _ _ streams number _ c.loop.feeds c.loop.posts c.loop.failed _ c.loop.invariant.going.1 brought left brings in
    let own = goes_on_own _ _ _ _ _ _ _ streams number left brought c.loop.posts c.loop.failed _ on in
    record {
      then = _;
      rests = rests_brought _ _ left fed firsts c.loop.feeds brought c.loop.failed _ _ _ _ _ brings (c.loop.invariant.rests fed firsts goes);
      loses = loses_rest streams c.args.feeds.now.opening c.now-reading.result _ _ c.now-reading.ensures.ticks
          (lost_at streams c.args.feeds.now.opening c.now-reading.result left brought own (brings.opening ∙ c.loop.invariant.opening) (c.bring_needed.ensures.needed ∙ ap not c.if-not-bring_needed.true));
    }

pub returns-then-not-bring_needed-clause-going : goal.returns-then-not-bring_needed-clause-going
returns-then-not-bring_needed-clause-going g c =
    (c.loop.invariant.going.0, goes_on_brought _ _ _ _ _ _ _ _ c.loop.invariant.going.0 _ c.loop.feeds c.loop.posts c.loop.failed _ c.loop.invariant.going.1 c.bring_needed.new.feeds _ c.bring_needed.ensures.brings)

pub take_noted-requires-clause-may : goal.take_noted-requires-clause-may
take_noted-requires-clause-may g c =
    let number = c.loop.invariant.going.0 in
    let on = goes_on_brought _ _ _ _ _ _ _ _ number _ c.loop.feeds c.loop.posts c.loop.failed _ c.loop.invariant.going.1 c.bring_needed.new.feeds _ c.bring_needed.ensures.brings in
    may_take _ _ _ _ _ _ _ _ number _ c.bring_needed.new.feeds c.loop.posts c.loop.failed _ on (Rested c.now-reading.result) c.now-reading.ensures.gave (c.bring_needed.ensures.needed ∙ ap not c.if-not-bring_needed.false)

pub tell-instruments-requires : goal.tell-instruments-requires
tell-instruments-requires g c =
    let number = c.loop.invariant.going.0 in
    let brought = c.bring_needed.new.feeds in
    let on = goes_on_brought _ _ _ _ _ _ _ _ number _ c.loop.feeds c.loop.posts c.loop.failed _ c.loop.invariant.going.1 brought _ c.bring_needed.ensures.brings in
    let taken = taken_is (Rested c.now-reading.result) _ brought c.take_noted.new.feeders _ _ _ _ c.take_noted.ensures.takes c.take_noted.ensures.room (c.bring_needed.ensures.needed ∙ ap not c.if-not-bring_needed.false) in
    let permitted = may_tell _ _ _ _ _ _ _ _ number _ brought c.loop.posts c.loop.failed _ on (Rested c.now-reading.result) c.take_noted.new.feeders c.take_noted.new.posts c.take_noted.new.failed c.now-reading.ensures.gave taken in
    record { permitted = permitted }

pub loop-preserved : goal.loop-preserved
loop-preserved g c =
    let streams = streams_fed c.args.feeds.now.feeders ++ g.Y.LaterSenders.left c.args.instruments.now.later in
    let number = c.loop.invariant.going.0 in
    let left = g.Y.LaterSenders.left c.bring_needed.new.later in
    let brought = c.bring_needed.new.feeds in
    let on = goes_on_brought _ _ _ _ _ _ _ streams number _ c.loop.feeds c.loop.posts c.loop.failed _ c.loop.invariant.going.1 brought left c.bring_needed.ensures.brings in
    let taken = taken_is (Rested c.now-reading.result) _ brought c.take_noted.new.feeders _ _ _ _ c.take_noted.ensures.takes c.take_noted.ensures.room (c.bring_needed.ensures.needed ∙ ap not c.if-not-bring_needed.false) in
    let next = next_is c.take_noted.new.feeders c.make_next.new.self c.make_next.ensures.makes c.make_next.ensures.room in
    record {
      each = c.take_noted.ensures.each.1 ∙ c.loop.invariant.each ∙ sym c.take_noted.ensures.each.0;
      stays = λ all. absurd (both_ways (list_all has_failed c.loop.failed) (ap (list_all has_failed) (c.loop.invariant.stays all) ∙ all) (sym c.have_all_failed.ensures ∙ c.if-have_all_failed.false));
      fixed = c.tell-instruments.ensures.fixed ∙ c.loop.invariant.fixed;
      opening = c.bring_needed.ensures.brings.opening ∙ c.loop.invariant.opening;
      no_more = omega (arith, c.bring_needed.ensures.no_more, c.loop.invariant.no_more);
      going = (
        number,
        goes_on_next _ _ _ _ _ _ _ streams number left (with_feeders brought c.take_noted.new.feeders) c.take_noted.new.posts c.take_noted.new.failed c.tell-instruments.new.notes
            (goes_on_more _ _ _ _ _ _ _ streams number left brought c.loop.posts c.loop.failed c.loop.instruments.notes on (Rested c.now-reading.result) c.take_noted.new.feeders c.take_noted.new.posts c.take_noted.new.failed c.now-reading.ensures.gave taken c.tell-instruments.new.notes c.tell-instruments.ensures.told)
            c.make_next.new.self next,
      );
      rests = λ fed firsts goes.
          rests_next _ left fed firsts (with_feeders brought c.take_noted.new.feeders) c.make_next.new.self _ _ _ _ _ _ next
          (rests_more _ _ left c.now-reading.result fed firsts c.loop.feeds brought c.take_noted.new.feeders c.loop.failed _ _ _ _ _ _ _ _ _ (c.loop.invariant.rests fed firsts goes) (λ f stands. sym (c.have_told_all.ensures _ f stands) ∙ c.if-have_told_all.false) c.bring_needed.ensures.brings c.now-reading.ensures.ticks taken c.tell-instruments.ensures.told);
    }
