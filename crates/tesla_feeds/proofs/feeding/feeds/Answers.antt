use Rattle.std.proofs.Common.{◌≡◌, ◌∙◌, ◌++◌, List, true, inl, inr, refl, sym, ap, subst, arith, rules}
use denote.Enum.Bare.{sameb, same_true}
use Rattle.tesla_feed.specs.contracts.hearing.Hearing.{the_type}
use Rattle.tesla_feed.specs.declared.hearing.Hearing.TheVariants as hearings
use Rattle.tesla_relay.specs.Posts.{PostSeen}
use Rattle.tesla_sender.specs.Made.{Stream}
use Rattle.tesla_feed.proofs.Going.{both_ways}
use Rattle.tesla_feeds.specs.Due.{IsWholeGiven}
use Rattle.tesla_feed.specs.Steps.{lacks_sender}
use Rattle.tesla_feeds.specs.Going.{loses_item}
use Rattle.tesla_feeds.specs.Opening.{opened_at, streams_fed}
use Rattle.tesla_feeds.proofs.Begun.{has_waited, was_asked}
use Rattle.tesla_feeds.proofs.Going.{whole_given}
use Rattle.tesla_feeds.proofs.Noted.{noted_given}
use Rattle.tesla_feeds.proofs.Run.{begun_goes, begun_opening, begun_own, feeds_all, feeds_lost, goes_as, goes_on_as, goes_on_begun, goes_on_own, hears_of, kept_is, lacking_first, lacking_second, none_lacking, not_lacking, noting_opened, rests_of, stops_early, waits_counts}
use Rattle.tesla_feeds.proofs.feeding.feeds.Goals as goal

pub wait_to_begin-requires-clause-stands : goal.wait_to_begin-requires-clause-stands
wait_to_begin-requires-clause-stands g c = c.requires.open.stands

pub wait_to_begin-requires-clause-noting : goal.wait_to_begin-requires-clause-noting
wait_to_begin-requires-clause-noting g c =
    noting_opened g.Y.LaterSenders.is_right g.N.Notes.was_told g.N.Notes.may_note g.C.Clock.gave g.C.Clock.read_for _ c.args.opened.opening c.args.instruments.now.notes c.requires.opening c.requires.open.lasts c.requires.untold c.requires.notes

pub hear_all-hearing-requires-clause-going : goal.hear_all-hearing-requires-clause-going
hear_all-hearing-requires-clause-going g c =
    let seen = λ (post : g.row.P.Denot). let it : PostSeen = record { name = g.P.Post.name post; sent = g.P.Post.sent post; faults = g.P.Post.faults post } in it in
    let opened = c.args.opened in
    let begun = c.wait_to_begin.new.feeds in
    let left = g.Y.LaterSenders.left c.args.instruments.now.later in
    let left_begun = g.Y.LaterSenders.left c.wait_to_begin.new.instruments.later in
    let streams = streams_fed opened.feeders ++ left in
    let start = opened_at opened.opening streams in
    let waited = has_waited _ c.wait_to_begin.result streams opened.opening opened begun _ _ _ _ c.if-not-wait_to_begin.false c.wait_to_begin.ensures.waits in
    let own = begun_own opened begun waited.last left left_begun waited.same c.wait_to_begin.ensures.left in
    let goes = begun_goes g.Y.LaterSenders.is_right seen left start opened begun waited.last c.args.posts.now _ c.requires.open.stands c.requires.open.room c.requires.right refl waited.same (omega (arith, c.requires.few)) refl in
    goes_on_as g.Y.LaterSenders.is_right seen g.P.Post.may_send g.N.Notes.was_told g.N.Notes.may_note g.C.Clock.gave g.C.Clock.read_for streams (streams_fed begun.feeders ++ left_begun) 0 left left_begun begun c.args.posts.now _ c.wait_to_begin.new.instruments.notes (sym own) (sym c.wait_to_begin.ensures.left)
    (goes_on_begun g.Y.LaterSenders.is_right seen g.P.Post.may_send g.N.Notes.was_told g.N.Notes.may_note g.C.Clock.gave g.C.Clock.read_for streams left start begun c.args.posts.now _ c.wait_to_begin.new.instruments.notes c.requires.unsent c.requires.due c.wait_to_begin.ensures.noting goes)

pub tell_rest-told-requires-clause-going : goal.tell_rest-told-requires-clause-going
tell_rest-told-requires-clause-going g c =
    let seen = λ (post : g.row.P.Denot). let it : PostSeen = record { name = g.P.Post.name post; sent = g.P.Post.sent post; faults = g.P.Post.faults post } in it in
    let opened = c.args.opened in
    let begun = c.wait_to_begin.new.feeds in
    let left = g.Y.LaterSenders.left c.args.instruments.now.later in
    let left_begun = g.Y.LaterSenders.left c.wait_to_begin.new.instruments.later in
    let streams = streams_fed opened.feeders ++ left in
    let start = opened_at opened.opening streams in
    let waited = has_waited _ c.wait_to_begin.result streams opened.opening opened begun _ _ _ _ c.if-not-wait_to_begin.false c.wait_to_begin.ensures.waits in
    let own = begun_own opened begun waited.last left left_begun waited.same c.wait_to_begin.ensures.left in
    let heard = c.hear_all-hearing in
    let left_heard = g.Y.LaterSenders.left heard.new.instruments.later in
    let on = heard.ensures.going in
    let own_heard = goes_on_own _ _ _ _ _ _ _ (streams_fed begun.feeders ++ left_begun) on.0 left_heard heard.new.feeds heard.new.posts heard.new.failed heard.new.instruments.notes on.1 in
    (on.0, goes_on_as g.Y.LaterSenders.is_right seen g.P.Post.may_send g.N.Notes.was_told g.N.Notes.may_note g.C.Clock.gave g.C.Clock.read_for (streams_fed begun.feeders ++ left_begun) (streams_fed heard.new.feeds.feeders ++ left_heard) on.0 left_heard left_heard heard.new.feeds heard.new.posts heard.new.failed heard.new.instruments.notes (sym own_heard) refl on.1)

pub returns-then-not-wait_to_begin-clause-given : goal.returns-then-not-wait_to_begin-clause-given
returns-then-not-wait_to_begin-clause-given g c =
    let opened = c.args.opened in
    let left = g.Y.LaterSenders.left c.args.instruments.now.later in
    let streams = streams_fed opened.feeders ++ left in
    let asked = was_asked _ c.wait_to_begin.result streams opened.opening opened c.wait_to_begin.new.feeds _ _ _ _ c.if-not-wait_to_begin.true c.wait_to_begin.ensures.waits in
    noted_given _ _ _ _ _ streams 0 _ c.wait_to_begin.new.instruments.notes c.wait_to_begin.ensures.noting c.wait_to_begin.new.feeds.feeders.counts (waits_counts streams opened.opening left opened c.wait_to_begin.new.feeds _ _ _ _ c.requires.open.stands asked.1)

pub returns-then-not-wait_to_begin-clause-feeds : goal.returns-then-not-wait_to_begin-clause-feeds
returns-then-not-wait_to_begin-clause-feeds g c =
    let opened = c.args.opened in
    let left = g.Y.LaterSenders.left c.args.instruments.now.later in
    let streams = streams_fed opened.feeders ++ left in
    let asked = was_asked _ c.wait_to_begin.result streams opened.opening opened c.wait_to_begin.new.feeds _ _ _ _ c.if-not-wait_to_begin.true c.wait_to_begin.ensures.waits in
    inr (stops_early _ streams opened.opening left opened c.wait_to_begin.new.feeds _ _ _ _ _ _ _ c.requires.open.stands c.requires.untold asked refl)

pub returns-then-eq-clause-feeds : goal.returns-then-eq-clause-feeds
returns-then-eq-clause-feeds g c =
    let seen = λ (post : g.row.P.Denot). let it : PostSeen = record { name = g.P.Post.name post; sent = g.P.Post.sent post; faults = g.P.Post.faults post } in it in
    let opened = c.args.opened in
    let begun = c.wait_to_begin.new.feeds in
    let left = g.Y.LaterSenders.left c.args.instruments.now.later in
    let left_begun = g.Y.LaterSenders.left c.wait_to_begin.new.instruments.later in
    let streams = streams_fed opened.feeders ++ left in
    let start = opened_at opened.opening streams in
    let waited = has_waited _ c.wait_to_begin.result streams opened.opening opened begun _ _ _ _ c.if-not-wait_to_begin.false c.wait_to_begin.ensures.waits in
    let own = begun_own opened begun waited.last left left_begun waited.same c.wait_to_begin.ensures.left in
    let goes = begun_goes g.Y.LaterSenders.is_right seen left start opened begun waited.last c.args.posts.now _ c.requires.open.stands c.requires.open.room c.requires.right refl waited.same (omega (arith, c.requires.few)) refl in
    let heard = c.hear_all-hearing in
    let left_heard = g.Y.LaterSenders.left heard.new.instruments.later in
    let on = heard.ensures.going in
    let own_heard = goes_on_own _ _ _ _ _ _ _ (streams_fed begun.feeders ++ left_begun) on.0 left_heard heard.new.feeds heard.new.posts heard.new.failed heard.new.instruments.notes on.1 in
    let ends = hears_of heard.result g.Y.LaterSenders.is_right (streams_fed begun.feeders ++ left_begun) streams begun.opening opened.opening left_heard start _ heard.new.feeds heard.new.failed _ _ _ _ _ _ _ own (begun_opening opened begun waited.last waited.same)
    (heard.ensures.hears start _ (goes_as _ left left_begun start _ begun _ _ (sym c.wait_to_begin.ensures.left) goes)) in
    let is : c.hear_all-hearing.result ≡ hearings.Lost = same_true the_type (search rules) c.hear_all-hearing.result hearings.Lost (sym c.eq.ensures ∙ c.if-eq.true) in
    inl (feeds_lost g.Y.LaterSenders.is_right streams opened.opening opened begun heard.new.feeds left_heard heard.new.failed heard.result _ _ _ _ _ _ _ _ _ _ _ c.requires.open.lasts c.requires.untold waited ends (ap loses_item is) refl c.has_one_failed.ensures refl)

pub returns-then-eq-clause-given : goal.returns-then-eq-clause-given
returns-then-eq-clause-given g c =
    let seen = λ (post : g.row.P.Denot). let it : PostSeen = record { name = g.P.Post.name post; sent = g.P.Post.sent post; faults = g.P.Post.faults post } in it in
    let opened = c.args.opened in
    let begun = c.wait_to_begin.new.feeds in
    let left = g.Y.LaterSenders.left c.args.instruments.now.later in
    let left_begun = g.Y.LaterSenders.left c.wait_to_begin.new.instruments.later in
    let streams = streams_fed opened.feeders ++ left in
    let start = opened_at opened.opening streams in
    let waited = has_waited _ c.wait_to_begin.result streams opened.opening opened begun _ _ _ _ c.if-not-wait_to_begin.false c.wait_to_begin.ensures.waits in
    let own = begun_own opened begun waited.last left left_begun waited.same c.wait_to_begin.ensures.left in
    let heard = c.hear_all-hearing in
    let left_heard = g.Y.LaterSenders.left heard.new.instruments.later in
    let on = heard.ensures.going in
    let own_heard = goes_on_own _ _ _ _ _ _ _ (streams_fed begun.feeders ++ left_begun) on.0 left_heard heard.new.feeds heard.new.posts heard.new.failed heard.new.instruments.notes on.1 in
    subst (λ (ss : List Stream). IsWholeGiven g.Y.LaterSenders.is_right g.C.Clock.gave g.C.Clock.read_for ss heard.new.feeds.feeders.counts (g.N.Notes.was_told heard.new.instruments.notes)) own
    (whole_given _ _ _ _ _ _ _ _ on.0 left_heard heard.new.feeds heard.new.posts heard.new.failed heard.new.instruments.notes on.1)

pub returns-clause-given : goal.returns-clause-given
returns-clause-given g c =
    let seen = λ (post : g.row.P.Denot). let it : PostSeen = record { name = g.P.Post.name post; sent = g.P.Post.sent post; faults = g.P.Post.faults post } in it in
    let opened = c.args.opened in
    let begun = c.wait_to_begin.new.feeds in
    let left = g.Y.LaterSenders.left c.args.instruments.now.later in
    let left_begun = g.Y.LaterSenders.left c.wait_to_begin.new.instruments.later in
    let streams = streams_fed opened.feeders ++ left in
    let start = opened_at opened.opening streams in
    let waited = has_waited _ c.wait_to_begin.result streams opened.opening opened begun _ _ _ _ c.if-not-wait_to_begin.false c.wait_to_begin.ensures.waits in
    let own = begun_own opened begun waited.last left left_begun waited.same c.wait_to_begin.ensures.left in
    let heard = c.hear_all-hearing in
    let left_heard = g.Y.LaterSenders.left heard.new.instruments.later in
    let on = heard.ensures.going in
    let own_heard = goes_on_own _ _ _ _ _ _ _ (streams_fed begun.feeders ++ left_begun) on.0 left_heard heard.new.feeds heard.new.posts heard.new.failed heard.new.instruments.notes on.1 in
    let told = c.tell_rest-told in
    let going = told.ensures.going in
    subst (λ (ss : List Stream). IsWholeGiven g.Y.LaterSenders.is_right g.C.Clock.gave g.C.Clock.read_for ss told.new.feeds.feeders.counts (g.N.Notes.was_told told.new.instruments.notes)) (own_heard ∙ own)
    (whole_given _ _ _ _ _ _ _ _ going.0 (g.Y.LaterSenders.left told.new.instruments.later) told.new.feeds told.new.posts told.new.failed told.new.instruments.notes going.1)

pub returns-clause-feeds : goal.returns-clause-feeds
returns-clause-feeds g c =
    let seen = λ (post : g.row.P.Denot). let it : PostSeen = record { name = g.P.Post.name post; sent = g.P.Post.sent post; faults = g.P.Post.faults post } in it in
    let opened = c.args.opened in
    let begun = c.wait_to_begin.new.feeds in
    let left = g.Y.LaterSenders.left c.args.instruments.now.later in
    let left_begun = g.Y.LaterSenders.left c.wait_to_begin.new.instruments.later in
    let streams = streams_fed opened.feeders ++ left in
    let start = opened_at opened.opening streams in
    let waited = has_waited _ c.wait_to_begin.result streams opened.opening opened begun _ _ _ _ c.if-not-wait_to_begin.false c.wait_to_begin.ensures.waits in
    let own = begun_own opened begun waited.last left left_begun waited.same c.wait_to_begin.ensures.left in
    let goes = begun_goes g.Y.LaterSenders.is_right seen left start opened begun waited.last c.args.posts.now _ c.requires.open.stands c.requires.open.room c.requires.right refl waited.same (omega (arith, c.requires.few)) refl in
    let heard = c.hear_all-hearing in
    let left_heard = g.Y.LaterSenders.left heard.new.instruments.later in
    let on = heard.ensures.going in
    let own_heard = goes_on_own _ _ _ _ _ _ _ (streams_fed begun.feeders ++ left_begun) on.0 left_heard heard.new.feeds heard.new.posts heard.new.failed heard.new.instruments.notes on.1 in
    let ends = hears_of heard.result g.Y.LaterSenders.is_right (streams_fed begun.feeders ++ left_begun) streams begun.opening opened.opening left_heard start _ heard.new.feeds heard.new.failed _ _ _ _ _ _ _ own (begun_opening opened begun waited.last waited.same)
    (heard.ensures.hears start _ (goes_as _ left left_begun start _ begun _ _ (sym c.wait_to_begin.ensures.left) goes)) in
    let told = c.tell_rest-told in
    let left_told = g.Y.LaterSenders.left told.new.instruments.later in
    let lost : c.hear_all-hearing.result ≡ hearings.Lost → c.eq.result ≡ true = λ same. c.eq.ensures ∙ ap (λ h. sameb the_type h hearings.Lost) same in
    inl (feeds_all g.Y.LaterSenders.is_right streams opened.opening opened begun heard.new.feeds told.new.feeds left_heard left_told heard.new.failed told.new.failed heard.result told.result _ _ _ _ _ _ _ _ _ _ _ _ _ _
    (record {
      lasts = c.requires.open.lasts;
      untold_yet = c.requires.untold;
      awaits = waited;
      hears = ends;
      kept = kept_is heard.result c.eq.result lost c.if-eq.false;
      stops = heard.ensures.stops;
      rests = λ fed firsts before. rests_of told.result g.Y.LaterSenders.is_right (streams_fed heard.new.feeds.feeders ++ left_heard) streams heard.new.feeds.opening opened.opening left_told fed firsts told.new.feeds told.new.failed _ _ _ _ _ (own_heard ∙ own) (heard.ensures.opening ∙ begun_opening opened begun waited.last waited.same) (told.ensures.rests fed firsts before);
      stays = told.ensures.stays;
      ends = told.ensures.ends;
    })
    (λ isnt same. both_ways c.eq-2.result (c.eq-2.ensures ∙ ap (λ h. sameb the_type h hearings.LinkFailed) same) isnt)
    (λ none. lacking_first (lacks_sender heard.result) _ c.is_lacking.result c.is_lacking.ensures none) (λ is. lacking_second (lacks_sender heard.result) _ c.is_lacking.result c.is_lacking.ensures is) c.has_one_failed-2.ensures refl)

pub returns-then-eq-clause-some : goal.returns-then-eq-clause-some
returns-then-eq-clause-some g c = λ none.
    let opened = c.args.opened in
    let begun = c.wait_to_begin.new.feeds in
    let left = g.Y.LaterSenders.left c.args.instruments.now.later in
    let streams = streams_fed opened.feeders ++ left in
    let waited = has_waited _ c.wait_to_begin.result streams opened.opening opened begun _ _ _ _ c.if-not-wait_to_begin.false c.wait_to_begin.ensures.waits in
    let is : c.hear_all-hearing.result ≡ hearings.Lost = same_true the_type (search rules) c.hear_all-hearing.result hearings.Lost (sym c.eq.ensures ∙ c.if-eq.true) in
    absurd (none_lacking opened begun waited.last left c.requires.open.stands.later waited.same none (c.hear_all-hearing.ensures.some (ap lacks_sender is)))

pub returns-clause-some : goal.returns-clause-some
returns-clause-some g c = λ none.
    let opened = c.args.opened in
    let begun = c.wait_to_begin.new.feeds in
    let left = g.Y.LaterSenders.left c.args.instruments.now.later in
    let streams = streams_fed opened.feeders ++ left in
    let waited = has_waited _ c.wait_to_begin.result streams opened.opening opened begun _ _ _ _ c.if-not-wait_to_begin.false c.wait_to_begin.ensures.waits in
    let never = none_lacking opened begun waited.last left c.requires.open.stands.later waited.same none in
    let heard = c.hear_all-hearing in
    let told = c.tell_rest-told in
    not_lacking (lacks_sender heard.result) told.result c.is_lacking.result c.is_lacking.ensures (λ is. never (heard.ensures.some is))
    (λ is. let some = told.ensures.some is in let fewer = heard.ensures.no_more in never (omega (arith, some, fewer)))
