use Rattle.std.proofs.Common.{◌≡◌, ◌∙◌, false, sym}
use Rattle.tesla_feed.specs.Fed.{is_unread}
use Rattle.tesla_feed.specs.Steps.{bytes_in}
use Rattle.tesla_feeds.proofs.Whole.{may_first, may_second, may_third, takes_read}
use Rattle.tesla_feeds.proofs.taking.take_event.Goals as goal

pub hand_over-requires-clause-may : goal.hand_over-requires-clause-may
hand_over-requires-clause-may g c =
    let read : is_unread c.args.reading ≡ false = sym c.is_unread.ensures ∙ c.if-is_unread.false in
    may_first _ _ c.args.reading (bytes_in c.args.payload) c.args.feeders.now _ _ c.requires.may read

pub say_item-requires-clause-may : goal.say_item-requires-clause-may
say_item-requires-clause-may g c =
    let read : is_unread c.args.reading ≡ false = sym c.is_unread.ensures ∙ c.if-is_unread.false in
    may_second _ _ c.args.reading (bytes_in c.args.payload) c.args.feeders.now _ _ c.requires.may read c.hand_over.new.feeders _ _ c.hand_over.ensures.takes

pub disclose-requires-clause-may : goal.disclose-requires-clause-may
disclose-requires-clause-may g c =
    let read : is_unread c.args.reading ≡ false = sym c.is_unread.ensures ∙ c.if-is_unread.false in
    may_third _ _ c.args.reading (bytes_in c.args.payload) c.args.feeders.now _ _ c.requires.may read c.hand_over.new.feeders _ _ c.hand_over.ensures.takes c.say_item.new.feeders _ _ c.say_item.ensures.takes

pub returns-clause-takes : goal.returns-clause-takes
returns-clause-takes g c =
    let read : is_unread c.args.reading ≡ false = sym c.is_unread.ensures ∙ c.if-is_unread.false in
    takes_read c.args.reading (bytes_in c.args.payload) c.args.feeders.now c.hand_over.new.feeders c.say_item.new.feeders c.disclose.new.feeders _ _ _ _ _ _ _ _ read c.hand_over.ensures.takes c.say_item.ensures.takes c.disclose.ensures.takes
