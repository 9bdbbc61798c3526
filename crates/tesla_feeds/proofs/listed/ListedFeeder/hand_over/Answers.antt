use Rattle.std.proofs.Common.{◌≡◌, ◌∙◌, ℕ, true, List, sym, ap, subst}
use Rattle.std.specs.Prelude.{◌&&◌, nat_lt}
use Rattle.tesla_clock.specs.Schedule.{Times}
use Rattle.tesla_sender.specs.Made.{interval_at}
use Rattle.tesla_feed.specs.Fed.{Feeding}
use Rattle.tesla_feed.specs.Steps.{Says, StandsFor}
use Rattle.tesla_feeds.specs.Order.{is_in_window}
use Rattle.tesla_feeds.proofs.Parts.{err_size, hands_part, ok_size}
use Rattle.tesla_feeds.proofs.listed.ListedFeeder.hand_over.Goals as goal

pub returns-in-Ok-clause-hands : goal.returns-in-Ok-clause-hands
returns-in-Ok-clause-hands g c = λ part feeds.
    let a = c.args.self.now in
    let handover = c.in-Some.handover in
    let interval = c.interval_at-interval.result in
    let times = a.feeder.sender.stream.setup.times in
    let may : (nat_lt a.handed (interval_at times c.args.reading) && is_in_window times handover.delay handover.next (interval_at times c.args.reading)) ≡ true =
    ap (λ (i : ℕ). nat_lt a.handed i && is_in_window times handover.delay handover.next i) (sym c.interval_at-interval.ensures)
    ∙ ap (λ (t : Times). nat_lt a.handed interval && is_in_window t handover.delay handover.next interval) (sym c.schedule-schedule.ensures)
    ∙ sym c.may_hand_over.ensures ∙ c.if-not-may_hand_over.false in
    hands_part a c.say.new.self part c.args.reading interval handover (ok_size c.in-Ok.length) c.in-Some.is feeds may c.interval_at-interval.ensures (subst (λ (p : List ℕ). (m : Feeding) → StandsFor a.feeder.sender.stream a.feeder.first a.feeder m → Says a.feeder.sender.stream a.feeder.first m c.args.reading p c.say.new.self (ok_size c.in-Ok.length)) c.as_slice.ensures.value c.in-Ok.ensures.says)

pub returns-in-Err-clause-hands : goal.returns-in-Err-clause-hands
returns-in-Err-clause-hands g c = λ part feeds.
    let a = c.args.self.now in
    let handover = c.in-Some.handover in
    let interval = c.interval_at-interval.result in
    let times = a.feeder.sender.stream.setup.times in
    let may : (nat_lt a.handed (interval_at times c.args.reading) && is_in_window times handover.delay handover.next (interval_at times c.args.reading)) ≡ true =
    ap (λ (i : ℕ). nat_lt a.handed i && is_in_window times handover.delay handover.next i) (sym c.interval_at-interval.ensures)
    ∙ ap (λ (t : Times). nat_lt a.handed interval && is_in_window t handover.delay handover.next interval) (sym c.schedule-schedule.ensures)
    ∙ sym c.may_hand_over.ensures ∙ c.if-not-may_hand_over.false in
    hands_part a c.say.new.self part c.args.reading interval handover (err_size c.in-Err.field-0) c.in-Some.is feeds may c.interval_at-interval.ensures (subst (λ (p : List ℕ). (m : Feeding) → StandsFor a.feeder.sender.stream a.feeder.first a.feeder m → Says a.feeder.sender.stream a.feeder.first m c.args.reading p c.say.new.self (err_size c.in-Err.field-0)) c.as_slice.ensures.value c.in-Err.ensures.says)
