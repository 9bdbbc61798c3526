use Rattle.std.proofs.Common.{◌≡◌, ◌∙◌, ◌-◌, sym, ap, subst}
use Rattle.tesla_clock.specs.Schedule.{IsSchedule, Times}
use Rattle.tesla_sender.specs.Made.{chains_of, interval_at, tells_all}
use Rattle.tesla_feed.proofs.Ended.{ended_is}
use Rattle.tesla_feed.proofs.opening.has_ended.Goals as goal

pub returns : goal.returns
returns c =
    let stream = c.args.sender.now.stream in
    let times = stream.setup.times in
    let limits : IsSchedule times = subst (λ (t : Times). IsSchedule t) c.schedule.ensures c.last.ensures.limits in
    let last : c.from-last.result ≡ times.last = c.from-last.ensures ∙ c.last.ensures.value ∙ ap (λ (t : Times). t.last) c.schedule.ensures in
    let before : c.saturating_sub-2.result ≡ interval_at times (c.args.opening - 1) - 65 = c.saturating_sub-2.ensures ∙ ap (λ n. n - 65) (c.interval_at-interval.ensures ∙ ap (interval_at times) c.saturating_sub.ensures) in
    c.tells_all.ensures ∙ ap (λ n. tells_all n c.saturating_sub-2.result (chains_of stream)) last ∙ ap (λ n. tells_all times.last n (chains_of stream)) before ∙ sym (ended_is stream c.args.opening limits)
