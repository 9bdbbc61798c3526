use Rattle.std.proofs.Common.{◌≡◌, ◌∙◌, ℕ, refl, ap}
use Rattle.tesla_sender.specs.Made.{Stream, interval_at}
use Rattle.tesla_feed.specs.declared.counts.FeedCounts.{FeedCounts}
use Rattle.tesla_feed.proofs.Kept.{says_refused, says_sent}
use Rattle.tesla_feed.proofs.feeder.Feeder.say.Goals as goal

pub returns-in-Ok-clause-says : goal.returns-in-Ok-clause-says
returns-in-Ok-clause-says g c = λ made stands.
    let a = c.args.self.now in
    let counts = ap (λ (n : ℕ). let it : FeedCounts = record { messages = n; disclosures = a.counts.disclosures; too_long = a.counts.too_long; early = a.counts.early; over = a.counts.over; backward = a.counts.backward; full = a.counts.full; unread = a.counts.unread } in it) c.saturating_add-self.ensures in
    let at : c.interval_at-self.result ≡ interval_at a.sender.stream.setup.times c.args.reading = c.interval_at-self.ensures ∙ ap (λ (s : Stream). interval_at s.setup.times c.args.reading) c.in-Ok.ensures.stream in
    says_sent a.sender.stream a.first a _ made c.args.reading c.args.payload.now c.in-Ok.length a.frame stands c.in-Ok.ensures.returned c.in-Ok.ensures.after refl at at counts

pub returns-in-Err-clause-says : goal.returns-in-Err-clause-says
returns-in-Err-clause-says g c = λ made stands.
    let a = c.args.self.now in
    says_refused a made c.args.reading c.args.payload.now c.in-Err.refusal c.message.new.into c.message.new.self _ stands c.in-Err.ensures.returned c.in-Err.ensures.refused.0 c.refuse.ensures
