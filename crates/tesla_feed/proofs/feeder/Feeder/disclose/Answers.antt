use Rattle.std.proofs.Common.{◌≡◌, ◌∙◌, ℕ, false, true, refl, sym, ap}
use Rattle.tesla_sender.specs.Made.{interval_at}
use Rattle.tesla_feed.specs.Steps.{is_due_after}
use Rattle.tesla_feed.specs.declared.counts.FeedCounts.{FeedCounts}
use Rattle.tesla_feed.proofs.Kept.{makes_disclosure, makes_none, never_refused}
use Rattle.tesla_feed.proofs.feeder.Feeder.disclose.Goals as goal

pub returns-then-not-is_due-clause-makes : goal.returns-then-not-is_due-clause-makes
returns-then-not-is_due-clause-makes g c = λ made stands.
    let a = c.args.self.now in
    let due : is_due_after a.sender.stream a.first a.latest (interval_at a.sender.stream.setup.times c.args.reading) ≡ false = ap (is_due_after a.sender.stream a.first a.latest) (sym c.interval_at-interval.ensures) ∙ sym c.is_due.ensures ∙ c.if-not-is_due.true in
    makes_none a.sender.stream a.first a made c.args.reading c.requires.read due stands

pub returns-in_default-clause-makes : goal.returns-in_default-clause-makes
returns-in_default-clause-makes g c = λ made stands.
    let a = c.args.self.now in
    let due : is_due_after a.sender.stream a.first a.latest (interval_at a.sender.stream.setup.times c.args.reading) ≡ true = ap (is_due_after a.sender.stream a.first a.latest) (sym c.interval_at-interval.ensures) ∙ sym c.is_due.ensures ∙ c.if-not-is_due.false in
    absurd (never_refused a.sender.stream a.first a made c.args.reading c.in_default.field-0 a.frame c.disclose.new.into stands due c.in_default.ensures.returned)

pub returns-clause-makes : goal.returns-clause-makes
returns-clause-makes g c = λ made stands.
    let a = c.args.self.now in
    let due : is_due_after a.sender.stream a.first a.latest (interval_at a.sender.stream.setup.times c.args.reading) ≡ true = ap (is_due_after a.sender.stream a.first a.latest) (sym c.interval_at-interval.ensures) ∙ sym c.is_due.ensures ∙ c.if-not-is_due.false in
    let counts = ap (λ (n : ℕ). let it : FeedCounts = record { messages = a.counts.messages; disclosures = n; too_long = a.counts.too_long; early = a.counts.early; over = a.counts.over; backward = a.counts.backward; full = a.counts.full; unread = a.counts.unread } in it) c.saturating_add-self.ensures in
    makes_disclosure a.sender.stream a.first a _ made c.args.reading c.in-Ok.length a.frame c.requires.read due stands c.in-Ok.ensures.returned c.in-Ok.ensures.after refl c.interval_at-interval.ensures refl counts
