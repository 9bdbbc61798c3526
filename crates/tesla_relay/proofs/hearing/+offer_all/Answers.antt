use Rattle.std.proofs.Common.{rules, ◌≡◌, ◌∷◌, ◌-◌, ◌^◌, ℕ, List, take, subst, sym, arith, true}
use Rattle.tesla_relay.specs.Lists.{AreFeeding, Each, HaveCome}
use Rattle.tesla_relay.specs.Offers.{Offers}
use Rattle.tesla_relay.specs.declared.feed.Feed.{Feed}
use Rattle.tesla_relay.proofs.hearing.+offer_all.Goals as goal

pub offer-requires-clause-feeding : goal.offer-requires-clause-feeding
offer-requires-clause-feeding g t c =
    let parts : c.args.feeds.now ≡ c.in-Some.feed.now ∷ c.in-Some.others.now = c.in-Some.ensures.cases.0 in
    (subst AreFeeding parts c.requires.feeding).0

pub offer-requires-clause-brought : goal.offer-requires-clause-brought
offer-requires-clause-brought g t c = λ few.
    let parts : c.args.feeds.now ≡ c.in-Some.feed.now ∷ c.in-Some.others.now = c.in-Some.ensures.cases.0 in
    let brought = c.requires.brought in
    let come = subst (HaveCome brought.0) parts brought.1 in
    subst (λ (n : ℕ). g.X.Based.basis.brought n (take c.args.length c.args.bytes.now) ≡ true) (omega (arith, come.0, few)) brought.2

pub offer_all-requires : goal.offer_all-requires
offer_all-requires g t c κs within =
    let parts : c.args.feeds.now ≡ c.in-Some.feed.now ∷ c.in-Some.others.now = c.in-Some.ensures.cases.0 in
    let brought = c.requires.brought in
    (search rules, (search rules, (search rules, (search rules, ((subst AreFeeding parts c.requires.feeding).1, (brought.0, (subst (HaveCome brought.0) parts brought.1).1, brought.2))))))

pub returns : goal.returns
returns g t c =
    let parts : c.args.feeds.now ≡ c.in-Some.feed.now ∷ c.in-Some.others.now = c.in-Some.ensures.cases.0 in
    let queues = g.Q.PostQueues in let brought = g.X.Based.basis.brought in
    subst (λ (feeds : List (Feed g.row.X.Denot)). Each (Offers (queues.was_put brought) (queues.was_full brought) (take c.args.length c.args.bytes.now)) feeds (c.offer.new.self ∷ c.offer_all.new.feeds)) (sym parts) (c.offer.ensures, c.offer_all.ensures)
