use Rattle.std.proofs.Common.{◌≡◌, ◌∙◌, ℕ, suc, Bool, List, [], ◌∷◌, length, take, refl, rules, subst, sym, arith, true}
use Rattle.tesla_relay.specs.Lists.{Each, HaveCome}
use Rattle.tesla_relay.specs.Offers.{AllOffered, Offers}
use Rattle.tesla_relay.proofs.Causes.{cause_since}
use Rattle.tesla_relay.proofs.Heard.{have_come, hears_same}
use Rattle.tesla_relay.proofs.Offering.{all_offered, each_fed, have_offered}
use Rattle.tesla_relay.proofs.Queued.{each_length}
use Rattle.tesla_relay.proofs.HeardSoFar.{heard_more, heard_none, heard_quiet, left_none}
use Rattle.tesla_relay.proofs.hearing.hear.Goals as goal

pub loop-init : goal.loop-init
loop-init g c = record { size = refl; heard = heard_none _ _ _ _ c.requires.feeding.0 c.requires.serving; numbered = (0, c.requires.link.0, c.requires.feeding.1, λ capacity start. start); faults = refl; name = refl }

pub next-requires-in-loop : goal.next-requires-in-loop
next-requires-in-loop g c =
    let so_far = c.loop.invariant.numbered in
    let may = c.requires.next in
    let queues = g.Q.PostQueues in
    let put = queues.was_put g.K.Link.brought in
    let full = queues.was_full g.K.Link.brought in
    let size : length c.loop.feeds ≡ length c.args.feeds.now = each_length _ c.args.feeds.now c.loop.feeds c.loop.invariant.heard.hears.feeds in
    record { permitted = may.2 c.loop.link so_far.0 so_far.1 (subst (λ n. AllOffered put full may.0 n so_far.0) size (all_offered put full may.0 so_far.0 c.loop.feeds (so_far.3 may.0 may.1))) }

pub hand_on-requires-clause-brought : goal.hand_on-requires-clause-brought
hand_on-requires-clause-brought g c κs within =
    let so_far = c.loop.invariant.numbered in
    let brings = c.in-Datagram.ensures.numbered so_far.0 so_far.1 in
    (so_far.0, so_far.2, subst (λ (brought : ℕ → List ℕ → Bool). brought so_far.0 (take c.in-Datagram.length c.next-in-loop.new.into) ≡ true) (sym c.requires.link.1) brings.0)

pub loop-preserved-in-Datagram : goal.loop-preserved-in-Datagram
loop-preserved-in-Datagram g c = record {
  size = search rules;
  heard = heard_more _ (take c.in-Datagram.length c.next-in-loop.new.into) _ _ _ _ _ _ _ _ _ c.loop.invariant.heard c.in-Datagram.ensures.step.left (each_fed _ _ _ c.loop.feeds c.hand_on.new.feeds c.hand_on.ensures.feeds) c.hand_on.ensures.here;
  numbered =
      let so_far = c.loop.invariant.numbered in
      let brings = c.in-Datagram.ensures.numbered so_far.0 so_far.1 in
      let datagram = take c.in-Datagram.length c.next-in-loop.new.into in
      let queues = g.Q.PostQueues in
      let come = have_come so_far.0 (datagram ∷ []) c.loop.feeds c.hand_on.new.feeds (each_fed _ _ datagram c.loop.feeds c.hand_on.new.feeds c.hand_on.ensures.feeds) so_far.2 in
      let offers : Each (Offers (queues.was_put g.K.Link.brought) (queues.was_full g.K.Link.brought) datagram) c.loop.feeds c.hand_on.new.feeds =
      subst (λ (brought : ℕ → List ℕ → Bool). Each (Offers (queues.was_put brought) (queues.was_full brought) datagram) c.loop.feeds c.hand_on.new.feeds) c.requires.link.1 c.hand_on.ensures.feeds in (
        suc so_far.0,
        brings.1,
        subst (λ (n : ℕ). HaveCome n c.hand_on.new.feeds) (omega arith) come,
        λ capacity start. have_offered _ _ capacity so_far.0 datagram c.loop.feeds c.hand_on.new.feeds offers so_far.2 (so_far.3 capacity start),
      );
  faults = c.in-Datagram.ensures.cause.still (λ e. absurd cc) ∙ c.loop.invariant.faults;
  name = c.next-in-loop.ensures.name ∙ c.loop.invariant.name;
}

pub loop-preserved : goal.loop-preserved
loop-preserved g c = record {
  size = search rules;
  heard = heard_quiet _ _ _ _ _ _ _ _ c.loop.invariant.heard c.in-Quiet.ensures.step;
  numbered = let so_far = c.loop.invariant.numbered in (so_far.0, c.in-Quiet.ensures.numbered so_far.0 so_far.1, so_far.2, so_far.3);
  faults = c.in-Quiet.ensures.cause.still (λ e. absurd cc) ∙ c.loop.invariant.faults;
  name = c.next-in-loop.ensures.name ∙ c.loop.invariant.name;
}

pub returns-in-End : goal.returns-in-End
returns-in-End g c = record {
  hears = hears_same _ _ _ _ _ c.loop.invariant.heard.hears c.in-End.ensures.step.left;
  ended = λ e. left_none _ _ c.in-End.ensures.step;
  here = c.loop.invariant.heard.here;
  cause = cause_since _ _ _ c.loop.invariant.faults c.in-End.ensures.cause (λ e. absurd cc) (λ e. absurd cc);
  name = c.next-in-loop.ensures.name ∙ c.loop.invariant.name;
}

pub returns-in-Failed : goal.returns-in-Failed
returns-in-Failed g c = record {
  hears = hears_same _ _ _ _ _ c.loop.invariant.heard.hears c.in-Failed.ensures.step;
  ended = λ e. absurd cc;
  here = c.loop.invariant.heard.here;
  cause = cause_since _ _ _ c.loop.invariant.faults c.in-Failed.ensures.cause (λ e. refl) (λ e. refl);
  name = c.next-in-loop.ensures.name ∙ c.loop.invariant.name;
}
