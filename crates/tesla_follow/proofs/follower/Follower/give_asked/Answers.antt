use Rattle.std.proofs.Common.{◌≡◌, ℕ, ◌+◌, ◌-◌, refl, take, sym, ap, subst, ◌∙◌, arith}
use Rattle.std.specs.List.{AllByRecursion}
use Rattle.tesla_fitting.specs.declared.config.Config.{Config}
use Rattle.tesla_rollover.specs.Kept.{Gives, asked_from}
use Rattle.tesla_follow.specs.declared.asking.Asked.{Asked}
use Rattle.tesla_follow.specs.declared.answers.FollowTake.TheVariants as takes
use Rattle.tesla_follow.specs.Followed.{Followed, TakesOne, after_asking, oldest, open_epochs, replies_in, takes_released}
use Rattle.tesla_follow.specs.Giving.{IsEarlier, IsTakenSo}
use Rattle.tesla_follow.specs.Kept.{IsCalled, IsFollowKept, asked_shown, reserved_in, rooms_of}
use Rattle.tesla_follow.specs.Stands.{FollowState, Keeps}
use Rattle.tesla_follow.proofs.Arrived.{oldest_is}
use Rattle.tesla_follow.proofs.Asked.{same_rooms}
use Rattle.tesla_follow.proofs.Moved.{keeps_asked}
use Rattle.tesla_follow.proofs.Taken.{empty_taken, kept_asked, over_taken, released_taken}
use Rattle.tesla_follow.proofs.follower.Follower.give_asked.Goals.{After-ask_open}
use Rattle.tesla_follow.proofs.follower.Follower.give_asked.Goals as goal

abbrev before : (c : After-ask_open) → FollowState
before c =
    let i = c.self.inside in
    record {
      config = i.config;
      opened = i.opened;
      receiving = i.epochs.items;
      known = i.known;
      queue = i.queue.waiting;
      turn = i.turn;
      ended = i.ended.items;
      records = i.records;
      early = i.early;
      unqueued = i.unqueued;
      dropped = i.dropped;
      closed = i.closed;
      calls = i.calls;
      reserved = reserved_in i.epochs.items i.spares.items (i.epochs.cap + i.spares.cap) i.queue.capacity i.ended.cap;
    }

earlier : (c : After-ask_open) → IsEarlier (before c)
earlier c = subst (λ (s : FollowState). IsEarlier s) (sym c.self.view_is) c.requires

pub ask_open-requires-clause-calls : goal.ask_open-requires-clause-calls
ask_open-requires-clause-calls c =
    let few = c.self.invariant.few in
    (c.self.inside.calls - 1, omega (arith, few), (subst (λ (s : FollowState). IsEarlier s) (sym c.self.view_is) c.requires).called)

-- ---- what is kept

module _ (c : After-ask_open) where
  own : IsEarlier (before c)
  own = earlier c

  pub kept_now : IsFollowKept c.self.inside.config c.ask_open.new.epochs.items c.self.inside.spares.items c.ask_open.new.epochs.cap c.self.inside.spares.cap c.self.inside.opened c.self.inside.queue c.self.inside.ended.items
      c.self.inside.records c.self.inside.early c.self.inside.unqueued c.self.inside.dropped c.self.inside.calls
  kept_now =
      let i = c.self.inside in
      kept_asked i.config i.epochs.items c.ask_open.new.epochs.items i.spares.items i.epochs.cap c.ask_open.new.epochs.cap i.spares.cap i.opened i.queue i.ended.items i.records i.early i.unqueued i.dropped i.calls
      c.self.invariant c.ask_open.ensures.capacity c.ask_open.ensures.shapes
      (subst (λ (n : ℕ). AllByRecursion (IsCalled n) c.ask_open.new.epochs.items) (let records = own.records in omega (arith, records)) (c.ask_open.ensures.calls (i.calls - 1) own.called))

  pub reserved_same : reserved_in c.ask_open.new.epochs.items c.self.inside.spares.items (c.ask_open.new.epochs.cap + c.self.inside.spares.cap) c.self.inside.queue.capacity c.self.inside.ended.cap ≡ c.args.self.now.reserved
  reserved_same =
      let i = c.self.inside in
      ap (λ n. n + rooms_of i.spares.items + (c.ask_open.new.epochs.cap + i.spares.cap) + i.queue.capacity + 64 + i.ended.cap) (same_rooms c.ask_open.new.epochs.items i.epochs.items c.ask_open.ensures.shapes)
      ∙ ap (λ n. rooms_of i.epochs.items + rooms_of i.spares.items + (n + i.spares.cap) + i.queue.capacity + 64 + i.ended.cap) c.ask_open.ensures.capacity
      ∙ ap (λ (s : FollowState). s.reserved) c.self.view_is

  abbrev mid : FollowState
  mid =
      let i = c.self.inside in
      record {
        config = i.config;
        opened = i.opened;
        receiving = c.ask_open.new.epochs.items;
        known = i.known;
        queue = i.queue.waiting;
        turn = i.turn;
        ended = i.ended.items;
        records = i.records;
        early = i.early;
        unqueued = i.unqueued;
        dropped = i.dropped;
        closed = i.closed;
        calls = i.calls;
        reserved = reserved_in c.ask_open.new.epochs.items i.spares.items (c.ask_open.new.epochs.cap + i.spares.cap) i.queue.capacity i.ended.cap;
      }

  -- what is known of the epochs that were asked
  pub record Asks (it : Followed) : Type 0 where
    pub keeps : Keeps mid (after_asking it c.args.releaser)
    pub number : c.self.inside.opened - c.len.result ≡ oldest it
    pub answer : asked_shown c.ask_open.result c.ask_open.new.into ≡ asked_from (c.self.inside.opened - c.len.result) (replies_in it)

  pub asks : (it : Followed) → Keeps c.args.self.now it → Asks it
  asks it k =
      let was : Keeps (before c) it = subst (λ (s : FollowState). Keeps s it) (sym c.self.view_is) k in
      record {
        keeps = keeps_asked (before c) it c.args.releaser c.ask_open.new.epochs.items c.self.inside.calls mid.reserved was (c.ask_open.ensures.stand (open_epochs it) was.receiving);
        number = oldest_is (before c) it c.len.result was (omega (arith, c.len.ensures));
        answer = c.ask_open.ensures.answer (open_epochs it) was.receiving;
      }

pub invariant_of-self : goal.invariant_of-self
invariant_of-self c = kept_now (goal.at.invariant_of-self c).After-ask_open

pub invariant_of-self-in-Empty : goal.invariant_of-self-in-Empty
invariant_of-self-in-Empty c = kept_now (goal.at.invariant_of-self-in-Empty c).After-ask_open

pub invariant_of-self-in-Over : goal.invariant_of-self-in-Over
invariant_of-self-in-Over c = kept_now (goal.at.invariant_of-self-in-Over c).After-ask_open

-- ---- memory

pub returns-in-Given-clause-reserved : goal.returns-in-Given-clause-reserved
returns-in-Given-clause-reserved c = c.give_released.ensures.reserved ∙ reserved_same (goal.at.returns-in-Given-clause-reserved c).After-ask_open

pub returns-in-Empty-clause-reserved : goal.returns-in-Empty-clause-reserved
returns-in-Empty-clause-reserved c = c.give_or.ensures.reserved ∙ reserved_same (goal.at.returns-in-Empty-clause-reserved c).After-ask_open

pub returns-in-Over-clause-reserved : goal.returns-in-Over-clause-reserved
returns-in-Over-clause-reserved c = c.give_or-in-Over.ensures.reserved ∙ reserved_same (goal.at.returns-in-Over-clause-reserved c).After-ask_open

-- ---- answers

pub returns-in-Given-clause-takes : goal.returns-in-Given-clause-takes
returns-in-Given-clause-takes c it k =
    let at = (goal.at.returns-in-Given-clause-takes c).After-ask_open in
    let i = c.self.inside in
    let a = asks at it k in
    let into = c.ask_open.new.into in
    let head = c.in-Given.head in
    let gave : asked_shown c.ask_open.result into ≡ Gives c.in-Given.epoch head (take head.length into) = ap (λ (x : Asked). asked_shown x into) c.in-Given.is in
    subst (λ (cfg : Config). IsTakenSo (takes_released cfg it c.args.releaser) c.give_released.result into c.give_released.new.self) (ap (λ (s : FollowState). s.config) c.self.view_is)
    (subst (λ (t : TakesOne). IsTakenSo t c.give_released.result into c.give_released.new.self)
    (sym (released_taken i.config it c.args.releaser (i.opened - c.len.result) (asked_shown c.ask_open.result into) a.number a.answer c.in-Given.epoch head (take head.length into) gave))
    (c.give_released.ensures.takes (after_asking it c.args.releaser) a.keeps))

pub returns-in-Given-clause-behind : goal.returns-in-Given-clause-behind
returns-in-Given-clause-behind c = c.give_released.ensures.behind c.args.into.now c.in-Given.ensures.behind.1

pub returns-in-Empty-clause-takes : goal.returns-in-Empty-clause-takes
returns-in-Empty-clause-takes c it k =
    let at = (goal.at.returns-in-Empty-clause-takes c).After-ask_open in
    let i = c.self.inside in
    let a = asks at it k in
    let into = c.ask_open.new.into in
    subst (λ (cfg : Config). IsTakenSo (takes_released cfg it c.args.releaser) c.give_or.result c.give_or.new.into c.give_or.new.self) (ap (λ (s : FollowState). s.config) c.self.view_is)
    (empty_taken i.config it c.args.releaser (i.opened - c.len.result) (asked_shown c.ask_open.result into) a.number a.answer c.give_or.result takes.Empty c.give_or.new.into (mid at) c.give_or.new.self
    (ap (λ (x : Asked). asked_shown x into) c.in-Empty.is) refl a.keeps (c.give_or.ensures.gives (after_asking it c.args.releaser) a.keeps))

pub returns-in-Over-clause-takes : goal.returns-in-Over-clause-takes
returns-in-Over-clause-takes c it k =
    let at = (goal.at.returns-in-Over-clause-takes c).After-ask_open in
    let i = c.self.inside in
    let a = asks at it k in
    let into = c.ask_open.new.into in
    subst (λ (cfg : Config). IsTakenSo (takes_released cfg it c.args.releaser) c.give_or-in-Over.result c.give_or-in-Over.new.into c.give_or-in-Over.new.self) (ap (λ (s : FollowState). s.config) c.self.view_is)
    (over_taken i.config it c.args.releaser (i.opened - c.len.result) (asked_shown c.ask_open.result into) a.number a.answer c.give_or-in-Over.result takes.Over c.give_or-in-Over.new.into (mid at) c.give_or-in-Over.new.self
    (ap (λ (x : Asked). asked_shown x into) c.in-Over.is) refl a.keeps (c.give_or-in-Over.ensures.gives (after_asking it c.args.releaser) a.keeps))
