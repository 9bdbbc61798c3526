-- A take, told what the epochs came to that were asked.
use Rattle.std.proofs.Common.{◌≡◌, ℕ, suc, ◌+◌, Bool, true, cond, List, [], ◌∷◌, length, map, refl, sym, ap, subst, ◌∙◌, arith}
use Rattle.std.specs.List.{AllByRecursion, list_all}
use Rattle.tesla_base.specs.declared.release.Head.{Head}
use Rattle.tesla_fitting.specs.declared.config.Config.{Config}
use Rattle.tesla_state.specs.declared.replies.Reply.{Reply}
use Rattle.tesla_state.specs.declared.replies.Reply.TheVariants as replies
use Rattle.tesla_rollover.specs.Kept as kept
use Rattle.tesla_rollover.specs.Kept.{AskedReply, asked_from, not_over}
use Rattle.tesla_rollover.specs.Replies.{is_over}
use Rattle.tesla_rollover.proofs.Answered.{empty_some, over_all}
use Rattle.tesla_follow.specs.declared.answers.FollowReply.TheVariants.{Empty, Over}
use Rattle.tesla_follow.specs.declared.answers.FollowTake.{FollowTake}
use Rattle.tesla_follow.specs.Followed.{Accepted, Followed, TakesOne, after_asking, gives_asked, gives_none, gives_released, oldest, open_epochs, replies_in, takes_released}
use Rattle.tesla_follow.specs.Giving.{GivesOr, IsTakenSo}
use Rattle.tesla_follow.specs.Kept.{IsCalled, IsFollowKept, Waits, reply_of, shapes_of}
use Rattle.tesla_follow.specs.Replies.{follow_shown}
use Rattle.tesla_follow.specs.Stands.{EpochState, FollowState, Keeps}
use Rattle.tesla_follow.proofs.Asked.{alike_still, as_many}

-- ---- what the epochs came to

one_more : (n : ℕ) → n + 1 ≡ suc n
one_more n = omega arith

not_over_gives : (x : AskedReply) (epoch : ℕ) (head : Head) (payload : List ℕ) → not_over x ≡ kept.Gives epoch head payload → x ≡ kept.Gives epoch head payload
not_over_gives (kept.Gives e h p) epoch head payload is = is
not_over_gives kept.IsEmpty epoch head payload is = absurd cc
not_over_gives kept.IsOver epoch head payload is = absurd cc

not_over_other : (x : AskedReply) → ((epoch : ℕ) (head : Head) (payload : List ℕ) → not_over x ≡ kept.Gives epoch head payload → ⊥) → (epoch : ℕ) (head : Head) (payload : List ℕ) → x ≡ kept.Gives epoch head payload → ⊥
not_over_other x other epoch head payload is = other epoch head payload (ap not_over is)

-- an epoch gave a packet
pub gives_given : (cfg : Config) (it : Followed) (all : List Reply) (number : ℕ) (rs : List Reply) (epoch : ℕ) (head : Head) (payload : List ℕ) → asked_from number rs ≡ kept.Gives epoch head payload
    → gives_asked cfg it all number rs ≡ gives_released cfg it epoch head payload
gives_given cfg it all number [] epoch head payload is = absurd cc
gives_given cfg it all number (replies.Given h p ∷ rs) epoch head payload is =
    let e : number ≡ epoch = cc in
    let eh : h ≡ head = cc in
    let ep : p ≡ payload = cc in
    ap (λ (k : ℕ). gives_released cfg it k h p) e ∙ ap (λ (x : Head). gives_released cfg it epoch x p) eh ∙ ap (λ (q : List ℕ). gives_released cfg it epoch head q) ep
gives_given cfg it all number (replies.Empty ∷ rs) epoch head payload is =
    gives_given cfg it all (suc number) rs epoch head payload (ap (λ (n : ℕ). asked_from n rs) (sym (one_more number)) ∙ not_over_gives (asked_from (number + 1) rs) epoch head payload is)
gives_given cfg it all number (replies.Over ∷ rs) epoch head payload is =
    gives_given cfg it all (suc number) rs epoch head payload (ap (λ (n : ℕ). asked_from n rs) (sym (one_more number)) ∙ is)

-- none did
pub gives_nothing : (cfg : Config) (it : Followed) (all : List Reply) (number : ℕ) (rs : List Reply) → ((epoch : ℕ) (head : Head) (payload : List ℕ) → asked_from number rs ≡ kept.Gives epoch head payload → ⊥)
    → gives_asked cfg it all number rs ≡ gives_none it all it.queue
gives_nothing cfg it all number [] other = refl
gives_nothing cfg it all number (replies.Given h p ∷ rs) other = absurd (other number h p refl)
gives_nothing cfg it all number (replies.Empty ∷ rs) other =
    gives_nothing cfg it all (suc number) rs
    (λ epoch head payload is. not_over_other (asked_from (number + 1) rs) other epoch head payload (ap (λ (n : ℕ). asked_from n rs) (one_more number) ∙ is))
gives_nothing cfg it all number (replies.Over ∷ rs) other =
    gives_nothing cfg it all (suc number) rs (λ epoch head payload is. other epoch head payload (ap (λ (n : ℕ). asked_from n rs) (one_more number) ∙ is))

-- where none gave a packet, the first message is given that waits
none_taken : (it : Followed) (all : List Reply) (queue : List Accepted) (none answer : FollowTake) (into : List ℕ) (old new : FollowState)
    → follow_shown none into ≡ cond (list_all is_over all) Over Empty → Keeps old it → GivesOr it queue none answer into old new → IsTakenSo (gives_none it all queue) answer into new
none_taken it all [] none answer into old new is k gives =
    (ap (λ (t : FollowTake). follow_shown t into) gives.0 ∙ is, subst (λ (s : FollowState). Keeps s it) (sym gives.1) k)
none_taken it all (first ∷ others) none answer into old new is k gives = gives

module _ (cfg : Config) (it : Followed) (releaser number : ℕ) (reply : AskedReply) (number_is : number ≡ oldest it) (asked : reply ≡ asked_from number (replies_in it)) where
  asked_so : asked_from (oldest it) (replies_in it) ≡ reply
  asked_so = sym (asked ∙ ap (λ (n : ℕ). asked_from n (replies_in it)) number_is)

  pub released_taken : (epoch : ℕ) (head : Head) (payload : List ℕ) → reply ≡ kept.Gives epoch head payload → takes_released cfg it releaser ≡ gives_released cfg (after_asking it releaser) epoch head payload
  released_taken epoch head payload is = gives_given cfg (after_asking it releaser) (replies_in it) (oldest it) (replies_in it) epoch head payload (asked_so ∙ is)

  pub empty_taken : (answer none : FollowTake) (into : List ℕ) (old new : FollowState) → reply ≡ kept.IsEmpty → follow_shown none into ≡ Empty → Keeps old (after_asking it releaser)
      → GivesOr (after_asking it releaser) it.queue none answer into old new → IsTakenSo (takes_released cfg it releaser) answer into new
  empty_taken answer none into old new is shown k gives =
      let some = (empty_some (oldest it) (map reply_of (open_epochs it)) (asked_so ∙ is)).all in
      subst (λ (t : TakesOne). IsTakenSo t answer into new)
      (sym (gives_nothing cfg (after_asking it releaser) (replies_in it) (oldest it) (replies_in it) (λ epoch head payload gave. (let never : kept.IsEmpty ≡ kept.Gives epoch head payload = sym (asked_so ∙ is) ∙ gave in absurd cc))))
      (none_taken (after_asking it releaser) (replies_in it) it.queue none answer into old new (shown ∙ ap (λ (b : Bool). cond b Over Empty) (sym some)) k gives)

  pub over_taken : (answer none : FollowTake) (into : List ℕ) (old new : FollowState) → reply ≡ kept.IsOver → follow_shown none into ≡ Over → Keeps old (after_asking it releaser)
      → GivesOr (after_asking it releaser) it.queue none answer into old new → IsTakenSo (takes_released cfg it releaser) answer into new
  over_taken answer none into old new is shown k gives =
      let all = (over_all (oldest it) (map reply_of (open_epochs it)) (asked_so ∙ is)).all in
      subst (λ (t : TakesOne). IsTakenSo t answer into new)
      (sym (gives_nothing cfg (after_asking it releaser) (replies_in it) (oldest it) (replies_in it) (λ epoch head payload gave. (let never : kept.IsOver ≡ kept.Gives epoch head payload = sym (asked_so ∙ is) ∙ gave in absurd cc))))
      (none_taken (after_asking it releaser) (replies_in it) it.queue none answer into old new (shown ∙ ap (λ (b : Bool). cond b Over Empty) (sym all)) k gives)

-- ---- what is kept

-- once the epochs were asked
pub kept_asked : (cfg : Config) (old new spares : List EpochState) (room now spare_room opened : ℕ) (queue : Waits) (flags : List Bool) (records early unqueued dropped calls : ℕ)
    → IsFollowKept cfg old spares room spare_room opened queue flags records early unqueued dropped calls → now ≡ room → shapes_of new ≡ shapes_of old
    → AllByRecursion (IsCalled calls) new
    → IsFollowKept cfg new spares now spare_room opened queue flags records early unqueued dropped calls
kept_asked cfg old new spares room now spare_room opened queue flags records early unqueued dropped calls k same_room same called =
    let long : length new ≡ length old = as_many new old same in
    let some = k.some in
    let all = k.all in
    let numbered = k.numbered in
    record {
      some = omega (arith, long, some);
      all = omega (arith, long, all);
      numbered = (omega (arith, long, numbered.0), numbered.1);
      rooms = (same_room ∙ k.rooms.0, k.rooms.1);
      alike = alike_still cfg old new same k.alike;
      spare = k.spare;
      called = called;
      places = k.places;
      few_places = k.few_places;
      waiting = k.waiting;
      ingests = k.ingests;
      flags_all = k.flags_all;
      few_ends = k.few_ends;
      few_records = k.few_records;
      few_early = k.few_early;
      few_unqueued = k.few_unqueued;
      few_dropped = k.few_dropped;
      few = k.few;
    }

-- once a packet was given
pub keeps_given : (old : FollowState) (it : Followed) (calls reserved : ℕ) → Keeps old it
    → Keeps (record {
      config = old.config;
      opened = old.opened;
      receiving = old.receiving;
      known = old.known;
      queue = old.queue;
      turn = true;
      ended = old.ended;
      records = old.records + 1;
      early = old.early;
      unqueued = old.unqueued;
      dropped = old.dropped;
      closed = old.closed;
      calls = calls;
      reserved = reserved;
    }) (record it { turn = true; records = suc it.records })
keeps_given old it calls reserved k = record {
  opened = k.opened;
  receiving = k.receiving;
  known = k.known;
  queue = k.queue;
  turn = refl;
  ended = k.ended;
  records = ap (λ (n : ℕ). n + 1) k.records ∙ one_more it.records;
  early = k.early;
  unqueued = k.unqueued;
  dropped = k.dropped;
  closed = k.closed;
}

-- once a call is counted
pub keeps_called : (old : FollowState) (it : Followed) (calls reserved : ℕ) → Keeps old it
    → Keeps (record {
      config = old.config;
      opened = old.opened;
      receiving = old.receiving;
      known = old.known;
      queue = old.queue;
      turn = old.turn;
      ended = old.ended;
      records = old.records;
      early = old.early;
      unqueued = old.unqueued;
      dropped = old.dropped;
      closed = old.closed;
      calls = calls;
      reserved = reserved;
    }) it
keeps_called old it calls reserved k = record {
  opened = k.opened;
  receiving = k.receiving;
  known = k.known;
  queue = k.queue;
  turn = k.turn;
  ended = k.ended;
  records = k.records;
  early = k.early;
  unqueued = k.unqueued;
  dropped = k.dropped;
  closed = k.closed;
}
