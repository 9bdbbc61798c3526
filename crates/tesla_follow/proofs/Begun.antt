-- A follower to which nothing has happened.
use Rattle.std.proofs.Common.{◌≡◌, ℕ, zero, suc, ◌+◌, ◌<◌, ◌≤◌, ◌==◌, Bool, true, false, cond, List, [], ◌∷◌, length, map, replicate, refl, sym, ap, subst, ◌∙◌, arith}
use Rattle.std.specs.List.{AllByRecursion, list_any, range_with_len}
use Rattle.std.proofs.lemmas.List.{length-replicate}
use Rattle.std.proofs.lemmas.List.Sums.{sum_by-cons}
use Rattle.tesla_fitting.specs.declared.config.Config.{Config}
use Rattle.tesla_rollover.specs.History.{config_with}
use Rattle.tesla_follow.specs.Counted.{no_report}
use Rattle.tesla_follow.specs.Followed.{Followed, no_epoch}
use Rattle.tesla_follow.specs.Kept.{IsAlike, IsCalled, IsFollowKept, IsNew, Waits, set_count}
use Rattle.tesla_follow.specs.Stands.{EpochState, EpochsStand, FollowStands, FollowState, Keeps}
use Rattle.tesla_follow.proofs.Histories.{followed_none}

no_flags : (a n : ℕ) → replicate n false ≡ map (λ (ingest : ℕ). list_any (λ (other : ℕ). other == ingest) []) (range_with_len a n)
no_flags a zero = refl
no_flags a (suc n) = ap (λ (fs : List Bool). false ∷ fs) (no_flags (a + 1) n)

none_set : (n : ℕ) → set_count (replicate n false) ≡ 0
none_set zero = refl
none_set (suc n) =
    let more = sum_by-cons (λ (b : Bool). cond b 1 0) false (replicate n false) in
    let rest = none_set n in
    omega (arith, more, rest)

-- the one epoch stands for the empty history
one_stands : (cfg : Config) (states : List EpochState) → length states ≡ 1 → AllByRecursion (IsNew cfg) states → EpochsStand states (no_epoch cfg ∷ [])
one_stands cfg [] one new = absurd (omega (arith, one))
one_stands cfg (s ∷ []) one new = (new.0.1, tt)
one_stands cfg (s ∷ t ∷ states) one new = absurd (omega (arith, one))

pub stands_none : (cfg : Config) (states : List EpochState) (flags : List Bool) (reserved : ℕ) → length states ≡ 1 → AllByRecursion (IsNew cfg) states → flags ≡ replicate cfg.ingests false
    → FollowStands (record {
      config = cfg;
      opened = 1;
      receiving = states;
      known = [];
      queue = [];
      turn = true;
      ended = flags;
      records = 0;
      early = 0;
      unqueued = 0;
      dropped = 0;
      closed = no_report;
      calls = 0;
      reserved = reserved;
    }) []
stands_none cfg states flags reserved one new is =
    let state : FollowState = record {
      config = cfg;
      opened = 1;
      receiving = states;
      known = [];
      queue = [];
      turn = true;
      ended = flags;
      records = 0;
      early = 0;
      unqueued = 0;
      dropped = 0;
      closed = no_report;
      calls = 0;
      reserved = reserved;
    } in
    record {
      legal = tt;
      keeps = subst (λ (it : Followed). Keeps state it) (sym (followed_none cfg)) (record {
        opened = refl;
        receiving = one_stands cfg states one new;
        known = refl;
        queue = refl;
        turn = refl;
        ended = is ∙ no_flags 0 cfg.ingests;
        records = refl;
        early = refl;
        unqueued = refl;
        dropped = refl;
        closed = refl;
      });
      calls = refl;
    }

new_alike : (cfg : Config) (states : List EpochState) → AllByRecursion (IsNew cfg) states → AllByRecursion (IsAlike cfg) states
new_alike cfg [] new = tt
new_alike cfg (s ∷ states) new =
    ((new.0.0 ∙ ap (λ (c : Config). config_with cfg c.setup) (sym new.0.0), new.0.1.most), new_alike cfg states new.1)

new_called : (cfg : Config) (most : ℕ) (states : List EpochState) → AllByRecursion (IsNew cfg) states → AllByRecursion (IsCalled most) states
new_called cfg most [] new = tt
new_called cfg most (s ∷ states) new = (let none = new.0.1.receiver.calls in omega (arith, none), new_called cfg most states new.1)

pub kept_none : (cfg : Config) (states spares : List EpochState) (room spare_room : ℕ) (queue : Waits) (flags : List Bool) → length states ≡ 1 → length spares ≡ 2 → AllByRecursion (IsNew cfg) states → AllByRecursion (IsNew cfg) spares
    → room ≡ 3 → spare_room ≡ 3 → queue.capacity ≡ cfg.capacity → queue.waiting ≡ [] → cfg.capacity ≤ 4096 → cfg.ingests < 256 → flags ≡ replicate cfg.ingests false
    → IsFollowKept cfg states spares room spare_room 1 queue flags 0 0 0 0 0
kept_none cfg states spares room spare_room queue flags one two new spare room_is spare_is places none few ingests are = record {
  some = omega (arith, one);
  all = omega (arith, one, two);
  numbered = (omega (arith, one), omega arith);
  rooms = (room_is, spare_is);
  alike = new_alike cfg states new;
  spare = new_alike cfg spares spare;
  called = new_called cfg 0 states new;
  places = places;
  few_places = few;
  waiting = let size = ap length none in omega (arith, size);
  ingests = ingests;
  flags_all = ap length are ∙ length-replicate cfg.ingests false;
  few_ends = let count = ap set_count are ∙ none_set cfg.ingests in omega (arith, count);
  few_records = omega arith;
  few_early = omega arith;
  few_unqueued = omega arith;
  few_dropped = omega arith;
  few = omega arith;
}
