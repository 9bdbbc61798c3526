-- A followed history in step with that where every epoch stays open, with an arrival and with an end more.
use Rattle.std.proofs.Common.{◌≡◌, ℕ, zero, suc, ◌+◌, ◌<◌, ◌≤◌, Bool, true, false, ◌||◌, ◌==◌, List, [], ◌∷◌, ◌++◌, length, map, take, drop, set, get_or, refl, sym, ap, ap₂, subst, ◌∙◌, arith}
use Rattle.std.specs.List.{list_any, range_with_len}
use Rattle.std.proofs.Math.Bool.{or-false}
use Rattle.std.proofs.lemmas.List.{get_or-map, length-map}
use Rattle.std.proofs.lemmas.List.Folds.{list_any-append}
use Rattle.std.proofs.lemmas.List.FromFn.{get_or-map-range_with_len}
use Rattle.tesla_commit.specs.Parts.{Parts}
use Rattle.tesla_fitting.specs.declared.config.Config.{Config}
use Rattle.tesla_frame.specs.Reading.{frame_of}
use Rattle.tesla_receiver.specs.Entries.{Arrival, Entry}
use Rattle.tesla_receiver.specs.History.{Event, Arrives, Ends, reply_to}
use Rattle.tesla_receiver.specs.declared.history.Entry.TheVariants.{Arrived, Taken, Ended}
use Rattle.tesla_state.specs.declared.replies.Reply.{Reply}
use Rattle.tesla_rollover.specs.Epochs.{IsRollLegal, arrival_at, epoch_for, epoch_with, roll_entry_of}
use Rattle.tesla_rollover.specs.History.{RollEntry, RollArrived, RollEnded, config_at, config_with, configs_in, epoch_count, has_roll_end, history_at, roll_ends, setup_opened}
use Rattle.tesla_rollover.specs.Kept.{with_takes}
use Rattle.tesla_rollover.specs.Stands.{histories_in}
use Rattle.tesla_rollover.proofs.Entries.{histories_arrived, histories_ended, setups_same}
use Rattle.tesla_rollover.proofs.Legal.{configs_count, entered_legal, epoch_open}
use Rattle.tesla_rollover.proofs.Numbers.{map_map}
use Rattle.tesla_follow.specs.declared.answers.Acceptance.{Acceptance}
use Rattle.tesla_follow.specs.Followed.{Followed, FollowedEpoch, acceptance_in, answer_with, arrival_in, arrived_in, asked_all, changed_at, config_of, ended_in, history_of, no_epoch, oldest, queued_by, unqueued_by}
use Rattle.tesla_follow.specs.History.{FollowEntry, after_event, entry_of}
use Rattle.tesla_follow.specs.Kept.{reply_of}
use Rattle.tesla_follow.proofs.Places.{AreExtended}
use Rattle.tesla_laws.specs.Rolled.{Came, told_followed, told_rolled}

-- ---- the epochs of a follower

-- one that changed and kept its configuration
configs_changed : (p : ℕ) (e d : FollowedEpoch) (es : List FollowedEpoch) → p < length es → e.config ≡ (get_or es p d).config → map config_of (changed_at p e es) ≡ map config_of es
configs_changed p e d [] below same = absurd (omega (arith, below))
configs_changed zero e d (x ∷ es) below same = ap (λ (c : Config). c ∷ map config_of es) same
configs_changed (suc p) e d (x ∷ es) below same = ap (λ (cs : List Config). x.config ∷ cs) (configs_changed p e d es (omega (arith, below)) same)

histories_changed : (p : ℕ) (e : FollowedEpoch) (es : List FollowedEpoch) → p < length es → map history_of (changed_at p e es) ≡ set (map history_of es) p e.history
histories_changed p e [] below = absurd (omega (arith, below))
histories_changed zero e (x ∷ es) below = refl
histories_changed (suc p) e (x ∷ es) below = ap (λ (hs : List (List Entry)). x.history ∷ hs) (histories_changed p e es (omega (arith, below)))

pub configs_asked : (releaser : ℕ) (rs : List Reply) (es : List FollowedEpoch) → map config_of (asked_all releaser rs es) ≡ map config_of es
configs_asked releaser [] es = refl
configs_asked releaser (r ∷ rs) [] = refl
configs_asked releaser (r ∷ rs) (e ∷ es) = ap (λ (cs : List Config). e.config ∷ cs) (configs_asked releaser rs es)

pub histories_asked : (releaser : ℕ) (rs : List Reply) (es : List FollowedEpoch) → map history_of (asked_all releaser rs es) ≡ with_takes releaser rs (map history_of es)
histories_asked releaser [] es = refl
histories_asked releaser (r ∷ rs) [] = refl
histories_asked releaser (r ∷ rs) (e ∷ es) = ap (λ (hs : List (List Entry)). (e.history ++ Taken releaser r ∷ []) ∷ hs) (histories_asked releaser rs es)

-- their answers, told their configurations and histories
pub replies_from : (es : List FollowedEpoch) (g : ℕ → Config) (f : ℕ → List Entry) (a n : ℕ) → map config_of es ≡ map g (range_with_len a n) → map history_of es ≡ map f (range_with_len a n)
    → map reply_of es ≡ map (λ k. reply_to (g k) (f k)) (range_with_len a n)
replies_from [] g f a zero same alike = refl
replies_from [] g f a (suc n) same alike = absurd cc
replies_from (e ∷ es) g f a zero same alike = absurd cc
replies_from (e ∷ es) g f a (suc n) same alike =
    let config : e.config ≡ g a = cc in
    let history : e.history ≡ f a = cc in
    let configs : map config_of es ≡ map g (range_with_len (a + 1) n) = cc in
    let histories : map history_of es ≡ map f (range_with_len (a + 1) n) = cc in
    ap₂ (λ (c : Config) (h : List Entry). reply_to c h ∷ map reply_of es) config history
    ∙ ap (λ (rs : List Reply). reply_to (g a) (f a) ∷ rs) (replies_from es g f (a + 1) n configs histories)

-- a test of the configurations
pub any_config : (test : Config → Bool) (es : List FollowedEpoch) → list_any (λ (e : FollowedEpoch). test e.config) es ≡ list_any test (map config_of es)
any_config test [] = refl
any_config test (e ∷ es) = ap (λ (b : Bool). test e.config || b) (any_config test es)

pub count_grows : (es fs : List FollowedEpoch) → AreExtended es fs → length es ≤ length fs
count_grows [] fs grows = omega arith
count_grows (e ∷ es) [] grows = absurd grows
count_grows (e ∷ es) (f ∷ fs) grows = let rest = count_grows es fs grows.1 in omega (arith, rest)

-- ---- the epochs that stay open

pub configs_same : (cfg : Config) (r : List RollEntry) (e : RollEntry) → setup_opened e ≡ [] → configs_in cfg (r ++ e ∷ []) ≡ configs_in cfg r
configs_same cfg r e none = ap (λ (ps : List Parts). cfg ∷ map (config_with cfg) ps) (setups_same r e none)

pub ends_kept : (r : List RollEntry) (e : RollEntry) (ingest : ℕ) → roll_ends ingest e ≡ false → has_roll_end (r ++ e ∷ []) ingest ≡ has_roll_end r ingest
ends_kept r e ingest none =
    list_any-append (roll_ends ingest) r (e ∷ [])
    ∙ ap (λ (b : Bool). has_roll_end r ingest || (b || false)) none
    ∙ or-false (has_roll_end r ingest)

-- ---- both

-- what was made of a followed history is that of the history where every epoch stays open
pub record Alike (cfg : Config) (it : Followed) (r : List RollEntry) : Type 0 where
  pub configs : map config_of it.epochs ≡ configs_in cfg r
  pub histories : map history_of it.epochs ≡ histories_in cfg.ingests r
  pub ends : (ingest : ℕ) → list_any (λ (other : ℕ). other == ingest) it.ended ≡ has_roll_end r ingest
  pub turn : it.turn ≡ true
  pub legal : IsRollLegal cfg r

-- an event has the same answer in both, and what it made is alike
pub record Steps (cfg : Config) (r : List RollEntry) (made : Followed) (entry : FollowEntry) (event : Event) : Type 0 where
  pub told : told_followed entry ≡ told_rolled (roll_entry_of cfg r true event)
  pub alike : Alike cfg made (r ++ roll_entry_of cfg r true event ∷ [])

pub count_alike : (cfg : Config) (it : Followed) (r : List RollEntry) → Alike cfg it r → length it.epochs ≡ epoch_count r
count_alike cfg it r al = sym (length-map it.epochs config_of) ∙ ap length al.configs ∙ configs_count cfg r

-- ---- an arrival

module _ (cfg : Config) (it : Followed) (r : List RollEntry) (al : Alike cfg it r) (ingest reading : ℕ) (bytes : List ℕ) where
  -- what it makes, and its entry, where the oldest epoch that is open has this number
  abbrev place : ℕ → ℕ
  place n = epoch_with (map config_of (drop n it.epochs)) (frame_of bytes)

  abbrev came_to : ℕ → FollowedEpoch
  came_to n = get_or (drop n it.epochs) (place n) (no_epoch cfg)

  abbrev arrival : ℕ → Arrival
  arrival n = arrival_in (came_to n) ingest reading bytes

  abbrev acceptance : ℕ → Acceptance
  acceptance n = acceptance_in cfg it (came_to n) (arrival n)

  abbrev arrived_made : ℕ → Followed
  arrived_made n = record it {
    epochs = take n it.epochs ++ changed_at (place n) (arrived_in (came_to n) (acceptance n) (arrival n)) (drop n it.epochs);
    queue = it.queue ++ queued_by (n + place n) (acceptance n) (arrival n);
    unqueued = it.unqueued + unqueued_by (acceptance n);
  }

  abbrev arrived_entry : ℕ → FollowEntry
  arrived_entry n = Arrived (record { ingest = ingest; reading = reading; bytes = bytes; verdict = answer_with (n + place n) (acceptance n) (arrival n) })

  abbrev own : ℕ
  own = epoch_for cfg r bytes

  abbrev rolled_arrival : Arrival
  rolled_arrival = arrival_at (config_at cfg r own) (history_at cfg.ingests r own) ingest reading bytes

  place_is : place 0 ≡ own
  place_is = ap (λ (cs : List Config). epoch_with cs (frame_of bytes)) al.configs

  own_below : own < epoch_count r
  own_below = epoch_open cfg r bytes

  place_below : place 0 < length it.epochs
  place_below = let count = count_alike cfg it r al in let below = own_below in let same = place_is in omega (arith, count, below, same)

  config_is : (came_to 0).config ≡ config_at cfg r own
  config_is =
      sym (get_or-map config_of it.epochs (place 0) (no_epoch cfg) cfg place_below)
      ∙ ap (λ (cs : List Config). get_or cs (place 0) cfg) al.configs
      ∙ ap (λ (k : ℕ). get_or (configs_in cfg r) k cfg) place_is

  history_is : (came_to 0).history ≡ history_at cfg.ingests r own
  history_is =
      let count = count_alike cfg it r al in
      let below = place_below in
      sym (get_or-map history_of it.epochs (place 0) (no_epoch cfg) [] below)
      ∙ ap (λ (hs : List (List Entry)). get_or hs (place 0) []) al.histories
      ∙ get_or-map-range_with_len (history_at cfg.ingests r) 0 (epoch_count r) (place 0) own [] (omega (arith, count, below)) (let same = place_is in omega (arith, same))

  arrival_is : arrival 0 ≡ rolled_arrival
  arrival_is = ap₂ (λ (c : Config) (h : List Entry). arrival_at c h ingest reading bytes) config_is history_is

  arrives_first : Steps cfg r (arrived_made 0) (arrived_entry 0) (Arrives ingest reading bytes)
  arrives_first =
      let entry : RollEntry = RollArrived own rolled_arrival in
      let plain : 0 + place 0 ≡ own = (let same = place_is in omega (arith, same)) in
      let arrived : FollowedEpoch = arrived_in (came_to 0) (acceptance 0) (arrival 0) in
      record {
        told = ap₂ (λ (k : ℕ) (a : Arrival). Came k a) plain arrival_is;
        alike = record {
          configs = configs_changed (place 0) arrived (no_epoch cfg) it.epochs place_below refl ∙ al.configs ∙ sym (configs_same cfg r entry refl);
          histories = histories_changed (place 0) arrived it.epochs place_below
              ∙ ap₂ (λ (k : ℕ) (hs : List (List Entry)). set hs k arrived.history) place_is al.histories
              ∙ ap₂ (λ (h : List Entry) (a : Arrival). set (histories_in cfg.ingests r) own (h ++ Arrived a ∷ [])) history_is arrival_is
              ∙ sym (histories_arrived cfg.ingests r own rolled_arrival);
          ends = λ ingest. al.ends ingest ∙ sym (ends_kept r entry ingest refl);
          turn = al.turn;
          legal = entered_legal cfg r true (Arrives ingest reading bytes) al.legal;
        };
      }

  pub arrives : 0 ≡ oldest it → Steps cfg r (after_event cfg it (Arrives ingest reading bytes)) (entry_of cfg it (Arrives ingest reading bytes)) (Arrives ingest reading bytes)
  arrives first = subst (λ (n : ℕ). Steps cfg r (arrived_made n) (arrived_entry n) (Arrives ingest reading bytes)) first arrives_first

-- ---- an end

module _ (cfg : Config) (it : Followed) (r : List RollEntry) (al : Alike cfg it r) (ingest : ℕ) where
  abbrev ended_made : ℕ → Followed
  ended_made n = record it { epochs = take n it.epochs ++ map (ended_in ingest) (drop n it.epochs); ended = it.ended ++ ingest ∷ [] }

  ends_first : Steps cfg r (ended_made 0) (Ended ingest) (Ends ingest)
  ends_first = record {
    told = refl;
    alike = record {
      configs = map_map config_of (ended_in ingest) it.epochs ∙ al.configs ∙ sym (configs_same cfg r (RollEnded ingest) refl);
      histories = map_map history_of (ended_in ingest) it.epochs
          ∙ sym (map_map (λ (h : List Entry). h ++ Ended ingest ∷ []) history_of it.epochs)
          ∙ ap (map (λ (h : List Entry). h ++ Ended ingest ∷ [])) al.histories
          ∙ sym (histories_ended cfg.ingests r ingest);
      ends = λ one. list_any-append (λ (other : ℕ). other == one) it.ended (ingest ∷ [])
          ∙ ap (λ (b : Bool). b || ((ingest == one) || false)) (al.ends one)
          ∙ sym (list_any-append (roll_ends one) r (RollEnded ingest ∷ []));
      turn = al.turn;
      legal = entered_legal cfg r true (Ends ingest) al.legal;
    };
  }

  pub ends_one : 0 ≡ oldest it → Steps cfg r (after_event cfg it (Ends ingest)) (Ended ingest) (Ends ingest)
  ends_one first = subst (λ (n : ℕ). Steps cfg r (ended_made n) (Ended ingest) (Ends ingest)) first ends_first
