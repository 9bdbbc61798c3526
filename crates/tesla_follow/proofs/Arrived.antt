-- An arrival, told what its epoch came to.
use Rattle.std.proofs.Common.{◌≡◌, ℕ, ◌+◌, ◌-◌, ◌<◌, ◌≤◌, Bool, true, false, cond, List, ◌++◌, length, map, get_or, set, Option, None, refl, sym, ap, subst, ◌∙◌, arith}
use Rattle.std.proofs.lemmas.List.{length-drop}
use Rattle.tesla_early.specs.Early.{Message, is_early, is_promised, learnt, may_be_early, message_of}
use Rattle.tesla_early.specs.Learnt.{Learnt}
use Rattle.tesla_fitting.specs.declared.config.Config.{Config}
use Rattle.tesla_fitting.specs.declared.verdict.Verdict.{Verdict}
use Rattle.tesla_frame.specs.Frame.{Frame}
use Rattle.tesla_frame.specs.Reading.{frame_of}
use Rattle.tesla_receiver.specs.Costs.{most_evaluations}
use Rattle.tesla_receiver.specs.Entries.{Arrival}
use Rattle.tesla_receiver.specs.History.{Arrives, arrivals_in}
use Rattle.tesla_receiver.specs.declared.history.Entry.TheVariants.{Arrived}
use Rattle.tesla_rollover.specs.Epochs.{epoch_with}
use Rattle.tesla_follow.specs.declared.answers.Acceptance.{Acceptance}
use Rattle.tesla_follow.specs.declared.answers.Acceptance.TheVariants.{Unpromised, Queued, Unqueued}
use Rattle.tesla_follow.specs.Followed.{Accepted, Followed, FollowedEpoch, acceptance_in, acceptance_with, after_arrival, answer_with, arrival_in, arrived_in, config_of, has_room, most_promises, no_epoch, oldest, open_epochs, place_for, queued_by, queued_of, unqueued_by}
use Rattle.tesla_follow.specs.History.{FollowEntry, after_event, entry_of, epoch_at}
use Rattle.tesla_follow.specs.Kept.{configs_of, waits_by}
use Rattle.tesla_follow.specs.Stands.{EpochStands, EpochState, FollowState, Keeps}
use Rattle.tesla_follow.proofs.Moved.{keeps_arrived, stand_configs, stand_count, stand_got}

-- ---- what waits

promised_candidate : (early : Bool) (most : ℕ) (ls : List Learnt) (message : Option Message) → is_promised most ls (cond early message None) ≡ true → cond early message None ≡ message
promised_candidate true most ls message is = refl
promised_candidate false most ls message is = absurd (cc)

pub queued_promised : (promised room : Bool) → Queued ≡ acceptance_with promised room → promised ≡ true
queued_promised true room is = refl
queued_promised false room is = absurd (cc)

-- what waits is the message of the arrival
pub waits_are : (number : ℕ) (acceptance : Acceptance) (room : Bool) (e : FollowedEpoch) (arrival : Arrival) → acceptance ≡ acceptance_with (is_early most_promises e.teaching arrival) room
    → waits_by number acceptance (message_of arrival.bytes) ≡ queued_by number acceptance arrival
waits_are number Unpromised room e arrival is = refl
waits_are number Queued room e arrival is =
    ap (queued_of number) (sym (promised_candidate (may_be_early arrival.verdict) most_promises (learnt most_promises e.teaching) (message_of arrival.bytes)
    (queued_promised (is_early most_promises e.teaching arrival) room is)))
waits_are number Unqueued room e arrival is = refl

-- ---- the epoch

-- what is so of an arrival in the epoch at a place: the epoch before and after it, its verdict, and what became of its message
pub record ArrivesAt (old : FollowState) (it : Followed) (ingest reading : ℕ) (bytes : List ℕ) (place : ℕ) (room : Bool) (verdict : Verdict) (acceptance : Acceptance) (before after : EpochState) : Type 0 where
  pub place_is : place ≡ place_for it bytes
  pub below : place < length old.receiving
  pub was : get_or old.receiving place before ≡ before
  pub room_is : room ≡ has_room old.config it
  pub answer : (e : FollowedEpoch) → EpochStands before e → record { ingest = ingest; reading = reading; bytes = bytes; verdict = verdict } ≡ arrival_in e ingest reading bytes
  pub accepts : (e : FollowedEpoch) → EpochStands before e → acceptance ≡ acceptance_with (is_early most_promises e.teaching (arrival_in e ingest reading bytes)) room
  pub stands : (e : FollowedEpoch) → EpochStands before e → EpochStands after (arrived_in e acceptance (arrival_in e ingest reading bytes))

-- the place that is found is that of the epoch
pub place_found : (old : FollowState) (it : Followed) (bytes : List ℕ) (states : List EpochState) (read : Option Frame) (place : ℕ) → Keeps old it → states ≡ old.receiving → read ≡ frame_of bytes → place ≡ epoch_with (configs_of states) read → place ≡ place_for it bytes
place_found old it bytes states read place k same is found =
    found ∙ ap (λ (ss : List EpochState). epoch_with (configs_of ss) read) same ∙ ap (λ (cs : List Config). epoch_with cs read) (stand_configs old.receiving (open_epochs it) k.receiving)
    ∙ ap (epoch_with (map config_of (open_epochs it))) is

-- the number of the oldest epoch that is open
pub oldest_is : (old : FollowState) (it : Followed) (count : ℕ) → Keeps old it → count ≡ length old.receiving → old.opened - count ≡ oldest it
oldest_is old it count k long =
    let size = stand_count old.receiving (open_epochs it) k.receiving in
    let all = length-drop (oldest it) it.epochs in
    let opened = k.opened in
    omega (arith, size, all, opened, long)

module _ (old : FollowState) (it : Followed) (ingest reading : ℕ) (bytes : List ℕ) (place : ℕ) (room : Bool) (verdict : Verdict) (acceptance : Acceptance) (before after : EpochState)
    (k : Keeps old it) (at : ArrivesAt old it ingest reading bytes place room verdict acceptance before after) where
  abbrev epoch : FollowedEpoch
  epoch = epoch_at old.config it place

  pub stands_before : EpochStands before epoch
  stands_before = subst (λ (s : EpochState). EpochStands s epoch) at.was (stand_got old.receiving (open_epochs it) place before (no_epoch old.config) k.receiving at.below)

  abbrev told : Arrival
  told = arrival_in epoch ingest reading bytes

  accepts_so : acceptance ≡ acceptance_in old.config it epoch told
  accepts_so = at.accepts epoch stands_before ∙ ap (acceptance_with (is_early most_promises epoch.teaching told)) at.room_is

  -- the entry of an arrival in the epoch at a place
  abbrev entry_at : ℕ → FollowEntry
  entry_at p =
      let e = epoch_at old.config it p in
      let arrival = arrival_in e ingest reading bytes in
      Arrived (record { ingest = ingest; reading = reading; bytes = bytes; verdict = answer_with (oldest it + p) (acceptance_in old.config it e arrival) arrival })

  pub entry_arrived : (number : ℕ) → number ≡ oldest it + place
      → ◌≡◌ {A = FollowEntry} (Arrived (record { ingest = ingest; reading = reading; bytes = bytes; verdict = record { epoch = number; verdict = verdict; acceptance = acceptance } })) (entry_of old.config it (Arrives ingest reading bytes))
  entry_arrived number is =
      let verdict_is : verdict ≡ told.verdict = ap (λ (a : Arrival). a.verdict) (at.answer epoch stands_before) in
      ap (λ (n : ℕ). shown n verdict acceptance) is ∙ ap (λ (v : Verdict). shown (oldest it + place) v acceptance) verdict_is ∙ ap (λ (a : Acceptance). shown (oldest it + place) told.verdict a) accepts_so
      ∙ ap entry_at at.place_is
    where
      shown : ℕ → Verdict → Acceptance → FollowEntry
      shown n v a = Arrived (record { ingest = ingest; reading = reading; bytes = bytes; verdict = record { epoch = n; verdict = v; acceptance = a } })

  -- what the arrival in the epoch at a place makes
  abbrev after_at : ℕ → Followed
  after_at p =
      let e = epoch_at old.config it p in
      let arrival = arrival_in e ingest reading bytes in
      after_arrival it p e (acceptance_in old.config it e arrival) arrival

  pub keeps_after : (queue : List Accepted) (unqueued calls reserved : ℕ) → queue ≡ old.queue ++ waits_by (oldest it + place) acceptance (message_of bytes) → unqueued ≡ old.unqueued + unqueued_by acceptance
      → Keeps (record {
        config = old.config;
        opened = old.opened;
        receiving = set old.receiving place after;
        known = old.known;
        queue = queue;
        turn = old.turn;
        ended = old.ended;
        records = old.records;
        early = old.early;
        unqueued = unqueued;
        dropped = old.dropped;
        closed = old.closed;
        calls = calls;
        reserved = reserved;
      }) (after_event old.config it (Arrives ingest reading bytes))
  keeps_after queue unqueued calls reserved waits counts =
      let kept = keeps_arrived old it place epoch acceptance told after queue unqueued calls reserved k at.below (at.stands epoch stands_before)
      (waits ∙ ap (λ (q : List Accepted). old.queue ++ q) (waits_are (oldest it + place) acceptance room epoch told (at.accepts epoch stands_before))) counts in
      let new : FollowState = record {
        config = old.config;
        opened = old.opened;
        receiving = set old.receiving place after;
        known = old.known;
        queue = queue;
        turn = old.turn;
        ended = old.ended;
        records = old.records;
        early = old.early;
        unqueued = unqueued;
        dropped = old.dropped;
        closed = old.closed;
        calls = calls;
        reserved = reserved;
      } in
      subst (λ (p : ℕ). Keeps new (after_at p)) at.place_is
      (subst (λ (a : Acceptance). Keeps new (after_arrival it place epoch a told)) accepts_so kept)

  -- a bound on the counted steps that is told of the epoch
  pub cost_arrived : (steps now : ℕ) → ((e : FollowedEpoch) → EpochStands before e → now ≤ steps + most_evaluations e.config (arrivals_in e.history) reading bytes)
      → (let own = epoch_at old.config it (place_for it bytes) in now ≤ steps + most_evaluations own.config (arrivals_in own.history) reading bytes)
  cost_arrived steps now cost =
      subst (λ (p : ℕ). (let own = epoch_at old.config it p in now ≤ steps + most_evaluations own.config (arrivals_in own.history) reading bytes)) at.place_is (cost epoch stands_before)
