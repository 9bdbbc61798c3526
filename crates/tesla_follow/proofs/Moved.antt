-- What is kept once the open epochs changed.
use Rattle.std.proofs.Common.{◌≡◌, ℕ, zero, suc, ◌+◌, ◌-◌, ◌<◌, ◌==◌, Bool, List, [], ◌∷◌, ◌++◌, length, length-append, map, take, drop, get_or, set, refl, sym, ap, subst, ◌∙◌, arith}
use Rattle.std.specs.List.{list_any, range_with_len}
use Rattle.std.proofs.Math.Seq.{drop-append_seam, take-append_seam}
use Rattle.std.proofs.lemmas.List.{length-drop, length-map, length-take-le}
use Rattle.tesla_early.specs.Learnt.{last_of}
use Rattle.tesla_fitting.specs.declared.config.Config.{Config}
use Rattle.tesla_receiver.specs.Entries.{Arrival}
use Rattle.tesla_state.specs.declared.replies.Reply.{Reply}
use Rattle.tesla_follow.specs.declared.answers.Acceptance.{Acceptance}
use Rattle.tesla_follow.specs.Counted.{report_over}
use Rattle.tesla_follow.specs.Followed.{Accepted, Followed, FollowedEpoch, after_arrival, after_asking, after_end, arrived_in, asked_all, changed_at, config_of, ended_in, oldest, open_epochs, queued_by, replies_in, unqueued_by, with_open}
use Rattle.tesla_follow.specs.Kept.{configs_of}
use Rattle.tesla_follow.specs.Stands.{EpochStands, EpochState, EpochsStand, FollowState, Keeps, stream_in}

-- ---- epochs that stand, one by one

pub stand_count : (states : List EpochState) (es : List FollowedEpoch) → EpochsStand states es → length states ≡ length es
stand_count [] [] stand = refl
stand_count [] (e ∷ es) stand = absurd stand
stand_count (s ∷ states) [] stand = absurd stand
stand_count (s ∷ states) (e ∷ es) stand = ap suc (stand_count states es stand.1)

pub stand_configs : (states : List EpochState) (es : List FollowedEpoch) → EpochsStand states es → configs_of states ≡ map config_of es
stand_configs [] [] stand = refl
stand_configs [] (e ∷ es) stand = absurd stand
stand_configs (s ∷ states) [] stand = absurd stand
stand_configs (s ∷ states) (e ∷ es) stand =
    ap (λ (c : Config). c ∷ configs_of states) stand.0.config ∙ ap (λ (cs : List Config). e.config ∷ cs) (stand_configs states es stand.1)

pub stand_got : (states : List EpochState) (es : List FollowedEpoch) (place : ℕ) (state : EpochState) (epoch : FollowedEpoch) → EpochsStand states es → place < length states → EpochStands (get_or states place state) (get_or es place epoch)
stand_got [] [] place state epoch stand below = absurd (omega (arith, below))
stand_got [] (e ∷ es) place state epoch stand below = absurd stand
stand_got (s ∷ states) [] place state epoch stand below = absurd stand
stand_got (s ∷ states) (e ∷ es) zero state epoch stand below = stand.0
stand_got (s ∷ states) (e ∷ es) (suc place) state epoch stand below = stand_got states es place state epoch stand.1 (omega (arith, below))

pub stand_set : (states : List EpochState) (es : List FollowedEpoch) (place : ℕ) (state : EpochState) (epoch : FollowedEpoch) → EpochsStand states es → place < length states → EpochStands state epoch
    → EpochsStand (set states place state) (changed_at place epoch es)
stand_set [] [] place state epoch stand below one = absurd (omega (arith, below))
stand_set [] (e ∷ es) place state epoch stand below one = absurd stand
stand_set (s ∷ states) [] place state epoch stand below one = absurd stand
stand_set (s ∷ states) (e ∷ es) zero state epoch stand below one = (one, stand.1)
stand_set (s ∷ states) (e ∷ es) (suc place) state epoch stand below one = (stand.0, stand_set states es place state epoch stand.1 (omega (arith, below)) one)

-- with one more of both
pub stand_push : (states : List EpochState) (es : List FollowedEpoch) (state : EpochState) (epoch : FollowedEpoch) → EpochsStand states es → EpochStands state epoch → EpochsStand (states ++ state ∷ []) (es ++ epoch ∷ [])
stand_push [] [] state epoch stand one = (one, tt)
stand_push [] (e ∷ es) state epoch stand one = absurd stand
stand_push (s ∷ states) [] state epoch stand one = absurd stand
stand_push (s ∷ states) (e ∷ es) state epoch stand one = (stand.0, stand_push states es state epoch stand.1 one)

-- ---- the epochs once the open ones changed

module _ (it : Followed) (changed : List FollowedEpoch) (same : length changed ≡ length (open_epochs it)) where
  closed_count : length (take (oldest it) it.epochs) ≡ oldest it
  closed_count = length-take-le (oldest it) it.epochs (omega arith)

  pub changed_count : length (with_open it changed) ≡ length it.epochs
  changed_count =
      let size = length-append (take (oldest it) it.epochs) changed in
      let open_size = length-drop (oldest it) it.epochs in
      omega (arith, size, closed_count, same, open_size)

  pub changed_open : drop (length (with_open it changed) - 3) (with_open it changed) ≡ changed
  changed_open =
      ap (λ n. drop (n - 3) (with_open it changed)) changed_count ∙ ap (λ n. drop n (with_open it changed)) (sym closed_count)
      ∙ drop-append_seam (take (oldest it) it.epochs) changed

  pub changed_closed : take (length (with_open it changed) - 3) (with_open it changed) ≡ take (oldest it) it.epochs
  changed_closed =
      ap (λ n. take (n - 3) (with_open it changed)) changed_count ∙ ap (λ n. take n (with_open it changed)) (sym closed_count)
      ∙ take-append_seam (take (oldest it) it.epochs) changed

-- which ingests have ended
abbrev pub flags_of : ℕ → List ℕ → List Bool
flags_of ingests ended = map (λ (ingest : ℕ). list_any (λ (other : ℕ). other == ingest) ended) (range_with_len 0 ingests)

-- what is kept where the open epochs changed, and what else is told
pub keeps_changed : (old : FollowState) (it : Followed) (changed : List FollowedEpoch) (states : List EpochState) (queue : List Accepted) (turn : Bool) (flags : List Bool) (ended : List ℕ) (records early unqueued calls reserved : ℕ)
    → Keeps old it → length changed ≡ length (open_epochs it) → EpochsStand states changed → flags ≡ flags_of old.config.ingests ended
    → Keeps (record {
      config = old.config;
      opened = old.opened;
      receiving = states;
      known = old.known;
      queue = queue;
      turn = turn;
      ended = flags;
      records = records;
      early = early;
      unqueued = unqueued;
      dropped = old.dropped;
      closed = old.closed;
      calls = calls;
      reserved = reserved;
    }) (record {
      epochs = with_open it changed;
      queue = queue;
      turn = turn;
      ended = ended;
      records = records;
      early = early;
      unqueued = unqueued;
      dropped = it.dropped;
    })
keeps_changed old it changed states queue turn flags ended records early unqueued calls reserved k same stand told = record {
  opened = k.opened ∙ sym (changed_count it changed same);
  receiving = subst (λ (es : List FollowedEpoch). EpochsStand states es) (sym (changed_open it changed same)) stand;
  known = k.known ∙ ap (λ (es : List FollowedEpoch). map stream_in (last_of 64 es)) (sym (changed_closed it changed same));
  queue = refl;
  turn = refl;
  ended = told;
  records = refl;
  early = refl;
  unqueued = refl;
  dropped = k.dropped;
  closed = k.closed ∙ ap report_over (sym (changed_closed it changed same));
}

-- ---- an arrival

pub changed_size : {A : Type 0} (place : ℕ) (x : A) (xs : List A) → place < length xs → length (changed_at place x xs) ≡ length xs
changed_size place x [] below = absurd (omega (arith, below))
changed_size zero x (y ∷ xs) below = refl
changed_size (suc place) x (y ∷ xs) below = ap suc (changed_size place x xs (omega (arith, below)))

pub keeps_arrived : (old : FollowState) (it : Followed) (place : ℕ) (epoch : FollowedEpoch) (acceptance : Acceptance) (arrival : Arrival) (state : EpochState) (queue : List Accepted) (unqueued calls reserved : ℕ)
    → Keeps old it → place < length old.receiving → EpochStands state (arrived_in epoch acceptance arrival)
    → queue ≡ old.queue ++ queued_by (oldest it + place) acceptance arrival → unqueued ≡ old.unqueued + unqueued_by acceptance
    → Keeps (record {
      config = old.config;
      opened = old.opened;
      receiving = set old.receiving place state;
      known = old.known;
      queue = queue;
      turn = old.turn;
      ended = old.ended;
      records = old.records;
      early = old.early;
      unqueued = unqueued;
      dropped = old.dropped;
      closed = old.closed;
      calls = calls;
      reserved = reserved;
    }) (after_arrival it place epoch acceptance arrival)
keeps_arrived old it place epoch acceptance arrival state queue unqueued calls reserved k below one waits counts =
    let count = stand_count old.receiving (open_epochs it) k.receiving in
    let changed : List FollowedEpoch = changed_at place (arrived_in epoch acceptance arrival) (open_epochs it) in
    let moved = keeps_changed old it changed (set old.receiving place state) queue old.turn old.ended it.ended old.records old.early unqueued calls reserved k
    (changed_size place (arrived_in epoch acceptance arrival) (open_epochs it) (omega (arith, below, count)))
    (stand_set old.receiving (open_epochs it) place state (arrived_in epoch acceptance arrival) k.receiving below one) k.ended in
    record {
      opened = moved.opened;
      receiving = moved.receiving;
      known = moved.known;
      queue = waits ∙ ap (λ (q : List Accepted). q ++ queued_by (oldest it + place) acceptance arrival) k.queue;
      turn = k.turn;
      ended = k.ended;
      records = k.records;
      early = k.early;
      unqueued = counts ∙ ap (λ n. n + unqueued_by acceptance) k.unqueued;
      dropped = k.dropped;
      closed = moved.closed;
    }

-- ---- an end

pub keeps_ended : (old : FollowState) (it : Followed) (ingest : ℕ) (states : List EpochState) (flags : List Bool) (calls reserved : ℕ)
    → Keeps old it → EpochsStand states (map (ended_in ingest) (open_epochs it)) → flags ≡ flags_of old.config.ingests (it.ended ++ ingest ∷ [])
    → Keeps (record {
      config = old.config;
      opened = old.opened;
      receiving = states;
      known = old.known;
      queue = old.queue;
      turn = old.turn;
      ended = flags;
      records = old.records;
      early = old.early;
      unqueued = old.unqueued;
      dropped = old.dropped;
      closed = old.closed;
      calls = calls;
      reserved = reserved;
    }) (after_end it ingest)
keeps_ended old it ingest states flags calls reserved k stand told =
    let moved = keeps_changed old it (map (ended_in ingest) (open_epochs it)) states old.queue old.turn flags (it.ended ++ ingest ∷ []) old.records old.early old.unqueued calls reserved k
    (length-map (open_epochs it) (ended_in ingest)) stand told in
    record {
      opened = moved.opened;
      receiving = moved.receiving;
      known = moved.known;
      queue = k.queue;
      turn = k.turn;
      ended = told;
      records = k.records;
      early = k.early;
      unqueued = k.unqueued;
      dropped = k.dropped;
      closed = moved.closed;
    }

-- ---- a take that asks

pub asked_count : (releaser : ℕ) (replies : List Reply) (es : List FollowedEpoch) → length (asked_all releaser replies es) ≡ length es
asked_count releaser [] es = refl
asked_count releaser (reply ∷ replies) [] = refl
asked_count releaser (reply ∷ replies) (e ∷ es) = ap suc (asked_count releaser replies es)

pub keeps_asked : (old : FollowState) (it : Followed) (releaser : ℕ) (states : List EpochState) (calls reserved : ℕ)
    → Keeps old it → EpochsStand states (asked_all releaser (replies_in it) (open_epochs it))
    → Keeps (record {
      config = old.config;
      opened = old.opened;
      receiving = states;
      known = old.known;
      queue = old.queue;
      turn = old.turn;
      ended = old.ended;
      records = old.records;
      early = old.early;
      unqueued = old.unqueued;
      dropped = old.dropped;
      closed = old.closed;
      calls = calls;
      reserved = reserved;
    }) (after_asking it releaser)
keeps_asked old it releaser states calls reserved k stand =
    let changed : List FollowedEpoch = asked_all releaser (replies_in it) (open_epochs it) in
    let moved = keeps_changed old it changed states old.queue old.turn old.ended it.ended old.records old.early old.unqueued calls reserved k (asked_count releaser (replies_in it) (open_epochs it)) stand k.ended in
    record {
      opened = moved.opened;
      receiving = moved.receiving;
      known = moved.known;
      queue = k.queue;
      turn = k.turn;
      ended = k.ended;
      records = k.records;
      early = k.early;
      unqueued = k.unqueued;
      dropped = k.dropped;
      closed = moved.closed;
    }
