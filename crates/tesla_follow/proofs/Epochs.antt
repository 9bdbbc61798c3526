-- An open epoch that stands for its history, with each entry more.
use Rattle.std.proofs.Common.{◌≡◌, ℕ, ◌+◌, ◌≤◌, Bool, true, false, cond, List, [], ◌∷◌, ◌++◌, length, map, refl, sym, ap, subst, ◌∙◌}
use Rattle.tesla_early.specs.Early.{accepted, candidate, is_early, learnt, learnt_with}
use Rattle.tesla_early.specs.Kept.{is_promised_by, kept_after}
use Rattle.tesla_early.specs.Learnt.{Learnt, last_of}
use Rattle.tesla_early.specs.Stands.{Kept, PromiseState, kept_of}
use Rattle.tesla_early.proofs.Keeping.{kept_given, kept_taken, kept_with_message, promised_kept}
use Rattle.tesla_early.proofs.Learnt.{learnt_more}
use Rattle.tesla_receiver.specs.Costs.{most_evaluations}
use Rattle.tesla_receiver.specs.Entries.{Arrival, Entry}
use Rattle.tesla_receiver.specs.History.{Arrives, Ends, Takes, arrivals_in, entry_of, reply_to}
use Rattle.tesla_receiver.specs.Stands.{Stands}
use Rattle.tesla_receiver.specs.declared.history.Entry.TheVariants.{Arrived, Taken, Ended}
use Rattle.tesla_fitting.specs.declared.config.Config.{Config}
use Rattle.tesla_fitting.specs.declared.verdict.Verdict.{Verdict}
use Rattle.tesla_state.specs.declared.replies.Reply.{Reply}
use Rattle.tesla_follow.specs.declared.answers.Acceptance.{Acceptance}
use Rattle.tesla_follow.specs.declared.answers.Acceptance.TheVariants.{Unpromised, Queued, Unqueued}
use Rattle.tesla_follow.specs.Followed.{FollowedEpoch, acceptance_with, arrival_in, arrived_in, asked_with, ended_in, most_promises, no_epoch, taught}
use Rattle.tesla_follow.specs.Kept.{kept_by, reply_of}
use Rattle.tesla_follow.specs.Stands.{EpochStands, EpochState}

-- ---- promises

-- what is kept after an entry is what is taught with it
kept_more : (kept : List Kept) (teaching : List Entry) (e : Entry) → kept ≡ map kept_of (last_of most_promises (learnt_with most_promises (learnt most_promises teaching) (length teaching) e))
    → kept ≡ map kept_of (last_of most_promises (learnt most_promises (teaching ++ e ∷ [])))
kept_more kept teaching e is = is ∙ ap (λ (ls : List Learnt). map kept_of (last_of most_promises ls)) (sym (learnt_more most_promises teaching e))

-- a message is accepted only where it's promised
unpromised : (promised room : Bool) → acceptance_with promised room ≡ Unpromised → promised ≡ false
unpromised true true is = absurd cc
unpromised true false is = absurd cc
unpromised false room is = refl

-- and only where there is room
pub placed_room : (promised room : Bool) (acceptance : Acceptance) → acceptance ≡ acceptance_with promised room → acceptance ≡ Queued → room ≡ true
placed_room promised true acceptance is queued = refl
placed_room true false acceptance is queued = let never : Queued ≡ Unqueued = sym queued ∙ is in absurd (cc)
placed_room false false acceptance is queued = let never : Queued ≡ Unpromised = sym queued ∙ is in absurd (cc)

-- what is kept after an arrival
kept_arrived : (acceptance : Acceptance) (room : Bool) (kept : List Kept) (teaching : List Entry) (arrival : Arrival)
    → kept ≡ map kept_of (last_of most_promises (learnt most_promises teaching)) → acceptance ≡ acceptance_with (is_early most_promises teaching arrival) room
    → kept_by acceptance most_promises kept (candidate arrival) ≡ map kept_of (last_of most_promises (learnt most_promises (teaching ++ taught acceptance arrival ∷ [])))
kept_arrived Unpromised room kept teaching arrival same is =
    let ls = learnt most_promises teaching in
    let none : is_early most_promises teaching arrival ≡ false = unpromised (is_early most_promises teaching arrival) room (sym is) in
    kept_more kept teaching (Arrived arrival)
    (same ∙ ap (λ (b : Bool). map kept_of (last_of most_promises (cond b (accepted most_promises ls (length teaching) (candidate arrival)) ls))) (sym none))
kept_arrived Queued room kept teaching arrival same is =
    kept_more (kept_after most_promises kept (candidate arrival)) teaching (Arrived arrival)
    (kept_with_message most_promises (length teaching) (learnt most_promises teaching) kept (candidate arrival) same)
kept_arrived Unqueued room kept teaching arrival same is = kept_more kept teaching (Ended 0) same

-- ---- an arrival

-- what is so of an arrival: its verdict, what became of its message, and the epoch after it
pub record ArrivesIn (old new : EpochState) (ingest reading : ℕ) (bytes : List ℕ) (room : Bool) (verdict : Verdict) (acceptance : Acceptance) : Type 0 where
  pub answer : (h : List Entry) → Stands old.receiver h → Arrived (record { ingest = ingest; reading = reading; bytes = bytes; verdict = verdict }) ≡ entry_of old.receiver.config h (Arrives ingest reading bytes)
  pub stands : (h : List Entry) → Stands old.receiver h → Stands new.receiver (h ++ entry_of old.receiver.config h (Arrives ingest reading bytes) ∷ [])
  pub config : new.receiver.config ≡ old.receiver.config
  pub most : new.promises.most ≡ old.promises.most
  pub accepts : acceptance ≡ acceptance_with (is_promised_by old.promises.kept (candidate (record { ingest = ingest; reading = reading; bytes = bytes; verdict = verdict }))) room
  pub kept : new.promises.kept ≡ kept_by acceptance old.promises.most old.promises.kept (candidate (record { ingest = ingest; reading = reading; bytes = bytes; verdict = verdict }))

arrival_same : (x y : Arrival) → ◌≡◌ {A = Entry} (Arrived x) (Arrived y) → x ≡ y
arrival_same x y same = cc

module _ (old new : EpochState) (ingest reading : ℕ) (bytes : List ℕ) (room : Bool) (verdict : Verdict) (acceptance : Acceptance) (at : ArrivesIn old new ingest reading bytes room verdict acceptance) (e : FollowedEpoch) (st : EpochStands old e) where
  abbrev told : Arrival
  told = record { ingest = ingest; reading = reading; bytes = bytes; verdict = verdict }

  entry_is : Arrived told ≡ entry_of e.config e.history (Arrives ingest reading bytes)
  entry_is = at.answer e.history st.receiver ∙ ap (λ (c : Config). entry_of c e.history (Arrives ingest reading bytes)) st.config

  pub answer_arrived : told ≡ arrival_in e ingest reading bytes
  answer_arrived = arrival_same told (arrival_in e ingest reading bytes) entry_is

  pub acceptance_arrived : acceptance ≡ acceptance_with (is_early most_promises e.teaching (arrival_in e ingest reading bytes)) room
  acceptance_arrived =
      at.accepts ∙ ap (λ (b : Bool). acceptance_with b room)
      (promised_kept most_promises (learnt most_promises e.teaching) old.promises.kept (candidate told) st.promises
      ∙ ap (λ (a : Arrival). is_early most_promises e.teaching a) answer_arrived)

  pub stands_arrived : EpochStands new (arrived_in e acceptance (arrival_in e ingest reading bytes))
  stands_arrived = record {
    config = at.config ∙ st.config;
    receiver = subst (λ (c : Config). Stands new.receiver (e.history ++ entry_of c e.history (Arrives ingest reading bytes) ∷ [])) st.config (at.stands e.history st.receiver);
    most = at.most ∙ st.most;
    promises = at.kept ∙ ap (λ (n : ℕ). kept_by acceptance n old.promises.kept (candidate told)) st.most
        ∙ ap (λ (a : Arrival). kept_by acceptance most_promises old.promises.kept (candidate a)) answer_arrived
        ∙ kept_arrived acceptance room old.promises.kept e.teaching (arrival_in e ingest reading bytes) st.promises acceptance_arrived;
  }

-- a bound on the counted steps that is told of the receiver is one of the epoch
pub cost_arrived : (old : EpochState) (e : FollowedEpoch) (reading steps now : ℕ) (bytes : List ℕ) → EpochStands old e
    → ((h : List Entry) → Stands old.receiver h → now ≤ steps + most_evaluations old.receiver.config (arrivals_in h) reading bytes)
    → now ≤ steps + most_evaluations e.config (arrivals_in e.history) reading bytes
cost_arrived old e reading steps now bytes st cost =
    subst (λ (c : Config). now ≤ steps + most_evaluations c (arrivals_in e.history) reading bytes) st.config (cost e.history st.receiver)

-- ---- a take

-- the receiver's answer is that of the epoch
pub reply_is : (state : EpochState) (e : FollowedEpoch) (reply : Reply) → EpochStands state e → ((h : List Entry) → Stands state.receiver h → reply ≡ reply_to state.receiver.config h) → reply ≡ reply_of e
reply_is state e reply st answer = answer e.history st.receiver ∙ ap (λ (c : Config). reply_to c e.history) st.config

pub stands_taken : (old new : EpochState) (e : FollowedEpoch) (releaser : ℕ) (reply : Reply) → EpochStands old e → reply ≡ reply_of e
    → ((h : List Entry) → Stands old.receiver h → Stands new.receiver (h ++ entry_of old.receiver.config h (Takes releaser) ∷ []))
    → new.receiver.config ≡ old.receiver.config → new.promises.most ≡ old.promises.most → new.promises.kept ≡ kept_given old.promises.most old.promises.kept reply
    → EpochStands new (asked_with releaser (reply_of e) e)
stands_taken old new e releaser reply st answer stands config most kept = record {
  config = config ∙ st.config;
  receiver = subst (λ (c : Config). Stands new.receiver (e.history ++ entry_of c e.history (Takes releaser) ∷ [])) st.config (stands e.history st.receiver);
  most = most ∙ st.most;
  promises = kept_more new.promises.kept e.teaching (Taken releaser (reply_of e))
      (kept ∙ ap (λ (n : ℕ). kept_given n old.promises.kept reply) st.most ∙ ap (λ (r : Reply). kept_given most_promises old.promises.kept r) answer
      ∙ kept_taken most_promises (length e.teaching) (learnt most_promises e.teaching) old.promises.kept (reply_of e) st.promises);
}

-- ---- an end

pub stands_ended : (old new : EpochState) (e : FollowedEpoch) (ingest : ℕ) → EpochStands old e
    → ((h : List Entry) → Stands old.receiver h → Stands new.receiver (h ++ entry_of old.receiver.config h (Ends ingest) ∷ []))
    → new.receiver.config ≡ old.receiver.config → new.promises ≡ old.promises → EpochStands new (ended_in ingest e)
stands_ended old new e ingest st stands config same = record {
  config = config ∙ st.config;
  receiver = stands e.history st.receiver;
  most = ap (λ (p : PromiseState). p.most) same ∙ st.most;
  promises = kept_more new.promises.kept e.teaching (Ended ingest) (ap (λ (p : PromiseState). p.kept) same ∙ st.promises);
}

-- ---- nothing has happened

pub stands_new : (state : EpochState) → Stands state.receiver [] → state.promises.most ≡ most_promises → state.promises.kept ≡ [] → EpochStands state (no_epoch state.receiver.config)
unfolding learnt
stands_new state receiver most none = record {
  config = refl;
  receiver = receiver;
  most = most;
  promises = none;
}
