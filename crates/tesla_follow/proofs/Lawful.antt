-- The history of each epoch is one of a receiver, and what it teaches are entries of it.
use Rattle.std.proofs.Common.{◌≡◌, ℕ, zero, suc, Bool, true, false, List, [], ◌∷◌, ◌++◌, length, map, take, drop, get_or, Option, Some, None, Result, Ok, Err, refl, sym, ap, subst}
use Rattle.std.specs.Prelude.{slice_get}
use Rattle.std.specs.List.{AllByRecursion, fold}
use Rattle.tesla_commit.specs.Parsing.{judged}
use Rattle.tesla_commit.specs.Parts.{Parts}
use Rattle.tesla_commit.specs.declared.refusal.SetupKind.{SetupKind}
use Rattle.tesla_fitting.specs.declared.config.Config.{Config}
use Rattle.tesla_receiver.specs.Entries.{Arrival, Entry}
use Rattle.tesla_receiver.specs.History as receiver
use Rattle.tesla_receiver.specs.History.{Event, Arrives, Ends, IsLegal, IsLegalAfter, Takes}
use Rattle.tesla_receiver.specs.declared.history.Entry.TheVariants.{Arrived, Taken, Ended}
use Rattle.tesla_receiver.proofs.Standing as standing
use Rattle.tesla_state.specs.declared.replies.Reply.{Reply}
use Rattle.tesla_state.specs.declared.replies.Reply.TheVariants as replies
use Rattle.tesla_rollover.specs.Epochs.{up_to_given}
use Rattle.tesla_rollover.specs.Handover.{handover_text}
use Rattle.tesla_follow.specs.declared.answers.Acceptance.{Acceptance}
use Rattle.tesla_follow.specs.declared.answers.Acceptance.TheVariants as acceptances
use Rattle.tesla_follow.specs.declared.answers.FollowNext.{FollowNext}
use Rattle.tesla_follow.specs.declared.answers.FollowNext.TheVariants.{Plain, Old, EpochsSpent, BadSetup, EqualCommitments, UsedStream, Opened}
use Rattle.tesla_follow.specs.Followed.{Accepted, Followed, FollowedEpoch, acceptance_in, after_asking, after_next, after_opening, after_text, arrival_in, arrived_in, asked_all, asked_with, changed_at, ended_in, ends_before, epoch_of, gives_asked, gives_none, no_epoch, nothing_followed, oldest, open_epochs, place_for, replies_in, takes_in_turn, taught}
use Rattle.tesla_follow.specs.History.{FollowEntry, after_event, epoch_at, event_of, followed}
use Rattle.tesla_follow.specs.Kept.{reply_of}

-- what is taught is the entry, or it teaches nothing
abbrev pub IsTaughtAs : Entry → Entry → Type 0
IsTaughtAs (Arrived arrival) entry = Arrived arrival ≡ entry
IsTaughtAs (Taken releaser reply) entry = Taken releaser reply ≡ entry
IsTaughtAs (Ended ingest) entry = Unit {0}

abbrev pub AreTaughtAs : List Entry → List Entry → Type 0
AreTaughtAs [] [] = Unit {0}
AreTaughtAs [] (x ∷ xs) = ⊥
AreTaughtAs (t ∷ ts) [] = ⊥
AreTaughtAs (t ∷ ts) (x ∷ xs) = IsTaughtAs t x × AreTaughtAs ts xs

pub record IsLawful (e : FollowedEpoch) : Type 0 where
  pub legal : IsLegal e.config e.history
  pub taught : AreTaughtAs e.teaching e.history

abbrev pub AreLawful : List FollowedEpoch → Type 0
AreLawful es = AllByRecursion IsLawful es

-- ---- what is taught

taught_same : (x : Entry) → IsTaughtAs x x
taught_same (Arrived arrival) = refl
taught_same (Taken releaser reply) = refl
taught_same (Ended ingest) = tt

taught_all : (xs : List Entry) → AreTaughtAs xs xs
taught_all [] = tt
taught_all (x ∷ xs) = (taught_same x, taught_all xs)

taught_more : (ts xs : List Entry) (t x : Entry) → AreTaughtAs ts xs → IsTaughtAs t x → AreTaughtAs (ts ++ t ∷ []) (xs ++ x ∷ [])
taught_more [] [] t x all one = (one, tt)
taught_more [] (y ∷ xs) t x all one = absurd all
taught_more (u ∷ ts) [] t x all one = absurd all
taught_more (u ∷ ts) (y ∷ xs) t x all one = (all.0, taught_more ts xs t x all.1 one)

pub taught_count : (ts xs : List Entry) → AreTaughtAs ts xs → length ts ≡ length xs
taught_count [] [] all = refl
taught_count [] (x ∷ xs) all = absurd all
taught_count (t ∷ ts) [] all = absurd all
taught_count (t ∷ ts) (x ∷ xs) all = ap suc (taught_count ts xs all.1)

pub taught_got : (ts xs : List Entry) (n : ℕ) (t : Entry) → AreTaughtAs ts xs → slice_get ts n ≡ Some t → (x : Entry) × (slice_get xs n ≡ Some x) × IsTaughtAs t x
taught_got [] xs n t all is = absurd cc
taught_got (u ∷ ts) [] n t all is = absurd all
taught_got (u ∷ ts) (x ∷ xs) zero t all is = let same : u ≡ t = cc in (x, refl, subst (λ (o : Entry). IsTaughtAs o x) same all.0)
taught_got (u ∷ ts) (x ∷ xs) (suc n) t all is = taught_got ts xs n t all.1 is

taught_arrival : (acceptance : Acceptance) (arrival : Arrival) → IsTaughtAs (taught acceptance arrival) (Arrived arrival)
taught_arrival acceptances.Unpromised arrival = refl
taught_arrival acceptances.Queued arrival = refl
taught_arrival acceptances.Unqueued arrival = tt

-- an epoch with the entry of an event more
entered : (e : FollowedEpoch) (event : Event) (t : Entry) → IsLawful e → IsTaughtAs t (receiver.entry_of e.config e.history event)
    → IsLawful (record { config = e.config; history = e.history ++ receiver.entry_of e.config e.history event ∷ []; teaching = e.teaching ++ t ∷ [] })
entered e event t own one = record { legal = standing.entered_legal e.config e.history event own.legal; taught = taught_more e.teaching e.history t (receiver.entry_of e.config e.history event) own.taught one }

-- ---- lists

all_take : (n : ℕ) (es : List FollowedEpoch) → AreLawful es → AreLawful (take n es)
all_take zero es all = tt
all_take (suc n) [] all = tt
all_take (suc n) (e ∷ es) all = (all.0, all_take n es all.1)

pub all_drop : (n : ℕ) (es : List FollowedEpoch) → AreLawful es → AreLawful (drop n es)
all_drop zero es all = all
all_drop (suc n) [] all = tt
all_drop (suc n) (e ∷ es) all = all_drop n es all.1

all_join : (es fs : List FollowedEpoch) → AreLawful es → AreLawful fs → AreLawful (es ++ fs)
all_join [] fs all more = more
all_join (e ∷ es) fs all more = (all.0, all_join es fs all.1 more)

pub all_got : (es : List FollowedEpoch) (n : ℕ) (d : FollowedEpoch) → AreLawful es → IsLawful d → IsLawful (get_or es n d)
all_got [] n d all one = one
all_got (e ∷ es) zero d all one = all.0
all_got (e ∷ es) (suc n) d all one = all_got es n d all.1 one

-- ---- events

pub none_lawful : (cfg : Config) → IsLawful (no_epoch cfg)
none_lawful cfg = record { legal = tt; taught = tt }

all_ended : (ingest : ℕ) (es : List FollowedEpoch) → AreLawful es → AreLawful (map (ended_in ingest) es)
all_ended ingest [] all = tt
all_ended ingest (e ∷ es) all = (entered e (Ends ingest) (Ended ingest) all.0 tt, all_ended ingest es all.1)

asked_on : (releaser : ℕ) (e : FollowedEpoch) (es : List FollowedEpoch) (reply : Reply) → reply ≡ reply_of e → AreLawful (e ∷ es) → AreLawful (asked_all releaser (up_to_given (map reply_of es)) es)
    → AreLawful (asked_all releaser (up_to_given (reply ∷ map reply_of es)) (e ∷ es))
asked_on releaser e es (replies.Given head payload) is all rest =
    (subst (λ (r : Reply). IsLawful (asked_with releaser r e)) (sym is) (entered e (Takes releaser) (Taken releaser (reply_of e)) all.0 refl), all.1)
asked_on releaser e es replies.Empty is all rest =
    (subst (λ (r : Reply). IsLawful (asked_with releaser r e)) (sym is) (entered e (Takes releaser) (Taken releaser (reply_of e)) all.0 refl), rest)
asked_on releaser e es replies.Over is all rest =
    (subst (λ (r : Reply). IsLawful (asked_with releaser r e)) (sym is) (entered e (Takes releaser) (Taken releaser (reply_of e)) all.0 refl), rest)

all_asked : (releaser : ℕ) (es : List FollowedEpoch) → AreLawful es → AreLawful (asked_all releaser (up_to_given (map reply_of es)) es)
all_asked releaser [] all = tt
all_asked releaser (e ∷ es) all = asked_on releaser e es (reply_of e) refl all (all_asked releaser es all.1)

ends_legal : (cfg : Config) (before : List Entry) (ingests : List ℕ) → IsLegalAfter cfg before (map (λ (ingest : ℕ). Ended ingest) ingests)
ends_legal cfg before [] = tt
ends_legal cfg before (ingest ∷ ingests) = (refl, ends_legal cfg (before ++ Ended ingest ∷ []) ingests)

opened : (cfg : Config) (it : Followed) (r : Result Parts (ℕ × SetupKind)) → AreLawful it.epochs → AreLawful (after_opening cfg it r).epochs
opened cfg it (Err refused) all = all
opened cfg it (Ok setup) all = all_join it.epochs (epoch_of cfg it setup ∷ []) all (record { legal = ends_legal (epoch_of cfg it setup).config [] _; taught = taught_all (ends_before cfg it) }, tt)

texted : (cfg : Config) (it : Followed) (text : Option (List ℕ)) → AreLawful it.epochs → AreLawful (after_text cfg it text).epochs
texted cfg it None all = all
texted cfg it (Some text) all = opened cfg it (judged text) all

nexted : (cfg : Config) (it : Followed) (payload : List ℕ) (next : FollowNext) → AreLawful it.epochs → AreLawful (after_next cfg it payload next).epochs
nexted cfg it payload Opened all = texted cfg it (handover_text payload) all
nexted cfg it payload Plain all = all
nexted cfg it payload (Old newest) all = all
nexted cfg it payload EpochsSpent all = all
nexted cfg it payload (BadSetup line kind) all = all
nexted cfg it payload (EqualCommitments chain) all = all
nexted cfg it payload (UsedStream stream) all = all

none_given : (it : Followed) (answers : List Reply) (queue : List Accepted) → AreLawful it.epochs → AreLawful (gives_none it answers queue).after.epochs
none_given it answers [] all = all
none_given it answers (accepted ∷ others) all = all

asked : (cfg : Config) (it : Followed) (answers : List Reply) (epoch : ℕ) (rs : List Reply) → AreLawful it.epochs → AreLawful (gives_asked cfg it answers epoch rs).after.epochs
asked cfg it answers epoch [] all = none_given it answers it.queue all
asked cfg it answers epoch (replies.Given head payload ∷ others) all = nexted cfg (record it { turn = true; records = suc it.records }) payload _ all
asked cfg it answers epoch (replies.Empty ∷ others) all = asked cfg it answers (suc epoch) others all
asked cfg it answers epoch (replies.Over ∷ others) all = asked cfg it answers (suc epoch) others all

released : (cfg : Config) (it : Followed) (releaser : ℕ) → AreLawful it.epochs → AreLawful (gives_asked cfg (after_asking it releaser) (replies_in it) (oldest it) (replies_in it)).after.epochs
released cfg it releaser all =
    asked cfg (after_asking it releaser) (replies_in it) (oldest it) (replies_in it)
    (all_join (take (oldest it) it.epochs) (asked_all releaser (replies_in it) (open_epochs it)) (all_take (oldest it) it.epochs all) (all_asked releaser (open_epochs it) (all_drop (oldest it) it.epochs all)))

taken : (cfg : Config) (it : Followed) (releaser : ℕ) (turn : Bool) (queue : List Accepted) → AreLawful it.epochs → AreLawful (takes_in_turn cfg it releaser turn queue).after.epochs
taken cfg it releaser turn [] all = released cfg it releaser all
taken cfg it releaser true (accepted ∷ others) all = all
taken cfg it releaser false (accepted ∷ others) all = released cfg it releaser all

pub event_lawful : (cfg : Config) (it : Followed) (event : Event) → AreLawful it.epochs → AreLawful (after_event cfg it event).epochs
event_lawful cfg it (Arrives ingest reading bytes) all =
    let place = place_for it bytes in
    let epoch = epoch_at cfg it place in
    let there = all_drop (oldest it) it.epochs all in
    let own : IsLawful epoch = all_got (open_epochs it) place (no_epoch cfg) there (none_lawful cfg) in
    let arrival = arrival_in epoch ingest reading bytes in
    let acceptance = acceptance_in cfg it epoch arrival in
    let arrived : FollowedEpoch = arrived_in epoch acceptance arrival in
    all_join (take (oldest it) it.epochs) (changed_at place arrived (open_epochs it)) (all_take (oldest it) it.epochs all)
    (all_join (take place (open_epochs it)) (arrived ∷ drop (suc place) (open_epochs it)) (all_take place (open_epochs it) there)
    (entered epoch (Arrives ingest reading bytes) (taught acceptance arrival) own (taught_arrival acceptance arrival), all_drop (suc place) (open_epochs it) there))
event_lawful cfg it (Takes releaser) all = taken cfg it releaser it.turn it.queue all
event_lawful cfg it (Ends ingest) all =
    all_join (take (oldest it) it.epochs) (map (ended_in ingest) (open_epochs it)) (all_take (oldest it) it.epochs all) (all_ended ingest (open_epochs it) (all_drop (oldest it) it.epochs all))

-- ---- a whole history

entries_lawful : (cfg : Config) (entries : List FollowEntry) (it : Followed) → AreLawful it.epochs → AreLawful (fold (λ made entry. after_event cfg made (event_of entry)) it entries).epochs
entries_lawful cfg [] it all = all
entries_lawful cfg (entry ∷ entries) it all = entries_lawful cfg entries (after_event cfg it (event_of entry)) (event_lawful cfg it (event_of entry) all)

pub history_lawful : (cfg : Config) (h : List FollowEntry) → AreLawful (followed cfg h).epochs
unfolding followed
history_lawful cfg h = entries_lawful cfg h (nothing_followed cfg) (none_lawful cfg, tt)

pub epoch_lawful : (cfg : Config) (h : List FollowEntry) (epoch : ℕ) → IsLawful (get_or (followed cfg h).epochs epoch (no_epoch cfg))
epoch_lawful cfg h epoch = all_got (followed cfg h).epochs epoch (no_epoch cfg) (history_lawful cfg h) (none_lawful cfg)
