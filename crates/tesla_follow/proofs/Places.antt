-- Epochs stay at their places, with their configurations, and their histories only grow.
use Rattle.std.proofs.Common.{◌≡◌, ℕ, zero, suc, ◌≤◌, ◌<◌, Bool, true, false, List, [], ◌∷◌, ◌++◌, append_assoc, length, map, take, drop, get_or, Option, Some, None, Result, Ok, Err, refl, sym, ap, subst, ◌∙◌, arith}
use Rattle.std.specs.Prelude.{slice_get, unwrap_or}
use Rattle.std.specs.List.{fold, position}
use Rattle.std.proofs.lemmas.List.{append-nil, length-drop, length-map}
use Rattle.std.proofs.lemmas.List.Quantifiers.{position-Some}
use Rattle.std.proofs.lemmas.List.Sums.{fold-append}
use Rattle.std.proofs.lemmas.Option.{slice_get_within}
use Rattle.tesla_base.proofs.Lists.{slice_get-append}
use Rattle.tesla_commit.specs.Parsing.{judged}
use Rattle.tesla_commit.specs.Parts.{Parts}
use Rattle.tesla_commit.specs.declared.refusal.SetupKind.{SetupKind}
use Rattle.tesla_fitting.specs.Fitting.{stream_of}
use Rattle.tesla_fitting.specs.declared.config.Config.{Config}
use Rattle.tesla_frame.specs.Frame.{Frame}
use Rattle.tesla_frame.specs.Reading.{frame_of}
use Rattle.tesla_receiver.specs.Entries.{Arrival, Entry}
use Rattle.tesla_receiver.specs.History.{Event, Arrives, Ends, Takes}
use Rattle.tesla_receiver.specs.declared.history.Entry.TheVariants.{Arrived, Taken, Ended}
use Rattle.tesla_state.specs.declared.replies.Reply.{Reply}
use Rattle.tesla_state.specs.declared.replies.Reply.TheVariants as replies
use Rattle.tesla_rollover.specs.Epochs.{epoch_with, has_stream}
use Rattle.tesla_rollover.specs.Handover.{handover_text}
use Rattle.tesla_follow.specs.declared.answers.Acceptance.{Acceptance}
use Rattle.tesla_follow.specs.declared.answers.FollowNext.{FollowNext}
use Rattle.tesla_follow.specs.declared.answers.FollowNext.TheVariants.{Plain, Old, EpochsSpent, BadSetup, EqualCommitments, UsedStream, Opened}
use Rattle.tesla_follow.specs.Followed.{Accepted, Followed, FollowedEpoch, acceptance_in, after_asking, after_next, after_opening, after_text, arrival_in, arrived_in, asked_all, changed_at, config_of, ended_in, epoch_of, gives_asked, gives_none, no_epoch, nothing_followed, oldest, open_epochs, place_for, replies_in, takes_in_turn, taught}
use Rattle.tesla_follow.specs.History.{FollowEntry, IsFollowedAfter, after_event, epoch_at, event_of, followed}
use Rattle.tesla_follow.proofs.Histories.{followed_none}

-- ---- a prefix of a followed history

pub prefix_after : (cfg : Config) (before h more : List FollowEntry) → IsFollowedAfter cfg before (h ++ more) → IsFollowedAfter cfg before h
prefix_after cfg before [] more l = tt
prefix_after cfg before (e ∷ h) more l = (l.0, prefix_after cfg (before ++ e ∷ []) h more l.1)

-- ---- an epoch

-- an epoch with further entries
pub record Extends (old new : FollowedEpoch) : Type 0 where
  pub config : new.config ≡ old.config
  pub history : (rest : List Entry) × (new.history ≡ old.history ++ rest)
  pub teaching : (rest : List Entry) × (new.teaching ≡ old.teaching ++ rest)

extends_same : (e : FollowedEpoch) → Extends e e
extends_same e = record { config = refl; history = ([], sym (append-nil e.history)); teaching = ([], sym (append-nil e.teaching)) }

longer : (a b c : List Entry) → (rest : List Entry) × (b ≡ a ++ rest) → (rest : List Entry) × (c ≡ b ++ rest) → (rest : List Entry) × (c ≡ a ++ rest)
longer a b c p q = (p.0 ++ q.0, q.1 ∙ ap (λ (xs : List Entry). xs ++ q.0) p.1 ∙ append_assoc a p.0 q.0)

extends_further : (a b c : FollowedEpoch) → Extends a b → Extends b c → Extends a c
extends_further a b c p q = record {
  config = q.config ∙ p.config;
  history = longer a.history b.history c.history p.history q.history;
  teaching = longer a.teaching b.teaching c.teaching p.teaching q.teaching;
}

-- an entry stays at its place
pub got_still : (xs ys rest : List Entry) (place : ℕ) (x : Entry) → ys ≡ xs ++ rest → slice_get xs place ≡ Some x → slice_get ys place ≡ Some x
got_still xs ys rest place x are is = ap (λ (zs : List Entry). slice_get zs place) are ∙ slice_get-append xs rest place (slice_get_within xs place x is) ∙ is

pub put_last : (xs : List Entry) (x : Entry) → slice_get (xs ++ x ∷ []) (length xs) ≡ Some x
put_last [] x = refl
put_last (y ∷ xs) x = put_last xs x

-- ---- lists of epochs

-- each of the epochs is at its place, with further entries; further epochs may stand behind them
abbrev pub AreExtended : List FollowedEpoch → List FollowedEpoch → Type 0
AreExtended [] fs = Unit {0}
AreExtended (e ∷ es) [] = ⊥
AreExtended (e ∷ es) (f ∷ fs) = Extends e f × AreExtended es fs

pub stays : (es : List FollowedEpoch) → AreExtended es es
stays [] = tt
stays (e ∷ es) = (extends_same e, stays es)

pub further : (xs ys zs : List FollowedEpoch) → AreExtended xs ys → AreExtended ys zs → AreExtended xs zs
further [] ys zs p q = tt
further (x ∷ xs) [] zs p q = absurd p
further (x ∷ xs) (y ∷ ys) [] p q = absurd q
further (x ∷ xs) (y ∷ ys) (z ∷ zs) p q = (extends_further x y z p.0 q.0, further xs ys zs p.1 q.1)

-- others stand behind them
pushed : (es fs : List FollowedEpoch) → AreExtended es (es ++ fs)
pushed [] fs = tt
pushed (e ∷ es) fs = (extends_same e, pushed es fs)

-- the open epochs change behind the closed ones
pub behind : (n : ℕ) (es changed : List FollowedEpoch) → AreExtended (drop n es) changed → AreExtended es (take n es ++ changed)
behind zero es changed grows = grows
behind (suc n) [] changed grows = tt
behind (suc n) (e ∷ es) changed grows = (extends_same e, behind n es changed grows)

pub changed_extends : (cfg : Config) (place : ℕ) (e : FollowedEpoch) (es : List FollowedEpoch) → Extends (get_or es place (no_epoch cfg)) e → AreExtended es (changed_at place e es)
changed_extends cfg place e [] grows = tt
changed_extends cfg zero e (x ∷ es) grows = (grows, stays es)
changed_extends cfg (suc place) e (x ∷ es) grows = (extends_same x, changed_extends cfg place e es grows)

pub ended_extends : (ingest : ℕ) (es : List FollowedEpoch) → AreExtended es (map (ended_in ingest) es)
ended_extends ingest [] = tt
ended_extends ingest (e ∷ es) = (record { config = refl; history = (Ended ingest ∷ [], refl); teaching = (Ended ingest ∷ [], refl) }, ended_extends ingest es)

pub asked_extends : (releaser : ℕ) (rs : List Reply) (es : List FollowedEpoch) → AreExtended es (asked_all releaser rs es)
asked_extends releaser [] es = stays es
asked_extends releaser (r ∷ rs) [] = tt
asked_extends releaser (r ∷ rs) (e ∷ es) = (record { config = refl; history = (Taken releaser r ∷ [], refl); teaching = (Taken releaser r ∷ [], refl) }, asked_extends releaser rs es)

-- the epoch at a place
pub extended_got : (es fs : List FollowedEpoch) (n : ℕ) (e : FollowedEpoch) → AreExtended es fs → slice_get es n ≡ Some e → (f : FollowedEpoch) × (slice_get fs n ≡ Some f) × Extends e f
extended_got [] fs n e grows is = absurd cc
extended_got (x ∷ es) [] n e grows is = absurd grows
extended_got (x ∷ es) (f ∷ fs) zero e grows is = let same : x ≡ e = cc in (f, refl, subst (λ (o : FollowedEpoch). Extends o f) same grows.0)
extended_got (x ∷ es) (f ∷ fs) (suc n) e grows is = extended_got es fs n e grows.1 is

-- an epoch at a place that isn't reached has no entries
pub history_got : (cfg : Config) (es fs : List FollowedEpoch) (n : ℕ) → AreExtended es fs → (rest : List Entry) × ((get_or fs n (no_epoch cfg)).history ≡ (get_or es n (no_epoch cfg)).history ++ rest)
history_got cfg [] fs n grows = ((get_or fs n (no_epoch cfg)).history, refl)
history_got cfg (e ∷ es) [] n grows = absurd grows
history_got cfg (e ∷ es) (f ∷ fs) zero grows = grows.0.history
history_got cfg (e ∷ es) (f ∷ fs) (suc n) grows = history_got cfg es fs n grows.1

pub some_still : (es fs : List FollowedEpoch) → AreExtended es fs → 1 ≤ length es → 1 ≤ length fs
some_still [] fs grows some = absurd (omega (arith, some))
some_still (e ∷ es) [] grows some = absurd grows
some_still (e ∷ es) (f ∷ fs) grows some = omega arith

pub configs_grow : (es fs : List FollowedEpoch) → AreExtended es fs → (rest : List Config) × (map config_of fs ≡ map config_of es ++ rest)
configs_grow [] fs grows = (map config_of fs, refl)
configs_grow (e ∷ es) [] grows = absurd grows
configs_grow (e ∷ es) (f ∷ fs) grows =
    let rest = configs_grow es fs grows.1 in
    (rest.0, ap (λ (c : Config). c ∷ map config_of fs) grows.0.config ∙ ap (λ (cs : List Config). e.config ∷ cs) rest.1)

-- ---- events

place_within : (configs : List Config) (o : Option ℕ) → (test : Config → Bool) → position test configs ≡ o → 1 ≤ length configs → unwrap_or o 0 < length configs
place_within configs None test is some = omega (arith, some)
place_within [] (Some place) test is some = absurd (omega (arith, some))
place_within (c ∷ configs) (Some place) test is some = (position-Some test (c ∷ configs) place c is).0

epoch_within : (configs : List Config) (o : Option Frame) → 1 ≤ length configs → epoch_with configs o < length configs
epoch_within configs None some = omega (arith, some)
epoch_within configs (Some frame) some = place_within configs (position (has_stream (stream_of frame)) configs) (has_stream (stream_of frame)) refl some

-- the epoch that a datagram goes to is open
pub place_open : (it : Followed) (bytes : List ℕ) → 1 ≤ length it.epochs → place_for it bytes < length (open_epochs it)
place_open it bytes some =
    let size = length-drop (oldest it) it.epochs in
    let count = length-map (open_epochs it) config_of in
    let within = epoch_within (map config_of (open_epochs it)) (frame_of bytes) (omega (arith, some, size, count)) in
    omega (arith, within, count)

abbrev pub Moves : Followed → Followed → Type 0
Moves old new = AreExtended old.epochs new.epochs

opened : (cfg : Config) (it : Followed) (r : Result Parts (ℕ × SetupKind)) → Moves it (after_opening cfg it r)
opened cfg it (Err refused) = stays it.epochs
opened cfg it (Ok setup) = pushed it.epochs (epoch_of cfg it setup ∷ [])

texted : (cfg : Config) (it : Followed) (text : Option (List ℕ)) → Moves it (after_text cfg it text)
texted cfg it None = stays it.epochs
texted cfg it (Some text) = opened cfg it (judged text)

pub nexted : (cfg : Config) (it : Followed) (payload : List ℕ) (next : FollowNext) → Moves it (after_next cfg it payload next)
nexted cfg it payload Opened = texted cfg it (handover_text payload)
nexted cfg it payload Plain = stays it.epochs
nexted cfg it payload (Old newest) = stays it.epochs
nexted cfg it payload EpochsSpent = stays it.epochs
nexted cfg it payload (BadSetup line kind) = stays it.epochs
nexted cfg it payload (EqualCommitments chain) = stays it.epochs
nexted cfg it payload (UsedStream stream) = stays it.epochs

none_given : (it : Followed) (answers : List Reply) (queue : List Accepted) → Moves it (gives_none it answers queue).after
none_given it answers [] = stays it.epochs
none_given it answers (accepted ∷ others) = stays it.epochs

asked : (cfg : Config) (it : Followed) (answers : List Reply) (epoch : ℕ) (rs : List Reply) → Moves it (gives_asked cfg it answers epoch rs).after
asked cfg it answers epoch [] = none_given it answers it.queue
asked cfg it answers epoch (replies.Given head payload ∷ others) = nexted cfg (record it { turn = true; records = suc it.records }) payload _
asked cfg it answers epoch (replies.Empty ∷ others) = asked cfg it answers (suc epoch) others
asked cfg it answers epoch (replies.Over ∷ others) = asked cfg it answers (suc epoch) others

pub asking_moves : (it : Followed) (releaser : ℕ) → Moves it (after_asking it releaser)
asking_moves it releaser = behind (oldest it) it.epochs (asked_all releaser (replies_in it) (open_epochs it)) (asked_extends releaser (replies_in it) (open_epochs it))

released : (cfg : Config) (it : Followed) (releaser : ℕ) → Moves it (gives_asked cfg (after_asking it releaser) (replies_in it) (oldest it) (replies_in it)).after
released cfg it releaser =
    further it.epochs (after_asking it releaser).epochs _ (asking_moves it releaser) (asked cfg (after_asking it releaser) (replies_in it) (oldest it) (replies_in it))

taken : (cfg : Config) (it : Followed) (releaser : ℕ) (turn : Bool) (queue : List Accepted) → Moves it (takes_in_turn cfg it releaser turn queue).after
taken cfg it releaser turn [] = released cfg it releaser
taken cfg it releaser true (accepted ∷ others) = stays it.epochs
taken cfg it releaser false (accepted ∷ others) = released cfg it releaser

pub arrival_extends : (e : FollowedEpoch) (acceptance : Acceptance) (arrival : Arrival) → Extends e (arrived_in e acceptance arrival)
arrival_extends e acceptance arrival = record { config = refl; history = (Arrived arrival ∷ [], refl); teaching = (taught acceptance arrival ∷ [], refl) }

pub event_moves : (cfg : Config) (it : Followed) (event : Event) → Moves it (after_event cfg it event)
event_moves cfg it (Arrives ingest reading bytes) =
    let place = place_for it bytes in
    let epoch = epoch_at cfg it place in
    let arrival = arrival_in epoch ingest reading bytes in
    let arrived : FollowedEpoch = arrived_in epoch (acceptance_in cfg it epoch arrival) arrival in
    behind (oldest it) it.epochs (changed_at place arrived (open_epochs it)) (changed_extends cfg place arrived (open_epochs it) (arrival_extends epoch (acceptance_in cfg it epoch arrival) arrival))
event_moves cfg it (Takes releaser) = taken cfg it releaser it.turn it.queue
event_moves cfg it (Ends ingest) = behind (oldest it) it.epochs (map (ended_in ingest) (open_epochs it)) (ended_extends ingest (open_epochs it))

pub entries_move : (cfg : Config) (entries : List FollowEntry) (it : Followed) → Moves it (fold (λ made entry. after_event cfg made (event_of entry)) it entries)
entries_move cfg [] it = stays it.epochs
entries_move cfg (entry ∷ entries) it =
    further it.epochs (after_event cfg it (event_of entry)).epochs _ (event_moves cfg it (event_of entry)) (entries_move cfg entries (after_event cfg it (event_of entry)))

-- what further entries make has the epochs of the first ones at their places
pub history_moves : (cfg : Config) (h more : List FollowEntry) → AreExtended (followed cfg h).epochs (followed cfg (h ++ more)).epochs
unfolding followed
history_moves cfg h more =
    let step : Followed → FollowEntry → Followed = λ made entry. after_event cfg made (event_of entry) in
    let before = fold step (nothing_followed cfg) h in
    subst (λ (made : Followed). AreExtended before.epochs made.epochs) (sym (fold-append step (nothing_followed cfg) h more)) (entries_move cfg more before)

-- an epoch is open
pub some_epoch : (cfg : Config) (h : List FollowEntry) → 1 ≤ length (followed cfg h).epochs
some_epoch cfg h = some_still (followed cfg []).epochs (followed cfg h).epochs (history_moves cfg [] h) (let none = ap (λ (made : Followed). length made.epochs) (followed_none cfg) in omega (arith, none))
