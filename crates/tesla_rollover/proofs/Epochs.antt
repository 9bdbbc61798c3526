-- Each epoch's history is legal for the epoch's configuration.
use Rattle.std.proofs.Common.{◌≡◌, ℕ, zero, suc, ◌+◌, ◌-◌, ◌<◌, ◌≤◌, Bool, true, false, cond, ◌&&◌, nat_lt, ◌==◌, List, [], ◌∷◌, ◌++◌, length, map, take, Option, Some, None, refl, sym, ap, subst, ◌∙◌, ⊎_elim, arith}
use Rattle.std.specs.Prelude.{filter, option_map, slice_get}
use Rattle.std.specs.List.{list_all, range_with_len}
use Rattle.std.proofs.lemmas.Bool.{cases_Bool}
use Rattle.std.proofs.lemmas.Bool.Decides.{nat_tests}
use Rattle.std.proofs.lemmas.List.{append-nil}
use Rattle.tesla_base.specs.declared.release.Head.{Head}
use Rattle.tesla_fitting.specs.declared.config.Config.{Config}
use Rattle.tesla_receiver.specs.History.{Event, Arrives, Takes, Ends, IsLegal, IsLegalAfter, arrivals_in, given_in, has_end, payload_of, reply_to, reply_with}
use Rattle.tesla_receiver.specs.Packets.{released}
use Rattle.tesla_receiver.specs.Entries.{Entry}
use Rattle.tesla_receiver.specs.declared.history.Entry.TheVariants.{Arrived, Taken, Ended}
use Rattle.tesla_receiver.proofs.Events.{legal_at}
use Rattle.tesla_receiver.proofs.Standing as standing
use Rattle.tesla_state.specs.Releases.{head_of}
use Rattle.tesla_state.specs.declared.replies.Reply.{Reply}
use Rattle.tesla_state.specs.declared.replies.Reply.TheVariants.{Given, Empty, Over}
use Rattle.tesla_walks.specs.declared.release.Release.{Release}
use Rattle.tesla_rollover.specs.Epochs.{IsRollLegal, answers_in, arrival_at, epoch_for, next_of, payload_given, reply_at, roll_entry_of, up_to_given}
use Rattle.tesla_rollover.specs.History.{RollEntry, RollTaken, config_at, configs_in, ends_before, entries_on, epoch_count, has_roll_end, history_at, opens, taken_on}
use Rattle.tesla_rollover.specs.Laws.{IsNextReleased}
use Rattle.tesla_rollover.specs.declared.answers.Next.{Next}
use Rattle.tesla_rollover.proofs.Entries.{at_more}
use Rattle.tesla_rollover.proofs.Prefixes.{config_stays}
use Rattle.tesla_rollover.proofs.Legal.{answers_few, entered_legal, epoch_open, none_further, of_legal, past_end}

-- ---- the answers of the epochs that are asked

up_to_at : (replies : List Reply) (k : ℕ) (reply : Reply) → slice_get (up_to_given replies) k ≡ Some reply → slice_get replies k ≡ Some reply
up_to_at [] k reply at = at
up_to_at (Given head payload ∷ replies) zero reply at = at
up_to_at (Given head payload ∷ replies) (suc k) reply at = absurd cc
up_to_at (Empty ∷ replies) zero reply at = at
up_to_at (Empty ∷ replies) (suc k) reply at = up_to_at replies k reply at
up_to_at (Over ∷ replies) zero reply at = at
up_to_at (Over ∷ replies) (suc k) reply at = up_to_at replies k reply at

numbered_at : {A : Type 0} (f : ℕ → A) (a n k : ℕ) (x : A) → slice_get (map f (range_with_len a n)) k ≡ Some x → x ≡ f (a + k)
numbered_at f a zero k x at = absurd cc
numbered_at f a (suc n) zero x at =
    let first : x ≡ f a = cc in
    let here : a ≡ a + zero = omega arith in
    first ∙ ap f here
numbered_at f a (suc n) (suc k) x at =
    let further : a + 1 + k ≡ a + suc k = omega arith in
    numbered_at f (a + 1) n k x at ∙ ap f further

-- each epoch that a take asks answers as its receiver does
pub answer_at : (cfg : Config) (h : List RollEntry) (epoch : ℕ) (reply : Reply) → slice_get (answers_in cfg h) epoch ≡ Some reply → reply ≡ reply_at cfg h epoch
answer_at cfg h epoch reply at =
    let plain : 0 + epoch ≡ epoch = omega arith in
    numbered_at (reply_at cfg h) 0 (epoch_count h) epoch reply (up_to_at (map (reply_at cfg h) (range_with_len 0 (epoch_count h))) epoch reply at) ∙ ap (reply_at cfg h) plain

-- ---- an epoch that is open

same_legal : (cfg : Config) (history : List Entry) → IsLegal cfg history → IsLegal cfg (history ++ [])
same_legal cfg history l = subst (λ (es : List Entry). IsLegal cfg es) (sym (append-nil history)) l

arrived_legal : (cfg : Config) (h : List RollEntry) (ingest reading : ℕ) (bytes : List ℕ) (other epoch : ℕ) (same : Bool) → (other == epoch) ≡ same → IsLegal (config_at cfg h epoch) (history_at cfg.ingests h epoch)
    → IsLegal (config_at cfg h epoch) (history_at cfg.ingests h epoch ++ cond same (Arrived (arrival_at (config_at cfg h other) (history_at cfg.ingests h other) ingest reading bytes) ∷ []) [])
arrived_legal cfg h ingest reading bytes other epoch true same l =
    let e : other ≡ epoch = grind (arith, nat_tests, same) in
    subst (λ (k : ℕ). IsLegal (config_at cfg h epoch) (history_at cfg.ingests h epoch ++ Arrived (arrival_at (config_at cfg h k) (history_at cfg.ingests h k) ingest reading bytes) ∷ [])) (sym e)
    (standing.entered_legal (config_at cfg h epoch) (history_at cfg.ingests h epoch) (Arrives ingest reading bytes) l)
arrived_legal cfg h ingest reading bytes other epoch false same l = same_legal (config_at cfg h epoch) (history_at cfg.ingests h epoch) l

taken_legal : (cfg : Config) (history : List Entry) (releaser : ℕ) (o : Option Reply) → ((reply : Reply) → o ≡ Some reply → reply ≡ reply_to cfg history) → IsLegal cfg history → IsLegal cfg (history ++ taken_on releaser o)
taken_legal cfg history releaser None answered l = same_legal cfg history l
taken_legal cfg history releaser (Some reply) answered l =
    subst (λ (r : Reply). IsLegal cfg (history ++ Taken releaser r ∷ [])) (sym (answered reply refl)) (standing.entered_legal cfg history (Takes releaser) l)

pub never_also : (b : Bool) → (b && false) ≡ false
never_also true = refl
never_also false = refl

-- an epoch that was open before a take doesn't begin with it
pub not_begun : (next : Option Next) (epoch count : ℕ) → epoch < count → (opens next && (epoch == count)) ≡ false
not_begun next epoch count there = ap (λ (b : Bool). opens next && b) (grind (arith, nat_tests, there)) ∙ never_also (opens next)

-- what a take is in the history of an epoch that was open before it
pub taken_open : (ingests releaser epoch : ℕ) (h : List RollEntry) (answers : List Reply) (next : Option Next) → epoch < epoch_count h → entries_on ingests epoch h (RollTaken releaser answers next) ≡ taken_on releaser (slice_get answers epoch)
taken_open ingests releaser epoch h answers next there =
    ap (λ (b : Bool). taken_on releaser (slice_get answers epoch) ++ cond b (ends_before ingests h) []) (not_begun next epoch (epoch_count h) there) ∙ append-nil (taken_on releaser (slice_get answers epoch))

open_legal : (cfg : Config) (h : List RollEntry) (enough : Bool) (event : Event) (epoch : ℕ) → epoch < epoch_count h → IsLegal (config_at cfg h epoch) (history_at cfg.ingests h epoch)
    → IsLegal (config_at cfg h epoch) (history_at cfg.ingests h epoch ++ entries_on cfg.ingests epoch h (roll_entry_of cfg h enough event))
open_legal cfg h enough (Arrives ingest reading bytes) epoch there l =
    arrived_legal cfg h ingest reading bytes (epoch_for cfg h bytes) epoch (epoch_for cfg h bytes == epoch) refl l
open_legal cfg h enough (Takes releaser) epoch there l =
    let answers : List Reply = answers_in cfg h in
    let next : Option Next = option_map (next_of (configs_in cfg h) (length answers - 1) enough) (payload_given answers) in
    subst (λ (es : List Entry). IsLegal (config_at cfg h epoch) (history_at cfg.ingests h epoch ++ es)) (sym (taken_open cfg.ingests releaser epoch h answers next there))
    (taken_legal (config_at cfg h epoch) (history_at cfg.ingests h epoch) releaser (slice_get answers epoch) (answer_at cfg h epoch) l)
open_legal cfg h enough (Ends ingest) epoch there l =
    let within : nat_lt epoch (epoch_count h) ≡ true = grind (arith, nat_tests, there) in
    subst (λ (b : Bool). IsLegal (config_at cfg h epoch) (history_at cfg.ingests h epoch ++ cond b (Ended ingest ∷ []) [])) (sym within)
    (standing.entered_legal (config_at cfg h epoch) (history_at cfg.ingests h epoch) (Ends ingest) l)

-- ---- an epoch that wasn't open

ends_legal : (cfg : Config) (before : List Entry) (ingests : List ℕ) → IsLegalAfter cfg before (map (λ (ingest : ℕ). Ended ingest) ingests)
ends_legal cfg before [] = tt
ends_legal cfg before (ingest ∷ ingests) = (refl, ends_legal cfg (before ++ Ended ingest ∷ []) ingests)

begun_legal : (cfg : Config) (begins : Bool) (ingests : List ℕ) → IsLegal cfg (cond begins (map (λ (ingest : ℕ). Ended ingest) ingests) [])
begun_legal cfg true ingests = ends_legal cfg [] ingests
begun_legal cfg false ingests = tt

-- it has no entries, or the ends that it begins with
new_legal : (own cfg : Config) (h : List RollEntry) (enough : Bool) (event : Event) (epoch : ℕ) → epoch_count h ≤ epoch → IsLegal own (entries_on cfg.ingests epoch h (roll_entry_of cfg h enough event))
new_legal own cfg h enough (Arrives ingest reading bytes) epoch past =
    let within = epoch_open cfg h bytes in
    let other : (epoch_for cfg h bytes == epoch) ≡ false = grind (arith, nat_tests, within, past) in
    subst (λ (b : Bool). IsLegal own (cond b (Arrived (arrival_at (config_at cfg h (epoch_for cfg h bytes)) (history_at cfg.ingests h (epoch_for cfg h bytes)) ingest reading bytes) ∷ []) [])) (sym other) tt
new_legal own cfg h enough (Takes releaser) epoch past =
    let answers : List Reply = answers_in cfg h in
    let next : Option Next = option_map (next_of (configs_in cfg h) (length answers - 1) enough) (payload_given answers) in
    let few = answers_few cfg h in
    subst (λ (o : Option Reply). IsLegal own (taken_on releaser o ++ cond (opens next && (epoch == epoch_count h)) (ends_before cfg.ingests h) [])) (sym (past_end answers epoch (omega (arith, few, past))))
    (begun_legal own (opens next && (epoch == epoch_count h)) (filter (has_roll_end h) (range_with_len 0 cfg.ingests)))
new_legal own cfg h enough (Ends ingest) epoch past =
    let without : nat_lt epoch (epoch_count h) ≡ false = grind (arith, nat_tests, past) in
    subst (λ (b : Bool). IsLegal own (cond b (Ended ingest ∷ []) [])) (sym without) tt

-- ---- any epoch

record EpochsLegal (cfg : Config) (h : List RollEntry) : Type 0 where
  legal : IsRollLegal cfg h
  each : (epoch : ℕ) → IsLegal (config_at cfg h epoch) (history_at cfg.ingests h epoch)

first_legal : (own cfg : Config) (epoch : ℕ) → IsLegal own (history_at cfg.ingests [] epoch)
unfolding history_at
first_legal own cfg epoch = tt

each_event : (cfg : Config) (h : List RollEntry) (enough : Bool) (event : Event) → EpochsLegal cfg h → (epoch : ℕ) → IsLegal (config_at cfg (h ++ roll_entry_of cfg h enough event ∷ []) epoch) (history_at cfg.ingests (h ++ roll_entry_of cfg h enough event ∷ []) epoch)
each_event cfg h enough event before epoch =
    let e : RollEntry = roll_entry_of cfg h enough event in
    let own : Config = config_at cfg (h ++ e ∷ []) epoch in
    subst (λ (es : List Entry). IsLegal own es) (sym (at_more cfg.ingests h e epoch))
    (⊎_elim
    (λ (is : nat_lt epoch (epoch_count h) ≡ true).
    let there : epoch < epoch_count h = grind (arith, nat_tests, is) in
    subst (λ (c : Config). IsLegal c (history_at cfg.ingests h epoch ++ entries_on cfg.ingests epoch h e)) (sym (config_stays cfg h (e ∷ []) epoch there)) (open_legal cfg h enough event epoch there (before.each epoch)))
    (λ (is : nat_lt epoch (epoch_count h) ≡ false).
    let past : epoch_count h ≤ epoch = grind (arith, nat_tests, is) in
    subst (λ (es : List Entry). IsLegal own (es ++ entries_on cfg.ingests epoch h e)) (sym (none_further cfg h before.legal epoch past)) (new_legal own cfg h enough event epoch past))
    (cases_Bool (nat_lt epoch (epoch_count h))))

-- each epoch's history is legal
pub epoch_legal : (cfg : Config) (h : List RollEntry) → IsRollLegal cfg h → (epoch : ℕ) → IsLegal (config_at cfg h epoch) (history_at cfg.ingests h epoch)
epoch_legal cfg h l =
    (of_legal cfg (EpochsLegal cfg) (record { legal = tt; each = λ epoch. first_legal (config_at cfg [] epoch) cfg epoch })
    (λ h enough event before. record { legal = entered_legal cfg h enough event before.legal; each = each_event cfg h enough event before }) h l).each

-- ---- the packets that it gives

gives_next : (cfg : Config) (before : List Entry) (o : Option Release) (over : Bool) (head : Head) (payload : List ℕ) → slice_get (released cfg (arrivals_in before)) (given_in before) ≡ o → Given head payload ≡ reply_with (arrivals_in before) (given_in before) o over
    → IsNextReleased cfg before head payload
gives_next cfg before None true head payload is gave = absurd cc
gives_next cfg before None false head payload is gave = absurd cc
gives_next cfg before (Some release) over head payload is gave =
    let carried : List ℕ = payload_of (slice_get (arrivals_in before) release.place) in
    let same : payload ≡ carried = cc in
    let named : head ≡ head_of (given_in before) release carried = cc in
    record { release = release; next = is; payload_is = same; head_is = named ∙ ap (head_of (given_in before) release) (sym same) }

reply_next : (cfg : Config) (before : List Entry) (head : Head) (payload : List ℕ) → Given head payload ≡ reply_to cfg before → IsNextReleased cfg before head payload
unfolding reply_to
reply_next cfg before head payload gave =
    gives_next cfg before (slice_get (released cfg (arrivals_in before)) (given_in before)) (list_all (has_end before) (range_with_len 0 cfg.ingests)) head payload refl gave

-- each packet that an epoch gives is the next that is released in the epoch's history
pub given_released : (cfg : Config) (h : List RollEntry) (epoch n releaser : ℕ) (head : Head) (payload : List ℕ) → IsRollLegal cfg h → slice_get (history_at cfg.ingests h epoch) n ≡ Some (Taken releaser (Given head payload))
    → IsNextReleased (config_at cfg h epoch) (take n (history_at cfg.ingests h epoch)) head payload
given_released cfg h epoch n releaser head payload l at =
    let before : List Entry = take n (history_at cfg.ingests h epoch) in
    let is : Taken releaser (Given head payload) ≡ Taken releaser (reply_to (config_at cfg h epoch) before) =
    legal_at (config_at cfg h epoch) (history_at cfg.ingests h epoch) n (Taken releaser (Given head payload)) (epoch_legal cfg h l epoch) at in
    reply_next (config_at cfg h epoch) before head payload cc
