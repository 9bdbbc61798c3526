-- What is so of all that events made when a take was answered that all is over, and what stays so of it without arrivals.
use Rattle.std.proofs.Common.{◌≡◌, ◌∙◌, ◌||◌, ℕ, suc, ◌≤◌, Bool, true, false, None, List, [], ◌∷◌, ◌++◌, length, map, refl, sym, ap, subst, ⊎_elim, arith}
use Rattle.std.specs.Prelude.{if◌then◌else◌}
use Rattle.std.specs.List.{AllByRecursion, fold, list_all, range_with_len, sum_by}
use Rattle.std.proofs.lemmas.List.{append-nil, length-map}
use Rattle.std.proofs.lemmas.List.Folds.{list_any-append}
use Rattle.std.proofs.lemmas.List.Sums.{sum_by-cons}
use Rattle.std.proofs.lemmas.Option.{slice_get_cases}
use Rattle.tesla_base.proofs.Lists.{list_all_weaker}
use Rattle.tesla_fitting.specs.declared.config.Config.{Config}
use Rattle.tesla_receiver.specs.Entries as receiving
use Rattle.tesla_receiver.specs.Events.{waiting_in}
use Rattle.tesla_receiver.specs.History.{arrival_in, arrivals_in, given_in, has_end, reply_to, reply_with}
use Rattle.tesla_receiver.specs.Packets.{released}
use Rattle.tesla_receiver.specs.declared.history.Entry.TheVariants.{Arrived, Taken, Ended}
use Rattle.tesla_receiver.proofs.Events.{arrivals_more, given_rises}
use Rattle.tesla_rollover.specs.Epochs.{up_to_given}
use Rattle.tesla_rollover.specs.Replies.{is_over}
use Rattle.tesla_state.specs.declared.replies.Reply.{Reply}
use Rattle.tesla_state.specs.declared.replies.Reply.TheVariants as replies
use Rattle.tesla_follow.specs.declared.answers.FollowReply.{FollowReply}
use Rattle.tesla_follow.specs.declared.answers.FollowReply.TheVariants.{Empty, Over}
use Rattle.tesla_follow.specs.Counted.{waiting_over}
use Rattle.tesla_follow.specs.Followed.{Accepted, Followed, FollowedEpoch, after_asking, after_end, asked_all, ended_in, gives_asked, gives_none, oldest, open_epochs, replies_in, takes_in_turn, takes_one}
use Rattle.tesla_follow.specs.History.{FollowEntry, after_event, event_of}
use Rattle.tesla_follow.specs.Kept.{reply_of}
use Rattle.tesla_follow.proofs.Moved.{changed_open}

-- ---- one epoch

-- all that is released was given, and all ingests have ended
pub record IsOver (e : FollowedEpoch) : Type 0 where
  pub none : length (released e.config (arrivals_in e.history)) ≤ given_in e.history
  pub ended : list_all (has_end e.history) (range_with_len 0 e.config.ingests) ≡ true

ended_if : (e : FollowedEpoch) (ended : Bool) → reply_with (arrivals_in e.history) (given_in e.history) None ended ≡ replies.Over → ended ≡ true
ended_if e true over = refl
ended_if e false over = absurd cc

-- where a take is answered so, and only there
answered : (e : FollowedEpoch) → reply_of e ≡ replies.Over → IsOver e
unfolding reply_to
answered e over =
    let ended : Bool = list_all (has_end e.history) (range_with_len 0 e.config.ingests) in
    ⊎_elim
    (λ p. let clash : false ≡ true = ap is_over (sym (ap (λ o. reply_with (arrivals_in e.history) (given_in e.history) o ended) p.2) ∙ over) in absurd cc)
    (λ p. record { none = p.0; ended = ended_if e ended (sym (ap (λ o. reply_with (arrivals_in e.history) (given_in e.history) o ended) p.1) ∙ over) })
    (slice_get_cases (released e.config (arrivals_in e.history)) (given_in e.history)).1

answers : (e : FollowedEpoch) → IsOver e → reply_of e ≡ replies.Over
unfolding reply_to
answers e it =
    let ended : Bool = list_all (has_end e.history) (range_with_len 0 e.config.ingests) in
    let few = it.none in
    ⊎_elim
    (λ p. let more = p.1 in absurd (omega (arith, few, more)))
    (λ p. ap (λ o. reply_with (arrivals_in e.history) (given_in e.history) o ended) p.1 ∙ ap (λ b. reply_with (arrivals_in e.history) (given_in e.history) None b) it.ended)
    (slice_get_cases (released e.config (arrivals_in e.history)) (given_in e.history)).1

or_left : (a b : Bool) → a ≡ true → (a || b) ≡ true
or_left true b is = refl
or_left false b is = absurd cc

-- it stays so behind an entry that is no arrival
still : (e : FollowedEpoch) (entry : receiving.Entry) (teaching : List receiving.Entry) → arrival_in entry ≡ [] → IsOver e → IsOver (record { config = e.config; history = e.history ++ entry ∷ []; teaching = teaching })
still e entry teaching none it =
    let same : arrivals_in (e.history ++ entry ∷ []) ≡ arrivals_in e.history = arrivals_more e.history entry ∙ ap (λ xs. arrivals_in e.history ++ xs) none ∙ append-nil (arrivals_in e.history) in
    let few : length (released e.config (arrivals_in (e.history ++ entry ∷ []))) ≡ length (released e.config (arrivals_in e.history)) = ap (λ xs. length (released e.config xs)) same in
    record {
      none = omega (arith, few, it.none, given_rises e.history (entry ∷ []));
      ended = list_all_weaker (has_end e.history) (has_end (e.history ++ entry ∷ [])) (range_with_len 0 e.config.ingests)
          (λ k has. list_any-append _ e.history (entry ∷ []) ∙ or_left (has_end e.history k) (has_end (entry ∷ []) k) has) it.ended;
    }

-- ---- the epochs that are open

abbrev pub AreOver : List FollowedEpoch → Type 0
AreOver es = AllByRecursion IsOver es

asked_first : (releaser : ℕ) (e : FollowedEpoch) (es : List FollowedEpoch) (reply : Reply) → reply ≡ replies.Over → IsOver e → AreOver (asked_all releaser (up_to_given (map reply_of es)) es) → AreOver (asked_all releaser (up_to_given (reply ∷ map reply_of es)) (e ∷ es))
asked_first releaser e es (replies.Given head payload) is own rest = absurd cc
asked_first releaser e es replies.Empty is own rest = absurd cc
asked_first releaser e es replies.Over is own rest = (still e (Taken releaser replies.Over) (e.teaching ++ Taken releaser replies.Over ∷ []) refl own, rest)

asked_over : (releaser : ℕ) (es : List FollowedEpoch) → AreOver es → AreOver (asked_all releaser (up_to_given (map reply_of es)) es)
asked_over releaser [] all = tt
asked_over releaser (e ∷ es) all = asked_first releaser e es (reply_of e) (answers e all.0) all.0 (asked_over releaser es all.1)

asked_count : (releaser : ℕ) (rs : List Reply) (es : List FollowedEpoch) → length (asked_all releaser rs es) ≡ length es
asked_count releaser [] es = refl
asked_count releaser (r ∷ rs) [] = refl
asked_count releaser (r ∷ rs) (e ∷ es) = ap suc (asked_count releaser rs es)

ended_over : (ingest : ℕ) (es : List FollowedEpoch) → AreOver es → AreOver (map (ended_in ingest) es)
ended_over ingest [] all = tt
ended_over ingest (e ∷ es) all = (still e (Ended ingest) (e.teaching ++ Ended ingest ∷ []) refl all.0, ended_over ingest es all.1)

answer_first : (reply : Reply) (rs : List Reply) → reply ≡ replies.Over → list_all is_over (up_to_given rs) ≡ true → list_all is_over (up_to_given (reply ∷ rs)) ≡ true
answer_first (replies.Given head payload) rs is rest = absurd cc
answer_first replies.Empty rs is rest = absurd cc
answer_first replies.Over rs is rest = rest

all_over : (es : List FollowedEpoch) → AreOver es → list_all is_over (up_to_given (map reply_of es)) ≡ true
all_over [] all = refl
all_over (e ∷ es) all = answer_first (reply_of e) (map reply_of es) (answers e all.0) (all_over es all.1)

over_first : (e : FollowedEpoch) (es : List FollowedEpoch) (reply : Reply) → reply_of e ≡ reply → (list_all is_over (up_to_given (map reply_of es)) ≡ true → AreOver es) → list_all is_over (up_to_given (reply ∷ map reply_of es)) ≡ true → AreOver (e ∷ es)
over_first e es (replies.Given head payload) is rest all = absurd cc
over_first e es replies.Empty is rest all = absurd cc
over_first e es replies.Over is rest all = (answered e is, rest all)

over_all : (es : List FollowedEpoch) → list_all is_over (up_to_given (map reply_of es)) ≡ true → AreOver es
over_all [] all = tt
over_all (e ∷ es) all = over_first e es (reply_of e) refl (over_all es) all

waits_none : (es : List FollowedEpoch) → AreOver es → sum_by (λ (e : FollowedEpoch). waiting_in e.config e.history) es ≡ 0
waits_none [] all = refl
waits_none (e ∷ es) all = omega (arith, sum_by-cons (λ (one : FollowedEpoch). waiting_in one.config one.history) e es, all.0.none, waits_none es all.1)

-- ---- all

-- no message waits, and in all epochs that are open all is over
pub record IsAllOver (it : Followed) : Type 0 where
  pub none : it.queue ≡ []
  pub over : AreOver (open_epochs it)

pub none_waits : (it : Followed) → IsAllOver it → waiting_over it ≡ 0
none_waits it all = omega (arith, ap length all.none, waits_none (open_epochs it) all.over)

gives_over : (cfg : Config) (it : Followed) (all : List Reply) (epoch : ℕ) (rs : List Reply) → list_all is_over rs ≡ true → gives_asked cfg it all epoch rs ≡ gives_none it all it.queue
gives_over cfg it all epoch [] are = refl
gives_over cfg it all epoch (replies.Given head payload ∷ rs) are = absurd cc
gives_over cfg it all epoch (replies.Empty ∷ rs) are = absurd cc
gives_over cfg it all epoch (replies.Over ∷ rs) are = gives_over cfg it all (suc epoch) rs are

-- a take changes nothing but the histories of the epochs that were asked
taken_after : (cfg : Config) (it : Followed) (releaser : ℕ) → IsAllOver it → (takes_one cfg it releaser).after ≡ after_asking it releaser
taken_after cfg it releaser all =
    ap (λ (queue : List Accepted). (takes_in_turn cfg it releaser it.turn queue).after) all.none
    ∙ ap (λ (takes : _). takes.after) (gives_over cfg (after_asking it releaser) (replies_in it) (oldest it) (replies_in it) (all_over (open_epochs it) all.over))
    ∙ ap (λ (queue : List Accepted). (gives_none (after_asking it releaser) (replies_in it) queue).after) all.none

asked_still : (it : Followed) (releaser : ℕ) → IsAllOver it → IsAllOver (after_asking it releaser)
asked_still it releaser all = record {
  none = all.none;
  over = subst AreOver (sym (changed_open it (asked_all releaser (replies_in it) (open_epochs it)) (asked_count releaser (replies_in it) (open_epochs it)))) (asked_over releaser (open_epochs it) all.over);
}

ended_still : (it : Followed) (ingest : ℕ) → IsAllOver it → IsAllOver (after_end it ingest)
ended_still it ingest all = record {
  none = all.none;
  over = subst AreOver (sym (changed_open it (map (ended_in ingest) (open_epochs it)) (length-map (open_epochs it) (ended_in ingest)))) (ended_over ingest (open_epochs it) all.over);
}

-- no entry is an arrival
abbrev pub AreNoArrivals : List FollowEntry → Type 0
AreNoArrivals [] = Unit {0}
AreNoArrivals (Arrived arrival ∷ entries) = ⊥
AreNoArrivals (Taken releaser reply ∷ entries) = AreNoArrivals entries
AreNoArrivals (Ended ingest ∷ entries) = AreNoArrivals entries

-- it stays so behind these
pub over_still : (cfg : Config) (entries : List FollowEntry) (it : Followed) → AreNoArrivals entries → IsAllOver it → IsAllOver (fold (λ made entry. after_event cfg made (event_of entry)) it entries)
over_still cfg [] it none all = all
over_still cfg (Arrived arrival ∷ entries) it none all = absurd none
over_still cfg (Taken releaser reply ∷ entries) it none all =
    over_still cfg entries (takes_one cfg it releaser).after none (subst IsAllOver (sym (taken_after cfg it releaser all)) (asked_still it releaser all))
over_still cfg (Ended ingest ∷ entries) it none all = over_still cfg entries (after_end it ingest) none (ended_still it ingest all)

-- ---- the answer

if_over : (b : Bool) → (let reply : FollowReply = if b then Over else Empty in reply) ≡ Over → b ≡ true
if_over true over = refl
if_over false over = absurd cc

none_over : (it : Followed) (all : List Reply) (queue : List Accepted) → (gives_none it all queue).reply ≡ Over → (queue ≡ []) × (list_all is_over all ≡ true)
none_over it all [] over = (refl, if_over (list_all is_over all) over)
none_over it all (accepted ∷ others) over = absurd cc

asked_none : (cfg : Config) (it : Followed) (all : List Reply) (epoch : ℕ) (rs : List Reply) → (gives_asked cfg it all epoch rs).reply ≡ Over → (it.queue ≡ []) × (list_all is_over all ≡ true)
asked_none cfg it all epoch [] over = none_over it all it.queue over
asked_none cfg it all epoch (replies.Given head payload ∷ rs) over = absurd cc
asked_none cfg it all epoch (replies.Empty ∷ rs) over = asked_none cfg it all (suc epoch) rs over
asked_none cfg it all epoch (replies.Over ∷ rs) over = asked_none cfg it all (suc epoch) rs over

in_turn : (cfg : Config) (it : Followed) (releaser : ℕ) (turn : Bool) (queue : List Accepted) → (takes_in_turn cfg it releaser turn queue).reply ≡ Over → (it.queue ≡ []) × (list_all is_over (replies_in it) ≡ true)
in_turn cfg it releaser turn [] over = asked_none cfg (after_asking it releaser) (replies_in it) (oldest it) (replies_in it) over
in_turn cfg it releaser true (accepted ∷ others) over = absurd cc
in_turn cfg it releaser false (accepted ∷ others) over = asked_none cfg (after_asking it releaser) (replies_in it) (oldest it) (replies_in it) over

-- where a take is answered that all is over, it is
pub over_answered : (cfg : Config) (it : Followed) (releaser : ℕ) → (takes_one cfg it releaser).reply ≡ Over → IsAllOver it
over_answered cfg it releaser over =
    let both = in_turn cfg it releaser it.turn it.queue over in
    record { none = both.0; over = over_all (open_epochs it) both.1 }
