-- What events make only grows: the epochs, and the numbers of what happened.
use Rattle.std.proofs.Common.{◌≡◌, ◌∙◌, ℕ, suc, ◌+◌, ◌-◌, ◌^◌, ◌≤◌, ◌==◌, Bool, true, false, cond, List, [], ◌∷◌, ◌++◌, length, Option, Some, None, Result, Ok, Err, sym, ap, subst, arith}
use Rattle.std.specs.List.{fold}
use Rattle.std.proofs.lemmas.List.Concat.{flat_map-append}
use Rattle.std.proofs.lemmas.List.Sums.{sum_by-append}
use Rattle.tesla_commit.specs.Parsing.{judged}
use Rattle.tesla_commit.specs.Parts.{Parts}
use Rattle.tesla_commit.specs.declared.refusal.SetupKind.{SetupKind}
use Rattle.tesla_fitting.specs.declared.config.Config.{Config}
use Rattle.tesla_receiver.specs.Entries.{Arrival, Entry}
use Rattle.tesla_receiver.specs.History.{Event, Arrives, Ends, Takes, arrival_in, arrivals_in, given_in, gives}
use Rattle.tesla_receiver.specs.Report.{count_of, report_of}
use Rattle.tesla_rollover.specs.Handover.{handover_text}
use Rattle.tesla_state.specs.Counting.{line_of}
use Rattle.tesla_state.specs.declared.replies.Reply.{Reply}
use Rattle.tesla_state.specs.declared.replies.Reply.TheVariants as replies
use Rattle.tesla_state.specs.declared.report.Report.{Report}
use Rattle.tesla_follow.specs.declared.answers.FollowNext.{FollowNext}
use Rattle.tesla_follow.specs.declared.answers.FollowNext.TheVariants.{Plain, Old, EpochsSpent, BadSetup, EqualCommitments, UsedStream, Opened}
use Rattle.tesla_follow.specs.Counted.{added, no_report, report_over, sum_of}
use Rattle.tesla_follow.specs.Followed.{Accepted, Followed, FollowedEpoch, after_asking, after_next, after_opening, after_text, gives_asked, gives_none, oldest, replies_in, takes_in_turn}
use Rattle.tesla_follow.specs.History.{FollowEntry, after_event, event_of, followed}
use Rattle.tesla_follow.proofs.Histories.{followed_more}
use Rattle.tesla_follow.proofs.Places.{AreExtended, history_moves}

-- ---- events

-- no number of what happened falls
abbrev AreNoFewer : Followed → Followed → Type 0
AreNoFewer before after = (before.early ≤ after.early) × (before.unqueued ≤ after.unqueued) × (before.dropped ≤ after.dropped)

same_numbers : (it : Followed) → AreNoFewer it it
same_numbers it = (omega arith, omega arith, omega arith)

opened : (cfg : Config) (it : Followed) (r : Result Parts (ℕ × SetupKind)) → AreNoFewer it (after_opening cfg it r)
opened cfg it (Err refused) = same_numbers it
opened cfg it (Ok setup) = (omega arith, omega arith, omega arith)

texted : (cfg : Config) (it : Followed) (text : Option (List ℕ)) → AreNoFewer it (after_text cfg it text)
texted cfg it None = same_numbers it
texted cfg it (Some text) = opened cfg it (judged text)

nexted : (cfg : Config) (it : Followed) (payload : List ℕ) (next : FollowNext) → AreNoFewer it (after_next cfg it payload next)
nexted cfg it payload Opened = texted cfg it (handover_text payload)
nexted cfg it payload Plain = same_numbers it
nexted cfg it payload (Old newest) = same_numbers it
nexted cfg it payload EpochsSpent = same_numbers it
nexted cfg it payload (BadSetup line kind) = same_numbers it
nexted cfg it payload (EqualCommitments chain) = same_numbers it
nexted cfg it payload (UsedStream stream) = same_numbers it

none_given : (it : Followed) (answers : List Reply) (queue : List Accepted) → AreNoFewer it (gives_none it answers queue).after
none_given it answers [] = same_numbers it
none_given it answers (accepted ∷ others) = (omega arith, omega arith, omega arith)

asked : (cfg : Config) (it : Followed) (answers : List Reply) (epoch : ℕ) (rs : List Reply) → AreNoFewer it (gives_asked cfg it answers epoch rs).after
asked cfg it answers epoch [] = none_given it answers it.queue
asked cfg it answers epoch (replies.Given head payload ∷ others) = nexted cfg (record it { turn = true; records = suc it.records }) payload _
asked cfg it answers epoch (replies.Empty ∷ others) = asked cfg it answers (suc epoch) others
asked cfg it answers epoch (replies.Over ∷ others) = asked cfg it answers (suc epoch) others

taken : (cfg : Config) (it : Followed) (releaser : ℕ) (turn : Bool) (queue : List Accepted) → AreNoFewer it (takes_in_turn cfg it releaser turn queue).after
taken cfg it releaser turn [] = asked cfg (after_asking it releaser) (replies_in it) (oldest it) (replies_in it)
taken cfg it releaser true (accepted ∷ others) = (omega arith, omega arith, omega arith)
taken cfg it releaser false (accepted ∷ others) = asked cfg (after_asking it releaser) (replies_in it) (oldest it) (replies_in it)

event_numbers : (cfg : Config) (it : Followed) (event : Event) → AreNoFewer it (after_event cfg it event)
event_numbers cfg it (Arrives ingest reading bytes) = (omega arith, omega arith, omega arith)
event_numbers cfg it (Takes releaser) = taken cfg it releaser it.turn it.queue
event_numbers cfg it (Ends ingest) = same_numbers it

-- ---- one entry more

-- the epochs are extended, and no number of what happened falls
abbrev pub Rises : Followed → Followed → Type 0
Rises before after = AreExtended before.epochs after.epochs × (before.early ≤ after.early) × (before.unqueued ≤ after.unqueued) × (before.dropped ≤ after.dropped)

pub entry_rises : (cfg : Config) (h : List FollowEntry) (e : FollowEntry) → Rises (followed cfg h) (followed cfg (h ++ e ∷ []))
entry_rises cfg h e =
    let (early, unqueued, dropped) = subst (λ (made : Followed). AreNoFewer (followed cfg h) made) (sym (followed_more cfg h e)) (event_numbers cfg (followed cfg h) (event_of e)) in
    (history_moves cfg h (e ∷ []), early, unqueued, dropped)

extended_length : (es fs : List FollowedEpoch) → AreExtended es fs → length es ≤ length fs
extended_length [] fs extended = omega arith
extended_length (e ∷ es) [] extended = absurd extended
extended_length (e ∷ es) (f ∷ fs) extended = let rest = extended_length es fs extended.1 in omega (arith, rest)

-- as many epochs at least
pub rises_length : (before after : Followed) → Rises before after → length before.epochs ≤ length after.epochs
rises_length before after rises = extended_length before.epochs after.epochs rises.0

-- ---- reports

-- the arrivals with a verdict are no fewer in a history that is extended
pub verdicts_rise : (line : ℕ) (h more : List Entry) → count_of line (arrivals_in h) ≤ count_of line (arrivals_in (h ++ more))
verdicts_rise line h more =
    let one : Arrival → ℕ = λ arrival. cond (line_of arrival.verdict == line) 1 0 in
    let whole : count_of line (arrivals_in (h ++ more)) ≡ count_of line (arrivals_in h) + count_of line (arrivals_in more) =
    ap (count_of line) (flat_map-append arrival_in h more) ∙ sum_by-append one (arrivals_in h) (arrivals_in more) in
    omega (arith, whole)

pub given_rises : (h more : List Entry) → given_in h ≤ given_in (h ++ more)
given_rises h more =
    let whole : given_in (h ++ more) ≡ given_in h + given_in more = sum_by-append (λ x. cond (gives x) 1 0) h more in
    omega (arith, whole)

-- a count of a report that doesn't fall in a history that is extended doesn't fall over epochs that are extended
module _ (count : Report → ℕ) (added_is : (a b : Report) → count (added a b) ≡ sum_of (count a) (count b)) (extended : (h more : List Entry) → count (report_of h) ≤ count (report_of (h ++ more))) where
  -- the counts of further epochs are added to it
  counts_more : (so_far : Report) (es : List FollowedEpoch) → count so_far ≤ 2 ^ 64 - 1 → count so_far ≤ count (fold (λ report epoch. added report (report_of epoch.history)) so_far es)
  counts_more so_far [] few = omega arith
  counts_more so_far (e ∷ es) few =
      let sum = added_is so_far (report_of e.history) in
      let rest = counts_more (added so_far (report_of e.history)) es (omega (arith, sum)) in
      omega (arith, few, sum, rest)

  counts_rise : (a b : Report) (es fs : List FollowedEpoch) → count a ≤ count b → count b ≤ 2 ^ 64 - 1 → AreExtended es fs
      → count (fold (λ report epoch. added report (report_of epoch.history)) a es) ≤ count (fold (λ report epoch. added report (report_of epoch.history)) b fs)
  counts_rise a b [] fs rises few extension = let rest = counts_more b fs few in omega (arith, rises, rest)
  counts_rise a b (e ∷ es) [] rises few extension = absurd extension
  counts_rise a b (e ∷ es) (f ∷ fs) rises few extension =
      let one : count (report_of e.history) ≤ count (report_of f.history) = subst (λ (h : List Entry). count (report_of e.history) ≤ count (report_of h)) (sym extension.0.history.1) (extended e.history extension.0.history.0) in
      let first = added_is a (report_of e.history) in
      let second = added_is b (report_of f.history) in
      counts_rise (added a (report_of e.history)) (added b (report_of f.history)) es fs (omega (arith, rises, one, first, second)) (omega (arith, second)) extension.1

  pub report_rises : count no_report ≡ 0 → (before after : Followed) → Rises before after → count (report_over before.epochs) ≤ count (report_over after.epochs)
  report_rises none before after rises = counts_rise no_report no_report before.epochs after.epochs (omega arith) (omega (arith, none)) rises.0
