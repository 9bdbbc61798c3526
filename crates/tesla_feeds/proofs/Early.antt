-- Nothing is made before the first interval of any stream.
use Rattle.std.proofs.Common.{◌≡◌, ◌∙◌, ℕ, ◌<◌, Bool, true, false, List, [], ◌∷◌, map, Option, Some, None, refl, ap, arith}
use Rattle.std.specs.Prelude.{Result, Ok, Err, if◌then◌else◌, not, ◌&&◌, ◌||◌, nat_le}
use Rattle.std.specs.List.{AllByRecursion}
use Rattle.std.proofs.lemmas.Bool.{leb-false}
use Rattle.tesla_base.specs.declared.names.Name.{Name}
use Rattle.tesla_commit.specs.Parts.{Parts}
use Rattle.tesla_sender.specs.Made.{Disclose, Stream}
use Rattle.tesla_sender.specs.declared.refusal.SendRefusal.{SendRefusal}
use Rattle.tesla_sender.proofs.Logs.{named}
use Rattle.tesla_feed.specs.Fed.{Rested, has_begun, is_due, is_unread, latest_from, name_from}
use Rattle.tesla_feed.specs.Feed.{rested_at}
use Rattle.tesla_feeds.specs.Fed.{AllDone, Done, Fed, Part, after_event, after_keys, after_missed, after_read, call_done, disclosed, done_behind, done_each, done_on, both_done, handed_as, handed_over, handed_to, interval_of_part, is_on, may_hand_over, nothing_done, one_done, opened_with, parts_at, with_done, with_handovers}
use Rattle.tesla_feeds.specs.Going.{fed_after}
use Rattle.tesla_feeds.specs.Opening.{begins_by, opened_at, some_begun}
use Rattle.tesla_feeds.specs.Order.{handover_to}

-- ---- tests

pub or_first : (a b : Bool) → (a || b) ≡ false → a ≡ false
or_first true b none = none
or_first false b none = refl

pub or_second : (a b : Bool) → (a || b) ≡ false → b ≡ false
or_second true b none = absurd cc
or_second false b none = none

pub and_first : (a b : Bool) → a ≡ false → (a && b) ≡ false
and_first true b none = absurd cc
and_first false b none = refl

-- ---- one stream

-- its first interval hasn't begun
abbrev pub IsEarly : ℕ → Part → Type 0
IsEarly reading part = has_begun part.stream.setup.times part.first reading ≡ false

before_first : (unread : Bool) (first interval : ℕ) → (not unread && nat_le first interval) ≡ false → unread ≡ false → interval < first
before_first true first interval none read = absurd cc
before_first false first interval none read = leb-false first interval none

handed_none : (part : Part) (reading : ℕ) (payload : List ℕ) (name : Result Name SendRefusal) → interval_of_part part reading < part.first → name_from part.stream.setup.times part.first part.log reading payload ≡ name → handed_as part reading payload name ≡ nothing_done part
handed_none part reading payload (Ok name) early is =
    let of = named part.stream.setup.times (latest_from part.stream.setup.times part.first part.log) _ reading payload name is in
    absurd (omega (arith, early, of.later))
handed_none part reading payload (Err refusal) early is = refl

handed_where : (part : Part) (reading : ℕ) (next : Parts) (may : Bool) → interval_of_part part reading < part.first
    → (if may then handed_as part reading (handover_to next) (name_from part.stream.setup.times part.first part.log reading (handover_to next)) else nothing_done part) ≡ nothing_done part
handed_where part reading next true early = handed_none part reading (handover_to next) _ early refl
handed_where part reading next false early = refl

over_none : (part : Part) (reading : ℕ) (next : Option Parts) → interval_of_part part reading < part.first → handed_to reading part next ≡ nothing_done part
over_none part reading None early = refl
over_none part reading (Some next) early = handed_where part reading next (may_hand_over part next reading) early

pub told_where : (part : Part) (reading : ℕ) (due : Bool) → due ≡ false → (if due then call_done part (Disclose reading) else nothing_done part) ≡ nothing_done part
told_where part reading true none = absurd cc
told_where part reading false none = refl

told_none : (part : Part) (reading : ℕ) → IsEarly reading part → disclosed reading part ≡ nothing_done part
told_none part reading early = told_where part reading (is_due part.stream part.first part.log reading) (and_first (has_begun part.stream.setup.times part.first reading) _ early)

-- ---- all streams

abbrev pub quiet : List Part → AllDone
quiet parts = record { parts = parts; calls = []; frames = []; refused = [] }

on_where : (act : Part → Done) (reading : ℕ) (part : Part) (parts : List Part) (on : Bool) → act part ≡ nothing_done part → done_on act reading parts ≡ quiet parts
    → (if on then one_done (act part) parts else done_behind part (done_on act reading parts)) ≡ quiet (part ∷ parts)
on_where act reading part parts true here behind = ap (λ (d : Done). one_done d parts) here
on_where act reading part parts false here behind = ap (done_behind part) behind

on_none : (act : Part → Done) (reading : ℕ) (parts : List Part) → AllByRecursion (λ part. act part ≡ nothing_done part) parts → done_on act reading parts ≡ quiet parts
on_none act reading [] none = refl
on_none act reading (part ∷ parts) none = on_where act reading part parts (is_on reading part parts) none.0 (on_none act reading parts none.1)

pub each_none : (act : Part → Done) (parts : List Part) → AllByRecursion (λ part. act part ≡ nothing_done part) parts → done_each act parts ≡ quiet parts
each_none act [] none = refl
each_none act (part ∷ parts) none = ap (λ (d : Done). both_done d (done_each act parts)) none.0 ∙ ap (both_done (nothing_done part)) (each_none act parts none.1)

module _ (reading : ℕ) (read : is_unread reading ≡ false) where
  pub hand_none : (parts : List Part) → AllByRecursion (IsEarly reading) parts → AllByRecursion (λ part. handed_over reading part ≡ nothing_done part) parts
  hand_none [] early = tt
  hand_none (part ∷ parts) early = (over_none part reading part.next (before_first (is_unread reading) part.first (interval_of_part part reading) early.0 read), hand_none parts early.1)

  pub tell_none : (parts : List Part) → AllByRecursion (IsEarly reading) parts → AllByRecursion (λ part. disclosed reading part ≡ nothing_done part) parts
  tell_none [] early = tt
  tell_none (part ∷ parts) early = (told_none part reading early.0, tell_none parts early.1)

  read_none : (parts : List Part) → AllByRecursion (IsEarly reading) parts → after_read reading None (opened_with parts) ≡ opened_with parts
  read_none parts early =
      ap (after_keys reading) (ap (with_handovers (opened_with parts)) (on_none (handed_over reading) reading parts (hand_none parts early)))
      ∙ ap (with_done (opened_with parts)) (each_none (disclosed reading) parts (tell_none parts early))

item_where : (parts : List Part) (reading : ℕ) (unread : Bool) → is_unread reading ≡ unread → AllByRecursion (IsEarly reading) parts → (if unread then after_missed None (opened_with parts) else after_read reading None (opened_with parts)) ≡ opened_with parts
item_where parts reading true is early = refl
item_where parts reading false is early = read_none reading is parts early

-- ---- before the first interval

pub none_begun : (streams : List Stream) (opening reading : ℕ) → some_begun streams opening reading ≡ false → AllByRecursion (IsEarly reading) (parts_at opening streams)
none_begun [] opening reading none = tt
none_begun (stream ∷ streams) opening reading none =
    let first = begins_by opening reading stream in
    let others = some_begun streams opening reading in
    (or_first first others none, none_begun streams opening reading (or_second first others none))

-- nothing is made at a rest
pub waits_made : (streams : List Stream) (opening reading : ℕ) → some_begun streams opening reading ≡ false → after_event (opened_at opening streams) (Rested reading) ≡ opened_at opening streams
waits_made streams opening reading none = item_where (parts_at opening streams) reading (is_unread reading) refl (none_begun streams opening reading none)

-- nor at many
pub waits_fed : (streams : List Stream) (opening : ℕ) (early : List ℕ) → AllByRecursion (λ reading. some_begun streams opening reading ≡ false) early → fed_after (opened_at opening streams) (map rested_at early) ≡ opened_at opening streams
waits_fed streams opening [] waits = refl
waits_fed streams opening (reading ∷ early) waits = ap (λ (f : Fed). fed_after f (map rested_at early)) (waits_made streams opening reading waits.0) ∙ waits_fed streams opening early waits.1
