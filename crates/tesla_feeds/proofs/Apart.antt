-- Feeds over lists that are opened one behind the other make their calls of a stream in different intervals.
use Rattle.std.proofs.Common.{◌≡◌, ℕ, ◌≤◌, ◌<◌, List, [], ◌∷◌, refl, ap, subst, inl, inr, arith}
use Rattle.std.specs.List.{AllByRecursion, Contains}
use Rattle.std.proofs.lemmas.List.Elements.{Contains-append_cases, Contains-push_cases}
use Rattle.tesla_sender.specs.Made.{Call, Message, Disclose, Stream, interval_in, reading_of}
use Rattle.tesla_sender.proofs.Logs.{named}
use Rattle.tesla_feed.specs.Fed.{Event, first_interval, latest_from}
use Rattle.tesla_feed.proofs.Kept.{log_tells}
use Rattle.tesla_feed.proofs.Logs.{each_more, in_interval, intervals_rise, none_within}
use Rattle.tesla_feeds.specs.Fed.{Part, fed_all, lasting, parts_at}
use Rattle.tesla_feeds.specs.Laws.{FeedsApart}
use Rattle.tesla_feeds.proofs.Kept.{KeptByCalls, fed_keeps}

-- no call of a stream is before its first interval, which is the one behind that of the opening
record IsFrom (opening : ℕ) (part : Part) : Type 0 where
  first_is : part.first ≡ first_interval part.stream.setup.times opening
  from : (call : Call) → Contains part.log call → part.first ≤ interval_in part.stream.setup.times call

abbrev IsLate : Part → Call → Type 0
IsLate part call = part.first ≤ interval_in part.stream.setup.times call

from_kept : (opening : ℕ) → KeptByCalls (IsFrom opening)
from_kept opening = record {
  message = λ part reading payload name is kept.
      let of = named part.stream.setup.times (latest_from part.stream.setup.times part.first part.log) _ reading payload name is in
      record { first_is = kept.first_is; from = each_more (IsLate part) part.log (Message reading payload) kept.from (omega (arith, of.later)) };
  handover = λ part reading payload name is kept.
      let of = named part.stream.setup.times (latest_from part.stream.setup.times part.first part.log) _ reading payload name is in
      record { first_is = kept.first_is; from = each_more (IsLate part) part.log (Message reading payload) kept.from (omega (arith, of.later)) };
  disclosure = λ part reading due kept.
      record { first_is = kept.first_is; from = each_more (IsLate part) part.log (Disclose reading) kept.from (log_tells part.stream part.first part.log reading due).begun };
}

opened_from : (opening : ℕ) (streams : List Stream) → AllByRecursion (IsFrom opening) (parts_at opening streams)
opened_from opening [] = tt
opened_from opening (stream ∷ streams) = (record { first_is = refl; from = λ call has. absurd (none_within call has) }, opened_from opening streams)

are_from : (streams : List Stream) (opening : ℕ) (events : List Event) → AllByRecursion (IsFrom opening) (fed_all streams opening events).parts
are_from streams opening events = fed_keeps (IsFrom opening) (from_kept opening) streams opening events (opened_from opening (lasting opening streams))

-- ---- one behind the other

at_part : (P : Part → Type 0) (parts : List Part) (part : Part) → AllByRecursion P parts → Contains parts part → P part
at_part P [] part all has = absurd (none_within part has)
at_part P (first ∷ parts) part all has =
    elim (Contains-append_cases (first ∷ []) parts part has) as (λ _. P part) [
      | inl here ↦ elim (Contains-push_cases [] first part here) as (λ _. P part) [
        | inl none ↦ absurd (none_within part none)
        | inr is ↦ subst P is all.0
      ]
      | inr behind ↦ at_part P parts part all.1 behind
    ]

later : (part other : Part) (call again : Call) (reopening : ℕ) → part.stream ≡ other.stream → reading_of call ≤ reopening → IsFrom reopening other → Contains other.log again
    → interval_in part.stream.setup.times call < interval_in other.stream.setup.times again
later part other call again reopening same before from has =
    let times = part.stream.setup.times in
    let own : first_interval times reopening ≡ first_interval other.stream.setup.times reopening = ap (λ (s : Stream). first_interval s.setup.times reopening) same in
    omega (arith, in_interval times call, intervals_rise times (reading_of call) reopening before, own, from.first_is, from.from again has)

pub all_apart : FeedsApart
all_apart streams others opening reopening events more before part other call again made made_again same =
    later part other call again reopening same (before part call made)
    (at_part (IsFrom reopening) (fed_all others reopening more).parts other (are_from others reopening more) made_again.0) made_again.1
