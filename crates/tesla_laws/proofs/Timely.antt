-- When a feed tells keys, by a clock that isn't set.
use Rattle.std.proofs.Common.{◌≡◌, ℕ, ◌≤◌, false, List, [], ◌∷◌, map, refl, subst, arith}
use Rattle.std.specs.List.{AllByRecursion, Contains}
use Rattle.std.proofs.lemmas.List.Elements.{Contains-append_right}
use Rattle.tesla_sender.specs.Made.{Call, Message, Disclose, Stream, reading_of}
use Rattle.tesla_world.proofs.Sending.{made_due}
use Rattle.tesla_feed.specs.Fed.{Event, fed, first_interval, is_unread}
use Rattle.tesla_feed.specs.Fed as feeds
use Rattle.tesla_laws.specs.Laws.{FeedsTellOnTime, Timed, event_of}
use Rattle.tesla_feed.proofs.Kept.{log_read}
use Rattle.tesla_feed.proofs.Logs.{KeptByCalls, each_more, fed_keeps, intervals_rise, none_within}

-- ---- where each call comes from

-- one of these events happened at the reading
record IsReadAt (events : List Timed) (reading : ℕ) : Type 0 where
  one : Timed
  among : Contains events one
  is : reading ≡ feeds.reading_of one.event

-- a call was made at the reading of one of these events, which the clock gave
record IsMadeAt (events : List Timed) (call : Call) : Type 0 where
  at : IsReadAt events (reading_of call)
  read : is_unread (reading_of call) ≡ false

-- each event happened at its own reading
all_read : (whole events : List Timed) → ((one : Timed) → Contains events one → Contains whole one) → AllByRecursion (λ event. IsReadAt whole (feeds.reading_of event)) (map event_of events)
all_read whole [] within = tt
all_read whole (one ∷ events) within = (
  record { one = one; among = within one (0, omega arith, refl); is = refl },
  all_read whole events (λ other has. within other (Contains-append_right (one ∷ []) events other has)),
)

-- each call of a feed was made at an event
made_at : (stream : Stream) (opening : ℕ) (events : List Timed) (call : Call) → Contains (fed stream opening (map event_of events)).log call → IsMadeAt events call
made_at stream opening events call has =
    let Q : Call → Type 0 = λ call. IsMadeAt events call in
    let P : List Call → Type 0 = λ log. (call : Call) → Contains log call → Q call in
    let kept : KeptByCalls stream (first_interval stream.setup.times opening) (IsReadAt events) P = record {
      message = λ log reading payload name at read is all. each_more Q log (Message reading payload) all (record { at = at; read = read });
      disclosure = λ log reading at due all. each_more Q log (Disclose reading) all (record { at = at; read = log_read stream (first_interval stream.setup.times opening) log reading due });
    } in
    fed_keeps stream opening (IsReadAt events) P (map event_of events) kept (all_read events events (λ one among. among)) (λ call has. absurd (none_within call has)) call has

-- ---- the law

pub on_time : FeedsTellOnTime
on_time cfg seeds opening events before call frame none_ahead has made =
    let times = cfg.setup.times in
    let of = made_at (record { setup = cfg.setup; seeds = seeds }) opening events call has in
    let one = of.at.one in
    let behind : reading_of call ≤ one.steady = (let read : is_unread (feeds.reading_of one.event) ≡ false = subst (λ (r : ℕ). is_unread r ≡ false) of.at.is of.read in omega (arith, of.at.is, none_ahead one of.at.among read)) in
    let later = intervals_rise times (reading_of call) one.steady behind in
    record {
      one = one;
      among = of.at.among;
      reading = of.at.is;
      read = of.read;
      row_below = λ row carries. (made_due cfg seeds before call frame row made carries).due;
      steady_below = λ row carries. omega (arith, (made_due cfg seeds before call frame row made carries).due, later);
    }
