-- The security condition: what was sent before a kept packet came told no key that reaches its interval.
use Rattle.std.proofs.Common.{◌≡◌, ℕ, zero, suc, ◌+◌, ◌-◌, ◌/◌, ◌<◌, ◌≤◌, ℤ, pos, negsuc, ◌+ℤ◌, ◌-ℤ◌, ◌≤ℤ◌, cond, List, [], ◌∷◌, take, map, Some, None, inl, inr, sym, ap, subst, ◌∙◌, arith}
use Rattle.std.specs.List.{Contains}
use Rattle.std.specs.Prelude.{nat_le, option_map, slice_get, unwrap_or}
use Rattle.std.proofs.Math.Nat.{div-zero, mul-div-le}
use Rattle.std.proofs.lemmas.Bool.{cases_Bool, leb-true}
use Rattle.std.proofs.lemmas.Int.{ints}
use Rattle.std.proofs.lemmas.List.{length-take}
use Rattle.std.proofs.lemmas.Nat.{le-div}
use Rattle.std.proofs.lemmas.Option.{none-some, same_Some, slice_get-map, slice_get_within}
use Rattle.tesla_base.specs.declared.names.Key.{Key}
use Rattle.tesla_base.proofs.Lists.{taken_at}
use Rattle.tesla_clock.specs.Schedule.{Times, bound_of, interval_after}
use Rattle.tesla_fitting.specs.Config.{chain_row}
use Rattle.tesla_fitting.specs.declared.config.Config.{Config}
use Rattle.tesla_frame.specs.Frame.{Frame, IsFrame}
use Rattle.tesla_frame.specs.Reading.{frame_of}
use Rattle.tesla_frame.specs.declared.row.KeyRow.{KeyRow}
use Rattle.tesla_receiver.specs.Arrivals.{KeptAreSafe}
use Rattle.tesla_receiver.specs.History.{arrivals_in}
use Rattle.tesla_receiver.specs.Entries.{Arrival, Entry}
use Rattle.tesla_fitting.specs.Rows.{keys_of}
use Rattle.tesla_sender.specs.Made.{Call, interval_at}
use Rattle.tesla_world.specs.World.{Moment, Sent, Received, Dated, Joined, arrival_at, received_in, dated_of}
use Rattle.tesla_world.specs.Laws.{KeptAreUndisclosed, SecurityCondition}
use Rattle.tesla_world.proofs.Sending.{IsDueKey, call_at, made_due}

-- ---- arrivals

-- what came at a moment stands at the number of what came before
received_among : (world : List Moment) (j reading : ℕ) (bytes : List ℕ) → slice_get world j ≡ Some (Received reading bytes) → slice_get (received_in world) (arrival_at world j) ≡ Some (record { reading = reading; bytes = bytes })
received_among [] j reading bytes at = absurd (none-some (Received reading bytes) at)
received_among (Sent now text ∷ world) zero reading bytes at = absurd (cc)
received_among (Received now text ∷ world) zero reading bytes at = cc
received_among (Sent now text ∷ world) (suc j) reading bytes at = received_among world j reading bytes at
received_among (Received now text ∷ world) (suc j) reading bytes at = received_among world j reading bytes at

-- and the arrival of that number is what came
pub received_as : (world : List Moment) (arrivals : List Arrival) (j reading : ℕ) (bytes : List ℕ) (arrival : Arrival) → received_in world ≡ map dated_of arrivals → slice_get world j ≡ Some (Received reading bytes) → slice_get arrivals (arrival_at world j) ≡ Some arrival → dated_of arrival ≡ record { reading = reading; bytes = bytes }
received_as world arrivals j reading bytes arrival received at is =
    let place = arrival_at world j in
    let dated : Dated = record { reading = reading; bytes = bytes } in
    let same : Some (dated_of arrival) ≡ Some dated =
    ap (option_map dated_of) (sym is) ∙ sym (slice_get-map dated_of arrivals place) ∙ ap (λ (ds : List Dated). slice_get ds place) (sym received) ∙ received_among world j reading bytes at in
    same_Some (dated_of arrival) dated same

-- a moment of a front is that of the whole, before its end
before_from : (world : List Moment) (i j : ℕ) (moment : Moment) → slice_get (take j world) i ≡ Some moment → (i < j) × (slice_get world i ≡ Some moment)
before_from world i j moment at =
    let within = slice_get_within (take j world) i moment at in
    let less : i < j = omega (arith, length-take j world) in
    (less, sym (taken_at world i j less) ∙ at)

-- ---- intervals

-- quotients rise, also by 0
quotients_rise : (a b k : ℕ) → a ≤ b → a / k ≤ b / k
quotients_rise a b zero le = let none = div-zero a in omega (arith, none)
quotients_rise a b (suc k) le = le-div (a / suc k) b (suc k) (omega arith) (let least = mul-div-le a (suc k) in grind arith)

-- a reading that many microseconds after the start at most is of the interval there or an earlier one
interval_below : (times : Times) (time : ℤ) (sent bound : ℕ) → (pos sent -ℤ pos times.start) ≤ℤ time → interval_after times.length time ≡ Some bound → interval_at times sent ≤ bound
interval_below times (negsuc time) sent bound before is = absurd (none-some bound is)
interval_below times (pos time) sent bound before is =
    let at : time / times.length ≡ bound = same_Some (time / times.length) bound is in
    elim (cases_Bool (nat_le times.start sent)) [
      | inl started ↦
          let first : times.start ≤ sent = leb-true times.start sent started in
          let less : sent - times.start ≤ time = omega (arith, ints) in
          let rise = quotients_rise (sent - times.start) time times.length less in
          let interval : interval_at times sent ≡ (sent - times.start) / times.length = ap (λ b. unwrap_or (cond b (Some ((sent - times.start) / times.length)) None) 0) started in
          omega (arith, rise, interval, at)
      | inr not_yet ↦
          let interval : interval_at times sent ≡ 0 = ap (λ b. unwrap_or (cond b (Some ((sent - times.start) / times.length)) None) 0) not_yet in
          omega (arith, interval)
    ]

-- what was sent at most the lag after the reading was sent in the interval of the bound or before
pub sent_within : (times : Times) (lag : ℤ) (sent received bound : ℕ) → pos sent ≤ℤ (pos received +ℤ lag) → bound_of times lag received ≡ Some bound → interval_at times sent ≤ bound
unfolding bound_of
sent_within times lag sent received bound before is = interval_below times ((pos received +ℤ lag) -ℤ pos times.start) sent bound (omega (arith, ints)) is

-- ---- the law

-- a key that is due in an interval which the bound allows is of an earlier interval than a packet whose own key can't have been disclosed
earlier : (cfg : Config) (seeds : List Key) (reached bound interval : ℕ) (row : KeyRow) → IsDueKey cfg seeds reached row → reached ≤ bound → bound < interval + (chain_row cfg row.chain.0).delay → row.index < interval
earlier cfg seeds reached bound interval row is within undisclosed =
    let due : row.index + (chain_row cfg row.chain.0).delay ≤ reached = is.due in
    omega arith

-- what frames spell is read
abbrev pub ReadsFrames : Type 0
ReadsFrames = (bytes : List ℕ) (frame : Frame) → IsFrame bytes frame → frame_of bytes ≡ Some frame

-- a key that a sent frame carries is due in the interval of its reading
sent_due : ReadsFrames → (cfg : Config) (seeds : List Key) (world : List Moment) (log : List Call) (history : List Entry) → Joined cfg seeds world log history → (i sent : ℕ) (text : List ℕ) (frame : Frame) (row : KeyRow) → slice_get world i ≡ Some (Sent sent text) → frame_of text ≡ Some frame → Contains (keys_of cfg frame) row → IsDueKey cfg seeds (interval_at cfg.setup.times sent) row
sent_due read cfg seeds world log history joined i sent text frame row at framed carries =
    let number = call_at (record { setup = cfg.setup; seeds = seeds }) log world i sent text joined.sent at in
    let made = number.1 in
    let is_sent = made.is_sent in
    let same : is_sent.frame ≡ frame = same_Some is_sent.frame frame (sym (read text is_sent.frame is_sent.spelled) ∙ framed) in
    subst (λ (n : ℕ). IsDueKey cfg seeds (interval_at cfg.setup.times n) row) (sym is_sent.reading)
    (made_due cfg seeds (take number.0 log) made.call frame row (is_sent.made ∙ ap Some same) carries)

-- what was sent before a kept packet came told no key that reaches its interval
kept_undisclosed : KeptAreSafe → ReadsFrames → (cfg : Config) (seeds : List Key) (world : List Moment) (log : List Call) (history : List Entry) → Joined cfg seeds world log history → KeptAreUndisclosed cfg world history
kept_undisclosed kept_safe read cfg seeds world log history joined bounded j received bytes arrival packet chain received_at_j arrived kept safe i sent text frame row sent_before framed carries own =
    let before = before_from world i j (Sent sent text) sent_before in
    let is_safe = kept_safe cfg history (arrival_at world j) arrival packet chain joined.legal arrived kept safe in
    let due = sent_due read cfg seeds world log history joined i sent text frame row before.1 framed carries in
    let reading : arrival.reading ≡ received = ap (λ (d : Dated). d.reading) (received_as world (arrivals_in history) j received bytes arrival joined.received received_at_j arrived) in
    let bound : bound_of cfg.setup.times cfg.lag received ≡ Some is_safe.bound = subst (λ (n : ℕ). bound_of cfg.setup.times cfg.lag n ≡ Some is_safe.bound) reading is_safe.bounded in
    let within = sent_within cfg.setup.times cfg.lag sent received is_safe.bound (bounded i j sent received text bytes before.0 before.1 received_at_j) bound in
    earlier cfg seeds (interval_at cfg.setup.times sent) is_safe.bound packet.frame.name.interval row due within
    (subst (λ (c : ℕ). is_safe.bound < packet.frame.name.interval + (chain_row cfg c).delay) (sym own) is_safe.undisclosed)

-- what KeptAreSafe and the reading of frames buy
pub secure : KeptAreSafe → ReadsFrames → SecurityCondition
secure kept_safe read cfg seeds world log history joined = record {
  own = λ i sent text frame row at framed carries. (sent_due read cfg seeds world log history joined i sent text frame row at framed carries).own;
  undisclosed = kept_undisclosed kept_safe read cfg seeds world log history joined;
}
