-- No arrival of what was sent is from the future: the bound is at least the interval in which it was sent.
use Rattle.std.proofs.Common.{◌≡◌, ℕ, ◌-◌, ◌/◌, ◌≤◌, ℤ, pos, negsuc, ◌+ℤ◌, ◌-ℤ◌, ◌≤ℤ◌, Bool, true, false, cond, ◌||◌, ◌==◌, List, [], ◌∷◌, ◌++◌, take, Option, Some, None, inl, inr, refl, sym, ap, subst, ◌∙◌, arith}
use Rattle.std.specs.Prelude.{nat_le, not, find, option_map, unwrap_or}
use Rattle.std.specs.List.{list_any}
use Rattle.std.proofs.lemmas.Bool.{cases_Bool, leb-true}
use Rattle.std.proofs.lemmas.Int.{ints}
use Rattle.tesla_base.specs.declared.names.StreamId.{StreamId}
use Rattle.tesla_clock.specs.Schedule.{Times, bound_of, interval_after}
use Rattle.tesla_fitting.specs.Fitting.{is_future, is_misfit, stream_of}
use Rattle.tesla_fitting.specs.Rows.{keys_of}
use Rattle.tesla_fitting.specs.declared.config.Config.{Config}
use Rattle.tesla_fitting.specs.declared.verdict.Verdict.{Verdict}
use Rattle.tesla_fitting.specs.declared.verdict.Verdict.TheVariants.{Foreign, Misfit, Future, BadKey, Late, Repeat, Full, Kept}
use Rattle.tesla_frame.specs.Frame.{Frame, Data, Disclosure}
use Rattle.tesla_frame.specs.Reading.{frame_of}
use Rattle.tesla_frame.specs.declared.row.KeyRow.{KeyRow}
use Rattle.tesla_receiver.specs.Answer.{is_bad, late_arrival, safe_chains, verdict_of, verdict_on, verdict_taken}
use Rattle.tesla_receiver.specs.Held.{held_of}
use Rattle.tesla_receiver.specs.History.{arrivals_in}
use Rattle.tesla_receiver.specs.Packets.{released}
use Rattle.tesla_receiver.specs.Entries.{Arrival}
use Rattle.tesla_receiver.proofs.Arrivals.{HasVerdict, verdict_at}
use Rattle.tesla_sender.specs.Made.{interval_at}
use Rattle.tesla_state.specs.Releases.{has_name}
use Rattle.tesla_world.specs.Laws.{FutureLaw}
use Rattle.tesla_world.specs.World.{Dated, arrival_at, dated_of}
use Rattle.tesla_world.proofs.Security.{ReadsFrames, received_as, sent_within}
use Rattle.tesla_world.proofs.Sending.{call_at, made_begun, made_in_time}

-- ---- which verdict is from the future

-- none on a packet whose keys are taken
packet_not : (late repeat full : Bool) (set : ℕ) (told : Option ℕ)
    → cond late Late (cond repeat Repeat (cond full Full (Kept set))) ≡ Future told → ⊥
packet_not true repeat full set told e = cc
packet_not false true full set told e = cc
packet_not false false true set told e = cc
packet_not false false false set told e = cc

-- nor on any other frame whose keys are taken
taken_not : (cfg : Config) (arrivals : List Arrival) (given : ℕ) (bound : Option ℕ) (frame : Frame) (told : Option ℕ)
    → verdict_taken cfg arrivals given bound frame ≡ Future told → ⊥
taken_not cfg arrivals given bound (Data f) told e =
    let set = safe_chains cfg arrivals bound f.name.interval in
    packet_not (set == 0) (list_any (has_name f.name) (released cfg arrivals))
    (held_of cfg arrivals given None == cfg.capacity || held_of cfg arrivals given (Some f.name.interval) == cfg.quota)
    set told e
taken_not cfg arrivals given bound (Disclosure f) told e = cc

-- of the refusals the third alone
refused_early : (other misfit early : Bool) (stream : StreamId) (bound told : Option ℕ) (bad : Option KeyRow)
    (taken : Verdict)
    → (taken ≡ Future told → ⊥)
    → unwrap_or (cond other (Some (Foreign stream)) (cond misfit (Some Misfit)
    (cond early (Some (Future bound)) (option_map (λ (row : KeyRow). BadKey row.chain) bad)))) taken ≡ Future told
    → early ≡ true
refused_early true misfit early stream bound told bad taken none e = absurd (cc)
refused_early false true early stream bound told bad taken none e = absurd (cc)
refused_early false false true stream bound told bad taken none e = refl
refused_early false false false stream bound told None taken none e = absurd (none e)
refused_early false false false stream bound told (Some row) taken none e = absurd (cc)

-- so the sender's interval can't have reached that of an arrival's frame by the bound
judged_early : (cfg : Config) (before : List Arrival) (arrival : Arrival) (frame : Frame) (told : Option ℕ)
    → HasVerdict cfg before arrival → frame_of arrival.bytes ≡ Some frame → arrival.verdict ≡ Future told
    → is_future cfg (bound_of cfg.setup.times cfg.lag arrival.reading) frame ≡ true
unfolding verdict_of
judged_early cfg before arrival frame told judged read is =
    let bound = bound_of cfg.setup.times cfg.lag arrival.reading in
    let late = late_arrival arrival.ingest arrival.reading arrival.bytes in
    let after = before ++ late ∷ [] in
    refused_early (not ((stream_of frame).0 == cfg.setup.stream.0)) (is_misfit cfg frame) (is_future cfg bound frame)
    (stream_of frame) bound told (find (is_bad cfg before) (keys_of cfg frame))
    (verdict_taken cfg after judged.given bound frame) (taken_not cfg after judged.given bound frame told)
    (ap (verdict_on cfg before judged.given late bound) (sym read) ∙ sym judged.is ∙ is)

-- ---- the bound

-- a reading in interval 1 or later isn't before the start
started : (times : Times) (sent : ℕ) → 1 ≤ interval_at times sent → times.start ≤ sent
started times sent begun = elim (cases_Bool (nat_le times.start sent)) [
  | inl after ↦ leb-true times.start sent after
  | inr before ↦
      let none : interval_at times sent ≡ 0 =
      ap (λ b. unwrap_or (cond b (Some ((sent - times.start) / times.length)) None) 0) before in
      absurd (omega (arith, none, begun))
]

-- a time that isn't before the start has an interval
interval_some : (length : ℕ) (time : ℤ) → pos 0 ≤ℤ time → (interval : ℕ) × (interval_after length time ≡ Some interval)
interval_some length (pos time) within = (time / length, refl)
interval_some length (negsuc time) within = absurd (omega (arith, ints))

-- there is a bound at a reading that is at most the lag before one in interval 1 or later
bound_some : (times : Times) (lag : ℤ) (sent received : ℕ) → 1 ≤ interval_at times sent
    → pos sent ≤ℤ (pos received +ℤ lag) → (bound : ℕ) × (bound_of times lag received ≡ Some bound)
unfolding bound_of
bound_some times lag sent received begun before =
    let first : times.start ≤ sent = started times sent begun in
    interval_some times.length ((pos received +ℤ lag) -ℤ pos times.start) (omega (arith, ints))

-- ---- the law

-- what the reading of frames buys
pub not_future : ReadsFrames → FutureLaw
not_future read cfg seeds world log history joined bounded i j sent received bytes arrival told less at_i at_j here is =
    let times = cfg.setup.times in
    let number = call_at (record { setup = cfg.setup; seeds = seeds }) log world i sent bytes joined.sent at_i in
    let is_sent = number.1.is_sent in
    let same : dated_of arrival ≡ record { reading = received; bytes = bytes } =
    received_as world (arrivals_in history) j received bytes arrival joined.received at_j here in
    let reading : arrival.reading ≡ received = ap (λ (d : Dated). d.reading) same in
    let framed : frame_of arrival.bytes ≡ Some is_sent.frame =
    ap (λ (d : Dated). frame_of d.bytes) same ∙ read bytes is_sent.frame is_sent.spelled in
    let early =
    judged_early cfg (take (arrival_at world j) (arrivals_in history)) arrival is_sent.frame told
    (verdict_at cfg history (arrival_at world j) arrival joined.legal here) framed is in
    let reached = made_begun cfg seeds (take number.0 log) number.1.call is_sent.frame is_sent.made in
    let begun : 1 ≤ interval_at times sent = subst (λ (n : ℕ). 1 ≤ interval_at times n) (sym is_sent.reading) reached in
    let before = bounded i j sent received bytes bytes less at_i at_j in
    let bound = bound_some times cfg.lag sent received begun before in
    let within : interval_at times sent ≤ bound.0 = sent_within times cfg.lag sent received bound.0 before bound.1 in
    made_in_time cfg seeds (take number.0 log) number.1.call is_sent.frame bound.0 is_sent.made
    (subst (λ (n : ℕ). interval_at times n ≤ bound.0) is_sent.reading within)
    (subst (λ (o : Option ℕ). is_future cfg o is_sent.frame ≡ true) (ap (bound_of times cfg.lag) reading ∙ bound.1)
    early)
