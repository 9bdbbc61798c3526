-- The verdict on an arrival, by the tests in their order.
use Rattle.std.specs.Prelude.{ℕ, Bool, not, ◌&&◌, ◌||◌, List, [], ◌∷◌, ◌++◌, length, Option, Some, None, unwrap_or, option_map, nat_lt, ◌==◌, if◌then◌else◌, find}
use Rattle.std.specs.List.{list_any}
use Rattle.tesla_clock.specs.Schedule.{bound_of}
use Rattle.tesla_clock.specs.Safe.{chain_set}
use Rattle.tesla_frame.specs.declared.row.KeyRow.{KeyRow}
use Rattle.tesla_frame.specs.Frame.{Frame, Data, Disclosure, DataFrame}
use Rattle.tesla_frame.specs.Reading.{frame_of}
use Rattle.tesla_receiver.specs.Entries.{Arrival}
use Rattle.tesla_fitting.specs.declared.verdict.Verdict.{Verdict}
use Rattle.tesla_fitting.specs.declared.verdict.Verdict.TheVariants.{Malformed, Foreign, Misfit, Future, BadKey, Late, Repeat, Full, Kept, Keys}
use Rattle.tesla_fitting.specs.declared.config.Config.{Config}
use Rattle.tesla_fitting.specs.Rows.{keys_of}
use Rattle.tesla_receiver.specs.Keys.{newest, is_good}
use Rattle.tesla_receiver.specs.Packets.{is_safe, released}
use Rattle.tesla_state.specs.Releases.{has_name}
use Rattle.tesla_receiver.specs.Held.{held_of}
use Rattle.tesla_fitting.specs.Fitting.{stream_of, is_misfit, is_future}

-- a key that is newer than those taken before and isn't good
abbrev pub is_bad : Config → List Arrival → KeyRow → Bool
is_bad cfg arrivals row = nat_lt (newest cfg arrivals row.chain.0) row.index && not (is_good cfg arrivals row)

-- the chains that are safe for a packet of the interval
abbrev pub safe_chains : Config → List Arrival → Option ℕ → ℕ → ℕ
safe_chains cfg arrivals None interval = 0
safe_chains cfg arrivals (Some bound) interval = chain_set (is_safe cfg arrivals bound interval) (length cfg.setup.rows)

-- the verdict on a data frame whose keys are taken
abbrev pub packet_verdict : Config → List Arrival → ℕ → ℕ → DataFrame → Verdict
packet_verdict cfg arrivals given set f =
    if set == 0 then Late
    else (if list_any (has_name f.name) (released cfg arrivals) then Repeat
    else (if held_of cfg arrivals given None == cfg.capacity
    || held_of cfg arrivals given (Some f.name.interval) == cfg.quota then Full
    else Kept set))

-- the verdict on a frame whose keys are taken; `arrivals` has it at its end
abbrev pub verdict_taken : Config → List Arrival → ℕ → Option ℕ → Frame → Verdict
verdict_taken cfg arrivals given bound (Data f) =
    packet_verdict cfg arrivals given (safe_chains cfg arrivals bound f.name.interval) f
verdict_taken cfg arrivals given bound (Disclosure f) = Keys

-- why a frame is refused before its keys are taken
abbrev pub refusal : Config → List Arrival → Option ℕ → Frame → Option Verdict
refusal cfg arrivals bound frame =
    if not ((stream_of frame).0 == cfg.setup.stream.0) then Some (Foreign (stream_of frame))
    else (if is_misfit cfg frame then Some Misfit
    else (if is_future cfg bound frame then Some (Future bound)
    else option_map (λ row. BadKey row.chain) (find (is_bad cfg arrivals) (keys_of cfg frame))))

abbrev pub verdict_on : Config → List Arrival → ℕ → Arrival → Option ℕ → Option Frame → Verdict
verdict_on cfg arrivals given late bound None = Malformed
verdict_on cfg arrivals given late bound (Some frame) =
    unwrap_or (refusal cfg arrivals bound frame) (verdict_taken cfg (arrivals ++ late ∷ []) given bound frame)

abbrev pub late_arrival : ℕ → ℕ → List ℕ → Arrival
late_arrival ingest reading bytes = record { ingest = ingest; reading = reading; bytes = bytes; verdict = Late }

-- the verdict on an arrival after the earlier ones, when so many packets were given
unfoldable pub verdict_of : Config → List Arrival → ℕ → ℕ → ℕ → List ℕ → Verdict
verdict_of cfg arrivals given ingest reading bytes =
    verdict_on cfg arrivals given (late_arrival ingest reading bytes) (bound_of cfg.setup.times cfg.lag reading) (frame_of bytes)
