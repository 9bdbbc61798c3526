-- Whether a frame fits a receiver's setup and the time.
use Rattle.std.specs.Prelude.{ℕ, ◌+◌, Bool, true, not, ◌&&◌, ◌||◌, length, Option, Some, None, is_some, nat_lt, ◌==◌, if◌then◌else◌}
use Rattle.std.specs.List.{list_any, enumerate_from}
use Rattle.tesla_base.specs.Version.{number_of}
use Rattle.tesla_base.specs.declared.names.Key.{Key}
use Rattle.tesla_base.specs.declared.names.StreamId.{StreamId}
use Rattle.tesla_base.specs.declared.version.Version.{Version}
use Rattle.tesla_frame.specs.declared.row.KeyRow.{KeyRow}
use Rattle.tesla_frame.specs.Frame.{Frame, Data, Disclosure, TagRow}
use Rattle.tesla_fitting.specs.declared.config.Config.{Config}
use Rattle.tesla_fitting.specs.declared.verdict.Verdict.{Verdict}
use Rattle.tesla_fitting.specs.declared.verdict.Verdict.TheVariants.{Foreign, Misfit, Future}
use Rattle.tesla_fitting.specs.Config.{chain_row}

abbrev pub stream_of : Frame → StreamId
stream_of (Data f) = f.stream
stream_of (Disclosure f) = f.stream

abbrev pub version_in : Frame → Version
version_in (Data f) = f.version
version_in (Disclosure f) = f.version

-- a data frame's row carries a key though its interval is below the chain's delay
abbrev pub is_early : Config → ℕ → ℕ → Option Key → Bool
is_early cfg interval chain key = is_some key && nat_lt interval (chain_row cfg chain).delay

-- a disclosed key's chain isn't in the setup, or its index is above the last interval
abbrev pub is_outside : Config → KeyRow → Bool
is_outside cfg row = not (nat_lt row.chain.0 (length cfg.setup.rows)) || nat_lt cfg.setup.times.last row.index

-- the fields of the frame don't fit the setup
abbrev pub fields_misfit : Config → Frame → Bool
fields_misfit cfg (Data f) =
    f.name.interval == 0 || nat_lt cfg.setup.times.last f.name.interval || not (length f.rows == length cfg.setup.rows)
    || not (f.tag_length == cfg.setup.tag_length)
    || list_any (λ (p : ℕ × TagRow). is_early cfg f.name.interval p.0 p.1.key) (enumerate_from 0 f.rows)
fields_misfit cfg (Disclosure f) = list_any (is_outside cfg) f.rows

-- the frame's version isn't the setup's, or its fields don't fit the setup
abbrev pub is_misfit : Config → Frame → Bool
is_misfit cfg frame = not (number_of (version_in frame) == number_of cfg.setup.version) || fields_misfit cfg frame

-- by the bound, the sender can't have disclosed the key
abbrev pub is_undisclosed : Config → ℕ → KeyRow → Bool
is_undisclosed cfg bound row = nat_lt bound (row.index + (chain_row cfg row.chain.0).delay)

-- the sender's interval can't have reached the frame's yet
abbrev pub is_future : Config → Option ℕ → Frame → Bool
is_future cfg None frame = true
is_future cfg (Some bound) (Data f) = nat_lt bound f.name.interval
is_future cfg (Some bound) (Disclosure f) = list_any (is_undisclosed cfg bound) f.rows

-- why a frame is refused before its keys are looked at: it is of another stream, doesn't fit the setup, or comes too early
abbrev pub unfit : Config → Option ℕ → Frame → Option Verdict
unfit cfg bound frame =
    if not ((stream_of frame).0 == cfg.setup.stream.0) then Some (Foreign (stream_of frame))
    else (if is_misfit cfg frame then Some Misfit
    else (if is_future cfg bound frame then Some (Future bound) else None))
