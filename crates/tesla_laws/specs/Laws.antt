-- The laws over worlds that feeds make, and when their keys are disclosed.
use Rattle.std.specs.Prelude.{◌≡◌, ℕ, ◌+◌, ◌≤◌, false, List, map, Some}
use Rattle.std.specs.List.{Contains}
use Rattle.tesla_base.specs.declared.names.Key.{Key}
use Rattle.tesla_fitting.specs.Config.{chain_row}
use Rattle.tesla_fitting.specs.Rows.{keys_of}
use Rattle.tesla_fitting.specs.declared.config.Config.{Config}
use Rattle.tesla_frame.specs.Frame.{Frame}
use Rattle.tesla_frame.specs.declared.row.KeyRow.{KeyRow}
use Rattle.tesla_receiver.specs.Entries.{Entry}
use Rattle.tesla_sender.specs.Made.{Call, frame_made, interval_at, reading_of}
use Rattle.tesla_world.specs.Laws.{IsSecure}
use Rattle.tesla_world.specs.World.{Joined, Moment}
use Rattle.tesla_feed.specs.Fed.{Event, fed, is_unread}
use Rattle.tesla_feed.specs.Fed as feeds

-- over any world that a feed's log makes, the security condition holds
abbrev pub FeedsAreSecure : Type 0
FeedsAreSecure =
    (cfg : Config) (seeds : List Key) (world : List Moment) (opening : ℕ) (events : List Event) (history : List Entry) →
    Joined cfg seeds world (fed (record { setup = cfg.setup; seeds = seeds }) opening events).log history → IsSecure cfg seeds world history

-- ---- when keys are disclosed

-- an event, and what a clock that isn't set reads when it happens
pub record Timed : Type 0 where
  pub event : Event
  pub steady : ℕ

abbrev pub event_of : Timed → Event
event_of one = one.event

-- no reading that was given is above what that clock reads
abbrev pub NoneAhead : List Timed → Type 0
NoneAhead events = (one : Timed) → Contains events one → is_unread (feeds.reading_of one.event) ≡ false → feeds.reading_of one.event ≤ one.steady

-- each key in the frame of a call has an index that is at least the chain's delay below the interval of the steady clock at an event; the call was made at the reading of that, which the clock gave
pub record TellsAt (cfg : Config) (events : List Timed) (call : Call) (frame : Frame) : Type 0 where
  pub one : Timed
  pub among : Contains events one
  pub reading : reading_of call ≡ feeds.reading_of one.event
  pub read : is_unread (reading_of call) ≡ false
  pub row_below : (row : KeyRow) → Contains (keys_of cfg frame) row → row.index + (chain_row cfg row.chain.0).delay ≤ interval_at cfg.setup.times (reading_of call)
  pub steady_below : (row : KeyRow) → Contains (keys_of cfg frame) row → row.index + (chain_row cfg row.chain.0).delay ≤ interval_at cfg.setup.times one.steady

-- where no reading was ahead of a steady clock, no frame of a feed tells a key before its interval by that clock
abbrev pub FeedsTellOnTime : Type 0
FeedsTellOnTime =
    (cfg : Config) (seeds : List Key) (opening : ℕ) (events : List Timed) (before : List Call) (call : Call) (frame : Frame) → NoneAhead events →
    Contains (fed (record { setup = cfg.setup; seeds = seeds }) opening (map event_of events)).log call →
    frame_made (record { setup = cfg.setup; seeds = seeds }) before call ≡ Some frame → TellsAt cfg events call frame
