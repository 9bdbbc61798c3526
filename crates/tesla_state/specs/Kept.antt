-- What a receiver that keeps no arrivals holds, and how it is seen.
use Rattle.std.specs.Prelude.{◌≡◌, ℕ, ◌+◌, ◌<◌, ◌≤◌, ◌++◌, Bool, List, All, flat_map, length, map}
use Rattle.tesla_frame.specs.declared.row.KeyRow.{KeyRow}
use Rattle.tesla_keys.specs.Tip.{Tip}
use Rattle.tesla_fitting.specs.declared.config.Config.{Config}
use Rattle.tesla_state.specs.declared.report.Report.{Report}
use Rattle.tesla_walks.specs.Proved.{RiseBy}
use Rattle.tesla_state.specs.Gathering.{order_of}
use Rattle.tesla_state.specs.State.{State}
use Rattle.tesla_walks.specs.Holding.{Holding}
use Rattle.tesla_state.specs.Steps.{batch_of, kept_after, released_of}
use Rattle.tesla_state.specs.Stored.{Stored, holding_at, AreNeeded}
use Rattle.tesla_state.specs.declared.tables.Tables.{Tables}
use Rattle.tesla_walks.specs.Tips.{tips_after}

-- the parts of a receiver as one state
abbrev pub state_of : Config → List Tip → Stored → List Bool → Report → ℕ → ℕ → State
state_of cfg tips store ended counts calls reserved = record {
  config = cfg;
  tips = tips;
  held = map holding_at store.held;
  waiting = store.waiting;
  ended = ended;
  counts = counts;
  calls = calls;
  reserved = reserved;
}

abbrev pub state_in : Tables → List Bool → Report → ℕ → ℕ → State
state_in tables = state_of tables.config tables.tips.items tables.store

-- how many entries all tables have room for, by the room of each Vec and by the store
abbrev pub reserved_in : ℕ → Stored → ℕ → ℕ → ℕ → ℕ
reserved_in tips store walks batch ended = tips + store.reserved + walks + batch + ended

-- no count is above the number of calls
pub record CountsWithin (calls : ℕ) (r : Report) : Type 0 where
  pub arrivals : r.arrivals ≤ calls
  pub malformed : r.malformed ≤ calls
  pub foreign : r.foreign ≤ calls
  pub misfit : r.misfit ≤ calls
  pub future : r.future ≤ calls
  pub badkey : r.badkey ≤ calls
  pub late : r.late ≤ calls
  pub repeat : r.repeat ≤ calls
  pub full : r.full ≤ calls
  pub kept : r.kept ≤ calls
  pub keys : r.keys ≤ calls
  pub given : r.given ≤ calls

-- new keys are taken: each is the newest of its chain, what they prove is released, and what is needed no more is gone
pub record AreTaken (cfg : Config) (tips later : List Tip) (new : List KeyRow) (old now : Stored) : Type 0 where
  pub newest : later ≡ tips_after tips new
  pub held : let before = map holding_at old.held in let batch = batch_of cfg tips new before in
      map holding_at now.held ≡ flat_map (kept_after cfg (tips_after tips new) batch (released_of before batch)) before
  pub waiting : let before = map holding_at old.held in now.waiting ≡ old.waiting ++ released_of before (batch_of cfg tips new before)
  pub capacity : now.capacity ≡ old.capacity
  pub reserved : now.reserved ≡ old.reserved
  pub chains : now.chains ≡ old.chains
  pub given : now.given ≡ old.given

-- the packet's number is below
abbrev pub IsBefore : ℕ → Holding → Type 0
IsBefore count item = item.order < count

-- there is a newest key for each chain, and room for all that can be held, also with another setup and for any number of
-- ingests; what is held has rising numbers and is needed
pub record IsKept (cfg : Config) (tips : List Tip) (store : Stored) (tips_room walks_room batch_room ended_room : ℕ) (counts : Report) (calls : ℕ) : Type 0 where
  pub tips_each : length tips ≡ length cfg.setup.rows
  pub chains : store.chains ≡ length cfg.setup.rows
  pub capacity : store.capacity ≡ cfg.capacity
  pub eight_tips : 8 ≤ tips_room
  pub eight : 8 ≤ walks_room
  pub room : cfg.capacity ≤ batch_room
  pub flags : 255 ≤ ended_room
  pub orders : RiseBy order_of (map holding_at store.held)
  pub before : All (IsBefore counts.arrivals) (map holding_at store.held)
  pub needed : AreNeeded cfg tips store.held
  pub within : CountsWithin calls counts
  pub given : store.given ≡ counts.given
