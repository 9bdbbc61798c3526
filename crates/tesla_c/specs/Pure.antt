-- What the calls tell that read a text or a datagram and keep nothing.
use Rattle.std.specs.Prelude.{◌≡◌, ℕ, ℤ, List, length, map, Option, Some, None, Result, Ok, Err, replicate}
use Rattle.std.specs.List.{range_with_len, slice_get, sum_by}
use Rattle.tesla_base.specs.Version.{number_of}
use Rattle.tesla_base.specs.declared.names.Key.{Key}
use Rattle.tesla_commit.specs.Parts.{Parts}
use Rattle.tesla_commit.specs.declared.chain_row.ChainRow.{ChainRow}
use Rattle.tesla_commit.specs.declared.refusal.SetupKind.{SetupKind}
use Rattle.tesla_frame.specs.Frame.{Frame, Data, Disclosure, TagRow}
use Rattle.tesla_sync.specs.Ask.{ask_of}
use Rattle.tesla_sync.specs.Lag.{lag_judged}
use Rattle.tesla_sync.specs.Reply.{reply_judged}
use Rattle.tesla_sync.specs.declared.lag.LagTooLarge.{LagTooLarge}
use Rattle.tesla_sync.specs.declared.reply.SyncRefusal.{SyncRefusal}
use Rattle.tesla_sync.specs.declared.reply.SyncRefusal.TheVariants.{Malformed, BadTag, OtherAsk}
use Rattle.tesla_c.specs.Told.{kind_code}
use Rattle.tesla_c.specs.declared.answers.CRefusal.{CRefusal}
use Rattle.tesla_c.specs.declared.frames.CFrame.{CFrame}
use Rattle.tesla_c.specs.declared.setups.CChain.{CChain}
use Rattle.tesla_c.specs.declared.setups.CSetup.{CSetup}

-- ---- a setup

abbrev pub chain_told : ChainRow → CChain
chain_told row = record { delay = row.delay; index = row.index; key = row.key.0 }

-- what stands in the place of a chain: zeros where there is none
abbrev pub place_told : Option ChainRow → CChain
place_told (Some row) = chain_told row
place_told None = record { delay = 0; index = 0; key = replicate 32 0 }

-- the eight places of the chains
abbrev pub rows_told : List ChainRow → List CChain
rows_told rows = map (λ (chain : ℕ). place_told (slice_get rows chain)) (range_with_len 0 8)

abbrev pub setup_told : Parts → CSetup
setup_told parts = record {
  stream = parts.stream.0;
  start = parts.times.start;
  interval = parts.times.length;
  last = parts.times.last;
  version = number_of parts.version;
  tag_length = parts.tag_length;
  chains = length parts.rows;
  rows = rows_told parts.rows;
}

-- the setup is told, or the line and the kind that are refused
abbrev pub TellsSetup : Result Parts (ℕ × SetupKind) → ℕ → (old new : CSetup) → (before after : CRefusal) → Type 0
TellsSetup (Ok parts) status old new before after = (status ≡ 0) × (new ≡ setup_told parts) × (after ≡ before)
TellsSetup (Err refused) status old new before after = (status ≡ 1) × (new ≡ old) × (after ≡ record { line = refused.0; kind = kind_code refused.1 })

-- ---- a frame

abbrev key_count : Option Key → ℕ
key_count (Some key) = 1
key_count None = 0

-- how many keys a message tells in the row of a chain
abbrev pub place_keys : Option TagRow → ℕ
place_keys (Some row) = key_count row.key
place_keys None = 0

-- how many keys a message tells, which has eight rows at most
abbrev pub keys_told : List TagRow → ℕ
keys_told rows = sum_by (λ (chain : ℕ). place_keys (slice_get rows chain)) (range_with_len 0 8)

abbrev pub frame_told : Frame → CFrame
frame_told (Data frame) = record {
  stream = frame.stream.0;
  interval = frame.name.interval;
  number = frame.name.number;
  length = length frame.payload;
  version = number_of frame.version;
  kind = 0;
  tag_length = frame.tag_length;
  keys = keys_told frame.rows;
}
frame_told (Disclosure frame) = record {
  stream = frame.stream.0;
  interval = 0;
  number = 0;
  length = 0;
  version = number_of frame.version;
  kind = 1;
  tag_length = 0;
  keys = length frame.rows;
}

-- the head of the frame is told, or that there is none
abbrev pub TellsFrame : Option Frame → ℕ → (old new : CFrame) → Type 0
TellsFrame (Some frame) status old new = (status ≡ 0) × (new ≡ frame_told frame)
TellsFrame None status old new = (status ≡ 1) × (new ≡ old)

-- ---- a lag

abbrev pub sync_code : SyncRefusal → ℕ
sync_code Malformed = 2
sync_code BadTag = 3
sync_code (OtherAsk asked) = 4

abbrev lag_or_large : Result ℤ LagTooLarge → Result ℤ ℕ
lag_or_large (Ok lag) = Ok lag
lag_or_large (Err why) = Err 5

abbrev pub replied_lag : (drift asked : ℕ) → Result ℕ SyncRefusal → Result ℤ ℕ
replied_lag drift asked (Ok replied) = lag_or_large (lag_judged replied asked drift)
replied_lag drift asked (Err why) = Err (sync_code why)

abbrev pub asked_lag : ℕ → Key → List ℕ → Option ℕ → Result ℤ ℕ
asked_lag drift key reply None = Err 1
asked_lag drift key reply (Some asked) = replied_lag drift asked (reply_judged reply key asked)

-- the lag of an exchange under the key, or the number of the first refusal: of the ask, of the reply, or of the lag
abbrev pub exchange_judged : ℕ → Key → (ask reply : List ℕ) → Result ℤ ℕ
exchange_judged drift key ask reply = asked_lag drift key reply (ask_of ask)

-- the lag is told, or the number of the refusal
abbrev pub TellsLag : Result ℤ ℕ → ℕ → (old new : ℤ) → (before after : ℕ) → Type 0
TellsLag (Ok lag) status old new before after = (status ≡ 0) × (new ≡ lag) × (after ≡ before)
TellsLag (Err kind) status old new before after = (status ≡ 1) × (new ≡ old) × (after ≡ kind)
