-- The one answer of a sender to a message or a disclosure (RFC 4082, sections 3.2 to 3.4). It hangs on the calls that were accepted before.
use Rattle.std.specs.Prelude.{ℕ, ◌+◌, ◌-◌, Bool, false, List, [], ◌∷◌, length, map, Option, Some, None, Result, Ok, Err, nat_le, nat_lt, ◌==◌, if◌then◌else◌, min, unwrap_or}
use Rattle.std.specs.List.{count_by, flat_map, fold, list_all, list_any}
use Rattle.tesla_base.specs.declared.names.Key.{Key}
use Rattle.tesla_base.specs.declared.names.Name.{Name}
use Rattle.tesla_clock.specs.Schedule.{Times, interval_of}
use Rattle.tesla_commit.specs.Parts.{Parts}
use Rattle.tesla_commit.specs.declared.chain_row.ChainRow.{ChainRow}
use Rattle.tesla_frame.specs.Frame.{TagRow, Frame, Data, Disclosure}
use Rattle.tesla_frame.specs.declared.row.KeyRow.{KeyRow}
use Rattle.tesla_prf.specs.Keys.{walk, tag_of}
use Rattle.tesla_sender.specs.declared.refusal.SendRefusal.{SendRefusal}
use Rattle.tesla_sender.specs.declared.refusal.SendRefusal.TheVariants as unsent
use Rattle.tesla_sender.specs.declared.refusal.DiscloseRefusal.{DiscloseRefusal}
use Rattle.tesla_sender.specs.declared.refusal.DiscloseRefusal.TheVariants as undisclosed

-- a call that was accepted, with the reading of the sender's clock
pub data Call : Type 0 where
  Message : (reading : ℕ) (payload : List ℕ) → Call
  Disclose : (reading : ℕ) → Call

-- what a sender is opened with: the setup of a stream, and a seed for each of its chains
pub record Stream : Type 0 where
  pub setup : Parts
  pub seeds : List Key

-- ---- intervals

-- the interval of a reading, and 0 before the start
abbrev pub interval_at : Times → ℕ → ℕ
interval_at times reading = unwrap_or (interval_of times reading) 0

abbrev pub interval_in : Times → Call → ℕ
interval_in times (Message reading payload) = interval_at times reading
interval_in times (Disclose reading) = interval_at times reading

-- the interval of the last accepted call, and 0 where there is none
abbrev pub latest_of : Times → List Call → ℕ
latest_of times log = fold (λ before call. interval_in times call) 0 log

abbrev pub is_message_of : Times → ℕ → Call → Bool
is_message_of times interval (Message reading payload) = interval_at times reading == interval
is_message_of times interval (Disclose reading) = false

-- how many messages of the interval were accepted
abbrev pub messages_of : Times → ℕ → List Call → ℕ
messages_of times interval log = count_by (is_message_of times interval) log

-- ---- chains

-- one key chain: its number, its row of the setup, its seed, and the index of that
pub record Chain : Type 0 where
  pub number : ℕ
  pub row : ChainRow
  pub seed : Key
  pub last : ℕ

-- the chains of these rows and seeds, numbered from `number` on
abbrev pub chains_from : ℕ → ℕ → List ChainRow → List Key → List Chain
chains_from last number [] seeds = []
chains_from last number (row ∷ rows) [] = []
chains_from last number (row ∷ rows) (seed ∷ seeds) = record { number = number; row = row; seed = seed; last = last } ∷ chains_from last (number + 1) rows seeds

abbrev pub chains_of : Stream → List Chain
chains_of stream = chains_from stream.setup.times.last 0 stream.setup.rows stream.seeds

-- the key of that index of the chain whose key of index `last` is the seed
abbrev pub key_of : ℕ → Key → ℕ → Key
key_of last seed index = walk seed (last - index)

-- the chain's key that is disclosed in the interval, where there is one: that of `delay` intervals before
abbrev pub key_due : ℕ → Chain → Option Key
key_due interval chain = if nat_lt chain.row.delay interval then Some (key_of chain.last chain.seed (interval - chain.row.delay)) else None

-- ---- messages

-- what a message carries for a chain: its tag under the interval's key, and the key that is due
abbrev pub row_of : Parts → Name → List ℕ → Chain → TagRow
row_of setup name payload chain = record {
  tag = tag_of setup.tag_length (key_of chain.last chain.seed name.interval) setup.stream (record { 0 = chain.number }) name payload;
  key = key_due name.interval chain;
}

-- the frame of a message: a row for each chain
unfoldable pub message_frame : Parts → List Chain → Name → List ℕ → Frame
message_frame setup chains name payload = Data (record {
  version = setup.version;
  stream = setup.stream;
  name = name;
  payload = payload;
  tag_length = setup.tag_length;
  rows = map (row_of setup name payload) chains;
})

-- the name of a message, where the last accepted call was of the interval `before`, and so many messages of
-- this one were accepted
abbrev pub name_after : Times → ℕ → ℕ → ℕ → List ℕ → Result Name SendRefusal
name_after times before number reading payload =
    if nat_lt 1200 (length payload) then Err (unsent.TooLong (length payload))
    else if interval_at times reading == 0 then Err (unsent.Early reading)
    else if nat_lt times.last (interval_at times reading) then Err (unsent.Over (interval_at times reading))
    else if nat_lt (interval_at times reading) before then Err (unsent.Backward before)
    else if nat_lt number 65536 then Ok (record { interval = interval_at times reading; number = number })
    else Err (unsent.IntervalFull (interval_at times reading))

-- the name of a message after a log: its number is how many messages of its interval were accepted
abbrev pub name_of : Times → List Call → ℕ → List ℕ → Result Name SendRefusal
name_of times log reading payload = name_after times (latest_of times log) (messages_of times (interval_at times reading) log) reading payload

abbrev pub framed : Stream → List ℕ → Result Name SendRefusal → Result Frame SendRefusal
framed stream payload (Ok name) = Ok (message_frame stream.setup (chains_of stream) name payload)
framed stream payload (Err refusal) = Err refusal

-- the answer to a message
unfoldable pub made_message : Stream → List Call → ℕ → List ℕ → Result Frame SendRefusal
made_message stream log reading payload = framed stream payload (name_of stream.setup.times log reading payload)

-- ---- disclosures

-- the row of a chain that has a key to disclose in the interval: the key of `delay` intervals before, or the
-- last one
abbrev pub due_row : ℕ → Chain → List KeyRow
due_row interval chain =
    if nat_lt chain.row.delay interval
    then record { chain = record { 0 = chain.number }; index = min (interval - chain.row.delay) chain.last; key = key_of chain.last chain.seed (min (interval - chain.row.delay) chain.last) } ∷ []
    else []

abbrev pub due_rows : List Chain → ℕ → List KeyRow
due_rows chains interval = flat_map (due_row interval) chains

-- the index of the key of a chain that the frame of a call in the interval tells: that of `delay` intervals before, or the last one; 0 where it tells none
abbrev pub index_disclosed : ℕ → Chain → ℕ
index_disclosed interval chain = min (interval - chain.row.delay) chain.last

-- on some chain a call in an interval tells a newer key than one in the interval `before`
abbrev pub tells_newer : ℕ → ℕ → List Chain → Bool
tells_newer before interval chains = list_any (λ chain. nat_lt (index_disclosed before chain) (index_disclosed interval chain)) chains

-- on every chain a call in an interval tells the key of index `index` or a newer one
abbrev pub tells_all : ℕ → ℕ → List Chain → Bool
tells_all index interval chains = list_all (λ chain. nat_le index (index_disclosed interval chain)) chains

-- some chain has a key to disclose in the interval
abbrev pub any_due : ℕ → List Chain → Bool
any_due interval chains = list_any (λ chain. nat_lt chain.row.delay interval) chains

unfoldable pub disclosure_frame : Parts → List Chain → ℕ → Frame
disclosure_frame setup chains interval = Disclosure (record { version = setup.version; stream = setup.stream; rows = due_rows chains interval })

-- the interval of a disclosure, where the last accepted call was of the interval `before`
abbrev pub disclosed_after : Times → ℕ → Bool → ℕ → Result ℕ DiscloseRefusal
disclosed_after times before due reading =
    if nat_lt (interval_at times reading) before then Err (undisclosed.Backward before)
    else if due then Ok (interval_at times reading)
    else Err undisclosed.NothingDue

abbrev pub disclosed : Stream → Result ℕ DiscloseRefusal → Result Frame DiscloseRefusal
disclosed stream (Ok interval) = Ok (disclosure_frame stream.setup (chains_of stream) interval)
disclosed stream (Err refusal) = Err refusal

-- the answer to a disclosure
unfoldable pub made_disclosure : Stream → List Call → ℕ → Result Frame DiscloseRefusal
made_disclosure stream log reading =
    disclosed stream (disclosed_after stream.setup.times (latest_of stream.setup.times log) (any_due (interval_at stream.setup.times reading) (chains_of stream)) reading)

-- ---- calls

abbrev pub reading_of : Call → ℕ
reading_of (Message reading payload) = reading
reading_of (Disclose reading) = reading

abbrev pub frame_in : {E : Type 0} → Result Frame E → Option Frame
frame_in (Ok frame) = Some frame
frame_in (Err refusal) = None

-- the frame that a call makes after the accepted calls before it
abbrev pub frame_made : Stream → List Call → Call → Option Frame
frame_made stream log (Message reading payload) = frame_in (made_message stream log reading payload)
frame_made stream log (Disclose reading) = frame_in (made_disclosure stream log reading)
