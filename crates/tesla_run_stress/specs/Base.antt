-- The stream of a load, and the receiver that its datagrams come to.
use Rattle.std.specs.Prelude.{ℕ, ◌+◌, ◌/◌, pos, List, [], ◌∷◌, replicate}
use Rattle.tesla_base.specs.declared.names.Key.{Key}
use Rattle.tesla_base.specs.declared.version.Version.TheVariants.{One}
use Rattle.tesla_clock.specs.Schedule.{Times}
use Rattle.tesla_commit.specs.Parts.{Parts}
use Rattle.tesla_commit.specs.declared.chain_row.ChainRow.{ChainRow}
use Rattle.tesla_fitting.specs.declared.config.Config.{Config}
use Rattle.tesla_prf.specs.Keys.{walk}
use Rattle.tesla_sender.specs.Made.{Stream}

-- a key that is 32 times this byte
unfoldable pub key_of_byte : ℕ → Key
key_of_byte byte = record { 0 = replicate 32 byte }

-- the seeds of the two chains: bytes 11 and bytes 22, in hexadecimal
abbrev pub base_seeds : List Key
base_seeds = key_of_byte 17 ∷ key_of_byte 34 ∷ []

-- the last interval of so many messages, ten in each
abbrev pub last_of : ℕ → ℕ
last_of count = (count + 9) / 10

abbrev pub base_times : ℕ → Times
base_times last = record { start = 1000000; length = 100000; last = last }

-- the chain of a delay: its commitment is the key of index 0, where the seed is the key of index `last`
abbrev pub base_row : ℕ → Key → ℕ → ChainRow
base_row delay seed last = record { delay = delay; index = 0; key = walk seed last }

-- stream a7, with chains of delay 2 and 5
abbrev pub base_setup : ℕ → Parts
base_setup last = record {
  version = One;
  stream = record { 0 = 167 };
  times = base_times last;
  tag_length = 16;
  rows = base_row 2 (key_of_byte 17) last ∷ base_row 5 (key_of_byte 34) last ∷ [];
}

-- the stream of so many messages
abbrev pub base_stream : ℕ → Stream
base_stream count = record { setup = base_setup (last_of count); seeds = base_seeds }

-- the receiver: the sender's clock is at most 30,000 microseconds ahead, 32 packets are held, and one ingest brings datagrams
abbrev pub base_config : ℕ → Config
base_config count = record { setup = base_setup (last_of count); lag = pos 30000; capacity = 32; quota = 32; ingests = 1 }
