-- A stream of one key chain, its receiver's setup, and three packets. One is released, one is forged and one is late.
use Rattle.std.specs.Prelude.{ℕ, pos, List, [], ◌∷◌, Some, None, codes}
use Rattle.tesla_base.specs.declared.names.ChainNo.{ChainNo}
use Rattle.tesla_base.specs.declared.names.Key.{Key}
use Rattle.tesla_base.specs.declared.names.StreamId.{StreamId}
use Rattle.tesla_base.specs.declared.version.Version.TheVariants.{One}
use Rattle.tesla_fitting.specs.declared.config.Config.{Config}
use Rattle.tesla_frame.specs.Frame.{Data, DataFrame, frame_text}
use Rattle.tesla_frame.specs.declared.row.KeyRow.{KeyRow}

-- K 1, the key of interval 1, which the sender discloses in interval 3
abbrev pub key_1 : Key
key_1 = record {
  0 =
      0x43 ∷ 0xda ∷ 0x7d ∷ 0x5b ∷ 0x7e ∷ 0x12 ∷ 0x8d ∷ 0x38 ∷ 0xf5 ∷ 0x35 ∷ 0xff ∷ 0xd3 ∷ 0x9b ∷ 0x67 ∷ 0x66 ∷ 0x05 ∷
      0x84 ∷ 0xc9 ∷ 0x58 ∷ 0xc3 ∷ 0xc7 ∷ 0xe8 ∷ 0xb9 ∷ 0x91 ∷ 0x6a ∷ 0xa6 ∷ 0x20 ∷ 0x55 ∷ 0x97 ∷ 0x9d ∷ 0xa7 ∷ 0xb5 ∷ [];
}

-- K 0, to which the setup commits
abbrev pub key_0 : Key
key_0 = record {
  0 =
      0xe2 ∷ 0xb8 ∷ 0xe3 ∷ 0x53 ∷ 0x0f ∷ 0x11 ∷ 0xa5 ∷ 0xf9 ∷ 0xc7 ∷ 0x9e ∷ 0x48 ∷ 0xb1 ∷ 0xfe ∷ 0x32 ∷ 0x45 ∷ 0x35 ∷
      0xd9 ∷ 0xee ∷ 0xd9 ∷ 0x27 ∷ 0x48 ∷ 0x84 ∷ 0x68 ∷ 0xe4 ∷ 0x43 ∷ 0x90 ∷ 0x59 ∷ 0x64 ∷ 0xc7 ∷ 0x28 ∷ 0x0e ∷ 0x8a ∷ [];
}

abbrev pub stream : StreamId
stream = record { 0 = 0xa7 }

-- the one chain
abbrev pub chain : ChainNo
chain = record { 0 = 0 }

-- Interval 0 begins at 1,000,000 microseconds, each takes 100,000, and a key is disclosed two intervals after its own. The sender's clock is at most
-- 30,000 microseconds ahead of the receiver's, which has room for 16 packets.
abbrev pub config : Config
config = record {
  setup = record {
    version = One;
    stream = stream;
    times = record { start = 1000000; length = 100000; last = 4 };
    tag_length = 16;
    rows = record { delay = 2; index = 0; key = key_0 } ∷ [];
  };
  lag = pos 30000;
  capacity = 16;
  quota = 16;
  ingests = 1;
}

-- the tag of "hi" as message 0 of interval 1
abbrev pub first_tag : List ℕ
first_tag = 0xe8 ∷ 0xf2 ∷ 0x52 ∷ 0x20 ∷ 0xf1 ∷ 0x2b ∷ 0x80 ∷ 0x6f ∷ 0x1e ∷ 0x0f ∷ 0xdf ∷ 0xaa ∷ 0x6b ∷ 0x2d ∷ 0xc3 ∷ 0xb5 ∷ []

-- the tag that "no" would have as message 1 of interval 1, for which K 1 is needed
abbrev pub right_tag : List ℕ
right_tag = 0x8c ∷ 0x5c ∷ 0x09 ∷ 0xb3 ∷ 0xf8 ∷ 0x81 ∷ 0xe5 ∷ 0x73 ∷ 0x71 ∷ 0xc3 ∷ 0x62 ∷ 0xd2 ∷ 0x6b ∷ 0xc9 ∷ 0x9f ∷ 0x2e ∷ []

-- the tag of "ok" as message 0 of interval 3
abbrev pub third_tag : List ℕ
third_tag = 0x47 ∷ 0xc9 ∷ 0xfc ∷ 0xe1 ∷ 0x9c ∷ 0xfd ∷ 0x3c ∷ 0x2c ∷ 0x63 ∷ 0x8e ∷ 0xd4 ∷ 0xcb ∷ 0xca ∷ 0x9a ∷ 0xba ∷ 0xb0 ∷ []

-- the sender's message 0 of interval 1
abbrev pub first : DataFrame
first = record {
  version = One;
  stream = stream;
  name = record { interval = 1; number = 0 };
  payload = codes "hi";
  tag_length = 16;
  rows = record { tag = first_tag; key = None } ∷ [];
}

-- a message that somebody without the key made, who put the tag of the first to it
abbrev pub second : DataFrame
second = record {
  version = One;
  stream = stream;
  name = record { interval = 1; number = 1 };
  payload = codes "no";
  tag_length = 16;
  rows = record { tag = first_tag; key = None } ∷ [];
}

-- the sender's message 0 of interval 3, which discloses K 1
abbrev pub third : DataFrame
third = record {
  version = One;
  stream = stream;
  name = record { interval = 3; number = 0 };
  payload = codes "ok";
  tag_length = 16;
  rows = record { tag = third_tag; key = Some key_1 } ∷ [];
}

-- K 1 as the third packet discloses it
abbrev pub disclosed : KeyRow
disclosed = record { chain = chain; index = 1; key = key_1 }

-- the bytes of a packet
abbrev pub spelled : DataFrame → List ℕ
spelled f = frame_text (Data f)
