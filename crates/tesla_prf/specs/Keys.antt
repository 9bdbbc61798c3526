-- The one-way functions of a key chain, and the tag of a message (RFC 4082, sections 3.2 and 3.4).
use Rattle.std.specs.Prelude.{ℕ, zero, suc, List, [], ◌∷◌, ◌++◌, take}
use Rattle.std.specs.Int.{w16, w32, w64, to_be_bytes}
use Rattle.tesla_base.specs.declared.names.ChainNo.{ChainNo}
use Rattle.tesla_base.specs.declared.names.Key.{Key}
use Rattle.tesla_base.specs.declared.names.Name.{Name}
use Rattle.tesla_base.specs.declared.names.StreamId.{StreamId}
use Rattle.tesla_prf.specs.Hmac.{hmac_of}

-- F: the key of the interval before
abbrev pub next_of : Key → Key
next_of key = record { 0 = hmac_of key.0 (0 ∷ []) }

-- F': the MAC key of the key's own interval
abbrev pub mac_of : Key → Key
mac_of key = record { 0 = hmac_of key.0 (1 ∷ []) }

-- F applied a number of times: the key that many intervals before
unfoldable pub walk : Key → ℕ → Key
walk key zero = key
walk key (suc distance) = next_of (walk key distance)

-- what is tagged: stream, chain, interval, number within the interval, and the payload
abbrev pub tag_text : StreamId → ChainNo → Name → List ℕ → List ℕ
tag_text stream chain name payload =
    to_be_bytes w64 stream.0 ++ chain.0 ∷ [] ++ to_be_bytes w32 name.interval ++ to_be_bytes w16 name.number ++ payload

-- the tag of a message under a MAC key: the first bytes of the HMAC
abbrev pub tag_under : ℕ → Key → StreamId → ChainNo → Name → List ℕ → List ℕ
tag_under size mac stream chain name payload = take size (hmac_of mac.0 (tag_text stream chain name payload))

-- the tag of a message whose interval has this key
abbrev pub tag_of : ℕ → Key → StreamId → ChainNo → Name → List ℕ → List ℕ
tag_of size key stream chain name payload = tag_under size (mac_of key) stream chain name payload
