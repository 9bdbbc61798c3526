-- Tags of several lengths, each in a room of 32 bytes.
use Rattle.std.specs.Prelude.{ℕ, ◌-◌, List, ◌++◌, length, take, replicate}
use Rattle.tesla_base.specs.declared.names.WideTag.{WideTag}

-- the tag that has these bytes; zeros fill up its room
abbrev pub wide_tag : List ℕ → WideTag
wide_tag bytes = record { bytes = bytes ++ replicate (32 - length bytes) 0; length = length bytes }

-- the bytes that a tag has
abbrev pub tag_bytes : WideTag → List ℕ
tag_bytes tag = take tag.length tag.bytes
