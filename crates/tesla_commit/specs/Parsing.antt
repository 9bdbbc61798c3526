-- Which setup a text spells, or its first refused line with its kind. A line is whatever an LF ends, so bytes that no
-- LF follows are none. Each space ends one word and begins the next, so a word can be empty.
use Rattle.std.specs.Prelude.{ℕ, ◌+◌, Bool, List, [], ◌∷◌, length, Result, Ok, Err, codes, nat_lt, nat_le, ◌==◌, ◌&&◌, ◌||◌, if◌then◌else◌}
use Rattle.std.specs.Int.{w64, from_be_bytes}
use Rattle.std.specs.List.{slice_split, list_all}
use Rattle.std.specs.Str.{bytes_eq}
use Rattle.hex.specs.Hex.{decode_sized}
use Rattle.hex.specs.declared.error.FromHexError.{FromHexError}
use Rattle.tesla_base.specs.Number.{decimal_of}
use Rattle.tesla_base.specs.Version.{shortest_tag, longest_tag}
use Rattle.tesla_base.specs.declared.number.NumberFault.{NumberFault}
use Rattle.tesla_base.specs.declared.names.StreamId.{StreamId}
use Rattle.tesla_base.specs.declared.version.Version.{Version}
use Rattle.tesla_base.specs.declared.version.Version.TheVariants.{One, Two}
use Rattle.tesla_clock.specs.Schedule.{Times}
use Rattle.tesla_commit.specs.Parts.{Parts}
use Rattle.tesla_commit.specs.JudgedLines.{◌>>=◌, at, within}
use Rattle.tesla_commit.specs.ChainRows.{row_judged, first_line, end_line}
use Rattle.tesla_commit.specs.declared.chain_row.ChainRow.{ChainRow}
use Rattle.tesla_commit.specs.declared.refusal.SetupKind.{SetupKind}
use Rattle.tesla_commit.specs.declared.refusal.SetupKind.TheVariants.{BadLine, BadNumber, BadHex, NoChain, TooManyChains, TooLong}

-- what stands between such bytes
unfoldable pub between : ℕ → List ℕ → List (List ℕ)
between byte text = slice_split (λ b. b == byte) text

-- what the LFs of a text end, and then what stands after the last
abbrev pub lines : List ℕ → List (List ℕ)
lines text = between 10 text

-- what stands between the spaces of a line
abbrev pub words : List ℕ → List (List ℕ)
words line = between 32 line

-- the line of that number, which an LF has to end, and the lines after it
abbrev pub next_line : ℕ → List (List ℕ) → Result (List ℕ × List (List ℕ)) (ℕ × SetupKind)
next_line number [] = Err (number, BadLine)
next_line number (unended ∷ []) = Err (number, BadLine)
next_line number (line ∷ next ∷ others) = Ok (line, next ∷ others)

-- the value behind a name
abbrev pub value_in : List ℕ → List (List ℕ) → Result (List ℕ) SetupKind
value_in name [] = Err BadLine
value_in name (first ∷ []) = Err BadLine
value_in name (first ∷ value ∷ []) = if bytes_eq first name then Ok value else Err BadLine
value_in name (first ∷ value ∷ more ∷ others) = Err BadLine

-- the delay, the index and the key of a chain
abbrev pub chain_words : List (List ℕ) → Result (List ℕ × List ℕ × List ℕ) SetupKind
chain_words (first ∷ delay ∷ index ∷ key ∷ []) = if bytes_eq first (codes "chain") then Ok (delay, index, key) else Err BadLine
chain_words _ = Err BadLine

-- a number, or what a fault of a decimal is in a setup
abbrev pub number_or_bad : Result ℕ NumberFault → Result ℕ SetupKind
number_or_bad (Ok number) = Ok number
number_or_bad (Err fault) = Err BadNumber

-- the number that a word spells
abbrev pub number_in : List ℕ → Result ℕ SetupKind
number_in word = number_or_bad (decimal_of word)

-- a digit of a hexadecimal number in lower case
abbrev pub is_lower_digit : ℕ → Bool
is_lower_digit b = (nat_le 48 b && nat_le b 57) || (nat_le 97 b && nat_le b 102)

-- bytes, or what a fault of hexadecimal digits is in a setup
abbrev pub bytes_or_bad : Result (List ℕ) FromHexError → Result (List ℕ) SetupKind
bytes_or_bad (Ok bytes) = Ok bytes
bytes_or_bad (Err fault) = Err BadHex

-- that many bytes, which a word of lower-case digits spells
abbrev pub hex_in : ℕ → List ℕ → Result (List ℕ) SetupKind
hex_in count word = if list_all is_lower_digit word then bytes_or_bad (decode_sized word count) else Err BadHex

-- line 1
abbrev pub title_in : List ℕ → Result Version SetupKind
title_in line =
    if bytes_eq line (codes "tesla 1") then Ok One
    else if bytes_eq line (codes "tesla 2") then Ok Two
    else Err BadLine

-- line 2
abbrev pub stream_in : List ℕ → Result StreamId SetupKind
stream_in line = do
  word ← value_in (codes "stream") (words line)
  bytes ← hex_in 8 word
  Ok (record { 0 = from_be_bytes w64 bytes })

-- line 3
abbrev pub start_in : List ℕ → Result ℕ SetupKind
start_in line = do
  word ← value_in (codes "start") (words line)
  number_in word

-- a line of a name and a number within limits
abbrev pub limited_in : List ℕ → ℕ → ℕ → List ℕ → Result ℕ SetupKind
limited_in name least most line = do
  word ← value_in name (words line)
  number ← number_in word
  within least most number

-- a chain that comes after one with that delay, 0 where none comes before
unfoldable pub chain_in : ℕ → ℕ → List ℕ → Result ChainRow SetupKind
chain_in last before line = do
  word ← chain_words (words line)
  number ← number_in word.0
  index ← number_in word.1
  delay ← within 1 4096 number
  key ← hex_in 32 word.2
  row_judged last before (record { delay = delay; index = index; key = record { 0 = key } })

-- the chains from that line on, to the end of the text
unfoldable pub chains_judged : Version → ℕ → ℕ → ℕ → List (List ℕ) → Result (List ChainRow) (ℕ × SetupKind)
chains_judged version last number before [] = Err (number, BadLine)
chains_judged version last number before (unended ∷ []) =
    if length unended == 0 then (if number == first_line version then Err (number, NoChain) else Ok [])
    else if number == end_line version then Err (number, TooManyChains)
    else Err (number, BadLine)
chains_judged version last number before (line ∷ next ∷ others) =
    if number == end_line version then Err (number, TooManyChains)
    else at number (chain_in last before line) >>= λ row. chains_judged version last (number + 1) row.delay (next ∷ others) >>= λ rows. Ok (row ∷ rows)

-- lines 1 and 2
unfoldable pub opening_judged : List (List ℕ) → Result (Version × StreamId × List (List ℕ)) (ℕ × SetupKind)
opening_judged text = do
  one ← next_line 1 text
  version ← at 1 (title_in one.0)
  two ← next_line 2 one.1
  stream ← at 2 (stream_in two.0)
  Ok (version, stream, two.1)

-- lines 3 to 5
unfoldable pub times_judged : List (List ℕ) → Result (Times × List (List ℕ)) (ℕ × SetupKind)
times_judged text = do
  three ← next_line 3 text
  start ← at 3 (start_in three.0)
  four ← next_line 4 three.1
  length ← at 4 (limited_in (codes "interval") 1000 3600000000 four.0)
  five ← next_line 5 four.1
  last ← at 5 (limited_in (codes "last") 1 1048576 five.0)
  Ok (record { start = start; length = length; last = last }, five.1)

-- line 6 of version 2, the length of tags
unfoldable pub tag_judged : Version → List (List ℕ) → Result (ℕ × List (List ℕ)) (ℕ × SetupKind)
tag_judged One text = Ok (longest_tag One, text)
tag_judged Two text = do
  six ← next_line 6 text
  size ← at 6 (limited_in (codes "tag") (shortest_tag Two) (longest_tag Two) six.0)
  Ok (size, six.1)

-- the lines after those of the times
unfoldable pub rest_judged : Version → StreamId → Times → List (List ℕ) → Result Parts (ℕ × SetupKind)
rest_judged version stream times text = do
  tag ← tag_judged version text
  rows ← chains_judged version times.last (first_line version) 0 tag.1
  Ok (record { version = version; stream = stream; times = times; tag_length = tag.0; rows = rows })

-- the whole text
unfoldable pub judged : List ℕ → Result Parts (ℕ × SetupKind)
judged text =
    if nat_lt 4096 (length text) then Err (0, TooLong)
    else opening_judged (lines text) >>= λ opening. times_judged opening.2 >>= λ times. rest_judged opening.0 opening.1 times.0 times.1
