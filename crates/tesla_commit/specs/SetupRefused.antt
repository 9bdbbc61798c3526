-- Why a text is no setup, and at which line.
use Rattle.std.specs.Prelude.{◌≡◌, ◌≢◌, ◌⊎◌, ℕ, zero, suc, ◌+◌, ◌-◌, ◌^◌, ◌<◌, ◌≤◌, List, [], ◌∷◌, ◌++◌, length, map, take, codes, decimal}
use Rattle.std.specs.Int.{w64, to_be_bytes}
use Rattle.std.specs.List.{AllByRecursion}
use Rattle.hex.specs.Hex.{encode_lower, IsBytes}
use Rattle.tesla_base.specs.Version.{most_chains, shortest_tag, longest_tag, IsTagLength}
use Rattle.tesla_base.specs.declared.version.Version.{Version}
use Rattle.tesla_base.specs.declared.version.Version.TheVariants.{One, Two}
use Rattle.tesla_clock.specs.Schedule.{IsSchedule}
use Rattle.tesla_commit.specs.ChainRows.{first_line}
use Rattle.tesla_commit.specs.Parts.{Parts, IsRow, DelaysRise}
use Rattle.tesla_commit.specs.Parsing.{lines, words}
use Rattle.tesla_commit.specs.SetupText.{chain_values, version_text, HasKey}
use Rattle.tesla_commit.specs.declared.chain_row.ChainRow.{ChainRow}
use Rattle.tesla_commit.specs.declared.refusal.SetupKind.{SetupKind}
use Rattle.tesla_commit.specs.declared.refusal.SetupKind.TheVariants.{BadLine, BadNumber, BadHex, NoChain, TooManyChains, DelaysNotRising, IndexPastLast, LimitPassed, TooLong}

-- the word is the decimal of no number of 64 bits
abbrev pub IsNoDecimal : List ℕ → Type 0
IsNoDecimal word = (n : ℕ) → n < 2 ^ 64 → word ≢ decimal n

-- the word is not the lower-case digits of so many bytes
abbrev pub IsNoHex : ℕ → List ℕ → Type 0
IsNoHex count word = (bytes : List ℕ) → length bytes ≡ count → IsBytes bytes → word ≢ encode_lower bytes

-- the number is within no limits
abbrev pub IsOutside : ℕ → ℕ → ℕ → Type 0
IsOutside least most n = (n < least) ⊎ (most < n)

-- line 1
abbrev pub title : Version → List ℕ
title version = codes "tesla" ++ 32 ∷ version_text version

-- why line 1 is refused
abbrev pub WhyTitle : SetupKind → List ℕ → Type 0
WhyTitle BadLine line = (version : Version) → line ≢ title version
WhyTitle _ line = ⊥

-- why line 2 is refused
abbrev pub WhyStream : SetupKind → List ℕ → Type 0
WhyStream BadLine line = (word : List ℕ) → words line ≢ codes "stream" ∷ word ∷ []
WhyStream BadHex line = (word : List ℕ) × (words line ≡ codes "stream" ∷ word ∷ []) × IsNoHex 8 word
WhyStream _ line = ⊥

-- why a line of a name and a number within limits is refused
abbrev pub WhyNumber : List ℕ → ℕ → ℕ → SetupKind → List ℕ → Type 0
WhyNumber name least most BadLine line = (word : List ℕ) → words line ≢ name ∷ word ∷ []
WhyNumber name least most BadNumber line = (word : List ℕ) × (words line ≡ name ∷ word ∷ []) × IsNoDecimal word
WhyNumber name least most LimitPassed line = (n : ℕ) × (n < 2 ^ 64) × (words line ≡ name ∷ decimal n ∷ []) × IsOutside least most n
WhyNumber name least most _ line = ⊥

-- the line of a chain has these words
abbrev pub HasWords : List ℕ → List ℕ → List ℕ → List ℕ → Type 0
HasWords line delay index key = words line ≡ codes "chain" ∷ delay ∷ index ∷ key ∷ []

-- the first two of them are the decimals of these numbers
abbrev pub HasNumbers : List ℕ → ℕ → ℕ → List ℕ → Type 0
HasNumbers line delay index key = HasWords line (decimal delay) (decimal index) key × (delay < 2 ^ 64) × (index < 2 ^ 64)

-- the line of a chain spells a delay within its limits, an index, and a key of 32 bytes
abbrev pub SpellsChain : List ℕ → ℕ → ℕ → List ℕ → Type 0
SpellsChain line delay index key = HasNumbers line delay index (encode_lower key) × (1 ≤ delay) × (delay ≤ 4096) × (length key ≡ 32) × IsBytes key

-- why the line of a chain is refused, after a chain with the delay before; a kind is told where none above it applies
abbrev pub WhyChain : ℕ → ℕ → SetupKind → List ℕ → Type 0
WhyChain last before BadLine line = (delay index key : List ℕ) → ¬ HasWords line delay index key
WhyChain last before BadNumber line = (delay : List ℕ) × (index : List ℕ) × (key : List ℕ) × HasWords line delay index key × (IsNoDecimal delay ⊎ IsNoDecimal index)
WhyChain last before LimitPassed line = (delay : ℕ) × (index : ℕ) × (key : List ℕ) × HasNumbers line delay index key × IsOutside 1 4096 delay
WhyChain last before BadHex line = (delay : ℕ) × (index : ℕ) × (key : List ℕ) × HasNumbers line delay index key × (1 ≤ delay) × (delay ≤ 4096) × IsNoHex 32 key
WhyChain last before DelaysNotRising line = (delay : ℕ) × (index : ℕ) × (key : List ℕ) × SpellsChain line delay index key × (delay ≤ before)
WhyChain last before IndexPastLast line = (delay : ℕ) × (index : ℕ) × (key : List ℕ) × SpellsChain line delay index key × (before < delay) × (last < index)
WhyChain last before _ line = ⊥

-- no LF ends the next line, or it is refused by why
abbrev pub StopsHere : (SetupKind → List ℕ → Type 0) → SetupKind → List (List ℕ) → Type 0
StopsHere why kind [] = ⊥
StopsHere why kind (unended ∷ []) = kind ≡ BadLine
StopsHere why kind (line ∷ next ∷ others) = why kind line

-- the line of the tags' length, where there is one
abbrev pub tag_lines : Version → ℕ → List (List ℕ)
tag_lines One size = []
tag_lines Two size = (codes "tag" ++ 32 ∷ decimal size) ∷ []

-- the lines of a setup before those of its chains
abbrev pub head_lines : Parts → List (List ℕ)
head_lines parts =
    title parts.version
    ∷ (codes "stream" ++ 32 ∷ encode_lower (to_be_bytes w64 parts.stream.0))
    ∷ (codes "start" ++ 32 ∷ decimal parts.times.start)
    ∷ (codes "interval" ++ 32 ∷ decimal parts.times.length)
    ∷ (codes "last" ++ 32 ∷ decimal parts.times.last)
    ∷ tag_lines parts.version parts.tag_length

-- the limits of what those lines tell
pub record IsHead (parts : Parts) : Type 0 where
  pub stream : parts.stream.0 < 2 ^ 64
  pub start : parts.times.start < 2 ^ 64
  pub times : IsSchedule parts.times
  pub tag_length : IsTagLength parts.version parts.tag_length

-- why the line after so many is refused, before the chains
abbrev pub why_head : ℕ → SetupKind → List ℕ → Type 0
why_head zero kind line = WhyTitle kind line
why_head (suc zero) kind line = WhyStream kind line
why_head (suc (suc zero)) kind line = WhyNumber (codes "start") 0 (2 ^ 64 - 1) kind line
why_head (suc (suc (suc zero))) kind line = WhyNumber (codes "interval") 1000 3600000000 kind line
why_head (suc (suc (suc (suc zero)))) kind line = WhyNumber (codes "last") 1 1048576 kind line
why_head (suc (suc (suc (suc (suc n))))) kind line = WhyNumber (codes "tag") (shortest_tag Two) (longest_tag Two) kind line

-- the lines before that one are those of a setup's front, and it is refused
pub record StopsInHead (text : List (List ℕ)) (before : ℕ) (kind : SetupKind) : Type 0 where
  pub parts : Parts
  pub limits : IsHead parts
  pub few : before + 1 < first_line parts.version
  pub rest : List (List ℕ)
  pub spelled : text ≡ take before (head_lines parts) ++ rest
  pub why : StopsHere (why_head before) kind rest

-- the line of a chain
abbrev pub chain_text : ChainRow → List ℕ
chain_text row = codes "chain" ++ 32 ∷ chain_values row

-- the delay of the last of these chains, that number where there is none
abbrev pub last_delay : ℕ → List ChainRow → ℕ
last_delay before [] = before
last_delay before (row ∷ rows) = last_delay row.delay rows

-- why the text is refused at a line of a chain
abbrev pub StopsAtChain : ℕ → ℕ → ℕ → ℕ → SetupKind → List (List ℕ) → Type 0
StopsAtChain most count last before NoChain rest = (count ≡ 0) × (rest ≡ [] ∷ [])
StopsAtChain most count last before TooManyChains rest = (count ≡ most) × (0 < length rest) × (rest ≢ [] ∷ [])
StopsAtChain most count last before kind rest = (count < most) × (rest ≢ [] ∷ []) × StopsHere (WhyChain last before) kind rest

-- the lines before that one are those of a setup's front with all of these chains, and it is refused
pub record StopsInChains (text : List (List ℕ)) (before : ℕ) (kind : SetupKind) : Type 0 where
  pub parts : Parts
  pub limits : IsHead parts
  pub each : AllByRecursion (IsRow parts.times.last) parts.rows
  pub rise : DelaysRise parts.rows
  pub keys : AllByRecursion HasKey parts.rows
  pub count : before + 1 ≡ first_line parts.version + length parts.rows
  pub rest : List (List ℕ)
  pub spelled : text ≡ head_lines parts ++ map chain_text parts.rows ++ rest
  pub why : StopsAtChain (most_chains parts.version) (length parts.rows) parts.times.last (last_delay 0 parts.rows) kind rest

-- the text is refused at this line: it is too long, or its lines before that one are those of a setup's front
abbrev pub IsRefused : List ℕ → ℕ → SetupKind → Type 0
IsRefused text zero kind = (kind ≡ TooLong) × (4096 < length text)
IsRefused text (suc before) kind = (length text ≤ 4096) × (StopsInHead (lines text) before kind ⊎ StopsInChains (lines text) before kind)
