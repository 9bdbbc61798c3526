-- The lines that tell a setup.
use Rattle.std.specs.Prelude.{◌≡◌, ℕ, suc, ◌+◌, ◌-◌, ◌*◌, ◌/◌, Option, List, [], ◌∷◌, ◌++◌, codes, decimal, if◌then◌else◌, unwrap_or}
use Rattle.std.specs.Int.{w64, to_be_bytes}
use Rattle.hex.specs.Hex.{encode_lower}
use Rattle.sha2.specs.Sha256.{sha256}
use Rattle.tesla_base.specs.Version.{number_of}
use Rattle.tesla_clock.specs.Schedule.{Times}
use Rattle.tesla_commit.specs.Parts.{Parts}
use Rattle.tesla_commit.specs.SetupText.{setup_text}
use Rattle.tesla_commit.specs.declared.chain_row.ChainRow.{ChainRow}
use Rattle.tesla_front.specs.Lines.{count_line}
use Rattle.tesla_run_info.specs.info.Calendar.{IsMoment, moment_text}
use Rattle.tesla_run_info.specs.info.Left.{end_of, is_unread, left_at, seconds_left_at}
use Rattle.tesla_run_info.specs.declared.info.calendar.Moment.{Moment}

-- a name, a space, a value and an LF
abbrev pub word_line : List ℕ → List ℕ → List ℕ
word_line name value = name ++ codes " " ++ value ++ codes "\n"

-- from the sending of a packet to the interval in which its key is told, at most, in microseconds: where it is sent when its own begins
abbrev pub latency : ℕ → ℕ → ℕ
latency length delay = delay * length

-- by how many microseconds a receiver may take the sender's clock to be ahead, at most, so that a packet that is sent when its interval ends, and comes at once, is safe
abbrev pub lag_most : ℕ → ℕ → ℕ
lag_most length delay = (delay - 1) * length

-- the line of a chain of this number, counted from 0, told the length of an interval
abbrev pub chain_line : ℕ → ℕ → ChainRow → List ℕ
chain_line length number row =
    codes "chain " ++ decimal number ++ codes " delay " ++ decimal row.delay ++ codes " index " ++ decimal row.index
    ++ codes " latency " ++ decimal (latency length row.delay) ++ codes " lag-most " ++ decimal (lag_most length row.delay) ++ codes "\n"

-- the lines of chains, numbered from the second argument on
abbrev pub chain_lines : ℕ → ℕ → List ChainRow → List ℕ
chain_lines length number [] = []
chain_lines length number (row ∷ rows) = chain_line length number row ++ chain_lines length (suc number) rows

-- the delay of the last chain, which is the slowest
abbrev pub slowest : List ChainRow → ℕ
slowest [] = 0
slowest (row ∷ []) = row.delay
slowest (row ∷ next ∷ rows) = slowest (next ∷ rows)

-- how many places a receiver needs, told how many packets come in a second, so that each packet has one until the slowest chain has passed its interval: those that come in the microseconds that this takes at most, rounded up
abbrev pub places : ℕ → Parts → ℕ
places rate setup = (rate * ((slowest setup.rows + 1) * setup.times.length) + 999999) / 1000000

-- the lines before those of the chains, told the digits of the stream's number and the moments of the begin and the end
unfoldable pub head_text : Parts → List ℕ → Moment → Moment → List ℕ
head_text setup stream begins ends =
    word_line (codes "stream") stream
    ++ count_line (codes "version") (number_of setup.version) ++ count_line (codes "tag") setup.tag_length
    ++ count_line (codes "interval") setup.times.length ++ count_line (codes "last") setup.times.last
    ++ count_line (codes "start") setup.times.start ++ word_line (codes "begins") (moment_text begins)
    ++ count_line (codes "end") (end_of setup.times) ++ word_line (codes "ends") (moment_text ends)

-- the lines of what is left at a reading of the clock: there are none where it couldn't be read
abbrev pub left_lines : Times → ℕ → List ℕ
left_lines times reading =
    if is_unread reading then [] else count_line (codes "left") (left_at times reading) ++ count_line (codes "left-seconds") (seconds_left_at times reading)

-- all lines, told how many packets come in a second, and a reading of the clock
abbrev pub info_text : ℕ → ℕ → Parts → Moment → Moment → List ℕ
info_text rate reading setup begins ends =
    head_text setup (encode_lower (to_be_bytes w64 setup.stream.0)) begins ends
    ++ left_lines setup.times reading
    ++ chain_lines setup.times.length 0 setup.rows
    ++ count_line (codes "capacity") (places rate setup)
    ++ word_line (codes "sha256") (encode_lower (sha256 (setup_text setup)))

-- the text is the lines that tell a setup at a reading of the clock; the places are those of one packet a second where no rate is told
pub record IsInfo (rate : Option ℕ) (reading : ℕ) (setup : Parts) (text : List ℕ) : Type 0 where
  pub begins : Moment
  pub ends : Moment
  pub begin : IsMoment (setup.times.start / 1000000) begins
  pub end : IsMoment (end_of setup.times / 1000000) ends
  pub lines : text ≡ info_text (unwrap_or rate 1) reading setup begins ends
