-- The setup that numbers and the text of seeds come to.
use Rattle.std.specs.Prelude.{◌≡◌, ℕ, ◌+◌, ◌<◌, ◌≤◌, List, [], ◌∷◌, ◌++◌, length, take, nat_le, ◌&&◌, if◌then◌else◌, Option, Some, None, Result, Ok, Err}
use Rattle.tesla_base.specs.Version.{longest_tag, most_chains, shortest_tag, version_of}
use Rattle.tesla_base.specs.declared.names.Key.{Key}
use Rattle.tesla_base.specs.declared.version.Version.{Version}
use Rattle.tesla_clock.specs.Schedule.{Times}
use Rattle.tesla_commit.specs.JudgedLines.{◌>>=◌}
use Rattle.tesla_commit.specs.Parts.{Parts}
use Rattle.tesla_commit.specs.SetupText.{IsSetup, setup_text}
use Rattle.tesla_frame.specs.Written.{Begins}
use Rattle.tesla_seeds.specs.Judged.{seeds_judged}
use Rattle.tesla_seeds.specs.declared.refusal.SeedsKind.{SeedsKind}
use Rattle.tesla_sender_setup.specs.Delays.{RiseAbove}
use Rattle.tesla_sender_setup.specs.Made.{setup_made}
use Rattle.tesla_sender_setup.specs.Parameters.{StreamParameters}
use Rattle.tesla_c.specs.Senders.{seeds_code}
use Rattle.tesla_c.specs.declared.parameters.CParameters.{CParameters}
use Rattle.tesla_c.specs.declared.sender_answers.CSenderRefusal.{CSenderRefusal}
use Rattle.tesla_c.specs.declared.sender_opening.Unopened.{Unopened}
use Rattle.tesla_c.specs.declared.sender_opening.Unopened.TheVariants as unopened

-- ---- the numbers, or the place of the first that is outside its limits, as the fields count from 1

-- a number within limits, or its place
abbrev pub placed : (place least most number : ℕ) → Result ℕ ℕ
placed place least most number = if nat_le least number && nat_le number most then Ok number else Err place

abbrev pub times_judged : CParameters → Result Times ℕ
times_judged it = do
  length ← placed 3 1000 3600000000 it.interval
  last ← placed 4 1 1048576 it.last
  Ok (record { start = it.start; length = length; last = last })

abbrev pub version_judged : Option Version → Result Version ℕ
version_judged None = Err 5
version_judged (Some version) = Ok version

-- delays of at most 4,096 intervals, each above the one before, of which the first has that place
abbrev pub delays_judged : (place before : ℕ) → List ℕ → Result (List ℕ) ℕ
delays_judged place before [] = Ok []
delays_judged place before (delay ∷ delays) =
    placed place (before + 1) 4096 delay >>= λ first. delays_judged (place + 1) first delays >>= λ others. Ok (first ∷ others)

-- these delays are what is judged, behind those that stood there before
pub record AddsDelays (place before : ℕ) (numbers old new more : List ℕ) : Type 0 where
  pub judged : delays_judged place before numbers ≡ Ok more
  pub added : new ≡ old ++ more
  pub count : length more ≡ length numbers
  pub rise : RiseAbove before more

-- the length of tags and the delays in a version
abbrev pub chains_judged : Version → CParameters → Result (ℕ × List ℕ) ℕ
chains_judged version it = do
  size ← placed 6 (shortest_tag version) (longest_tag version) it.tag_length
  count ← placed 7 1 (most_chains version) it.chains
  delays ← delays_judged 8 0 (take count it.delays)
  Ok (size, delays)

-- all of them
abbrev pub parameters_judged : CParameters → Result StreamParameters ℕ
parameters_judged it = do
  times ← times_judged it
  version ← version_judged (version_of it.version)
  chains ← chains_judged version it
  Ok (record { version = version; stream = record { 0 = it.stream }; times = times; tag_length = chains.0; delays = chains.1 })

-- ---- the setup, or the status and the refusal

-- what the parameters and the seeds that are judged make
abbrev pub seeds_made : StreamParameters → Result (List Key) (ℕ × SeedsKind) → Result Parts (ℕ × CSenderRefusal)
seeds_made parameters (Ok seeds) = Ok (setup_made parameters seeds)
seeds_made parameters (Err refusal) = Err (1, record { text = 2; line = refusal.0; kind = seeds_code refusal.1; chain = 0 })

-- what the parameters and the text of the seeds make: as many seeds as there are delays
abbrev pub text_made : StreamParameters → List ℕ → Result Parts (ℕ × CSenderRefusal)
text_made parameters text = seeds_made parameters (seeds_judged (length parameters.delays) text)

abbrev pub judged_made : Result StreamParameters ℕ → List ℕ → Result Parts (ℕ × CSenderRefusal)
judged_made (Ok parameters) text = text_made parameters text
judged_made (Err place) text = Err (2, record { text = 0; line = place; kind = 0; chain = 0 })

-- what the numbers and the text of the seeds come to: the numbers are judged first
abbrev pub making_judged : CParameters → List ℕ → Result Parts (ℕ × CSenderRefusal)
making_judged it text = judged_made (parameters_judged it) text

-- ---- what is told

-- there is no setup, for this reason, or memory was wanting
abbrev pub IsUnmade : Result Parts (ℕ × CSenderRefusal) → Unopened → Type 0
IsUnmade made (unopened.Refused told) = made ≡ Err (1, told)
IsUnmade made unopened.NoMemory = Unit {0}

-- the text of the setup begins the room, the bytes behind it are as before, and size is its length
pub record IsWrittenSetup (setup : Parts) (size : ℕ) (before now : List ℕ) : Type 0 where
  pub spelled : IsSetup (take size now) setup
  pub size_is : size ≡ length (setup_text setup)
  pub text : Begins (setup_text setup) before now

-- the text of the setup has that length, and the room is shorter
pub record IsTooLong (setup : Parts) (size : ℕ) (room : List ℕ) : Type 0 where
  pub size_is : size ≡ length (setup_text setup)
  pub short : length room < size
  pub most : size ≤ 4096
