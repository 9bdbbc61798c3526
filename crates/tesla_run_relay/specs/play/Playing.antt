-- What posts of play sent, and how it ends.
use Rattle.std.specs.Prelude.{◌≡◌, ◌⊎◌, ℕ, suc, true, false, List, [], ◌∷◌, ◌++◌, length, map, Some, codes}
use Rattle.std.specs.List.{AllByRecursion}
use Rattle.std.specs.Option.{option_map}
use Rattle.tesla_capture.specs.Names.{kind_name}
use Rattle.tesla_desk.specs.Faults.{raised}
use Rattle.tesla_desk.specs.Live.{Live}
use Rattle.tesla_front.specs.OutcomeView.{OutcomeView, Done, Failed, Refused}
use Rattle.tesla_front.specs.Command.{Command}
use Rattle.tesla_front.specs.Files.{HoldsWhere}
use Rattle.tesla_front.specs.Lines.{count_line}
use Rattle.tesla_front.specs.Openings.{File}
use Rattle.tesla_front.specs.Refusal.{refused_line}
use Rattle.tesla_front.specs.declared.fault.Fault.TheVariants as faults
use Rattle.tesla_front.specs.Names.{IsNoneOf}
use Rattle.tesla_relay.specs.Play.{FileTo, IsPlayed, Paced, Played, TellsCount, bytes_of, reading_of}
use Rattle.tesla_relay.specs.declared.playing.PlayEnd.{PlayEnd}
use Rattle.tesla_relay.specs.declared.playing.PlayEnd.TheVariants as ends
use Rattle.tesla_relay.specs.Clocks.{ReadWhere}
use Rattle.tesla_relay.specs.Closed.{HoldsSent, IsUnsent}
use Rattle.tesla_run_relay.specs.play.Arguments.{PlayArguments, IsPlayForm, files_of_play}

-- the line that tells how many arrivals were played
abbrev pub played_line : ℕ → List ℕ
played_line count = count_line (codes "played") count

-- what a play comes to: the line that tells how many arrivals there were, the first place of the capture that is refused, or a failed read or post
abbrev pub outcome_with : PlayEnd → OutcomeView
outcome_with (ends.Ended sent) = Done (played_line sent)
outcome_with (ends.Refused offset kind) = Refused 3 (refused_line (codes "capture") offset (kind_name kind))
outcome_with ends.ReadFault = Failed faults.Read
outcome_with ends.PostFault = Failed faults.Write

-- ---- nothing was played

-- the capture or a post wasn't opened, or there was no memory: nothing was read, no post sent anything, and no clock was made
pub record Stops (before now : Live) (capture capture_now : File) (outcome : OutcomeView) : Type 0 where
  pub unread : (capture_now.left ≡ capture.left) ⊎ HoldsWhere capture.page (λ bytes. capture_now.left ≡ Some bytes)
  pub unsent : (name : List ℕ) → (now.mail name ≡ before.mail name) ⊎ IsUnsent (now.mail name)
  pub made : now.made ≡ before.made
  pub cause : (outcome ≡ Failed faults.Open) ⊎ (outcome ≡ Failed faults.NoMemory)

-- ---- the posts

-- each post under these names sent these datagrams, and none failed
abbrev pub HaveSent : List (List ℕ) → List (List ℕ) → Live → Type 0
HaveSent datagrams [] now = Unit {0}
HaveSent datagrams (name ∷ names) now = HoldsSent datagrams false (now.mail name) × HaveSent datagrams names now

-- the posts before the one that failed sent the last datagram too, that one and those behind it didn't
abbrev pub BreaksAt : (prefix : List (List ℕ)) (last : List ℕ) → List (List ℕ) → Live → Type 0
BreaksAt prefix last [] now = ⊥
BreaksAt prefix last (name ∷ names) now = (HoldsSent (prefix ++ last ∷ []) false (now.mail name) × BreaksAt prefix last names now) ⊎ (HoldsSent prefix true (now.mail name) × HaveSent prefix names now)

-- a post failed at the last of these datagrams
pub record BreaksOff (datagrams names : List (List ℕ)) (now : Live) : Type 0 where
  pub prefix : List (List ℕ)
  pub last : List ℕ
  pub datagrams_are : datagrams ≡ prefix ++ last ∷ []
  pub breaks : BreaksAt prefix last names now

-- what was sent under these names: all of the datagrams, in order and each once, unless a post failed
abbrev pub PostsHold : PlayEnd → List (List ℕ) → List (List ℕ) → Live → Type 0
PostsHold (ends.Ended sent) datagrams names now = HaveSent datagrams names now
PostsHold (ends.Refused offset kind) datagrams names now = HaveSent datagrams names now
PostsHold ends.ReadFault datagrams names now = HaveSent datagrams names now
PostsHold ends.PostFault datagrams names now = BreaksOff datagrams names now

-- ---- a run

-- the arrivals of the capture were played to the posts
pub record PlaysFile (arguments : PlayArguments) (before now : Live) (capture capture_now : File) (outcome : OutcomeView) : Type 0 where
  pub end : PlayEnd
  pub outcome_is : outcome ≡ outcome_with end
  pub played : List Played
  pub limits : AllByRecursion IsPlayed played
  -- when: each arrival took the next readings that were below its own, and one that was not
  pub readings : List ℕ
  pub paced : Paced (map reading_of played) readings
  pub clock : ReadWhere readings before.readings before.made
  pub made : now.made ≡ option_map raised before.made
  -- which arrivals of the capture, where its bytes are told
  pub file : HoldsWhere capture.page (λ bytes. FileTo end bytes capture_now.left played)
  pub count : TellsCount end played
  -- what each post sent
  pub posts : PostsHold end (map bytes_of played) arguments.posts now

-- ---- the command

-- what is told of links, posts and clocks is as before, but for the mail of these posts and how many clocks were made
pub record TouchesPosts (posts : List (List ℕ)) (before now : Live) : Type 0 where
  pub wires : (name : List ℕ) → now.wire name ≡ before.wire name
  pub lefts : (name : List ℕ) → now.left name ≡ before.left name
  pub mails : (name : List ℕ) → IsNoneOf name posts → now.mail name ≡ before.mail name
  pub readings : now.readings ≡ before.readings

-- what the run does: nothing was played; or all were opened, and the capture was played
abbrev pub DoesPlay : Live → Live → PlayArguments → ℕ → List File → List File → OutcomeView → Type 0
DoesPlay before now arguments opened (capture ∷ posts) (capture_now ∷ posts_now) outcome =
    TouchesPosts arguments.posts before now × (Stops before now capture capture_now outcome ⊎ ((opened ≡ suc (length arguments.posts)) × PlaysFile arguments before now capture capture_now outcome))
DoesPlay before now arguments opened files files_now outcome = ⊥

-- the command, told what the desk has of posts and clocks before and afterwards: its words, its files and what it does
abbrev pub play : Live → Live → Command
play before now = record { Arguments = PlayArguments; IsForm = IsPlayForm; files = files_of_play; Does = DoesPlay before now }
