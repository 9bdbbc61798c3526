-- What posts of relay sent of its link's datagrams, and how it ends.
use Rattle.std.specs.Prelude.{◌≡◌, ◌≢◌, ◌⊎◌, ℕ, suc, Bool, true, false, List, [], ◌∷◌, length, Option}
use Rattle.std.specs.List.{list_any}
use Rattle.tesla_desk.specs.Links.{datagrams}
use Rattle.tesla_desk.specs.Live.{Live, Remainder, LeavesAll, Mail}
use Rattle.tesla_desk.specs.declared.link.Letter.{Letter}
use Rattle.tesla_front.specs.OutcomeView.{OutcomeView, Done, Failed}
use Rattle.tesla_front.specs.Command.{Command}
use Rattle.tesla_front.specs.Openings.{File}
use Rattle.tesla_front.specs.declared.fault.Fault.TheVariants as faults
use Rattle.tesla_front.specs.Names.{IsNoneOf}
use Rattle.tesla_relay.specs.Closed.{HoldsSent, IsUnsent}
use Rattle.tesla_relay.specs.Links.{HasBroken, HasEnded, LeftWhere}
use Rattle.tesla_relay.specs.Relay.{RelaysTo}
use Rattle.tesla_relay.specs.declared.relayed.PostCount.{PostCount}
use Rattle.tesla_run_relay.specs.Arguments.{RelayArguments, IsRelayForm, files_of_relay}
use Rattle.tesla_run_relay.specs.Lines.{has_failed, lines_from}

-- ---- nothing was relayed

-- the link or a post wasn't opened, or there was no memory: no letter left the link, and no post sent anything
pub record Stops (arguments : RelayArguments) (before now : Live) (outcome : OutcomeView) : Type 0 where
  pub unheard : (now.left arguments.link ≡ before.left arguments.link) ⊎ LeavesAll (before.wire arguments.link) (now.left arguments.link)
  pub unsent : (name : List ℕ) → (now.mail name ≡ before.mail name) ⊎ IsUnsent (now.mail name)
  pub cause : (outcome ≡ Failed faults.Open) ⊎ (outcome ≡ Failed faults.NoMemory)

-- ---- the posts

-- a post sent, of the datagrams that came, those that weren't dropped for it, in order and each once; where it failed, a prefix of them
pub record SendsPost (capacity : ℕ) (arrived : List (List ℕ)) (mail : Mail) (count : PostCount) : Type 0 where
  pub sent : List (List ℕ)
  pub to : RelaysTo capacity arrived sent count
  pub holds : HoldsSent sent count.failed mail

-- the same of each post, with the mail under its name and its count
abbrev pub SendPosts : ℕ → List (List ℕ) → List (List ℕ) → Live → List PostCount → Type 0
SendPosts capacity arrived [] now [] = Unit {0}
SendPosts capacity arrived (name ∷ names) now (count ∷ counts) = SendsPost capacity arrived (now.mail name) count × SendPosts capacity arrived names now counts
SendPosts capacity arrived names now counts = ⊥

-- ---- a run

-- how it ends, told whether a write failed: all letters left the link and none failed, which the lines of the counts tell; the link failed; or a write failed and all letters left the link
abbrev pub EndsAs : Option Remainder → Bool → List PostCount → OutcomeView → Type 0
EndsAs remainder failed counts (Done text) = (text ≡ lines_from 0 counts) × (failed ≡ false) × HasEnded remainder
EndsAs remainder failed counts (Failed faults.Read) = HasBroken remainder
EndsAs remainder failed counts (Failed faults.Write) = (failed ≡ true) × HasEnded remainder
EndsAs remainder failed counts _ = ⊥

-- the datagrams of the link were relayed to all posts
pub record RelaysLink (arguments : RelayArguments) (before now : Live) (outcome : OutcomeView) : Type 0 where
  pub taken : List Letter
  pub link : LeftWhere taken (before.wire arguments.link) (now.left arguments.link)
  pub counts : List PostCount
  pub posts : SendPosts arguments.capacity (datagrams taken) arguments.posts now counts
  pub ends : EndsAs (now.left arguments.link) (list_any has_failed counts) counts outcome

-- ---- the command

-- what is told of links, posts and clocks is as before, but for what is left of this link and the mail of these posts
pub record TouchesPosts (link : List ℕ) (posts : List (List ℕ)) (before now : Live) : Type 0 where
  pub wires : (name : List ℕ) → now.wire name ≡ before.wire name
  pub others : (name : List ℕ) → name ≢ link → now.left name ≡ before.left name
  pub mails : (name : List ℕ) → IsNoneOf name posts → now.mail name ≡ before.mail name
  pub clocks : (now.readings ≡ before.readings) × (now.made ≡ before.made)

-- what the run does: nothing was relayed; or all were opened, and what the link brought was relayed
abbrev pub DoesRelay : Live → Live → RelayArguments → ℕ → List File → List File → OutcomeView → Type 0
DoesRelay before now arguments opened files files_now outcome =
    TouchesPosts arguments.link arguments.posts before now
    × (Stops arguments before now outcome ⊎ ((opened ≡ suc (length arguments.posts)) × RelaysLink arguments before now outcome))

-- the command, told what the desk has of links and posts before and afterwards: its words, its files and what it does
abbrev pub relay : Live → Live → Command
relay before now = record { Arguments = RelayArguments; IsForm = IsRelayForm; files = files_of_relay; Does = DoesRelay before now }
