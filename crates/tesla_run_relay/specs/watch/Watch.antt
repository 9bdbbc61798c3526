-- What watch-relay does: what relay does, and STATUS.
use Rattle.std.specs.Prelude.{◌≡◌, ◌⊎◌, ◌||◌, ℕ, suc, Bool, true, false, List, [], ◌∷◌, drop, length, Some, None}
use Rattle.std.specs.List.{list_any}
use Rattle.std.specs.Option.{option_map}
use Rattle.tesla_desk.specs.Faults.{raised}
use Rattle.tesla_desk.specs.Links.{datagrams}
use Rattle.tesla_desk.specs.Live.{Live}
use Rattle.tesla_desk.specs.Outside.{Page}
use Rattle.tesla_desk.specs.declared.link.Letter.{Letter}
use Rattle.tesla_front.specs.OutcomeView.{OutcomeView, Failed}
use Rattle.tesla_front.specs.Command.{Command}
use Rattle.tesla_front.specs.Openings.{File}
use Rattle.tesla_front.specs.declared.fault.Fault.TheVariants as faults
use Rattle.tesla_relay.specs.Links.{LeftWhere}
use Rattle.tesla_relay.specs.declared.relayed.PostCount.{PostCount}
use Rattle.tesla_run_relay.specs.Lines.{has_failed}
use Rattle.tesla_run_relay.specs.Relay.{EndsAs, SendPosts, Stops, TouchesPosts}
use Rattle.tesla_run_relay.specs.watch.Arguments.{IsWatchForm, WatchArguments, files_of_watch}
use Rattle.tesla_run_relay.specs.watch.Written.{HoldsStatus}

-- ---- nothing was relayed

-- a failed write in place of what else it would have come to, where STATUS failed
abbrev pub unless_failed : Bool → OutcomeView → OutcomeView
unless_failed true outcome = Failed faults.Write
unless_failed false outcome = outcome

-- the link, a post or STATUS wasn't opened, or there was no memory: no letter left the link, and no post sent anything. STATUS is as before, or has lines but no last one
pub record StopsWatched (arguments : WatchArguments) (before now : Live) (page page_now : Page) (outcome : OutcomeView) : Type 0 where
  pub stopped : OutcomeView
  pub stops : Stops arguments.relay before now stopped
  pub failed : Bool
  pub status : ((page_now ≡ page) × (failed ≡ false)) ⊎ HoldsStatus (length arguments.relay.posts) None failed page_now
  pub outcome_is : outcome ≡ unless_failed failed stopped

-- ---- a run

-- the datagrams of the link were relayed to all posts, one clock more was made, and STATUS has the counts; it ends as relay does, but that a failed STATUS is a failed write too
pub record RelaysWatched (arguments : WatchArguments) (before now : Live) (page_now : Page) (outcome : OutcomeView) : Type 0 where
  pub taken : List Letter
  pub link : LeftWhere taken (before.wire arguments.relay.link) (now.left arguments.relay.link)
  pub counts : List PostCount
  pub posts : SendPosts arguments.relay.capacity (datagrams taken) arguments.relay.posts now counts
  pub made : now.made ≡ option_map raised before.made
  pub failed : Bool
  pub status : HoldsStatus (length arguments.relay.posts) (Some counts) failed page_now
  pub ends : EndsAs (now.left arguments.relay.link) (failed || list_any has_failed counts) counts outcome

-- ---- the command

-- what is told of links, posts and clocks is as before, but for what is left of this link, the mail of these posts, and that one clock more may have been made
pub record TouchesWatched (link : List ℕ) (posts : List (List ℕ)) (before now : Live) : Type 0 where
  pub made : (now.made ≡ before.made) ⊎ (now.made ≡ option_map raised before.made)
  pub others : TouchesPosts link posts before (record now { made = before.made })

-- what holds of the page of STATUS, before and afterwards, which is the only file behind the link and the posts
abbrev pub StatusIs : (Page → Page → Type 0) → List File → List File → Type 0
StatusIs Is (status ∷ []) (status_now ∷ []) = Is status.page status_now.page
StatusIs Is files files_now = ⊥

-- what the run does: nothing was relayed; or all were opened, and what the link brought was relayed
abbrev pub DoesWatch : Live → Live → WatchArguments → ℕ → List File → List File → OutcomeView → Type 0
DoesWatch before now arguments opened files files_now outcome =
    TouchesWatched arguments.relay.link arguments.relay.posts before now
    × StatusIs (λ page page_now. StopsWatched arguments before now page page_now outcome ⊎ ((opened ≡ suc (suc (length arguments.relay.posts))) × RelaysWatched arguments before now page_now outcome))
    (drop (suc (length arguments.relay.posts)) files) (drop (suc (length arguments.relay.posts)) files_now)

-- the command, told what the desk has of links, posts and clocks before and afterwards: its words, its files and what it does
abbrev pub watch_relay : Live → Live → Command
watch_relay before now = record { Arguments = WatchArguments; IsForm = IsWatchForm; files = files_of_watch; Does = DoesWatch before now }
