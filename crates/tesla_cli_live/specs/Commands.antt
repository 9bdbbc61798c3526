-- Which word names which live command, and one run of each table. Also how commands are told.
use Rattle.std.specs.Prelude.{◌≡◌, ◌⊎◌, ◌++◌, ℕ, Bool, true, List, [], ◌∷◌, Option, Some, None, codes, flat_map}
use Rattle.std.specs.Str.{bytes_eq}
use Rattle.tesla_desk.specs.Live.{Live}
use Rattle.tesla_desk.specs.Outside.{Told}
use Rattle.tesla_front.specs.OutcomeView.{OutcomeView}
use Rattle.tesla_front.specs.Command.{Command, no_command}
use Rattle.tesla_front.specs.Table.{IsFirst, RunsTable, command_in, is_named, where_named}
use Rattle.tesla_front.specs.Usage.{usage_line}
use Rattle.tesla_follow.specs.History.{FollowEntry}
use Rattle.tesla_receiver.specs.Entries.{Entry}
use Rattle.tesla_run_capture.specs.Capture.{capture}
use Rattle.tesla_run_capture.specs.Arguments as capturing
use Rattle.tesla_run_feed.specs.Feeding.{feed}
use Rattle.tesla_run_feed.specs.Arguments as feeding
use Rattle.tesla_run_follow.specs.Follow.{following}
use Rattle.tesla_run_follow.specs.Usage as follows
use Rattle.tesla_run_relay.specs.play.Playing.{play}
use Rattle.tesla_run_relay.specs.play.Arguments as playing
use Rattle.tesla_run_receive.specs.Receive.{receive}
use Rattle.tesla_run_receive.specs.Usage as receiving
use Rattle.tesla_run_receive.specs.record.Record.{recording}
use Rattle.tesla_run_receive.specs.record.Usage as records
use Rattle.tesla_run_relay.specs.Relay.{relay}
use Rattle.tesla_run_relay.specs.Arguments as relaying
use Rattle.tesla_run_relay.specs.watch.Arguments as tallying
use Rattle.tesla_run_relay.specs.watch.Watch.{watch_relay}
use Rattle.tesla_run_receive.specs.watch.Usage as watches
use Rattle.tesla_run_receive.specs.watch.Watch.{watching}
use Rattle.tesla_turn.specs.Held.{Ended}
use Rattle.tesla_cli_live.specs.declared.live_tools.ToolLast.{ToolLast}
use Rattle.tesla_cli_live.specs.declared.live_tools.ToolLast.TheVariants.{Watched, Followed}

-- ---- receive, relay and play

-- the first word names one
abbrev pub IsLive : List (List ℕ) → Type 0
IsLive words = is_named (codes "receive" ∷ codes "relay" ∷ codes "play" ∷ []) words ≡ true

-- the command that a word names, told what the desk has of links, posts and clocks before and afterwards, and the end of the turn where there was one
abbrev pub live_named : Live → Live → Option (Ended Entry) → List ℕ → Command
live_named before now last word =
    where_named (bytes_eq word (codes "receive")) (receive before now last) (
    where_named (bytes_eq word (codes "relay")) (relay before now) (
    where_named (bytes_eq word (codes "play")) (play before now)
    no_command))

-- the command of these words: the first of them names it
abbrev pub live_of : Live → Live → Option (Ended Entry) → List (List ℕ) → Command
live_of before now last words = command_in (live_named before now last) words

-- the first word names the command that leaves a history
abbrev pub IsReceive : List (List ℕ) → Type 0
IsReceive words = IsFirst (codes "receive") words

-- the usage lines of all, in the order in which they are told
abbrev pub live_usage : List ℕ
live_usage = flat_map usage_line (receiving.usages ++ relaying.usages ++ playing.usages)

-- one run of the words over a desk, with the console
abbrev pub RunsLive : List (List ℕ) → Told → Told → Option (Ended Entry) → OutcomeView → Type 0
RunsLive words old new last reported = RunsTable (λ before now left. live_of before now left words) (IsReceive words) live_usage words old new last reported

-- ---- capture, feed, watch, watch-relay and follow

-- the first word names one
abbrev pub IsLiveTool : List (List ℕ) → Type 0
IsLiveTool words = is_named (codes "capture" ∷ codes "feed" ∷ codes "watch" ∷ codes "watch-relay" ∷ codes "follow" ∷ []) words ≡ true

-- the whole history of watch, where there is one
abbrev pub watched_in : Option ToolLast → Option (Ended Entry)
watched_in (Some (Watched end)) = Some end
watched_in (Some (Followed end)) = None
watched_in None = None

-- that of follow
abbrev pub followed_in : Option ToolLast → Option (Ended FollowEntry)
followed_in (Some (Followed end)) = Some end
followed_in (Some (Watched end)) = None
followed_in None = None

-- the tool that a word names, told whether a gate may tell that the run was asked to end, and the same
abbrev pub live_tool_named : Bool → Live → Live → Option ToolLast → List ℕ → Command
live_tool_named over before now last word =
    where_named (bytes_eq word (codes "capture")) (capture before now) (
    where_named (bytes_eq word (codes "feed")) (feed over before now) (
    where_named (bytes_eq word (codes "watch")) (watching before now (watched_in last)) (
    where_named (bytes_eq word (codes "watch-relay")) (watch_relay before now) (
    where_named (bytes_eq word (codes "follow")) (following before now (followed_in last))
    no_command))))

-- the tool of these words: the first of them names it
abbrev pub live_tool_of : Bool → Live → Live → Option ToolLast → List (List ℕ) → Command
live_tool_of over before now last words = command_in (live_tool_named over before now last) words

-- the first word names a tool that leaves a history
abbrev pub LeavesHistory : List (List ℕ) → Type 0
LeavesHistory words = IsFirst (codes "watch") words ⊎ IsFirst (codes "follow") words

-- the usage lines of all, in the order in which they are told
abbrev pub live_tool_usage : List ℕ
live_tool_usage = flat_map usage_line (capturing.usages ++ feeding.usages ++ watches.usages ++ tallying.usages ++ follows.usages)

-- one run of the words over a desk, with the console
abbrev pub RunsLiveTools : Bool → List (List ℕ) → Told → Told → Option ToolLast → OutcomeView → Type 0
RunsLiveTools over words old new last reported =
    RunsTable (λ before now left. live_tool_of over before now left words) (LeavesHistory words) live_tool_usage words old new last reported

-- ---- record

-- the first word names it
abbrev pub IsRecorded : List (List ℕ) → Type 0
IsRecorded words = is_named (codes "record" ∷ []) words ≡ true

-- the usage lines
abbrev pub record_usage : List ℕ
record_usage = flat_map usage_line records.usages

-- one run of the words over a desk, with the console
abbrev pub RunsRecorded : List (List ℕ) → Told → Told → Option (Ended Entry) → OutcomeView → Type 0
RunsRecorded words old new last reported = RunsTable recording (Unit {0}) record_usage words old new last reported
