-- Which word names which command, and one run of a tool. Also how commands are told.
use Rattle.std.specs.Prelude.{◌≡◌, ℕ, Bool, true, false, List, [], ◌∷◌, ◌++◌, codes, flat_map}
use Rattle.std.specs.Str.{bytes_eq}
use Rattle.tesla_desk.specs.Live.{Live}
use Rattle.tesla_desk.specs.Outside.{Told}
use Rattle.tesla_front.specs.OutcomeView.{OutcomeView}
use Rattle.tesla_front.specs.Command.{Command, Performs, RunsAs, no_command}
use Rattle.tesla_front.specs.Printing.{RunsPrinting}
use Rattle.tesla_front.specs.Run.{Runs}
use Rattle.tesla_front.specs.Table.{IsFirst, command_in, is_named, where_named}
use Rattle.tesla_front.specs.Usage.{usage_line}
use Rattle.tesla_run_ask.specs.Asking.{ask}
use Rattle.tesla_run_ask.specs.Replying.{reply}
use Rattle.tesla_run_ask.specs.Arguments as asks
use Rattle.tesla_run_audit.specs.Audit.{audit}
use Rattle.tesla_run_audit.specs.Arguments as audits
use Rattle.tesla_run_chain.specs.Chain.{chain}
use Rattle.tesla_run_chain.specs.Usage as chains
use Rattle.tesla_run_early.specs.Early.{early}
use Rattle.tesla_run_early.specs.Usage as earlies
use Rattle.tesla_run_ask.specs.lag.Lag.{lag}
use Rattle.tesla_run_ask.specs.lag.Arguments as lags
use Rattle.tesla_run_info.specs.info.Telling.{TouchesClock, info}
use Rattle.tesla_run_info.specs.info.Arguments as infos
use Rattle.tesla_run_info.specs.seeds.Drawing.{seeds}
use Rattle.tesla_run_info.specs.seeds.Arguments as drawings
use Rattle.tesla_run_replay.specs.Replay.{replay}
use Rattle.tesla_run_replay.specs.Usage as replays
use Rattle.tesla_run_roll.specs.Roll.{roll}
use Rattle.tesla_run_roll.specs.Usage as rolls
use Rattle.tesla_run_send.specs.Send.{send}
use Rattle.tesla_run_send.specs.Arguments as sends
use Rattle.tesla_run_audit.specs.show.Show.{show}
use Rattle.tesla_run_audit.specs.show.Arguments as shows
use Rattle.tesla_run_stress.specs.Stress.{stress}
use Rattle.tesla_run_stress.specs.Arguments as stresses
use Rattle.tesla_run_audit.specs.trace.Trace.{trace}
use Rattle.tesla_run_audit.specs.trace.Usage as traces
use Rattle.tesla_run_weave.specs.Weave.{weave}
use Rattle.tesla_run_weave.specs.Arguments as weaves

-- words that are a form of a command are run as that command, told the command of any words
abbrev pub NamesForms : (List (List ℕ) → Command) → Command → Type 0
NamesForms named command = (arguments : command.Arguments) (words : List (List ℕ)) (old new : Told) (outcome : OutcomeView) → command.IsForm arguments words → RunsAs (named words) words old new outcome → Performs command arguments old new outcome

-- ---- the streams

-- the command that a word names
abbrev pub command_named : List ℕ → Command
command_named word =
    where_named (bytes_eq word (codes "replay")) replay (
    where_named (bytes_eq word (codes "chain")) chain (
    where_named (bytes_eq word (codes "chain2")) chain (
    where_named (bytes_eq word (codes "send")) send (
    where_named (bytes_eq word (codes "lag")) lag (
    where_named (bytes_eq word (codes "stress")) stress (
    where_named (bytes_eq word (codes "roll")) roll (
    where_named (bytes_eq word (codes "weave")) weave (
    where_named (bytes_eq word (codes "early")) early (
    where_named (bytes_eq word (codes "trace")) trace (
    where_named (bytes_eq word (codes "audit")) audit
    no_command))))))))))

-- the command of these words: the first of them names it
abbrev pub command_of : List (List ℕ) → Command
command_of words = command_in command_named words

-- the words of each form, in the order in which they are told
abbrev pub forms : List (List ℕ)
forms =
    replays.usages ++ chains.usages ++ sends.usage ∷ lags.usage ∷ stresses.usage ∷ rolls.usage ∷ weaves.usage ∷ earlies.usage ∷ traces.usage ∷ audits.usage ∷ []

-- the usage lines of all
abbrev pub usage : List ℕ
usage = flat_map usage_line forms

-- ---- the tools

-- the first word names a tool
abbrev pub IsTool : List (List ℕ) → Type 0
IsTool words = is_named (codes "ask" ∷ codes "reply" ∷ codes "show" ∷ codes "seeds" ∷ codes "info" ∷ []) words ≡ true

-- the tool that a word names, of those that print nothing before their end, told what the desk has of links, posts and clocks before and afterwards
abbrev pub tool_named : Live → Live → List ℕ → Command
tool_named before now word =
    where_named (bytes_eq word (codes "ask")) ask (
    where_named (bytes_eq word (codes "reply")) reply (
    where_named (bytes_eq word (codes "seeds")) seeds (
    where_named (bytes_eq word (codes "info")) (info before now)
    no_command)))

-- the tool of these words: the first of them names it
abbrev pub tool_of : Live → Live → List (List ℕ) → Command
tool_of before now words = command_in (tool_named before now) words

-- the words of each form, in the order in which they are told
abbrev pub tool_forms : List (List ℕ)
tool_forms = asks.usages ++ shows.usage ∷ drawings.usage ∷ infos.usage ∷ []

-- the usage lines of all
abbrev pub tool_usage : List ℕ
tool_usage = flat_map usage_line tool_forms

-- the first word names show, which prints lines while it goes
abbrev pub names_show : List (List ℕ) → Bool
names_show [] = false
names_show (word ∷ words) = bytes_eq word (codes "show")

-- a run of words, told whether they are for show
abbrev pub runs_where : Bool → List (List ℕ) → Told → Told → OutcomeView → Type 0
runs_where true words old new reported = RunsPrinting show tool_usage words old new reported
runs_where false words old new reported = Runs (tool_of old.live new.live words) tool_usage words old new reported

-- one run of the words over a desk: what it tells before and after, and what the run came to, as it was told
abbrev pub RunsTool : List (List ℕ) → Told → Told → OutcomeView → Type 0
RunsTool words old new reported = runs_where (names_show words) words old new reported

-- what is told of links, posts and clocks is as before, but that one clock more may have been made where the first word names info
pub record KeepsLive (words : List (List ℕ)) (before now : Live) : Type 0 where
  pub clock : TouchesClock before now
  pub others : (IsFirst (codes "info") words → ⊥) → now ≡ before
