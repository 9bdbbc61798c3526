-- Which setups follow takes, and what it does.
use Rattle.std.specs.Prelude.{◌≡◌, ◌⊎◌, None, Option}
use Rattle.tesla_commit.specs.Equal.{first_equal}
use Rattle.tesla_commit.specs.Parts.{Parts}
use Rattle.tesla_desk.specs.Live.{Live}
use Rattle.tesla_desk.specs.Outside.{Page}
use Rattle.tesla_fitting.specs.declared.config.Config.{Config}
use Rattle.tesla_follow.specs.declared.answers.FollowReply.{FollowReply}
use Rattle.tesla_follow.specs.declared.answers.FollowVerdict.{FollowVerdict}
use Rattle.tesla_follow.specs.Counted.{waiting_over}
use Rattle.tesla_follow.specs.History.{FollowEntry, IsFollowed, followed}
use Rattle.tesla_follow_station.specs.Yields.{follow_yield}
use Rattle.tesla_front.specs.Command.{Command}
use Rattle.tesla_front.specs.OutcomeView.{OutcomeView}
use Rattle.tesla_front.specs.Setup.{IsNoSetup, IsSetupIn}
use Rattle.tesla_turn.specs.Held.{Ended}
use Rattle.tesla_run_follow.specs.Arguments.{IsFollow}
use Rattle.tesla_run_follow.specs.Status.{HoldsStatus}
use Rattle.tesla_run_follow.specs.Text.{follow_text}
use Rattle.tesla_run_info.specs.info.Rows.{RefusesEqual}
use Rattle.tesla_run_receive.specs.Output.{WithOutput, with_output}
use Rattle.tesla_run_receive.specs.Receive.{LiveKind, config_of}
use Rattle.tesla_run_receive.specs.Running.{Behaviour}

-- ---- the setup

-- the file's text spells this setup, in which no two commitments are equal
pub record IsDistinctSetupIn (page : Page) (setup : Parts) : Type 0 where
  pub spelled : IsSetupIn page setup
  pub distinct : first_equal setup.rows ≡ None

-- the file's text spells a setup in which two commitments are equal
pub record HasEqualCommitments (page : Page) (outcome : OutcomeView) : Type 0 where
  pub setup : Parts
  pub spelled : IsSetupIn page setup
  pub refuses : RefusesEqual setup outcome

-- why a file gives no such setup
abbrev pub IsNoDistinctSetup : Page → OutcomeView → Type 0
IsNoDistinctSetup page outcome = IsNoSetup page outcome ⊎ HasEqualCommitments page outcome

-- ---- the command

-- a follower with this configuration: a sink gets its records, its histories are the followed ones, and the lines of what one made are told
abbrev pub following_with : Config → Behaviour FollowVerdict FollowReply
following_with cfg = record { yields = follow_yield; IsLegal = IsFollowed cfg; text = λ history. follow_text (followed cfg history) }

-- its station is a follower, and a history has all where nothing waits to be given
abbrev pub of_follower : LiveKind FollowVerdict FollowReply
of_follower = record {
  IsSetup = IsDistinctSetupIn;
  IsNoSetup = IsNoDistinctSetup;
  behaviour = following_with;
  IsComplete = λ cfg history. waiting_over (followed cfg history) ≡ 0;
}

-- the form of a live command with STATUS behind its sinks
abbrev pub form_of_follow : WithOutput FollowVerdict FollowReply
form_of_follow = record {
  kind = of_follower;
  IsForm = IsFollow;
  Holds = λ arguments setup. HoldsStatus (config_of arguments.receive setup);
}

-- the command, told what the desk has of links and clocks before and afterwards, and the end of the turn where there was one
abbrev pub following : Live → Live → Option (Ended FollowEntry) → Command
following before now last = with_output form_of_follow before now last
