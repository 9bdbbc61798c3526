-- A run of follow, told the configuration of its follower otherwise.
use Rattle.std.proofs.Common.{◌≡◌, ℕ, List, Option, subst}
use Rattle.tesla_desk.specs.Outside.{Told}
use Rattle.tesla_fitting.specs.declared.config.Config.{Config}
use Rattle.tesla_follow.specs.History.{FollowEntry}
use Rattle.tesla_follow.specs.Stands.{FollowState}
use Rattle.tesla_front.specs.OutcomeView.{OutcomeView}
use Rattle.tesla_session.specs.Wanted.{Wanted}
use Rattle.tesla_turn.specs.Held.{Ended}
use Rattle.tesla_run_follow.specs.Follow.{following_with}
use Rattle.tesla_run_follow.specs.Status.{HoldsStatus}
use Rattle.tesla_run_receive.specs.Running.{RunsStation}

module _ {C : Type 0} (output : Option (List ℕ)) (wanted : List Wanted) (cfg : C) (before now : Told) (last : Option (Ended FollowEntry)) (outcome : OutcomeView) where
  -- a run over a follower of this configuration
  abbrev pub RunsUnder : Config → Type 0
  RunsUnder config = RunsStation (following_with config) (HoldsStatus config) output wanted cfg before now last outcome

  pub runs_under : (config own : Config) → config ≡ own → RunsUnder config → RunsUnder own
  runs_under config own same runs = subst RunsUnder same runs

  pub runs_over : (follower own : FollowState) → follower ≡ own → RunsUnder follower.config → RunsUnder own.config
  runs_over follower own same runs = subst (λ (one : FollowState). RunsUnder one.config) same runs
