use Rattle.std.proofs.Common.{◌≡◌, ◌⊎◌, inl, inr, ℕ, List, ◌∷◌, codes, refl, subst, sym}
use Rattle.tesla_base.specs.declared.version.Version.{Version}
use Rattle.tesla_base.specs.declared.version.Version.TheVariants.{One, Two}
use Rattle.tesla_desk.specs.Outside.{Told}
use Rattle.tesla_front.specs.OutcomeView.{OutcomeView}
use Rattle.tesla_front.specs.Command.{RunsAs}
use Rattle.tesla_front.specs.Printing.{IsPrintedAs, RunsPrinting}
use Rattle.tesla_front.specs.Run.{HasNoConsole}
use Rattle.tesla_front.proofs.Tables.{as_spelled, begins_with_name}
use Rattle.tesla_run_chain.specs.Arguments as chains
use Rattle.tesla_run_chain.specs.Chain.{chain}
use Rattle.tesla_run_audit.specs.show.Arguments.{IsShowForm, ShowArguments}
use Rattle.tesla_run_audit.specs.show.Show.{show}
use Rattle.tesla_cli.specs.Commands.{IsTool, RunsTool, command_of, tool_of, tool_usage}
use Rattle.tesla_laws.proofs.commands.forms_are_named.Goals as goal

-- both words of a chain name it
both_named : (version : Version) (rest words : List (List ℕ)) (old new : Told) (outcome : OutcomeView) → words ≡ chains.command_of version ∷ rest
    → RunsAs (command_of words) words old new outcome → RunsAs chain words old new outcome
both_named One rest words old new outcome spelled runs = as_spelled command_of words _ old new outcome spelled runs
both_named Two rest words old new outcome spelled runs = as_spelled command_of words _ old new outcome spelled runs

pub returns-clause-commands : goal.returns-clause-commands
returns-clause-commands c = (
  λ arguments words old new outcome is runs. (as_spelled command_of words _ old new outcome is.spelled runs).form arguments is,
  λ arguments words old new outcome is runs. (both_named arguments.parameters.version _ words old new outcome is.spelled runs).form arguments is,
  λ arguments words old new outcome is runs. (as_spelled command_of words _ old new outcome (begins_with_name (codes "send") words is.spelled) runs).form arguments is,
  λ arguments words old new outcome is runs. (as_spelled command_of words _ old new outcome (begins_with_name (codes "lag") words is) runs).form arguments is,
  λ arguments words old new outcome is runs. (as_spelled command_of words _ old new outcome (begins_with_name (codes "stress") words is) runs).form arguments is,
  λ arguments words old new outcome is runs. (as_spelled command_of words _ old new outcome is.spelled runs).form arguments is,
  λ arguments words old new outcome is runs. (as_spelled command_of words _ old new outcome (begins_with_name (codes "weave") words is.spelled) runs).form arguments is,
  λ arguments words old new outcome is runs. (as_spelled command_of words _ old new outcome is.spelled runs).form arguments is,
  λ arguments words old new outcome is runs. (as_spelled command_of words _ old new outcome is.spelled runs).form arguments is,
  λ arguments words old new outcome is runs. (as_spelled command_of words _ old new outcome (begins_with_name (codes "audit") words is) runs).form arguments is,
)

pub returns-clause-tools : goal.returns-clause-tools
returns-clause-tools c before now = (
  λ arguments words old new outcome is runs. (as_spelled (tool_of before now) words _ old new outcome (begins_with_name (codes "ask") words is) runs).form arguments is,
  λ arguments words old new outcome is runs. (as_spelled (tool_of before now) words _ old new outcome (begins_with_name (codes "reply") words is.spelled) runs).form arguments is,
  λ arguments words old new outcome is runs. (as_spelled (tool_of before now) words _ old new outcome (begins_with_name (codes "seeds") words is.spelled) runs).form arguments is,
  λ arguments words old new outcome is runs. (as_spelled (tool_of before now) words _ old new outcome (begins_with_name (codes "info") words is) runs).form arguments is,
)

shown : (arguments : ShowArguments) (words : List (List ℕ)) (old new : Told) (outcome : OutcomeView) → IsShowForm arguments words
    → RunsPrinting show tool_usage words old new outcome → HasNoConsole old new outcome ⊎ IsPrintedAs show arguments tool_usage old new outcome
shown arguments words old new outcome is (inl none) = inl none
shown arguments words old new outcome is (inr ran) = inr (ran.form arguments is)

pub returns-clause-shows : goal.returns-clause-shows
returns-clause-shows c arguments words old new outcome is runs =
    let there : RunsPrinting show tool_usage words old new outcome =
    subst (λ (all : List (List ℕ)). RunsTool all old new outcome → RunsPrinting show tool_usage all old new outcome) (sym (begins_with_name (codes "show") words is)) (λ it. it) runs in
    shown arguments words old new outcome is there

pub returns-clause-ask_is : goal.returns-clause-ask_is
returns-clause-ask_is c arguments words is = subst IsTool (sym (begins_with_name (codes "ask") words is)) refl

pub returns-clause-reply_is : goal.returns-clause-reply_is
returns-clause-reply_is c arguments words is = subst IsTool (sym (begins_with_name (codes "reply") words is.spelled)) refl

pub returns-clause-show_is : goal.returns-clause-show_is
returns-clause-show_is c arguments words is = subst IsTool (sym (begins_with_name (codes "show") words is)) refl

pub returns-clause-seeds_is : goal.returns-clause-seeds_is
returns-clause-seeds_is c arguments words is = subst IsTool (sym (begins_with_name (codes "seeds") words is.spelled)) refl

pub returns-clause-info_is : goal.returns-clause-info_is
returns-clause-info_is c arguments words is = subst IsTool (sym (begins_with_name (codes "info") words is)) refl
