use Rattle.std.proofs.Common.{◌≡◌, List, ℕ, Some, option_map, map, string_bytes, sym, subst}
use Rattle.tesla_front.proofs.Commands.{runs_form, runs_usage}
use Rattle.tesla_run_replay.specs.Arguments.{IsPlayed, PlayedArguments, PlayedForm, arguments_of}
use Rattle.tesla_run_replay.specs.Under.{command_of}
use Rattle.tesla_run_replay.proofs.run.run_played.Goals as goal

pub perform-requires-clause-form : goal.perform-requires-clause-form
perform-requires-clause-form g c =
    let words : List (List ℕ) = map string_bytes c.args.words.now in
    λ _ _. (words, subst (λ (f : PlayedForm). IsPlayed f (arguments_of c.in-Some.arguments) words) c.form-form.ensures c.in-Some.ensures.found)

pub returns-in-Some-clause-runs : goal.returns-in-Some-clause-runs
returns-in-Some-clause-runs g c =
    let words : List (List ℕ) = map string_bytes c.args.words.now in
    let found = subst (λ (f : PlayedForm). IsPlayed f (arguments_of c.in-Some.arguments) words) c.form-form.ensures c.in-Some.ensures.found in
    let only : (arguments : PlayedArguments) → IsPlayed g.T.Target.command.form arguments words → option_map arguments_of c.arguments_in.result ≡ Some arguments = λ arguments is. c.arguments_in.ensures.only arguments (subst (λ (f : PlayedForm). IsPlayed f arguments words) (sym c.form-form.ensures) is) in
    rw c.outcome_of.ensures (runs_form (command_of g.T.Target.command) arguments_of words c.arguments_in.result c.in-Some.arguments _ _ _ c.in-Some.is only found c.perform.ensures.performs)

pub returns-in-None-clause-runs : goal.returns-in-None-clause-runs
returns-in-None-clause-runs g c =
    let words : List (List ℕ) = map string_bytes c.args.words.now in
    let only : (arguments : PlayedArguments) → IsPlayed g.T.Target.command.form arguments words → option_map arguments_of c.arguments_in.result ≡ Some arguments = λ arguments is. c.arguments_in.ensures.only arguments (subst (λ (f : PlayedForm). IsPlayed f arguments words) (sym c.form-form.ensures) is) in
    runs_usage (command_of g.T.Target.command) arguments_of words c.arguments_in.result _ c.in-None.is only
