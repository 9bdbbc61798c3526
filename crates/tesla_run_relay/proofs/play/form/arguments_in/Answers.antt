use Rattle.std.proofs.Common.{◌∙◌, ℕ, List, sym, ap}
use Rattle.std.specs.Option.{option_map}
use Rattle.tesla_run_relay.specs.play.Arguments.{PlayArguments}
use Rattle.tesla_run_relay.proofs.play.form.arguments_in.Goals as goal

abbrev made : List ℕ × (List (List ℕ) × Unit {0}) → PlayArguments
made w = record { capture = w.0; posts = w.1.0 }

pub returns-in-Some-clause-only : goal.returns-in-Some-clause-only
returns-in-Some-clause-only c it is =
    rw c.arguments_from.ensures (ap (option_map made) (sym c.in-Some.is ∙ c.words_in.ensures.only (it.capture, (it.posts, tt)) is.spelled))

pub returns-in-None-clause-only : goal.returns-in-None-clause-only
returns-in-None-clause-only c it is = let no = c.words_in.ensures.only (it.capture, (it.posts, tt)) is.spelled in cc
