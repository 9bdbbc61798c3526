use Rattle.std.proofs.Common.{◌∙◌, ℕ, sym, ap}
use Rattle.std.specs.Option.{option_map}
use Rattle.tesla_run_stress.specs.Arguments.{StressArguments}
use Rattle.tesla_run_stress.proofs.form.arguments_in.Goals as goal

abbrev made : ℕ × (ℕ × Unit {0}) → StressArguments
made w = record { seed = w.0; count = w.1.0 }

pub returns-in-Some-clause-only : goal.returns-in-Some-clause-only
returns-in-Some-clause-only c it is =
    rw c.get.ensures.number (ap (option_map made) (sym c.in-Some.is ∙ c.words_in-found.ensures.only (it.seed, (it.count, tt)) is))

pub returns-in-None-clause-only : goal.returns-in-None-clause-only
returns-in-None-clause-only c it is = let no = c.words_in-found.ensures.only (it.seed, (it.count, tt)) is in cc
