use Rattle.std.proofs.Common.{◌∙◌, ℕ, List, sym, ap}
use Rattle.std.specs.Option.{option_map}
use Rattle.tesla_run_info.specs.info.Arguments.{InfoArguments}
use Rattle.tesla_run_info.specs.declared.info.form.Rate.{Rate}
use Rattle.tesla_run_info.proofs.info.form.arguments_in.Goals as goal

abbrev made : List ℕ × Rate → InfoArguments
made w = record { setup = w.0; rate = w.1.rate }

pub returns-in-Some-clause-only : goal.returns-in-Some-clause-only
returns-in-Some-clause-only c it is = rw c.as_str.ensures (ap (option_map made) (sym c.in-Some.is ∙ c.words_in-found.ensures.only (it.setup, record { rate = it.rate }) is))

pub returns-in-None-clause-only : goal.returns-in-None-clause-only
returns-in-None-clause-only c it is = let no = c.words_in-found.ensures.only (it.setup, record { rate = it.rate }) is in cc
