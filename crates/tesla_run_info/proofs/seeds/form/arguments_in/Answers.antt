use Rattle.std.proofs.Common.{◌∙◌, ℕ, List, sym, ap}
use Rattle.std.specs.Option.{option_map}
use Rattle.tesla_run_info.specs.seeds.Arguments.{SeedsArguments}
use Rattle.tesla_run_info.proofs.seeds.form.arguments_in.Goals as goal

abbrev made : ℕ × (List ℕ × Unit {0}) → SeedsArguments
made w = record { count = w.0; out = w.1.0 }

pub returns-else-is_among-clause-only : goal.returns-else-is_among-clause-only
returns-else-is_among-clause-only c it is =
    rw (c.get.ensures.number, c.as_str-in-Some.ensures) (ap (option_map made) (sym c.in-Some.is ∙ c.words_in-found.ensures.only (it.count, (it.out, tt)) is.spelled))

pub returns-in-None-clause-only : goal.returns-in-None-clause-only
returns-in-None-clause-only c it is = let no = c.words_in-found.ensures.only (it.count, (it.out, tt)) is.spelled in cc
