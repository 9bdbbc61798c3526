use Rattle.std.proofs.Common.{◌∙◌, ℕ, List, sym, ap}
use Rattle.std.specs.Option.{option_map}
use Rattle.tesla_run_ask.specs.Arguments.{AskArguments}
use Rattle.tesla_run_ask.proofs.form.ask_in.Goals as goal

abbrev made : ℕ × (List ℕ × Unit {0}) → AskArguments
made w = record { reading = w.0; out = w.1.0 }

pub returns-in-Some-clause-only : goal.returns-in-Some-clause-only
returns-in-Some-clause-only c it is =
    rw c.as_str.ensures (ap (option_map made) (sym c.in-Some.is ∙ c.words_in-found.ensures.only (it.reading, (it.out, tt)) is))

pub returns-in-None-clause-only : goal.returns-in-None-clause-only
returns-in-None-clause-only c it is = let no = c.words_in-found.ensures.only (it.reading, (it.out, tt)) is in cc
