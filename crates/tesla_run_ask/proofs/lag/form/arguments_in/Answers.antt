use Rattle.std.proofs.Common.{◌∙◌, ℕ, List, sym, ap}
use Rattle.std.specs.Option.{option_map}
use Rattle.tesla_run_ask.specs.lag.Arguments.{LagArguments}
use Rattle.tesla_run_ask.proofs.lag.form.arguments_in.Goals as goal

abbrev made : List ℕ × (List ℕ × (List ℕ × (ℕ × Unit {0}))) → LagArguments
made w = record { ask = w.0; reply = w.1.0; key = w.1.1.0; drift = w.1.1.1.0 }

pub returns-in-Some-clause-only : goal.returns-in-Some-clause-only
returns-in-Some-clause-only c it is =
    rw (c.as_str.ensures, c.as_str-in-Some.ensures, c.as_str-in-Some-2.ensures) (ap (option_map made) (sym c.in-Some.is ∙ c.words_in-found.ensures.only (it.ask, (it.reply, (it.key, (it.drift, tt)))) is))

pub returns-in-None-clause-only : goal.returns-in-None-clause-only
returns-in-None-clause-only c it is = let no = c.words_in-found.ensures.only (it.ask, (it.reply, (it.key, (it.drift, tt)))) is in cc
