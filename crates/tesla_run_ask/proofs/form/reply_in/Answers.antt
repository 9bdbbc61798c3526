use Rattle.std.proofs.Common.{◌∙◌, ℕ, List, sym, ap}
use Rattle.std.specs.Option.{option_map}
use Rattle.tesla_run_ask.specs.Arguments.{ReplyArguments}
use Rattle.tesla_run_ask.proofs.form.reply_in.Goals as goal

abbrev made : List ℕ × (List ℕ × (ℕ × (List ℕ × Unit {0}))) → ReplyArguments
made w = record { ask = w.0; key = w.1.0; reading = w.1.1.0; out = w.1.1.1.0 }

pub returns-else-is_among-clause-only : goal.returns-else-is_among-clause-only
returns-else-is_among-clause-only c it is =
    rw (c.as_str-in-Some-3.ensures, c.as_str-in-Some-4.ensures, c.as_str-in-Some-5.ensures) (ap (option_map made) (sym c.in-Some.is ∙ c.words_in-found.ensures.only (it.ask, (it.key, (it.reading, (it.out, tt)))) is.spelled))

pub returns-in-None-clause-only : goal.returns-in-None-clause-only
returns-in-None-clause-only c it is = let no = c.words_in-found.ensures.only (it.ask, (it.key, (it.reading, (it.out, tt)))) is.spelled in cc
