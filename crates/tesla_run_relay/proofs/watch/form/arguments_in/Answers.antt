use Rattle.std.proofs.Common.{◌∙◌, ℕ, List, sym, ap}
use Rattle.std.specs.Option.{option_map}
use Rattle.tesla_run_relay.specs.watch.Arguments.{WatchArguments}
use Rattle.tesla_run_relay.proofs.watch.form.arguments_in.Goals as goal

abbrev made : ℕ × (List ℕ × (List (List ℕ) × (List ℕ × (ℕ × Unit {0})))) → WatchArguments
made w = record { relay = record { capacity = w.0; link = w.1.0; posts = w.1.1.0 }; status = w.1.1.1.0; every = w.1.1.1.1.0 }

pub returns-in-Some-clause-only : goal.returns-in-Some-clause-only
returns-in-Some-clause-only c it is =
    rw c.arguments_from.ensures (ap (option_map made) (sym c.in-Some.is ∙ c.words_in.ensures.only (it.relay.capacity, (it.relay.link, (it.relay.posts, (it.status, (it.every, tt))))) is.spelled))

pub returns-in-None-clause-only : goal.returns-in-None-clause-only
returns-in-None-clause-only c it is = let no = c.words_in.ensures.only (it.relay.capacity, (it.relay.link, (it.relay.posts, (it.status, (it.every, tt))))) is.spelled in cc
