use Rattle.std.proofs.Common.{◌∙◌, ℕ, List, Option, Some, sym, ap}
use Rattle.std.specs.Option.{option_map}
use Rattle.tesla_run_feed.specs.Arguments.{FeedArguments, StatusArguments, pair_of}
use Rattle.tesla_run_feed.specs.declared.form.LastWords.{LastWords}
use Rattle.tesla_run_feed.proofs.Spelled.{pair_in, paired, pairs_same, with_status}
use Rattle.tesla_run_feed.proofs.form.read_words.Goals as goal

abbrev Read : Type 0
Read = List (List ℕ) × (List (List ℕ) × (List ℕ × (List (List ℕ) × LastWords)))

abbrev made : Read → FeedArguments
made w = record { setups = w.0; secrets = w.1.0; link = w.1.1.0; posts = w.1.1.1.0; status = option_map pair_of w.1.1.1.1.pair }

abbrev read_of : FeedArguments → Read
read_of it = (it.setups, (it.secrets, (it.link, (it.posts, record { pair = option_map pair_in it.status }))))

pub returns-in-Some-clause-only : goal.returns-in-Some-clause-only
returns-in-Some-clause-only c it is =
    rw c.arguments_from.ensures (ap (option_map made) (sym c.in-Some.is ∙ c.words_in.ensures.only (read_of it) (paired it _ is))
    ∙ ap (λ (status : Option StatusArguments). Some (with_status it status)) (pairs_same it.status))

pub returns-in-None-clause-only : goal.returns-in-None-clause-only
returns-in-None-clause-only c it is = let no = c.words_in.ensures.only (read_of it) (paired it _ is) in cc
