-- STATUS and EVERY, as they are read.
use Rattle.std.proofs.Common.{◌≡◌, ℕ, List, Option, Some, None, refl, sym, subst}
use Rattle.std.specs.Option.{option_map}
use Rattle.tesla_run_feed.specs.Arguments.{AreFeedWords, FeedArguments, StatusArguments, pair_of}

abbrev pub pair_in : StatusArguments → List ℕ × (ℕ × Unit {0})
pair_in status = (status.output, (status.every, tt))

pub pairs_same : (status : Option StatusArguments) → option_map pair_of (option_map pair_in status) ≡ status
pairs_same None = refl
pairs_same (Some status) = refl

abbrev pub with_status : FeedArguments → Option StatusArguments → FeedArguments
with_status it status = record { setups = it.setups; secrets = it.secrets; link = it.link; posts = it.posts; status = status }

pub paired : (it : FeedArguments) (words : List (List ℕ)) → AreFeedWords it words → AreFeedWords (with_status it (option_map pair_of (option_map pair_in it.status))) words
paired it words are = subst (λ (status : Option StatusArguments). AreFeedWords (with_status it status) words) (sym (pairs_same it.status)) are
