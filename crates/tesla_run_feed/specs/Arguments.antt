-- Which words are feed, and what is opened in order.
use Rattle.std.specs.Prelude.{◌≡◌, ℕ, ◌≤◌, List, [], ◌∷◌, ◌++◌, Option, Some, None, IfSome, codes, length, map}
use Rattle.std.specs.Option.{option_map}
use Rattle.tesla_desk.specs.Outside.{Opening, OfLink, OfPost, OfSink, OfSource}
use Rattle.tesla_front.specs.Forms.{AreSpelled, NameIs, NamesAre, NumberIs, WordIs}
use Rattle.tesla_front.specs.Names.{IsNoneOf}
use Rattle.tesla_run_feed.specs.declared.arguments.Arguments.{Arguments}
use Rattle.tesla_run_feed.specs.declared.arguments.StatusWords.{StatusWords}

-- the words of each form, in the order in which they are told
abbrev pub usages : List (List ℕ)
usages = codes "feed SETUPS SECRETS LINK POSTS" ∷ codes "feed SETUPS SECRETS LINK POSTS STATUS EVERY" ∷ []

-- the name of the file of the counts, and how many seconds pass from a line to the next
pub record StatusArguments : Type 0 where
  pub output : List ℕ
  pub every : ℕ

-- the names of the files of the setups and of the seeds, in the order of the streams, and those of the link and of the posts; and where there is one that of the counts
pub record FeedArguments : Type 0 where
  pub setups : List (List ℕ)
  pub secrets : List (List ℕ)
  pub link : List ℕ
  pub posts : List (List ℕ)
  pub status : Option StatusArguments

-- what the words that were read ask for
abbrev pub status_of : StatusWords → StatusArguments
status_of words = record { output = words.output.now; every = words.every }

abbrev pub pair_of : List ℕ × (ℕ × Unit {0}) → StatusArguments
pair_of pair = record { output = pair.0; every = pair.1.0 }

abbrev pub arguments_of : Arguments → FeedArguments
arguments_of words = record { setups = words.setups; secrets = words.secrets; link = words.link.now; posts = words.posts; status = option_map status_of words.status }

-- what the last words spell: STATUS and EVERY, or none
abbrev pub status_parts : Option StatusArguments → List (List ℕ → Type 0)
status_parts None = []
status_parts (Some status) = NameIs status.output ∷ NumberIs 1 3600 status.every ∷ []

-- each of the words spells what stands at its place in the form
abbrev pub AreFeedWords : FeedArguments → List (List ℕ) → Type 0
AreFeedWords it words = AreSpelled (WordIs (codes "feed") ∷ NamesAre it.setups ∷ NamesAre it.secrets ∷ NameIs it.link ∷ NamesAre it.posts ∷ status_parts it.status) words

-- the words are the form 'feed SETUPS SECRETS LINK POSTS' or 'feed SETUPS SECRETS LINK POSTS STATUS EVERY'; the link may be named as a file or a post, since they are opened apart
pub record IsFeedForm (it : FeedArguments) (words : List (List ℕ)) : Type 0 where
  pub spelled : AreFeedWords it words
  -- there are at most 16 streams, with seeds for each
  pub few : length it.setups ≤ 16
  pub each : length it.secrets ≡ length it.setups
  -- STATUS is no input
  pub apart : IfSome it.status (λ status. IsNoneOf status.output it.setups × IsNoneOf status.output it.secrets)

-- STATUS, where there is one
abbrev pub status_files : Option StatusArguments → List Opening
status_files None = []
status_files (Some status) = OfSink status.output ∷ []

-- the link, the posts and STATUS, in the order in which they are opened
abbrev pub live_files : FeedArguments → List Opening
live_files arguments = OfLink arguments.link ∷ map OfPost arguments.posts ++ status_files arguments.status

-- each setup, and behind it its seeds
abbrev pub sources : List (List ℕ) → List (List ℕ) → List Opening
sources [] secrets = []
sources (setup ∷ setups) [] = []
sources (setup ∷ setups) (secret ∷ secrets) = OfSource setup ∷ OfSource secret ∷ sources setups secrets

abbrev pub sources_of : FeedArguments → List Opening
sources_of arguments = sources arguments.setups arguments.secrets

-- what is opened, in order: each setup with its seeds, the link, the posts, and then STATUS
abbrev pub files_of_feed : FeedArguments → List Opening
files_of_feed arguments = sources_of arguments ++ live_files arguments
