-- Which words are watch-relay, and what is opened in order.
use Rattle.std.specs.Prelude.{ℕ, List, [], ◌∷◌, ◌++◌, codes}
use Rattle.tesla_desk.specs.Outside.{Opening, OfSink}
use Rattle.tesla_front.specs.Forms.{AreSpelled, NameIs, NamesAre, NumberIs, WordIs}
use Rattle.tesla_run_relay.specs.Arguments.{RelayArguments, files_of_relay}
use Rattle.tesla_run_relay.specs.Arguments as relaying
use Rattle.tesla_run_relay.specs.declared.watch.arguments.Arguments.{Arguments}

-- the words of each form, in the order in which they are told
abbrev pub usages : List (List ℕ)
usages = codes "watch-relay CAPACITY LINK POSTS STATUS EVERY" ∷ []

-- what the words of relay ask for, the name of the file of the counts, and how many seconds pass from a line to the next
pub record WatchArguments : Type 0 where
  pub relay : RelayArguments
  pub status : List ℕ
  pub every : ℕ

-- what the words that were read ask for
abbrev pub arguments_of : Arguments → WatchArguments
arguments_of words = record { relay = relaying.arguments_of words.relay; status = words.status.now; every = words.every }

-- the words are the form 'watch-relay CAPACITY LINK POSTS STATUS EVERY'; the link and a post may be named as STATUS, since they are opened apart
pub record IsWatchForm (it : WatchArguments) (words : List (List ℕ)) : Type 0 where
  pub spelled : AreSpelled (WordIs (codes "watch-relay") ∷ NumberIs 1 4096 it.relay.capacity ∷ NameIs it.relay.link ∷ NamesAre it.relay.posts ∷ NameIs it.status ∷ NumberIs 1 3600 it.every ∷ []) words

-- what is opened, in order: the link, the posts, and STATUS
abbrev pub files_of_watch : WatchArguments → List Opening
files_of_watch arguments = files_of_relay arguments.relay ++ OfSink arguments.status ∷ []
