-- Which words are relay, and what is opened in order.
use Rattle.std.specs.Prelude.{ℕ, List, [], ◌∷◌, codes, map}
use Rattle.tesla_desk.specs.Outside.{Opening, OfLink, OfPost}
use Rattle.tesla_front.specs.Forms.{AreSpelled, NameIs, NamesAre, NumberIs, WordIs}
use Rattle.tesla_run_relay.specs.declared.arguments.Arguments.{Arguments}

-- the words of each form, in the order in which they are told
abbrev pub usages : List (List ℕ)
usages = codes "relay CAPACITY LINK POSTS" ∷ []

-- how many datagrams a queue holds at most, and the names of the link and of the posts
pub record RelayArguments : Type 0 where
  pub capacity : ℕ
  pub link : List ℕ
  pub posts : List (List ℕ)

-- what the words that were read ask for
abbrev pub arguments_of : Arguments → RelayArguments
arguments_of words = record { capacity = words.capacity; link = words.link.now; posts = words.posts }

-- the words are the form 'relay CAPACITY LINK POSTS'; the link may be named as a post, since they are opened apart
pub record IsRelayForm (it : RelayArguments) (words : List (List ℕ)) : Type 0 where
  pub spelled : AreSpelled (WordIs (codes "relay") ∷ NumberIs 1 4096 it.capacity ∷ NameIs it.link ∷ NamesAre it.posts ∷ []) words

-- what is opened, in order: the link, and then the posts
abbrev pub files_of_relay : RelayArguments → List Opening
files_of_relay arguments = OfLink arguments.link ∷ map OfPost arguments.posts
