-- Which words are play, and what is opened in order.
use Rattle.std.specs.Prelude.{ℕ, List, [], ◌∷◌, codes, map}
use Rattle.tesla_desk.specs.Outside.{Opening, OfPost, OfSource}
use Rattle.tesla_front.specs.Forms.{AreSpelled, NameIs, NamesAre, WordIs}
use Rattle.tesla_run_relay.specs.declared.play.form.Arguments.{Arguments}

-- the words of each form, in the order in which they are told
abbrev pub usages : List (List ℕ)
usages = codes "play CAPTURE POSTS" ∷ []

-- the names of the file of the capture and of the posts
pub record PlayArguments : Type 0 where
  pub capture : List ℕ
  pub posts : List (List ℕ)

-- what the words that were read ask for
abbrev pub arguments_of : Arguments → PlayArguments
arguments_of words = record { capture = words.capture.now; posts = words.posts }

-- the words are the form 'play CAPTURE POSTS'; the capture may be named as a post, since what a post sends is under no file
pub record IsPlayForm (it : PlayArguments) (words : List (List ℕ)) : Type 0 where
  pub spelled : AreSpelled (WordIs (codes "play") ∷ NameIs it.capture ∷ NamesAre it.posts ∷ []) words

-- what is opened, in order: the capture, and then the posts
abbrev pub files_of_play : PlayArguments → List Opening
files_of_play arguments = OfSource arguments.capture ∷ map OfPost arguments.posts
