-- Which words are seeds, and its files.
use Rattle.std.specs.Prelude.{ℕ, List, [], ◌∷◌, codes}
use Rattle.tesla_desk.specs.Outside.{Opening, OfSource, OfSink}
use Rattle.tesla_front.specs.Forms.{AreSpelled, NameIs, NumberIs, WordIs}
use Rattle.tesla_front.specs.Names.{IsNoneOf}
use Rattle.tesla_run_info.specs.declared.seeds.arguments.Arguments.{Arguments}

-- its words
abbrev pub usage : List ℕ
usage = codes "seeds COUNT SECRET-OUT"

-- the name of the source of random bytes
abbrev pub random : List ℕ
random = codes "/dev/urandom"

-- how many seeds there are to be, and the name of the output
pub record SeedsArguments : Type 0 where
  pub count : ℕ
  pub out : List ℕ

-- what the words that were read ask for
abbrev pub arguments_of : Arguments → SeedsArguments
arguments_of words = record { count = words.count; out = words.out.now }

-- the words are the form 'seeds COUNT SECRET-OUT'
pub record IsSeedsForm (it : SeedsArguments) (words : List (List ℕ)) : Type 0 where
  pub spelled : AreSpelled (WordIs (codes "seeds") ∷ NumberIs 1 8 it.count ∷ NameIs it.out ∷ []) words
  -- the output isn't the source
  pub apart : IsNoneOf it.out (random ∷ [])

-- the files of the command, in the order in which they are opened
abbrev pub files_of_seeds : SeedsArguments → List Opening
files_of_seeds arguments = OfSource random ∷ OfSink arguments.out ∷ []
