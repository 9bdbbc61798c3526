-- Which words are weave, and its files in order.
use Rattle.std.specs.Prelude.{ℕ, List, [], ◌∷◌, codes}
use Rattle.tesla_desk.specs.Outside.{Opening, OfSource, OfSink}
use Rattle.tesla_front.specs.Forms.{AreSpelled, NameIs, NumberIs, WordIs}
use Rattle.tesla_front.specs.Names.{IsNoneOf}
use Rattle.tesla_run_weave.specs.declared.form.Arguments.{Arguments}

-- the words of the form
abbrev pub usage : List ℕ
usage = codes "weave SETUP SCRIPT SCRIPT-OUT GAP"

-- the names of the files, and how many messages behind it the one is that a message promises
pub record WeaveArguments : Type 0 where
  pub setup : List ℕ
  pub script : List ℕ
  pub out : List ℕ
  pub gap : ℕ

-- what the words that were read ask for
abbrev pub arguments_of : Arguments → WeaveArguments
arguments_of words = record { setup = words.setup.now; script = words.script.now; out = words.out.now; gap = words.gap }

-- the words are the form 'weave SETUP SCRIPT SCRIPT-OUT GAP'
pub record IsWeave (it : WeaveArguments) (words : List (List ℕ)) : Type 0 where
  pub spelled : AreSpelled (WordIs (codes "weave") ∷ NameIs it.setup ∷ NameIs it.script ∷ NameIs it.out ∷ NumberIs 1 1000000 it.gap ∷ []) words
  -- the output is none of the inputs
  pub apart : IsNoneOf it.out (it.setup ∷ it.script ∷ [])

-- the files of the command, in the order in which they are opened
abbrev pub files_of_weave : WeaveArguments → List Opening
files_of_weave arguments = OfSource arguments.setup ∷ OfSource arguments.script ∷ OfSink arguments.out ∷ []
