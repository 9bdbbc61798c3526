-- Which words are send, and its files in order.
use Rattle.std.specs.Prelude.{ℕ, List, [], ◌∷◌, codes}
use Rattle.tesla_desk.specs.Outside.{Opening, OfSource, OfSink}
use Rattle.tesla_front.specs.Forms.{AreSpelled, NameIs, WordIs}
use Rattle.tesla_front.specs.Names.{IsNoneOf}
use Rattle.tesla_run_send.specs.declared.form.Arguments.{Arguments}

-- the words of the form
abbrev pub usage : List ℕ
usage = codes "send SETUP SECRET SCRIPT CAPTURE"

-- the names of the files
pub record SendArguments : Type 0 where
  pub setup : List ℕ
  pub secret : List ℕ
  pub script : List ℕ
  pub out : List ℕ

-- what the words that were read ask for
abbrev pub arguments_of : Arguments → SendArguments
arguments_of words = record { setup = words.setup.now; secret = words.secret.now; script = words.script.now; out = words.out.now }

-- the words are the form 'send SETUP SECRET SCRIPT CAPTURE'
pub record IsSend (it : SendArguments) (words : List (List ℕ)) : Type 0 where
  pub spelled : AreSpelled (WordIs (codes "send") ∷ NameIs it.setup ∷ NameIs it.secret ∷ NameIs it.script ∷ NameIs it.out ∷ []) words
  -- the output is none of the inputs
  pub apart : IsNoneOf it.out (it.setup ∷ it.secret ∷ it.script ∷ [])

-- the files of the command, in the order in which they are opened
abbrev pub files_of_send : SendArguments → List Opening
files_of_send arguments = OfSource arguments.setup ∷ OfSource arguments.secret ∷ OfSource arguments.script ∷ OfSink arguments.out ∷ []
