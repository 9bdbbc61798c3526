-- Which words are info, and its file.
use Rattle.std.specs.Prelude.{ℕ, Option, Some, None, List, [], ◌∷◌, codes}
use Rattle.tesla_desk.specs.Outside.{Opening, OfSource}
use Rattle.tesla_front.specs.Forms.{AreSpelled, NameIs, NumberIs, WordIs}
use Rattle.tesla_run_info.specs.declared.info.form.Arguments.{Arguments}

-- its words
abbrev pub usage : List ℕ
usage = codes "info SETUP [RATE]"

-- the name of the setup, and how many packets come in a second, where that is told
pub record InfoArguments : Type 0 where
  pub setup : List ℕ
  pub rate : Option ℕ

-- what the words that were read ask for
abbrev pub arguments_of : Arguments → InfoArguments
arguments_of words = record { setup = words.setup.now; rate = words.rate }

-- the word of a rate, where there is one
abbrev pub rate_parts : Option ℕ → List (List ℕ → Type 0)
rate_parts None = []
rate_parts (Some rate) = NumberIs 1 1000000 rate ∷ []

-- the words are the form 'info SETUP', or 'info SETUP RATE'
abbrev pub IsInfoForm : InfoArguments → List (List ℕ) → Type 0
IsInfoForm it = AreSpelled (WordIs (codes "info") ∷ NameIs it.setup ∷ rate_parts it.rate)

-- the file of the command
abbrev pub files_of_info : InfoArguments → List Opening
files_of_info arguments = OfSource arguments.setup ∷ []
