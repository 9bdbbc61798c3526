-- Which words are stress.
use Rattle.std.specs.Prelude.{ℕ, List, [], ◌∷◌, codes}
use Rattle.tesla_desk.specs.Outside.{Opening}
use Rattle.tesla_front.specs.Forms.{AreSpelled, NumberIs, WordIs}
use Rattle.tesla_run_stress.specs.declared.arguments.Arguments.{Arguments}

-- its words
abbrev pub usage : List ℕ
usage = codes "stress SEED COUNT"

-- the first of the numbers, and how many messages are made
pub record StressArguments : Type 0 where
  pub seed : ℕ
  pub count : ℕ

-- what the words that were read ask for
abbrev pub arguments_of : Arguments → StressArguments
arguments_of words = record { seed = words.seed; count = words.count }

-- the words are the form 'stress SEED COUNT'
abbrev pub IsStress : StressArguments → List (List ℕ) → Type 0
IsStress it = AreSpelled (WordIs (codes "stress") ∷ NumberIs 0 65535 it.seed ∷ NumberIs 1 100000 it.count ∷ [])

-- the command opens no file
abbrev pub files_of_stress : StressArguments → List Opening
files_of_stress arguments = []
