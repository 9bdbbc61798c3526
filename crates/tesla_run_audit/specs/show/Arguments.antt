-- Which words are show, and its file.
use Rattle.std.specs.Prelude.{ℕ, List, [], ◌∷◌, codes}
use Rattle.tesla_desk.specs.Outside.{Opening, OfSource}
use Rattle.tesla_front.specs.Forms.{AreSpelled, NameIs, WordIs}
use Rattle.tesla_run_audit.specs.declared.show.form.Arguments.{Arguments}

-- its words
abbrev pub usage : List ℕ
usage = codes "show TRACE"

-- the name of the file
pub record ShowArguments : Type 0 where
  pub trace : List ℕ

-- what the words that were read ask for
abbrev pub arguments_of : Arguments → ShowArguments
arguments_of words = record { trace = words.trace.now }

-- the words are the form 'show TRACE'
abbrev pub IsShowForm : ShowArguments → List (List ℕ) → Type 0
IsShowForm it = AreSpelled (WordIs (codes "show") ∷ NameIs it.trace ∷ [])

-- the one file of the command
abbrev pub files_of_show : ShowArguments → List Opening
files_of_show arguments = OfSource arguments.trace ∷ []
