-- The forms of commands, as the usage lines tell them.
use Rattle.std.specs.Prelude.{ℕ, List, ◌++◌, codes, flat_map}
use Rattle.tesla_front.specs.declared.forms.FormText.{FormText}

-- the line that tells a form
abbrev pub usage_line : List ℕ → List ℕ
usage_line words = codes "usage: " ++ words ++ codes "\n"

-- the lines that tell some forms
abbrev pub usage_of : List FormText → List ℕ
usage_of forms = flat_map (λ (form : FormText). usage_line form.words.now) forms
