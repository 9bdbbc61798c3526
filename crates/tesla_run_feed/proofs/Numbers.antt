-- Numbers that are put behind a text, one after another.
use Rattle.std.proofs.Common.{◌≡◌, ◌∙◌, ℕ, List, ◌++◌, ap, append_assoc}
use Rattle.tesla_status.specs.Lines.{number_text}

-- a number was put behind what there was, and it is this one
pub text_is : (first now word : List ℕ) (n m : ℕ) → n ≡ m → now ≡ first ++ number_text word n → now ≡ first ++ number_text word m
text_is first now word n m same put = put ∙ ap (λ (k : ℕ). first ++ number_text word k) same

-- a text was put behind what there was, and then a number, which is this one
pub number_then : (first now later prefix word : List ℕ) (n m : ℕ) → n ≡ m → now ≡ first ++ prefix → later ≡ now ++ number_text word n → later ≡ first ++ (prefix ++ number_text word m)
number_then first now later prefix word n m same once put =
    text_is now later word n m same put ∙ ap (λ (bytes : List ℕ). bytes ++ number_text word m) once ∙ append_assoc first prefix (number_text word m)
