use Rattle.std.proofs.Common.{◌≡◌, ◌∙◌, ℕ, List, ◌++◌, ap}
use Rattle.tesla_status.specs.Lines.{number_text}
use Rattle.tesla_run_receive.specs.watch.Lines.{counts_text}
use Rattle.tesla_run_receive.proofs.watch.Noted.{text_then}
use Rattle.tesla_run_receive.proofs.watch.line.add_counts.Goals as goal

-- a number was put behind what there was, and it is this one
text_is : (first now word : List ℕ) (n m : ℕ) → n ≡ m → now ≡ first ++ number_text word n → now ≡ first ++ number_text word m
text_is first now word n m same put = put ∙ ap (λ (k : ℕ). first ++ number_text word k) same

-- a text was put behind what there was, and then a number, which is this one
number_then : (first now later prefix word : List ℕ) (n m : ℕ) → n ≡ m → now ≡ first ++ prefix → later ≡ now ++ number_text word n → later ≡ first ++ (prefix ++ number_text word m)
number_then first now later prefix word n m same once put = text_then first now later prefix (number_text word m) once (text_is now later word n m same put)

pub returns-clause-text : goal.returns-clause-text
unfolding counts_text
returns-clause-text c = number_then _ _ _ _ _ _ _ c.from-11.ensures (number_then _ _ _ _ _ _ _ c.from-10.ensures (number_then _ _ _ _ _ _ _ c.from-9.ensures (number_then _ _ _ _ _ _ _ c.from-8.ensures (number_then _ _ _ _ _ _ _ c.from-7.ensures (number_then _ _ _ _ _ _ _ c.from-6.ensures (number_then _ _ _ _ _ _ _ c.from-5.ensures (number_then _ _ _ _ _ _ _ c.from-4.ensures (number_then _ _ _ _ _ _ _ c.from-3.ensures (number_then _ _ _ _ _ _ _ c.from-2.ensures (text_is _ _ _ _ _ c.from.ensures c.add_number.ensures.text) c.add_number-2.ensures.text) c.add_number-3.ensures.text) c.add_number-4.ensures.text) c.add_number-5.ensures.text) c.add_number-6.ensures.text) c.add_number-7.ensures.text) c.add_number-8.ensures.text) c.add_number-9.ensures.text) c.add_number-10.ensures.text) c.add_number-11.ensures.text
