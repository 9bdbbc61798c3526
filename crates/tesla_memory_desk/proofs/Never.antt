-- Calls that never fail.
use Rattle.std.proofs.Common.{◌≡◌, ◌∙◌, ℕ, ◌-◌, ◌^◌, ◌==◌, ◌&&◌, Bool, true, false, nat_lt, if◌then◌else◌, List, [], ◌∷◌, length, refl, ap, arith}
use Rattle.std.specs.List.{list_any}
use Rattle.tesla_memory_desk.specs.Calls.{CallNumbers, next_fails}
use Rattle.tesla_desk.specs.Faults.{HasCause}
use Rattle.tesla_memory_desk.specs.LiveMemory.{answer_of, letters_left, link_answer, link_calls_of}
use Rattle.tesla_desk.specs.Outside.{Stalls}
use Rattle.tesla_memory_desk.specs.declared.letters.Letters.{Letters}
use Rattle.tesla_desk.specs.declared.link.Got.TheVariants as answers
use Rattle.tesla_desk.specs.declared.link.Letter.{Letter}
use Rattle.tesla_desk.specs.declared.link.Letter.TheVariants as letters
use Rattle.tesla_desk.specs.declared.sink.WriteStep.TheVariants.{Took}

-- what never comes raises no count
no_cause : {failed : Type 0} → (failed → ⊥) → HasCause 0 0 failed
no_cause none = record { stays = omega arith; rose = λ f. absurd (none f); still = λ _. refl }

-- a piece that is taken whole never stalls
pub whole_never_stalls : (piece : List ℕ) → HasCause 0 0 (Stalls piece (Took (length piece)))
whole_never_stalls piece = no_cause (λ stalls. omega (arith, stalls.0, stalls.1))

and_false : (b : Bool) → (b && false) ≡ false
and_false true = refl
and_false false = refl

-- where no number is listed no call fails
none_fails : (calls : CallNumbers) → calls.failing ≡ [] → next_fails calls ≡ false
none_fails calls none =
    ap (λ (listed : List ℕ). nat_lt calls.next (2 ^ 64 - 1) && list_any (λ number. number == calls.next) listed) none ∙ and_false (nat_lt calls.next (2 ^ 64 - 1))

-- a link of which no call fails answers by its letters
pub link_answers : (link : Letters) → (link_calls_of link).failing ≡ [] → link_answer link ≡ answer_of (letters_left link)
link_answers link none = ap (λ (fails : Bool). if fails then answers.Failed else answer_of (letters_left link)) (none_fails (link_calls_of link) none)

letters_never_fail : (left : List Letter) → answer_of left ≡ answers.Failed → ⊥
letters_never_fail [] e = absurd cc
letters_never_fail (letters.Datagram bytes ∷ more) e = absurd cc
letters_never_fail (letters.Quiet ∷ more) e = absurd cc

-- and no letter is answered by a failure
pub letters_answer : (left : List Letter) → HasCause 0 0 (answer_of left ≡ answers.Failed)
letters_answer left = no_cause (letters_never_fail left)
