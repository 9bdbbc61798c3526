-- What calls of a sender tell, from what the sender answers.
use Rattle.std.proofs.Common.{◌≡◌, ◌⊎◌, inl, inr, ℕ, ◌+◌, Option, Some, None, Result, Ok, Err, List, refl, ap}
use Rattle.std.specs.Option.{option_map}
use Rattle.tesla_base.specs.declared.names.ChainNo.{ChainNo}
use Rattle.tesla_base.specs.declared.names.Key.{Key}
use Rattle.tesla_frame.specs.Frame.{Frame}
use Rattle.tesla_sender.specs.Chains.{wrong_seed}
use Rattle.tesla_sender.specs.Made.{Chain}
use Rattle.tesla_sender.specs.Stands.{Answers}
use Rattle.tesla_sender.specs.declared.refusal.SenderRefusal.TheVariants as unopened_for
use Rattle.tesla_c.specs.Senders.{IsWrongSeed, TellsMade}
use Rattle.tesla_c.specs.declared.sender_answers.CCause.{CCause}

-- a frame was made
pub made_told : {E : Type 0} (told : E → CCause) (size : ℕ) (made : Result Frame E) (cause : CCause) (before now : List ℕ)
    → Answers (Ok size) made before now → TellsMade told made 0 size cause before now
made_told told size (Ok frame) cause before now is = (refl, is)
made_told told size (Err refusal) cause before now wrong = absurd wrong

-- none was made
pub unmade_told : {E : Type 0} (told : E → CCause) (returned : E) (written : ℕ) (made : Result Frame E) (before now other : List ℕ)
    → Answers (Err returned) made before now → TellsMade told made 1 written (told returned) before other
unmade_told told returned written (Ok frame) before now other wrong = absurd wrong
unmade_told told returned written (Err refusal) before now other is = (refl, ap told is)

-- the first wrong seed is that of the refusal
wrong_by : (found : Option Chain) (number : ChainNo) (made : Key) → option_map wrong_seed found ≡ Some (unopened_for.WrongSeed number made)
    → IsWrongSeed found (record { text = 2; line = number.0 + 2; kind = 32; chain = number.0 })
wrong_by None number made e = absurd cc
wrong_by (Some chain) number made e =
    let same : ◌≡◌ {A = ChainNo} number (record { 0 = chain.number }) = cc in
    ap (λ (n : ChainNo). record { text = 2; line = n.0 + 2; kind = 32; chain = n.0 }) same

pub wrong_told : (found : Option Chain) (number : ChainNo) (made : Key) → (unopened_for.WrongSeed number made ≡ unopened_for.NoMemory) ⊎ (option_map wrong_seed found ≡ Some (unopened_for.WrongSeed number made))
    → IsWrongSeed found (record { text = 2; line = number.0 + 2; kind = 32; chain = number.0 })
wrong_told found number made (inl none) = absurd cc
wrong_told found number made (inr wrong) = wrong_by found number made wrong

-- no seed is wrong
pub none_wrong : (found : Option Chain) → option_map wrong_seed found ≡ None → found ≡ None
none_wrong None e = refl
none_wrong (Some chain) e = absurd cc
