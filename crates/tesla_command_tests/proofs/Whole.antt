-- Writes that take a whole piece.
use Rattle.std.proofs.Common.{List, ℕ, ◌-◌, ◌^◌, length, refl, arith}
use Rattle.tesla_desk.specs.Faults.{HasCause}
use Rattle.tesla_desk.specs.Outside.{Stalls}
use Rattle.tesla_desk.specs.declared.sink.WriteStep.TheVariants.{Took}

-- a piece that is taken whole never stalls
pub whole_never_stalls : (piece : List ℕ) → HasCause 0 0 (Stalls piece (Took (length piece)))
whole_never_stalls piece =
    record { stays = omega arith; rose = λ stalls. absurd (omega (arith, stalls.0, stalls.1)); still = λ _. refl }
