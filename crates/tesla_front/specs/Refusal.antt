-- Why a command refuses its input: the line, and causes.
use Rattle.std.specs.Prelude.{◌≡◌, ℕ, Result, Err, List, ◌++◌, codes, decimal}
use Rattle.tesla_desk.specs.Faults.{Faults, HasCauses}
use Rattle.tesla_front.specs.declared.fault.Fault.TheVariants.{Read, Write, Open}
use Rattle.tesla_front.specs.declared.refusal.Refusal.{Refusal}
use Rattle.tesla_front.specs.declared.refusal.Stop.{Stop}
use Rattle.tesla_front.specs.declared.refusal.Stop.TheVariants as stops

-- a refused file, with the line or the offset in it, and the name of the kind
abbrev pub refused_line : List ℕ → ℕ → List ℕ → List ℕ
refused_line file place kind = codes "refused " ++ file ++ codes " " ++ decimal place ++ codes " " ++ kind ++ codes "\n"

-- the refusal has this status, and tells this line
pub record IsRefusal (status : ℕ) (line : List ℕ) (refusal : Refusal) : Type 0 where
  pub status_is : refusal.status ≡ status
  pub line_is : refusal.line.bytes ≡ line

-- each fault that is answered raised its count, and no other count rose: want of memory and a refusal raise none
abbrev pub StopCauses : {A : Type 0} → Result A Stop → Faults → Faults → Type 0
StopCauses result old new = HasCauses old new (result ≡ Err (stops.Failed Read)) (result ≡ Err (stops.Failed Write)) (result ≡ Err (stops.Failed Open))
