-- The next clock, and its first reading.
use Rattle.std.proofs.Common.{◌≡◌, ◌∙◌, ℕ, Option, Some, None, List, sym, ap, subst, arith}
use Rattle.tesla_desk.specs.Clocks.{Ticking, Ticks}
use Rattle.tesla_desk.specs.Live.{Live, clock_told}
use Rattle.tesla_desk.specs.Outside.{MakesClock, Told}
use Rattle.tesla_run_info.specs.info.Left.{IsFirstReading, with_clock}

first_by : (readings : Option (ℕ → List ℕ)) (made : Option ℕ) (before : Live) (after : Option Ticking) (reading : ℕ) → Ticks (clock_told readings made) after reading
    → IsFirstReading reading (record before { readings = readings; made = made })
first_by (Some all) (Some number) before (Some after) reading ticks = ticks.1
first_by (Some all) (Some number) before None reading ticks = absurd (omega (arith, ticks))
first_by (Some all) None before after reading ticks = tt
first_by None made before after reading ticks = tt

-- what a new clock gives is its first reading
pub first_reading : (before : Live) (told after : Option Ticking) (reading : ℕ) → told ≡ clock_told before.readings before.made → Ticks told after reading → IsFirstReading reading before
first_reading before told after reading is ticks = first_by before.readings before.made before after reading (subst (λ (t : Option Ticking). Ticks t after reading) is ticks)

-- the making of a clock changes nothing but how many were made
pub made_one : (before now : Told) → MakesClock before now → now.live ≡ with_clock before.live
made_one before now it = ap (λ (t : Told). t.live) it.same ∙ ap (λ (m : Option ℕ). record before.live { made = m }) it.counted

pub live_alone : (before now : Told) → MakesClock before now → now ≡ record before { live = now.live }
live_alone before now it = it.same ∙ ap (λ (l : Live). record before { live = l }) (sym (ap (λ (t : Told). t.live) it.same))
