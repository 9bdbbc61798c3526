-- What the console shows, on which a command tells what it came to.
use Rattle.std.specs.Prelude.{◌≡◌, ◌⊎◌, ℕ, ◌<◌, ◌++◌, true, false, Option, List, take}
use Rattle.tesla_desk.specs.Outside.{Page, Untold, Absent, Holds, AppendsPrefix, with_bytes}
use Rattle.tesla_front.specs.OutcomeView.{OutcomeView, Failed, IsDone, text_of}
use Rattle.tesla_front.specs.Fault.{fault_line}
use Rattle.tesla_front.specs.Files.{IsPrefix}
use Rattle.tesla_front.specs.declared.fault.Fault.TheVariants.{Write}

-- a prefix of the lines of a summary, and behind it a prefix of the line of a write fault
abbrev pub IsLost : List ℕ → OutcomeView → List ℕ → Type 0
IsLost usage outcome text = (n : ℕ) × (m : ℕ) × (text ≡ take n (text_of usage outcome) ++ take m (fault_line Write))

-- what came is told on a sink, on which so many writes failed then: it stays, with all of its lines, or where there is no summary with a prefix of them; a summary that isn't written whole is told as a write fault
abbrev pub Tells : List ℕ → OutcomeView → OutcomeView → Option (List ℕ) → Option (List ℕ) → ℕ → Type 0
Tells usage outcome reported before now failed =
    ((reported ≡ outcome) × (failed ≡ 0) × (now ≡ with_bytes before (text_of usage outcome)))
    ⊎ ((reported ≡ outcome) × (IsDone outcome → ⊥) × (0 < failed) × AppendsPrefix before now (text_of usage outcome))
    ⊎ ((reported ≡ Failed Write) × IsDone outcome × (0 < failed) × ((text : List ℕ) × IsLost usage outcome text × (now ≡ with_bytes before text)))

-- the console after that, with how many writes to it failed: it holds exactly the lines, and a prefix of them where a write failed, which changes nothing but a summary
abbrev pub Shows : List ℕ → OutcomeView → OutcomeView → ℕ → Page → Type 0
Shows usage outcome reported failed Untold = (reported ≡ outcome) ⊎ ((reported ≡ Failed Write) × IsDone outcome × (0 < failed))
Shows usage outcome reported failed Absent = ⊥
Shows usage outcome reported failed (Holds text false) = (reported ≡ outcome) × (failed ≡ 0) × (text ≡ text_of usage outcome)
Shows usage outcome reported failed (Holds text true) =
    ((reported ≡ outcome) × (IsDone outcome → ⊥) × (0 < failed) × IsPrefix (text_of usage outcome) text)
    ⊎ ((reported ≡ Failed Write) × IsDone outcome × (0 < failed) × IsLost usage outcome text)
