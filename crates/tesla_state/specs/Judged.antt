-- The verdict on a packet, by what is counted of those that are held.
use Rattle.std.specs.Prelude.{ℕ, Bool, ◌||◌, ◌==◌, if◌then◌else◌}
use Rattle.tesla_fitting.specs.declared.verdict.Verdict.{Verdict}
use Rattle.tesla_fitting.specs.declared.verdict.Verdict.TheVariants.{Late, Repeat, Full, Kept}

-- of a packet of which these chains are safe, where a packet of its name may be released, so many are held, and so many of its interval
abbrev pub verdict_by : ℕ → ℕ → ℕ → Bool → ℕ → ℕ → Verdict
verdict_by capacity quota set named held of_interval =
    if set == 0 then Late else (if named then Repeat else (if held == capacity || of_interval == quota then Full else Kept set))
