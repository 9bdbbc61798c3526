-- What was written to the file of the counts.
use Rattle.std.specs.Prelude.{◌≡◌, ℕ, Bool, true, false, List, Option}
use Rattle.tesla_desk.specs.Faults.{HasCause}
use Rattle.tesla_desk.specs.Outside.{AppendsPrefix, with_bytes}

-- a text was put behind what was written before, told whether the output had failed before and has now: nothing is put behind a failure
pub record Puts (text : List ℕ) (written later : Option (List ℕ)) (faults count : ℕ) (was is : Bool) : Type 0 where
  pub all : is ≡ false → (was ≡ false) × (later ≡ with_bytes written text)
  pub prefix : was ≡ false → AppendsPrefix written later text
  pub cause : was ≡ false → HasCause faults count (is ≡ true)
  pub still : was ≡ true → (is ≡ true) × (later ≡ written) × (count ≡ faults)

-- a text was put behind what an output held, which had no fault; where it failed, a prefix of it
pub record PutsAll (text : List ℕ) (before written : Option (List ℕ)) (faults : ℕ) (failed : Bool) : Type 0 where
  pub all : failed ≡ false → written ≡ with_bytes before text
  pub prefix : AppendsPrefix before written text
  pub cause : HasCause 0 faults (failed ≡ true)
