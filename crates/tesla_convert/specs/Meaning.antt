-- What a command that makes one file of another comes to and writes. Both are told as functions of the input's bytes.
use Rattle.std.specs.Prelude.{◌≡◌, ◌≢◌, ◌⊎◌, ℕ, ◌<◌, ◌≤◌, false, Option, Some, IfSome, List, [], ◌++◌}
use Rattle.tesla_desk.specs.Outside.{Page, Absent, Holds}
use Rattle.tesla_front.specs.OutcomeView.{OutcomeView, Done, Refused, Failed}
use Rattle.tesla_front.specs.Files.{HoldsWhere, HasFailed, IsPrefix, IsUnwritten}
use Rattle.tesla_front.specs.Openings.{File}
use Rattle.tesla_front.specs.Setup.{IsNoSetup}
use Rattle.tesla_front.specs.declared.fault.Fault.TheVariants as faults

pub record Meaning : Type 1 where
  -- what it comes to where nothing fails: its end, or the first place that is refused
  pub comes : List ℕ → OutcomeView
  -- what is written then
  pub makes : List ℕ → List ℕ
  -- what is written of the first bytes of an input, where a read fails behind them
  pub so_far : List ℕ → List ℕ
  -- no place of these first bytes is refused
  pub IsUnrefused : List ℕ → Type 0
  -- memory may be wanting once records were converted
  pub MayWant : Type 0
  -- where it is wanting at a place of this input, this is what was written
  pub IsWanting : List ℕ → List ℕ → Type 0

-- what the first says of an input the second says too
pub record SaysSame (first second : Meaning) : Type 0 where
  pub comes : (bytes : List ℕ) → first.comes bytes ≡ second.comes bytes
  pub makes : (bytes : List ℕ) → first.makes bytes ≡ second.makes bytes
  pub so_far : (read : List ℕ) → first.so_far read ≡ second.so_far read
  pub unrefused : (read : List ℕ) → first.IsUnrefused read → second.IsUnrefused read
  pub may : first.MayWant → second.MayWant
  pub wanting : (bytes written : List ℕ) → first.IsWanting bytes written → second.IsWanting bytes written

-- the fact holds of the bytes of a page, where they are told
abbrev pub Where : Page → (List ℕ → Type 0) → Type 0
Where page Fact = (bytes : List ℕ) (failed : _) → page ≡ Holds bytes failed → Fact bytes

-- at most so many files were asked for, which stand before the input; or the input was opened, and nothing was read of it
abbrev pub IsUnread : ℕ → ℕ → Page → Option (List ℕ) → Type 0
IsUnread before opened input left = (opened ≤ before) ⊎ HoldsWhere input (λ bytes. left ≡ Some bytes)

-- the input was taken as far as it goes: the command came to its end or to a refused place, and the output holds its text
pub record ComesToEnd (meaning : Meaning) (input out : Page) (outcome : OutcomeView) : Type 0 where
  pub there : input ≢ Absent
  pub end : Where input (λ bytes. outcome ≡ meaning.comes bytes)
  pub text : HoldsWhere out (λ written. Where input (λ bytes. written ≡ meaning.makes bytes))

-- a write failed: the output holds a prefix of its text
pub record BreaksOff (meaning : Meaning) (input out : Page) : Type 0 where
  pub there : input ≢ Absent
  pub prefix : HoldsWhere out (λ written. Where input (λ bytes. IsPrefix (meaning.makes bytes) written))
  pub failed : HasFailed out

-- a read failed: the bytes that had left the input hold no refused place, and what is made of them is written, or the output failed too
pub record StopsReading (meaning : Meaning) (input : Page) (left : Option (List ℕ)) (out : Page) : Type 0 where
  pub there : input ≢ Absent
  pub stops : Where input (λ bytes. (read : List ℕ) × (rest : List ℕ) × (left ≡ Some rest) × (bytes ≡ read ++ rest) × meaning.IsUnrefused read
      × HoldsWhere out (λ written. (written ≡ meaning.so_far read) ⊎ (HasFailed out × IsPrefix (meaning.so_far read) written)))

-- there was no memory before any of the input was read: the output was opened, and nothing was written or failed
pub record HoldsNothing (input : Page) (left : Option (List ℕ)) (out : Page) : Type 0 where
  pub there : input ≢ Absent
  pub unread : Where input (λ bytes. left ≡ Some bytes)
  pub nothing : IsUnwritten out

-- memory was wanting once records were converted, where that may be: the output holds a prefix of its text, which ends where memory was wanting, and no write to it failed
pub record StopsWanting (meaning : Meaning) (input out : Page) : Type 0 where
  pub there : input ≢ Absent
  pub may : meaning.MayWant
  pub prefix : HoldsWhere out (λ written. Where input (λ bytes. IsPrefix (meaning.makes bytes) written))
  pub wanting : HoldsWhere out (λ written. Where input (λ bytes. meaning.IsWanting bytes written))
  pub sound : (written : List ℕ) (failed : _) → out ≡ Holds written failed → failed ≡ false

-- what converting the input comes to, with what was left of it, and what the output is before and afterwards
abbrev pub Converts : Meaning → Page → Option (List ℕ) → Page → Page → OutcomeView → Type 0
Converts meaning input left before out (Done lines) = ComesToEnd meaning input out (Done lines)
Converts meaning input left before out (Refused status line) = ComesToEnd meaning input out (Refused status line)
Converts meaning input left before out (Failed faults.Write) = BreaksOff meaning input out
Converts meaning input left before out (Failed faults.Read) = StopsReading meaning input left out
-- memory is wanting only before the output is opened, or before the first byte of the input is read, or else where the meaning says so
Converts meaning input left before out (Failed faults.NoMemory) = (out ≡ before) ⊎ HoldsNothing input left out ⊎ StopsWanting meaning input out
-- the input or the output wasn't opened
Converts meaning input left before out (Failed faults.Open) = out ≡ before
Converts meaning input left before out _ = ⊥

-- the same between a source and a sink that are open, told what the source had left before and afterwards, what was written, and how often a write failed
pub record EndsBetween (meaning : Meaning) (before written : Option (List ℕ)) (outcome : OutcomeView) : Type 0 where
  pub end : (bytes : List ℕ) → before ≡ Some bytes → outcome ≡ meaning.comes bytes
  pub text : (bytes done : List ℕ) → before ≡ Some bytes → written ≡ Some done → done ≡ meaning.makes bytes

abbrev pub StopsBetween : Meaning → Option (List ℕ) → Option (List ℕ) → Option (List ℕ) → ℕ → Type 0
StopsBetween meaning before left written failed = (bytes : List ℕ) → before ≡ Some bytes →
    (read : List ℕ) × (rest : List ℕ) × (left ≡ Some rest) × (bytes ≡ read ++ rest) × meaning.IsUnrefused read
    × ((done : List ℕ) → written ≡ Some done → (done ≡ meaning.so_far read) ⊎ ((0 < failed) × IsPrefix (meaning.so_far read) done))

-- nothing was read or written
abbrev pub IsUnbegun : Option (List ℕ) → Option (List ℕ) → Option (List ℕ) → ℕ → Type 0
IsUnbegun before left written failed = (left ≡ before) × IfSome written (λ bytes. bytes ≡ []) × (failed ≡ 0)

abbrev pub WantsBetween : Meaning → Option (List ℕ) → Option (List ℕ) → ℕ → Type 0
WantsBetween meaning before written failed = meaning.MayWant × (failed ≡ 0)
    × ((bytes done : List ℕ) → before ≡ Some bytes → written ≡ Some done → IsPrefix (meaning.makes bytes) done × meaning.IsWanting bytes done)

abbrev pub ConvertsBetween : Meaning → Option (List ℕ) → Option (List ℕ) → Option (List ℕ) → ℕ → OutcomeView → Type 0
ConvertsBetween meaning before left written failed (Done lines) = EndsBetween meaning before written (Done lines)
ConvertsBetween meaning before left written failed (Refused status line) = EndsBetween meaning before written (Refused status line)
ConvertsBetween meaning before left written failed (Failed faults.Write) = (0 < failed) × ((bytes done : List ℕ) → before ≡ Some bytes → written ≡ Some done → IsPrefix (meaning.makes bytes) done)
ConvertsBetween meaning before left written failed (Failed faults.Read) = StopsBetween meaning before left written failed
ConvertsBetween meaning before left written failed (Failed faults.NoMemory) = IsUnbegun before left written failed ⊎ WantsBetween meaning before written failed
ConvertsBetween meaning before left written failed _ = ⊥

-- ---- the setup, which such a command reads first

-- there is no setup under the name, and no other file was asked for
pub record StopsAtSetup (setup : File) (opened : ℕ) (outcome : OutcomeView) : Type 0 where
  pub alone : opened ≤ 1
  pub why : IsNoSetup setup.page outcome
