-- Files that are opened and read, and facts of their bytes.
use Rattle.std.specs.Prelude.{◌≡◌, ◌≢◌, ℕ, ◌+◌, ◌≤◌, true, false, Option, IfSome, Result, Ok, Err, List, [], ◌++◌, length, take}
use Rattle.tesla_desk.specs.Live.{Mail, UntoldMail, AbsentMail, HoldsMail}
use Rattle.tesla_desk.specs.Outside.{Page, Untold, Absent, Holds, after_bytes}
use Rattle.tesla_front.specs.OutcomeView.{OutcomeView, Refused, Failed}
use Rattle.tesla_front.specs.declared.fault.Fault.{Fault}
use Rattle.tesla_front.specs.declared.fault.Fault.TheVariants.{Read, Write, NoMemory, Open}

-- there are bytes under a name, and the fact holds of them where they are told
abbrev pub HoldsWhere : Page → (List ℕ → Type 0) → Type 0
HoldsWhere Untold Fact = Unit {0}
HoldsWhere Absent Fact = ⊥
HoldsWhere (Holds bytes failed) Fact = Fact bytes

-- the sink that was closed last under the name failed, where that is told
abbrev pub HasFailed : Page → Type 0
HasFailed Untold = Unit {0}
HasFailed Absent = ⊥
HasFailed (Holds bytes failed) = failed ≡ true

-- the sink that was closed last under the name took nothing and didn't fail, where that is told
abbrev pub IsUnwritten : Page → Type 0
IsUnwritten Untold = Unit {0}
IsUnwritten Absent = ⊥
IsUnwritten (Holds bytes failed) = (bytes ≡ []) × (failed ≡ false)

-- the post that was closed last under the name failed, where that is told
abbrev pub HasFailedMail : Mail → Type 0
HasFailedMail UntoldMail = Unit {0}
HasFailedMail AbsentMail = ⊥
HasFailedMail (HoldsMail sent failed) = failed ≡ true

-- why a file isn't taken: there is one, and where its text is told this is why; or something else went wrong, but no write
abbrev pub IsRefusedIn : Page → (List ℕ → OutcomeView → Type 0) → OutcomeView → Type 0
IsRefusedIn page Why (Refused status line) = HoldsWhere page (λ text. Why text (Refused status line))
IsRefusedIn page Why (Failed fault) = fault ≢ Write
IsRefusedIn page Why _ = ⊥

-- the bytes are a prefix of the text
abbrev pub IsPrefix : List ℕ → List ℕ → Type 0
IsPrefix text bytes = (n : ℕ) × (bytes ≡ take n text)

-- what was read of a file is its front, up to so many bytes
abbrev pub ReadsFile : ℕ → Page → List ℕ → Type 0
ReadsFile most page read = HoldsWhere page (λ bytes. read ≡ take most bytes)

-- a piece of n bytes more was read, or none where nothing is left
pub record ReadsOn (n most : ℕ) (before now : Option (List ℕ)) (old new : List ℕ) : Type 0 where
  pub fits : n ≤ most
  pub grown : length new ≡ length old + n
  pub read : (piece : List ℕ) × (new ≡ old ++ piece) × (before ≡ after_bytes piece now)
  pub ended : n ≡ 0 → IfSome now (λ rest. rest ≡ [])

-- what writing a text to a file comes to, with its page before and afterwards
abbrev pub WritesFile : List ℕ → Page → Page → Result (Unit {0}) Fault → Type 0
WritesFile text before now (Ok x) = HoldsWhere now (λ written. written ≡ text)
WritesFile text before now (Err Write) = HoldsWhere now (IsPrefix text) × HasFailed now
WritesFile text before now (Err Read) = ⊥
WritesFile text before now (Err NoMemory) = now ≡ before
WritesFile text before now (Err Open) = now ≡ before
