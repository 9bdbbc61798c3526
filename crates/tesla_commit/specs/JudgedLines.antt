-- What is judged line after line, and the answers that tell it.
use Rattle.std.specs.Prelude.{◌≡◌, ℕ, Result, Ok, Err, nat_le, ◌&&◌, if◌then◌else◌}
use Rattle.tesla_commit.specs.declared.refusal.LineRefusal.{LineRefusal}
use Rattle.tesla_commit.specs.declared.refusal.SetupKind.{SetupKind}
use Rattle.tesla_commit.specs.declared.refusal.SetupKind.TheVariants.{LimitPassed}
use Rattle.tesla_commit.specs.declared.refusal.SetupRefusal.{SetupRefusal}
use Rattle.tesla_commit.specs.declared.refusal.SetupRefusal.TheVariants as refusals

-- a step after another, where the first is not refused
infixl 10 ◌>>=◌
abbrev pub ◌>>=◌ : {A B E : Type 0} → Result A E → (A → Result B E) → Result B E
(Ok x) >>= f = f x
(Err e) >>= f = Err e

-- a number within limits
abbrev pub within : ℕ → ℕ → ℕ → Result ℕ SetupKind
within least most number = if nat_le least number && nat_le number most then Ok number else Err LimitPassed

-- what is judged on a line, refused at that line
abbrev pub at : {A E : Type 0} → ℕ → Result A E → Result A (ℕ × E)
at line (Ok x) = Ok x
at line (Err kind) = Err (line, kind)

-- a refusal, or a value seen by view, is what is judged of the words of a line
abbrev pub Says : {X Y E : Type 0} → (X → Y) → Result X E → Result Y E → Type 0
Says view (Ok x) judged = judged ≡ Ok (view x)
Says view (Err kind) judged = judged ≡ Err kind

-- a refused line, or a value seen by view, is what is judged of lines
abbrev pub SaysOfLines : {X Y : Type 0} → (X → Y) → Result X LineRefusal → Result Y (ℕ × SetupKind) → Type 0
SaysOfLines view (Ok x) judged = judged ≡ Ok (view x)
SaysOfLines view (Err refusal) judged = judged ≡ Err (refusal.line, refusal.kind)

-- an answer refuses what is judged to be refused; want of memory is none
abbrev pub Refuses : {Y : Type 0} → SetupRefusal → Result Y (ℕ × SetupKind) → Type 0
Refuses (refusals.At line kind) judged = judged ≡ Err (line, kind)
Refuses refusals.NoMemory judged = ⊥

-- an answer, seen by view, is what is judged
abbrev pub Answers : {X Y : Type 0} → (X → Y) → Result X SetupRefusal → Result Y (ℕ × SetupKind) → Type 0
Answers view (Ok x) judged = judged ≡ Ok (view x)
Answers view (Err e) judged = Refuses e judged
