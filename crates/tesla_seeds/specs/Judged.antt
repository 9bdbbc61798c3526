-- Which seeds a text spells, or its first refused line with its kind. So many seeds are wanted.
use Rattle.std.specs.Prelude.{◌≡◌, ℕ, zero, suc, ◌+◌, Bool, false, List, [], ◌∷◌, length, Result, Ok, Err, codes, nat_lt, ◌==◌, if◌then◌else◌}
use Rattle.std.specs.Str.{bytes_eq}
use Rattle.tesla_base.specs.declared.names.Key.{Key}
use Rattle.tesla_commit.specs.JudgedLines.{◌>>=◌, at}
use Rattle.tesla_commit.specs.Parsing.{lines, words, value_in, hex_in}
use Rattle.tesla_seeds.specs.declared.refusal.SeedsKind.{SeedsKind}
use Rattle.tesla_seeds.specs.declared.refusal.SeedsKind.TheVariants.{BadLine, BadHex, WrongCount, TooLong}
use Rattle.tesla_seeds.specs.declared.refusal.SeedsRefusal.{SeedsRefusal}
use Rattle.tesla_seeds.specs.declared.refusal.SeedsRefusal.TheVariants as refusals

-- no byte stands there
abbrev pub is_end : List (List ℕ) → Bool
is_end [] = false
is_end (unended ∷ []) = length unended == 0
is_end (line ∷ next ∷ others) = false

-- the line that has to come, which an LF has to end, and the lines after it
abbrev pub wanted_line : List (List ℕ) → Result (List ℕ × List (List ℕ)) SeedsKind
wanted_line [] = Err WrongCount
wanted_line (unended ∷ []) = if length unended == 0 then Err WrongCount else Err BadLine
wanted_line (line ∷ next ∷ others) = Ok (line, next ∷ others)

-- the lines after line 1
abbrev pub after_title : List (List ℕ) → Result (List (List ℕ)) SeedsKind
after_title text = wanted_line text >>= λ title. if bytes_eq title.0 (codes "tesla-seeds 1") then Ok title.1 else Err BadLine

-- what a line or a word says, or what any fault of it is in seeds
abbrev pub or_kind : {A E : Type 0} → SeedsKind → Result A E → Result A SeedsKind
or_kind kind (Ok x) = Ok x
or_kind kind (Err fault) = Err kind

-- the seed that the next line says, and the lines after it
abbrev pub first_seed : List (List ℕ) → Result (Key × List (List ℕ)) SeedsKind
first_seed text = do
  line ← wanted_line text
  word ← or_kind BadLine (value_in (codes "seed") (words line.0))
  bytes ← or_kind BadHex (hex_in 32 word)
  Ok (record { 0 = bytes }, line.1)

-- so many seeds, from that line on to the end of the text
unfoldable pub keys_judged : ℕ → ℕ → List (List ℕ) → Result (List Key) (ℕ × SeedsKind)
keys_judged number zero text = if is_end text then Ok [] else Err (number, WrongCount)
keys_judged number (suc more) text = at number (first_seed text) >>= λ seed. keys_judged (number + 1) more seed.1 >>= λ keys. Ok (seed.0 ∷ keys)

-- the whole text
unfoldable pub seeds_judged : ℕ → List ℕ → Result (List Key) (ℕ × SeedsKind)
seeds_judged count text =
    if nat_lt 4096 (length text) then Err (0, TooLong)
    else at 1 (after_title (lines text)) >>= λ rest. keys_judged 2 count rest

-- an answer refuses what is judged to be refused, unless memory ran out
abbrev pub SeedsRefuses : {Y : Type 0} → SeedsRefusal → Result Y (ℕ × SeedsKind) → Type 0
SeedsRefuses (refusals.At line kind) judged = judged ≡ Err (line, kind)
SeedsRefuses refusals.NoMemory judged = Unit {0}

-- an answer, seen by view, is what is judged, unless memory ran out
abbrev pub SeedsAnswers : {X Y : Type 0} → (X → Y) → Result X SeedsRefusal → Result Y (ℕ × SeedsKind) → Type 0
SeedsAnswers view (Ok x) judged = judged ≡ Ok (view x)
SeedsAnswers view (Err e) judged = SeedsRefuses e judged
