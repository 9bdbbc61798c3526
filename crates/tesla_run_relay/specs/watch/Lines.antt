-- The lines of STATUS of watch-relay: their text, and how one follows another.
use Rattle.std.specs.Prelude.{ℕ, zero, suc, ◌≤◌, List, [], ◌∷◌, ◌++◌, Option, Some, None, codes, decimal}
use Rattle.tesla_relay.specs.declared.relayed.PostCount.{PostCount}
use Rattle.tesla_relay.specs.declared.tally.SoFar.{SoFar}

-- ---- text

-- how many datagrams the post of this number, counted from 0, sent, and how many were dropped for it
unfoldable pub post_text : ℕ → SoFar → List ℕ
post_text number count = codes " sent" ++ decimal number ++ codes "=" ++ decimal count.sent ++ codes " dropped" ++ decimal number ++ codes "=" ++ decimal count.dropped

-- the same of posts, numbered from the first argument on
abbrev pub posts_text : ℕ → List SoFar → List ℕ
posts_text number [] = []
posts_text number (count ∷ counts) = post_text number count ++ posts_text (suc number) counts

-- the line of the posts' counts at a reading, which stands behind this word, and of how many datagrams the system refused to send
unfoldable pub status_line : List ℕ → ℕ → List SoFar → ℕ → List ℕ
status_line word reading counts unsent = word ++ decimal reading ++ posts_text 0 counts ++ codes " unsent=" ++ decimal unsent ++ codes "\n"

-- a line: the reading of a clock, the counts of the posts, in order, and how many datagrams the system refused to send
pub record TallyLine : Type 0 where
  pub time : ℕ
  pub counts : List SoFar
  pub unsent : ℕ

-- a line while the relay runs
abbrev pub time_text : TallyLine → List ℕ
time_text line = status_line (codes "time=") line.time line.counts line.unsent

-- the last line
abbrev pub end_text : TallyLine → List ℕ
end_text line = status_line (codes "end=") line.time line.counts line.unsent

-- where there is one
abbrev pub last_text : Option TallyLine → List ℕ
last_text None = []
last_text (Some line) = end_text line

-- ---- one line behind another

-- nothing was sent to so many posts, and nothing dropped
abbrev pub no_counts : ℕ → List SoFar
no_counts zero = []
no_counts (suc posts) = record { sent = 0; dropped = 0 } ∷ no_counts posts

-- no number of a post falls from the one to the other, which are of as many posts
abbrev pub NoneFalls : List SoFar → List SoFar → Type 0
NoneFalls [] [] = Unit {0}
NoneFalls (before ∷ befores) (now ∷ nows) = (before.sent ≤ now.sent) × (before.dropped ≤ now.dropped) × NoneFalls befores nows
NoneFalls befores nows = ⊥

-- the counts behind these lines: those of the last of them, or else the first argument
abbrev pub counts_behind : List SoFar → List TallyLine → List SoFar
counts_behind before [] = before
counts_behind before (line ∷ lines) = counts_behind line.counts lines

-- these lines follow on counts: no number of a post falls from line to line
abbrev pub Follow : List SoFar → List TallyLine → Type 0
Follow before [] = Unit {0}
Follow before (line ∷ lines) = NoneFalls before line.counts × Follow line.counts lines

-- ---- the last line

-- the numbers of what a relay came to for a post
abbrev pub numbers_of : PostCount → SoFar
numbers_of count = record { sent = count.sent; dropped = count.dropped }
