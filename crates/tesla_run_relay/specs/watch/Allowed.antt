-- What watch-relay may write to STATUS, whether or not a run ends. It holds at each write.
use Rattle.std.specs.Prelude.{◌≡◌, ◌⊎◌, ℕ, Bool, true, List, flat_map, length, Option, IfSome}
use Rattle.tesla_run_relay.specs.watch.Arguments.{IsWatchForm, WatchArguments}
use Rattle.tesla_run_relay.specs.watch.Lines.{Follow, NoneFalls, TallyLine, counts_behind, end_text, no_counts, time_text}

-- the piece is this line of so many posts, in which no number of a post is below that of a line before
abbrev pub IsTimeLine : ℕ → List TallyLine → TallyLine → List ℕ → Type 0
IsTimeLine posts lines line piece = (piece ≡ time_text line) × NoneFalls (counts_behind (no_counts posts) lines) line.counts

-- the piece is this line as the last one, with the counts of so many posts
abbrev pub IsLastLine : ℕ → TallyLine → List ℕ → Type 0
IsLastLine posts line piece = (piece ≡ end_text line) × (length line.counts ≡ posts)

-- the piece is the next line of the output that has this written, where it tells that: a whole line of so many posts, at a reading that a clock gave. What was written are whole lines in which no number of a post falls, and none of them is the last one
pub record IsNextTally (gave : ℕ → Bool) (posts : ℕ) (written : Option (List ℕ)) (piece : List ℕ) : Type 0 where
  pub lines : List TallyLine
  pub written_is : IfSome written (λ bytes. bytes ≡ flat_map time_text lines)
  pub follow : Follow (no_counts posts) lines
  pub line : TallyLine
  pub given : gave line.time ≡ true
  pub next : IsTimeLine posts lines line piece ⊎ IsLastLine posts line piece

-- the outputs of this name may write each line of so many posts that comes next
abbrev pub MayWriteTallies : {S : Type 0} → (S → List ℕ) → (S → Option (List ℕ)) → (S → List ℕ → Bool) → (ℕ → Bool) → List ℕ → ℕ → Type 0
MayWriteTallies {S} name written may_write gave under posts = (it : S) (piece : List ℕ) → name it ≡ under → IsNextTally gave posts (written it) piece → may_write it piece ≡ true

-- the same where the words are of the form: STATUS may have each line that comes next
abbrev pub MayTellForWords : {S : Type 0} → (S → List ℕ) → (S → Option (List ℕ)) → (S → List ℕ → Bool) → (ℕ → Bool) → List (List ℕ) → Type 0
MayTellForWords name written may_write gave words =
    (arguments : WatchArguments) → IsWatchForm arguments words → MayWriteTallies name written may_write gave arguments.status (length arguments.relay.posts)
