-- What was written to STATUS while a relay ran, and when it had ended.
use Rattle.std.specs.Prelude.{◌≡◌, ℕ, Bool, true, false, List, [], ◌++◌, flat_map, map, Option, Some, None, IfSome}
use Rattle.tesla_desk.specs.Outside.{Page, Untold, Absent, Holds}
use Rattle.tesla_front.specs.Files.{IsPrefix}
use Rattle.tesla_relay.specs.declared.relayed.PostCount.{PostCount}
use Rattle.tesla_relay.specs.declared.tally.SoFar.{SoFar}
use Rattle.tesla_status.specs.Written.{PutsAll}
use Rattle.tesla_run_relay.specs.watch.Lines.{Follow, NoneFalls, TallyLine, counts_behind, last_text, no_counts, numbers_of, time_text}

-- an output that was new has lines of so many posts, of which none has a number above these counts; where it failed, a prefix of them
pub record HasTold (posts : ℕ) (told : List SoFar) (written : Option (List ℕ)) (faults : ℕ) (failed : Bool) : Type 0 where
  pub before : Option (List ℕ)
  pub empty : IfSome before (λ bytes. bytes ≡ [])
  pub lines : List TallyLine
  pub follow : Follow (no_counts posts) lines
  pub within : NoneFalls (counts_behind (no_counts posts) lines) told
  pub puts : PutsAll (flat_map time_text lines) before written faults failed

-- where a relay came to counts the last line has their numbers, and else there is none
abbrev pub TellsLast : Option (List PostCount) → Option TallyLine → Type 0
TellsLast None None = Unit {0}
TellsLast (Some counts) (Some line) = line.counts ≡ map numbers_of counts
TellsLast counts line = ⊥

-- an output that was new has lines of so many posts, and behind them the last one, where a relay came to counts; where it failed, a prefix of them
pub record HasAllTold (posts : ℕ) (counts : Option (List PostCount)) (written : Option (List ℕ)) (faults : ℕ) (failed : Bool) : Type 0 where
  pub before : Option (List ℕ)
  pub empty : IfSome before (λ bytes. bytes ≡ [])
  pub lines : List TallyLine
  pub follow : Follow (no_counts posts) lines
  pub last : Option TallyLine
  pub tells : TellsLast counts last
  pub puts : PutsAll (flat_map time_text lines ++ last_text last) before written faults failed

-- ---- its page

-- the bytes are lines of so many posts, in which no number of a post falls, and behind them the last one, where a relay came to counts
pub record AreLines (posts : ℕ) (counts : Option (List PostCount)) (bytes : List ℕ) : Type 0 where
  pub lines : List TallyLine
  pub follow : Follow (no_counts posts) lines
  pub last : Option TallyLine
  pub tells : TellsLast counts last
  pub bytes_are : bytes ≡ flat_map time_text lines ++ last_text last

-- the bytes are a prefix of such lines
pub record BreakOff (posts : ℕ) (counts : Option (List PostCount)) (bytes : List ℕ) : Type 0 where
  pub lines : List TallyLine
  pub follow : Follow (no_counts posts) lines
  pub last : Option TallyLine
  pub tells : TellsLast counts last
  pub prefix : IsPrefix (flat_map time_text lines ++ last_text last) bytes

-- the bytes, told whether the output failed
abbrev pub HoldsLines : ℕ → Option (List PostCount) → Bool → List ℕ → Type 0
HoldsLines posts counts false bytes = AreLines posts counts bytes
HoldsLines posts counts true bytes = BreakOff posts counts bytes

-- what the page of STATUS holds, told to what counts of so many posts a relay came, and whether STATUS failed: whole lines, or a prefix of them. Where the page isn't told, nothing is claimed
abbrev pub HoldsStatus : ℕ → Option (List PostCount) → Bool → Page → Type 0
HoldsStatus posts counts failed Untold = Unit {0}
HoldsStatus posts counts failed Absent = ⊥
HoldsStatus posts counts failed (Holds bytes broken) = (broken ≡ failed) × HoldsLines posts counts failed bytes
