-- The first entry of a history that isn't the one answer to its event.
use Rattle.std.specs.Prelude.{◌≡◌, ◌≢◌, ℕ, Bool, true, false, ◌&&◌, ◌==◌, List, [], ◌∷◌, ◌++◌, length, Option, Some, None, bytes_eq}
use Rattle.tesla_base.specs.declared.release.Head.{Head}
use Rattle.tesla_fitting.specs.declared.config.Config.{Config}
use Rattle.tesla_fitting.specs.declared.verdict.Verdict.{Verdict}
use Rattle.tesla_fitting.specs.declared.verdict.Verdict.TheVariants as verdicts
use Rattle.tesla_receiver.specs.History.{IsLegal, entry_of, event_of}
use Rattle.tesla_receiver.specs.Entries.{Entry}
use Rattle.tesla_receiver.specs.declared.history.Entry.TheVariants.{Arrived, Taken, Ended}
use Rattle.tesla_state.specs.declared.replies.Reply.{Reply}
use Rattle.tesla_state.specs.declared.replies.Reply.TheVariants.{Given, Empty, Over}

-- the number of a verdict, and what it tells
abbrev pub verdict_numbers : Verdict → List ℕ
verdict_numbers verdicts.Malformed = 1 ∷ []
verdict_numbers (verdicts.Foreign stream) = 2 ∷ stream.0 ∷ []
verdict_numbers verdicts.Misfit = 3 ∷ []
verdict_numbers (verdicts.Future None) = 4 ∷ []
verdict_numbers (verdicts.Future (Some bound)) = 4 ∷ bound ∷ []
verdict_numbers (verdicts.BadKey chain) = 5 ∷ chain.0 ∷ []
verdict_numbers verdicts.Late = 6 ∷ []
verdict_numbers verdicts.Repeat = 7 ∷ []
verdict_numbers verdicts.Full = 8 ∷ []
verdict_numbers (verdicts.Kept chains) = 9 ∷ chains ∷ []
verdict_numbers verdicts.Keys = 10 ∷ []

-- what the head of a packet tells
abbrev pub head_numbers : Head → List ℕ
head_numbers head = head.position ∷ head.interval ∷ head.number ∷ head.chain ∷ head.length ∷ []

-- the number of an answer to a take, and what it tells
abbrev pub reply_numbers : Reply → List ℕ
reply_numbers (Given head payload) = 2 ∷ head.position ∷ head.interval ∷ head.number ∷ head.chain ∷ head.length ∷ payload
reply_numbers Empty = 0 ∷ []
reply_numbers Over = 1 ∷ []

-- the two entries are the same
unfoldable pub same_entry : Entry → Entry → Bool
same_entry (Arrived a) (Arrived b) = a.ingest == b.ingest && a.reading == b.reading && bytes_eq a.bytes b.bytes && bytes_eq (verdict_numbers a.verdict) (verdict_numbers b.verdict)
same_entry (Taken releaser reply) (Taken other returned) = releaser == other && bytes_eq (reply_numbers reply) (reply_numbers returned)
same_entry (Ended ingest) (Ended other) = ingest == other
same_entry _ _ = false

-- the first of these: an entry that isn't the right one, else what is wrong behind it
abbrev pub wrong_by : Bool → ℕ × Entry → Option (ℕ × Entry) → Option (ℕ × Entry)
wrong_by true this later = later
wrong_by false this later = Some this

-- the number of the first of these entries that isn't the one answer to its event after those before it, and the right entry
abbrev pub first_wrong_after : Config → List Entry → List Entry → Option (ℕ × Entry)
first_wrong_after cfg before [] = None
first_wrong_after cfg before (entry ∷ entries) =
    wrong_by (same_entry entry (entry_of cfg before (event_of entry))) (length before, entry_of cfg before (event_of entry)) (first_wrong_after cfg (before ++ entry ∷ []) entries)

abbrev pub first_wrong : Config → List Entry → Option (ℕ × Entry)
first_wrong cfg history = first_wrong_after cfg [] history

-- behind a legal prefix stands an entry that isn't the right one
pub record IsFirstWrong (cfg : Config) (history : List Entry) (n : ℕ) (right : Entry) : Type 0 where
  pub before : List Entry
  pub entry : Entry
  pub after : List Entry
  pub parts : history ≡ before ++ entry ∷ after
  pub count : length before ≡ n
  pub legal : IsLegal cfg before
  pub right_is : right ≡ entry_of cfg before (event_of entry)
  pub wrong : right ≢ entry
