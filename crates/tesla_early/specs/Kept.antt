-- Which kept promise a message uses, and what an arrival or a take leaves.
use Rattle.std.specs.Prelude.{ℕ, ◌==◌, ◌&&◌, not, Bool, true, false, List, [], ◌∷◌, ◌++◌, Option, Some, None, bytes_eq, cond, if◌then◌else◌}
use Rattle.std.specs.List.{list_any}
use Rattle.sha2.specs.Sha256.{sha256}
use Rattle.tesla_base.specs.declared.names.Name.{Name}
use Rattle.tesla_fitting.specs.declared.verdict.Verdict.{Verdict}
use Rattle.tesla_frame.specs.Frame.{Frame}
use Rattle.tesla_early.specs.Payloads.{promise_of}
use Rattle.tesla_early.specs.declared.promise.Promise.{Promise}
use Rattle.tesla_early.specs.Early.{Message, may_be_early, message_in}
use Rattle.tesla_early.specs.Learnt.{last_of}
use Rattle.tesla_early.specs.Stands.{Kept}

-- the promise isn't used, and it's of a message of this name
abbrev pub is_of_name : Name → Kept → Bool
is_of_name name kept = not kept.used && (kept.promise.name.interval == name.interval && kept.promise.name.number == name.number)

-- it isn't used, and it's of a message of this name whose payload has this digest
abbrev pub is_of_message : Name → List ℕ → Kept → Bool
is_of_message name hash kept = is_of_name name kept && bytes_eq kept.promise.hash hash

-- the first that passes the test is used
abbrev pub use_first_kept : (Kept → Bool) → List Kept → List Kept
use_first_kept test [] = []
use_first_kept test (kept ∷ others) = if test kept then record kept { used = true } ∷ others else kept ∷ use_first_kept test others

-- the message of a frame with this verdict, where it may be early
abbrev pub candidate_in : Verdict → Option Frame → Option Message
candidate_in verdict frame = if may_be_early verdict then message_in frame else None

-- one of these isn't used and is of this message
abbrev pub is_promised_by : List Kept → Option Message → Bool
is_promised_by kept (Some message) = list_any (is_of_message message.name (sha256 message.payload)) kept
is_promised_by kept None = false

-- what is kept with one promise more, where there is one
abbrev pub kept_with : ℕ → List Kept → Option Promise → List Kept
kept_with most kept (Some promise) = last_of most (kept ++ record { promise = promise; used = false } ∷ [])
kept_with most kept None = kept

-- what is kept once this message was accepted: the first promise of it is used, and its own is learnt
abbrev pub kept_accepted : ℕ → List Kept → Option Message → List Kept
kept_accepted most kept (Some message) = kept_with most (use_first_kept (is_of_message message.name (sha256 message.payload)) kept) (promise_of message.payload)
kept_accepted most kept None = kept

-- what is kept after this message came
abbrev pub kept_after : ℕ → List Kept → Option Message → List Kept
kept_after most kept message = cond (is_promised_by kept message) (kept_accepted most kept message) kept
