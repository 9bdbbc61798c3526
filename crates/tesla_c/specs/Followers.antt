-- Followers in slots, and what their calls tell in numbers.
use Rattle.std.specs.Prelude.{◌≡◌, ℕ, ℤ, Bool, true, false, ◌+◌, ◌^◌, List, [], length, take, nat_le, nat_lt, ◌&&◌, if◌then◌else◌, Option, Some, None, Result, Ok, Err}
use Rattle.tesla_base.specs.declared.release.Head.{Head}
use Rattle.tesla_commit.specs.ChainRows.{first_line}
use Rattle.tesla_commit.specs.Equal.{first_equal}
use Rattle.tesla_commit.specs.Parts.{Parts}
use Rattle.tesla_commit.specs.declared.refusal.SetupKind.{SetupKind}
use Rattle.tesla_fitting.specs.declared.config.Config.{Config}
use Rattle.tesla_follow.specs.Counted.{report_over}
use Rattle.tesla_follow.specs.Followed.{Followed, open_epochs}
use Rattle.tesla_follow.specs.History.{FollowEntry}
use Rattle.tesla_follow.specs.Stands.{FollowStands}
use Rattle.tesla_follow.specs.declared.answers.Acceptance.{Acceptance}
use Rattle.tesla_follow.specs.declared.answers.Acceptance.TheVariants.{Unpromised, Queued, Unqueued}
use Rattle.tesla_follow.specs.declared.answers.FollowReply.{FollowReply}
use Rattle.tesla_follow.specs.declared.answers.FollowReply.TheVariants as replies
use Rattle.tesla_follow.specs.declared.answers.FollowVerdict.{FollowVerdict}
use Rattle.tesla_receiver.specs.declared.history.Entry.TheVariants.{Arrived, Taken, Ended}
use Rattle.tesla_c.specs.Told.{kind_code, report_told, verdict_told}
use Rattle.tesla_c.specs.declared.answers.CRefusal.{CRefusal}
use Rattle.tesla_c.specs.declared.engine.Engine.{Engine}
use Rattle.tesla_c.specs.declared.engine.Engine.TheVariants.{Receiving, Sending, Following}
use Rattle.tesla_c.specs.declared.follow_opening.FollowRefusal.{FollowRefusal}
use Rattle.tesla_c.specs.declared.follow_opening.FollowRefusal.TheVariants as refusals
use Rattle.tesla_c.specs.declared.records.CFollowReport.{CFollowReport}
use Rattle.tesla_c.specs.declared.records.CFollowVerdict.{CFollowVerdict}
use Rattle.tesla_c.specs.declared.records.CRecord.{CRecord}

-- ---- what a slot holds

-- what was opened is a follower of this configuration that stands for this history
abbrev pub IsFollower : Engine → Config → List FollowEntry → Type 0
IsFollower (Following state) config history = (state.config ≡ config) × FollowStands state history
IsFollower (Receiving state) config history = ⊥
IsFollower (Sending state) config history = ⊥

-- a slot holds such a follower
abbrev pub HasFollower : Option Engine → Config → List FollowEntry → Type 0
HasFollower None config history = ⊥
HasFollower (Some engine) config history = IsFollower engine config history

-- the status of a call of what was opened that counts, but for what a take answers
abbrev pub followed_status : Engine → ℕ
followed_status (Following state) = if nat_lt state.calls (2 ^ 63) then 0 else 5
followed_status (Receiving state) = 4
followed_status (Sending state) = 4

-- the same of a slot
abbrev pub follow_status : Option Engine → ℕ
follow_status None = 4
follow_status (Some engine) = followed_status engine

abbrev pub is_followed : Engine → Bool
is_followed (Following state) = true
is_followed (Receiving state) = false
is_followed (Sending state) = false

-- the status of a close: an empty slot stays as it is
abbrev pub follow_close_status : Option Engine → ℕ
follow_close_status None = 0
follow_close_status (Some engine) = if is_followed engine then 0 else 4

-- a slot that isn't a follower's
abbrev pub HasNone : Option Engine → Type 0
HasNone held = follow_status held ≡ 4

-- ---- an opening

-- the numbers of an opening: 0, or the first that is outside its limits, as parameters count from 1
abbrev pub bad_follow_number : (capacity quota ingests : ℕ) → ℕ
bad_follow_number capacity quota ingests =
    if nat_le 1 capacity && nat_le capacity 4096 then (if nat_le 1 quota && nat_le quota capacity then (if nat_le 1 ingests then 0 else 6) else 5) else 4

abbrev pub distinct_judged : Parts → Option ℕ → Result Parts (ℕ × ℕ)
distinct_judged setup None = Ok setup
distinct_judged setup (Some chain) = Err (first_line setup.version + chain, 10)

-- a setup in which no two commitments are equal, or the line and the number of the kind that are refused: for equal commitments the line of the first chain whose commitment a chain before has
abbrev pub follow_judged : Result Parts (ℕ × SetupKind) → Result Parts (ℕ × ℕ)
follow_judged (Ok setup) = distinct_judged setup (first_equal setup.rows)
follow_judged (Err refused) = Err (refused.0, kind_code refused.1)

-- what was opened is a follower of the setup that is judged, in which nothing has happened
abbrev pub IsFollowOpened : Result Parts (ℕ × ℕ) → ℤ → (capacity quota ingests : ℕ) → Option Engine → Type 0
IsFollowOpened (Ok setup) lag capacity quota ingests held = HasFollower held (record { setup = setup; lag = lag; capacity = capacity; quota = quota; ingests = ingests }) []
IsFollowOpened (Err refused) lag capacity quota ingests held = ⊥

-- the line and the kind are those that are judged
abbrev pub IsFollowRefused : Result Parts (ℕ × ℕ) → CRefusal → Type 0
IsFollowRefused judged told = judged ≡ Err (told.line, told.kind)

-- memory was wanting for the follower of a setup
abbrev pub IsFollowWanting : Result Parts (ℕ × ℕ) → Type 0
IsFollowWanting (Ok setup) = Unit {0}
IsFollowWanting (Err refused) = ⊥

-- why nothing is opened is what is judged of the text, or want of memory for a setup
abbrev pub IsFollowRefusedBy : Result Parts (ℕ × ℕ) → FollowRefusal → Type 0
IsFollowRefusedBy judged (refusals.Text why) = IsFollowRefused judged why
IsFollowRefusedBy judged refusals.NoMemory = IsFollowWanting judged

-- ---- an arrival

abbrev pub acceptance_code : Acceptance → ℕ
acceptance_code Unpromised = 0
acceptance_code Queued = 1
acceptance_code Unqueued = 2

abbrev pub follow_verdict_told : FollowVerdict → CFollowVerdict
follow_verdict_told it = record {
  epoch = it.epoch;
  kind = (verdict_told it.verdict).kind;
  chains = (verdict_told it.verdict).chains;
  acceptance = acceptance_code it.acceptance;
  number = (verdict_told it.verdict).number;
}

-- the verdict of an entry is told
abbrev pub TellsFollowVerdict : FollowEntry → CFollowVerdict → Type 0
TellsFollowVerdict (Arrived arrival) told = told ≡ follow_verdict_told arrival.verdict
TellsFollowVerdict (Taken releaser reply) told = ⊥
TellsFollowVerdict (Ended ingest) told = ⊥

-- ---- a take

-- a record: its kind, its epoch and its head
abbrev pub record_told : ℕ → ℕ → Head → CRecord
record_told kind epoch head = record { kind = kind; epoch = epoch; position = head.position; interval = head.interval; number = head.number; length = head.length; chain = head.chain }

-- a reply is told: the status, the record, and the payload at the start of the room
abbrev pub TellsRecord : FollowReply → ℕ → CRecord → List ℕ → Type 0
TellsRecord (replies.Released epoch head payload next) status told room = (status ≡ 0) × (told ≡ record_told 0 epoch head) × (take head.length room ≡ payload)
TellsRecord (replies.Early epoch head payload) status told room = (status ≡ 0) × (told ≡ record_told 1 epoch head) × (take head.length room ≡ payload)
TellsRecord replies.Empty status told room = status ≡ 6
TellsRecord replies.Over status told room = status ≡ 7

-- the reply of an entry is told
abbrev pub TellsTaken : FollowEntry → ℕ → CRecord → List ℕ → Type 0
TellsTaken (Arrived arrival) status told room = ⊥
TellsTaken (Taken releaser reply) status told room = TellsRecord reply status told room
TellsTaken (Ended ingest) status told room = ⊥

-- ---- the counts

abbrev pub follow_report_told : Followed → CFollowReport
follow_report_told it = record {
  counts = report_told (report_over it.epochs);
  epochs = length it.epochs;
  open_epochs = length (open_epochs it);
  early = it.early;
  unqueued = it.unqueued;
  dropped = it.dropped;
  records = it.records;
}
