-- What a take answers, with the bytes that it fills in.
use Rattle.std.specs.Prelude.{◌≡◌, ◌≤◌, ℕ, Bool, true, false, List, take, drop}
use Rattle.tesla_state.specs.declared.replies.Reply.{Reply}
use Rattle.tesla_state.specs.declared.replies.Reply.TheVariants as replies
use Rattle.tesla_state.specs.declared.replies.Take.{Take}
use Rattle.tesla_state.specs.declared.replies.Take.TheVariants.{Given, Empty, Over}

-- the payload stands at the start of the bytes
abbrev pub reply_shown : Take → List ℕ → Reply
reply_shown (Given head) into = replies.Given head (take head.length into)
reply_shown Empty into = replies.Empty
reply_shown Over into = replies.Over

-- the take gave a packet
abbrev pub is_given : Take → Bool
is_given (Given head) = true
is_given Empty = false
is_given Over = false

-- a packet's payload fits the bytes, and those behind it are as they were; without a packet all are
abbrev pub KeepsBehind : Take → List ℕ → List ℕ → Type 0
KeepsBehind (Given head) old new = (head.length ≤ 1200) × (drop head.length new ≡ drop head.length old)
KeepsBehind Empty old new = new ≡ old
KeepsBehind Over old new = new ≡ old
