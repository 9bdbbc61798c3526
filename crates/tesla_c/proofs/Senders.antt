-- What a sender stands for, by an equal stream.
use Rattle.std.proofs.Common.{◌≡◌, ℕ, List, sym, subst}
use Rattle.tesla_sender.specs.Made.{Call, Stream, made_disclosure, made_message}
use Rattle.tesla_sender.specs.Stands.{Stands, State}
use Rattle.tesla_c.specs.Senders.{TellsMade, ahead_of, disclosure_cause, message_cause}
use Rattle.tesla_c.specs.declared.sender_answers.CCause.{CCause}

-- a message is answered as of the stream
pub of_message : (stream other : Stream) (log : List Call) (reading : ℕ) (payload : List ℕ) (status written : ℕ) (cause : CCause) (before now : List ℕ) → stream ≡ other
    → TellsMade message_cause (made_message stream log reading payload) status written cause before now → TellsMade message_cause (made_message other log reading payload) status written cause before now
of_message stream other log reading payload status written cause before now same told = subst (λ (it : Stream). TellsMade message_cause (made_message it log reading payload) status written cause before now) same told

-- a disclosure is answered as of the stream
pub of_disclosure : (stream other : Stream) (log : List Call) (reading status written : ℕ) (cause : CCause) (before now : List ℕ) → stream ≡ other
    → TellsMade disclosure_cause (made_disclosure stream log reading) status written cause before now → TellsMade disclosure_cause (made_disclosure other log reading) status written cause before now
of_disclosure stream other log reading status written cause before now same told = subst (λ (it : Stream). TellsMade disclosure_cause (made_disclosure it log reading) status written cause before now) same told

-- a sender stands for the same logs once the keys of the next interval were made
pub ahead_stands : (before now : State) (log : List Call) → now ≡ ahead_of before now.left → Stands before log → Stands now log
ahead_stands before now log is stands = subst (λ (it : State). Stands it log) (sym is) (record { accepted = stands.accepted; latest = stands.latest; used = stands.used })
