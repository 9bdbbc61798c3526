-- How many bytes entries have at most, and those of a take that gave a packet.
use Rattle.std.proofs.Common.{◌≡◌, ◌≤◌, ℕ, List, [], ◌∷◌, ◌++◌, length, take, None, Some, sym, ap, ◌∙◌, append-nil, arith}
use Rattle.std.proofs.lemmas.List.{length-append, length-take-le}
use Rattle.std.specs.Int.{w16, w64, to_be_bytes}
use Rattle.tesla_base.specs.declared.release.Head.{Head}
use Rattle.tesla_capture.specs.Release.{head_text}
use Rattle.tesla_fitting.specs.declared.verdict.Verdict.{Verdict}
use Rattle.tesla_fitting.specs.declared.verdict.Verdict.TheVariants as verdicts
use Rattle.tesla_receiver.specs.Entries.{Arrival}
use Rattle.tesla_receiver.specs.declared.history.Entry.TheVariants.{Arrived, Taken}
use Rattle.tesla_state.specs.Replies.{reply_shown}
use Rattle.tesla_state.specs.declared.replies.Take.{Take}
use Rattle.tesla_state.specs.declared.replies.Take.TheVariants.{Given, Empty, Over}
use Rattle.tesla_trace.specs.Entries.{FitsReply}
use Rattle.tesla_trace.specs.Trace.{entry_text, verdict_text}

-- a verdict has at most 10 bytes
pub verdict_short : (verdict : Verdict) → length (verdict_text verdict) ≤ 10
verdict_short verdicts.Malformed = omega arith
verdict_short (verdicts.Foreign stream) = omega arith
verdict_short verdicts.Misfit = omega arith
verdict_short (verdicts.Future None) = omega arith
verdict_short (verdicts.Future (Some bound)) = omega arith
verdict_short (verdicts.BadKey chain) = omega arith
verdict_short verdicts.Late = omega arith
verdict_short verdicts.Repeat = omega arith
verdict_short verdicts.Full = omega arith
verdict_short (verdicts.Kept chains) = omega arith
verdict_short verdicts.Keys = omega arith

-- an arrival fits a piece
pub arrived_short : (arrival : Arrival) → length arrival.bytes ≤ 2048 → length (entry_text (Arrived arrival)) ≤ 8192
arrived_short arrival few =
    omega (
      arith,
      few,
      verdict_short arrival.verdict,
      length-append (to_be_bytes w64 arrival.reading) (to_be_bytes w16 (length arrival.bytes) ++ arrival.bytes ++ verdict_text arrival.verdict),
      length-append (to_be_bytes w16 (length arrival.bytes)) (arrival.bytes ++ verdict_text arrival.verdict),
      length-append arrival.bytes (verdict_text arrival.verdict),
    )

-- a take that gave a packet fits a piece
pub taken_short : (releaser : ℕ) (reply : Take) (bytes : List ℕ) → FitsReply reply bytes → length (entry_text (Taken releaser (reply_shown reply bytes))) ≤ 8192
taken_short releaser Empty bytes fits = omega arith
taken_short releaser Over bytes fits = omega arith
taken_short releaser (Given head) bytes fits = omega (arith, fits.0, fits.1, length-append (head_text head) (take head.length bytes), length-take-le head.length bytes)

-- the bytes of a take that gave a packet, in two parts
pub given_text : (releaser : ℕ) (head : Head) (reply : Take) (prefix body payload : List ℕ) → reply ≡ Given head → prefix ≡ 2 ∷ releaser ∷ 2 ∷ head_text head → body ≡ take head.length payload → prefix ++ body ++ [] ≡ entry_text (Taken releaser (reply_shown reply payload))
given_text releaser head reply prefix body payload is parsed_is body_is =
    append-nil (prefix ++ body) ∙ ap (λ (b : List ℕ). prefix ++ b) body_is ∙ ap (λ (f : List ℕ). f ++ take head.length payload) parsed_is ∙ sym (ap (λ (r : Take). entry_text (Taken releaser (reply_shown r payload))) is)
