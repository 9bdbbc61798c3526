-- What an answer of a receiver is called.
use Rattle.std.proofs.Common.{◌≡◌, ◌∙◌, ℕ, List, [], refl, ap}
use Rattle.tesla_receiver.specs.Entries.{Entry}
use Rattle.tesla_receiver.specs.declared.history.Entry.TheVariants.{Arrived, Taken, Ended}
use Rattle.tesla_state.specs.Replies.{reply_shown}
use Rattle.tesla_state.specs.declared.replies.Take.{Take}
use Rattle.tesla_state.specs.declared.replies.Take.TheVariants.{Given, Empty, Over}
use Rattle.tesla_audit.specs.Answers.{answer_line, reply_words, verdict_words}
use Rattle.tesla_audit.specs.Checks.{HasAnswer, answer_text}
use Rattle.tesla_audit.specs.declared.auditor.Answer.{Answer}
use Rattle.tesla_audit.specs.declared.auditor.Answer.TheVariants as answers

-- the payload isn't told
payload_untold : (reply : Take) (payload other : List ℕ) → reply_words (reply_shown reply payload) ≡ reply_words (reply_shown reply other)
payload_untold (Given head) payload other = refl
payload_untold Empty payload other = refl
payload_untold Over payload other = refl

-- the right entry's answer is told by what was answered
pub answer_is : (right : Entry) (answer : Answer) → HasAnswer right answer → answer_line right ≡ answer_text answer
answer_is (Arrived arrival) (answers.Verdict verdict) has = ap verdict_words has
answer_is (Arrived arrival) (answers.Take returned) has = absurd has
answer_is (Taken releaser reply) (answers.Verdict verdict) has = absurd has
answer_is (Taken releaser reply) (answers.Take returned) has = ap reply_words has.1 ∙ payload_untold returned has.0 []
answer_is (Ended ingest) answer has = absurd has
