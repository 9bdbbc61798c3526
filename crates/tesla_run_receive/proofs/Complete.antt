-- A history of receive has all that is to be given once a take was answered Over.
use Rattle.std.proofs.Common.{◌≡◌, List, refl, subst}
use Rattle.std.specs.List.{Contains}
use Rattle.tesla_shared.proofs.Released.{are_released}
use Rattle.tesla_shared.specs.Receiving.{yield_of}
use Rattle.tesla_shared.specs.Yields as yields
use Rattle.tesla_state.specs.declared.replies.Reply.{Reply}
use Rattle.tesla_state.specs.declared.replies.Reply.TheVariants.{Given, Empty, Over}
use Rattle.tesla_run_receive.specs.Receive.{AnswersOver, of_receiver}
use Rattle.tesla_run_receive.proofs.Histories.{Completes}

-- an answer that yields none any more is Over
is_over : (reply : Reply) → yield_of reply ≡ yields.Over → reply ≡ Over
is_over (Given head payload) is = absurd cc
is_over Empty is = absurd cc
is_over Over is = refl

pub has_over : (answers : List Reply) → AnswersOver yield_of answers → Contains answers Over
has_over answers it = subst (λ (reply : Reply). Contains answers reply) (is_over it.answer it.over) it.among

pub receiver_completes : Completes of_receiver
receiver_completes cfg history passes links sinks are calls legal ingests releaser over = (are_released cfg history passes links sinks are calls legal).complete ingests releaser (has_over _ over)
