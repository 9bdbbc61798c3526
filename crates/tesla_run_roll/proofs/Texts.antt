-- What is written of a take is the same whether there is memory for a further epoch or not.
use Rattle.std.proofs.Common.{◌≡◌, ◌∙◌, ◌⊎◌, inl, inr, ◌+◌, ◌-◌, ℕ, Bool, true, List, [], ◌∷◌, length, take, Option, Some, None, option_map, refl, sym, ap}
use Rattle.tesla_base.specs.declared.release.Head.{Head}
use Rattle.tesla_capture.specs.Release.{marked_text}
use Rattle.tesla_fitting.specs.declared.config.Config.{Config}
use Rattle.tesla_receiver.specs.History.{Event, Takes}
use Rattle.tesla_state.specs.declared.replies.Reply.{Reply}
use Rattle.tesla_state.specs.declared.replies.Reply.TheVariants as replies
use Rattle.tesla_rollover.specs.Epochs.{answers_in, next_of, payload_given, roll_entry_of}
use Rattle.tesla_rollover.specs.History.{RollEntry, configs_in}
use Rattle.tesla_run_roll.specs.Played.{roll_record_in, roll_text_given}
use Rattle.tesla_rollover.specs.Replies.{has_memory, reply_from, reply_in, reply_with, roll_shown}
use Rattle.tesla_rollover.specs.declared.answers.Next.{Next}
use Rattle.tesla_rollover.specs.declared.answers.RollTake.{RollTake}
use Rattle.tesla_rollover.specs.declared.answers.RollTake.TheVariants.{Given, Empty, Over}

-- whatever came of the payload
text_from : (epoch : ℕ) (answers : List Reply) (next other : Next) → roll_text_given (reply_from epoch answers next) ≡ roll_text_given (reply_from epoch answers other)
text_from epoch [] next other = refl
text_from epoch (replies.Given head payload ∷ answers) next other = refl
text_from epoch (replies.Empty ∷ answers) next other = text_from (epoch + 1) answers next other
text_from epoch (replies.Over ∷ answers) next other = text_from (epoch + 1) answers next other

text_with : (answers : List Reply) (payload : Option (List ℕ)) (next other : List ℕ → Next) → roll_text_given (reply_with answers (option_map next payload)) ≡ roll_text_given (reply_with answers (option_map other payload))
text_with answers None next other = refl
text_with answers (Some payload) next other = text_from 0 answers (next payload) (other payload)

-- the record of a take
text_alike : (cfg : Config) (history : List RollEntry) (enough other : Bool) → roll_record_in 0 (roll_entry_of cfg history enough (Takes 0)) ≡ roll_record_in 0 (roll_entry_of cfg history other (Takes 0))
text_alike cfg history enough other =
    let answers = answers_in cfg history in
    text_with answers (payload_given answers) (next_of (configs_in cfg history) (length answers - 1) enough) (next_of (configs_in cfg history) (length answers - 1) other)

-- told that an event is a take, and the answer to it and its entry
module _ (cfg : Config) (history : List RollEntry) (event : Event) (takes : event ≡ Takes 0) (answer : RollTake) (into : List ℕ) (answered : roll_shown answer into ≡ reply_in (roll_entry_of cfg history (has_memory answer) (Takes 0))) where
  text_is : roll_text_given (roll_shown answer into) ≡ roll_record_in 0 (roll_entry_of cfg history true event)
  text_is = ap roll_text_given answered ∙ text_alike cfg history (has_memory answer) true ∙ ap (λ (e : Event). roll_record_in 0 (roll_entry_of cfg history true e)) (sym takes)

  -- what is written of a packet is the record of the take
  pub text_given : (epoch : ℕ) (head : Head) (next : Next) → answer ≡ Given epoch head next → marked_text epoch head (take head.length into) ≡ roll_record_in 0 (roll_entry_of cfg history true event)
  text_given epoch head next is = ap (λ (a : RollTake). roll_text_given (roll_shown a into)) (sym is) ∙ text_is

  -- no record is written where no epoch gave one
  pub text_none : (answer ≡ Empty) ⊎ (answer ≡ Over) → roll_record_in 0 (roll_entry_of cfg history true event) ≡ []
  text_none (inl is) = sym text_is ∙ ap (λ (a : RollTake). roll_text_given (roll_shown a into)) is
  text_none (inr is) = sym text_is ∙ ap (λ (a : RollTake). roll_text_given (roll_shown a into)) is

-- memory wanted for no epoch where none gave a packet
pub memory_none : (answer : RollTake) → (answer ≡ Empty) ⊎ (answer ≡ Over) → has_memory answer ≡ true
memory_none answer (inl is) = ap has_memory is
memory_none answer (inr is) = ap has_memory is
