-- What epochs come to that are asked in order.
use Rattle.std.proofs.Common.{◌≡◌, ◌≢◌, refl, ◌+◌, ℕ, List, [], ◌∷◌, ◌++◌, ap, sym, subst, ◌∙◌, arith}
use Rattle.std.specs.List.{AllByRecursion}
use Rattle.tesla_base.specs.declared.release.Head.{Head}
use Rattle.tesla_receiver.specs.History.{Takes, entry_of, reply_to}
use Rattle.tesla_receiver.specs.Stands.{Stands}
use Rattle.tesla_receiver.specs.Entries.{Entry}
use Rattle.tesla_receiver.specs.declared.history.Entry.TheVariants.{Taken}
use Rattle.tesla_state.specs.State.{State}
use Rattle.tesla_state.specs.declared.replies.Reply.{Reply}
use Rattle.tesla_state.specs.declared.replies.Reply.TheVariants as replies
use Rattle.tesla_rollover.specs.Epochs.{up_to_given}
use Rattle.tesla_rollover.specs.declared.asking.Asked.{Asked}
use Rattle.tesla_rollover.specs.declared.asking.Asked.TheVariants as asks
use Rattle.tesla_rollover.specs.Kept.{AskedReply, IsCalled, asked_from, asked_shown, not_over, replies_of, with_takes}
use Rattle.tesla_rollover.specs.Stands.{StandAll}
use Rattle.tesla_rollover.specs.declared.epoch.Epoch.{Epoch}

-- what isn't over stays as it is
pub shown_kept : (asked : Asked) (into : List ℕ) → asked ≢ asks.Over → not_over (asked_shown asked into) ≡ asked_shown asked into
shown_kept (asks.Given epoch head) into other = refl
shown_kept asks.Empty into other = refl
shown_kept asks.Over into other = absurd (other refl)

-- a receiver answers so
abbrev pub IsAnswered : State → Reply → Type 0
IsAnswered state reply = (history : List Entry) → Stands state history → reply ≡ reply_to state.config history

-- a receiver is so after a take
abbrev pub IsTaken : ℕ → State → State → Type 0
IsTaken releaser old new = (history : List Entry) → Stands old history → Stands new (history ++ entry_of old.config history (Takes releaser) ∷ [])

-- these receivers come to this when they are asked
abbrev pub ComesTo : ℕ → List State → AskedReply → Type 0
ComesTo number states reply = (histories : List (List Entry)) → StandAll states histories → reply ≡ asked_from number (up_to_given (replies_of states histories))

-- these receivers are so after they were asked
abbrev pub AreAsked : ℕ → List State → List State → Type 0
AreAsked releaser old new = (histories : List (List Entry)) → StandAll old histories → StandAll new (with_takes releaser (up_to_given (replies_of old histories)) histories)

taken_stands : (releaser : ℕ) (old new : State) (reply : Reply) (history : List Entry) → IsAnswered old reply → IsTaken releaser old new → Stands old history → Stands new (history ++ Taken releaser reply ∷ [])
taken_stands releaser old new reply history answered taken stands =
    subst (λ (own : Reply). Stands new (history ++ Taken releaser own ∷ [])) (sym (answered history stands)) (taken history stands)

-- the first gives a packet, and the others aren't asked
pub given_asked : (releaser : ℕ) (old new : State) (states : List State) (head : Head) (payload : List ℕ)
    → IsAnswered old (replies.Given head payload) → IsTaken releaser old new → AreAsked releaser (old ∷ states) (new ∷ states)
given_asked releaser old new states head payload answered taken [] stand = absurd stand
given_asked releaser old new states head payload answered taken (history ∷ histories) stand =
    subst (λ (reply : Reply). StandAll (new ∷ states) (with_takes releaser (up_to_given (reply ∷ replies_of states histories)) (history ∷ histories))) (answered history stand.0)
    (taken_stands releaser old new (replies.Given head payload) history answered taken stand.0, stand.1)

-- who has had so many calls at most has had one more at most
pub called_more : (most : ℕ) (epochs : List Epoch) → AllByRecursion (IsCalled most) epochs → AllByRecursion (IsCalled (most + 1)) epochs
called_more most [] called = called
called_more most (epoch ∷ epochs) called = (omega (arith, called.0), called_more most epochs called.1)

-- the first has none, and the others are asked
pub empty_comes : (number : ℕ) (state : State) (states : List State) (reply : AskedReply)
    → IsAnswered state replies.Empty → ComesTo (number + 1) states reply → ComesTo number (state ∷ states) (not_over reply)
empty_comes number state states reply answered others [] stand = absurd stand
empty_comes number state states reply answered others (history ∷ histories) stand =
    ap not_over (others histories stand.1)
    ∙ ap (λ (own : Reply). asked_from number (up_to_given (own ∷ replies_of states histories))) (answered history stand.0)

-- the first gave nothing, and the others are asked
asked_on : (reply : Reply) → ((more : List Reply) → up_to_given (reply ∷ more) ≡ reply ∷ up_to_given more) → (releaser : ℕ) (old new : State) (states others : List State)
    → IsAnswered old reply → IsTaken releaser old new → AreAsked releaser states others → AreAsked releaser (old ∷ states) (new ∷ others)
asked_on reply goes_on releaser old new states others answered taken asked [] stand = absurd stand
asked_on reply goes_on releaser old new states others answered taken asked (history ∷ histories) stand =
    let Stands : List Reply → Type 0 = λ rs. StandAll (new ∷ others) (with_takes releaser rs (history ∷ histories)) in
    subst (λ (own : Reply). Stands (up_to_given (own ∷ replies_of states histories))) (answered history stand.0)
    (subst Stands (sym (goes_on (replies_of states histories))) (taken_stands releaser old new reply history answered taken stand.0, asked histories stand.1))

pub empty_asked : (releaser : ℕ) (old new : State) (states others : List State) → IsAnswered old replies.Empty → IsTaken releaser old new → AreAsked releaser states others → AreAsked releaser (old ∷ states) (new ∷ others)
empty_asked = asked_on replies.Empty (λ more. refl)

pub over_asked : (releaser : ℕ) (old new : State) (states others : List State) → IsAnswered old replies.Over → IsTaken releaser old new → AreAsked releaser states others → AreAsked releaser (old ∷ states) (new ∷ others)
over_asked = asked_on replies.Over (λ more. refl)
