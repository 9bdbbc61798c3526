-- What the answers of the epochs come to.
use Rattle.std.proofs.Common.{◌≡◌, ℕ, suc, ◌+◌, ◌≤◌, Bool, true, false, cond, List, [], ◌∷◌, length, Option, Some, None, Result, Ok, Err, refl, sym, ap, ◌∙◌, ◌⊎◌, inl, inr, ⊎_elim, arith}
use Rattle.std.specs.Prelude.{flat_map, ◌==◌, not, ◌-◌}
use Rattle.std.specs.List.{list_all}
use Rattle.std.proofs.lemmas.List.{append-nil}
use Rattle.tesla_base.specs.declared.release.Head.{Head}
use Rattle.tesla_commit.specs.Parsing.{judged}
use Rattle.tesla_commit.specs.Parts.{Parts}
use Rattle.tesla_commit.specs.declared.refusal.SetupKind.{SetupKind}
use Rattle.tesla_fitting.specs.declared.config.Config.{Config}
use Rattle.tesla_state.specs.declared.replies.Reply.{Reply}
use Rattle.tesla_state.specs.declared.replies.Reply.TheVariants.{Given, Empty, Over}
use Rattle.tesla_rollover.specs.Epochs.{up_to_given, payload_given, next_judged, next_spelled, next_of, most_epochs}
use Rattle.tesla_rollover.specs.Handover.{handover_text, setup_in, setup_judged, setup_spelled}
use Rattle.tesla_rollover.specs.History.{setup_given}
use Rattle.tesla_rollover.specs.Kept as kept
use Rattle.tesla_rollover.specs.Kept.{AskedReply, asked_from, not_over}
use Rattle.tesla_rollover.specs.Replies.{Gives, is_over, reply_from}
use Rattle.tesla_rollover.specs.declared.answers.Next.{Next}
use Rattle.tesla_rollover.specs.declared.answers.Next.TheVariants as nexts

-- ---- a packet that was given

not_over_gives : (x : AskedReply) (epoch : ℕ) (head : Head) (payload : List ℕ) → not_over x ≡ kept.Gives epoch head payload → x ≡ kept.Gives epoch head payload
not_over_gives (kept.Gives e h p) epoch head payload is = is
not_over_gives kept.IsEmpty epoch head payload is = absurd cc
not_over_gives kept.IsOver epoch head payload is = absurd cc

-- the last answer gave a packet, and its number is the epoch
pub record GaveAt (first : ℕ) (answers : List Reply) (epoch : ℕ) (head : Head) (payload : List ℕ) : Type 0 where
  pub payload_is : payload_given answers ≡ Some payload
  pub number : epoch + 1 ≡ first + length answers
  pub reply : (next : Next) → reply_from first answers next ≡ Gives epoch head payload next

pub gave_at : (first : ℕ) (replies : List Reply) (epoch : ℕ) (head : Head) (payload : List ℕ) → asked_from first (up_to_given replies) ≡ kept.Gives epoch head payload → GaveAt first (up_to_given replies) epoch head payload
gave_at first [] epoch head payload is = absurd cc
gave_at first (Given h p ∷ replies) epoch head payload is =
    let e : first ≡ epoch = cc in
    let eh : h ≡ head = cc in
    let ep : p ≡ payload = cc in
    record {
      payload_is = ap (λ (q : List ℕ). Some q) ep;
      number = ap (λ (k : ℕ). k + 1) (sym e);
      reply = λ next. ap (λ (k : ℕ). Gives k h p next) e ∙ ap (λ (x : Head). Gives epoch x p next) eh ∙ ap (λ (q : List ℕ). Gives epoch head q next) ep;
    }
gave_at first (Empty ∷ replies) epoch head payload is =
    let it = gave_at (first + 1) replies epoch head payload (not_over_gives (asked_from (first + 1) (up_to_given replies)) epoch head payload is) in
    let number = it.number in
    record { payload_is = it.payload_is; number = omega (arith, number); reply = it.reply }
gave_at first (Over ∷ replies) epoch head payload is =
    let it = gave_at (first + 1) replies epoch head payload is in
    let number = it.number in
    record { payload_is = it.payload_is; number = omega (arith, number); reply = it.reply }

-- ---- no packet was given

-- no answer gave a packet, and all are over or not
pub record GaveNone (answers : List Reply) (over : Bool) : Type 0 where
  pub payload_is : payload_given answers ≡ None
  pub all : list_all is_over answers ≡ over

not_over_empty : (x : AskedReply) → not_over x ≡ kept.IsEmpty → (x ≡ kept.IsEmpty) ⊎ (x ≡ kept.IsOver)
not_over_empty (kept.Gives e h p) is = absurd cc
not_over_empty kept.IsEmpty is = inl refl
not_over_empty kept.IsOver is = inr refl

not_over_never : (x : AskedReply) → not_over x ≡ kept.IsOver → ⊥
not_over_never (kept.Gives e h p) is = absurd cc
not_over_never kept.IsEmpty is = absurd cc
not_over_never kept.IsOver is = absurd cc

pub over_all : (first : ℕ) (replies : List Reply) → asked_from first (up_to_given replies) ≡ kept.IsOver → GaveNone (up_to_given replies) true
over_all first [] is = record { payload_is = refl; all = refl }
over_all first (Given h p ∷ replies) is = absurd cc
over_all first (Empty ∷ replies) is = absurd (not_over_never (asked_from (first + 1) (up_to_given replies)) is)
over_all first (Over ∷ replies) is = let it = over_all (first + 1) replies is in record { payload_is = it.payload_is; all = it.all }

pub empty_some : (first : ℕ) (replies : List Reply) → asked_from first (up_to_given replies) ≡ kept.IsEmpty → GaveNone (up_to_given replies) false
empty_some first [] is = absurd cc
empty_some first (Given h p ∷ replies) is = absurd cc
empty_some first (Empty ∷ replies) is =
    ⊎_elim
    (λ e. record { payload_is = (empty_some (first + 1) replies e).payload_is; all = refl })
    (λ e. record { payload_is = (over_all (first + 1) replies e).payload_is; all = refl })
    (not_over_empty (asked_from (first + 1) (up_to_given replies)) is)
empty_some first (Over ∷ replies) is = let it = empty_some (first + 1) replies is in record { payload_is = it.payload_is; all = it.all }

-- ---- how many are asked

pub asked_few : (replies : List Reply) → length (up_to_given replies) ≤ length replies
asked_few [] = omega arith
asked_few (Given h p ∷ replies) = omega arith
asked_few (Empty ∷ replies) = let few = asked_few replies in omega arith
asked_few (Over ∷ replies) = let few = asked_few replies in omega arith

-- ---- a handover

abbrev pub setups_with : Option (List ℕ) → List Parts
setups_with None = []
setups_with (Some payload) = setup_in payload

-- the answers hand over to what the packet does that was given
pub setups_of_given : (replies : List Reply) → flat_map setup_given (up_to_given replies) ≡ setups_with (payload_given (up_to_given replies))
setups_of_given [] = refl
setups_of_given (Given h p ∷ replies) = append-nil (setup_in p)
setups_of_given (Empty ∷ replies) = setups_of_given replies
setups_of_given (Over ∷ replies) = setups_of_given replies

judged_from : (old spent : Bool) (newest : ℕ) (spelled : Next) → cond old (nexts.Old newest) (cond spent nexts.EpochsSpent spelled) ≡ nexts.Opened → (spent ≡ false) × (spelled ≡ nexts.Opened)
judged_from true spent newest spelled is = absurd cc
judged_from false true newest spelled is = absurd cc
judged_from false false newest spelled is = (refl, is)

opened_setup : (configs : List Config) (enough : Bool) (r : Result Parts (ℕ × SetupKind)) → next_judged configs enough r ≡ nexts.Opened → (setup : Parts) × (setup_judged r ≡ setup ∷ [])
opened_setup configs enough (Err refused) is = absurd cc
opened_setup configs enough (Ok setup) is = (setup, refl)

spelled_setup : (configs : List Config) (epoch : ℕ) (enough : Bool) (text : Option (List ℕ)) → next_spelled configs epoch enough text ≡ nexts.Opened → (setup : Parts) × (setup_spelled text ≡ setup ∷ [])
spelled_setup configs epoch enough None is = absurd cc
spelled_setup configs epoch enough (Some text) is =
    opened_setup configs enough (judged text) (judged_from (not (suc epoch == length configs)) (length configs == most_epochs) (length configs - 1) (next_judged configs enough (judged text)) is).1

-- a payload that opens an epoch spells its setup
pub opens_setup : (configs : List Config) (epoch : ℕ) (enough : Bool) (payload : List ℕ) → next_of configs epoch enough payload ≡ nexts.Opened → (setup : Parts) × (setup_in payload ≡ setup ∷ [])
opens_setup configs epoch enough payload is = spelled_setup configs epoch enough (handover_text payload) is

spelled_room : (configs : List Config) (epoch : ℕ) (enough : Bool) (text : Option (List ℕ)) → next_spelled configs epoch enough text ≡ nexts.Opened → (length configs == most_epochs) ≡ false
spelled_room configs epoch enough None is = absurd cc
spelled_room configs epoch enough (Some text) is = (judged_from (not (suc epoch == length configs)) (length configs == most_epochs) (length configs - 1) (next_judged configs enough (judged text)) is).0

-- a payload opens an epoch only where not all are open that may be
pub opens_room : (configs : List Config) (epoch : ℕ) (enough : Bool) (payload : List ℕ) → next_of configs epoch enough payload ≡ nexts.Opened → (length configs == most_epochs) ≡ false
opens_room configs epoch enough payload is = spelled_room configs epoch enough (handover_text payload) is
