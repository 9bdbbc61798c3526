-- A take, told what the epochs came to that were asked, and what was done with the packet's payload.
use Rattle.std.proofs.Common.{◌≡◌, ◌≢◌, ℕ, ◌+◌, ◌-◌, ◌<◌, ◌≤◌, ◌^◌, Bool, true, false, cond, ◌==◌, List, [], ◌∷◌, ◌++◌, length, map, Option, Some, None, refl, sym, ap, subst, ◌∙◌, ◌⊎◌, inl, inr, ⊎_elim, arith}
use Rattle.std.specs.Prelude.{flat_map, option_map}
use Rattle.std.specs.List.{AllByRecursion, range_with_len}
use Rattle.std.proofs.Math.Bool.{or-false}
use Rattle.std.proofs.lemmas.Bool.Decides.{nat_tests}
use Rattle.std.proofs.lemmas.List.{length-map, map_push}
use Rattle.tesla_base.proofs.Filtered.{filter_same}
use Rattle.tesla_base.specs.declared.release.Head.{Head}
use Rattle.tesla_fitting.specs.declared.config.Config.{Config}
use Rattle.tesla_receiver.specs.History.{Takes, has_end}
use Rattle.tesla_receiver.specs.Stands.{Stands}
use Rattle.tesla_receiver.specs.Entries.{Entry}
use Rattle.tesla_receiver.specs.declared.history.Entry.TheVariants.{Taken, Ended}
use Rattle.tesla_receiver.proofs.Standing.{has_end_more}
use Rattle.tesla_state.specs.State.{State}
use Rattle.tesla_state.specs.declared.replies.Reply.{Reply}
use Rattle.tesla_rollover.specs.Epochs.{answers_in, most_epochs, next_of, payload_given, reply_at, roll_entry_of, up_to_given}
use Rattle.tesla_rollover.specs.History.{RollEntry, RollTaken, configs_in, ends_before, epoch_count, history_at, opens, roll_gives, setup_given}
use Rattle.tesla_rollover.specs.Kept as kept
use Rattle.tesla_rollover.specs.Kept.{AskedReply, HandsOver, IsCalled, IsRollKept, OpensEpoch, asked_from, configs_of, ends_in, receiver_of, receivers_of, replies_of, rooms_of, with_takes}
use Rattle.tesla_rollover.specs.Replies.{Gives, IsEmpty, IsOver, TakesRoom, had_memory, reply_with}
use Rattle.tesla_rollover.specs.Stands.{RollState, RollStands, StandAll, config_in, histories_in, room_of}
use Rattle.tesla_rollover.specs.declared.answers.Next.{Next}
use Rattle.tesla_rollover.specs.declared.answers.Next.TheVariants as nexts
use Rattle.tesla_rollover.specs.declared.epoch.Epoch.{Epoch}
use Rattle.tesla_rollover.proofs.Answered.{GaveAt, GaveNone, empty_some, gave_at, opens_room, over_all, setups_of_given, setups_with}
use Rattle.tesla_rollover.proofs.Called.{kept_called, kept_opened}
use Rattle.tesla_rollover.proofs.Entries.{ends_first_are}
use Rattle.tesla_rollover.proofs.InStep.{replies_are}
use Rattle.tesla_rollover.proofs.Moved.{roll_taken, roll_taken_open}

-- an epoch was opened, or none was
pub opened_or : (next : Next) → (next ≡ nexts.Opened) ⊎ (next ≢ nexts.Opened)
opened_or nexts.Plain = inr (λ e. absurd cc)
opened_or (nexts.Old newest) = inr (λ e. absurd cc)
opened_or nexts.EpochsSpent = inr (λ e. absurd cc)
opened_or (nexts.BadSetup line kind) = inr (λ e. absurd cc)
opened_or (nexts.UsedStream stream) = inr (λ e. absurd cc)
opened_or nexts.NoMemory = inr (λ e. absurd cc)
opened_or nexts.Opened = inl refl

opens_not : (next : Next) → next ≢ nexts.Opened → opens (Some next) ≡ false
opens_not nexts.Plain other = refl
opens_not (nexts.Old newest) other = refl
opens_not nexts.EpochsSpent other = refl
opens_not (nexts.BadSetup line kind) other = refl
opens_not (nexts.UsedStream stream) other = refl
opens_not nexts.NoMemory other = refl
opens_not nexts.Opened other = absurd (other refl)

-- ---- the first epoch, whose ends a further one begins with

-- the first of some receivers after a take, and a history with the ends of the first history
pub record FirstOf (states : List State) (history : List Entry) : Type 0 where
  pub first : State
  pub rest : List State
  pub are : states ≡ first ∷ rest
  pub now : List Entry
  pub stands : Stands first now
  pub ends : (ingest : ℕ) → has_end now ingest ≡ has_end history ingest

first_of : (states : List State) (releaser : ℕ) (answers : List Reply) (history : List Entry) (histories : List (List Entry)) → StandAll states (with_takes releaser answers (history ∷ histories)) → FirstOf states history
first_of [] releaser [] history histories all = absurd all
first_of [] releaser (reply ∷ answers) history histories all = absurd all
first_of (s ∷ states) releaser [] history histories all = record { first = s; rest = states; are = refl; now = history; stands = all.0; ends = λ ingest. refl }
first_of (s ∷ states) releaser (reply ∷ answers) history histories all = record {
  first = s;
  rest = states;
  are = refl;
  now = history ++ Taken releaser reply ∷ [];
  stands = all.0;
  ends = λ ingest. has_end_more history (Taken releaser reply) ingest ∙ or-false (has_end history ingest);
}

ends_same : (ingests : ℕ) (xs ys : List Entry) → ((ingest : ℕ) → has_end xs ingest ≡ has_end ys ingest) → ends_in ingests xs ≡ ends_in ingests ys
ends_same ingests xs ys same = ap (λ (ks : List ℕ). map (λ (ingest : ℕ). Ended ingest) ks) (filter_same (has_end xs) (has_end ys) (range_with_len 0 ingests) same)

-- ---- the epochs that were asked

-- what epochs came to that were asked, with their receivers before and afterwards
pub record Asks (old : RollState) (h : List RollEntry) (releaser : ℕ) (reply : AskedReply) (after : List Epoch) : Type 0 where
  pub replied : asked_from 0 (up_to_given (replies_of old.receivers (histories_in old.config.ingests h))) ≡ reply
  pub configs : configs_of after ≡ map config_in old.receivers
  pub stand : StandAll (receivers_of after) (with_takes releaser (up_to_given (replies_of old.receivers (histories_in old.config.ingests h))) (histories_in old.config.ingests h))

pub asks : (old : RollState) (h : List RollEntry) (releaser : ℕ) (shown reply : AskedReply) (items now after : List Epoch) → RollStands old h → receivers_of items ≡ old.receivers → now ≡ items → shown ≡ reply
    → ((hs : List (List Entry)) → StandAll (receivers_of now) hs → shown ≡ asked_from 0 (up_to_given (replies_of (receivers_of now) hs)))
    → ((hs : List (List Entry)) → StandAll (receivers_of now) hs → StandAll (receivers_of after) (with_takes releaser (up_to_given (replies_of (receivers_of now) hs)) hs))
    → configs_of after ≡ configs_of now → Asks old h releaser reply after
asks old h releaser shown reply items now after st same was is answer stand configs =
    let hs : List (List Entry) = histories_in old.config.ingests h in
    let receivers : receivers_of now ≡ old.receivers = ap receivers_of was ∙ same in
    let before : StandAll (receivers_of now) hs = subst (λ (ss : List State). StandAll ss hs) (sym receivers) st.receivers in
    record {
      replied = ap (λ (ss : List State). asked_from 0 (up_to_given (replies_of ss hs))) (sym receivers) ∙ sym (answer hs before) ∙ is;
      configs = configs ∙ ap (λ (ss : List State). map config_in ss) receivers;
      stand = subst (λ (ss : List State). StandAll (receivers_of after) (with_takes releaser (up_to_given (replies_of ss hs)) hs)) receivers (stand hs before);
    }

-- ---- a take that gave a packet

-- an epoch gave a packet, and this was done with its payload
pub record TakesGiven (old : RollState) (h : List RollEntry) (releaser epoch : ℕ) (head : Head) (payload : List ℕ) (next : Next) (after new : List Epoch) : Type 0 where
  pub asked : Asks old h releaser (kept.Gives epoch head payload) after
  pub hands : (first : State) (rest : List State) → receivers_of after ≡ first ∷ rest → HandsOver old.config first epoch payload after new next

module _ (old : RollState) (h : List RollEntry) (releaser epoch : ℕ) (head : Head) (payload : List ℕ) (next : Next) (after new : List Epoch) (st : RollStands old h) (at : TakesGiven old h releaser epoch head payload next after new) where
  abbrev configs : List Config
  configs = configs_in old.config h

  abbrev answers : List Reply
  answers = answers_in old.config h

  replies_same : replies_of old.receivers (histories_in old.config.ingests h) ≡ map (reply_at old.config h) (range_with_len 0 (epoch_count h))
  replies_same = replies_are old.config h old.receivers st.configs

  gave_last : GaveAt 0 answers epoch head payload
  gave_last = gave_at 0 (map (reply_at old.config h) (range_with_len 0 (epoch_count h))) epoch head payload (ap (λ (rs : List Reply). asked_from 0 (up_to_given rs)) (sym replies_same) ∙ at.asked.replied)

  stand_now : StandAll (receivers_of after) (with_takes releaser answers (histories_in old.config.ingests h))
  stand_now = subst (λ (rs : List Reply). StandAll (receivers_of after) (with_takes releaser (up_to_given rs) (histories_in old.config.ingests h))) replies_same at.asked.stand

  first_now : FirstOf (receivers_of after) (history_at old.config.ingests h 0)
  first_now = first_of (receivers_of after) releaser answers _ _ stand_now

  handed : HandsOver old.config first_now.first epoch payload after new next
  handed = at.hands first_now.first first_now.rest first_now.are

  next_same : option_map (next_of configs (length answers - 1) (had_memory next)) (payload_given answers) ≡ Some next
  next_same =
      let number = gave_last.number in
      let last : length answers - 1 ≡ epoch = omega (arith, number) in
      ap (λ (o : Option (List ℕ)). option_map (next_of configs (length answers - 1) (had_memory next)) o) gave_last.payload_is
      ∙ ap (λ (k : ℕ). Some (next_of configs k (had_memory next) payload)) last
      ∙ ap (λ (cs : List Config). Some (next_of cs epoch (had_memory next) payload)) (sym (at.asked.configs ∙ st.configs))
      ∙ ap (λ (n : Next). Some n) (sym handed.next_is)

  -- the packet is the answer
  pub given_answer : Gives epoch head payload next ≡ reply_with answers (option_map (next_of configs (length answers - 1) (had_memory next)) (payload_given answers))
  given_answer = sym (ap (λ (o : Option Next). reply_with answers o) next_same ∙ gave_last.reply next)

  counts : old.given + 1 ≡ old.given + cond (roll_gives (RollTaken releaser answers (option_map (next_of configs (length answers - 1) (had_memory next)) (payload_given answers)))) 1 0
  counts = sym (ap (λ (o : Option Next). old.given + cond (roll_gives (RollTaken releaser answers o)) 1 0) next_same)

  pub given_stands : RollStands (record { config = old.config; receivers = receivers_of new; given = old.given + 1; calls = old.calls + 1 }) (h ++ roll_entry_of old.config h (had_memory next) (Takes releaser) ∷ [])
  given_stands =
      ⊎_elim
      (λ (is : next ≡ nexts.Opened).
      let it = handed.opened is in
      let opens_epoch : OpensEpoch old.config first_now.first it.0 it.1 = it.4 in
      let own : Stands it.1.receiver (ends_before old.config.ingests h) =
      subst (λ (xs : List Entry). Stands it.1.receiver xs) (ends_same old.config.ingests first_now.now (history_at old.config.ingests h 0) first_now.ends ∙ ends_first_are old.config.ingests h) (opens_epoch.stands first_now.now first_now.stands) in
      let setups : flat_map setup_given answers ≡ it.0 ∷ [] =
      setups_of_given (map (reply_at old.config h) (range_with_len 0 (epoch_count h))) ∙ ap (λ (o : Option (List ℕ)). setups_with o) gave_last.payload_is ∙ it.2 in
      let opened_is : opens (option_map (next_of configs (length answers - 1) (had_memory next)) (payload_given answers)) ≡ true = ap opens (next_same ∙ ap (λ (n : Next). Some n) is) in
      subst (λ (ss : List State). RollStands (record { config = old.config; receivers = ss; given = old.given + 1; calls = old.calls + 1 }) (h ++ roll_entry_of old.config h (had_memory next) (Takes releaser) ∷ []))
      (sym (ap receivers_of it.3 ∙ map_push receiver_of after it.1))
      (roll_taken_open old h (had_memory next) releaser (old.given + 1) (receivers_of after) it.0 it.1.receiver st opened_is setups counts at.asked.configs stand_now opens_epoch.config own))
      (λ (other : next ≢ nexts.Opened).
      let closed : opens (option_map (next_of configs (length answers - 1) (had_memory next)) (payload_given answers)) ≡ false = ap opens next_same ∙ opens_not next other in
      subst (λ (ss : List State). RollStands (record { config = old.config; receivers = ss; given = old.given + 1; calls = old.calls + 1 }) (h ++ roll_entry_of old.config h (had_memory next) (Takes releaser) ∷ []))
      (sym (ap receivers_of (handed.kept other)))
      (roll_taken old h (had_memory next) releaser (old.given + 1) (receivers_of after) st closed counts at.asked.configs stand_now))
      (opened_or next)

-- a payload took room for the receiver of the epoch that it opened, and else none
pub rooms_handed : (cfg : Config) (first : State) (number : ℕ) (payload : List ℕ) (after new : List Epoch) (next : Next) → HandsOver cfg first number payload after new next → TakesRoom next (rooms_of after) (rooms_of new)
rooms_handed cfg first number payload after new nexts.Plain handed = ap rooms_of (handed.kept (λ e. absurd cc))
rooms_handed cfg first number payload after new (nexts.Old newest) handed = ap rooms_of (handed.kept (λ e. absurd cc))
rooms_handed cfg first number payload after new nexts.EpochsSpent handed = ap rooms_of (handed.kept (λ e. absurd cc))
rooms_handed cfg first number payload after new (nexts.BadSetup line kind) handed = ap rooms_of (handed.kept (λ e. absurd cc))
rooms_handed cfg first number payload after new (nexts.UsedStream stream) handed = ap rooms_of (handed.kept (λ e. absurd cc))
rooms_handed cfg first number payload after new nexts.NoMemory handed = ap rooms_of (handed.kept (λ e. absurd cc))
rooms_handed cfg first number payload after new nexts.Opened handed =
    let it = handed.opened refl in
    (room_of it.1.receiver, ap rooms_of it.3 ∙ ap (map room_of) (map_push receiver_of after it.1) ∙ map_push room_of (receivers_of after) it.1.receiver)

-- ---- a take that gave none

none_by : (old : RollState) (h : List RollEntry) (reply : AskedReply) → RollStands old h → asked_from 0 (up_to_given (replies_of old.receivers (histories_in old.config.ingests h))) ≡ reply → asked_from 0 (answers_in old.config h) ≡ reply
none_by old h reply st none = ap (λ (rs : List Reply). asked_from 0 (up_to_given rs)) (sym (replies_are old.config h old.receivers st.configs)) ∙ none

none_stands : (old : RollState) (h : List RollEntry) (releaser : ℕ) (reply : AskedReply) (over : Bool) (after : List Epoch) → RollStands old h → Asks old h releaser reply after → GaveNone (answers_in old.config h) over
    → RollStands (record { config = old.config; receivers = receivers_of after; given = old.given; calls = old.calls + 1 }) (h ++ roll_entry_of old.config h true (Takes releaser) ∷ [])
none_stands old h releaser reply over after st at gave =
    let configs : List Config = configs_in old.config h in
    let answers : List Reply = answers_in old.config h in
    let nothing : option_map (next_of configs (length answers - 1) true) (payload_given answers) ≡ None = ap (λ (o : Option (List ℕ)). option_map (next_of configs (length answers - 1) true) o) gave.payload_is in
    roll_taken old h true releaser old.given (receivers_of after) st (ap opens nothing) (sym (ap (λ (o : Option Next). old.given + cond (roll_gives (RollTaken releaser answers o)) 1 0) nothing ∙ omega arith)) at.configs
    (subst (λ (rs : List Reply). StandAll (receivers_of after) (with_takes releaser (up_to_given rs) (histories_in old.config.ingests h))) (replies_are old.config h old.receivers st.configs) at.stand)

module _ (old : RollState) (h : List RollEntry) (releaser : ℕ) (after : List Epoch) (st : RollStands old h) where
  abbrev replies : List Reply
  replies = map (reply_at old.config h) (range_with_len 0 (epoch_count h))

  none_answer : (over : Bool) → GaveNone (answers_in old.config h) over → reply_with (answers_in old.config h) (option_map (next_of (configs_in old.config h) (length (answers_in old.config h) - 1) true) (payload_given (answers_in old.config h))) ≡ (cond over IsOver IsEmpty)
  none_answer over gave =
      ap (λ (o : Option (List ℕ)). reply_with (answers_in old.config h) (option_map (next_of (configs_in old.config h) (length (answers_in old.config h) - 1) true) o)) gave.payload_is
      ∙ ap (λ (b : Bool). cond b IsOver IsEmpty) gave.all

  pub empty_answer : Asks old h releaser kept.IsEmpty after → IsEmpty ≡ reply_with (answers_in old.config h) (option_map (next_of (configs_in old.config h) (length (answers_in old.config h) - 1) true) (payload_given (answers_in old.config h)))
  empty_answer at = sym (none_answer false (empty_some 0 replies (none_by old h kept.IsEmpty st at.replied)))

  pub empty_stands : Asks old h releaser kept.IsEmpty after → RollStands (record { config = old.config; receivers = receivers_of after; given = old.given; calls = old.calls + 1 }) (h ++ roll_entry_of old.config h true (Takes releaser) ∷ [])
  empty_stands at = none_stands old h releaser kept.IsEmpty false after st at (empty_some 0 replies (none_by old h kept.IsEmpty st at.replied))

  pub over_answer : Asks old h releaser kept.IsOver after → IsOver ≡ reply_with (answers_in old.config h) (option_map (next_of (configs_in old.config h) (length (answers_in old.config h) - 1) true) (payload_given (answers_in old.config h)))
  over_answer at = sym (none_answer true (over_all 0 replies (none_by old h kept.IsOver st at.replied)))

  pub over_stands : Asks old h releaser kept.IsOver after → RollStands (record { config = old.config; receivers = receivers_of after; given = old.given; calls = old.calls + 1 }) (h ++ roll_entry_of old.config h true (Takes releaser) ∷ [])
  over_stands at = none_stands old h releaser kept.IsOver true after st at (over_all 0 replies (none_by old h kept.IsOver st at.replied))

-- ---- what is kept

-- after what was done with a payload, the epochs are within the limits
pub kept_handed : (cfg : Config) (first : State) (number : ℕ) (payload : List ℕ) (after new : List Epoch) (next : Next) (room given calls : ℕ) → IsRollKept cfg after room given calls → HandsOver cfg first number payload after new next → IsRollKept cfg new room given calls
kept_handed cfg first number payload after new next room given calls before handed =
    ⊎_elim
    (λ (is : next ≡ nexts.Opened).
    let it = handed.opened is in
    let long : length (configs_of after) ≡ length after = length-map (receivers_of after) config_in ∙ length-map after receiver_of in
    let some_left : (length (configs_of after) == most_epochs) ≡ false = opens_room (configs_of after) number (had_memory next) payload (sym handed.next_is ∙ is) in
    let most = before.most in
    let fewer : length after < 16 = grind (arith, nat_tests, long, some_left, most) in
    subst (λ (es : List Epoch). IsRollKept cfg es room given calls) (sym it.3) (kept_opened cfg after first it.0 it.1 room given calls before fewer it.4))
    (λ (other : next ≢ nexts.Opened). subst (λ (es : List Epoch). IsRollKept cfg es room given calls) (sym (handed.kept other)) before)
    (opened_or next)

-- after the epochs were asked, they are within the limits
pub kept_asked : (cfg : Config) (items now after : List Epoch) (room given calls more : ℕ) → IsRollKept cfg items room given calls → calls < 2 ^ 56 → more ≤ given + 1 → now ≡ items → configs_of after ≡ configs_of now
    → ((most : ℕ) → AllByRecursion (IsCalled most) now → AllByRecursion (IsCalled (most + 1)) after) → IsRollKept cfg after room more (calls + 1)
kept_asked cfg items now after room given calls more before few given_more was same called =
    kept_called cfg items after room given calls more before few given_more (same ∙ ap configs_of was) (called (calls + 256) (subst (λ (es : List Epoch). AllByRecursion (IsCalled (calls + 256)) es) (sym was) before.called))
