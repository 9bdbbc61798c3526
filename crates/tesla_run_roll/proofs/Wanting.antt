-- What is written where a take found no memory for a further epoch.
use Rattle.std.proofs.Common.{◌≡◌, ◌∙◌, ℕ, ◌+◌, ◌-◌, eqb, Bool, true, false, cond, not, List, [], ◌∷◌, ◌++◌, length, take, Option, Some, None, option_map, refl, sym, ap, subst, append_assoc, append-nil, arith}
use Rattle.std.specs.List.{list_all}
use Rattle.std.proofs.lemmas.Bool.{and_parts}
use Rattle.std.proofs.lemmas.Bool.Decides.{nat_tests}
use Rattle.tesla_base.specs.declared.release.Head.{Head}
use Rattle.tesla_capture.specs.Release.{marked_text}
use Rattle.tesla_fitting.specs.declared.config.Config.{Config}
use Rattle.tesla_receiver.specs.History.{Event, Arrives, Takes, Ends}
use Rattle.tesla_state.specs.declared.replies.Reply.{Reply}
use Rattle.tesla_state.specs.declared.replies.Reply.TheVariants as replies
use Rattle.tesla_rollover.specs.Epochs.{IsRollLegal, answers_in, next_of, payload_given, roll_entry_of}
use Rattle.tesla_rollover.specs.Events.{roll_after_events}
use Rattle.tesla_rollover.specs.History.{RollEntry, RollTaken, configs_in}
use Rattle.tesla_rollover.specs.Replies.{RollReply, Gives, IsEmpty, IsOver, had_memory, has_memory, is_over, reply_from, reply_in, reply_with, roll_shown}
use Rattle.tesla_rollover.specs.declared.answers.Next.{Next}
use Rattle.tesla_rollover.specs.declared.answers.Next.TheVariants.{NoMemory, Opened}
use Rattle.tesla_rollover.specs.declared.answers.RollTake.{RollTake}
use Rattle.tesla_rollover.specs.declared.answers.RollTake.TheVariants.{Given}
use Rattle.tesla_rollover.proofs.Legal.{entered_legal}
use Rattle.tesla_rollover.proofs.Memory.{memory_matters}
use Rattle.tesla_run_replay.specs.Playing.{WantsIn, events_text}
use Rattle.tesla_run_roll.specs.Played.{WantsMemory, roll_record_in, roll_records_of, roll_text_given, wants_memory}
use Rattle.tesla_run_roll.specs.Roll.{roll_rule}
use Rattle.tesla_run_roll.proofs.Events.{after_both}

-- ---- a take that found none

not_true : (b : Bool) → not b ≡ true → b ≡ false
not_true true is = absurd cc
not_true false is = refl

-- the answers of the epochs give the packet of that payload
gave_from : (first : ℕ) (answers : List Reply) (payload : List ℕ) → payload_given answers ≡ Some payload → (epoch : ℕ) × (head : Head) × ((next : Next) → reply_from first answers next ≡ Gives epoch head payload next)
gave_from first [] payload is = absurd cc
gave_from first (replies.Given head given ∷ answers) payload is =
    let same : given ≡ payload = cc in
    (first, head, λ next. ap (λ (p : List ℕ). Gives first head p next) same)
gave_from first (replies.Empty ∷ answers) payload is = gave_from (first + 1) answers payload is
gave_from first (replies.Over ∷ answers) payload is = gave_from (first + 1) answers payload is

-- told whether an event finds memory, its entry is that of a take which gave a packet, and only what that came to differs
record IsWantingTake (cfg : Config) (h : List RollEntry) (event : Event) : Type 0 where
  answers : List Reply
  epoch : ℕ
  head : Head
  payload : List ℕ
  takes : event ≡ Takes 0
  without : roll_entry_of cfg h false (Takes 0) ≡ RollTaken 0 answers (Some NoMemory)
  enough : roll_entry_of cfg h true (Takes 0) ≡ RollTaken 0 answers (Some Opened)
  gave : (next : Next) → reply_from 0 answers next ≡ Gives epoch head payload next

taken_wants : (taker : ℕ) (answers : List Reply) (given : Option (List ℕ)) (next : List ℕ → Next) → wants_memory (RollTaken taker answers (option_map next given)) ≡ true
    → (payload : List ℕ) × (given ≡ Some payload) × (taker ≡ 0) × (had_memory (next payload) ≡ false)
taken_wants taker answers None next wants = absurd cc
taken_wants taker answers (Some payload) next wants =
    let both = and_parts (eqb taker 0) (not (had_memory (next payload))) wants in
    let first : eqb taker 0 ≡ true = both.0 in
    (payload, refl, grind (arith, nat_tests, first), not_true (had_memory (next payload)) both.1)

wanting_take : (cfg : Config) (h : List RollEntry) (event : Event) → wants_memory (roll_entry_of cfg h false event) ≡ true → IsWantingTake cfg h event
wanting_take cfg h (Arrives ingest reading bytes) wants = absurd cc
wanting_take cfg h (Ends ingest) wants = absurd cc
wanting_take cfg h (Takes taker) wants =
    let answers : List Reply = answers_in cfg h in
    let next : Bool → List ℕ → Next = next_of (configs_in cfg h) (length answers - 1) in
    let it = taken_wants taker answers (payload_given answers) (next false) wants in
    let matters = memory_matters (configs_in cfg h) (length answers - 1) it.0 it.3 in
    let gave = gave_from 0 answers it.0 it.1 in
    record {
      answers = answers;
      epoch = gave.0;
      head = gave.1;
      payload = it.0;
      takes = ap (λ (n : ℕ). Takes n) it.2;
      without = ap (λ (given : Option (List ℕ)). RollTaken 0 answers (option_map (next false) given)) it.1 ∙ ap (λ (n : Next). RollTaken 0 answers (Some n)) matters.0;
      enough = ap (λ (given : Option (List ℕ)). RollTaken 0 answers (option_map (next true) given)) it.1 ∙ ap (λ (n : Next). RollTaken 0 answers (Some n)) matters.1;
      gave = gave.2;
    }

-- ---- the history up to it

after_more : (cfg : Config) (h : List RollEntry) (events : List Event) → (more : List RollEntry) × (roll_after_events cfg h events ≡ h ++ more)
after_more cfg h [] = ([], sym (append-nil h))
after_more cfg h (event ∷ events) =
    let entry : RollEntry = roll_entry_of cfg h true event in
    let it = after_more cfg (h ++ entry ∷ []) events in
    (entry ∷ it.0, it.1 ∙ append_assoc h (entry ∷ []) it.0)

after_legal : (cfg : Config) (h : List RollEntry) (events : List Event) → IsRollLegal cfg h → IsRollLegal cfg (roll_after_events cfg h events)
after_legal cfg h [] legal = legal
after_legal cfg h (event ∷ events) legal = after_legal cfg (h ++ roll_entry_of cfg h true event ∷ []) events (entered_legal cfg h true event legal)

-- what a rule says that is written where memory is wanting is what the history says, told that the texts of histories are their records
pub wanting_is : (cfg : Config) (events : List Event) (played : List RollEntry) (written piece : List ℕ) → roll_after_events cfg [] events ≡ played
    → ((some : List Event) → events_text (roll_rule cfg) some ≡ roll_records_of 0 (roll_after_events cfg [] some)) → ((h : List RollEntry) (e : RollEntry) → roll_records_of 0 (h ++ e ∷ []) ≡ roll_records_of 0 h ++ roll_record_in 0 e)
    → written ≡ piece → WantsIn (roll_rule cfg) [] events piece → WantsMemory cfg played written
wanting_is cfg events played written piece plays texts records_more whole it =
    let h : List RollEntry = roll_after_events cfg [] it.first in
    let take = wanting_take cfg h it.event it.wants in
    let entry : roll_entry_of cfg h true it.event ≡ RollTaken 0 take.answers (Some Opened) = ap (roll_entry_of cfg h true) take.takes ∙ take.enough in
    let up : (rest : List Event) → roll_after_events cfg [] (it.first ++ it.event ∷ rest) ≡ roll_after_events cfg (h ++ RollTaken 0 take.answers (Some Opened) ∷ []) rest = λ rest.
    after_both cfg [] it.first (it.event ∷ rest) ∙ ap (λ (e : RollEntry). roll_after_events cfg (h ++ e ∷ []) rest) entry in
    let more = after_more cfg (h ++ RollTaken 0 take.answers (Some Opened) ∷ []) it.rest in
    record {
      before = h;
      answers = take.answers;
      rest = more.0;
      opens = sym plays ∙ ap (roll_after_events cfg []) it.are ∙ up it.rest ∙ more.1 ∙ append_assoc h (RollTaken 0 take.answers (Some Opened) ∷ []) more.0;
      wanting = take.without;
      legal = subst (λ (e : RollEntry). IsRollLegal cfg (h ++ e ∷ [])) take.without (entered_legal cfg h false (Takes 0) (after_legal cfg [] it.first tt));
      epoch = take.epoch;
      head = take.head;
      payload = take.payload;
      gave = take.gave NoMemory;
      text = whole ∙ it.text ∙ texts (it.first ++ it.event ∷ []) ∙ ap (roll_records_of 0) (up [])
          ∙ records_more h (RollTaken 0 take.answers (Some Opened)) ∙ ap (λ (r : RollReply). roll_records_of 0 h ++ roll_text_given r) (take.gave Opened);
    }

-- ---- the answer of a take that found none

from_gives : (first : ℕ) (answers : List Reply) (next : Next) (epoch : ℕ) (head : Head) (payload : List ℕ) (other : Next) → reply_from first answers next ≡ Gives epoch head payload other → next ≡ other
from_gives first [] next epoch head payload other is = absurd cc
from_gives first (replies.Given own given ∷ answers) next epoch head payload other is = cc
from_gives first (replies.Empty ∷ answers) next epoch head payload other is = from_gives (first + 1) answers next epoch head payload other is
from_gives first (replies.Over ∷ answers) next epoch head payload other is = from_gives (first + 1) answers next epoch head payload other is

with_gives : (answers : List Reply) (next : Option Next) (epoch : ℕ) (head : Head) (payload : List ℕ) (other : Next) → reply_with answers next ≡ Gives epoch head payload other → next ≡ Some other
with_gives answers None epoch head payload other is = none (list_all is_over answers) is
  where
    none : (over : Bool) → cond over IsOver IsEmpty ≡ Gives epoch head payload other → None ≡ Some other
    none true is = absurd cc
    none false is = absurd cc
with_gives answers (Some next) epoch head payload other is = ap (λ (n : Next). Some n) (from_gives 0 answers next epoch head payload other is)

-- memory was wanting at the event, where the answers tell so
take_wants : (cfg : Config) (h : List RollEntry) (event : Event) (epoch : ℕ) (head : Head) (payload : List ℕ) → event ≡ Takes 0 → Gives epoch head payload NoMemory ≡ reply_in (roll_entry_of cfg h false (Takes 0)) → wants_memory (roll_entry_of cfg h false event) ≡ true
take_wants cfg h event epoch head payload is answer =
    let answers : List Reply = answers_in cfg h in
    let next : Option Next = option_map (next_of (configs_in cfg h) (length answers - 1) false) (payload_given answers) in
    ap (λ (e : Event). wants_memory (roll_entry_of cfg h false e)) is
    ∙ ap (λ (n : Option Next). wants_memory (RollTaken 0 answers n)) (with_gives answers next epoch head payload NoMemory (sym answer))

pub take_answered : (cfg : Config) (h : List RollEntry) (event : Event) → event ≡ Takes 0 → (answer : RollTake) (into : List ℕ) (epoch : ℕ) (head : Head) (next : Next) → answer ≡ Given epoch head next → next ≡ NoMemory
    → roll_shown answer into ≡ reply_in (roll_entry_of cfg h (has_memory answer) (Takes 0)) → wants_memory (roll_entry_of cfg h false event) ≡ true
take_answered cfg h event takes answer into epoch head next is none answered =
    let given : answer ≡ Given epoch head NoMemory = is ∙ ap (λ (n : Next). Given epoch head n) none in
    take_wants cfg h event epoch head (take head.length into) takes (subst (λ (a : RollTake). roll_shown a into ≡ reply_in (roll_entry_of cfg h (has_memory a) (Takes 0))) given answered)
