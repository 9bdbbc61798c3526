-- Logs of accepted calls, and the frames that are written.
use Rattle.std.proofs.Common.{◌≡◌, ℕ, zero, suc, ◌+◌, ◌<◌, ◌≤◌, Bool, true, false, cond, List, [], ◌∷◌, ◌++◌, length, take, drop, refl, sym, ◌∙◌, ap, subst, inl, inr, append_assoc, arith}
use Rattle.std.specs.Prelude.{Result, Ok, Err, IsOk, IfOk, OnErr, nat_lt, eqb, if◌then◌else◌}
use Rattle.std.proofs.lemmas.Bool.{cases_lt, ltb-false, ltb-true, lt-ltb, ne_eqb, eq-eqb}
use Rattle.std.proofs.Math.Seq.{take-append_seam}
use Rattle.std.proofs.lemmas.List.{append-nil}
use Rattle.std.proofs.lemmas.List.Sums.{fold-append, sum_by-append}
use Rattle.tesla_base.specs.declared.names.Name.{Name}
use Rattle.tesla_clock.specs.Schedule.{Times}
use Rattle.tesla_frame.specs.Frame.{Frame, frame_text}
use Rattle.tesla_sender.specs.declared.refusal.DiscloseRefusal.{DiscloseRefusal}
use Rattle.tesla_sender.specs.declared.refusal.SendRefusal.{SendRefusal}
use Rattle.tesla_sender.specs.Made.{Call, Message, Disclose, Stream, any_due, chains_of, disclosed, disclosed_after, framed, interval_at, interval_in, is_message_of, latest_of, made_disclosure, made_message, messages_of, name_after, name_of}
use Rattle.tesla_sender.specs.Stands.{Answers, AreAcceptedAfter, IsAccepted, IsWritten, Spells, Stands, State, gone_on, log_after, number_at, sent_in, returned_disclosure, returned_message}

-- ---- what an accepted call tells

abbrev ok_name : Name → Result Name SendRefusal
ok_name name = Ok name

-- the one way to a name
chosen : (a b c d e : Bool) (r s t u v : SendRefusal) (made name : Name) → (if a then Err r else if b then Err s else if c then Err t else if d then Err u else if e then Ok made else Err v) ≡ ok_name name → (a ≡ false) × (b ≡ false) × (c ≡ false) × (d ≡ false) × (e ≡ true) × (made ≡ name)
chosen true b c d e r s t u v made name is = absurd cc
chosen false true c d e r s t u v made name is = absurd cc
chosen false false true d e r s t u v made name is = absurd cc
chosen false false false true e r s t u v made name is = absurd cc
chosen false false false false true r s t u v made name is = (refl, refl, refl, refl, refl, cc)
chosen false false false false false r s t u v made name is = absurd cc

some_from : (n : ℕ) → eqb n 0 ≡ false → 1 ≤ n
some_from zero e = absurd cc
some_from (suc n) e = omega arith

pub record IsNamed (times : Times) (before number reading : ℕ) (payload : List ℕ) (name : Name) : Type 0 where
  pub short : length payload ≤ 1200
  pub some : 1 ≤ interval_at times reading
  pub within : interval_at times reading ≤ times.last
  pub later : before ≤ interval_at times reading
  pub few : number < 65536
  pub is : record { interval = interval_at times reading; number = number } ≡ name

-- what is true of a message that has a name
pub named : (times : Times) (before number reading : ℕ) (payload : List ℕ) (name : Name) → name_after times before number reading payload ≡ Ok name → IsNamed times before number reading payload name
named times before number reading payload name is =
    let ways = chosen _ _ _ _ _ _ _ _ _ _ (record { interval = interval_at times reading; number = number }) name is in
    record {
      short = ltb-false _ _ ways.0;
      some = some_from (interval_at times reading) ways.1;
      within = ltb-false _ _ ways.2;
      later = ltb-false _ _ ways.3;
      few = ltb-true _ _ ways.4;
      is = ways.5;
    }

-- ---- one call more

pub latest_more : (times : Times) (log : List Call) (call : Call) → latest_of times (log ++ call ∷ []) ≡ interval_in times call
latest_more times log call = fold-append (λ (before : ℕ) (call : Call). interval_in times call) 0 log (call ∷ [])

pub messages_more : (times : Times) (interval : ℕ) (log : List Call) (call : Call) → messages_of times interval (log ++ call ∷ []) ≡ messages_of times interval log + (0 + cond {A = ℕ} (is_message_of times interval call) 1 0)
messages_more times interval log call = sum_by-append (λ c. cond {A = ℕ} (is_message_of times interval c) 1 0) log (call ∷ [])

accepted_more : (stream : Stream) (before calls : List Call) (call : Call) → AreAcceptedAfter stream before calls → IsAccepted stream (before ++ calls) call → AreAcceptedAfter stream before (calls ++ call ∷ [])
accepted_more stream before [] call all one = (subst (λ log. IsAccepted stream log call) (append-nil before) one, tt)
accepted_more stream before (first ∷ calls) call all one =
    (all.0, accepted_more stream (before ++ first ∷ []) calls call all.1 (subst (λ log. IsAccepted stream log call) (sym (append_assoc before (first ∷ []) calls)) one))

-- no call is accepted in an interval before the last one
framed_named : (stream : Stream) (payload : List ℕ) (name : Result Name SendRefusal) → IsOk (framed stream payload name) → (n : Name) × (name ≡ Ok n)
framed_named stream payload (Ok name) ok = (name, refl)
framed_named stream payload (Err refusal) ok = absurd cc

later_message : (stream : Stream) (log : List Call) (reading : ℕ) (payload : List ℕ) → IsOk (made_message stream log reading payload) → latest_of stream.setup.times log ≤ interval_at stream.setup.times reading
unfolding made_message
later_message stream log reading payload ok =
    let name = framed_named stream payload (name_of stream.setup.times log reading payload) ok in
    (named stream.setup.times _ _ reading payload name.0 name.1).later

later_step : (stream : Stream) (a due : Bool) (r : DiscloseRefusal) (interval : ℕ) (s : DiscloseRefusal) → IsOk (disclosed stream (if a then Err r else if due then Ok interval else Err s)) → a ≡ false
later_step stream true due r interval s ok = absurd cc
later_step stream false due r interval s ok = refl

later_disclosure : (stream : Stream) (log : List Call) (reading : ℕ) → IsOk (made_disclosure stream log reading) → latest_of stream.setup.times log ≤ interval_at stream.setup.times reading
unfolding made_disclosure
later_disclosure stream log reading ok = ltb-false _ _ (later_step stream _ _ _ _ _ ok)

later_call : (stream : Stream) (log : List Call) (call : Call) → IsAccepted stream log call → latest_of stream.setup.times log ≤ interval_in stream.setup.times call
later_call stream log (Message reading payload) ok = later_message stream log reading payload ok
later_call stream log (Disclose reading) ok = later_disclosure stream log reading ok

-- ---- calls that never go back

-- no call is of an interval before that of the call before it
abbrev pub AreLater : Times → List Call → List Call → Type 0
AreLater times before [] = Unit {0}
AreLater times before (call ∷ calls) = (latest_of times before ≤ interval_in times call) × AreLater times (before ++ call ∷ []) calls

-- those that are accepted don't
all_later : (stream : Stream) (before calls : List Call) → AreAcceptedAfter stream before calls → AreLater stream.setup.times before calls
all_later stream before [] all = tt
all_later stream before (call ∷ calls) all = (later_call stream before call all.0, all_later stream (before ++ call ∷ []) calls all.1)

-- no message was accepted in an interval after that of the last call
abbrev NoneLater : Times → List Call → Type 0
NoneLater times log = (interval : ℕ) → latest_of times log < interval → messages_of times interval log ≡ 0

no_message : (times : Times) (interval : ℕ) (call : Call) → interval_in times call < interval → is_message_of times interval call ≡ false
no_message times interval (Message reading payload) before = ne_eqb _ _ (λ e. absurd (omega arith))
no_message times interval (Disclose reading) before = refl

none_later : (times : Times) (before calls : List Call) → NoneLater times before → AreLater times before calls → NoneLater times (before ++ calls)
none_later times before [] none all = subst (NoneLater times) (sym (append-nil before)) none
none_later times before (call ∷ calls) none all =
    let here : NoneLater times (before ++ call ∷ []) = λ interval after.
    let last : interval_in times call < interval = omega (arith, latest_more times before call, after) in
    let no : cond {A = ℕ} (is_message_of times interval call) 1 0 ≡ 0 = ap (λ b. cond {A = ℕ} b 1 0) (no_message times interval call last) in
    omega (arith, messages_more times interval before call, no, none interval (omega (arith, all.0, last))) in
    subst (NoneLater times) (append_assoc before (call ∷ []) calls) (none_later times (before ++ call ∷ []) calls here all.1)

-- how many messages of an interval were accepted, the last one or a later one
pub number_of_log : (times : Times) (latest used : ℕ) (log : List Call) (interval : ℕ) → AreLater times [] log → latest ≡ latest_of times log → used ≡ messages_of times latest log → latest ≤ interval → number_at latest used interval ≡ messages_of times interval log
number_of_log times latest used log interval all latest_is used_is later =
    elim (cases_lt latest interval) as (λ _. number_at latest used interval ≡ messages_of times interval log) [
      | inl after ↦
          let other : eqb interval latest ≡ false = ne_eqb _ _ (λ e. absurd (omega arith)) in
          let none = none_later times [] log (λ i h. refl) all interval (omega (arith, latest_is)) in
          ap (λ b. if b then used else 0) other ∙ sym none
      | inr least ↦
          let same : interval ≡ latest = omega arith in
          let here : eqb interval latest ≡ true = eq-eqb _ _ same in
          ap (λ b. if b then used else 0) here ∙ used_is ∙ ap (λ i. messages_of times i log) (sym same)
    ]

-- the name of a message, by the interval and the number of the last calls
pub name_of_log : (times : Times) (latest used : ℕ) (log : List Call) (reading : ℕ) (payload : List ℕ) → AreLater times [] log → latest ≡ latest_of times log → used ≡ messages_of times latest log → name_of times log reading payload ≡ name_after times latest (number_at latest used (interval_at times reading)) reading payload
name_of_log times latest used log reading payload all latest_is used_is =
    let interval = interval_at times reading in
    let number = messages_of times interval log in
    let now = number_at latest used interval in
    let before : name_of times log reading payload ≡ name_after times latest number reading payload = ap (λ b. name_after times b number reading payload) (sym latest_is) in
    let same : name_after times latest number reading payload ≡ name_after times latest now reading payload =
    elim (cases_lt interval latest) as (λ _. name_after times latest number reading payload ≡ name_after times latest now reading payload) [
      | inl back ↦ (let goes_back : nat_lt interval latest ≡ true = lt-ltb _ _ back in rw goes_back refl)
      | inr later ↦ ap (λ n. name_after times latest n reading payload) (sym (number_of_log times latest used log interval all latest_is used_is later))
    ] in
    before ∙ same

-- ---- what a sender stands for

-- how many messages of an interval were accepted, the last one or a later one
number_is : (sender : State) (log : List Call) (interval : ℕ) → Stands sender log → sender.latest ≤ interval → number_at sender.latest sender.used interval ≡ messages_of sender.stream.setup.times interval log
number_is sender log interval stands later =
    number_of_log sender.stream.setup.times sender.latest sender.used log interval (all_later sender.stream [] log stands.accepted) stands.latest stands.used later

-- the answer to a message, by the state alone
message_answer : (sender : State) (log : List Call) (reading : ℕ) (payload : List ℕ) → Stands sender log → made_message sender.stream log reading payload ≡ returned_message sender reading payload
unfolding made_message
message_answer sender log reading payload stands =
    ap (framed sender.stream payload) (name_of_log sender.stream.setup.times sender.latest sender.used log reading payload (all_later sender.stream [] log stands.accepted) stands.latest stands.used)

pub message_answered : (sender : State) (log : List Call) (reading : ℕ) (payload : List ℕ) (returned : Result ℕ SendRefusal) (before now : List ℕ) → Stands sender log → Answers returned (returned_message sender reading payload) before now → Answers returned (made_message sender.stream log reading payload) before now
message_answered sender log reading payload returned before now stands answer =
    subst (λ made. Answers returned made before now) (sym (message_answer sender log reading payload stands)) answer

-- the answer to a disclosure
disclosure_answer : (sender : State) (log : List Call) (reading : ℕ) → Stands sender log → made_disclosure sender.stream log reading ≡ returned_disclosure sender reading
unfolding made_disclosure
disclosure_answer sender log reading stands =
    let times = sender.stream.setup.times in
    ap (λ b. disclosed sender.stream (disclosed_after times b (any_due (interval_at times reading) (chains_of sender.stream)) reading)) (sym stands.latest)

pub disclosure_answered : (sender : State) (log : List Call) (reading : ℕ) (returned : Result ℕ DiscloseRefusal) (before now : List ℕ) → Stands sender log → Answers returned (returned_disclosure sender reading) before now → Answers returned (made_disclosure sender.stream log reading) before now
disclosure_answered sender log reading returned before now stands answer =
    subst (λ made. Answers returned made before now) (sym (disclosure_answer sender log reading stands)) answer

-- ---- the log after a call

-- where it is answered by a frame, the call is accepted
answered_ok : {E : Type 0} (size : ℕ) (made : Result Frame E) (before now : List ℕ) → Answers (Ok size) made before now → IsOk made
answered_ok size (Ok frame) before now answer = refl
answered_ok size (Err refusal) before now answer = absurd answer

message_more : (sender : State) (log : List Call) (reading left : ℕ) (payload : List ℕ) → Stands sender log → IsOk (made_message sender.stream log reading payload) → Stands (sent_in sender (interval_at sender.stream.setup.times reading) left) (log ++ Message reading payload ∷ [])
message_more sender log reading left payload stands ok =
    let times = sender.stream.setup.times in
    let interval = interval_at times reading in
    let later : sender.latest ≤ interval = omega (arith, stands.latest, later_message sender.stream log reading payload ok) in
    let here : is_message_of times interval (Message reading payload) ≡ true = eq-eqb _ _ refl in
    let one : cond {A = ℕ} (is_message_of times interval (Message reading payload)) 1 0 ≡ 1 = ap (λ b. cond {A = ℕ} b 1 0) here in
    record {
      accepted = accepted_more sender.stream [] log (Message reading payload) stands.accepted ok;
      latest = sym (latest_more times log (Message reading payload));
      used = omega (arith, messages_more times interval log (Message reading payload), one, number_is sender log interval stands later);
    }

disclosure_more : (sender : State) (log : List Call) (reading left : ℕ) → Stands sender log → IsOk (made_disclosure sender.stream log reading) → Stands (gone_on sender (interval_at sender.stream.setup.times reading) left) (log ++ Disclose reading ∷ [])
disclosure_more sender log reading left stands ok =
    let times = sender.stream.setup.times in
    let interval = interval_at times reading in
    let later : sender.latest ≤ interval = omega (arith, stands.latest, later_disclosure sender.stream log reading ok) in
    record {
      accepted = accepted_more sender.stream [] log (Disclose reading) stands.accepted ok;
      latest = sym (latest_more times log (Disclose reading));
      used = omega (arith, messages_more times interval log (Disclose reading), number_is sender log interval stands later);
    }

-- what a sender stands for after a message, accepted or not
pub message_stands : (sender after : State) (log : List Call) (reading : ℕ) (payload : List ℕ) (returned : Result ℕ SendRefusal) (before now : List ℕ) (old new : ℕ) → Stands sender log → Answers returned (returned_message sender reading payload) before now → IfOk returned (λ _. after ≡ sent_in sender (interval_at sender.stream.setup.times reading) after.left) → OnErr returned ((after ≡ sender) × (now ≡ before) × (new ≡ old)) → Stands after (log_after log (Message reading payload) returned)
message_stands sender after log reading payload (Ok size) before now old new stands answer sent same =
    let ok = answered_ok size (made_message sender.stream log reading payload) before now (message_answered sender log reading payload (Ok size) before now stands answer) in
    subst (λ s. Stands s (log ++ Message reading payload ∷ [])) (sym sent) (message_more sender log reading after.left payload stands ok)
message_stands sender after log reading payload (Err refusal) before now old new stands answer sent same = subst (λ s. Stands s log) (sym same.0) stands

-- the same of a disclosure
pub disclosure_stands : (sender after : State) (log : List Call) (reading : ℕ) (returned : Result ℕ DiscloseRefusal) (before now : List ℕ) (old new : ℕ) → Stands sender log → Answers returned (returned_disclosure sender reading) before now → IfOk returned (λ _. after ≡ gone_on sender (interval_at sender.stream.setup.times reading) after.left) → OnErr returned ((after ≡ sender) × (now ≡ before) × (new ≡ old)) → Stands after (log_after log (Disclose reading) returned)
disclosure_stands sender after log reading (Ok size) before now old new stands answer gone same =
    let ok = answered_ok size (made_disclosure sender.stream log reading) before now (disclosure_answered sender log reading (Ok size) before now stands answer) in
    subst (λ s. Stands s (log ++ Disclose reading ∷ [])) (sym gone) (disclosure_more sender log reading after.left stands ok)
disclosure_stands sender after log reading (Err refusal) before now old new stands answer gone same = subst (λ s. Stands s log) (sym same.0) stands

-- ---- the frame that was written

text_prefix : (frame : Frame) (size : ℕ) (before now : List ℕ) → IsWritten frame size before now → take size now ≡ frame_text frame
text_prefix frame size before now written =
    ap (λ k. take k now) written.length ∙ ap (take (length (frame_text frame))) written.text ∙ take-append_seam (frame_text frame) (drop (length (frame_text frame)) before)

-- what was written spells the frame that was made
pub spells_answered : {E : Type 0} (returned : Result ℕ E) (made : Result Frame E) (before now : List ℕ) → Answers returned made before now → Spells returned made now
spells_answered (Ok size) (Ok frame) before now written = record { limits = written.limits; spelled = text_prefix frame size before now written }
spells_answered (Ok size) (Err refusal) before now written = tt
spells_answered (Err refusal) made before now written = tt
