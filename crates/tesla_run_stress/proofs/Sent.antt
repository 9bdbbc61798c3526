-- The messages and the disclosure of a load are accepted, and their frames are those of the load.
use Rattle.std.proofs.Common.{◌≡◌, ◌∙◌, ℕ, ◌+◌, ◌-◌, ◌/◌, ◌%◌, ◌<◌, ◌≤◌, Bool, true, false, List, [], ◌∷◌, ◌++◌, length, map, take, drop, Result, Ok, Err, refl, sym, ap, subst, inl, inr, arith}
use Rattle.std.specs.Prelude.{nat_le, nat_lt, ◌==◌, if◌then◌else◌}
use Rattle.std.proofs.lemmas.Bool.{cases_eq, eq-eqb, le-leb, le-ltb, lt-ltb, ne_eqb}
use Rattle.std.specs.List.{range_with_len}
use Rattle.std.proofs.Math.Seq.{take-append_seam}
use Rattle.std.proofs.lemmas.List.{map-append}
use Rattle.tesla_base.specs.declared.names.Name.{Name}
use Rattle.tesla_clock.specs.Schedule.{Times}
use Rattle.tesla_frame.specs.Frame.{Frame, frame_text}
use Rattle.tesla_sender.specs.declared.refusal.DiscloseRefusal.{DiscloseRefusal}
use Rattle.tesla_sender.specs.declared.refusal.SendRefusal.{SendRefusal}
use Rattle.tesla_sender.specs.Made.{Call, Message, Stream, any_due, chains_of, disclosed, disclosed_after, framed, interval_at, made_disclosure, made_message, message_frame, name_after}
use Rattle.tesla_sender.specs.Stands.{Answers, IsWritten, State, Stands, log_after, name_next, number_at, sent_in, returned_disclosure, returned_message}
use Rattle.tesla_run_stress.specs.Base.{base_stream, base_times, last_of}
use Rattle.tesla_run_stress.specs.Load.{call_of, disclosure_text, end_reading, log_of, message_text, payload_of, reading_of, text_of}
use Rattle.tesla_run_stress.specs.Steps.{HasSent}
use Rattle.tesla_run_stress.proofs.Histories.{numbers_more}
use Rattle.tesla_run_stress.proofs.Texts.{frame_short}

-- ---- intervals

pub interval_made : (last k : ℕ) → interval_at (base_times last) (reading_of k) ≡ 1 + k / 10
interval_made last k =
    let there : nat_le 1000000 (reading_of k) ≡ true = le-leb _ _ (omega arith) in
    rw there (omega arith)

interval_ended : (last : ℕ) → interval_at (base_times last) (end_reading last) ≡ last + 5
interval_ended last =
    let there : nat_le 1000000 (end_reading last) ≡ true = le-leb _ _ (omega arith) in
    rw there (omega arith)

-- ---- a message

abbrev ok_name : ℕ → ℕ → Result Name SendRefusal
ok_name interval number = Ok (record { interval = interval; number = number })

number_by : (b : Bool) (used : ℕ) → (if b then used else 0) ≤ used
number_by true used = omega arith
number_by false used = omega arith

-- a message within the limits has this name
pub named : (times : Times) (before number reading : ℕ) (payload : List ℕ) → length payload ≤ 1200 → 1 ≤ interval_at times reading → interval_at times reading ≤ times.last → before ≤ interval_at times reading → number < 65536 → name_after times before number reading payload ≡ ok_name (interval_at times reading) number
named times before number reading payload short some within later few =
    rw (le-ltb 1200 (length payload) short, ne_eqb (interval_at times reading) 0 (λ e. absurd (omega arith)), le-ltb times.last (interval_at times reading) within, le-ltb (interval_at times reading) before later, lt-ltb number 65536 few) refl

name_from : (count k latest used : ℕ) → k < count → latest ≡ (k + 9) / 10 → used ≤ 1 + (k + 9) % 10 → name_after (base_times (last_of count)) latest (number_at latest used (interval_at (base_times (last_of count)) (reading_of k))) (reading_of k) (payload_of k) ≡ ok_name (1 + k / 10) (number_at latest used (1 + k / 10))
name_from count k latest used within at few =
    let times = base_times (last_of count) in
    let i : interval_at times (reading_of k) ≡ 1 + k / 10 = interval_made (last_of count) k in
    let n : number_at latest used (interval_at times (reading_of k)) ≤ used = number_by (interval_at times (reading_of k) == latest) used in
    named times latest (number_at latest used (interval_at times (reading_of k))) (reading_of k) (payload_of k) (omega arith) (omega (arith, i)) (omega (arith, i)) (omega (arith, i)) (omega (arith, n))
    ∙ ap (λ (j : ℕ). ok_name j (number_at latest used j)) i

-- the name of message k
name_is : (count k reading : ℕ) (payload : List ℕ) (sender : State) → k < count → HasSent count k sender → reading ≡ reading_of k → payload ≡ payload_of k → name_next sender reading payload ≡ ok_name (1 + k / 10) (number_at sender.latest sender.used (1 + k / 10))
name_is count k reading payload sender within sent reads pays =
    ap (λ (s : Stream). name_after s.setup.times sender.latest (number_at sender.latest sender.used (interval_at s.setup.times reading)) reading payload) sent.stream
    ∙ ap (λ (r : ℕ). name_after (base_times (last_of count)) sender.latest (number_at sender.latest sender.used (interval_at (base_times (last_of count)) r)) r payload) reads
    ∙ ap (λ (p : List ℕ). name_after (base_times (last_of count)) sender.latest (number_at sender.latest sender.used (interval_at (base_times (last_of count)) (reading_of k))) (reading_of k) p) pays
    ∙ name_from count k sender.latest sender.used within sent.latest sent.used

-- it is not refused
pub never_refused : (count k reading : ℕ) (payload : List ℕ) (sender : State) (refusal : SendRefusal) (before now : List ℕ) → k < count → HasSent count k sender → reading ≡ reading_of k → payload ≡ payload_of k → Answers (Err refusal) (returned_message sender reading payload) before now → ⊥
never_refused count k reading payload sender refusal before now within sent reads pays answers =
    subst (λ (r : Result Name SendRefusal). Answers (Err refusal) (framed sender.stream payload r) before now) (name_is count k reading payload sender within sent reads pays) answers

short_written : (count : ℕ) (name : Name) (payload : List ℕ) (size : ℕ) (before now : List ℕ) → length payload ≡ 8 → IsWritten (message_frame (base_stream count).setup (chains_of (base_stream count)) name payload) size before now → size ≤ 129
unfolding message_frame
short_written count name payload size before now eight written =
    let short = frame_short _ written.limits refl eight refl refl in
    omega (arith, short, written.length)

-- its frame is short
pub message_short : (count k reading : ℕ) (payload : List ℕ) (sender : State) (size : ℕ) (before now : List ℕ) → k < count → HasSent count k sender → reading ≡ reading_of k → payload ≡ payload_of k → Answers {E = SendRefusal} (Ok size) (returned_message sender reading payload) before now → size ≤ 129
message_short count k reading payload sender size before now within sent reads pays answers =
    let name : Name = record { interval = 1 + k / 10; number = number_at sender.latest sender.used (1 + k / 10) } in
    let written : IsWritten (message_frame sender.stream.setup (chains_of sender.stream) name payload) size before now =
    subst (λ (r : Result Name SendRefusal). Answers {E = SendRefusal} (Ok size) (framed sender.stream payload r) before now) (name_is count k reading payload sender within sent reads pays) answers in
    short_written count name payload size before now (ap length pays) (subst (λ (s : Stream). IsWritten (message_frame s.setup (chains_of s) name payload) size before now) sent.stream written)

-- ---- the log

log_none : log_of 0 ≡ []
unfolding log_of
log_none = refl

pub log_more : (k : ℕ) → log_of (k + 1) ≡ log_of k ++ call_of k ∷ []
unfolding log_of
log_more k = ap (map call_of) (numbers_more k) ∙ map-append call_of (range_with_len 0 k) (k ∷ [])

-- none was sent yet
pub sent_none : (count : ℕ) (sender : State) → sender.stream ≡ base_stream count → Stands sender [] → HasSent count 0 sender
sent_none count sender stream stands = record {
  stream = stream;
  stands = subst (λ (l : List Call). Stands sender l) (sym log_none) stands;
  latest = stands.latest;
  used = omega (arith, stands.used);
}

used_more : (k latest used interval : ℕ) → latest ≡ (k + 9) / 10 → used ≤ 1 + (k + 9) % 10 → interval ≡ 1 + k / 10 → number_at latest used interval + 1 ≤ 1 + (k + 1 + 9) % 10
used_more k latest used interval at few here =
    elim (cases_eq interval latest) as (λ _. number_at latest used interval + 1 ≤ 1 + (k + 1 + 9) % 10) [
      | inl same ↦ rw (eq-eqb interval latest same) (omega arith)
      | inr other ↦ rw (ne_eqb interval latest other) (omega arith)
    ]

-- one more was sent
pub sent_more : (count k reading : ℕ) (payload : List ℕ) (before now : State) (size : ℕ) → HasSent count k before → reading ≡ reading_of k → payload ≡ payload_of k → now ≡ sent_in before (interval_at before.stream.setup.times reading) now.left → ((log : List Call) → Stands before log → Stands now (log_after {E = SendRefusal} log (Message reading payload) (Ok size))) → HasSent count (k + 1) now
sent_more count k reading payload before now size was reads pays after stands =
    let interval : interval_at before.stream.setup.times reading ≡ 1 + k / 10 =
    ap (λ (s : Stream). interval_at s.setup.times reading) was.stream ∙ ap (interval_at (base_times (last_of count))) reads ∙ interval_made (last_of count) k in
    let call : Message reading payload ≡ call_of k = ap (λ (r : ℕ). Message r payload) reads ∙ ap (λ (p : List ℕ). Message (reading_of k) p) pays in
    record {
      stream = ap (λ (s : State). s.stream) after ∙ was.stream;
      stands = subst (λ (l : List Call). Stands now l) (ap (λ (c : Call). log_of k ++ c ∷ []) call ∙ sym (log_more k)) (stands (log_of k) was.stands);
      latest = let new : now.latest ≡ interval_at before.stream.setup.times reading = ap (λ (s : State). s.latest) after in omega (arith, new, interval);
      used =
          let new : now.used ≡ number_at before.latest before.used (interval_at before.stream.setup.times reading) + 1 = ap (λ (s : State). s.used) after in
          rw new (used_more k before.latest before.used _ was.latest was.used interval);
    }

-- ---- the frames

-- what was written is the text of the frame that was made
text_answered : {E : Type 0} (made : Result Frame E) (size : ℕ) (before now : List ℕ) → Answers (Ok size) made before now → take size now ≡ text_of made
text_answered (Ok frame) size before now written =
    let text : List ℕ = frame_text frame in
    ap (take size) written.text ∙ ap (λ (n : ℕ). take n (text ++ drop (length text) before)) written.length ∙ take-append_seam text (drop (length text) before)
text_answered (Err refusal) size before now answers = absurd answers

pub text_is : (count k reading : ℕ) (payload : List ℕ) (sender : State) (size : ℕ) (before now : List ℕ) → HasSent count k sender → reading ≡ reading_of k → payload ≡ payload_of k → ((log : List Call) → Stands sender log → Answers {E = SendRefusal} (Ok size) (made_message sender.stream log reading payload) before now) → take size now ≡ message_text (base_stream count) k
unfolding message_text
text_is count k reading payload sender size before now sent reads pays answers =
    text_answered _ size before now (answers (log_of k) sent.stands)
    ∙ ap (λ (s : Stream). text_of (made_message s (log_of k) reading payload)) sent.stream
    ∙ ap (λ (r : ℕ). text_of (made_message (base_stream count) (log_of k) r payload)) reads
    ∙ ap (λ (p : List ℕ). text_of (made_message (base_stream count) (log_of k) (reading_of k) p)) pays

-- ---- the disclosure

due_by : (last : ℕ) → nat_lt 2 (last + 5) ≡ true
due_by last = lt-ltb _ _ (omega arith)

-- after all messages keys are due
pub disclosed_is : (count latest reading : ℕ) → latest ≡ (count + 9) / 10 → reading ≡ end_reading (last_of count) → disclosed_after (base_times (last_of count)) latest (any_due (interval_at (base_times (last_of count)) reading) (chains_of (base_stream count))) reading ≡ Ok (last_of count + 5)
disclosed_is count latest reading at reads =
    let times = base_times (last_of count) in
    let i : interval_at times reading ≡ last_of count + 5 = ap (interval_at times) reads ∙ interval_ended (last_of count) in
    let after : nat_lt (interval_at times reading) latest ≡ false = le-ltb _ _ (omega (arith, i)) in
    rw (after, i, due_by (last_of count)) refl

pub never_undisclosed : (count reading : ℕ) (sender : State) (refusal : DiscloseRefusal) (before now : List ℕ) → HasSent count count sender → reading ≡ end_reading (last_of count) → Answers (Err refusal) (returned_disclosure sender reading) before now → ⊥
never_undisclosed count reading sender refusal before now sent reads answers =
    let told : Answers (Err refusal) (disclosed (base_stream count) (disclosed_after (base_times (last_of count)) sender.latest (any_due (interval_at (base_times (last_of count)) reading) (chains_of (base_stream count))) reading)) before now =
    subst (λ (s : Stream). Answers (Err refusal) (disclosed s (disclosed_after s.setup.times sender.latest (any_due (interval_at s.setup.times reading) (chains_of s)) reading)) before now) sent.stream answers in
    subst (λ (r : Result ℕ DiscloseRefusal). Answers (Err refusal) (disclosed (base_stream count) r) before now) (disclosed_is count sender.latest reading sent.latest reads) told

pub disclosure_is : (count reading : ℕ) (sender : State) (size : ℕ) (before now : List ℕ) → HasSent count count sender → reading ≡ end_reading (last_of count) → ((log : List Call) → Stands sender log → Answers {E = DiscloseRefusal} (Ok size) (made_disclosure sender.stream log reading) before now) → take size now ≡ disclosure_text (base_stream count) count
unfolding disclosure_text
disclosure_is count reading sender size before now sent reads answers =
    text_answered _ size before now (answers (log_of count) sent.stands)
    ∙ ap (λ (s : Stream). text_of (made_disclosure s (log_of count) reading)) sent.stream
    ∙ ap (λ (r : ℕ). text_of (made_disclosure (base_stream count) (log_of count) r)) reads
