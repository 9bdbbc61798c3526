-- What holds of the log of a feed, by induction over the events.
use Rattle.std.proofs.Common.{◌≡◌, ℕ, zero, suc, ◌-◌, ◌/◌, ◌≤◌, Bool, true, false, List, [], ◌∷◌, ◌++◌, refl, sym, ap, subst, append_assoc, append-nil, inl, inr, arith}
use Rattle.std.specs.Prelude.{Result, Ok, Err, IsOk, if◌then◌else◌, nat_le}
use Rattle.std.specs.List.{AllByRecursion, Contains, fold}
use Rattle.std.proofs.Math.Nat.{div-zero, mul-div-le}
use Rattle.std.proofs.lemmas.Nat.{le-div}
use Rattle.std.proofs.lemmas.Bool.{cases_Bool, le-leb, leb-true}
use Rattle.std.proofs.lemmas.List.Elements.{Contains-push_cases}
use Rattle.tesla_base.specs.declared.names.Name.{Name}
use Rattle.tesla_clock.specs.Schedule.{Times}
use Rattle.tesla_desk.specs.declared.link.Letter.TheVariants as letters
use Rattle.tesla_frame.specs.Frame.{Frame}
use Rattle.tesla_sender.specs.Made.{Call, Message, Disclose, Stream, chains_of, disclosed, disclosure_frame, framed, interval_at, interval_in, latest_of, made_disclosure, made_message, message_frame, reading_of}
use Rattle.tesla_sender.specs.Stands.{AreAcceptedAfter, IsAccepted}
use Rattle.tesla_sender.specs.declared.refusal.DiscloseRefusal.{DiscloseRefusal}
use Rattle.tesla_sender.specs.declared.refusal.SendRefusal.{SendRefusal}
use Rattle.tesla_sender.proofs.Logs.{named}
use Rattle.tesla_feed.specs.Fed.{Received, Event, Feeding, Rested, after_event, after_judged, after_none, fed, first_interval, has_ended, is_due, is_unread, latest_from, name_from, nothing_fed, with_call, with_refusal, with_unread}
use Rattle.tesla_feed.specs.Fed as feeds
use Rattle.tesla_feed.specs.Laws.{FeedsApart, FeedsAreAccepted, FeedsEnd}
use Rattle.tesla_feed.proofs.Kept.{due_accepted, log_tells, made_name}

-- ---- induction

-- what is kept by each call that a feed makes, at readings of which this holds
pub record KeptByCalls (stream : Stream) (first : ℕ) (At : ℕ → Type 0) (P : List Call → Type 0) : Type 0 where
  pub message : (log : List Call) (reading : ℕ) (payload : List ℕ) (name : Name) → At reading → is_unread reading ≡ false → name_from stream.setup.times first log reading payload ≡ Ok name → P log → P (log ++ Message reading payload ∷ [])
  pub disclosure : (log : List Call) (reading : ℕ) → At reading → is_due stream first log reading ≡ true → P log → P (log ++ Disclose reading ∷ [])

kept_where : (P : List Call → Type 0) (made : Feeding) (reading : ℕ) (due : Bool) → (due ≡ true → P (made.log ++ Disclose reading ∷ [])) → P made.log → P (if due then with_call made (Disclose reading) else made).log
kept_where P made reading true more now = more refl
kept_where P made reading false more now = now

kept_by_none : (stream : Stream) (first : ℕ) (At : ℕ → Type 0) (P : List Call → Type 0) (made : Feeding) (reading : ℕ) → KeptByCalls stream first At P → At reading → P made.log → P (after_none stream first made reading).log
kept_by_none stream first At P made reading kept at now = kept_where P made reading (is_due stream first made.log reading) (λ due. kept.disclosure made.log reading at due now) now

kept_by_judged : (stream : Stream) (first : ℕ) (At : ℕ → Type 0) (P : List Call → Type 0) (made : Feeding) (reading : ℕ) (payload : List ℕ) (name : Result Name SendRefusal) → name_from stream.setup.times first made.log reading payload ≡ name → KeptByCalls stream first At P → At reading → is_unread reading ≡ false → P made.log → P (after_judged stream first made reading payload name).log
kept_by_judged stream first At P made reading payload (Ok name) is kept at read now = kept.message made.log reading payload name at read is now
kept_by_judged stream first At P made reading payload (Err refusal) is kept at read now = kept_by_none stream first At P (with_refusal made refusal) reading kept at now

-- nothing is made of a message that comes while the clock can't be read
kept_unread : (P : List Call → Type 0) (made after : Feeding) (unread : Bool) → (unread ≡ false → P after.log) → P made.log → P (if unread then with_unread made else after).log
kept_unread P made after true more now = now
kept_unread P made after false more now = more refl

kept_by_event : (stream : Stream) (first : ℕ) (At : ℕ → Type 0) (P : List Call → Type 0) (made : Feeding) (event : Event) → KeptByCalls stream first At P → At (feeds.reading_of event) → P made.log → P (after_event stream first made event).log
kept_by_event stream first At P made (Received reading (letters.Datagram bytes)) kept at now =
    let name = name_from stream.setup.times first made.log reading bytes in
    kept_unread P made (after_judged stream first made reading bytes name) (is_unread reading) (λ read. kept_by_judged stream first At P made reading bytes name refl kept at read now) now
kept_by_event stream first At P made (Received reading letters.Quiet) kept at now = kept_by_none stream first At P made reading kept at now
kept_by_event stream first At P made (Rested reading) kept at now = kept_by_none stream first At P made reading kept at now

-- holds of the whole log, where it held of the log before
holds_after : (stream : Stream) (first : ℕ) (At : ℕ → Type 0) (P : List Call → Type 0) (made : Feeding) (events : List Event) → KeptByCalls stream first At P → AllByRecursion (λ event. At (feeds.reading_of event)) events → P made.log → P (fold (after_event stream first) made events).log
holds_after stream first At P made [] kept at now = now
holds_after stream first At P made (event ∷ events) kept at now = holds_after stream first At P (after_event stream first made event) events kept at.1 (kept_by_event stream first At P made event kept at.0 now)

-- a feed that is over makes no call
holds_ended : (P : List Call → Type 0) (made : Feeding) (over : Bool) → P [] → P made.log → P (if over then nothing_fed else made).log
holds_ended P made true none now = none
holds_ended P made false none now = now

-- holds of the log of a feed, where it holds of none
pub fed_keeps : (stream : Stream) (opening : ℕ) (At : ℕ → Type 0) (P : List Call → Type 0) (events : List Event) → KeptByCalls stream (first_interval stream.setup.times opening) At P → AllByRecursion (λ event. At (feeds.reading_of event)) events → P [] → P (fed stream opening events).log
fed_keeps stream opening At P events kept at none =
    let first = first_interval stream.setup.times opening in
    holds_ended P (fold (after_event stream first) nothing_fed events) (has_ended stream opening) none (holds_after stream first At P nothing_fed events kept at none)

-- where it doesn't matter at which readings
abbrev AtAny : ℕ → Type 0
AtAny reading = Unit {0}

at_any : (events : List Event) → AllByRecursion (λ event. AtAny (feeds.reading_of event)) events
at_any [] = tt
at_any (event ∷ events) = (tt, at_any events)

-- ---- a feed's log is the log of a sender

pub accepted_more : (stream : Stream) (before calls : List Call) (call : Call) → AreAcceptedAfter stream before calls → IsAccepted stream (before ++ calls) call → AreAcceptedAfter stream before (calls ++ call ∷ [])
accepted_more stream before [] call all one = (subst (λ log. IsAccepted stream log call) (append-nil before) one, tt)
accepted_more stream before (first ∷ calls) call all one =
    (all.0, accepted_more stream (before ++ first ∷ []) calls call all.1 (subst (λ log. IsAccepted stream log call) (sym (append_assoc before (first ∷ []) calls)) one))

abbrev ok_message : Result Frame SendRefusal → Type 0
ok_message made = IsOk made

abbrev ok_disclosure : Result Frame DiscloseRefusal → Type 0
ok_disclosure made = IsOk made

pub message_accepted : (stream : Stream) (first : ℕ) (log : List Call) (reading : ℕ) (payload : List ℕ) (name : Name) → name_from stream.setup.times first log reading payload ≡ Ok name → IsAccepted stream log (Message reading payload)
unfolding made_message
message_accepted stream first log reading payload name is =
    let made : made_message stream log reading payload ≡ Ok (message_frame stream.setup (chains_of stream) name payload) = ap (framed stream payload) (made_name stream first log reading payload name is) in
    subst ok_message (sym made) refl

pub disclosure_accepted : (stream : Stream) (first : ℕ) (log : List Call) (reading : ℕ) → is_due stream first log reading ≡ true → IsAccepted stream log (Disclose reading)
unfolding made_disclosure
disclosure_accepted stream first log reading due =
    let tells = log_tells stream first log reading due in
    let made : made_disclosure stream log reading ≡ Ok (disclosure_frame stream.setup (chains_of stream) (interval_at stream.setup.times reading)) = ap (disclosed stream) (due_accepted stream (latest_of stream.setup.times log) reading tells.later tells.some) in
    subst ok_disclosure (sym made) refl

pub are_accepted : FeedsAreAccepted
are_accepted stream opening events =
    let first = first_interval stream.setup.times opening in
    let P : List Call → Type 0 = λ log. AreAcceptedAfter stream [] log in
    let kept : KeptByCalls stream first AtAny P = record {
      message = λ log reading payload name at read is all. accepted_more stream [] log (Message reading payload) all (message_accepted stream first log reading payload name is);
      disclosure = λ log reading at due all. accepted_more stream [] log (Disclose reading) all (disclosure_accepted stream first log reading due);
    } in
    fed_keeps stream opening AtAny P events kept (at_any events) tt

-- ---- feeds apart

-- each call, and one more
pub each_more : (Q : Call → Type 0) (log : List Call) (call : Call) → ((other : Call) → Contains log other → Q other) → Q call → (other : Call) → Contains (log ++ call ∷ []) other → Q other
each_more Q log call all one other has =
    elim (Contains-push_cases log call other has) as (λ _. Q other) [
      | inl before ↦ all other before
      | inr is ↦ subst Q is one
    ]

pub none_within : {A : Type 0} (x : A) → Contains [] x → ⊥
none_within x (n, less, is) = absurd (omega arith)

-- no call of a feed is before its first interval
are_from : (stream : Stream) (opening : ℕ) (events : List Event) (call : Call) → Contains (fed stream opening events).log call → first_interval stream.setup.times opening ≤ interval_in stream.setup.times call
are_from stream opening events =
    let times = stream.setup.times in
    let first = first_interval times opening in
    let Q : Call → Type 0 = λ call. first ≤ interval_in times call in
    let P : List Call → Type 0 = λ log. (call : Call) → Contains log call → Q call in
    let kept : KeptByCalls stream first AtAny P = record {
      message = λ log reading payload name at read is all. (let of = named times (latest_from times first log) _ reading payload name is in each_more Q log (Message reading payload) all (omega (arith, of.later)));
      disclosure = λ log reading at due all. each_more Q log (Disclose reading) all (log_tells stream first log reading due).begun;
    } in
    fed_keeps stream opening AtAny P events kept (at_any events) (λ call has. absurd (none_within call has))

-- quotients rise, also by 0
quotients_rise : (a b k : ℕ) → a ≤ b → a / k ≤ b / k
quotients_rise a b zero le = (let none = div-zero a in omega (arith, none))
quotients_rise a b (suc k) le = le-div (a / suc k) b (suc k) (omega arith) (let least = mul-div-le a (suc k) in grind arith)

-- a later reading isn't in an earlier interval
pub intervals_rise : (times : Times) (reading later : ℕ) → reading ≤ later → interval_at times reading ≤ interval_at times later
intervals_rise times reading later le =
    elim (cases_Bool (nat_le times.start reading)) as (λ _. interval_at times reading ≤ interval_at times later) [
      | inl begun ↦ (
          let later_begun : nat_le times.start later ≡ true = le-leb _ _ (omega (arith, leb-true _ _ begun)) in
          rw begun rw later_begun (quotients_rise (reading - times.start) (later - times.start) times.length (omega arith)))
      | inr before ↦ (rw before omega arith)
    ]

pub in_interval : (times : Times) (call : Call) → interval_in times call ≡ interval_at times (reading_of call)
in_interval times (Message reading payload) = refl
in_interval times (Disclose reading) = refl

pub are_apart : FeedsApart
are_apart stream opening reopening events others before call other has has_other =
    let times = stream.setup.times in
    omega (arith, in_interval times call, intervals_rise times (reading_of call) reopening (before call has), are_from stream reopening others other has_other)

-- ---- a feed that is over

pub are_over : FeedsEnd
are_over stream opening events over = ap (λ (b : Bool). if b then nothing_fed else fold (after_event stream (first_interval stream.setup.times opening)) nothing_fed events) over
