-- Which promise an early arrival uses, and that no other arrival uses it.
use Rattle.std.proofs.Common.{◌≡◌, ◌<◌, ℕ, suc, List, set, Some, refl, sym, ap, subst, ⊎_elim, ◌∙◌, arith}
use Rattle.std.specs.Prelude.{slice_get}
use Rattle.std.proofs.lemmas.Bool.{cases_eq, cases_order, true≢false}
use Rattle.std.proofs.lemmas.Option.{slice_get_within, same_Some}
use Rattle.tesla_base.proofs.Lists.{slice_get-append}
use Rattle.tesla_early.specs.Payloads.{promise_for}
use Rattle.tesla_receiver.specs.Entries.{Entry}
use Rattle.tesla_early.specs.Early.{Message}
use Rattle.tesla_early.specs.Laws.{Gave, TaughtPromise, Uses, WasEarly, origin_of}
use Rattle.tesla_early.specs.Learnt.{taught_by}
use Rattle.tesla_early.proofs.Accepted.{is_of_message}
use Rattle.tesla_early.proofs.Origins.{taught_from, keeps_index, keeps_used, origin_got, one_index}
use Rattle.tesla_early.proofs.Steps.{Accepts, after_accepted, after_given, before, step}
use Rattle.tesla_early.proofs.FirstUsed.{set_here, set_there, used_up}

-- ---- the promise that is used

-- the promise that is used was taught before, and it's that of the message
pub one_taught : (most : ℕ) (h : List Entry) (entry : ℕ) (message : Message) (accepts : Accepts most h entry message) → (accepts.one.it.entry < entry) × TaughtPromise most h accepts.one.it.entry (promise_for message.name message.payload)
one_taught most h entry message accepts =
    let one = accepts.one in
    let from = taught_from most h entry one.place (origin_of one.it) (origin_got (before most h entry) one.place one.it one.at) in
    (from.earlier, subst (λ p. TaughtPromise most h one.it.entry p) (is_of_message message one.it one.passes).promise from.taught)

-- the early arrival uses it
pub uses_one_taught : (most : ℕ) (h : List Entry) (entry : ℕ) (message : Message) → WasEarly most h entry message → (teacher : ℕ) × (teacher < entry) × TaughtPromise most h teacher (promise_for message.name message.payload) × Uses most h entry teacher
uses_one_taught most h entry message was =
    let accepts = after_accepted most h entry message was in
    let one = accepts.one in
    let kept = before most h entry in
    let from = one_taught most h entry message accepts in
    let change = set kept one.place (used_up one.it) in
    let here = set_here kept one.place (used_up one.it) (slice_get_within kept one.place one.it one.at) in (
      one.it.entry,
      from.0,
      from.1,
      record {
        place = one.place;
        before = one.it;
        is = one.at;
        entry_is = refl;
        unused = (is_of_message message one.it one.passes).unused;
        after = used_up one.it;
        now = ap (λ ls. slice_get ls one.place) accepts.is ∙ slice_get-append change (taught_by entry message.payload) one.place (slice_get_within change one.place (used_up one.it) here) ∙ here;
        used = refl;
      },
    )

-- ---- nothing else is used

-- where a promise is used, it isn't as it was before
unchanged : (most : ℕ) (h : List Entry) (n teacher : ℕ) (uses : Uses most h n teacher) → slice_get (before most h (suc n)) uses.place ≡ Some uses.before → ⊥
unchanged most h n teacher uses still =
    let same : uses.after ≡ uses.before = same_Some uses.after uses.before (sym uses.now ∙ still) in
    true≢false (sym uses.used ∙ ap (λ it. it.used) same ∙ uses.unused)

-- an early arrival uses no other promise
teacher_is : (most : ℕ) (h : List Entry) (n teacher : ℕ) (message : Message) (accepts : Accepts most h n message) → Uses most h n teacher → teacher ≡ accepts.one.it.entry
teacher_is most h n teacher message accepts uses =
    let one = accepts.one in
    let kept = before most h n in
    let change = set kept one.place (used_up one.it) in
    ⊎_elim
    (λ here. sym uses.entry_is ∙ ap (λ it. it.entry) (same_Some uses.before one.it (sym uses.is ∙ ap (slice_get kept) here ∙ one.at)))
    (λ differs. let there = set_there kept one.place uses.place (used_up one.it) uses.before differs uses.is in
    absurd (unchanged most h n teacher uses (ap (λ ls. slice_get ls uses.place) accepts.is ∙ slice_get-append change (taught_by n message.payload) uses.place (slice_get_within change uses.place uses.before there) ∙ there)))
    (cases_eq uses.place one.place)

-- an entry that gives a packet uses none
given_unchanged : (most : ℕ) (h : List Entry) (n teacher : ℕ) (payload : List ℕ) → Gave h n payload → Uses most h n teacher → ⊥
given_unchanged most h n teacher payload gave uses =
    unchanged most h n teacher uses
    (ap (λ ls. slice_get ls uses.place) (after_given most h n payload gave)
    ∙ slice_get-append (before most h n) (taught_by n payload) uses.place (slice_get_within (before most h n) uses.place uses.before uses.is) ∙ uses.is)

-- only an early arrival uses a promise, and only that of its message
pub uses_early : (most : ℕ) (h : List Entry) (n teacher : ℕ) → Uses most h n teacher → (message : Message) × WasEarly most h n message × TaughtPromise most h teacher (promise_for message.name message.payload)
uses_early most h n teacher uses =
    ⊎_elim
    (λ stays. absurd (unchanged most h n teacher uses (ap (λ ls. slice_get ls uses.place) stays ∙ uses.is)))
    (λ taught. ⊎_elim
    (λ gave. absurd (given_unchanged most h n teacher gave.0 gave.1 uses))
    (λ early. let accepts = after_accepted most h n early.0 early.1 in
    (early.0, early.1, subst (λ k. TaughtPromise most h k (promise_for early.0.name early.0.payload)) (sym (teacher_is most h n teacher early.0 accepts uses)) (one_taught most h n early.0 accepts).1))
    taught)
    (step most h n)

-- it uses one only
pub one_teacher : (most : ℕ) (h : List Entry) (n a b : ℕ) → Uses most h n a → Uses most h n b → a ≡ b
one_teacher most h n a b first second =
    let was = uses_early most h n a first in
    let accepts = after_accepted most h n was.0 was.1 in
    teacher_is most h n a was.0 accepts first ∙ sym (teacher_is most h n b was.0 accepts second)

-- ---- it's used once

-- what an earlier entry used no later one uses
used_earlier : (most : ℕ) (h : List Entry) (n m teacher : ℕ) → Uses most h n teacher → Uses most h m teacher → n < m → ⊥
used_earlier most h n m teacher first second lower =
    let later = keeps_used most h (suc n) m first.place first.after (omega arith) first.now first.used in
    let origin = origin_got (before most h n) first.place first.before first.is in
    let same : first.place ≡ second.place =
    one_index most h m first.place second.place (origin_of first.before) (origin_of second.before)
    (keeps_index most h n m first.place (origin_of first.before) (omega arith) origin)
    (origin_got (before most h m) second.place second.before second.is) (first.entry_is ∙ sym second.entry_is) in
    let one : later.0 ≡ second.before = same_Some later.0 second.before (sym later.1 ∙ ap (slice_get (before most h m)) same ∙ second.is) in
    true≢false (sym later.2 ∙ ap (λ it. it.used) one ∙ second.unused)

-- no two entries use the promise of one
pub used_once : (most : ℕ) (h : List Entry) (n m teacher : ℕ) → Uses most h n teacher → Uses most h m teacher → n ≡ m
used_once most h n m teacher first second =
    ⊎_elim
    (λ same. same)
    (⊎_elim (λ lower. absurd (used_earlier most h n m teacher first second lower)) (λ higher. absurd (used_earlier most h m n teacher second first higher)))
    (cases_order n m)
