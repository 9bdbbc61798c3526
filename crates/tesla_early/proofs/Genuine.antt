-- Where the packets that were given have woven payloads, so have the early messages.
use Rattle.std.proofs.Common.{◌≡◌, ◌≤◌, ◌<◌, ℕ, zero, suc, ◌+◌, List, [], length, get_or, Option, Some, None, refl, sym, ap, ⊎_elim, ◌∙◌, ◌⊎◌, inl, inr, arith}
use Rattle.std.specs.Prelude.{bytes_eq, slice_get}
use Rattle.std.proofs.lemmas.Bool.{cases_Bool, false≢true}
use Rattle.std.proofs.lemmas.Option.{none-some, same_Some, slice_get-get_or, slice_get_within}
use Rattle.std.proofs.lemmas.Slice.Eq.{bytes_eq-Decides}
use Rattle.sha2.specs.Sha256.{sha256}
use Rattle.sha2.proofs.Facts256.{length-sha256}
use Rattle.tesla_base.specs.declared.names.Name.{Name}
use Rattle.tesla_early.specs.Payloads.{promise_for, promise_of, promising_text}
use Rattle.tesla_early.specs.Woven.{woven, woven_payload}
use Rattle.tesla_early.specs.declared.promise.Promise.{Promise}
use Rattle.tesla_early.proofs.Each.{is_woven_at, length-woven}
use Rattle.tesla_early.proofs.Spelled.{plain_has_none, promise_read}
use Rattle.tesla_receiver.specs.Entries.{Entry}
use Rattle.tesla_early.specs.Early.{Message}
use Rattle.tesla_early.specs.Laws.{Collides, GivenAreOf, IsOneOf, NamesFit, WasEarly}
use Rattle.tesla_early.proofs.Accepted.{was_promised}

-- ---- what a woven payload promises

-- the promise of the message `gap` behind it
record PromisesLater (gap : ℕ) (names : List Name) (bodies : List (List ℕ)) (k : ℕ) (promise : Promise) : Type 0 where
  name : Name
  named : slice_get names (k + gap) ≡ Some name
  later : List ℕ
  later_is : slice_get (woven gap names bodies) (k + gap) ≡ Some later
  is : promise ≡ promise_for name later

promised_by : (gap : ℕ) (names : List Name) (bodies : List (List ℕ)) (k : ℕ) (promise : Promise) (body : List ℕ) (name : Option Name) (later : Option (List ℕ)) → NamesFit names → slice_get names (k + gap) ≡ name → slice_get (woven gap names bodies) (k + gap) ≡ later
    → promise_of (woven_payload name later body) ≡ Some promise → PromisesLater gap names bodies k promise
promised_by gap names bodies k promise body (Some name) (Some later) fit named behind is =
    let limits = fit (k + gap) name named in
    let read : promise_of (promising_text (promise_for name later) body) ≡ Some (promise_for name later) =
    promise_read (promising_text (promise_for name later) body) (promise_for name later)
    (record { fields = record { interval = limits.0; number = limits.1; hash = length-sha256 later }; body = body; spelled = refl }) in
    record { name = name; named = named; later = later; later_is = behind; is = same_Some promise (promise_for name later) (sym is ∙ read) }
promised_by gap names bodies k promise body (Some name) None fit named behind is = absurd (none-some promise (sym (plain_has_none body) ∙ is))
promised_by gap names bodies k promise body None later fit named behind is = absurd (none-some promise (sym (plain_has_none body) ∙ is))

woven_promises : (gap : ℕ) (names : List Name) (bodies : List (List ℕ)) (k : ℕ) (payload : List ℕ) (promise : Promise) → 1 ≤ gap → length names ≡ length bodies → NamesFit names
    → slice_get (woven gap names bodies) k ≡ Some payload → promise_of payload ≡ Some promise → PromisesLater gap names bodies k promise
woven_promises gap names bodies k payload promise some same fit at is =
    let within : k < length bodies = (let inside = slice_get_within (woven gap names bodies) k payload at in let many = length-woven gap names bodies same in omega arith) in
    let body = get_or bodies k [] in
    let name = slice_get names (k + gap) in
    let later = slice_get (woven gap names bodies) (k + gap) in
    let spelled : payload ≡ woven_payload name later body =
    same_Some payload (woven_payload name later body) (sym at ∙ (is_woven_at gap names bodies k body some same (slice_get-get_or bodies k [] within)).payload_is) in
    promised_by gap names bodies k promise body name later fit refl refl (ap promise_of (sym spelled) ∙ is)

-- ---- an early message

-- promised by a woven payload, it's the message `gap` behind, or the digests of two payloads are one
from_woven : (most gap k : ℕ) (names : List Name) (bodies : List (List ℕ)) (payload : List ℕ) (h : List Entry) (entry : ℕ) (message : Message) → 1 ≤ gap → length names ≡ length bodies → NamesFit names
    → slice_get (woven gap names bodies) k ≡ Some payload → promise_of payload ≡ Some (promise_for message.name message.payload) → WasEarly most h entry message
    → IsOneOf names (woven gap names bodies) message ⊎ Collides most h entry (woven gap names bodies)
from_woven most gap k names bodies payload h entry message some same fit at is was =
    let found = woven_promises gap names bodies k payload (promise_for message.name message.payload) some same fit at is in
    let hash : sha256 message.payload ≡ sha256 found.later = ap (λ p. p.hash) found.is in
    let name : message.name ≡ found.name = ap (λ p. p.name) found.is in
    let decides = bytes_eq-Decides message.payload found.later in
    ⊎_elim
    (λ equal. inl (record { place = k + gap; name_is = found.named ∙ ap (λ n. Some n) (sym name); payload_is = found.later_is ∙ ap (λ p. Some p) (sym (decides.0 equal)) }))
    (λ other. inr (record {
      early = entry;
      no_later = omega arith;
      message = message;
      was = was;
      place = k + gap;
      other = found.later;
      other_is = found.later_is;
      differs = λ one. false≢true (sym other ∙ decides.1 one);
      same = hash;
    }))
    (cases_Bool (bytes_eq message.payload found.later))

genuine_below : (n most gap : ℕ) (names : List Name) (bodies : List (List ℕ)) (h : List Entry) (entry : ℕ) (message : Message) → entry < n → 1 ≤ gap → length names ≡ length bodies → NamesFit names
    → GivenAreOf h (woven gap names bodies) → WasEarly most h entry message → IsOneOf names (woven gap names bodies) message ⊎ Collides most h entry (woven gap names bodies)
genuine_below zero most gap names bodies h entry message below some same fit given was = absurd (omega arith)
genuine_below (suc n) most gap names bodies h entry message below some same fit given was =
    let promised = was_promised most h entry message was in
    let earlier = promised.before in
    ⊎_elim
    (λ gave. let one = given promised.teacher promised.payload gave in
    from_woven most gap one.0 names bodies promised.payload h entry message some same fit one.1 promised.promise was)
    (λ early. ⊎_elim
    (λ one. from_woven most gap one.place names bodies promised.payload h entry message some same fit one.payload_is promised.promise was)
    (λ two. inr (record { early = two.early; no_later = (let before = two.no_later in omega arith); message = two.message; was = two.was; place = two.place; other = two.other; other_is = two.other_is; differs = two.differs; same = two.same }))
    (genuine_below n most gap names bodies h promised.teacher (record { name = early.0; payload = promised.payload }) (omega arith) some same fit given early.1))
    promised.taught

pub early_genuine : (most gap : ℕ) (names : List Name) (bodies : List (List ℕ)) (h : List Entry) (entry : ℕ) (message : Message) → 1 ≤ gap → length names ≡ length bodies → NamesFit names
    → GivenAreOf h (woven gap names bodies) → WasEarly most h entry message → IsOneOf names (woven gap names bodies) message ⊎ Collides most h entry (woven gap names bodies)
early_genuine most gap names bodies h entry message some same fit given was = genuine_below (suc entry) most gap names bodies h entry message (omega arith) some same fit given was
