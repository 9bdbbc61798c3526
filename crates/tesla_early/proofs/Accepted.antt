-- Where the promise of an early arrival came from, and which promises are learnt.
use Rattle.std.proofs.Common.{◌≡◌, ◌<◌, ℕ, suc, Bool, true, false, ◌&&◌, ◌==◌, List, length, Some, refl, sym, ap, subst, ⊎_elim, ◌∙◌, arith}
use Rattle.std.specs.Prelude.{bytes_eq, not, slice_get}
use Rattle.std.proofs.lemmas.Bool.{and_from, and_parts, eq-eqb, eqb-true, not-true, not_from_false}
use Rattle.std.proofs.lemmas.Option.{slice_get_within}
use Rattle.std.proofs.lemmas.Slice.Eq.{bytes_eq-Decides}
use Rattle.sha2.specs.Sha256.{sha256}
use Rattle.tesla_early.specs.Payloads.{promise_for, promise_of}
use Rattle.tesla_early.specs.declared.promise.Promise.{Promise}
use Rattle.tesla_receiver.specs.Entries.{Entry}
use Rattle.tesla_early.specs.Early.{Message, learnt}
use Rattle.tesla_early.specs.Laws.{IsLearnt, Taught, TaughtPromise, WasEarly, WasPromised, origin_of}
use Rattle.tesla_early.specs.Learnt.{Learnt, is_named}
use Rattle.tesla_early.proofs.Origins.{taught_from, from_origin, keeps_index, origin_got, origins_all, one_index, rises, taught_index}
use Rattle.tesla_early.proofs.Steps.{after_accepted, before, is_of, origins}

-- ---- a promise of a message

abbrev promise_with : ℕ → ℕ → List ℕ → Promise
promise_with interval number hash = record { name = record { interval = interval; number = number }; hash = hash }

same_bytes : (xs ys : List ℕ) → bytes_eq xs ys ≡ true → xs ≡ ys
same_bytes xs ys same = (bytes_eq-Decides xs ys).0 same

-- the promise isn't used, and it's that of the message
pub record IsOf (message : Message) (it : Learnt) : Type 0 where
  pub unused : it.used ≡ false
  pub promise : it.promise ≡ promise_for message.name message.payload

pub is_of_message : (message : Message) (it : Learnt) → is_of message it ≡ true → IsOf message it
is_of_message message it passes =
    let hash = sha256 message.payload in
    let name = message.name in
    let own = it.promise in
    let outer = and_parts (is_named name it) (bytes_eq own.hash hash) passes in
    let named = and_parts (not it.used) (own.name.interval == name.interval && own.name.number == name.number) outer.0 in
    let fields = and_parts (own.name.interval == name.interval) (own.name.number == name.number) named.1 in
    record {
      unused = not-true it.used named.0;
      promise = ap (λ n. promise_with n own.name.number own.hash) (eqb-true own.name.interval name.interval fields.0)
          ∙ ap (λ n. promise_with name.interval n own.hash) (eqb-true own.name.number name.number fields.1)
          ∙ ap (promise_with name.interval name.number) (same_bytes own.hash hash outer.1);
    }

pub is_of_promise : (message : Message) (it : Learnt) → it.used ≡ false → it.promise ≡ promise_for message.name message.payload → is_of message it ≡ true
is_of_promise message it unused own =
    let of_own : (b : Bool) → b ≡ false → (not b && (message.name.interval == message.name.interval && message.name.number == message.name.number) && bytes_eq (sha256 message.payload) (sha256 message.payload)) ≡ true =
    λ b is. and_from (not b && (message.name.interval == message.name.interval && message.name.number == message.name.number)) (bytes_eq (sha256 message.payload) (sha256 message.payload))
    (and_from (not b) (message.name.interval == message.name.interval && message.name.number == message.name.number) (not_from_false b is)
    (and_from (message.name.interval == message.name.interval) (message.name.number == message.name.number) (eq-eqb message.name.interval message.name.interval refl) (eq-eqb message.name.number message.name.number refl)))
    ((bytes_eq-Decides (sha256 message.payload) (sha256 message.payload)).1 refl) in
    subst (λ (p : Promise). (not it.used && (p.name.interval == message.name.interval && p.name.number == message.name.number) && bytes_eq p.hash (sha256 message.payload)) ≡ true) (sym own) (of_own it.used unused)

-- ---- an early arrival

-- its promise was taught before
pub was_promised : (most : ℕ) (h : List Entry) (entry : ℕ) (message : Message) → WasEarly most h entry message → WasPromised most h entry message
was_promised most h entry message was =
    let one = (after_accepted most h entry message was).one in
    let from = taught_from most h entry one.place (origin_of one.it) (origin_got (before most h entry) one.place one.it one.at) in
    record {
      teacher = one.it.entry;
      before = from.earlier;
      payload = from.taught.payload;
      taught = from.taught.taught;
      promise = from.taught.promise_is ∙ ap (λ p. Some p) (is_of_message message one.it one.passes).promise;
    }

-- ---- what was taught

-- it is learnt
pub taught_learnt : (most : ℕ) (h : List Entry) (entry : ℕ) (payload : List ℕ) (promise : Promise) → Taught most h entry payload → promise_of payload ≡ Some promise → IsLearnt most h entry promise
taught_learnt most h entry payload promise taught is =
    let index = length (origins most h entry) in
    let within : entry < length h = ⊎_elim (λ gave. slice_get_within h entry _ gave.is) (λ early. slice_get_within h entry _ early.1.is) taught in
    let origin = keeps_index most h (suc entry) (length h) index (entry, promise) (omega arith) (taught_index most h entry payload promise taught is) in
    let has = from_origin (learnt most h) index (entry, promise) (ap (λ ks. slice_get ks index) (sym (origins_all most h)) ∙ origin) in
    record { place = index; it = has.it; is = has.at; entry_is = ap (λ k. k.0) has.origin_is; promise_is = ap (λ k. k.1) has.origin_is }

all_origin : (most : ℕ) (h : List Entry) (index : ℕ) (it : Learnt) → slice_get (learnt most h) index ≡ Some it → slice_get (origins most h (length h)) index ≡ Some (origin_of it)
all_origin most h index it at = ap (λ ks. slice_get ks index) (origins_all most h) ∙ origin_got (learnt most h) index it at

-- what is learnt was taught
pub learnt_taught : (most : ℕ) (h : List Entry) (index : ℕ) (it : Learnt) → slice_get (learnt most h) index ≡ Some it → TaughtPromise most h it.entry it.promise
learnt_taught most h index it at = (taught_from most h (length h) index (origin_of it) (all_origin most h index it at)).taught

-- no two places are of one entry
pub learnt_once : (most : ℕ) (h : List Entry) (i j : ℕ) (a b : Learnt) → slice_get (learnt most h) i ≡ Some a → slice_get (learnt most h) j ≡ Some b → a.entry ≡ b.entry → i ≡ j
learnt_once most h i j a b first second same = one_index most h (length h) i j (origin_of a) (origin_of b) (all_origin most h i a first) (all_origin most h j b second) same

-- later places are of later entries
pub learnt_rises : (most : ℕ) (h : List Entry) (i j : ℕ) (a b : Learnt) → slice_get (learnt most h) i ≡ Some a → slice_get (learnt most h) j ≡ Some b → i < j → a.entry < b.entry
learnt_rises most h i j a b first second lower = rises most h (length h) i j (origin_of a) (origin_of b) (all_origin most h i a first) (all_origin most h j b second) lower
