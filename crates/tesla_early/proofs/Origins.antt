-- Where the promises stand that were learnt: each was taught by one entry, and keeps its place.
use Rattle.std.proofs.Common.{◌≡◌, ◌≤◌, ◌<◌, ℕ, zero, suc, ◌+◌, ◌-◌, true, List, [], ◌∷◌, ◌++◌, length, map, Option, Some, None, refl, sym, ap, subst, ⊎_elim, ◌∙◌, ◌⊎◌, inl, inr, arith}
use Rattle.std.specs.Prelude.{slice_get}
use Rattle.std.proofs.lemmas.Bool.{cases_eq, cases_lt, cases_order}
use Rattle.std.proofs.lemmas.List.{drop_at}
use Rattle.std.proofs.lemmas.Option.{slice_get_within, same_Some}
use Rattle.tesla_base.proofs.Lists.{from_drop, slice_get-append}
use Rattle.tesla_early.specs.Payloads.{promise_of}
use Rattle.tesla_early.specs.declared.promise.Promise.{Promise}
use Rattle.tesla_receiver.specs.Entries.{Entry}
use Rattle.tesla_early.specs.Early.{learnt}
use Rattle.tesla_early.specs.Laws.{Taught, TaughtPromise, origin_of}
use Rattle.tesla_early.specs.Learnt.{Learnt}
use Rattle.tesla_early.proofs.Learnt.{learnt_past}
use Rattle.tesla_early.proofs.Steps.{before, origins, origins_taught, origins_step, origins_with, stays_used}

-- ---- elements of lists

got_behind : {A : Type 0} (xs ys : List A) (i : ℕ) → length xs ≤ i → slice_get (xs ++ ys) i ≡ slice_get ys (i - length xs)
got_behind xs ys i past =
    (let whole : i ≡ length xs + (i - length xs) = omega arith in ap (slice_get (xs ++ ys)) whole)
    ∙ sym (from_drop (xs ++ ys) (length xs) (i - length xs)) ∙ ap (λ zs. slice_get zs (i - length xs)) (drop_at xs ys (length xs) refl)

one_got : {A : Type 0} (x y : A) (i : ℕ) → slice_get (x ∷ []) i ≡ Some y → (i ≡ 0) × (x ≡ y)
one_got x y zero at = (refl, same_Some x y at)
one_got x y (suc i) at = absurd (cc)

pub origin_got : (ls : List Learnt) (index : ℕ) (it : Learnt) → slice_get ls index ≡ Some it → slice_get (map origin_of ls) index ≡ Some (origin_of it)
origin_got [] index it at = absurd (cc)
origin_got (x ∷ ls) zero it at = ap (λ y. Some (origin_of y)) (same_Some x it at)
origin_got (x ∷ ls) (suc index) it at = origin_got ls index it at

-- the promise at a place, told its origin
pub record HasOrigin (ls : List Learnt) (index : ℕ) (origin : ℕ × Promise) : Type 0 where
  pub it : Learnt
  pub at : slice_get ls index ≡ Some it
  pub origin_is : origin_of it ≡ origin

pub from_origin : (ls : List Learnt) (index : ℕ) (origin : ℕ × Promise) → slice_get (map origin_of ls) index ≡ Some origin → HasOrigin ls index origin
from_origin [] index origin at = absurd (cc)
from_origin (x ∷ ls) zero origin at = record { it = x; at = refl; origin_is = same_Some (origin_of x) origin at }
from_origin (x ∷ ls) (suc index) origin at = let later = from_origin ls index origin at in record { it = later.it; at = later.at; origin_is = later.origin_is }

-- ---- where a promise came from

-- an entry before taught it
pub record TaughtBefore (most : ℕ) (h : List Entry) (n : ℕ) (origin : ℕ × Promise) : Type 0 where
  pub earlier : origin.0 < n
  pub taught : TaughtPromise most h origin.0 origin.1

-- it stood there before the entry, or the entry taught it
added : (most : ℕ) (h : List Entry) (n : ℕ) (payload : List ℕ) (o : Option Promise) (index : ℕ) (origin : ℕ × Promise) → Taught most h n payload → promise_of payload ≡ o
    → slice_get (origins most h n ++ origins_with n o) index ≡ Some origin
    → (slice_get (origins most h n) index ≡ Some origin) ⊎ ((length (origins most h n) ≤ index) × (origin.0 ≡ n) × TaughtPromise most h origin.0 origin.1 × (index ≡ length (origins most h n)))
added most h n payload o index origin taught is at =
    ⊎_elim
    (λ within. inl (sym (slice_get-append (origins most h n) (origins_with n o) index within) ∙ at))
    (λ past. inr (last o is past (sym (got_behind (origins most h n) (origins_with n o) index past) ∙ at)))
    (cases_lt index (length (origins most h n)))
  where
    last : (o : Option Promise) → promise_of payload ≡ o → length (origins most h n) ≤ index → slice_get (origins_with n o) (index - length (origins most h n)) ≡ Some origin
        → (length (origins most h n) ≤ index) × (origin.0 ≡ n) × TaughtPromise most h origin.0 origin.1 × (index ≡ length (origins most h n))
    last None is past at = absurd (cc)
    last (Some promise) is past at =
        let got = one_got (n, promise) origin (index - length (origins most h n)) at in (
          past,
          ap (λ k. k.0) (sym got.1),
          subst (λ k. TaughtPromise most h k.0 k.1) got.1 (record { payload = payload; taught = taught; promise_is = is }),
          omega arith,
        )

-- what stands at a place after an entry stood there before, or the entry taught it
pub new_or_old : (most : ℕ) (h : List Entry) (n index : ℕ) (origin : ℕ × Promise) → slice_get (origins most h (suc n)) index ≡ Some origin
    → (slice_get (origins most h n) index ≡ Some origin) ⊎ ((length (origins most h n) ≤ index) × (origin.0 ≡ n) × TaughtPromise most h origin.0 origin.1 × (index ≡ length (origins most h n)))
new_or_old most h n index origin at =
    ⊎_elim
    (λ stays. inl (ap (λ ks. slice_get ks index) (sym stays) ∙ at))
    (λ taught. added most h n taught.0 (promise_of taught.0) index origin taught.1 refl (ap (λ ks. slice_get ks index) (sym (origins_taught most h n taught.0 taught.1)) ∙ at))
    (origins_step most h n)

none_before : (most : ℕ) (h : List Entry) → origins most h 0 ≡ []
unfolding learnt
none_before most h = refl

pub taught_from : (most : ℕ) (h : List Entry) (n index : ℕ) (origin : ℕ × Promise) → slice_get (origins most h n) index ≡ Some origin → TaughtBefore most h n origin
taught_from most h zero index origin at =
    let none : None ≡ Some origin = ap (λ ks. slice_get ks index) (sym (none_before most h)) ∙ at in absurd (cc)
taught_from most h (suc n) index origin at =
    ⊎_elim
    (λ old. let from = taught_from most h n index origin old in record { earlier = omega arith; taught = from.taught })
    (λ new. let same = new.1 in record { earlier = omega arith; taught = new.2 })
    (new_or_old most h n index origin at)

-- ---- order

-- later places are of later entries
pub rises : (most : ℕ) (h : List Entry) (n i j : ℕ) (a b : ℕ × Promise) → slice_get (origins most h n) i ≡ Some a → slice_get (origins most h n) j ≡ Some b → i < j → a.0 < b.0
rises most h zero i j a b first second lower =
    let none : None ≡ Some a = ap (λ ks. slice_get ks i) (sym (none_before most h)) ∙ first in absurd (cc)
rises most h (suc n) i j a b first second lower =
    ⊎_elim
    (λ old_first. ⊎_elim
    (λ old_second. rises most h n i j a b old_first old_second lower)
    (λ new_second. let from = taught_from most h n i a old_first in let last = new_second.1 in omega arith)
    (new_or_old most h n j b second))
    (λ new_first. ⊎_elim
    (λ old_second. let within = slice_get_within (origins most h n) j b old_second in let past = new_first.0 in absurd (omega arith))
    (λ new_second. let one = new_first.3 in let other = new_second.3 in absurd (omega arith))
    (new_or_old most h n j b second))
    (new_or_old most h n i a first)

-- no two places are of one entry
pub one_index : (most : ℕ) (h : List Entry) (n i j : ℕ) (a b : ℕ × Promise) → slice_get (origins most h n) i ≡ Some a → slice_get (origins most h n) j ≡ Some b → a.0 ≡ b.0 → i ≡ j
one_index most h n i j a b first second same =
    ⊎_elim
    (λ equal. equal)
    (⊎_elim
    (λ lower. let less = rises most h n i j a b first second lower in absurd (omega arith))
    (λ higher. let less = rises most h n j i b a second first higher in absurd (omega arith)))
    (cases_order i j)

-- ---- what stays

-- the promises learnt before an entry are a prefix of those learnt after it
grows_once : (most : ℕ) (h : List Entry) (n index : ℕ) (origin : ℕ × Promise) → slice_get (origins most h n) index ≡ Some origin → slice_get (origins most h (suc n)) index ≡ Some origin
grows_once most h n index origin at =
    ⊎_elim
    (λ stays. ap (λ ks. slice_get ks index) stays ∙ at)
    (λ taught. ap (λ ks. slice_get ks index) (origins_taught most h n taught.0 taught.1)
    ∙ slice_get-append (origins most h n) (origins_with n (promise_of taught.0)) index (slice_get_within (origins most h n) index origin at) ∙ at)
    (origins_step most h n)

-- a promise keeps its place
pub keeps_index : (most : ℕ) (h : List Entry) (n m index : ℕ) (origin : ℕ × Promise) → n ≤ m → slice_get (origins most h n) index ≡ Some origin → slice_get (origins most h m) index ≡ Some origin
keeps_index most h n zero index origin later at = let same : n ≡ 0 = omega arith in subst (λ k. slice_get (origins most h k) index ≡ Some origin) same at
keeps_index most h n (suc m) index origin later at =
    ⊎_elim
    (λ same. subst (λ k. slice_get (origins most h k) index ≡ Some origin) same at)
    (λ differs. grows_once most h m index origin (keeps_index most h n m index origin (omega arith) at))
    (cases_eq n (suc m))

-- a used promise stays used
pub keeps_used : (most : ℕ) (h : List Entry) (n m index : ℕ) (it : Learnt) → n ≤ m → slice_get (before most h n) index ≡ Some it → it.used ≡ true → (now : Learnt) × (slice_get (before most h m) index ≡ Some now) × (now.used ≡ true)
keeps_used most h n zero index it later at used = (it, (let same : n ≡ 0 = omega arith in subst (λ k. slice_get (before most h k) index ≡ Some it) same at), used)
keeps_used most h n (suc m) index it later at used =
    ⊎_elim
    (λ same. (it, subst (λ k. slice_get (before most h k) index ≡ Some it) same at, used))
    (λ differs. let now = keeps_used most h n m index it (omega arith) at used in stays_used most h m index now.0 now.1 now.2)
    (cases_eq n (suc m))

-- ---- all entries

pub origins_all : (most : ℕ) (h : List Entry) → origins most h (length h) ≡ map origin_of (learnt most h)
origins_all most h = ap (map origin_of) (learnt_past most h (length h) (omega arith))

-- the entry that taught has a place
pub taught_index : (most : ℕ) (h : List Entry) (entry : ℕ) (payload : List ℕ) (promise : Promise) → Taught most h entry payload → promise_of payload ≡ Some promise → slice_get (origins most h (suc entry)) (length (origins most h entry)) ≡ Some (entry, promise)
taught_index most h entry payload promise taught is =
    ap (λ ks. slice_get ks (length (origins most h entry))) (origins_taught most h entry payload taught ∙ ap (λ o. origins most h entry ++ origins_with entry o) is)
    ∙ got_behind (origins most h entry) ((entry, promise) ∷ []) (length (origins most h entry)) (omega arith)
    ∙ (let none : length (origins most h entry) - length (origins most h entry) ≡ 0 = omega arith in ap (slice_get ((entry, promise) ∷ [])) none)
