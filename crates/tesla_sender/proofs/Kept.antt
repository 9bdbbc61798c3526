-- The last keys of a chain.
use Rattle.std.proofs.Common.{◌≡◌, ℕ, zero, suc, ◌+◌, ◌-◌, ◌^◌, ◌<◌, ◌≤◌, List, [], ◌∷◌, ◌++◌, length, drop, Option, Some, None, refl, sym, ◌∙◌, ap, add-one, zero-add, inl, inr, append_assoc, arith}
use Rattle.std.specs.Prelude.{true, slice_get, nat_lt, if◌then◌else◌}
use Rattle.std.proofs.lemmas.Bool.{cases_lt, lt-ltb}
use Rattle.std.proofs.lemmas.List.{append-nil, length-append, length-drop, drop_all, drop-append-le, drop-drop}
use Rattle.circular_buffer.specs.Buffer.{Buffer, buffer, keep_last}
use Rattle.tesla_base.proofs.Lists.{slice_get-append}
use Rattle.tesla_base.specs.declared.names.Key.{Key}
use Rattle.tesla_prf.specs.Keys.{mac_of}
use Rattle.tesla_sender.specs.Made.{key_of}
use Rattle.tesla_sender.specs.Chains.{keys_after, keys_to, HasKept, IsUsed}
use Rattle.tesla_chain.specs.Traversal.{Traversing, IsOpened, HasComeTo, HasGiven, next_given}

-- ---- lists

-- an element behind the first ones
slice_get-drop : {A : Type 0} (n : ℕ) (xs : List A) (i : ℕ) → slice_get (drop n xs) i ≡ slice_get xs (n + i)
slice_get-drop zero xs i = ap (λ k. slice_get xs k) (sym (zero-add i))
slice_get-drop (suc n) [] i = refl
slice_get-drop (suc n) (x ∷ xs) i =
    let more : suc n + i ≡ suc (n + i) = omega arith in
    rw more (slice_get-drop n xs i)

-- the element behind the others
slice_get-end : {A : Type 0} (xs : List A) (x : A) (i : ℕ) → i ≡ length xs → slice_get (xs ++ x ∷ []) i ≡ Some x
slice_get-end [] x zero h = refl
slice_get-end [] x (suc i) h = absurd (omega arith)
slice_get-end (y ∷ xs) x zero h = absurd (omega arith)
slice_get-end (y ∷ xs) x (suc i) h = slice_get-end xs x i (omega arith)

-- of the last ones and others behind them, the last ones
keep_append : {A : Type 0} (c : ℕ) (xs ys : List A) → keep_last c (keep_last c xs ++ ys) ≡ keep_last c (xs ++ ys)
keep_append c xs ys =
    let a = length xs - c in
    let within : a ≤ length xs = omega arith in
    let joined : drop a xs ++ ys ≡ drop a (xs ++ ys) = sym (drop-append-le a xs ys within) in
    let b = length (drop a (xs ++ ys)) - c in
    let lengths : a + b ≡ length (xs ++ ys) - c = omega (arith, length-drop a (xs ++ ys), length-append xs ys) in
    ap (λ zs. drop (length zs - c) zs) joined ∙ drop-drop b a (xs ++ ys) ∙ ap (λ k. drop k (xs ++ ys)) lengths

-- the last ones, where there are so many behind the others
keep_behind : {A : Type 0} (c : ℕ) (xs ys : List A) → length ys ≡ c → keep_last c (xs ++ ys) ≡ ys
keep_behind c xs ys same =
    let place : length (xs ++ ys) - c ≡ length xs = omega (arith, length-append xs ys) in
    ap (λ k. drop k (xs ++ ys)) place ∙ drop-append-le (length xs) xs ys (omega arith) ∙ ap (λ zs. zs ++ ys) (drop_all (length xs) xs (omega arith))

-- ---- keys

drop_none : (n : ℕ) → drop {A = Key} n [] ≡ []
drop_none zero = refl
drop_none (suc n) = refl

pub keys_none : (last : ℕ) (seed : Key) → keys_to last seed 0 ≡ []
unfolding keys_to
keys_none last seed = refl

keys_more : (last : ℕ) (seed : Key) (n : ℕ) → keys_to last seed (n + 1) ≡ keys_to last seed n ++ key_of last seed (n + 1) ∷ []
unfolding keys_to
keys_more last seed n = rw add-one refl

keys_length : (last : ℕ) (seed : Key) (n : ℕ) → length (keys_to last seed n) ≡ n
unfolding keys_to
keys_length last seed zero = refl
keys_length last seed (suc n) = omega (arith, keys_length last seed n, length-append (keys_to last seed n) (key_of last seed (suc n) ∷ []))

key_at : (last : ℕ) (seed : Key) (n i : ℕ) → i < n → slice_get (keys_to last seed n) i ≡ Some (key_of last seed (i + 1))
unfolding keys_to
key_at last seed zero i h = absurd (omega arith)
key_at last seed (suc n) i h =
    let len = keys_length last seed n in
    elim (cases_lt i n) as (λ _. slice_get (keys_to last seed n ++ key_of last seed (suc n) ∷ []) i ≡ Some (key_of last seed (i + 1))) [
      | inl below ↦ slice_get-append (keys_to last seed n) (key_of last seed (suc n) ∷ []) i (omega (arith, len)) ∙ key_at last seed n i below
      | inr above ↦
          let at : i ≡ n = omega arith in
          let same : i + 1 ≡ suc n = omega arith in
          slice_get-end (keys_to last seed n) (key_of last seed (suc n)) i (omega (arith, len)) ∙ ap (λ k. Some (key_of last seed k)) (sym same)
    ]

none_after : (last : ℕ) (seed : Key) (from : ℕ) → keys_after last seed from 0 ≡ []
unfolding keys_after
none_after last seed from = refl

more_after : (last : ℕ) (seed : Key) (from n : ℕ) → keys_after last seed from (n + 1) ≡ keys_after last seed from n ++ key_of last seed (from + (n + 1)) ∷ []
unfolding keys_after
more_after last seed from n = rw add-one refl

count_after : (last : ℕ) (seed : Key) (from n : ℕ) → length (keys_after last seed from n) ≡ n
unfolding keys_after
count_after last seed from zero = refl
count_after last seed from (suc n) = omega (arith, count_after last seed from n, length-append (keys_after last seed from n) (key_of last seed (from + suc n) ∷ []))

-- the first keys, and those after them
joined : (last : ℕ) (seed : Key) (from n : ℕ) → keys_to last seed from ++ keys_after last seed from n ≡ keys_to last seed (from + n)
unfolding keys_to keys_after
joined last seed from zero =
    let none : from + 0 ≡ from = omega arith in
    rw none (append-nil (keys_to last seed from))
joined last seed from (suc n) =
    let more : from + suc n ≡ suc (from + n) = omega arith in
    rw more (sym (append_assoc (keys_to last seed from) (keys_after last seed from n) (key_of last seed (suc (from + n)) ∷ [])) ∙ ap (λ ks. ks ++ key_of last seed (suc (from + n)) ∷ []) (joined last seed from n))

-- how many there are
pub kept_count : (last : ℕ) (seed : Key) (n c : ℕ) (kept : List Key) → kept ≡ keep_last c (keys_to last seed n) → length kept + (n - c) ≡ n
kept_count last seed n c kept is =
    let len = keys_length last seed n in
    let same : length kept ≡ length (keep_last c (keys_to last seed n)) = ap length is in
    omega (arith, len, same, length-drop (length (keys_to last seed n) - c) (keys_to last seed n))

-- the one that was made so many before the last one
pub kept_key : (last : ℕ) (seed : Key) (n c back : ℕ) (kept : List Key) → kept ≡ keep_last c (keys_to last seed n) → back < c → back < n → slice_get kept (length kept - back - 1) ≡ Some (key_of last seed (n - back))
kept_key last seed n c back kept is near within =
    let len = keys_length last seed n in
    let count = kept_count last seed n c kept is in
    let from = length (keys_to last seed n) - c in
    let place : from + (length kept - back - 1) ≡ n - back - 1 = omega arith in
    let index : n - back - 1 + 1 ≡ n - back = omega arith in
    ap (λ ks. slice_get ks (length kept - back - 1)) is ∙ slice_get-drop from (keys_to last seed n) (length kept - back - 1)
    ∙ ap (λ k. slice_get (keys_to last seed n) k) place ∙ key_at last seed n (n - back - 1) (omega arith) ∙ ap (λ k. Some (key_of last seed k)) index

-- the same as it is looked up from the back
pub kept_back : (last : ℕ) (seed : Key) (n c back : ℕ) (kept : List Key) (found : Option Key) → kept ≡ keep_last c (keys_to last seed n) → back < c → back < n → found ≡ (if nat_lt back (length kept) then slice_get kept (length kept - back - 1) else None) → found ≡ Some (key_of last seed (n - back))
kept_back last seed n c back kept found is near within looked =
    let count = kept_count last seed n c kept is in
    let there : nat_lt back (length kept) ≡ true = lt-ltb back (length kept) (omega arith) in
    let chosen : found ≡ slice_get kept (length kept - back - 1) = rw there at looked in
    chosen ∙ kept_key last seed n c back kept is near within

-- what a traversal gives next
pub next_key : (traversal : Traversing) (key : Key) → traversal.given < traversal.last → Some key ≡ next_given traversal → key ≡ key_of traversal.last traversal.seed (traversal.given + 1)
next_key traversal key some is =
    let there : nat_lt traversal.given traversal.last ≡ true = lt-ltb traversal.given traversal.last some in
    let given : Some key ≡ Some (key_of traversal.last traversal.seed (traversal.given + 1)) = rw there at is in
    cc

-- ---- keys that are put into the ring

pub kept_none : (traversal : Traversing) (kept : Buffer Key) → length kept.items ≤ kept.capacity → HasKept 0 traversal traversal kept kept
kept_none traversal kept room = record {
  seed = refl;
  last = refl;
  given = omega arith;
  reserved = refl;
  kept =
      let whole : kept.items ++ keys_after traversal.last traversal.seed traversal.given 0 ≡ kept.items = ap (λ ks. kept.items ++ ks) (none_after traversal.last traversal.seed traversal.given) ∙ append-nil kept.items in
      let all : length kept.items - kept.capacity ≡ 0 = omega arith in
      sym (ap (λ ks. buffer (keep_last kept.capacity ks) kept.capacity) whole ∙ ap (λ k. buffer (drop k kept.items) kept.capacity) all);
}

pub kept_more : (count : ℕ) (start before after : Traversing) (kept now more : Buffer Key) (key : Key) → HasKept count start before kept now → before.given < before.last → HasGiven before after → after.reserved ≡ before.reserved → Some key ≡ next_given before → more ≡ buffer (keep_last now.capacity (now.items ++ key ∷ [])) now.capacity → HasKept (count + 1) start after kept more
kept_more count start before after kept now more key is some gives same given pushed =
    let keys = keys_after start.last start.seed start.given in
    let index : before.given + 1 ≡ start.given + (count + 1) = omega (arith, is.given) in
    let next : key ≡ key_of start.last start.seed (start.given + (count + 1)) =
    next_key before key some given ∙ ap (λ l. key_of l before.seed (before.given + 1)) is.last ∙ ap (λ s. key_of start.last s (before.given + 1)) is.seed ∙ ap (key_of start.last start.seed) index in
    let c = kept.capacity in
    let room : now.capacity ≡ c = ap (λ (b : Buffer Key). b.capacity) is.kept in
    let items : now.items ≡ keep_last c (kept.items ++ keys count) = ap (λ (b : Buffer Key). b.items) is.kept in
    record {
      seed = gives.seed ∙ is.seed;
      last = gives.last ∙ is.last;
      given = gives.given ∙ index;
      reserved = same ∙ is.reserved;
      kept =
          pushed ∙ ap (λ n. buffer (keep_last n (now.items ++ key ∷ [])) n) room
          ∙ ap (λ ks. buffer ks c)
          (ap (λ ks. keep_last c (ks ++ key ∷ [])) items ∙ keep_append c (kept.items ++ keys count) (key ∷ [])
          ∙ ap (keep_last c) (append_assoc kept.items (keys count) (key ∷ []) ∙ ap (λ k. kept.items ++ (keys count ++ k ∷ [])) next ∙ ap (λ ks. kept.items ++ ks) (sym (more_after start.last start.seed start.given count))));
    }

-- what is true of each chain, once the keys up to that of another index were made
used_to : (delay last : ℕ) (before after : Traversing) (kept now : Buffer Key) (reached index tagging : ℕ) (prepared : Key) → IsUsed delay last before kept reached tagging prepared → after.seed ≡ before.seed → after.last ≡ before.last → after.given ≡ index → index ≤ last → now.capacity ≡ kept.capacity → now.items ≡ keep_last (delay + 2) (keys_to before.last before.seed index) → IsUsed delay last after now index tagging prepared
used_to delay last before after kept now reached index tagging prepared used seed whole given within room items =
    let same : (n : ℕ) → key_of after.last after.seed n ≡ key_of before.last before.seed n = λ n. ap (λ l. key_of l after.seed n) whole ∙ ap (λ s. key_of before.last s n) seed in
    record {
      given = given;
      whole = whole ∙ used.whole;
      some = omega (arith, used.some, whole);
      within = omega (arith, used.whole, whole);
      most = omega (arith, used.most, whole);
      capacity = room ∙ used.capacity;
      keys = items ∙ sym (ap (λ l. keep_last (delay + 2) (keys_to l after.seed index)) whole ∙ ap (λ s. keep_last (delay + 2) (keys_to before.last s index)) seed);
      mac = λ h. used.mac h ∙ ap mac_of (sym (same tagging));
    }

-- where each key on the way was put into the ring
pub used_near : (delay last : ℕ) (before after : Traversing) (kept now : Buffer Key) (reached count index tagging : ℕ) (prepared : Key) → IsUsed delay last before kept reached tagging prepared → HasKept count before after kept now → reached + count ≡ index → index ≤ last → IsUsed delay last after now index tagging prepared
used_near delay last before after kept now reached count index tagging prepared used is way within =
    let keys = keys_after before.last before.seed in
    let items : now.items ≡ keep_last kept.capacity (kept.items ++ keys before.given count) = ap (λ (b : Buffer Key). b.items) is.kept in
    used_to delay last before after kept now reached index tagging prepared used is.seed is.last (omega (arith, is.given, used.given)) within (ap (λ (b : Buffer Key). b.capacity) is.kept)
    (items ∙ ap (λ c. keep_last c (kept.items ++ keys before.given count)) used.capacity ∙ ap (λ n. keep_last (delay + 2) (kept.items ++ keys n count)) used.given
    ∙ ap (λ ks. keep_last (delay + 2) (ks ++ keys reached count)) used.keys ∙ keep_append (delay + 2) (keys_to before.last before.seed reached) (keys reached count)
    ∙ ap (keep_last (delay + 2)) (joined before.last before.seed reached count) ∙ ap (λ n. keep_last (delay + 2) (keys_to before.last before.seed n)) way)

-- where only the last ones were
pub used_far : (delay last : ℕ) (before middle after : Traversing) (kept now : Buffer Key) (reached from index tagging : ℕ) (prepared : Key) → IsUsed delay last before kept reached tagging prepared → HasComeTo from before middle → HasKept (delay + 2) middle after kept now → from + (delay + 2) ≡ index → index ≤ last → IsUsed delay last after now index tagging prepared
used_far delay last before middle after kept now reached from index tagging prepared used comes is way within =
    let keys : List Key = keys_after before.last before.seed from (delay + 2) in
    let size : length keys ≡ delay + 2 = count_after before.last before.seed from (delay + 2) in
    let same : keys_after middle.last middle.seed middle.given (delay + 2) ≡ keys =
    ap (λ l. keys_after l middle.seed middle.given (delay + 2)) comes.last ∙ ap (λ s. keys_after before.last s middle.given (delay + 2)) comes.seed ∙ ap (λ n. keys_after before.last before.seed n (delay + 2)) comes.given in
    let items : now.items ≡ keep_last kept.capacity (kept.items ++ keys_after middle.last middle.seed middle.given (delay + 2)) = ap (λ (b : Buffer Key). b.items) is.kept in
    used_to delay last before after kept now reached index tagging prepared used (is.seed ∙ comes.seed) (is.last ∙ comes.last) (omega (arith, is.given, comes.given)) within (ap (λ (b : Buffer Key). b.capacity) is.kept)
    (items ∙ ap (λ c. keep_last c (kept.items ++ keys_after middle.last middle.seed middle.given (delay + 2))) used.capacity ∙ ap (λ ks. keep_last (delay + 2) (kept.items ++ ks)) same
    ∙ keep_behind (delay + 2) kept.items keys size ∙ sym (keep_behind (delay + 2) (keys_to before.last before.seed from) keys size)
    ∙ ap (keep_last (delay + 2)) (joined before.last before.seed from (delay + 2)) ∙ ap (λ n. keep_last (delay + 2) (keys_to before.last before.seed n)) way)

-- what is true of a chain of which no key was made yet
pub used_none : (delay last : ℕ) (seed prepared : Key) (traversal : Traversing) (kept : Buffer Key) → IsOpened seed last traversal → 1 ≤ last → last ≤ 2 ^ 20 → kept ≡ buffer [] (delay + 2) → IsUsed delay last traversal kept 0 0 prepared
used_none delay last seed prepared traversal kept is some most empty =
    record {
      given = is.given;
      whole = is.last;
      some = omega (arith, is.last);
      within = omega arith;
      most = omega (arith, is.last);
      capacity = ap (λ (b : Buffer Key). b.capacity) empty;
      keys =
          ap (λ (b : Buffer Key). b.items) empty
          ∙ sym (ap (keep_last (delay + 2)) (keys_none traversal.last traversal.seed) ∙ drop_none (0 - (delay + 2)));
      mac = λ h. absurd (omega arith);
    }
