-- All lists in their rings, after a number was appended to one, and after one was removed.
use Rattle.std.proofs.Common.{◌≡◌, ℕ, ◌+◌, ◌-◌, ◌^◌, ◌<◌, ◌≤◌, true, false, List, [], ◌∷◌, ◌++◌, length, get_or, map, replicate, Some, None, refl, sym, ap, subst, ◌∙◌, arith, ⊎_elim}
use Rattle.std.specs.Prelude.{slice_get}
use Rattle.std.specs.List.{list_any, range_with_len}
use Rattle.std.proofs.Math.ListN.{set}
use Rattle.std.proofs.lemmas.Bool.{cases_Bool, cases_eq, false≢true}
use Rattle.std.proofs.lemmas.List.{get_or-map, get_or-replicate, get_or-set_other, get_or-set_same, get_or_read, length-append, length-map, length-replicate, length-set, map-id}
use Rattle.std.proofs.lemmas.List.FromFn.{get_or-range_with_len, length-range_with_len, map-range_with_len_more}
use Rattle.tesla_base.specs.Members.{Distinct, is_in, next_in, without}
use Rattle.tesla_links.specs.Lists.{Lists, list_of}
use Rattle.tesla_links.specs.declared.links.Links.TheInside.{Inside}
use Rattle.tesla_links.specs.Rings.{Chain, IsLinked, IsRing, Owned, lists_of}
use Rattle.tesla_base.proofs.Members.{apart, apart_from, differs, distinct_push, distinct_short, distinct_split, in_cases, in_prefix, in_here, in_no_list, in_rest, in_there, list_with, split_at, without_none, without_split}
use Rattle.tesla_links.proofs.Rings.{chain_append, chain_cut, chain_kept, chain_split, first_in, first_none, first_some, last_in, lists_of_is, next_none, next_some}

-- ---- owners

-- a number of a list is below `slot_count` and belongs to it
pub owned_in : (slot_count : ℕ) (owners : List ℕ) (k : ℕ) (xs : List ℕ) (n : ℕ) → Owned slot_count owners k xs → is_in n xs ≡ true → (n < slot_count) × (get_or owners n 0 ≡ k)
owned_in slot_count owners k [] n o i = absurd (false≢true i)
owned_in slot_count owners k (x ∷ xs) n o i =
    ⊎_elim (λ (e : x ≡ n). let within : n < slot_count = subst (λ m. m < slot_count) e o.0 in (within, ap (λ m. get_or owners m 0) (sym e) ∙ o.1))
    (λ (more : is_in n xs ≡ true). owned_in slot_count owners k xs n o.2 more)
    (in_cases x n xs i)

-- a number that doesn't belong to a list isn't in it
pub owned_apart : (slot_count : ℕ) (owners : List ℕ) (k : ℕ) (xs : List ℕ) (n : ℕ) → Owned slot_count owners k xs → (n < slot_count → get_or owners n 0 ≡ k → ⊥) → is_in n xs ≡ false
owned_apart slot_count owners k xs n o other =
    ⊎_elim (λ (i : is_in n xs ≡ true). let own = owned_in slot_count owners k xs n o i in absurd (other own.0 own.1))
    (λ (i : is_in n xs ≡ false). i)
    (cases_Bool (is_in n xs))

-- another number gets an owner
pub owned_set : (slot_count : ℕ) (owners : List ℕ) (k : ℕ) (xs : List ℕ) (p v : ℕ) → Owned slot_count owners k xs → is_in p xs ≡ false → Owned slot_count (set owners p v) k xs
owned_set slot_count owners k [] p v o none = tt
owned_set slot_count owners k (x ∷ xs) p v o none =
    let parts = apart x p xs none in
    (o.0, get_or-set_other owners p x v 0 parts.0 ∙ o.1, owned_set slot_count owners k xs p v o.2 parts.1)

-- one number more
owned_push : (slot_count : ℕ) (owners : List ℕ) (k : ℕ) (xs : List ℕ) (p : ℕ) → Owned slot_count owners k xs → p < slot_count → get_or owners p 0 ≡ k → Owned slot_count owners k (xs ++ p ∷ [])
owned_push slot_count owners k [] p o within own = (within, own, tt)
owned_push slot_count owners k (x ∷ xs) p o within own = (o.0, o.1, owned_push slot_count owners k xs p o.2 within own)

-- one number less
owned_cut : (slot_count : ℕ) (owners : List ℕ) (k : ℕ) (prefix : List ℕ) (p : ℕ) (rest : List ℕ) → Owned slot_count owners k (prefix ++ p ∷ rest) → Owned slot_count owners k (prefix ++ rest)
owned_cut slot_count owners k [] p rest o = o.2
owned_cut slot_count owners k (x ∷ prefix) p rest o = (o.0, o.1, owned_cut slot_count owners k prefix p rest o.2)

-- ---- a ring

-- the head of a ring isn't in its list
pub head_apart : (slot_count : ℕ) (owners : List ℕ) (k : ℕ) (xs : List ℕ) (j : ℕ) → Owned slot_count owners k xs → is_in (slot_count + j) xs ≡ false
head_apart slot_count owners k xs j o = owned_apart slot_count owners k xs (slot_count + j) o (λ below _. absurd (omega arith))

-- the nodes of a ring are nodes of the tables
pub node_within : (slot_count : ℕ) (owners : List ℕ) (k : ℕ) (xs : List ℕ) (n lists : ℕ) → Owned slot_count owners k xs → k < lists → is_in n ((slot_count + k) ∷ xs) ≡ true → n < slot_count + lists
node_within slot_count owners k xs n lists o below i =
    ⊎_elim (λ (e : slot_count + k ≡ n). omega arith)
    (λ (more : is_in n xs ≡ true). omega (arith, (owned_in slot_count owners k xs n o more).0))
    (in_cases (slot_count + k) n xs i)

-- another ring's head is no node of a ring
other_head : (slot_count : ℕ) (owners : List ℕ) (k j : ℕ) (xs : List ℕ) (n : ℕ) → Owned slot_count owners k xs → (j ≡ k → ⊥) → is_in n ((slot_count + k) ∷ xs) ≡ true → slot_count + j ≡ n → ⊥
other_head slot_count owners k j xs n o ne i =
    let apart_head : slot_count + k ≡ slot_count + j → ⊥ = λ e. ne (omega arith) in
    differs n (slot_count + j) ((slot_count + k) ∷ xs) i (apart_from (slot_count + k) (slot_count + j) xs apart_head (head_apart slot_count owners k xs j o))

-- another list's number is no node of a ring
other_node : (slot_count : ℕ) (owners : List ℕ) (k j : ℕ) (xs ys : List ℕ) (n m : ℕ) → Owned slot_count owners k xs → Owned slot_count owners j ys → (j ≡ k → ⊥) → is_in n ((slot_count + k) ∷ xs) ≡ true → is_in m ys ≡ true → m ≡ n → ⊥
other_node slot_count owners k j xs ys n m o q ne i l =
    let own = owned_in slot_count owners j ys m q l in
    let within : m < slot_count = own.0 in
    let no_head : slot_count + k ≡ m → ⊥ = λ e. absurd (omega arith) in
    differs n m ((slot_count + k) ∷ xs) i (apart_from (slot_count + k) m xs no_head (owned_apart slot_count owners k xs m o (λ _ same. ne (sym own.1 ∙ same))))

-- a ring of an equal list
ring_is : (slot_count : ℕ) (after before owners : List ℕ) (k n m : ℕ) (xs ys : List ℕ) → IsRing slot_count after before owners k n xs → m ≡ n → ys ≡ xs → IsRing slot_count after before owners k m ys
ring_is slot_count after before owners k n m xs ys r e f =
    subst (λ zs. IsRing slot_count after before owners k m zs) (sym f) (subst (λ c. IsRing slot_count after before owners k c xs) (sym e) r)

-- ---- a number is appended

module _ (slot_count : ℕ) (after before owners counts : List ℕ) (lists : List (List ℕ)) (k p : ℕ) where
  abbrev last : ℕ
  last = get_or before (slot_count + k) 0

  abbrev after_append : List ℕ
  after_append = set (set after last p) p (slot_count + k)

  abbrev before_append : List ℕ
  before_append = set (set before p last) (slot_count + k) p

  -- the node before a head is a node of the tables
  pub last_within : IsLinked slot_count after before owners counts lists → k < length lists → get_or before (slot_count + k) 0 < slot_count + length lists
  last_within h below =
      let ring = h.each k below in
      node_within slot_count owners k (get_or lists k []) last (length lists) ring.owned below (last_in after before (slot_count + k) (get_or lists k []) (slot_count + k) ring.chain)

  kept_after : (n : ℕ) → (n ≡ last → ⊥) → (n ≡ p → ⊥) → get_or after_append n 0 ≡ get_or after n 0
  kept_after n a b = get_or-set_other (set after last p) p n (slot_count + k) 0 b ∙ get_or-set_other after last n p 0 a

  kept_before : (n : ℕ) → (n ≡ slot_count + k → ⊥) → (n ≡ p → ⊥) → get_or before_append n 0 ≡ get_or before n 0
  kept_before n a b = get_or-set_other (set before p last) (slot_count + k) n p 0 a ∙ get_or-set_other before p n last 0 b

  ring_appended : IsLinked slot_count after before owners counts lists → k < length lists → p < slot_count → list_any (is_in p) lists ≡ false
      → IsRing slot_count after_append before_append (set owners p k) k (get_or counts k 0 + 1) (get_or lists k [] ++ p ∷ [])
  ring_appended h below within none =
      let xs = get_or lists k [] in
      let ring = h.each k below in
      let absent : is_in p xs ≡ false = in_no_list p lists k none in
      let headless : is_in (slot_count + k) xs ≡ false = head_apart slot_count owners k xs k ring.owned in
      let p_head : p ≡ slot_count + k → ⊥ = λ e. absurd (omega arith) in
      let p_apart : is_in p ((slot_count + k) ∷ xs) ≡ false = apart_from (slot_count + k) p xs (λ e. p_head (sym e)) absent in
      let is_last = last_in after before (slot_count + k) xs (slot_count + k) ring.chain in
      let p_last : p ≡ last → ⊥ = differs last p ((slot_count + k) ∷ xs) is_last p_apart in
      let last_below : last < slot_count + length lists = last_within h below in
      record {
        chain = chain_append after before after_append before_append p (slot_count + k) xs (slot_count + k) ring.chain (headless, ring.distinct) headless p_apart
            (get_or-set_other (set after last p) p last (slot_count + k) 0 (λ e. p_last (sym e)) ∙ get_or-set_same after last p 0 (omega (arith, h.after_each)))
            (get_or-set_same (set after last p) p (slot_count + k) 0 (omega (arith, h.after_each, length-set after last p)))
            (get_or-set_other (set before p last) (slot_count + k) p p 0 p_head ∙ get_or-set_same before p last 0 (omega (arith, h.before_each)))
            (get_or-set_same (set before p last) (slot_count + k) p 0 (omega (arith, h.before_each, length-set before p last)))
            kept_after
            kept_before;
        owned = owned_push slot_count (set owners p k) k xs p (owned_set slot_count owners k xs p k ring.owned absent) within (get_or-set_same owners p k 0 (omega (arith, h.owned)));
        distinct = distinct_push xs p ring.distinct absent;
        counted = ap (λ n. n + 1) ring.counted ∙ sym (length-append xs (p ∷ []));
      }

  ring_beside : IsLinked slot_count after before owners counts lists → k < length lists → p < slot_count → list_any (is_in p) lists ≡ false
      → (j : ℕ) → j < length lists → (j ≡ k → ⊥) → IsRing slot_count after_append before_append (set owners p k) j (get_or counts j 0) (get_or lists j [])
  ring_beside h below within none j inside ne =
      let xs = get_or lists k [] in
      let ys = get_or lists j [] in
      let ring = h.each k below in
      let other = h.each j inside in
      let absent : is_in p ys ≡ false = in_no_list p lists j none in
      let is_last = last_in after before (slot_count + k) xs (slot_count + k) ring.chain in
      let head_p : slot_count + j ≡ p → ⊥ = λ e. absurd (omega arith) in
      let heads : slot_count + j ≡ slot_count + k → ⊥ = λ e. ne (omega arith) in
      record {
        chain = chain_kept after before after_append before_append (slot_count + j) ys (slot_count + j) other.chain
            (kept_after (slot_count + j) (other_head slot_count owners k j xs last ring.owned ne is_last) head_p)
            (λ n i. kept_after n (other_node slot_count owners k j xs ys last n ring.owned other.owned ne is_last i) (λ e. differs n p ys i absent (sym e)))
            (λ n i. kept_before n (λ e. differs n (slot_count + k) ys i (head_apart slot_count owners j ys k other.owned) (sym e)) (λ e. differs n p ys i absent (sym e)))
            (kept_before (slot_count + j) heads head_p);
        owned = owned_set slot_count owners j ys p k other.owned absent;
        distinct = other.distinct;
        counted = other.counted;
      }

  appended : IsLinked slot_count after before owners counts lists → k < length lists → p < slot_count → list_any (is_in p) lists ≡ false
      → IsLinked slot_count after_append before_append (set owners p k) (set counts k (get_or counts k 0 + 1)) (set lists k (get_or lists k [] ++ p ∷ []))
  appended h below within none =
      let counts' = set counts k (get_or counts k 0 + 1) in
      let lists' = set lists k (get_or lists k [] ++ p ∷ []) in
      let Ring : ℕ → Type 0 = λ j. IsRing slot_count after_append before_append (set owners p k) j (get_or counts' j 0) (get_or lists' j []) in
      let same : length lists' ≡ length lists = length-set lists k (get_or lists k [] ++ p ∷ []) in
      record {
        small = h.small;
        few = omega (arith, h.few);
        after_each = omega (arith, length-set (set after last p) p (slot_count + k), length-set after last p, h.after_each);
        before_each = omega (arith, length-set (set before p last) (slot_count + k) p, length-set before p last, h.before_each);
        owned = length-set owners p k ∙ h.owned;
        counted = omega (arith, length-set counts k (get_or counts k 0 + 1), h.counted);
        each = λ j inside.
            ⊎_elim
            (λ (e : j ≡ k). subst Ring (sym e) (ring_is slot_count after_append before_append (set owners p k) k _ _ _ _ (ring_appended h below within none)
            (get_or-set_same counts k (get_or counts k 0 + 1) 0 (omega (arith, h.counted)))
            (get_or-set_same lists k (get_or lists k [] ++ p ∷ []) [] below)))
            (λ (ne : j ≡ k → ⊥). ring_is slot_count after_append before_append (set owners p k) j _ _ _ _ (ring_beside h below within none j (omega arith) ne)
            (get_or-set_other counts k j (get_or counts k 0 + 1) 0 ne)
            (get_or-set_other lists k j (get_or lists k [] ++ p ∷ []) [] ne))
            (cases_eq j k);
      }

  -- with the node and the count as they were read
  pub append_keeps : (l n : ℕ) → l ≡ get_or before (slot_count + k) 0 → n ≡ get_or counts k 0 → IsLinked slot_count after before owners counts lists → k < length lists → p < slot_count → list_any (is_in p) lists ≡ false
      → IsLinked slot_count (set (set after l p) p (slot_count + k)) (set (set before p l) (slot_count + k) p) (set owners p k) (set counts k (n + 1)) (set lists k (get_or lists k [] ++ p ∷ []))
  append_keeps l n el en h below within none =
      let Keeps : ℕ → ℕ → Type 0 = λ u v. IsLinked slot_count (set (set after u p) p (slot_count + k)) (set (set before p u) (slot_count + k) p) (set owners p k) (set counts k (v + 1)) (set lists k (get_or lists k [] ++ p ∷ [])) in
      subst (λ u. Keeps u n) (sym el) (subst (λ v. Keeps (get_or before (slot_count + k) 0) v) (sym en) (appended h below within none))

  -- a list is no longer than there are slots
  pub count_within : IsLinked slot_count after before owners counts lists → k < length lists → get_or counts k 0 ≤ slot_count
  count_within h below =
      let ring = h.each k below in
      omega (arith, ring.counted, distinct_short slot_count (get_or lists k []) ring.distinct (λ x i. (owned_in slot_count owners k (get_or lists k []) x ring.owned i).0))

-- ---- a number is removed

-- where a number stands that stands in some list
pub record Placed (slot_count : ℕ) (after before owners counts : List ℕ) (lists : List (List ℕ)) (p : ℕ) : Type 0 where
  pub within : p < slot_count
  pub list : get_or owners p 0 < length lists
  pub member : is_in p (get_or lists (get_or owners p 0) []) ≡ true
  pub some : 1 ≤ get_or counts (get_or owners p 0) 0
  pub is_before : is_in (get_or before p 0) ((slot_count + get_or owners p 0) ∷ get_or lists (get_or owners p 0) []) ≡ true
  pub is_after : is_in (get_or after p 0) ((slot_count + get_or owners p 0) ∷ get_or lists (get_or owners p 0) []) ≡ true
  pub before_within : get_or before p 0 < slot_count + length lists
  pub after_within : get_or after p 0 < slot_count + length lists
  pub apart : (j : ℕ) → j < length lists → (j ≡ get_or owners p 0 → ⊥) → is_in p (get_or lists j []) ≡ false

-- the nodes beside a node of a chain
beside : (after before : List ℕ) (from : ℕ) (xs : List ℕ) (p : ℕ) → Chain after before from xs from → is_in p xs ≡ true → (is_in (get_or before p 0) (from ∷ xs) ≡ true) × (is_in (get_or after p 0) (from ∷ xs) ≡ true) × (1 ≤ length xs)
beside after before from xs p c i =
    let s = split_at p xs i in
    let halves = chain_split after before from s.0 p s.1 from (subst (λ ys. Chain after before from ys from) s.2 c) in
    let In : ℕ → List ℕ → Type 0 = λ n ys. is_in n (from ∷ ys) ≡ true in
    let b : is_in (get_or before p 0) (from ∷ (s.0 ++ p ∷ s.1)) ≡ true = in_prefix (get_or before p 0) (from ∷ s.0) (p ∷ s.1) (last_in after before from s.0 p halves.0) in
    let n = get_or after p 0 in
    let a : is_in n (from ∷ (s.0 ++ p ∷ s.1)) ≡ true =
    ⊎_elim (λ (e : from ≡ n). subst (λ m. is_in m (from ∷ (s.0 ++ p ∷ s.1)) ≡ true) e (in_here from (s.0 ++ p ∷ s.1)))
    (λ (more : is_in n s.1 ≡ true). in_there from n (s.0 ++ p ∷ s.1) (in_rest n s.0 (p ∷ s.1) (in_there p n s.1 more)))
    (in_cases from n s.1 (first_in after before p s.1 from halves.1)) in
    (subst (In (get_or before p 0)) (sym s.2) b, subst (In n) (sym s.2) a, omega (arith, ap length s.2, length-append s.0 (p ∷ s.1)))

pub placed : (slot_count : ℕ) (after before owners counts : List ℕ) (lists : List (List ℕ)) (p : ℕ) → IsLinked slot_count after before owners counts lists → list_any (is_in p) lists ≡ true → Placed slot_count after before owners counts lists p
placed slot_count after before owners counts lists p h i =
    let found = list_with p lists i in
    let here = h.each found.0 found.1 in
    let own = owned_in slot_count owners found.0 (get_or lists found.0 []) p here.owned found.2 in
    let k = get_or owners p 0 in
    let below : k < length lists = omega (arith, own.1, found.1) in
    let member : is_in p (get_or lists k []) ≡ true = subst (λ j. is_in p (get_or lists j []) ≡ true) (sym own.1) found.2 in
    let ring = h.each k below in
    let sides = beside after before (slot_count + k) (get_or lists k []) p ring.chain member in
    record {
      within = own.0;
      list = below;
      member = member;
      some = omega (arith, sides.2, ring.counted);
      is_before = sides.0;
      is_after = sides.1;
      before_within = node_within slot_count owners k (get_or lists k []) (get_or before p 0) (length lists) ring.owned below sides.0;
      after_within = node_within slot_count owners k (get_or lists k []) (get_or after p 0) (length lists) ring.owned below sides.1;
      apart = λ j inside ne. owned_apart slot_count owners j (get_or lists j []) p (h.each j inside).owned (λ _ same. ne (sym same));
    }

module _ (slot_count : ℕ) (after before owners counts : List ℕ) (lists : List (List ℕ)) (p : ℕ) where
  abbrev after_cut : List ℕ
  after_cut = set after (get_or before p 0) (get_or after p 0)

  abbrev before_cut : List ℕ
  before_cut = set before (get_or after p 0) (get_or before p 0)

  ring_cut : IsLinked slot_count after before owners counts lists → Placed slot_count after before owners counts lists p
      → IsRing slot_count after_cut before_cut owners (get_or owners p 0) (get_or counts (get_or owners p 0) 0 - 1) (without p (get_or lists (get_or owners p 0) []))
  ring_cut h here =
      let k = get_or owners p 0 in
      let xs = get_or lists k [] in
      let ring = h.each k here.list in
      let s = split_at p xs here.member in
      let prefix = s.0 in
      let rest = s.1 in
      let whole : Chain after before (slot_count + k) (prefix ++ p ∷ rest) (slot_count + k) = subst (λ ys. Chain after before (slot_count + k) ys (slot_count + k)) s.2 ring.chain in
      let owned : Owned slot_count owners k (prefix ++ p ∷ rest) = subst (λ ys. Owned slot_count owners k ys) s.2 ring.owned in
      let distinct : Distinct (prefix ++ p ∷ rest) = subst (λ ys. Distinct ys) s.2 ring.distinct in
      let halves = chain_split after before (slot_count + k) prefix p rest (slot_count + k) whole in
      let headless : is_in (slot_count + k) (prefix ++ p ∷ rest) ≡ false = head_apart slot_count owners k (prefix ++ p ∷ rest) k owned in
      let left : without p xs ≡ prefix ++ rest = ap (without p) s.2 ∙ without_split p prefix rest distinct in
      let size : get_or counts k 0 ≡ length (prefix ++ p ∷ rest) = ring.counted ∙ ap length s.2 in
      ring_is slot_count after_cut before_cut owners k (get_or counts k 0 - 1) (get_or counts k 0 - 1) (prefix ++ rest) (without p xs)
      (record {
        chain = chain_cut after before after_cut before_cut (slot_count + k) prefix p rest (slot_count + k) halves.0 halves.1 (headless, distinct) headless
            (get_or-set_same after (get_or before p 0) (get_or after p 0) 0 (omega (arith, h.after_each, here.before_within)))
            (get_or-set_same before (get_or after p 0) (get_or before p 0) 0 (omega (arith, h.before_each, here.after_within)))
            (λ n ne. get_or-set_other after (get_or before p 0) n (get_or after p 0) 0 ne)
            (λ n ne. get_or-set_other before (get_or after p 0) n (get_or before p 0) 0 ne);
        owned = owned_cut slot_count owners k prefix p rest owned;
        distinct = (distinct_split p prefix rest distinct).2;
        counted = omega (arith, size, length-append prefix (p ∷ rest), length-append prefix rest);
      })
      refl left

  ring_aside : IsLinked slot_count after before owners counts lists → Placed slot_count after before owners counts lists p
      → (j : ℕ) → j < length lists → (j ≡ get_or owners p 0 → ⊥) → IsRing slot_count after_cut before_cut owners j (get_or counts j 0) (without p (get_or lists j []))
  ring_aside h here j inside ne =
      let k = get_or owners p 0 in
      let xs = get_or lists k [] in
      let ys = get_or lists j [] in
      let ring = h.each k here.list in
      let other = h.each j inside in
      ring_is slot_count after_cut before_cut owners j (get_or counts j 0) (get_or counts j 0) ys (without p ys)
      (record {
        chain = chain_kept after before after_cut before_cut (slot_count + j) ys (slot_count + j) other.chain
            (get_or-set_other after (get_or before p 0) (slot_count + j) (get_or after p 0) 0 (other_head slot_count owners k j xs (get_or before p 0) ring.owned ne here.is_before))
            (λ n i. get_or-set_other after (get_or before p 0) n (get_or after p 0) 0 (other_node slot_count owners k j xs ys (get_or before p 0) n ring.owned other.owned ne here.is_before i))
            (λ n i. get_or-set_other before (get_or after p 0) n (get_or before p 0) 0 (other_node slot_count owners k j xs ys (get_or after p 0) n ring.owned other.owned ne here.is_after i))
            (get_or-set_other before (get_or after p 0) (slot_count + j) (get_or before p 0) 0 (other_head slot_count owners k j xs (get_or after p 0) ring.owned ne here.is_after));
        owned = other.owned;
        distinct = other.distinct;
        counted = other.counted;
      })
      refl (without_none p ys (here.apart j inside ne))

  removed : IsLinked slot_count after before owners counts lists → Placed slot_count after before owners counts lists p
      → IsLinked slot_count after_cut before_cut owners (set counts (get_or owners p 0) (get_or counts (get_or owners p 0) 0 - 1)) (map (without p) lists)
  removed h here =
      let k = get_or owners p 0 in
      let fewer = get_or counts k 0 - 1 in
      let Ring : ℕ → Type 0 = λ j. IsRing slot_count after_cut before_cut owners j (get_or (set counts k fewer) j 0) (get_or (map (without p) lists) j []) in
      let same : length (map (without p) lists) ≡ length lists = length-map lists (without p) in
      record {
        small = h.small;
        few = omega (arith, h.few);
        after_each = omega (arith, length-set after (get_or before p 0) (get_or after p 0), h.after_each);
        before_each = omega (arith, length-set before (get_or after p 0) (get_or before p 0), h.before_each);
        owned = h.owned;
        counted = omega (arith, length-set counts k fewer, h.counted);
        each = λ j inside.
            ⊎_elim
            (λ (e : j ≡ k). subst Ring (sym e) (ring_is slot_count after_cut before_cut owners k _ _ _ _ (ring_cut h here)
            (get_or-set_same counts k fewer 0 (omega (arith, h.counted, here.list)))
            (get_or-map (without p) lists k [] [] here.list)))
            (λ (ne : j ≡ k → ⊥). ring_is slot_count after_cut before_cut owners j _ _ _ _ (ring_aside h here j (omega arith) ne)
            (get_or-set_other counts k j fewer 0 ne)
            (get_or-map (without p) lists j [] [] (omega arith)))
            (cases_eq j k);
      }

  -- with the nodes, the list and the count as they were read
  pub remove_keeps : (a b k n : ℕ) → a ≡ get_or after p 0 → b ≡ get_or before p 0 → k ≡ get_or owners p 0 → n ≡ get_or counts k 0 → IsLinked slot_count after before owners counts lists → Placed slot_count after before owners counts lists p
      → IsLinked slot_count (set after b a) (set before a b) owners (set counts k (n - 1)) (map (without p) lists)
  remove_keeps a b k n ea eb ek en h here =
      let Nodes : ℕ → ℕ → ℕ → ℕ → Type 0 = λ u v w m. IsLinked slot_count (set after v u) (set before u v) owners (set counts w (m - 1)) (map (without p) lists) in
      let count : n ≡ get_or counts (get_or owners p 0) 0 = en ∙ ap (λ w. get_or counts w 0) ek in
      subst (λ u. Nodes u b k n) (sym ea) (subst (λ v. Nodes (get_or after p 0) v k n) (sym eb) (subst (λ w. Nodes (get_or after p 0) (get_or before p 0) w n) (sym ek)
      (subst (λ m. Nodes (get_or after p 0) (get_or before p 0) (get_or owners p 0) m) (sym count) (removed h here))))

-- ---- at the opening

-- one number more
pub range_more : (n : ℕ) → range_with_len 0 n ++ n ∷ [] ≡ range_with_len 0 (n + 1)
range_more n =
    let id = λ (k : ℕ). k in
    ap (λ xs. xs ++ n ∷ []) (sym (map-id (range_with_len 0 n))) ∙ sym (map-range_with_len_more id 0 n n (omega arith)) ∙ map-id (range_with_len 0 (n + 1))

-- empty lists, each node beside itself
pub opened : (slot_count n : ℕ) (after before owners counts : List ℕ) → slot_count ≤ 2 ^ 20 → n ≤ 2 ^ 20
    → after ≡ range_with_len 0 (slot_count + n) → before ≡ range_with_len 0 (slot_count + n) → owners ≡ replicate slot_count 0 → counts ≡ replicate n 0
    → IsLinked slot_count after before owners counts (replicate n [])
opened slot_count n after before owners counts small few ea eb eo ec =
    let size : length (replicate n []) ≡ n = length-replicate n [] in
    record {
      small = small;
      few = omega arith;
      after_each = omega (arith, ap length ea, length-range_with_len 0 (slot_count + n));
      before_each = omega (arith, ap length eb, length-range_with_len 0 (slot_count + n));
      owned = ap length eo ∙ length-replicate slot_count 0;
      counted = ap length ec ∙ length-replicate n 0 ∙ sym size;
      each = λ k below.
          let alone : get_or (range_with_len 0 (slot_count + n)) (slot_count + k) 0 ≡ slot_count + k = get_or-range_with_len 0 (slot_count + n) (slot_count + k) 0 (omega arith) ∙ omega arith in
          ring_is slot_count after before owners k 0 (get_or counts k 0) [] (get_or (replicate n []) k [])
          (record { chain = (ap (λ xs. get_or xs (slot_count + k) 0) ea ∙ alone, ap (λ xs. get_or xs (slot_count + k) 0) eb ∙ alone); owned = tt; distinct = tt; counted = refl })
          (ap (λ xs. get_or xs k 0) ec ∙ get_or-replicate n k 0 0 (omega arith))
          (get_or-replicate n k [] [] (omega arith));
    }

-- ---- the view

-- lists stand in the rings that the fields have
abbrev pub Linked : Inside → List (List ℕ) → Type 0
Linked f lists = IsLinked f.slot_count f.after.items f.before.items f.owners.items f.counts.items lists

-- what the fields say to a caller
abbrev pub Shows : Inside → Lists → ℕ → Type 0
Shows f seen room = ◌≡◌ {A = Lists} (record { slot_count = f.slot_count; lists = lists_of f.slot_count f.after.items f.counts.items; reserved = room }) seen

-- the lists that a caller sees stand in their rings
pub record IsSeen (f : Inside) (seen : Lists) : Type 0 where
  pub linked : Linked f seen.lists
  pub slot_count : f.slot_count ≡ seen.slot_count

pub at_view : (f : Inside) (seen : Lists) (room : ℕ) → Shows f seen room → Linked f (lists_of f.slot_count f.after.items f.counts.items) → IsSeen f seen
at_view f seen room e h = record { linked = subst (λ (v : Lists). Linked f v.lists) e h; slot_count = ap (λ (v : Lists). v.slot_count) e }

-- and a number stands in one of them
pub record IsStanding (f : Inside) (seen : Lists) (p : ℕ) : Type 0 where
  pub rings : IsSeen f seen
  pub linked_at : Placed f.slot_count f.after.items f.before.items f.owners.items f.counts.items seen.lists p

pub standing : (f : Inside) (seen : Lists) (p room : ℕ) → Shows f seen room → Linked f (lists_of f.slot_count f.after.items f.counts.items) → list_any (is_in p) seen.lists ≡ true → IsStanding f seen p
standing f seen p room e h somewhere =
    let rings = at_view f seen room e h in
    record { rings = rings; linked_at = placed f.slot_count f.after.items f.before.items f.owners.items f.counts.items seen.lists p rings.linked somewhere }

-- the nodes beside a number that stands in a list, and its list, as they are read
pub record AreRead (f : Inside) (seen : Lists) (p a b k : ℕ) : Type 0 where
  pub stands : IsStanding f seen p
  pub after : a ≡ get_or f.after.items p 0
  pub before : b ≡ get_or f.before.items p 0
  pub list : k ≡ get_or f.owners.items p 0

pub list_counted : (f : Inside) (seen : Lists) (p a b k n : ℕ) → AreRead f seen p a b k → n ≡ get_or f.counts.items k n → n ≡ get_or f.counts.items k 0
list_counted f seen p a b k n r e = get_or_read f.counts.items k n (omega arith) e 0

-- what is left where it is removed
pub left_without : (f : Inside) (seen : Lists) (p a b k n : ℕ) → AreRead f seen p a b k → n ≡ get_or f.counts.items k n
    → IsLinked f.slot_count (set f.after.items b a) (set f.before.items a b) f.owners.items (set f.counts.items k (n - 1)) (map (without p) seen.lists)
left_without f seen p a b k n r e =
    remove_keeps f.slot_count f.after.items f.before.items f.owners.items f.counts.items seen.lists p a b k n r.after r.before r.list (list_counted f seen p a b k n r e) r.stands.rings.linked r.stands.linked_at

-- what there is where a number is appended to a list, with the last node and the count as they are read
pub longer_by : (f : Inside) (seen : Lists) (k p l n : ℕ) → IsSeen f seen → k < length seen.lists → p < seen.slot_count → list_any (is_in p) seen.lists ≡ false → l ≡ get_or f.before.items (f.slot_count + k) l → n ≡ get_or f.counts.items k n
    → IsLinked f.slot_count (set (set f.after.items l p) p (f.slot_count + k)) (set (set f.before.items p l) (f.slot_count + k) p) (set f.owners.items p k) (set f.counts.items k (n + 1)) (set seen.lists k (get_or seen.lists k [] ++ p ∷ []))
longer_by f seen k p l n s below within none el en =
    append_keeps f.slot_count f.after.items f.before.items f.owners.items f.counts.items seen.lists k p l n (get_or_read f.before.items (f.slot_count + k) l (omega arith) el 0) (get_or_read f.counts.items k n (omega arith) en 0) s.linked below (omega arith) none

-- the first number of a list, as the node behind its head is read
pub first_read : (f : Inside) (seen : Lists) (k n : ℕ) → IsSeen f seen → k < length seen.lists → n ≡ get_or f.after.items (f.slot_count + k) n
    → (n ≡ f.slot_count + k → None ≡ slice_get (list_of seen k) 0) × ((n ≡ f.slot_count + k → ⊥) → Some n ≡ slice_get (list_of seen k) 0)
first_read f seen k n s below e =
    let head = f.slot_count + k in
    let xs = list_of seen k in
    let ring = s.linked.each k below in
    let read = get_or_read f.after.items head n (omega arith) e 0 in (
      λ is. sym (first_none f.after.items f.before.items head xs head ring.chain (head_apart f.slot_count f.owners.items k xs k ring.owned) (sym read ∙ is)),
      λ ne. sym (first_some f.after.items f.before.items head xs head ring.chain (λ e. ne (read ∙ e)) ∙ ap Some (sym read)),
    )

-- and the number behind another one in its list
pub next_read : (f : Inside) (seen : Lists) (k p n : ℕ) → IsSeen f seen → k < length seen.lists → is_in p (list_of seen k) ≡ true → n ≡ get_or f.after.items p n
    → (n ≡ f.slot_count + k → None ≡ next_in p (list_of seen k)) × ((n ≡ f.slot_count + k → ⊥) → Some n ≡ next_in p (list_of seen k))
next_read f seen k p n s below member e =
    let head = f.slot_count + k in
    let xs = list_of seen k in
    let ring = s.linked.each k below in
    let own = owned_in f.slot_count f.owners.items k xs p ring.owned member in
    let read = get_or_read f.after.items p n (omega arith) e 0 in (
      λ is. sym (next_none f.after.items f.before.items head xs head p ring.chain ring.distinct member (head_apart f.slot_count f.owners.items k xs k ring.owned) (sym read ∙ is)),
      λ ne. sym (next_some f.after.items f.before.items head xs head p ring.chain ring.distinct member (λ e. ne (read ∙ e)) ∙ ap Some (sym read)),
    )

-- the same lists, with the same room
pub same_shown : (slot_count room : ℕ) (lists lists' : List (List ℕ)) → lists ≡ lists' → ◌≡◌ {A = Lists} (record { slot_count = slot_count; lists = lists; reserved = room }) (record { slot_count = slot_count; lists = lists'; reserved = room })
same_shown slot_count room lists lists' e = ap (λ ls. record { slot_count = slot_count; lists = ls; reserved = room }) e

-- lists in their rings are those that the fields have
pub in_view : (slot_count : ℕ) (after before owners counts : List ℕ) (lists : List (List ℕ)) → IsLinked slot_count after before owners counts lists → IsLinked slot_count after before owners counts (lists_of slot_count after counts)
in_view slot_count after before owners counts lists h = subst (λ ls. IsLinked slot_count after before owners counts ls) (sym (lists_of_is slot_count after before owners counts lists h)) h
