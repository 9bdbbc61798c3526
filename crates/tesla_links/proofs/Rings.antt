-- Lists in their rings: how they are read, and what an appended and a removed number leave.
use Rattle.std.proofs.Common.{◌≡◌, ℕ, ◌+◌, ◌<◌, true, false, List, [], ◌∷◌, ◌++◌, length, get_or, map, Some, None, refl, sym, ap, subst, ◌∙◌, arith, eqb}
use Rattle.std.specs.List.{range_with_len}
use Rattle.std.specs.Prelude.{slice_get}
use Rattle.std.proofs.lemmas.Bool.{cond-false, cond-true, eq-eqb, ne_eqb, or_left, or_right}
use Rattle.std.proofs.lemmas.List.{ext_get_or}
use Rattle.std.proofs.lemmas.List.FromFn.{get_or-map-range_with_len, length-map-range_with_len}
use Rattle.tesla_base.specs.Members.{Distinct, is_in, next_in}
use Rattle.tesla_links.specs.Rings.{Chain, IsLinked, lists_of, walk}
use Rattle.tesla_base.proofs.Members.{apart, apart_both, apart_from, differs, distinct_split, in_here, in_there, split_at}

-- ---- reading

-- the nodes between the ends of a chain
pub walk_chain : (after before : List ℕ) (from : ℕ) (xs : List ℕ) (until : ℕ) → Chain after before from xs until → walk after (length xs) (get_or after from 0) ≡ xs
unfolding walk
walk_chain after before from [] until c = refl
walk_chain after before from (x ∷ xs) until c =
    ap (λ n. n ∷ walk after (length xs) (get_or after n 0)) c.0 ∙ ap (λ ys. x ∷ ys) (walk_chain after before x xs until c.2)

-- the lists that are read off the rings are those that stand in them
pub lists_of_is : (slot_count : ℕ) (after before owners counts : List ℕ) (lists : List (List ℕ)) → IsLinked slot_count after before owners counts lists → lists_of slot_count after counts ≡ lists
unfolding lists_of
lists_of_is slot_count after before owners counts lists h =
    let read = λ (k : ℕ). walk after (get_or counts k 0) (get_or after (slot_count + k) 0) in
    let size : length (map read (range_with_len 0 (length counts))) ≡ length lists = length-map-range_with_len read 0 (length counts) ∙ h.counted in
    ext_get_or [] (map read (range_with_len 0 (length counts))) lists size
    (λ k below.
    let inside : k < length lists = omega arith in
    let ring = h.each k inside in
    get_or-map-range_with_len read 0 (length counts) k k [] (omega (arith, h.counted)) (omega arith)
    ∙ ap (λ n. walk after n (get_or after (slot_count + k) 0)) ring.counted
    ∙ walk_chain after before (slot_count + k) (get_or lists k []) (slot_count + k) ring.chain)

-- ---- nodes of a chain

-- the node before the end is the first one or among the others
pub last_in : (after before : List ℕ) (from : ℕ) (xs : List ℕ) (until : ℕ) → Chain after before from xs until → is_in (get_or before until 0) (from ∷ xs) ≡ true
last_in after before from [] until c = or_left (eqb from (get_or before until 0)) false (eq-eqb _ _ (sym c.1))
last_in after before from (x ∷ xs) until c = in_there from (get_or before until 0) (x ∷ xs) (last_in after before x xs until c.2)

-- the node after the first is the end or among the others
pub first_in : (after before : List ℕ) (from : ℕ) (xs : List ℕ) (until : ℕ) → Chain after before from xs until → is_in (get_or after from 0) (until ∷ xs) ≡ true
first_in after before from [] until c = or_left (eqb until (get_or after from 0)) false (eq-eqb _ _ (sym c.0))
first_in after before from (x ∷ xs) until c =
    or_right (eqb until (get_or after from 0)) (is_in (get_or after from 0) (x ∷ xs)) (or_left (eqb x (get_or after from 0)) (is_in (get_or after from 0) xs) (eq-eqb _ _ (sym c.0)))

-- a chain is two, up to one of its nodes and from there on
pub chain_split : (after before : List ℕ) (from : ℕ) (prefix : List ℕ) (node : ℕ) (rest : List ℕ) (until : ℕ) → Chain after before from (prefix ++ node ∷ rest) until → Chain after before from prefix node × Chain after before node rest until
chain_split after before from [] node rest until c = ((c.0, c.1), c.2)
chain_split after before from (x ∷ prefix) node rest until c =
    let more = chain_split after before x prefix node rest until c.2 in
    ((c.0, c.1, more.0), more.1)

-- ---- what changes of the tables leave of a chain

-- nodes that are linked as before
pub chain_kept : (after before after' before' : List ℕ) (from : ℕ) (xs : List ℕ) (until : ℕ) → Chain after before from xs until
    → get_or after' from 0 ≡ get_or after from 0
    → ((n : ℕ) → is_in n xs ≡ true → get_or after' n 0 ≡ get_or after n 0)
    → ((n : ℕ) → is_in n xs ≡ true → get_or before' n 0 ≡ get_or before n 0)
    → get_or before' until 0 ≡ get_or before until 0
    → Chain after' before' from xs until
chain_kept after before after' before' from [] until c a ka kb b = (a ∙ c.0, b ∙ c.1)
chain_kept after before after' before' from (x ∷ xs) until c a ka kb b = (
  a ∙ c.0,
  kb x (in_here x xs) ∙ c.1,
  chain_kept after before after' before' x xs until c.2 (ka x (in_here x xs)) (λ n i. ka n (in_there x n xs i)) (λ n i. kb n (in_there x n xs i)) b,
)

-- a node is put in front of the end
pub chain_append : (after before after' before' : List ℕ) (slot from : ℕ) (xs : List ℕ) (until : ℕ) → Chain after before from xs until
    → Distinct (from ∷ xs) → is_in until xs ≡ false → is_in slot (from ∷ xs) ≡ false
    → get_or after' (get_or before until 0) 0 ≡ slot → get_or after' slot 0 ≡ until
    → get_or before' slot 0 ≡ get_or before until 0 → get_or before' until 0 ≡ slot
    → ((n : ℕ) → (n ≡ get_or before until 0 → ⊥) → (n ≡ slot → ⊥) → get_or after' n 0 ≡ get_or after n 0)
    → ((n : ℕ) → (n ≡ until → ⊥) → (n ≡ slot → ⊥) → get_or before' n 0 ≡ get_or before n 0)
    → Chain after' before' from (xs ++ slot ∷ []) until
chain_append after before after' before' slot from [] until c d u p a1 a2 b1 b2 ka kb =
    (ap (λ n. get_or after' n 0) (sym c.1) ∙ a1, b1 ∙ c.1, (a2, b2))
chain_append after before after' before' slot from (x ∷ xs) until c d u p a1 a2 b1 b2 ka kb =
    let last = last_in after before x xs until c.2 in
    let p_from = apart from slot (x ∷ xs) p in
    let p_x = apart x slot xs p_from.1 in
    let u_x = apart x until xs u in (
      ka from (differs (get_or before until 0) from (x ∷ xs) last d.0) p_from.0 ∙ c.0,
      kb x u_x.0 p_x.0 ∙ c.1,
      chain_append after before after' before' slot x xs until c.2 d.1 u_x.1 p_from.1 a1 a2 b1 b2 ka kb,
    )

-- a node is taken out
pub chain_cut : (after before after' before' : List ℕ) (from : ℕ) (prefix : List ℕ) (slot : ℕ) (rest : List ℕ) (until : ℕ)
    → Chain after before from prefix slot → Chain after before slot rest until
    → Distinct (from ∷ (prefix ++ slot ∷ rest)) → is_in until (prefix ++ slot ∷ rest) ≡ false
    → get_or after' (get_or before slot 0) 0 ≡ get_or after slot 0
    → get_or before' (get_or after slot 0) 0 ≡ get_or before slot 0
    → ((n : ℕ) → (n ≡ get_or before slot 0 → ⊥) → get_or after' n 0 ≡ get_or after n 0)
    → ((n : ℕ) → (n ≡ get_or after slot 0 → ⊥) → get_or before' n 0 ≡ get_or before n 0)
    → Chain after' before' from (prefix ++ rest) until
chain_cut after before after' before' from [] slot [] until c e d u a b ka kb =
    (ap (λ n. get_or after' n 0) (sym c.1) ∙ a ∙ e.0, ap (λ n. get_or before' n 0) (sym e.0) ∙ b ∙ c.1)
chain_cut after before after' before' from [] slot (y ∷ rest) until c e d u a b ka kb =
    let from_apart = apart slot from (y ∷ rest) d.0 in
    let u_apart = apart slot until (y ∷ rest) u in
    let u_y = apart y until rest u_apart.1 in
    let from_y = apart y from rest from_apart.1 in
    let y_apart : is_in y rest ≡ false = d.1.1.0 in (
      ap (λ n. get_or after' n 0) (sym c.1) ∙ a ∙ e.0,
      ap (λ n. get_or before' n 0) (sym e.0) ∙ b ∙ c.1,
      chain_kept after before after' before' y rest until e.2
          (ka y (λ q. from_y.0 (q ∙ c.1)))
          (λ n i. ka n (λ q. differs n from rest i from_y.1 (sym (q ∙ c.1))))
          (λ n i. kb n (λ q. differs n y rest i y_apart (sym (q ∙ e.0))))
          (kb until (λ q. u_y.0 (sym (q ∙ e.0)))),
    )
chain_cut after before after' before' from (x ∷ prefix) slot rest until c e d u a b ka kb =
    let last = last_in after before x prefix slot c.2 in
    let next = first_in after before slot rest until e in
    let from_apart = apart_both from (x ∷ prefix) (slot ∷ rest) d.0 in
    let u_x = apart x until (prefix ++ slot ∷ rest) u in
    let x_apart = apart_both x prefix (slot ∷ rest) d.1.0 in
    let x_rest = apart slot x rest x_apart.1 in (
      ka from (differs (get_or before slot 0) from (x ∷ prefix) last from_apart.0) ∙ c.0,
      kb x (differs (get_or after slot 0) x (until ∷ rest) next (apart_from until x rest (λ q. u_x.0 (sym q)) x_rest.1)) ∙ c.1,
      chain_cut after before after' before' x prefix slot rest until c.2 e d.1 u_x.1 a b ka kb,
    )

-- ---- what the code reads

-- where the node after the first is the end, there is no other
pub first_none : (after before : List ℕ) (from : ℕ) (xs : List ℕ) (until : ℕ) → Chain after before from xs until → is_in until xs ≡ false → get_or after from 0 ≡ until → slice_get xs 0 ≡ None
first_none after before from [] until c none e = refl
first_none after before from (x ∷ xs) until c none e = absurd ((apart x until xs none).0 (sym c.0 ∙ e))

-- where it isn't, it is the first of them
pub first_some : (after before : List ℕ) (from : ℕ) (xs : List ℕ) (until : ℕ) → Chain after before from xs until → (get_or after from 0 ≡ until → ⊥) → slice_get xs 0 ≡ Some (get_or after from 0)
first_some after before from [] until c ne = absurd (ne c.0)
first_some after before from (x ∷ xs) until c ne = ap Some (sym c.0)

-- what stands behind a number
next_in_split : (p : ℕ) (prefix rest : List ℕ) → is_in p prefix ≡ false → next_in p (prefix ++ p ∷ rest) ≡ slice_get rest 0
next_in_split p [] rest none = cond-true (eqb p p) (slice_get rest 0) (next_in p rest) (eq-eqb p p refl)
next_in_split p (x ∷ prefix) rest none =
    let parts = apart x p prefix none in
    cond-false (eqb x p) (slice_get (prefix ++ p ∷ rest) 0) (next_in p (prefix ++ p ∷ rest)) (ne_eqb x p parts.0) ∙ next_in_split p prefix rest parts.1

module _ (after before : List ℕ) (from : ℕ) (xs : List ℕ) (until p : ℕ) where
  behind : Chain after before from xs until → Distinct xs → is_in p xs ≡ true → (rest : List ℕ) × Chain after before p rest until × (next_in p xs ≡ slice_get rest 0) × (is_in until xs ≡ false → is_in until rest ≡ false)
  behind c d i =
      let s = split_at p xs i in
      let distinct : Distinct (s.0 ++ p ∷ s.1) = subst (λ ys. Distinct ys) s.2 d in
      let halves = chain_split after before from s.0 p s.1 until (subst (λ ys. Chain after before from ys until) s.2 c) in (
        s.1,
        halves.1,
        ap (next_in p) s.2 ∙ next_in_split p s.0 s.1 (distinct_split p s.0 s.1 distinct).0,
        λ none. (apart p until s.1 (apart_both until s.0 (p ∷ s.1) (sym (ap (is_in until) s.2) ∙ none)).1).1,
      )

  -- where the node after a number is the end, nothing stands behind it
  pub next_none : Chain after before from xs until → Distinct xs → is_in p xs ≡ true → is_in until xs ≡ false → get_or after p 0 ≡ until → next_in p xs ≡ None
  next_none c d i none e = let b = behind c d i in b.2 ∙ first_none after before p b.0 until b.1 (b.3 none) e

  -- where it isn't, it stands behind it
  pub next_some : Chain after before from xs until → Distinct xs → is_in p xs ≡ true → (get_or after p 0 ≡ until → ⊥) → next_in p xs ≡ Some (get_or after p 0)
  next_some c d i ne = let b = behind c d i in b.2 ∙ first_some after before p b.0 until b.1 ne
