-- The datagrams of a post in memory, which stand one behind another.
use Rattle.std.proofs.Common.{◌≡◌, ◌∙◌, ℕ, ◌+◌, ◌≤◌, Some, None, List, [], ◌∷◌, ◌++◌, ap, sym, arith, length, take, drop}
use Rattle.std.proofs.Math.Seq.{take-length}
use Rattle.std.proofs.lemmas.List.{length-drop, take-append-le, drop-append-le, drop-drop}
use Rattle.std.proofs.lemmas.List.Sums.{sum_by-cons, sum_by-append}
use Rattle.std.proofs.lemmas.Option.{slice_get_past}
use Rattle.std.specs.List.{sum, slice_get}
use Rattle.tesla_base.proofs.Lists.{from_drop}
use Rattle.tesla_memory_desk.specs.LiveMemory.{cut}

-- one length more is a sum that is greater by it
pub sum_more : (sizes : List ℕ) (size : ℕ) → sum (sizes ++ size ∷ []) ≡ sum sizes + size
sum_more sizes size = omega (arith, sum_by-append (λ x. x) sizes (size ∷ []), sum_by-cons (λ x. x) size [])

-- a datagram behind the others
pub cut_more : (sizes bytes datagram : List ℕ) → sum sizes ≡ length bytes → cut (sizes ++ length datagram ∷ []) (bytes ++ datagram) ≡ cut sizes bytes ++ datagram ∷ []
cut_more [] [] datagram whole = ap (λ d. d ∷ []) (take-length datagram)
cut_more [] (byte ∷ bytes) datagram whole = absurd (omega (arith, whole))
cut_more (size ∷ sizes) bytes datagram whole =
    let parts : size + sum sizes ≡ length bytes = sym (sum_by-cons (λ x. x) size sizes) ∙ whole in
    let fits : size ≤ length bytes = omega (arith, parts) in
    let rest : sum sizes ≡ length (drop size bytes) = omega (arith, parts, length-drop size bytes) in
    ap (λ d. d ∷ cut (sizes ++ length datagram ∷ []) (drop size (bytes ++ datagram))) (take-append-le size bytes datagram fits)
    ∙ ap (λ b. take size bytes ∷ cut (sizes ++ length datagram ∷ []) b) (drop-append-le size bytes datagram fits)
    ∙ ap (λ ds. take size bytes ∷ ds) (cut_more sizes (drop size bytes) datagram rest)

-- ---- the datagrams from one on

-- the bytes behind the first datagram
pub behind_whole : (sizes more bytes : List ℕ) (size : ℕ) → sizes ≡ size ∷ more → sum sizes ≡ length bytes → sum more ≡ length (drop size bytes)
behind_whole sizes more bytes size first whole =
    let parts : size + sum more ≡ length bytes = sym (sum_by-cons (λ x. x) size more) ∙ sym (ap sum first) ∙ whole in
    omega (arith, parts, length-drop size bytes)

-- the first datagram is within the bytes
pub first_within : (sizes more bytes : List ℕ) (size : ℕ) → sizes ≡ size ∷ more → sum sizes ≡ length bytes → size ≤ length bytes
first_within sizes more bytes size first whole =
    let parts : size + sum more ≡ length bytes = sym (sum_by-cons (λ x. x) size more) ∙ sym (ap sum first) ∙ whole in
    omega (arith, parts)

-- the datagrams behind the first
pub behind_rest : (sizes more bytes : List ℕ) (size k : ℕ) (all : List (List ℕ)) → sizes ≡ size ∷ more → cut sizes bytes ≡ drop k all → cut more (drop size bytes) ≡ drop (k + 1) all
behind_rest sizes more bytes size k all first rest =
    let here : take size bytes ∷ cut more (drop size bytes) ≡ drop k all = sym (ap (λ s. cut s bytes) first) ∙ rest in
    ap (λ ds. drop 1 ds) here ∙ drop-drop 1 k all

-- the first of them is the one of that number
pub first_is : (sizes more bytes : List ℕ) (size k : ℕ) (all : List (List ℕ)) → sizes ≡ size ∷ more → cut sizes bytes ≡ drop k all → Some (take size bytes) ≡ slice_get all k
first_is sizes more bytes size k all first rest =
    let here : take size bytes ∷ cut more (drop size bytes) ≡ drop k all = sym (ap (λ s. cut s bytes) first) ∙ rest in
    let at : k + 0 ≡ k = omega arith in
    ap (λ ds. slice_get ds 0) here ∙ from_drop all k 0 ∙ ap (λ n. slice_get all n) at

-- where there are none, there is none of that number or a greater
pub none_from : (sizes bytes : List ℕ) (k n : ℕ) (all : List (List ℕ)) → length sizes ≡ 0 → cut sizes bytes ≡ drop k all → k ≤ n → None ≡ slice_get all n
none_from [] bytes k n all none rest within =
    let past : length all ≤ n = omega (arith, length-drop k all, ap length rest, within) in
    sym (slice_get_past all n past)
none_from (size ∷ more) bytes k n all none rest within = absurd (omega (arith, none))
