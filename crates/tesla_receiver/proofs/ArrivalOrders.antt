-- A released packet's place is that of an arrival.
use Rattle.std.proofs.Common.{◌≡◌, ℕ, ◌+◌, ◌<◌, ◌≤◌, Bool, true, false, cond, List, [], ◌∷◌, ◌++◌, length, length-append, flat_map, Option, Some, None, refl, ap, subst, ◌∙◌, arith}
use Rattle.std.specs.Prelude.{nat_lt, find}
use Rattle.std.specs.List.{list_any, list_all, enumerate_from}
use Rattle.std.proofs.lemmas.Bool.{lt-ltb, and_from, and_parts}
use Rattle.std.proofs.lemmas.List.Folds.{list_all-append}
use Rattle.tesla_base.proofs.Lists.{list_all_both}
use Rattle.tesla_frame.specs.declared.row.KeyRow.{KeyRow}
use Rattle.tesla_fitting.specs.declared.config.Config.{Config}
use Rattle.tesla_receiver.specs.Entries.{Arrival}
use Rattle.tesla_receiver.specs.declared.packet.Packet.{Packet}
use Rattle.tesla_walks.specs.declared.release.Release.{Release}
use Rattle.tesla_fitting.specs.Config.{chains}
use Rattle.tesla_state.specs.Releases.{each_after, has_name, unless_named}
use Rattle.tesla_receiver.specs.Keys.{new_keys}
use Rattle.tesla_receiver.specs.Packets.{packet_of, proves, release_on, release_of, batch, candidates, released}

-- the packet's place is below n
abbrev pub is_below : ℕ → Release → Bool
is_below n release = nat_lt release.place n

on_below : (n order : ℕ) (packet : Packet) (o : Option ℕ) → order < n → list_all (is_below n) (release_on order packet.frame o) ≡ true
on_below n order packet None h = refl
on_below n order packet (Some chain) h = and_from (nat_lt order n) true (lt-ltb order n h) refl

of_below : (cfg : Config) (before : List Arrival) (new : List KeyRow) (n order : ℕ) (o : Option Packet) → order < n → list_all (is_below n) (release_of cfg before new order o) ≡ true
of_below cfg before new n order None h = refl
of_below cfg before new n order (Some packet) h = on_below n order packet (find (proves cfg before new packet) (chains cfg)) h

pub proved_below : (cfg : Config) (before : List Arrival) (new : List KeyRow) (n m : ℕ) (xs : List Arrival) → m + length xs ≤ n → list_all (is_below n) (flat_map (λ (p : ℕ × Arrival). release_of cfg before new p.0 (packet_of p.1)) (enumerate_from m xs)) ≡ true
proved_below cfg before new n m [] h = refl
proved_below cfg before new n m (x ∷ xs) h =
    list_all_both (is_below n) (release_of cfg before new m (packet_of x)) (flat_map (λ (p : ℕ × Arrival). release_of cfg before new p.0 (packet_of p.1)) (enumerate_from (m + 1) xs))
    (of_below cfg before new n m (packet_of x) (omega arith)) (proved_below cfg before new n (m + 1) xs (omega arith))

pub candidates_below : (cfg : Config) (before xs : List Arrival) → list_all (is_below (length before + length xs)) (each_after (batch cfg) before xs) ≡ true
candidates_below cfg before [] = refl
candidates_below cfg before (x ∷ xs) =
    let here = proved_below cfg before (new_keys cfg before x) (length before + length (x ∷ xs)) 0 before (omega arith) in
    let later = candidates_below cfg (before ++ x ∷ []) xs in
    let same : length (before ++ x ∷ []) + length xs ≡ length before + length (x ∷ xs) = ap (λ n. n + length xs) (length-append before (x ∷ [])) ∙ omega arith in
    list_all_both (is_below (length before + length (x ∷ xs))) (batch cfg before x) (each_after (batch cfg) (before ++ x ∷ []) xs) here (rw same at later)

pub unless_pass : (q : Release → Bool) (release : Release) (b : Bool) → q release ≡ true → list_all q (cond b [] (release ∷ [])) ≡ true
unless_pass q release true h = refl
unless_pass q release false h = and_from (q release) true h refl

-- the first of each name pass what all pass
pub firsts_pass : (q : Release → Bool) (before xs : List Release) → list_all q xs ≡ true → list_all q (each_after unless_named before xs) ≡ true
firsts_pass q before [] p = refl
firsts_pass q before (x ∷ xs) p =
    list_all-append q (unless_named before x) (each_after unless_named (before ++ x ∷ []) xs)
    ∙ and_from (list_all q (unless_named before x)) (list_all q (each_after unless_named (before ++ x ∷ []) xs))
    (unless_pass q x (list_any (has_name x.name) before) ((and_parts (q x) (list_all q xs) p).0))
    (firsts_pass q (before ++ x ∷ []) xs ((and_parts (q x) (list_all q xs) p).1))

-- each released packet's place is that of an arrival
pub released_below : (cfg : Config) (arrivals : List Arrival) → list_all (is_below (length arrivals)) (released cfg arrivals) ≡ true
unfolding released candidates
released_below cfg arrivals =
    let same : length {A = Arrival} [] + length arrivals ≡ length arrivals = omega arith in
    firsts_pass (is_below (length arrivals)) [] (each_after (batch cfg) [] arrivals)
    (subst (λ n. list_all (is_below n) (each_after (batch cfg) [] arrivals) ≡ true) same (candidates_below cfg [] arrivals))
