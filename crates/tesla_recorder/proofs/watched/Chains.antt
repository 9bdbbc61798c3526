-- The packets of a legal history add up by its chains.
use Rattle.std.proofs.Common.{◌≡◌, inl, inr, ℕ, zero, suc, ◌+◌, ◌<◌, ◌≤◌, Bool, true, false, cond, List, [], ◌∷◌, ◌++◌, length, map, Option, Some, None, refl, ap, arith}
use Rattle.std.specs.Prelude.{find, nat_lt, slice_get}
use Rattle.std.specs.List.{list_all, range_with_len, sum}
use Rattle.std.proofs.lemmas.Bool.{and_from, cases_eq, eq-eqb, lt-ltb, ltb-true, ne_eqb}
use Rattle.std.proofs.lemmas.List.Sums.{sum_by-cons, sum_by_push}
use Rattle.tesla_base.proofs.Below.{found_below}
use Rattle.tesla_base.proofs.Lists.{map_same}
use Rattle.tesla_base.proofs.Numbered.{all_enumerated}
use Rattle.tesla_base.proofs.Passing.{passes_at}
use Rattle.tesla_frame.specs.declared.row.KeyRow.{KeyRow}
use Rattle.tesla_fitting.specs.Config.{chains}
use Rattle.tesla_fitting.specs.declared.config.Config.{Config}
use Rattle.tesla_receiver.specs.History.{Arrives, Ends, Event, Takes, arrivals_in, entry_of, gives, given_in, has_end, reply_to, reply_with}
use Rattle.tesla_receiver.specs.Keys.{new_keys}
use Rattle.tesla_receiver.specs.Packets.{batch, candidates, packet_of, proves, release_of, release_on, released}
use Rattle.tesla_receiver.specs.Entries.{Arrival, Entry}
use Rattle.tesla_receiver.specs.declared.history.Entry.TheVariants.{Arrived, Taken, Ended}
use Rattle.tesla_receiver.specs.declared.packet.Packet.{Packet}
use Rattle.tesla_receiver.proofs.ArrivalOrders.{firsts_pass}
use Rattle.tesla_receiver.proofs.EachAfter.{all_each_after}
use Rattle.tesla_receiver.proofs.Legal.{of_legal}
use Rattle.tesla_state.specs.declared.replies.Reply.TheVariants.{Given, Empty, Over}
use Rattle.tesla_walks.specs.declared.release.Release.{Release}
use Rattle.tesla_recorder.specs.watched.Chains.{ChainsAddUp, chain_in, is_chain, released_by_chain, released_on}

-- ---- each packet is released on a chain of the setup

abbrev pub on_chain : ℕ → Release → Bool
on_chain n release = nat_lt release.chain.0 n

on_found : (n order : ℕ) (packet : Packet) (test : ℕ → Bool) (found : Option ℕ) → find test (range_with_len 0 n) ≡ found → list_all (on_chain n) (release_on order packet.frame found) ≡ true
on_found n order packet test None is = refl
on_found n order packet test (Some chain) is = and_from (nat_lt chain n) true (lt-ltb chain n (found_below test n chain is).below) refl

on_packet : (cfg : Config) (before : List Arrival) (new : List KeyRow) (order : ℕ) (packet : Option Packet) → list_all (on_chain (length cfg.setup.rows)) (release_of cfg before new order packet) ≡ true
on_packet cfg before new order None = refl
on_packet cfg before new order (Some packet) = on_found (length cfg.setup.rows) order packet (proves cfg before new packet) (find (proves cfg before new packet) (chains cfg)) refl

on_batch : (cfg : Config) (before : List Arrival) (arrival : Arrival) → list_all (on_chain (length cfg.setup.rows)) (batch cfg before arrival) ≡ true
on_batch cfg before arrival =
    let new : List KeyRow = new_keys cfg before arrival in
    all_enumerated (on_chain (length cfg.setup.rows)) (λ (p : ℕ × Arrival). release_of cfg before new p.0 (packet_of p.1)) 0 before (λ k x at. on_packet cfg before new (0 + k) (packet_of x))

all_on : (cfg : Config) (arrivals : List Arrival) → list_all (on_chain (length cfg.setup.rows)) (released cfg arrivals) ≡ true
unfolding released candidates
all_on cfg arrivals =
    let n : ℕ = length cfg.setup.rows in
    firsts_pass (on_chain n) [] (candidates cfg arrivals) (all_each_after (on_chain n) (batch cfg) [] arrivals (λ prefix x rest e. on_batch cfg prefix x))

-- where an entry gave a packet, that was released on one of the first chains, so many of them
abbrev pub is_within : ℕ → Option ℕ → Bool
is_within n None = true
is_within n (Some chain) = nat_lt chain n

within_reply : (n releaser position : ℕ) (arrivals : List Arrival) (releases : List Release) (ended : Bool) (next : Option Release) → list_all (on_chain n) releases ≡ true → slice_get releases position ≡ next → is_within n (chain_in (Taken releaser (reply_with arrivals position next ended))) ≡ true
within_reply n releaser position arrivals releases ended (Some release) all at = passes_at (on_chain n) releases position release all at
within_reply n releaser position arrivals releases true None all at = refl
within_reply n releaser position arrivals releases false None all at = refl

within_entry : (cfg : Config) (h : List Entry) (event : Event) → is_within (length cfg.setup.rows) (chain_in (entry_of cfg h event)) ≡ true
unfolding reply_to
within_entry cfg h (Arrives ingest reading bytes) = refl
within_entry cfg h (Takes releaser) =
    let arrivals : List Arrival = arrivals_in h in
    within_reply (length cfg.setup.rows) releaser (given_in h) arrivals (released cfg arrivals) (list_all (has_end h) (range_with_len 0 cfg.ingests)) (slice_get (released cfg arrivals) (given_in h)) (all_on cfg arrivals) refl
within_entry cfg h (Ends ingest) = refl

-- ---- sums

-- the sum of two numbers for each is that of two sums
sum_both : (f g : ℕ → ℕ) (a n : ℕ) → sum (map (λ k. f k + g k) (range_with_len a n)) ≡ sum (map f (range_with_len a n)) + sum (map g (range_with_len a n))
sum_both f g a zero = refl
sum_both f g a (suc n) =
    let whole = sum_by-cons (λ x. x) (f a + g a) (map (λ k. f k + g k) (range_with_len (a + 1) n)) in
    let first = sum_by-cons (λ x. x) (f a) (map f (range_with_len (a + 1) n)) in
    let second = sum_by-cons (λ x. x) (g a) (map g (range_with_len (a + 1) n)) in
    let rest = sum_both f g (a + 1) n in
    omega (arith, whole, first, second, rest)

abbrev pub hits : Option ℕ → ℕ → ℕ
hits chain k = cond (is_chain k chain) 1 0

hits_none : (a n : ℕ) → sum (map (hits None) (range_with_len a n)) ≡ 0
hits_none a zero = refl
hits_none a (suc n) =
    let whole = sum_by-cons (λ x. x) 0 (map (hits None) (range_with_len (a + 1) n)) in
    let rest = hits_none (a + 1) n in
    omega (arith, whole, rest)

hits_past : (chain a n : ℕ) → chain < a → sum (map (hits (Some chain)) (range_with_len a n)) ≡ 0
hits_past chain a zero past = refl
hits_past chain a (suc n) past =
    let whole = sum_by-cons (λ x. x) (hits (Some chain) a) (map (hits (Some chain)) (range_with_len (a + 1) n)) in
    let first : hits (Some chain) a ≡ 0 = ap (λ b. cond b 1 0) (ne_eqb chain a (λ e. omega arith)) in
    let rest = hits_past chain (a + 1) n (omega arith) in
    omega (arith, whole, first, rest)

hits_within : (chain a n : ℕ) → a ≤ chain → chain < a + n → sum (map (hits (Some chain)) (range_with_len a n)) ≡ 1
hits_within chain a zero least below = absurd (omega arith)
hits_within chain a (suc n) least below =
    let whole = sum_by-cons (λ x. x) (hits (Some chain) a) (map (hits (Some chain)) (range_with_len (a + 1) n)) in
    elim (cases_eq chain a) [
      | inl same ↦ (let first : hits (Some chain) a ≡ 1 = ap (λ b. cond b 1 0) (eq-eqb chain a same) in let rest = hits_past chain (a + 1) n (omega arith) in omega (arith, whole, first, rest))
      | inr other ↦ (let first : hits (Some chain) a ≡ 0 = ap (λ b. cond b 1 0) (ne_eqb chain a other) in let rest = hits_within chain (a + 1) n (omega (arith, other)) (omega arith) in omega (arith, whole, first, rest))
    ]

-- over all chains an entry counts once where it gave a packet, and else not
hits_all : (n : ℕ) (entry : Entry) → is_within n (chain_in entry) ≡ true → sum (map (hits (chain_in entry)) (range_with_len 0 n)) ≡ cond (gives entry) 1 0
hits_all n (Arrived arrival) within = hits_none 0 n
hits_all n (Taken releaser (Given head payload)) within = let below : head.chain < n = ltb-true head.chain n within in hits_within head.chain 0 n (omega arith) (omega (arith, below))
hits_all n (Taken releaser Empty) within = hits_none 0 n
hits_all n (Taken releaser Over) within = hits_none 0 n
hits_all n (Ended ingest) within = hits_none 0 n

-- ---- histories

-- how many were released on a chain of a history with one entry more
pub released_more : (chain : ℕ) (history : List Entry) (entry : Entry) → released_on chain (history ++ entry ∷ []) ≡ released_on chain history + hits (chain_in entry) chain
released_more chain history entry = sum_by_push (λ (x : Entry). cond (is_chain chain (chain_in x)) 1 0) history entry

adds_more : (cfg : Config) (h : List Entry) (event : Event) → sum (released_by_chain (length cfg.setup.rows) h) ≡ given_in h → sum (released_by_chain (length cfg.setup.rows) (h ++ entry_of cfg h event ∷ [])) ≡ given_in (h ++ entry_of cfg h event ∷ [])
adds_more cfg h event before =
    let n : ℕ = length cfg.setup.rows in
    let e : Entry = entry_of cfg h event in
    let given : given_in (h ++ e ∷ []) ≡ given_in h + cond (gives e) 1 0 = sum_by_push (λ (x : Entry). cond (gives x) 1 0) h e in
    let each : sum (released_by_chain n (h ++ e ∷ [])) ≡ sum (map (λ k. released_on k h + hits (chain_in e) k) (range_with_len 0 n)) = ap sum (map_same (λ k. released_on k (h ++ e ∷ [])) (λ k. released_on k h + hits (chain_in e) k) (range_with_len 0 n) (λ k. released_more k h e)) in
    let both = sum_both (λ k. released_on k h) (hits (chain_in e)) 0 n in
    let one = hits_all n e (within_entry cfg h event) in
    omega (arith, before, given, each, both, one)

pub adds_up : ChainsAddUp
adds_up cfg history legal = of_legal cfg (λ h. sum (released_by_chain (length cfg.setup.rows) h) ≡ given_in h) (hits_none 0 (length cfg.setup.rows)) (adds_more cfg) history legal
