-- The chains of a setup and its seeds, one after another.
use Rattle.std.proofs.Common.{◌≡◌, ℕ, zero, suc, ◌+◌, ◌*◌, ◌<◌, ◌≤◌, true, false, List, [], ◌∷◌, ◌++◌, length, map, take, drop, get_or, Some, None, refl, sym, ◌∙◌, ap, subst, inl, inr, add-zero, zero-add, arith}
use Rattle.std.specs.Prelude.{slice_get, not, option_map}
use Rattle.std.specs.List.{All, sum_by}
use Rattle.std.proofs.Math.Nat.{add-mul, mul-le-mul_right}
use Rattle.std.proofs.lemmas.List.{length-map, map-append, take_all, take_more}
use Rattle.std.proofs.lemmas.List.Elements.{All-append}
use Rattle.std.proofs.lemmas.List.Sums.{sum_by_push}
use Rattle.std.proofs.lemmas.Option.{get_or_from_slice_get, slice_get_within}
use Rattle.tesla_base.specs.declared.names.Key.{Key}
use Rattle.tesla_base.proofs.Lists.{find_here, find_none_more}
use Rattle.tesla_commit.specs.Parts.{Parts}
use Rattle.tesla_commit.specs.declared.chain_row.ChainRow.{ChainRow}
use Rattle.tesla_sender.specs.declared.refusal.SenderRefusal.{SenderRefusal}
use Rattle.tesla_sender.specs.Made.{Chain, Stream, chains_from, chains_of}
use Rattle.tesla_sender.specs.Chains.{IsFresh, IsRefusedFor, Progress, chain_in, is_right, left_in, wrong_seed}
use Rattle.tesla_sender.specs.Senders.{IsSender, seed_of, stream_of}
use Rattle.tesla_sender.specs.Opening.{AreFresh, AreOpened, IsOpened, IsRefusal, OpeningSeen, first_wrong, opening_chain, seeds_refused}

abbrev with_number : ℕ → ℕ → ChainRow → Key → Chain
with_number last number row seed = record { number = number; row = row; seed = seed; last = last }

-- a chain by its number
chain_at : (last number i : ℕ) (rows : List ChainRow) (seeds : List Key) (row : ChainRow) (seed : Key) → slice_get rows i ≡ Some row → slice_get seeds i ≡ Some seed → slice_get (chains_from last number rows seeds) i ≡ Some (record { number = number + i; row = row; seed = seed; last = last })
chain_at last number i [] seeds row seed r s = absurd cc
chain_at last number i (x ∷ rows) [] row seed r s = absurd cc
chain_at last number zero (x ∷ rows) (y ∷ seeds) row seed r s =
    let same_row : x ≡ row = cc in
    let same_seed : y ≡ seed = cc in
    ap (λ a. Some (with_number last number a y)) same_row ∙ ap (λ a. Some (with_number last number row a)) same_seed ∙ ap (λ n. Some (with_number last n row seed)) (sym (add-zero number))
chain_at last number (suc i) (x ∷ rows) (y ∷ seeds) row seed r s =
    let more : number + 1 + i ≡ number + suc i = omega arith in
    chain_at last (number + 1) i rows seeds row seed r s ∙ ap (λ n. Some (with_number last n row seed)) more

chains_length : (last number : ℕ) (rows : List ChainRow) (seeds : List Key) → length seeds ≡ length rows → length (chains_from last number rows seeds) ≡ length rows
chains_length last number [] seeds same = refl
chains_length last number (row ∷ rows) [] same = absurd (omega arith)
chains_length last number (row ∷ rows) (seed ∷ seeds) same = omega (arith, chains_length last (number + 1) rows seeds (omega arith))

only : {A : Type 0} (P : A → Type 0) (x : A) → P x → All P (x ∷ [])
only P x holds zero d within = holds
only P x holds (suc k) d within = absurd (omega arith)

-- ---- one chain more

chain_here : (setup : Parts) (seeds : List Key) (i last : ℕ) (row : ChainRow) (seed : Key) → slice_get setup.rows i ≡ Some row → slice_get seeds i ≡ Some seed → last ≡ setup.times.last → slice_get (chains_of (record { setup = setup; seeds = seeds })) i ≡ Some (with_number last i row seed)
chain_here setup seeds i last row seed r s is =
    chain_at setup.times.last 0 i setup.rows seeds row seed r s
    ∙ ap (λ n. Some (with_number setup.times.last n row seed)) (zero-add i) ∙ ap (λ l. Some (with_number l i row seed)) (sym is)

-- ---- one chain more of a list of chains

-- the first refusal
pub refused_at : (chains : List Chain) (i : ℕ) (chain : Chain) (refusal : SenderRefusal) → slice_get chains i ≡ Some chain → first_wrong (take i chains) ≡ None → IsRefusedFor chain refusal → IsRefusal chains refusal
refused_at chains i chain refusal at none (inl memory) = inl memory
refused_at chains i chain refusal at none (inr wrong) =
    let here : get_or chains i chain ≡ chain = get_or_from_slice_get chains i chain chain at in
    let test : not (is_right (get_or chains i chain)) ≡ true = ap (λ k. not (is_right k)) here ∙ ap not wrong.0 in
    let found : first_wrong chains ≡ Some (get_or chains i chain) = find_here (λ k. not (is_right k)) chains i chain (slice_get_within chains i chain at) none test in
    inr (ap (option_map wrong_seed) (found ∙ ap (λ k. Some k) here) ∙ ap (λ e. Some e) (sym wrong.1))

-- no wrong one, with a right one more
pub right_at : (chains : List Chain) (i : ℕ) (chain : Chain) → slice_get chains i ≡ Some chain → first_wrong (take i chains) ≡ None → is_right chain ≡ true → first_wrong (take (i + 1) chains) ≡ None
right_at chains i chain at none right =
    let here : get_or chains i chain ≡ chain = get_or_from_slice_get chains i chain chain at in
    let test : not (is_right (get_or chains i chain)) ≡ false = ap (λ k. not (is_right k)) here ∙ ap not right in
    find_none_more (λ k. not (is_right k)) chains i chain (slice_get_within chains i chain at) none test

-- the first ones, with one more
taken_more : (chains : List Chain) (i : ℕ) (chain : Chain) → slice_get chains i ≡ Some chain → take (i + 1) chains ≡ take i chains ++ chain ∷ []
taken_more chains i chain at =
    let here : get_or chains i chain ≡ chain = get_or_from_slice_get chains i chain chain at in
    take_more chains i chain (slice_get_within chains i chain at) ∙ ap (λ k. take i chains ++ k ∷ []) here

-- fresh chains, with one more
pub fresh_at : (chains : List Chain) (i : ℕ) (chain : Chain) (now more : List Progress) (next : Progress) → slice_get chains i ≡ Some chain → AreFresh (take i chains) now → IsFresh chain next → more ≡ now ++ next ∷ [] → AreFresh (take (i + 1) chains) more
fresh_at chains i chain now more next at fresh one pushed =
    let P : List Progress → Type 0 = λ cs. AreFresh (take (i + 1) chains) cs in
    subst P (sym pushed) (record {
      same =
          map-append chain_in now (next ∷ []) ∙ ap (λ cs. cs ++ chain_in next ∷ []) fresh.same
          ∙ ap (λ k. take i chains ++ k ∷ []) one.chain ∙ sym (taken_more chains i chain at);
      reached = All-append (λ (p : Progress). p.reached ≡ 0) now (next ∷ []) fresh.reached (only (λ (p : Progress). p.reached ≡ 0) next one.reached);
    })

-- ---- one chain more of a setup

pub refused_here : (setup : Parts) (seeds : List Key) (i last : ℕ) (row : ChainRow) (seed : Key) (refusal : SenderRefusal) → slice_get setup.rows i ≡ Some row → slice_get seeds i ≡ Some seed → last ≡ setup.times.last → first_wrong (take i (chains_of (record { setup = setup; seeds = seeds }))) ≡ None → IsRefusedFor (with_number last i row seed) refusal → IsRefusal (chains_of (record { setup = setup; seeds = seeds })) refusal
refused_here setup seeds i last row seed refusal r s is none why =
    refused_at (chains_of (record { setup = setup; seeds = seeds })) i (with_number last i row seed) refusal (chain_here setup seeds i last row seed r s is) none why

pub right_more : (setup : Parts) (seeds : List Key) (i last : ℕ) (row : ChainRow) (seed : Key) → slice_get setup.rows i ≡ Some row → slice_get seeds i ≡ Some seed → last ≡ setup.times.last → first_wrong (take i (chains_of (record { setup = setup; seeds = seeds }))) ≡ None → is_right (with_number last i row seed) ≡ true → first_wrong (take (i + 1) (chains_of (record { setup = setup; seeds = seeds }))) ≡ None
right_more setup seeds i last row seed r s is none right =
    right_at (chains_of (record { setup = setup; seeds = seeds })) i (with_number last i row seed) (chain_here setup seeds i last row seed r s is) none right

pub fresh_more : (setup : Parts) (seeds : List Key) (i last : ℕ) (row : ChainRow) (seed : Key) (now more : List Progress) (next : Progress) → slice_get setup.rows i ≡ Some row → slice_get seeds i ≡ Some seed → last ≡ setup.times.last → AreFresh (take i (chains_of (record { setup = setup; seeds = seeds }))) now → IsFresh (with_number last i row seed) next → more ≡ now ++ next ∷ [] → AreFresh (take (i + 1) (chains_of (record { setup = setup; seeds = seeds }))) more
fresh_more setup seeds i last row seed now more next r s is fresh one pushed =
    fresh_at (chains_of (record { setup = setup; seeds = seeds })) i (with_number last i row seed) now more next (chain_here setup seeds i last row seed r s is) fresh one pushed

-- the openings of the first chains, with one more
pub openings_more : (setup : Parts) (seeds : List Key) (i last : ℕ) (row : ChainRow) (seed : Key) (now more : List OpeningSeen) (next : OpeningSeen) → slice_get setup.rows i ≡ Some row → slice_get seeds i ≡ Some seed → last ≡ setup.times.last → map opening_chain now ≡ take i (chains_of (record { setup = setup; seeds = seeds })) → next.chain ≡ with_number last i row seed → more ≡ now ++ next ∷ [] → map opening_chain more ≡ take (i + 1) (chains_of (record { setup = setup; seeds = seeds }))
openings_more setup seeds i last row seed now more next r s is same own pushed =
    let chains = chains_of (record { setup = setup; seeds = seeds }) in
    ap (map opening_chain) pushed ∙ map-append opening_chain now (next ∷ []) ∙ ap (λ cs. cs ++ next.chain ∷ []) same ∙ ap (λ k. take i chains ++ k ∷ []) own
    ∙ sym (taken_more chains i (with_number last i row seed) (chain_here setup seeds i last row seed r s is))

-- all of them
pub all_fresh : (setup : Parts) (seeds : List Key) (i : ℕ) (now : List Progress) → length seeds ≡ length setup.rows → length setup.rows ≤ i → AreFresh (take i (chains_of (record { setup = setup; seeds = seeds }))) now → AreFresh (chains_of (record { setup = setup; seeds = seeds })) now
all_fresh setup seeds i now same all fresh =
    let chains = chains_of (record { setup = setup; seeds = seeds }) in
    let P : List Chain → Type 0 = λ cs. AreFresh cs now in
    subst P (take_all i chains (omega (arith, chains_length setup.times.last 0 setup.rows seeds same))) fresh

pub all_openings : (setup : Parts) (seeds : List Key) (i : ℕ) (now : List OpeningSeen) → length seeds ≡ length setup.rows → length setup.rows ≤ i → map opening_chain now ≡ take i (chains_of (record { setup = setup; seeds = seeds })) → map opening_chain now ≡ chains_of (record { setup = setup; seeds = seeds })
all_openings setup seeds i now same all taken =
    taken ∙ take_all i (chains_of (record { setup = setup; seeds = seeds })) (omega (arith, chains_length setup.times.last 0 setup.rows seeds same))

pub all_right : (setup : Parts) (seeds : List Key) (i : ℕ) → length seeds ≡ length setup.rows → length setup.rows ≤ i → first_wrong (take i (chains_of (record { setup = setup; seeds = seeds }))) ≡ None → seeds_refused (chains_of (record { setup = setup; seeds = seeds })) ≡ None
all_right setup seeds i same all none =
    let chains = chains_of (record { setup = setup; seeds = seeds }) in
    let whole = take_all i chains (omega (arith, chains_length setup.times.last 0 setup.rows seeds same)) in
    ap (option_map wrong_seed) (ap first_wrong (sym whole) ∙ none)

-- what a chain more costs
pub cost_more : (before steps after i bound : ℕ) (now more : List Progress) (next : Progress) → steps + sum_by left_in now ≤ before + i * bound → after + next.left ≤ steps + bound → more ≡ now ++ next ∷ [] → after + sum_by left_in more ≤ before + (i + 1) * bound
cost_more before steps after i bound now more next sums one pushed =
    let spread : (i + 1) * bound ≡ i * bound + 1 * bound = add-mul i 1 bound in
    let all : sum_by left_in more ≡ sum_by left_in now + next.left = ap (sum_by left_in) pushed ∙ sum_by_push left_in now next in
    omega arith

-- what all cost where the next one is refused
pub cost_refused : (before steps after i count bound sums left : ℕ) → steps + sums ≤ before + i * bound → after + left ≤ steps + bound → i < count → after ≤ before + count * bound
cost_refused before steps after i count bound sums left all one within =
    let spread : (i + 1) * bound ≡ i * bound + 1 * bound = add-mul i 1 bound in
    let below : (i + 1) * bound ≤ count * bound = mul-le-mul_right bound (omega arith) in
    omega arith

-- ---- the sender that is opened

seeds_back : (last number : ℕ) (rows : List ChainRow) (seeds : List Key) → length seeds ≡ length rows → map seed_of (chains_from last number rows seeds) ≡ seeds
seeds_back last number [] [] same = refl
seeds_back last number [] (seed ∷ seeds) same = absurd (omega arith)
seeds_back last number (row ∷ rows) [] same = absurd (omega arith)
seeds_back last number (row ∷ rows) (seed ∷ seeds) same = ap (λ ks. seed ∷ ks) (seeds_back last (number + 1) rows seeds (omega arith))

pub stream_back : (setup : Parts) (seeds : List Key) (now : List Progress) → length seeds ≡ length setup.rows → AreFresh (chains_of (record { setup = setup; seeds = seeds })) now → stream_of setup now ≡ record { setup = setup; seeds = seeds }
stream_back setup seeds now same fresh =
    let of : List Key → Stream = λ ks. record { setup = setup; seeds = ks } in
    ap of (ap (map seed_of) fresh.same ∙ seeds_back setup.times.last 0 setup.rows seeds same)

pub sender_opened : (setup : Parts) (seeds : List Key) (now : List Progress) → length seeds ≡ length setup.rows → AreFresh (chains_of (record { setup = setup; seeds = seeds })) now → IsSender setup now 0 0
sender_opened setup seeds now same fresh =
    let lengths : length (map chain_in now) ≡ length (chains_of (record { setup = setup; seeds = seeds })) = ap length fresh.same in
    record {
      same = fresh.same ∙ ap chains_of (sym (stream_back setup seeds now same fresh));
      count = omega (arith, lengths, length-map now chain_in, chains_length setup.times.last 0 setup.rows seeds same);
      reached = λ k d within. record { least = omega (arith, fresh.reached k d within); most = omega (arith, fresh.reached k d within) };
      few = omega arith;
    }

-- ---- chains that were opened on their own

-- the opening at the front of those that are left
pub opening_next : (all : List OpeningSeen) (i : ℕ) (next : OpeningSeen) → i < length all → next ≡ get_or (drop i all) 0 next → get_or all i next ≡ next
opening_next [] i next within is = absurd (omega (arith, within))
opening_next (one ∷ all) zero next within is = sym is
opening_next (one ∷ all) (suc i) next within is = opening_next all i next (omega (arith, within)) is

pub chain_next : (all : List OpeningSeen) (i : ℕ) (next : OpeningSeen) → i < length all → get_or all i next ≡ next → slice_get (map opening_chain all) i ≡ Some next.chain
chain_next [] i next within is = absurd (omega (arith, within))
chain_next (one ∷ all) zero next within is = ap (λ (o : OpeningSeen). Some o.chain) is
chain_next (one ∷ all) (suc i) next within is = chain_next all i next (omega (arith, within)) is

one_less : (all : List OpeningSeen) (i : ℕ) → drop 1 (drop i all) ≡ drop (suc i) all
one_less all zero = refl
one_less [] (suc i) = refl
one_less (one ∷ all) (suc i) = one_less all i

pub drop_next : (all : List OpeningSeen) (i : ℕ) → drop 1 (drop i all) ≡ drop (i + 1) all
drop_next all i =
    let next : suc i ≡ i + 1 = omega arith in
    one_less all i ∙ ap (λ n. drop n all) next

-- one is left
pub left_some : (all rest : List OpeningSeen) (i : ℕ) → rest ≡ drop i all → i < length all → 0 < length rest
left_some [] rest i is within = absurd (omega (arith, within))
left_some (one ∷ all) rest zero is within = subst (λ os. 0 < length os) (sym is) (omega arith)
left_some (one ∷ all) rest (suc i) is within = left_some all rest i is (omega (arith, within))

-- all of them
pub all_fresh_at : (all : List OpeningSeen) (i : ℕ) (now : List Progress) → length all ≤ i → AreFresh (take i (map opening_chain all)) now → AreFresh (map opening_chain all) now
all_fresh_at all i now within fresh =
    subst (λ cs. AreFresh cs now) (take_all i (map opening_chain all) (omega (arith, within, length-map all opening_chain))) fresh

pub whole_right : (all : List OpeningSeen) (i : ℕ) → length all ≤ i → first_wrong (take i (map opening_chain all)) ≡ None → seeds_refused (map opening_chain all) ≡ None
whole_right all i within none =
    ap (option_map wrong_seed) (ap first_wrong (sym (take_all i (map opening_chain all) (omega (arith, within, length-map all opening_chain)))) ∙ none)

-- once each was opened, their chains are the same
pub chains_same : (before now : List OpeningSeen) → AreOpened before now → map opening_chain now ≡ map opening_chain before
chains_same [] [] opened = refl
chains_same [] (one ∷ now) opened = absurd (omega (arith, opened.0))
chains_same (first ∷ before) [] opened = absurd (omega (arith, opened.0))
chains_same (first ∷ before) (one ∷ now) opened =
    ap (λ c. c ∷ map opening_chain now) (opened.1 0 first (omega arith)).chain
    ∙ ap (λ cs. first.chain ∷ cs) (chains_same before now (omega (arith, opened.0), λ k d within. opened.1 (suc k) d (omega (arith, within))))

pub all_opened : (before now : List OpeningSeen) → AreOpened before now → All IsOpened now
all_opened before now opened = λ k d within. (opened.1 k d (omega (arith, opened.0, within))).opened
