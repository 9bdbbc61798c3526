-- The newest key of each chain along a history, and what is good by it.
use Rattle.std.proofs.Common.{◌≡◌, ℕ, ◌<◌, ◌≤◌, Bool, true, false, cond, ◌&&◌, ◌||◌, List, [], ◌∷◌, ◌++◌, max, Option, Some, None, inl, inr, refl, sym, ap, subst, ◌∙◌, arith, append_assoc, ◌==◌, ◌-◌, bytes_eq}
use Rattle.std.specs.Prelude.{◌↔◌, not, nat_lt, unwrap_or, option_map, filter, find, fold, slice_get}
use Rattle.std.specs.List.{list_all}
use Rattle.std.proofs.lemmas.Bool.{cases_Bool, and_parts, and_from, ltb-true, ltb-false, lt-ltb, eqb-true, eq-eqb, ne_eqb}
use Rattle.std.proofs.lemmas.List.{append-nil}
use Rattle.std.proofs.lemmas.List.Sums.{fold-append}
use Rattle.tesla_base.specs.declared.names.StreamId.{StreamId}
use Rattle.tesla_base.specs.declared.names.Key.{Key}
use Rattle.tesla_base.proofs.Filtered.{all_filtered, filtered_pass, find_first_kept}
use Rattle.tesla_base.proofs.Passing.{unfound_fail}
use Rattle.tesla_clock.specs.Schedule.{bound_of}
use Rattle.tesla_frame.specs.declared.row.KeyRow.{KeyRow}
use Rattle.tesla_frame.specs.Frame.{Frame}
use Rattle.tesla_frame.specs.Reading.{frame_of}
use Rattle.tesla_keys.specs.Offers.{offer_of, is_new, is_refused, IsGood}
use Rattle.tesla_keys.specs.Tip.{Tip}
use Rattle.tesla_keys.specs.declared.offer.Offer.TheVariants.{Old, Good, Bad}
use Rattle.tesla_prf.specs.Keys.{walk}
use Rattle.tesla_fitting.specs.declared.config.Config.{Config}
use Rattle.tesla_receiver.specs.Entries.{Arrival, Entry}
use Rattle.tesla_fitting.specs.declared.verdict.Verdict.{Verdict}
use Rattle.tesla_fitting.specs.declared.verdict.Verdict.TheVariants.{Foreign, Misfit, Future, BadKey}
use Rattle.tesla_fitting.specs.Fitting.{stream_of, is_misfit, is_future}
use Rattle.tesla_receiver.specs.Answer.{is_bad, verdict_taken, verdict_on, verdict_of, late_arrival}
use Rattle.tesla_receiver.specs.History.{Event, Arrives, Takes, Ends, event_of, entry_of, IsLegalAfter, IsLegal, arrival_in, arrivals_in, given_in}
use Rattle.tesla_fitting.specs.Rows.{keys_of, is_of, leads_to}
use Rattle.tesla_receiver.specs.Keys.{keys_in, takes_keys, keys_taken, greatest, newest, new_keys, fresh_keys, is_good}
use Rattle.tesla_walks.specs.Tips.{first_tip, raised}
use Rattle.tesla_receiver.specs.Tips.{tip_of}
use Rattle.tesla_receiver.proofs.EachAfter.{each_after_more}
use Rattle.tesla_receiver.proofs.Events.{arrivals_more}
use Rattle.tesla_receiver.proofs.Newest.{newest_fresh}
use Rattle.tesla_receiver.proofs.Offers.{tip_at, IsTip, only_of, raised_own, raised_to, leads_by_tip, tip_none, tip_stays, tip_grows}
use Rattle.tesla_receiver.proofs.OneKey.{new_few}

-- ---- the index of the newest key

index_step : (own above : Bool) (tip : Tip) (row : KeyRow) → nat_lt tip.index row.index ≡ above → (cond (own && above) (tip_at row) tip).index ≡ cond own (max tip.index row.index) tip.index
index_step true true tip row e = let less : tip.index < row.index = ltb-true tip.index row.index e in omega (arith, less)
index_step true false tip row e = let more : row.index ≤ tip.index = ltb-false tip.index row.index e in omega (arith, more)
index_step false above tip row e = refl

greatest_step : (chain n : ℕ) (row : KeyRow) (rows : List KeyRow) → greatest chain n (row ∷ rows) ≡ greatest chain (cond (is_of chain row) (max n row.index) n) rows
greatest_step chain n row rows = elim (is_of chain row) as (λ b. fold (λ m r. max m r.index) n (cond b (row ∷ filter (is_of chain) rows) (filter (is_of chain) rows)) ≡ fold (λ m r. max m r.index) (cond b (max n row.index) n) (filter (is_of chain) rows)) [
  | true ↦ refl
  | false ↦ refl
]

raised_index : (chain : ℕ) (tip : Tip) (rows : List KeyRow) → (fold (raised chain) tip rows).index ≡ greatest chain tip.index rows
raised_index chain tip [] = refl
raised_index chain tip (row ∷ rows) =
    raised_index chain (raised chain tip row) rows ∙ ap (λ n. greatest chain n rows) (index_step (is_of chain row) (nat_lt tip.index row.index) tip row refl)
    ∙ sym (greatest_step chain tip.index row rows)

-- the newest key is of the newest index
pub tip_index : (cfg : Config) (arrivals : List Arrival) (chain : ℕ) → (tip_of cfg arrivals chain).index ≡ newest cfg arrivals chain
unfolding tip_of
tip_index cfg arrivals chain = raised_index chain (first_tip cfg chain) (fresh_keys cfg arrivals) ∙ sym (newest_fresh cfg arrivals chain)

-- ---- one arrival more

-- the keys that were new, with those of one arrival more
pub fresh_more : (cfg : Config) (arrivals : List Arrival) (arrival : Arrival) → fresh_keys cfg (arrivals ++ arrival ∷ []) ≡ fresh_keys cfg arrivals ++ new_keys cfg arrivals arrival
unfolding fresh_keys
fresh_more cfg arrivals arrival = each_after_more (new_keys cfg) arrivals arrival

-- the newest key by those that the arrival takes
pub tip_more : (cfg : Config) (arrivals : List Arrival) (arrival : Arrival) (chain : ℕ) → tip_of cfg (arrivals ++ arrival ∷ []) chain ≡ fold (raised chain) (tip_of cfg arrivals chain) (new_keys cfg arrivals arrival)
unfolding tip_of
tip_more cfg arrivals arrival chain =
    ap (fold (raised chain) (first_tip cfg chain)) (fresh_more cfg arrivals arrival)
    ∙ fold-append (raised chain) (first_tip cfg chain) (fresh_keys cfg arrivals) (new_keys cfg arrivals arrival)

-- what all rows pass, the only one of the chain passes
only_passes : (p : KeyRow → Bool) (chain : ℕ) (rows : List KeyRow) (row : KeyRow) → list_all p rows ≡ true → filter (is_of chain) rows ≡ row ∷ [] → p row ≡ true
only_passes p chain rows row h only =
    let passed : list_all p (row ∷ []) ≡ true = subst (λ (xs : List KeyRow). list_all p xs ≡ true) only (all_filtered p (is_of chain) rows h) in
    (and_parts (p row) true passed).0

-- a new key of the chain is above the newest
new_above : (cfg : Config) (arrivals : List Arrival) (arrival : Arrival) (chain : ℕ) (row : KeyRow) → filter (is_of chain) (new_keys cfg arrivals arrival) ≡ row ∷ [] → newest cfg arrivals chain < row.index
new_above cfg arrivals arrival chain row only =
    let newer : KeyRow → Bool = λ other. nat_lt (newest cfg arrivals other.chain.0) other.index in
    let same : row.chain.0 ≡ chain = eqb-true row.chain.0 chain (only_of chain (new_keys cfg arrivals arrival) row only) in
    let above : newest cfg arrivals row.chain.0 < row.index = ltb-true (newest cfg arrivals row.chain.0) row.index (only_passes newer chain (new_keys cfg arrivals arrival) row (filtered_pass newer (keys_taken cfg arrival)) only) in
    subst (λ (c : ℕ). newest cfg arrivals c < row.index) same above

tip_above : (cfg : Config) (arrivals : List Arrival) (arrival : Arrival) (chain : ℕ) (row : KeyRow) → filter (is_of chain) (new_keys cfg arrivals arrival) ≡ row ∷ [] → (tip_of cfg arrivals chain).index < row.index
tip_above cfg arrivals arrival chain row only = subst (λ (n : ℕ). n < row.index) (sym (tip_index cfg arrivals chain)) (new_above cfg arrivals arrival chain row only)

-- where the arrival takes a new key of the chain, that is the newest
pub tip_taken : (cfg : Config) (arrivals : List Arrival) (arrival : Arrival) (chain : ℕ) (row : KeyRow) → filter (is_of chain) (new_keys cfg arrivals arrival) ≡ row ∷ [] → tip_of cfg (arrivals ++ arrival ∷ []) chain ≡ tip_at row
tip_taken cfg arrivals arrival chain row only =
    tip_more cfg arrivals arrival chain ∙ raised_own chain (tip_of cfg arrivals chain) (new_keys cfg arrivals arrival)
    ∙ ap (fold (raised chain) (tip_of cfg arrivals chain)) only
    ∙ raised_to chain (tip_of cfg arrivals chain) row (only_of chain (new_keys cfg arrivals arrival) row only) (tip_above cfg arrivals arrival chain row only)

-- and where it takes none, the newest is as before
pub tip_kept : (cfg : Config) (arrivals : List Arrival) (arrival : Arrival) (chain : ℕ) → filter (is_of chain) (new_keys cfg arrivals arrival) ≡ [] → tip_of cfg (arrivals ++ arrival ∷ []) chain ≡ tip_of cfg arrivals chain
tip_kept cfg arrivals arrival chain none =
    tip_more cfg arrivals arrival chain ∙ raised_own chain (tip_of cfg arrivals chain) (new_keys cfg arrivals arrival)
    ∙ ap (fold (raised chain) (tip_of cfg arrivals chain)) none

-- the new key, or the newest before
abbrev pub tip_after : Tip → Option KeyRow → Tip
tip_after tip None = tip
tip_after tip (Some row) = tip_at row

-- both at once
pub tip_found : (cfg : Config) (arrivals : List Arrival) (arrival : Arrival) (chain : ℕ) → tip_of cfg (arrivals ++ arrival ∷ []) chain ≡ tip_after (tip_of cfg arrivals chain) (find (is_of chain) (new_keys cfg arrivals arrival))
tip_found cfg arrivals arrival chain =
    let new : List KeyRow = new_keys cfg arrivals arrival in
    let tip : Tip = tip_of cfg arrivals chain in
    elim (new_few cfg arrivals arrival chain) [
      | inl none ↦ tip_kept cfg arrivals arrival chain none ∙ ap (tip_after tip) (sym (find_first_kept (is_of chain) new ∙ ap (λ rows. slice_get rows 0) none))
      | inr one ↦ tip_taken cfg arrivals arrival chain one.0 one.1 ∙ ap (tip_after tip) (sym (find_first_kept (is_of chain) new ∙ ap (λ rows. slice_get rows 0) one.1))
    ]

-- ---- good keys

-- each chain's newest key reaches its commitment and all of its keys that were new
abbrev pub HasTips : Config → List Arrival → Type 0
HasTips cfg arrivals = (chain : ℕ) → IsTip chain (first_tip cfg chain) (fresh_keys cfg arrivals) (tip_of cfg arrivals chain)

pub tips_none : (cfg : Config) → HasTips cfg []
unfolding tip_of fresh_keys
tips_none cfg = λ chain. tip_none chain (first_tip cfg chain)

-- a key that is above the newest is good where it leads to it
pub good_by_tip : (cfg : Config) (arrivals : List Arrival) (row : KeyRow) → HasTips cfg arrivals → newest cfg arrivals row.chain.0 < row.index → is_good cfg arrivals row ≡ leads_to row (tip_of cfg arrivals row.chain.0).index (tip_of cfg arrivals row.chain.0).key
unfolding tip_of
good_by_tip cfg arrivals row tips above =
    let chain : ℕ = row.chain.0 in
    let first : Tip = first_tip cfg chain in
    let rows : List KeyRow = fresh_keys cfg arrivals in
    let higher : (fold (raised chain) first rows).index < row.index = subst (λ (n : ℕ). n < row.index) (sym (tip_index cfg arrivals chain)) above in
    ap (λ b. b && leads_to row first.index first.key && list_all (λ other. not (is_of chain other) || leads_to row other.index other.key) rows) (lt-ltb (newest cfg arrivals chain) row.index above)
    ∙ leads_by_tip chain first rows row (tips chain) higher

bad_step : (higher good leads : Bool) → (higher ≡ true → good ≡ leads) → (higher && not good) ≡ (higher && not leads)
bad_step true good leads same = ap not (same refl)
bad_step false good leads same = refl

-- and bad where it is above and doesn't
pub bad_by_tip : (cfg : Config) (arrivals : List Arrival) (row : KeyRow) → HasTips cfg arrivals → is_bad cfg arrivals row ≡ (nat_lt (tip_of cfg arrivals row.chain.0).index row.index && not (leads_to row (tip_of cfg arrivals row.chain.0).index (tip_of cfg arrivals row.chain.0).key))
bad_by_tip cfg arrivals row tips =
    let tip : Tip = tip_of cfg arrivals row.chain.0 in
    bad_step (nat_lt (newest cfg arrivals row.chain.0) row.index) (is_good cfg arrivals row) (leads_to row tip.index tip.key)
    (λ e. good_by_tip cfg arrivals row tips (ltb-true (newest cfg arrivals row.chain.0) row.index e))
    ∙ ap (λ (n : ℕ). nat_lt n row.index && not (leads_to row tip.index tip.key)) (sym (tip_index cfg arrivals row.chain.0))

-- ---- answers

good_whole : (higher first each leads : Bool) → (higher ≡ true → (higher && first && each) ≡ leads) → (higher && first && each) ≡ (higher && leads)
good_whole true first each leads same = same refl
good_whole false first each leads same = refl

above_test : (a b : ℕ) → nat_lt a b ≡ not (b - a == 0)
above_test a b = elim (cases_Bool (nat_lt a b)) [
  | inl e ↦ (let less : a < b = ltb-true a b e in
      e ∙ ap not (sym (ne_eqb (b - a) 0 (λ none. omega (arith, less, none)))))
  | inr e ↦ (let more : b ≤ a = ltb-false a b e in
      e ∙ ap not (sym (eq-eqb (b - a) 0 (omega (arith, more)))))
]

new_answer : (none same : Bool) (gap : ℕ) (walked : Key) → is_new (cond none Old (cond same (Good gap) (Bad walked))) ≡ not none
new_answer true same gap walked = refl
new_answer false true gap walked = refl
new_answer false false gap walked = refl

refused_answer : (none same : Bool) (gap : ℕ) (walked : Key) → is_refused (cond none Old (cond same (Good gap) (Bad walked))) ≡ (not none && not same)
refused_answer true same gap walked = refl
refused_answer false true gap walked = refl
refused_answer false false gap walked = refl

good_answer : (none same : Bool) (gap : ℕ) (walked : Key) → IsGood (cond none Old (cond same (Good gap) (Bad walked))) ↔ ((not none && same) ≡ true)
good_answer true same gap walked = (λ h. absurd h, λ e. absurd (cc))
good_answer false true gap walked = (λ h. refl, λ e. tt)
good_answer false false gap walked = (λ h. absurd h, λ e. absurd (cc))

module _ (cfg : Config) (arrivals : List Arrival) (row : KeyRow) where
  -- a key is new where it isn't answered old
  pub offers_new : nat_lt (newest cfg arrivals row.chain.0) row.index ≡ is_new (offer_of (tip_of cfg arrivals row.chain.0) row.index row.key)
  offers_new =
      let tip : Tip = tip_of cfg arrivals row.chain.0 in
      let walked : Key = walk row.key (row.index - tip.index) in
      ap (λ (n : ℕ). nat_lt n row.index) (sym (tip_index cfg arrivals row.chain.0)) ∙ above_test tip.index row.index
      ∙ sym (new_answer (row.index - tip.index == 0) (bytes_eq walked.0 tip.key.0) (row.index - tip.index) walked)

  -- and bad where it is refused
  pub offers_bad : HasTips cfg arrivals → is_bad cfg arrivals row ≡ is_refused (offer_of (tip_of cfg arrivals row.chain.0) row.index row.key)
  offers_bad tips =
      let tip : Tip = tip_of cfg arrivals row.chain.0 in
      let walked : Key = walk row.key (row.index - tip.index) in
      bad_by_tip cfg arrivals row tips ∙ ap (λ b. b && not (leads_to row tip.index tip.key)) (above_test tip.index row.index)
      ∙ sym (refused_answer (row.index - tip.index == 0) (bytes_eq walked.0 tip.key.0) (row.index - tip.index) walked)

  -- and good where the answer is good
  pub offers_good : HasTips cfg arrivals → IsGood (offer_of (tip_of cfg arrivals row.chain.0) row.index row.key) ↔ (is_good cfg arrivals row ≡ true)
  offers_good tips =
      let tip : Tip = tip_of cfg arrivals row.chain.0 in
      let walked : Key = walk row.key (row.index - tip.index) in
      let whole : is_good cfg arrivals row ≡ (nat_lt tip.index row.index && leads_to row tip.index tip.key) =
      good_whole (nat_lt (newest cfg arrivals row.chain.0) row.index) (leads_to row (first_tip cfg row.chain.0).index (first_tip cfg row.chain.0).key) (list_all (λ other. not (is_of row.chain.0 other) || leads_to row other.index other.key) (fresh_keys cfg arrivals)) (leads_to row tip.index tip.key)
      (λ e. good_by_tip cfg arrivals row tips (ltb-true (newest cfg arrivals row.chain.0) row.index e))
      ∙ ap (λ (n : ℕ). nat_lt n row.index && leads_to row tip.index tip.key) (sym (tip_index cfg arrivals row.chain.0)) in
      subst (λ b. IsGood (offer_of tip row.index row.key) ↔ (b ≡ true)) (sym (whole ∙ ap (λ b. b && leads_to row tip.index tip.key) (above_test tip.index row.index)))
      (good_answer (row.index - tip.index == 0) (bytes_eq walked.0 tip.key.0) (row.index - tip.index) walked)

-- one arrival more, whose new keys are good
pub tips_more : (cfg : Config) (arrivals : List Arrival) (arrival : Arrival) → HasTips cfg arrivals → list_all (is_good cfg arrivals) (new_keys cfg arrivals arrival) ≡ true → HasTips cfg (arrivals ++ arrival ∷ [])
tips_more cfg arrivals arrival tips good = λ chain.
    let new : List KeyRow = new_keys cfg arrivals arrival in
    let tip : Tip = tip_of cfg arrivals chain in
    let first : Tip = first_tip cfg chain in
    let rows : List KeyRow = fresh_keys cfg arrivals in
    let whole : IsTip chain first (rows ++ new) (fold (raised chain) tip new) = elim (new_few cfg arrivals arrival chain) [
      | inl none ↦ tip_stays chain first tip rows new (tips chain) none
      | inr one ↦ (let row : KeyRow = one.0 in
          let same : row.chain.0 ≡ chain = eqb-true row.chain.0 chain (only_of chain new row one.1) in
          let above : newest cfg arrivals row.chain.0 < row.index = subst (λ (c : ℕ). newest cfg arrivals c < row.index) (sym same) (new_above cfg arrivals arrival chain row one.1) in
          let leads : leads_to row (tip_of cfg arrivals row.chain.0).index (tip_of cfg arrivals row.chain.0).key ≡ true = sym (good_by_tip cfg arrivals row tips above) ∙ only_passes (is_good cfg arrivals) chain new row good one.1 in
          tip_grows chain first tip rows new row (tips chain) one.1 (tip_above cfg arrivals arrival chain row one.1)
          (subst (λ (c : ℕ). leads_to row (tip_of cfg arrivals c).index (tip_of cfg arrivals c).key ≡ true) same leads))
    ] in
    subst (λ (t : Tip). IsTip chain first (fresh_keys cfg (arrivals ++ arrival ∷ [])) t) (sym (tip_more cfg arrivals arrival chain))
    (subst (λ (xs : List KeyRow). IsTip chain first xs (fold (raised chain) tip new)) (sym (fresh_more cfg arrivals arrival)) whole)

-- ---- the keys that a verdict takes

unrefused : (a b c : Bool) (stream : StreamId) (bound : Option ℕ) (o : Option KeyRow) (v : Verdict) → takes_keys (unwrap_or (cond a (Some (Foreign stream)) (cond b (Some Misfit) (cond c (Some (Future bound)) (option_map (λ (row : KeyRow). BadKey row.chain) o)))) v) ≡ true → o ≡ None
unrefused true b c stream bound o v e = absurd (cc)
unrefused false true c stream bound o v e = absurd (cc)
unrefused false false true stream bound o v e = absurd (cc)
unrefused false false false stream bound (Some row) v e = absurd (cc)
unrefused false false false stream bound None v e = refl

twice_not : (b : Bool) → not (not b) ≡ true → b ≡ true
twice_not true e = refl
twice_not false e = absurd (cc)

new_step : (good : KeyRow → Bool) (row : KeyRow) (kept : List KeyRow) (newer : Bool) → not (newer && not (good row)) ≡ true → list_all good kept ≡ true → list_all good (cond newer (row ∷ kept) kept) ≡ true
new_step good row kept true e h = and_from (good row) (list_all good kept) (twice_not (good row) e) h
new_step good row kept false e h = h

-- of keys of which none is new and not good, the new ones are good
new_pass : (newer good : KeyRow → Bool) (rows : List KeyRow) → list_all (λ row. not (newer row && not (good row))) rows ≡ true → list_all good (filter newer rows) ≡ true
new_pass newer good [] h = refl
new_pass newer good (row ∷ rows) h =
    let parts = and_parts (not (newer row && not (good row))) (list_all (λ r. not (newer r && not (good r))) rows) h in
    new_step good row (filter newer rows) (newer row) parts.0 (new_pass newer good rows parts.1)

on_good : (cfg : Config) (arrivals : List Arrival) (given : ℕ) (late : Arrival) (bound : Option ℕ) (o : Option Frame) → takes_keys (verdict_on cfg arrivals given late bound o) ≡ true → list_all (λ row. not (is_bad cfg arrivals row)) (keys_in cfg o) ≡ true
on_good cfg arrivals given late bound None e = refl
on_good cfg arrivals given late bound (Some frame) e =
    unfound_fail (is_bad cfg arrivals) (keys_of cfg frame)
    (unrefused (not ((stream_of frame).0 == cfg.setup.stream.0)) (is_misfit cfg frame) (is_future cfg bound frame) (stream_of frame) bound (find (is_bad cfg arrivals) (keys_of cfg frame)) (verdict_taken cfg (arrivals ++ late ∷ []) given bound frame) e)

verdict_good : (cfg : Config) (arrivals : List Arrival) (given ingest reading : ℕ) (bytes : List ℕ) → takes_keys (verdict_of cfg arrivals given ingest reading bytes) ≡ true → list_all (λ row. not (is_bad cfg arrivals row)) (keys_in cfg (frame_of bytes)) ≡ true
unfolding verdict_of
verdict_good cfg arrivals given ingest reading bytes e = on_good cfg arrivals given (late_arrival ingest reading bytes) (bound_of cfg.setup.times cfg.lag reading) (frame_of bytes) e

taken_step : (p : KeyRow → Bool) (rows : List KeyRow) (b : Bool) → (b ≡ true → list_all p rows ≡ true) → list_all p (cond b rows []) ≡ true
taken_step p rows true h = h refl
taken_step p rows false h = refl

-- the new keys of an arrival with its verdict are good
pub new_good : (cfg : Config) (arrivals : List Arrival) (given ingest reading : ℕ) (bytes : List ℕ) (v : Verdict) → v ≡ verdict_of cfg arrivals given ingest reading bytes → list_all (is_good cfg arrivals) (new_keys cfg arrivals (record { ingest = ingest; reading = reading; bytes = bytes; verdict = v })) ≡ true
new_good cfg arrivals given ingest reading bytes v answered =
    let arrival : Arrival = record { ingest = ingest; reading = reading; bytes = bytes; verdict = v } in
    new_pass (λ row. nat_lt (newest cfg arrivals row.chain.0) row.index) (is_good cfg arrivals) (keys_taken cfg arrival)
    (taken_step (λ row. not (is_bad cfg arrivals row)) (keys_in cfg (frame_of bytes)) (takes_keys v)
    (λ e. verdict_good cfg arrivals given ingest reading bytes (ap takes_keys (sym answered) ∙ e)))

-- one arrival more, with its verdict
pub tips_entered : (cfg : Config) (arrivals : List Arrival) (given ingest reading : ℕ) (bytes : List ℕ) (v : Verdict) → v ≡ verdict_of cfg arrivals given ingest reading bytes → HasTips cfg arrivals → HasTips cfg (arrivals ++ record { ingest = ingest; reading = reading; bytes = bytes; verdict = v } ∷ [])
tips_entered cfg arrivals given ingest reading bytes v answered tips =
    tips_more cfg arrivals (record { ingest = ingest; reading = reading; bytes = bytes; verdict = v }) tips (new_good cfg arrivals given ingest reading bytes v answered)

-- ---- histories

tips_quiet : (cfg : Config) (h : List Entry) (e : Entry) → arrival_in e ≡ [] → HasTips cfg (arrivals_in h) → HasTips cfg (arrivals_in (h ++ e ∷ []))
tips_quiet cfg h e none tips =
    subst (λ (xs : List Arrival). HasTips cfg xs) (sym (arrivals_more h e ∙ ap (λ xs. arrivals_in h ++ xs) none ∙ append-nil (arrivals_in h))) tips

tips_event : (cfg : Config) (h : List Entry) (event : Event) → HasTips cfg (arrivals_in h) → HasTips cfg (arrivals_in (h ++ entry_of cfg h event ∷ []))
tips_event cfg h (Arrives ingest reading bytes) tips =
    subst (λ (xs : List Arrival). HasTips cfg xs) (sym (arrivals_more h (entry_of cfg h (Arrives ingest reading bytes))))
    (tips_entered cfg (arrivals_in h) (given_in h) ingest reading bytes (verdict_of cfg (arrivals_in h) (given_in h) ingest reading bytes) refl tips)
tips_event cfg h (Takes releaser) tips = tips_quiet cfg h (entry_of cfg h (Takes releaser)) refl tips
tips_event cfg h (Ends ingest) tips = tips_quiet cfg h (entry_of cfg h (Ends ingest)) refl tips

tips_along : (cfg : Config) (before h : List Entry) → IsLegalAfter cfg before h → HasTips cfg (arrivals_in before) → HasTips cfg (arrivals_in (before ++ h))
tips_along cfg before [] l tips = subst (λ (b : List Entry). HasTips cfg (arrivals_in b)) (sym (append-nil before)) tips
tips_along cfg before (e ∷ h) l tips =
    subst (λ (b : List Entry). HasTips cfg (arrivals_in b)) (append_assoc before (e ∷ []) h)
    (tips_along cfg (before ++ e ∷ []) h l.1 (subst (λ (x : Entry). HasTips cfg (arrivals_in (before ++ x ∷ []))) (sym l.0) (tips_event cfg before (event_of e) tips)))

pub tips_legal : (cfg : Config) (h : List Entry) → IsLegal cfg h → HasTips cfg (arrivals_in h)
tips_legal cfg h l = tips_along cfg [] h l (tips_none cfg)

-- after a legal history a key that is above the newest is good where it leads to it
pub good_offered : (cfg : Config) (h : List Entry) (row : KeyRow) → IsLegal cfg h → newest cfg (arrivals_in h) row.chain.0 < row.index → is_good cfg (arrivals_in h) row ≡ leads_to row (tip_of cfg (arrivals_in h) row.chain.0).index (tip_of cfg (arrivals_in h) row.chain.0).key
good_offered cfg h row l above = good_by_tip cfg (arrivals_in h) row (tips_legal cfg h l) above

-- and bad where it is above and doesn't
pub bad_offered : (cfg : Config) (h : List Entry) (row : KeyRow) → IsLegal cfg h → is_bad cfg (arrivals_in h) row ≡ (nat_lt (tip_of cfg (arrivals_in h) row.chain.0).index row.index && not (leads_to row (tip_of cfg (arrivals_in h) row.chain.0).index (tip_of cfg (arrivals_in h) row.chain.0).key))
bad_offered cfg h row l = bad_by_tip cfg (arrivals_in h) row (tips_legal cfg h l)
