-- The counts of a history with one entry more.
use Rattle.std.proofs.Common.{◌≡◌, ◌∙◌, ◌==◌, ℕ, zero, suc, ◌+◌, ◌<◌, ◌≤◌, ◌^◌, List, [], ◌∷◌, ◌++◌, Option, Some, None, cond, drop, get_or, length, map, set, take, sym, refl, ap, subst, arith, add-zero, eq-eqb}
use Rattle.std.specs.Prelude.{replicate}
use Rattle.std.specs.List.{range_with_len}
use Rattle.std.proofs.lemmas.Bool.{ne_eqb}
use Rattle.std.proofs.lemmas.List.{length-drop}
use Rattle.std.proofs.lemmas.List.Sums.{count_by-le-length, sum_by_push}
use Rattle.tesla_base.proofs.Lists.{map_same}
use Rattle.tesla_counters.specs.Counts.{CountersId, NoneFalls}
use Rattle.tesla_fitting.specs.declared.config.Config.{Config}
use Rattle.tesla_state.specs.declared.report.Report.{Report}
use Rattle.tesla_follow.specs.Counted.{report_over}
use Rattle.tesla_follow.specs.Followed.{Followed, oldest, open_epochs}
use Rattle.tesla_follow.specs.History.{FollowEntry, followed}
use Rattle.tesla_follow.specs.Stands.{FollowStands, FollowState}
use Rattle.tesla_recorder.specs.watched.Chains.{is_chain}
use Rattle.tesla_recorder.specs.watched.Watched.{counts_in}
use Rattle.tesla_follow_station.specs.Counts.{chain_in, counts_of, counts_with, epoch_counts, released_by_chain, released_on, with_release}
use Rattle.tesla_follow_station.specs.Stands.{CountedStands, CountedState}
use Rattle.tesla_follow_station.proofs.Rising.{Rises, entry_rises, given_rises, report_rises, rises_length, verdicts_rise}

-- ---- lists of which no count falls

-- as many counts, of which none of the first list is above that at its place
data Below : List ℕ → List ℕ → Type 0 where
  none : Below [] []
  next : {x y : ℕ} {xs ys : List ℕ} → x ≤ y → Below xs ys → Below (x ∷ xs) (y ∷ ys)

below_join : {xs ys zs ws : List ℕ} → Below xs ys → Below zs ws → Below (xs ++ zs) (ys ++ ws)
below_join none second = second
below_join (next below first) second = next below (below_join first second)

below_map : (f g : ℕ → ℕ) (xs : List ℕ) → ((x : ℕ) → f x ≤ g x) → Below (map f xs) (map g xs)
below_map f g [] each = none
below_map f g (x ∷ xs) each = next (each x) (below_map f g xs each)

none_falls : {xs ys : List ℕ} → Below xs ys → NoneFalls xs ys
none_falls none k = omega arith
none_falls (next below rest) zero = below
none_falls (next below rest) (suc k) = none_falls rest k

-- no count is below zero
pub falls_zeros : (n : ℕ) (xs : List ℕ) → NoneFalls (replicate n 0) xs
falls_zeros zero xs k = omega arith
falls_zeros (suc n) xs zero = omega arith
falls_zeros (suc n) [] (suc k) = falls_zeros n [] k
falls_zeros (suc n) (x ∷ xs) (suc k) = falls_zeros n xs k

-- ---- one entry more

-- how many were released on a chain of a history with one entry more
released_more : (chain : ℕ) (history : List FollowEntry) (entry : FollowEntry) → released_on chain (history ++ entry ∷ []) ≡ released_on chain history + cond (is_chain chain (chain_in entry)) 1 0
released_more chain history entry = sum_by_push (λ (x : FollowEntry). cond (is_chain chain (chain_in x)) 1 0) history entry

on_rises : (history : List FollowEntry) (entry : FollowEntry) (chain : ℕ) → released_on chain history ≤ released_on chain (history ++ entry ∷ [])
on_rises history entry chain = let whole = released_more chain history entry in omega (arith, whole)

module _ (before after : Followed) (rises : Rises before after) where
  reports_rise : Below (counts_in (report_over before.epochs)) (counts_in (report_over after.epochs))
  reports_rise =
      next (report_rises (λ (r : Report). r.malformed) (λ a b. refl) (verdicts_rise 1) refl before after rises)
      (next (report_rises (λ (r : Report). r.foreign) (λ a b. refl) (verdicts_rise 2) refl before after rises)
      (next (report_rises (λ (r : Report). r.misfit) (λ a b. refl) (verdicts_rise 3) refl before after rises)
      (next (report_rises (λ (r : Report). r.future) (λ a b. refl) (verdicts_rise 4) refl before after rises)
      (next (report_rises (λ (r : Report). r.badkey) (λ a b. refl) (verdicts_rise 5) refl before after rises)
      (next (report_rises (λ (r : Report). r.late) (λ a b. refl) (verdicts_rise 6) refl before after rises)
      (next (report_rises (λ (r : Report). r.repeat) (λ a b. refl) (verdicts_rise 7) refl before after rises)
      (next (report_rises (λ (r : Report). r.full) (λ a b. refl) (verdicts_rise 8) refl before after rises)
      (next (report_rises (λ (r : Report). r.kept) (λ a b. refl) (verdicts_rise 9) refl before after rises)
      (next (report_rises (λ (r : Report). r.keys) (λ a b. refl) (verdicts_rise 10) refl before after rises)
      (next (report_rises (λ (r : Report). r.given) (λ a b. refl) given_rises refl before after rises) none))))))))))

  open_rises : length (open_epochs before) ≤ length (open_epochs after)
  open_rises =
      let fewer = rises_length before after rises in
      let old = length-drop (oldest before) before.epochs in
      let new = length-drop (oldest after) after.epochs in
      omega (arith, fewer, old, new)

  epochs_rise : Below (epoch_counts before) (epoch_counts after)
  epochs_rise =
      let (extended, early, unqueued, dropped) = rises in
      let fewer = rises_length before after rises in
      next (omega (arith, fewer)) (next open_rises (next early (next unqueued (next dropped none))))

-- no count falls in a history with one entry more
pub counts_rise : (cfg : Config) (history : List FollowEntry) (entry : FollowEntry) → NoneFalls (counts_of cfg history) (counts_of cfg (history ++ entry ∷ []))
counts_rise cfg history entry =
    let more = history ++ entry ∷ [] in
    let before = followed cfg history in
    let after = followed cfg more in
    let rises = entry_rises cfg history entry in
    none_falls
    (below_join (reports_rise before after rises)
    (below_join (below_map (λ chain. released_on chain history) (λ chain. released_on chain more) (range_with_len 0 8) (on_rises history entry)) (epochs_rise before after rises)))

-- ---- counts by chain

-- none is above the number of entries
pub by_chain_few : (history : List FollowEntry) (k : ℕ) → get_or (released_by_chain history) k 0 ≤ length history
by_chain_few history k = few (range_with_len 0 8) k
  where
    few : (chains : List ℕ) (i : ℕ) → get_or (map (λ chain. released_on chain history) chains) i 0 ≤ length history
    few [] i = omega arith
    few (chain ∷ chains) zero = count_by-le-length (λ entry. is_chain chain (chain_in entry)) history
    few (chain ∷ chains) (suc i) = few chains i

-- a number that is below all
hits_past : (f : ℕ → ℕ) (chain a n : ℕ) → chain < a → map (λ k. f k + cond (chain == k) 1 0) (range_with_len a n) ≡ map f (range_with_len a n)
hits_past f chain a zero past = refl
hits_past f chain a (suc n) past =
    let first : f a + cond (chain == a) 1 0 ≡ f a = ap (λ b. f a + cond b 1 0) (ne_eqb chain a (λ e. omega arith)) ∙ add-zero (f a) in
    ap (λ x. x ∷ map (λ k. f k + cond (chain == k) 1 0) (range_with_len (a + 1) n)) first ∙ ap (λ xs. f a ∷ xs) (hits_past f chain (a + 1) n (omega arith))

-- the number at one place is one more
raised_at : (f : ℕ → ℕ) (chain a i n : ℕ) → a + i ≡ chain → set (map f (range_with_len a n)) i (get_or (map f (range_with_len a n)) i 0 + 1) ≡ map (λ k. f k + cond (chain == k) 1 0) (range_with_len a n)
raised_at f chain a i zero at = refl
raised_at f chain a zero (suc n) at =
    let same : chain ≡ a = omega arith in
    ap (λ b. (f a + cond b 1 0) ∷ map f (range_with_len (a + 1) n)) (sym (eq-eqb chain a same))
    ∙ ap (λ xs. (f a + cond (chain == a) 1 0) ∷ xs) (sym (hits_past f chain (a + 1) n (omega arith)))
raised_at f chain a (suc i) (suc n) at =
    let first : f a ≡ f a + cond (chain == a) 1 0 = sym (ap (λ b. f a + cond b 1 0) (ne_eqb chain a (λ e. omega arith)) ∙ add-zero (f a)) in
    ap (λ x. x ∷ set (map f (range_with_len (a + 1) n)) i (get_or (map f (range_with_len (a + 1) n)) i 0 + 1)) first
    ∙ ap (λ xs. (f a + cond (chain == a) 1 0) ∷ xs) (raised_at f chain (a + 1) i n (omega arith))

with_more : (f : ℕ → ℕ) (chain : Option ℕ) → with_release chain (map f (range_with_len 0 8)) ≡ map (λ k. f k + cond (is_chain k chain) 1 0) (range_with_len 0 8)
with_more f None = map_same f (λ k. f k + 0) (range_with_len 0 8) (λ k. sym (add-zero (f k)))
with_more f (Some chain) = raised_at f chain 0 chain 8 (omega arith)

-- with the one more of a history with one entry more
pub by_chain_more : (history : List FollowEntry) (entry : FollowEntry) (chain : Option ℕ) → chain_in entry ≡ chain → with_release chain (released_by_chain history) ≡ released_by_chain (history ++ entry ∷ [])
by_chain_more history entry chain is =
    let before : ℕ → ℕ = λ k. released_on k history in
    with_more before chain
    ∙ map_same (λ k. before k + cond (is_chain k chain) 1 0) (λ k. released_on k (history ++ entry ∷ [])) (range_with_len 0 8)
    (λ k. ap (λ (c : Option ℕ). before k + cond (is_chain k c) 1 0) (sym is) ∙ sym (released_more k history entry))

-- behind a call that is told the counts before it
pub by_chain_is : (cfg : Config) (counts by_chain : List ℕ) (history : List FollowEntry) (entry : FollowEntry) (chain : Option ℕ) → counts ≡ counts_of cfg history → chain_in entry ≡ chain → by_chain ≡ with_release chain (take 8 (drop 11 counts))
    → by_chain ≡ released_by_chain (history ++ entry ∷ [])
by_chain_is cfg counts by_chain history entry chain was is made =
    made ∙ ap (λ (xs : List ℕ). with_release chain (take 8 (drop 11 xs))) was ∙ by_chain_more history entry chain is

-- and none is above its bound
pub by_chain_fits : (cfg : Config) (counts : List ℕ) (history : List FollowEntry) (k : ℕ) → counts ≡ counts_of cfg history → length history < 2 ^ 63 → get_or (take 8 (drop 11 counts)) k 0 + 1 < 2 ^ 64
by_chain_fits cfg counts history k was few =
    subst (λ (xs : List ℕ). get_or (take 8 (drop 11 xs)) k 0 + 1 < 2 ^ 64) (sym was) (let most = by_chain_few history k in omega (arith, few, most))

-- no count falls, told those by chain
pub falls_more : (cfg : Config) (counts by_chain : List ℕ) (history : List FollowEntry) (entry : FollowEntry) → counts ≡ counts_of cfg history → by_chain ≡ released_by_chain (history ++ entry ∷ [])
    → NoneFalls counts (counts_with (followed cfg (history ++ entry ∷ [])) by_chain)
falls_more cfg counts by_chain history entry was made =
    subst (λ (xs : List ℕ). NoneFalls xs (counts_with (followed cfg (history ++ entry ∷ [])) by_chain)) (sym was)
    (subst (λ (xs : List ℕ). NoneFalls (counts_of cfg history) (counts_with (followed cfg (history ++ entry ∷ [])) xs)) (sym made) (counts_rise cfg history entry))

-- ---- stations

-- a follower whose counts were set to those of its history
pub counted_now : (old now : CountedState) (by_chain : List ℕ) (history : List FollowEntry) → FollowStands old.follower history → now.follower ≡ old.follower
    → now.counts ≡ counts_with (followed old.follower.config history) by_chain → by_chain ≡ released_by_chain history → CountedStands now history
counted_now old now by_chain history stood same counts made = record {
  stood = subst (λ (f : FollowState). FollowStands f history) (sym same) stood;
  counted = counts ∙ ap (λ (xs : List ℕ). counts_with (followed old.follower.config history) xs) made ∙ ap (λ (f : FollowState). counts_of f.config history) (sym same);
}

-- a follower that stands for one entry more, beside the counts before it
pub counts_stand : (state : CountedState) (before after : FollowState) (counters : CountersId) (counts : List ℕ) (history : List FollowEntry) (entry : FollowEntry) (chain : Option ℕ)
    → length history < 2 ^ 63 → record { follower = before; counters = counters; counts = counts } ≡ state → CountedStands state history → after.config ≡ before.config
    → (FollowStands before history → FollowStands after (history ++ entry ∷ [])) → chain_in entry ≡ chain
    → (h : List FollowEntry) × (e : FollowEntry) × (length h < 2 ^ 63) × FollowStands after (h ++ e ∷ []) × (counts ≡ counts_of after.config h) × (chain_in e ≡ chain)
counts_stand state before after counters counts history entry chain few same stood config stands is =
    let old = subst (λ s. CountedStands s history) (sym same) stood in
    (history, entry, few, stands old.stood, old.counted ∙ ap (λ (c : Config). counts_of c history) (sym config), is)

-- and that stands for its history again, once they were counted
pub stands_counted : (state now : CountedState) (before after : FollowState) (counters : CountersId) (counts : List ℕ) (history : List FollowEntry) (entry : FollowEntry) (chain : Option ℕ)
    → record { follower = before; counters = counters; counts = counts } ≡ state → CountedStands state history → after.config ≡ before.config
    → (FollowStands before history → FollowStands after (history ++ entry ∷ [])) → chain_in entry ≡ chain
    → ((h : List FollowEntry) (e : FollowEntry) → FollowStands after (h ++ e ∷ []) → counts ≡ counts_of after.config h → chain_in e ≡ chain → CountedStands now (h ++ e ∷ [])) → CountedStands now (history ++ entry ∷ [])
stands_counted state now before after counters counts history entry chain same stood config stands is counted =
    let old = subst (λ s. CountedStands s history) (sym same) stood in
    counted history entry (stands old.stood) (old.counted ∙ ap (λ (c : Config). counts_of c history) (sym config)) is

-- and where the entry is told in another way
pub stands_same : (state : FollowState) (history : List FollowEntry) (entry made : FollowEntry) → entry ≡ made → FollowStands state (history ++ made ∷ []) → FollowStands state (history ++ entry ∷ [])
stands_same state history entry made same stood = subst (λ (e : FollowEntry). FollowStands state (history ++ e ∷ [])) (sym same) stood
