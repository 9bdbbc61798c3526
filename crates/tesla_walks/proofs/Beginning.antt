-- Walks that begin at the newer keys of a frame that fits the setup.
use Rattle.std.proofs.Common.{◌≡◌, ℕ, ◌+◌, ◌<◌, ◌==◌, Bool, true, false, cond, not, ◌||◌, List, [], ◌∷◌, ◌++◌, length, filter, map, refl, sym, ap, subst, ◌∙◌, inl, inr, arith}
use Rattle.std.specs.Prelude.{nat_lt}
use Rattle.std.specs.List.{All, enumerate_from, list_any}
use Rattle.std.proofs.lemmas.Bool.Decides.{nat_tests}
use Rattle.std.proofs.lemmas.List.Elements.{All-cons, All-filter, All-map, All-nil, All-weaker}
use Rattle.std.proofs.lemmas.List.Sums.{sum_by-cons}
use Rattle.tesla_base.specs.Version.{number_of}
use Rattle.tesla_frame.specs.declared.row.KeyRow.{KeyRow}
use Rattle.tesla_frame.specs.Frame.{ChainsRise, Frame, Data, DataFrame, Disclosure, TagRow}
use Rattle.tesla_keys.specs.Tip.{Tip}
use Rattle.tesla_fitting.specs.declared.config.Config.{Config}
use Rattle.tesla_fitting.specs.Fitting.{fields_misfit, is_early, is_misfit, is_outside}
use Rattle.tesla_fitting.specs.Rows.{keys_of}
use Rattle.tesla_walks.specs.Offered.{AreGood, HaveBegun, IsOfChains, gap_of, gaps}
use Rattle.tesla_walks.specs.Tips.{is_newer}
use Rattle.tesla_walks.specs.Walking.{Walking, IsAbove, fresh, left, left_of, rows_of}
use Rattle.tesla_fitting.proofs.CarriedRise.{carries, keys_from, rise_cons}
use Rattle.tesla_walks.proofs.NewerKeys.{newer_gaps}
use Rattle.tesla_walks.proofs.Raising.{rises_above, rises_on}

-- ---- chains of the setup

below_number : (cfg : Config) (interval n : ℕ) (rows : List TagRow) → All (IsOfChains (n + length rows)) (keys_from cfg interval n rows)
below_number cfg interval n [] = All-nil (IsOfChains (n + 0))
below_number cfg interval n (row ∷ rows) =
    let keys = keys_from cfg interval (n + 1) rows in
    let rest : All (IsOfChains (n + length (row ∷ rows))) keys =
    All-weaker (IsOfChains (n + 1 + length rows)) (IsOfChains (n + length (row ∷ rows))) (λ r h. omega (arith, h)) keys (below_number cfg interval (n + 1) rows) in
    elim (carries cfg interval n row.key) [
      | inl none ↦ subst (λ ks. All (IsOfChains (n + length (row ∷ rows))) (ks ++ keys)) (sym none) rest
      | inr (one, is, chain) ↦
          subst (λ ks. All (IsOfChains (n + length (row ∷ rows))) (ks ++ keys)) (sym is) (All-cons (IsOfChains (n + length (row ∷ rows))) one keys (omega (arith, chain)) rest)
    ]

is_known : (chain count : ℕ) (late : Bool) → (not (nat_lt chain count) || late) ≡ false → chain < count
is_known chain count late e = grind (arith, nat_tests)

first_false : (a b : Bool) → (a || b) ≡ false → (a ≡ false) × (b ≡ false)
first_false true b e = absurd (cc)
first_false false b e = (refl, e)

none_outside : (cfg : Config) (rows : List KeyRow) → list_any (is_outside cfg) rows ≡ false → All (IsOfChains (length cfg.setup.rows)) rows
none_outside cfg [] e = All-nil (IsOfChains (length cfg.setup.rows))
none_outside cfg (row ∷ rows) e =
    let parts = first_false (is_outside cfg row) (list_any (is_outside cfg) rows) e in
    All-cons (IsOfChains (length cfg.setup.rows)) row rows (is_known row.chain.0 (length cfg.setup.rows) (nat_lt cfg.setup.times.last row.index) parts.0) (none_outside cfg rows parts.1)

third_false : (a b c d e : Bool) → (a || b || c || d || e) ≡ false → c ≡ false
third_false true b c d e h = absurd (cc)
third_false false true c d e h = absurd (cc)
third_false false false true d e h = absurd (cc)
third_false false false false d e h = refl

same_count : (a b : ℕ) → not (a == b) ≡ false → a ≡ b
same_count a b e = grind (arith, nat_tests)

-- a data frame that fits the setup has a row for each chain
pub row_each : (cfg : Config) (f : DataFrame) → is_misfit cfg (Data f) ≡ false → length f.rows ≡ length cfg.setup.rows
row_each cfg f e =
    let fields : fields_misfit cfg (Data f) ≡ false = (first_false (not (number_of f.version == number_of cfg.setup.version)) (fields_misfit cfg (Data f)) e).1 in
    same_count (length f.rows) (length cfg.setup.rows)
    (third_false (f.name.interval == 0) (nat_lt cfg.setup.times.last f.name.interval) (not (length f.rows == length cfg.setup.rows)) (not (f.tag_length == cfg.setup.tag_length))
    (list_any (λ (p : ℕ × TagRow). is_early cfg f.name.interval p.0 p.1.key) (enumerate_from 0 f.rows)) fields)

-- the keys of a frame that fits the setup are of its chains
pub known_keys : (cfg : Config) (frame : Frame) → is_misfit cfg frame ≡ false → All (IsOfChains (length cfg.setup.rows)) (keys_of cfg frame)
known_keys cfg (Data f) e =
    let count : length f.rows ≡ length cfg.setup.rows = row_each cfg f e in
    subst (λ n. All (IsOfChains n) (keys_from cfg f.name.interval 0 f.rows)) (omega (arith, count)) (below_number cfg f.name.interval 0 f.rows)
known_keys cfg (Disclosure f) e = none_outside cfg f.rows (first_false (not (number_of f.version == number_of cfg.setup.version)) (fields_misfit cfg (Disclosure f)) e).1

-- ---- walks that begin

rows_fresh : (rows : List KeyRow) → rows_of (map fresh rows) ≡ rows
rows_fresh [] = refl
rows_fresh (row ∷ rows) = ap (λ rs. row ∷ rs) (rows_fresh rows)

rise_filter : (p : KeyRow → Bool) (rows : List KeyRow) → ChainsRise rows → ChainsRise (filter p rows)
rise_filter p [] rise = tt
rise_filter p (row ∷ rows) rise =
    let rest : ChainsRise (filter p rows) = rise_filter p rows (rises_on row rows rise) in
    let above : All (λ (r : KeyRow). row.chain.0 < r.chain.0) (filter p rows) = All-filter p (λ (r : KeyRow). row.chain.0 < r.chain.0) rows (rises_above row rows rise) in
    elim (p row) as (λ b. ChainsRise (cond b (row ∷ filter p rows) (filter p rows))) [ true ↦ rise_cons row (filter p rows) above rest | false ↦ rest ]

left_fresh : (tips : List Tip) (rows : List KeyRow) → left tips (map fresh rows) ≡ gaps tips rows
left_fresh tips [] = refl
left_fresh tips (row ∷ rows) =
    sum_by-cons (left_of tips) (fresh row) (map fresh rows) ∙ ap (λ n. gap_of tips row + n) (left_fresh tips rows) ∙ sym (sum_by-cons (gap_of tips) row rows)

-- the walks of the newer keys, before any of them is taken
pub begun : (tips : List Tip) (rows : List KeyRow) (walks : List Walking) → walks ≡ map fresh (filter (is_newer tips) rows) → ChainsRise rows → All (IsOfChains (length tips)) rows → AreGood tips (filter (is_newer tips) rows) → HaveBegun tips rows walks
begun tips rows walks is rise known good =
    let newer = filter (is_newer tips) rows in
    let new : rows_of walks ≡ newer = ap rows_of is ∙ rows_fresh newer in
    record {
      new = new;
      chains = subst (λ rs. All (IsOfChains (length tips)) rs) (sym new) (All-filter (is_newer tips) (IsOfChains (length tips)) rows known);
      rise = subst ChainsRise (sym new) (rise_filter (is_newer tips) rows rise);
      good = subst (AreGood tips) (sym new) good;
      potential = ap (left tips) is ∙ left_fresh tips newer ∙ newer_gaps tips rows;
      above = λ interval. subst (λ ws. All (IsAbove interval) ws) (sym is) (All-map (IsAbove interval) fresh newer (λ k d inside. omega arith));
    }
