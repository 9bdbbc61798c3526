-- The keys in the first rows of a frame that are newer than the newest of their chains.
use Rattle.std.proofs.Common.{◌≡◌, ℕ, ◌+◌, ◌-◌, ◌<◌, ◌≤◌, Bool, true, false, cond, not, ◌&&◌, List, [], ◌∷◌, ◌++◌, length, get_or, take, drop, filter, flat_map, Option, Some, None, refl, sym, ap, ◌∙◌, inl, inr, arith}
use Rattle.std.specs.Prelude.{find, nat_lt, option_map, option_to_list, slice_get}
use Rattle.std.specs.Option.{option_or}
use Rattle.std.specs.List.{enumerate_from}
use Rattle.std.proofs.lemmas.Bool.{cases_Bool}
use Rattle.std.proofs.lemmas.Bool.Decides.{nat_tests}
use Rattle.std.proofs.lemmas.List.{take-append-drop, take_all, take_more}
use Rattle.std.proofs.lemmas.List.Concat.{flat_map-append}
use Rattle.std.proofs.lemmas.List.Elements.{filter-append}
use Rattle.std.proofs.lemmas.List.Folds.{find-append}
use Rattle.std.proofs.lemmas.List.Sums.{sum_by-append, sum_by-cons, sum_by_push}
use Rattle.tesla_base.specs.declared.names.Key.{Key}
use Rattle.tesla_base.proofs.Lists.{enumerate_from-append, flat_map_numbered_more, get_or_from_option_map, within_from_option_map}
use Rattle.tesla_frame.specs.declared.row.KeyRow.{KeyRow}
use Rattle.tesla_frame.specs.Frame.{Frame, Data, DataFrame, Disclosure, KeysFrame, TagRow}
use Rattle.tesla_keys.specs.Tip.{Tip}
use Rattle.tesla_fitting.specs.declared.config.Config.{Config}
use Rattle.tesla_fitting.specs.Config.{chain_row}
use Rattle.tesla_fitting.specs.Rows.{carried, is_past, keys_of, leads_to, row_count}
use Rattle.tesla_fitting.proofs.Carried.{no_tag}
use Rattle.tesla_walks.specs.Offered.{first_keys, gap_of, gaps, newer_keys}
use Rattle.tesla_walks.specs.Tips.{fails, is_newer, tip_at}

-- ---- what older keys add

older_fits : (tips : List Tip) (row : KeyRow) → is_newer tips row ≡ false → fails tips row ≡ false
older_fits tips row older = ap (λ b. b && not (leads_to row (tip_at tips row.chain.0).index (tip_at tips row.chain.0).key)) older

-- only a newer key fails
pub newer_fails : (tips : List Tip) (rows : List KeyRow) → find (fails tips) (filter (is_newer tips) rows) ≡ find (fails tips) rows
newer_fails tips [] = refl
newer_fails tips (row ∷ rows) =
    let rest : find (fails tips) (filter (is_newer tips) rows) ≡ find (fails tips) rows = newer_fails tips rows in
    elim (cases_Bool (is_newer tips row)) [
      | inl newer ↦
          ap (λ b. find (fails tips) (cond b (row ∷ filter (is_newer tips) rows) (filter (is_newer tips) rows))) newer ∙ ap (λ o. cond (fails tips row) (Some row) o) rest
      | inr older ↦
          ap (λ b. find (fails tips) (cond b (row ∷ filter (is_newer tips) rows) (filter (is_newer tips) rows))) older ∙ rest
          ∙ ap (λ b. cond b (Some row) (find (fails tips) rows)) (sym (older_fits tips row older))
    ]

older_gap : (tips : List Tip) (row : KeyRow) → is_newer tips row ≡ false → gap_of tips row ≡ 0
older_gap tips row e = let below : row.index ≤ (tip_at tips row.chain.0).index = grind (arith, nat_tests) in omega (arith, below)

-- only newer keys are above
pub newer_gaps : (tips : List Tip) (rows : List KeyRow) → gaps tips (filter (is_newer tips) rows) ≡ gaps tips rows
newer_gaps tips [] = refl
newer_gaps tips (row ∷ rows) =
    let rest : gaps tips (filter (is_newer tips) rows) ≡ gaps tips rows = newer_gaps tips rows in
    let sum = sum_by-cons (gap_of tips) row rows in
    elim (cases_Bool (is_newer tips row)) [
      | inl newer ↦
          ap (λ b. gaps tips (cond b (row ∷ filter (is_newer tips) rows) (filter (is_newer tips) rows))) newer
          ∙ sum_by-cons (gap_of tips) row (filter (is_newer tips) rows) ∙ ap (λ n. gap_of tips row + n) rest ∙ sym sum
      | inr older ↦
          let none : gap_of tips row ≡ 0 = older_gap tips row older in
          let all : gaps tips rows ≡ gaps tips (row ∷ rows) = omega (arith, sum, none) in
          ap (λ b. gaps tips (cond b (row ∷ filter (is_newer tips) rows) (filter (is_newer tips) rows))) older ∙ rest ∙ all
    ]

-- ---- the first rows among all

-- the keys of the other rows follow
others : (cfg : Config) (frame : Frame) (n : ℕ) → (rest : List KeyRow) × (keys_of cfg frame ≡ first_keys cfg frame n ++ rest)
others cfg (Data f) n =
    let keys : List (ℕ × TagRow) → List KeyRow = flat_map (λ (p : ℕ × TagRow). carried cfg f.name.interval p.0 p.1.key) in
    let prefix = take n f.rows in
    let behind = enumerate_from (0 + length prefix) (drop n f.rows) in (
      keys behind,
      ap (λ rs. keys (enumerate_from 0 rs)) (sym (take-append-drop n f.rows)) ∙ ap keys (enumerate_from-append 0 prefix (drop n f.rows))
          ∙ flat_map-append (λ (p : ℕ × TagRow). carried cfg f.name.interval p.0 p.1.key) (enumerate_from 0 prefix) behind,
    )
others cfg (Disclosure f) n = (drop n f.rows, sym (take-append-drop n f.rows))

-- the keys of all rows
pub all_keys : (cfg : Config) (frame : Frame) (n : ℕ) → row_count frame ≤ n → first_keys cfg frame n ≡ keys_of cfg frame
all_keys cfg (Data f) n all = ap (λ rs. flat_map (λ (p : ℕ × TagRow). carried cfg f.name.interval p.0 p.1.key) (enumerate_from 0 rs)) (take_all n f.rows all)
all_keys cfg (Disclosure f) n all = take_all n f.rows all

-- the first key that fails among the first rows is the first of all
pub first_failing : (cfg : Config) (tips : List Tip) (frame : Frame) (n : ℕ) (row : KeyRow) → find (fails tips) (newer_keys cfg tips frame n) ≡ Some row → find (fails tips) (keys_of cfg frame) ≡ Some row
first_failing cfg tips frame n row e =
    let rest = others cfg frame n in
    let here : find (fails tips) (first_keys cfg frame n) ≡ Some row = sym (newer_fails tips (first_keys cfg frame n)) ∙ e in
    ap (find (fails tips)) rest.1 ∙ find-append (fails tips) (first_keys cfg frame n) rest.0 ∙ ap (λ o. option_or o (find (fails tips) rest.0)) here

-- where no key of the rows fails, none of the frame's does
pub none_failing : (cfg : Config) (tips : List Tip) (frame : Frame) (n : ℕ) → row_count frame ≤ n → find (fails tips) (newer_keys cfg tips frame n) ≡ None → find (fails tips) (keys_of cfg frame) ≡ None
none_failing cfg tips frame n all e = ap (find (fails tips)) (sym (all_keys cfg frame n all)) ∙ sym (newer_fails tips (first_keys cfg frame n)) ∙ e

-- the steps of the first rows are among those of all
pub first_gaps : (cfg : Config) (tips : List Tip) (frame : Frame) (n : ℕ) → gaps tips (newer_keys cfg tips frame n) ≤ gaps tips (keys_of cfg frame)
first_gaps cfg tips frame n =
    let rest = others cfg frame n in
    omega (arith, newer_gaps tips (first_keys cfg frame n), ap (gaps tips) rest.1, sum_by-append (gap_of tips) (first_keys cfg frame n) rest.0)

pub all_gaps : (cfg : Config) (tips : List Tip) (frame : Frame) (n : ℕ) → row_count frame ≤ n → gaps tips (newer_keys cfg tips frame n) ≡ gaps tips (keys_of cfg frame)
all_gaps cfg tips frame n all = newer_gaps tips (first_keys cfg frame n) ∙ ap (gaps tips) (all_keys cfg frame n all)

-- ---- one row more

-- that a key is newer than the newest of its chain says that its index is above that one's
newer_past : (cfg : Config) (tips : List Tip) (interval chain newest : ℕ) (key : Option Key) → newest ≡ (tip_at tips chain).index → filter (is_newer tips) (carried cfg interval chain key) ≡ filter (is_past newest) (carried cfg interval chain key)
newer_past cfg tips interval chain newest None is = refl
newer_past cfg tips interval chain newest (Some key) is =
    let row : KeyRow = record { chain = record { 0 = chain }; index = interval - (chain_row cfg chain).delay; key = key } in
    elim (nat_lt interval (chain_row cfg chain).delay) as (λ early. filter (is_newer tips) (cond early [] (row ∷ [])) ≡ filter (is_past newest) (cond early [] (row ∷ []))) [
      | true ↦ refl
      | false ↦ rw is refl
    ]

-- one row of a data frame more
pub data_more : (cfg : Config) (tips : List Tip) (f : DataFrame) (chain newest : ℕ) (found : Option KeyRow) → newest ≡ (tip_at tips chain).index
    → option_map (λ row. filter (is_past newest) (carried cfg f.name.interval chain row.key)) (slice_get f.rows chain) ≡ Some (option_to_list found)
    → newer_keys cfg tips (Data f) (chain + 1) ≡ newer_keys cfg tips (Data f) chain ++ option_to_list found
data_more cfg tips f chain newest found is got =
    let past : TagRow → List KeyRow = λ row. filter (is_past newest) (carried cfg f.name.interval chain row.key) in
    let key = (get_or f.rows chain no_tag).key in
    let here : filter (is_newer tips) (carried cfg f.name.interval chain key) ≡ option_to_list found =
    newer_past cfg tips f.name.interval chain newest key is ∙ get_or_from_option_map past f.rows chain no_tag (option_to_list found) got in
    ap (filter (is_newer tips)) (flat_map_numbered_more (λ (p : ℕ × TagRow). carried cfg f.name.interval p.0 p.1.key) f.rows chain no_tag (within_from_option_map past f.rows chain (option_to_list found) got))
    ∙ filter-append (is_newer tips) (first_keys cfg (Data f) chain) (carried cfg f.name.interval chain key)
    ∙ ap (λ ks. newer_keys cfg tips (Data f) chain ++ ks) here

-- one row of a disclosure frame more
pub disclosed_more : (cfg : Config) (tips : List Tip) (f : KeysFrame) (place : ℕ) (found : Option KeyRow)
    → option_map (λ row. filter (is_newer tips) (row ∷ [])) (slice_get f.rows place) ≡ Some (option_to_list found)
    → newer_keys cfg tips (Disclosure f) (place + 1) ≡ newer_keys cfg tips (Disclosure f) place ++ option_to_list found
disclosed_more cfg tips f place found got =
    let newer : KeyRow → List KeyRow = λ row. filter (is_newer tips) (row ∷ []) in
    let none : KeyRow = record { chain = record { 0 = 0 }; index = 0; key = record { 0 = [] } } in
    ap (filter (is_newer tips)) (take_more f.rows place none (within_from_option_map newer f.rows place (option_to_list found) got))
    ∙ filter-append (is_newer tips) (take place f.rows) (get_or f.rows place none ∷ [])
    ∙ ap (λ ks. newer_keys cfg tips (Disclosure f) place ++ ks) (get_or_from_option_map newer f.rows place none (option_to_list found) got)

-- ---- the answer to one key

-- whether a newer key fails, by whether it walks to the newest
pub fails_where : (tips : List Tip) (row : KeyRow) (tip : Tip) (good : Bool) → tip ≡ tip_at tips row.chain.0 → (tip_at tips row.chain.0).index < row.index → good ≡ leads_to row tip.index tip.key → fails tips row ≡ not good
fails_where tips row tip good is above given =
    let newer : is_newer tips row ≡ true = grind (arith, nat_tests) in
    ap (λ b. b && not (leads_to row (tip_at tips row.chain.0).index (tip_at tips row.chain.0).key)) newer
    ∙ ap not (sym (given ∙ ap (λ (t : Tip). leads_to row t.index t.key) is))

module _ (tips : List Tip) (before after : List KeyRow) (row : KeyRow) (more : after ≡ before ++ row ∷ []) where
  -- what is found with a key more, where none before it fails
  pub found_last : find (fails tips) before ≡ None → find (fails tips) after ≡ cond (fails tips row) (Some row) None
  found_last none = ap (find (fails tips)) more ∙ find-append (fails tips) before (row ∷ []) ∙ ap (λ o. option_or o (find (fails tips) (row ∷ []))) none

  pub gaps_last : gaps tips after ≡ gaps tips before + gap_of tips row
  gaps_last = ap (gaps tips) more ∙ sum_by_push (gap_of tips) before row
