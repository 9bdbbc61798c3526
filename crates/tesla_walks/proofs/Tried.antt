-- Which walk an item is tried with on a chain, where the chains of the walks rise, and what that costs.
use Rattle.std.proofs.Common.{◌≡◌, ℕ, zero, suc, ◌+◌, ◌*◌, ◌-◌, ◌<◌, ◌≤◌, Bool, true, false, cond, ◌&&◌, ◌||◌, List, [], ◌∷◌, ◌++◌, length, get_or, map, take, Some, None, refl, sym, ap, subst, ◌∙◌, arith}
use Rattle.std.specs.Prelude.{◌==◌, bytes_eq, nat_le, nat_lt, position, slice_get}
use Rattle.std.specs.List.{count_by, list_any, position_or_len, range_with_len}
use Rattle.std.proofs.Math.ListN.{set}
use Rattle.std.proofs.Math.Bool.{or-false}
use Rattle.std.proofs.lemmas.Bool.{eqb-true, ne_eqb}
use Rattle.std.proofs.lemmas.Bool.Decides.{nat_tests}
use Rattle.std.proofs.lemmas.List.Sums.{fails_before_first, sum_by-set, sum_by-take-le, sum_by_push}
use Rattle.std.proofs.lemmas.List.{get_or-take, length-take-le, take_more}
use Rattle.std.proofs.lemmas.List.FromFn.{get_or-range_with_len, length-range_with_len}
use Rattle.tesla_base.proofs.Tags.{wide_same}
use Rattle.tesla_base.specs.declared.names.WideTag.{WideTag}
use Rattle.tesla_base.specs.Tag.{tag_bytes, wide_tag}
use Rattle.tesla_buffer.specs.declared.item.Item.{Item}
use Rattle.tesla_frame.specs.declared.row.KeyRow.{KeyRow}
use Rattle.tesla_frame.specs.Frame.{ChainsRise}
use Rattle.tesla_keys.specs.Tip.{Tip}
use Rattle.tesla_prf.specs.Keys.{walk, tag_of}
use Rattle.tesla_fitting.specs.declared.config.Config.{Config}
use Rattle.tesla_walks.specs.ItemShown.{holding_in, IsItem}
use Rattle.tesla_fitting.specs.Rows.{is_of}
use Rattle.tesla_walks.specs.Holding.{Holding}
use Rattle.tesla_walks.specs.Proved.{matches, is_proof_of}
use Rattle.tesla_walks.specs.Walking.{Walking, rows_of, left_of, left, reaches}

-- ---- the first place that passes

is_none : (t : Bool) (n : ℕ) → cond t (Some n) None ≡ None → t ≡ false
is_none true n e = absurd (cc)
is_none false n e = refl

at_least : (a b : ℕ) → nat_lt a b ≡ false → b ≤ a
at_least a b h = grind (arith, nat_tests)

-- where no place passes, none does
pub position_none : {A : Type 0} (p : A → Bool) (xs : List A) → position p xs ≡ None → (k : ℕ) (d : A) → k < length xs → p (get_or xs k d) ≡ false
position_none p xs e k d h =
    let past : length xs ≤ position_or_len p xs = at_least (position_or_len p xs) (length xs) (is_none (nat_lt (position_or_len p xs) (length xs)) (position_or_len p xs) e) in
    fails_before_first p xs k d (omega (arith, past))

-- ---- rising chains

pub rise_above : (walking : Walking) (walks : List Walking) → ChainsRise (rows_of (walking ∷ walks)) → (k : ℕ) (d : Walking) → k < length walks → walking.row.chain.0 < (get_or walks k d).row.chain.0
rise_above walking [] h k d inside = absurd (omega arith)
rise_above walking (next ∷ walks) h zero d inside = h.0
rise_above walking (next ∷ walks) h (suc k) d inside =
    let rest : next.row.chain.0 < (get_or walks k d).row.chain.0 = rise_above next walks h.1 k d (omega arith) in
    omega (arith, h.0, rest)

rise_rest : (walking : Walking) (walks : List Walking) → ChainsRise (rows_of (walking ∷ walks)) → ChainsRise (rows_of walks)
rise_rest walking [] h = tt
rise_rest walking (next ∷ walks) h = h.1

-- ---- the walk of a chain

-- p fails at the keys of other chains
module _ (p : KeyRow → Bool) (chain : ℕ) (skips : (row : KeyRow) → is_of chain row ≡ false → p row ≡ false) where
  -- no walk is of the chain
  pub any_none : (walks : List Walking) → ((k : ℕ) (d : Walking) → k < length walks → is_of chain (get_or walks k d).row ≡ false) → list_any p (rows_of walks) ≡ false
  any_none [] none = refl
  any_none (walking ∷ walks) none =
      ap (λ b. b || list_any p (rows_of walks)) (skips walking.row (none 0 walking (omega arith)))
      ∙ any_none walks (λ k d h. none (suc k) d (omega arith))

  -- one walk is of the chain
  pub any_at : (walks : List Walking) (place : ℕ) (d : Walking) → ChainsRise (rows_of walks) → place < length walks → is_of chain (get_or walks place d).row ≡ true → list_any p (rows_of walks) ≡ p (get_or walks place d).row
  any_at [] place d rise inside here = absurd (omega arith)
  any_at (walking ∷ walks) zero d rise inside here =
      let own : walking.row.chain.0 ≡ chain = eqb-true walking.row.chain.0 chain here in
      ap (λ b. p walking.row || b)
      (any_none walks (λ k e h. ne_eqb (get_or walks k e).row.chain.0 chain (λ same. omega (arith, own, same, rise_above walking walks rise k e h))))
      ∙ or-false (p walking.row)
  any_at (walking ∷ walks) (suc place) d rise inside here =
      let own : (get_or walks place d).row.chain.0 ≡ chain = eqb-true (get_or walks place d).row.chain.0 chain here in
      let below : walking.row.chain.0 < (get_or walks place d).row.chain.0 = rise_above walking walks rise place d (omega arith) in
      ap (λ b. b || list_any p (rows_of walks)) (skips walking.row (ne_eqb walking.row.chain.0 chain (λ same. omega (arith, own, same, below))))
      ∙ any_at walks place d (rise_rest walking walks rise) (omega arith) here

-- ---- what proves an item on a chain

pub skips_proof : (cfg : Config) (item : Holding) (chain : ℕ) (row : KeyRow) → is_of chain row ≡ false → is_proof_of cfg item chain row ≡ false
skips_proof cfg item chain row e = ap (λ b. b && nat_le item.name.interval row.index && matches cfg item chain row (slice_get item.tags chain)) e

-- the key is of the chain
pub proof_here : (cfg : Config) (item : Holding) (chain : ℕ) (row : KeyRow) → is_of chain row ≡ true → is_proof_of cfg item chain row ≡ (nat_le item.name.interval row.index && matches cfg item row.chain.0 row (slice_get item.tags row.chain.0))
proof_here cfg item chain row e =
    ap (λ b. b && nat_le item.name.interval row.index && matches cfg item chain row (slice_get item.tags chain)) e
    ∙ ap (λ c. nat_le item.name.interval row.index && matches cfg item c row (slice_get item.tags c)) (sym (eqb-true row.chain.0 chain e))

-- ---- what the walk of a chain costs

skips_reaches : (chain interval : ℕ) (row : KeyRow) → is_of chain row ≡ false → reaches chain interval row ≡ false
skips_reaches chain interval row e = ap (λ b. b && nat_le interval row.index) e

reaches_here : (chain interval : ℕ) (row : KeyRow) → is_of chain row ≡ true → reaches chain interval row ≡ nat_le interval row.index
reaches_here chain interval row e = ap (λ b. b && nat_le interval row.index) e

pub cost_at : (tips : List Tip) (walks : List Walking) (place chain interval before after : ℕ) (new d : Walking) → ChainsRise (rows_of walks) → place < length walks → is_of chain (get_or walks place d).row ≡ true → after + left_of tips new ≤ before + left_of tips (get_or walks place d) + 2 * cond (nat_le interval (get_or walks place d).row.index) 1 0 → after + left tips (set walks place new) ≤ before + left tips walks + 2 * cond (list_any (reaches chain interval) (rows_of walks)) 1 0
cost_at tips walks place chain interval before after new d rise inside here cost =
    let reach : list_any (reaches chain interval) (rows_of walks) ≡ nat_le interval (get_or walks place d).row.index =
    any_at (reaches chain interval) chain (skips_reaches chain interval) walks place d rise inside here ∙ reaches_here chain interval (get_or walks place d).row here in
    let one : Bool → ℕ = λ b. cond b 1 0 in
    let tried : one (list_any (reaches chain interval) (rows_of walks)) ≡ one (nat_le interval (get_or walks place d).row.index) = ap one reach in
    let moved : left tips (set walks place new) + left_of tips (get_or walks place d) ≡ left tips walks + left_of tips new = sum_by-set (left_of tips) walks place new d inside in
    omega (arith, tried, moved, cost)

-- ---- an item's tag

-- the item's tag is that of its chain, in its room
pub tag_at : (tags : List WideTag) (chain : ℕ) (d : WideTag) → chain < length tags → slice_get (map tag_bytes tags) chain ≡ Some (tag_bytes (get_or tags chain d))
tag_at [] chain d h = absurd (omega arith)
tag_at (tag ∷ tags) zero d h = refl
tag_at (tag ∷ tags) (suc chain) d h = tag_at tags chain d (omega arith)

-- two tags in their rooms are equal exactly where their bytes are
pub tags_equal : (cfg : Config) (count : ℕ) (item : Item) (chain : ℕ) (row : KeyRow) (d made : WideTag) (text : List ℕ) (answer : Bool) → IsItem count item → chain < count → count ≤ length item.tags → made ≡ wide_tag text
    → text ≡ tag_of cfg.setup.tag_length (walk row.key (row.index - item.name.interval)) cfg.setup.stream (record { 0 = chain }) item.name (take item.length item.payload)
    → answer ≡ (bytes_eq (get_or item.tags chain d).bytes made.bytes && ((get_or item.tags chain d).length == made.length)) → answer ≡ matches cfg (holding_in count item) chain row (slice_get (map tag_bytes (take count item.tags)) chain)
tags_equal cfg count item chain row d made text answer fits below room is_made is_text given =
    let stored = get_or item.tags chain d in
    let size : length (take count item.tags) ≡ count = length-take-le count item.tags room in
    let at : get_or (take count item.tags) chain d ≡ stored = get_or-take count item.tags chain d below in
    let got : slice_get (map tag_bytes (take count item.tags)) chain ≡ Some (tag_bytes stored) = tag_at (take count item.tags) chain d (omega (arith, size)) ∙ ap (λ (t : WideTag). Some (tag_bytes t)) at in
    let filled : stored ≡ wide_tag (tag_bytes stored) = subst (λ (t : WideTag). t ≡ wide_tag (tag_bytes t)) at (fits.tags chain d (omega (arith, size))) in
    given ∙ ap (λ (t : WideTag). bytes_eq t.bytes made.bytes && (t.length == made.length)) filled
    ∙ ap (λ (t : WideTag). bytes_eq (wide_tag (tag_bytes stored)).bytes t.bytes && ((wide_tag (tag_bytes stored)).length == t.length)) is_made
    ∙ wide_same (tag_bytes stored) text
    ∙ ap (bytes_eq (tag_bytes stored)) is_text
    ∙ ap (matches cfg (holding_in count item) chain row) (sym got)

-- ---- chain by chain

pub counted_more : (p : ℕ → Bool) (n i : ℕ) → i < n → count_by p (take (i + 1) (range_with_len 0 n)) ≡ count_by p (take i (range_with_len 0 n)) + cond (p i) 1 0
counted_more p n i h =
    let inside : i < length (range_with_len 0 n) = omega (arith, length-range_with_len 0 n) in
    let number : get_or (range_with_len 0 n) i 0 ≡ i = get_or-range_with_len 0 n i 0 h ∙ omega arith in
    ap (count_by p) (take_more (range_with_len 0 n) i 0 inside ∙ ap (λ (k : ℕ). take i (range_with_len 0 n) ++ k ∷ []) number)
    ∙ sum_by_push (λ q. cond (p q) 1 0) (take i (range_with_len 0 n)) i

pub counted_prefix : (p : ℕ → Bool) (i : ℕ) (xs : List ℕ) → count_by p (take i xs) ≤ count_by p xs
counted_prefix p i xs = sum_by-take-le (λ q. cond (p q) 1 0) xs i
