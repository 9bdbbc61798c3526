use Rattle.std.proofs.Common.{◌≡◌, ◌+◌, ◌-◌, ◌≤◌, ◌++◌, ◌∷◌, [], true, false, not, cond, filter, length, map, None, ap, sym, subst, ◌∙◌, arith, Some}
use Rattle.std.specs.Prelude.{find, option_map}
use Rattle.std.specs.List.{All}
use Rattle.std.proofs.lemmas.List.{length-append, map-append}
use Rattle.tesla_frame.specs.declared.row.KeyRow.{KeyRow}
use Rattle.tesla_frame.specs.Shown.{shown}
use Rattle.tesla_keys.specs.Tip.{Tip}
use Rattle.tesla_fitting.specs.Rows.{keys_of, row_count}
use Rattle.tesla_walks.specs.Offered.{IsOfChains, gap_of, newer_keys}
use Rattle.tesla_walks.specs.Tips.{fails, is_newer, tip_at}
use Rattle.tesla_walks.specs.Walking.{fresh}
use Rattle.tesla_walks.proofs.Beginning.{begun, known_keys}
use Rattle.tesla_walks.proofs.NewerKeys.{all_gaps, all_keys, fails_where, first_failing, first_gaps, found_last, gaps_last, none_failing}
use Rattle.tesla_walks.proofs.Offering.{all_good, tip_found}
use Rattle.tesla_walks.proofs.offers.offer_keys.Given as given
use Rattle.tesla_walks.proofs.offers.offer_keys.Goals.{After-offer_row}
use Rattle.tesla_walks.proofs.offers.offer_keys.Goals as goal

-- the tip of the row's chain was read
tip : (g : given.Over) (c : After-offer_row g) → c.index-tips-from.result ≡ tip_at c.args.tips.now c.in-Some.row.chain.0
tip g c = tip_found c.args.tips.now c.from.result c.in-Some.row.chain.0 c.index-tips-from.result c.index-tips-from.is c.from.ensures c.in-Some.ensures.known

-- and the row fails where it was refused
tried : (g : given.Over) (c : After-offer_row g) → fails c.args.tips.now c.in-Some.row ≡ not c.offer_row.result
tried g c = fails_where c.args.tips.now c.in-Some.row c.index-tips-from.result c.offer_row.result (tip g c) c.in-Some.ensures.newer c.offer_row.ensures.value

pub returns-then-not-offer_row-clause-value : goal.returns-then-not-offer_row-clause-value
returns-then-not-offer_row-clause-value g c =
    let tips = c.args.tips.now in let row = c.in-Some.row in
    let after = newer_keys c.args.config.now c.args.tips.now (shown c.args.frame.now) (c.loop-place.place + 1) in
    let bad : fails tips row ≡ true = tried g (goal.at.returns-then-not-offer_row-clause-value g c).After-offer_row ∙ ap not c.if-not-offer_row.true in
    let found : find (fails tips) after ≡ Some row = found_last tips (newer_keys c.args.config.now c.args.tips.now (shown c.args.frame.now) c.loop-place.place) after row c.in-Some.ensures.more c.loop-place.invariant.fit ∙ ap (λ b. cond b (Some row) None) bad in
    sym (ap (option_map (λ (r : KeyRow). r.chain)) (first_failing c.args.config.now tips (shown c.args.frame.now) (c.loop-place.place + 1) row found))

pub returns-then-not-offer_row-clause-most : goal.returns-then-not-offer_row-clause-most
returns-then-not-offer_row-clause-most g c =
    let tips = c.args.tips.now in let row = c.in-Some.row in
    let far : row.index - c.index-tips-from.result.index ≡ gap_of tips row = ap (λ (t : Tip). row.index - t.index) (tip g (goal.at.returns-then-not-offer_row-clause-most g c).After-offer_row) in
    omega (arith, far, gaps_last tips (newer_keys c.args.config.now c.args.tips.now (shown c.args.frame.now) c.loop-place.place) (newer_keys c.args.config.now c.args.tips.now (shown c.args.frame.now) (c.loop-place.place + 1)) row c.in-Some.ensures.more, first_gaps c.args.config.now tips (shown c.args.frame.now) (c.loop-place.place + 1), c.loop-place.invariant.steps, c.offer_row.ensures.cost)

pub loop-place-preserved : goal.loop-place-preserved
loop-place-preserved g c =
    let at = (goal.at.loop-place-preserved g c).After-offer_row in
    let tips = c.args.tips.now in let row = c.in-Some.row in
    let before = newer_keys c.args.config.now c.args.tips.now (shown c.args.frame.now) c.loop-place.place in
    let after = newer_keys c.args.config.now c.args.tips.now (shown c.args.frame.now) (c.loop-place.place + 1) in
    let more : after ≡ before ++ row ∷ [] = c.in-Some.ensures.more in
    let far : row.index - c.index-tips-from.result.index ≡ gap_of tips row = ap (λ (t : Tip). row.index - t.index) (tip g at) in
    let fits : fails tips row ≡ false = tried g at ∙ ap not c.if-not-offer_row.false in
    let walks : c.offer_row.new.walks.items ≡ c.loop-place.walks.items ++ fresh row ∷ [] = c.offer_row.ensures.walks c.if-not-offer_row.false in
    record {
      fit = found_last tips before after row more c.loop-place.invariant.fit ∙ ap (λ b. cond b (Some row) None) fits;
      walks = walks ∙ ap (λ ws. ws ++ fresh row ∷ []) c.loop-place.invariant.walks ∙ sym (map-append fresh before (row ∷ [])) ∙ ap (map fresh) (sym more);
      few = omega (arith, ap length walks, length-append c.loop-place.walks.items (fresh row ∷ []), c.loop-place.invariant.few);
      capacity = omega (arith, c.loop-place.invariant.capacity, c.offer_row.ensures.capacity);
      steps = omega (arith, far, gaps_last tips before after row more, c.loop-place.invariant.steps, c.offer_row.ensures.cost);
    }

pub returns-clause-value : goal.returns-clause-value
returns-clause-value g c =
    let all : row_count (shown c.args.frame.now) ≤ c.loop-place.place = omega (arith, c.loop-place-test.false, c.row_count-place-end.ensures.count) in
    sym (ap (option_map (λ (r : KeyRow). r.chain)) (none_failing c.args.config.now c.args.tips.now (shown c.args.frame.now) c.loop-place.place all c.loop-place.invariant.fit))

pub returns-clause-begun : goal.returns-clause-begun
returns-clause-begun g c =
    let cfg = c.args.config.now in let tips = c.args.tips.now in let frame = shown c.args.frame.now in
    let all : row_count frame ≤ c.loop-place.place = omega (arith, c.loop-place-test.false, c.row_count-place-end.ensures.count) in
    begun tips (keys_of cfg frame) c.loop-place.walks.items
    (c.loop-place.invariant.walks ∙ ap (λ ks. map fresh (filter (is_newer tips) ks)) (all_keys cfg frame c.loop-place.place all))
    (c.row_count-place-end.ensures.rise cfg)
    (subst (λ n. All (IsOfChains n) (keys_of cfg frame)) (sym c.requires.tips) (known_keys cfg frame c.requires.fits))
    (all_good tips (keys_of cfg frame) (none_failing cfg tips frame c.loop-place.place all c.loop-place.invariant.fit))

pub returns-clause-most : goal.returns-clause-most
returns-clause-most g c =
    omega (arith, c.loop-place.invariant.steps, first_gaps c.args.config.now c.args.tips.now (shown c.args.frame.now) c.loop-place.place)

pub returns-clause-cost : goal.returns-clause-cost
returns-clause-cost g c =
    let all : row_count (shown c.args.frame.now) ≤ c.loop-place.place = omega (arith, c.loop-place-test.false, c.row_count-place-end.ensures.count) in
    omega (arith, c.loop-place.invariant.steps, all_gaps c.args.config.now c.args.tips.now (shown c.args.frame.now) c.loop-place.place all)
