use Rattle.std.proofs.Common.{◌≡◌, ◌∙◌, refl, sym, subst, List, length, replicate, arith}
use Rattle.std.proofs.lemmas.List.{with_items_is}
use Rattle.tesla_prf.proofs.Walks.{walk_none}
use Rattle.tesla_chain.specs.declared.level.Level.{Level}
use Rattle.tesla_chain.specs.Kept.{IsKept}
use Rattle.tesla_chain.specs.Levels.{Marks}
use Rattle.tesla_chain.proofs.Leaving.{unset_marks}
use Rattle.tesla_chain.proofs.Opened.{filled, is_opened}
use Rattle.tesla_chain.proofs.Digits.{short_levels}
use Rattle.tesla_chain.proofs.traversal.Traversal.open.Goals as goal

pub fill-first-requires-clause-few : goal.fill-first-requires-clause-few
fill-first-requires-clause-few g c =
    let depth = c.ilog2-depth.result in
    omega (arith, short_levels depth c.args.last c.ilog2-depth.ensures.power_le c.requires.most, c.in_ok-levels.ensures.len, c.as_mut_slice.ensures.len)

pub invariant_of-result : goal.invariant_of-result
invariant_of-result g c =
    let depth = c.ilog2-depth.result in
    let levels = c.in_ok-levels.levels in
    let after = c.fill-first.new.levels in
    let P : List Level → Type 0 = λ levels. IsKept c.args.last 0 c.args.seed c.next_key.result levels in
    let unset : Level = record { mark = c.args.seed; traveller = c.args.seed } in
    let items : c.as_mut_slice.result.now ≡ replicate depth unset = c.as_mut_slice.ensures.value ∙ c.in_ok-levels.ensures.items_if_clones_equal (λ y e. e) in
    let marks : Marks c.args.seed 0 0 c.args.last c.as_mut_slice.result.now = subst (λ (levels : List Level). Marks c.args.seed 0 0 c.args.last levels) (sym items) (unset_marks c.args.seed depth c.args.last unset refl) in
    let stand = c.fill-first.ensures.stand c.args.seed 0 c.args.last (sym (walk_none c.args.seed)) marks in
    let same : length after ≡ levels.len = c.fill-first.auto.levels ∙ c.as_mut_slice.ensures.len in
    subst P (sym (with_items_is levels after same)) (filled c.args.last depth levels.len c.args.seed c.fill-first.result c.next_key.result after c.requires.least c.requires.most c.ilog2-depth.ensures.power_le c.ilog2-depth.ensures.next_power_gt c.in_ok-levels.ensures.len same c.fill-first.ensures.key c.next_key.ensures.value stand)

pub returns-clause-opened : goal.returns-clause-opened
returns-clause-opened g c = is_opened c.args.seed c.next_key.result c.args.last _ _ (invariant_of-result g c)
