use Rattle.std.proofs.Common.{◌∙◌, ◌<◌, drop, get_or, length, map, ap, subst, arith}
use Rattle.tesla_sender.specs.Opening.{IsOpened, opening_chain}
use Rattle.tesla_sender.proofs.Opened.{all_fresh_at, chain_next, drop_next, fresh_at, left_some, opening_next, refused_at, right_at, whole_right}
use Rattle.tesla_sender.proofs.chain_opening.opened_chains.Goals as goal

pub remove-requires : goal.remove-requires
remove-requires c =
    let some = left_some c.args.openings.items c.loop-place.openings.items c.loop-place.place c.loop-place.invariant.rest (omega (arith, c.loop-place-test.true, c.len-count.ensures)) in
    let count = c.loop-place.openings.ok in
    omega (arith, some, count)

pub into_chain-requires : goal.into_chain-requires
into_chain-requires c =
    let all = c.args.openings.items in
    let i = c.loop-place.place in
    let next = c.remove.result in
    let within : i < length all = omega (arith, c.loop-place-test.true, c.len-count.ensures) in
    let own = opening_next all i next within (c.remove.ensures.value ∙ ap (λ os. get_or os 0 next) c.loop-place.invariant.rest) in
    subst IsOpened own (c.requires i next within)

pub returns-in-Err-clause-refused : goal.returns-in-Err-clause-refused
returns-in-Err-clause-refused c =
    let all = c.args.openings.items in
    let i = c.loop-place.place in
    let next = c.remove.result in
    let within : i < length all = omega (arith, c.loop-place-test.true, c.len-count.ensures) in
    let own = opening_next all i next within (c.remove.ensures.value ∙ ap (λ os. get_or os 0 next) c.loop-place.invariant.rest) in
    refused_at (map opening_chain all) i next.chain c.in-Err.refusal (chain_next all i next within own) c.loop-place.invariant.right c.in-Err.ensures.refused

pub loop-place-preserved : goal.loop-place-preserved
loop-place-preserved c =
    let all = c.args.openings.items in
    let i = c.loop-place.place in
    let kept = c.loop-place.invariant in
    let next = c.remove.result in
    let within : i < length all = omega (arith, c.loop-place-test.true, c.len-count.ensures) in
    let own = opening_next all i next within (c.remove.ensures.value ∙ ap (λ os. get_or os 0 next) kept.rest) in
    let at = chain_next all i next within own in
    record {
      rest = c.remove.ensures.by_index.2 ∙ ap (drop 1) kept.rest ∙ drop_next all i;
      fresh = fresh_at (map opening_chain all) i next.chain c.loop-place.chains.items c.push.new.self.items c.in-Ok.chain at kept.fresh c.in-Ok.ensures.opened c.in-Ok-push.ensures.items;
      right = right_at (map opening_chain all) i next.chain at kept.right c.in-Ok.ensures.opened.right;
    }

pub returns-clause-opened : goal.returns-clause-opened
returns-clause-opened c = all_fresh_at c.args.openings.items c.loop-place.place c.loop-place.chains.items (omega (arith, c.len-count.ensures)) c.loop-place.invariant.fresh

pub returns-clause-right : goal.returns-clause-right
returns-clause-right c = whole_right c.args.openings.items c.loop-place.place (omega (arith, c.len-count.ensures)) c.loop-place.invariant.right
