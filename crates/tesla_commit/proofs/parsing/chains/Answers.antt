use Rattle.std.proofs.Common.{◌≡◌, ◌≢◌, ◌<◌, length, sym, ◌∙◌, arith}
use Rattle.std.proofs.lemmas.Result.{err_from_is_err_and}
use Rattle.std.proofs.lemmas.Bool.Decides.{nat_tests}
use Rattle.tesla_commit.specs.ChainRows.{end_line}
use Rattle.tesla_commit.proofs.RowLaws.{at_ok}
use Rattle.tesla_commit.proofs.ChainLaws.{chains_step, chains_unended, row_refused, chains_over, chains_none, chains_end}
use Rattle.tesla_commit.proofs.parsing.chains.Goals as goal
use Rattle.tesla_commit.proofs.parsing.chains.Goals.{then-loop-number-test+else-not-is_empty, else-loop-number-test}

pub returns-in_err-line : goal.returns-in_err-line
returns-in_err-line c =
    let p = err_from_is_err_and c.from_residual.result c.from_residual.ensures.1 in
    let ne : c.loop-number.number ≢ end_line c.args.version = omega arith in
    let some : 0 < length c.loop-number.rest.now = grind (arith, nat_tests) in
    rw (p.1, p.2, ← c.loop-number.invariant.so_far) (chains_unended _ _ _ _ _ _ _ some ne c.in_err-line.ensures)

pub returns-in_err-row : goal.returns-in_err-row
returns-in_err-row c =
    let p = err_from_is_err_and c.from_residual-in_err-row.result c.from_residual-in_err-row.ensures.1 in
    let ne : c.loop-number.number ≢ end_line c.args.version = omega arith in
    rw (p.1, p.2, ← c.loop-number.invariant.so_far) (row_refused _ _ _ _ _ _ _ _ _ _ ne c.in_ok-line.ensures (rw c.chain_in.ensures at c.in_err-row.ensures))

pub loop-number-preserved : goal.loop-number-preserved
loop-number-preserved c =
    let ne : c.loop-number.number ≢ end_line c.args.version = omega arith in
    record {
      low = omega arith;
      high = omega arith;
      count = omega (arith, c.push.ensures.len, c.loop-number.invariant.count);
      so_far = rw c.push.ensures.items (sym (chains_step _ _ _ _ _ _ _ _ _ ne c.in_ok-line.ensures (sym c.chain_in.ensures ∙ at_ok _ _ _ c.in_ok-row.ensures)) ∙ c.loop-number.invariant.so_far);
    }

pub returns-then-not-is_empty-2 : goal.returns-then-not-is_empty-2
returns-then-not-is_empty-2 c =
    let some : 0 < length c.loop-number.rest.now = grind (arith, nat_tests) in
    let over : c.loop-number.number ≡ end_line c.args.version =
    elim c.loop-number-test.branch [
      | then-loop-number-test+else-not-is_empty w ↦ grind (arith, nat_tests)
      | else-loop-number-test w ↦ omega arith
    ] in
    sym c.loop-number.invariant.so_far ∙ chains_over _ _ _ _ _ _ some over

pub returns-then-number-first : goal.returns-then-number-first
returns-then-number-first c =
    let none : length c.loop-number.rest.now ≡ 0 = grind (arith, nat_tests) in
    sym c.loop-number.invariant.so_far ∙ chains_none _ _ _ _ _ _ none (c.if-number-first.true ∙ c.first_line-first.ensures)

pub returns : goal.returns
returns c =
    let none : length c.loop-number.rest.now ≡ 0 = grind (arith, nat_tests) in
    sym c.loop-number.invariant.so_far ∙ chains_end _ _ _ _ _ _ none (rw c.first_line-first.ensures at c.if-number-first.false)
