use Rattle.std.proofs.Common.{◌≤◌, List, length, sym, subst, ◌∙◌, [], arith}
use Rattle.std.specs.List.{AllByRecursion}
use Rattle.std.proofs.lemmas.List.{take_all}
use Rattle.tesla_commit.specs.SetupText.{HasKey}
use Rattle.tesla_commit.specs.declared.chain_row.ChainRow.{ChainRow}
use Rattle.tesla_commit.proofs.RowLaws.{at_step, keys_more, at_refused, at_over, at_none, at_end, end_bound}
use Rattle.tesla_commit.proofs.chain_rows.judge_rows.Goals as goal

pub returns-then-line-end-clause-judged : goal.returns-then-line-end-clause-judged
returns-then-line-end-clause-judged c =
    sym c.loop-row.invariant.so_far ∙ at_over _ _ _ _ _ _ (record { delay = 0; index = 0; key = record { 0 = [] } }) c.loop-row-test.true (c.if-line-end.true ∙ c.end_line-end.ensures)

pub returns-in-Err-clause-judged : goal.returns-in-Err-clause-judged
returns-in-Err-clause-judged c =
    sym c.loop-row.invariant.so_far ∙ at_refused _ _ _ _ _ _ _ _ c.loop-row-test.true (rw c.end_line-end.ensures at c.if-line-end.false) (sym (rw c.from.ensures at c.judge_row.ensures.judged) ∙ c.in-Err.is)

pub loop-row-preserved : goal.loop-row-preserved
loop-row-preserved c =
    let ne = rw c.end_line-end.ensures at c.if-line-end.false in
    let judged = sym (rw c.from.ensures at c.judge_row.ensures.judged) ∙ c.in_default.is in
    record {
      place = omega arith;
      few = omega arith;
      keys = keys_more _ _ _ _ _ _ c.loop-row-test.true judged (rw c.in_default.is at c.judge_row.ensures.key) c.loop-row.invariant.keys;
      so_far = sym (at_step _ _ _ _ _ _ _ _ c.loop-row-test.true ne judged) ∙ c.loop-row.invariant.so_far;
    }

pub returns-then-line-first-clause-judged : goal.returns-then-line-first-clause-judged
returns-then-line-first-clause-judged c =
    let done : length c.args.rows.now ≤ c.loop-row.row-index = omega arith in
    sym c.loop-row.invariant.so_far ∙ at_none _ _ _ _ _ _ done (c.if-line-first.true ∙ c.first_line-first.ensures)

pub returns-clause-judged : goal.returns-clause-judged
returns-clause-judged c =
    let done : length c.args.rows.now ≤ c.loop-row.row-index = omega arith in
    sym c.loop-row.invariant.so_far ∙ at_end _ _ _ _ _ _ done (rw c.first_line-first.ensures at c.if-line-first.false)

pub returns-clause-few : goal.returns-clause-few
returns-clause-few c =
    let place = c.loop-row.invariant.place in
    let few = c.loop-row.invariant.few in
    omega (arith, end_bound c.args.version)

pub returns-clause-keys : goal.returns-clause-keys
returns-clause-keys c =
    let done : length c.args.rows.now ≤ c.loop-row.row-index = omega arith in
    subst (λ (rows : List ChainRow). AllByRecursion HasKey rows) (take_all c.loop-row.row-index c.args.rows.now done) c.loop-row.invariant.keys
