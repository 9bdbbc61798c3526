use Rattle.std.proofs.Common.{◌≡◌, ◌<◌, ℕ, true, false, take, rules, sym, ap, ◌∙◌, arith}
use Rattle.std.specs.List.{list_any}
use Rattle.std.proofs.lemmas.Option.{get_or_from_slice_get}
use Rattle.tesla_base.proofs.Lists.{list_any_got, list_any_got_more, taken_at}
use Rattle.tesla_commit.specs.declared.chain_row.ChainRow.{ChainRow}
use Rattle.tesla_commit.specs.Equal.{has_key, no_row}
use Rattle.tesla_commit.proofs.equal.has_equal.Goals as goal

pub returns-then-eq : goal.returns-then-eq
returns-then-eq c =
    let rows = c.args.setup.now.rows in
    let own = c.row-own.result in
    let test : has_key own c.row.result ≡ true = search rules in
    let below : c.loop-other.other < c.args.chain = omega (arith, c.loop-other-test.true) in
    sym (ap (λ (r : ChainRow). list_any (has_key r) (take c.args.chain rows)) (get_or_from_slice_get rows c.args.chain own no_row c.row-own.ensures.value)
    ∙ list_any_got (has_key own) (take c.args.chain rows) c.loop-other.other c.row.result (taken_at rows c.loop-other.other c.args.chain below ∙ c.row.ensures.value) test)

pub loop-other-preserved : goal.loop-other-preserved
loop-other-preserved c =
    let test : has_key c.row-own.result c.row.result ≡ false = search rules in
    list_any_got_more (has_key c.row-own.result) c.args.setup.now.rows c.loop-other.other c.row.result c.row.ensures.value c.loop-other.invariant test

pub returns : goal.returns
returns c =
    let rows = c.args.setup.now.rows in
    let own = c.row-own.result in
    let all : c.loop-other.other ≡ c.args.chain = omega (arith, c.loop-other-test.false, c.loop-other.auto.other-end) in
    sym (ap (λ (r : ChainRow). list_any (has_key r) (take c.args.chain rows)) (get_or_from_slice_get rows c.args.chain own no_row c.row-own.ensures.value)
    ∙ ap (λ (n : ℕ). list_any (has_key own) (take n rows)) (sym all) ∙ c.loop-other.invariant)
