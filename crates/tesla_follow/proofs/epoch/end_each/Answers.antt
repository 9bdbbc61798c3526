use Rattle.std.proofs.Common.{◌≡◌, ℕ, Bool, false, cond, List, length, take, sym, ap, subst, ◌∙◌, arith}
use Rattle.std.proofs.lemmas.List.{take_all}
use Rattle.std.proofs.lemmas.List.Sums.{sum_by_more}
use Rattle.tesla_receiver.specs.Entries.{Entry}
use Rattle.tesla_receiver.specs.Stands.{Stands}
use Rattle.tesla_follow.specs.Kept.{ends_of, set_count}
use Rattle.tesla_follow.proofs.Opened.{ends_more}
use Rattle.tesla_follow.proofs.epoch.end_each.Goals as goal

pub loop-ingest-preserved : goal.loop-ingest-preserved
loop-ingest-preserved c =
    let at = c.loop-ingest.ingest in
    let so_far = c.loop-ingest.invariant in
    record {
      stands = λ none. subst (λ (ends : List Entry). Stands c.end_if.new.receiver ends) (sym (ends_more at c.args.flags.now)) (c.end_if.ensures.stands (ends_of at c.args.flags.now) (so_far.stands none));
      config = c.end_if.ensures.config ∙ so_far.config;
      calls = let more = sum_by_more (λ (b : Bool). cond b 1 0) c.args.flags.now at false (omega (arith, c.loop-ingest-test.true, so_far.end)) in omega (arith, c.end_if.ensures.calls, so_far.calls, more);
      reserved = c.end_if.ensures.reserved ∙ so_far.reserved;
      end = so_far.end;
    }

pub returns-clause-stands : goal.returns-clause-stands
returns-clause-stands c none =
    let so_far = c.loop-ingest.invariant in
    let all : c.loop-ingest.ingest ≡ length c.args.flags.now = omega (arith, c.loop-ingest-test.false, c.loop-ingest.auto.ingest-end) in
    subst (λ (n : ℕ). Stands c.loop-ingest.receiver (ends_of n c.args.flags.now)) all (so_far.stands none)

pub returns-clause-calls : goal.returns-clause-calls
returns-clause-calls c =
    let so_far = c.loop-ingest.invariant in
    let all : c.loop-ingest.ingest ≡ length c.args.flags.now = omega (arith, c.loop-ingest-test.false, c.loop-ingest.auto.ingest-end) in
    let whole : set_count (take c.loop-ingest.ingest c.args.flags.now) ≡ set_count c.args.flags.now = ap set_count (ap (λ (n : ℕ). take n c.args.flags.now) all ∙ take_all (length c.args.flags.now) c.args.flags.now (omega arith)) in
    omega (arith, so_far.calls, whole)
