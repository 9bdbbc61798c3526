use Rattle.std.proofs.Common.{◌+◌, ◌*◌, ◌%◌, sym, ap, ◌∙◌}
use Rattle.tesla_early.proofs.Ring.{bucket_is}
use Rattle.tesla_early.proofs.promises.bucket.Goals as goal

pub returns-clause-value : goal.returns-clause-value
returns-clause-value c =
    ap (λ n. (n * 61 + c.from-2.result) % c.from-3.result) c.from.ensures
    ∙ ap (λ n. (c.args.name.interval * 61 + n) % c.from-3.result) c.from-2.ensures
    ∙ ap (λ n. (c.args.name.interval * 61 + c.args.name.number) % n) c.from-3.ensures
    ∙ sym (bucket_is c.args.buckets c.args.name)
