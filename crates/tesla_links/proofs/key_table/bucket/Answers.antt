use Rattle.std.proofs.Common.{◌+◌, ◌*◌, ◌/◌, ◌%◌, sym, ap, ◌∙◌}
use Rattle.tesla_links.proofs.Keyed.{bucket_is}
use Rattle.tesla_links.proofs.key_table.bucket.Goals as goal

pub returns-clause-value : goal.returns-clause-value
returns-clause-value c = ap (λ n. (c.args.key % 4294967296 + c.args.key / 4294967296 * 40503) % n) c.from.ensures ∙ sym (bucket_is c.args.buckets c.args.key)
