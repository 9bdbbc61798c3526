use Rattle.std.proofs.Common.{codes, string_bytes}
use Rattle.tesla_front.proofs.Tables.{first_is}
use Rattle.tesla_cli.proofs.tools.run_words.Goals as goal

pub returns-in-len1-up-4-clause-live : goal.returns-in-len1-up-4-clause-live
returns-in-len1-up-4-clause-live g c = record {
  clock = c.run_info.ensures.live;
  others = λ other. absurd (other (first_is string_bytes (codes "info") c.args.words.now c.word-item-4.result c.as_str-4.result.now c.eq-4.result
      c.in-len1-up.len_at_least c.word-item-4.is c.as_str-4.ensures.value c.eq-4.ensures c.if-eq-4.true));
}
