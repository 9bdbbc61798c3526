use Rattle.std.proofs.Common.{codes, string_bytes}
use Rattle.tesla_front.proofs.Tables.{first_is}
use Rattle.tesla_cli_live.proofs.live.run_words.Goals as goal

pub returns-in-len1-up-clause-others : goal.returns-in-len1-up-clause-others
returns-in-len1-up-clause-others g c other =
    let some = c.in-len1-up.len_at_least in
    absurd (other (first_is string_bytes (codes "receive") c.args.words.now c.word-item.result c.as_str.result.now c.eq.result
    some c.word-item.is c.as_str.ensures.value c.eq.ensures c.if-eq.true))

pub run_receive-requires-clause-any_link : goal.run_receive-requires-clause-any_link
run_receive-requires-clause-any_link g c κs within =
    let some = c.in-len1-up.len_at_least in
    c.requires.any_link (first_is string_bytes (codes "receive") c.args.words.now c.word-item.result c.as_str.result.now c.eq.result
    some c.word-item.is c.as_str.ensures.value c.eq.ensures c.if-eq.true)
