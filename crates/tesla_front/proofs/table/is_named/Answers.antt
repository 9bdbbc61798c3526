use Rattle.std.proofs.Common.{◌∙◌, string_bytes}
use Rattle.tesla_front.proofs.Tables.{first_named}
use Rattle.tesla_front.proofs.table.is_named.Goals as goal

pub returns-in-len1-up : goal.returns-in-len1-up
returns-in-len1-up c =
    c.contains.ensures.value ∙ first_named string_bytes c.args.names.now c.args.words.now c.word-item.result c.as_str.result.now c.in-len1-up.len_at_least c.word-item.is c.as_str.ensures.value
