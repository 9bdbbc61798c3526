use Rattle.std.proofs.Common.{◌∙◌}
use Rattle.tesla_sync.proofs.Replies.{reply_only, reply_read}
use Rattle.tesla_sync.proofs.reply.read_reply.Goals as goal

pub returns-clause-found : goal.returns-clause-found
returns-clause-found g c = reply_read c.args.bytes.now c.args.key.now c.args.t_r c.judged.result c.judged.ensures.exact

pub returns-clause-only : goal.returns-clause-only
returns-clause-only g c t_s is = c.judged.ensures.exact ∙ reply_only c.args.bytes.now c.args.key.now c.args.t_r t_s is
