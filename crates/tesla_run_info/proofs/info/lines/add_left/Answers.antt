use Rattle.tesla_run_info.proofs.info.Chains.{both_left}
use Rattle.tesla_run_info.proofs.info.lines.add_left.Goals as goal

pub returns-clause-text : goal.returns-clause-text
returns-clause-text c =
    both_left c.args.schedule c.args.reading c.args.lines.now.bytes c.add_count.new.lines.bytes c.add_wide.new.lines.bytes c.left_at.result c.seconds_left_at.result c.if-reading-eq18446744073709551615.false
    c.left_at.ensures c.seconds_left_at.ensures c.add_count.ensures.text c.add_wide.ensures.text
