use Rattle.tesla_run_feed.proofs.Numbers.{number_then, text_is}
use Rattle.tesla_run_feed.specs.Status.{sent_text}
use Rattle.tesla_run_feed.proofs.line.add_sent.Goals as goal

pub returns-clause-text : goal.returns-clause-text
unfolding sent_text
returns-clause-text c = number_then _ _ _ _ _ _ _ c.from-2.ensures (text_is _ _ _ _ _ c.from.ensures c.add_number.ensures.text) c.add_number-2.ensures.text
