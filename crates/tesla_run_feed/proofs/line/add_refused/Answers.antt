use Rattle.tesla_run_feed.proofs.Numbers.{number_then, text_is}
use Rattle.tesla_run_feed.specs.Status.{refused_text}
use Rattle.tesla_run_feed.proofs.line.add_refused.Goals as goal

pub returns-clause-text : goal.returns-clause-text
unfolding refused_text
returns-clause-text c = number_then _ _ _ _ _ _ _ c.from-6.ensures (number_then _ _ _ _ _ _ _ c.from-5.ensures (number_then _ _ _ _ _ _ _ c.from-4.ensures (number_then _ _ _ _ _ _ _ c.from-3.ensures (number_then _ _ _ _ _ _ _ c.from-2.ensures (text_is _ _ _ _ _ c.from.ensures c.add_number.ensures.text) c.add_number-2.ensures.text) c.add_number-3.ensures.text) c.add_number-4.ensures.text) c.add_number-5.ensures.text) c.add_number-6.ensures.text
