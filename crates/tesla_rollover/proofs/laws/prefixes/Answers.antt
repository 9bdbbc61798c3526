use Rattle.tesla_rollover.proofs.Prefixes.{configs_grow, history_grows, roll_legal_prefix}
use Rattle.tesla_rollover.proofs.laws.prefixes.Goals as goal

pub returns-clause-legal : goal.returns-clause-legal
returns-clause-legal c = roll_legal_prefix

pub returns-clause-histories : goal.returns-clause-histories
returns-clause-histories c = history_grows

pub returns-clause-configs : goal.returns-clause-configs
returns-clause-configs c = configs_grow
