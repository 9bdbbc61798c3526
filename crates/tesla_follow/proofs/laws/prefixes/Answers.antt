use Rattle.std.proofs.Common.{[], ◌++◌}
use Rattle.tesla_follow.specs.History.{followed}
use Rattle.tesla_follow.proofs.Places.{configs_grow, history_got, history_moves, prefix_after}
use Rattle.tesla_follow.proofs.laws.prefixes.Goals as goal

pub returns-clause-legal : goal.returns-clause-legal
returns-clause-legal c cfg h more = prefix_after cfg [] h more

pub returns-clause-configs : goal.returns-clause-configs
returns-clause-configs c cfg h more = configs_grow (followed cfg h).epochs (followed cfg (h ++ more)).epochs (history_moves cfg h more)

pub returns-clause-histories : goal.returns-clause-histories
returns-clause-histories c cfg h more epoch = history_got cfg (followed cfg h).epochs (followed cfg (h ++ more)).epochs epoch (history_moves cfg h more)
