use Rattle.tesla_turn.specs.History.{known_calls}
use Rattle.tesla_turn.proofs.Merging.{merge_from_joined, merge_length}
use Rattle.tesla_turn.proofs.laws.one_history.Goals as goal

pub returns-clause-merge : goal.returns-clause-merge
returns-clause-merge g c = merge_from_joined _ _ c.requires.calls c.requires.joined

pub returns-clause-size : goal.returns-clause-size
returns-clause-size g c = let last = c.args.last.now in merge_length last.history (known_calls last.passes) (merge_from_joined last.history last.passes c.requires.calls c.requires.joined)
