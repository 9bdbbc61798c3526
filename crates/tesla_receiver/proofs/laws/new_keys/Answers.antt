use Rattle.tesla_receiver.proofs.NewKeys.{fresh_new, new_fresh, new_taken, newest_by_new}
use Rattle.tesla_receiver.proofs.laws.new_keys.Goals as goal

pub returns-clause-taken : goal.returns-clause-taken
returns-clause-taken c = new_taken

pub returns-clause-fresh : goal.returns-clause-fresh
returns-clause-fresh c = fresh_new

pub returns-clause-all : goal.returns-clause-all
returns-clause-all c = new_fresh

pub returns-clause-rises : goal.returns-clause-rises
returns-clause-rises c = newest_by_new
