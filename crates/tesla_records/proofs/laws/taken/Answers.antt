use Rattle.tesla_records.proofs.Taken.{none_taken, given_taken, head_taken, taken_outline, cut_taken, fault_taken}
use Rattle.tesla_records.proofs.laws.taken.Goals as goal

pub returns-clause-none : goal.returns-clause-none
returns-clause-none g c = none_taken g.F.Format.grammar g.met.F.Format.is

pub returns-clause-one : goal.returns-clause-one
returns-clause-one g c = given_taken g.F.Format.grammar g.met.F.Format.is

pub returns-clause-head : goal.returns-clause-head
returns-clause-head g c = head_taken g.F.Format.grammar g.met.F.Format.is

pub returns-clause-outline : goal.returns-clause-outline
returns-clause-outline g c = taken_outline g.F.Format.grammar g.met.F.Format.is

pub returns-clause-cut : goal.returns-clause-cut
returns-clause-cut g c = cut_taken g.F.Format.grammar g.met.F.Format.is

pub returns-clause-fault : goal.returns-clause-fault
returns-clause-fault g c = fault_taken g.F.Format.grammar g.met.F.Format.is
