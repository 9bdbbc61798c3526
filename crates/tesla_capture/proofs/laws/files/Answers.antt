use Rattle.tesla_capture.proofs.OutlineIs.{file_takes, file_again, is_refused, refused_only}
use Rattle.tesla_capture.proofs.laws.files.Goals as goal

pub returns-clause-found : goal.returns-clause-found
returns-clause-found g c = file_takes g.F.Format.grammar g.met.F.Format.is

pub returns-clause-only : goal.returns-clause-only
returns-clause-only g c = file_again g.F.Format.grammar g.met.F.Format.is

pub returns-clause-refused : goal.returns-clause-refused
returns-clause-refused g c = is_refused g.F.Format.grammar g.met.F.Format.is

pub returns-clause-refused_only : goal.returns-clause-refused_only
returns-clause-refused_only g c = refused_only g.F.Format.grammar g.met.F.Format.is
