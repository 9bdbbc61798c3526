use Rattle.tesla_sync.proofs.Keys.{key_found, key_only}
use Rattle.tesla_sync.proofs.laws.keys.Goals as goal

pub returns-clause-found : goal.returns-clause-found
returns-clause-found c = key_found

pub returns-clause-only : goal.returns-clause-only
returns-clause-only c = key_only
