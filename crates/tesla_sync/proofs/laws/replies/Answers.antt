use Rattle.tesla_sync.proofs.Replies.{bad_tag, bad_tag_only, malformed, malformed_only, other, other_only, reply_found, reply_only}
use Rattle.tesla_sync.proofs.laws.replies.Goals as goal

pub returns-clause-found : goal.returns-clause-found
returns-clause-found c = reply_found

pub returns-clause-only : goal.returns-clause-only
returns-clause-only c = reply_only

pub returns-clause-malformed : goal.returns-clause-malformed
returns-clause-malformed c = malformed

pub returns-clause-malformed_only : goal.returns-clause-malformed_only
returns-clause-malformed_only c = malformed_only

pub returns-clause-bad_tag : goal.returns-clause-bad_tag
returns-clause-bad_tag c = bad_tag

pub returns-clause-bad_tag_only : goal.returns-clause-bad_tag_only
returns-clause-bad_tag_only c = bad_tag_only

pub returns-clause-other : goal.returns-clause-other
returns-clause-other c = other

pub returns-clause-other_only : goal.returns-clause-other_only
returns-clause-other_only c = other_only
