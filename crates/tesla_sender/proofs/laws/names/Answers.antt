use Rattle.std.proofs.Common.{[]}
use Rattle.tesla_sender.proofs.Names.{all_accepted, all_named, disclosure_framed, message_framed}
use Rattle.tesla_sender.proofs.laws.names.Goals as goal

pub returns-clause-messages : goal.returns-clause-messages
returns-clause-messages c = message_framed

pub returns-clause-disclosures : goal.returns-clause-disclosures
returns-clause-disclosures c = disclosure_framed

pub returns-clause-logs : goal.returns-clause-logs
returns-clause-logs c = λ stream log. all_named stream [] log

pub returns-clause-only : goal.returns-clause-only
returns-clause-only c = λ stream log. all_accepted stream [] log
