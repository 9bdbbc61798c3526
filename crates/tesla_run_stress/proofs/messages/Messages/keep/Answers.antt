use Rattle.std.proofs.Common.{◌∙◌}
use Rattle.tesla_run_stress.proofs.Texts.{given_back, keeps_more}
use Rattle.tesla_run_stress.proofs.messages.Messages.keep.Goals as goal

pub returns-clause-before : goal.returns-clause-before
returns-clause-before c = given_back c.args.self.now.count c.args.k c.args.self.now.kept c.of.result c.push_back.result c.requires.kept c.push_back.ensures.value

pub returns-clause-kept : goal.returns-clause-kept
returns-clause-kept c =
    keeps_more c.args.self.now.count c.args.k c.args.self.now.kept c.push_back.new.self c.of.result c.requires.kept (c.of.ensures ∙ c.requires.text) c.push_back.ensures.items
