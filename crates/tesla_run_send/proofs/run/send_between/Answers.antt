use Rattle.std.proofs.Common.{◌≡◌, false, true}
use Rattle.tesla_front.specs.OutcomeView.{result_view}
use Rattle.tesla_run_send.proofs.Meanings.{never_wants, sent_between}
use Rattle.tesla_run_send.proofs.run.send_between.Goals as goal

pub returns-clause-converts : goal.returns-clause-converts
returns-clause-converts g c =
    sent_between c.convert-converter.result.1 g.L.SendLedger.stream c.args.sender.stream _ _ _ c.frames.result c.convert-converter.result.0.frames _ (result_view c.lines_of.result)
    c.requires.stream c.lines_of.ensures c.frames.ensures c.convert-converter.ensures.converts c.convert-converter.ensures.writes (λ e. let no : false ≡ true = (c.convert-converter.ensures.wants e).0 in cc)

pub returns-clause-memory : goal.returns-clause-memory
returns-clause-memory g c =
    never_wants c.convert-converter.result.1 c.frames.result (result_view c.lines_of.result) c.lines_of.ensures (λ e. let no : false ≡ true = (c.convert-converter.ensures.wants e).0 in cc)
