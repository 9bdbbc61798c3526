use Rattle.std.proofs.Common.{◌≡◌, sym, subst}
use Rattle.tesla_desk.specs.Outside.{AppendsPrefix, with_bytes}
use Rattle.tesla_front.specs.OutcomeView.{outcome_view, text_of}
use Rattle.tesla_front.specs.Usage.{usage_of}
use Rattle.tesla_front.specs.declared.outcome.Outcome.{Outcome}
use Rattle.tesla_front.proofs.console.write_lines.Goals as goal

pub returns-in-Usage-clause-all : goal.returns-in-Usage-clause-all
returns-in-Usage-clause-all g c whole =
    subst (λ (o : Outcome). g.S.Sink.written c.write_usage.new.console ≡ with_bytes (g.S.Sink.written c.args.console.now) (text_of (usage_of c.args.forms.now) (outcome_view o))) (sym c.in-Usage.is) (c.write_usage.ensures.all whole)

pub returns-in-Usage-clause-prefix : goal.returns-in-Usage-clause-prefix
returns-in-Usage-clause-prefix g c =
    subst (λ (o : Outcome). AppendsPrefix (g.S.Sink.written c.args.console.now) (g.S.Sink.written c.write_usage.new.console) (text_of (usage_of c.args.forms.now) (outcome_view o))) (sym c.in-Usage.is) c.write_usage.ensures.prefix
