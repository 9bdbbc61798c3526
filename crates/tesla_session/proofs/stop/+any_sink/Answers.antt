use Rattle.std.proofs.Common.{◌≡◌, true, false, ap, sym, ◌∙◌, rules}
use Rattle.tesla_session.specs.Session.{SinkSeen, is_sink_end}
use Rattle.tesla_session.proofs.AnyEnded.{first_ends, none_ends, others_end}
use Rattle.tesla_session.proofs.stop.+any_sink.Goals as goal

pub returns-in-empty : goal.returns-in-empty
returns-in-empty g t c = none_ends (λ (worker : SinkSeen g.row.V-Config.Denot g.row.V-Verdict.Denot g.row.V-Reply.Denot). is_sink_end worker.end c.args.end) c.args.workers.now c.in-empty.len_below

pub returns-then-eq : goal.returns-then-eq
returns-then-eq g t c =
    let ends = λ (worker : SinkSeen g.row.V-Config.Denot g.row.V-Verdict.Denot g.row.V-Reply.Denot). is_sink_end worker.end c.args.end in
    let test : ends c.worker-item.result ≡ true = search rules in
    c.if-eq.true ∙ first_ends ends c.args.workers.now c.worker-item.result c.in-len1-up.len_at_least (ap ends (sym c.worker-item.is) ∙ test)

pub returns-else-eq : goal.returns-else-eq
returns-else-eq g t c =
    let ends = λ (worker : SinkSeen g.row.V-Config.Denot g.row.V-Verdict.Denot g.row.V-Reply.Denot). is_sink_end worker.end c.args.end in
    let test : ends c.worker-item.result ≡ false = search rules in
    others_end ends c.args.workers.now c.worker-item.result c.any_sink.result c.in-len1-up.len_at_least (ap ends (sym c.worker-item.is) ∙ test) c.any_sink.ensures
