use Rattle.std.proofs.Common.{◌++◌, List, ℕ, refl, subst}
use Rattle.std.specs.List.{flat_map}
use Rattle.tesla_capture.specs.Gathering.{Gathers, gathered}
use Rattle.tesla_capture.specs.Script.{head, record_text}
use Rattle.tesla_run_weave.specs.Plan.{filled}
use Rattle.tesla_run_weave.proofs.Written.{gathers_then, prefix_of, prefix_then}
use Rattle.tesla_run_weave.proofs.writing.put_script.Goals as goal

pub returns-then-not-put_slots-clause-prefix : goal.returns-then-not-put_slots-clause-prefix
returns-then-not-put_slots-clause-prefix g c =
    let first : Gathers (g.O.Sink.written c.args.out.now) (g.O.Sink.written c.put_script_head.new.sink) (gathered c.put_script_head.new.self) head =
    subst (λ (held : List ℕ). Gathers (g.O.Sink.written c.args.out.now) (g.O.Sink.written c.put_script_head.new.sink) (gathered c.put_script_head.new.self) (held ++ head)) c.new-gatherer.ensures (c.if-not-put_script_head.ensures.all refl) in
    prefix_then _ _ _ head _ (flat_map record_text (filled c.args.slots.now c.args.payloads.now)) first (c.put_slots.ensures.prefix c.if-not-put_slots.true)

pub returns-clause-prefix : goal.returns-clause-prefix
returns-clause-prefix g c =
    let text = flat_map record_text (filled c.args.slots.now c.args.payloads.now) in
    let first : Gathers (g.O.Sink.written c.args.out.now) (g.O.Sink.written c.put_script_head.new.sink) (gathered c.put_script_head.new.self) head =
    subst (λ (held : List ℕ). Gathers (g.O.Sink.written c.args.out.now) (g.O.Sink.written c.put_script_head.new.sink) (gathered c.put_script_head.new.self) (held ++ head)) c.new-gatherer.ensures (c.if-not-put_script_head.ensures.all refl) in
    prefix_of _ _ _ (head ++ text) _ (gathers_then _ _ _ head _ _ text first (c.put_slots.ensures.all c.if-not-put_slots.false)) c.flush.ensures.prefix
