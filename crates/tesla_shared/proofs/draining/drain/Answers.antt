use Rattle.std.proofs.Common.{◌≡◌, ℕ, List, ap, refl, sym, subst, true, ◌∙◌}
use Rattle.tesla_desk.specs.Outside.{AppendsPrefix, with_bytes}
use Rattle.tesla_shared.proofs.Passing.{only_more}
use Rattle.tesla_shared.proofs.Writing.{drains_failed, drains_nothing, drains_record, takes_more}
use Rattle.tesla_shared.proofs.draining.drain.Goals as goal

pub write_piece-requires : goal.write_piece-requires
write_piece-requires g c =
    let took = c.in-Record.ensures.takes in
    let (text, yields, text_is) = took.gathers in
    let only = only_more c.args.pass.now c.loop.pass c.gather_once.new.pass c.loop.invariant.calls took.calls in
    let drained = c.loop.invariant.drains in
    let piece : c.bytes.result.now ≡ text = c.bytes.ensures ∙ text_is in record {
      permitted = subst (λ (bytes : List ℕ). g.S.Output.may_write c.loop.sink bytes ≡ true) (sym piece) (c.requires.due c.loop.sink took.reply text c.loop.invariant.name (record {
        pass = c.gather_once.new.pass;
        number = ap (λ p. p.number) only;
        config = ap (λ p. p.config) only;
        stood = took.stood;
        permitted = took.permitted;
        answers = drained.answers;
        calls = took.own ∙ takes_more _ _ _ _ drained.answers took.reply _ c.loop.invariant.releaser drained.made_are took.made;
        written_is = drained.writes.1;
      }) yields);
    }

pub returns-then-not-write_piece-clause-drains : goal.returns-then-not-write_piece-clause-drains
returns-then-not-write_piece-clause-drains g c =
    let took = c.in-Record.ensures.takes in
    let (text, yields, text_is) = took.gathers in
    drains_failed g.V.Station.yields _ _ _ _ _ _ _ took.reply text _ yields c.loop.invariant.releaser c.loop.invariant.drains took.made
    (subst (λ (bytes : List ℕ). AppendsPrefix (g.S.Output.written c.loop.sink) (g.S.Output.written c.write_piece.new.self) bytes) (c.bytes.ensures ∙ text_is) c.write_piece.ensures.prefix)

pub loop-preserved-else-not-write_piece : goal.loop-preserved-else-not-write_piece
loop-preserved-else-not-write_piece g c =
    let took = c.in-Record.ensures.takes in
    let (text, yields, text_is) = took.gathers in record {
      releaser = c.gather_once.ensures.releaser ∙ c.loop.invariant.releaser;
      calls = only_more c.args.pass.now c.loop.pass c.gather_once.new.pass c.loop.invariant.calls took.calls;
      drains = drains_record g.V.Station.yields _ _ _ _ _ _ _ took.reply text _ yields c.loop.invariant.releaser c.loop.invariant.drains took.made
          (c.if-not-write_piece.ensures.all refl ∙ ap (λ (bytes : List ℕ). with_bytes (g.S.Output.written c.loop.sink) bytes) (c.bytes.ensures ∙ text_is));
      faults = c.if-not-write_piece.ensures.cause.still (λ e. absurd cc) ∙ c.loop.invariant.faults;
      name = c.write_piece.ensures.name ∙ c.loop.invariant.name;
    }

pub loop-preserved : goal.loop-preserved
loop-preserved g c =
    let took = c.in-Nothing.ensures.takes in record {
      releaser = c.gather_once.ensures.releaser ∙ c.loop.invariant.releaser;
      calls = only_more c.args.pass.now c.loop.pass c.gather_once.new.pass c.loop.invariant.calls took.calls;
      drains = drains_nothing g.V.Station.yields _ _ _ _ _ _ took.reply _ took.gathers.0 c.loop.invariant.releaser c.loop.invariant.drains took.made;
      faults = c.loop.invariant.faults;
      name = c.loop.invariant.name;
    }
