use Rattle.std.proofs.Common.{◌∙◌, ◌++◌, [], List, ℕ, ap, refl, subst, sym}
use Rattle.tesla_desk.specs.Outside.{AppendsPrefix}
use Rattle.tesla_desk.proofs.Told.{prefix_after}
use Rattle.tesla_run_receive.proofs.record.Pieces.{ends_text, has_then}
use Rattle.tesla_run_receive.proofs.record.tail.write_entries.Goals as goal

pub write_piece-requires : goal.write_piece-requires
write_piece-requires g c =
    let (text, before, has, is, may) = c.requires.allowed in
    record { permitted = may _ _ refl (record { before = before; rest = c.texts.result.1.now; written_is = has; text_is = is ∙ ap (λ (bytes : List ℕ). before ++ bytes) (sym c.texts.ensures.texts) }) }

pub write_piece-requires-then-write_piece : goal.write_piece-requires-then-write_piece
write_piece-requires-then-write_piece g c =
    let (text, before, has, is, may) = c.requires.allowed in
    let front = c.texts.result.0.now in
    let back = c.texts.result.1.now in
    record {
      permitted = may _ _ c.write_piece.ensures.name (record {
        before = before ++ front;
        rest = [];
        written_is = has_then (g.S.Output.written c.args.sink.now) (g.S.Output.written c.write_piece.new.self) before front has (c.if-write_piece.ensures.all refl);
        text_is = ends_text text before front back (is ∙ ap (λ (bytes : List ℕ). before ++ bytes) (sym c.texts.ensures.texts));
      });
    }

pub returns-then-write_piece-clause-prefix : goal.returns-then-write_piece-clause-prefix
returns-then-write_piece-clause-prefix g c =
    let old = g.S.Output.written c.args.sink.now in
    let new = g.S.Output.written c.write_piece-then-write_piece.new.self in
    subst (λ (text : List ℕ). AppendsPrefix old new text) c.texts.ensures.texts
    (prefix_after old (g.S.Output.written c.write_piece.new.self) new c.texts.result.0.now c.texts.result.1.now (c.if-write_piece.ensures.all refl) c.write_piece-then-write_piece.ensures.prefix)
