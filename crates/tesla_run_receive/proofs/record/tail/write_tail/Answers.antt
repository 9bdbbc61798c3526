use Rattle.std.proofs.Common.{◌≡◌, ◌∙◌, ◌++◌, List, [], ℕ, flat_map, refl, sym, ap, subst}
use Rattle.tesla_desk.specs.Outside.{AppendsPrefix, with_bytes}
use Rattle.tesla_desk.proofs.Told.{prefix_after, prefix_longer, with_more}
use Rattle.tesla_trace.specs.Trace.{tail_head}
use Rattle.tesla_receiver.specs.Stands.{Stands}
use Rattle.tesla_run_receive.proofs.record.Tails.{tail_is}
use Rattle.tesla_run_receive.proofs.record.Pieces.{has_then}
use Rattle.tesla_run_receive.proofs.record.tail.write_tail.Goals as goal

pub write_piece-requires : goal.write_piece-requires
write_piece-requires g c =
    let state = c.args.recorded.now in
    let (h, stands, may) = c.requires.allowed in
    let back = flat_map (λ (text : List ℕ). text) state.texts in
    let whole = sym (tail_is Stands state h c.first.result stands (c.first.ensures h stands)) in
    record { permitted = may _ _ refl (record { before = []; rest = back; written_is = c.requires.empty; text_is = whole ∙ ap (λ (head : List ℕ). head ++ back) (sym c.tail_head_bytes.ensures) }) }

pub write_entries-requires : goal.write_entries-requires
write_entries-requires g c =
    let state = c.args.recorded.now in
    let (h, stands, may) = c.requires.allowed in
    let back = flat_map (λ (text : List ℕ). text) state.texts in
    let head = c.tail_head_bytes.result in
    let whole = sym (tail_is Stands state h c.first.result stands (c.first.ensures h stands)) in
    record {
      allowed = (
        _,
        head,
        has_then (g.S.Output.written c.args.sink.now) (g.S.Output.written c.write_piece.new.self) [] head c.requires.empty (c.if-write_piece.ensures.all refl),
        whole ∙ ap (λ (bytes : List ℕ). bytes ++ back) (sym c.tail_head_bytes.ensures),
        λ it piece named goes. may it piece (named ∙ c.write_piece.ensures.name) goes,
      );
    }

pub returns-then-write_piece-clause-all : goal.returns-then-write_piece-clause-all
returns-then-write_piece-clause-all g c h stands done =
    let state = c.args.recorded.now in
    let old = g.S.Output.written c.args.sink.now in
    with_more old (g.S.Output.written c.write_piece.new.self) (g.S.Output.written c.write_entries.new.sink) (tail_head c.first.result) (flat_map (λ text. text) state.texts) (subst (λ (head : List ℕ). g.S.Output.written c.write_piece.new.self ≡ with_bytes old head) c.tail_head_bytes.ensures (c.if-write_piece.ensures.all refl)) (c.write_entries.ensures.all done)
    ∙ ap (λ (text : List ℕ). with_bytes old text) (tail_is Stands state h c.first.result stands (c.first.ensures h stands))

pub returns-then-write_piece-clause-prefix : goal.returns-then-write_piece-clause-prefix
returns-then-write_piece-clause-prefix g c h stands =
    let state = c.args.recorded.now in
    let old = g.S.Output.written c.args.sink.now in
    let new = g.S.Output.written c.write_entries.new.sink in
    subst (λ (text : List ℕ). AppendsPrefix old new text) (tail_is Stands state h c.first.result stands (c.first.ensures h stands))
    (prefix_after old (g.S.Output.written c.write_piece.new.self) new (tail_head c.first.result) (flat_map (λ text. text) state.texts) (subst (λ (head : List ℕ). g.S.Output.written c.write_piece.new.self ≡ with_bytes old head) c.tail_head_bytes.ensures (c.if-write_piece.ensures.all refl)) c.write_entries.ensures.prefix)

pub returns-else-write_piece-clause-prefix : goal.returns-else-write_piece-clause-prefix
returns-else-write_piece-clause-prefix g c h stands =
    let state = c.args.recorded.now in
    let old = g.S.Output.written c.args.sink.now in
    let new = g.S.Output.written c.write_piece.new.self in
    subst (λ (text : List ℕ). AppendsPrefix old new text) (tail_is Stands state h c.first.result stands (c.first.ensures h stands))
    (prefix_longer old new (tail_head c.first.result) (flat_map (λ text. text) state.texts) (subst (λ (head : List ℕ). AppendsPrefix old new head) c.tail_head_bytes.ensures c.write_piece.ensures.prefix))
