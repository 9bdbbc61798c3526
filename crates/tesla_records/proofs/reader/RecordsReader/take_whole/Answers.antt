use Rattle.std.proofs.Common.{◌≡◌, ◌∙◌, ℕ, List, length, take, ap, sym, subst}
use Rattle.std.proofs.lemmas.List.{length-take-le}
use Rattle.tesla_records.specs.Grammar.{Whole}
use Rattle.tesla_records.specs.Steps.{Progress, pending}
use Rattle.tesla_records.specs.Pieces as pieces
use Rattle.tesla_records.proofs.StepGives.{whole_takes}
use Rattle.tesla_records.proofs.reader.RecordsReader.take_whole.Goals as goal

pub slice_bounds-put-end : goal.slice_bounds-put-end
slice_bounds-put-end g c =
    let whole = c.requires in
    let told = ap (λ (p : Progress _). g.F.Format.grammar.parse (pending p)) c.self.view_is ∙ whole.1 in
    let takes = whole_takes g.F.Format.grammar g.met.F.Format.is (pieces.pending c.self.inside.pieces) whole.0 c.args.size c.pending.ensures.bytes told in
    sym (ap (λ (b : List ℕ). length (take c.args.size b)) c.pending.ensures.value ∙ length-take-le c.args.size (pieces.pending c.self.inside.pieces) takes.3)

pub put-taken-requires : goal.put-taken-requires
put-taken-requires g c =
    let whole = c.requires in
    let told = ap (λ (p : Progress _). g.F.Format.grammar.parse (pending p)) c.self.view_is ∙ whole.1 in
    let takes = whole_takes g.F.Format.grammar g.met.F.Format.is (pieces.pending c.self.inside.pieces) whole.0 c.args.size c.pending.ensures.bytes told in
    (whole.0, subst (λ (b : List ℕ). g.F.Format.grammar.parse (take c.args.size b) ≡ Whole whole.0 (length (take c.args.size b))) (sym c.pending.ensures.value) takes.0)

pub advance-requires : goal.advance-requires
advance-requires g c =
    let whole = c.requires in
    let told = ap (λ (p : Progress _). g.F.Format.grammar.parse (pending p)) c.self.view_is ∙ whole.1 in
    (whole_takes g.F.Format.grammar g.met.F.Format.is (pieces.pending c.self.inside.pieces) whole.0 c.args.size c.pending.ensures.bytes told).3

pub returns-clause-took : goal.returns-clause-took
returns-clause-took g c it e =
    let told = ap (λ (p : Progress _). g.F.Format.grammar.parse (pending p)) c.self.view_is ∙ e in
    let takes = whole_takes g.F.Format.grammar g.met.F.Format.is (pieces.pending c.self.inside.pieces) it c.args.size c.pending.ensures.bytes told in
    record {
      is = c.put-taken.ensures.shown it (subst (λ (b : List ℕ). g.F.Format.grammar.parse (take c.args.size b) ≡ Whole it (length (take c.args.size b))) (sym c.pending.ensures.value) takes.0);
      limits = takes.1;
      spelled = sym (ap (λ (p : Progress _). take c.args.size (pending p)) c.self.view_is) ∙ takes.4;
      sized = takes.2;
    }
