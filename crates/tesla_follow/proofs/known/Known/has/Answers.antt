use Rattle.std.proofs.Common.{◌≡◌, Some, List, sym, ap, ◌∙◌}
use Rattle.std.specs.Prelude.{option_copied, slice_get}
use Rattle.std.proofs.lemmas.Bool.{eq-eqb, ne_eqb}
use Rattle.tesla_base.proofs.Lists.{list_any_got, list_any_got_more}
use Rattle.tesla_base.specs.declared.names.StreamId.{StreamId}
use Rattle.tesla_follow.specs.Kept.{is_stream}
use Rattle.tesla_follow.proofs.known.Known.has.Goals.{In-Some}
use Rattle.tesla_follow.proofs.known.Known.has.Goals as goal

got : (c : In-Some) → slice_get c.args.self.now c.loop-place.place ≡ Some c.in-Some.other.now
got c = ap (λ (xs : List StreamId). slice_get xs c.loop-place.place) (sym c.self.view_is) ∙ sym c.get.ensures ∙ ap option_copied c.in-Some.is

pub returns-then-other-stream : goal.returns-then-other-stream
returns-then-other-stream c =
    let at = (goal.at.returns-then-other-stream c).In-Some in
    sym (list_any_got (is_stream c.args.stream) c.args.self.now c.loop-place.place c.in-Some.other.now (got at) (eq-eqb c.in-Some.other.now.0 c.args.stream.0 c.if-other-stream.true))

pub loop-place-preserved : goal.loop-place-preserved
loop-place-preserved c =
    let at = (goal.at.loop-place-preserved c).In-Some in
    record {
      none = list_any_got_more (is_stream c.args.stream) c.args.self.now c.loop-place.place c.in-Some.other.now (got at) c.loop-place.invariant.none (ne_eqb c.in-Some.other.now.0 c.args.stream.0 c.if-other-stream.false);
      end = c.loop-place.invariant.end;
    }
