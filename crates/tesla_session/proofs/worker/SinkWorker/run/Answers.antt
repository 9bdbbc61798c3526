use Rattle.std.proofs.Common.{◌≡◌, ◌∙◌, [], Some, sym, ap, subst}
use Rattle.std.specs.Prelude.{IfSome}
use Rattle.tesla_shared.proofs.Due.{taken_due}
use Rattle.tesla_session.proofs.worker.SinkWorker.run.Goals as goal

pub drain-self-inside-requires-clause-due : goal.drain-self-inside-requires-clause-due
drain-self-inside-requires-clause-due g c = λ it reply text named taken yields.
    let inside = c.self.inside in
    let (value, stood, own) = taken.stood in
    let config : inside.pass.config ≡ Some (g.V.Chronicle.config value.station) = sym taken.config ∙ own in
    let new : inside.pass.made ≡ [] = ap (λ s. s.pass.made) c.self.view_is ∙ c.requires.new in
    let empty : IfSome (g.S.Output.written inside.sink) (λ bytes. bytes ≡ []) = subst (λ s. IfSome s.written (λ bytes. bytes ≡ [])) (sym c.self.view_is) c.requires.empty in
    inside.due (g.V.Chronicle.config value.station) config it reply text named
    (taken_due (λ w. g.V.Chronicle.config w.station) (λ w h. g.V.Chronicle.stands w.station h) g.V.Station.is_legal g.V.Station.ingests g.V.Station.yields g.C.Clock.read_for (λ w h s. g.met.V.Station.legal w.station h s)
    (g.V.Chronicle.config value.station) inside.releaser inside.pass (g.S.Output.written inside.sink) (g.S.Output.written it) reply config new (inside.own (g.V.Chronicle.config value.station) config) empty taken) yields

pub invariant_of-self-inside : goal.invariant_of-self-inside
invariant_of-self-inside g c =
    let inside = c.self.inside in
    let ran = c.drain-self-inside.ensures in (
      λ cfg is. ap (λ p. p.number) ran.calls ∙ inside.own cfg (sym (ap (λ p. p.config) ran.calls) ∙ is),
      (λ cfg is it reply text named due yields. inside.due cfg (sym (ap (λ p. p.config) ran.calls) ∙ is) it reply text (named ∙ ran.name) due yields, tt),
    )
