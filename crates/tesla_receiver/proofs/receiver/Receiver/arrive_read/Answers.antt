use Rattle.std.proofs.Common.{◌≡◌, ℕ, ◌+◌, ◌≤◌, [], ◌∷◌, ◌++◌, sym, ap, ◌∙◌, subst}
use Rattle.tesla_receiver.specs.declared.history.Entry.TheVariants.{Arrived}
use Rattle.tesla_fitting.specs.declared.verdict.Verdict.{Verdict}
use Rattle.tesla_state.specs.Costs.{most_by, offers_by}
use Rattle.tesla_receiver.specs.History.{Arrives, entry_of}
use Rattle.tesla_state.specs.State.{State}
use Rattle.tesla_receiver.specs.Stands.{Stands}
use Rattle.tesla_state.specs.Steps.{after_arrival, judged}
use Rattle.tesla_receiver.proofs.Arriving.{verdict_judged, stands_arrived}
use Rattle.tesla_receiver.proofs.Costs.{cost_same, offers_same}
use Rattle.tesla_receiver.proofs.Moved.{arrival_config, arrival_calls}
use Rattle.tesla_receiver.proofs.receiver.Receiver.arrive_read.Goals as goal

pub returns-clause-answer : goal.returns-clause-answer
returns-clause-answer g c h st =
    ap (λ (v : Verdict). Arrived (record { ingest = c.args.ingest; reading = c.args.reading; bytes = c.args.bytes.now; verdict = v }))
    (c.arrive.ensures.verdict ∙ ap (λ (s : State). judged s c.args.reading c.args.bytes.now) (c.deref_mut.ensures.value ∙ c.self.view_is) ∙ sym (verdict_judged c.args.self.now h st c.args.ingest c.args.reading c.args.bytes.now))

pub returns-clause-stands : goal.returns-clause-stands
returns-clause-stands g c h st =
    let moved = c.arrive.ensures.state ∙ ap (λ (s : State). after_arrival s c.args.reading c.args.bytes.now) (c.deref_mut.ensures.value ∙ c.self.view_is) in
    subst (λ (s : State). Stands s (h ++ entry_of c.args.self.now.config h (Arrives c.args.ingest c.args.reading c.args.bytes.now) ∷ [])) (sym moved)
    (stands_arrived c.args.self.now h st c.args.ingest c.args.reading c.args.bytes.now)

pub returns-clause-evaluations : goal.returns-clause-evaluations
returns-clause-evaluations g c h st =
    let same = ap (λ (s : State). most_by s c.args.reading c.args.bytes.now) (c.deref_mut.ensures.value ∙ c.self.view_is) ∙ cost_same c.args.self.now h st c.args.reading c.args.bytes.now in
    subst (λ (n : ℕ). c.arrive.new.steps ≤ c.args.steps.now + n) same c.arrive.ensures.cost

pub returns-clause-badkey : goal.returns-clause-badkey
returns-clause-badkey g c h st chain e =
    let told : c.arrive.result ≡ judged c.args.self.now c.args.reading c.args.bytes.now = c.arrive.ensures.verdict ∙ ap (λ (s : State). judged s c.args.reading c.args.bytes.now) (c.deref_mut.ensures.value ∙ c.self.view_is) in
    let same = ap (λ (s : State). offers_by s c.args.bytes.now) (c.deref_mut.ensures.value ∙ c.self.view_is) ∙ offers_same c.args.self.now h st c.args.reading c.args.bytes.now chain (sym told ∙ e) in
    subst (λ (n : ℕ). c.arrive.new.steps ≤ c.args.steps.now + n) same (c.arrive.ensures.badkey chain e)

pub returns-clause-config : goal.returns-clause-config
returns-clause-config g c =
    ap (λ (s : State). s.config) (c.arrive.ensures.state ∙ ap (λ (s : State). after_arrival s c.args.reading c.args.bytes.now) (c.deref_mut.ensures.value ∙ c.self.view_is))
    ∙ arrival_config c.args.self.now c.args.reading c.args.bytes.now

pub returns-clause-calls : goal.returns-clause-calls
returns-clause-calls g c =
    ap (λ (s : State). s.calls) (c.arrive.ensures.state ∙ ap (λ (s : State). after_arrival s c.args.reading c.args.bytes.now) (c.deref_mut.ensures.value ∙ c.self.view_is))
    ∙ arrival_calls c.args.self.now c.args.reading c.args.bytes.now
