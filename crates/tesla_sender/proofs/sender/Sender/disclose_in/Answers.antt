use Rattle.std.proofs.Common.{◌≡◌, ℕ, List, map, sym, ◌∙◌, ap, subst}
use Rattle.std.specs.List.{All}
use Rattle.tesla_sender.specs.Chains.{AreNumbered, HasMade, Progress, chain_in}
use Rattle.tesla_sender.specs.Stands.{State}
use Rattle.tesla_sender.proofs.Senders.{numbered}
use Rattle.tesla_sender.proofs.sender.Sender.disclose_in.Goals as goal

pub write_due-requires-clause-numbered : goal.write_due-requires-clause-numbered
write_due-requires-clause-numbered g c =
    let s = c.self.inside in
    let P : List Progress → Type 0 = λ chains. AreNumbered 0 (map chain_in chains) in
    subst P (sym c.deref.ensures.value) (numbered s.setup s.chains.items s.latest s.used c.self.invariant)

pub write_due-requires-clause-made : goal.write_due-requires-clause-made
write_due-requires-clause-made g c =
    let s = c.self.inside in
    let gone : c.begin_at.new.self.latest ≡ c.args.interval = ap (λ (v : State). v.latest) c.begin_at.ensures.after in
    let latest : s.latest ≡ c.args.interval = ap (λ (v : State). v.latest) c.self.view_is ∙ gone in
    let P : List Progress → Type 0 = λ chains. All (HasMade c.args.interval) chains in
    subst P (sym c.deref.ensures.value) (subst (λ (i : ℕ). All (HasMade i) s.chains.items) latest c.self.invariant.reached)
