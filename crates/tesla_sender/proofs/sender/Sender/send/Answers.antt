use Rattle.std.proofs.Common.{◌≡◌, ℕ, ◌∙◌, ap, subst, arith}
use Rattle.std.specs.List.{All}
use Rattle.tesla_sender.specs.Chains.{CanTag}
use Rattle.tesla_sender.specs.Stands.{State}
use Rattle.tesla_sender.proofs.Senders.{can_tag}
use Rattle.tesla_sender.proofs.sender.Sender.send.Goals as goal

pub prepare_all-requires-clause-made : goal.prepare_all-requires-clause-made
prepare_all-requires-clause-made g c =
    let s = c.self.inside in
    let interval = c.args.name.interval in
    let gone : c.begin_at.new.self.latest ≡ c.from.result = ap (λ (v : State). v.latest) c.begin_at.ensures.after in
    let latest : s.latest ≡ interval = ap (λ (v : State). v.latest) c.self.view_is ∙ gone ∙ c.from.ensures in
    let begun : c.begin_at.new.self.stream.setup.times.last ≡ c.args.self.now.stream.setup.times.last = ap (λ (v : State). v.stream.setup.times.last) c.begin_at.ensures.after in
    let last : s.setup.times.last ≡ c.args.self.now.stream.setup.times.last = ap (λ (v : State). v.stream.setup.times.last) c.self.view_is ∙ begun in
    let all = can_tag s.setup s.chains.items s.latest s.used c.self.invariant (omega (arith, latest, last, c.requires.within)) in
    subst (λ (i : ℕ). All (CanTag i) s.chains.items) latest all
