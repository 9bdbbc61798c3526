use Rattle.std.proofs.Common.{◌≡◌, ◌+◌, ◌-◌, ◌∙◌, ap, arith}
use Rattle.std.specs.Option.{option_copied}
use Rattle.tesla_sender.specs.Made.{key_of}
use Rattle.tesla_sender.specs.Chains.{Progress}
use Rattle.tesla_sender.proofs.Kept.{kept_back}
use Rattle.tesla_sender.proofs.chain.SendingChain.key.Goals as goal

pub unreachable-requires : goal.unreachable-requires
unreachable-requires c =
    let s = c.self.inside in
    let reached : s.reached ≡ c.args.self.now.reached = ap (λ (p : Progress). p.reached) c.self.view_is in
    let delay : s.row.delay ≡ c.args.self.now.chain.row.delay = ap (λ (p : Progress). p.chain.row.delay) c.self.view_is in
    let found = kept_back s.traversal.last s.traversal.seed s.reached (s.row.delay + 2) (s.reached - c.args.index) s.kept.items (option_copied c.nth_back.result) c.self.invariant.keys (omega arith) (omega arith) c.nth_back.ensures in
    cc (ap option_copied c.in-None.is)

pub returns : goal.returns
returns c =
    let s = c.self.inside in
    let reached : s.reached ≡ c.args.self.now.reached = ap (λ (p : Progress). p.reached) c.self.view_is in
    let delay : s.row.delay ≡ c.args.self.now.chain.row.delay = ap (λ (p : Progress). p.chain.row.delay) c.self.view_is in
    let last : s.traversal.last ≡ c.args.self.now.chain.last = c.self.invariant.whole ∙ ap (λ (p : Progress). p.chain.last) c.self.view_is in
    let seed : s.traversal.seed ≡ c.args.self.now.chain.seed = ap (λ (p : Progress). p.chain.seed) c.self.view_is in
    let found = kept_back s.traversal.last s.traversal.seed s.reached (s.row.delay + 2) (s.reached - c.args.index) s.kept.items (option_copied c.nth_back.result) c.self.invariant.keys (omega arith) (omega arith) c.nth_back.ensures in
    let back : s.reached - (s.reached - c.args.index) ≡ c.args.index = omega arith in
    let at : key_of s.traversal.last s.traversal.seed (s.reached - (s.reached - c.args.index)) ≡ key_of s.traversal.last s.traversal.seed c.args.index = ap (key_of s.traversal.last s.traversal.seed) back in
    cc (ap option_copied c.in-Some.is)
