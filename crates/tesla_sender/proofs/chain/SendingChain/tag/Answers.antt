use Rattle.std.proofs.Common.{◌≡◌, ◌∙◌, ap, subst, arith}
use Rattle.tesla_base.specs.Tag.{wide_tag}
use Rattle.tesla_prf.specs.Keys.{mac_of, tag_under}
use Rattle.tesla_sender.specs.Made.{Chain, key_of}
use Rattle.tesla_sender.specs.Chains.{Progress, tag_made}
use Rattle.tesla_sender.proofs.Tags.{tag_is_made}
use Rattle.tesla_sender.proofs.chain.SendingChain.tag.Goals as goal

pub returns-clause-value : goal.returns-clause-value
returns-clause-value g c =
    let a = c.args in
    let s = c.self.inside in
    let used = c.self.invariant in
    let chain : Chain = record { number = s.number.0; row = s.row; seed = s.traversal.seed; last = s.last } in
    let view : chain ≡ a.self.now.chain = ap (λ (p : Progress). p.chain) c.self.view_is in
    let tagging : s.tagging ≡ a.name.interval = ap (λ (p : Progress). p.tagging) c.self.view_is ∙ c.requires.prepared in
    let mac : s.mac ≡ mac_of (key_of s.last s.traversal.seed a.name.interval) = used.mac (omega (arith, tagging, c.requires.some)) ∙ ap (λ l. mac_of (key_of l s.traversal.seed s.tagging)) used.whole ∙ ap (λ i. mac_of (key_of s.last s.traversal.seed i)) tagging in
    let made = tag_is_made a.setup.now a.name a.payload.now chain s.mac mac in
    let stream = c.stream.ensures in
    let size = c.tag_length-length.ensures.value in
    let tagged : c.wide_tag.result ≡ wide_tag (tag_under c.tag_length-length.result s.mac c.stream.result s.number a.name a.payload.now) = c.wide_tag.ensures.value in
    let sized : c.wide_tag.result ≡ wide_tag (tag_under a.setup.now.tag_length s.mac c.stream.result s.number a.name a.payload.now) = tagged ∙ ap (λ n. wide_tag (tag_under n s.mac c.stream.result s.number a.name a.payload.now)) size in
    let streamed : c.wide_tag.result ≡ wide_tag (tag_under a.setup.now.tag_length s.mac a.setup.now.stream s.number a.name a.payload.now) = sized ∙ ap (λ n. wide_tag (tag_under a.setup.now.tag_length s.mac n s.number a.name a.payload.now)) stream in
    let P : Chain → Type 0 = λ k. c.wide_tag.result ≡ tag_made a.setup.now a.name a.payload.now k in
    subst P view (streamed ∙ made)
