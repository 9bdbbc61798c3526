use Rattle.std.proofs.Common.{◌≡◌, ◌∙◌, List, ℕ, take, ap, rules}
use Rattle.tesla_trace.proofs.Sizes.{given_text}
use Rattle.tesla_recorder.specs.Recorded.{with_text}
use Rattle.tesla_recorder.proofs.tail.LastEntries.put_take.Goals as goal

pub returns-in-Given : goal.returns-in-Given
returns-in-Given c =
    let length_is : c.from.result ≡ c.in-Given.head.length = search rules in
    c.put-in-Given.ensures ∙ ap (λ (text : List ℕ). with_text c.args.self.now text)
    (given_text c.args.releaser c.in-Given.head c.args.reply _ _ c.args.payload.now c.in-Given.is c.given_header.ensures (ap (λ (n : ℕ). take n c.args.payload.now) length_is))
