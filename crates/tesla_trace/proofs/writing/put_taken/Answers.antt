use Rattle.std.proofs.Common.{◌≡◌, List, ℕ, ◌++◌, take, subst, ap, rules}
use Rattle.tesla_capture.specs.Gathering.{gathered, Gathers}
use Rattle.tesla_trace.proofs.Sizes.{given_text}
use Rattle.tesla_trace.proofs.writing.put_taken.Goals as goal

pub returns-in-Given-clause-all : goal.returns-in-Given-clause-all
returns-in-Given-clause-all g c put =
    let length_is : c.from.result ≡ c.in-Given.head.length = search rules in
    subst (λ (text : List ℕ). Gathers (g.S.Sink.written c.args.sink.now) (g.S.Sink.written c.put_text-in-Given.new.sink) (gathered c.put_text-in-Given.new.gatherer) (gathered c.args.gatherer.now ++ text))
    (given_text c.args.releaser c.in-Given.head c.args.reply _ _ c.args.payload.now c.in-Given.is c.given_header.ensures (ap (λ (n : ℕ). take n c.args.payload.now) length_is))
    (c.put_text-in-Given.ensures.all put)
