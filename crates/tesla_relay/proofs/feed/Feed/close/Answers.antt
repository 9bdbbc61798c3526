use Rattle.std.proofs.Common.{◌∙◌, List, ap, subst, sym}
use Rattle.tesla_relay.specs.Line.{numbered}
use Rattle.tesla_relay.specs.Numbered.{AreBelow}
use Rattle.tesla_relay.specs.declared.line.Item.{Item}
use Rattle.tesla_relay.specs.declared.line.Log.{Log}
use Rattle.tesla_relay.proofs.feed.Feed.close.Goals as goal

pub put_in-requires-clause-brought : goal.put_in-requires-clause-brought
put_in-requires-clause-brought g c =
    (c.args.self.now.came, subst (λ (items : List Item). AreBelow c.args.self.now.came (numbered items)) (sym (ap (λ (l : Log). l.put) (c.loop.invariant.known ∙ c.requires.view_is))) c.requires.below, tt)
