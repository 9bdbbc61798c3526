use Rattle.std.proofs.Common.{◌≡◌, List, None, subst}
use Rattle.tesla_sender.specs.Made.{Chain}
use Rattle.tesla_sender.specs.Opening.{AreFresh, IsRefusal, seeds_refused}
use Rattle.tesla_sender.proofs.Opened.{sender_opened, stream_back}
use Rattle.tesla_sender.proofs.sender.Sender.open_from.Goals as goal

pub invariant_of-result : goal.invariant_of-result
invariant_of-result c =
    sender_opened c.args.setup c.args._seeds.now c.in-Ok.chains.items c.requires.count (subst (λ (cs : List Chain). AreFresh cs c.in-Ok.chains.items) c.requires.same c.in-Ok.ensures.opened)

pub returns-in-Ok-clause-stream : goal.returns-in-Ok-clause-stream
returns-in-Ok-clause-stream c =
    stream_back c.args.setup c.args._seeds.now c.in-Ok.chains.items c.requires.count (subst (λ (cs : List Chain). AreFresh cs c.in-Ok.chains.items) c.requires.same c.in-Ok.ensures.opened)

pub returns-in-Ok-clause-right : goal.returns-in-Ok-clause-right
returns-in-Ok-clause-right c = subst (λ (cs : List Chain). seeds_refused cs ≡ None) c.requires.same c.in-Ok.ensures.right

pub returns-in-Err-clause-refused : goal.returns-in-Err-clause-refused
returns-in-Err-clause-refused c = subst (λ (cs : List Chain). IsRefusal cs c.in-Err.refusal) c.requires.same c.in-Err.ensures.refused
