use Rattle.std.proofs.Common.{rules, ◌≡◌, ℕ, List, take, ◌∷◌, [], ap, subst, sym}
use Rattle.tesla_relay.specs.Feeding.{HasServed, IsServing, ServerSeen, ServesOn}
use Rattle.tesla_relay.specs.Numbered.{Numbered}
use Rattle.tesla_relay.specs.declared.line.Item.TheVariants.{Datagram}
use Rattle.tesla_relay.proofs.Sending.{next_relayed, serves_datagram}
use Rattle.tesla_relay.proofs.server.Server.step.Goals as goal

pub returns-in-Some-Datagram-clause-on : goal.returns-in-Some-Datagram-clause-on
returns-in-Some-Datagram-clause-on g c =
    let is = c.self.view_is in let size = c.in-Some-Datagram.length in let bytes = c.in-Some-Datagram.bytes in
    let sent : c.datagram_in.result.now ≡ take size bytes.value = search rules in
    subst (λ (s : ServerSeen). ServesOn c.args.self.now s) (sym c.self-in-Some-Datagram.view_is)
    (subst (λ (s : ServerSeen). ServesOn s c.send.new.self) is
    (serves_datagram _ c.send.new.self c.take_out.new.pass (Datagram c.in-Some-Datagram._number size bytes) _ (ap (λ d. d ∷ []) (sym sent)) (subst (λ (s : ServerSeen). IsServing s) (sym is) c.requires.0)
    c.take_out.ensures.own.0 c.take_out.ensures.own.2 (search rules) c.send.ensures))

pub send-requires-clause-next : goal.send-requires-clause-next
send-requires-clause-next g c = λ fine.
    let is = c.self.view_is in let number = c.in-Some-Datagram._number in let size = c.in-Some-Datagram.length in let bytes = c.in-Some-Datagram.bytes in
    let basis = g.X.Based.basis in
    let sent : c.datagram_in.result.now ≡ take size bytes.value = search rules in
    next_relayed basis _ (Datagram number size bytes) number c.datagram_in.result.now (subst (λ (s : ServerSeen). HasServed basis s) (sym is) c.requires.1)
    (ap (λ (d : List ℕ). let one : Numbered = record { number = number; bytes = d } in one ∷ []) (sym sent)) (search rules) fine
