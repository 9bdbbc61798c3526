use Rattle.tesla_net_live.proofs.link.UdpLinkLink.next.Goals as goal

pub returns-in-Err-clause-step : goal.returns-in-Err-clause-step
returns-in-Err-clause-step g c = c.miss.ensures.step c.receive.new.into
