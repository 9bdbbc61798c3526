use Rattle.tesla_relay.proofs.relaying.relay_based.Goals as goal

pub returns-in-Ok-clause-relays : goal.returns-in-Ok-clause-relays
returns-in-Ok-clause-relays g c = c.relay_in.ensures.relays c.args.capacity c.in-Ok.ensures.queues.0
