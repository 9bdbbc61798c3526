use Rattle.tesla_run_receive.specs.record.Record.{form_of_record}
use Rattle.tesla_run_receive.specs.watch.Watch.{watched}
use Rattle.tesla_laws.proofs.Completing.{capture_complete, output_complete, play_complete, receive_complete, relay_complete}
use Rattle.tesla_laws.proofs.live_commands.completeness.Goals as goal

pub returns-clause-receives : goal.returns-clause-receives
returns-clause-receives c = receive_complete

pub returns-clause-records : goal.returns-clause-records
returns-clause-records c = output_complete form_of_record (λ page outcome why. why)

pub returns-clause-watches : goal.returns-clause-watches
returns-clause-watches c = output_complete watched (λ page outcome why. why)

pub returns-clause-relays : goal.returns-clause-relays
returns-clause-relays c = relay_complete

pub returns-clause-plays : goal.returns-clause-plays
returns-clause-plays c = play_complete

pub returns-clause-captures : goal.returns-clause-captures
returns-clause-captures c = capture_complete
