use Rattle.std.proofs.Common.{◌≡◌, ◌+◌, List, replicate}
use Rattle.tesla_receiver.specs.Entries.{Entry}
use Rattle.tesla_receiver.specs.History.{Takes}
use Rattle.tesla_receiver.specs.Events.{after_events}
use Rattle.tesla_receiver.specs.Stands.{Stands}
use Rattle.tesla_run_stress.proofs.player.take_times.Given as goal

abbrev pub invariant-loop : goal.invariant-loop
invariant-loop l = record {
  config : l.receiver.config ≡ l.initial.receiver.config;
  calls : l.receiver.calls ≡ l.initial.receiver.calls + l.counter;
  stands : (h : List Entry) → Stands l.initial.receiver h → Stands l.receiver (after_events l.initial.receiver.config h (replicate l.counter (Takes 0)));
}
