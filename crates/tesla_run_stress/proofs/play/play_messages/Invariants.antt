use Rattle.std.proofs.Common.{◌≡◌, ◌*◌, ◌<◌, ◌≤◌, []}
use Rattle.tesla_fitting.specs.declared.config.Config.{Config}
use Rattle.tesla_run_stress.specs.Base.{base_stream}
use Rattle.tesla_run_stress.specs.Load.{number_at, records_to}
use Rattle.tesla_run_stress.specs.Steps.{HasPlayed, HasSent, Keeps}
use Rattle.tesla_run_stress.proofs.play.play_messages.Given as goal

abbrev pub invariant-loop-k : goal.invariant-loop-k
invariant-loop-k g l = record {
  number : l.number ≡ number_at l.seed l.k;
  limit : l.number < 65537;
  count : l.parties.messages.count ≡ l.initial.parties.messages.count;
  sent : HasSent l.parties.messages.count l.k l.parties.messages.sender;
  kept : Keeps l.parties.messages.count l.k l.parties.messages.kept;
  played : (cfg : Config) → HasPlayed cfg [] l.initial.parties.receiver → HasPlayed cfg (records_to (base_stream l.parties.messages.count) l.seed l.k) l.parties.receiver;
  calls : l.parties.receiver.calls ≤ 3 * l.k;
}
