-- The parameters of a stream: what its setup has beside the commitments of its key chains.
use Rattle.std.specs.Prelude.{ℕ, List}
use Rattle.tesla_base.specs.declared.names.StreamId.{StreamId}
use Rattle.tesla_base.specs.declared.version.Version.{Version}
use Rattle.tesla_clock.specs.Schedule.{Times}
use Rattle.tesla_sender_setup.specs.declared.parameters.Parameters.{Parameters}

-- the version, the stream, its intervals, the bytes of a tag, and the disclosure delay of each key chain
pub record StreamParameters : Type 0 where
  pub version : Version
  pub stream : StreamId
  pub times : Times
  pub tag_length : ℕ
  pub delays : List ℕ

-- the same of the values of the code
abbrev pub parameters_of : Parameters → StreamParameters
parameters_of it = record {
  version = it.version;
  stream = it.stream;
  times = it.schedule;
  tag_length = it.tag_length;
  delays = it.delays.items;
}
