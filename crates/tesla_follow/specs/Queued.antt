-- What is kept of a message that waits.
use Rattle.std.specs.Prelude.{take}
use Rattle.tesla_follow.specs.Followed.{Accepted}
use Rattle.tesla_follow.specs.declared.queue.Waiting.{Waiting}

-- the message, and its epoch
abbrev pub accepted_of : Waiting → Accepted
accepted_of waiting = record { epoch = waiting.epoch; message = record { name = waiting.name; payload = take waiting.length waiting.bytes } }
