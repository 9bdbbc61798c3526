use Rattle.std.proofs.Common.{◌≡◌, ◌≤◌, [], length, take}
use Rattle.tesla_receiver.specs.Stands.{Stands}
use Rattle.tesla_follow.specs.Kept.{ends_of, set_count}
use Rattle.tesla_follow.proofs.epoch.end_each.Given as goal

-- the ends of the ingests so far are made
abbrev pub invariant-loop-ingest : goal.invariant-loop-ingest
invariant-loop-ingest l = record {
  stands : Stands l.initial.receiver [] → Stands l.receiver (ends_of l.ingest l.flags);
  config : l.receiver.config ≡ l.initial.receiver.config;
  calls : l.receiver.calls ≤ set_count (take l.ingest l.flags);
  reserved : l.receiver.reserved ≡ l.initial.receiver.reserved;
  end : l.ingest-end ≡ length l.flags;
}
