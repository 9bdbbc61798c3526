use Rattle.std.proofs.Common.{◌≡◌, ◌+◌, ◌-◌, ◌^◌, min, rules}
use Rattle.tesla_memory_desk.proofs.Remembering.{ticks_once}
use Rattle.tesla_memory_desk.proofs.readings.ReadingsClock.now.Goals as goal

pub returns-clause-ticks : goal.returns-clause-ticks
returns-clause-ticks c = let it = c.args.self.now in
    let count : c.saturating_add-self.result ≡ min (it.count + 1) (2 ^ 64 - 1) = search rules in
    ticks_once it.count _ it.list.items _ count c.after.ensures
