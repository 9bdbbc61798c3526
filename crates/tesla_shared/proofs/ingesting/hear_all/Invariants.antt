use Rattle.std.proofs.Common.{◌≡◌, ◌-◌, ◌<◌, ◌≤◌, length, true}
use Rattle.tesla_turn.specs.Held.{OnlyCalls, left_of}
use Rattle.tesla_shared.specs.Workers.{HearsAll}
use Rattle.tesla_shared.proofs.ingesting.hear_all.Given as goal

abbrev pub invariant-loop : goal.invariant-loop
invariant-loop g l = record {
  size : length l.buffer ≡ 2048;
  left : 0 < left_of l.pass;
  first : l.first ≡ left_of l.initial.pass;
  spends : left_of l.pass ≤ l.first;
  brought : g.K.Link.has_brought l.link (l.first - left_of l.pass) ≡ true;
  calls : OnlyCalls l.initial.pass l.pass;
  hears : HearsAll l.number l.initial.pass.made l.pass.made (g.K.Link.left l.initial.link) (g.K.Link.left l.link) (g.C.Clock.told l.initial.clock) (g.C.Clock.told l.clock);
  faults : g.K.Link.faults l.link ≡ g.K.Link.faults l.initial.link;
  name : g.K.Link.name l.link ≡ g.K.Link.name l.initial.link;
}
