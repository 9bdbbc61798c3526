use Rattle.std.proofs.Common.{◌≡◌, ◌++◌}
use Rattle.tesla_feeds.specs.Going.{NotesOn, WaitsOn}
use Rattle.tesla_feeds.specs.Opening.{opened_at, streams_fed}
use Rattle.tesla_feeds.proofs.hearing.wait_to_begin.Given as goal

abbrev pub invariant-loop : goal.invariant-loop
invariant-loop g l =
    let first = l.initial.feeds in
    let left = g.Y.LaterSenders.left in
    let streams = streams_fed first.feeders ++ left l.initial.instruments.later in
    record {
      waits : WaitsOn streams first.opening first l.feeds (g.C.Clock.told l.initial.instruments.clock) (g.C.Clock.told l.instruments.clock) (g.N.Notes.was_told l.initial.instruments.notes) (g.N.Notes.was_told l.instruments.notes);
      fixed : g.N.Notes.fixed l.instruments.notes ≡ g.N.Notes.fixed l.initial.instruments.notes;
      noting : NotesOn g.Y.LaterSenders.is_right g.N.Notes.was_told g.N.Notes.may_note g.C.Clock.gave g.C.Clock.read_for streams 0 (opened_at first.opening streams) l.instruments.notes;
      left : left l.instruments.later ≡ left l.initial.instruments.later;
    }
