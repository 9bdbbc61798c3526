use Rattle.std.proofs.Common.{[], refl}
use Rattle.tesla_capture.specs.Capture.{head}
use Rattle.tesla_run_capture.proofs.Filed.{filed, filed_nothing}
use Rattle.tesla_run_capture.proofs.Pieces.{first_piece, written_behind}
use Rattle.tesla_run_capture.proofs.run.record_opened.Goals as goal

pub write_head-requires : goal.write_head-requires
write_head-requires g c = c.requires.due c.args.output.now head refl (first_piece g.D.Time.Clock.read_for _ _ _ c.requires.empty)

pub record_link-requires-clause-begun : goal.record_link-requires-clause-begun
record_link-requires-clause-begun g c = written_behind [] head _ _ c.requires.empty (c.if-not-write_head.ensures.all refl)

pub returns-then-not-write_head-clause-records : goal.returns-then-not-write_head-clause-records
returns-then-not-write_head-clause-records g c = filed_nothing _ _ _ _ _ _ c.write_head.ensures.prefix

pub returns-clause-records : goal.returns-clause-records
returns-clause-records g c =
    filed _ _ _ _ _ _ _ _ _ _ _ c.clock-clock.ensures.told (c.if-not-write_head.ensures.all refl) c.record_link.ensures.records
