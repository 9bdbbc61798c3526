use Rattle.std.proofs.Common.{◌≡◌, true, false, refl, sym, ◌∙◌}
use Rattle.tesla_capture.specs.Gathering.{gathered}
use Rattle.tesla_run_capture.proofs.Filed.{recorded_all, recorded_failed, recorded_last, recorded_lost, some_rose}
use Rattle.tesla_run_capture.proofs.Kept.{hears_nothing}
use Rattle.tesla_run_capture.proofs.Pieces.{next_piece}
use Rattle.tesla_run_capture.proofs.recording.record_link.Goals as goal

pub hear_all-requires-clause-hears : goal.hear_all-requires-clause-hears
hear_all-requires-clause-hears g c =
    hears_nothing g.C.Clock.read_for c.new-recorder.result _ _ _ c.new-recorder.ensures.gathered c.new-recorder.ensures.counts.0 c.new-recorder.ensures.counts.1

pub write-requires : goal.write-requires
write-requires g c =
    let recorder = c.hear_all.new.recorder in
    c.requires.due c.hear_all.new.output (gathered recorder.gatherer) c.in-Over.ensures.names.1 (next_piece g.C.Clock.read_for recorder _ _ _ _ _ _ recorder.most c.requires.begun c.in-Over.ensures.hears.0)

pub write-requires-in-LinkFailed : goal.write-requires-in-LinkFailed
write-requires-in-LinkFailed g c =
    let recorder = c.hear_all.new.recorder in
    c.requires.due c.hear_all.new.output (gathered recorder.gatherer) c.in-LinkFailed.ensures.names.1 (next_piece g.C.Clock.read_for recorder _ _ _ _ _ _ recorder.most c.requires.begun c.in-LinkFailed.ensures.hears)

pub returns-then-not-write-clause-records : goal.returns-then-not-write-clause-records
returns-then-not-write-clause-records g c =
    let recorder = c.hear_all.new.recorder in
    recorded_lost g.C.Clock.read_for recorder _ _ _ _ _ _ _ _ recorder.most recorder.gatherer.within c.in-Over.ensures.hears.0 c.write.ensures.prefix

pub returns-else-not-write-clause-records : goal.returns-else-not-write-clause-records
returns-else-not-write-clause-records g c =
    let recorder = c.hear_all.new.recorder in
    recorded_all g.C.Clock.read_for recorder c.count.result _ _ _ _ _ _ _ _ recorder.most c.in-Over.ensures.hears.0 c.in-Over.ensures.hears.1 (c.if-not-write.ensures.all refl) (c.count.ensures ∙ c.write.ensures.counts.0)

pub returns-in-LinkFailed-clause-records : goal.returns-in-LinkFailed-clause-records
returns-in-LinkFailed-clause-records g c =
    let recorder = c.hear_all.new.recorder in
    let wrote = c.write-in-LinkFailed in
    let fresh : g.S.Output.faults c.hear_all.new.output ≡ 0 = c.in-LinkFailed.ensures.write.still (λ e. absurd cc) ∙ c.requires.fresh in
    recorded_failed g.C.Clock.read_for wrote.result recorder _ _ _ _ _ _ _ _ recorder.most recorder.gatherer.within c.in-LinkFailed.ensures.hears wrote.ensures.all wrote.ensures.prefix
    (λ is. wrote.ensures.cause.still (λ no. let e : true ≡ false = sym is ∙ no in absurd cc) ∙ fresh)
    (λ is. some_rose (g.S.Output.faults c.hear_all.new.output) _ fresh (wrote.ensures.cause.rose is))

pub returns-in-OutputFailed-clause-records : goal.returns-in-OutputFailed-clause-records
returns-in-OutputFailed-clause-records g c = recorded_last _ _ _ _ _ _ _ c.in-OutputFailed.ensures.hears
