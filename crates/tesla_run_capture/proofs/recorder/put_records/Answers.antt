use Rattle.std.proofs.Common.{◌∙◌, ◌++◌, List, ℕ, ap, refl, append_assoc}
use Rattle.tesla_capture.specs.Capture.{record_text, Arrives, Takes}
use Rattle.tesla_capture.specs.Gathering.{gathered}
use Rattle.tesla_desk.proofs.Told.{prefix_longer}
use Rattle.tesla_run_capture.specs.Heard.{piece_of}
use Rattle.tesla_run_capture.proofs.Kept.{gathers_behind}
use Rattle.tesla_run_capture.proofs.recorder.put_records.Goals as goal

pub returns-clause-all : goal.returns-clause-all
returns-clause-all g c whole =
    let arrives = record_text (Arrives c.args.reading c.args.bytes.now) in
    gathers_behind _ _ (gathered c.make_room.new.gatherer) _ _ (piece_of (record { reading = c.args.reading; bytes = c.args.bytes.now })) (c.if-not-make_room.ensures.all refl)
    (c.add_take.ensures ∙ ap (λ (t : List ℕ). t ++ record_text Takes) c.add_arrival.ensures ∙ append_assoc (gathered c.make_room.new.gatherer) arrives (record_text Takes))

pub returns-then-not-make_room-clause-prefix : goal.returns-then-not-make_room-clause-prefix
returns-then-not-make_room-clause-prefix g c lost =
    prefix_longer _ _ (gathered c.args.gatherer.now) (piece_of (record { reading = c.args.reading; bytes = c.args.bytes.now })) (c.if-not-make_room.ensures.prefix refl)
