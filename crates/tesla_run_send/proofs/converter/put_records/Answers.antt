use Rattle.std.proofs.Common.{refl}
use Rattle.tesla_capture.specs.Capture.{record_text, Arrives, Takes}
use Rattle.tesla_run_send.proofs.Frames.{gathers_both, prefix_second}
use Rattle.tesla_run_send.proofs.converter.put_records.Goals as goal

pub returns-clause-all : goal.returns-clause-all
returns-clause-all g c whole =
    gathers_both _ _ _ _ _ _ (record_text (Arrives c.args.reading c.args.frame.now)) (record_text Takes) (c.if-not-put_arrival.ensures.all refl) (c.put_take.ensures.all whole)

pub returns-clause-prefix : goal.returns-clause-prefix
returns-clause-prefix g c lost =
    prefix_second _ _ _ _ _ (record_text (Arrives c.args.reading c.args.frame.now)) (record_text Takes) (c.if-not-put_arrival.ensures.all refl) (c.put_take.ensures.prefix lost)
