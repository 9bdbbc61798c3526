use Rattle.std.proofs.Common.{◌∙◌, List, true, ap}
use Rattle.tesla_capture.specs.Capture.{Record}
use Rattle.tesla_replay.specs.Played.{played}
use Rattle.tesla_receiver.specs.Report.{report_of}
use Rattle.tesla_run_stress.specs.Load.{end_reading}
use Rattle.tesla_run_stress.proofs.Loads.{load_is}
use Rattle.tesla_run_stress.proofs.play.play.Goals as goal

pub returns : goal.returns
returns g c = λ cfg was.
    c.finish.ensures cfg _ (c.play_arrival.ensures.played cfg _ (c.play_messages.ensures.played cfg was))
    ∙ ap (λ (l : List Record). report_of (played cfg l true))
    (load_is c.args.seed c.args.parties.messages.count c.play_messages.new.parties.messages.count c.end_reading-reading.result _ c.play_messages.ensures.count (c.end_reading-reading.ensures ∙ ap end_reading c.last_of.ensures) c.disclose-length.ensures.text)
