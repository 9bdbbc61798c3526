use Rattle.std.proofs.Common.{◌∙◌, ℕ, true, ap}
use Rattle.tesla_replay.specs.Played.{played}
use Rattle.tesla_receiver.specs.Report.{report_of}
use Rattle.tesla_run_stress.specs.Base.{base_config, base_stream}
use Rattle.tesla_run_stress.specs.Load.{load}
use Rattle.tesla_run_stress.proofs.play.play_counted.Goals as goal

pub returns : goal.returns
returns g c =
    c.play.ensures (base_config c.args.count) c.in_ok-parties.ensures.played
    ∙ ap (λ (n : ℕ). report_of (played (base_config c.args.count) (load (base_stream n) c.args.seed n) true)) c.in_ok-parties.ensures.count
