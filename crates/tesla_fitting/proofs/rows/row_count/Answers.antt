use Rattle.std.proofs.Common.{sym, subst}
use Rattle.tesla_frame.specs.declared.view.FrameView.{FrameView}
use Rattle.tesla_frame.specs.Frame.{ChainsRise}
use Rattle.tesla_frame.specs.Shown.{shown}
use Rattle.tesla_fitting.specs.Rows.{keys_of}
use Rattle.tesla_fitting.proofs.CarriedRise.{carried_rise}
use Rattle.tesla_fitting.proofs.rows.row_count.Goals as goal

pub returns-in-Data-clause-rise : goal.returns-in-Data-clause-rise
returns-in-Data-clause-rise c config =
    subst (λ (f : FrameView). ChainsRise (keys_of config (shown f))) (sym c.in-Data.is) (carried_rise config c.in-Data.data.name.interval 0 c.in-Data.data.rows)
