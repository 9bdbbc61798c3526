-- The trace, opened, audited and closed.
use Rattle.std.specs.Prelude.{◌≡◌, ◌⊎◌, ℕ, List, [], ◌∷◌}
use Rattle.tesla_desk.specs.Faults.{HasCauses}
use Rattle.tesla_desk.specs.Outside.{OfSource, Told}
use Rattle.tesla_fitting.specs.declared.config.Config.{Config}
use Rattle.tesla_front.specs.OutcomeView.{OutcomeView, Failed}
use Rattle.tesla_front.specs.Openings.{Opens}
use Rattle.tesla_front.specs.declared.fault.Fault.TheVariants as faults
use Rattle.tesla_run_audit.specs.Audit.{IsAudited, IsUnopened}

-- the file under a name was audited, or it wasn't opened
pub record AuditsFile (cfg : ℕ → Config) (name : List ℕ) (old new : Told) (outcome : OutcomeView) : Type 0 where
  pub opened : ℕ
  pub opens : Opens (OfSource name ∷ []) opened old new
  pub audits : IsUnopened 0 opened outcome ⊎ IsAudited cfg (old.page name) (new.left name) outcome
  pub counts : HasCauses old.faults new.faults (outcome ≡ Failed faults.Read) (outcome ≡ Failed faults.Write) (outcome ≡ Failed faults.Open)
