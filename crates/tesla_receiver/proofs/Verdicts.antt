-- The verdict on an arrival by what its bytes are.
use Rattle.std.proofs.Common.{◌≡◌, ℕ, List, [], ◌∷◌, ◌++◌, Some, None, ap, ◌∙◌}
use Rattle.std.specs.Prelude.{unwrap_or}
use Rattle.tesla_clock.specs.Schedule.{bound_of}
use Rattle.tesla_frame.specs.Frame.{Frame}
use Rattle.tesla_frame.specs.Reading.{frame_of}
use Rattle.tesla_fitting.specs.declared.config.Config.{Config}
use Rattle.tesla_receiver.specs.Entries.{Arrival}
use Rattle.tesla_fitting.specs.declared.verdict.Verdict.{Verdict}
use Rattle.tesla_fitting.specs.declared.verdict.Verdict.TheVariants.{Malformed}
use Rattle.tesla_receiver.specs.Answer.{refusal, verdict_taken, verdict_on, verdict_of, late_arrival}

module _ (cfg : Config) (arrivals : List Arrival) (given ingest reading : ℕ) (bytes : List ℕ) where
  pub verdict_malformed : None ≡ frame_of bytes → Malformed ≡ verdict_of cfg arrivals given ingest reading bytes
  unfolding verdict_of
  verdict_malformed h = ap (verdict_on cfg arrivals given (late_arrival ingest reading bytes) (bound_of cfg.setup.times cfg.lag reading)) h

  pub verdict_refused : (f : Frame) (v : Verdict) → Some f ≡ frame_of bytes → Some v ≡ refusal cfg arrivals (bound_of cfg.setup.times cfg.lag reading) f → v ≡ verdict_of cfg arrivals given ingest reading bytes
  unfolding verdict_of
  verdict_refused f v h r =
      ap (λ o. unwrap_or o (verdict_taken cfg (arrivals ++ late_arrival ingest reading bytes ∷ []) given (bound_of cfg.setup.times cfg.lag reading) f)) r
      ∙ ap (verdict_on cfg arrivals given (late_arrival ingest reading bytes) (bound_of cfg.setup.times cfg.lag reading)) h

  pub verdict_taking : (f : Frame) → Some f ≡ frame_of bytes → None ≡ refusal cfg arrivals (bound_of cfg.setup.times cfg.lag reading) f → verdict_taken cfg (arrivals ++ late_arrival ingest reading bytes ∷ []) given (bound_of cfg.setup.times cfg.lag reading) f ≡ verdict_of cfg arrivals given ingest reading bytes
  unfolding verdict_of
  verdict_taking f h r =
      ap (λ o. unwrap_or o (verdict_taken cfg (arrivals ++ late_arrival ingest reading bytes ∷ []) given (bound_of cfg.setup.times cfg.lag reading) f)) r
      ∙ ap (verdict_on cfg arrivals given (late_arrival ingest reading bytes) (bound_of cfg.setup.times cfg.lag reading)) h
