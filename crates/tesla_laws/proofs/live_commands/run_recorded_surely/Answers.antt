use Rattle.std.proofs.Common.{refl}
use Rattle.tesla_front.proofs.Statuses.{never_failed}
use Rattle.tesla_cli_live.proofs.Allowing.{recorded_allowed}
use Rattle.tesla_laws.proofs.live_commands.run_recorded_surely.Goals as goal

pub run_recorded-requires-clause-allowed : goal.run_recorded-requires-clause-allowed
run_recorded-requires-clause-allowed g c κs within = λ told before opens. recorded_allowed _ _ _ _ _ _ _ _ _ _ _ (λ it piece. refl) (λ post datagram. refl) (λ link. refl) (λ number datagram. refl) _ told

pub returns-clause-unfailed : goal.returns-clause-unfailed
returns-clause-unfailed g c = never_failed c.run_recorded.result.status c.run_recorded.ensures.causes
