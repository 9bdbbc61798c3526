use Rattle.std.proofs.Common.{refl}
use Rattle.tesla_front.proofs.Statuses.{never_failed}
use Rattle.tesla_cli_live.proofs.Allowing.{tools_allowed}
use Rattle.tesla_laws.proofs.live_commands.run_live_tools_surely.Goals as goal

pub run_live_tools-requires-clause-allowed : goal.run_live_tools-requires-clause-allowed
run_live_tools-requires-clause-allowed g c κs within = λ told before opens. tools_allowed _ _ _ _ _ _ _ _ _ _ _ (λ it piece. refl) (λ post datagram. refl) (λ link. refl) (λ number datagram. refl) _ told _ _ _

pub returns-clause-unfailed : goal.returns-clause-unfailed
returns-clause-unfailed g c = never_failed c.run_live_tools.result.status c.run_live_tools.ensures.causes
