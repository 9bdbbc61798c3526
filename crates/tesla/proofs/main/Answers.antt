use Rattle.std.proofs.Common.{refl}
use Rattle.tesla_cli_live.proofs.Allowing.{live_allowed, recorded_allowed, tools_allowed}
use Rattle.tesla.proofs.main.Goals as goal

pub run_live-done-requires-clause-allowed : goal.run_live-done-requires-clause-allowed
run_live-done-requires-clause-allowed g c κs within = λ told before opens. live_allowed _ _ _ _ _ _ _ _ _ _ _ (λ it piece. refl) (λ post datagram. refl) (λ link. refl) (λ number datagram. refl) _ told _ _ _

pub run_recorded-done-requires-clause-allowed : goal.run_recorded-done-requires-clause-allowed
run_recorded-done-requires-clause-allowed g c κs within = λ told before opens. recorded_allowed _ _ _ _ _ _ _ _ _ _ _ (λ it piece. refl) (λ post datagram. refl) (λ link. refl) (λ number datagram. refl) _ told

pub run_live_tools-done-requires-clause-allowed : goal.run_live_tools-done-requires-clause-allowed
run_live_tools-done-requires-clause-allowed g c κs within = λ told before opens. tools_allowed _ _ _ _ _ _ _ _ _ _ _ (λ it piece. refl) (λ post datagram. refl) (λ link. refl) (λ number datagram. refl) _ told _ _ _
