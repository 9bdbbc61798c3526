-- A message that is written to a file.
use Rattle.std.specs.Prelude.{◌≡◌, ℕ, List}
use Rattle.tesla_desk.specs.Outside.{Page}
use Rattle.tesla_front.specs.OutcomeView.{OutcomeView, Done, Failed}
use Rattle.tesla_front.specs.Files.{HoldsWhere, HasFailed, IsPrefix}
use Rattle.tesla_front.specs.declared.fault.Fault.TheVariants as faults

-- what writing a message comes to, with the line that tells it, and the page of the output before and afterwards: it holds the message, behind a failed write a prefix of it, and for any other fault it is as before
abbrev pub WritesMessage : List ℕ → List ℕ → Page → Page → OutcomeView → Type 0
WritesMessage message line before after (Done lines) = (lines ≡ line) × HoldsWhere after (λ written. written ≡ message)
WritesMessage message line before after (Failed faults.Write) = HoldsWhere after (IsPrefix message) × HasFailed after
WritesMessage message line before after (Failed faults.NoMemory) = after ≡ before
WritesMessage message line before after (Failed faults.Open) = after ≡ before
WritesMessage message line before after _ = ⊥
