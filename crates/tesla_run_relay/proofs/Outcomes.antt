-- What a relay comes to.
use Rattle.std.proofs.Common.{◌≡◌, ◌⊎◌, inl, inr, ℕ, Bool, true, false, List, [], Option, IfSome, refl, sym}
use Rattle.tesla_desk.specs.Faults.{HasCause}
use Rattle.tesla_desk.specs.Live.{Remainder, remainder_of}
use Rattle.tesla_desk.specs.declared.link.Letter.{Letter}
use Rattle.tesla_front.specs.OutcomeView.{Failed}
use Rattle.tesla_front.specs.declared.fault.Fault.{Fault}
use Rattle.tesla_front.specs.declared.fault.Fault.TheVariants as faults
use Rattle.tesla_relay.specs.Links.{HasEnded}
use Rattle.tesla_relay.proofs.Links.{broken_left, ended_left}
use Rattle.tesla_relay.specs.declared.relayed.PostCount.{PostCount}
use Rattle.tesla_relay.specs.declared.relayed.RelayEnd.{RelayEnd}
use Rattle.tesla_relay.specs.declared.relayed.RelayEnd.TheVariants as ends
use Rattle.tesla_run_relay.specs.Lines.{outcome_of_posts, outcome_with}
use Rattle.tesla_run_relay.specs.Relay.{EndsAs}

no_such : (failed : Bool) (counts : List PostCount) (fault : Fault) → (fault ≡ faults.Write → ⊥) → outcome_of_posts failed counts ≡ Failed fault → ⊥
no_such true counts fault other e = other (let same : faults.Write ≡ fault = cc in sym same)
no_such false counts fault other e = absurd cc

write_by : (failed : Bool) (counts : List PostCount) → outcome_of_posts failed counts ≡ Failed faults.Write → failed ≡ true
write_by true counts e = refl
write_by false counts e = absurd cc

by_write : (failed : Bool) (counts : List PostCount) → failed ≡ true → outcome_of_posts failed counts ≡ Failed faults.Write
by_write true counts e = refl
by_write false counts e = absurd cc

pub read_end : (end : RelayEnd) (failed : Bool) (counts : List PostCount) → outcome_with end failed counts ≡ Failed faults.Read → end ≡ ends.Failed
read_end ends.Failed failed counts e = refl
read_end ends.Ended failed counts e = absurd (no_such failed counts faults.Read (λ f. absurd cc) e)

pub end_read : (end : RelayEnd) (failed : Bool) (counts : List PostCount) → end ≡ ends.Failed → outcome_with end failed counts ≡ Failed faults.Read
end_read ends.Failed failed counts e = refl
end_read ends.Ended failed counts e = absurd cc

pub write_failed : (end : RelayEnd) (failed : Bool) (counts : List PostCount) → outcome_with end failed counts ≡ Failed faults.Write → failed ≡ true
write_failed ends.Failed failed counts e = absurd cc
write_failed ends.Ended failed counts e = write_by failed counts e

pub failed_either : (end : RelayEnd) (failed : Bool) (counts : List PostCount) → failed ≡ true → (outcome_with end failed counts ≡ Failed faults.Read) ⊎ (outcome_with end failed counts ≡ Failed faults.Write)
failed_either ends.Failed failed counts any = inl refl
failed_either ends.Ended failed counts any = inr (by_write failed counts any)

pub no_open : (end : RelayEnd) (failed : Bool) (counts : List PostCount) → outcome_with end failed counts ≡ Failed faults.Open → ⊥
no_open ends.Failed failed counts e = absurd cc
no_open ends.Ended failed counts e = no_such failed counts faults.Open (λ f. absurd cc) e

-- ---- how it ends

ends_posts : (failed : Bool) (counts : List PostCount) (remainder : Option Remainder) → HasEnded remainder → EndsAs remainder failed counts (outcome_of_posts failed counts)
ends_posts true counts remainder ended = (refl, ended)
ends_posts false counts remainder ended = (refl, refl, ended)

pub ends_as : (end : RelayEnd) (failed : Bool) (counts : List PostCount) (later : Option (List Letter)) (missed : ℕ) → HasCause 0 missed (end ≡ ends.Failed) → (end ≡ ends.Ended → IfSome later (λ rest. rest ≡ [])) → EndsAs (remainder_of later missed) failed counts (outcome_with end failed counts)
ends_as ends.Failed failed counts later missed cause over = broken_left later missed (cause.rose refl)
ends_as ends.Ended failed counts later missed cause over = ends_posts failed counts (remainder_of later missed) (ended_left later missed (over refl) (cause.still (λ e. absurd cc)))
