-- What a command comes to that stops before anything is sent.
use Rattle.std.proofs.Common.{◌≡◌, ◌⊎◌, inl, inr, ap}
use Rattle.tesla_desk.specs.Faults.{Faults, HasCausesBeside}
use Rattle.tesla_desk.specs.Outside.{Told}
use Rattle.tesla_desk.proofs.Counts.{cause_none, causes_opening, causes_plain}
use Rattle.tesla_front.specs.OutcomeView.{Failed}
use Rattle.tesla_front.specs.declared.fault.Fault.{Fault}
use Rattle.tesla_front.specs.declared.fault.Fault.TheVariants as faults
use Rattle.tesla_relay.specs.Opened.{OpensNotAll}

-- want of memory raises no count
pub memory_counts : {hidden : Type 0} (before now : Faults) → now ≡ before → HasCausesBeside hidden before now (Failed faults.NoMemory ≡ Failed faults.Read) (Failed faults.NoMemory ≡ Failed faults.Write) (Failed faults.NoMemory ≡ Failed faults.Open)
memory_counts {hidden} before now same = causes_plain {hidden = hidden} before now (record {
  reads = cause_none before.reads now.reads (ap (λ (f : Faults). f.reads) same) (λ e. absurd cc);
  writes = cause_none before.writes now.writes (ap (λ (f : Faults). f.writes) same) (λ e. absurd cc);
  openings = cause_none before.openings now.openings (ap (λ (f : Faults). f.openings) same) (λ e. absurd cc);
})

-- an opening that was refused raised the count of openings where it failed, and no other count rose
pub not_all_counts : {hidden : Type 0} (fault : Fault) (before now : Told) → OpensNotAll fault before now → HasCausesBeside hidden before.faults now.faults (Failed fault ≡ Failed faults.Read) (Failed fault ≡ Failed faults.Write) (Failed fault ≡ Failed faults.Open)
not_all_counts {hidden} fault before now not_all =
    causes_plain {hidden = hidden} before.faults now.faults
    (causes_opening before.faults now.faults not_all.counts (λ e. no_read fault e not_all.cause) (λ e. no_write fault e not_all.cause) (λ e. open_is fault e) (λ e. ap Failed e)) where
      no_read : (f : Fault) → Failed f ≡ Failed faults.Read → (f ≡ faults.Open) ⊎ (f ≡ faults.NoMemory) → ⊥
      no_read f e (inl refused) = cc
      no_read f e (inr memory) = cc

      no_write : (f : Fault) → Failed f ≡ Failed faults.Write → (f ≡ faults.Open) ⊎ (f ≡ faults.NoMemory) → ⊥
      no_write f e (inl refused) = cc
      no_write f e (inr memory) = cc

      open_is : (f : Fault) → Failed f ≡ Failed faults.Open → f ≡ faults.Open
      open_is f e = cc

-- the command tells why
pub outcome_cause : (fault : Fault) → (fault ≡ faults.Open) ⊎ (fault ≡ faults.NoMemory) → (Failed fault ≡ Failed faults.Open) ⊎ (Failed fault ≡ Failed faults.NoMemory)
outcome_cause fault (inl refused) = inl (ap Failed refused)
outcome_cause fault (inr memory) = inr (ap Failed memory)
