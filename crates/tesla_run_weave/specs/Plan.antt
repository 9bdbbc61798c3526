-- What is kept of a script, and its records with other payloads.
use Rattle.std.specs.Prelude.{◌≡◌, ℕ, ◌≤◌, List, [], ◌∷◌, ◌++◌, length, map}
use Rattle.std.specs.List.{All}
use Rattle.tesla_base.specs.declared.names.Name.{Name}
use Rattle.tesla_capture.specs.Script.{Record, Sends, Discloses}
use Rattle.tesla_commit.specs.Parts.{Parts}
use Rattle.tesla_run_weave.specs.Rule.{bodies_of, names_of}
use Rattle.tesla_run_weave.specs.declared.plan.Slot.{Slot}
use Rattle.tesla_run_weave.specs.declared.plan.Slot.TheVariants.{Message, Disclosure}

-- what is kept of the records of a script: each without its body, and the names and the bodies of the messages
pub record Planned : Type 0 where
  pub slots : List Slot
  pub names : List Name
  pub bodies : List (List ℕ)

-- a record without its body
abbrev pub slot_of : Record → Slot
slot_of (Sends reading body) = Message reading
slot_of (Discloses reading) = Disclosure reading

-- what is kept of these records
abbrev pub plan_of : Parts → List Record → Planned
plan_of setup records = record { slots = map slot_of records; names = names_of setup records; bodies = bodies_of records }

-- each message has a name and a body, which leaves room for a promise before it
pub record IsPlan (plan : Planned) : Type 0 where
  pub same : length plan.names ≡ length plan.bodies
  pub short : All (λ (body : List ℕ). length body ≤ 1161) plan.bodies

-- with one message more
abbrev pub with_message : Planned → ℕ → Name → List ℕ → Planned
with_message plan reading name body = record { slots = plan.slots ++ Message reading ∷ []; names = plan.names ++ name ∷ []; bodies = plan.bodies ++ body ∷ [] }

-- with one disclosure more
abbrev pub with_disclosure : Planned → ℕ → Planned
with_disclosure plan reading = record { slots = plan.slots ++ Disclosure reading ∷ []; names = plan.names; bodies = plan.bodies }

-- the records with these payloads, one for each message
abbrev pub with_payloads : List Record → List (List ℕ) → List Record
with_payloads [] payloads = []
with_payloads (Sends reading body ∷ records) [] = with_payloads records []
with_payloads (Sends reading body ∷ records) (payload ∷ payloads) = Sends reading payload ∷ with_payloads records payloads
with_payloads (Discloses reading ∷ records) payloads = Discloses reading ∷ with_payloads records payloads

-- the same, of what is kept of the records
abbrev pub filled : List Slot → List (List ℕ) → List Record
filled [] payloads = []
filled (Message reading ∷ slots) [] = filled slots []
filled (Message reading ∷ slots) (payload ∷ payloads) = Sends reading payload ∷ filled slots payloads
filled (Disclosure reading ∷ slots) payloads = Discloses reading ∷ filled slots payloads
