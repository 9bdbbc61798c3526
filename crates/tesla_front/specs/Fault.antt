-- What goes wrong outside of a command: its status, its line and its cause.
use Rattle.std.specs.Prelude.{◌≡◌, ◌≢◌, ℕ, ◌||◌, Bool, nat_lt, Result, Err, List, codes}
use Rattle.tesla_desk.specs.Faults.{Faults, HasCauses}
use Rattle.tesla_desk.specs.declared.desk.OpenRefusal.{OpenRefusal}
use Rattle.tesla_desk.specs.declared.desk.OpenRefusal.TheVariants as refusals
use Rattle.tesla_front.specs.declared.fault.Fault.{Fault}
use Rattle.tesla_front.specs.declared.fault.Fault.TheVariants.{Read, Write, NoMemory, Open}

-- the status that a program ends with
abbrev pub fault_status : Fault → ℕ
fault_status Read = 4
fault_status Write = 5
fault_status NoMemory = 6
fault_status Open = 7

-- a status that no fault has
abbrev pub is_own_status : ℕ → Bool
is_own_status status = nat_lt status 4 || nat_lt 7 status

-- the status tells no failed read, no failed write and no failed opening
abbrev pub IsUnfailed : ℕ → Type 0
IsUnfailed status = (status ≢ 4) × (status ≢ 5) × (status ≢ 7)

-- the line that tells it
abbrev pub fault_line : Fault → List ℕ
fault_line Read = codes "read fault\n"
fault_line Write = codes "write fault\n"
fault_line NoMemory = codes "no memory\n"
fault_line Open = codes "open fault\n"

-- what a refused opening comes to
abbrev pub unopened : OpenRefusal → Fault
unopened refusals.Failed = Open
unopened refusals.NoMemory = NoMemory

-- each fault that is answered raised its count, and no other count rose: want of memory raises none
abbrev pub Causes : {A : Type 0} → Result A Fault → Faults → Faults → Type 0
Causes result old new = HasCauses old new (result ≡ Err Read) (result ≡ Err Write) (result ≡ Err Open)
