-- A run of capture between its openings and its end.
use Rattle.std.specs.Prelude.{◌≡◌, ◌⊎◌, ℕ, ◌<◌, List, Option, Result, Ok, Err}
use Rattle.std.specs.Option.{option_map}
use Rattle.tesla_desk.specs.Faults.{HasCause, HasCauseBeside, raised}
use Rattle.tesla_desk.specs.Outside.{ClosesLink, ClosesSink, Told}
use Rattle.tesla_desk.specs.declared.link.Letter.{Letter}
use Rattle.tesla_front.specs.OutcomeView.{OutcomeView, Done, Failed}
use Rattle.tesla_front.specs.declared.fault.Fault.{Fault}
use Rattle.tesla_front.specs.declared.fault.Fault.TheVariants as faults
use Rattle.tesla_run_capture.specs.Capture.{captured_line}
use Rattle.tesla_run_capture.specs.Recording.{RecordsFile}

-- what a recording comes to: the line that tells how many datagrams there were, or a fault
abbrev pub outcome_with : Result ℕ Fault → OutcomeView
outcome_with (Ok count) = Done (captured_line count)
outcome_with (Err fault) = Failed fault

-- nothing that is told has changed, but that one clock may have been made
abbrev pub MakesSome : Told → Told → Type 0
MakesSome before now = (now ≡ record before { live = record before.live { made = now.live.made } }) × ((now.live.made ≡ before.live.made) ⊎ (now.live.made ≡ option_map raised before.live.made))

-- an open link was recorded on an open sink, and then both were closed
pub record RunsOpened (link out : List ℕ) (left : Option (List Letter)) (written : Option (List ℕ)) (old new : Told) (outcome : OutcomeView) : Type 0 where
  pub result : Result ℕ Fault
  pub outcome_is : outcome ≡ outcome_with result
  pub later : Option (List Letter)
  pub kept : Option (List ℕ)
  -- so often a call of the link and a write failed
  pub missed : ℕ
  pub failed : ℕ
  pub records : RecordsFile result left later old.live.readings old.live.made written kept failed
  pub read : HasCause 0 missed (result ≡ Err faults.Read)
  pub write : HasCauseBeside ((result ≡ Err faults.Read) × (0 < failed)) 0 failed (result ≡ Err faults.Write)
  pub made : Told
  pub makes : MakesSome old made
  pub between : Told
  pub sink_closed : ClosesSink out kept failed made between
  pub link_closed : ClosesLink link later missed between new
