-- A run of info, from its steps.
use Rattle.std.proofs.Common.{◌≡◌, ◌∙◌, inl, inr, ℕ, Option, Result, Ok, Err, IfErr, List, [], ◌∷◌, ap, subst}
use Rattle.arrayvec.specs.ArrayString.{ArrayString}
use Rattle.tesla_commit.specs.Parts.{Parts}
use Rattle.tesla_desk.specs.Live.{Live}
use Rattle.tesla_desk.specs.Outside.{Told, OfSource}
use Rattle.tesla_desk.proofs.Counts.{causes_none, causes_then}
use Rattle.tesla_front.specs.OutcomeView.{result_view, stop_view}
use Rattle.tesla_front.specs.Command.{Performs}
use Rattle.tesla_front.specs.Openings.{AreFiles, Opens, OpensSome}
use Rattle.tesla_front.specs.Refusal.{StopCauses}
use Rattle.tesla_front.specs.Setup.{IsNoSetup, IsSetupIn}
use Rattle.tesla_front.specs.declared.refusal.Stop.{Stop}
use Rattle.tesla_front.proofs.Commands.{counts_by, counts_stopped}
use Rattle.tesla_front.proofs.SmallTexts.{text_causes}
use Rattle.tesla_run_info.specs.info.Arguments.{InfoArguments, IsInfoForm, files_of_info}
use Rattle.tesla_run_info.specs.info.Telling.{TellsInfo, info}

-- the file isn't the console
pub are_files : (arguments : InfoArguments) (words : List (List ℕ)) → IsInfoForm arguments words → AreFiles (files_of_info arguments)
are_files arguments words is = (is.rest.first.0.file, tt)

-- there was no setup
pub performs_lacking : (arguments : InfoArguments) (before now : Told) (stop : Stop) → AreFiles (files_of_info arguments) → OpensSome (OfSource arguments.setup ∷ []) before now → IsNoSetup (before.page arguments.setup) (stop_view stop) → StopCauses {A = Parts} (Err stop) before.faults now.faults → now.live ≡ before.live → Performs (info before.live now.live) arguments before now (stop_view stop)
performs_lacking arguments before now stop named opens why causes live =
    record { named = named; opened = opens.0; opens = opens.2; does = inl (record { alone = opens.1; same = live; why = why }); counts = counts_stopped stop before.faults now.faults causes }

told_err : (before now : Live) (rate : Option ℕ) (setup : Parts) (result : Result ArrayString Stop) → TellsInfo before now rate setup (result_view result) → IfErr result (λ stop. TellsInfo before now rate setup (stop_view stop))
told_err before now rate setup (Ok lines) told = tt
told_err before now rate setup (Err stop) told = told

-- the setup was read, and then told, which changes nothing but what is told of clocks
pub performs_told : (arguments : InfoArguments) (setup : Parts) (before read now : Told) (result : Result ArrayString Stop) → AreFiles (files_of_info arguments) → Opens (OfSource arguments.setup ∷ []) 1 before read → IsSetupIn (before.page arguments.setup) setup → StopCauses {A = Parts} (Ok setup) before.faults read.faults → read.live ≡ before.live → now ≡ record read { live = now.live } → TellsInfo read.live now.live arguments.rate setup (result_view result) → Performs (info before.live now.live) arguments before now (result_view result)
performs_told arguments setup before read now result named opens found still live same told = record {
  named = named;
  opened = 1;
  opens = record {
    asked = ap (λ (t : Told). t.openings) same ∙ opens.asked;
    pages = λ name no. ap (λ (t : Told). t.page name) same ∙ opens.pages name no;
    lefts = λ name no. ap (λ (t : Told). t.left name) same ∙ opens.lefts name no;
  };
  does = inr (record { setup = setup; found = found; told = subst (λ (l : Live). TellsInfo l now.live arguments.rate setup (result_view result)) live told });
  counts = causes_then before.faults read.faults now.faults (causes_none before.faults read.faults still (λ e. absurd cc) (λ e. absurd cc) (λ e. absurd cc))
      (counts_by result read.faults now.faults (text_causes (λ text. TellsInfo read.live now.live arguments.rate setup) [] result read.faults now.faults (λ text fault is. is.0) (ap (λ (t : Told). t.faults) same) (told_err read.live now.live arguments.rate setup result told)));
}
