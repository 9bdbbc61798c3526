-- A run of seeds, from its steps.
use Rattle.std.proofs.Common.{◌≡◌, inl, inr, ℕ, Result, Ok, Err, List, [], ◌∷◌, length, subst}
use Rattle.arrayvec.specs.ArrayString.{ArrayString}
use Rattle.tesla_base.specs.declared.names.Key.{Key}
use Rattle.tesla_desk.specs.Faults.{Faults}
use Rattle.tesla_desk.specs.Outside.{Page, Told, OfSource, OfSink}
use Rattle.tesla_desk.proofs.Counts.{cause_as, causes_none, causes_then}
use Rattle.tesla_front.specs.OutcomeView.{result_view, stop_view}
use Rattle.tesla_front.specs.Command.{Performs}
use Rattle.tesla_front.specs.Fault.{Causes}
use Rattle.tesla_front.specs.Files.{HoldsWhere, IsRefusedIn}
use Rattle.tesla_front.specs.Openings.{AreFiles, Opens, OpensSome}
use Rattle.tesla_front.specs.Refusal.{StopCauses}
use Rattle.tesla_front.specs.declared.fault.Fault.{Fault}
use Rattle.tesla_front.specs.declared.refusal.Stop.{Stop}
use Rattle.tesla_front.specs.declared.refusal.Stop.TheVariants as stops
use Rattle.tesla_front.proofs.Commands.{counts_by, counts_stopped}
use Rattle.tesla_front.proofs.Openings.{opens_some, some_then}
use Rattle.tesla_seeds.specs.Weak.{AreSound}
use Rattle.tesla_run_info.specs.seeds.Arguments.{IsSeedsForm, SeedsArguments, files_of_seeds, random}
use Rattle.tesla_run_info.specs.seeds.Drawing.{WritesSeeds, seeds}
use Rattle.tesla_run_info.specs.seeds.Drawn.{AreDrawn, IsNoDraw}

-- a fault of reading or writing is one of the command
pub stopped_causes : {A B : Type 0} (fault : Fault) (old new : Faults) → Causes {A = A} (Err fault) old new → StopCauses {A = B} (Err (stops.Failed fault)) old new
stopped_causes fault old new causes = record {
  reads = cause_as old.reads new.reads causes.reads (λ e. cc) (λ e. cc);
  writes = cause_as old.writes new.writes causes.writes (λ e. cc) (λ e. cc);
  openings = cause_as old.openings new.openings causes.openings (λ e. cc) (λ e. cc);
}

-- none of the files is the console
pub are_files : (arguments : SeedsArguments) (words : List (List ℕ)) → IsSeedsForm arguments words → AreFiles (files_of_seeds arguments)
are_files arguments words is = (λ e. absurd cc, (is.spelled.rest.rest.first.0.file, tt))

-- no seeds were drawn
pub performs_none : (arguments : SeedsArguments) (before now : Told) (stop : Stop) → AreFiles (files_of_seeds arguments) → OpensSome (OfSource random ∷ []) before now → IsRefusedIn (before.page random) (IsNoDraw arguments.count) (stop_view stop) → StopCauses {A = List Key} (Err stop) before.faults now.faults → Performs seeds arguments before now (stop_view stop)
performs_none arguments before now stop named opens why causes =
    let it = opens_some (OfSource random) (OfSink arguments.out ∷ []) before now opens in
    record { named = named; opened = it.0; opens = it.2; does = inl (record { alone = it.1; why = why }); counts = counts_stopped stop before.faults now.faults causes }

-- seeds were drawn, and then written
pub performs_drawn : (arguments : SeedsArguments) (drawn : List Key) (before mid now : Told) (result : Result ArrayString Stop) → AreFiles (files_of_seeds arguments) → Opens (OfSource random ∷ []) 1 before mid → ((name : List ℕ) → mid.page name ≡ before.page name) → StopCauses {A = List Key} (Ok drawn) before.faults mid.faults → length drawn ≡ arguments.count → HoldsWhere (before.page random) (λ bytes. AreDrawn arguments.count bytes drawn) → AreSound drawn → OpensSome (OfSink arguments.out ∷ []) mid now → WritesSeeds drawn (mid.page arguments.out) (now.page arguments.out) (result_view result) → StopCauses result mid.faults now.faults → Performs seeds arguments before now (result_view result)
performs_drawn arguments drawn before mid now result named first pages still each found sound opens writes causes =
    let it = some_then (OfSource random) (OfSink arguments.out ∷ []) before mid now first opens in
    record {
      named = named;
      opened = it.0;
      opens = it.2;
      does = inr (record {
        seeds = drawn;
        each = each;
        drawn = found;
        sound = sound;
        writes = subst (λ (p : Page). WritesSeeds drawn p (now.page arguments.out) (result_view result)) (pages arguments.out) writes;
      });
      counts = causes_then before.faults mid.faults now.faults (causes_none before.faults mid.faults still (λ e. absurd cc) (λ e. absurd cc) (λ e. absurd cc)) (counts_by result mid.faults now.faults causes);
    }
