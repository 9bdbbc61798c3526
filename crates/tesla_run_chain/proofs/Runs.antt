-- A run of chain or chain2, from its steps.
use Rattle.std.proofs.Common.{◌≡◌, inl, inr, ℕ, Result, Ok, Err, List, [], ◌∷◌, length, subst}
use Rattle.arrayvec.specs.ArrayString.{ArrayString}
use Rattle.tesla_base.specs.declared.names.Key.{Key}
use Rattle.tesla_desk.specs.Faults.{Faults}
use Rattle.tesla_desk.specs.Outside.{Page, Told, OfSource, OfSink}
use Rattle.tesla_desk.proofs.Counts.{cause_as, causes_none, causes_then}
use Rattle.tesla_front.specs.OutcomeView.{result_view, stop_view}
use Rattle.tesla_front.specs.Command.{Performs}
use Rattle.tesla_front.specs.Fault.{Causes}
use Rattle.tesla_front.specs.Openings.{AreFiles, Opens, OpensSome}
use Rattle.tesla_front.specs.Refusal.{StopCauses}
use Rattle.tesla_front.specs.Seeds.{IsNoSeeds, IsSeedsIn}
use Rattle.tesla_front.specs.declared.fault.Fault.{Fault}
use Rattle.tesla_front.specs.declared.refusal.Stop.{Stop}
use Rattle.tesla_front.specs.declared.refusal.Stop.TheVariants as stops
use Rattle.tesla_front.proofs.Commands.{counts_by, counts_stopped}
use Rattle.tesla_front.proofs.Openings.{opens_some, some_then}
use Rattle.tesla_run_chain.specs.Arguments.{ChainArguments, IsChain, files_of_chain}
use Rattle.tesla_run_chain.specs.Chain.{WritesSetup, chain}
use Rattle.tesla_sender_setup.specs.Made.{setup_made}

-- a fault of writing is one of the command
pub stopped_causes : {A B : Type 0} (fault : Fault) (old new : Faults) → Causes {A = A} (Err fault) old new → StopCauses {A = B} (Err (stops.Failed fault)) old new
stopped_causes fault old new causes = record {
  reads = cause_as old.reads new.reads causes.reads (λ e. cc) (λ e. cc);
  writes = cause_as old.writes new.writes causes.writes (λ e. cc) (λ e. cc);
  openings = cause_as old.openings new.openings causes.openings (λ e. cc) (λ e. cc);
}

-- none of the files is the console
pub are_files : (arguments : ChainArguments) (words : List (List ℕ)) → IsChain arguments words → AreFiles (files_of_chain arguments)
are_files arguments words is = (is.names.secret_is.file, (is.names.out_is.file, tt))

-- there were no seeds
pub performs_lacking : (arguments : ChainArguments) (before now : Told) (stop : Stop) → AreFiles (files_of_chain arguments) → OpensSome (OfSource arguments.secret ∷ []) before now → IsNoSeeds (length arguments.parameters.delays) (before.page arguments.secret) (stop_view stop) → StopCauses {A = List Key} (Err stop) before.faults now.faults → Performs chain arguments before now (stop_view stop)
performs_lacking arguments before now stop named opens why causes =
    let it = opens_some (OfSource arguments.secret) (OfSink arguments.out ∷ []) before now opens in
    record { named = named; opened = it.0; opens = it.2; does = inl (record { alone = it.1; why = why }); counts = counts_stopped stop before.faults now.faults causes }

-- the seeds were read, and then the setup made and written
pub performs_making : (arguments : ChainArguments) (seeds : List Key) (before mid now : Told) (result : Result ArrayString Stop) → AreFiles (files_of_chain arguments) → Opens (OfSource arguments.secret ∷ []) 1 before mid → ((name : List ℕ) → mid.page name ≡ before.page name) → StopCauses {A = List Key} (Ok seeds) before.faults mid.faults → length seeds ≡ length arguments.parameters.delays → IsSeedsIn (length arguments.parameters.delays) (before.page arguments.secret) seeds → OpensSome (OfSink arguments.out ∷ []) mid now → WritesSetup (setup_made arguments.parameters seeds) (mid.page arguments.out) (now.page arguments.out) (result_view result) → StopCauses result mid.faults now.faults → Performs chain arguments before now (result_view result)
performs_making arguments seeds before mid now result named first pages still count found opens writes causes =
    let it = some_then (OfSource arguments.secret) (OfSink arguments.out ∷ []) before mid now first opens in
    record {
      named = named;
      opened = it.0;
      opens = it.2;
      does = inr (record {
        seeds = seeds;
        count = count;
        found = found;
        writes = subst (λ (p : Page). WritesSetup (setup_made arguments.parameters seeds) p (now.page arguments.out) (result_view result)) (pages arguments.out) writes;
      });
      counts = causes_then before.faults mid.faults now.faults (causes_none before.faults mid.faults still (λ e. absurd cc) (λ e. absurd cc) (λ e. absurd cc)) (counts_by result mid.faults now.faults causes);
    }
