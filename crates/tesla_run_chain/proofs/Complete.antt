-- A run of chain or chain2 comes to its end where its seeds are taken and nothing fails.
use Rattle.std.proofs.Common.{◌≡◌, ◌∙◌, ◌⊎◌, inl, inr, ℕ, Bool, Result, Ok, Err, List, [], ◌∷◌, length, refl, sym, ap, subst}
use Rattle.tesla_base.specs.declared.names.Key.{Key}
use Rattle.tesla_commit.specs.Parts.{Parts}
use Rattle.tesla_seeds.specs.declared.refusal.SeedsKind.{SeedsKind}
use Rattle.tesla_desk.specs.Outside.{Page, Holds, Told}
use Rattle.tesla_front.specs.OutcomeView.{OutcomeView, Done, Refused, Failed}
use Rattle.tesla_front.specs.Command.{Performs}
use Rattle.tesla_front.specs.Files.{HoldsWhere}
use Rattle.tesla_front.specs.Openings.{File, file_told}
use Rattle.tesla_front.specs.Run.{NothingFailed}
use Rattle.tesla_front.specs.Seeds.{IsNoSeeds, IsNoSeedsText, IsSeedsText}
use Rattle.tesla_front.specs.declared.fault.Fault.{Fault}
use Rattle.tesla_front.specs.declared.fault.Fault.TheVariants as faults
use Rattle.tesla_run_chain.specs.Arguments.{ChainArguments}
use Rattle.tesla_run_chain.specs.Chain.{DoesChain, WritesSetup, chain, chains_line}
use Rattle.tesla_sender_setup.specs.Made.{setup_made}
use Rattle.tesla_sender_setup.proofs.Setups.{rows_count}
use Rattle.tesla_front.proofs.Commands.{memory_alone}

-- seeds that a text spells are not refused
refused_never : (count : ℕ) (text : List ℕ) (seeds : List Key) (status : ℕ) (line : List ℕ) → IsSeedsText count text seeds → IsNoSeedsText count text (Refused status line) → ⊥
refused_never count text seeds status line found (inl why) = let no : ◌≡◌ {A = Result (List Key) (ℕ × SeedsKind)} (Ok seeds) (Err why.0) = sym found ∙ why.1 in cc
refused_never count text seeds status line found (inr memory) = cc

-- where seeds are told, there are none only where something went wrong outside
lacking_ends : (count : ℕ) (page : Page) (outcome : OutcomeView) (text : List ℕ) (failed : Bool) (seeds : List Key) → page ≡ Holds text failed → IsSeedsText count text seeds → IsNoSeeds count page outcome → (fault : Fault) × (outcome ≡ Failed fault)
lacking_ends count page (Failed fault) text failed seeds is found why = (fault, refl)
lacking_ends count page (Refused status line) text failed seeds is found why =
    absurd (refused_never count text seeds status line found (subst (λ (p : Page). HoldsWhere p (λ t. IsNoSeedsText count t (Refused status line))) is why))
lacking_ends count page _ text failed seeds is found why = absurd why

-- a setup that was made is written, or something went wrong outside
writing_ends : (setup : Parts) (count : ℕ) (before after : Page) (outcome : OutcomeView) → length setup.rows ≡ count → WritesSetup setup before after outcome → (outcome ≡ Done (chains_line count)) ⊎ ((fault : Fault) × (outcome ≡ Failed fault))
writing_ends setup count before after (Done lines) same writes = inl (ap Done (writes.0 ∙ ap chains_line same))
writing_ends setup count before after (Failed fault) same writes = inr (fault, refl)
writing_ends setup count before after _ same writes = absurd writes

chain_ends : (arguments : ChainArguments) (opened : ℕ) (secret out read written : File) (outcome : OutcomeView) (text : List ℕ) (failed : Bool) (seeds : List Key) → secret.page ≡ Holds text failed → IsSeedsText (length arguments.parameters.delays) text seeds → DoesChain arguments opened (secret ∷ out ∷ []) (read ∷ written ∷ []) outcome → (outcome ≡ Done (chains_line (length arguments.parameters.delays))) ⊎ ((fault : Fault) × (outcome ≡ Failed fault))
chain_ends arguments opened secret out read written outcome text failed seeds page found (inl lacks) = inr (lacking_ends (length arguments.parameters.delays) secret.page outcome text failed seeds page found lacks.why)
chain_ends arguments opened secret out read written outcome text failed seeds page found (inr makes) =
    writing_ends (setup_made arguments.parameters makes.seeds) (length arguments.parameters.delays) out.page written.page outcome (rows_count arguments.parameters.times.last arguments.parameters.delays makes.seeds makes.count) makes.writes

-- a run of chain or chain2 comes to the number of chains, or to want of memory
pub complete : (arguments : ChainArguments) (old new : Told) (outcome : OutcomeView) (text : List ℕ) (failed : Bool) (seeds : List Key) → Performs chain arguments old new outcome → old.page arguments.secret ≡ Holds text failed → IsSeedsText (length arguments.parameters.delays) text seeds → NothingFailed old.faults new.faults → (outcome ≡ Done (chains_line (length arguments.parameters.delays))) ⊎ (outcome ≡ Failed faults.NoMemory)
complete arguments old new outcome text failed seeds performs page found none =
    elim (chain_ends arguments performs.opened (file_told old arguments.secret) (file_told old arguments.out) (file_told new arguments.secret) (file_told new arguments.out) outcome text failed seeds page found performs.does) [
      | inl done ↦ inl done
      | inr fault ↦ inr (memory_alone old.faults new.faults outcome fault.0 performs.counts none fault.1)
    ]
