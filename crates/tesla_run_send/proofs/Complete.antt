-- A run of send comes to its end where its inputs are taken and nothing fails.
use Rattle.std.proofs.Common.{◌≡◌, ◌∙◌, ◌⊎◌, inl, inr, ℕ, Bool, Option, Some, None, Result, Ok, Err, List, length, refl, sym, ap, subst}
use Rattle.tesla_base.specs.declared.names.Key.{Key}
use Rattle.tesla_commit.specs.Parts.{Parts}
use Rattle.tesla_commit.specs.declared.refusal.SetupKind.{SetupKind}
use Rattle.tesla_seeds.specs.declared.refusal.SeedsKind.{SeedsKind}
use Rattle.tesla_desk.specs.Outside.{Page, Holds, Told}
use Rattle.tesla_front.specs.OutcomeView.{OutcomeView, Done, Usage, Refused, Failed}
use Rattle.tesla_front.specs.Command.{Performs}
use Rattle.tesla_front.specs.Files.{HoldsWhere, IsRefusedIn}
use Rattle.tesla_front.specs.Openings.{File, file_told}
use Rattle.tesla_front.specs.Run.{NothingFailed}
use Rattle.tesla_front.specs.Seeds.{IsNoSeeds, IsNoSeedsText, IsSeedsIn, IsSeedsText}
use Rattle.tesla_front.specs.Setup.{IsNoSetupText, IsSetupIn, IsSetupText}
use Rattle.tesla_front.specs.declared.fault.Fault.{Fault}
use Rattle.tesla_front.specs.declared.fault.Fault.TheVariants as faults
use Rattle.tesla_convert.specs.Meaning.{Converts}
use Rattle.tesla_sender.specs.Made.{Stream}
use Rattle.tesla_run_send.specs.Arguments.{SendArguments}
use Rattle.tesla_run_send.specs.Script.{Sent, sending}
use Rattle.tesla_run_send.specs.Send.{SendsWith, comes_by, frames_line, meaning, send}
use Rattle.tesla_run_send.specs.Sender.{IsFoundIn, IsNoSender, LacksSender, wrong_line}
use Rattle.tesla_run_send.specs.declared.script_kind.ScriptKind.{ScriptKind}
use Rattle.tesla_front.proofs.Commands.{memory_alone}

-- it came to this number of frames, or to a fault
abbrev Ends : OutcomeView → ℕ → Type 0
Ends outcome count = (outcome ≡ Done (frames_line count)) ⊎ ((fault : Fault) × (outcome ≡ Failed fault))

-- a text that isn't refused is refused only where something went wrong outside
refused_ends : (Why : List ℕ → OutcomeView → Type 0) (page : Page) (outcome : OutcomeView) (text : List ℕ) (failed : Bool) → page ≡ Holds text failed → ((status : ℕ) (line : List ℕ) → Why text (Refused status line) → ⊥) → IsRefusedIn page Why outcome → (fault : Fault) × (outcome ≡ Failed fault)
refused_ends Why page (Failed fault) text failed is never why = (fault, refl)
refused_ends Why page (Refused status line) text failed is never why = absurd (never status line (subst (λ (p : Page). HoldsWhere p (λ t. Why t (Refused status line))) is why))
refused_ends Why page (Done lines) text failed is never why = absurd why
refused_ends Why page Usage text failed is never why = absurd why

setup_never : (text : List ℕ) (setup : Parts) (status : ℕ) (line : List ℕ) → IsSetupText text setup → IsNoSetupText text (Refused status line) → ⊥
setup_never text setup status line found (inl why) = let no : ◌≡◌ {A = Result Parts (ℕ × SetupKind)} (Ok setup) (Err why.0) = sym found ∙ why.1 in cc
setup_never text setup status line found (inr memory) = cc

seeds_never : (count : ℕ) (text : List ℕ) (seeds : List Key) (status : ℕ) (line : List ℕ) → IsSeedsText count text seeds → IsNoSeedsText count text (Refused status line) → ⊥
seeds_never count text seeds status line found (inl why) = let no : ◌≡◌ {A = Result (List Key) (ℕ × SeedsKind)} (Ok seeds) (Err why.0) = sym found ∙ why.1 in cc
seeds_never count text seeds status line found (inr memory) = cc

-- the setup is the one that was told
one_setup : (page : Page) (text : List ℕ) (failed : Bool) (setup other : Parts) → page ≡ Holds text failed → IsSetupText text setup → IsSetupIn page other → other ≡ setup
one_setup page text failed setup other is found in_page =
    let held : IsSetupText text other = subst (λ (p : Page). IsSetupIn p other) is in_page in
    let both : ◌≡◌ {A = Result Parts (ℕ × SetupKind)} (Ok other) (Ok setup) = sym held ∙ found in cc

-- the seeds are those that were told
one_seeds : (count : ℕ) (page : Page) (text : List ℕ) (failed : Bool) (seeds other : List Key) → page ≡ Holds text failed → IsSeedsText count text seeds → IsSeedsIn count page other → other ≡ seeds
one_seeds count page text failed seeds other is found in_page =
    let held : IsSeedsText count text other = subst (λ (p : Page). IsSeedsIn count p other) is in_page in
    let both : ◌≡◌ {A = Result (List Key) (ℕ × SeedsKind)} (Ok other) (Ok seeds) = sym held ∙ found in cc

-- where no record is refused, the end is the number of the frames
all_sent : (refused : Option (ℕ × ScriptKind)) (sent : List Sent) → refused ≡ None → comes_by refused sent ≡ Done (frames_line (length sent))
all_sent None sent e = refl
all_sent (Some refused) sent e = absurd cc

-- a script without a refused record comes to that end, or to a fault
script_ends : (stream : Stream) (script script_after out out_after : File) (outcome : OutcomeView) (bytes : List ℕ) (failed : Bool) → script.page ≡ Holds bytes failed → (sending stream bytes).refused ≡ None → Converts (meaning stream) script.page script_after.left out.page out_after.page outcome → Ends outcome (length (sending stream bytes).sent)
script_ends stream script script_after out out_after (Done lines) bytes failed page whole converts = inl (converts.end bytes failed page ∙ all_sent (sending stream bytes).refused (sending stream bytes).sent whole)
script_ends stream script script_after out out_after (Refused status line) bytes failed page whole converts =
    absurd (let no : Refused status line ≡ Done (frames_line (length (sending stream bytes).sent)) = converts.end bytes failed page ∙ all_sent (sending stream bytes).refused (sending stream bytes).sent whole in cc)
script_ends stream script script_after out out_after Usage bytes failed page whole converts = absurd converts
script_ends stream script script_after out out_after (Failed fault) bytes failed page whole converts = inr (fault, refl)

-- a sender is opened with seeds that are right, or there is a fault
sender_ends : (stream : Stream) (outcome : OutcomeView) → wrong_line stream ≡ None → IsNoSender stream outcome → (fault : Fault) × (outcome ≡ Failed fault)
sender_ends stream outcome right (inl wrong) = absurd (let no : ◌≡◌ {A = Option ℕ} None (Some wrong.0) = sym right ∙ wrong.1 in cc)
sender_ends stream outcome right (inr memory) = (faults.NoMemory, memory)

module _ (text secret : List ℕ) (failed other : Bool) (setup : Parts) (seeds : List Key) (setup_file secret_file : File) (page : setup_file.page ≡ Holds text failed) (found : IsSetupText text setup) (told : secret_file.page ≡ Holds secret other) (are : IsSeedsText (length setup.rows) secret seeds) (right : wrong_line (record { setup = setup; seeds = seeds }) ≡ None) where
  -- the stream that is found is that of the setup and the seeds
  one_stream : (stream : Stream) → IsFoundIn setup_file.page secret_file.page stream → stream ≡ record { setup = setup; seeds = seeds }
  one_stream stream is =
      let same : stream.setup ≡ setup = one_setup setup_file.page text failed setup stream.setup page found is.setup_found in
      let seeded : stream.seeds ≡ seeds = one_seeds (length setup.rows) secret_file.page secret other seeds stream.seeds told are (subst (λ (p : Parts). IsSeedsIn (length p.rows) secret_file.page stream.seeds) same is.seeds_found) in
      ap (λ (p : Parts). let s : Stream = record { setup = p; seeds = stream.seeds } in s) same ∙ ap (λ (ks : List Key). let s : Stream = record { setup = setup; seeds = ks } in s) seeded

  -- why there is no sender is a fault
  lacks_end : (opened : ℕ) (outcome : OutcomeView) → LacksSender setup_file secret_file opened outcome → (fault : Fault) × (outcome ≡ Failed fault)
  lacks_end opened outcome (inl stops) = refused_ends IsNoSetupText setup_file.page outcome text failed page (λ status line why. setup_never text setup status line found why) stops.why
  lacks_end opened outcome (inr (inl stops)) =
      let same : stops.parts ≡ setup = one_setup setup_file.page text failed setup stops.parts page found stops.found in
      refused_ends (IsNoSeedsText (length setup.rows)) secret_file.page outcome secret other told (λ status line why. seeds_never (length setup.rows) secret seeds status line are why)
      (subst (λ (p : Parts). IsNoSeeds (length p.rows) secret_file.page outcome) same stops.why)
  lacks_end opened outcome (inr (inr stops)) = sender_ends (record { setup = setup; seeds = seeds }) outcome right (subst (λ (s : Stream). IsNoSender s outcome) (one_stream stops.stream stops.found) stops.why)

  does_end : (script out script_after out_after : File) (opened : ℕ) (outcome : OutcomeView) (bytes : List ℕ) (last : Bool) → script.page ≡ Holds bytes last → (sending (record { setup = setup; seeds = seeds }) bytes).refused ≡ None
      → LacksSender setup_file secret_file opened outcome ⊎ SendsWith setup_file secret_file script out script_after out_after opened outcome → Ends outcome (length (sending (record { setup = setup; seeds = seeds }) bytes).sent)
  does_end script out script_after out_after opened outcome bytes last script_page whole (inl lacks) = inr (lacks_end opened outcome lacks)
  does_end script out script_after out_after opened outcome bytes last script_page whole (inr sends) =
      script_ends (record { setup = setup; seeds = seeds }) script script_after out out_after outcome bytes last script_page whole
      (subst (λ (s : Stream). Converts (meaning s) script.page script_after.left out.page out_after.page outcome) (one_stream sends.stream sends.is.found) sends.sends.converts)

-- a run of send comes to the number of frames, or to want of memory
pub complete : (arguments : SendArguments) (old new : Told) (outcome : OutcomeView) (text secret bytes : List ℕ) (failed other last : Bool) (setup : Parts) (seeds : List Key) → Performs send arguments old new outcome → old.page arguments.setup ≡ Holds text failed → IsSetupText text setup → old.page arguments.secret ≡ Holds secret other → IsSeedsText (length setup.rows) secret seeds → wrong_line (record { setup = setup; seeds = seeds }) ≡ None → old.page arguments.script ≡ Holds bytes last → (sending (record { setup = setup; seeds = seeds }) bytes).refused ≡ None → NothingFailed old.faults new.faults
    → (outcome ≡ Done (frames_line (length (sending (record { setup = setup; seeds = seeds }) bytes).sent))) ⊎ (outcome ≡ Failed faults.NoMemory)
complete arguments old new outcome text secret bytes failed other last setup seeds performs page found told are right script whole none =
    elim (does_end text secret failed other setup seeds (file_told old arguments.setup) (file_told old arguments.secret) page found told are right (file_told old arguments.script) (file_told old arguments.out) (file_told new arguments.script) (file_told new arguments.out) performs.opened outcome bytes last script whole performs.does) [
      | inl done ↦ inl done
      | inr fault ↦ inr (memory_alone old.faults new.faults outcome fault.0 performs.counts none fault.1)
    ]
