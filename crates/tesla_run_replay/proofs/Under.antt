-- What a command did that plays a capture under a setup, told what became of its setup, and then of the capture and the output.
use Rattle.std.proofs.Common.{◌≡◌, ◌∙◌, ◌⊎◌, inl, inr, ℕ, suc, Bool, Option, Some, None, Result, Ok, Err, List, [], ◌∷◌, refl, sym, ap, subst}
use Rattle.tesla_capture.specs.Outline.{outline_of}
use Rattle.tesla_capture.specs.declared.record.RecordKind.{RecordKind}
use Rattle.tesla_commit.specs.Parsing.{judged}
use Rattle.tesla_commit.specs.Parts.{Parts}
use Rattle.tesla_commit.specs.declared.refusal.SetupKind.{SetupKind}
use Rattle.tesla_fitting.specs.declared.config.Config.{Config}
use Rattle.tesla_desk.specs.Outside.{Page, Untold, Absent, Holds, Told, OfSource, OfSink}
use Rattle.tesla_desk.proofs.Counts.{causes_none, causes_then}
use Rattle.tesla_front.specs.OutcomeView.{OutcomeView, Done, Usage, Refused, Failed, stop_view}
use Rattle.tesla_front.specs.Command.{Performs}
use Rattle.tesla_front.specs.Files.{HoldsWhere}
use Rattle.tesla_front.specs.Openings.{AreFiles, File, Opens, OpensSome, file_told}
use Rattle.tesla_front.specs.Refusal.{StopCauses}
use Rattle.tesla_front.specs.Run.{NothingFailed}
use Rattle.tesla_front.specs.Setup.{IsNoSetup, IsNoSetupText, IsSetupIn}
use Rattle.tesla_front.specs.declared.fault.Fault.{Fault}
use Rattle.tesla_front.specs.declared.fault.Fault.TheVariants as faults
use Rattle.tesla_front.specs.declared.refusal.Stop.{Stop}
use Rattle.tesla_front.proofs.Commands.{counts_stopped, memory_alone}
use Rattle.tesla_front.proofs.Openings.{opens_some, opens_then}
use Rattle.tesla_convert.specs.Files.{ClosesBoth, ConvertsFiles}
use Rattle.tesla_convert.specs.Meaning.{Converts, HoldsNothing, IsUnread, Meaning}
use Rattle.tesla_convert.proofs.Unread.{unread_behind}
use Rattle.tesla_run_replay.specs.Arguments.{AreNames, PlayedArguments, files_of}
use Rattle.tesla_run_replay.specs.Under.{DoesUnder, PlayedCommand, command_of, config_of, end_outcome}

-- none of the files is the console
pub are_files : (arguments : PlayedArguments) → AreNames arguments.setup arguments.capture arguments.out → AreFiles (files_of arguments)
are_files arguments are = (are.setup_is.file, (are.capture_is.file, (are.out_is.file, tt)))

-- what was closed under names has these names
pub closes_named : (input output input_name output_name : List ℕ) (left written : Option (List ℕ)) (taken given : ℕ) (before now : Told) → input_name ≡ input → output_name ≡ output → ClosesBoth input_name output_name left written taken given before now → ClosesBoth input output left written taken given before now
closes_named input output input_name output_name left written taken given before now in_is out_is closes =
    subst (λ (n : List ℕ). ClosesBoth input n left written taken given before now) out_is (subst (λ (n : List ℕ). ClosesBoth n output_name left written taken given before now) in_is closes)

-- memory is wanting only before the first byte is read, where it can't be later
unread_unless : {May : Type 0} (opened : ℕ) (input : Page) (left : Option (List ℕ)) → (May → ⊥) → IsUnread 0 opened input left ⊎ May → IsUnread 1 (suc opened) input left
unread_unless opened input left never (inl unread) = unread_behind 0 opened input left unread
unread_unless opened input left never (inr may) = absurd (never may)

-- ---- told a command and what its words ask for

module _ (played : PlayedCommand) (arguments : PlayedArguments) (named : AreNames arguments.setup arguments.capture arguments.out) where
  -- there was no setup
  pub setup_none : (before now : Told) (stop : Stop) → OpensSome (OfSource arguments.setup ∷ []) before now → IsNoSetup (before.page arguments.setup) (stop_view stop) → StopCauses {A = Parts} (Err stop) before.faults now.faults → Performs (command_of played) arguments before now (stop_view stop)
  setup_none before now stop some why causes =
      let it = opens_some (OfSource arguments.setup) (OfSource arguments.capture ∷ OfSink arguments.out ∷ []) before now some in
      record { named = are_files arguments named; opened = it.0; opens = it.2; does = inl (record { alone = it.1; why = why }); counts = counts_stopped stop before.faults now.faults causes }

  -- the setup was read, and then the capture played
  pub setup_read : (setup : Parts) (before mid now : Told) (outcome : OutcomeView) → Opens (OfSource arguments.setup ∷ []) 1 before mid → ((name : List ℕ) → mid.page name ≡ before.page name) → IsSetupIn (before.page arguments.setup) setup → StopCauses {A = Parts} (Ok setup) before.faults mid.faults
      → ConvertsFiles (played.meaning (config_of arguments setup)) arguments.capture arguments.out mid now outcome → Performs (command_of played) arguments before now outcome
  setup_read setup before mid now outcome opened pages found causes converts =
      let meaning = played.meaning (config_of arguments setup) in
      record {
        named = are_files arguments named;
        opened = suc converts.opened;
        opens = opens_then (OfSource arguments.setup) (OfSource arguments.capture ∷ OfSink arguments.out ∷ []) converts.opened before mid now opened converts.opens;
        does = inr (record {
          parts = setup;
          found = found;
          converts = subst (λ (p : Page). Converts meaning p (now.left arguments.capture) (before.page arguments.out) (now.page arguments.out) outcome) (pages arguments.capture)
              (subst (λ (p : Page). Converts meaning (mid.page arguments.capture) (now.left arguments.capture) p (now.page arguments.out) outcome) (pages arguments.out) converts.converts);
          unread = λ never e. subst (λ (p : Page). IsUnread 1 (suc converts.opened) p (now.left arguments.capture)) (pages arguments.capture)
              (unread_unless converts.opened (mid.page arguments.capture) (now.left arguments.capture) never (converts.unread e));
        });
        counts = causes_then before.faults mid.faults now.faults (causes_none before.faults mid.faults causes (λ e. absurd cc) (λ e. absurd cc) (λ e. absurd cc)) converts.counts;
      }

-- ---- where nothing fails

-- a setup that a text spells is not refused
never_refused : (text : List ℕ) (setup : Parts) (status : ℕ) (line : List ℕ) → judged text ≡ Ok setup → IsNoSetupText text (Refused status line) → ⊥
never_refused text setup status line found (inl why) = let no : ◌≡◌ {A = Result Parts (ℕ × SetupKind)} (Ok setup) (Err why.0) = sym found ∙ why.1 in cc
never_refused text setup status line found (inr memory) = cc

-- where a setup is told, there is none only where something went wrong outside
none_ends : (page : Page) (outcome : OutcomeView) (text : List ℕ) (failed : Bool) (setup : Parts) → page ≡ Holds text failed → judged text ≡ Ok setup → IsNoSetup page outcome → (fault : Fault) × (outcome ≡ Failed fault)
none_ends page (Failed fault) text failed setup is found why = (fault, refl)
none_ends page (Refused status line) text failed setup is found why =
    absurd (never_refused text setup status line found (subst (λ (p : Page). HoldsWhere p (λ t. IsNoSetupText t (Refused status line))) is why))
none_ends page _ text failed setup is found why = absurd why

-- it is the one that was told
one_setup : (page : Page) (text : List ℕ) (failed : Bool) (setup other : Parts) → page ≡ Holds text failed → judged text ≡ Ok setup → IsSetupIn page other → other ≡ setup
one_setup Untold text failed setup other page found in_page = absurd cc
one_setup Absent text failed setup other page found in_page = absurd cc
one_setup (Holds held lost) text failed setup other page found in_page = let same : held ≡ text = cc in let both : Ok other ≡ Ok setup = sym in_page ∙ ap judged same ∙ found in cc

-- a capture without a refused place comes to the lines that tell it
whole_outcome : (fault : Option (ℕ × RecordKind)) (lines : List ℕ) → fault ≡ None → end_outcome fault lines ≡ Done lines
whole_outcome None lines e = refl
whole_outcome (Some fault) lines e = absurd cc

-- a capture that comes to lines comes to them, or to a fault
capture_ends : (meaning : Meaning) (capture before out : Page) (left : Option (List ℕ)) (outcome : OutcomeView) (bytes lines : List ℕ) (failed : Bool) → capture ≡ Holds bytes failed → meaning.comes bytes ≡ Done lines → Converts meaning capture left before out outcome → (outcome ≡ Done lines) ⊎ ((fault : Fault) × (outcome ≡ Failed fault))
capture_ends meaning capture before out left (Done told) bytes lines failed page whole converts = inl (converts.end bytes failed page ∙ whole)
capture_ends meaning capture before out left (Refused status line) bytes lines failed page whole converts = absurd (let no : Refused status line ≡ Done lines = converts.end bytes failed page ∙ whole in cc)
capture_ends meaning capture before out left (Failed fault) bytes lines failed page whole converts = inr (fault, refl)
capture_ends meaning capture before out left Usage bytes lines failed page whole converts = absurd converts

under_ends : (meaning : Parts → Meaning) (opened : ℕ) (setup capture out read taken written : File) (outcome : OutcomeView) (text bytes lines : List ℕ) (failed other : Bool) (parts : Parts) → setup.page ≡ Holds text failed → judged text ≡ Ok parts → capture.page ≡ Holds bytes other → (meaning parts).comes bytes ≡ Done lines
    → DoesUnder meaning opened (setup ∷ capture ∷ out ∷ []) (read ∷ taken ∷ written ∷ []) outcome → (outcome ≡ Done lines) ⊎ ((fault : Fault) × (outcome ≡ Failed fault))
under_ends meaning opened setup capture out read taken written outcome text bytes lines failed other parts page found recorded whole (inl stops) = inr (none_ends setup.page outcome text failed parts page found stops.why)
under_ends meaning opened setup capture out read taken written outcome text bytes lines failed other parts page found recorded whole (inr plays) =
    let same : plays.parts ≡ parts = one_setup setup.page text failed parts plays.parts page found plays.found in
    capture_ends (meaning plays.parts) capture.page out.page written.page taken.left outcome bytes lines other recorded (ap (λ (s : Parts). (meaning s).comes bytes) same ∙ whole) plays.converts

-- a run over a setup and a capture without a refused place comes to the lines that tell it, or to want of memory
pub complete_under : (played : PlayedCommand) (lines : Config → List ℕ → List ℕ) → ((cfg : Config) (bytes : List ℕ) → (played.meaning cfg).comes bytes ≡ end_outcome (outline_of bytes).fault (lines cfg bytes))
    → (arguments : PlayedArguments) (old new : Told) (outcome : OutcomeView) (text bytes : List ℕ) (failed other : Bool) (setup : Parts) → Performs (command_of played) arguments old new outcome → old.page arguments.setup ≡ Holds text failed → judged text ≡ Ok setup → old.page arguments.capture ≡ Holds bytes other → (outline_of bytes).fault ≡ None → NothingFailed old.faults new.faults
    → (outcome ≡ Done (lines (config_of arguments setup) bytes)) ⊎ (outcome ≡ Failed faults.NoMemory)
complete_under played lines told arguments old new outcome text bytes failed other setup performs page found recorded whole none =
    let cfg = config_of arguments setup in
    let done = told cfg bytes ∙ whole_outcome (outline_of bytes).fault (lines cfg bytes) whole in
    elim (under_ends (λ parts. played.meaning (config_of arguments parts)) performs.opened (file_told old arguments.setup) (file_told old arguments.capture) (file_told old arguments.out) (file_told new arguments.setup) (file_told new arguments.capture) (file_told new arguments.out) outcome text bytes (lines cfg bytes) failed other setup page found recorded done performs.does) [
      | inl done ↦ inl done
      | inr fault ↦ inr (memory_alone old.faults new.faults outcome fault.0 performs.counts none fault.1)
    ]

-- memory is wanting before the capture is read or not at all, where it can't be later
pub memory_first : (meaning : Meaning) → (meaning.MayWant → ⊥) → (capture before out : Page) (left : Option (List ℕ)) → Converts meaning capture left before out (Failed faults.NoMemory) → (out ≡ before) ⊎ HoldsNothing capture left out
memory_first meaning never capture before out left (inl same) = inl same
memory_first meaning never capture before out left (inr (inl nothing)) = inr nothing
memory_first meaning never capture before out left (inr (inr wants)) = absurd (never wants.may)
