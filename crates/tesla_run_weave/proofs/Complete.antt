-- A run of weave comes to its end where its inputs are taken and nothing fails.
use Rattle.std.proofs.Common.{◌≡◌, ◌∙◌, ◌⊎◌, inl, inr, ℕ, Bool, Option, Some, None, Result, Ok, Err, List, refl, sym, ap, subst}
use Rattle.tesla_commit.specs.Parts.{Parts}
use Rattle.tesla_commit.specs.declared.refusal.SetupKind.{SetupKind}
use Rattle.tesla_desk.specs.Outside.{Page, Holds, Told}
use Rattle.tesla_front.specs.OutcomeView.{OutcomeView, Done, Usage, Refused, Failed}
use Rattle.tesla_front.specs.Command.{Performs}
use Rattle.tesla_front.specs.Files.{HoldsWhere}
use Rattle.tesla_front.specs.Openings.{File, file_told}
use Rattle.tesla_front.specs.Run.{NothingFailed}
use Rattle.tesla_front.specs.Setup.{IsNoSetup, IsNoSetupText, IsSetupIn, IsSetupText}
use Rattle.tesla_front.specs.declared.fault.Fault.{Fault}
use Rattle.tesla_front.specs.declared.fault.Fault.TheVariants as faults
use Rattle.tesla_front.proofs.Commands.{memory_alone}
use Rattle.tesla_run_weave.specs.Arguments.{WeaveArguments}
use Rattle.tesla_run_weave.specs.Weave.{IsNoScript, IsRefusedAt, IsWoven, StopsAtScript, WeavesScript, WritesWoven, messages_line, weave, weaving}
use Rattle.tesla_run_weave.specs.declared.weave_kind.WeaveKind.{WeaveKind}

-- it came to this number of messages, or to a fault
abbrev Ends : OutcomeView → ℕ → Type 0
Ends outcome count = (outcome ≡ Done (messages_line count)) ⊎ ((fault : Fault) × (outcome ≡ Failed fault))

setup_never : (text : List ℕ) (setup : Parts) (status : ℕ) (line : List ℕ) → IsSetupText text setup → IsNoSetupText text (Refused status line) → ⊥
setup_never text setup status line found (inl why) = let no : ◌≡◌ {A = Result Parts (ℕ × SetupKind)} (Ok setup) (Err why.0) = sym found ∙ why.1 in cc
setup_never text setup status line found (inr memory) = cc

-- where a setup is told, there is none only where something went wrong outside
setup_ends : (page : Page) (outcome : OutcomeView) (text : List ℕ) (failed : Bool) (setup : Parts) → page ≡ Holds text failed → IsSetupText text setup → IsNoSetup page outcome → (fault : Fault) × (outcome ≡ Failed fault)
setup_ends page (Failed fault) text failed setup is found why = (fault, refl)
setup_ends page (Refused status line) text failed setup is found why = absurd (setup_never text setup status line found (subst (λ (p : Page). HoldsWhere p (λ t. IsNoSetupText t (Refused status line))) is why))
setup_ends page (Done lines) text failed setup is found why = absurd why
setup_ends page Usage text failed setup is found why = absurd why

-- the setup is the one that was told
one_setup : (page : Page) (text : List ℕ) (failed : Bool) (setup other : Parts) → page ≡ Holds text failed → IsSetupText text setup → IsSetupIn page other → other ≡ setup
one_setup page text failed setup other is found in_page =
    let held : IsSetupText text other = subst (λ (p : Page). IsSetupIn p other) is in_page in
    let both : ◌≡◌ {A = Result Parts (ℕ × SetupKind)} (Ok other) (Ok setup) = sym held ∙ found in cc

-- where no place of the script is refused, it isn't woven only where something went wrong outside
script_ends : (setup : Parts) (gap : ℕ) (page : Page) (left : Option (List ℕ)) (outcome : OutcomeView) (bytes : List ℕ) (failed : Bool) → page ≡ Holds bytes failed → (weaving setup gap bytes).refused ≡ None → IsNoScript setup page left outcome → (fault : Fault) × (outcome ≡ Failed fault)
script_ends setup gap page left (Failed fault) bytes failed is whole why = (fault, refl)
script_ends setup gap page left (Refused status line) bytes failed is whole why =
    let at : IsRefusedAt setup bytes (Refused status line) = why.1 bytes failed is in
    absurd (let no : ◌≡◌ {A = Option (ℕ × WeaveKind)} None (Some (at.0, at.1)) = sym whole ∙ at.2 in cc)
script_ends setup gap page left (Done lines) bytes failed is whole why = absurd why
script_ends setup gap page left Usage bytes failed is whole why = absurd why

-- a script that was woven is written, or something went wrong outside
writing_ends : (text : List ℕ) (messages count opened : ℕ) (before after : Page) (outcome : OutcomeView) → messages ≡ count → WritesWoven text messages before after opened outcome → Ends outcome count
writing_ends text messages count opened before after (Done lines) same writes = inl (ap Done (writes.0 ∙ ap messages_line same))
writing_ends text messages count opened before after (Failed fault) same writes = inr (fault, refl)
writing_ends text messages count opened before after (Refused status line) same writes = absurd writes
writing_ends text messages count opened before after Usage same writes = absurd writes

under_ends : (setup : Parts) (gap : ℕ) (script script_after : File) (before after : Page) (opened : ℕ) (outcome : OutcomeView) (bytes : List ℕ) (last : Bool) → script.page ≡ Holds bytes last → (weaving setup gap bytes).refused ≡ None
    → StopsAtScript setup script script_after before after opened outcome ⊎ WeavesScript setup gap script.page before after opened outcome → Ends outcome (weaving setup gap bytes).messages
under_ends setup gap script script_after before after opened outcome bytes last page whole (inl stops) = inr (script_ends setup gap script.page script_after.left outcome bytes last page whole stops.why)
under_ends setup gap script script_after before after opened outcome bytes last page whole (inr weaves) =
    let found : IsWoven setup gap bytes weaves.text weaves.messages = subst (λ (p : Page). HoldsWhere p (λ b. IsWoven setup gap b weaves.text weaves.messages)) page weaves.found in
    writing_ends weaves.text weaves.messages (weaving setup gap bytes).messages opened before after outcome found.messages_is weaves.writes

weave_ends : (arguments : WeaveArguments) (old new : Told) (outcome : OutcomeView) (text bytes : List ℕ) (failed last : Bool) (setup : Parts) → old.page arguments.setup ≡ Holds text failed → IsSetupText text setup → old.page arguments.script ≡ Holds bytes last → (weaving setup arguments.gap bytes).refused ≡ None
    → Performs weave arguments old new outcome → Ends outcome (weaving setup arguments.gap bytes).messages
weave_ends arguments old new outcome text bytes failed last setup page found script whole performs = elim performs.does [
  | inl stops ↦ inr (setup_ends (old.page arguments.setup) outcome text failed setup page found stops.why)
  | inr under ↦
      let same : under.parts ≡ setup = one_setup (old.page arguments.setup) text failed setup under.parts page found under.found in
      under_ends setup arguments.gap (file_told old arguments.script) (file_told new arguments.script) (old.page arguments.out) (new.page arguments.out) performs.opened outcome bytes last script whole
      (subst (λ (s : Parts). StopsAtScript s (file_told old arguments.script) (file_told new arguments.script) (old.page arguments.out) (new.page arguments.out) performs.opened outcome ⊎ WeavesScript s arguments.gap (old.page arguments.script) (old.page arguments.out) (new.page arguments.out) performs.opened outcome) same under.does)
]

-- a run of weave comes to the number of messages, or to want of memory
pub complete : (arguments : WeaveArguments) (old new : Told) (outcome : OutcomeView) (text bytes : List ℕ) (failed last : Bool) (setup : Parts) → Performs weave arguments old new outcome → old.page arguments.setup ≡ Holds text failed → IsSetupText text setup → old.page arguments.script ≡ Holds bytes last → (weaving setup arguments.gap bytes).refused ≡ None → NothingFailed old.faults new.faults
    → (outcome ≡ Done (messages_line (weaving setup arguments.gap bytes).messages)) ⊎ (outcome ≡ Failed faults.NoMemory)
complete arguments old new outcome text bytes failed last setup performs page found script whole none =
    elim (weave_ends arguments old new outcome text bytes failed last setup page found script whole performs) [
      | inl done ↦ inl done
      | inr fault ↦ inr (memory_alone old.faults new.faults outcome fault.0 performs.counts none fault.1)
    ]
