-- What weave comes to, and what SCRIPT-OUT holds.
use Rattle.std.specs.Prelude.{◌≡◌, ◌≢◌, ◌⊎◌, ℕ, ◌≤◌, Option, Some, None, List, [], ◌∷◌, ◌++◌, length, codes}
use Rattle.tesla_capture.specs.Records.{outline_of}
use Rattle.tesla_capture.specs.Script.{Record, script, script_text}
use Rattle.tesla_capture.specs.Taken.{HoldsNoRefusal}
use Rattle.tesla_commit.specs.Parts.{Parts}
use Rattle.tesla_convert.specs.Meaning.{StopsAtSetup, Where}
use Rattle.tesla_convert.specs.Rule.{made, made_so_far}
use Rattle.tesla_desk.specs.Outside.{Page, Absent}
use Rattle.tesla_front.specs.OutcomeView.{OutcomeView, Done, Refused, Failed}
use Rattle.tesla_front.specs.Command.{Command}
use Rattle.tesla_front.specs.Files.{HoldsWhere, HasFailed, IsPrefix}
use Rattle.tesla_front.specs.Lines.{count_line}
use Rattle.tesla_front.specs.Openings.{File}
use Rattle.tesla_front.specs.Refusal.{refused_line}
use Rattle.tesla_front.specs.Setup.{IsSetupIn}
use Rattle.tesla_front.specs.declared.fault.Fault.TheVariants as faults
use Rattle.tesla_early.specs.Woven.{woven}
use Rattle.tesla_run_weave.specs.Arguments.{WeaveArguments, IsWeave, files_of_weave}
use Rattle.tesla_run_weave.specs.Plan.{with_payloads}
use Rattle.tesla_run_weave.specs.Rule.{bodies_of, names_of, rule_of}
use Rattle.tesla_run_weave.specs.WeaveKind.{weave_kind_name}
use Rattle.tesla_run_weave.specs.declared.weave_kind.WeaveKind.{WeaveKind}

-- ---- the script

-- the first place of a script that is refused, with its kind; where there is none, the script with woven payloads, and how many messages it has
pub record Weaving : Type 0 where
  pub refused : Option (ℕ × WeaveKind)
  pub text : List ℕ
  pub messages : ℕ

-- the script of these records with woven payloads: payload k is that of body k, and disclosures stay
abbrev pub woven_text : Parts → ℕ → List Record → List ℕ
woven_text setup gap records = script_text (with_payloads records (woven gap (names_of setup records) (bodies_of records)))

-- what comes of a script
abbrev pub weaving : Parts → ℕ → List ℕ → Weaving
weaving setup gap bytes = record {
  refused = (made script WeaveKind (rule_of setup) bytes).refused;
  text = woven_text setup gap (outline_of script bytes).records;
  messages = length (bodies_of (outline_of script bytes).records);
}

-- the line that tells how many messages there are
abbrev pub messages_line : ℕ → List ℕ
messages_line count = count_line (codes "messages") count

-- the line that tells the place of a script that is refused, and the kind
abbrev pub script_line : ℕ → WeaveKind → List ℕ
script_line offset kind = refused_line (codes "script") offset (weave_kind_name kind)

-- ---- a script that isn't woven

-- a place of these bytes is refused: the first one is told
abbrev pub IsRefusedAt : Parts → List ℕ → OutcomeView → Type 0
IsRefusedAt setup bytes outcome =
    (offset : ℕ) × (kind : WeaveKind) × ((made script WeaveKind (rule_of setup) bytes).refused ≡ Some (offset, kind)) × (outcome ≡ Refused 3 (script_line offset kind))

-- a read failed: the bytes that had left the script hold no refused place, and none of their whole records is refused
abbrev pub StopsReading : Parts → List ℕ → Option (List ℕ) → Type 0
StopsReading setup bytes left =
    (read : List ℕ) × (rest : List ℕ) × (left ≡ Some rest) × (bytes ≡ read ++ rest) × HoldsNoRefusal script read × ((made_so_far script WeaveKind (rule_of setup) read).refused ≡ None)

-- why a script isn't woven, with what was left of it
abbrev pub IsNoScript : Parts → Page → Option (List ℕ) → OutcomeView → Type 0
IsNoScript setup page left (Refused status line) = (page ≢ Absent) × Where page (λ bytes. IsRefusedAt setup bytes (Refused status line))
IsNoScript setup page left (Failed faults.Read) = (page ≢ Absent) × Where page (λ bytes. StopsReading setup bytes left)
IsNoScript setup page left (Failed faults.NoMemory) = Unit {0}
IsNoScript setup page left (Failed faults.Open) = Unit {0}
IsNoScript setup page left _ = ⊥

-- the script isn't woven, and no file behind it was asked for
pub record StopsAtScript (setup : Parts) (script script_after : File) (before after : Page) (opened : ℕ) (outcome : OutcomeView) : Type 0 where
  pub few : opened ≤ 2
  pub same : after ≡ before
  pub why : IsNoScript setup script.page script_after.left outcome

-- ---- a script that is woven

-- nothing of a script with these bytes is refused, and this is what comes of it
pub record IsWoven (setup : Parts) (gap : ℕ) (bytes text : List ℕ) (messages : ℕ) : Type 0 where
  pub whole : (weaving setup gap bytes).refused ≡ None
  pub text_is : text ≡ (weaving setup gap bytes).text
  pub messages_is : messages ≡ (weaving setup gap bytes).messages

-- what writing it comes to, with the page of SCRIPT-OUT before and afterwards, and how many files were asked for
abbrev pub WritesWoven : List ℕ → ℕ → Page → Page → ℕ → OutcomeView → Type 0
WritesWoven text messages before after opened (Done lines) = (lines ≡ messages_line messages) × HoldsWhere after (λ written. written ≡ text)
WritesWoven text messages before after opened (Failed faults.Write) = HoldsWhere after (IsPrefix text) × HasFailed after
WritesWoven text messages before after opened (Failed faults.Open) = after ≡ before
-- memory is wanting only before SCRIPT-OUT is asked for
WritesWoven text messages before after opened (Failed faults.NoMemory) = (after ≡ before) × (opened ≤ 2)
WritesWoven text messages before after opened _ = ⊥

-- the script was read and woven, and then written
pub record WeavesScript (setup : Parts) (gap : ℕ) (script before after : Page) (opened : ℕ) (outcome : OutcomeView) : Type 0 where
  pub text : List ℕ
  pub messages : ℕ
  pub found : HoldsWhere script (λ bytes. IsWoven setup gap bytes text messages)
  pub writes : WritesWoven text messages before after opened outcome

-- ---- the command

-- a setup was found, and what follows was done under it
pub record WeavesUnder (gap : ℕ) (setup script out script_after out_after : File) (opened : ℕ) (outcome : OutcomeView) : Type 0 where
  pub parts : Parts
  pub found : IsSetupIn setup.page parts
  pub does : StopsAtScript parts script script_after out.page out_after.page opened outcome ⊎ WeavesScript parts gap script.page out.page out_after.page opened outcome

-- a run of the command, of which so many files were asked to be opened, with what is told of SETUP, SCRIPT and SCRIPT-OUT before and after it, and what it came to
abbrev pub DoesWeave : WeaveArguments → ℕ → List File → List File → OutcomeView → Type 0
DoesWeave arguments opened (setup ∷ script ∷ out ∷ []) (setup_after ∷ script_after ∷ out_after ∷ []) outcome =
    StopsAtSetup setup opened outcome ⊎ WeavesUnder arguments.gap setup script out script_after out_after opened outcome
DoesWeave arguments opened before after outcome = ⊥

-- the command
abbrev pub weave : Command
weave = record { Arguments = WeaveArguments; IsForm = IsWeave; files = files_of_weave; Does = DoesWeave }
