-- What a run of audit comes to, exactly.
use Rattle.std.proofs.Common.{◌≡◌, ◌∙◌, ◌⊎◌, inl, inr, ℕ, Bool, Option, Some, None, Result, Ok, Err, List, [], ◌∷◌, length, refl, sym, ap, subst, codes, arith}
use Rattle.std.specs.Prelude.{unwrap_or}
use Rattle.tesla_base.specs.Prefix.{AreBytes}
use Rattle.tesla_commit.specs.Parsing.{judged}
use Rattle.tesla_commit.specs.Parts.{Parts}
use Rattle.tesla_commit.specs.declared.refusal.SetupKind.{SetupKind}
use Rattle.tesla_desk.specs.Outside.{Page, Untold, Absent, Holds, Told}
use Rattle.tesla_fitting.specs.declared.config.Config.{Config}
use Rattle.tesla_front.specs.OutcomeView.{OutcomeView, Done, Usage, Refused, Failed}
use Rattle.tesla_front.specs.Command.{Performs}
use Rattle.tesla_front.specs.Files.{HoldsWhere}
use Rattle.tesla_front.specs.Lines.{count_line}
use Rattle.tesla_front.specs.Openings.{File, file_told}
use Rattle.tesla_front.specs.Run.{NothingFailed}
use Rattle.tesla_front.specs.Setup.{IsNoSetup, IsNoSetupText, IsSetupIn}
use Rattle.tesla_front.specs.declared.fault.Fault.{Fault}
use Rattle.tesla_front.specs.declared.fault.Fault.TheVariants as faults
use Rattle.tesla_front.proofs.Commands.{memory_alone}
use Rattle.tesla_receiver.specs.History.{IsLegal}
use Rattle.tesla_receiver.specs.Entries.{Entry}
use Rattle.tesla_trace.specs.Grammar.{IsTrace}
use Rattle.tesla_trace.specs.declared.kind.TraceKind.{TraceKind}
use Rattle.tesla_audit.specs.Outline.{TraceOutline, trace_outline}
use Rattle.tesla_audit.specs.Wrong.{IsFirstWrong, first_wrong}
use Rattle.tesla_audit.proofs.Outlines.{trace_again, trace_found}
use Rattle.tesla_audit.proofs.Wrongs.{first_found, first_only, legal_none, none_legal}
use Rattle.tesla_run_audit.specs.Arguments.{AuditArguments, config_of}
use Rattle.tesla_run_audit.specs.Audit.{AuditsBytes, DoesAudit, IsAudited, IsUnopened, audit, audit_of, audit_outcome, outcome_with, end_outcome, refuted_line}

-- ---- what bytes come to

-- a legal trace comes to the number of its entries
pub legal_only : (cfg : ℕ → Config) (bytes : List ℕ) (ingests : ℕ) (history : List Entry) → IsTrace bytes ingests history → IsLegal (cfg ingests) history → audit_of cfg bytes ≡ Done (count_line (codes "legal") (length history))
legal_only cfg bytes ingests history is legal =
    ap (audit_outcome cfg) (trace_again bytes ingests history is) ∙ ap (λ (w : Option (ℕ × Entry)). outcome_with w (end_outcome None (length history))) (legal_none (cfg ingests) history legal)

done_end : (fault : Option (ℕ × TraceKind)) (count : ℕ) (lines : List ℕ) → end_outcome fault count ≡ Done lines → (fault ≡ None) × (lines ≡ count_line (codes "legal") count)
done_end None count lines e = (refl, cc)
done_end (Some fault) count lines e = absurd cc

done_with : (w : Option (ℕ × Entry)) (end : OutcomeView) (lines : List ℕ) → outcome_with w end ≡ Done lines → (w ≡ None) × (end ≡ Done lines)
done_with None end lines e = (refl, e)
done_with (Some wrong) end lines e = absurd cc

-- and only a legal trace does
pub legal_found : (cfg : ℕ → Config) (bytes lines : List ℕ) → AreBytes bytes → audit_of cfg bytes ≡ Done lines → (ingests : ℕ) × (history : List Entry) × IsTrace bytes ingests history × IsLegal (cfg ingests) history × (lines ≡ count_line (codes "legal") (length history))
legal_found cfg bytes lines are e =
    let o : TraceOutline = trace_outline bytes in
    let parts = done_with (first_wrong (cfg (unwrap_or o.ingests 0)) o.entries) (end_outcome o.fault (length o.entries)) lines e in
    let end = done_end o.fault (length o.entries) lines parts.1 in
    let found = trace_found bytes are end.0 in
    let legal : IsLegal (cfg (unwrap_or o.ingests 0)) o.entries = none_legal (cfg (unwrap_or o.ingests 0)) o.entries parts.0 in
    (found.0, o.entries, found.2, subst (λ (i : Option ℕ). IsLegal (cfg (unwrap_or i 0)) o.entries) found.1 legal, end.1)

-- a wrong entry before the end or the refused place comes to its number and the right answer
pub refuted_only : (cfg : ℕ → Config) (bytes : List ℕ) (n : ℕ) (right : Entry) → IsFirstWrong (cfg (unwrap_or (trace_outline bytes).ingests 0)) (trace_outline bytes).entries n right → audit_of cfg bytes ≡ Refused 8 (refuted_line (n, right))
refuted_only cfg bytes n right is =
    let o : TraceOutline = trace_outline bytes in
    ap (λ (w : Option (ℕ × Entry)). outcome_with w (end_outcome o.fault (length o.entries))) (first_only (cfg (unwrap_or o.ingests 0)) o.entries n right is)

same_status : (a b : ℕ) (x y : List ℕ) → Refused a x ≡ Refused b y → a ≡ b
same_status a b x y e = cc

same_line : (a b : ℕ) (x y : List ℕ) → Refused a x ≡ Refused b y → x ≡ y
same_line a b x y e = cc

no_end : (fault : Option (ℕ × TraceKind)) (count : ℕ) (line : List ℕ) → end_outcome fault count ≡ Refused 8 line → ⊥
no_end None count line e = absurd cc
no_end (Some fault) count line e = let same : 3 ≡ 8 = same_status 3 8 _ line e in absurd (omega (arith, same))

found_with : (cfg : Config) (entries : List Entry) (w : Option (ℕ × Entry)) (fault : Option (ℕ × TraceKind)) (count : ℕ) (line : List ℕ) → first_wrong cfg entries ≡ w → outcome_with w (end_outcome fault count) ≡ Refused 8 line → (n : ℕ) × (right : Entry) × IsFirstWrong cfg entries n right × (line ≡ refuted_line (n, right))
found_with cfg entries None fault count line is e = absurd (no_end fault count line e)
found_with cfg entries (Some wrong) fault count line is e = (wrong.0, wrong.1, first_found cfg entries wrong.0 wrong.1 is, sym (same_line 8 8 (refuted_line wrong) line e))

-- and only that does
pub refuted_found : (cfg : ℕ → Config) (bytes line : List ℕ) → audit_of cfg bytes ≡ Refused 8 line → (n : ℕ) × (right : Entry) × IsFirstWrong (cfg (unwrap_or (trace_outline bytes).ingests 0)) (trace_outline bytes).entries n right × (line ≡ refuted_line (n, right))
refuted_found cfg bytes line e =
    let o : TraceOutline = trace_outline bytes in
    found_with (cfg (unwrap_or o.ingests 0)) o.entries (first_wrong (cfg (unwrap_or o.ingests 0)) o.entries) o.fault (length o.entries) line refl e

-- ---- where nothing fails

-- a setup that a text spells is not refused
never_refused : (text : List ℕ) (setup : Parts) (status : ℕ) (line : List ℕ) → judged text ≡ Ok setup → IsNoSetupText text (Refused status line) → ⊥
never_refused text setup status line found (inl why) = let no : ◌≡◌ {A = Result Parts (ℕ × SetupKind)} (Ok setup) (Err why.0) = sym found ∙ why.1 in cc
never_refused text setup status line found (inr memory) = cc

none_ends : (page : Page) (outcome : OutcomeView) (text : List ℕ) (failed : Bool) (setup : Parts) → page ≡ Holds text failed → judged text ≡ Ok setup → IsNoSetup page outcome → (fault : Fault) × (outcome ≡ Failed fault)
none_ends page (Failed fault) text failed setup is found why = (fault, refl)
none_ends page (Refused status line) text failed setup is found why =
    absurd (never_refused text setup status line found (subst (λ (p : Page). HoldsWhere p (λ t. IsNoSetupText t (Refused status line))) is why))
none_ends page _ text failed setup is found why = absurd why

one_setup : (page : Page) (text : List ℕ) (failed : Bool) (setup other : Parts) → page ≡ Holds text failed → judged text ≡ Ok setup → IsSetupIn page other → other ≡ setup
one_setup Untold text failed setup other page found in_page = absurd cc
one_setup Absent text failed setup other page found in_page = absurd cc
one_setup (Holds held lost) text failed setup other page found in_page = let same : held ≡ text = cc in let both : Ok other ≡ Ok setup = sym in_page ∙ ap judged same ∙ found in cc

bytes_end : (cfg : ℕ → Config) (bytes : List ℕ) (left : Option (List ℕ)) (outcome : OutcomeView) → AuditsBytes cfg bytes left outcome → (outcome ≡ audit_of cfg bytes) ⊎ ((fault : Fault) × (outcome ≡ Failed fault))
bytes_end cfg bytes left (Done lines) is = inl is
bytes_end cfg bytes left Usage is = absurd is
bytes_end cfg bytes left (Refused status line) is = inl is
bytes_end cfg bytes left (Failed fault) is = inr (fault, refl)

audits_end : (cfg : ℕ → Config) (opened : ℕ) (page : Page) (left : Option (List ℕ)) (outcome : OutcomeView) (bytes : List ℕ) (failed : Bool) → page ≡ Holds bytes failed → IsUnopened 1 opened outcome ⊎ IsAudited cfg page left outcome → (outcome ≡ audit_of cfg bytes) ⊎ ((fault : Fault) × (outcome ≡ Failed fault))
audits_end cfg opened page left outcome bytes failed is (inl (inl none)) = inr (faults.Open, none)
audits_end cfg opened page left outcome bytes failed is (inl (inr memory)) = inr (faults.NoMemory, memory.0)
audits_end cfg opened page left outcome bytes failed is (inr done) = bytes_end cfg bytes left outcome (done.audits bytes failed is)

does_end : (arguments : AuditArguments) (opened : ℕ) (setup before setup_now now : File) (outcome : OutcomeView) (text bytes : List ℕ) (failed other : Bool) (parts : Parts) → setup.page ≡ Holds text failed → judged text ≡ Ok parts → before.page ≡ Holds bytes other → DoesAudit arguments opened (setup ∷ before ∷ []) (setup_now ∷ now ∷ []) outcome
    → (outcome ≡ audit_of (config_of arguments parts) bytes) ⊎ ((fault : Fault) × (outcome ≡ Failed fault))
does_end arguments opened setup before setup_now now outcome text bytes failed other parts page found traced (inl none) = inr (none_ends setup.page outcome text failed parts page found none.why)
does_end arguments opened setup before setup_now now outcome text bytes failed other parts page found traced (inr under) =
    let same : under.parts ≡ parts = one_setup setup.page text failed parts under.parts page found under.found in
    subst (λ (p : Parts). (outcome ≡ audit_of (config_of arguments p) bytes) ⊎ ((fault : Fault) × (outcome ≡ Failed fault))) same
    (audits_end (config_of arguments under.parts) opened before.page now.left outcome bytes other traced under.audits)

-- a run over a setup and a trace that are told comes to what the trace comes to, or to a fault
pub run_ends : (arguments : AuditArguments) (old new : Told) (outcome : OutcomeView) (text bytes : List ℕ) (failed other : Bool) (setup : Parts) → Performs audit arguments old new outcome → old.page arguments.setup ≡ Holds text failed → judged text ≡ Ok setup → old.page arguments.trace ≡ Holds bytes other
    → (outcome ≡ audit_of (config_of arguments setup) bytes) ⊎ ((fault : Fault) × (outcome ≡ Failed fault))
run_ends arguments old new outcome text bytes failed other setup performs page found traced =
    does_end arguments performs.opened (file_told old arguments.setup) (file_told old arguments.trace) (file_told new arguments.setup) (file_told new arguments.trace) outcome text bytes failed other setup page found traced performs.does

pub complete : (arguments : AuditArguments) (old new : Told) (outcome : OutcomeView) (text bytes : List ℕ) (failed other : Bool) (setup : Parts) → Performs audit arguments old new outcome → old.page arguments.setup ≡ Holds text failed → judged text ≡ Ok setup → old.page arguments.trace ≡ Holds bytes other → NothingFailed old.faults new.faults
    → (outcome ≡ audit_of (config_of arguments setup) bytes) ⊎ (outcome ≡ Failed faults.NoMemory)
complete arguments old new outcome text bytes failed other setup performs page found traced none =
    elim (run_ends arguments old new outcome text bytes failed other setup performs page found traced) [
      | inl done ↦ inl done
      | inr fault ↦ inr (memory_alone old.faults new.faults outcome fault.0 performs.counts none fault.1)
    ]
