-- What the command did, from its openings and closings.
use Rattle.std.proofs.Common.{◌≡◌, ◌∙◌, ◌⊎◌, inl, inr, ◌<◌, ℕ, suc, Result, Ok, Err, List, [], ◌∷◌, Option, IfSome, refl, sym, ap, subst}
use Rattle.std.specs.Option.{option_map}
use Rattle.tesla_desk.specs.Faults.{raised, Faults, CountsOpening, HasCause, HasCauseBeside, HasCausesBeside, after_sink, after_source}
use Rattle.tesla_desk.specs.Live.{LeavesAll, Live, OpenedLink, Remainder}
use Rattle.tesla_desk.specs.Outside.{ClosesLink, ClosesSink, OfLink, OfSink, OpensLink, OpensSink, Told, page_of}
use Rattle.tesla_desk.specs.declared.desk.OpenRefusal.{OpenRefusal}
use Rattle.tesla_desk.specs.declared.desk.OpenRefusal.TheVariants as refusals
use Rattle.tesla_desk.specs.declared.link.Letter.{Letter}
use Rattle.tesla_desk.proofs.Told.{leaves_all}
use Rattle.tesla_desk.proofs.Counts.{causes_as, causes_closed, causes_opening, causes_plain, causes_then, counts_stay}
use Rattle.tesla_front.specs.OutcomeView.{OutcomeView, Failed}
use Rattle.tesla_front.specs.Command.{Performs}
use Rattle.tesla_front.specs.Fault.{unopened}
use Rattle.tesla_front.specs.Files.{HasFailed}
use Rattle.tesla_front.specs.Openings.{AnyFailed, AreFiles, Opens}
use Rattle.tesla_front.specs.declared.fault.Fault.{Fault}
use Rattle.tesla_front.specs.declared.fault.Fault.TheVariants as faults
use Rattle.tesla_front.proofs.Openings.{not_first, opens_first, opens_none, opens_then, pages_tried}
use Rattle.tesla_run_capture.specs.Arguments.{CaptureArguments, IsCaptureForm, files_of_capture}
use Rattle.tesla_run_capture.specs.Capture.{Captures, TouchesLink, capture}
use Rattle.tesla_run_capture.specs.Heard.{Heard, text_of}
use Rattle.tesla_run_capture.specs.Recording.{ComesTo, RecordsFile}
use Rattle.tesla_run_capture.specs.Steps.{MakesSome, RunsOpened, outcome_with}
use Rattle.tesla_run_capture.proofs.Paged.{captures, failed_page}

-- none of the files is the console
pub are_files : (arguments : CaptureArguments) (words : List (List ℕ)) → IsCaptureForm arguments words → AreFiles (files_of_capture arguments)
are_files arguments words is = (is.rest.first.0.file, (is.rest.rest.first.0.file, tt))

-- ---- what is told of links and clocks

made_after : (before mid now : Live) → now.made ≡ mid.made → (mid.made ≡ before.made) ⊎ (mid.made ≡ option_map raised before.made) → (now.made ≡ before.made) ⊎ (now.made ≡ option_map raised before.made)
made_after before mid now same (inl none) = inl (same ∙ none)
made_after before mid now same (inr one) = inr (same ∙ one)

touches_nothing : (link : List ℕ) (before now : Live) → now ≡ before → TouchesLink link before now
touches_nothing link before now same = record {
  wires = λ name. ap (λ (l : Live). l.wire name) same;
  others = λ name other. ap (λ (l : Live). l.left name) same;
  mails = λ name. ap (λ (l : Live). l.mail name) same;
  readings = ap (λ (l : Live). l.readings) same;
  made = inl (ap (λ (l : Live). l.made) same);
}

-- ---- the link wasn't opened

-- the opening raised the count of openings where it failed, and no other count rose
refused_counts : {A hidden : Type 0} (refusal : OpenRefusal) (before now : Faults) → CountsOpening before now (◌≡◌ {A = Result A OpenRefusal} (Err refusal) (Err refusals.Failed)) → HasCausesBeside hidden before now (Failed (unopened refusal) ≡ Failed faults.Read) (Failed (unopened refusal) ≡ Failed faults.Write) (Failed (unopened refusal) ≡ Failed faults.Open)
refused_counts {A} {hidden} refusals.Failed before now counts = causes_plain {hidden = hidden} before now (causes_opening before now counts (λ e. absurd cc) (λ e. absurd cc) (λ e. refl) (λ e. refl))
refused_counts {A} {hidden} refusals.NoMemory before now counts = causes_plain {hidden = hidden} before now (causes_opening before now counts (λ e. absurd cc) (λ e. absurd cc) (λ e. absurd cc) (λ e. absurd cc))

refused_cause : (refusal : OpenRefusal) → (Failed (unopened refusal) ≡ Failed faults.Open) ⊎ (Failed (unopened refusal) ≡ Failed faults.NoMemory)
refused_cause refusals.Failed = inl refl
refused_cause refusals.NoMemory = inr refl

link_tried : {A : Type 0} (arguments : CaptureArguments) (refusal : OpenRefusal) (before now : Told) → OpensLink {A = A} arguments.link (Err refusal) before now → (n : ℕ) × Opens (files_of_capture arguments) n before now
link_tried arguments refusals.Failed before now tried = (1, opens_first (OfLink arguments.link) (OfSink arguments.out ∷ []) before now tried.asked (λ name none. tried.pages name) (λ name none. tried.lefts name))
link_tried arguments refusals.NoMemory before now tried = (0, opens_none (files_of_capture arguments) before now tried.asked tried.pages tried.lefts)

pub performs_unlinked : {A : Type 0} (arguments : CaptureArguments) (refusal : OpenRefusal) (fault : Fault) (before now : Told) → AreFiles (files_of_capture arguments) → fault ≡ unopened refusal → OpensLink {A = A} arguments.link (Err refusal) before now → Performs (capture before.live now.live) arguments before now (Failed fault)
performs_unlinked {A} arguments refusal fault before now named is tried =
    let it = link_tried {A = A} arguments refusal before now tried in
    subst (λ (f : Fault). Performs (capture before.live now.live) arguments before now (Failed f)) (sym is) (record {
      named = named;
      opened = it.0;
      opens = it.1;
      does = (
        touches_nothing arguments.link before.live now.live tried.live,
        inl (record {
          unheard = inl (ap (λ (l : Live). l.left arguments.link) tried.live);
          unwritten = tried.pages arguments.out;
          cause = refused_cause refusal;
        }),
      );
      counts = refused_counts {A = A} refusal before.faults now.faults tried.counts;
    })

-- ---- the file wasn't opened

-- a link that didn't fail raises no count when it is closed
fresh_closed : (before now : Faults) (missed : ℕ) → now ≡ after_source before missed → missed ≡ 0 → now ≡ before
fresh_closed before now missed closed none = closed ∙ ap (λ (n : ℕ). after_source before n) none

sink_tried : {A : Type 0} (arguments : CaptureArguments) (refusal : OpenRefusal) (before now : Told) → OpensSink {A = A} arguments.out (Err refusal) before now → (n : ℕ) × Opens (OfSink arguments.out ∷ []) n before now
sink_tried {A} arguments refusals.Failed before now tried = (1, opens_first (OfSink arguments.out) [] before now tried.asked (λ name none. pages_tried {A = A} arguments.out (Err refusals.Failed) before now tried name) (λ name none. tried.lefts name))
sink_tried {A} arguments refusals.NoMemory before now tried = (0, opens_none (OfSink arguments.out ∷ []) before now tried.asked (pages_tried {A = A} arguments.out (Err refusals.NoMemory) before now tried) tried.lefts)

-- a link was opened: no count rose, and nothing else has changed
link_opened : {A : Type 0} (link : List ℕ) (it : A) (before now : Told) → OpensLink {A = A} link (Ok it) before now → Opens (OfLink link ∷ []) 1 before now
link_opened link it before now opens = opens_first (OfLink link) [] before now opens.asked (λ name none. opens.pages name) (λ name none. opens.lefts name)

-- the closing of a link asks for no opening, and changes no page
opens_closed : (link name : List ℕ) (out : List ℕ) (n : ℕ) (left : Option (List Letter)) (missed : ℕ) (before mid now : Told) → Opens (OfSink out ∷ []) n before mid → ClosesLink name left missed mid now → Opens (OfSink out ∷ []) n before now
opens_closed link name out n left missed before mid now opens closes = record {
  asked = closes.asked ∙ opens.asked;
  pages = λ page none. closes.pages page ∙ opens.pages page none;
  lefts = λ source none. closes.lefts source ∙ opens.lefts source none;
}

touches_closed : (link : List ℕ) (left : Option (List Letter)) (missed : ℕ) (before mid now : Told) → TouchesLink link before.live mid.live → ClosesLink link left missed mid now → TouchesLink link before.live now.live
touches_closed link left missed before mid now touches closes = record {
  wires = λ name. closes.wires name ∙ touches.wires name;
  others = λ name other. closes.others name other ∙ touches.others name other;
  mails = λ name. closes.mails name ∙ touches.mails name;
  readings = closes.clocks.0 ∙ touches.readings;
  made = made_after before.live mid.live now.live closes.clocks.1 touches.made;
}

pub performs_unfiled : {A B : Type 0} (arguments : CaptureArguments) (it : A) (refusal : OpenRefusal) (fault : Fault) (name : List ℕ) (left : Option (List Letter)) (missed : ℕ) (before mid tried now : Told) → AreFiles (files_of_capture arguments) → fault ≡ unopened refusal → name ≡ arguments.link → missed ≡ 0 → OpenedLink (before.live.wire arguments.link) left → OpensLink {A = A} arguments.link (Ok it) before mid → OpensSink {A = B} arguments.out (Err refusal) mid tried → ClosesLink name left missed tried now → Performs (capture before.live now.live) arguments before now (Failed fault)
performs_unfiled {A} {B} arguments it refusal fault name left missed before mid tried now named is own none letters opened refused closed =
    let closes : ClosesLink arguments.link left missed tried now = subst (λ (n : List ℕ). ClosesLink n left missed tried now) own closed in
    let some = sink_tried {A = B} arguments refusal mid tried refused in
    let live : tried.live ≡ before.live = refused.live ∙ opened.live in
    let still : mid.faults ≡ before.faults = counts_stay before.faults mid.faults opened.counts (λ e. absurd cc) in
    let end : now.faults ≡ tried.faults = fresh_closed tried.faults now.faults missed closes.counts none in
    let counted = refused_counts {A = B} {hidden = (Failed (unopened refusal) ≡ Failed faults.Read) × AnyFailed (files_of_capture arguments) now} refusal mid.faults tried.faults refused.counts in
    subst (λ (f : Fault). Performs (capture before.live now.live) arguments before now (Failed f)) (sym is) (record {
      named = named;
      opened = suc some.0;
      opens = opens_then (OfLink arguments.link) (OfSink arguments.out ∷ []) some.0 before mid now (link_opened {A = A} arguments.link it before mid opened) (opens_closed arguments.link arguments.link arguments.out some.0 left missed mid tried now some.1 closes);
      does = (
        touches_closed arguments.link left missed before tried now (touches_nothing arguments.link before.live tried.live live) closes,
        inl (record {
          unheard = inr (subst (λ (r : Option Remainder). LeavesAll (before.live.wire arguments.link) r) (sym closes.own) (leaves_all (before.live.wire arguments.link) left missed letters none));
          unwritten = closes.pages arguments.out ∙ pages_tried {A = B} arguments.out (Err refusal) mid tried refused arguments.out ∙ opened.pages arguments.out;
          cause = refused_cause refusal;
        }),
      );
      counts = subst (λ (f : Faults). HasCausesBeside ((Failed (unopened refusal) ≡ Failed faults.Read) × AnyFailed (files_of_capture arguments) now) before.faults f (Failed (unopened refusal) ≡ Failed faults.Read) (Failed (unopened refusal) ≡ Failed faults.Write) (Failed (unopened refusal) ≡ Failed faults.Open)) (sym end)
          (causes_then before.faults mid.faults tried.faults still counted);
    })

-- ---- both were opened

fault_of : (result : Result ℕ Fault) (fault : Fault) → outcome_with result ≡ Failed fault → result ≡ Err fault
fault_of (Ok count) fault e = absurd cc
fault_of (Err other) fault e = cc

no_open : (result : Result ℕ Fault) (heard : List Heard) (text : List ℕ) (later : Option (List Letter)) (written kept : Option (List ℕ)) (failed : ℕ) → ComesTo result heard text later written kept failed → result ≡ Err faults.Open → ⊥
no_open (Ok count) heard text later written kept failed comes e = absurd cc
no_open (Err faults.Read) heard text later written kept failed comes e = absurd cc
no_open (Err faults.Write) heard text later written kept failed comes e = absurd cc
no_open (Err faults.NoMemory) heard text later written kept failed comes e = absurd comes
no_open (Err faults.Open) heard text later written kept failed comes e = absurd comes

module _ (arguments : CaptureArguments) (left : Option (List Letter)) (written : Option (List ℕ)) (before opened now : Told) (outcome : OutcomeView) (runs : RunsOpened arguments.link arguments.out left written opened now outcome) where
  made_faults : runs.made.faults ≡ opened.faults
  made_faults = ap (λ (t : Told). t.faults) runs.makes.0

  -- the counts rise for what the recording came to
  opened_counts : HasCausesBeside ((outcome ≡ Failed faults.Read) × AnyFailed (files_of_capture arguments) now) runs.made.faults now.faults (outcome ≡ Failed faults.Read) (outcome ≡ Failed faults.Write) (outcome ≡ Failed faults.Open)
  opened_counts =
      let closed : now.faults ≡ after_sink (after_source runs.made.faults runs.missed) runs.failed = runs.link_closed.counts ∙ ap (λ (f : Faults). after_source f runs.missed) runs.sink_closed.counts in
      let none : runs.result ≡ Err faults.Open → ⊥ = no_open runs.result runs.records.heard (text_of runs.records.heard) runs.later written runs.kept runs.failed runs.records.comes in
      let counted = causes_closed runs.made.faults (after_source runs.made.faults runs.missed) now.faults runs.missed runs.failed refl closed runs.read runs.write none in
      let page : now.page arguments.out ≡ page_of runs.kept runs.failed = runs.link_closed.pages arguments.out ∙ runs.sink_closed.own in
      let from : (fault : Fault) → outcome ≡ Failed fault → runs.result ≡ Err fault = λ fault e. fault_of runs.result fault (sym runs.outcome_is ∙ e) in
      let to : (fault : Fault) → runs.result ≡ Err fault → outcome ≡ Failed fault = λ fault e. runs.outcome_is ∙ ap outcome_with e in
      causes_as runs.made.faults now.faults counted
      (λ hidden. (to faults.Read hidden.0, inl (subst HasFailed (sym page) (failed_page runs.kept runs.failed hidden.1))))
      (from faults.Read) (to faults.Read) (from faults.Write) (to faults.Write) (from faults.Open) (to faults.Open)

  -- the file was asked to be opened, and it alone has changed
  opened_file : {B : Type 0} (it : B) (mid : Told) → OpensSink {A = B} arguments.out (Ok it) mid opened → Opens (OfSink arguments.out ∷ []) 1 mid now
  opened_file it mid opens =
      let openings : runs.made.openings ≡ opened.openings = ap (λ (t : Told). t.openings) runs.makes.0 in
      opens_first (OfSink arguments.out) [] mid now (runs.link_closed.asked ∙ runs.sink_closed.asked ∙ openings ∙ opens.asked)
      (λ name none. let other = not_first name arguments.out [] none in runs.link_closed.pages name ∙ runs.sink_closed.pages name other ∙ ap (λ (t : Told). t.page name) runs.makes.0 ∙ opens.pages name other)
      (λ name none. runs.link_closed.lefts name ∙ runs.sink_closed.lefts name ∙ ap (λ (t : Told). t.left name) runs.makes.0 ∙ opens.lefts name)

  -- what is told of links has changed for this link alone
  opened_touches : opened.live ≡ before.live → TouchesLink arguments.link before.live now.live
  opened_touches same =
      let closed : runs.between.live ≡ runs.made.live = runs.sink_closed.live in record {
        mails = λ name. runs.link_closed.mails name ∙ ap (λ (l : Live). l.mail name) closed ∙ ap (λ (t : Told). t.live.mail name) runs.makes.0 ∙ ap (λ (l : Live). l.mail name) same;
        wires = λ name. runs.link_closed.wires name ∙ ap (λ (l : Live). l.wire name) closed ∙ ap (λ (t : Told). t.live.wire name) runs.makes.0 ∙ ap (λ (l : Live). l.wire name) same;
        others = λ name other. runs.link_closed.others name other ∙ ap (λ (l : Live). l.left name) closed ∙ ap (λ (t : Told). t.live.left name) runs.makes.0 ∙ ap (λ (l : Live). l.left name) same;
        readings = runs.link_closed.clocks.0 ∙ ap (λ (l : Live). l.readings) closed ∙ ap (λ (t : Told). t.live.readings) runs.makes.0 ∙ ap (λ (l : Live). l.readings) same;
        made = made_after before.live runs.made.live now.live (runs.link_closed.clocks.1 ∙ ap (λ (l : Live). l.made) closed) (subst (λ (l : Live). (runs.made.live.made ≡ l.made) ⊎ (runs.made.live.made ≡ option_map raised l.made)) same runs.makes.1);
      }

  -- what was recorded is what is told
  opened_captures : opened.live ≡ before.live → OpenedLink (before.live.wire arguments.link) left → IfSome written (λ bytes. bytes ≡ []) → Captures arguments before.live now.live (now.page arguments.out) outcome
  opened_captures same letters empty =
      let page : now.page arguments.out ≡ page_of runs.kept runs.failed = runs.link_closed.pages arguments.out ∙ runs.sink_closed.own in
      let records : RecordsFile runs.result left runs.later before.live.readings before.live.made written runs.kept runs.failed =
      subst (λ (l : Live). RecordsFile runs.result left runs.later l.readings l.made written runs.kept runs.failed) same runs.records in
      subst (λ (c : OutcomeView). Captures arguments before.live now.live (now.page arguments.out) c) (sym runs.outcome_is)
      (captures arguments before.live now.live (now.page arguments.out) runs.result left runs.later written runs.kept runs.missed runs.failed letters empty runs.link_closed.own page records runs.write)

  -- both were opened, what the link brought was recorded, and both were closed
  performs_both : {A B : Type 0} (it : A) (other : B) (mid : Told) → AreFiles (files_of_capture arguments) → OpenedLink (before.live.wire arguments.link) left → IfSome written (λ bytes. bytes ≡ []) → OpensLink {A = A} arguments.link (Ok it) before mid → OpensSink {A = B} arguments.out (Ok other) mid opened → Performs (capture before.live now.live) arguments before now outcome
  performs_both {A} {B} it other mid named letters empty link sink =
      let live : opened.live ≡ before.live = sink.live ∙ link.live in
      let first : mid.faults ≡ before.faults = counts_stay before.faults mid.faults link.counts (λ e. absurd cc) in
      let second : opened.faults ≡ mid.faults = counts_stay mid.faults opened.faults sink.counts (λ e. absurd cc) in
      record {
        named = named;
        opened = 2;
        opens = opens_then (OfLink arguments.link) (OfSink arguments.out ∷ []) 1 before mid now (link_opened {A = A} arguments.link it before mid link) (opened_file {B = B} other mid sink);
        does = (opened_touches live, inr (refl, opened_captures live letters empty));
        counts = causes_then before.faults runs.made.faults now.faults (made_faults ∙ second ∙ first) opened_counts;
      }

-- what was so of the open link and sink, and of their closings under their names
pub runs_opened : (link link_now out out_now : List ℕ) (left later : Option (List Letter)) (written kept : Option (List ℕ)) (fresh missed failed : ℕ) (old made between new : Told) (result : Result ℕ Fault) (outcome : OutcomeView) → link_now ≡ link → out_now ≡ out → fresh ≡ 0 → outcome ≡ outcome_with result → RecordsFile result left later old.live.readings old.live.made written kept failed
    → HasCause fresh missed (result ≡ Err faults.Read) → HasCauseBeside ((result ≡ Err faults.Read) × (0 < failed)) 0 failed (result ≡ Err faults.Write) → MakesSome old made → ClosesSink out_now kept failed made between → ClosesLink link_now later missed between new → RunsOpened link out left written old new outcome
runs_opened link link_now out out_now left later written kept fresh missed failed old made between new result outcome own file none is records read write makes sink_closed link_closed = record {
  result = result;
  outcome_is = is;
  later = later;
  kept = kept;
  missed = missed;
  failed = failed;
  records = records;
  read = subst (λ (n : ℕ). HasCause n missed (result ≡ Err faults.Read)) none read;
  write = write;
  made = made;
  makes = makes;
  between = between;
  sink_closed = subst (λ (n : List ℕ). ClosesSink n kept failed made between) file sink_closed;
  link_closed = subst (λ (n : List ℕ). ClosesLink n later missed between new) own link_closed;
}

pub performs_opened : {A B : Type 0} (arguments : CaptureArguments) (it : A) (other : B) (link out : List ℕ) (left : Option (List Letter)) (written : Option (List ℕ)) (before mid opened now : Told) (outcome : OutcomeView) → AreFiles (files_of_capture arguments) → link ≡ arguments.link → out ≡ arguments.out → OpenedLink (before.live.wire arguments.link) left → IfSome written (λ bytes. bytes ≡ []) → OpensLink {A = A} arguments.link (Ok it) before mid → OpensSink {A = B} arguments.out (Ok other) mid opened → RunsOpened link out left written opened now outcome → Performs (capture before.live now.live) arguments before now outcome
performs_opened {A} {B} arguments it other link out left written before mid opened now outcome named own file letters empty first second runs =
    let both : RunsOpened arguments.link arguments.out left written opened now outcome = subst (λ (n : List ℕ). RunsOpened n arguments.out left written opened now outcome) own (subst (λ (n : List ℕ). RunsOpened link n left written opened now outcome) file runs) in
    performs_both arguments left written before opened now outcome both {A = A} {B = B} it other mid named letters empty first second
