-- STATUS behind the posts, or none: its opening and its end.
use Rattle.std.proofs.Common.{◌≡◌, ◌∙◌, inl, ℕ, ◌+◌, ◌*◌, nat_lt, Bool, true, false, Option, Some, None, Err, List, [], ◌∷◌, ◌++◌, flat_map, length, take, append-nil, refl, sym, ap, subst}
use Rattle.std.proofs.lemmas.List.{length-append}
use Rattle.tesla_clock.specs.Schedule.{Times}
use Rattle.tesla_desk.specs.Faults.{Faults, HasCauses}
use Rattle.tesla_desk.specs.Outside.{OfSink, Opening, Page, Told, page_of}
use Rattle.tesla_desk.proofs.Counts.{cause_none, causes_sink, counts_stay}
use Rattle.tesla_desk.proofs.Told.{first_written}
use Rattle.tesla_feeds.specs.Notes.{Note}
use Rattle.tesla_feeds.specs.declared.events.FeedsCounts.{FeedsCounts}
use Rattle.tesla_front.specs.Files.{HasFailed}
use Rattle.tesla_front.specs.Openings.{AnyFailed, Opens, files_told, name_of}
use Rattle.tesla_front.specs.declared.fault.Fault.{Fault}
use Rattle.tesla_front.proofs.Behind.{opens_more}
use Rattle.tesla_front.proofs.Openings.{pages_tried, sink_closed, sink_tried}
use Rattle.tesla_relay.specs.Opened.{OpensNotAll}
use Rattle.tesla_relay.proofs.Mails.{failed_is}
use Rattle.tesla_relay.proofs.Openings.{refused_not_all}
use Rattle.tesla_run_feed.specs.Arguments.{StatusArguments, status_files}
use Rattle.tesla_run_feed.specs.Feeding.{HoldsLines, HoldsStatus, LinesWhere, last_page}
use Rattle.tesla_run_feed.specs.Status.{HasAllLines, Line, end_line, last_reading, line_text}
use Rattle.tesla_run_feed.specs.Steps.{RefusesStatus, WritesStatus}
use Rattle.tesla_run_feed.specs.declared.line.SystemCounts.{SystemCounts}

-- ---- the page of STATUS

-- where each page is as before, that of the last file is
pub last_same : (files : List Opening) (before now : Told) → ((name : List ℕ) → now.page name ≡ before.page name) → last_page (files_told now files) ≡ last_page (files_told before files)
last_same [] before now same = refl
last_same (file ∷ []) before now same = same (name_of file)
last_same (file ∷ other ∷ files) before now same = last_same (other ∷ files) before now same

-- the last file is the one behind all others
last_behind : (files : List Opening) (file : Opening) (told : Told) → last_page (files_told told (files ++ file ∷ [])) ≡ told.page (name_of file)
last_behind [] file told = refl
last_behind (first ∷ []) file told = refl
last_behind (first ∷ other ∷ files) file told = last_behind (other ∷ files) file told

module _ (times : List Times) (every opening : ℕ) (notes : List Note) (counts : FeedsCounts) where
  abbrev all_text : List Line → SystemCounts → List ℕ
  all_text lines system = flat_map (line_text times) lines ++ end_line times system (record { reading = last_reading opening notes; counts = counts })

  lines_where : (bytes : List ℕ) (count : ℕ) (failed : Bool) → HasAllLines times every opening notes counts (Some bytes) count failed → LinesWhere failed times every opening notes counts bytes
  lines_where bytes count false all = record {
    lines = all.lines;
    are = all.are;
    system = all.system;
    bytes_are = first_written all.before (Some bytes) (all_text all.lines all.system) bytes all.empty (all.puts.all refl) refl;
  }
  lines_where bytes count true all = record {
    text = all_text all.lines all.system;
    whole = record { lines = all.lines; are = all.are; system = all.system; bytes_are = refl };
    prefix = (all.puts.prefix.0, first_written all.before (Some bytes) (take all.puts.prefix.0 (all_text all.lines all.system)) bytes all.empty all.puts.prefix.1.written refl);
  }

  -- a new output that was closed has its lines
  holds_lines : (written : Option (List ℕ)) (count : ℕ) (failed : Bool) → HasAllLines times every opening notes counts written count failed → HoldsLines times every opening notes counts failed (page_of written count)
  holds_lines None count failed all = tt
  holds_lines (Some bytes) count failed all = (failed_is failed 0 count refl all.puts.cause, lines_where bytes count failed all)

failed_page : (written : Option (List ℕ)) (count : ℕ) → nat_lt 0 count ≡ true → HasFailed (page_of written count)
failed_page None count some = tt
failed_page (Some bytes) count some = some

-- ---- STATUS was opened, written and closed

-- what is known of that, told the files that were all opened before
pub record Behind (files : List Opening) (status : Option StatusArguments) (times : List Times) (opening : ℕ) (counts : FeedsCounts) (before now : Told) (failed : Bool) (notes : List Note) : Type 0 where
  pub live : now.live ≡ before.live
  pub opens : (first : Told) → Opens files (length files) first before → Opens (files ++ status_files status) (length (files ++ status_files status)) first now
  pub own : HasCauses before.faults now.faults ⊥ (failed ≡ true) ⊥
  -- by a desk whose pages are the same
  pub any : (later : Told) → ((name : List ℕ) → later.page name ≡ now.page name) → failed ≡ true → AnyFailed (status_files status) later
  pub holds : (later : Told) (others : List Opening) → ((name : List ℕ) → later.page name ≡ now.page name) → HoldsStatus status times opening notes counts failed (last_page (files_told later (others ++ status_files status)))

pub status_behind : (files : List Opening) (status : Option StatusArguments) (times : List Times) (opening : ℕ) (counts : FeedsCounts) (before now : Told) (failed : Bool) (notes : List Note) → WritesStatus status times opening counts before now failed notes → Behind files status times opening counts before now failed notes
status_behind files None times opening counts before now failed notes (same, none) =
    let never : failed ≡ true → ⊥ = λ is. absurd (let clash : true ≡ false = sym is ∙ none in cc) in
    record {
      live = ap (λ (t : Told). t.live) same;
      opens = λ first opens. subst (λ (os : List Opening). Opens os (length os) first now) (sym (append-nil files)) (subst (λ (t : Told). Opens files (length files) first t) (sym same) opens);
      own = record {
        reads = cause_none before.faults.reads now.faults.reads (ap (λ (t : Told). t.faults.reads) same) (λ e. e);
        writes = cause_none before.faults.writes now.faults.writes (ap (λ (t : Told). t.faults.writes) same) never;
        openings = cause_none before.faults.openings now.faults.openings (ap (λ (t : Told). t.faults.openings) same) (λ e. e);
      };
      any = λ later pages is. absurd (never is);
      holds = λ later others pages. none;
    }
status_behind files (Some status) times opening counts before now failed notes it =
    let behind : List Opening = OfSink status.output ∷ [] in
    let first_counts : it.opened.faults ≡ before.faults = counts_stay before.faults it.opened.faults it.opens.counts (λ e. absurd cc) in
    let faulty : nat_lt 0 it.faults ≡ failed = failed_is failed 0 it.faults refl it.lines.puts.cause in
    record {
      live = it.closes.live ∙ it.opens.live;
      opens = λ first opens. subst (λ (n : ℕ). Opens (files ++ behind) n first now) (sym (length-append files behind))
          (opens_more files behind 1 first before now opens (sink_closed {A = Unit {0}} status.output status.output tt before it.opened now it.written it.faults refl it.opens it.closes));
      own = subst (λ (f : Faults). HasCauses f now.faults ⊥ (failed ≡ true) ⊥) first_counts
          (causes_sink {failed = failed ≡ true} {read = ⊥} {write = failed ≡ true} {opening = ⊥} it.opened.faults now.faults it.faults it.closes.counts it.lines.puts.cause (λ e. e) (λ e. e) (λ e. e) (λ e. e));
      any = λ later pages is. inl (subst (λ (page : Page). HasFailed page) (sym (pages status.output ∙ it.closes.own)) (failed_page it.written it.faults (faulty ∙ is)));
      holds = λ later others pages. subst (λ (page : Page). HoldsLines times (status.every * 1000000) opening notes counts failed page)
          (sym (last_behind others (OfSink status.output) later ∙ pages status.output ∙ it.closes.own)) (holds_lines times (status.every * 1000000) opening notes counts it.written it.faults failed it.lines);
    }

-- ---- the opening of STATUS was refused

-- what is known of that, told the files that were all opened before
pub record RefusedBehind (files : List Opening) (status : Option StatusArguments) (before now : Told) (fault : Fault) : Type 0 where
  pub live : now.live ≡ before.live
  pub pages : (name : List ℕ) → now.page name ≡ before.page name
  pub opens : (first : Told) → Opens files (length files) first before → (n : ℕ) × Opens (files ++ status_files status) n first now
  pub not_all : OpensNotAll fault before now

pub refused_behind : (files : List Opening) (status : Option StatusArguments) (before now : Told) (fault : Fault) → RefusesStatus status before now fault → RefusedBehind files status before now fault
refused_behind files None before now fault refuses = absurd refuses
refused_behind files (Some status) before now fault (refusal, tried, fault_is) =
    let behind : List Opening = OfSink status.output ∷ [] in
    let some = sink_tried {A = Unit {0}} status.output (Err refusal) before now tried in
    record {
      live = tried.live;
      pages = pages_tried {A = Unit {0}} status.output (Err refusal) before now tried;
      opens = λ first opens. (length files + some.0, opens_more files behind some.0 first before now opens some.2);
      not_all = subst (λ (f : Fault). OpensNotAll f before now) (sym fault_is) (refused_not_all {A = Unit {0}} refusal before now tried.counts);
    }
