-- Files that are opened one after another.
use Rattle.std.proofs.Common.{◌≡◌, ◌∙◌, ◌≢◌, inl, inr, ℕ, zero, suc, ◌≤◌, nat_lt, Bool, true, false, Option, Some, None, IfSome, Result, Ok, Err, OnErr, List, [], ◌∷◌, take, codes, refl, sym, ap, arith}
use Rattle.std.proofs.lemmas.Slice.Eq.{bytes_eq-Decides}
use Rattle.std.specs.Str.{bytes_eq}
use Rattle.tesla_desk.specs.Outside.{Told, Opening, OfSource, OfSink, with_opening, with_openings, OpensSink, OpensSource, ClosesSource, ClosesSink, page_of}
use Rattle.tesla_desk.specs.declared.desk.OpenRefusal.{OpenRefusal}
use Rattle.tesla_desk.specs.declared.desk.OpenRefusal.TheVariants as refused
use Rattle.tesla_desk.proofs.Told.{openings_none, openings_first}
use Rattle.tesla_front.specs.Files.{IsUnwritten}
use Rattle.tesla_front.specs.Openings.{AreFiles, File, IsAmong, Opens, OpensSome, file_told, files_told, name_of}

-- a name that is none of these outputs isn't the first
pub not_first : (name out : List ℕ) (others : List Opening) → (IsAmong (OfSink name) (OfSink out ∷ others) → ⊥) → name ≢ out
not_first name out others none e = none (inl (ap OfSink (sym e)))

-- a name that is none of these inputs isn't the first
pub not_first_read : (name input : List ℕ) (others : List Opening) → (IsAmong (OfSource name) (OfSource input ∷ others) → ⊥) → name ≢ input
not_first_read name input others none e = none (inl (ap OfSource (sym e)))

fact_by : {A : Type 0} (same : Bool) (name other : List ℕ) (before now : List ℕ → A) → (same ≡ true → name ≡ other) → (name ≡ other → same ≡ true) → now other ≡ before other → ((n : List ℕ) → n ≢ other → now n ≡ before n) → now name ≡ before name
fact_by true name other before now is test own others = ap now (is refl) ∙ own ∙ ap before (sym (is refl))
fact_by false name other before now is test own others = others name (λ e. absurd (let no : false ≡ true = test e in cc))

-- where what is told of one name stays, and of all others too, it stays of every name
pub stays_all : {A : Type 0} (other : List ℕ) (before now : List ℕ → A) → now other ≡ before other → ((n : List ℕ) → n ≢ other → now n ≡ before n) → (name : List ℕ) → now name ≡ before name
stays_all other before now own others name = fact_by (bytes_eq name other) name other before now (bytes_eq-Decides name other).0 (bytes_eq-Decides name other).1 own others

-- nothing was opened
pub opens_none : (files : List Opening) (before now : Told) → now.openings ≡ before.openings → ((name : List ℕ) → now.page name ≡ before.page name) → ((name : List ℕ) → now.left name ≡ before.left name) → Opens files 0 before now
opens_none files before now asked pages lefts = record { asked = asked ∙ openings_none before.openings; pages = λ name none. pages name; lefts = λ name none. lefts name }

-- the first file was opened alone
pub opens_first : (opening : Opening) (files : List Opening) (before now : Told) → now.openings ≡ with_opening before.openings opening → ((name : List ℕ) → (IsAmong (OfSink name) (opening ∷ []) → ⊥) → now.page name ≡ before.page name) → ((name : List ℕ) → (IsAmong (OfSource name) (opening ∷ []) → ⊥) → now.left name ≡ before.left name) → Opens (opening ∷ files) 1 before now
opens_first opening files before now asked pages lefts = record {
  asked = asked ∙ openings_none (with_opening before.openings opening) ∙ openings_first before.openings opening [];
  pages = pages;
  lefts = lefts;
}

first_alone : (opening other : Opening) (others : List Opening) → (IsAmong opening (other ∷ others) → ⊥) → IsAmong opening (other ∷ []) → ⊥
first_alone opening other others none (inl same) = none (inl same)
first_alone opening other others none (inr never) = never

-- the first file was opened, and then so many of the others
pub opens_then : (opening : Opening) (files : List Opening) (opened : ℕ) (before mid now : Told) → Opens (opening ∷ []) 1 before mid → Opens files opened mid now → Opens (opening ∷ files) (suc opened) before now
opens_then opening files opened before mid now first opens = record {
  asked = opens.asked ∙ ap (λ told. with_openings told (take opened files)) first.asked ∙ openings_first before.openings opening (take opened files);
  pages = λ name none. opens.pages name (λ among. none (inr among)) ∙ first.pages name (first_alone (OfSink name) opening (take opened files) none);
  lefts = λ name none. opens.lefts name (λ among. none (inr among)) ∙ first.lefts name (first_alone (OfSource name) opening (take opened files) none);
}

-- the first file was opened, and then some of the others
pub some_then : (opening : Opening) (files : List Opening) (before mid now : Told) → Opens (opening ∷ []) 1 before mid → OpensSome files mid now → OpensSome (opening ∷ files) before now
some_then opening files before mid now first (opened, few, opens) = (suc opened, omega arith, opens_then opening files opened before mid now first opens)

some_by : (opening : Opening) (files : List Opening) (opened : ℕ) (before now : Told) → opened ≤ 1 → Opens (opening ∷ []) opened before now → (n : ℕ) × (n ≤ 1) × Opens (opening ∷ files) n before now
some_by opening files zero before now few opens = (0, few, record { asked = opens.asked; pages = opens.pages; lefts = opens.lefts })
some_by opening files (suc zero) before now few opens = (1, few, record { asked = opens.asked; pages = opens.pages; lefts = opens.lefts })
some_by opening files (suc (suc n)) before now few opens = absurd (omega arith)

-- of the first file alone it was tried whether it opens
pub opens_some : (opening : Opening) (files : List Opening) (before now : Told) → OpensSome (opening ∷ []) before now → (n : ℕ) × (n ≤ 1) × Opens (opening ∷ files) n before now
opens_some opening files before now (opened, few, opens) = some_by opening files opened before now few opens

-- ---- an output

-- an output wasn't opened: every page is as before
pub pages_tried : {A : Type 0} (out : List ℕ) (result : Result A OpenRefusal) (before now : Told) → OpensSink out result before now → OnErr result ((name : List ℕ) → now.page name ≡ before.page name)
pages_tried out (Ok it) before now tried = tt
pages_tried out (Err refusal) before now tried = λ name. stays_all out before.page now.page tried.refused tried.pages name

-- it was tried whether an output opens
pub sink_tried : {A : Type 0} (out : List ℕ) (result : Result A OpenRefusal) (before now : Told) → OpensSink out result before now → OnErr result (OpensSome (OfSink out ∷ []) before now)
sink_tried out (Ok it) before now tried = tt
sink_tried {A} out (Err refused.Failed) before now tried = (1, omega arith, opens_first (OfSink out) [] before now tried.asked (λ name none. pages_tried {A = A} out (Err refused.Failed) before now tried name) (λ name none. tried.lefts name))
sink_tried {A} out (Err refused.NoMemory) before now tried = (0, omega arith, opens_none (OfSink out ∷ []) before now tried.asked (pages_tried {A = A} out (Err refused.NoMemory) before now tried) tried.lefts)

-- an output was opened, and closed again
pub sink_closed : {A : Type 0} (out name : List ℕ) (it : A) (before mid now : Told) (written : _) (faults : ℕ) → name ≡ out → OpensSink {A = A} out (Ok it) before mid → ClosesSink name written faults mid now → Opens (OfSink out ∷ []) 1 before now
sink_closed out name it before mid now written faults named opened closed =
    opens_first (OfSink out) [] before now (closed.asked ∙ opened.asked)
    (λ n none. closed.pages n (λ e. not_first n out [] none (e ∙ named)) ∙ opened.pages n (not_first n out [] none))
    (λ n none. closed.lefts n ∙ opened.lefts n)

-- ---- an input

-- it was tried whether an input opens
pub source_tried : {A : Type 0} (input : List ℕ) (result : Result A OpenRefusal) (before now : Told) → OpensSource input result before now → OnErr result (OpensSome (OfSource input ∷ []) before now)
source_tried input (Ok it) before now tried = tt
source_tried input (Err refused.Failed) before now tried = (1, omega arith, opens_first (OfSource input) [] before now tried.asked (λ name none. tried.pages name) (λ name none. tried.lefts name))
source_tried input (Err refused.NoMemory) before now tried = (0, omega arith, opens_none (OfSource input ∷ []) before now tried.asked tried.pages tried.lefts)

-- an input was opened, and closed again
pub source_closed : {A : Type 0} (input name : List ℕ) (it : A) (before mid now : Told) (left : _) (faults : ℕ) → name ≡ input → OpensSource {A = A} input (Ok it) before mid → ClosesSource name left faults mid now → Opens (OfSource input ∷ []) 1 before now
source_closed input name it before mid now left faults named opened closed =
    opens_first (OfSource input) [] before now (closed.asked ∙ opened.asked)
    (λ n none. closed.pages n ∙ opened.pages n)
    (λ n none. closed.lefts n (λ e. not_first_read n input [] none (e ∙ named)) ∙ opened.lefts n)

-- ---- the files of a command

-- what is told of some files is the same where it is of each of their names
pub files_same : (files : List Opening) (before now : Told) → AreFiles files → ((name : List ℕ) → name ≢ codes "-" → now.page name ≡ before.page name) → ((name : List ℕ) → now.left name ≡ before.left name) → files_told now files ≡ files_told before files
files_same [] before now named pages lefts = refl
files_same (opening ∷ files) before now named pages lefts =
    let page : now.page (name_of opening) ≡ before.page (name_of opening) = pages (name_of opening) named.0 in
    let left : now.left (name_of opening) ≡ before.left (name_of opening) = lefts (name_of opening) in
    let others : files_told now files ≡ files_told before files = files_same files before now named.1 pages lefts in
    let first : file_told now (name_of opening) ≡ file_told before (name_of opening) =
    ap (λ p. let f : File = record { page = p; left = now.left (name_of opening) } in f) page ∙ ap (λ l. let f : File = record { page = before.page (name_of opening); left = l } in f) left in
    ap (λ f. f ∷ files_told now files) first ∙ ap (λ fs. file_told before (name_of opening) ∷ fs) others

-- a sink that was new, to which nothing was written and which didn't fail, leaves such a page
pub unwritten_page : (written : Option (List ℕ)) (count : ℕ) → IfSome written (λ bytes. bytes ≡ []) → count ≡ 0 → IsUnwritten (page_of written count)
unwritten_page None count empty none = tt
unwritten_page (Some bytes) count empty none = (empty, ap (λ (n : ℕ). nat_lt 0 n) none)
