-- An input that was converted into an output, from what was so while both were open.
use Rattle.std.proofs.Common.{◌≡◌, ◌∙◌, ◌≢◌, ◌⊎◌, inl, inr, ◌<◌, ℕ, nat_lt, Bool, false, Option, Some, None, List, [], ◌∷◌, refl, sym, ap, subst, arith}
use Rattle.std.proofs.lemmas.Bool.Decides.{nat_tests}
use Rattle.tesla_desk.specs.Faults.{HasCause, HasCauseBeside, after_source}
use Rattle.tesla_desk.specs.Outside.{Page, Untold, Absent, Holds, Told, Opened, OfSource, OfSink, page_of}
use Rattle.tesla_desk.proofs.Told.{opened_holds}
use Rattle.tesla_desk.proofs.Counts.{causes_as, causes_closed, causes_plain, causes_then}
use Rattle.tesla_front.specs.OutcomeView.{OutcomeView, Done, Usage, Refused, Failed}
use Rattle.tesla_front.specs.Files.{HoldsWhere, HasFailed}
use Rattle.tesla_front.specs.Openings.{AnyFailed, Opens}
use Rattle.tesla_front.specs.declared.fault.Fault.{Fault}
use Rattle.tesla_front.specs.declared.fault.Fault.TheVariants as faults
use Rattle.tesla_front.proofs.Openings.{not_first_read, unwritten_page}
use Rattle.tesla_convert.proofs.Unread.{unread_closed}
use Rattle.tesla_convert.specs.Files.{ClosesBoth, ConvertsFiles, OpensBoth, OpensNotBoth}
use Rattle.tesla_convert.specs.Meaning.{ComesToEnd, Converts, ConvertsBetween, EndsBetween, Meaning, StopsBetween, StopsReading, StopsWanting, WantsBetween}

-- there is a file under a name that was opened
opened_there : (page : Page) (left : Option (List ℕ)) → Opened page left → page ≢ Absent
opened_there Untold left opened = λ e. absurd cc
opened_there Absent left opened = absurd opened
opened_there (Holds bytes failed) left opened = λ e. absurd cc

-- what is so of the bytes that were written is so of the page
holds_page : {Fact : List ℕ → Type 0} (written : Option (List ℕ)) (count : ℕ) → ((done : List ℕ) → written ≡ Some done → Fact done) → HoldsWhere (page_of written count) Fact
holds_page None count fact = tt
holds_page (Some done) count fact = fact done refl

-- a sink on which a write failed has failed
failed_page : (written : Option (List ℕ)) (count : ℕ) → 0 < count → HasFailed (page_of written count)
failed_page None count some = tt
failed_page (Some done) count some = grind (arith, nat_tests, some)

ends_page : (meaning : Meaning) (input : Page) (before written : Option (List ℕ)) (count : ℕ) (outcome : OutcomeView) → Opened input before → EndsBetween meaning before written outcome → ComesToEnd meaning input (page_of written count) outcome
ends_page meaning input before written count outcome opened ends = record {
  there = opened_there input before opened;
  end = λ bytes failed is. ends.end bytes (opened_holds input before bytes failed is opened);
  text = holds_page written count (λ done told bytes failed is. ends.text bytes done (opened_holds input before bytes failed is opened) told);
}

some_or_failed : {Whole Parsed : Type 0} (written : Option (List ℕ)) (count : ℕ) → Whole ⊎ ((0 < count) × Parsed) → Whole ⊎ (HasFailed (page_of written count) × Parsed)
some_or_failed written count (inl whole) = inl whole
some_or_failed written count (inr (some, prefix)) = inr (failed_page written count some, prefix)

stops_page : (meaning : Meaning) (input : Page) (before left written : Option (List ℕ)) (count : ℕ) → Opened input before → StopsBetween meaning before left written count → StopsReading meaning input left (page_of written count)
stops_page meaning input before left written count opened stops = record {
  there = opened_there input before opened;
  stops = λ bytes failed is.
      let (read, rest, left_is, parts, none, text) = stops bytes (opened_holds input before bytes failed is opened) in
      (read, rest, left_is, parts, none, holds_page written count (λ done told. some_or_failed written count (text done told)));
}

-- a sink on which no write failed hasn't failed
sound_page : (written : Option (List ℕ)) (count : ℕ) → count ≡ 0 → (bytes : List ℕ) (failed : Bool) → page_of written count ≡ Holds bytes failed → failed ≡ false
sound_page None count none bytes failed page = absurd cc
sound_page (Some done) count none bytes failed page =
    let same : failed ≡ nat_lt 0 count = cc in
    same ∙ ap (λ (n : ℕ). nat_lt 0 n) none

wants_page : (meaning : Meaning) (input : Page) (before written : Option (List ℕ)) (count : ℕ) → Opened input before → WantsBetween meaning before written count → StopsWanting meaning input (page_of written count)
wants_page meaning input before written count opened wants = record {
  there = opened_there input before opened;
  may = wants.0;
  prefix = holds_page written count (λ done told bytes failed is. (wants.2 bytes done (opened_holds input before bytes failed is opened) told).0);
  wanting = holds_page written count (λ done told bytes failed is. (wants.2 bytes done (opened_holds input before bytes failed is opened) told).1);
  sound = sound_page written count wants.1;
}

-- what was so between the open source and sink is so of the pages
pub converts_pages : (meaning : Meaning) (input old : Page) (before left written : Option (List ℕ)) (count : ℕ) (outcome : OutcomeView) → Opened input before → ConvertsBetween meaning before left written count outcome → Converts meaning input left old (page_of written count) outcome
converts_pages meaning input old before left written count (Done lines) opened between = ends_page meaning input before written count (Done lines) opened between
converts_pages meaning input old before left written count Usage opened between = absurd between
converts_pages meaning input old before left written count (Refused status line) opened between = ends_page meaning input before written count (Refused status line) opened between
converts_pages meaning input old before left written count (Failed faults.Write) opened between = record {
  there = opened_there input before opened;
  prefix = holds_page written count (λ done told bytes failed is. between.1 bytes done (opened_holds input before bytes failed is opened) told);
  failed = failed_page written count between.0;
}
converts_pages meaning input old before left written count (Failed faults.Read) opened between = stops_page meaning input before left written count opened between
converts_pages meaning input old before left written count (Failed faults.NoMemory) opened (inl unbegun) = inr (inl (record {
  there = opened_there input before opened;
  unread = λ bytes failed is. unbegun.0 ∙ opened_holds input before bytes failed is opened;
  nothing = unwritten_page written count unbegun.1 unbegun.2;
}))
converts_pages meaning input old before left written count (Failed faults.NoMemory) opened (inr wants) = inr (inr (wants_page meaning input before written count opened wants))
converts_pages meaning input old before left written count (Failed faults.Open) opened between = absurd between

no_open : (meaning : Meaning) (before left written : Option (List ℕ)) (count : ℕ) (outcome : OutcomeView) → ConvertsBetween meaning before left written count outcome → outcome ≡ Failed faults.Open → ⊥
no_open meaning before left written count (Done lines) between is = absurd cc
no_open meaning before left written count Usage between is = absurd cc
no_open meaning before left written count (Refused status line) between is = absurd cc
no_open meaning before left written count (Failed faults.Write) between is = absurd cc
no_open meaning before left written count (Failed faults.Read) between is = absurd cc
no_open meaning before left written count (Failed faults.NoMemory) between is = absurd cc
no_open meaning before left written count (Failed faults.Open) between is = between

-- where memory was wanting between both, all was left, unless it may be wanting later
unread_between : (meaning : Meaning) (before left written : Option (List ℕ)) (count : ℕ) (outcome : OutcomeView) → ConvertsBetween meaning before left written count outcome → outcome ≡ Failed faults.NoMemory → (left ≡ before) ⊎ meaning.MayWant
unread_between meaning before left written count (Done lines) between is = absurd cc
unread_between meaning before left written count Usage between is = absurd cc
unread_between meaning before left written count (Refused status line) between is = absurd cc
unread_between meaning before left written count (Failed faults.Write) between is = absurd cc
unread_between meaning before left written count (Failed faults.Read) between is = absurd cc
unread_between meaning before left written count (Failed faults.NoMemory) (inl unbegun) is = inl unbegun.0
unread_between meaning before left written count (Failed faults.NoMemory) (inr wants) is = inr wants.0
unread_between meaning before left written count (Failed faults.Open) between is = absurd cc

-- both were opened, the one was converted into the other, and both were closed
pub converts_closed : (meaning : Meaning) (input output : List ℕ) (before empty left written : Option (List ℕ)) (taken given : ℕ) (outcome : OutcomeView) (old mid new : Told) → OpensBoth input output before empty old mid → ConvertsBetween meaning before left written given outcome → HasCause 0 taken (outcome ≡ Failed faults.Read) → HasCauseBeside ((outcome ≡ Failed faults.Read) × (0 < given)) 0 given (outcome ≡ Failed faults.Write) → ClosesBoth input output left written taken given mid new → ConvertsFiles meaning input output old new outcome
converts_closed meaning input output before empty left written taken given outcome old mid new opens between reads writes closes =
    let opened : Opens (OfSource input ∷ OfSink output ∷ []) 2 old new = record {
      asked = closes.asked ∙ opens.asked;
      pages = λ name none. let other : name ≢ output = λ e. none (inr (inl (ap OfSink (sym e)))) in closes.pages name other ∙ opens.pages name other;
      lefts = λ name none. closes.lefts name (not_first_read name input (OfSink output ∷ []) none) ∙ opens.lefts name;
    } in
    let pages = converts_pages meaning (old.page input) (old.page output) before left written given outcome opens.opened between in
    let whole : Converts meaning (old.page input) (new.left input) (old.page output) (new.page output) outcome =
    subst (λ (l : Option (List ℕ)). Converts meaning (old.page input) l (old.page output) (new.page output) outcome) (sym closes.own_left)
    (subst (λ (p : Page). Converts meaning (old.page input) left (old.page output) p outcome) (sym closes.own_page) pages) in
    let counted = causes_closed mid.faults (after_source mid.faults taken) new.faults taken given refl closes.counts reads writes (no_open meaning before left written given outcome between) in
    let wide : (outcome ≡ Failed faults.Read) × (0 < given) → (outcome ≡ Failed faults.Read) × AnyFailed (OfSource input ∷ OfSink output ∷ []) new =
    λ hidden. (hidden.0, inl (subst (λ (p : Page). HasFailed p) (sym closes.own_page) (failed_page written given hidden.1))) in
    record {
      opened = 2;
      opens = opened;
      converts = whole;
      unread = λ e. unread_closed 2 (old.page input) before left (new.left input) opens.opened closes.own_left (unread_between meaning before left written given outcome between e);
      counts = causes_then old.faults mid.faults new.faults opens.counts (causes_as mid.faults new.faults counted wide (λ f. f) (λ f. f) (λ f. f) (λ f. f) (λ f. f) (λ f. f));
    }

unopened_converts : (meaning : Meaning) (input before out : Page) (left : Option (List ℕ)) (fault : Fault) → (fault ≡ faults.Read → ⊥) → (fault ≡ faults.Write → ⊥) → out ≡ before → Converts meaning input left before out (Failed fault)
unopened_converts meaning input before out left faults.Read no_read no_write same = absurd (no_read refl)
unopened_converts meaning input before out left faults.Write no_read no_write same = absurd (no_write refl)
unopened_converts meaning input before out left faults.NoMemory no_read no_write same = inl same
unopened_converts meaning input before out left faults.Open no_read no_write same = same

failed_is : (fault other : Fault) → Failed fault ≡ Failed other → fault ≡ other
failed_is fault other is = cc

-- one of both wasn't opened
pub converts_unopened : (meaning : Meaning) (input output : List ℕ) (fault : Fault) (old new : Told) → OpensNotBoth input output old new fault → ConvertsFiles meaning input output old new (Failed fault)
converts_unopened meaning input output fault old new refused = record {
  opened = refused.opened;
  opens = refused.opens;
  converts = unopened_converts meaning (old.page input) (old.page output) (new.page output) (new.left input) fault refused.kind.0 refused.kind.1 (refused.pages output);
  unread = λ e. inl (refused.unread (failed_is fault faults.NoMemory e));
  counts = causes_as old.faults new.faults (causes_plain {hidden = (Failed fault ≡ Failed faults.Read) × AnyFailed (OfSource input ∷ OfSink output ∷ []) new} old.faults new.faults refused.counts) (λ h. h)
      (failed_is fault faults.Read) (ap Failed) (failed_is fault faults.Write) (ap Failed) (failed_is fault faults.Open) (ap Failed);
}
