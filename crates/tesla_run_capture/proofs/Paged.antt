-- What the desk tells of the link and the file, once both are closed.
use Rattle.std.proofs.Common.{◌≡◌, ◌∙◌, ◌⊎◌, inl, inr, ℕ, ◌-◌, ◌^◌, ◌<◌, ◌≤◌, nat_lt, Result, Ok, Err, List, [], ◌++◌, length, map, take, Option, Some, None, IfSome, refl, sym, ap, subst, arith}
use Rattle.std.proofs.lemmas.Bool.Decides.{nat_tests}
use Rattle.std.proofs.lemmas.List.{length-take-le}
use Rattle.tesla_desk.specs.Faults.{HasCauseBeside}
use Rattle.tesla_desk.specs.Links.{after_letters, datagrams}
use Rattle.tesla_desk.specs.Live.{Live, OpenedLink, Remainder, Wire, UntoldWire, AbsentWire, HoldsWire, remainder_of}
use Rattle.tesla_desk.specs.Outside.{Page, with_bytes, page_of}
use Rattle.tesla_desk.specs.declared.link.Letter.{Letter}
use Rattle.tesla_front.specs.Files.{HasFailed}
use Rattle.tesla_front.specs.declared.fault.Fault.{Fault}
use Rattle.tesla_front.specs.declared.fault.Fault.TheVariants as faults
use Rattle.tesla_run_capture.specs.Arguments.{CaptureArguments}
use Rattle.tesla_run_capture.specs.Capture.{Captures, EndsAs, HoldsCapturePrefix, HoldsWhole, LeavesNone, LeftWhere, captured_line}
use Rattle.tesla_run_capture.specs.Heard.{BreaksOff, Heard, IsFull, bytes_of, text_of}
use Rattle.tesla_run_capture.specs.Recording.{ComesTo, RecordsFile}
use Rattle.tesla_run_capture.specs.Steps.{outcome_with}

-- ---- letters

left_told : (heard : List Heard) (taken letters : List Letter) (left later : Option (List Letter)) (missed : ℕ) → left ≡ Some letters → left ≡ after_letters taken later → datagrams taken ≡ map bytes_of heard → LeftWhere heard (HoldsWire letters) (remainder_of later missed)
left_told heard taken letters left None missed told is are = absurd (let no : Some letters ≡ None = sym told ∙ is in cc)
left_told heard taken letters left (Some rest) missed told is are =
    let both : Some letters ≡ Some (taken ++ rest) = sym told ∙ is in
    record { taken = taken; letters_are = cc; heard_are = are }

pub left_where : (heard : List Heard) (taken : List Letter) (wire : Wire) (left later : Option (List Letter)) (missed : ℕ) → OpenedLink wire left → left ≡ after_letters taken later → datagrams taken ≡ map bytes_of heard → LeftWhere heard wire (remainder_of later missed)
left_where heard taken UntoldWire left later missed opened is are = tt
left_where heard taken AbsentWire left later missed opened is are = absurd opened
left_where heard taken (HoldsWire letters) left later missed opened is are = left_told heard taken letters left later missed opened is are

none_left : (later : Option (List Letter)) (missed : ℕ) → IfSome later (λ rest. rest ≡ []) → LeavesNone (remainder_of later missed)
none_left None missed none = tt
none_left (Some rest) missed none = none

over_left : (size : ℕ) (later : Option (List Letter)) (missed : ℕ) → IfSome later (λ rest. rest ≡ []) ⊎ IsFull size → LeavesNone (remainder_of later missed) ⊎ IsFull size
over_left size later missed (inl none) = inl (none_left later missed none)
over_left size later missed (inr full) = inr full

-- ---- pages

whole_page : (text : List ℕ) (written kept : Option (List ℕ)) (failed : ℕ) → IfSome written (λ bytes. bytes ≡ []) → failed ≡ 0 → kept ≡ with_bytes written text → HoldsWhole text (page_of kept failed)
whole_page text None kept failed empty none wrote = subst (λ (k : Option (List ℕ)). HoldsWhole text (page_of k failed)) (sym wrote) tt
whole_page text (Some bytes) kept failed empty none wrote =
    subst (λ (k : Option (List ℕ)). HoldsWhole text (page_of k failed)) (sym wrote) (ap (λ (b : List ℕ). b ++ text) empty, ap (λ (n : ℕ). nat_lt 0 n) none)

prefix_page : (text : List ℕ) (written kept : Option (List ℕ)) (failed : ℕ) → IfSome written (λ bytes. bytes ≡ []) → 0 < failed → BreaksOff text written kept → HoldsCapturePrefix text (page_of kept failed)
prefix_page text None kept failed empty some breaks = subst (λ (k : Option (List ℕ)). HoldsCapturePrefix text (page_of k failed)) (sym breaks.prefix.1.written) tt
prefix_page text (Some bytes) kept failed empty some breaks =
    let n = breaks.prefix.0 in
    let prefix : bytes ++ take n text ≡ take n text = ap (λ (b : List ℕ). b ++ take n text) empty in
    let size : length (take n text) ≡ n = length-take-le n text breaks.prefix.1.fits in
    subst (λ (k : Option (List ℕ)). HoldsCapturePrefix text (page_of k failed)) (sym breaks.prefix.1.written)
    (record { prefix = (n, prefix); few = omega (arith, breaks.few, size, ap (λ (b : List ℕ). length b) prefix) }, grind (arith, nat_tests, some))

-- a sink on which a write failed has failed
pub failed_page : (kept : Option (List ℕ)) (failed : ℕ) → 0 < failed → HasFailed (page_of kept failed)
failed_page None failed some = tt
failed_page (Some bytes) failed some = grind (arith, nat_tests, some)

-- ---- the end

some_failed : (failed : ℕ) → (0 < failed) ⊎ (2 ^ 64 - 1 ≤ 0) → 0 < failed
some_failed failed (inl some) = some
some_failed failed (inr full) = absurd (omega (arith, full))

ends_as : (result : Result ℕ Fault) (heard : List Heard) (later : Option (List Letter)) (written kept : Option (List ℕ)) (missed failed : ℕ) → IfSome written (λ bytes. bytes ≡ []) → HasCauseBeside ((result ≡ Err faults.Read) × (0 < failed)) 0 failed (result ≡ Err faults.Write) → ComesTo result heard (text_of heard) later written kept failed → EndsAs heard (remainder_of later missed) (page_of kept failed) (outcome_with result)
ends_as (Ok count) heard later written kept missed failed empty write comes =
    let none : failed ≡ 0 = write.still (λ e. absurd cc) (λ hidden. let e = hidden.0 in absurd cc) in
    (ap captured_line comes.0, whole_page (text_of heard) written kept failed empty none comes.1, over_left (length (text_of heard)) later missed comes.2)
ends_as (Err faults.Read) heard later written kept missed failed empty write (inl all) = inl (whole_page (text_of heard) written kept failed empty all.0 all.1)
ends_as (Err faults.Read) heard later written kept missed failed empty write (inr some) = inr (prefix_page (text_of heard) written kept failed empty some.0 some.1)
ends_as (Err faults.Write) heard later written kept missed failed empty write comes = prefix_page (text_of heard) written kept failed empty (some_failed failed (write.rose refl)) comes
ends_as (Err faults.NoMemory) heard later written kept missed failed empty write comes = absurd comes
ends_as (Err faults.Open) heard later written kept missed failed empty write comes = absurd comes

-- what was recorded is what the desk tells
pub captures : (arguments : CaptureArguments) (before now : Live) (out : Page) (result : Result ℕ Fault) (left later : Option (List Letter)) (written kept : Option (List ℕ)) (missed failed : ℕ) → OpenedLink (before.wire arguments.link) left → IfSome written (λ bytes. bytes ≡ []) → now.left arguments.link ≡ remainder_of later missed → out ≡ page_of kept failed
    → RecordsFile result left later before.readings before.made written kept failed → HasCauseBeside ((result ≡ Err faults.Read) × (0 < failed)) 0 failed (result ≡ Err faults.Write) → Captures arguments before now out (outcome_with result)
captures arguments before now out result left later written kept missed failed opened empty rest page records write = record {
  heard = records.heard;
  link = subst (λ (r : Option Remainder). LeftWhere records.heard (before.wire arguments.link) r) (sym rest) (left_where records.heard records.taken (before.wire arguments.link) left later missed opened records.left_is records.heard_are);
  clock = records.clock;
  is_capture = records.is_capture;
  ends = subst (λ (r : Option Remainder). EndsAs records.heard r out (outcome_with result)) (sym rest)
      (subst (λ (p : Page). EndsAs records.heard (remainder_of later missed) p (outcome_with result)) (sym page) (ends_as result records.heard later written kept missed failed empty write records.comes));
}
