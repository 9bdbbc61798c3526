-- The pieces that a capture may write.
use Rattle.std.proofs.Common.{◌≡◌, ◌∙◌, ℕ, ◌-◌, ◌^◌, ◌<◌, ◌≤◌, Bool, List, [], ◌++◌, length, map, Option, Some, None, IfSome, refl, sym, ap, subst, append_assoc, arith}
use Rattle.std.proofs.lemmas.List.Concat.{flat_map-append}
use Rattle.tesla_capture.specs.Capture.{head, limit}
use Rattle.tesla_capture.specs.Gathering.{gathered}
use Rattle.tesla_desk.specs.Clocks.{Gives, Ticking}
use Rattle.tesla_desk.specs.Links.{after_letters, datagram_in, datagrams}
use Rattle.tesla_desk.specs.Live.{Live, OpenedLink, Wire, UntoldWire, AbsentWire, HoldsWire, clock_told}
use Rattle.tesla_desk.specs.Outside.{with_bytes}
use Rattle.tesla_desk.specs.declared.link.Letter.{Letter}
use Rattle.tesla_run_capture.specs.Heard.{Heard, bytes_of, reading_of}
use Rattle.tesla_run_capture.specs.Pieces.{AreFirstOf, IsCapturePiece}
use Rattle.tesla_run_capture.specs.Recording.{HearsOn, IsNextPiece}
use Rattle.tesla_run_capture.specs.declared.recorder.Recorder.{Recorder}
use Rattle.tesla_run_capture.proofs.Filed.{all_records, few_heard, text_is, text_size}
use Rattle.tesla_run_capture.proofs.Given.{hears_none, read_none, read_where}

-- ---- what was written

-- where what is written is told, it is what was there and what was written since
pub written_behind : (first done : List ℕ) (written kept : Option (List ℕ)) → IfSome written (λ bytes. bytes ≡ first) → kept ≡ with_bytes written done → IfSome kept (λ bytes. bytes ≡ first ++ done)
written_behind first done None kept begun wrote = subst (λ (k : Option (List ℕ)). IfSome k (λ bytes. bytes ≡ first ++ done)) (sym wrote) tt
written_behind first done (Some bytes) kept begun wrote =
    subst (λ (k : Option (List ℕ)). IfSome k (λ all. all ≡ first ++ done)) (sym wrote) (ap (λ (all : List ℕ). all ++ done) begun)

-- the head is the first piece
pub first_piece : (read_for : ℕ → List ℕ → ℕ → Bool) (left : Option (List Letter)) (ticking : Option Ticking) (written : Option (List ℕ)) → IfSome written (λ bytes. bytes ≡ []) → IsNextPiece read_for left ticking written head
first_piece read_for left ticking written empty = record {
  heard = [];
  later = left;
  after = ticking;
  hears = hears_none left ticking;
  read = read_none read_for;
  fits = omega arith;
  before = [];
  written_is = empty;
  whole = refl;
}

-- what a recorder has gathered is the next piece
pub next_piece : (read_for : ℕ → List ℕ → ℕ → Bool) (recorder : Recorder) (left later : Option (List Letter)) (before after : Option Ticking) (written kept : Option (List ℕ)) → recorder.size ≤ limit → IfSome written (λ bytes. bytes ≡ head) → HearsOn read_for recorder left later before after written kept → IsNextPiece read_for left before kept (gathered recorder.gatherer)
next_piece read_for recorder left later before after written kept most begun on =
    let done = on.keeps.gathers.done in record {
      heard = on.heard;
      later = later;
      after = after;
      hears = on.hears;
      read = on.read;
      fits = omega (arith, most, on.keeps.size, text_size on.heard);
      before = head ++ done;
      written_is = written_behind head done written kept begun on.keeps.gathers.written;
      whole = append_assoc head done (gathered recorder.gatherer) ∙ ap (λ (t : List ℕ). head ++ t) (sym on.keeps.gathers.both) ∙ sym (text_is on.heard);
    }

-- ---- what the desk tells

first_told : (heard : List Heard) (taken letters : List Letter) (left later : Option (List Letter)) → left ≡ Some letters → left ≡ after_letters taken later → datagrams taken ≡ map bytes_of heard → AreFirstOf heard (HoldsWire letters)
first_told heard taken letters left None told is are = absurd (let no : Some letters ≡ None = sym told ∙ is in cc)
first_told heard taken letters left (Some rest) told is are =
    let both : Some letters ≡ Some (taken ++ rest) = sym told ∙ is in
    let whole : letters ≡ taken ++ rest = cc in (
      datagrams rest,
      ap (λ (l : List Letter). datagrams l) whole ∙ flat_map-append datagram_in taken rest ∙ ap (λ (d : List (List ℕ)). d ++ datagrams rest) are,
    )

first_of_wire : (heard : List Heard) (taken : List Letter) (wire : Wire) (left later : Option (List Letter)) → OpenedLink wire left → left ≡ after_letters taken later → datagrams taken ≡ map bytes_of heard → AreFirstOf heard wire
first_of_wire heard taken UntoldWire left later opened is are = tt
first_of_wire heard taken AbsentWire left later opened is are = absurd opened
first_of_wire heard taken (HoldsWire letters) left later opened is are = first_told heard taken letters left later opened is are

-- the next piece on an open output, by what the desk told before the link was opened
pub captured_piece : (read_for : ℕ → List ℕ → ℕ → Bool) (live : Live) (link : List ℕ) (left : Option (List Letter)) (ticking : Option Ticking) (written : Option (List ℕ)) (piece : List ℕ) → OpenedLink (live.wire link) left → ticking ≡ clock_told live.readings live.made → IsNextPiece read_for left ticking written piece → IsCapturePiece read_for live link written piece
captured_piece read_for live link left ticking written piece opened clock next =
    let few : length next.heard < 2 ^ 64 - 1 = omega (arith, next.fits, text_size next.heard, few_heard next.heard) in record {
      heard = next.heard;
      read = next.read;
      brought = first_of_wire next.heard next.hears.taken (live.wire link) left next.later opened next.hears.left_is next.hears.heard_are;
      clock = read_where next.heard live.readings live.made next.after few (subst (λ (b : Option Ticking). Gives (map reading_of next.heard) b next.after) clock next.hears.gives);
      before = next.before;
      written_is = next.written_is;
      is_capture = record { limits = all_records next.heard next.hears.limits; spelled = next.whole; fits = subst (λ (t : List ℕ). length t ≤ limit) (sym next.whole) next.fits };
    }
