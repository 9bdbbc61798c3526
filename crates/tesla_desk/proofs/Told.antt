-- What objects and desks tell, for callers that make several calls one after another.
use Rattle.std.proofs.Common.{◌≡◌, ◌∙◌, ℕ, suc, min, ◌≤◌, ◌<◌, Option, Some, None, IfSome, Result, Ok, Err, Bool, ◌+◌, ◌-◌, List, [], ◌∷◌, ◌++◌, refl, ap, sym, append_assoc, append-nil, length-append, arith, length, take, drop}
use Rattle.std.proofs.Math.Seq.{take-add, take-append-add, take-length, take-append_seam}
use Rattle.std.proofs.lemmas.List.{drop-drop, length-take-le, take-append-drop, take-append-le, take_min, take_rest}
use Rattle.tesla_desk.specs.Live.{Wire, UntoldWire, AbsentWire, HoldsWire, OpenedLink, LeavesAll, remainder_of}
use Rattle.tesla_desk.specs.Outside.{with_bytes, after_bytes, AppendsPrefix, Brings, Ends, Opened, Page, Untold, Absent, Holds, page_of, Opening, with_opening, with_openings, after_opening, AsksPrefix}
use Rattle.tesla_desk.specs.declared.desk.OpenRefusal.{OpenRefusal}
use Rattle.tesla_desk.specs.declared.link.Letter.{Letter}
use Rattle.tesla_desk.specs.declared.desk.OpenRefusal.TheVariants as refusals

-- two pieces one after another are one piece
pub with_bytes_twice : (written : Option (List ℕ)) (a b : List ℕ) → with_bytes (with_bytes written a) b ≡ with_bytes written (a ++ b)
with_bytes_twice None a b = refl
with_bytes_twice (Some prefix) a b = ap (λ bytes. Some bytes) (append_assoc prefix a b)

-- two pieces read one after another are one piece
pub after_bytes_twice : (left : Option (List ℕ)) (a b : List ℕ) → after_bytes a (after_bytes b left) ≡ after_bytes (a ++ b) left
after_bytes_twice None a b = refl
after_bytes_twice (Some rest) a b = ap (λ bytes. Some bytes) (sym (append_assoc a b rest))

-- after the next piece the whole up to here was appended
pub appends_more : (before now next : Option (List ℕ)) (whole : List ℕ) (i n : ℕ) → now ≡ with_bytes before (take i whole) → next ≡ with_bytes now (take n (take (length whole - i) (drop i whole))) → next ≡ with_bytes before (take (i + n) whole)
appends_more before now next whole i n e f =
    f ∙ ap (λ rest. with_bytes now (take n rest)) (take_rest whole i) ∙ ap (λ w. with_bytes w (take n (drop i whole))) e ∙ with_bytes_twice before (take i whole) (take n (drop i whole)) ∙ ap (λ b. with_bytes before b) (sym (take-add i n whole))

-- nothing was appended yet
pub appends_none : (before : Option (List ℕ)) → before ≡ with_bytes before []
appends_none None = refl
appends_none (Some prefix) = ap (λ bytes. Some bytes) (sym (append-nil prefix))

-- ---- prefixes of a piece

-- nothing of a piece is a prefix of it
pub prefix_none : (written : Option (List ℕ)) (piece : List ℕ) → AppendsPrefix written written piece
prefix_none written piece = (0, record { fits = omega arith; written = appends_none written })

-- the whole of a piece is a prefix of it
pub prefix_whole : (old new : Option (List ℕ)) (piece : List ℕ) → new ≡ with_bytes old piece → AppendsPrefix old new piece
prefix_whole old new piece e = (length piece, record { fits = omega arith; written = e ∙ ap (λ bytes. with_bytes old bytes) (sym (take-length piece)) })

-- a prefix of a piece is one of a longer piece
pub prefix_longer : (old new : Option (List ℕ)) (piece more : List ℕ) → AppendsPrefix old new piece → AppendsPrefix old new (piece ++ more)
prefix_longer old new piece more prefix = (
  prefix.0,
  record {
    fits = omega (arith, prefix.1.fits, length-append piece more);
    written = prefix.1.written ∙ ap (λ bytes. with_bytes old bytes) (sym (take-append-le prefix.0 piece more prefix.1.fits));
  },
)

-- a prefix of a piece that comes after another is a prefix of both
pub prefix_after : (first old new : Option (List ℕ)) (a b : List ℕ) → old ≡ with_bytes first a → AppendsPrefix old new b → AppendsPrefix first new (a ++ b)
prefix_after first old new a b e prefix = (
  length a + prefix.0,
  record {
    fits = omega (arith, prefix.1.fits, length-append a b);
    written = prefix.1.written ∙ ap (λ w. with_bytes w (take prefix.0 b)) e ∙ with_bytes_twice first a (take prefix.0 b) ∙ ap (λ bytes. with_bytes first bytes) (sym (take-append-add a b prefix.0));
  },
)

-- ---- what is left

-- where what follows bytes is told, it is told what is left behind them
pub after_bytes_some : (bytes : List ℕ) (left : Option (List ℕ)) (rest : List ℕ) → after_bytes bytes left ≡ Some rest → (more : List ℕ) × (left ≡ Some more) × (rest ≡ bytes ++ more)
after_bytes_some bytes None rest e = absurd cc
after_bytes_some bytes (Some more) rest e = (more, refl, cc)

-- once nothing is left, what was told to follow is these bytes
pub ended_rest : (bytes : List ℕ) (left after : Option (List ℕ)) (rest : List ℕ) → Ends left after → after_bytes bytes left ≡ Some rest → rest ≡ bytes
ended_rest bytes None after rest ends e = absurd cc
ended_rest bytes (Some more) after rest ends e =
    let none : more ≡ [] = ends.empty in
    let is : rest ≡ bytes ++ more = cc in
    is ∙ ap (λ m. bytes ++ m) none ∙ append-nil bytes

-- a prefix of the rest was moved to the start of a slice
pub brings_prefix : (slice bytes moved tail : List ℕ) (at n : ℕ) → slice ≡ bytes → 0 < n → n ≤ length (take (length slice - at) (drop at slice)) → moved ≡ take n (take (length slice - at) (drop at slice)) → Brings n (Some (drop at bytes)) (Some (drop (at + n) bytes)) (moved ++ tail)
brings_prefix slice bytes moved tail at n same some fits is =
    let rest : take (length slice - at) (drop at slice) ≡ drop at bytes = take_rest slice at ∙ ap (λ whole. drop at whole) same in
    let prefix : moved ≡ take n (drop at bytes) = is ∙ ap (λ r. take n r) rest in
    let long : n ≤ length (drop at bytes) = omega (arith, ap length rest) in
    let size : length moved ≡ n = ap length prefix ∙ length-take-le n (drop at bytes) long in
    let taken : take n (moved ++ tail) ≡ moved = ap (λ k. take k (moved ++ tail)) (sym size) ∙ take-append_seam moved tail in
    let split : take n (drop at bytes) ++ drop (at + n) bytes ≡ drop at bytes =
    ap (λ r. take n (drop at bytes) ++ r) (sym (drop-drop n at bytes)) ∙ take-append-drop n (drop at bytes) in
    record {
      some = some;
      fits = omega (arith, length-append moved tail, size);
      left = ap (λ r. Some r) (sym (ap (λ b. b ++ drop (at + n) bytes) (taken ∙ prefix) ∙ split));
    }

-- what was moved is all that there was, once nothing is left
pub all_moved : (bytes moved : List ℕ) (left : Option (List ℕ)) → Some bytes ≡ after_bytes moved left → IfSome left (λ rest. rest ≡ []) → moved ≡ bytes
all_moved bytes moved None told none = cc
all_moved bytes moved (Some rest) told none =
    let same : bytes ≡ moved ++ rest = cc in
    sym (append-nil moved) ∙ ap (λ r. moved ++ r) (sym none) ∙ sym same

-- a piece more was read
pub after_more : (before now next : Option (List ℕ)) (moved piece : List ℕ) → before ≡ after_bytes moved now → now ≡ after_bytes piece next → before ≡ after_bytes (moved ++ piece) next
after_more before now next moved piece e f = e ∙ ap (λ left. after_bytes moved left) f ∙ after_bytes_twice next moved piece

-- a piece more was written
pub with_more : (before now next : Option (List ℕ)) (moved piece : List ℕ) → now ≡ with_bytes before moved → next ≡ with_bytes now piece → next ≡ with_bytes before (moved ++ piece)
with_more before now next moved piece e f = f ∙ ap (λ w. with_bytes w piece) e ∙ with_bytes_twice before moved piece

-- a page that holds bytes after a closing has those that its sink told
pub page_of_holds : (written : Option (List ℕ)) (faults : ℕ) (bytes : List ℕ) (failed : Bool) → page_of written faults ≡ Holds bytes failed → written ≡ Some bytes
page_of_holds None faults bytes failed page = cc
page_of_holds (Some held) faults bytes failed page = cc

-- a source of a page that holds bytes has them
pub opened_holds : (page : Page) (left : Option (List ℕ)) (bytes : List ℕ) (failed : Bool) → page ≡ Holds bytes failed → Opened page left → left ≡ Some bytes
opened_holds Untold left bytes failed page opened = cc
opened_holds Absent left bytes failed page opened = absurd opened
opened_holds (Holds held told) left bytes failed page opened = cc

-- what a new sink tells after its first bytes is these bytes
pub first_written : (written now : Option (List ℕ)) (bytes held : List ℕ) → IfSome written (λ prefix. prefix ≡ []) → now ≡ with_bytes written bytes → now ≡ Some held → held ≡ bytes
first_written None now bytes held empty step told = cc
first_written (Some prefix) now bytes held empty step told =
    let same : held ≡ prefix ++ bytes = cc in same ∙ ap (λ f. f ++ bytes) empty

-- ---- openings asked for one after another

-- no opening more
pub openings_none : (told : Option (List Opening)) → told ≡ with_openings told []
openings_none None = refl
openings_none (Some before) = ap (λ openings. Some openings) (sym (append-nil before))

-- one opening, and then others
pub openings_first : (told : Option (List Opening)) (opening : Opening) (others : List Opening) → with_openings (with_opening told opening) others ≡ with_openings told (opening ∷ others)
openings_first None opening others = refl
openings_first (Some before) opening others = ap (λ openings. Some openings) (append_assoc before (opening ∷ []) others)

-- none of these was asked for
pub asks_nothing : (openings : List Opening) (before now : Option (List Opening)) → now ≡ before → AsksPrefix openings before now
asks_nothing openings before now same = (0, same ∙ openings_none before)

-- the first of these was asked for
pub asks_first : (opening : Opening) (others : List Opening) (before now : Option (List Opening)) → now ≡ with_opening before opening → AsksPrefix (opening ∷ others) before now
asks_first opening others before now asked = (1, asked ∙ openings_none (with_opening before opening) ∙ openings_first before opening [])

-- the first of these was tried
pub asks_tried : {A : Type 0} (opening : Opening) (others : List Opening) (result : Result A OpenRefusal) (before now : Option (List Opening)) → now ≡ after_opening opening result before → AsksPrefix (opening ∷ others) before now
asks_tried opening others (Ok it) before now asked = asks_first opening others before now asked
asks_tried opening others (Err refusals.Failed) before now asked = asks_first opening others before now asked
asks_tried opening others (Err refusals.NoMemory) before now asked = asks_nothing (opening ∷ others) before now asked

-- the first of these was asked for, and then a prefix of the others
pub asks_then : (opening : Opening) (others : List Opening) (before mid now : Option (List Opening)) → mid ≡ with_opening before opening → AsksPrefix others mid now → AsksPrefix (opening ∷ others) before now
asks_then opening others before mid now asked prefix =
    (suc prefix.0, prefix.1 ∙ ap (λ told. with_openings told (take prefix.0 others)) asked ∙ openings_first before opening (take prefix.0 others))

-- a prefix of openings is one of more openings
pub asks_longer : (openings more : List Opening) (before now : Option (List Opening)) → AsksPrefix openings before now → AsksPrefix (openings ++ more) before now
asks_longer openings more before now prefix =
    let n = min prefix.0 (length openings) in
    (n, prefix.1 ∙ ap (λ asked. with_openings before asked) (sym (take_min prefix.0 openings) ∙ sym (take-append-le n openings more (omega arith))))

-- what asks for nothing leaves what was asked for
pub asks_same : (openings : List Opening) (before mid now : Option (List Opening)) → now ≡ mid → AsksPrefix openings before mid → AsksPrefix openings before now
asks_same openings before mid now same prefix = (prefix.0, same ∙ prefix.1)

-- ---- links

-- what was there for a link of which no call was made is left
pub leaves_all : (wire : Wire) (left : Option (List Letter)) (count : ℕ) → OpenedLink wire left → count ≡ 0 → LeavesAll wire (remainder_of left count)
leaves_all UntoldWire left count opened none = tt
leaves_all AbsentWire left count opened none = tt
leaves_all (HoldsWire letters) left count opened none = ap (λ (l : Option (List Letter)). remainder_of l count) opened ∙ ap (λ n. remainder_of (Some letters) n) none
