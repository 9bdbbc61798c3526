-- The readings that a clock gives, and what is heard with them.
use Rattle.std.proofs.Common.{◌≡◌, ◌∙◌, ℕ, zero, suc, ◌-◌, ◌^◌, ◌<◌, Bool, true, List, [], ◌∷◌, ◌++◌, length, map, Option, Some, None, refl, sym, ap, subst, append_assoc, append-nil, arith}
use Rattle.std.specs.List.{AllByRecursion, slice_get}
use Rattle.std.proofs.lemmas.List.{length-map, map-append}
use Rattle.std.proofs.lemmas.List.Concat.{flat_map-append}
use Rattle.tesla_desk.specs.Clocks.{Gives, Ticking, Ticks, readings_from}
use Rattle.tesla_desk.specs.Links.{after_letters, datagram_in, datagrams}
use Rattle.tesla_desk.specs.Live.{clock_told}
use Rattle.tesla_desk.proofs.Given.{first_readings, gives_more}
use Rattle.tesla_desk.specs.declared.link.Letter.{Letter}
use Rattle.tesla_desk.specs.declared.link.Letter.TheVariants as letters
use Rattle.tesla_run_capture.specs.Heard.{Heard, IsHeard, ReadWhere, bytes_of, reading_of}
use Rattle.tesla_run_capture.specs.Pieces.{AreReadFor}
use Rattle.tesla_run_capture.specs.Recording.{Hears}

-- ---- readings

-- what was heard has the first readings of the clock that was made for it
pub read_where : (heard : List Heard) (readings : Option (ℕ → List ℕ)) (made : Option ℕ) (after : Option Ticking) → length heard < 2 ^ 64 - 1 → Gives (map reading_of heard) (clock_told readings made) after → ReadWhere heard readings made
read_where heard None made after few gives = tt
read_where heard (Some readings) None after few gives = tt
read_where heard (Some readings) (Some made) after few gives =
    let size : length (map reading_of heard) ≡ length heard = length-map heard reading_of in
    first_readings (map reading_of heard) (record { ahead = readings made; given = [] }) after (omega (arith, few, size)) gives ∙ ap (λ (n : ℕ). readings_from n (readings made)) size

-- a fact of each place of a list, with one place more
got_more : {A : Type 0} (P : ℕ → A → Type 0) (xs : List A) (x : A) → ((n : ℕ) (y : A) → slice_get xs n ≡ Some y → P n y) → P (length xs) x → (n : ℕ) (y : A) → slice_get (xs ++ x ∷ []) n ≡ Some y → P n y
got_more P [] x each last zero y e = subst (λ z. P zero z) (let same : x ≡ y = cc in same) last
got_more P [] x each last (suc n) y e = absurd cc
got_more P (first ∷ xs) x each last zero y e = each zero y e
got_more P (first ∷ xs) x each last (suc n) y e = got_more (λ k. P (suc k)) xs x (λ k z. each (suc k) z) last n y e

-- nothing was heard
pub read_none : (read_for : ℕ → List ℕ → ℕ → Bool) → AreReadFor read_for []
read_none read_for number one e = absurd cc

-- one more has a reading that was asked for it
pub read_more : (read_for : ℕ → List ℕ → ℕ → Bool) (heard : List Heard) (one : Heard) → AreReadFor read_for heard → read_for (length heard) one.bytes one.reading ≡ true → AreReadFor read_for (heard ++ one ∷ [])
read_more read_for heard one read last = got_more (λ n it. read_for n it.bytes it.reading ≡ true) heard one read last

-- one more has the limits
all_more : (heard : List Heard) (one : Heard) → AllByRecursion IsHeard heard → IsHeard one → AllByRecursion IsHeard (heard ++ one ∷ [])
all_more [] one all is = (is, tt)
all_more (first ∷ heard) one all is = (all.0, all_more heard one all.1 is)

-- ---- letters

letters_twice : (left : Option (List Letter)) (a b : List Letter) → after_letters a (after_letters b left) ≡ after_letters (a ++ b) left
letters_twice None a b = refl
letters_twice (Some rest) a b = ap (λ (all : List Letter). Some all) (sym (append_assoc a b rest))

pub letters_none : (left : Option (List Letter)) → left ≡ after_letters [] left
letters_none None = refl
letters_none (Some rest) = refl

-- nothing was heard
pub hears_none : (left : Option (List Letter)) (before : Option Ticking) → Hears [] left left before before
hears_none left before = record { taken = []; left_is = letters_none left; heard_are = refl; gives = refl; limits = tt }

-- a datagram more
pub hears_more : (heard : List Heard) (one : Heard) (left now later : Option (List Letter)) (before then after : Option Ticking) → Hears heard left now before then → now ≡ after_letters (letters.Datagram one.bytes ∷ []) later → Ticks then after one.reading → IsHeard one → Hears (heard ++ one ∷ []) left later before after
hears_more heard one left now later before then after hears next ticks is = record {
  taken = hears.taken ++ letters.Datagram one.bytes ∷ [];
  left_is = hears.left_is ∙ ap (λ (l : Option (List Letter)). after_letters hears.taken l) next ∙ letters_twice later hears.taken (letters.Datagram one.bytes ∷ []);
  heard_are = flat_map-append datagram_in hears.taken (letters.Datagram one.bytes ∷ []) ∙ ap (λ (prefix : List (List ℕ)). prefix ++ one.bytes ∷ []) hears.heard_are ∙ sym (map-append bytes_of heard (one ∷ []));
  gives = subst (λ (rs : List ℕ). Gives rs before after) (sym (map-append reading_of heard (one ∷ []))) (gives_more (map reading_of heard) before then after one.reading hears.gives ticks);
  limits = all_more heard one hears.limits is;
}

-- a quiet more
pub hears_quiet : (heard : List Heard) (left now later : Option (List Letter)) (before after : Option Ticking) → Hears heard left now before after → now ≡ after_letters (letters.Quiet ∷ []) later → Hears heard left later before after
hears_quiet heard left now later before after hears next = record {
  taken = hears.taken ++ letters.Quiet ∷ [];
  left_is = hears.left_is ∙ ap (λ (l : Option (List Letter)). after_letters hears.taken l) next ∙ letters_twice later hears.taken (letters.Quiet ∷ []);
  heard_are = flat_map-append datagram_in hears.taken (letters.Quiet ∷ []) ∙ append-nil (datagrams hears.taken) ∙ hears.heard_are;
  gives = hears.gives;
  limits = hears.limits;
}
