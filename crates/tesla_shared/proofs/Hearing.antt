-- Arrivals that are made of a link, one after another.
use Rattle.std.proofs.Common.{◌≡◌, ◌+◌, ℕ, List, [], ◌∷◌, ◌++◌, map, Option, Some, None, true, refl, sym, ap, subst, ◌∙◌, append_assoc, append-nil, length, length-append, arith}
use Rattle.std.specs.List.{list_all}
use Rattle.std.proofs.lemmas.List.{map-append}
use Rattle.std.proofs.lemmas.Bool.{eq-eqb}
use Rattle.std.proofs.lemmas.List.Concat.{flat_map-append}
use Rattle.tesla_base.proofs.Lists.{list_all_both}
use Rattle.tesla_receiver.specs.declared.history.Arrival.{Arrival}
use Rattle.tesla_receiver.specs.declared.history.Entry.{Entry}
use Rattle.tesla_receiver.specs.declared.history.Entry.TheVariants.{Arrived, Ended}
use Rattle.tesla_desk.specs.declared.link.Letter.{Letter}
use Rattle.tesla_desk.specs.declared.link.Letter.TheVariants as letters
use Rattle.tesla_desk.specs.Clocks.{Ticking, next_reading, ticked, Ticks}
use Rattle.tesla_desk.specs.Links.{datagram_in, datagrams, after_letters}
use Rattle.tesla_shared.specs.Workers.{bytes_of, reading_of, is_of, HaveArrived, AreNext, Gave, HearsOne, HearsAll, Ingests}

-- items that are taken one after another
pub letters_twice : (left : Option (List Letter)) (a b : List Letter) → after_letters a (after_letters b left) ≡ after_letters (a ++ b) left
letters_twice None a b = refl
letters_twice (Some rest) a b = ap (λ (all : List Letter). Some all) (sym (append_assoc a b rest))

-- no item was taken
pub letters_none : (left : Option (List Letter)) → left ≡ after_letters [] left
letters_none None = refl
letters_none (Some rest) = refl

next_more : (readings : List ℕ) (before now after : Ticking) (reading : ℕ) → AreNext readings before now → after ≡ ticked now → reading ≡ next_reading now.ahead → AreNext (readings ++ reading ∷ []) before after
next_more [] before now after reading are ticks reads = (reads ∙ ap (λ (z : Ticking). next_reading z.ahead) are, ticks ∙ ap ticked are)
next_more (first ∷ readings) before now after reading are ticks reads = (are.0, next_more readings (ticked before) now after reading are.1 ticks reads)

-- one reading more
gave_more : (readings : List ℕ) (before now after : Option Ticking) (reading : ℕ) → Gave readings before now → Ticks now after reading → Gave (readings ++ reading ∷ []) before after
gave_more readings None None None reading gave ticks = tt
gave_more readings None (Some now) None reading gave ticks = absurd gave
gave_more readings (Some before) None None reading gave ticks = omega (arith, length-append readings (reading ∷ []), gave)
gave_more readings (Some before) (Some now) None reading gave ticks =
    omega (arith, length-append readings (reading ∷ []), length-append before.given readings, ap (λ (given : List ℕ). length given) gave.0, ticks)
gave_more readings before None (Some after) reading gave ticks = absurd ticks
gave_more readings None (Some now) (Some after) reading gave ticks = absurd gave
gave_more readings (Some before) (Some now) (Some after) reading gave ticks = (
  ap (λ (z : Ticking). z.given) ticks.0 ∙ ap (λ (prefix : List ℕ). prefix ++ next_reading now.ahead ∷ []) gave.0 ∙ append_assoc before.given readings (next_reading now.ahead ∷ []) ∙ ap (λ (r : ℕ). before.given ++ (readings ++ r ∷ [])) (sym ticks.1),
  next_more readings before now after reading gave.1 ticks.0 ticks.1,
)

-- no reading
gave_none : (before : Option Ticking) → Gave [] before before
gave_none None = tt
gave_none (Some before) = (sym (append-nil before.given), refl)

module _ {V : Type 0} where
  -- items more, of which each datagram is an arrival
  arrived_more : (arrivals more : List (Arrival V)) (taken : List Letter) (left now later : Option (List Letter)) → HaveArrived arrivals left now → now ≡ after_letters taken later → datagrams taken ≡ map bytes_of more → HaveArrived (arrivals ++ more) left later
  arrived_more arrivals more taken left now later arrived next same = (
    arrived.0 ++ taken,
    arrived.1 ∙ ap (after_letters arrived.0) next ∙ letters_twice later arrived.0 taken,
    flat_map-append datagram_in arrived.0 taken ∙ ap (λ (prefix : List (List ℕ)). prefix ++ datagrams taken) arrived.2 ∙ ap (λ (back : List (List ℕ)). map bytes_of arrivals ++ back) same ∙ sym (map-append bytes_of arrivals more),
  )

  is_own : (ingest : ℕ) (arrival : Arrival V) → arrival.ingest ≡ ingest → list_all (is_of ingest) (arrival ∷ []) ≡ true
  is_own ingest arrival same = grind (arith, eq-eqb arrival.ingest ingest same)

module _ {V R : Type 0} where
  -- one arrival was made
  pub hears_one : (ingest : ℕ) (bytes : List ℕ) (made now : List (Entry V R)) (before after : Option Ticking) (arrival : Arrival V) → now ≡ made ++ Arrived arrival ∷ [] → arrival.ingest ≡ ingest → arrival.bytes ≡ bytes → Ticks before after arrival.reading → HearsOne ingest bytes made now before after
  hears_one ingest bytes made now before after arrival is numbered same ticks = record { arrival = arrival; numbered = numbered; bytes_are = same; ticks = ticks; made_is = is }

  -- no arrival was made
  pub hears_none : (ingest : ℕ) (made : List (Entry V R)) (left : Option (List Letter)) (before : Option Ticking) → HearsAll ingest made made left left before before
  hears_none ingest made left before = record {
    arrivals = [];
    hears = record { numbered = refl; arrived = ([], letters_none left, refl); gave = gave_none before };
    made_are = sym (append-nil made);
  }

  -- a datagram more
  pub hears_more : (ingest : ℕ) (bytes : List ℕ) (made mid now : List (Entry V R)) (left rest later : Option (List Letter)) (before then after : Option Ticking) → HearsAll ingest made mid left rest before then → rest ≡ after_letters (letters.Datagram bytes ∷ []) later → HearsOne ingest bytes mid now then after → HearsAll ingest made now left later before after
  hears_more ingest bytes made mid now left rest later before then after all next one =
      let more : List (Arrival V) = one.arrival ∷ [] in record {
        arrivals = all.arrivals ++ more;
        hears = record {
          numbered = list_all_both (is_of ingest) all.arrivals more all.hears.numbered (is_own ingest one.arrival one.numbered);
          arrived = arrived_more all.arrivals more (letters.Datagram bytes ∷ []) left rest later all.hears.arrived next (ap (λ (b : List ℕ). b ∷ []) (sym one.bytes_are));
          gave = subst (λ (rs : List ℕ). Gave rs before after) (sym (map-append reading_of all.arrivals more)) (gave_more (map reading_of all.arrivals) before then after one.arrival.reading all.hears.gave one.ticks);
        };
        made_are = one.made_is ∙ ap (λ (es : List (Entry V R)). es ++ Arrived one.arrival ∷ []) all.made_are ∙ append_assoc made (map Arrived all.arrivals) (Arrived one.arrival ∷ []) ∙ ap (λ (es : List (Entry V R)). made ++ es) (sym (map-append Arrived all.arrivals more));
      }

  -- a quiet more
  pub hears_quiet : (ingest : ℕ) (made now : List (Entry V R)) (left rest later : Option (List Letter)) (before after : Option Ticking) → HearsAll ingest made now left rest before after → rest ≡ after_letters (letters.Quiet ∷ []) later → HearsAll ingest made now left later before after
  hears_quiet ingest made now left rest later before after all next = record {
    arrivals = all.arrivals;
    hears = record {
      numbered = all.hears.numbered;
      arrived = subst (λ (arrivals : List (Arrival V)). HaveArrived arrivals left later) (append-nil all.arrivals) (arrived_more all.arrivals [] (letters.Quiet ∷ []) left rest later all.hears.arrived next refl);
      gave = all.hears.gave;
    };
    made_are = all.made_are;
  }

  -- the end behind the arrivals
  pub ends_after : (ingest : ℕ) (made mid now : List (Entry V R)) (left later : Option (List Letter)) (before after : Option Ticking) → HearsAll ingest made mid left later before after → now ≡ mid ++ Ended ingest ∷ [] → Ingests ingest made now left later before after
  ends_after ingest made mid now left later before after all ended = record {
    arrivals = all.arrivals;
    hears = all.hears;
    made_are = ended ∙ ap (λ (es : List (Entry V R)). es ++ Ended ingest ∷ []) all.made_are ∙ append_assoc made (map Arrived all.arrivals) (Ended ingest ∷ []);
  }

  -- an end was made, so that there is a call
  pub ingests_some : (ingest : ℕ) (made now : List (Entry V R)) (left later : Option (List Letter)) (before after : Option Ticking) → Ingests ingest made now left later before after → now ≡ [] → ⊥
  ingests_some ingest made now left later before after all none =
      let calls = map Arrived all.arrivals ++ Ended ingest ∷ [] in
      let size : length now ≡ length made + length calls = ap (λ (es : List (Entry V R)). length es) all.made_are ∙ length-append made calls in
      let own : length calls ≡ length (map Arrived all.arrivals) + 1 = length-append (map Arrived all.arrivals) (Ended ingest ∷ []) in
      let nothing : length now ≡ 0 = ap (λ (es : List (Entry V R)). length es) none in
      omega (arith, size, own, nothing)
