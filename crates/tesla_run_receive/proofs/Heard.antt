-- What left the links of a session, and which readings their clocks gave.
use Rattle.std.proofs.Common.{◌≡◌, ◌≢◌, ℕ, suc, ◌+◌, ◌^◌, ◌<◌, ◌≤◌, nat_lt, false, List, [], ◌∷◌, ◌++◌, length, map, get_or, Option, Some, None, IfSome, option_map, refl, sym, ap, subst, ◌∙◌, arith, ⊎_elim}
use Rattle.std.proofs.lemmas.Bool.Decides.{nat_tests}
use Rattle.std.proofs.lemmas.List.{length-append, length-map}
use Rattle.tesla_desk.specs.Clocks.{Ticking, next_reading, readings_from, ticked}
use Rattle.tesla_desk.specs.Faults.{HasCause, raised}
use Rattle.tesla_desk.specs.Live.{Live, Wire, UntoldWire, AbsentWire, HoldsWire, Remainder, clock_told, remainder_of}
use Rattle.tesla_desk.specs.Outside.{Told}
use Rattle.tesla_desk.specs.declared.link.Letter.{Letter}
use Rattle.tesla_front.specs.Names.{AreDistinct, IsNoneOf}
use Rattle.tesla_receiver.specs.declared.history.Arrival.{Arrival}
use Rattle.tesla_receiver.specs.declared.history.Entry.{Entry}
use Rattle.tesla_receiver.specs.declared.history.Entry.TheVariants.{Arrived, Ended}
use Rattle.tesla_shared.specs.Whole.{arrivals_by, link_calls}
use Rattle.tesla_shared.specs.Workers.{AreNext, HaveArrived, Gave, bytes_of, reading_of}
use Rattle.tesla_shared.specs.declared.ingesting.LinkEnd.{LinkEnd}
use Rattle.tesla_shared.specs.declared.ingesting.LinkEnd.TheVariants as link_ends
use Rattle.tesla_turn.specs.Held.{left_of}
use Rattle.tesla_run_receive.specs.Receive.{HeardLinks, LeftWhere, ReadWhere, clock_after, entries_of_ingest}
use Rattle.tesla_session.specs.Session.{PassSeen, ClosesWorkers, calls_most}
use Rattle.tesla_session.proofs.Made.{LinkDid, LinkWork, LinksDid, link_arrivals, link_name, link_seen}

module _ {C V R : Type 0} where
  -- ---- closings

  -- what is left of each link, once all are closed
  abbrev pub LinksClosed : List (LinkWork C V R) → Live → Type 0
  LinksClosed [] now = Unit {0}
  LinksClosed (work ∷ works) now = (now.left work.seen.name ≡ remainder_of work.seen.left work.seen.faults) × LinksClosed works now

  -- the closing of a link under another name changes nothing of that
  still_closed : (works : List (LinkWork C V R)) (name : List ℕ) (before now : Live) → IsNoneOf name (map link_name works) → ((n : List ℕ) → n ≢ name → now.left n ≡ before.left n) → LinksClosed works before → LinksClosed works now
  still_closed [] name before now none others closed = tt
  still_closed (work ∷ works) name before now none others closed = (others work.seen.name (λ e. none.0 (sym e)) ∙ closed.0, still_closed works name before now none.1 others closed.1)

  pub links_closed : (works : List (LinkWork C V R)) (before now : Told) (first later : PassSeen C V R) → ClosesWorkers (map link_seen works) before now first later → AreDistinct (map link_name works) → LinksClosed works now.live
  links_closed [] before now first later closes distinct = tt
  links_closed (work ∷ works) before now first later (mid, middle, closes, close, later_is) distinct =
      (close.own, still_closed works work.seen.name mid.live now.live distinct.0 close.others (links_closed works before mid first middle closes distinct.1))

  -- the closings of links change no page
  pub links_leave_pages : (works : List (LinkWork C V R)) (before now : Told) (first later : PassSeen C V R) → ClosesWorkers (map link_seen works) before now first later → (name : List ℕ) → now.page name ≡ before.page name
  links_leave_pages [] before now first later closes name = ap (λ (t : Told). t.page name) closes.0
  links_leave_pages (work ∷ works) before now first later (mid, middle, closes, close, later_is) name = close.pages name ∙ links_leave_pages works before mid first middle closes name

-- ---- letters

-- a link that failed has a fault
pub fails_not : {P : Type 0} (faults : ℕ) → HasCause 0 faults P → nat_lt 0 faults ≡ false → P → ⊥
fails_not faults cause none failed = ⊎_elim (λ rose. absurd (grind (arith, nat_tests, rose, none))) (λ full. absurd (omega (arith, full))) (cause.rose failed)

link_all : (most size faults : ℕ) (end : LinkEnd) (later : Option (List Letter)) → HasCause 0 faults (end ≡ link_ends.Failed) → (end ≡ link_ends.Ended → IfSome later (λ rest. rest ≡ [])) → (end ≡ link_ends.Spent → most ≤ size) → nat_lt 0 faults ≡ false → size < most → IfSome later (λ rest. rest ≡ [])
link_all most size faults link_ends.Ended later cause ended spent none few = ended refl
link_all most size faults link_ends.Failed later cause ended spent none few = absurd (fails_not faults cause none refl)
link_all most size faults link_ends.Spent later cause ended spent none few = let many = spent refl in absurd (omega (arith, many, few))

module _ {V R : Type 0} where
  left_told : (ingest faults : ℕ) (letters : List Letter) (left later : Option (List Letter)) (arrivals : List (Arrival V)) (history : List (Entry V R)) → left ≡ Some letters → HaveArrived arrivals left later → arrivals_by ingest history ≡ arrivals
      → (nat_lt 0 faults ≡ false → entries_of_ingest ingest history < calls_most → IfSome later (λ rest. rest ≡ [])) → LeftWhere ingest (HoldsWire letters) (remainder_of later faults) history
  left_told ingest faults letters left None arrivals history told arrived same all = absurd (let no : Some letters ≡ None = sym told ∙ arrived.1 in cc)
  left_told ingest faults letters left (Some rest) arrivals history told arrived same all =
      let both : Some letters ≡ Some (arrived.0 ++ rest) = sym told ∙ arrived.1 in
      record { taken = arrived.0; letters_are = cc; arrivals = ap (map bytes_of) same ∙ sym arrived.2; all = all }

module _ {C V R : Type 0} where
  -- how many entries a link made
  pub link_entries : (most ingest : ℕ) (wire : Wire) (readings : Option (ℕ → List ℕ)) (clock : Option ℕ) (work : LinkWork C V R) (history : List (Entry V R)) → LinkDid most ingest wire readings clock work → arrivals_by ingest history ≡ work.arrivals → work.seen.end ≡ link_ends.Spent → most ≤ entries_of_ingest ingest history
  link_entries most ingest wire readings clock work history did same end =
      let spent : left_of work.seen.pass ≡ 0 = did.spent end in
      let size : length work.seen.pass.made ≡ suc (length work.arrivals) = ap length did.made ∙ omega (arith, length-append {A = Entry V R} (map Arrived work.arrivals) (Ended ingest ∷ []), length-map {B = Entry V R} work.arrivals Arrived) in
      omega (arith, spent, size, did.calls, ap length same)

  pub left_where : (ingest : ℕ) (wire : Wire) (readings : Option (ℕ → List ℕ)) (clock : Option ℕ) (work : LinkWork C V R) (history : List (Entry V R)) → LinkDid calls_most ingest wire readings clock work → arrivals_by ingest history ≡ work.arrivals → LeftWhere ingest wire (remainder_of work.seen.left work.seen.faults) history
  left_where ingest UntoldWire readings clock work history did same = tt
  left_where ingest AbsentWire readings clock work history did same = absurd did.letters
  left_where ingest (HoldsWire letters) readings clock work history did same =
      left_told ingest work.seen.faults letters did.left work.seen.left work.arrivals history did.letters did.hears.arrived same
      (link_all calls_most (entries_of_ingest ingest history) work.seen.faults work.seen.end work.seen.left did.cause did.ended (link_entries calls_most ingest (HoldsWire letters) readings clock work history did same))

-- ---- readings

first_readings : (given : List ℕ) (before after : Ticking) → AreNext given before after → given ≡ readings_from (length given) before.ahead
first_readings [] before after next = refl
first_readings (reading ∷ given) before after next =
    ap (λ (r : ℕ). r ∷ given) next.0 ∙ ap (λ (rs : List ℕ). next_reading before.ahead ∷ rs) (first_readings given (ticked before) after next.1)

-- a clock that gave so few readings tells them still
read_told : (given : List ℕ) (before : Ticking) (told : Option Ticking) → length before.given ≡ 0 → length given < 2 ^ 56 → Gave given (Some before) told → given ≡ readings_from (length given) before.ahead
read_told given before None none few gave = absurd (omega (arith, none, few, gave))
read_told given before (Some after) none few gave = first_readings given before after gave.1

module _ {V R : Type 0} where
  few_readings : (most : ℕ) (ingest : ℕ) (made : List (Entry V R)) (arrivals : List (Arrival V)) → made ≡ link_calls ingest arrivals → length made ≤ most → length (map reading_of arrivals) < most
  few_readings most ingest made arrivals are few =
      omega (arith, few, ap length are, length-append {A = Entry V R} (map Arrived arrivals) (Ended ingest ∷ []), length-map {B = Entry V R} arrivals Arrived, length-map arrivals reading_of)

  pub read_where : (ingest : ℕ) (readings : Option (ℕ → List ℕ)) (made : Option ℕ) (told : Option Ticking) (arrivals : List (Arrival V)) (history : List (Entry V R)) → arrivals_by ingest history ≡ arrivals → length (map reading_of arrivals) < calls_most → Gave (map reading_of arrivals) (clock_told readings (option_map (clock_after ingest) made)) told → ReadWhere ingest readings made history
  read_where ingest None made told arrivals history same few gave = tt
  read_where ingest (Some readings) None told arrivals history same few gave = tt
  read_where ingest (Some readings) (Some made) told arrivals history same few gave =
      let ahead : List ℕ = readings (clock_after ingest made) in
      let read : map reading_of arrivals ≡ readings_from (length (map reading_of arrivals)) ahead = read_told (map reading_of arrivals) (record { ahead = ahead; given = [] }) told refl few gave in
      subst (λ (all : List (Arrival V)). map reading_of all ≡ readings_from (length all) ahead) (sym same) (read ∙ ap (λ (n : ℕ). readings_from n ahead) (length-map arrivals reading_of))

-- ---- all links

next_clock : (ingest : ℕ) (made : Option ℕ) → option_map raised (option_map (clock_after ingest) made) ≡ option_map (clock_after (suc ingest)) made
next_clock ingest None = refl
next_clock ingest (Some made) = refl

module _ {C V R : Type 0} where
  -- what the history has of these links
  abbrev pub AreArrivals : ℕ → List (LinkWork C V R) → List (Entry V R) → Type 0
  AreArrivals ingest [] history = Unit {0}
  AreArrivals ingest (work ∷ works) history = (arrivals_by ingest history ≡ work.arrivals) × AreArrivals (suc ingest) works history

  pub are_arrivals : (ingest : ℕ) (works : List (LinkWork C V R)) (history : List (Entry V R)) → ((k : ℕ) → arrivals_by (ingest + k) history ≡ get_or (map link_arrivals works) k []) → AreArrivals ingest works history
  are_arrivals ingest [] history each = tt
  are_arrivals ingest (work ∷ works) history each = (
    ap (λ (k : ℕ). arrivals_by k history) (let same : ingest ≡ ingest + 0 = omega arith in same) ∙ each 0,
    are_arrivals (suc ingest) works history (λ k. ap (λ (i : ℕ). arrivals_by i history) (let same : suc ingest + k ≡ ingest + suc k = omega arith in same) ∙ each (suc k)),
  )

  pub heard_links : (ingest : ℕ) (works : List (LinkWork C V R)) (before now : Live) (history : List (Entry V R)) → LinksDid calls_most before.wire before.readings ingest (option_map (clock_after ingest) before.made) works → AreArrivals ingest works history → LinksClosed works now → HeardLinks ingest (map link_name works) before now history
  heard_links ingest [] before now history did are closed = tt
  heard_links ingest (work ∷ works) before now history did are closed =
      let clock : Option ℕ = option_map (clock_after ingest) before.made in (
        subst (λ (r : Option Remainder). LeftWhere ingest (before.wire work.seen.name) r history) (sym closed.0) (left_where ingest (before.wire work.seen.name) before.readings clock work history did.0 are.0),
        read_where ingest before.readings before.made work.seen.told work.arrivals history are.0 (few_readings calls_most ingest work.seen.pass.made work.arrivals did.0.made did.0.few) did.0.hears.gave,
        heard_links (suc ingest) works before now history (subst (λ (c : Option ℕ). LinksDid calls_most before.wire before.readings (suc ingest) c works) (next_clock ingest before.made) did.1) are.1 closed.1,
      )
