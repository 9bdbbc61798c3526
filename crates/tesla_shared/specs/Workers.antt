-- What workers do: the calls of their passes, against links, clocks and sinks.
use Rattle.std.specs.Prelude.{◌≡◌, ℕ, ◌+◌, ◌-◌, ◌^◌, ◌≤◌, ◌==◌, Bool, true, List, [], ◌∷◌, ◌++◌, length, map, Option, Some, None}
use Rattle.std.specs.List.{list_all}
use Rattle.tesla_desk.specs.Outside.{AppendsPrefix, with_bytes}
use Rattle.tesla_receiver.specs.declared.history.Arrival.{Arrival}
use Rattle.tesla_receiver.specs.declared.history.Entry.{Entry}
use Rattle.tesla_receiver.specs.declared.history.Entry.TheVariants.{Arrived, Taken, Ended}
use Rattle.tesla_shared.specs.Yields.{Yield, Over, goes_on, record_of, records}
use Rattle.tesla_shared.specs.declared.draining.SinkEnd.{SinkEnd}
use Rattle.tesla_shared.specs.declared.draining.SinkEnd.TheVariants as ends
use Rattle.tesla_desk.specs.declared.link.Letter.{Letter}
use Rattle.tesla_desk.specs.Clocks.{Ticking, next_reading, ticked, Ticks}
use Rattle.tesla_desk.specs.Links.{datagrams, after_letters}

-- each of these readings is the next that the clock gives
abbrev pub AreNext : List ℕ → Ticking → Ticking → Type 0
AreNext [] before after = after ≡ before
AreNext (reading ∷ readings) before after = (reading ≡ next_reading before.ahead) × AreNext readings (ticked before) after

-- the clock gave these readings and no other. A clock tells them that told before, and it goes on telling for 2^64 - 1 readings
abbrev pub Gave : List ℕ → Option Ticking → Option Ticking → Type 0
Gave readings None None = Unit {0}
Gave readings None (Some after) = ⊥
Gave readings (Some before) None = 2 ^ 64 - 1 ≤ length before.given + length readings
Gave readings (Some before) (Some after) = (after.given ≡ before.given ++ readings) × AreNext readings before after

module _ {V : Type 0} where
  abbrev pub bytes_of : Arrival V → List ℕ
  bytes_of arrival = arrival.bytes

  abbrev pub reading_of : Arrival V → ℕ
  reading_of arrival = arrival.reading

  -- the arrival is of this ingest
  abbrev pub is_of : ℕ → Arrival V → Bool
  is_of ingest arrival = arrival.ingest == ingest

  -- letters left the link, where it tells them, and each datagram among them is one arrival, with its bytes
  abbrev pub HaveArrived : List (Arrival V) → Option (List Letter) → Option (List Letter) → Type 0
  HaveArrived arrivals left later = (taken : List Letter) × (left ≡ after_letters taken later) × (datagrams taken ≡ map bytes_of arrivals)

  -- each datagram that left the link is one arrival of the ingest, with one reading of the clock
  pub record Hears (ingest : ℕ) (arrivals : List (Arrival V)) (left later : Option (List Letter)) (before after : Option Ticking) : Type 0 where
    pub numbered : list_all (is_of ingest) arrivals ≡ true
    pub arrived : HaveArrived arrivals left later
    pub gave : Gave (map reading_of arrivals) before after

module _ {V R : Type 0} where
  -- one arrival of these bytes, with one reading of the clock
  pub record HearsOne (ingest : ℕ) (bytes : List ℕ) (made now : List (Entry V R)) (before after : Option Ticking) : Type 0 where
    pub arrival : Arrival V
    pub numbered : arrival.ingest ≡ ingest
    pub bytes_are : arrival.bytes ≡ bytes
    pub ticks : Ticks before after arrival.reading
    pub made_is : now ≡ made ++ Arrived arrival ∷ []

  -- the arrivals that were made of a link
  pub record HearsAll (ingest : ℕ) (made now : List (Entry V R)) (left later : Option (List Letter)) (before after : Option Ticking) : Type 0 where
    pub arrivals : List (Arrival V)
    pub hears : Hears ingest arrivals left later before after
    pub made_are : now ≡ made ++ map Arrived arrivals

  -- what was made of a link: its arrivals, and then one end of the ingest
  pub record Ingests (ingest : ℕ) (made now : List (Entry V R)) (left later : Option (List Letter)) (before after : Option Ticking) : Type 0 where
    pub arrivals : List (Arrival V)
    pub hears : Hears ingest arrivals left later before after
    pub made_are : now ≡ made ++ (map Arrived arrivals ++ Ended ingest ∷ [])

  -- the takes of a releaser, with their answers
  abbrev pub takes_of : ℕ → List R → List (Entry V R)
  takes_of releaser answers = map (Taken releaser) answers

module _ {R : Type 0} (yields : R → Yield) where
  -- what was written of the answers, of which only the last may be that all is over
  abbrev pub Writes : SinkEnd → List R → Option (List ℕ) → Option (List ℕ) → Type 0
  Writes ends.Spent answers written later = (list_all (goes_on yields) answers ≡ true) × (later ≡ with_bytes written (records yields answers))
  Writes ends.Over answers written later = (others : List R) × (last : R) × (answers ≡ others ++ last ∷ []) × (yields last ≡ Over) × (list_all (goes_on yields) others ≡ true)
      × (later ≡ with_bytes written (records yields others))
  Writes ends.Failed answers written later = (others : List R) × (last : R) × (answers ≡ others ++ last ∷ []) × (list_all (goes_on yields) answers ≡ true)
      × AppendsPrefix (with_bytes written (records yields others)) later (record_of yields last)

module _ {V R : Type 0} (yields : R → Yield) where
  -- what was made of answers to takes: the takes, and the records that the answers yield
  pub record Drains (releaser : ℕ) (result : SinkEnd) (made now : List (Entry V R)) (written later : Option (List ℕ)) : Type 0 where
    pub answers : List R
    pub made_are : now ≡ made ++ takes_of releaser answers
    pub writes : Writes yields result answers written later
