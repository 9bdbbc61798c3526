-- What workers may write of answers to takes, whether or not a run ends. It holds at each call of the outside.
use Rattle.std.specs.Prelude.{◌≡◌, ℕ, ◌+◌, Bool, true, List, [], ◌∷◌, ◌++◌, length, Option, Some, IfSome}
use Rattle.tesla_desk.specs.Outside.{with_bytes}
use Rattle.tesla_receiver.specs.declared.history.Arrival.{Arrival}
use Rattle.tesla_receiver.specs.declared.history.Entry.{Entry}
use Rattle.tesla_receiver.specs.declared.history.Entry.TheVariants.{Arrived, Taken, Ended}
use Rattle.tesla_turn.specs.Held.{Held, Stood}
use Rattle.tesla_turn.specs.History.{calls_by, entries}
use Rattle.tesla_turn.specs.Permitted.{ArePermitted, OnlyPermitted}
use Rattle.tesla_turn.specs.declared.view.Call.{Call}
use Rattle.tesla_shared.specs.Whole.{pass_of, replies_by}
use Rattle.tesla_shared.specs.Workers.{takes_of}
use Rattle.tesla_shared.specs.Yields.{Yield, records}

-- ---- the calls of workers

module _ {V R : Type 0} where
  -- an arrival behind so many calls of its pass is the datagram of that number, at a reading that a clock gave when it was asked for that datagram
  abbrev pub IsRead : (ℕ → List ℕ → ℕ → Bool) → List (Entry V R) → Entry V R → Type 0
  IsRead read_for made (Arrived arrival) = read_for (length made) arrival.bytes arrival.reading ≡ true
  IsRead read_for made (Taken releaser reply) = Unit {0}
  IsRead read_for made (Ended ingest) = Unit {0}

  -- a call of a worker, where there are so many links: it is made by the pass of its worker, and an arrival was read so
  pub record IsOfWorker (read_for : ℕ → List ℕ → ℕ → Bool) (links pass : ℕ) (made : List (Entry V R)) (entry : Entry V R) : Type 0 where
    pub own : pass ≡ pass_of links entry
    pub read : IsRead read_for made entry

-- ---- what may be written

module _ {V R : Type 0} (yields : R → Yield) where
  -- An answer is due to the releaser that has written this, where its output tells that. There is a history that is legal, of calls of the workers of so many links: of each ingest the n-th arrival is the n-th datagram that its link brought, at a reading that a clock gave when it was asked for that one. The answer is the last that the releaser got, and what was written are the records of those before
  pub record IsDue (is_legal : List (Entry V R) → Type 0) (links : ℕ) (read_for : ℕ → List ℕ → ℕ → Bool) (releaser : ℕ) (written : Option (List ℕ)) (reply : R) : Type 0 where
    pub log : List (Call (Entry V R))
    pub legal : is_legal (entries log)
    pub calls : ArePermitted (IsOfWorker read_for links) log
    pub answers : List R
    pub replies : replies_by releaser (entries log) ≡ answers ++ reply ∷ []
    pub written_is : IfSome written (λ bytes. bytes ≡ records yields answers)

-- ---- for one pass

module _ {X C V R : Type 0} (config_of : X → C) (stands : X → List (Entry V R) → Type 0) (permits : C → ℕ → List (Entry V R) → Entry V R → Type 0) (yields : R → Yield) where
  -- an answer was taken by a pass whose output has this written: of the history that it has seen then, each call was permitted
  pub record IsTaken (releaser : ℕ) (before : Held C (Entry V R)) (first written : Option (List ℕ)) (reply : R) : Type 0 where
    pub pass : Held C (Entry V R)
    pub number : pass.number ≡ before.number
    pub config : pass.config ≡ before.config
    pub stood : Stood config_of stands pass
    pub permitted : OnlyPermitted permits pass
    pub answers : List R
    pub calls : calls_by pass.number pass.seen ≡ before.made ++ takes_of releaser (answers ++ reply ∷ [])
    pub written_is : written ≡ with_bytes first (records yields answers)

module _ {C V R : Type 0} (permits : C → ℕ → List (Entry V R) → Entry V R → Type 0) where
  -- a pass may make arrivals of an ingest, of which the n-th from now on was read for the datagram of the number n, and its end
  abbrev pub PermitsArrivals : (ℕ → List ℕ → ℕ → Bool) → ℕ → Held C (Entry V R) → Type 0
  PermitsArrivals read_for ingest pass =
      (cfg : C) (made : List (Entry V R)) (number : ℕ) (arrival : Arrival V) → pass.config ≡ Some cfg → length made ≡ length pass.made + number → arrival.ingest ≡ ingest
      → read_for number arrival.bytes arrival.reading ≡ true → permits cfg pass.number made (Arrived arrival)

  abbrev pub PermitsEnd : ℕ → Held C (Entry V R) → Type 0
  PermitsEnd ingest pass = (cfg : C) (made : List (Entry V R)) → pass.config ≡ Some cfg → permits cfg pass.number made (Ended ingest)

  -- a pass may make takes of a releaser
  abbrev pub PermitsTakes : ℕ → Held C (Entry V R) → Type 0
  PermitsTakes releaser pass = (cfg : C) (made : List (Entry V R)) (reply : R) → pass.config ≡ Some cfg → permits cfg pass.number made (Taken releaser reply)
