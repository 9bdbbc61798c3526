-- The input and the output of a command, opened and closed.
use Rattle.std.specs.Prelude.{◌≡◌, ◌≢◌, ◌⊎◌, ℕ, Option, IfSome, List, [], ◌∷◌}
use Rattle.tesla_desk.specs.Faults.{HasCauses, HasCausesBeside, after_source, after_sink}
use Rattle.tesla_desk.specs.Outside.{Told, Opened, OfSource, OfSink, page_of, with_openings}
use Rattle.tesla_front.specs.OutcomeView.{OutcomeView, Failed}
use Rattle.tesla_front.specs.Openings.{AnyFailed, Opens}
use Rattle.tesla_front.specs.declared.fault.Fault.{Fault}
use Rattle.tesla_front.specs.declared.fault.Fault.TheVariants as faults
use Rattle.tesla_convert.specs.Meaning.{Converts, IsUnread, Meaning}

-- both were opened, and nothing else has changed but the page of the output
pub record OpensBoth (input output : List ℕ) (left written : Option (List ℕ)) (old new : Told) : Type 0 where
  pub asked : new.openings ≡ with_openings old.openings (OfSource input ∷ OfSink output ∷ [])
  pub pages : (name : List ℕ) → name ≢ output → new.page name ≡ old.page name
  pub lefts : (name : List ℕ) → new.left name ≡ old.left name
  pub live : new.live ≡ old.live
  pub counts : new.faults ≡ old.faults
  pub opened : Opened (old.page input) left
  pub empty : IfSome written (λ bytes. bytes ≡ [])

-- one of them wasn't opened: what was opened is closed, and every page is as before
pub record OpensNotBoth (input output : List ℕ) (old new : Told) (fault : Fault) : Type 0 where
  pub opened : ℕ
  pub opens : Opens (OfSource input ∷ OfSink output ∷ []) opened old new
  pub pages : (name : List ℕ) → new.page name ≡ old.page name
  pub live : new.live ≡ old.live
  pub counts : HasCauses old.faults new.faults (fault ≡ faults.Read) (fault ≡ faults.Write) (fault ≡ faults.Open)
  pub kind : (fault ≡ faults.Read → ⊥) × (fault ≡ faults.Write → ⊥)
  -- where memory was wanting, no byte of the input was read
  pub unread : fault ≡ faults.NoMemory → IsUnread 0 opened (old.page input) (new.left input)

-- a source and a sink under these names were closed, of which the one had this left, and on the other this was written; so often a read and a write failed
pub record ClosesBoth (input output : List ℕ) (left written : Option (List ℕ)) (read_faults write_faults : ℕ) (old new : Told) : Type 0 where
  pub asked : new.openings ≡ old.openings
  pub pages : (name : List ℕ) → name ≢ output → new.page name ≡ old.page name
  pub lefts : (name : List ℕ) → name ≢ input → new.left name ≡ old.left name
  pub own_page : new.page output ≡ page_of written write_faults
  pub own_left : new.left input ≡ left
  pub live : new.live ≡ old.live
  pub counts : new.faults ≡ after_sink (after_source old.faults read_faults) write_faults

-- an input was converted into an output, both under their names
pub record ConvertsFiles (meaning : Meaning) (input output : List ℕ) (old new : Told) (outcome : OutcomeView) : Type 0 where
  pub opened : ℕ
  pub opens : Opens (OfSource input ∷ OfSink output ∷ []) opened old new
  pub converts : Converts meaning (old.page input) (new.left input) (old.page output) (new.page output) outcome
  -- where memory was wanting, no byte of the input was read, unless it may be wanting later
  pub unread : outcome ≡ Failed faults.NoMemory → IsUnread 0 opened (old.page input) (new.left input) ⊎ meaning.MayWant
  pub counts : HasCausesBeside ((outcome ≡ Failed faults.Read) × AnyFailed (OfSource input ∷ OfSink output ∷ []) new) old.faults new.faults (outcome ≡ Failed faults.Read) (outcome ≡ Failed faults.Write) (outcome ≡ Failed faults.Open)
