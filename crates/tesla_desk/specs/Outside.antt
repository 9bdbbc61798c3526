-- What the calls of sources, sinks and desks do to the bytes that these tell.
use Rattle.std.specs.Prelude.{◌≡◌, ◌≢◌, ℕ, ◌<◌, ◌≤◌, Bool, nat_lt, Option, Some, None, IfSome, Result, Ok, Err, OnErr, List, [], ◌∷◌, ◌++◌, length, take}
use Rattle.std.specs.Option.{option_map}
use Rattle.tesla_desk.specs.Faults.{Faults, CountsOpening, after_source, after_sink, raised}
use Rattle.tesla_desk.specs.Live.{Live, remainder_of, mail_of}
use Rattle.tesla_desk.specs.declared.link.Letter.{Letter}
use Rattle.tesla_desk.specs.declared.source.ReadStep.{ReadStep}
use Rattle.tesla_desk.specs.declared.source.ReadStep.TheVariants.{Got, End, Failed as ReadFailed}
use Rattle.tesla_desk.specs.declared.sink.WriteStep.{WriteStep}
use Rattle.tesla_desk.specs.declared.sink.WriteStep.TheVariants.{Took, Failed as WriteFailed}
use Rattle.tesla_desk.specs.declared.desk.OpenRefusal.{OpenRefusal}
use Rattle.tesla_desk.specs.declared.desk.OpenRefusal.TheVariants as refusals

-- what a desk tells of the bytes under a name: nothing, that there are none, or the bytes and whether the sink that was closed last under the name failed
pub data Page : Type 0 where
  Untold : Page
  Absent : Page
  Holds : List ℕ → Bool → Page

-- the page under the name of a closed sink, from the bytes that it told and its count of faults
abbrev pub page_of : Option (List ℕ) → ℕ → Page
page_of None faults = Untold
page_of (Some bytes) faults = Holds bytes (nat_lt 0 faults)

-- what is left, where it is told, was led by these bytes
abbrev pub after_bytes : List ℕ → Option (List ℕ) → Option (List ℕ)
after_bytes bytes left = option_map (λ rest. bytes ++ rest) left

-- what was written, where it is told, with these bytes at its end
abbrev pub with_bytes : Option (List ℕ) → List ℕ → Option (List ℕ)
with_bytes written bytes = option_map (λ prefix. prefix ++ bytes) written

-- the first n bytes of what was left now stand at the front of this slice
pub record Brings (n : ℕ) (old new : Option (List ℕ)) (into : List ℕ) : Type 0 where
  pub some : 0 < n
  pub fits : n ≤ length into
  pub left : old ≡ after_bytes (take n into) new

-- nothing is left
pub record Ends (old new : Option (List ℕ)) : Type 0 where
  pub empty : IfSome old (λ rest. rest ≡ [])
  pub left : new ≡ old

-- what one read does to what is left, and to the slice that it reads into
abbrev pub Reads : Option (List ℕ) → Option (List ℕ) → List ℕ → ReadStep → Type 0
Reads old new into (Got n) = Brings n old new into
Reads old new into End = Ends old new
Reads old new into ReadFailed = new ≡ old

-- the first n bytes of the piece were appended
pub record Appends (n : ℕ) (old new : Option (List ℕ)) (piece : List ℕ) : Type 0 where
  pub fits : n ≤ length piece
  pub written : new ≡ with_bytes old (take n piece)

-- what one write does to what was written
abbrev pub Writes : Option (List ℕ) → Option (List ℕ) → List ℕ → WriteStep → Type 0
Writes old new piece (Took n) = Appends n old new piece
Writes old new piece WriteFailed = new ≡ old

-- the write failed, or took none of the bytes that there were
abbrev pub Stalls : List ℕ → WriteStep → Type 0
Stalls piece (Took n) = (n ≡ 0) × (0 < length piece)
Stalls piece WriteFailed = Unit {0}

-- some front of the piece was appended
abbrev pub AppendsPrefix : Option (List ℕ) → Option (List ℕ) → List ℕ → Type 0
AppendsPrefix old new piece = (n : ℕ) × Appends n old new piece

-- a new source has what its desk tells under the name
abbrev pub Opened : Page → Option (List ℕ) → Type 0
Opened Untold left = left ≡ None
Opened Absent left = ⊥
Opened (Holds bytes failed) left = left ≡ Some bytes

-- an opening that a desk was asked for, with the name
pub data Opening : Type 0 where
  OfSource : List ℕ → Opening
  OfSink : List ℕ → Opening
  OfLink : List ℕ → Opening
  OfPost : List ℕ → Opening

-- the openings asked for, where they are told, with one more at the end
abbrev pub with_opening : Option (List Opening) → Opening → Option (List Opening)
with_opening told opening = option_map (λ before. before ++ opening ∷ []) told

-- the openings asked for after this one: one that found no memory is not among them
abbrev pub after_opening : {A : Type 0} → Opening → Result A OpenRefusal → Option (List Opening) → Option (List Opening)
after_opening opening (Ok it) told = with_opening told opening
after_opening opening (Err refusals.Failed) told = with_opening told opening
after_opening opening (Err refusals.NoMemory) told = told

-- the openings asked for, where they are told, with these at the end
abbrev pub with_openings : Option (List Opening) → List Opening → Option (List Opening)
with_openings told openings = option_map (λ before. before ++ openings) told

-- of these openings a front was asked for, in order
abbrev pub AsksPrefix : List Opening → Option (List Opening) → Option (List Opening) → Type 0
AsksPrefix openings before now = (n : ℕ) × (now ≡ with_openings before (take n openings))

-- what a desk tells: the page under each name, what was left of the source that was closed last under it, its counts of faults, the openings that it was asked for, and what it tells of links, posts and clocks
pub record Told : Type 0 where
  pub page : List ℕ → Page
  pub left : List ℕ → Option (List ℕ)
  pub faults : Faults
  pub openings : Option (List Opening)
  pub live : Live

-- what an opening of a source does to what its desk tells
pub record OpensSource {A : Type 0} (name : List ℕ) (result : Result A OpenRefusal) (before now : Told) : Type 0 where
  pub pages : (n : List ℕ) → now.page n ≡ before.page n
  pub lefts : (n : List ℕ) → now.left n ≡ before.left n
  pub counts : CountsOpening before.faults now.faults (result ≡ Err refusals.Failed)
  pub asked : now.openings ≡ after_opening (OfSource name) result before.openings
  pub live : now.live ≡ before.live

-- what an opening of a sink does to what its desk tells
pub record OpensSink {A : Type 0} (name : List ℕ) (result : Result A OpenRefusal) (before now : Told) : Type 0 where
  pub refused : OnErr result (now.page name ≡ before.page name)
  pub pages : (n : List ℕ) → n ≢ name → now.page n ≡ before.page n
  pub lefts : (n : List ℕ) → now.left n ≡ before.left n
  pub counts : CountsOpening before.faults now.faults (result ≡ Err refusals.Failed)
  pub asked : now.openings ≡ after_opening (OfSink name) result before.openings
  pub live : now.live ≡ before.live

-- what the closing of a source with this name, this left and this many faults does to what its desk tells
pub record ClosesSource (name : List ℕ) (left : Option (List ℕ)) (faults : ℕ) (before now : Told) : Type 0 where
  pub pages : (n : List ℕ) → now.page n ≡ before.page n
  pub own : now.left name ≡ left
  pub lefts : (n : List ℕ) → n ≢ name → now.left n ≡ before.left n
  pub counts : now.faults ≡ after_source before.faults faults
  pub asked : now.openings ≡ before.openings
  pub live : now.live ≡ before.live

-- what the closing of a sink with this name, these bytes and this many faults does to what its desk tells
pub record ClosesSink (name : List ℕ) (written : Option (List ℕ)) (faults : ℕ) (before now : Told) : Type 0 where
  pub own : now.page name ≡ page_of written faults
  pub pages : (n : List ℕ) → n ≢ name → now.page n ≡ before.page n
  pub lefts : (n : List ℕ) → now.left n ≡ before.left n
  pub counts : now.faults ≡ after_sink before.faults faults
  pub asked : now.openings ≡ before.openings
  pub live : now.live ≡ before.live

-- what an opening of a link does to what its desk tells
pub record OpensLink {A : Type 0} (name : List ℕ) (result : Result A OpenRefusal) (before now : Told) : Type 0 where
  pub pages : (n : List ℕ) → now.page n ≡ before.page n
  pub lefts : (n : List ℕ) → now.left n ≡ before.left n
  pub counts : CountsOpening before.faults now.faults (result ≡ Err refusals.Failed)
  pub asked : now.openings ≡ after_opening (OfLink name) result before.openings
  pub live : now.live ≡ before.live

-- what the closing of a link with this name, these letters left and this many faults does to what its desk tells
pub record ClosesLink (name : List ℕ) (left : Option (List Letter)) (faults : ℕ) (before now : Told) : Type 0 where
  pub own : now.live.left name ≡ remainder_of left faults
  pub others : (n : List ℕ) → n ≢ name → now.live.left n ≡ before.live.left n
  pub wires : (n : List ℕ) → now.live.wire n ≡ before.live.wire n
  pub mails : (n : List ℕ) → now.live.mail n ≡ before.live.mail n
  pub clocks : (now.live.readings ≡ before.live.readings) × (now.live.made ≡ before.live.made)
  pub pages : (n : List ℕ) → now.page n ≡ before.page n
  pub lefts : (n : List ℕ) → now.left n ≡ before.left n
  pub counts : now.faults ≡ after_source before.faults faults
  pub asked : now.openings ≡ before.openings

-- what an opening of a post does to what its desk tells
pub record OpensPost {A : Type 0} (name : List ℕ) (result : Result A OpenRefusal) (before now : Told) : Type 0 where
  pub pages : (n : List ℕ) → now.page n ≡ before.page n
  pub lefts : (n : List ℕ) → now.left n ≡ before.left n
  pub counts : CountsOpening before.faults now.faults (result ≡ Err refusals.Failed)
  pub asked : now.openings ≡ after_opening (OfPost name) result before.openings
  pub live : now.live ≡ before.live

-- what the closing of a post with this name, these datagrams and this many faults does to what its desk tells
pub record ClosesPost (name : List ℕ) (sent : Option (List (List ℕ))) (faults : ℕ) (before now : Told) : Type 0 where
  pub own : now.live.mail name ≡ mail_of sent faults
  pub others : (n : List ℕ) → n ≢ name → now.live.mail n ≡ before.live.mail n
  pub wires : (n : List ℕ) → now.live.wire n ≡ before.live.wire n
  pub remainders : (n : List ℕ) → now.live.left n ≡ before.live.left n
  pub clocks : (now.live.readings ≡ before.live.readings) × (now.live.made ≡ before.live.made)
  pub pages : (n : List ℕ) → now.page n ≡ before.page n
  pub lefts : (n : List ℕ) → now.left n ≡ before.left n
  pub counts : now.faults ≡ after_sink before.faults faults
  pub asked : now.openings ≡ before.openings

-- what the making of a clock does to what its desk tells: one clock more was made
pub record MakesClock (before now : Told) : Type 0 where
  pub counted : now.live.made ≡ option_map raised before.live.made
  pub same : now ≡ record before { live = record before.live { made = now.live.made } }
