-- What a file of records is, in any grammar. A head of a fixed size comes first, and then records to the end of the file.
use Rattle.std.specs.Prelude.{◌≡◌, ℕ, ◌<◌, ◌≤◌, ◌^◌, List, [], ◌++◌, length, take, flat_map}
use Rattle.std.specs.List.{AllByRecursion}
use Rattle.tesla_base.specs.Prefix.{AreBytes}

-- how many bytes a file has at most
abbrev pub limit : ℕ
limit = 2 ^ 40

-- what the bytes that were read of a record tell, whatever follows them
pub data Parsed (R K : Type 0) : Type 0 where
  -- nothing yet: only more bytes tell
  Awaits : Parsed R K
  -- a whole record of so many bytes stands at their start
  Whole : R → ℕ → Parsed R K
  -- no record begins so
  Bad : K → Parsed R K

-- what the bytes that were read of a head tell, whatever follows them
pub data ParsedHead (H : Type 0) : Type 0 where
  AwaitsHead : ParsedHead H
  HeadIs : H → ParsedHead H
  NoHead : ParsedHead H

-- what one format of files has of its own
pub record Grammar : Type 1 where
  -- what a head tells, its one spelling, and the limits of its fields
  pub Head : Type 0
  pub head_text : Head → List ℕ
  pub IsHead : Head → Type 0
  pub head_size : ℕ
  -- what is read of a head
  pub parse_head : List ℕ → ParsedHead Head
  -- the records, the one spelling of each, the limits of its fields, and how many bytes one has at most
  pub Record : Type 0
  pub record_text : Record → List ℕ
  pub IsRecord : Record → Type 0
  pub longest : ℕ
  -- why no record begins with some bytes, and what is read of a record
  pub Kind : Type 0
  pub parse : List ℕ → Parsed Record Kind

-- what is read of heads and records from bytes is their one spelling, and what was told of some bytes stays so, whatever follows them
pub record IsGrammar (G : Grammar) : Type 0 where
  -- heads
  pub head_some : 1 ≤ G.head_size
  pub head_few : G.head_size < 4096
  pub head_awaits : (bytes : List ℕ) → G.parse_head bytes ≡ AwaitsHead → length bytes < G.head_size
  pub head_is : (bytes more : List ℕ) (head : G.Head) → G.parse_head bytes ≡ HeadIs head → (G.parse_head (bytes ++ more) ≡ HeadIs head) × (AreBytes bytes → take G.head_size bytes ≡ G.head_text head) × (G.head_size ≤ length bytes)
  pub head_limits : (bytes : List ℕ) (head : G.Head) → AreBytes bytes → G.parse_head bytes ≡ HeadIs head → G.IsHead head
  pub head_none : (bytes more : List ℕ) → G.parse_head bytes ≡ NoHead → G.parse_head (bytes ++ more) ≡ NoHead
  pub head_read : (head : G.Head) (more : List ℕ) → G.IsHead head → (G.parse_head (G.head_text head ++ more) ≡ HeadIs head) × (length (G.head_text head) ≡ G.head_size)
  -- records
  pub few : G.longest < 4096
  pub none : G.parse [] ≡ Awaits
  pub awaits : (bytes : List ℕ) → G.parse bytes ≡ Awaits → length bytes < G.longest
  pub whole : (bytes more : List ℕ) (it : G.Record) (size : ℕ) → G.parse bytes ≡ Whole it size → (G.parse (bytes ++ more) ≡ Whole it size) × (AreBytes bytes → take size bytes ≡ G.record_text it) × (size ≤ length bytes) × (1 ≤ size)
  pub limits : (bytes : List ℕ) (it : G.Record) (size : ℕ) → AreBytes bytes → G.parse bytes ≡ Whole it size → G.IsRecord it
  pub bad : (bytes more : List ℕ) (kind : G.Kind) → G.parse bytes ≡ Bad kind → G.parse (bytes ++ more) ≡ Bad kind
  pub read : (it : G.Record) (more : List ℕ) → G.IsRecord it → G.parse (G.record_text it ++ more) ≡ Whole it (length (G.record_text it))

-- the one spelling of a file
abbrev pub file_text : (G : Grammar) → G.Head → List G.Record → List ℕ
file_text G head records = G.head_text head ++ flat_map G.record_text records

-- the bytes spell the file of this head and these records
pub record IsFile (G : Grammar) (bytes : List ℕ) (head : G.Head) (records : List G.Record) : Type 0 where
  pub head_limits : G.IsHead head
  pub limits : AllByRecursion G.IsRecord records
  pub spelled : bytes ≡ file_text G head records
  pub fits : length bytes ≤ limit
