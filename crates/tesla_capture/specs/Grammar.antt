-- What a capture or a script is as a file of records. A head of five bytes comes first, and then records to the end of
-- the file. A record begins with a byte of its kind, 1 or 2.
use Rattle.std.specs.Prelude.{◌≡◌, ℕ, ◌≤◌, Bool, List, ◌++◌, length}
use Rattle.std.specs.List.{flat_map, AllByRecursion}
pub use Rattle.tesla_base.specs.Prefix.{AreBytes}
pub use Rattle.tesla_records.specs.Grammar.{limit}

-- what one format of such files has of its own
pub record Grammar : Type 1 where
  -- the first bytes of every file: the magic, and the version
  pub head : List ℕ
  -- its records, the one spelling of each, and the limits of its fields
  pub Record : Type 0
  pub record_text : Record → List ℕ
  pub IsRecord : Record → Type 0
  -- the record of kind 1 with a reading and the bytes that it carries, and how many these are at most
  pub carrying : (reading : ℕ) (bytes : List ℕ) → Record
  pub longest : ℕ
  -- the record of kind 2, and whether it has a reading
  pub bare : (reading : ℕ) → Record
  pub timed : Bool

-- the one spelling of a file
abbrev pub file_text : (G : Grammar) → List G.Record → List ℕ
file_text G records = G.head ++ flat_map G.record_text records

-- the bytes spell the file of these records
pub record IsFile (G : Grammar) (bytes : List ℕ) (records : List G.Record) : Type 0 where
  pub limits : AllByRecursion G.IsRecord records
  pub spelled : bytes ≡ file_text G records
  pub fits : length bytes ≤ limit
