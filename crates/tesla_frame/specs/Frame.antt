-- Frames and their one spelling. RFC 4082 fixes no format on the wire; this one is the project's own.
use Rattle.std.specs.Prelude.{◌≡◌, ℕ, ◌<◌, ◌≤◌, ◌^◌, List, [], ◌∷◌, ◌++◌, length, Option, Some, None, IfSome, codes}
use Rattle.std.specs.List.{flat_map, AllByRecursion}
use Rattle.std.specs.Int.{w16, w32, w64, to_be_bytes}
pub use Rattle.tesla_base.specs.Prefix.{AreBytes}
use Rattle.tesla_base.specs.Version.{number_of, most_chains, IsTagLength}
use Rattle.tesla_base.specs.declared.version.Version.{Version}
use Rattle.tesla_base.specs.declared.version.Version.TheVariants.{One, Two}
use Rattle.tesla_base.specs.declared.names.Key.{Key}
use Rattle.tesla_base.specs.declared.names.Name.{Name}
use Rattle.tesla_base.specs.declared.names.StreamId.{StreamId}
use Rattle.tesla_frame.specs.declared.row.KeyRow.{KeyRow}

-- what a data frame carries for one chain: a tag, and perhaps a key
pub record TagRow : Type 0 where
  pub tag : List ℕ
  pub key : Option Key

-- a message, with a row for each chain, the first for chain 0; its tags have one length
pub record DataFrame : Type 0 where
  pub version : Version
  pub stream : StreamId
  pub name : Name
  pub payload : List ℕ
  pub tag_length : ℕ
  pub rows : List TagRow

-- keys alone
pub record KeysFrame : Type 0 where
  pub version : Version
  pub stream : StreamId
  pub rows : List KeyRow

pub data Frame : Type 0 where
  Data : (data_frame : DataFrame) → Frame
  Disclosure : (keys_frame : KeysFrame) → Frame

-- the first bytes of every frame: the magic, and the version
abbrev pub head : Version → List ℕ
head version = codes "TSLA" ++ number_of version ∷ []

-- how many rows a data frame has, and in version 2 how long their tags are
abbrev pub counts_text : Version → ℕ → ℕ → List ℕ
counts_text One count size = count ∷ []
counts_text Two count size = count ∷ size ∷ []

-- a flag, and the key where there is one
abbrev pub key_text : Option Key → List ℕ
key_text None = 0 ∷ []
key_text (Some key) = 1 ∷ key.0

abbrev pub tag_row_text : TagRow → List ℕ
tag_row_text row = row.tag ++ key_text row.key

abbrev pub key_row_text : KeyRow → List ℕ
key_row_text row = row.chain.0 ∷ [] ++ to_be_bytes w32 row.index ++ row.key.0

-- the one spelling of a frame
abbrev pub frame_text : Frame → List ℕ
frame_text (Data f) =
    head f.version ++ 1 ∷ [] ++ to_be_bytes w64 f.stream.0 ++ to_be_bytes w32 f.name.interval ++ to_be_bytes w16 f.name.number
    ++ to_be_bytes w16 (length f.payload) ++ f.payload ++ counts_text f.version (length f.rows) f.tag_length
    ++ flat_map tag_row_text f.rows
frame_text (Disclosure f) =
    head f.version ++ 2 ∷ [] ++ to_be_bytes w64 f.stream.0 ++ length f.rows ∷ [] ++ flat_map key_row_text f.rows

abbrev pub IsKey : Key → Type 0
IsKey key = (length key.0 ≡ 32) × AreBytes key.0

pub record IsTagRow (size : ℕ) (row : TagRow) : Type 0 where
  pub tag : length row.tag ≡ size
  pub bytes : AreBytes row.tag
  pub key : IfSome row.key IsKey

pub record IsKeyRow (row : KeyRow) : Type 0 where
  pub chain : row.chain.0 < 256
  pub index : row.index < 2 ^ 32
  pub key : IsKey row.key

-- each chain's number is above the one before
abbrev pub ChainsRise : List KeyRow → Type 0
ChainsRise [] = Unit {0}
ChainsRise (row ∷ []) = Unit {0}
ChainsRise (row ∷ next ∷ rows) = (row.chain.0 < next.chain.0) × ChainsRise (next ∷ rows)

-- the limits of a data frame's fields
pub record IsDataFrame (f : DataFrame) : Type 0 where
  pub stream : f.stream.0 < 2 ^ 64
  pub interval : f.name.interval < 2 ^ 32
  pub number : f.name.number < 2 ^ 16
  pub payload : length f.payload ≤ 1200
  pub bytes : AreBytes f.payload
  pub tag_length : IsTagLength f.version f.tag_length
  pub some : 1 ≤ length f.rows
  pub few : length f.rows ≤ most_chains f.version
  pub rows : AllByRecursion (IsTagRow f.tag_length) f.rows

-- the limits of a disclosure frame's fields
pub record IsKeysFrame (f : KeysFrame) : Type 0 where
  pub stream : f.stream.0 < 2 ^ 64
  pub some : 1 ≤ length f.rows
  pub few : length f.rows ≤ most_chains f.version
  pub rows : AllByRecursion IsKeyRow f.rows
  pub rise : ChainsRise f.rows

abbrev pub HasLimits : Frame → Type 0
HasLimits (Data f) = IsDataFrame f
HasLimits (Disclosure f) = IsKeysFrame f

-- the bytes spell the frame
pub record IsFrame (bytes : List ℕ) (frame : Frame) : Type 0 where
  pub limits : HasLimits frame
  pub spelled : bytes ≡ frame_text frame
