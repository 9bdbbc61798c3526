-- What is made of the records of a file, one after another.
use Rattle.std.specs.Prelude.{ℕ, ◌+◌, List, [], ◌∷◌, ◌++◌, length, Option, Some, None}
use Rattle.tesla_capture.specs.Grammar.{Grammar}
use Rattle.tesla_capture.specs.Records.{outline_of}
use Rattle.tesla_capture.specs.declared.record.RecordKind.{RecordKind}

pub record Rule (G : Grammar) (Kind : Type 0) : Type 0 where
  -- what is written before all records
  pub begins : List ℕ
  -- why a record is refused, behind those before it, and what is written of it where it isn't
  pub refuses : List G.Record → G.Record → Option Kind
  pub adds : List G.Record → G.Record → List ℕ
  -- what is written where the file ends behind these records
  pub ends : List G.Record → List ℕ
  -- what a refused place of the file itself is called
  pub kind_of : RecordKind → Kind

-- what stands behind the records: the end of the file, a refused place of the file with its kind, or what isn't read
pub data Behind (Kind : Type 0) : Type 0 where
  Ends : Behind Kind
  RefusedAt : ℕ → Kind → Behind Kind
  Unread : Behind Kind

-- a text, and the first place that is refused with its kind, where there is one
pub record Made (Kind : Type 0) : Type 0 where
  pub text : List ℕ
  pub refused : Option (ℕ × Kind)

-- with a text before it
abbrev pub with_text : {Kind : Type 0} → List ℕ → Made Kind → Made Kind
with_text text made = record { text = text ++ made.text; refused = made.refused }

-- what is made behind all records
abbrev pub made_behind : (G : Grammar) (Kind : Type 0) → Rule G Kind → Behind Kind → List G.Record → Made Kind
made_behind G Kind rule Ends before = record { text = rule.ends before; refused = None }
made_behind G Kind rule (RefusedAt offset kind) before = record { text = []; refused = Some (offset, kind) }
made_behind G Kind rule Unread before = record { text = []; refused = None }

-- what is made of a record at a place, and of those behind it
abbrev pub made_first : {Kind : Type 0} → Option Kind → ℕ → List ℕ → Made Kind → Made Kind
made_first None offset text others = with_text text others
made_first (Some kind) offset text others = record { text = []; refused = Some (offset, kind) }

-- what is made of these records, of which the first stands at a place, behind some others
abbrev pub made_of : (G : Grammar) (Kind : Type 0) → Rule G Kind → Behind Kind → ℕ → List G.Record → List G.Record → Made Kind
made_of G Kind rule behind offset before [] = made_behind G Kind rule behind before
made_of G Kind rule behind offset before (first ∷ records) =
    made_first (rule.refuses before first) offset (rule.adds before first) (made_of G Kind rule behind (offset + length (G.record_text first)) (before ++ first ∷ []) records)

-- what stands behind the records of a file
abbrev pub behind_of : (G : Grammar) (Kind : Type 0) → Rule G Kind → Option (ℕ × RecordKind) → Behind Kind
behind_of G Kind rule None = Ends
behind_of G Kind rule (Some fault) = RefusedAt fault.0 (rule.kind_of fault.1)

-- what is made of a whole file: its first record stands behind the head
abbrev pub made : (G : Grammar) (Kind : Type 0) → Rule G Kind → List ℕ → Made Kind
made G Kind rule bytes = with_text rule.begins (made_of G Kind rule (behind_of G Kind rule (outline_of G bytes).fault) 5 [] (outline_of G bytes).records)

-- what is made of the bytes that were read of a file, as far as they go
abbrev pub made_so_far : (G : Grammar) (Kind : Type 0) → Rule G Kind → List ℕ → Made Kind
made_so_far G Kind rule read = with_text rule.begins (made_of G Kind rule Unread 5 [] (outline_of G read).records)
