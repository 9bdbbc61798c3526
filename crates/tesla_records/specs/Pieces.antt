-- What a reader has read ahead in its piece.
use Rattle.std.specs.Prelude.{ℕ, ◌-◌, List, take, drop, Option, Bool}
use Rattle.tesla_desk.specs.Outside.{after_bytes}
use Rattle.tesla_records.specs.Steps.{Progress}
use Rattle.tesla_records.specs.declared.pieces.PieceReader.{PieceReader}

-- the bytes that were read and not taken as records yet
abbrev pub pending : PieceReader → List ℕ
pending reader = take (reader.until - reader.from) (drop reader.from reader.piece)

-- what isn't taken yet: what a reader has pending, and then what its source has left
abbrev pub ahead : PieceReader → Option (List ℕ) → Option (List ℕ)
ahead reader left = after_bytes (pending reader) left

-- what callers see of a reader
abbrev pub progress : {H : Type 0} → PieceReader → Bool → Option H → Progress H
progress reader going head = record { pending = pending reader; place = reader.place; going = going; head = head }
