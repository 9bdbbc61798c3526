-- An ask for the sender's time: its spelling, and what is read of it. See RFC 4082, section 3.3.1. The format is the project's own.
use Rattle.std.specs.Prelude.{◌≡◌, ℕ, ◌<◌, ◌^◌, List, [], ◌∷◌, ◌++◌, Option, Some, None, bytes_eq, if◌then◌else◌, codes}
use Rattle.std.specs.Int.{w64, to_be_bytes}
use Rattle.tesla_base.specs.Field.{number_at}

-- the magic, the version, and the receiver's time
abbrev pub ask_text : ℕ → List ℕ
ask_text t_r = codes "TASK" ++ 1 ∷ [] ++ to_be_bytes w64 t_r

-- the text is the ask of a receiver whose clock read that time
pub record IsAsk (text : List ℕ) (t_r : ℕ) : Type 0 where
  pub limit : t_r < 2 ^ 64
  pub spelled : text ≡ ask_text t_r

-- the time, where the text is the one spelling of its ask
abbrev pub if_spelled : List ℕ → Option ℕ → Option ℕ
if_spelled text None = None
if_spelled text (Some t_r) = if bytes_eq text (ask_text t_r) then Some t_r else None

-- the time whose ask the text is
abbrev pub ask_of : List ℕ → Option ℕ
ask_of text = if_spelled text (number_at w64 text 5)
