-- A reply with the sender's time: its spelling, and what is read of it. See RFC 4082, section 3.3.1. The format is the project's own.
use Rattle.std.specs.Prelude.{◌≡◌, ℕ, ◌<◌, ◌^◌, ◌==◌, ◌&&◌, List, [], ◌∷◌, ◌++◌, length, take, Option, Some, None, Result, Ok, Err, bytes_eq, if◌then◌else◌, codes}
use Rattle.std.specs.Int.{w64, to_be_bytes}
use Rattle.tesla_base.specs.Field.{number_at}
use Rattle.tesla_base.specs.declared.names.Key.{Key}
use Rattle.tesla_prf.specs.Hmac.{hmac_of}
use Rattle.tesla_sync.specs.declared.reply.SyncRefusal.{SyncRefusal}
use Rattle.tesla_sync.specs.declared.reply.SyncRefusal.TheVariants.{Malformed, BadTag, OtherAsk}

-- the magic, and the version
abbrev pub reply_head : List ℕ
reply_head = codes "TREP" ++ 1 ∷ []

-- what is tagged: the magic, the version, the receiver's time and the sender's time
abbrev pub reply_prefix : ℕ → ℕ → List ℕ
reply_prefix t_r t_s = codes "TREP" ++ 1 ∷ [] ++ to_be_bytes w64 t_r ++ to_be_bytes w64 t_s

-- that, and its HMAC under the shared key
abbrev pub reply_text : Key → ℕ → ℕ → List ℕ
reply_text key t_r t_s = reply_prefix t_r t_s ++ hmac_of key.0 (reply_prefix t_r t_s)

-- the text is the reply to the ask of that time, by a sender whose clock read the other
pub record IsReply (text : List ℕ) (key : Key) (t_r t_s : ℕ) : Type 0 where
  pub asked : t_r < 2 ^ 64
  pub read : t_s < 2 ^ 64
  pub spelled : text ≡ reply_text key t_r t_s

-- the text has the length and the head of a reply
pub record HasShape (text : List ℕ) : Type 0 where
  pub whole : length text ≡ 53
  pub begins : take 5 text ≡ reply_head

-- both times, where both stand there
abbrev pub both_times : Option ℕ → Option ℕ → Option (ℕ × ℕ)
both_times (Some t_r) (Some t_s) = Some (t_r, t_s)
both_times _ _ = None

-- the times in a text of the length and the head of a reply
abbrev pub times_of : List ℕ → Option (ℕ × ℕ)
times_of text = if (length text == 53) && bytes_eq (take 5 text) reply_head then both_times (number_at w64 text 5) (number_at w64 text 13) else None

-- the text holds these times: it is the one spelling of their reply, and to the ask
abbrev pub times_judged : List ℕ → Key → ℕ → Option (ℕ × ℕ) → Result ℕ SyncRefusal
times_judged text key asked None = Err Malformed
times_judged text key asked (Some times) =
    if bytes_eq text (reply_text key times.0 times.1) then (if times.0 == asked then Ok times.1 else Err (OtherAsk times.0))
    else Err BadTag

-- the sender's time in the reply to the ask of that time, or the first refusal
abbrev pub reply_judged : List ℕ → Key → ℕ → Result ℕ SyncRefusal
reply_judged text key asked = times_judged text key asked (times_of text)
