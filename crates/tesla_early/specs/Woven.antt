-- Payloads that each promise a later message.
use Rattle.std.specs.Prelude.{◌≡◌, ℕ, ◌+◌, ◌-◌, List, [], ◌∷◌, Option, Some, None, slice_get}
use Rattle.tesla_base.specs.declared.names.Name.{Name}
use Rattle.tesla_early.specs.Payloads.{plain_text, promise_for, promising_text}

-- the payload of a message with this body, told the name and the payload of the message that it promises, where there is one
abbrev pub woven_payload : Option Name → Option (List ℕ) → List ℕ → List ℕ
woven_payload (Some name) (Some later) body = promising_text (promise_for name later) body
woven_payload (Some name) None body = plain_text body
woven_payload None later body = plain_text body

-- the payloads of messages with these names and bodies, each of which promises the one `gap` messages behind it; the last ones promise none
abbrev pub woven : ℕ → List Name → List (List ℕ) → List (List ℕ)
woven gap [] bodies = []
woven gap (name ∷ names) [] = []
woven gap (name ∷ names) (body ∷ bodies) =
    let later : List (List ℕ) = woven gap names bodies in
    woven_payload (slice_get names (gap - 1)) (slice_get later (gap - 1)) body ∷ later

-- payload k is that of body k, and promises payload `k + gap`, which has name `k + gap`
pub record IsWovenAt (gap : ℕ) (names : List Name) (bodies payloads : List (List ℕ)) (k : ℕ) (body : List ℕ) : Type 0 where
  pub body_is : slice_get bodies k ≡ Some body
  pub payload_is : slice_get payloads k ≡ Some (woven_payload (slice_get names (k + gap)) (slice_get payloads (k + gap)) body)
