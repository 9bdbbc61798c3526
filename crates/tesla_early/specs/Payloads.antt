-- Payloads that promise a later message, and plain ones. The form is the project's own, after the immediate authentication of Perrig, Canetti, Tygar and Song (IEEE S&P 2000).
use Rattle.std.specs.Prelude.{◌≡◌, ◌<◌, ◌^◌, ◌==◌, ◌&&◌, ℕ, List, [], ◌∷◌, ◌++◌, length, take, drop, Option, Some, None, nat_le, slice_index, if◌then◌else◌}
use Rattle.std.specs.Int.{w16, w32, from_be_bytes, to_be_bytes}
use Rattle.sha2.specs.Sha256.{sha256}
use Rattle.tesla_base.specs.declared.names.Name.{Name}
use Rattle.tesla_early.specs.declared.promise.Promise.{Promise}

-- the promise of a message: its name, and the digest of its payload
abbrev pub promise_for : Name → List ℕ → Promise
promise_for name payload = record { name = name; hash = sha256 payload }

-- a payload that promises: the byte 1, the interval and the number of the promised message, the digest of its payload, and a body of its own
abbrev pub promising_text : Promise → List ℕ → List ℕ
promising_text promise body = 1 ∷ [] ++ to_be_bytes w32 promise.name.interval ++ to_be_bytes w16 promise.name.number ++ promise.hash ++ body

-- a payload without a promise: the byte 0, and a body
abbrev pub plain_text : List ℕ → List ℕ
plain_text body = 0 ∷ body

-- the promise in the fields behind the first byte
abbrev pub promise_in : List ℕ → Promise
promise_in fields = record {
  name = record { interval = from_be_bytes w32 (take 4 fields); number = from_be_bytes w16 (take 2 (drop 4 fields)) };
  hash = take 32 (drop 6 fields);
}

-- the promise of a payload: there is one where the payload has at least 39 bytes, and the first is 1
abbrev pub promise_of : List ℕ → Option Promise
promise_of payload = if nat_le 39 (length payload) && slice_index payload 0 == 1 then Some (promise_in (drop 1 payload)) else None

-- the fields of a promise are within their sizes
pub record IsPromise (promise : Promise) : Type 0 where
  pub interval : promise.name.interval < 2 ^ 32
  pub number : promise.name.number < 2 ^ 16
  pub hash : length promise.hash ≡ 32

-- the payload spells the promise, with some body
pub record Promises (payload : List ℕ) (promise : Promise) : Type 0 where
  pub fields : IsPromise promise
  pub body : List ℕ
  pub spelled : payload ≡ promising_text promise body
