-- Which promises a receiver learnt, and which one a message uses.
use Rattle.std.specs.Prelude.{ℕ, ◌-◌, ◌==◌, ◌&&◌, not, Bool, true, false, List, [], ◌∷◌, ◌++◌, length, take, drop, Option, Some, None, bytes_eq, if◌then◌else◌}
use Rattle.std.specs.List.{list_any}
use Rattle.tesla_base.specs.declared.names.Name.{Name}
use Rattle.tesla_early.specs.Payloads.{promise_of}
use Rattle.tesla_early.specs.declared.promise.Promise.{Promise}

-- a promise that an entry of a history taught, and whether an early arrival has used it
pub record Learnt : Type 0 where
  -- the place of the entry in the history, counted from 0
  pub entry : ℕ
  pub promise : Promise
  pub used : Bool

-- what an entry teaches by giving this payload, or accepting it
abbrev pub taught_with : ℕ → Option Promise → List Learnt
taught_with entry (Some promise) = record { entry = entry; promise = promise; used = false } ∷ []
taught_with entry None = []

abbrev pub taught_by : ℕ → List ℕ → List Learnt
taught_by entry payload = taught_with entry (promise_of payload)

-- the promise isn't used, and it's of a message of this name
abbrev pub is_named : Name → Learnt → Bool
is_named name learnt = not learnt.used && (learnt.promise.name.interval == name.interval && learnt.promise.name.number == name.number)

-- it isn't used, and it's of a message of this name whose payload has this digest
abbrev pub is_kept_by : Name → List ℕ → Learnt → Bool
is_kept_by name hash learnt = is_named name learnt && bytes_eq learnt.promise.hash hash

-- the last so many of a list
abbrev pub last_of : {A : Type 0} → ℕ → List A → List A
last_of most xs = drop (length xs - most) xs

-- a list, with those before its last ones as they are
abbrev pub on_last : {A : Type 0} → ℕ → (List A → List A) → List A → List A
on_last most change xs = take (length xs - most) xs ++ change (last_of most xs)

-- the first that passes the test is used
abbrev pub use_first : (Learnt → Bool) → List Learnt → List Learnt
use_first test [] = []
use_first test (learnt ∷ others) = if test learnt then record learnt { used = true } ∷ others else learnt ∷ use_first test others

-- among the last so many, a promise that isn't used is of a message of this name, whose payload has this digest
abbrev pub has_promise : ℕ → List Learnt → Name → List ℕ → Bool
has_promise most learnt name hash = list_any (is_kept_by name hash) (last_of most learnt)
