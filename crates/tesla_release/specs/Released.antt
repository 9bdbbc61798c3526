-- What a contract sees of a queue of released packets.
use Rattle.std.specs.Prelude.{ℕ, ◌+◌, ◌-◌, ◌^◌, List, Option, None, Some, min}
use Rattle.tesla_release.specs.declared.queue.Waiting.{Waiting}

-- how many entries can wait, those that wait, the first released first, and how many were given
pub record Released : Type 0 where
  pub capacity : ℕ
  pub waiting : List Waiting
  pub given : ℕ

-- how many were given after an answer: one more where it is an entry, at most 2^64 - 1
abbrev pub given_after : ℕ → Option Waiting → ℕ
given_after given None = given
given_after given (Some entry) = min (given + 1) (2 ^ 64 - 1)
