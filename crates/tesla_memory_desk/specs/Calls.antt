-- Calls that are numbered from 0, and fail at listed numbers.
use Rattle.std.specs.Prelude.{ℕ, ◌-◌, ◌^◌, ◌==◌, ◌&&◌, Bool, nat_lt, List, [], ◌∷◌, ◌++◌}
use Rattle.std.specs.List.{list_any}
use Rattle.tesla_desk.specs.Faults.{raised}

-- the number of the next call, and the numbers of the calls that fail. The number stands still at 2^64 - 1
pub record CallNumbers : Type 0 where
  pub next : ℕ
  pub failing : List ℕ

-- no call yet, with the numbers of those that fail
abbrev pub new_calls : List ℕ → CallNumbers
new_calls failing = record { next = 0; failing = failing }

-- whether the next call fails: it has a number, and that is listed. A call after number 2^64 - 2 has none
abbrev pub next_fails : CallNumbers → Bool
next_fails calls = nat_lt calls.next (2 ^ 64 - 1) && list_any (λ number. number == calls.next) calls.failing

-- one call later
abbrev pub after_call : CallNumbers → CallNumbers
after_call calls = record calls { next = raised calls.next }

-- one more number is listed
abbrev pub with_failing : ℕ → CallNumbers → CallNumbers
with_failing call calls = record calls { failing = calls.failing ++ call ∷ [] }
