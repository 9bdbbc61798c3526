-- When lines are due.
use Rattle.std.specs.Prelude.{ℕ, ◌+◌, ◌*◌, Bool, nat_le, nat_lt, if◌then◌else◌}

-- a line is due at a reading, told how many microseconds pass from a line to the next, and since which reading they are counted
abbrev pub is_due_at : ℕ → ℕ → ℕ → Bool
is_due_at every since now = nat_le (since + every) now

-- since which reading they are counted after it: on from the last line, or anew from this reading where the clock went back, or where the next line would be due too
abbrev pub since_after : ℕ → ℕ → ℕ → ℕ
since_after every since now =
    if nat_lt now since then now else (if nat_lt now (since + every) then since else (if nat_lt now (since + 2 * every) then since + every else now))
