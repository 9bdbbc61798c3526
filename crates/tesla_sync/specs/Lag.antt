-- How far the sender's clock may be ahead (RFC 4082, section 3.3.1).
use Rattle.std.specs.Prelude.{ℕ, ◌-◌, ◌^◌, ◌&&◌, Bool, ℤ, pos, negsuc, ◌+ℤ◌, ◌-ℤ◌, int_le, Result, Ok, Err, if◌then◌else◌}
use Rattle.tesla_sync.specs.declared.lag.LagTooLarge.{LagTooLarge}

-- the sender's time less the receiver's, and the drift
abbrev pub lag_sum : ℕ → ℕ → ℕ → ℤ
lag_sum t_s t_r drift = (pos t_s -ℤ pos t_r) +ℤ pos drift

-- the number fits in 64 bits with a sign
abbrev pub fits_lag : ℤ → Bool
fits_lag lag = int_le (negsuc (2 ^ 63 - 1)) lag && int_le lag (pos (2 ^ 63 - 1))

-- that sum, where it fits
abbrev pub lag_judged : ℕ → ℕ → ℕ → Result ℤ LagTooLarge
lag_judged t_s t_r drift = if fits_lag (lag_sum t_s t_r drift) then Ok (lag_sum t_s t_r drift) else Err (record { t_s = t_s; t_r = t_r; drift = drift })
