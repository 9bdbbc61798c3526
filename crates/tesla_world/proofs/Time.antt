-- The lag of one exchange bounds the clocks.
use Rattle.std.proofs.Common.{◌≡◌, ℕ, ℤ, Ok, arith}
use Rattle.std.proofs.lemmas.Int.{ints}
use Rattle.tesla_sync.specs.Lag.{lag_judged, lag_sum}
use Rattle.tesla_world.specs.Laws.{TimeLaw}

-- what is judged is the sum
pub time_bounds : ((t_s t_r drift : ℕ) (lag : ℤ) → lag_judged t_s t_r drift ≡ Ok lag → lag ≡ lag_sum t_s t_r drift) → TimeLaw
time_bounds sum asked at_ask answered drift lag world later drifted judged i j sent received text bytes before left right =
    let is : lag ≡ lag_sum answered asked drift = sum answered asked drift lag judged in
    let apart = drifted i j sent received text bytes before left right in
    omega (arith, ints, apart)
