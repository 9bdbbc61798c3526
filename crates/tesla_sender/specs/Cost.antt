-- What a call of a sender costs at most, in counted steps.
use Rattle.std.specs.Prelude.{ℕ, ◌+◌, ◌-◌, ◌*◌, min}
use Rattle.std.specs.List.{sum_by}
use Rattle.tesla_chain.specs.Cost.{bits}
use Rattle.tesla_sender.specs.Made.{Chain, Stream, chains_of}

-- going on with a chain from the key of one index to that of another: for each key as many steps as the number of the
-- chain's keys has binary digits. Over a long way it is no more than the walk from the seed to that key, and for each of
-- the last `delay + 2` keys one step more than there are digits
abbrev pub steps_along : ℕ → ℕ → Chain → ℕ
steps_along from to chain =
    let digits = bits chain.last in
    min ((to - from) * digits) ((chain.last - to) + (chain.row.delay + 2) * (digits + 1))

-- going on with all chains to an interval, after a call in the interval `before`; keys are made up to the last interval
abbrev pub steps_between : Stream → ℕ → ℕ → ℕ
steps_between stream before interval =
    let last = stream.setup.times.last in
    sum_by (steps_along (min before last) (min interval last)) (chains_of stream)
