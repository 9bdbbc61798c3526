-- The counts of a history.
use Rattle.std.specs.Prelude.{ℕ, List, length, ◌==◌, count_by}
use Rattle.tesla_receiver.specs.Entries.{Arrival, Entry}
use Rattle.tesla_state.specs.declared.report.Report.{Report}
use Rattle.tesla_receiver.specs.History.{arrivals_in, given_in}
use Rattle.tesla_state.specs.Counting.{line_of}

-- how many arrivals have a verdict of this line
abbrev pub count_of : ℕ → List Arrival → ℕ
count_of line arrivals = count_by (λ arrival. line_of arrival.verdict == line) arrivals

abbrev pub report_on : List Arrival → ℕ → Report
report_on arrivals given =
    record {
      arrivals = length arrivals;
      malformed = count_of 1 arrivals;
      foreign = count_of 2 arrivals;
      misfit = count_of 3 arrivals;
      future = count_of 4 arrivals;
      badkey = count_of 5 arrivals;
      late = count_of 6 arrivals;
      repeat = count_of 7 arrivals;
      full = count_of 8 arrivals;
      kept = count_of 9 arrivals;
      keys = count_of 10 arrivals;
      given = given;
    }

-- the report of a history
abbrev pub report_of : List Entry → Report
report_of history = report_on (arrivals_in history) (given_in history)
