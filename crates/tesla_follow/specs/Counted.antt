-- The counts of a followed history, over all epochs together. Each sum of counts stands still at 2^64 - 1.
use Rattle.std.specs.Prelude.{ℕ, ◌+◌, ◌-◌, ◌^◌, min, List, length}
use Rattle.std.specs.List.{fold, sum_by}
use Rattle.tesla_receiver.specs.Report.{report_of}
use Rattle.tesla_receiver.specs.Events.{waiting_in}
use Rattle.tesla_state.specs.declared.report.Report.{Report}
use Rattle.tesla_follow.specs.Followed.{Followed, FollowedEpoch, open_epochs}

abbrev pub no_report : Report
no_report = record { arrivals = 0; malformed = 0; foreign = 0; misfit = 0; future = 0; badkey = 0; late = 0; repeat = 0; full = 0; kept = 0; keys = 0; given = 0 }

-- the sum of two counts, which stands still at 2^64 - 1
abbrev pub sum_of : ℕ → ℕ → ℕ
sum_of a b = min (a + b) (2 ^ 64 - 1)

abbrev pub added : Report → Report → Report
added a b = record {
  arrivals = sum_of a.arrivals b.arrivals;
  malformed = sum_of a.malformed b.malformed;
  foreign = sum_of a.foreign b.foreign;
  misfit = sum_of a.misfit b.misfit;
  future = sum_of a.future b.future;
  badkey = sum_of a.badkey b.badkey;
  late = sum_of a.late b.late;
  repeat = sum_of a.repeat b.repeat;
  full = sum_of a.full b.full;
  kept = sum_of a.kept b.kept;
  keys = sum_of a.keys b.keys;
  given = sum_of a.given b.given;
}

-- the counts of these epochs together
abbrev pub report_over : List FollowedEpoch → Report
report_over epochs = fold (λ report epoch. added report (report_of epoch.history)) no_report epochs

-- how many messages and packets wait to be given: those that were accepted, and the released ones of the open epochs
abbrev pub waiting_over : Followed → ℕ
waiting_over it = length it.queue + sum_by (λ (epoch : FollowedEpoch). waiting_in epoch.config epoch.history) (open_epochs it)
