-- Kinds, verdicts, heads and counts in numbers.
use Rattle.std.specs.Prelude.{ℕ, Option, Some, None}
use Rattle.tesla_base.specs.declared.release.Head.{Head}
use Rattle.tesla_commit.specs.declared.refusal.SetupKind.{SetupKind}
use Rattle.tesla_commit.specs.declared.refusal.SetupKind.TheVariants as kinds
use Rattle.tesla_fitting.specs.declared.verdict.Verdict.{Verdict}
use Rattle.tesla_fitting.specs.declared.verdict.Verdict.TheVariants as verdicts
use Rattle.tesla_state.specs.declared.report.Report.{Report}
use Rattle.tesla_c.specs.declared.answers.CVerdict.{CVerdict}
use Rattle.tesla_c.specs.declared.answers.CHead.{CHead}
use Rattle.tesla_c.specs.declared.answers.CReport.{CReport}

abbrev pub kind_code : SetupKind → ℕ
kind_code kinds.BadLine = 1
kind_code kinds.BadNumber = 2
kind_code kinds.BadHex = 3
kind_code kinds.NoChain = 4
kind_code kinds.TooManyChains = 5
kind_code kinds.DelaysNotRising = 6
kind_code kinds.IndexPastLast = 7
kind_code kinds.LimitPassed = 8
kind_code kinds.TooLong = 9

abbrev future_told : Option ℕ → CVerdict
future_told None = record { kind = 3; chains = 0; number = 0 }
future_told (Some bound) = record { kind = 3; chains = 1; number = bound }

abbrev pub verdict_told : Verdict → CVerdict
verdict_told verdicts.Malformed = record { kind = 0; chains = 0; number = 0 }
verdict_told (verdicts.Foreign stream) = record { kind = 1; chains = 0; number = stream.0 }
verdict_told verdicts.Misfit = record { kind = 2; chains = 0; number = 0 }
verdict_told (verdicts.Future bound) = future_told bound
verdict_told (verdicts.BadKey chain) = record { kind = 4; chains = chain.0; number = 0 }
verdict_told verdicts.Late = record { kind = 5; chains = 0; number = 0 }
verdict_told verdicts.Repeat = record { kind = 6; chains = 0; number = 0 }
verdict_told verdicts.Full = record { kind = 7; chains = 0; number = 0 }
verdict_told (verdicts.Kept chains) = record { kind = 8; chains = chains; number = 0 }
verdict_told verdicts.Keys = record { kind = 9; chains = 0; number = 0 }

abbrev pub head_told : Head → CHead
head_told head = record { position = head.position; interval = head.interval; number = head.number; length = head.length; chain = head.chain }

abbrev pub report_told : Report → CReport
report_told r = record { arrivals = r.arrivals; malformed = r.malformed; foreign = r.foreign; misfit = r.misfit; future = r.future; badkey = r.badkey; late = r.late; repeat = r.repeat; full = r.full; kept = r.kept; keys = r.keys; given = r.given }
