use Rattle.std.proofs.Common.{arith}
use Rattle.tesla_frame.proofs.InPlace.{row_before_flag, bare_row, keyed_row, row_within_key, row_of_other_flag}
use Rattle.tesla_frame.proofs.rows.row_end.Goals as goal

pub returns-then-bytes-flag-clause-exact : goal.returns-then-bytes-flag-clause-exact
returns-then-bytes-flag-clause-exact c = row_before_flag c.args.size c.args.bytes.now c.args.at (omega arith)

pub returns-in-0-clause-exact : goal.returns-in-0-clause-exact
returns-in-0-clause-exact c = bare_row c.args.size c.args.bytes.now c.args.at (omega arith) c.in-0.is

pub returns-then-bytes-flag-2-clause-exact : goal.returns-then-bytes-flag-2-clause-exact
returns-then-bytes-flag-2-clause-exact c = row_within_key c.args.size c.args.bytes.now c.args.at (omega arith) c.in-1.is (omega arith)

pub returns-else-bytes-flag-2-clause-exact : goal.returns-else-bytes-flag-2-clause-exact
returns-else-bytes-flag-2-clause-exact c = keyed_row c.args.size c.args.bytes.now c.args.at c.in-1.is (omega arith)

pub returns-in_default-clause-exact : goal.returns-in_default-clause-exact
returns-in_default-clause-exact c = row_of_other_flag c.args.size c.args.bytes.now c.args.at (omega arith) (omega arith)
