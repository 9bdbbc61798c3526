use Rattle.std.proofs.Common.{ℕ, true, false, List, sym}
use Rattle.tesla_base.specs.declared.version.Version.{Version}
use Rattle.tesla_frame.specs.declared.row.KeyRow.{KeyRow}
use Rattle.tesla_frame.specs.Frame.{KeysFrame}
use Rattle.tesla_frame.specs.Reading.{chains_rise, keys_of}
use Rattle.tesla_frame.proofs.Both.{rises}
use Rattle.tesla_frame.proofs.InPlace.{rows_of_other_length, rows_of_length}
use Rattle.tesla_frame.proofs.reading.keys.Goals as goal

-- the frame with these rows
abbrev with_rows : Version → ℕ → List KeyRow → KeysFrame
with_rows version stream rows = record { version = version; stream = record { 0 = stream }; rows = rows }

pub returns-then-rows-count : goal.returns-then-rows-count
unfolding keys_of
returns-then-rows-count c =
    rw (← c.in-Some.ensures, ← c.in-Some-count_of.ensures.exact) (rows_of_other_length c.in-Some-count_of.count c.in-Some-count_of.rows.now chains_rise (with_rows c.args.version c.in-Some.stream) c.if-rows-count.true)

pub returns-then-not-do_chains_rise : goal.returns-then-not-do_chains_rise
unfolding keys_of
returns-then-not-do_chains_rise c =
    rw (← c.in-Some.ensures, ← c.in-Some-count_of.ensures.exact) (rows_of_length c.in-Some-count_of.count c.in-Some-count_of.rows.now chains_rise (with_rows c.args.version c.in-Some.stream) false c.if-rows-count.false c.if-not-do_chains_rise.ensures)

pub new-requires-clause-rise : goal.new-requires-clause-rise
new-requires-clause-rise c = rises _ (sym c.if-not-do_chains_rise.ensures)

pub returns : goal.returns
unfolding keys_of
returns c =
    rw (← c.in-Some.ensures, ← c.in-Some-count_of.ensures.exact, c.new.ensures) (rows_of_length c.in-Some-count_of.count c.in-Some-count_of.rows.now chains_rise (with_rows c.args.version c.in-Some.stream) true c.if-rows-count.false c.if-not-do_chains_rise.ensures)
