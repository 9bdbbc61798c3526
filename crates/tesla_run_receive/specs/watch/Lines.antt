-- The lines of STATUS of watch: their text, and how one follows another.
use Rattle.std.specs.Prelude.{◌≡◌, ℕ, ◌+◌, ◌≤◌, Bool, true, false, List, [], ◌∷◌, ◌++◌, take, drop, length, slice_index_or, codes}
use Rattle.std.specs.List.{All}
use denote.Ref.{Bor}
use Rattle.tesla_counters.specs.Counts.{NoneFalls}
use Rattle.tesla_front.specs.Parts.{texts_of}
use Rattle.tesla_state.specs.declared.report.Report.{Report}
use Rattle.tesla_status.specs.Lines.{number_text}
use Rattle.tesla_run_receive.specs.declared.watch.line.LineFacts.{LineFacts}

-- ---- columns

-- for how many chains a line has a count, and the names of its further numbers
pub record Columns : Type 0 where
  pub chains : ℕ
  pub names : List (List ℕ)

-- those of so many chains, and of these names
abbrev pub columns_of : ℕ → List (Bor (List ℕ)) → Columns
columns_of chains names = record { chains = chains; names = texts_of names }

-- those of a line with no further number
abbrev pub chain_columns : ℕ → Columns
chain_columns chains = record { chains = chains; names = [] }

-- there are few names, and each is short
abbrev pub AreShort : List (Bor (List ℕ)) → Type 0
AreShort names = (length names ≤ 5) × All (λ name. length name.now ≤ 12) names

-- ---- counts

-- one of the counts, by its place
abbrev pub count_at : List ℕ → ℕ → ℕ
count_at counts place = slice_index_or counts place 0

-- how many arrivals have the verdicts of which these are the counts: the sum of the ten
abbrev pub arrivals_at : List ℕ → ℕ
arrivals_at counts =
    count_at counts 0 + count_at counts 1 + count_at counts 2 + count_at counts 3 + count_at counts 4 + count_at counts 5 + count_at counts 6 + count_at counts 7 + count_at counts 8 + count_at counts 9

-- the report with these counts, whose arrivals are the sum of the ten verdicts'
abbrev pub report_at : List ℕ → Report
report_at counts =
    record {
      arrivals = arrivals_at counts;
      malformed = count_at counts 0;
      foreign = count_at counts 1;
      misfit = count_at counts 2;
      future = count_at counts 3;
      badkey = count_at counts 4;
      late = count_at counts 5;
      repeat = count_at counts 6;
      full = count_at counts 7;
      kept = count_at counts 8;
      keys = count_at counts 9;
      given = count_at counts 10;
    }

-- how many packets were released on each chain of a setup with so many chains: these counts stand behind those of a report
abbrev pub chains_at : ℕ → List ℕ → List ℕ
chains_at chains counts = take chains (drop 11 counts)

-- the further numbers: they stand behind those of the eight chains that a setup has at most
abbrev pub others_at : List ℕ → List ℕ
others_at counts = drop 19 counts

-- what is counted of a history: the numbers of a report, how many packets were released on each chain, and further numbers
pub record Counted : Type 0 where
  pub report : Report
  pub chains : List ℕ
  pub others : List ℕ

-- that of these counts, of a setup with so many chains
abbrev pub counted_at : ℕ → List ℕ → Counted
counted_at chains counts = record { report = report_at counts; chains = chains_at chains counts; others = others_at counts }

-- nothing was counted
abbrev pub none_counted : Counted
none_counted = record { report = report_at []; chains = []; others = [] }

-- no number falls from what was counted to what was counted later
pub record NoneFall (before now : Counted) : Type 0 where
  pub arrivals : before.report.arrivals ≤ now.report.arrivals
  pub malformed : before.report.malformed ≤ now.report.malformed
  pub foreign : before.report.foreign ≤ now.report.foreign
  pub misfit : before.report.misfit ≤ now.report.misfit
  pub future : before.report.future ≤ now.report.future
  pub badkey : before.report.badkey ≤ now.report.badkey
  pub late : before.report.late ≤ now.report.late
  pub repeat : before.report.repeat ≤ now.report.repeat
  pub full : before.report.full ≤ now.report.full
  pub kept : before.report.kept ≤ now.report.kept
  pub keys : before.report.keys ≤ now.report.keys
  pub given : before.report.given ≤ now.report.given
  pub chains : NoneFalls before.chains now.chains
  pub others : NoneFalls before.others now.others

-- the arrivals are the sum of the ten verdicts
abbrev pub AddsUp : Report → Type 0
AddsUp report = report.arrivals ≡ report.malformed + report.foreign + report.misfit + report.future + report.badkey + report.late + report.repeat + report.full + report.kept + report.keys

-- ---- lines

-- a line: whether it is the last one, the reading of a clock, what was counted, how often a clock gave another reading than the system's, and how many sinks failed
pub record StatusLine : Type 0 where
  pub is_last : Bool
  pub time : ℕ
  pub counted : Counted
  pub held_readings : ℕ
  pub failed_sinks : ℕ

-- that of these counts, told what it tells beside them
abbrev pub line_at : LineFacts → ℕ → List ℕ → StatusLine
line_at facts chains counts =
    record { is_last = facts.is_last; time = facts.time; counted = counted_at chains counts; held_readings = facts.held_readings; failed_sinks = facts.failed_sinks }

-- the word before the reading, with which the line begins
abbrev pub first_word : Bool → List ℕ
first_word false = codes "time="
first_word true = codes "end="

-- the counts of a report but for its arrivals, each behind its name
unfoldable pub counts_text : Report → List ℕ
counts_text report =
    number_text (codes " malformed=") report.malformed ++ number_text (codes " foreign=") report.foreign ++ number_text (codes " misfit=") report.misfit ++ number_text (codes " future=") report.future
    ++ number_text (codes " badkey=") report.badkey ++ number_text (codes " late=") report.late ++ number_text (codes " repeat=") report.repeat ++ number_text (codes " full=") report.full
    ++ number_text (codes " kept=") report.kept ++ number_text (codes " keys=") report.keys ++ number_text (codes " given=") report.given

-- the counts by chain, each behind the number of its chain, of which that of the first is given
unfoldable pub chains_text : ℕ → List ℕ → List ℕ
chains_text chain [] = []
chains_text chain (count ∷ counts) = number_text (codes " chain") chain ++ number_text (codes "=") count ++ chains_text (chain + 1) counts

-- the further numbers, each behind its name
unfoldable pub others_text : List (List ℕ) → List ℕ → List ℕ
others_text [] counts = []
others_text (name ∷ names) [] = []
others_text (name ∷ names) (count ∷ counts) = codes " " ++ name ++ number_text (codes "=") count ++ others_text names counts

-- the text of a line whose further numbers have these names, with its LF
unfoldable pub line_text : List (List ℕ) → StatusLine → List ℕ
line_text names line =
    number_text (first_word line.is_last) line.time ++ number_text (codes " arrivals=") line.counted.report.arrivals ++ counts_text line.counted.report ++ chains_text 0 line.counted.chains
    ++ number_text (codes " held=") line.held_readings ++ number_text (codes " failedsinks=") line.failed_sinks ++ others_text names line.counted.others ++ codes "\n"

-- These lines follow on what was counted: the arrivals of each are the sum of its verdicts, it has a count for each chain and for each name, no count falls from line to line, and behind a last one there is none
abbrev pub Follow : Columns → Counted → List StatusLine → Type 0
Follow columns before [] = Unit {0}
Follow columns before (line ∷ lines) =
    AddsUp line.counted.report × (length line.counted.chains ≡ columns.chains) × (length line.counted.others ≡ length columns.names) × NoneFall before line.counted × (line.is_last ≡ true → lines ≡ []) × Follow columns line.counted lines
