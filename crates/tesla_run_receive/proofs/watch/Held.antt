-- What the page of STATUS holds once it is closed.
use Rattle.std.proofs.Common.{◌≡◌, ℕ, nat_lt, ◌≤◌, Bool, true, false, Option, Some, None, List, length, take, flat_map, refl, subst, ap, ◌∙◌}
use Rattle.std.specs.List.{sum}
use Rattle.tesla_desk.specs.Outside.{ClosesSink, Holds, Page, Told, page_of}
use Rattle.tesla_desk.proofs.Told.{first_written}
use Rattle.tesla_fitting.specs.declared.config.Config.{Config}
use Rattle.tesla_front.specs.OutcomeView.{OutcomeView}
use Rattle.tesla_receiver.specs.Entries.{Entry}
use Rattle.tesla_receiver.specs.History.{IsLegal}
use Rattle.tesla_recorder.proofs.watched.Chains.{adds_up}
use Rattle.tesla_recorder.specs.watched.Chains.{released_by_chain}
use Rattle.tesla_recorder.specs.watched.Watched.{counts_of}
use Rattle.tesla_session.specs.Wanted.{Wanted}
use Rattle.tesla_state.specs.State.{State}
use Rattle.tesla_turn.specs.Held.{Ended}
use Rattle.tesla_run_receive.proofs.Heard.{fails_not}
use Rattle.tesla_run_receive.proofs.watch.Counts.{counted_whole}
use Rattle.tesla_run_receive.specs.Running.{EndsOutput, RunsStation, receiving}
use Rattle.tesla_run_receive.specs.watch.Lines.{Columns, Counted, chain_columns, counted_at, line_text}
use Rattle.tesla_run_receive.specs.watch.Watch.{HoldsStatus}
use Rattle.tesla_run_receive.specs.watch.Written.{HoldsLines, WritesStatus}

-- ---- any lines

module _ (columns : Columns) (counted : Counted) (fresh written : Option (List ℕ)) (count : ℕ) (failed : Bool) (writes : WritesStatus columns counted fresh written count failed) where
  holds_by : (own : Bool) (bytes : List ℕ) (test : Bool) → failed ≡ own → nat_lt 0 count ≡ test → written ≡ Some bytes → HoldsLines columns counted (Holds bytes test)
  holds_by true bytes false is none told = absurd (fails_not count writes.cause none is)
  holds_by false bytes false is none told =
      record { lines = writes.lines; follow = writes.follow; ends = writes.ends; bytes_are = first_written fresh written (flat_map (line_text columns.names) writes.lines) bytes writes.empty (writes.all is) told }
  holds_by own bytes true is some told = record {
    lines = writes.lines;
    follow = writes.follow;
    ends = writes.ends;
    prefix = (writes.prefix.0, first_written fresh written (take writes.prefix.0 (flat_map (line_text columns.names) writes.lines)) bytes writes.empty writes.prefix.1.written told);
  }

  holds_page : (now : Option (List ℕ)) → written ≡ now → HoldsLines columns counted (page_of now count)
  holds_page None is = tt
  holds_page (Some bytes) is = holds_by failed bytes (nat_lt 0 count) refl refl is

  -- what the page holds once it is closed
  pub holds_lines : HoldsLines columns counted (page_of written count)
  holds_lines = holds_page written refl

-- the last line was written and the output closed, told its name and the columns otherwise, and what follows of the lines
pub ends_status : {own columns : Columns} {counted : Counted} {fresh written : Option (List ℕ)} {count : ℕ} {failed : Bool} {named finished name : List ℕ} {before now : Told} (Holding : Page → Type 0)
    → finished ≡ named → named ≡ name → own ≡ columns → ((page : Page) → HoldsLines columns counted page → Holding page) → WritesStatus own counted fresh written count failed → ClosesSink finished written count before now → EndsOutput Holding name before now failed
ends_status {own = own} {counted = counted} {fresh = fresh} {written = written} {count = count} {failed = failed} {before = before} {now = now} Holding same named columns_are holds writes closes = record {
  written = written;
  faults = count;
  holds = holds (page_of written count) (subst (λ (them : Columns). HoldsLines them counted (page_of written count)) columns_are (holds_lines own counted fresh written count failed writes));
  cause = writes.cause;
  closes = subst (λ (n : List ℕ). ClosesSink n written count before now) (same ∙ named) closes;
}

-- ---- those of watch

-- the last line of the counts of a legal history, under a setup with so many chains
pub holds_status : (cfg : Config) (chains : ℕ) (history : List Entry) (counts : List ℕ) (page : Page) → chains ≤ 8 → chains ≡ length cfg.setup.rows → IsLegal cfg history → counts ≡ counts_of history → HoldsLines (chain_columns chains) (counted_at chains counts) page → HoldsStatus chains history page
holds_status cfg chains history counts page few rows legal counted holds = (
  subst (λ (it : Counted). HoldsLines (chain_columns chains) it page) (ap (λ (cs : List ℕ). counted_at chains cs) counted ∙ counted_whole chains history few) holds,
  ap (λ (n : ℕ). sum (released_by_chain n history)) rows ∙ adds_up cfg history legal,
)

-- a run whose lines have a count for each chain, told the configuration of its receiver otherwise
pub runs_status : {C : Type 0} (output : Option (List ℕ)) (config own : Config) (wanted : List Wanted) (cfg : C) (before now : Told) (last : Option (Ended Entry)) (outcome : OutcomeView)
    → config ≡ own → RunsStation (receiving config) (HoldsStatus (length config.setup.rows)) output wanted cfg before now last outcome → RunsStation (receiving own) (HoldsStatus (length own.setup.rows)) output wanted cfg before now last outcome
runs_status output config own wanted cfg before now last outcome same runs =
    subst (λ (one : Config). RunsStation (receiving one) (HoldsStatus (length one.setup.rows)) output wanted cfg before now last outcome) same runs

-- the same, told the number of chains, and the receiver that the station is over
pub runs_chains : {C : Type 0} (chains : ℕ) (output : Option (List ℕ)) (station receiver : State) (wanted : List Wanted) (cfg : C) (before now : Told) (last : Option (Ended Entry)) (outcome : OutcomeView)
    → station ≡ receiver → chains ≡ length receiver.config.setup.rows → RunsStation (receiving station.config) (HoldsStatus chains) output wanted cfg before now last outcome → RunsStation (receiving receiver.config) (HoldsStatus (length receiver.config.setup.rows)) output wanted cfg before now last outcome
runs_chains chains output station receiver wanted cfg before now last outcome same rows runs =
    subst (λ (n : ℕ). RunsStation (receiving receiver.config) (HoldsStatus n) output wanted cfg before now last outcome) rows
    (subst (λ (one : State). RunsStation (receiving one.config) (HoldsStatus chains) output wanted cfg before now last outcome) same runs)
