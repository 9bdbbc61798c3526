use Rattle.std.proofs.Common.{◌∙◌, None, Some, arith, refl}
use Rattle.tesla_run_audit.proofs.show.Lists.{far_next, far_start, far_stops}
use Rattle.tesla_run_audit.proofs.show.listing.list_entries.Goals as goal

pub loop-listed-init : goal.loop-listed-init
loop-listed-init g c = record {
  going = c.requires.going;
  limited = omega (arith, c.requires.place);
  counted = omega arith;
  reads = refl;
  writes = refl;
  input = refl;
  output = refl;
  listed = far_start g.R.EntryReader.grammar g.met.R.EntryReader.is g.R.EntryReader.line g.R.EntryReader.number g.R.EntryReader.kind_of (g.R.EntryReader.progress c.args.reader.now) (g.S.Source.left c.args.source.now) _ _ c.requires.place c.requires.head;
}

pub loop-listed-preserved : goal.loop-listed-preserved
loop-listed-preserved g c =
    let up = c.in-None.ensures.rises refl in
    record {
      going = up.going;
      limited = up.limited;
      counted = omega (arith, c.loop-listed.invariant.counted, up.rises);
      reads = c.in-None.ensures.reads.still (λ e. absurd cc) ∙ c.loop-listed.invariant.reads;
      writes = c.in-None.ensures.writes.still (λ e. absurd cc) ∙ c.loop-listed.invariant.writes;
      input = c.list_one.ensures.input ∙ c.loop-listed.invariant.input;
      output = c.list_one.ensures.output ∙ c.loop-listed.invariant.output;
      listed = far_next g.R.EntryReader.grammar g.met.R.EntryReader.is g.R.EntryReader.line g.R.EntryReader.number g.R.EntryReader.kind_of _ (g.R.EntryReader.progress c.list_one.new.reader) _ _ _ (g.S.Source.left c.list_one.new.source) _ _ _ _ _ _ None refl c.loop-listed.invariant.listed c.in-None.ensures.lists;
    }

pub returns-in-Some-clause-lists : goal.returns-in-Some-clause-lists
returns-in-Some-clause-lists g c =
    far_stops g.R.EntryReader.grammar g.met.R.EntryReader.is g.R.EntryReader.line g.R.EntryReader.number g.R.EntryReader.kind_of _ (g.R.EntryReader.progress c.list_one.new.reader) _ _ _ (g.S.Source.left c.list_one.new.source) _ _ _ _ _ _ (Some c.in-Some.listed) c.in-Some.listed refl c.loop-listed.invariant.listed c.in-Some.ensures.lists
