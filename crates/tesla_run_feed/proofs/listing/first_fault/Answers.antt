use Rattle.std.proofs.Common.{◌∙◌, arith, sym}
use Rattle.tesla_run_feed.proofs.Listed.{disorder_placed}
use Rattle.tesla_run_feed.proofs.listing.first_fault.Goals as goal

pub fault_of-requires : goal.fault_of-requires
fault_of-requires c = record {
  room = disorder_placed 0 c.args.setups.now c.in-Some.disorder (omega (arith, c.requires.few)) (sym c.first_disorder.ensures ∙ c.in-Some.is);
}
