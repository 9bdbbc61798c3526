use Rattle.std.proofs.Common.{◌∙◌, [], refl, arith}
use Rattle.tesla_desk.proofs.Counts.{cause_none}
use Rattle.tesla_desk.proofs.Told.{appends_none}
use Rattle.tesla_run_weave.proofs.Written.{cause_on, puts_all, puts_prefix, slot_put}
use Rattle.tesla_run_weave.proofs.writing.put_slots.Goals as goal

pub loop-k-init : goal.loop-k-init
loop-k-init g c = record { puts = record { done = []; written = appends_none _; parts = refl }; within = omega arith; still = refl; name = refl }

pub put_slot-requires-clause-within : goal.put_slot-requires-clause-within
put_slot-requires-clause-within g c = c.loop-k.invariant.within

pub returns-in_default-clause-prefix : goal.returns-in_default-clause-prefix
returns-in_default-clause-prefix g c lost = puts_prefix _ _ _ _ _ _ c.loop-k.invariant.puts (c.put_slot.ensures.prefix c.in_default.is)

pub returns-in_default-clause-cause : goal.returns-in_default-clause-cause
returns-in_default-clause-cause g c = cause_on _ _ _ c.loop-k.invariant.still c.put_slot.ensures.cause (λ e. c.in_default.is) (λ e. refl)

pub returns-in_default-clause-name : goal.returns-in_default-clause-name
returns-in_default-clause-name g c = c.put_slot.ensures.name ∙ c.loop-k.invariant.name

pub loop-k-preserved : goal.loop-k-preserved
loop-k-preserved g c = record {
  puts = slot_put _ _ _ _ _ _ c.args.slots.now c.args.payloads.now c.loop-k.k c.loop-k.at c.in-Some.next _ c.loop-k-test.true c.loop-k.invariant.puts c.in-Some.ensures.all c.in-Some.ensures.next.1;
  within = c.in-Some.ensures.next.0;
  still = c.put_slot.ensures.cause.still (λ e. cc) ∙ c.loop-k.invariant.still;
  name = c.put_slot.ensures.name ∙ c.loop-k.invariant.name;
}

pub returns-clause-all : goal.returns-clause-all
returns-clause-all g c whole = puts_all _ _ _ _ c.args.slots.now c.args.payloads.now c.loop-k.k c.loop-k.at c.loop-k-test.false c.loop-k.invariant.puts

pub returns-clause-cause : goal.returns-clause-cause
returns-clause-cause g c = cause_none _ _ c.loop-k.invariant.still (λ e. cc)

pub returns-clause-name : goal.returns-clause-name
returns-clause-name g c = c.loop-k.invariant.name
