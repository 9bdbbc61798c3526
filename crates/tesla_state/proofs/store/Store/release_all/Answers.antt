use Rattle.std.proofs.Common.{ap, ◌∙◌, get_or, ◌++◌}
use Rattle.std.proofs.lemmas.List.{get_or_default}
use Rattle.tesla_walks.specs.declared.ordering.Proved.{Proved}
use Rattle.tesla_state.proofs.ReleasedPackets.{next_proved, settling_none, settling_more, settling_all, held_all_is, waiting_all}
use Rattle.tesla_state.proofs.store.Store.release_all.Goals as goal

abbrev no_proved : Proved
no_proved = record { place = record { 0 = 0 }; release = record { place = 0; name = record { interval = 0; number = 0 }; chain = record { 0 = 0 } } }

pub settle-requires : goal.settle-requires
settle-requires c =
    next_proved c.args.self.now c.loop-proved.self c.args.batch.now c.loop-proved.proved-index (get_or c.args.batch.now c.loop-proved.proved-index no_proved) c.loop-proved.invariant c.loop-proved-test.true
    (get_or_default c.args.batch.now c.loop-proved.proved-index no_proved (get_or c.args.batch.now c.loop-proved.proved-index no_proved) c.loop-proved-test.true)

pub loop-proved-init : goal.loop-proved-init
loop-proved-init c = settling_none c.args.self.now c.args.batch.now c.requires.proved c.requires.slots

pub loop-proved-preserved : goal.loop-proved-preserved
loop-proved-preserved c =
    settling_more c.args.self.now c.loop-proved.self c.settle.new.self c.args.batch.now c.loop-proved.proved-index (get_or c.args.batch.now c.loop-proved.proved-index no_proved) c.loop-proved.invariant c.loop-proved-test.true
    (get_or_default c.args.batch.now c.loop-proved.proved-index no_proved (get_or c.args.batch.now c.loop-proved.proved-index no_proved) c.loop-proved-test.true)
    c.settle.ensures.capacity c.settle.ensures.reserved c.settle.ensures.chains c.settle.ensures.given c.settle.ensures.held c.settle.ensures.waiting

pub returns : goal.returns
returns c =
    let all = settling_all c.args.self.now c.loop-proved.self c.args.batch.now c.loop-proved.proved-index c.loop-proved.invariant c.loop-proved-test.false in
    record {
      capacity = c.loop-proved.invariant.capacity;
      reserved = c.loop-proved.invariant.reserved;
      chains = c.loop-proved.invariant.chains;
      held = all.0 ∙ held_all_is c.args.batch.now c.args.self.now.held c.requires.apart c.requires.orders c.requires.proved c.requires.slots;
      waiting = all.1 ∙ ap (λ rs. c.args.self.now.waiting ++ rs) (waiting_all c.args.batch.now c.args.self.now.held c.requires.apart c.requires.proved c.requires.slots);
      given = c.loop-proved.invariant.given;
    }
