use Rattle.std.proofs.Common.{◌∙◌, List, map, ap, arith, subst, sym}
use Rattle.std.proofs.lemmas.Result.{err_from_is_err_and}
use Rattle.tesla_commit.specs.Parts.{Parts}
use Rattle.tesla_feeds.specs.declared.opening.ListedSender.{ListedSender}
use Rattle.tesla_run_feed.specs.Listing.{streams_in, times_in}
use Rattle.tesla_run_feed.specs.Steps.{HandsFirst}
use Rattle.tesla_run_feed.proofs.Listed.{setups_with}
use Rattle.tesla_run_feed.proofs.Opened.{first_lacks, lacks_memory, opens_first, streams_size}
use Rattle.tesla_run_feed.proofs.senders.open_first.Goals as goal

pub returns-in_default-clause-refused : goal.returns-in_default-clause-refused
returns-in_default-clause-refused g c =
    let list = c.args.parts.list in
    let size = streams_size list.setups.items list.seeds.items c.requires.each in
    lacks_memory (streams_in list) (omega (arith, size, c.requires.some))

pub returns-in_default-first_handover-clause-refused : goal.returns-in_default-first_handover-clause-refused
returns-in_default-first_handover-clause-refused g c =
    let list = c.args.parts.list in
    let size = streams_size list.setups.items list.seeds.items c.requires.each in
    lacks_memory (streams_in list) (omega (arith, size, c.requires.some))

pub returns-in_err-sender-clause-refused : goal.returns-in_err-sender-clause-refused
returns-in_err-sender-clause-refused g c =
    let list = c.args.parts.list in
    let one = c.take_first-seeded.result in
    let now = c.take_first-seeded.new.list in
    let p = err_from_is_err_and c.from_residual.result c.from_residual.ensures.1 in
    rw (p.1, p.2) (first_lacks list.setups.items list.seeds.items one.setup one.seeds now.setups.items now.seeds.items _ c.take_first-seeded.ensures.setups c.take_first-seeded.ensures.seeds c.in_err-sender.ensures.refused)

pub returns-clause-first : goal.returns-clause-first
returns-clause-first g c =
    let list = c.args.parts.list in
    let one = c.take_first-seeded.result in
    let now = c.take_first-seeded.new.list in
    let first : ListedSender = record { sender = c.in_ok-sender.sender; handover = c.in-Ok-first_handover.handover } in
    opens_first list.setups.items list.seeds.items one.setup one.seeds first now c.take_first-seeded.ensures.setups c.take_first-seeded.ensures.seeds c.requires.each c.requires.size c.requires.have
    (subst (λ (ps : List Parts). HandsFirst first.handover ps) c.as_slice-2.ensures.value c.in-Ok-first_handover.ensures)
    c.in_ok-sender.ensures.stands c.in_ok-sender.ensures.opened.0 c.in_ok-sender.ensures.opened.1

pub returns-clause-schedules : goal.returns-clause-schedules
returns-clause-schedules g c =
    let list = c.args.parts.list in
    c.in-Ok.ensures ∙ ap (λ (all : List Parts). map times_in all) (c.as_slice.ensures.value ∙ sym (setups_with list.setups.items list.seeds.items c.requires.each))
