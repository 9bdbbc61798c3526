use Rattle.std.proofs.Common.{◌≡◌, ◌∙◌, suc, length, Some, ap, sym, arith}
use Rattle.std.specs.Prelude.{option_copied}
use Rattle.tesla_rollover.specs.Handover.{handover_text}
use Rattle.tesla_rollover.specs.Kept.{configs_of}
use Rattle.tesla_rollover.proofs.Found.{count_is}
use Rattle.tesla_rollover.proofs.Opened.{next_newest, spelled_setup}
use Rattle.tesla_rollover.proofs.opening.hand_over.Goals as goal

pub returns-clause-hands : goal.returns-clause-hands
returns-clause-hands c = λ first rest receivers.
    let payload = c.args.payload.now in let text = c.in-Some.text.now in
    let configs = configs_of c.args.epochs.now.items in let count = count_is c.args.epochs.now.items in
    let is : handover_text payload ≡ Some text = sym c.handover_text.ensures ∙ ap option_copied c.in-Some.is in
    let newest : suc c.args.number ≡ length configs = omega (arith, count, c.len-count.ensures, c.from.ensures, c.if-from-count.false) in
    let few : length configs ≡ 16 → ⊥ = λ all. omega (arith, count, c.len-count.ensures, c.if-count-eq-MOST.false) in
    record {
      next_is = next_newest configs c.args.number payload text c.open_next.result is newest few c.open_next.ensures.next;
      opened = λ opened. let own = c.open_next.ensures.opened first rest receivers opened in
          (own.0, own.1, spelled_setup payload text own.0 is own.2, own.3, own.4);
      kept = c.open_next.ensures.kept;
    }
