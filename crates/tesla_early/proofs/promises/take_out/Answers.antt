use Rattle.std.proofs.Common.{◌≡◌, ◌∙◌, ap, true, arith}
use Rattle.std.specs.List.{list_any}
use Rattle.tesla_base.specs.Members.{is_in}
use Rattle.tesla_early.proofs.Cleared.{there_still}
use Rattle.tesla_early.proofs.promises.take_out.Goals as goal

pub remove-requires : goal.remove-requires
remove-requires c =
    let at = c.loop-place.place in
    record {
      somewhere = ap (list_any (is_in at)) c.loop-place.invariant.lists
          ∙ there_still at at c.args.buckets.now.lists (omega arith) (c.requires at (omega (arith, c.loop-place-test.true)));
    }
