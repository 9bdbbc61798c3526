use Rattle.std.proofs.Common.{◌≡◌, List, ℕ, IfOk, length, refl, subst}
use Rattle.tesla_early.proofs.Joined.{joined_is}
use Rattle.tesla_early.proofs.weaving.joined.Goals as goal

pub returns : goal.returns
returns c =
    subst (λ (bytes : List ℕ). IfOk c.new.result (λ payload. payload ≡ bytes))
    (joined_is c.args.header.now c.args.body.now _ c.copy_from_slice.new.self c.copy_from_slice-2.new.self (length c.args.header.now) _ refl c.copy_from_slice.ensures.after c.copy_from_slice-2.ensures.after)
    c.new.ensures
