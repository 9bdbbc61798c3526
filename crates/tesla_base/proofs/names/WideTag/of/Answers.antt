use Rattle.std.proofs.Common.{ℕ, List, ◌++◌, length, ap}
use Rattle.std.proofs.lemmas.List.{drop-replicate}
use Rattle.tesla_base.proofs.names.WideTag.of.Goals as goal

pub returns : goal.returns
returns c =
    let size = length c.args.bytes.now in
    rw c.copy_from_slice.ensures.after (ap (λ (zeros : List ℕ). record { bytes = c.args.bytes.now ++ zeros; length = size }) (drop-replicate size 32 0))
