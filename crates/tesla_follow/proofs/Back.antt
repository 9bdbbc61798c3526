-- Epochs that a call changed in their table.
use Rattle.std.proofs.Common.{◌≡◌, ℕ, List, ◌++◌, length, take, drop, sym, ap, ◌∙◌}
use Rattle.std.proofs.Math.Seq.{take-append_seam}
use Rattle.tesla_follow.specs.Kept.{shapes_of}
use Rattle.tesla_follow.specs.Stands.{EpochState}
use Rattle.tesla_follow.proofs.Asked.{as_many}

-- as many epochs as there were are written back whole
pub back : (n : ℕ) (now new old : List EpochState) → length now ≡ n → shapes_of new ≡ shapes_of now → take n (new ++ drop (length new) old) ≡ new
back n now new old long same = ap (λ (k : ℕ). take k (new ++ drop (length new) old)) (sym (as_many new now same ∙ long)) ∙ take-append_seam new (drop (length new) old)
