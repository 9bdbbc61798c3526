use Rattle.std.proofs.Common.{◌≤◌, arith, false-eqb}
use Rattle.tesla_desk.proofs.Told.{brings_prefix}
use Rattle.tesla_memory_desk.proofs.stored.StoredRest.read.Goals as goal

pub returns-clause-step : goal.returns-clause-step
returns-clause-step c =
    let some : 1 ≤ c.min.result = omega (arith, c.min.ensures, false-eqb _ 0 c.if-is_empty.ensures) in
    brings_prefix _ _ _ _ _ _ c.deref.ensures.value (c.within_piece-count.ensures.moves c.requires.moves some) (omega (arith, c.min.ensures)) c.copy_from_slice.ensures.after
