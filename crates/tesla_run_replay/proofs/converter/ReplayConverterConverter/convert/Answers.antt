use Rattle.std.proofs.Common.{Err, ap}
use Rattle.tesla_convert.specs.declared.converter.Halt.{Halt}
use Rattle.tesla_run_replay.specs.Playing.{events_in}
use Rattle.tesla_run_replay.proofs.Wanting.{wants_record}
use Rattle.tesla_run_replay.proofs.converter.ReplayConverterConverter.convert.Goals as goal

pub returns-in-Err-NoMemory-clause-wants : goal.returns-in-Err-NoMemory-clause-wants
returns-in-Err-NoMemory-clause-wants g c e =
    let wants = c.in-Err-NoMemory.ensures.wants (ap (λ (halt : Halt). Err halt) c.in-Err-NoMemory.field-0-is) in (
      wants.0,
      λ records had. wants_record _ _ had.0 records _ _ c.event_for-event.ensures.event (wants.3 (events_in records) had.1),
    )
