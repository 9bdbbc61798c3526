-- What a slot holds, as contracts see it.
use Rattle.std.specs.Prelude.{Bool, true, false, ◌==◌}
use Rattle.std.specs.declared.option.Option.{Option}
use Rattle.std.specs.declared.option.Option.TheVariants.{None}
use Rattle.tesla_c.specs.declared.engine.Engine.{Engine}
use Rattle.tesla_c.specs.declared.slot.Slot.{Slot}

abbrev pub none_if : Bool → Option Engine → Option Engine
none_if true held = None
none_if false held = held

-- an empty slot holds nothing
abbrev pub held_in : Slot → Option Engine
held_in slot = none_if (slot.full == 0) slot.held
