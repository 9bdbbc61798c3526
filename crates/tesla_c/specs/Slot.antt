-- What a slot holds and owns.
use Rattle.std.specs.Prelude.{ℕ, Bool, true, false, ◌==◌}
use Rattle.std.specs.Coded.{Coded, coded_option}
use Rattle.std.specs.declared.option.Option.{Option}
use Rattle.std.specs.declared.option.Option.TheVariants.{None, Some}
use base.Fml.{Fml, ftrue, ffalse}
use denote.RawPtr.{Ptr}
use Rattle.std_alloc.specs.Box.Ownership.{box_owns}
use Rattle.tesla_c.specs.contracts.engine.Engine.{the_row}

abbrev pub held_coded : Coded (Option the_row.Denot)
held_coded = coded_option the_row.coded

-- the box of what was opened, where there is something
abbrev pub boxed : Ptr → Option the_row.Denot → Fml
boxed at None = ffalse
boxed at (Some engine) = box_owns (λ ty ptr. Rattle.libc.specs.Heap.chunk ty ptr) the_row at engine

abbrev pub owned_unless : Bool → Ptr → Option the_row.Denot → Fml
owned_unless true at held = ftrue
owned_unless false at held = boxed at held

abbrev pub slot_owns : ℕ → Ptr → Option the_row.Denot → Fml
slot_owns full at held = owned_unless (full == 0) at held
