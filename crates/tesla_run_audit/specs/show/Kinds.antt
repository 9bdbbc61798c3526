-- The kinds of refused places, there and back.
use Rattle.std.specs.Prelude.{◌≡◌, refl}
use Rattle.tesla_records.specs.Records.{refusal_by}
use Rattle.tesla_trace.specs.declared.kind.EntryFault.{EntryFault}
use Rattle.tesla_trace.specs.declared.kind.TraceKind.{TraceKind}
use Rattle.tesla_trace.specs.declared.kind.TraceKind.TheVariants as kinds
use Rattle.tesla_audit.specs.Steps.{kind_of, refusal_of}

pub kind_again : (kind : TraceKind) → kind_of (refusal_by (λ (fault : EntryFault). fault) (refusal_of kind)) ≡ kind
kind_again kinds.BadHead = refl
kind_again kinds.BadKind = refl
kind_again kinds.Truncated = refl
kind_again kinds.TooLong = refl
kind_again kinds.TooLarge = refl
kind_again kinds.BadCode = refl
