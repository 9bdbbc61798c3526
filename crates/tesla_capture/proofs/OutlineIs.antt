-- The outline of a file in its grammar has its records; that of another file has its whole records up to the place that is refused, with the cause.
use Rattle.std.proofs.Common.{◌≡◌, ◌∙◌, ℕ, List, length, take, drop, Option, Some, None, refl, ap, subst}
use Rattle.std.proofs.lemmas.List.{take_at}
use Rattle.tesla_base.specs.Prefix.{AreBytes}
use Rattle.tesla_base.proofs.Prefixes.{AreBytes-parts, some_is}
use Rattle.tesla_records.specs.Records as records
use Rattle.tesla_records.specs.Refused as files
use Rattle.tesla_records.specs.declared.refusal.Refusal.{Refusal}
use Rattle.tesla_records.specs.declared.refusal.Refusal.TheVariants as refusals
use Rattle.tesla_records.proofs.OutlineIsFile as outlines
use Rattle.tesla_capture.specs.Formats.{IsGrammar}
use Rattle.tesla_capture.specs.Parsing.{file_of}
use Rattle.tesla_capture.specs.Grammar.{Grammar, IsFile, file_text}
use Rattle.tesla_capture.specs.Records.{Outline, fault_of, kind_of, outline_as, outline_at, outline_of, refusal_of}
use Rattle.tesla_capture.specs.Refused.{IsRefused, StopsAfter}
use Rattle.tesla_capture.specs.declared.record.RecordFault.{RecordFault}
use Rattle.tesla_capture.specs.declared.record.RecordFault.TheVariants as faults
use Rattle.tesla_capture.specs.declared.record.RecordKind.{RecordKind}
use Rattle.tesla_capture.specs.declared.record.RecordKind.TheVariants.{BadHead, BadKind, Truncated, TooLong, TooLarge}
use Rattle.tesla_capture.proofs.Causes.{why_from, why_of}
use Rattle.tesla_capture.specs.FileOf.{is_file}
use Rattle.tesla_capture.specs.HeadParsed.{head_stands, whole_is}
use Rattle.tesla_capture.proofs.OutlineStep.{kind_again}

fault_none : (o : Option (ℕ × Refusal RecordFault)) → fault_of o ≡ None → o ≡ None
fault_none None e = refl
fault_none (Some fault) e = absurd cc

fault_some : (o : Option (ℕ × Refusal RecordFault)) (offset : ℕ) (kind : RecordKind) → fault_of o ≡ Some (offset, kind) → (refusal : Refusal RecordFault) × (o ≡ Some (offset, refusal)) × (kind_of refusal ≡ kind)
fault_some None offset kind e = absurd cc
fault_some (Some fault) offset kind e =
    let same = some_is (fault.0, kind_of fault.1) (offset, kind) e in
    (fault.1, ap (λ (x : ℕ × RecordKind). Some (x.0, fault.1)) same, ap (λ (x : ℕ × RecordKind). x.1) same)

module _ (G : Grammar) (is : IsGrammar G) where
  -- ---- the causes of a refusal, over the whole file

  stops_of : (bytes : List ℕ) (head : Option (Unit {0})) (given : List G.Record) (offset : ℕ) (refusal : Refusal RecordFault) → AreBytes bytes → files.StopsBehind (file_of G) bytes head given offset refusal → StopsAfter G bytes given offset (kind_of refusal)
  stops_of bytes None given offset refusal fits stops = absurd stops
  stops_of bytes (Some head) given offset refusal fits stops =
      let parts = stops.spelled in
      let rest_fits = (AreBytes-parts (file_text G given) stops.rest (subst AreBytes parts fits)).1 in
      record { limits = stops.limits; rest = stops.rest; spelled = parts; offset_is = stops.offset_is; why = why_of G refusal offset stops.rest stops.within rest_fits stops.why }

  stops_from : (bytes : List ℕ) (given : List G.Record) (offset : ℕ) (kind : RecordKind) → StopsAfter G bytes given offset kind → files.StopsAfter (file_of G) bytes tt given offset (refusal_of kind)
  stops_from bytes given offset kind stops =
      let why = why_from G kind offset stops.rest stops.why in
      record { head_limits = tt; limits = stops.limits; rest = stops.rest; spelled = stops.spelled; offset_is = stops.offset_is; within = why.0; why = why.1 }

  refused_of : (bytes : List ℕ) (head : Option (Unit {0})) (given : List G.Record) (offset : ℕ) (refusal : Refusal RecordFault) → AreBytes bytes → files.IsRefused (file_of G) bytes head given offset refusal → IsRefused G bytes given offset (kind_of refusal)
  refused_of bytes head given offset refusals.BadHead fits (start, none, no_records, other) =
      let five = is.five in
      (start, no_records, λ same. other tt (whole_is G.head bytes (ap (λ (k : ℕ). take k bytes) five ∙ same)))
  refused_of bytes head given offset refusals.Truncated fits stops = stops_of bytes head given offset refusals.Truncated fits stops
  refused_of bytes head given offset refusals.TooLarge fits stops = stops_of bytes head given offset refusals.TooLarge fits stops
  refused_of bytes head given offset (refusals.BadRecord faults.BadKind) fits stops = stops_of bytes head given offset (refusals.BadRecord faults.BadKind) fits stops
  refused_of bytes head given offset (refusals.BadRecord faults.TooLong) fits stops = stops_of bytes head given offset (refusals.BadRecord faults.TooLong) fits stops

  refused_from : (bytes : List ℕ) (given : List G.Record) (offset : ℕ) (kind : RecordKind) → IsRefused G bytes given offset kind → (head : Option (Unit {0})) × files.IsRefused (file_of G) bytes head given offset (refusal_of kind)
  refused_from bytes given offset BadHead (start, no_records, other) =
      (None, (start, refl, no_records, λ told e. other (ap (take 5) (head_stands G.head bytes told e) ∙ take_at G.head (drop (length G.head) bytes) 5 is.five)))
  refused_from bytes given offset BadKind stops = (Some tt, stops_from bytes given offset BadKind stops)
  refused_from bytes given offset Truncated stops = (Some tt, stops_from bytes given offset Truncated stops)
  refused_from bytes given offset TooLong stops = (Some tt, stops_from bytes given offset TooLong stops)
  refused_from bytes given offset TooLarge stops = (Some tt, stops_from bytes given offset TooLarge stops)

  -- ---- the whole file

  -- a file without a refused place is in the grammar
  pub file_takes : (bytes : List ℕ) → AreBytes bytes → (outline_of G bytes).fault ≡ None → IsFile G bytes (outline_of G bytes).records
  unfolding outline_at
  file_takes bytes fits e =
      let it = (outlines.file_takes (file_of G) (is_file G is) bytes fits (fault_none (records.outline_of (file_of G) bytes).fault e)).2 in
      record { limits = it.limits; spelled = it.spelled; fits = it.fits }

  -- a file in the grammar has no refused place
  pub file_again : (bytes : List ℕ) (given : List G.Record) → IsFile G bytes given → outline_of G bytes ≡ record { records = given; fault = None }
  unfolding outline_at
  file_again bytes given it =
      ap outline_as (outlines.file_again (file_of G) (is_file G is) bytes tt given (record { head_limits = tt; limits = it.limits; spelled = it.spelled; fits = it.fits }))

  -- a refused place has its cause
  pub is_refused : (bytes : List ℕ) (offset : ℕ) (kind : RecordKind) → AreBytes bytes → (outline_of G bytes).fault ≡ Some (offset, kind) → IsRefused G bytes (outline_of G bytes).records offset kind
  unfolding outline_at
  is_refused bytes offset kind fits e =
      let o = records.outline_of (file_of G) bytes in
      let (refusal, told, same) = fault_some o.fault offset kind e in
      subst (λ (k : RecordKind). IsRefused G bytes o.records offset k) same (refused_of bytes o.head o.records offset refusal fits (outlines.is_refused (file_of G) (is_file G is) bytes offset refusal fits told))

  -- what has such a cause is refused there
  pub refused_only : (bytes : List ℕ) (given : List G.Record) (offset : ℕ) (kind : RecordKind) → IsRefused G bytes given offset kind → outline_of G bytes ≡ record { records = given; fault = Some (offset, kind) }
  unfolding outline_at
  refused_only bytes given offset kind it =
      let (head, refused) = refused_from bytes given offset kind it in
      ap outline_as (outlines.refused_only (file_of G) (is_file G is) bytes head given offset (refusal_of kind) refused)
      ∙ ap (λ (k : RecordKind). let o : Outline G.Record = record { records = given; fault = Some (offset, k) } in o) (kind_again kind)
