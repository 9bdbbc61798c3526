-- What the conversion of a capture comes to, told how it ended.
use Rattle.std.proofs.Common.{◌≡◌, ◌∙◌, inl, inr, ◌<◌, ◌⊎◌, ℕ, Bool, true, Option, Some, None, Result, Ok, Err, List, [], refl, sym, ap, subst, append-nil}
use Rattle.tesla_capture.specs.Capture.{Record, capture}
use Rattle.tesla_capture.specs.Outline.{outline_of}
use Rattle.tesla_capture.specs.declared.record.RecordKind.{RecordKind}
use Rattle.tesla_front.specs.OutcomeView.{OutcomeView, Done, Failed}
use Rattle.tesla_front.specs.Files.{IsPrefix}
use Rattle.tesla_front.specs.declared.fault.Fault.TheVariants as faults
use Rattle.tesla_receiver.specs.History.{Event}
use Rattle.tesla_convert.specs.Held.{HoldsText, HoldsPrefix}
use Rattle.tesla_convert.specs.Meaning.{ConvertsBetween}
use Rattle.tesla_convert.specs.Steps.{Converts, IsWanting}
use Rattle.tesla_convert.specs.declared.conversion.Ending.{Ending}
use Rattle.tesla_convert.specs.declared.conversion.Ending.TheVariants as endings
use Rattle.tesla_convert.specs.declared.conversion.Stopped.{Stopped}
use Rattle.tesla_convert.specs.declared.conversion.Stopped.TheVariants.{Read, Write, Memory}
use Rattle.tesla_run_replay.specs.Playing.{EventRule, WantsNext, end_by_rule, events_in, meaning_by, record_rule, with_end}
use Rattle.tesla_run_replay.specs.Steps.{TellsEnd}
use Rattle.tesla_run_replay.proofs.Made.{refused_is, so_far_is, text_is}
use Rattle.tesla_run_replay.proofs.Wanting.{wants_at}

-- ---- what is told is the fault that came

-- it is told of the same target
pub tells_same : {A : Type 0} (rule : A → EventRule) (Had : A → List Event → Type 0) (ended : Result (Ending RecordKind) Stopped) (outcome : OutcomeView) (target same : A) → same ≡ target
    → TellsEnd (rule same) (λ records. Had same (with_end (rule same) (events_in records))) ended outcome → TellsEnd (rule target) (λ records. Had target (with_end (rule target) (events_in records))) ended outcome
tells_same {A} rule Had ended outcome target same e tells = subst (λ (t : A). TellsEnd (rule t) (λ records. Had t (with_end (rule t) (events_in records))) ended outcome) e tells

module _ (rule : EventRule) (Ended : List Record → Type 0) (outcome : OutcomeView) where
  pub read_from : (ended : Result (Ending RecordKind) Stopped) → TellsEnd rule Ended ended outcome → outcome ≡ Failed faults.Read → ended ≡ Err Read
  read_from (Ok endings.End) tells e = absurd (let no = tells.1 in cc)
  read_from (Ok (endings.Refused offset kind)) tells e = absurd cc
  read_from (Err Read) tells e = refl
  read_from (Err Write) tells e = absurd cc
  read_from (Err Memory) tells e = absurd cc

  pub read_to : (ended : Result (Ending RecordKind) Stopped) → TellsEnd rule Ended ended outcome → ended ≡ Err Read → outcome ≡ Failed faults.Read
  read_to (Ok ending) tells e = absurd cc
  read_to (Err Read) tells e = tells
  read_to (Err Write) tells e = absurd cc
  read_to (Err Memory) tells e = absurd cc

  pub write_from : (ended : Result (Ending RecordKind) Stopped) → TellsEnd rule Ended ended outcome → outcome ≡ Failed faults.Write → ended ≡ Err Write
  write_from (Ok endings.End) tells e = absurd (let no = tells.1 in cc)
  write_from (Ok (endings.Refused offset kind)) tells e = absurd cc
  write_from (Err Read) tells e = absurd cc
  write_from (Err Write) tells e = refl
  write_from (Err Memory) tells e = absurd cc

  pub write_to : (ended : Result (Ending RecordKind) Stopped) → TellsEnd rule Ended ended outcome → ended ≡ Err Write → outcome ≡ Failed faults.Write
  write_to (Ok ending) tells e = absurd cc
  write_to (Err Read) tells e = absurd cc
  write_to (Err Write) tells e = tells
  write_to (Err Memory) tells e = absurd cc

-- ---- what was written is the text of the capture

-- all of a text was written
whole : (written : Option (List ℕ)) (done text other : List ℕ) → HoldsText written [] text → text ≡ other → written ≡ Some done → done ≡ other
whole written done text other holds e told = sym (append-nil done) ∙ holds done told ∙ e

-- a prefix of it was
part : (written : Option (List ℕ)) (done text other : List ℕ) → HoldsPrefix written [] text → text ≡ other → written ≡ Some done → IsPrefix other done
part written done text other holds e told = subst (λ (t : List ℕ). IsPrefix t done) e (subst (λ (b : List ℕ). IsPrefix text b) (append-nil done) (holds done told))

whole_or_part : (written : Option (List ℕ)) (failed : ℕ) (done text other : List ℕ) → HoldsText written [] text ⊎ ((0 < failed) × HoldsPrefix written [] text) → text ≡ other → written ≡ Some done → (done ≡ other) ⊎ ((0 < failed) × IsPrefix other done)
whole_or_part written failed done text other (inl holds) e told = inl (whole written done text other holds e told)
whole_or_part written failed done text other (inr (some, holds)) e told = inr (some, part written done text other holds e told)

-- ---- what the capture comes to

-- where no place is refused, it is what is told
ended_at : (rule : EventRule) (records : List Record) (fault : Option (ℕ × RecordKind)) → fault ≡ None → Done (rule.tells (with_end rule (events_in records))) ≡ end_by_rule rule fault records
ended_at rule records None e = refl
ended_at rule records (Some fault) e = absurd cc

-- where one is, it is that
refused_at : (rule : EventRule) (records : List Record) (offset : ℕ) (kind : RecordKind) (fault : Option (ℕ × RecordKind)) → fault ≡ Some (offset, kind) → end_by_rule rule (Some (offset, kind)) records ≡ end_by_rule rule fault records
refused_at rule records offset kind fault e = ap (λ (f : Option (ℕ × RecordKind)). end_by_rule rule f records) (sym e)

-- the rule that was named before, that of the target at last, and what it was given
module _ (may_want : Bool) (rule last : EventRule) (Had : List Event → Type 0) (left left_now written : Option (List ℕ)) (failed : ℕ) where
  lines_are : (text : List ℕ) (bytes : List ℕ) → last ≡ rule → Had (with_end rule (events_in (outline_of bytes).records)) → (outline_of bytes).fault ≡ None
      → ((records : List Record) → Had (with_end last (events_in records)) → text ≡ last.tells (with_end last (events_in records))) → Done text ≡ end_by_rule rule (outline_of bytes).fault (outline_of bytes).records
  lines_are text bytes same had none tells =
      let records : List Record = (outline_of bytes).records in
      let told : text ≡ last.tells (with_end last (events_in records)) = tells records (subst (λ (r : EventRule). Had (with_end r (events_in records))) (sym same) had) in
      ap (λ t. Done t) (told ∙ ap (λ (r : EventRule). r.tells (with_end r (events_in records))) same) ∙ ended_at rule records (outline_of bytes).fault none

  -- memory was wanting, while no write failed
  abbrev WantsMemory : Type 0
  WantsMemory = (may_want ≡ true) × (failed ≡ 0) × ((bytes : List ℕ) → left ≡ Some bytes → IsWanting capture RecordKind (record_rule rule) (WantsNext rule) bytes written)

  by_end : (ended : Result (Ending RecordKind) Stopped) (outcome : OutcomeView)
      → ((bytes : List ℕ) → left ≡ Some bytes → Converts capture RecordKind (record_rule rule) (λ records. (last ≡ rule) × Had (with_end rule (events_in records))) ended bytes left_now written failed)
      → TellsEnd last (λ records. Had (with_end last (events_in records))) ended outcome → (ended ≡ Err Write → 0 < failed) → (ended ≡ Err Memory → WantsMemory) → ConvertsBetween (meaning_by may_want rule) left left_now written failed outcome
  by_end (Ok endings.End) outcome converts tells some wants =
      subst (λ (c : OutcomeView). ConvertsBetween (meaning_by may_want rule) left left_now written failed c) (sym tells.1) (record {
        end = λ bytes told.
            let it = converts bytes told in
            lines_are tells.0 bytes it.0.0 it.0.1 (sym (refused_is rule bytes) ∙ it.1.refused_is) tells.2;
        text = λ bytes done told written_is. whole written done _ _ (converts bytes told).1.holds (text_is rule bytes) written_is;
      })
  by_end (Ok (endings.Refused offset kind)) outcome converts tells some wants =
      subst (λ (c : OutcomeView). ConvertsBetween (meaning_by may_want rule) left left_now written failed c) (sym tells) (record {
        end = λ bytes told. refused_at rule (outline_of bytes).records offset kind (outline_of bytes).fault (sym (refused_is rule bytes) ∙ (converts bytes told).refused_is);
        text = λ bytes done told written_is. whole written done _ _ (converts bytes told).holds (text_is rule bytes) written_is;
      })
  by_end (Err Read) outcome converts tells some wants =
      subst (λ (c : OutcomeView). ConvertsBetween (meaning_by may_want rule) left left_now written failed c) (sym tells) (λ bytes told.
      let it = converts bytes told in
      (it.read, it.rest, it.left_is, it.parts, it.none, λ done written_is. whole_or_part written failed done _ _ it.written_is (so_far_is rule it.read) written_is))
  by_end (Err Write) outcome converts tells some wants =
      subst (λ (c : OutcomeView). ConvertsBetween (meaning_by may_want rule) left left_now written failed c) (sym tells)
      (some refl, λ bytes done told written_is. part written done _ _ (converts bytes told) (text_is rule bytes) written_is)
  by_end (Err Memory) outcome converts tells some wants =
      subst (λ (c : OutcomeView). ConvertsBetween (meaning_by may_want rule) left left_now written failed c) (sym tells)
      (inr ((wants refl).0, (wants refl).1, λ bytes done told written_is. (part written done _ _ (converts bytes told) (text_is rule bytes) written_is, wants_at rule bytes written ((wants refl).2 bytes told) done written_is)))

  -- the same, told the rule of the target before, and that by which was converted: both are the one that was named
  pub ends_between : (first by : EventRule) (ended : Result (Ending RecordKind) Stopped) (outcome : OutcomeView) → rule ≡ first → rule ≡ by
      → ((bytes : List ℕ) → left ≡ Some bytes → Converts capture RecordKind (record_rule by) (λ records. (last ≡ rule) × Had (with_end rule (events_in records))) ended bytes left_now written failed)
      → TellsEnd last (λ records. Had (with_end last (events_in records))) ended outcome → (ended ≡ Err Write → 0 < failed) → (ended ≡ Err Memory → (may_want ≡ true) × (failed ≡ 0) × ((bytes : List ℕ) → left ≡ Some bytes → IsWanting capture RecordKind (record_rule by) (WantsNext rule) bytes written))
      → ConvertsBetween (meaning_by may_want first) left left_now written failed outcome
  ends_between first by ended outcome start same converts tells some wants =
      subst (λ (r : EventRule). ConvertsBetween (meaning_by may_want r) left left_now written failed outcome) start
      (by_end ended outcome (λ bytes told.
      subst (λ (r : EventRule). Converts capture RecordKind (record_rule r) (λ records. (last ≡ rule) × Had (with_end rule (events_in records))) ended bytes left_now written failed) (sym same) (converts bytes told)) tells some
      (λ e. let it = wants e in (it.0, it.1, λ bytes told. subst (λ (r : EventRule). IsWanting capture RecordKind (record_rule r) (WantsNext rule) bytes written) (sym same) (it.2 bytes told))))
