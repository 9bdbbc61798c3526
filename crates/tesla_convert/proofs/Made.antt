-- The records of a file, converted one after another.
use Rattle.std.proofs.Common.{◌≡◌, ◌∙◌, ◌⊎◌, inl, inr, ℕ, ◌+◌, ◌<◌, Option, Some, None, Result, Ok, Err, List, [], ◌∷◌, ◌++◌, length, refl, sym, ap, subst, append_assoc, append-nil}
use Rattle.tesla_capture.specs.Gathering.{Gathers}
use Rattle.tesla_capture.specs.Grammar.{Grammar}
use Rattle.tesla_capture.specs.Formats.{IsGrammar}
use Rattle.tesla_capture.specs.Found.{AwaitsAt}
use Rattle.tesla_capture.specs.Records.{AtEnd, Outline, Recorded, Refuses, next_at, outline_at, outline_of, record_offset, refusal_of, with_record, with_records}
use Rattle.tesla_capture.specs.Steps.{GivesRecord, LeavesFrom}
use Rattle.tesla_capture.specs.declared.record.RecordKind.{RecordKind}
use Rattle.tesla_capture.proofs.OutlineStep.{one_refused, one_step}
use Rattle.tesla_capture.proofs.Taken.{fault_taken, given_taken, none_taken, taken_outline}
use Rattle.tesla_desk.specs.Outside.{AppendsPrefix, after_bytes, with_bytes}
use Rattle.tesla_desk.proofs.Told.{prefix_whole}
use Rattle.tesla_convert.specs.Held.{HoldsText, HoldsPrefix}
use Rattle.tesla_convert.specs.Records.{Answers}
use Rattle.tesla_convert.specs.Rule.{Behind, Made, Rule, Unread, behind_of, made, made_first, made_of, made_so_far, with_text}
use Rattle.tesla_convert.specs.Steps.{AllTo, Converts, IsAt, IsAtEnd, IsCutOff, IsMade, IsWrittenSoFar, RecordsTo, Settles, StepsTo, ending_at}
use Rattle.tesla_convert.specs.declared.conversion.Ending.{Ending}
use Rattle.tesla_convert.specs.declared.conversion.Ending.TheVariants as endings
use Rattle.tesla_convert.specs.declared.conversion.Stopped.{Stopped}
use Rattle.tesla_convert.specs.declared.conversion.Stopped.TheVariants as stops
use Rattle.tesla_convert.specs.declared.converter.Converted.{Converted}
use Rattle.tesla_convert.specs.declared.converter.Converted.TheVariants.{Whole, Refused, WriteFault, NoMemory}
use Rattle.tesla_convert.proofs.Held.{holds_flushed, holds_more, holds_written, prefix_written, whole_prefix}
use Rattle.tesla_convert.proofs.Offsets.{next_offset}

-- what is left of a source that had something ahead is told
left_told : (pending : List ℕ) (left : Option (List ℕ)) (all : List ℕ) → after_bytes pending left ≡ Some all → (behind : List ℕ) × (left ≡ Some behind)
left_told pending None all e = absurd cc
left_told pending (Some behind) all e = (behind, refl)

module _ (G : Grammar) (is : IsGrammar G) (Kind : Type 0) (rule : Rule G Kind) where
  text_twice : (a b : List ℕ) (m : Made Kind) → with_text a (with_text b m) ≡ with_text (a ++ b) m
  text_twice a b m = ap (λ (t : List ℕ). let it : Made Kind = record { text = t; refused = m.refused } in it) (sym (append_assoc a b m.text))

  -- nothing was converted yet
  pub at_start : (Has : List G.Record → Type 0) (bytes : List ℕ) (offset : ℕ) (ahead written : Option (List ℕ)) (held : List ℕ) → offset ≡ 0 → ahead ≡ Some bytes → Has [] → HoldsText written held rule.begins → IsAt G Kind rule Has bytes offset ahead written held
  at_start Has bytes offset ahead written held first told has holds =
      subst (λ (p : ℕ). IsAt G Kind rule Has bytes p ahead written held) (sym first) (record {
        records = [];
        rest = bytes;
        text = [];
        ahead_is = told;
        taken = none_taken G is bytes;
        passed = λ behind more. refl;
        has = has;
        holds = λ done written_done. holds done written_done ∙ sym (append-nil rule.begins);
      })

  -- what is made of the file, told what is made of its rest
  made_here : (Has : List G.Record → Type 0) (bytes : List ℕ) (offset : ℕ) (ahead written : Option (List ℕ)) (held : List ℕ) → (at : IsAt G Kind rule Has bytes offset ahead written held) (outline : Outline G.Record) → outline_at G offset at.rest ≡ outline
      → made G Kind rule bytes ≡ with_text (rule.begins ++ at.text) (made_of G Kind rule (behind_of G Kind rule outline.fault) (record_offset offset) at.records outline.records)
  made_here Has bytes offset ahead written held at outline e =
      let whole : outline_of G bytes ≡ with_records at.records outline = taken_outline G is bytes at.records offset at.rest at.taken ∙ ap (with_records at.records) e in
      ap (λ (o : Outline G.Record). with_text rule.begins (made_of G Kind rule (behind_of G Kind rule o.fault) 5 [] o.records)) whole
      ∙ ap (with_text rule.begins) (at.passed (behind_of G Kind rule outline.fault) outline.records)
      ∙ text_twice rule.begins at.text (made_of G Kind rule (behind_of G Kind rule outline.fault) (record_offset offset) at.records outline.records)

  -- the records of the file are those that were taken, where none follows
  records_here : (Has : List G.Record → Type 0) (bytes : List ℕ) (offset : ℕ) (ahead written : Option (List ℕ)) (held : List ℕ) → (at : IsAt G Kind rule Has bytes offset ahead written held) (fault : Option (ℕ × RecordKind)) → outline_at G offset at.rest ≡ record { records = []; fault = fault } → (outline_of G bytes).records ≡ at.records
  records_here Has bytes offset ahead written held at fault e =
      ap (λ (o : Outline G.Record). o.records) (taken_outline G is bytes at.records offset at.rest at.taken) ∙ ap (λ (o : Outline G.Record). at.records ++ o.records) e ∙ append-nil at.records

  -- the file ended
  pub at_end : (Has : List G.Record → Type 0) (bytes : List ℕ) (offset : ℕ) (ahead written : Option (List ℕ)) (held : List ℕ) → (at : IsAt G Kind rule Has bytes offset ahead written held) → next_at G offset at.rest ≡ AtEnd → IsAtEnd G Kind rule Has bytes written held
  at_end Has bytes offset ahead written held at ends =
      let outline = one_step G is offset at.rest AtEnd ends in
      let records = records_here Has bytes offset ahead written held at None outline in
      let all : outline_of G bytes ≡ with_records at.records (record { records = []; fault = None }) = taken_outline G is bytes at.records offset at.rest at.taken ∙ ap (with_records at.records) outline in
      let unread : made_of G Kind rule Unread 5 [] at.records ≡ record { text = at.text ++ []; refused = None } = ap (λ (rs : List G.Record). made_of G Kind rule Unread 5 [] rs) (sym (append-nil at.records)) ∙ at.passed Unread [] in
      record {
        text = rule.begins ++ at.text;
        has = subst Has (sym records) at.has;
        made_is = made_here Has bytes offset ahead written held at (record { records = []; fault = None }) outline
            ∙ ap (λ (rs : List G.Record). let it : Made Kind = record { text = (rule.begins ++ at.text) ++ rule.ends rs; refused = None } in it) (sym records);
        whole = ap (λ (o : Outline G.Record). o.fault) all;
        text_is = ap (λ (t : List ℕ). rule.begins ++ t) (sym (append-nil at.text) ∙ sym (ap (λ (m : Made Kind). m.text) unread)) ∙ ap (λ (rs : List G.Record). rule.begins ++ (made_of G Kind rule Unread 5 [] rs).text) (sym records);
        holds = at.holds;
      }

  -- a place of the file is refused
  pub at_refused : (Has : List G.Record → Type 0) (bytes : List ℕ) (offset : ℕ) (ahead written : Option (List ℕ)) (held : List ℕ) (refused : ℕ) (kind : RecordKind) (name : Kind) → (at : IsAt G Kind rule Has bytes offset ahead written held) → next_at G offset at.rest ≡ Refuses refused (refusal_of kind) → name ≡ rule.kind_of kind → IsMade G Kind rule (Some (refused, name)) bytes written held
  at_refused Has bytes offset ahead written held refused kind name at next named =
      let outline = one_refused G is offset at.rest refused kind next in
      let whole = made_here Has bytes offset ahead written held at (record { records = []; fault = Some (refused, kind) }) outline in
      record {
        refused_is = ap (λ (m : Made Kind). m.refused) whole ∙ ap (λ (k : Kind). Some (refused, k)) (sym named);
        holds = λ done told. at.holds done told ∙ sym (append-nil (rule.begins ++ at.text)) ∙ sym (ap (λ (m : Made Kind). m.text) whole);
      }

  -- a read failed
  pub at_fault : (Has : List G.Record → Type 0) (bytes : List ℕ) (offset now : ℕ) (ahead written : Option (List ℕ)) (pending held : List ℕ) (left : Option (List ℕ)) → (at : IsAt G Kind rule Has bytes offset ahead written held) → LeavesFrom G 0 offset at.rest now (after_bytes pending left) → AwaitsAt G now pending → IsCutOff G Kind rule bytes left written held
  at_fault Has bytes offset now ahead written pending held left at leaves awaits =
      let behind = left_told pending left leaves.0 leaves.1 in
      let up = fault_taken G is bytes at.records offset at.rest now pending left behind.0 at.taken leaves awaits behind.1 in
      let passed = at.passed Unread [] in
      let here : made_of G Kind rule Unread 5 [] at.records ≡ record { text = at.text ++ []; refused = None } = ap (λ (rs : List G.Record). made_of G Kind rule Unread 5 [] rs) (sym (append-nil at.records)) ∙ passed in
      let whole : made_so_far G Kind rule up.read ≡ record { text = rule.begins ++ (at.text ++ []); refused = None } = ap (λ (rs : List G.Record). with_text rule.begins (made_of G Kind rule Unread 5 [] rs)) up.records_are ∙ ap (with_text rule.begins) here in
      record {
        read = up.read;
        rest = behind.0;
        left_is = behind.1;
        parts = up.whole;
        none = up.unrefused;
        taken = ap (λ (m : Made Kind). m.refused) whole;
        holds = λ done told. at.holds done told ∙ ap (λ (t : List ℕ). rule.begins ++ t) (sym (append-nil at.text)) ∙ sym (ap (λ (m : Made Kind). m.text) whole);
      }

  -- ---- the next record

  -- what is made of it and of those behind it
  made_next : (behind : Behind Kind) (offset now : ℕ) (records : List G.Record) (first : G.Record) (more : List G.Record) → record_offset now ≡ record_offset offset + length (G.record_text first)
      → made_of G Kind rule behind (record_offset offset) records (first ∷ more) ≡ made_first (rule.refuses records first) (record_offset offset) (rule.adds records first) (made_of G Kind rule behind (record_offset now) (records ++ first ∷ []) more)
  made_next behind offset now records first more next =
      ap (λ (p : ℕ). made_first (rule.refuses records first) (record_offset offset) (rule.adds records first) (made_of G Kind rule behind p (records ++ first ∷ []) more)) (sym next)

  -- a prefix of what was held and of what is written of it was written
  prefix_next : (Had : List G.Record → Type 0) (bytes : List ℕ) (offset now : ℕ) (ahead left before written : Option (List ℕ)) (held : List ℕ) (first : G.Record)
      → (at : IsAt G Kind rule Had bytes offset ahead before held) (gives : GivesRecord G first offset at.rest now left) → rule.refuses at.records first ≡ None → AppendsPrefix before written (held ++ rule.adds at.records first) → HoldsPrefix written [] (made G Kind rule bytes).text
  prefix_next Had bytes offset now ahead left before written held first at gives passes appends =
      let next = next_offset G is offset now at.rest left first gives in
      let others = outline_at G now gives.0 in
      let outline : outline_at G offset at.rest ≡ with_record first others = one_step G is offset at.rest (Recorded first now gives.0) gives.2 in
      let behind = made_of G Kind rule (behind_of G Kind rule others.fault) (record_offset now) (at.records ++ first ∷ []) others.records in
      let whole : made G Kind rule bytes ≡ with_text (rule.begins ++ at.text) (with_text (rule.adds at.records first) behind) =
      made_here Had bytes offset ahead before held at (with_record first others) outline
      ∙ ap (with_text (rule.begins ++ at.text)) (made_next (behind_of G Kind rule others.fault) offset now at.records first others.records next
      ∙ ap (λ (r : Option Kind). made_first r (record_offset offset) (rule.adds at.records first) behind) passes) in
      let text : (made G Kind rule bytes).text ≡ ((rule.begins ++ at.text) ++ rule.adds at.records first) ++ behind.text = ap (λ (m : Made Kind). m.text) whole ∙ sym (append_assoc (rule.begins ++ at.text) (rule.adds at.records first) behind.text) in
      let both : HoldsText before (held ++ rule.adds at.records first) ((rule.begins ++ at.text) ++ rule.adds at.records first) = λ done told. sym (append_assoc done held (rule.adds at.records first)) ∙ ap (λ t. t ++ rule.adds at.records first) (at.holds done told) in
      subst (λ (t : List ℕ). HoldsPrefix written [] t) (sym text) (holds_written before written (held ++ rule.adds at.records first) ((rule.begins ++ at.text) ++ rule.adds at.records first) behind.text both appends)

  next_by : (Had Has : List G.Record → Type 0) (bytes : List ℕ) (offset now : ℕ) (ahead left rest_left before written : Option (List ℕ)) (held rest : List ℕ) (first : G.Record) (converted : Converted Kind)
      → (at : IsAt G Kind rule Had bytes offset ahead before held) (gives : GivesRecord G first offset at.rest now left) → Answers G rule Has at.records first converted before written held rest
      → StepsTo G Kind rule Has (ending_at (record_offset offset) converted) bytes now left rest_left written rest
  next_by Had Has bytes offset now ahead left rest_left before written held rest first Whole at gives (passes, has, gathers) =
      let next = next_offset G is offset now at.rest left first gives in
      record {
        records = at.records ++ first ∷ [];
        rest = gives.0;
        text = at.text ++ rule.adds at.records first;
        ahead_is = gives.1;
        taken = given_taken G is bytes at.records offset at.rest first now left at.taken gives;
        passed = λ behind more.
            ap (λ (rs : List G.Record). made_of G Kind rule behind 5 [] rs) (append_assoc at.records (first ∷ []) more) ∙ at.passed behind (first ∷ more)
            ∙ ap (with_text at.text) (made_next behind offset now at.records first more next ∙ ap (λ (r : Option Kind). made_first r (record_offset offset) (rule.adds at.records first) (made_of G Kind rule behind (record_offset now) (at.records ++ first ∷ []) more)) passes)
            ∙ text_twice at.text (rule.adds at.records first) (made_of G Kind rule behind (record_offset now) (at.records ++ first ∷ []) more);
        has = has;
        holds = λ done told. holds_more before written held rest (rule.begins ++ at.text) (rule.adds at.records first) at.holds gathers done told ∙ append_assoc rule.begins at.text (rule.adds at.records first);
      }
  next_by Had Has bytes offset now ahead left rest_left before written held rest first (Refused kind) at gives (refuses, same, kept) =
      let next = next_offset G is offset now at.rest left first gives in
      let others = outline_at G now gives.0 in
      let outline : outline_at G offset at.rest ≡ with_record first others = one_step G is offset at.rest (Recorded first now gives.0) gives.2 in
      let whole : made G Kind rule bytes ≡ record { text = (rule.begins ++ at.text) ++ []; refused = Some (record_offset offset, kind) } =
      made_here Had bytes offset ahead before held at (with_record first others) outline
      ∙ ap (with_text (rule.begins ++ at.text)) (made_next (behind_of G Kind rule others.fault) offset now at.records first others.records next
      ∙ ap (λ (r : Option Kind). made_first r (record_offset offset) (rule.adds at.records first) (made_of G Kind rule (behind_of G Kind rule others.fault) (record_offset now) (at.records ++ first ∷ []) others.records)) refuses) in
      let holds : HoldsText written rest (rule.begins ++ at.text) = subst (λ (w : Option (List ℕ)). HoldsText w rest (rule.begins ++ at.text)) (sym same) (subst (λ (h : List ℕ). HoldsText before h (rule.begins ++ at.text)) (sym kept) at.holds) in
      record {
        refused_is = ap (λ (m : Made Kind). m.refused) whole;
        holds = λ done told. holds done told ∙ sym (append-nil (rule.begins ++ at.text)) ∙ sym (ap (λ (m : Made Kind). m.text) whole);
      }
  next_by Had Has bytes offset now ahead left rest_left before written held rest first WriteFault at gives (passes, appends) =
      prefix_next Had bytes offset now ahead left before written held first at gives passes appends
  next_by Had Has bytes offset now ahead left rest_left before written held rest first NoMemory at gives (passes, none, all) =
      prefix_next Had bytes offset now ahead left before written held first at gives passes (prefix_whole before written (held ++ rule.adds at.records first) all)

  -- a record was found and converted, or is refused, or the conversion stopped at it
  pub at_next : (Had Has : List G.Record → Type 0) (bytes : List ℕ) (position now offset : ℕ) (ahead left rest_left before written : Option (List ℕ)) (held rest : List ℕ) (first : G.Record) (converted : Converted Kind) (result : Result (Option (Ending Kind)) Stopped)
      → (at : IsAt G Kind rule Had bytes position ahead before held) → GivesRecord G first position at.rest now left → ((rs : List G.Record) → Had rs → Answers G rule Has rs first converted before written held rest)
      → offset ≡ record_offset position → result ≡ ending_at offset converted → StepsTo G Kind rule Has result bytes now left rest_left written rest
  at_next Had Has bytes position now offset ahead left rest_left before written held rest first converted result at gives answers here e =
      subst (λ (r : Result (Option (Ending Kind)) Stopped). StepsTo G Kind rule Has r bytes now left rest_left written rest) (sym (e ∙ ap (λ (p : ℕ). ending_at p converted) here))
      (next_by Had Has bytes position now ahead left rest_left before written held rest first converted at gives (answers at.records at.has))

-- ---- steps one after another

module _ (G : Grammar) (Kind : Type 0) where
  -- what was converted by a rule was by one that is the same
  pub at_same : (rule same : Rule G Kind) (Has : List G.Record → Type 0) (bytes : List ℕ) (offset : ℕ) (ahead written : Option (List ℕ)) (held : List ℕ) → rule ≡ same → IsAt G Kind rule Has bytes offset ahead written held → IsAt G Kind same Has bytes offset ahead written held
  at_same rule same Has bytes offset ahead written held e at = subst (λ (r : Rule G Kind). IsAt G Kind r Has bytes offset ahead written held) e at

  -- there may be more
  pub goes_on : (rule same : Rule G Kind) (Has : List G.Record → Type 0) (next : Option (Ending Kind)) (bytes : List ℕ) (offset : ℕ) (ahead left written : Option (List ℕ)) (held : List ℕ) → next ≡ None → rule ≡ same → StepsTo G Kind rule Has (Ok next) bytes offset ahead left written held → IsAt G Kind same Has bytes offset ahead written held
  goes_on rule same Has next bytes offset ahead left written held none e steps =
      at_same rule same Has bytes offset ahead written held e (subst (λ (n : Option (Ending Kind)). StepsTo G Kind rule Has (Ok n) bytes offset ahead left written held) none steps)

  records_by : (rule : Rule G Kind) (Has : List G.Record → Type 0) (ending : Ending Kind) (bytes : List ℕ) (offset : ℕ) (ahead left written : Option (List ℕ)) (held : List ℕ) → StepsTo G Kind rule Has (Ok (Some ending)) bytes offset ahead left written held → RecordsTo G Kind rule Has (Ok ending) bytes left written held
  records_by rule Has endings.End bytes offset ahead left written held steps = steps
  records_by rule Has (endings.Refused refused kind) bytes offset ahead left written held steps = steps

  -- there is no more
  pub ends : (rule same : Rule G Kind) (Has : List G.Record → Type 0) (next : Option (Ending Kind)) (ending : Ending Kind) (bytes : List ℕ) (offset : ℕ) (ahead left written : Option (List ℕ)) (held : List ℕ) → next ≡ Some ending → rule ≡ same → StepsTo G Kind rule Has (Ok next) bytes offset ahead left written held → RecordsTo G Kind same Has (Ok ending) bytes left written held
  ends rule same Has next ending bytes offset ahead left written held some e steps =
      subst (λ (r : Rule G Kind). RecordsTo G Kind r Has (Ok ending) bytes left written held) e
      (records_by rule Has ending bytes offset ahead left written held (subst (λ (n : Option (Ending Kind)). StepsTo G Kind rule Has (Ok n) bytes offset ahead left written held) some steps))

  stops_by : (rule : Rule G Kind) (Has : List G.Record → Type 0) (stopped : Stopped) (bytes : List ℕ) (offset : ℕ) (ahead left written : Option (List ℕ)) (held : List ℕ) → StepsTo G Kind rule Has (Err stopped) bytes offset ahead left written held → RecordsTo G Kind rule Has (Err stopped) bytes left written held
  stops_by rule Has stops.Read bytes offset ahead left written held steps = steps
  stops_by rule Has stops.Write bytes offset ahead left written held steps = steps
  stops_by rule Has stops.Memory bytes offset ahead left written held steps = steps

  -- the conversion stopped
  pub breaks : (rule same : Rule G Kind) (Has : List G.Record → Type 0) (stopped : Stopped) (bytes : List ℕ) (offset : ℕ) (ahead left written : Option (List ℕ)) (held : List ℕ) → rule ≡ same → StepsTo G Kind rule Has (Err stopped) bytes offset ahead left written held → RecordsTo G Kind same Has (Err stopped) bytes left written held
  breaks rule same Has stopped bytes offset ahead left written held e steps =
      subst (λ (r : Rule G Kind). RecordsTo G Kind r Has (Err stopped) bytes left written held) e (stops_by rule Has stopped bytes offset ahead left written held steps)

  -- ---- the end of the file

  -- the end was converted
  pub all_ended : (rule : Rule G Kind) (Has Ended : List G.Record → Type 0) (bytes : List ℕ) (left before written : Option (List ℕ)) (held rest : List ℕ) → (at : IsAtEnd G Kind rule Has bytes before held) → Ended (outline_of G bytes).records → Gathers before written rest (held ++ rule.ends (outline_of G bytes).records) → AllTo G Kind rule Ended (Ok endings.End) bytes left written rest
  all_ended rule Has Ended bytes left before written held rest at ended gathers = (
    ended,
    record {
      refused_is = ap (λ (m : Made Kind). m.refused) at.made_is;
      holds = λ done told. holds_more before written held rest at.text (rule.ends (outline_of G bytes).records) at.holds gathers done told ∙ sym (ap (λ (m : Made Kind). m.text) at.made_is);
    },
  )

  -- a prefix of what was held and of what is written at the end was written
  all_halted : (rule : Rule G Kind) (Has : List G.Record → Type 0) (bytes : List ℕ) (left before written : Option (List ℕ)) (held : List ℕ) → (at : IsAtEnd G Kind rule Has bytes before held) → AppendsPrefix before written (held ++ rule.ends (outline_of G bytes).records) → HoldsPrefix written [] (made G Kind rule bytes).text
  all_halted rule Has bytes left before written held at appends =
      let piece = rule.ends (outline_of G bytes).records in
      let both : HoldsText before (held ++ piece) (at.text ++ piece) = λ done told. sym (append_assoc done held piece) ∙ ap (λ t. t ++ piece) (at.holds done told) in
      let text : (made G Kind rule bytes).text ≡ (at.text ++ piece) ++ [] = ap (λ (m : Made Kind). m.text) at.made_is ∙ sym (append-nil (at.text ++ piece)) in
      subst (λ (t : List ℕ). HoldsPrefix written [] t) (sym text) (holds_written before written (held ++ piece) (at.text ++ piece) [] both appends)

  at_end_by : (rule : Rule G Kind) (Has : List G.Record → Type 0) (ending : Ending Kind) (bytes : List ℕ) (left written : Option (List ℕ)) (held : List ℕ) → ending ≡ endings.End → RecordsTo G Kind rule Has (Ok ending) bytes left written held → IsAtEnd G Kind rule Has bytes written held
  at_end_by rule Has ending bytes left written held e to = subst (λ (x : Ending Kind). RecordsTo G Kind rule Has (Ok x) bytes left written held) e to

  -- the records ended with the file, and the end was converted by a rule that is the same
  pub finished : (rule same : Rule G Kind) (Has Ended : List G.Record → Type 0) (ending : Ending Kind) (bytes : List ℕ) (left before written : Option (List ℕ)) (held rest : List ℕ) → same ≡ rule → ending ≡ endings.End → RecordsTo G Kind rule Has (Ok ending) bytes left before held → ((rs : List G.Record) → Has rs → Ended rs) → ((rs : List G.Record) → Has rs → Gathers before written rest (held ++ same.ends rs)) → AllTo G Kind rule Ended (Ok endings.End) bytes left written rest
  finished rule same Has Ended ending bytes left before written held rest e is_end to ended gathers =
      let at = at_end_by rule Has ending bytes left before held is_end to in
      all_ended rule Has Ended bytes left before written held rest at (ended (outline_of G bytes).records at.has)
      (subst (λ (r : Rule G Kind). Gathers before written rest (held ++ r.ends (outline_of G bytes).records)) e (gathers (outline_of G bytes).records at.has))

  -- the records ended with the file, and the conversion stopped at the end
  pub halted : (rule same : Rule G Kind) (Has : List G.Record → Type 0) (ending : Ending Kind) (bytes : List ℕ) (left before written : Option (List ℕ)) (held : List ℕ) → same ≡ rule → ending ≡ endings.End → RecordsTo G Kind rule Has (Ok ending) bytes left before held → ((rs : List G.Record) → Has rs → AppendsPrefix before written (held ++ same.ends rs)) → HoldsPrefix written [] (made G Kind rule bytes).text
  halted rule same Has ending bytes left before written held e is_end to appends =
      let at = at_end_by rule Has ending bytes left before held is_end to in
      all_halted rule Has bytes left before written held at
      (subst (λ (r : Rule G Kind). AppendsPrefix before written (held ++ r.ends (outline_of G bytes).records)) e (appends (outline_of G bytes).records at.has))

  -- a place is refused
  pub refused_all : (rule : Rule G Kind) (Has Ended : List G.Record → Type 0) (ending : Ending Kind) (offset : ℕ) (kind : Kind) (bytes : List ℕ) (left written : Option (List ℕ)) (held : List ℕ) → ending ≡ endings.Refused offset kind → RecordsTo G Kind rule Has (Ok ending) bytes left written held → AllTo G Kind rule Ended (Ok (endings.Refused offset kind)) bytes left written held
  refused_all rule Has Ended ending offset kind bytes left written held e to = subst (λ (x : Ending Kind). RecordsTo G Kind rule Has (Ok x) bytes left written held) e to

  -- what was converted by a rule was by one that is the same
  pub all_same : (rule same : Rule G Kind) (Ended : List G.Record → Type 0) (result : Result (Ending Kind) Stopped) (bytes : List ℕ) (left written : Option (List ℕ)) (held : List ℕ) → rule ≡ same → AllTo G Kind rule Ended result bytes left written held → AllTo G Kind same Ended result bytes left written held
  all_same rule same Ended result bytes left written held e all = subst (λ (r : Rule G Kind). AllTo G Kind r Ended result bytes left written held) e all

  -- a write failed before all records
  pub all_unbegun : (rule : Rule G Kind) (Ended : List G.Record → Type 0) (bytes : List ℕ) (left before written : Option (List ℕ)) (held rest : List ℕ) → HoldsText before held [] → AppendsPrefix before written (held ++ rule.begins) → AllTo G Kind rule Ended (Err stops.Write) bytes left written rest
  all_unbegun rule Ended bytes left before written held rest holds appends =
      let both : HoldsText before (held ++ rule.begins) rule.begins = λ done told. sym (append_assoc done held rule.begins) ∙ ap (λ t. t ++ rule.begins) (holds done told) in
      holds_written before written (held ++ rule.begins) rule.begins (made_of G Kind rule (behind_of G Kind rule (outline_of G bytes).fault) 5 [] (outline_of G bytes).records).text both appends

  -- what stands before all records was put
  pub begun : (rule : Rule G Kind) (before written : Option (List ℕ)) (held rest : List ℕ) → HoldsText before held [] → Gathers before written rest (held ++ rule.begins) → HoldsText written rest rule.begins
  begun rule before written held rest holds gathers = holds_more before written held rest [] rule.begins holds gathers

  -- ---- what is held was written at last

  so_far_by : (rule : Rule G Kind) (bytes : List ℕ) (left before now : Option (List ℕ)) (held : List ℕ) (failed : ℕ) → IsCutOff G Kind rule bytes left before held → (now ≡ with_bytes before held) ⊎ ((0 < failed) × AppendsPrefix before now held) → IsWrittenSoFar G Kind rule bytes left now failed
  so_far_by rule bytes left before now held failed cut how = record {
    read = cut.read;
    rest = cut.rest;
    left_is = cut.left_is;
    parts = cut.parts;
    none = cut.none;
    taken = cut.taken;
    written_is = elim how [
      | inl whole ↦ inl (holds_flushed before now held (made_so_far G Kind rule cut.read).text cut.holds whole)
      | inr part ↦ inr (part.0, prefix_written before now held (made_so_far G Kind rule cut.read).text (whole_prefix before held (made_so_far G Kind rule cut.read).text cut.holds) part.1)
    ];
  }

  made_flushed : (rule : Rule G Kind) (refused : Option (ℕ × Kind)) (bytes : List ℕ) (before now : Option (List ℕ)) (held : List ℕ) → IsMade G Kind rule refused bytes before held → now ≡ with_bytes before held → IsMade G Kind rule refused bytes now []
  made_flushed rule refused bytes before now held is written = record { refused_is = is.refused_is; holds = holds_flushed before now held (made G Kind rule bytes).text is.holds written }

  made_lost : (rule : Rule G Kind) (refused : Option (ℕ × Kind)) (bytes : List ℕ) (before now : Option (List ℕ)) (held : List ℕ) → IsMade G Kind rule refused bytes before held → AppendsPrefix before now held → HoldsPrefix now [] (made G Kind rule bytes).text
  made_lost rule refused bytes before now held is appends = prefix_written before now held (made G Kind rule bytes).text (whole_prefix before held (made G Kind rule bytes).text is.holds) appends

  pub settled : (rule : Rule G Kind) (Ended : List G.Record → Type 0) (outcome result : Result (Ending Kind) Stopped) (bytes : List ℕ) (left before now : Option (List ℕ)) (held : List ℕ) (failed : ℕ) → AllTo G Kind rule Ended outcome bytes left before held → Settles outcome result before now held failed → Converts G Kind rule Ended result bytes left now failed
  settled rule Ended (Ok endings.End) (Ok other) bytes left before now held failed all settles =
      subst (λ (e : Ending Kind). Converts G Kind rule Ended (Ok e) bytes left now failed) (sym settles.0) (all.0, made_flushed rule None bytes before now held all.1 settles.1)
  settled rule Ended (Ok (endings.Refused offset kind)) (Ok other) bytes left before now held failed all settles =
      subst (λ (e : Ending Kind). Converts G Kind rule Ended (Ok e) bytes left now failed) (sym settles.0) (made_flushed rule (Some (offset, kind)) bytes before now held all settles.1)
  settled rule Ended (Ok endings.End) (Err stopped) bytes left before now held failed all settles =
      subst (λ (s : Stopped). Converts G Kind rule Ended (Err s) bytes left now failed) (sym settles.0) (made_lost rule None bytes before now held all.1 settles.1)
  settled rule Ended (Ok (endings.Refused offset kind)) (Err stopped) bytes left before now held failed all settles =
      subst (λ (s : Stopped). Converts G Kind rule Ended (Err s) bytes left now failed) (sym settles.0) (made_lost rule (Some (offset, kind)) bytes before now held all settles.1)
  settled rule Ended (Err stops.Read) result bytes left before now held failed all settles =
      subst (λ (r : Result (Ending Kind) Stopped). Converts G Kind rule Ended r bytes left now failed) (sym settles.0) (so_far_by rule bytes left before now held failed all settles.1)
  settled rule Ended (Err stops.Write) result bytes left before now held failed all settles =
      subst (λ (r : Result (Ending Kind) Stopped). Converts G Kind rule Ended r bytes left now failed) (sym settles.0) (subst (λ (w : Option (List ℕ)). HoldsPrefix w [] (made G Kind rule bytes).text) (sym settles.1) all)
  settled rule Ended (Err stops.Memory) result bytes left before now held failed all settles =
      subst (λ (r : Result (Ending Kind) Stopped). Converts G Kind rule Ended r bytes left now failed) (sym settles.0) (subst (λ (w : Option (List ℕ)). HoldsPrefix w [] (made G Kind rule bytes).text) (sym settles.1) all)
