-- The outline of a file in its grammar has its head and its records; that of another file has its whole records up to the place that is refused, with the cause.
use Rattle.std.proofs.Common.{◌≡◌, ◌≢◌, ◌∙◌, ℕ, zero, suc, ◌+◌, ◌-◌, ◌<◌, ◌≤◌, Bool, true, false, cond, ltb, List, [], ◌∷◌, ◌++◌, length, take, drop, Option, Some, None, refl, sym, ap, subst, arith, append_assoc, append-nil, length-append}
use Rattle.std.specs.List.{flat_map, AllByRecursion}
use Rattle.std.proofs.lemmas.Bool.{le-ltb, ltb-true, ltb-false}
use Rattle.std.proofs.lemmas.List.{take_all, length-take}
use Rattle.std.proofs.lemmas.List.Concat.{flat_map-cons}
use Rattle.tesla_base.specs.Prefix.{AreBytes}
use Rattle.tesla_base.proofs.Prefixes.{AreBytes-take, AreBytes-parts, done, some_is}
use Rattle.tesla_records.specs.Grammar.{Parsed, Awaits, Whole, Bad, Grammar, IsGrammar, IsFile, ParsedHead, AwaitsHead, HeadIs, NoHead, file_text, limit}
use Rattle.tesla_records.specs.Records.{Next, AtEnd, Recorded, Refuses, Outline, next_by, record_next, next_at, parsed_head, head_at, with_head, with_record, outline_by, outline_within, outline_at, outline_of}
use Rattle.tesla_records.specs.declared.refusal.Refusal.{Refusal}
use Rattle.tesla_records.specs.declared.refusal.Refusal.TheVariants.{BadHead, Truncated, TooLarge, BadRecord}
use Rattle.tesla_records.specs.Refused.{IsWhy, StopsAfter, StopsBehind, IsRefused}
use Rattle.tesla_records.proofs.NextRecord.{head_some, next_from, none_ends, next_parsed, bad_some, awaits_cut, record_follows, record_shorter}
use Rattle.tesla_records.proofs.OutlineStep.{one_step, head_behind, at_behind}
use Rattle.tesla_records.proofs.StepGives.{next_bad, head_before}
use Rattle.tesla_records.proofs.ParsedAgain.{record_spells, text_next}
use Rattle.tesla_records.proofs.Taken.{head_outline}

-- what comes next behind the records of an outline
abbrev pub next_of : {R K : Type 0} → Option (ℕ × Refusal K) → Next R K
next_of None = AtEnd
next_of (Some x) = Refuses x.0 x.1

-- records one after the other from a place on, and what is left behind the last of them
record Walks (G : Grammar) (offset : ℕ) (rest : List ℕ) (outline : Outline G.Head G.Record G.Kind) : Type 0 where
  limits : AllByRecursion G.IsRecord outline.records
  left : List ℕ
  spelled : rest ≡ flat_map G.record_text outline.records ++ left
  within : offset + length (flat_map G.record_text outline.records) ≤ limit
  next : record_next G (offset + length (flat_map G.record_text outline.records)) left ≡ next_of outline.fault

module _ (G : Grammar) (sound : IsGrammar G) where
  -- nothing more is walked over
  walks_none : (offset : ℕ) (rest : List ℕ) (fault : Option (ℕ × Refusal G.Kind)) → offset ≤ limit → record_next G offset rest ≡ next_of fault → Walks G offset rest (record { head = None; records = []; fault = fault })
  walks_none offset rest fault close e = record {
    limits = tt;
    left = rest;
    spelled = refl;
    within = omega arith;
    next = ap (λ (n : ℕ). record_next G n rest) (omega arith) ∙ e;
  }

  -- a record before those that are walked over
  walks_more : (offset : ℕ) (rest : List ℕ) (first : G.Record) (now : ℕ) (after : List ℕ) (outline : Outline G.Head G.Record G.Kind) → rest ≡ G.record_text first ++ after → G.IsRecord first → now ≡ offset + length (G.record_text first) → Walks G now after outline → Walks G offset rest (with_record first outline)
  walks_more offset rest first now after outline parts is now_is others =
      let text : flat_map G.record_text (first ∷ outline.records) ≡ G.record_text first ++ flat_map G.record_text outline.records = flat_map-cons G.record_text first outline.records in
      let size : offset + length (flat_map G.record_text (first ∷ outline.records)) ≡ now + length (flat_map G.record_text outline.records) =
      (let l = ap length text in omega (arith, l, now_is, length-append (G.record_text first) (flat_map G.record_text outline.records))) in
      record {
        limits = (is, others.limits);
        left = others.left;
        spelled = parts ∙ ap (λ (t : List ℕ). G.record_text first ++ t) others.spelled ∙ sym (append_assoc (G.record_text first) (flat_map G.record_text outline.records) others.left) ∙ ap (λ (t : List ℕ). t ++ others.left) (sym text);
        within = (let w = others.within in omega arith);
        next = ap (λ (n : ℕ). record_next G n others.left) size ∙ others.next;
      }

  walks_within : (n offset : ℕ) (rest : List ℕ) → length rest < n → 0 < offset → offset ≤ limit → AreBytes rest → Walks G offset rest (outline_within G n offset rest)
  unfolding outline_within
  walks_within zero offset rest enough some close fits = absurd (omega arith)
  walks_within (suc n) offset rest enough some close fits =
      let step : (next : Next G.Record G.Kind) → record_next G offset rest ≡ next → Walks G offset rest (outline_by (outline_within G n) next) = λ next e.
      (elim next as (λ k. record_next G offset rest ≡ k → Walks G offset rest (outline_by (outline_within G n) k)) [
        | AtEnd ↦ λ h. walks_none offset rest None close h
        | Recorded first now after ↦ λ h. (
            let f = record_follows G offset rest first now after h in
            let s = record_spells G sound offset rest first now after fits h in
            let t = record_shorter G sound offset rest first now after h in
            let short = t.short in
            let moved = t.moved in
            walks_more offset rest first now after (outline_within G n now after) s.parts (sound.limits (take (limit - offset) rest) first f.size (AreBytes-take (limit - offset) rest fits) f.parsed_is) s.now_is
            (walks_within n now after (omega (arith, short)) (omega (arith, moved)) s.within (AreBytes-parts (G.record_text first) after (subst AreBytes s.parts fits)).1)
            )
        | Refuses at refusal ↦ λ h. walks_none offset rest (Some (at, refusal)) close h
      ]) e in
      step (next_at G offset rest) (sym (next_from G offset rest some))

  -- ---- the head

  -- without the head a file has nothing but its refusal
  of_other : (bytes : List ℕ) → parsed_head (G.parse_head bytes) ≡ None → outline_of G bytes ≡ record { head = None; records = []; fault = Some (0, BadHead) }
  unfolding head_at
  of_other bytes none =
      one_step G sound 0 bytes (Refuses 0 BadHead) (next_bad G bytes none) ∙ ap (λ (h : Option G.Head). with_head h (record { head = None; records = []; fault = Some (0, BadHead) })) none

  -- the head of a file, and the records behind it
  record Headed (bytes : List ℕ) (head : G.Head) : Type 0 where
    limits : G.IsHead head
    parts : bytes ≡ G.head_text head ++ drop G.head_size bytes
    size : length (G.head_text head) ≡ G.head_size
    outline : outline_of G bytes ≡ with_head (Some head) (outline_at G G.head_size (drop G.head_size bytes))
    walks : Walks G G.head_size (drop G.head_size bytes) (outline_at G G.head_size (drop G.head_size bytes))

  headed : (bytes : List ℕ) (head : G.Head) → AreBytes bytes → G.parse_head bytes ≡ HeadIs head → Headed bytes head
  headed bytes head fits told =
      let behind = drop G.head_size bytes in
      let within = sound.head_limits bytes head fits told in
      let parts = head_before G sound bytes head fits told in
      let few = sound.head_few in
      record {
        limits = within;
        parts = parts;
        size = (sound.head_read head [] within).1;
        outline = ap (outline_of G) parts ∙ head_outline G sound head behind within;
        walks = subst (λ (o : Outline G.Head G.Record G.Kind). Walks G G.head_size behind o) (sym (at_behind G G.head_size behind (head_some G sound)))
            (walks_within (suc (length behind)) G.head_size behind (omega arith) (head_some G sound) (omega arith) (AreBytes-parts (G.head_text head) behind (subst AreBytes parts fits)).1);
      }

  -- ---- a file without a refused place

  not_ended : (offset : ℕ) (rest : List ℕ) (tells : Parsed G.Record G.Kind) → next_by G offset rest tells ≡ AtEnd → ⊥
  not_ended offset rest Awaits e = absurd cc
  not_ended offset rest (Whole it size) e = absurd cc
  not_ended offset rest (Bad kind) e = absurd cc

  ended : (offset : ℕ) (rest : List ℕ) → record_next G offset rest ≡ AtEnd → rest ≡ []
  unfolding record_next
  ended offset [] e = refl
  ended offset (b ∷ rest) e = absurd (not_ended offset (b ∷ rest) (G.parse (take (limit - offset) (b ∷ rest))) e)

  spelled_so : (bytes : List ℕ) (head : G.Head) (h : Headed bytes head) → (outline_at G G.head_size (drop G.head_size bytes)).fault ≡ None → IsFile G bytes head (outline_at G G.head_size (drop G.head_size bytes)).records
  spelled_so bytes head h e =
      let w = h.walks in
      let text = flat_map G.record_text (outline_at G G.head_size (drop G.head_size bytes)).records in
      let left : w.left ≡ [] = ended (G.head_size + length text) w.left (w.next ∙ ap next_of e) in
      let whole : bytes ≡ G.head_text head ++ text = h.parts ∙ ap (λ (r : List ℕ). G.head_text head ++ r) (w.spelled ∙ ap (λ (l : List ℕ). text ++ l) left ∙ append-nil text) in
      let size = h.size in
      let within = w.within in
      record { head_limits = h.limits; limits = w.limits; spelled = whole; fits = omega (arith, ap length whole, within, size, length-append (G.head_text head) text) }

  -- a file whose outline has no refused place
  abbrev pub IsFound : List ℕ → Outline G.Head G.Record G.Kind → Type 0
  IsFound bytes outline = (head : G.Head) × (outline.head ≡ Some head) × IsFile G bytes head outline.records

  found_by : (bytes : List ℕ) (tells : ParsedHead G.Head) → AreBytes bytes → G.parse_head bytes ≡ tells → (outline_of G bytes).fault ≡ None → IsFound bytes (outline_of G bytes)
  found_by bytes AwaitsHead fits told e = absurd (let f = ap (λ (o : Outline G.Head G.Record G.Kind). o.fault) (of_other bytes (ap parsed_head told)) in cc)
  found_by bytes (HeadIs head) fits told e =
      let h = headed bytes head fits told in
      let fault = sym (ap (λ (o : Outline G.Head G.Record G.Kind). o.fault) h.outline) ∙ e in
      subst (IsFound bytes) (sym h.outline) (head, refl, spelled_so bytes head h fault)
  found_by bytes NoHead fits told e = absurd (let f = ap (λ (o : Outline G.Head G.Record G.Kind). o.fault) (of_other bytes (ap parsed_head told)) in cc)

  pub file_takes : (bytes : List ℕ) → AreBytes bytes → (outline_of G bytes).fault ≡ None → IsFound bytes (outline_of G bytes)
  file_takes bytes fits e = found_by bytes (G.parse_head bytes) fits refl e

  -- ---- the outline of whole records

  by_fault : (fault : Option (ℕ × Refusal G.Kind)) → outline_by (outline_at G) (next_of fault) ≡ record { head = None; records = []; fault = fault }
  by_fault None = refl
  by_fault (Some x) = refl

  -- an outline behind the head, told what comes next
  behind_step : (offset : ℕ) (rest : List ℕ) (next : Next G.Record G.Kind) → 0 < offset → record_next G offset rest ≡ next → outline_at G offset rest ≡ with_head None (outline_by (outline_at G) next)
  behind_step offset rest next some e =
      one_step G sound offset rest next (next_from G offset rest some ∙ e) ∙ ap (λ (h : Option G.Head). with_head h (outline_by (outline_at G) next)) (head_behind G offset rest some)

  behind_records : (records : List G.Record) (offset : ℕ) (left : List ℕ) (fault : Option (ℕ × Refusal G.Kind)) → 0 < offset → AllByRecursion G.IsRecord records → offset + length (flat_map G.record_text records) ≤ limit
      → record_next G (offset + length (flat_map G.record_text records)) left ≡ next_of fault → outline_at G offset (flat_map G.record_text records ++ left) ≡ record { head = None; records = records; fault = fault }
  behind_records [] offset left fault some limits close e =
      behind_step offset left (next_of fault) some (ap (λ (k : ℕ). record_next G k left) (omega arith) ∙ e) ∙ ap (with_head None) (by_fault fault)
  behind_records (first ∷ records) offset left fault some limits close e =
      let text = G.record_text first in
      let others = flat_map G.record_text records in
      let cons : flat_map G.record_text (first ∷ records) ≡ text ++ others = flat_map-cons G.record_text first records in
      let now = offset + length text in
      let size : offset + length (flat_map G.record_text (first ∷ records)) ≡ now + length others = (let l = ap length cons in omega (arith, l, length-append text others)) in
      ap (λ (t : List ℕ). outline_at G offset (t ++ left)) cons
      ∙ ap (outline_at G offset) (append_assoc text others left)
      ∙ behind_step offset (text ++ (others ++ left)) (Recorded first now (others ++ left)) some (text_next G sound offset first (others ++ left) limits.0 (omega (arith, size)))
      ∙ ap (λ (o : Outline G.Head G.Record G.Kind). with_record first o) (behind_records records now left fault (omega arith) limits.1 (omega (arith, size)) (ap (λ (k : ℕ). record_next G k left) (sym size) ∙ e))

  -- behind a head and whole records comes what the outline tells
  behind_head : (bytes : List ℕ) (head : G.Head) (records : List G.Record) (left : List ℕ) (fault : Option (ℕ × Refusal G.Kind)) → bytes ≡ file_text G head records ++ left → G.IsHead head → AllByRecursion G.IsRecord records → length (file_text G head records) ≤ limit
      → record_next G (length (file_text G head records)) left ≡ next_of fault → outline_of G bytes ≡ record { head = Some head; records = records; fault = fault }
  behind_head bytes head records left fault spelled limits all close e =
      let text = flat_map G.record_text records in
      let size = (sound.head_read head [] limits).1 in
      let at : length (file_text G head records) ≡ G.head_size + length text = omega (arith, size, length-append (G.head_text head) text) in
      ap (outline_of G) (spelled ∙ append_assoc (G.head_text head) text left)
      ∙ head_outline G sound head (text ++ left) limits
      ∙ ap (with_head (Some head)) (behind_records records G.head_size left fault (head_some G sound) all (omega (arith, at, close)) (ap (λ (k : ℕ). record_next G k left) (sym at) ∙ e))

  pub file_again : (bytes : List ℕ) (head : G.Head) (records : List G.Record) → IsFile G bytes head records → outline_of G bytes ≡ record { head = Some head; records = records; fault = None }
  file_again bytes head records file =
      behind_head bytes head records [] None (file.spelled ∙ sym (append-nil (file_text G head records))) file.head_limits file.limits (let fits = file.fits in let l = ap length file.spelled in omega (arith, fits, l))
      (none_ends G (length (file_text G head records)))

  -- ---- the causes

  -- a place that is refused has its cause
  record Cause (offset : ℕ) (rest : List ℕ) (at : ℕ) (refusal : Refusal G.Kind) : Type 0 where
    at_is : at ≡ offset
    why : IsWhy G refusal offset rest

  cut_cause : (offset : ℕ) (rest : List ℕ) (at : ℕ) (refusal : Refusal G.Kind) (ends : Bool) → offset ≤ limit → 0 < length rest → G.parse (take (limit - offset) rest) ≡ Awaits → ltb (offset + length rest) limit ≡ ends → ◌≡◌ {A = Next G.Record G.Kind} (Refuses offset (cond ends Truncated TooLarge)) (Refuses at refusal) → Cause offset rest at refusal
  cut_cause offset rest at refusal true close some told test e =
      let same : Truncated ≡ refusal = cc in
      let below : offset + length rest < limit = ltb-true _ _ test in
      let all : G.parse rest ≡ Awaits = ap G.parse (sym (take_all (limit - offset) rest (omega arith))) ∙ told in
      record { at_is = cc; why = subst (λ (r : Refusal G.Kind). IsWhy G r offset rest) same (below, some, all) }
  cut_cause offset rest at refusal false close some told test e =
      let same : TooLarge ≡ refusal = cc in
      let over : limit ≤ offset + length rest = ltb-false _ _ test in
      record { at_is = cc; why = subst (λ (r : Refusal G.Kind). IsWhy G r offset rest) same (over, some, told) }

  by_cause : (offset : ℕ) (rest : List ℕ) (at : ℕ) (refusal : Refusal G.Kind) (tells : Parsed G.Record G.Kind) → offset ≤ limit → 0 < length rest → G.parse (take (limit - offset) rest) ≡ tells → next_by G offset rest tells ≡ Refuses at refusal → Cause offset rest at refusal
  by_cause offset rest at refusal Awaits close some told e = cut_cause offset rest at refusal (ltb (offset + length rest) limit) close some told refl e
  by_cause offset rest at refusal (Whole it size) close some told e = absurd cc
  by_cause offset rest at refusal (Bad kind) close some told e =
      let same : BadRecord kind ≡ refusal = cc in
      record { at_is = cc; why = subst (λ (r : Refusal G.Kind). IsWhy G r offset rest) same told }

  cause : (offset : ℕ) (rest : List ℕ) (at : ℕ) (refusal : Refusal G.Kind) → offset ≤ limit → record_next G offset rest ≡ Refuses at refusal → Cause offset rest at refusal
  unfolding record_next
  cause offset [] at refusal close e = absurd cc
  cause offset (b ∷ rest) at refusal close e = by_cause offset (b ∷ rest) at refusal (G.parse (take (limit - offset) (b ∷ rest))) close (omega arith) refl e

  stops_refused : (bytes : List ℕ) (head : G.Head) (records : List G.Record) (offset : ℕ) (refusal : Refusal G.Kind) → StopsAfter G bytes head records offset refusal → IsRefused G bytes (Some head) records offset refusal
  stops_refused bytes head records offset BadHead stops = absurd stops.why
  stops_refused bytes head records offset Truncated stops = stops
  stops_refused bytes head records offset TooLarge stops = stops
  stops_refused bytes head records offset (BadRecord kind) stops = stops

  -- the same fault has the same parts
  fault_parts : (x y : ℕ × Refusal G.Kind) → done x ≡ done y → (y.0 ≡ x.0) × (x.1 ≡ y.1)
  fault_parts x y e = (let both = some_is x y e in (sym (ap (λ (z : ℕ × Refusal G.Kind). z.0) both), ap (λ (z : ℕ × Refusal G.Kind). z.1) both))

  head_refused : (bytes : List ℕ) (offset : ℕ) (refusal : Refusal G.Kind) → parsed_head (G.parse_head bytes) ≡ None → (outline_of G bytes).fault ≡ Some (offset, refusal) → IsRefused G bytes (outline_of G bytes).head (outline_of G bytes).records offset refusal
  head_refused bytes offset refusal none e =
      let is = of_other bytes none in
      let parts = fault_parts (0, BadHead) (offset, refusal) (sym (ap (λ (o : Outline G.Head G.Record G.Kind). o.fault) is) ∙ e) in
      let other : (any : G.Head) → G.parse_head bytes ≢ HeadIs any = λ any h. absurd (let told = sym (ap parsed_head h) ∙ none in cc) in
      subst (λ (r : Refusal G.Kind). IsRefused G bytes (outline_of G bytes).head (outline_of G bytes).records offset r) parts.1
      (parts.0, ap (λ (o : Outline G.Head G.Record G.Kind). o.head) is, ap (λ (o : Outline G.Head G.Record G.Kind). o.records) is, other)

  refused_by : (bytes : List ℕ) (tells : ParsedHead G.Head) (offset : ℕ) (refusal : Refusal G.Kind) → AreBytes bytes → G.parse_head bytes ≡ tells → (outline_of G bytes).fault ≡ Some (offset, refusal) → IsRefused G bytes (outline_of G bytes).head (outline_of G bytes).records offset refusal
  refused_by bytes AwaitsHead offset refusal fits told e = head_refused bytes offset refusal (ap parsed_head told) e
  refused_by bytes (HeadIs head) offset refusal fits told e =
      let h = headed bytes head fits told in
      let w = h.walks in
      let behind = outline_at G G.head_size (drop G.head_size bytes) in
      let text = flat_map G.record_text behind.records in
      let fault : behind.fault ≡ Some (offset, refusal) = sym (ap (λ (o : Outline G.Head G.Record G.Kind). o.fault) h.outline) ∙ e in
      let c = cause (G.head_size + length text) w.left offset refusal w.within (w.next ∙ ap next_of fault) in
      let size = h.size in
      let long : length (file_text G head behind.records) ≡ G.head_size + length text = omega (arith, size, length-append (G.head_text head) text) in
      let at : offset ≡ G.head_size + length text = c.at_is in
      let stops : StopsAfter G bytes head behind.records offset refusal = record {
        head_limits = h.limits;
        limits = w.limits;
        rest = w.left;
        spelled = h.parts ∙ ap (λ (r : List ℕ). G.head_text head ++ r) w.spelled ∙ sym (append_assoc (G.head_text head) text w.left);
        offset_is = at ∙ sym long;
        within = (let within = w.within in omega (arith, at, within));
        why = subst (λ (k : ℕ). IsWhy G refusal k w.left) (sym at) c.why;
      } in
      subst (λ (o : Outline G.Head G.Record G.Kind). IsRefused G bytes o.head o.records offset refusal) (sym h.outline) (stops_refused bytes head behind.records offset refusal stops)
  refused_by bytes NoHead offset refusal fits told e = head_refused bytes offset refusal (ap parsed_head told) e

  pub is_refused : (bytes : List ℕ) (offset : ℕ) (refusal : Refusal G.Kind) → AreBytes bytes → (outline_of G bytes).fault ≡ Some (offset, refusal) → IsRefused G bytes (outline_of G bytes).head (outline_of G bytes).records offset refusal
  is_refused bytes offset refusal fits e = refused_by bytes (G.parse_head bytes) offset refusal fits refl e

  -- ---- what has a cause is refused

  why_next : (refusal : Refusal G.Kind) (offset : ℕ) (rest : List ℕ) → IsWhy G refusal offset rest → record_next G offset rest ≡ Refuses offset refusal
  why_next BadHead offset rest why = absurd why
  why_next Truncated offset rest (below, some, told) = awaits_cut G sound offset rest told some below
  why_next TooLarge offset rest (over, some, told) =
      let test : ltb (offset + length rest) limit ≡ false = le-ltb _ _ over in
      next_parsed G offset rest Awaits some told ∙ ap (λ (b : Bool). Refuses offset (cond b Truncated TooLarge)) test
  why_next (BadRecord kind) offset rest told =
      next_parsed G offset rest (Bad kind) (omega (arith, bad_some G sound (take (limit - offset) rest) kind told, length-take (limit - offset) rest)) told

  stops_outline : (bytes : List ℕ) (head : Option G.Head) (records : List G.Record) (offset : ℕ) (refusal : Refusal G.Kind) → StopsBehind G bytes head records offset refusal → outline_of G bytes ≡ record { head = head; records = records; fault = Some (offset, refusal) }
  stops_outline bytes None records offset refusal stops = absurd stops
  stops_outline bytes (Some head) records offset refusal stops =
      let at = stops.offset_is in
      let within = stops.within in
      behind_head bytes head records stops.rest (Some (offset, refusal)) stops.spelled stops.head_limits stops.limits (omega (arith, at, within))
      (ap (λ (k : ℕ). record_next G k stops.rest) (sym at) ∙ why_next refusal offset stops.rest stops.why)

  no_head : (tells : ParsedHead G.Head) → ((any : G.Head) → tells ≢ HeadIs any) → parsed_head tells ≡ None
  no_head AwaitsHead other = refl
  no_head (HeadIs head) other = absurd (other head refl)
  no_head NoHead other = refl

  -- what has such a cause is refused there, after this head and these records
  pub refused_only : (bytes : List ℕ) (head : Option G.Head) (records : List G.Record) (offset : ℕ) (refusal : Refusal G.Kind) → IsRefused G bytes head records offset refusal → outline_of G bytes ≡ record { head = head; records = records; fault = Some (offset, refusal) }
  refused_only bytes head records offset BadHead (at, none, no_records, other) =
      of_other bytes (no_head (G.parse_head bytes) other)
      ∙ ap (λ (k : ℕ). record { head = None; records = []; fault = Some (k, BadHead) }) (sym at)
      ∙ ap (λ (h : Option G.Head). record { head = h; records = []; fault = Some (offset, BadHead) }) (sym none)
      ∙ ap (λ (r : List G.Record). record { head = head; records = r; fault = Some (offset, BadHead) }) (sym no_records)
  refused_only bytes head records offset Truncated stops = stops_outline bytes head records offset Truncated stops
  refused_only bytes head records offset TooLarge stops = stops_outline bytes head records offset TooLarge stops
  refused_only bytes head records offset (BadRecord kind) stops = stops_outline bytes head records offset (BadRecord kind) stops
