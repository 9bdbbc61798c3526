-- A step gives what comes next in the file, and leaves all that stands from its place on.
use Rattle.std.proofs.Common.{◌≡◌, ◌∙◌, ℕ, zero, suc, ◌+◌, ◌<◌, ◌≤◌, List, [], ◌++◌, length, take, drop, Option, Some, None, refl, sym, ap, subst, arith, inl, inr, append_assoc, append-nil}
use Rattle.std.proofs.lemmas.List.{take-append-drop, take-append-le, drop-append-le, length-take-le}
use Rattle.tesla_base.specs.Prefix.{AreBytes}
use Rattle.tesla_desk.specs.Outside.{after_bytes}
use Rattle.tesla_desk.proofs.Told.{after_bytes_some}
use Rattle.tesla_records.specs.Grammar.{Whole, Grammar, IsGrammar, ParsedHead, AwaitsHead, HeadIs, NoHead}
use Rattle.tesla_records.specs.Records.{AtEnd, Recorded, Refuses, after_head, next_at, parsed_head, refusal_by, dropped_by}
use Rattle.tesla_records.specs.Judged.{BeginsWhole, TakesWhole}
use Rattle.tesla_records.specs.declared.refusal.Refusal.{Refusal}
use Rattle.tesla_records.specs.declared.refusal.Refusal.TheVariants.{BadHead}
use Rattle.tesla_records.specs.declared.step.RecordsStep.{RecordsStep}
use Rattle.tesla_records.specs.declared.step.RecordsStep.TheVariants as steps
use Rattle.tesla_records.specs.declared.found.Found.{Found}
use Rattle.tesla_records.specs.declared.found.Found.TheVariants as finds
use Rattle.tesla_records.specs.declared.found.HeadFound.TheVariants as heads
use Rattle.tesla_records.specs.Steps.{Gives, GivesRecord, StandsBefore, LeavesFrom, TakesNoRecord}
use Rattle.tesla_records.specs.Found.{Finds, FindsHead, IsPending}
use Rattle.tesla_records.proofs.NextRecord.{head_some, next_from}

module _ (G : Grammar) where
  -- after a whole head the first record comes next
  pub next_head : (rest : List ℕ) (head : G.Head) → 0 < G.head_size → G.parse_head rest ≡ HeadIs head → next_at G 0 rest ≡ next_at G G.head_size (drop G.head_size rest)
  unfolding next_at
  next_head rest head some e = ap (after_head G rest) e ∙ sym (next_from G G.head_size (drop G.head_size rest) some)

  by_bad : (rest : List ℕ) (tells : ParsedHead G.Head) → parsed_head tells ≡ None → after_head G rest tells ≡ Refuses 0 BadHead
  by_bad rest AwaitsHead e = refl
  by_bad rest (HeadIs head) e = absurd cc
  by_bad rest NoHead e = refl

  -- without the head the file is refused
  pub next_bad : (rest : List ℕ) → parsed_head (G.parse_head rest) ≡ None → next_at G 0 rest ≡ Refuses 0 BadHead
  unfolding next_at
  next_bad rest e = by_bad rest (G.parse_head rest) e

  -- a file without the head is refused
  pub bad_gives : {H : Type 0} (head_of : H → G.Head) (offset : ℕ) (bytes rest : List ℕ) (left : Option (List ℕ)) → offset ≡ 0 → FindsHead G head_of heads.Bad bytes rest left → (next_at G offset rest ≡ Refuses 0 BadHead) × LeavesFrom G 0 offset rest 0 (after_bytes bytes left)
  bad_gives head_of offset bytes rest left start (none, told) = (ap (λ (p : ℕ). next_at G p rest) start ∙ next_bad rest none, (rest, told, inl (sym start, refl)))

  -- a place that is refused is given
  pub refused_gives : {K : Type 0} (kind_of : K → G.Kind) (found : Found K) (offset at : ℕ) (refusal : Refusal K) (bytes rest : List ℕ) (left : Option (List ℕ)) → found ≡ finds.Refused refusal → at ≡ offset → 0 < offset → Finds G kind_of found offset bytes rest left
      → (next_at G offset rest ≡ Refuses at (refusal_by kind_of refusal)) × LeavesFrom G (dropped_by at refusal) offset rest at (after_bytes bytes left)
  refused_gives kind_of found offset at refusal bytes rest left is same some finds =
      let told = subst (λ f. Finds G kind_of f offset bytes rest left) is finds in
      subst (λ (k : ℕ). (next_at G offset rest ≡ Refuses k (refusal_by kind_of refusal)) × LeavesFrom G (dropped_by k refusal) offset rest k (after_bytes bytes left)) (sym same)
      (next_from G offset rest some ∙ told.0, (rest, told.1, inl (refl, refl)))

  -- the end of the file is given
  pub end_gives : {K : Type 0} (kind_of : K → G.Kind) (found : Found K) (offset : ℕ) (bytes rest : List ℕ) (left : Option (List ℕ)) → found ≡ finds.End → 0 < offset → Finds G kind_of found offset bytes rest left → (next_at G offset rest ≡ AtEnd) × (after_bytes bytes left ≡ Some [])
  end_gives kind_of found offset bytes rest left is some finds =
      let told = subst (λ f. Finds G kind_of f offset bytes rest left) is finds in
      (next_from G offset rest some ∙ told.0, told.1)

  -- the record that is pending
  pub pending_whole : {K : Type 0} (found : Found K) (size : ℕ) (bytes : List ℕ) → found ≡ finds.Record size → IsPending G found bytes → BeginsWhole G size bytes
  pending_whole found size bytes is whole = subst (λ f. IsPending G f bytes) is whole

  -- behind the head a record stands at the start of the rest
  stands_prefix : (given : G.Record) (offset : ℕ) (rest after : List ℕ) → 0 < offset → StandsBefore G given offset rest after → rest ≡ G.record_text given ++ after
  stands_prefix given zero rest after some stands = absurd (omega arith)
  stands_prefix given (suc offset) rest after some stands = stands

  prefix_stands : (given : G.Record) (offset : ℕ) (rest after : List ℕ) → 0 < offset → rest ≡ G.record_text given ++ after → StandsBefore G given offset rest after
  prefix_stands given zero rest after some parts = absurd (omega arith)
  prefix_stands given (suc offset) rest after some parts = parts

  -- the first bytes of a text before others
  pub text_before : (size : ℕ) (bytes text : List ℕ) → take size bytes ≡ text → bytes ≡ text ++ drop size bytes
  text_before size bytes text e = sym (take-append-drop size bytes) ∙ ap (λ (t : List ℕ). t ++ drop size bytes) e

  -- a whole record is given
  pub whole_gives : {K : Type 0} (kind_of : K → G.Kind) (found : Found K) (offset size now : ℕ) (given : G.Record) (bytes pending rest : List ℕ) (left : Option (List ℕ)) → found ≡ finds.Record size → 0 < offset → Finds G kind_of found offset bytes rest left → IsPending G found bytes
      → ((it : G.Record) → G.parse bytes ≡ Whole it size → TakesWhole G bytes it size given) → pending ≡ drop size bytes → now ≡ offset + size → GivesRecord G given offset rest now (after_bytes pending left)
  whole_gives kind_of found offset size now given bytes pending rest left is some finds whole took is_pending moved =
      let told = subst (λ f. Finds G kind_of f offset bytes rest left) is finds in
      let more = told.0 in
      let whole = pending_whole found size bytes is whole in
      let takes = took whole.0 whole.1 in
      let text : take size bytes ≡ G.record_text given = takes.spelled ∙ ap G.record_text (sym takes.is) in
      let parts : rest ≡ G.record_text given ++ (drop size bytes ++ more) =
      told.2 ∙ ap (λ (b : List ℕ). b ++ more) (text_before size bytes (G.record_text given) text) ∙ append_assoc (G.record_text given) (drop size bytes) more in (
        drop size bytes ++ more,
        ap (after_bytes pending) told.1 ∙ ap (λ (p : List ℕ). Some (p ++ more)) is_pending,
        next_from G offset rest some ∙ told.3 whole.0 whole.1
            ∙ ap (λ (x : G.Record). Recorded x (offset + size) (drop size bytes ++ more)) (sym takes.is)
            ∙ ap (λ (k : ℕ). Recorded given k (drop size bytes ++ more)) (sym moved),
        subst G.IsRecord (sym takes.is) takes.limits,
        prefix_stands given offset rest (drop size bytes ++ more) some parts,
      )

  -- what is taken behind the head is taken in the file
  takes_from : (now : ℕ) (rest after left : List ℕ) (head : G.Head) → 0 < G.head_size → G.IsHead head → rest ≡ G.head_text head ++ after → TakesNoRecord G G.head_size after now left → TakesNoRecord G 0 rest now left
  takes_from now rest after left head some limits parts (inl same) = inr (refl, same.0, head, limits, parts ∙ ap (λ (r : List ℕ). G.head_text head ++ r) (sym same.1))
  takes_from now rest after left head some limits parts (inr taken) = absurd (let none = taken.0 in omega arith)

  -- what comes next behind the head comes next in the file
  gives_from : {K T : Type 0} (kind_of : K → G.Kind) (step : RecordsStep K T) (now : ℕ) (rest after : List ℕ) (head : G.Head) (show : T → G.Record) (left : Option (List ℕ)) → 0 < G.head_size → G.IsHead head → rest ≡ G.head_text head ++ after → next_at G 0 rest ≡ next_at G G.head_size after
      → Gives G kind_of show step G.head_size after now left → Gives G kind_of show step 0 rest now left
  gives_from kind_of (steps.Record taken) now rest after head show left some limits parts e (more, told, next, within, stands) =
      (more, told, e ∙ next, within, (head, limits, parts ∙ ap (λ (r : List ℕ). G.head_text head ++ r) (stands_prefix (show taken) G.head_size after more some stands)))
  gives_from kind_of steps.End now rest after head show left some limits parts e (next, told) = (e ∙ next, told)
  gives_from kind_of (steps.Refused at refusal) now rest after head show left some limits parts e (next, (more, told, none)) = (e ∙ next, (more, told, takes_from at rest after more head some limits parts none))
  gives_from kind_of steps.ReadFault now rest after head show left some limits parts e (more, told, none) = (more, told, takes_from now rest after more head some limits parts none)

module _ (G : Grammar) (is : IsGrammar G) where
  -- the record that is pending is within its limits, and is all of its bytes
  pub whole_takes : (bytes : List ℕ) (it : G.Record) (size : ℕ) → AreBytes bytes → G.parse bytes ≡ Whole it size → (G.parse (take size bytes) ≡ Whole it (length (take size bytes))) × G.IsRecord it × (length (G.record_text it) ≡ size) × (size ≤ length bytes) × (take size bytes ≡ G.record_text it)
  whole_takes bytes it size fits e =
      let told = is.whole bytes [] it size e in
      let limits = is.limits bytes it size fits e in
      let spelled = told.1 fits in
      let text : G.record_text it ++ [] ≡ take size bytes = append-nil (G.record_text it) ∙ sym spelled in
      (ap G.parse (sym text) ∙ is.read it [] limits ∙ ap (λ (t : List ℕ). Whole it (length t)) (sym spelled), limits, ap length (sym spelled) ∙ length-take-le size bytes told.2, told.2, spelled)

  -- the head that is pending is within its limits
  pub head_takes : (bytes : List ℕ) (head : G.Head) → AreBytes bytes → G.parse_head bytes ≡ HeadIs head → G.IsHead head × (G.head_size ≤ length bytes) × (take G.head_size bytes ≡ G.head_text head)
  head_takes bytes head fits e = (let told = is.head_is bytes [] head e in (is.head_limits bytes head fits e, told.2, told.1 fits))

  -- before what stands behind the head stands the head
  pub head_before : (rest : List ℕ) (head : G.Head) → AreBytes rest → G.parse_head rest ≡ HeadIs head → rest ≡ G.head_text head ++ drop G.head_size rest
  head_before rest head fits e = text_before G G.head_size rest (G.head_text head) ((is.head_is rest [] head e).1 fits)

  -- what was found behind the head is given from place 0 on
  pub head_gives : {H K T : Type 0} (head_of : H → G.Head) (kind_of : K → G.Kind) (step : RecordsStep K T) (head : H) (offset now : ℕ) (bytes pending rest : List ℕ) (show : T → G.Record) (left final : Option (List ℕ)) → FindsHead G head_of (heads.Whole head) bytes rest left → G.IsHead (head_of head) → G.parse_head bytes ≡ HeadIs (head_of head) → take G.head_size bytes ≡ G.head_text (head_of head) → pending ≡ drop G.head_size bytes → offset ≡ G.head_size
      → ((after : List ℕ) → after_bytes pending left ≡ Some after → Gives G kind_of show step offset after now final) → Gives G kind_of show step 0 rest now final
  head_gives head_of kind_of step head offset now bytes pending rest show left final (told, e) limits whole spelled is_pending at gives =
      let fits = (is.head_is bytes [] (head_of head) whole).2 in
      let more = after_bytes_some bytes left rest e in
      let after = drop G.head_size rest in
      let parts : after ≡ drop G.head_size bytes ++ more.0 = ap (drop G.head_size) more.2 ∙ drop-append-le G.head_size bytes more.0 fits in
      let text : take G.head_size rest ≡ G.head_text (head_of head) = ap (take G.head_size) more.2 ∙ take-append-le G.head_size bytes more.0 fits ∙ spelled in
      gives_from G kind_of step now rest after (head_of head) show final (head_some G is) limits (text_before G G.head_size rest (G.head_text (head_of head)) text) (next_head G rest (head_of head) (head_some G is) told)
      (subst (λ (p : ℕ). Gives G kind_of show step p after now final) at
      (gives after (ap (after_bytes pending) more.1 ∙ ap (λ (p : List ℕ). Some (p ++ more.0)) is_pending ∙ ap (λ (r : List ℕ). Some r) (sym parts))))
