-- Records that are taken from the start of a file one after another, and the place where a read fails.
use Rattle.std.proofs.Common.{◌≡◌, ◌∙◌, ℕ, zero, suc, ◌+◌, ◌<◌, List, [], ◌∷◌, ◌++◌, length, Option, Some, None, refl, sym, ap, subst, arith, append_assoc, append-nil, length-append, inl, inr}
use Rattle.std.proofs.lemmas.List.{append_cancel_right, nil_from_length}
use Rattle.tesla_base.proofs.Prefixes.{some_is}
use Rattle.tesla_desk.specs.Outside.{after_bytes}
use Rattle.tesla_records.specs.Grammar.{Grammar, IsGrammar, AwaitsHead}
use Rattle.tesla_records.specs.Found.{AwaitsRecord, AwaitsAt}
use Rattle.tesla_records.specs.Records.{AtEnd, Recorded, Refuses, Outline, next_at, parsed_head, head_at, first_head, with_head, with_record, with_records, outline_by, outline_of, outline_at}
use Rattle.tesla_records.specs.Steps.{GivesRecord, LeavesFrom, TakesNoRecord, MovesHead, ReadsHead}
use Rattle.tesla_records.specs.Taken.{IsTaken, IsAtMostCut, HoldsNoRefusal, IsReadUpTo}
use Rattle.tesla_records.specs.declared.refusal.Refusal.TheVariants.{BadHead, Truncated}
use Rattle.tesla_records.proofs.NextRecord.{head_some, next_from, none_ends, awaits_cut, after_shorter}
use Rattle.tesla_records.proofs.OutlineStep.{one_step, head_behind}
use Rattle.tesla_records.proofs.StepGives.{next_bad}
use Rattle.tesla_records.proofs.ParsedAgain.{next_stands, head_next}

-- a head before none
first_none : {H : Type 0} (head : Option H) → first_head head None ≡ head
first_none None = refl
first_none (Some head) = refl

module _ (G : Grammar) (is : IsGrammar G) where
  -- no record was taken yet
  pub none_taken : (bytes : List ℕ) → IsTaken G bytes None [] 0 bytes
  none_taken bytes = record { prefix = []; whole = refl; size = refl; unread = λ start. refl; outline = λ more. refl }

  -- the outline of the file is that of its rest behind the records
  pub taken_outline : (bytes : List ℕ) (head : Option G.Head) (records : List G.Record) (offset : ℕ) (rest : List ℕ) → IsTaken G bytes head records offset rest → outline_of G bytes ≡ with_head head (with_records records (outline_at G offset rest))
  taken_outline bytes head records offset rest taken = ap (outline_of G) taken.whole ∙ taken.outline rest

  -- a text more was read over
  text_taken : (bytes : List ℕ) (head other : Option G.Head) (records others : List G.Record) (offset now : ℕ) (rest text after : List ℕ) → IsTaken G bytes head records offset rest → rest ≡ text ++ after → now ≡ offset + length text → 0 < now
      → ((more : List ℕ) → with_head head (with_records records (outline_at G offset (text ++ more))) ≡ with_head other (with_records others (outline_at G now more))) → IsTaken G bytes other others now after
  text_taken bytes head other records others offset now rest text after taken parts moved some next = record {
    prefix = taken.prefix ++ text;
    whole = taken.whole ∙ ap (λ (r : List ℕ). taken.prefix ++ r) parts ∙ sym (append_assoc taken.prefix text after);
    size = (let size = taken.size in omega (arith, size, moved, length-append taken.prefix text));
    unread = λ start. absurd (omega (arith, start, some));
    outline = λ more. ap (outline_of G) (append_assoc taken.prefix text more) ∙ taken.outline (text ++ more) ∙ next more;
  }

  -- the head that is known before a head, behind which another may follow
  headed : (offset at : ℕ) (rest : List ℕ) (before now other : Option G.Head) → MovesHead G offset before at now → ReadsHead G offset rest at now → (offset ≡ 0 → before ≡ None) → 0 < at → first_head before (first_head (head_at G offset rest) other) ≡ first_head now other
  unfolding head_at
  headed zero at rest before now other moves reads unread some =
      ap (λ (h : Option G.Head). first_head h (first_head (parsed_head (G.parse_head rest)) other)) (unread refl) ∙ ap (λ (h : Option G.Head). first_head h other) (sym (reads refl some))
  headed (suc offset) at rest before now other moves reads unread some = ap (λ (h : Option G.Head). first_head h other) (sym (moves.kept (omega arith)))

  -- the record that a step gave was taken
  pub given_taken : (bytes : List ℕ) (head other : Option G.Head) (records : List G.Record) (offset : ℕ) (rest : List ℕ) (given : G.Record) (now : ℕ) (left : Option (List ℕ)) → IsTaken G bytes head records offset rest → (gives : GivesRecord G given offset rest now left) → MovesHead G offset head now other → ReadsHead G offset rest now other
      → IsTaken G bytes other (records ++ given ∷ []) now gives.0
  given_taken bytes head other records offset rest given now left taken gives moves reads =
      let after = gives.0 in
      let next = gives.2 in
      let limits = gives.3 in
      let moved = (after_shorter G is offset rest given now after next).moved in
      let some : 0 < now = omega (arith, moved) in
      let s = next_stands G is offset rest given now after next limits gives.4 in
      text_taken bytes head other records (records ++ given ∷ []) offset now rest s.text after taken s.parts s.now_is some
      (λ more.
      let o = outline_at G now more in
      ap (λ (u : Outline G.Head G.Record G.Kind). with_head head (with_records records u)) (one_step G is offset (s.text ++ more) (Recorded given now more) (s.again more))
      ∙ ap (λ (h : Option G.Head). with_head head (with_records records (with_head h (with_record given o)))) (s.head_again more)
      ∙ ap (λ (h : Option G.Head). record { head = h; records = records ++ given ∷ o.records; fault = o.fault }) (headed offset now rest head other o.head moves reads taken.unread some)
      ∙ ap (λ (l : List G.Record). record { head = first_head other o.head; records = l; fault = o.fault }) (sym (append_assoc records (given ∷ []) o.records)))

  -- behind the head the outline goes on
  pub head_outline : (head : G.Head) (more : List ℕ) → G.IsHead head → outline_at G 0 (G.head_text head ++ more) ≡ with_head (Some head) (outline_at G G.head_size more)
  unfolding head_at
  head_outline head more limits =
      let next = next_at G G.head_size more in
      let behind = one_step G is G.head_size more next refl in
      let first = one_step G is 0 (G.head_text head ++ more) next (head_next G is head more limits) in
      first
      ∙ ap (λ (h : Option G.Head). with_head h (outline_by (outline_at G) next)) (ap parsed_head (is.head_read head more limits).0)
      ∙ ap (λ (o : Outline G.Head G.Record G.Kind). with_head (Some head) o) (sym (behind ∙ ap (λ (h : Option G.Head). with_head h (outline_by (outline_at G) next)) (head_behind G G.head_size more (head_some G is))))

  -- where nothing was taken the head is known as before
  stays : (offset now : ℕ) (head other : Option G.Head) → now ≡ offset → MovesHead G offset head now other → other ≡ head
  stays zero now head other e moves = moves.none e
  stays (suc offset) now head other e moves = moves.kept (omega arith)

  -- where no record was taken, those before are the same
  pub head_taken : (bytes : List ℕ) (head other : Option G.Head) (records : List G.Record) (offset : ℕ) (rest : List ℕ) (now : ℕ) (after : List ℕ) → IsTaken G bytes head records offset rest → TakesNoRecord G offset rest now after → MovesHead G offset head now other → ReadsHead G offset rest now other → IsTaken G bytes other records now after
  head_taken bytes head other records offset rest now after taken (inl same) moves reads =
      subst (λ (h : Option G.Head). IsTaken G bytes h records now after) (sym (stays offset now head other same.0 moves))
      (subst (λ (k : ℕ). IsTaken G bytes head records k after) (sym same.0) (subst (λ (r : List ℕ). IsTaken G bytes head records offset r) (sym same.1) taken))
  head_taken bytes head other records offset rest now after taken (inr (start, at, first, limits, parts)) moves reads =
      let some : 0 < now = (let s = is.head_some in omega (arith, at, s)) in
      let read = is.head_read first after limits in
      let known : other ≡ Some first = reads start some ∙ ap (λ (r : List ℕ). parsed_head (G.parse_head r)) parts ∙ ap parsed_head read.0 in
      text_taken bytes head other records records offset now rest (G.head_text first) after taken parts (let size = read.1 in omega (arith, start, at, size)) some
      (λ more.
      ap (λ (k : ℕ). with_head head (with_records records (outline_at G k (G.head_text first ++ more)))) start
      ∙ ap (λ (o : Outline G.Head G.Record G.Kind). with_head head (with_records records o)) (head_outline first more limits)
      ∙ ap (λ (h : Option G.Head). with_head h (with_records records (with_head (Some first) (outline_at G G.head_size more)))) (taken.unread start)
      ∙ ap (λ (h : Option G.Head). with_head h (with_records records (outline_at G G.head_size more))) (sym known)
      ∙ ap (λ (k : ℕ). with_head other (with_records records (outline_at G k more))) (sym at))

  -- ---- where a read fails

  -- what was read holds no head and no record more, and no refused place
  record IsCutHere (offset : ℕ) (pending : List ℕ) : Type 0 where
    head : (outline_at G offset pending).head ≡ None
    none : (outline_at G offset pending).records ≡ []
    cut : 0 < offset → IsAtMostCut (outline_at G offset pending).fault

  record_cut : (offset : ℕ) (pending : List ℕ) → 0 < offset → AwaitsRecord G offset pending → IsCutHere offset pending
  record_cut offset [] some awaits =
      let outline = one_step G is offset [] AtEnd (next_from G offset [] some ∙ none_ends G offset) in
      record {
        head = ap (λ (o : Outline G.Head G.Record G.Kind). o.head) outline ∙ first_none (head_at G offset []) ∙ head_behind G offset [] some;
        none = ap (λ (o : Outline G.Head G.Record G.Kind). o.records) outline;
        cut = λ behind. subst (λ (o : Outline G.Head G.Record G.Kind). IsAtMostCut o.fault) (sym outline) tt;
      }
  record_cut offset (b ∷ pending) some awaits =
      let outline = one_step G is offset (b ∷ pending) (Refuses offset Truncated) (next_from G offset (b ∷ pending) some ∙ awaits_cut G is offset (b ∷ pending) awaits.awaits (omega arith) (awaits.within (omega arith))) in
      record {
        head = ap (λ (o : Outline G.Head G.Record G.Kind). o.head) outline ∙ first_none (head_at G offset (b ∷ pending)) ∙ head_behind G offset (b ∷ pending) some;
        none = ap (λ (o : Outline G.Head G.Record G.Kind). o.records) outline;
        cut = λ behind. subst (λ (o : Outline G.Head G.Record G.Kind). IsAtMostCut o.fault) (sym outline) refl;
      }

  head_cut : (pending : List ℕ) → G.parse_head pending ≡ AwaitsHead → IsCutHere 0 pending
  unfolding head_at
  head_cut pending awaits =
      let none : parsed_head (G.parse_head pending) ≡ None = ap parsed_head awaits in
      let outline = one_step G is 0 pending (Refuses 0 BadHead) (next_bad G pending none) in
      record {
        head = ap (λ (o : Outline G.Head G.Record G.Kind). o.head) outline ∙ first_none (parsed_head (G.parse_head pending)) ∙ none;
        none = ap (λ (o : Outline G.Head G.Record G.Kind). o.records) outline;
        cut = λ behind. absurd (omega (arith, behind));
      }

  -- of what was read as far as here, these are the head and the records
  read_is : (bytes : List ℕ) (head : Option G.Head) (records : List G.Record) (offset : ℕ) (rest pending : List ℕ) → (taken : IsTaken G bytes head records offset rest) → IsCutHere offset pending
      → ((outline_of G (taken.prefix ++ pending)).head ≡ head) × ((outline_of G (taken.prefix ++ pending)).records ≡ records)
  read_is bytes head records offset rest pending taken here =
      let outline = taken.outline pending in (
        ap (λ (o : Outline G.Head G.Record G.Kind). o.head) outline ∙ ap (first_head head) here.head ∙ first_none head,
        ap (λ (o : Outline G.Head G.Record G.Kind). o.records) outline ∙ ap (λ (l : List G.Record). records ++ l) here.none ∙ append-nil records,
      )

  prefix_cut : (bytes : List ℕ) (head : Option G.Head) (records : List G.Record) (offset : ℕ) (rest pending : List ℕ) → (taken : IsTaken G bytes head records offset rest) → AwaitsAt G offset pending
      → HoldsNoRefusal G (taken.prefix ++ pending) × ((outline_of G (taken.prefix ++ pending)).head ≡ head) × ((outline_of G (taken.prefix ++ pending)).records ≡ records)
  prefix_cut bytes head records zero rest pending taken awaits =
      let none : taken.prefix ≡ [] = nil_from_length taken.prefix taken.size in
      let same = read_is bytes head records 0 rest pending taken (head_cut pending awaits) in
      (inl (subst (λ (f : List ℕ). G.parse_head (f ++ pending) ≡ AwaitsHead) (sym none) awaits), same.0, same.1)
  prefix_cut bytes head records (suc offset) rest pending taken awaits =
      let here = record_cut (suc offset) pending (omega arith) awaits in
      let same = read_is bytes head records (suc offset) rest pending taken here in
      (inr (subst (λ (o : Outline G.Head G.Record G.Kind). IsAtMostCut o.fault) (sym (taken.outline pending)) (here.cut (omega arith))), same.0, same.1)

  -- where a read fails, what was read of the file holds no refused place, and its head and records are those that were taken
  pub cut_taken : (bytes : List ℕ) (head : Option G.Head) (records : List G.Record) (offset : ℕ) (rest pending read left : List ℕ) → IsTaken G bytes head records offset rest → AwaitsAt G offset pending → rest ≡ pending ++ left → bytes ≡ read ++ left
      → HoldsNoRefusal G read × ((outline_of G read).head ≡ head) × ((outline_of G read).records ≡ records)
  cut_taken bytes head records offset rest pending read left taken awaits parts whole =
      let same : read ≡ taken.prefix ++ pending =
      append_cancel_right read (taken.prefix ++ pending) left (sym whole ∙ taken.whole ∙ ap (λ (r : List ℕ). taken.prefix ++ r) parts ∙ sym (append_assoc taken.prefix pending left)) in
      subst (λ (b : List ℕ). HoldsNoRefusal G b × ((outline_of G b).head ≡ head) × ((outline_of G b).records ≡ records)) (sym same) (prefix_cut bytes head records offset rest pending taken awaits)

  -- where a step found that a read failed, the file was read up to what its source has left
  pub fault_taken : (bytes : List ℕ) (head other : Option G.Head) (records : List G.Record) (offset : ℕ) (rest : List ℕ) (now : ℕ) (pending : List ℕ) (left : Option (List ℕ)) (behind : List ℕ) → IsTaken G bytes head records offset rest → LeavesFrom G 0 offset rest now (after_bytes pending left) → MovesHead G offset head now other → ReadsHead G offset rest now other
      → AwaitsAt G now pending → left ≡ Some behind → IsReadUpTo G bytes behind other records
  fault_taken bytes head other records offset rest now pending left behind taken (after, told, none) moves reads awaits is_left =
      let here = head_taken bytes head other records offset rest now after taken none moves reads in
      let parts : after ≡ pending ++ behind = some_is after (pending ++ behind) (sym told ∙ ap (after_bytes pending) is_left) in
      let whole : bytes ≡ (here.prefix ++ pending) ++ behind = here.whole ∙ ap (λ (r : List ℕ). here.prefix ++ r) parts ∙ sym (append_assoc here.prefix pending behind) in
      let cut = cut_taken bytes other records now after pending (here.prefix ++ pending) behind here awaits parts whole in
      record { read = here.prefix ++ pending; whole = whole; unrefused = cut.0; head_is = cut.1; records_are = cut.2 }
