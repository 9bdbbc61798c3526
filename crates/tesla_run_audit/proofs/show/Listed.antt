-- The records of a file, listed one after another.
use Rattle.std.proofs.Common.{◌≡◌, ◌∙◌, ℕ, zero, suc, ◌+◌, ◌<◌, ◌≤◌, Option, Some, None, List, [], ◌∷◌, ◌++◌, length, refl, sym, ap, subst, arith, append_assoc, append-nil, length-append}
use Rattle.tesla_records.specs.Grammar.{Grammar, IsGrammar}
use Rattle.tesla_records.specs.Found.{AwaitsAt}
use Rattle.tesla_records.specs.Records.{AtEnd, Outline, Refuses, first_head, head_at, next_at, outline_at, outline_of, record_offset, with_head, with_records}
use Rattle.tesla_records.specs.Steps.{GivesRecord, LeavesFrom, MovesHead, ReadsHead}
use Rattle.tesla_records.specs.declared.refusal.Refusal.{Refusal}
use Rattle.tesla_records.proofs.OutlineStep.{one_step}
use Rattle.tesla_records.proofs.Taken.{fault_taken, given_taken, none_taken, taken_outline}
use Rattle.tesla_desk.specs.Outside.{after_bytes}
use Rattle.tesla_run_audit.specs.show.Numbered.{IsAt, IsListed, IsListedSoFar, file_lines, numbered, outline_lines}

-- what is left of a source that had something ahead is told
left_told : (pending : List ℕ) (left : Option (List ℕ)) (all : List ℕ) → after_bytes pending left ≡ Some all → (behind : List ℕ) × (left ≡ Some behind)
left_told pending None all e = absurd cc
left_told pending (Some behind) all e = (behind, refl)

-- the lines of records and of others behind them
pub numbered_both : {E : Type 0} (line : ℕ → E → List ℕ) (n : ℕ) (first others : List E) → numbered line n (first ++ others) ≡ numbered line n first ++ numbered line (n + length first) others
numbered_both line n [] others = ap (λ (m : ℕ). numbered line m others) (let e : n ≡ n + 0 = omega arith in e)
numbered_both line n (x ∷ first) others =
    let e : suc n + length first ≡ n + suc (length first) = omega arith in
    ap (λ (t : List ℕ). line n x ++ t) (numbered_both line (suc n) first others ∙ ap (λ (m : ℕ). numbered line (suc n) first ++ numbered line m others) e)
    ∙ sym (append_assoc (line n x) (numbered line (suc n) first) (numbered line (n + suc (length first)) others))

-- the line of one record more
pub numbered_more : {E : Type 0} (line : ℕ → E → List ℕ) (n : ℕ) (records : List E) (it : E) → numbered line n (records ++ it ∷ []) ≡ numbered line n records ++ line (n + length records) it
numbered_more line n records it = numbered_both line n records (it ∷ []) ∙ ap (λ (t : List ℕ). numbered line n records ++ t) (append-nil (line (n + length records) it))

module _ (G : Grammar) (is : IsGrammar G) (line : ℕ → G.Record → List ℕ) (number : Option G.Head → ℕ) where
  -- a record has bytes
  pub record_some : (it : G.Record) → G.IsRecord it → 1 ≤ length (G.record_text it)
  record_some it limits = (is.whole (G.record_text it ++ []) [] it (length (G.record_text it)) (is.read it [] limits)).3

  -- nothing was listed yet
  pub at_start : (bytes : List ℕ) (head : Option G.Head) (offset : ℕ) (ahead : Option (List ℕ)) → offset ≡ 0 → head ≡ None → ahead ≡ Some bytes → IsAt G line number bytes head offset 0 ahead []
  at_start bytes head offset ahead first none told =
      subst (λ (p : ℕ). IsAt G line number bytes head p 0 ahead []) (sym first) (subst (λ (h : Option G.Head). IsAt G line number bytes h 0 0 ahead []) (sym none) (record {
        records = [];
        rest = bytes;
        ahead_is = told;
        taken = none_taken G is bytes;
        counted = refl;
        fresh = λ start. refl;
        told = λ some. absurd (omega (arith, some));
        text_is = refl;
      }))

  offset_some : (offset now more : ℕ) (it : G.Record) → now ≡ record_offset G offset + more → 0 < now
  offset_some zero now more it e = let some = is.head_some in omega (arith, e, some)
  offset_some (suc offset) now more it e = omega (arith, e)

  head_after : (offset : ℕ) (head other : Option G.Head) (now : ℕ) → MovesHead G offset head now other → 0 < now → (0 < offset → (it : G.Head) × (head ≡ Some it)) → (it : G.Head) × (other ≡ Some it)
  head_after zero head other now moves some told = let it = moves.read refl some in (it.0, it.1)
  head_after (suc offset) head other now moves some told = let it = told (omega arith) in (it.0, moves.kept (omega arith) ∙ it.1)

  -- the lines of the records before a step don't depend on the head that it takes
  same_lines : (offset : ℕ) (head other : Option G.Head) (now : ℕ) (records : List G.Record) → MovesHead G offset head now other → (offset ≡ 0 → records ≡ []) → numbered line (number head) records ≡ numbered line (number other) records
  same_lines zero head other now records moves fresh =
      let none : records ≡ [] = fresh refl in
      ap (numbered line (number head)) none ∙ sym (ap (numbered line (number other)) none)
  same_lines (suc offset) head other now records moves fresh =
      ap (λ (h : Option G.Head). numbered line (number h) records) (sym (moves.kept (omega arith)))

  -- one record more was listed
  pub at_next : (bytes : List ℕ) (head other : Option G.Head) (offset now count : ℕ) (before after : Option (List ℕ)) (text : List ℕ) (given : G.Record)
      → (at : IsAt G line number bytes head offset count before text) → GivesRecord G given offset at.rest now after → now ≡ record_offset G offset + length (G.record_text given) → MovesHead G offset head now other → ReadsHead G offset at.rest now other
      → IsAt G line number bytes other now (suc count) after (text ++ line (number other + count) given)
  at_next bytes head other offset now count before after text given at gives moved moves reads =
      let some : 0 < now = offset_some offset now (length (G.record_text given)) given moved in
      let lines : text ≡ numbered line (number other) at.records = at.text_is ∙ same_lines offset head other now at.records moves at.fresh in
      record {
        records = at.records ++ given ∷ [];
        rest = gives.0;
        ahead_is = gives.1;
        taken = given_taken G is bytes head other at.records offset at.rest given now after at.taken gives moves reads;
        counted = length-append at.records (given ∷ []) ∙ (let c = at.counted in omega (arith, c));
        fresh = λ start. absurd (omega (arith, start, some));
        told = λ _. head_after offset head other now moves some at.told;
        text_is = ap (λ (t : List ℕ). t ++ line (number other + count) given) lines ∙ ap (λ (c : ℕ). numbered line (number other) at.records ++ line (number other + c) given) (sym at.counted) ∙ sym (numbered_more line (number other) at.records given);
      }

  -- the outline of the file, told what comes behind the records that were listed
  behind : (bytes : List ℕ) (head : Option G.Head) (offset count : ℕ) (before : Option (List ℕ)) (text : List ℕ) → (at : IsAt G line number bytes head offset count before text) → outline_of G bytes ≡ with_head head (with_records at.records (outline_at G offset at.rest))
  behind bytes head offset count before text at = taken_outline G is bytes head at.records offset at.rest at.taken

  -- the lines of an outline that begins with these records
  lines_behind : (offset : ℕ) (head : Option G.Head) (records : List G.Record) (outline : Outline G.Head G.Record G.Kind) → (offset ≡ 0 → records ≡ []) → (0 < offset → (it : G.Head) × (head ≡ Some it))
      → (more : List ℕ) × (outline_lines line number (with_head head (with_records records outline)) ≡ numbered line (number head) records ++ more) × (outline.records ≡ [] → more ≡ [])
  lines_behind zero head records outline fresh told =
      let none : records ≡ [] = fresh refl in
      let more = numbered line (number (first_head head outline.head)) outline.records in
      (more, ap (λ (rs : List G.Record). numbered line (number (first_head head outline.head)) (rs ++ outline.records)) none ∙ sym (ap (λ (rs : List G.Record). numbered line (number head) rs ++ more) none), λ e. ap (numbered line (number (first_head head outline.head))) e)
  lines_behind (suc offset) head records outline fresh told =
      let it = told (omega arith) in
      let same : first_head head outline.head ≡ head = ap (λ (h : Option G.Head). first_head h outline.head) it.1 ∙ sym it.1 in
      (numbered line (number head + length records) outline.records, ap (λ (h : Option G.Head). numbered line (number h) (records ++ outline.records)) same ∙ numbered_both line (number head) records outline.records, λ e. ap (numbered line (number head + length records)) e)

  -- what was listed begins the lines of the file
  pub at_prefix : (bytes : List ℕ) (head : Option G.Head) (offset count : ℕ) (before : Option (List ℕ)) (text : List ℕ) → IsAt G line number bytes head offset count before text → (more : List ℕ) × (file_lines G line number bytes ≡ text ++ more)
  at_prefix bytes head offset count before text at =
      let it = lines_behind offset head at.records (outline_at G offset at.rest) at.fresh at.told in
      (it.0, ap (outline_lines line number) (behind bytes head offset count before text at) ∙ it.1 ∙ ap (λ (t : List ℕ). t ++ it.0) (sym at.text_is))

  -- nothing comes behind what was listed
  ends : (bytes : List ℕ) (head : Option G.Head) (offset count : ℕ) (before : Option (List ℕ)) (text : List ℕ) (fault : Option (ℕ × Refusal G.Kind)) → (at : IsAt G line number bytes head offset count before text)
      → outline_at G offset at.rest ≡ with_head (head_at G offset at.rest) (record { head = None; records = []; fault = fault }) → IsListed G line number bytes fault text
  ends bytes head offset count before text fault at last =
      let it = lines_behind offset head at.records (outline_at G offset at.rest) at.fresh at.told in
      let none : it.0 ≡ [] = it.2 (ap (λ (o : Outline G.Head G.Record G.Kind). o.records) last) in
      record {
        text_is = at.text_is ∙ sym (append-nil (numbered line (number head) at.records)) ∙ ap (λ (t : List ℕ). numbered line (number head) at.records ++ t) (sym none) ∙ sym it.1 ∙ ap (outline_lines line number) (sym (behind bytes head offset count before text at));
        fault_is = ap (λ (o : Outline G.Head G.Record G.Kind). o.fault) (behind bytes head offset count before text at) ∙ ap (λ (o : Outline G.Head G.Record G.Kind). o.fault) last;
      }

  pub at_end : (bytes : List ℕ) (head : Option G.Head) (offset count : ℕ) (before : Option (List ℕ)) (text : List ℕ) → (at : IsAt G line number bytes head offset count before text) → next_at G offset at.rest ≡ AtEnd → IsListed G line number bytes None text
  at_end bytes head offset count before text at next = ends bytes head offset count before text None at (one_step G is offset at.rest AtEnd next)

  pub at_refused : (bytes : List ℕ) (head : Option G.Head) (offset count : ℕ) (before : Option (List ℕ)) (text : List ℕ) (where_at : ℕ) (refusal : Refusal G.Kind) → (at : IsAt G line number bytes head offset count before text) → next_at G offset at.rest ≡ Refuses where_at refusal → IsListed G line number bytes (Some (where_at, refusal)) text
  at_refused bytes head offset count before text where_at refusal at next = ends bytes head offset count before text (Some (where_at, refusal)) at (one_step G is offset at.rest (Refuses where_at refusal) next)

  -- a read failed
  pub at_fault : (bytes : List ℕ) (head other : Option G.Head) (offset now count : ℕ) (before : Option (List ℕ)) (pending : List ℕ) (left : Option (List ℕ)) (text : List ℕ) → (at : IsAt G line number bytes head offset count before text)
      → LeavesFrom G 0 offset at.rest now (after_bytes pending left) → MovesHead G offset head now other → ReadsHead G offset at.rest now other → AwaitsAt G now pending → IsListedSoFar G line number bytes left text
  at_fault bytes head other offset now count before pending left text at leaves moves reads awaits =
      let (behind_it, is_left) = left_told pending left leaves.0 leaves.1 in
      let upto = fault_taken G is bytes head other at.records offset at.rest now pending left behind_it at.taken leaves moves reads awaits is_left in
      record {
        read = upto.read;
        rest = behind_it;
        left_is = is_left;
        parts = upto.whole;
        none = upto.unrefused;
        text_is = at.text_is ∙ same_lines offset head other now at.records moves at.fresh ∙ sym (ap (λ (h : Option G.Head). numbered line (number h) at.records) upto.head_is) ∙ ap (numbered line (number (outline_of G upto.read).head)) (sym upto.records_are);
      }
