-- Records that are taken from the start of a file one after another, and the place where a read fails.
use Rattle.std.proofs.Common.{◌≡◌, ◌∙◌, ℕ, zero, suc, ◌<◌, List, [], ◌∷◌, ◌++◌, Option, Some, None, refl, sym, ap, subst, arith, inl, inr, ◌+◌, length, length-append}
use Rattle.tesla_desk.specs.Outside.{after_bytes}
use Rattle.tesla_records.specs.Records.{parsed_head}
use Rattle.tesla_records.specs.Steps as steps
use Rattle.tesla_records.proofs.ParsedAgain.{next_stands}
use Rattle.tesla_records.proofs.NextRecord.{after_shorter}
use Rattle.tesla_records.proofs.Taken as taken
use Rattle.tesla_capture.specs.Formats.{IsGrammar}
use Rattle.tesla_capture.specs.Found.{AwaitsAt}
use Rattle.tesla_capture.specs.Parsing.{file_of}
use Rattle.tesla_capture.specs.Grammar.{Grammar}
use Rattle.tesla_capture.specs.Records.{outline_as, outline_at, outline_of, record_offset, with_records}
use Rattle.tesla_capture.specs.Steps.{GivesRecord, LeavesFrom, TakesNoRecord}
use Rattle.tesla_capture.specs.Taken.{HoldsNoRefusal, IsReadUpTo, IsTaken}
use Rattle.tesla_capture.specs.FileOf.{is_file}

module _ (G : Grammar) (is : IsGrammar G) where
  -- what is known of the head after a step
  record Heads (offset : ℕ) (rest : List ℕ) (now : ℕ) (before : Option (Unit {0})) : Type 0 where
    head : Option (Unit {0})
    moves : steps.MovesHead (file_of G) offset before now head
    reads : steps.ReadsHead (file_of G) offset rest now head

  -- the head was read on the way from place 0
  heads_read : (rest after : List ℕ) (now : ℕ) (before : Option (Unit {0})) → 0 < now → rest ≡ G.head ++ after → Heads 0 rest now before
  heads_read rest after now before some parts =
      let parsed = ap (λ (r : List ℕ). (file_of G).parse_head r) parts ∙ ((is_file G is).head_read tt after tt).0 in
      record {
        head = Some tt;
        moves = record { none = λ start. absurd (omega (arith, start, some)); kept = λ behind. absurd (omega (arith, behind)); read = λ first moved. (tt, refl, tt) };
        reads = λ first moved. sym (ap parsed_head parsed);
      }

  -- nothing was read of it
  heads_kept : (offset : ℕ) (rest : List ℕ) (now : ℕ) (before : Option (Unit {0})) → (offset ≡ 0 → now ≡ 0) → Heads offset rest now before
  heads_kept offset rest now before still = record {
    head = before;
    moves = record { none = λ start. refl; kept = λ behind. refl; read = λ first moved. absurd (omega (arith, still first, moved)) };
    reads = λ first moved. absurd (omega (arith, still first, moved));
  }

  heads_given : (offset : ℕ) (rest : List ℕ) (given : G.Record) (now : ℕ) (left : Option (List ℕ)) (before : Option (Unit {0})) → GivesRecord G given offset rest now left → Heads offset rest now before
  heads_given zero rest given now left before gives =
      let moved = (after_shorter (file_of G) (is_file G is) 0 rest given now gives.0 gives.2).moved in
      heads_read rest (G.record_text given ++ gives.0) now before (omega (arith, moved)) gives.4.2
  heads_given (suc offset) rest given now left before gives = heads_kept (suc offset) rest now before (λ start. absurd (omega (arith, start)))

  heads_none : (offset : ℕ) (rest : List ℕ) (now : ℕ) (after : List ℕ) (before : Option (Unit {0})) → TakesNoRecord G offset rest now after → Heads offset rest now before
  heads_none offset rest now after before (inl same) = heads_kept offset rest now before (λ start. same.0 ∙ start)
  heads_none offset rest now after before (inr (start, at, head, limits, parts)) =
      subst (λ (p : ℕ). Heads p rest now before) (sym start) (heads_read rest after now before (omega (arith, at)) parts)

  -- no record was taken yet
  pub none_taken : (bytes : List ℕ) → IsTaken G bytes [] 0 bytes
  none_taken bytes = (None, taken.none_taken (file_of G) (is_file G is) bytes)

  -- the outline of the file is that of its rest behind the records
  pub taken_outline : (bytes : List ℕ) (records : List G.Record) (offset : ℕ) (rest : List ℕ) → IsTaken G bytes records offset rest → outline_of G bytes ≡ with_records records (outline_at G offset rest)
  unfolding outline_at
  taken_outline bytes records offset rest (head, prefix) = ap outline_as (taken.taken_outline (file_of G) (is_file G is) bytes head records offset rest prefix)

  -- the record that a step gave was taken
  pub given_taken : (bytes : List ℕ) (records : List G.Record) (offset : ℕ) (rest : List ℕ) (given : G.Record) (now : ℕ) (left : Option (List ℕ)) → IsTaken G bytes records offset rest → (gives : GivesRecord G given offset rest now left) → IsTaken G bytes (records ++ given ∷ []) now gives.0
  given_taken bytes records offset rest given now left (head, prefix) gives =
      let h = heads_given offset rest given now left head gives in
      (h.head, taken.given_taken (file_of G) (is_file G is) bytes head h.head records offset rest given now left prefix gives h.moves h.reads)

  -- where no record was taken, those before are the same
  pub head_taken : (bytes : List ℕ) (records : List G.Record) (offset : ℕ) (rest : List ℕ) (now : ℕ) (after : List ℕ) → IsTaken G bytes records offset rest → TakesNoRecord G offset rest now after → IsTaken G bytes records now after
  head_taken bytes records offset rest now after (head, prefix) none =
      let h = heads_none offset rest now after head none in
      (h.head, taken.head_taken (file_of G) (is_file G is) bytes head h.head records offset rest now after prefix none h.moves h.reads)

  -- where a read fails, what was read of the file holds no refused place, and its records are those that were taken
  pub cut_taken : (bytes : List ℕ) (records : List G.Record) (offset : ℕ) (rest pending read left : List ℕ) → IsTaken G bytes records offset rest → AwaitsAt G offset pending → rest ≡ pending ++ left → bytes ≡ read ++ left → HoldsNoRefusal G read × ((outline_of G read).records ≡ records)
  unfolding outline_at
  cut_taken bytes records offset rest pending read left (head, prefix) awaits parts whole =
      let cut = taken.cut_taken (file_of G) (is_file G is) bytes head records offset rest pending read left prefix awaits parts whole in
      (cut.0, cut.2)

  -- where a step found that a read failed, the file was read up to what its source has left
  pub fault_taken : (bytes : List ℕ) (records : List G.Record) (offset : ℕ) (rest : List ℕ) (now : ℕ) (pending : List ℕ) (left : Option (List ℕ)) (behind : List ℕ) → IsTaken G bytes records offset rest → LeavesFrom G 0 offset rest now (after_bytes pending left) → AwaitsAt G now pending → left ≡ Some behind → IsReadUpTo G bytes behind records
  unfolding outline_at
  fault_taken bytes records offset rest now pending left behind (head, prefix) leaves awaits is_left =
      let h = heads_none offset rest now leaves.0 head leaves.2 in
      let up = taken.fault_taken (file_of G) (is_file G is) bytes head h.head records offset rest now pending left behind prefix leaves h.moves h.reads awaits is_left in
      record { read = up.read; whole = up.whole; unrefused = up.unrefused; records_are = up.records_are }

  -- ---- places

  given_after_head : (rest after : List ℕ) (given : G.Record) (now : ℕ) (text : List ℕ) → rest ≡ text ++ after → now ≡ 0 + length text → rest ≡ G.head ++ (G.record_text given ++ after) → now ≡ 5 + length (G.record_text given)
  given_after_head rest after given now text parts moved stands =
      let five = is.five in
      omega (arith, five, moved, ap length parts, ap length stands, length-append text after, length-append G.head (G.record_text given ++ after), length-append (G.record_text given) after)

  -- the place behind a record that was given
  pub given_offset : (offset : ℕ) (rest : List ℕ) (given : G.Record) (now : ℕ) (left : Option (List ℕ)) → GivesRecord G given offset rest now left → now ≡ record_offset offset + length (G.record_text given)
  given_offset zero rest given now left (after, parsed, next, limits, stands) =
      let s = next_stands (file_of G) (is_file G is) 0 rest given now after next limits stands in
      given_after_head rest after given now s.text s.parts s.now_is stands.2
  given_offset (suc offset) rest given now left (after, parsed, next, limits, stands) =
      let s = next_stands (file_of G) (is_file G is) (suc offset) rest given now after next limits stands in
      let moved = s.now_is in
      omega (arith, moved, ap length s.parts, ap length stands, length-append s.text after, length-append (G.record_text given) after)
