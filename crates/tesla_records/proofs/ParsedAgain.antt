-- A record that comes next stands in its own bytes: it comes next too where others follow them.
use Rattle.std.proofs.Common.{◌≡◌, ◌∙◌, ℕ, zero, suc, ◌+◌, ◌-◌, ◌≤◌, List, [], ◌++◌, length, take, refl, sym, ap, arith, append_assoc, append-nil, length-append}
use Rattle.std.proofs.lemmas.List.{take-take, drop_at, drop_all, length-take, length-drop}
use Rattle.tesla_base.specs.Prefix.{AreBytes}
use Rattle.tesla_base.proofs.Prefixes.{AreBytes-take}
use Rattle.tesla_records.specs.Grammar.{Whole, Grammar, IsGrammar, HeadIs, limit}
use Rattle.tesla_records.specs.Records.{Recorded, record_next, next_at, parsed_head, head_at}
use Rattle.tesla_records.specs.Steps.{StandsBefore}
use Rattle.tesla_records.proofs.NextRecord.{head_some, next_from, whole_next, record_follows}
use Rattle.tesla_records.proofs.StepGives.{next_head, text_before}

module _ (G : Grammar) (is : IsGrammar G) where
  -- the bytes of what comes next, before which it comes next whatever follows, with the same head
  pub record NextStands (offset : ℕ) (rest : List ℕ) (first : G.Record) (now : ℕ) (after : List ℕ) : Type 0 where
    pub text : List ℕ
    pub parts : rest ≡ text ++ after
    pub now_is : now ≡ offset + length text
    pub again : (more : List ℕ) → next_at G offset (text ++ more) ≡ Recorded first now more
    pub head_again : (more : List ℕ) → head_at G offset (text ++ more) ≡ head_at G offset rest

  -- a record that is whole is told by its spelling
  text_whole : (it : G.Record) → G.IsRecord it → G.parse (G.record_text it) ≡ Whole it (length (G.record_text it))
  text_whole it limits = ap G.parse (sym (append-nil (G.record_text it))) ∙ is.read it [] limits

  -- a record that ends within the limit comes next before whatever follows
  pub text_next : (offset : ℕ) (it : G.Record) (more : List ℕ) → G.IsRecord it → offset + length (G.record_text it) ≤ limit → record_next G offset (G.record_text it ++ more) ≡ Recorded it (offset + length (G.record_text it)) more
  text_next offset it more limits fits =
      let text = G.record_text it in
      whole_next G is offset text more it (length text) (text_whole it limits) fits
      ∙ ap (λ (r : List ℕ). Recorded it (offset + length text) (r ++ more)) (drop_all (length text) text (omega arith))

  -- what comes next is spelled at the start of the rest
  pub record Spells (offset : ℕ) (rest : List ℕ) (first : G.Record) (now : ℕ) (after : List ℕ) : Type 0 where
    pub parts : rest ≡ G.record_text first ++ after
    pub now_is : now ≡ offset + length (G.record_text first)
    pub within : now ≤ limit

  stands_spells : (offset : ℕ) (rest : List ℕ) (first : G.Record) (now : ℕ) (after : List ℕ) → record_next G offset rest ≡ Recorded first now after → rest ≡ G.record_text first ++ after → Spells offset rest first now after
  stands_spells offset rest first now after e parts =
      let f = record_follows G offset rest first now after e in
      let told = is.whole (take (limit - offset) rest) [] first f.size f.parsed_is in
      let size = length-take (limit - offset) rest in
      let behind = f.after_is in
      let some : 1 ≤ f.size = told.3 in
      let fits : f.size ≤ limit - offset = omega (arith, told.2, size) in
      let there : f.size ≤ length rest = omega (arith, told.2, size) in
      let long : length (G.record_text first) ≡ f.size = omega (arith, ap length parts, ap length behind, length-append (G.record_text first) after, length-drop f.size rest, there) in
      record {
        parts = parts;
        now_is = f.now_is ∙ ap (λ (k : ℕ). offset + k) (sym long);
        within = (let moved = f.now_is in omega (arith, moved, fits, some));
      }

  -- what comes next in bytes is spelled there
  pub record_spells : (offset : ℕ) (rest : List ℕ) (first : G.Record) (now : ℕ) (after : List ℕ) → AreBytes rest → record_next G offset rest ≡ Recorded first now after → Spells offset rest first now after
  record_spells offset rest first now after are e =
      let f = record_follows G offset rest first now after e in
      let told = is.whole (take (limit - offset) rest) [] first f.size f.parsed_is in
      let fits : f.size ≤ limit - offset = omega (arith, told.2, length-take (limit - offset) rest) in
      let text : take f.size rest ≡ G.record_text first = sym (take-take f.size (limit - offset) rest fits) ∙ told.1 (AreBytes-take (limit - offset) rest are) in
      stands_spells offset rest first now after e (text_before G f.size rest (G.record_text first) text ∙ ap (λ (a : List ℕ). G.record_text first ++ a) (sym f.after_is))

  record_again_next : (offset : ℕ) (rest : List ℕ) (first : G.Record) (now : ℕ) (after more : List ℕ) → Spells offset rest first now after → G.IsRecord first → record_next G offset (G.record_text first ++ more) ≡ Recorded first now more
  record_again_next offset rest first now after more s limits =
      let moved = s.now_is in
      let within = s.within in
      text_next offset first more limits (omega (arith, moved, within)) ∙ ap (λ (k : ℕ). Recorded first k more) (sym moved)

  -- what stands behind a head comes next behind it
  pub head_next : (head : G.Head) (more : List ℕ) → G.IsHead head → next_at G 0 (G.head_text head ++ more) ≡ next_at G G.head_size more
  head_next head more limits =
      let read = is.head_read head more limits in
      next_head G (G.head_text head ++ more) head (head_some G is) read.0 ∙ ap (next_at G G.head_size) (drop_at (G.head_text head) more G.head_size read.1)

  head_again_next : (rest : List ℕ) (first : G.Record) (now : ℕ) (after : List ℕ) → next_at G 0 rest ≡ Recorded first now after → G.IsRecord first → StandsBefore G first 0 rest after → NextStands 0 rest first now after
  unfolding head_at
  head_again_next rest first now after e limits (head, within, parts) =
      let text = G.record_text first in
      let told : G.parse_head rest ≡ HeadIs head = ap G.parse_head parts ∙ (is.head_read head (text ++ after) within).0 in
      let behind : record_next G G.head_size (text ++ after) ≡ Recorded first now after =
      sym (next_from G G.head_size (text ++ after) (head_some G is)) ∙ sym (head_next head (text ++ after) within) ∙ ap (next_at G 0) (sym parts) ∙ e in
      let s = stands_spells G.head_size (text ++ after) first now after behind refl in
      let size = (is.head_read head [] within).1 in
      record {
        text = G.head_text head ++ text;
        parts = parts ∙ sym (append_assoc (G.head_text head) text after);
        now_is = (let moved = s.now_is in omega (arith, moved, size, length-append (G.head_text head) text));
        again = λ more. ap (next_at G 0) (append_assoc (G.head_text head) text more) ∙ head_next head (text ++ more) within ∙ next_from G G.head_size (text ++ more) (head_some G is)
            ∙ record_again_next G.head_size (text ++ after) first now after more s limits;
        head_again = λ more. ap (λ (b : List ℕ). parsed_head (G.parse_head b)) (append_assoc (G.head_text head) text more) ∙ ap parsed_head (is.head_read head (text ++ more) within).0 ∙ sym (ap parsed_head told);
      }

  pub next_stands : (offset : ℕ) (rest : List ℕ) (first : G.Record) (now : ℕ) (after : List ℕ) → next_at G offset rest ≡ Recorded first now after → G.IsRecord first → StandsBefore G first offset rest after → NextStands offset rest first now after
  unfolding next_at head_at
  next_stands zero rest first now after e limits stands = head_again_next rest first now after e limits stands
  next_stands (suc offset) rest first now after e limits stands =
      let s = stands_spells (suc offset) rest first now after e stands in
      record { text = G.record_text first; parts = s.parts; now_is = s.now_is; again = λ more. record_again_next (suc offset) rest first now after more s limits; head_again = λ more. refl }
