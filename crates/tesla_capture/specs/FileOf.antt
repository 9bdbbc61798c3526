-- Captures and scripts as files of records. What is read of their heads and records is the one spelling of each, and
-- what was told of some bytes stays so, whatever follows them.
use Rattle.std.proofs.Common.{◌≡◌, ℕ, zero, suc, ◌+◌, ◌<◌, ◌≤◌, ◌^◌, List, [], ◌∷◌, ◌++◌, length, take, drop, Option, Some, None, refl, sym, ap, subst, ◌∙◌, arith, append_assoc, inl, inr}
use Rattle.std.specs.Int.{w16, w64, to_be_bytes}
use Rattle.std.proofs.lemmas.List.{length-append, length-drop, length-take-le, take_at, take-append-drop, take-append-le}
use Rattle.tesla_base.specs.Prefix.{AreBytes, parse_number}
use Rattle.tesla_base.proofs.Prefixes.{AreBytes-drop, AreBytes-take, Takes, Takes-then, field16, field64, number_more, number_none, number_parts}
use Rattle.tesla_records.specs.Grammar as files
use Rattle.tesla_records.specs.Grammar.{Awaits, Whole, Bad, HeadIs}
use Rattle.tesla_capture.specs.Formats.{IsGrammar, IsOfKind, bare_text, bare_reading}
use Rattle.tesla_capture.specs.Parsing.{parse_bare, bare_size, file_of, parse_head, reading_at, parse_record}
use Rattle.tesla_capture.specs.Grammar.{Grammar}
use Rattle.tesla_capture.specs.declared.record.RecordFault.{RecordFault}
use Rattle.tesla_capture.specs.HeadParsed.{head_again, head_awaits, head_none, head_stands}
use Rattle.tesla_capture.specs.RecordParsed.{Sees, NoReading, NoLength, TooMany, NoBytes, There, sees, parse_seen, parse_seen_is, bare_bad, parse_bare_is, bare_size_is, bare_some, reading_again, reading_fits, reading_more, reading_none, reading_takes}

-- what is behind a reading and a length
pub behind_length : (rest : List ℕ) (x y : ℕ × List ℕ) → parse_number w64 rest ≡ Some x → parse_number w16 x.1 ≡ Some y → length rest ≡ 10 + length y.1
behind_length rest x y e f =
    let a = number_parts w64 rest x e in
    let b = number_parts w16 x.1 y f in
    omega (arith, a.0, b.0, ap length a.2, ap length b.2, length-drop 8 rest, length-drop 2 x.1)

module _ (G : Grammar) (is : IsGrammar G) where
  -- ---- what has the text of a record

  pub carrying_length : (reading : ℕ) (bytes : List ℕ) → length (G.record_text (G.carrying reading bytes)) ≡ 11 + length bytes
  carrying_length reading bytes =
      let a = 1 ∷ to_be_bytes w64 reading in
      let b = to_be_bytes w16 (length bytes) in
      omega (arith, ap length (is.carrying_spelled reading bytes), length-append (a ++ b) bytes, length-append a b)

  pub bare_length : (reading : ℕ) → length (G.record_text (G.bare reading)) ≡ bare_size G.timed
  bare_length reading = ap length (is.bare_spelled reading) ∙ bare_size_is G.timed reading

  -- a record whose text stands at the start of bytes
  record Stands (bytes : List ℕ) (it : G.Record) (size : ℕ) : Type 0 where
    rest : List ℕ
    parts : bytes ≡ G.record_text it ++ rest
    sized : length (G.record_text it) ≡ size
    limits : G.IsRecord it

  carrying_stands : (rest : List ℕ) (x y : ℕ × List ℕ) → AreBytes rest → parse_number w64 rest ≡ Some x → parse_number w16 x.1 ≡ Some y → y.0 ≤ G.longest → y.0 ≤ length y.1
      → Stands (1 ∷ rest) (G.carrying x.0 (take y.0 y.1)) (11 + y.0)
  carrying_stands rest x y fits e f few there =
      let a = to_be_bytes w64 x.0 in
      let b = to_be_bytes w16 y.0 in
      let c = take y.0 y.1 in
      let s = field64.takes rest x fits e in
      let t = field16.takes x.1 y s.0.rest_fits f in
      let len : length c ≡ y.0 = length-take-le y.0 y.1 there in
      let two : Takes x.1 (b ++ c) (drop y.0 y.1) = Takes-then x.1 b y.1 c (drop y.0 y.1) t.0 (record { parts = sym (take-append-drop y.0 y.1); rest_fits = AreBytes-drop y.0 y.1 t.0.rest_fits }) in
      let all : Takes rest (a ++ (b ++ c)) (drop y.0 y.1) = Takes-then rest a x.1 (b ++ c) (drop y.0 y.1) s.0 two in
      let text : 1 ∷ (a ++ (b ++ c)) ≡ G.record_text (G.carrying x.0 c) =
      sym (append_assoc (1 ∷ a) b c) ∙ ap (λ (k : ℕ). ((1 ∷ a) ++ to_be_bytes w16 k) ++ c) (sym len) ∙ sym (is.carrying_spelled x.0 c) in
      record {
        rest = drop y.0 y.1;
        parts = ap (λ (r : List ℕ). 1 ∷ r) all.parts ∙ ap (λ (t : List ℕ). t ++ drop y.0 y.1) text;
        sized = carrying_length x.0 c ∙ ap (λ (k : ℕ). 11 + k) len;
        limits = is.carrying_fits x.0 c s.1 (omega (arith, len, few)) (AreBytes-take y.0 y.1 t.0.rest_fits);
      }

  bare_stands : (rest : List ℕ) (x : ℕ × List ℕ) → AreBytes rest → reading_at G.timed rest ≡ Some x → Stands (2 ∷ rest) (G.bare x.0) (bare_size G.timed)
  bare_stands rest x fits e =
      let s = reading_takes G.timed rest x fits e in
      record {
        rest = x.1;
        parts = ap (λ (r : List ℕ). 2 ∷ r) s.0.parts ∙ ap (λ (t : List ℕ). t ++ x.1) (sym (is.bare_spelled x.0));
        sized = bare_length x.0;
        limits = is.bare_fits x.0 s.1;
      }

  -- ---- a whole record

  record IsWholeRecord (bytes more : List ℕ) (it : G.Record) (size : ℕ) : Type 0 where
    again : parse_record G (bytes ++ more) ≡ Whole it size
    there : size ≤ length bytes
    some : 1 ≤ size
    stands : AreBytes bytes → Stands bytes it size

  carrying_whole : (rest more : List ℕ) (it : G.Record) (size : ℕ) (s : Sees G.longest rest) → parse_seen G rest s ≡ Whole it size → IsWholeRecord (1 ∷ rest) more it size
  unfolding parse_seen
  carrying_whole rest more it size (NoReading e) w = absurd cc
  carrying_whole rest more it size (NoLength x e f) w = absurd cc
  carrying_whole rest more it size (TooMany x y e f many) w = absurd cc
  carrying_whole rest more it size (NoBytes x y e f few short) w = absurd cc
  carrying_whole rest more it size (There x y e f few there) w =
      let same : G.carrying x.0 (take y.0 y.1) ≡ it = cc in
      let sized : 11 + y.0 ≡ size = cc in
      let later : Sees G.longest (rest ++ more) = There (x.0, x.1 ++ more) (y.0, y.1 ++ more) (number_more w64 rest more x e) (number_more w16 x.1 more y f) few (omega (arith, there, length-append y.1 more)) in
      record {
        again = parse_seen_is G (rest ++ more) later ∙ ap (λ (b : List ℕ). Whole (G.carrying x.0 b) (11 + y.0)) (take-append-le y.0 y.1 more there) ∙ w;
        there = omega (arith, sized, there, behind_length rest x y e f);
        some = omega (arith, sized);
        stands = λ are. subst (λ (i : G.Record). Stands (1 ∷ rest) i size) same (subst (λ (k : ℕ). Stands (1 ∷ rest) (G.carrying x.0 (take y.0 y.1)) k) sized (carrying_stands rest x y are.1 e f few there));
      }

  bare_whole : (rest more : List ℕ) (it : G.Record) (size : ℕ) (o : Option (ℕ × List ℕ)) → reading_at G.timed rest ≡ o → parse_bare G o ≡ Whole it size → IsWholeRecord (2 ∷ rest) more it size
  bare_whole rest more it size None e w = absurd cc
  bare_whole rest more it size (Some x) e w =
      let same : G.bare x.0 ≡ it = cc in
      let sized : bare_size G.timed ≡ size = cc in
      record {
        again = parse_bare_is G (rest ++ more) ∙ ap (parse_bare G) (reading_more G.timed rest more x e) ∙ w;
        there = omega (arith, sized, reading_fits G.timed rest x e);
        some = omega (arith, sized, bare_some G.timed);
        stands = λ are. subst (λ (i : G.Record). Stands (2 ∷ rest) i size) same (subst (λ (k : ℕ). Stands (2 ∷ rest) (G.bare x.0) k) sized (bare_stands rest x are.1 e));
      }

  record_whole : (bytes more : List ℕ) (it : G.Record) (size : ℕ) → parse_record G bytes ≡ Whole it size → IsWholeRecord bytes more it size
  unfolding parse_record
  record_whole [] more it size w = absurd cc
  record_whole (zero ∷ rest) more it size w = absurd cc
  record_whole (suc zero ∷ rest) more it size w = carrying_whole rest more it size (sees G.longest rest) (sym (parse_seen_is G rest (sees G.longest rest)) ∙ w)
  record_whole (suc (suc zero) ∷ rest) more it size w = bare_whole rest more it size (reading_at G.timed rest) refl w
  record_whole (suc (suc (suc b)) ∷ rest) more it size w = absurd cc

  text_whole : (bytes : List ℕ) (it : G.Record) (size : ℕ) → Stands bytes it size → take size bytes ≡ G.record_text it
  text_whole bytes it size s = ap (take size) s.parts ∙ take_at (G.record_text it) s.rest size s.sized

  -- ---- what isn't whole

  carrying_awaits : (rest : List ℕ) (s : Sees G.longest rest) → parse_seen G rest s ≡ Awaits → suc (length rest) < 11 + G.longest
  unfolding parse_seen
  carrying_awaits rest (NoReading e) w = omega (arith, number_none w64 rest e)
  carrying_awaits rest (NoLength x e f) w = (let a = number_parts w64 rest x e in omega (arith, number_none w16 x.1 f, a.0, ap length a.2, length-drop 8 rest))
  carrying_awaits rest (TooMany x y e f many) w = absurd cc
  carrying_awaits rest (NoBytes x y e f few short) w = omega (arith, behind_length rest x y e f, few, short)
  carrying_awaits rest (There x y e f few there) w = absurd cc

  bare_awaits : (rest : List ℕ) (o : Option (ℕ × List ℕ)) → reading_at G.timed rest ≡ o → parse_bare G o ≡ Awaits → suc (length rest) < 11 + G.longest
  bare_awaits rest None e w = (let short = (reading_none G.timed rest e).1 in omega (arith, short))
  bare_awaits rest (Some x) e w = absurd cc

  record_awaits : (bytes : List ℕ) → parse_record G bytes ≡ Awaits → length bytes < 11 + G.longest
  unfolding parse_record
  record_awaits [] w = omega arith
  record_awaits (zero ∷ rest) w = absurd cc
  record_awaits (suc zero ∷ rest) w = carrying_awaits rest (sees G.longest rest) (sym (parse_seen_is G rest (sees G.longest rest)) ∙ w)
  record_awaits (suc (suc zero) ∷ rest) w = bare_awaits rest (reading_at G.timed rest) refl w
  record_awaits (suc (suc (suc b)) ∷ rest) w = absurd cc

  carrying_bad : (rest more : List ℕ) (fault : RecordFault) (s : Sees G.longest rest) → parse_seen G rest s ≡ Bad fault → parse_record G (1 ∷ (rest ++ more)) ≡ Bad fault
  unfolding parse_seen
  carrying_bad rest more fault (NoReading e) w = absurd cc
  carrying_bad rest more fault (NoLength x e f) w = absurd cc
  carrying_bad rest more fault (TooMany x y e f many) w =
      parse_seen_is G (rest ++ more) (TooMany (x.0, x.1 ++ more) (y.0, y.1 ++ more) (number_more w64 rest more x e) (number_more w16 x.1 more y f) many) ∙ w
  carrying_bad rest more fault (NoBytes x y e f few short) w = absurd cc
  carrying_bad rest more fault (There x y e f few there) w = absurd cc

  record_bad : (bytes more : List ℕ) (fault : RecordFault) → parse_record G bytes ≡ Bad fault → parse_record G (bytes ++ more) ≡ Bad fault
  unfolding parse_record
  record_bad [] more fault w = absurd cc
  record_bad (zero ∷ rest) more fault w = w
  record_bad (suc zero ∷ rest) more fault w = carrying_bad rest more fault (sees G.longest rest) (sym (parse_seen_is G rest (sees G.longest rest)) ∙ w)
  record_bad (suc (suc zero) ∷ rest) more fault w = absurd (bare_bad G (reading_at G.timed rest) fault w)
  record_bad (suc (suc (suc b)) ∷ rest) more fault w = w

  -- ---- what was written

  carrying_read : (reading : ℕ) (bytes more : List ℕ) → reading < 2 ^ 64 → length bytes ≤ G.longest → parse_record G (G.record_text (G.carrying reading bytes) ++ more) ≡ Whole (G.carrying reading bytes) (length (G.record_text (G.carrying reading bytes)))
  unfolding parse_seen
  carrying_read reading bytes more below few =
      let a = to_be_bytes w64 reading in
      let b = to_be_bytes w16 (length bytes) in
      let n = length bytes in
      let rest = a ++ (b ++ (bytes ++ more)) in
      let text : G.record_text (G.carrying reading bytes) ++ more ≡ 1 ∷ rest =
      ap (λ (t : List ℕ). t ++ more) (is.carrying_spelled reading bytes) ∙ append_assoc ((1 ∷ a) ++ b) bytes more ∙ append_assoc (1 ∷ a) b (bytes ++ more) in
      let most = is.few in
      let s : Sees G.longest rest = There (reading, b ++ (bytes ++ more)) (n, bytes ++ more) (field64.again reading (b ++ (bytes ++ more)) below) (field16.again n (bytes ++ more) (omega (arith, few, most))) few (omega (arith, length-append bytes more)) in
      ap (parse_record G) text ∙ parse_seen_is G rest s
      ∙ ap (λ (c : List ℕ). Whole (G.carrying reading c) (11 + n)) (take_at bytes more n refl)
      ∙ ap (λ (k : ℕ). Whole (G.carrying reading bytes) k) (sym (carrying_length reading bytes))

  bare_read : (reading : ℕ) (more : List ℕ) → reading < 2 ^ 64
      → parse_record G (G.record_text (G.bare (bare_reading G.timed reading)) ++ more) ≡ Whole (G.bare (bare_reading G.timed reading)) (length (G.record_text (G.bare (bare_reading G.timed reading))))
  bare_read reading more below =
      let r = bare_reading G.timed reading in
      ap (λ (t : List ℕ). parse_record G (t ++ more)) (is.bare_spelled r) ∙ parse_bare_is G (bare_text G.timed r ++ more)
      ∙ ap (parse_bare G) (reading_again G.timed reading more below)
      ∙ ap (λ (k : ℕ). Whole (G.bare r) k) (sym (bare_length r))

  read_of_kind : (it : G.Record) (more : List ℕ) → IsOfKind G it → parse_record G (G.record_text it ++ more) ≡ Whole it (length (G.record_text it))
  read_of_kind it more (inl h) =
      subst (λ (y : G.Record). parse_record G (G.record_text y ++ more) ≡ Whole y (length (G.record_text y))) (sym h.2) (carrying_read h.0 h.1 more h.3 h.4)
  read_of_kind it more (inr h) =
      subst (λ (y : G.Record). parse_record G (G.record_text y ++ more) ≡ Whole y (length (G.record_text y))) (sym h.1) (bare_read h.0 more h.2)

  -- ---- heads

  record IsWholeHead (bytes more : List ℕ) (parsed : Unit {0}) : Type 0 where
    again : parse_head G.head (bytes ++ more) ≡ HeadIs parsed
    spelled : take 5 bytes ≡ G.head
    there : 5 ≤ length bytes

  head_whole : (bytes more : List ℕ) (parsed : Unit {0}) → parse_head G.head bytes ≡ HeadIs parsed → IsWholeHead bytes more parsed
  head_whole bytes more parsed e =
      let rest = drop (length G.head) bytes in
      let parts = head_stands G.head bytes parsed e in
      let five = is.five in
      record {
        again = ap (λ (b : List ℕ). parse_head G.head (b ++ more)) parts ∙ ap (parse_head G.head) (append_assoc G.head rest more) ∙ head_again G.head (rest ++ more);
        spelled = ap (take 5) parts ∙ take_at G.head rest 5 five;
        there = omega (arith, five, ap length parts, length-append G.head rest);
      }

  nothing : parse_record G [] ≡ Awaits
  unfolding parse_record
  nothing = refl

  pub is_file : files.IsGrammar (file_of G)
  is_file = record {
    head_some = omega arith;
    head_few = omega arith;
    head_awaits = λ bytes e. (let five = is.five in omega (arith, five, head_awaits G.head bytes e));
    head_is = λ bytes more head e. let h = head_whole bytes more head e in (h.again, (λ are. h.spelled), h.there);
    head_limits = λ bytes head are e. tt;
    head_none = λ bytes more e. head_none G.head bytes more e;
    head_read = λ head more fits. (head_again G.head more, is.five);
    few = (let most = is.few in omega (arith, most));
    none = nothing;
    awaits = record_awaits;
    whole = λ bytes more it size e. let w = record_whole bytes more it size e in (w.again, (λ are. text_whole bytes it size (w.stands are)), w.there, w.some);
    limits = λ bytes it size are e. ((record_whole bytes [] it size e).stands are).limits;
    bad = record_bad;
    read = λ it more fits. read_of_kind it more (is.of_kind it fits);
  }
