-- What the bytes that were read tell of the record at a place comes next there, whatever follows them.
use Rattle.std.proofs.Common.{◌≡◌, ◌∙◌, ℕ, zero, suc, ◌+◌, ◌-◌, ◌<◌, ◌≤◌, Bool, true, false, cond, ltb, List, [], ◌∷◌, ◌++◌, length, take, drop, refl, ap, arith, length-append}
use Rattle.std.proofs.lemmas.Bool.{le-ltb, lt-ltb}
use Rattle.std.proofs.lemmas.List.{take_all, take_at, drop-append-le, length-drop, length-take}
use Rattle.tesla_base.proofs.Lists.{take-append-ge}
use Rattle.tesla_records.specs.Grammar.{Parsed, Awaits, Whole, Bad, Grammar, IsGrammar, ParsedHead, AwaitsHead, HeadIs, NoHead, limit}
use Rattle.tesla_records.specs.Records.{AtEnd, Recorded, Refuses, next_by, record_next, after_head, next_at}
use Rattle.tesla_records.specs.declared.refusal.Refusal.TheVariants.{Truncated, TooLarge, BadRecord}

-- after the head the record at the place comes next
pub next_from : (G : Grammar) (offset : ℕ) (rest : List ℕ) → 0 < offset → next_at G offset rest ≡ record_next G offset rest
unfolding next_at
next_from G zero rest some = absurd (omega arith)
next_from G (suc offset) rest some = refl

-- where nothing is left the file ends
pub none_ends : (G : Grammar) (offset : ℕ) → record_next G offset [] ≡ AtEnd
unfolding record_next
none_ends G offset = refl

-- what the bytes within the limit tell comes next
pub next_parsed : (G : Grammar) (offset : ℕ) (rest : List ℕ) (tells : Parsed G.Record G.Kind) → 0 < length rest → G.parse (take (limit - offset) rest) ≡ tells → record_next G offset rest ≡ next_by G offset rest tells
unfolding record_next
next_parsed G offset [] tells some e = absurd (omega arith)
next_parsed G offset (b ∷ rest) tells some e = ap (next_by G offset (b ∷ rest)) e

-- a record that comes next is what the bytes within the limit tell
pub record Follows (G : Grammar) (offset : ℕ) (rest : List ℕ) (first : G.Record) (now : ℕ) (after : List ℕ) : Type 0 where
  pub size : ℕ
  pub parsed_is : G.parse (take (limit - offset) rest) ≡ Whole first size
  pub now_is : now ≡ offset + size
  pub after_is : after ≡ drop size rest

by_follows : (G : Grammar) (offset : ℕ) (rest : List ℕ) (tells : Parsed G.Record G.Kind) (first : G.Record) (now : ℕ) (after : List ℕ) → G.parse (take (limit - offset) rest) ≡ tells → next_by G offset rest tells ≡ Recorded first now after → Follows G offset rest first now after
by_follows G offset rest Awaits first now after told e = absurd cc
by_follows G offset rest (Whole it size) first now after told e =
    let same : it ≡ first = cc in
    record { size = size; parsed_is = told ∙ ap (λ (x : G.Record). Whole x size) same; now_is = cc; after_is = cc }
by_follows G offset rest (Bad kind) first now after told e = absurd cc

pub record_follows : (G : Grammar) (offset : ℕ) (rest : List ℕ) (first : G.Record) (now : ℕ) (after : List ℕ) → record_next G offset rest ≡ Recorded first now after → Follows G offset rest first now after
unfolding record_next
record_follows G offset [] first now after e = absurd cc
record_follows G offset (b ∷ rest) first now after e = by_follows G offset (b ∷ rest) (G.parse (take (limit - offset) (b ∷ rest))) first now after refl e

-- a head has a byte at least
pub head_some : (G : Grammar) → IsGrammar G → 0 < G.head_size
head_some G is = (let some = is.head_some in omega arith)

module _ (G : Grammar) (is : IsGrammar G) where
  -- no record begins with no byte
  pub bad_some : (bytes : List ℕ) (kind : G.Kind) → G.parse bytes ≡ Bad kind → 0 < length bytes
  bad_some [] kind e = absurd (let none = is.none in cc)
  bad_some (b ∷ bytes) kind e = omega arith

  -- a whole record comes next, whatever follows the bytes that tell it
  pub whole_next : (offset : ℕ) (bytes left : List ℕ) (it : G.Record) (size : ℕ) → G.parse bytes ≡ Whole it size → offset + length bytes ≤ limit → record_next G offset (bytes ++ left) ≡ Recorded it (offset + size) (drop size bytes ++ left)
  whole_next offset bytes left it size e fits =
      let told = is.whole bytes (take (limit - offset - length bytes) left) it size e in
      next_parsed G offset (bytes ++ left) (Whole it size) (omega (arith, told.2, told.3, length-append bytes left)) (ap G.parse (take-append-ge (limit - offset) bytes left (omega arith)) ∙ told.0)
      ∙ ap (λ (r : List ℕ). Recorded it (offset + size) r) (drop-append-le size bytes left told.2)

  -- a record that none begins so is refused, whatever follows
  pub bad_next : (offset : ℕ) (bytes left : List ℕ) (kind : G.Kind) → G.parse bytes ≡ Bad kind → offset + length bytes ≤ limit → record_next G offset (bytes ++ left) ≡ Refuses offset (BadRecord kind)
  bad_next offset bytes left kind e fits =
      let some = bad_some bytes kind e in
      next_parsed G offset (bytes ++ left) (Bad kind) (omega (arith, some, length-append bytes left))
      (ap G.parse (take-append-ge (limit - offset) bytes left (omega arith)) ∙ is.bad bytes (take (limit - offset - length bytes) left) kind e)

  -- a record that isn't whole at the end of the file is cut
  pub awaits_cut : (offset : ℕ) (bytes : List ℕ) → G.parse bytes ≡ Awaits → 0 < length bytes → offset + length bytes < limit → record_next G offset bytes ≡ Refuses offset Truncated
  awaits_cut offset bytes e some below =
      let test : ltb (offset + length bytes) limit ≡ true = lt-ltb _ _ below in
      next_parsed G offset bytes Awaits some (ap G.parse (take_all (limit - offset) bytes (omega arith)) ∙ e)
      ∙ ap (λ (b : Bool). Refuses offset (cond b Truncated TooLarge)) test

  -- a record that isn't whole at the limit goes past it
  pub awaits_past : (offset : ℕ) (bytes left : List ℕ) → G.parse bytes ≡ Awaits → offset + length bytes ≡ limit → 0 < length (bytes ++ left) → record_next G offset (bytes ++ left) ≡ Refuses offset TooLarge
  awaits_past offset bytes left e full some =
      let test : ltb (offset + length (bytes ++ left)) limit ≡ false = le-ltb _ _ (omega (arith, length-append bytes left)) in
      next_parsed G offset (bytes ++ left) Awaits some (ap G.parse (take_at bytes left (limit - offset) (omega arith)) ∙ e)
      ∙ ap (λ (b : Bool). Refuses offset (cond b Truncated TooLarge)) test

  -- ---- the rest after a record is shorter

  pub record Shorter (offset : ℕ) (rest : List ℕ) (now : ℕ) (after : List ℕ) : Type 0 where
    pub short : length after < length rest
    pub moved : offset < now
    pub within : now ≤ limit

  pub record_shorter : (offset : ℕ) (rest : List ℕ) (first : G.Record) (now : ℕ) (after : List ℕ) → record_next G offset rest ≡ Recorded first now after → Shorter offset rest now after
  record_shorter offset rest first now after e =
      let f = record_follows G offset rest first now after e in
      let told = is.whole (take (limit - offset) rest) [] first f.size f.parsed_is in
      let size = length-take (limit - offset) rest in
      record {
        short = (let is = f.after_is in omega (arith, ap length is, length-drop f.size rest, told.2, told.3, size));
        moved = (let moved = f.now_is in omega (arith, moved, told.3));
        within = (let moved = f.now_is in omega (arith, moved, told.2, told.3, size));
      }

  head_shorter : (bytes : List ℕ) (tells : ParsedHead G.Head) (first : G.Record) (now : ℕ) (after : List ℕ) → after_head G bytes tells ≡ Recorded first now after → Shorter 0 bytes now after
  head_shorter bytes AwaitsHead first now after e = absurd cc
  head_shorter bytes (HeadIs head) first now after e =
      let s = record_shorter G.head_size (drop G.head_size bytes) first now after e in
      record {
        short = (let short = s.short in omega (arith, short, length-drop G.head_size bytes));
        moved = (let moved = s.moved in omega arith);
        within = s.within;
      }
  head_shorter bytes NoHead first now after e = absurd cc

  pub after_shorter : (offset : ℕ) (rest : List ℕ) (first : G.Record) (now : ℕ) (after : List ℕ) → next_at G offset rest ≡ Recorded first now after → Shorter offset rest now after
  unfolding next_at
  after_shorter zero bytes first now after e = head_shorter bytes (G.parse_head bytes) first now after e
  after_shorter (suc offset) rest first now after e = record_shorter (suc offset) rest first now after e
