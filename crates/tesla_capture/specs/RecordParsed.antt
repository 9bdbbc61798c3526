-- What a record tells behind the byte of its kind.
use Rattle.std.proofs.Common.{◌≡◌, ℕ, suc, ◌+◌, ◌<◌, ◌≤◌, ◌^◌, Bool, true, false, ltb, List, ◌∷◌, ◌++◌, length, take, Option, Some, None, refl, ap, subst, ◌∙◌, arith}
use Rattle.std.specs.Prelude.{if◌then◌else◌}
use Rattle.std.specs.Int.{w16, w64}
use Rattle.std.proofs.lemmas.Bool.{ltb-true, ltb-false, le-ltb, lt-ltb}
use Rattle.tesla_base.specs.Prefix.{AreBytes, parse_number}
use Rattle.tesla_base.proofs.Prefixes.{Takes, field64, number_more, number_none, number_parts, some_is}
use Rattle.tesla_records.specs.Grammar.{Parsed, Awaits, Whole, Bad}
use Rattle.tesla_capture.specs.Formats.{bare_text, bare_reading}
use Rattle.tesla_capture.specs.Parsing.{parse_bare, bare_size, parse_carrying, parse_length, reading_at, parse_record}
use Rattle.tesla_capture.specs.Grammar.{Grammar}
use Rattle.tesla_capture.specs.declared.record.RecordFault.{RecordFault}
use Rattle.tesla_capture.specs.declared.record.RecordFault.TheVariants.{TooLong}

-- ---- records of kind 1

-- what is seen behind the kind: no reading yet, no length yet, one above the limit, too few bytes, or all
pub data Sees (longest : ℕ) (rest : List ℕ) : Type 0 where
  NoReading : parse_number w64 rest ≡ None → Sees longest rest
  NoLength : (x : ℕ × List ℕ) → parse_number w64 rest ≡ Some x → parse_number w16 x.1 ≡ None → Sees longest rest
  TooMany : (x y : ℕ × List ℕ) → parse_number w64 rest ≡ Some x → parse_number w16 x.1 ≡ Some y → longest < y.0 → Sees longest rest
  NoBytes : (x y : ℕ × List ℕ) → parse_number w64 rest ≡ Some x → parse_number w16 x.1 ≡ Some y → y.0 ≤ longest → length y.1 < y.0 → Sees longest rest
  There : (x y : ℕ × List ℕ) → parse_number w64 rest ≡ Some x → parse_number w16 x.1 ≡ Some y → y.0 ≤ longest → y.0 ≤ length y.1 → Sees longest rest

module _ (longest : ℕ) (rest : List ℕ) where
  sees_bytes : (x y : ℕ × List ℕ) (short : Bool) → parse_number w64 rest ≡ Some x → parse_number w16 x.1 ≡ Some y → y.0 ≤ longest → ltb (length y.1) y.0 ≡ short → Sees longest rest
  sees_bytes x y true e f few is = NoBytes x y e f few (ltb-true _ _ is)
  sees_bytes x y false e f few is = There x y e f few (ltb-false _ _ is)

  sees_few : (x y : ℕ × List ℕ) (many : Bool) → parse_number w64 rest ≡ Some x → parse_number w16 x.1 ≡ Some y → ltb longest y.0 ≡ many → Sees longest rest
  sees_few x y true e f is = TooMany x y e f (ltb-true _ _ is)
  sees_few x y false e f is = sees_bytes x y (ltb (length y.1) y.0) e f (ltb-false _ _ is) refl

  sees_length : (x : ℕ × List ℕ) (o : Option (ℕ × List ℕ)) → parse_number w64 rest ≡ Some x → parse_number w16 x.1 ≡ o → Sees longest rest
  sees_length x None e f = NoLength x e f
  sees_length x (Some y) e f = sees_few x y (ltb longest y.0) e f refl

  sees_reading : (o : Option (ℕ × List ℕ)) → parse_number w64 rest ≡ o → Sees longest rest
  sees_reading None e = NoReading e
  sees_reading (Some x) e = sees_length x (parse_number w16 x.1) e refl

  pub sees : Sees longest rest
  sees = sees_reading (parse_number w64 rest) refl

-- ---- records of kind 2

pub reading_more : (timed : Bool) (bytes more : List ℕ) (x : ℕ × List ℕ) → reading_at timed bytes ≡ Some x → reading_at timed (bytes ++ more) ≡ Some (x.0, x.1 ++ more)
unfolding reading_at
reading_more true bytes more x e = number_more w64 bytes more x e
reading_more false bytes more x e = ap (λ (y : ℕ × List ℕ). Some (y.0, y.1 ++ more)) (some_is (0, bytes) x e)

-- a reading that isn't there is one that should be
pub reading_none : (timed : Bool) (bytes : List ℕ) → reading_at timed bytes ≡ None → (timed ≡ true) × (length bytes < 8)
unfolding reading_at
reading_none true bytes e = (refl, number_none w64 bytes e)
reading_none false bytes e = absurd cc

pub reading_fits : (timed : Bool) (bytes : List ℕ) (x : ℕ × List ℕ) → reading_at timed bytes ≡ Some x → bare_size timed ≤ suc (length bytes)
unfolding reading_at
reading_fits true bytes x e = (let parts = number_parts w64 bytes x e in omega (arith, parts.0))
reading_fits false bytes x e = omega arith

pub reading_takes : (timed : Bool) (bytes : List ℕ) (x : ℕ × List ℕ) → AreBytes bytes → reading_at timed bytes ≡ Some x → Takes bytes (bare_text timed x.0) x.1 × (x.0 < 2 ^ 64)
unfolding reading_at
reading_takes true bytes x fits e = field64.takes bytes x fits e
reading_takes false bytes x fits e =
    let same = some_is (0, bytes) x e in
    (record { parts = ap (λ (y : ℕ × List ℕ). y.1) same; rest_fits = subst (λ (y : ℕ × List ℕ). AreBytes y.1) same fits }, omega (arith, ap (λ (y : ℕ × List ℕ). y.0) same))

pub reading_again : (timed : Bool) (reading : ℕ) (rest : List ℕ) → reading < 2 ^ 64 → reading_at timed (bare_text timed (bare_reading timed reading) ++ rest) ≡ Some (bare_reading timed reading, rest)
unfolding reading_at
reading_again true reading rest below = field64.again reading rest below
reading_again false reading rest below = refl

pub bare_size_is : (timed : Bool) (reading : ℕ) → suc (length (bare_text timed reading)) ≡ bare_size timed
bare_size_is true reading = omega arith
bare_size_is false reading = omega arith

pub bare_some : (timed : Bool) → 1 ≤ bare_size timed
bare_some true = omega arith
bare_some false = omega arith

-- ---- what both tell

module _ (G : Grammar) where
  unfoldable pub parse_seen : (rest : List ℕ) → Sees G.longest rest → Parsed G.Record RecordFault
  parse_seen rest (NoReading e) = Awaits
  parse_seen rest (NoLength x e f) = Awaits
  parse_seen rest (TooMany x y e f many) = Bad TooLong
  parse_seen rest (NoBytes x y e f few short) = Awaits
  parse_seen rest (There x y e f few there) = Whole (G.carrying x.0 (take y.0 y.1)) (11 + y.0)

  pub parse_seen_is : (rest : List ℕ) (s : Sees G.longest rest) → parse_record G (1 ∷ rest) ≡ parse_seen rest s
  unfolding parse_record parse_seen
  parse_seen_is rest (NoReading e) = ap (parse_carrying G) e
  parse_seen_is rest (NoLength x e f) = ap (parse_carrying G) e ∙ ap (parse_length G x.0) f
  parse_seen_is rest (TooMany x y e f many) =
      ap (parse_carrying G) e ∙ ap (parse_length G x.0) f
      ∙ ap (λ (t : Bool). if t then Bad TooLong else if ltb (length y.1) y.0 then Awaits else Whole (G.carrying x.0 (take y.0 y.1)) (11 + y.0)) (lt-ltb _ _ many)
  parse_seen_is rest (NoBytes x y e f few short) =
      ap (parse_carrying G) e ∙ ap (parse_length G x.0) f
      ∙ ap (λ (t : Bool). if t then Bad TooLong else if ltb (length y.1) y.0 then Awaits else Whole (G.carrying x.0 (take y.0 y.1)) (11 + y.0)) (le-ltb _ _ few)
      ∙ ap (λ (t : Bool). if t then Awaits else Whole (G.carrying x.0 (take y.0 y.1)) (11 + y.0)) (lt-ltb _ _ short)
  parse_seen_is rest (There x y e f few there) =
      ap (parse_carrying G) e ∙ ap (parse_length G x.0) f
      ∙ ap (λ (t : Bool). if t then Bad TooLong else if ltb (length y.1) y.0 then Awaits else Whole (G.carrying x.0 (take y.0 y.1)) (11 + y.0)) (le-ltb _ _ few)
      ∙ ap (λ (t : Bool). if t then Awaits else Whole (G.carrying x.0 (take y.0 y.1)) (11 + y.0)) (le-ltb _ _ there)

  pub parse_bare_is : (rest : List ℕ) → parse_record G (2 ∷ rest) ≡ parse_bare G (reading_at G.timed rest)
  unfolding parse_record
  parse_bare_is rest = refl

  -- a record of kind 2 is never refused
  pub bare_bad : (o : Option (ℕ × List ℕ)) (fault : RecordFault) → parse_bare G o ≡ Bad fault → ⊥
  bare_bad None fault w = absurd cc
  bare_bad (Some x) fault w = absurd cc
