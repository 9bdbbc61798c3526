-- Why no whole record is next: what the bytes tell, and the causes of a refusal.
use Rattle.std.proofs.Common.{◌≡◌, ◌≢◌, ◌⊎◌, ◌∙◌, ℕ, zero, suc, ◌+◌, ◌-◌, ◌<◌, ◌≤◌, true, false, ltb, List, [], ◌∷◌, ◌++◌, length, take, drop, Option, Some, None, refl, sym, ap, subst, arith, append_assoc, inl, inr}
use Rattle.std.specs.Int.{w16, w64, from_be_bytes, to_be_bytes}
use Rattle.std.proofs.lemmas.Bool.{le-ltb}
use Rattle.std.proofs.lemmas.List.{drop_at, length-append, length-drop, length-take, take-append-drop, take_at}
use Rattle.tesla_base.specs.Prefix.{AreBytes, parse_number}
use Rattle.tesla_base.proofs.Prefixes.{AreBytes-take, field16, field64, number_none, number_parts}
use Rattle.tesla_base.proofs.Lists.{take-append-ge}
use Rattle.tesla_records.specs.Grammar.{Awaits, Bad}
use Rattle.tesla_records.specs.Refused as files
use Rattle.tesla_records.specs.declared.refusal.Refusal.{Refusal}
use Rattle.tesla_records.specs.declared.refusal.Refusal.TheVariants as refusals
use Rattle.tesla_capture.specs.Parsing.{parse_bare, bare_size, file_of, reading_at, parse_record}
use Rattle.tesla_capture.specs.Grammar.{Grammar, limit}
use Rattle.tesla_capture.specs.Records.{kind_of, refusal_of}
use Rattle.tesla_capture.specs.Refused.{IsCut, IsCutCarrying, IsWhy, TellsLength}
use Rattle.tesla_capture.specs.declared.record.RecordFault.{RecordFault}
use Rattle.tesla_capture.specs.declared.record.RecordFault.TheVariants as faults
use Rattle.tesla_capture.specs.declared.record.RecordKind.{RecordKind}
use Rattle.tesla_capture.specs.declared.record.RecordKind.TheVariants.{BadHead, BadKind, Truncated, TooLong, TooLarge}
use Rattle.tesla_capture.specs.FileOf.{behind_length}
use Rattle.tesla_capture.specs.RecordParsed.{Sees, NoReading, NoLength, TooMany, NoBytes, There, sees, parse_seen, parse_seen_is, bare_bad, parse_bare_is, reading_fits, reading_none}

-- ---- lengths that are told

-- a length that was read is told
tells_length : (rest : List ℕ) (x y : ℕ × List ℕ) → AreBytes rest → parse_number w64 rest ≡ Some x → parse_number w16 x.1 ≡ Some y → TellsLength (1 ∷ rest) y.0
tells_length rest x y fits e f =
    let a = to_be_bytes w64 x.0 in
    let b = to_be_bytes w16 y.0 in
    let s = field64.takes rest x fits e in
    let t = field16.takes x.1 y s.0.rest_fits f in
    record {
      reading = a;
      more = y.1;
      eight = refl;
      fits = t.1;
      spelled = ap (λ (r : List ℕ). 1 ∷ r) (s.0.parts ∙ ap (λ (r : List ℕ). a ++ r) t.0.parts) ∙ sym (append_assoc (1 ∷ a) b y.1);
    }

-- so it is where more bytes follow
tells_more : (bytes more : List ℕ) (n : ℕ) → TellsLength bytes n → TellsLength (bytes ++ more) n
tells_more bytes more n tells = record {
  reading = tells.reading;
  more = tells.more ++ more;
  eight = tells.eight;
  fits = tells.fits;
  spelled = ap (λ (b : List ℕ). b ++ more) tells.spelled ∙ append_assoc ((1 ∷ tells.reading) ++ to_be_bytes w16 n) tells.more more;
}

tells_eleven : (bytes : List ℕ) (n : ℕ) → TellsLength bytes n → 11 ≤ length bytes
tells_eleven bytes n tells =
    let eight = tells.eight in
    omega (arith, eight, ap length tells.spelled, length-append ((1 ∷ tells.reading) ++ to_be_bytes w16 n) tells.more, length-append (1 ∷ tells.reading) (to_be_bytes w16 n))

-- and where fewer do
tells_part : (most : ℕ) (bytes : List ℕ) (n : ℕ) → 11 ≤ most → TellsLength bytes n → TellsLength (take most bytes) n
tells_part most bytes n eleven tells =
    let prefix = (1 ∷ tells.reading) ++ to_be_bytes w16 n in
    let eight = tells.eight in
    record {
      reading = tells.reading;
      more = take (most - length prefix) tells.more;
      eight = eight;
      fits = tells.fits;
      spelled = ap (take most) tells.spelled ∙ take-append-ge most prefix tells.more (omega (arith, eight, eleven, length-append (1 ∷ tells.reading) (to_be_bytes w16 n)));
    }

-- eight bytes are read as a reading
reading_is : (reading rest : List ℕ) → length reading ≡ 8 → parse_number w64 (reading ++ rest) ≡ Some (from_be_bytes w64 reading, rest)
reading_is reading rest eight =
    let long : ltb (length (reading ++ rest)) 8 ≡ false = le-ltb _ _ (omega (arith, eight, length-append reading rest)) in
    rw (long, take_at reading rest 8 eight, drop_at reading rest 8 eight) refl

module _ (G : Grammar) where
  -- ---- a length that is told of a record of kind 1

  -- what is seen behind the kind
  record IsParsed (bytes : List ℕ) (n : ℕ) : Type 0 where
    rest : List ℕ
    is : bytes ≡ 1 ∷ rest
    x : ℕ × List ℕ
    y : ℕ × List ℕ
    reading : parse_number w64 rest ≡ Some x
    number : parse_number w16 x.1 ≡ Some y
    same : y.0 ≡ n

  length_parsed : (bytes : List ℕ) (n : ℕ) → TellsLength bytes n → IsParsed bytes n
  length_parsed bytes n tells =
      let behind = to_be_bytes w16 n ++ tells.more in
      record {
        rest = tells.reading ++ behind;
        is = tells.spelled ∙ append_assoc (1 ∷ tells.reading) (to_be_bytes w16 n) tells.more;
        x = (from_be_bytes w64 tells.reading, behind);
        y = (n, tells.more);
        reading = reading_is tells.reading behind tells.eight;
        number = field16.again n tells.more tells.fits;
        same = refl;
      }

  long_refused : (bytes : List ℕ) (n : ℕ) → TellsLength bytes n → G.longest < n → parse_record G bytes ≡ Bad faults.TooLong
  unfolding parse_seen
  long_refused bytes n tells many =
      let t = length_parsed bytes n tells in
      let same = t.same in
      ap (parse_record G) t.is ∙ parse_seen_is G t.rest (TooMany t.x t.y t.reading t.number (omega (arith, same, many)))

  short_awaits : (bytes : List ℕ) (n : ℕ) → TellsLength bytes n → n ≤ G.longest → length bytes < 11 + n → parse_record G bytes ≡ Awaits
  unfolding parse_seen
  short_awaits bytes n tells few short =
      let t = length_parsed bytes n tells in
      let same = t.same in
      let behind = behind_length t.rest t.x t.y t.reading t.number in
      ap (parse_record G) t.is ∙ parse_seen_is G t.rest (NoBytes t.x t.y t.reading t.number (omega (arith, same, few)) (omega (arith, same, short, behind, ap length t.is)))

  -- ---- a part of a record

  carrying_cut : (rest : List ℕ) (s : Sees G.longest rest) → AreBytes rest → parse_seen G rest s ≡ Awaits → IsCutCarrying G.longest (1 ∷ rest)
  unfolding parse_seen
  carrying_cut rest (NoReading e) fits w = record { more = rest; begins = refl; short = inl (omega (arith, number_none w64 rest e)) }
  carrying_cut rest (NoLength x e f) fits w =
      let a = number_parts w64 rest x e in
      record { more = rest; begins = refl; short = inl (omega (arith, number_none w16 x.1 f, a.0, ap length a.2, length-drop 8 rest)) }
  carrying_cut rest (TooMany x y e f many) fits w = absurd cc
  carrying_cut rest (NoBytes x y e f few short) fits w =
      record { more = rest; begins = refl; short = inr (y.0, tells_length rest x y fits e f, few, omega (arith, short, behind_length rest x y e f)) }
  carrying_cut rest (There x y e f few there) fits w = absurd cc

  bare_cut : (rest : List ℕ) (o : Option (ℕ × List ℕ)) → reading_at G.timed rest ≡ o → parse_bare G o ≡ Awaits → IsCut G (2 ∷ rest)
  bare_cut rest None e w =
      let short = reading_none G.timed rest e in
      inr (record { more = rest; begins = refl; timed = short.0; short = (let few = short.1 in omega (arith, few)) })
  bare_cut rest (Some x) e w = absurd cc

  is_cut : (bytes : List ℕ) → AreBytes bytes → 0 < length bytes → parse_record G bytes ≡ Awaits → IsCut G bytes
  unfolding parse_record
  is_cut [] fits some w = absurd (omega (arith, some))
  is_cut (zero ∷ rest) fits some w = absurd cc
  is_cut (suc zero ∷ rest) fits some w = inl (carrying_cut rest (sees G.longest rest) fits.1 (sym (parse_seen_is G rest (sees G.longest rest)) ∙ w))
  is_cut (suc (suc zero) ∷ rest) fits some w = bare_cut rest (reading_at G.timed rest) refl w
  is_cut (suc (suc (suc b)) ∷ rest) fits some w = absurd cc

  few_awaits : (rest : List ℕ) (s : Sees G.longest rest) → length rest < 10 → parse_seen G rest s ≡ Awaits
  unfolding parse_seen
  few_awaits rest (NoReading e) few = refl
  few_awaits rest (NoLength x e f) few = refl
  few_awaits rest (TooMany x y e f many) few = absurd (omega (arith, few, behind_length rest x y e f))
  few_awaits rest (NoBytes x y e f less short) few = refl
  few_awaits rest (There x y e f less there) few = absurd (omega (arith, few, behind_length rest x y e f))

  carrying_awaits : (bytes more : List ℕ) → bytes ≡ 1 ∷ more → (length bytes < 11) ⊎ ((n : ℕ) × TellsLength bytes n × (n ≤ G.longest) × (length bytes < 11 + n)) → parse_record G bytes ≡ Awaits
  carrying_awaits bytes more is (inl few) = ap (parse_record G) is ∙ parse_seen_is G more (sees G.longest more) ∙ few_awaits more (sees G.longest more) (omega (arith, few, ap length is))
  carrying_awaits bytes more is (inr (n, tells, few, short)) = short_awaits bytes n tells few short

  bare_awaits : (rest : List ℕ) (o : Option (ℕ × List ℕ)) → G.timed ≡ true → length rest < 8 → reading_at G.timed rest ≡ o → parse_bare G o ≡ Awaits
  bare_awaits rest None timed few e = refl
  bare_awaits rest (Some x) timed few e = absurd (omega (arith, few, ap bare_size timed, reading_fits G.timed rest x e))

  cut_awaits : (bytes : List ℕ) → IsCut G bytes → parse_record G bytes ≡ Awaits
  cut_awaits bytes (inl cut) = carrying_awaits bytes cut.more cut.begins cut.short
  cut_awaits bytes (inr cut) =
      let short = cut.short in
      ap (parse_record G) cut.begins ∙ parse_bare_is G cut.more ∙ bare_awaits cut.more (reading_at G.timed cut.more) cut.timed (omega (arith, short, ap length cut.begins)) refl

  cut_some : (bytes : List ℕ) → IsCut G bytes → 0 < length bytes
  cut_some bytes (inl cut) = omega (arith, ap length cut.begins)
  cut_some bytes (inr cut) = omega (arith, ap length cut.begins)

  -- ---- records of no kind, and lengths above the limit

  carrying_kind : (rest : List ℕ) (s : Sees G.longest rest) → parse_seen G rest s ≡ Bad faults.BadKind → ⊥
  unfolding parse_seen
  carrying_kind rest (NoReading e) w = absurd cc
  carrying_kind rest (NoLength x e f) w = absurd cc
  carrying_kind rest (TooMany x y e f many) w = absurd cc
  carrying_kind rest (NoBytes x y e f few short) w = absurd cc
  carrying_kind rest (There x y e f few there) w = absurd cc

  no_kind : (bytes : List ℕ) → parse_record G bytes ≡ Bad faults.BadKind → (b : ℕ) × (more : List ℕ) × (bytes ≡ b ∷ more) × (b ≢ 1) × (b ≢ 2)
  unfolding parse_record
  no_kind [] w = absurd cc
  no_kind (zero ∷ rest) w = (0, rest, refl, (λ h. absurd (omega (arith, h))), (λ h. absurd (omega (arith, h))))
  no_kind (suc zero ∷ rest) w = absurd (carrying_kind rest (sees G.longest rest) (sym (parse_seen_is G rest (sees G.longest rest)) ∙ w))
  no_kind (suc (suc zero) ∷ rest) w = absurd (bare_bad G (reading_at G.timed rest) faults.BadKind w)
  no_kind (suc (suc (suc b)) ∷ rest) w = (suc (suc (suc b)), rest, refl, (λ h. absurd (omega (arith, h))), (λ h. absurd (omega (arith, h))))

  kind_refused : (b : ℕ) (rest : List ℕ) → b ≢ 1 → b ≢ 2 → parse_record G (b ∷ rest) ≡ Bad faults.BadKind
  unfolding parse_record
  kind_refused zero rest one two = refl
  kind_refused (suc zero) rest one two = absurd (one refl)
  kind_refused (suc (suc zero)) rest one two = absurd (two refl)
  kind_refused (suc (suc (suc b))) rest one two = refl

  carrying_long : (rest : List ℕ) (s : Sees G.longest rest) → AreBytes rest → parse_seen G rest s ≡ Bad faults.TooLong → (n : ℕ) × TellsLength (1 ∷ rest) n × (G.longest < n)
  unfolding parse_seen
  carrying_long rest (NoReading e) fits w = absurd cc
  carrying_long rest (NoLength x e f) fits w = absurd cc
  carrying_long rest (TooMany x y e f many) fits w = (y.0, tells_length rest x y fits e f, many)
  carrying_long rest (NoBytes x y e f few short) fits w = absurd cc
  carrying_long rest (There x y e f few there) fits w = absurd cc

  too_long : (bytes : List ℕ) → AreBytes bytes → parse_record G bytes ≡ Bad faults.TooLong → (n : ℕ) × TellsLength bytes n × (G.longest < n)
  unfolding parse_record
  too_long [] fits w = absurd cc
  too_long (zero ∷ rest) fits w = absurd cc
  too_long (suc zero ∷ rest) fits w = carrying_long rest (sees G.longest rest) fits.1 (sym (parse_seen_is G rest (sees G.longest rest)) ∙ w)
  too_long (suc (suc zero) ∷ rest) fits w = absurd (bare_bad G (reading_at G.timed rest) faults.TooLong w)
  too_long (suc (suc (suc b)) ∷ rest) fits w = absurd cc

  -- ---- the causes

  large_why : (offset : ℕ) (rest part : List ℕ) → part ≡ take (limit - offset) rest → offset ≤ limit → 0 < length rest → AreBytes part → parse_record G part ≡ Awaits → (offset ≡ limit) ⊎ IsCut G part
  large_why offset rest [] is close some fits w = inl (omega (arith, close, some, ap length is, length-take (limit - offset) rest))
  large_why offset rest (b ∷ part) is close some fits w = inr (is_cut (b ∷ part) fits (omega arith) w)

  pub why_of : (refusal : Refusal RecordFault) (offset : ℕ) (rest : List ℕ) → offset ≤ limit → AreBytes rest → files.IsWhy (file_of G) refusal offset rest → IsWhy G (kind_of refusal) offset rest
  why_of refusals.BadHead offset rest close fits why = absurd why
  why_of refusals.Truncated offset rest close fits (below, some, awaits) = (below, is_cut rest fits some awaits)
  why_of refusals.TooLarge offset rest close fits (over, some, awaits) =
      (over, some, large_why offset rest (take (limit - offset) rest) refl close some (AreBytes-take (limit - offset) rest fits) awaits)
  why_of (refusals.BadRecord faults.BadKind) offset rest close fits bad =
      let more = drop (limit - offset) rest in
      let (b, part, is, one, two) = no_kind (take (limit - offset) rest) bad in (
        b,
        part ++ more,
        sym (take-append-drop (limit - offset) rest) ∙ ap (λ (p : List ℕ). p ++ more) is,
        one,
        two,
        omega (arith, ap length is, length-take (limit - offset) rest),
      )
  why_of (refusals.BadRecord faults.TooLong) offset rest close fits bad =
      let part = take (limit - offset) rest in
      let (n, tells, many) = too_long part (AreBytes-take (limit - offset) rest fits) bad in (
        n,
        subst (λ (r : List ℕ). TellsLength r n) (take-append-drop (limit - offset) rest) (tells_more part (drop (limit - offset) rest) n tells),
        many,
        omega (arith, tells_eleven part n tells, length-take (limit - offset) rest),
      )

  nothing_awaits : parse_record G [] ≡ Awaits
  unfolding parse_record
  nothing_awaits = refl

  large_from : (offset : ℕ) (rest : List ℕ) → limit ≤ offset + length rest → 0 < length rest → (offset ≡ limit) ⊎ IsCut G (take (limit - offset) rest) → (offset ≤ limit) × (parse_record G (take (limit - offset) rest) ≡ Awaits)
  large_from offset rest over some (inl at) =
      let none : limit - offset ≡ 0 = omega (arith, at) in
      (omega (arith, at), ap (λ (k : ℕ). parse_record G (take k rest)) none ∙ nothing_awaits)
  large_from offset rest over some (inr cut) =
      (omega (arith, cut_some (take (limit - offset) rest) cut, length-take (limit - offset) rest), cut_awaits (take (limit - offset) rest) cut)

  -- a place that has a cause is within the limit
  pub why_from : (kind : RecordKind) (offset : ℕ) (rest : List ℕ) → IsWhy G kind offset rest → (offset ≤ limit) × files.IsWhy (file_of G) (refusal_of kind) offset rest
  why_from BadHead offset rest why = absurd why
  why_from BadKind offset rest (b, more, is, one, two, below) =
      let first : take (limit - offset) rest ≡ b ∷ take (limit - offset - 1) more = ap (take (limit - offset)) is ∙ take-append-ge (limit - offset) (b ∷ []) more (omega (arith, below)) in
      (omega (arith, below), ap (parse_record G) first ∙ kind_refused b (take (limit - offset - 1) more) one two)
  why_from Truncated offset rest (below, cut) = (omega (arith, below), (below, cut_some rest cut, cut_awaits rest cut))
  why_from TooLong offset rest (n, tells, many, within) =
      (omega (arith, within), long_refused (take (limit - offset) rest) n (tells_part (limit - offset) rest n (omega (arith, within)) tells) many)
  why_from TooLarge offset rest (over, some, cut) = let l = large_from offset rest over some cut in (l.0, (over, some, l.1))
