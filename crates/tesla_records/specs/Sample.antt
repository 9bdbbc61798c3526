-- A small grammar for the tests of this crate. It has a head of one byte, and records of up to 200 bytes, each behind their number.
use Rattle.std.specs.Prelude.{◌≡◌, ℕ, suc, ◌<◌, ◌≤◌, Bool, true, false, List, [], ◌∷◌, ◌++◌, length, take, nat_lt, ◌==◌, if◌then◌else◌}
use Rattle.std.proofs.Common.{refl, sym, ap, subst, ◌∙◌, arith}
use Rattle.std.proofs.lemmas.Bool.{eqb-true, eq-eqb, le-ltb, ltb-true, ltb-false}
use Rattle.std.proofs.lemmas.List.{length-append, length-take-le, take-append-le, take_at}
use Rattle.tesla_base.specs.Prefix.{AreBytes}
use Rattle.tesla_base.proofs.Prefixes.{AreBytes-take}
use Rattle.tesla_records.specs.Grammar.{Parsed, Awaits, Whole, Bad, Grammar, ParsedHead, AwaitsHead, HeadIs, NoHead, IsGrammar}

abbrev pub head_by : Bool → ParsedHead (Unit {0})
head_by same = if same then HeadIs tt else NoHead

-- the head is this byte
abbrev pub sample_head : ℕ → List ℕ → ParsedHead (Unit {0})
sample_head wanted [] = AwaitsHead
sample_head wanted (byte ∷ rest) = head_by (byte == wanted)

-- so many bytes, where there are as many
abbrev pub counted : ℕ → List ℕ → Bool → Parsed (List ℕ) ℕ
counted n rest short = if short then Awaits else Whole (take n rest) (suc n)

-- more than 200 bytes are refused, with their number
abbrev pub limited : ℕ → List ℕ → Bool → Parsed (List ℕ) ℕ
limited n rest many = if many then Bad n else counted n rest (nat_lt (length rest) n)

abbrev pub parse_sample : List ℕ → Parsed (List ℕ) ℕ
parse_sample [] = Awaits
parse_sample (n ∷ rest) = limited n rest (nat_lt 200 n)

abbrev pub sample : ℕ → Grammar
sample wanted = record {
  Head = Unit {0};
  head_text = λ head. wanted ∷ [];
  IsHead = λ head. Unit {0};
  head_size = 1;
  parse_head = sample_head wanted;
  Record = List ℕ;
  record_text = λ bytes. length bytes ∷ bytes;
  IsRecord = λ bytes. (length bytes ≤ 200) × AreBytes bytes;
  longest = 201;
  Kind = ℕ;
  parse = parse_sample;
}

test_is : (t : Bool) (told : Unit {0}) → head_by t ≡ HeadIs told → t ≡ true
test_is true told e = refl
test_is false told e = absurd cc

awaited : (t : Bool) (k : ℕ) → head_by t ≡ AwaitsHead → k < 1
awaited true k e = absurd cc
awaited false k e = absurd cc

head_awaits : (wanted : ℕ) (bytes : List ℕ) → sample_head wanted bytes ≡ AwaitsHead → length bytes < 1
head_awaits wanted [] e = omega arith
head_awaits wanted (b ∷ bytes) e = awaited (b == wanted) (suc (length bytes)) e

head_is : (wanted : ℕ) (bytes more : List ℕ) (told : Unit {0}) → sample_head wanted bytes ≡ HeadIs told → (sample_head wanted (bytes ++ more) ≡ HeadIs told) × (AreBytes bytes → take 1 bytes ≡ wanted ∷ []) × (1 ≤ length bytes)
head_is wanted [] more told e = absurd cc
head_is wanted (b ∷ bytes) more told e = (e, (λ are. ap (λ (k : ℕ). k ∷ []) (eqb-true b wanted (test_is (b == wanted) told e))), omega arith)

head_none : (wanted : ℕ) (bytes more : List ℕ) → sample_head wanted bytes ≡ NoHead → sample_head wanted (bytes ++ more) ≡ NoHead
head_none wanted [] more e = absurd cc
head_none wanted (b ∷ bytes) more e = e

-- what is told of a record, and the tests
record IsParsed (n : ℕ) (rest : List ℕ) (it : List ℕ) (size : ℕ) : Type 0 where
  few : n ≤ 200
  there : n ≤ length rest
  is : take n rest ≡ it
  sized : suc n ≡ size

parsed_there : (n : ℕ) (rest it : List ℕ) (size : ℕ) (short : Bool) → nat_lt (length rest) n ≡ short → n ≤ 200 → counted n rest short ≡ Whole it size → IsParsed n rest it size
parsed_there n rest it size true t few e = absurd cc
parsed_there n rest it size false t few e = record { few = few; there = ltb-false _ _ t; is = cc; sized = cc }

parsed_by : (n : ℕ) (rest it : List ℕ) (size : ℕ) (many : Bool) → nat_lt 200 n ≡ many → limited n rest many ≡ Whole it size → IsParsed n rest it size
parsed_by n rest it size true t e = absurd cc
parsed_by n rest it size false t e = parsed_there n rest it size (nat_lt (length rest) n) refl (ltb-false _ _ t) e

pub parsed_again : (n : ℕ) (rest : List ℕ) → n ≤ 200 → n ≤ length rest → parse_sample (n ∷ rest) ≡ Whole (take n rest) (suc n)
parsed_again n rest few there =
    ap (limited n rest) (le-ltb _ _ few) ∙ ap (counted n rest) (le-ltb _ _ there)

whole : (bytes more it : List ℕ) (size : ℕ) → parse_sample bytes ≡ Whole it size → (parse_sample (bytes ++ more) ≡ Whole it size) × (AreBytes bytes → take size bytes ≡ length it ∷ it) × (size ≤ length bytes) × (1 ≤ size)
whole [] more it size e = absurd cc
whole (n ∷ rest) more it size e =
    let t = parsed_by n rest it size (nat_lt 200 n) refl e in
    let there = t.there in
    let few = t.few in
    let sized = t.sized in (
      parsed_again n (rest ++ more) few (omega (arith, there, length-append rest more)) ∙ ap (λ (b : List ℕ). Whole b (suc n)) (take-append-le n rest more there ∙ t.is) ∙ ap (λ (k : ℕ). Whole it k) sized,
      (λ are. ap (λ (k : ℕ). take k (n ∷ rest)) (sym sized) ∙ ap (λ (k : ℕ). k ∷ take n rest) (sym (length-take-le n rest there)) ∙ ap (λ (b : List ℕ). length b ∷ b) t.is),
      omega (arith, there, sized),
      omega (arith, sized),
    )

limits : (bytes it : List ℕ) (size : ℕ) → AreBytes bytes → parse_sample bytes ≡ Whole it size → (length it ≤ 200) × AreBytes it
limits [] it size are e = absurd cc
limits (n ∷ rest) it size are e =
    let t = parsed_by n rest it size (nat_lt 200 n) refl e in
    let there = t.there in
    let few = t.few in
    (omega (arith, few, ap length t.is, length-take-le n rest there), subst (λ (b : List ℕ). AreBytes b) t.is (AreBytes-take n rest are.1))

awaits_there : (n : ℕ) (rest : List ℕ) (short : Bool) → nat_lt (length rest) n ≡ short → n ≤ 200 → counted n rest short ≡ Awaits → suc (length rest) < 201
awaits_there n rest true t few e = omega (arith, few, ltb-true _ _ t)
awaits_there n rest false t few e = absurd cc

awaits_by : (n : ℕ) (rest : List ℕ) (many : Bool) → nat_lt 200 n ≡ many → limited n rest many ≡ Awaits → suc (length rest) < 201
awaits_by n rest true t e = absurd cc
awaits_by n rest false t e = awaits_there n rest (nat_lt (length rest) n) refl (ltb-false _ _ t) e

awaits : (bytes : List ℕ) → parse_sample bytes ≡ Awaits → length bytes < 201
awaits [] e = omega arith
awaits (n ∷ rest) e = awaits_by n rest (nat_lt 200 n) refl e

bad_there : (n kind : ℕ) (rest : List ℕ) (short : Bool) → counted n rest short ≡ Bad kind → ⊥
bad_there n kind rest true e = absurd cc
bad_there n kind rest false e = absurd cc

bad_by : (n kind : ℕ) (rest more : List ℕ) (many : Bool) → nat_lt 200 n ≡ many → limited n rest many ≡ Bad kind
    → limited n (rest ++ more) many ≡ Bad kind
bad_by n kind rest more true t e = e
bad_by n kind rest more false t e = absurd (bad_there n kind rest (nat_lt (length rest) n) e)

bad : (bytes more : List ℕ) (kind : ℕ) → parse_sample bytes ≡ Bad kind → parse_sample (bytes ++ more) ≡ Bad kind
bad [] more kind e = absurd cc
bad (n ∷ rest) more kind e = bad_by n kind rest more (nat_lt 200 n) refl e

pub sample_is : (wanted : ℕ) → IsGrammar (sample wanted)
sample_is wanted = record {
  head_some = omega arith;
  head_few = omega arith;
  head_awaits = head_awaits wanted;
  head_is = head_is wanted;
  head_limits = λ bytes head are e. tt;
  head_none = head_none wanted;
  head_read = λ head more fits. (ap head_by (eq-eqb wanted wanted refl), refl);
  few = omega arith;
  none = refl;
  awaits = awaits;
  whole = whole;
  limits = limits;
  bad = bad;
  read = λ it more fits. (parsed_again (length it) (it ++ more) fits.0 (omega (arith, length-append it more)) ∙ ap (λ (b : List ℕ). Whole b (suc (length it))) (take_at it more (length it) refl));
}
