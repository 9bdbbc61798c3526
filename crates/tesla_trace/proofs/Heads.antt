-- What is read of the head of a trace or of a tail is its one spelling, and what was told of some bytes stays so.
use Rattle.std.proofs.Common.{◌≡◌, ℕ, suc, ◌<◌, ◌≤◌, ◌^◌, Bool, true, false, eqb, leb, ◌&&◌, List, [], ◌∷◌, ◌++◌, length, take, Option, Some, None, refl, ap, ◌∙◌, arith}
use Rattle.std.specs.Prelude.{if◌then◌else◌}
use Rattle.std.specs.Int.{w64, to_be_bytes}
use Rattle.std.proofs.lemmas.Bool.{eqb-true, eq-eqb, le-leb, leb-true, and_parts, and_from}
use Rattle.std.proofs.lemmas.List.{length-append, length-drop, take_at}
use Rattle.tesla_base.specs.Prefix.{AreBytes, parse_number}
use Rattle.tesla_base.proofs.Prefixes.{field64, number_more, number_none, number_parts}
use Rattle.tesla_records.specs.Grammar.{ParsedHead, AwaitsHead, HeadIs, NoHead}
use Rattle.tesla_trace.specs.Parsing.{byte_then, head_behind, parse_ingests, number_head, parse_first}

-- heads of so many bytes, which are read so
pub record AreHeads (text : ℕ → List ℕ) (Is : ℕ → Type 0) (size : ℕ) (parse : List ℕ → ParsedHead ℕ) : Type 0 where
  pub awaits : (bytes : List ℕ) → parse bytes ≡ AwaitsHead → length bytes < size
  pub is : (bytes more : List ℕ) (head : ℕ) → parse bytes ≡ HeadIs head → (parse (bytes ++ more) ≡ HeadIs head) × (AreBytes bytes → take size bytes ≡ text head) × (size ≤ length bytes)
  pub limits : (bytes : List ℕ) (head : ℕ) → AreBytes bytes → parse bytes ≡ HeadIs head → Is head
  pub none : (bytes more : List ℕ) → parse bytes ≡ NoHead → parse (bytes ++ more) ≡ NoHead
  pub read : (head : ℕ) (more : List ℕ) → Is head → (parse (text head ++ more) ≡ HeadIs head) × (length (text head) ≡ size)

test_is : (t : Bool) (o : ParsedHead ℕ) (n : ℕ) → (if t then o else NoHead) ≡ HeadIs n → (t ≡ true) × (o ≡ HeadIs n)
test_is true o n e = (refl, e)
test_is false o n e = absurd cc

test_awaits : (t : Bool) (o : ParsedHead ℕ) → (if t then o else NoHead) ≡ AwaitsHead → o ≡ AwaitsHead
test_awaits true o e = e
test_awaits false o e = absurd cc

test_none : (t : Bool) (o later : ParsedHead ℕ) → (o ≡ NoHead → later ≡ NoHead) → (if t then o else NoHead) ≡ NoHead → (if t then later else NoHead) ≡ NoHead
test_none true o later h e = h e
test_none false o later h e = refl

never_awaits : (n : ℕ) → HeadIs n ≡ AwaitsHead → ⊥
never_awaits n e = absurd cc

same_head : (m n : ℕ) → HeadIs m ≡ HeadIs n → m ≡ n
same_head m n e = cc

-- ---- one byte before heads

module _ (wanted : ℕ) (text : ℕ → List ℕ) (Is : ℕ → Type 0) (size : ℕ) (parse : List ℕ → ParsedHead ℕ) (heads : AreHeads text Is size parse) where
  then_awaits : (bytes : List ℕ) → byte_then wanted parse bytes ≡ AwaitsHead → length bytes < suc size
  then_awaits [] e = omega arith
  then_awaits (b ∷ bytes) e = let h = heads.awaits bytes (test_awaits (eqb b wanted) (parse bytes) e) in omega (arith, h)

  then_is : (bytes more : List ℕ) (head : ℕ) → byte_then wanted parse bytes ≡ HeadIs head → (byte_then wanted parse (bytes ++ more) ≡ HeadIs head) × (AreBytes bytes → take (suc size) bytes ≡ wanted ∷ text head) × (suc size ≤ length bytes)
  then_is [] more head e = absurd cc
  then_is (b ∷ bytes) more head e =
      let t = test_is (eqb b wanted) (parse bytes) head e in
      let h = heads.is bytes more head t.1 in
      let there = h.2 in
      (ap (λ (c : Bool). if c then parse (bytes ++ more) else NoHead) t.0 ∙ h.0, λ are. ap (λ (r : List ℕ). b ∷ r) (h.1 are.1) ∙ ap (λ (k : ℕ). k ∷ text head) (eqb-true b wanted t.0), omega (arith, there))

  then_limits : (bytes : List ℕ) (head : ℕ) → AreBytes bytes → byte_then wanted parse bytes ≡ HeadIs head → Is head
  then_limits [] head are e = absurd cc
  then_limits (b ∷ bytes) head are e = heads.limits bytes head are.1 (test_is (eqb b wanted) (parse bytes) head e).1

  then_none : (bytes more : List ℕ) → byte_then wanted parse bytes ≡ NoHead → byte_then wanted parse (bytes ++ more) ≡ NoHead
  then_none [] more e = absurd cc
  then_none (b ∷ bytes) more e = test_none (eqb b wanted) (parse bytes) (parse (bytes ++ more)) (λ h. heads.none bytes more h) e

  then_read : (head : ℕ) (more : List ℕ) → Is head → (byte_then wanted parse (wanted ∷ text head ++ more) ≡ HeadIs head) × (suc (length (text head)) ≡ suc size)
  then_read head more is =
      let r = heads.read head more is in
      (ap (λ (c : Bool). if c then parse (text head ++ more) else NoHead) (eq-eqb wanted wanted refl) ∙ r.0, ap suc r.1)

  byte_before : AreHeads (λ head. wanted ∷ text head) Is (suc size) (byte_then wanted parse)
  byte_before = record { awaits = then_awaits; is = then_is; limits = then_limits; none = then_none; read = then_read }

-- how many bytes a head has with these before it
abbrev pub size_behind : List ℕ → ℕ → ℕ
size_behind [] size = size
size_behind (wanted ∷ magic) size = suc (size_behind magic size)

-- these bytes before heads
pub magic_then : (magic : List ℕ) (text : ℕ → List ℕ) (Is : ℕ → Type 0) (size : ℕ) (parse : List ℕ → ParsedHead ℕ) → AreHeads text Is size parse → AreHeads (λ head. magic ++ text head) Is (size_behind magic size) (head_behind magic parse)
magic_then [] text Is size parse heads = heads
magic_then (wanted ∷ magic) text Is size parse heads =
    byte_before wanted (λ head. magic ++ text head) Is (size_behind magic size) (head_behind magic parse) (magic_then magic text Is size parse heads)

-- ---- numbers of ingests

ingests_is : (bytes more : List ℕ) (head : ℕ) → parse_ingests bytes ≡ HeadIs head → (parse_ingests (bytes ++ more) ≡ HeadIs head) × (AreBytes bytes → take 1 bytes ≡ head ∷ []) × (1 ≤ length bytes)
ingests_is [] more head e = absurd cc
ingests_is (m ∷ rest) more head e =
    let same = same_head m head (test_is (leb 1 m && leb m 32) (HeadIs m) head e).1 in
    (e, λ are. ap (λ (k : ℕ). k ∷ []) same, omega arith)

ingests_limits : (bytes : List ℕ) (head : ℕ) → parse_ingests bytes ≡ HeadIs head → (1 ≤ head) × (head ≤ 32)
ingests_limits [] head e = absurd cc
ingests_limits (m ∷ rest) head e =
    let t = test_is (leb 1 m && leb m 32) (HeadIs m) head e in
    let same = same_head m head t.1 in
    let both = and_parts (leb 1 m) (leb m 32) t.0 in
    (omega (arith, same, leb-true 1 m both.0), omega (arith, same, leb-true m 32 both.1))

ingests_awaits : (bytes : List ℕ) → parse_ingests bytes ≡ AwaitsHead → length bytes < 1
ingests_awaits [] e = omega arith
ingests_awaits (m ∷ rest) e = absurd (never_awaits m (test_awaits (leb 1 m && leb m 32) (HeadIs m) e))

ingests_none : (bytes more : List ℕ) → parse_ingests bytes ≡ NoHead → parse_ingests (bytes ++ more) ≡ NoHead
ingests_none [] more e = absurd cc
ingests_none (m ∷ rest) more e = e

pub ingests_are : AreHeads (λ ingests. ingests ∷ []) (λ ingests. (1 ≤ ingests) × (ingests ≤ 32)) 1 parse_ingests
ingests_are = record {
  awaits = ingests_awaits;
  is = ingests_is;
  limits = λ bytes head are e. ingests_limits bytes head e;
  none = ingests_none;
  read = λ head more is. (ap (λ (c : Bool). if c then HeadIs head else NoHead) (and_from (leb 1 head) (leb head 32) (le-leb 1 head is.0) (le-leb head 32 is.1)), refl);
}

-- ---- numbers of first entries

number_awaits : (o : Option (ℕ × List ℕ)) → number_head o ≡ AwaitsHead → o ≡ None
number_awaits None e = refl
number_awaits (Some x) e = absurd cc

number_is : (o : Option (ℕ × List ℕ)) (head : ℕ) → number_head o ≡ HeadIs head → (x : ℕ × List ℕ) × (o ≡ Some x) × (x.0 ≡ head)
number_is None head e = absurd cc
number_is (Some x) head e = (x, refl, cc)

number_known : (o : Option (ℕ × List ℕ)) → number_head o ≡ NoHead → ⊥
number_known None e = absurd cc
number_known (Some x) e = absurd cc

first_is : (bytes more : List ℕ) (head : ℕ) → parse_first bytes ≡ HeadIs head → (parse_first (bytes ++ more) ≡ HeadIs head) × (AreBytes bytes → take 8 bytes ≡ to_be_bytes w64 head) × (8 ≤ length bytes)
first_is bytes more head e =
    let n = number_is (parse_number w64 bytes) head e in
    let parts = number_parts w64 bytes n.0 n.1 in (
      ap number_head (number_more w64 bytes more n.0 n.1) ∙ ap HeadIs n.2,
      λ are. (let t = (field64.takes bytes n.0 are n.1).0 in ap (take 8) t.parts ∙ take_at (to_be_bytes w64 n.0.0) n.0.1 8 (omega (arith, ap length t.parts, ap length parts.2, parts.0, length-append (to_be_bytes w64 n.0.0) n.0.1, length-drop 8 bytes)) ∙ ap (to_be_bytes w64) n.2),
      omega (arith, parts.0),
    )

first_limits : (bytes : List ℕ) (head : ℕ) → AreBytes bytes → parse_first bytes ≡ HeadIs head → head < 2 ^ 64
first_limits bytes head are e =
    let n = number_is (parse_number w64 bytes) head e in
    let below = (field64.takes bytes n.0 are n.1).1 in
    let same = n.2 in
    omega (arith, below, same)

pub first_are : AreHeads (λ first. to_be_bytes w64 first) (λ first. first < 2 ^ 64) 8 parse_first
first_are = record {
  awaits = λ bytes e. number_none w64 bytes (number_awaits (parse_number w64 bytes) e);
  is = first_is;
  limits = first_limits;
  none = λ bytes more e. absurd (number_known (parse_number w64 bytes) e);
  read = λ head more is. (ap number_head (field64.again head more is), refl);
}
