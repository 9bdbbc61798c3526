-- What a reader has pending, and then what its source has left, stays so over a read, but for a byte behind the limit.
use Rattle.std.proofs.Common.{◌≡◌, ◌∙◌, ℕ, ◌+◌, ◌<◌, Bool, true, false, cond, eqb, List, [], ◌++◌, length, take, drop, Option, Some, sym, ap, arith, length-append}
use Rattle.std.proofs.lemmas.List.{drop_at, length-take-le, nil_from_length}
use Rattle.tesla_desk.specs.declared.source.ReadStep.TheVariants.{Got}
use Rattle.tesla_desk.specs.Outside.{after_bytes, Brings, Ends}
use Rattle.tesla_desk.proofs.Told.{after_bytes_twice, after_bytes_some, ended_rest}
use Rattle.tesla_records.specs.Grammar.{Awaits, Grammar, IsGrammar, limit}
use Rattle.tesla_records.specs.Records.{record_next}
use Rattle.tesla_records.specs.declared.refusal.Refusal.TheVariants.{Truncated, TooLarge}
use Rattle.tesla_records.specs.declared.found.Found.TheVariants.{Refused, End}
use Rattle.tesla_records.specs.Found.{Finds, ReadsOn}
use Rattle.tesla_records.proofs.NextRecord.{none_ends, awaits_cut, awaits_past}
use Rattle.std.proofs.lemmas.Bool.Decides.{nat_tests}

-- one read that gave bytes
pub got_reads : (before now into : List ℕ) (n : ℕ) (left after : Option (List ℕ)) → now ≡ before ++ take n into → Brings n left after into → ReadsOn (Got n) before left now after
got_reads before now into n left after is brings =
    let size : length (take n into) ≡ n = length-take-le n into brings.fits in (
      omega (arith, ap length is, length-append before (take n into), size, brings.some),
      ap (λ (bytes : List ℕ). after_bytes bytes after) is ∙ sym (after_bytes_twice after before (take n into)) ∙ ap (after_bytes before) (sym brings.left),
    )

-- where nothing was read, what is pending and left stays the same
ended_same : (bytes now : List ℕ) (left after : Option (List ℕ)) (rest : List ℕ) → now ≡ bytes → Ends left after → after_bytes bytes left ≡ Some rest → after_bytes now after ≡ Some rest
ended_same bytes now left after rest same ends e = ap (λ (b : List ℕ). after_bytes b after) same ∙ ap (after_bytes bytes) ends.left ∙ e

-- the file ends after a record
pub end_finds : (G : Grammar) {K : Type 0} (kind_of : K → G.Kind) (offset : ℕ) (bytes now : List ℕ) (left after : Option (List ℕ)) (rest : List ℕ) → length bytes ≡ 0 → now ≡ bytes → Ends left after → after_bytes bytes left ≡ Some rest → Finds G kind_of End offset now rest after
end_finds G kind_of offset bytes now left after rest empty same ends e =
    let none : rest ≡ [] = ended_rest bytes left after rest ends e ∙ nil_from_length bytes empty in
    (ap (record_next G offset) none ∙ none_ends G offset, ended_same bytes now left after rest same ends e ∙ ap (λ (r : List ℕ). Some r) none)

module _ (G : Grammar) (is : IsGrammar G) {K : Type 0} (kind_of : K → G.Kind) where
  -- the file ends within a record
  pub cut_finds : (offset : ℕ) (bytes now : List ℕ) (left after : Option (List ℕ)) (rest : List ℕ) → G.parse bytes ≡ Awaits → 0 < length bytes → offset + length bytes < limit → now ≡ bytes → Ends left after → after_bytes bytes left ≡ Some rest → Finds G kind_of (Refused Truncated) offset now rest after
  cut_finds offset bytes now left after rest awaits some below same ends e =
      (ap (record_next G offset) (ended_rest bytes left after rest ends e) ∙ awaits_cut G is offset bytes awaits some below, ended_same bytes now left after rest same ends e)

  -- a record goes past the limit
  pub past_finds : (offset : ℕ) (bytes : List ℕ) (left : Option (List ℕ)) (rest : List ℕ) → G.parse bytes ≡ Awaits → offset + length bytes ≡ limit → 0 < length bytes → after_bytes bytes left ≡ Some rest → Finds G kind_of (Refused TooLarge) offset bytes rest left
  past_finds offset bytes left rest awaits full some e =
      let told = after_bytes_some bytes left rest e in
      let before : eqb offset limit ≡ false = grind (arith, nat_tests) in
      (ap (record_next G offset) told.2 ∙ awaits_past G is offset bytes told.0 awaits full (omega (arith, some, length-append bytes told.0)), e ∙ ap (λ (b : Bool). Some (drop (cond b 1 0) rest)) (sym before))

  -- a byte stands behind the limit, and is dropped
  pub more_finds : (offset n : ℕ) (bytes into : List ℕ) (left after : Option (List ℕ)) (rest : List ℕ) → G.parse bytes ≡ Awaits → offset + length bytes ≡ limit → length bytes ≡ 0 → length into ≡ 1 → Brings n left after into → after_bytes bytes left ≡ Some rest → Finds G kind_of (Refused TooLarge) offset bytes rest after
  more_finds offset n bytes into left after rest awaits full empty one brings e =
      let told = after_bytes_some bytes left rest e in
      let behind = after_bytes_some (take n into) after told.0 (sym brings.left ∙ told.1) in
      let size : length (take n into) ≡ n = length-take-le n into brings.fits in
      let single : length (take n into) ≡ 1 = omega (arith, brings.some, brings.fits) in
      let none : bytes ≡ [] = nil_from_length bytes empty in
      let at : eqb offset limit ≡ true = grind (arith, nat_tests) in
      let rest_is : rest ≡ take n into ++ behind.0 = told.2 ∙ ap (λ (b : List ℕ). b ++ told.0) none ∙ behind.2 in
      let dropped : drop 1 rest ≡ behind.0 = ap (drop 1) rest_is ∙ drop_at (take n into) behind.0 1 single in (
        ap (record_next G offset) told.2 ∙ awaits_past G is offset bytes told.0 awaits full (omega (arith, ap length behind.2, length-append (take n into) behind.0, length-append bytes told.0, size, brings.some)),
        ap (λ (b : List ℕ). after_bytes b after) none ∙ ap (after_bytes []) behind.1 ∙ ap (λ (r : List ℕ). Some r) (sym dropped) ∙ ap (λ (b : Bool). Some (drop (cond b 1 0) rest)) (sym at),
      )
