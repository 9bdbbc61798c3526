-- A file without a head has one outline, and behind a head none is refused for it.
use Rattle.std.proofs.Common.{◌≡◌, ◌∙◌, ℕ, zero, suc, ◌+◌, ◌-◌, ◌≤◌, Bool, true, false, if◌then◌else◌, nat_lt, Option, Some, None, List, [], ◌∷◌, ◌++◌, length, take, drop, refl, ap}
use Rattle.tesla_records.specs.Grammar.{Grammar, IsGrammar, Parsed, Awaits, Whole, Bad, ParsedHead, AwaitsHead, HeadIs, NoHead, limit}
use Rattle.tesla_records.specs.Records.{Outline, Refuses, after_head, cut_by, head_at, parsed_head, next_at, next_by, outline_of, record_next, with_head}
use Rattle.tesla_records.specs.declared.refusal.Refusal.{Refusal}
use Rattle.tesla_records.specs.declared.refusal.Refusal.TheVariants.{BadHead, Truncated, TooLarge}
use Rattle.tesla_records.proofs.OutlineStep.{one_step}

module _ (G : Grammar) (is : IsGrammar G) where
  no_head : (bytes : List ℕ) (parsed : ParsedHead G.Head) → parsed_head parsed ≡ None → after_head G bytes parsed ≡ Refuses 0 BadHead
  no_head bytes AwaitsHead e = refl
  no_head bytes (HeadIs head) e = absurd cc
  no_head bytes NoHead e = refl

  next_headless : (bytes : List ℕ) → parsed_head (G.parse_head bytes) ≡ None → next_at G 0 bytes ≡ Refuses 0 BadHead
  unfolding next_at
  next_headless bytes e = no_head bytes (G.parse_head bytes) e

  head_here : (bytes : List ℕ) → head_at G 0 bytes ≡ parsed_head (G.parse_head bytes)
  unfolding head_at
  head_here bytes = refl

  -- the outline of a file without a head
  pub headless : (bytes : List ℕ) → parsed_head (G.parse_head bytes) ≡ None → outline_of G bytes ≡ record { head = None; records = []; fault = Some (0, BadHead) }
  headless bytes e =
      one_step G is 0 bytes (Refuses 0 BadHead) (next_headless bytes e)
      ∙ ap (λ (h : Option G.Head). let it : Outline G.Head G.Record G.Kind = with_head h (record { head = None; records = []; fault = Some (0, BadHead) }) in it) (head_here bytes ∙ e)

  cut_never : (test : Bool) (refusal : Refusal G.Kind) → refusal ≡ BadHead → (if test then Truncated else TooLarge) ≡ refusal → ⊥
  cut_never true refusal bad e = absurd cc
  cut_never false refusal bad e = absurd cc

  parsed_never : (offset : ℕ) (rest : List ℕ) (parsed : Parsed G.Record G.Kind) (at : ℕ) → next_by G offset rest parsed ≡ Refuses at BadHead → ⊥
  parsed_never offset rest Awaits at e = cut_never (nat_lt (offset + length rest) limit) BadHead refl (let same : cut_by offset rest ≡ BadHead = cc in same)
  parsed_never offset rest (Whole it size) at e = absurd cc
  parsed_never offset rest (Bad kind) at e = absurd cc

  record_never : (offset : ℕ) (rest : List ℕ) (at : ℕ) → record_next G offset rest ≡ Refuses at BadHead → ⊥
  unfolding record_next
  record_never offset [] at e = absurd cc
  record_never offset (b ∷ rest) at e = parsed_never offset (b ∷ rest) (G.parse (take (limit - offset) (b ∷ rest))) at e

  head_never : (bytes : List ℕ) (parsed : ParsedHead G.Head) (at : ℕ) → after_head G bytes parsed ≡ Refuses at BadHead → (at ≡ 0) × (parsed_head parsed ≡ None)
  head_never bytes AwaitsHead at e = (cc, refl)
  head_never bytes (HeadIs head) at e = absurd (record_never G.head_size (drop G.head_size bytes) at e)
  head_never bytes NoHead at e = (cc, refl)

  -- what is refused for its head has none, and nothing of it was taken
  pub bad_head : (offset : ℕ) (rest : List ℕ) (at : ℕ) → next_at G offset rest ≡ Refuses at BadHead → (offset ≡ 0) × (at ≡ 0) × (parsed_head (G.parse_head rest) ≡ None)
  unfolding next_at
  bad_head zero rest at e = let it = head_never rest (G.parse_head rest) at e in (refl, it.0, it.1)
  bad_head (suc offset) rest at e = absurd (record_never (suc offset) rest at e)

  parsed_is : (parsed : ParsedHead G.Head) (head : G.Head) → parsed_head parsed ≡ Some head → parsed ≡ HeadIs head
  parsed_is AwaitsHead head e = absurd cc
  parsed_is (HeadIs other) head e = cc
  parsed_is NoHead head e = absurd cc

  -- a head that is told of some bytes is told of longer ones
  pub head_more : (bytes more : List ℕ) (head : G.Head) → parsed_head (G.parse_head bytes) ≡ Some head → parsed_head (G.parse_head (bytes ++ more)) ≡ Some head
  head_more bytes more head e = ap (λ (f : ParsedHead G.Head). parsed_head f) (is.head_is bytes more head (parsed_is (G.parse_head bytes) head e)).0

  -- it has its size
  pub head_sized : (bytes : List ℕ) (head : G.Head) → parsed_head (G.parse_head bytes) ≡ Some head → G.head_size ≤ length bytes
  head_sized bytes head e = (is.head_is bytes [] head (parsed_is (G.parse_head bytes) head e)).2
