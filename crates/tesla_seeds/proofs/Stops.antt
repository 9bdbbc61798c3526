-- Seeds are refused exactly where their text has the cause.
use Rattle.std.proofs.Common.{◌≡◌, ◌≢◌, ◌⊎◌, ℕ, zero, suc, ◌+◌, ◌-◌, ◌<◌, ◌≤◌, Bool, true, false, cond, eqb, ltb, List, [], ◌∷◌, ◌++◌, length, map, Result, Ok, Err, refl, sym, ap, subst, ◌∙◌, inl, inr, arith}
use Rattle.std.specs.Prelude.{codes}
use Rattle.std.specs.List.{AllByRecursion}
use Rattle.std.specs.Str.{bytes_eq}
use Rattle.std.proofs.lemmas.Bool.Decides.{nat_tests}
use Rattle.std.proofs.lemmas.Slice.Eq.{bytes_eq-Decides}
use Rattle.tesla_base.specs.declared.names.Key.{Key}
use Rattle.tesla_commit.specs.JudgedLines.{◌>>=◌, at}
use Rattle.tesla_commit.specs.Parsing.{lines, words, value_in, hex_in}
use Rattle.tesla_seeds.specs.Judged.{is_end, wanted_line, after_title, or_kind, first_seed, keys_judged, seeds_judged}
use Rattle.tesla_seeds.specs.Refused.{seeds_title, WhySeedsTitle, seed_text, WhySeed, StopsAtWanted, GoesOn, IsSeedsRefused}
use Rattle.tesla_seeds.specs.Text.{IsKey}
use Rattle.tesla_seeds.specs.declared.refusal.SeedsKind.{SeedsKind}
use Rattle.tesla_seeds.specs.declared.refusal.SeedsKind.TheVariants.{BadLine, BadHex, WrongCount, TooLong}
use Rattle.tesla_commit.proofs.Causes.{by_steps, err_is, not_both, value_why, value_is, hex_why}
use Rattle.tesla_commit.proofs.Refusals.{at_why, guard_err}
use Rattle.tesla_commit.proofs.Refused.{value_taken, value_refused, hex_refused}
use Rattle.tesla_commit.proofs.RowLaws.{onto, at_ok, ok_is}
use Rattle.tesla_seeds.proofs.Judging.{keys_refused}
use Rattle.tesla_seeds.proofs.Spelled.{never_given, kind_ok, going_on, title_spelled, title_taken, seed_said, seed_spelled, rest_some, seeds_behind}
use Rattle.tesla_commit.proofs.WordLaws.{has_first}

abbrev no_line : SeedsKind → Result (List ℕ × List (List ℕ)) SeedsKind
no_line kind = Err kind

-- bytes that no LF ends are something
some_byte : (byte : ℕ) (unended : List ℕ) → eqb (length (byte ∷ unended)) 0 ≡ false
some_byte byte unended = grind (arith, nat_tests)

-- ---- from a refusal to its cause

-- why no line was taken
wanted_why : (why : SeedsKind → List ℕ → Type 0) (text : List (List ℕ)) (kind : SeedsKind) → 0 < length text → wanted_line text ≡ Err kind → StopsAtWanted why kind text
wanted_why why [] kind some h = absurd (omega arith)
wanted_why why ([] ∷ []) kind some h = sym (err_is WrongCount kind (no_line WrongCount) refl h)
wanted_why why ((byte ∷ unended) ∷ []) kind some h =
    let refused : no_line BadLine ≡ Err kind = rw (some_byte byte unended) at h in
    sym (err_is BadLine kind (no_line BadLine) refl refused)
wanted_why why (line ∷ next ∷ others) kind some h = absurd cc

-- a line that was taken is refused for its own cause
taken_why : (why : SeedsKind → List ℕ → Type 0) (text : List (List ℕ)) (x : List ℕ × List (List ℕ)) (kind : SeedsKind) → wanted_line text ≡ Ok x → why kind x.0 → StopsAtWanted why kind text
taken_why why [] x kind h cause = absurd cc
taken_why why (unended ∷ []) x kind h cause = absurd (never_given (eqb (length unended) 0) x h)
taken_why why (line ∷ next ∷ others) x kind h cause =
    let made : List ℕ × List (List ℕ) = (line, next ∷ others) in
    let same = ok_is {E = SeedsKind} made x (Ok made) refl h in
    subst (λ (y : List ℕ × List (List ℕ)). why kind y.0) (sym same) cause

test_refused : {A : Type 0} (b : Bool) (x : A) (one kind : SeedsKind) → cond b (Ok x) (Err one) ≡ Err kind → (b ≡ false) × (one ≡ kind)
test_refused true x one kind h = absurd cc
test_refused {A = A} false x one kind h = (refl, err_is {A = A} one kind (Err one) refl h)

title_cause : (line : List ℕ) (rest : List (List ℕ)) (kind : SeedsKind) → cond (bytes_eq line (codes "tesla-seeds 1")) (Ok rest) (Err BadLine) ≡ Err kind → WhySeedsTitle kind line
title_cause line rest kind h =
    let t = test_refused (bytes_eq line (codes "tesla-seeds 1")) rest BadLine kind h in
    let why : WhySeedsTitle BadLine line = λ same. not_both (bytes_eq line (codes "tesla-seeds 1")) ((bytes_eq-Decides line (codes "tesla-seeds 1")).1 same) t.0 in
    subst (λ (k : SeedsKind). WhySeedsTitle k line) t.1 why

title_why : (text : List (List ℕ)) (kind : SeedsKind) → 0 < length text → after_title text ≡ Err kind → StopsAtWanted WhySeedsTitle kind text
title_why text kind some h =
    by_steps (λ (k : SeedsKind). StopsAtWanted WhySeedsTitle k text) (wanted_line text) (λ title. cond (bytes_eq title.0 (codes "tesla-seeds 1")) (Ok title.1) (Err BadLine)) kind
    (λ k refused. wanted_why WhySeedsTitle text k some refused)
    (λ title taken k refused. taken_why WhySeedsTitle text title k taken (title_cause title.0 title.1 k refused))
    h

-- any fault has the kind
kind_why : {A E : Type 0} (kind : SeedsKind) (r : Result A E) (other : SeedsKind) → or_kind kind r ≡ Err other → (fault : E) × (r ≡ Err fault) × (kind ≡ other)
kind_why kind (Ok x) other h = absurd cc
kind_why {A = A} kind (Err fault) other h = (fault, refl, err_is {A = A} kind other (Err kind) refl h)

seed_hex_cause : (line word : List ℕ) (kind : SeedsKind) → or_kind BadLine (value_in (codes "seed") (words line)) ≡ Ok word → or_kind BadHex (hex_in 32 word) ≡ Err kind → WhySeed kind line
seed_hex_cause line word kind said h =
    let x = kind_why BadHex (hex_in 32 word) kind h in
    let words_are = value_is (codes "seed") (words line) word (kind_ok BadLine (value_in (codes "seed") (words line)) word said) in
    let why : WhySeed BadHex line = (word, words_are, (hex_why 32 word x.0 x.1).1) in
    subst (λ (k : SeedsKind). WhySeed k line) x.2 why

seed_cause : (line : List ℕ × List (List ℕ)) (kind : SeedsKind) → seed_said line ≡ Err kind → WhySeed kind line.0
seed_cause line kind h =
    let value = value_in (codes "seed") (words line.0) in
    by_steps (λ (k : SeedsKind). WhySeed k line.0) (or_kind BadLine value) (λ word. or_kind BadHex (hex_in 32 word) >>= λ bytes. Ok (record { 0 = bytes }, line.1)) kind
    (λ k refused.
    let x = kind_why BadLine value k refused in
    let why : WhySeed BadLine line.0 = (value_why (codes "seed") (words line.0) x.0 x.1).1 in
    subst (λ (j : SeedsKind). WhySeed j line.0) x.2 why)
    (λ word ok k refused.
    by_steps (λ (j : SeedsKind). WhySeed j line.0) (or_kind BadHex (hex_in 32 word)) (λ bytes. Ok (record { 0 = bytes }, line.1)) k
    (λ j end. seed_hex_cause line.0 word j ok end)
    (λ bytes found j end. absurd cc)
    refused)
    h

seed_why : (text : List (List ℕ)) (kind : SeedsKind) → 0 < length text → first_seed text ≡ Err kind → StopsAtWanted WhySeed kind text
seed_why text kind some h =
    by_steps (λ (k : SeedsKind). StopsAtWanted WhySeed k text) (wanted_line text) (λ line. seed_said line) kind
    (λ k refused. wanted_why WhySeed text k some refused)
    (λ line taken k refused. taken_why WhySeed text line k taken (seed_cause line k refused))
    h

-- the lines of seeds stop behind those of these seeds
record SeedStop (number wanted : ℕ) (text : List (List ℕ)) (e : ℕ × SeedsKind) : Type 0 where
  seeds : List Key
  keys : AllByRecursion IsKey seeds
  place : number + length seeds ≡ e.0
  rest : List (List ℕ)
  spelled : text ≡ map seed_text seeds ++ rest
  why : ((length seeds < wanted) × StopsAtWanted WhySeed e.1 rest) ⊎ ((length seeds ≡ wanted) × GoesOn e.1 rest)

-- behind one that is not refused
stop_later : (number more : ℕ) (text rest : List (List ℕ)) (seed : Key) (e : ℕ × SeedsKind) → IsKey seed → text ≡ seed_text seed ∷ rest → SeedStop (number + 1) more rest e → SeedStop number (suc more) text e
stop_later number more text rest seed e whole prefix stop =
    let place = stop.place in
    record {
      seeds = seed ∷ stop.seeds;
      keys = (whole, stop.keys);
      place = omega arith;
      rest = stop.rest;
      spelled = prefix ∙ ap (λ (r : List (List ℕ)). seed_text seed ∷ r) stop.spelled;
      why = elim stop.why [
        | inl short ↦ (let few = short.0 in inl (omega arith, short.1))
        | inr over ↦ (let all = over.0 in inr (omega arith, over.1))
      ];
    }

-- why the end of a text is refused
end_why : (text : List (List ℕ)) (number : ℕ) (e : ℕ × SeedsKind) → 0 < length text → cond (is_end text) (Ok []) (going_on number) ≡ Err e → ((number, WrongCount) ≡ e) × (text ≢ [] ∷ [])
end_why [] number e some h = absurd (omega arith)
end_why ([] ∷ []) number e some h = absurd cc
end_why ((byte ∷ unended) ∷ []) number e some h =
    let refused : going_on number ≡ Err e = rw (some_byte byte unended) at h in
    (err_is (number, WrongCount) e (going_on number) refl refused, λ same. cc)
end_why (line ∷ next ∷ others) number e some h = (err_is (number, WrongCount) e (going_on number) refl h, λ same. cc)

seeds_stop : (number wanted : ℕ) (text : List (List ℕ)) (e : ℕ × SeedsKind) → 0 < length text → keys_judged number wanted text ≡ Err e → SeedStop number wanted text e
unfolding keys_judged
seeds_stop number zero text e some h =
    let w = end_why text number e some h in
    subst (λ (d : ℕ × SeedsKind). SeedStop number 0 text d) w.0 (record { seeds = []; keys = tt; place = omega arith; rest = text; spelled = refl; why = inr (refl, (refl, some, w.1)) })
seeds_stop number (suc more) text e some h =
    by_steps (λ (d : ℕ × SeedsKind). SeedStop number (suc more) text d) (at number (first_seed text)) (λ seed. keys_judged (number + 1) more seed.1 >>= λ keys. Ok (seed.0 ∷ keys)) e
    (λ d refused.
    let a = at_why number (first_seed text) d refused in
    let place = a.0 in
    record { seeds = []; keys = tt; place = omega arith; rest = text; spelled = refl; why = inl (omega arith, seed_why text d.1 some a.1) })
    (λ seed ok d refused.
    let one = seed_spelled text seed (at_ok number (first_seed text) seed ok) in
    by_steps (λ (k : ℕ × SeedsKind). SeedStop number (suc more) text k) (keys_judged (number + 1) more seed.1) (λ keys. Ok (seed.0 ∷ keys)) d
    (λ k end. stop_later number more text seed.1 seed.0 k one.2 one.0 (seeds_stop (number + 1) more seed.1 k one.1 end))
    (λ keys found k end. absurd cc)
    refused)
    h

-- a text that is refused at a line has the cause there
pub seeds_refused : (text : List ℕ) (wanted number : ℕ) (kind : SeedsKind) → seeds_judged wanted text ≡ Err (number, kind) → IsSeedsRefused text wanted number kind
unfolding seeds_judged
seeds_refused text wanted number kind h =
    let first = has_first 10 text in
    let some : 0 < length (lines text) = omega (arith, ap (length {A = List ℕ}) first.2) in
    elim (guard_err (ltb 4096 (length text)) (0, TooLong) (at 1 (after_title (lines text)) >>= λ rest. keys_judged 2 wanted rest) (number, kind) h) [
      | inl long ↦
          let above : 4096 < length text = grind (arith, nat_tests, long.0) in
          subst (λ (d : ℕ × SeedsKind). IsSeedsRefused text wanted d.0 d.1) long.1 (refl, above)
      | inr within ↦
          let short : length text ≤ 4096 = grind (arith, nat_tests, within.0) in
          by_steps (λ (d : ℕ × SeedsKind). IsSeedsRefused text wanted d.0 d.1) (at 1 (after_title (lines text))) (λ rest. keys_judged 2 wanted rest) (number, kind)
          (λ d refused.
          let a = at_why 1 (after_title (lines text)) d refused in
          subst (λ (n : ℕ). IsSeedsRefused text wanted n d.1) a.0 (short, title_why (lines text) d.1 some a.1))
          (λ rest ok d refused.
          let title = title_spelled (lines text) rest (at_ok 1 (after_title (lines text)) rest ok) in
          let stop = seeds_stop 2 wanted rest d title.1 refused in
          let place = stop.place in
          let line : suc (suc (length stop.seeds)) ≡ d.0 = omega arith in
          subst (λ (n : ℕ). IsSeedsRefused text wanted n d.1) line
          (short, record { seeds = stop.seeds; keys = stop.keys; count = refl; rest = stop.rest; spelled = title.0 ∙ ap (λ (r : List (List ℕ)). seeds_title ∷ r) stop.spelled; why = stop.why }))
          within.1
    ]

-- ---- from a cause to its refusal

-- what stops where a line is wanted is refused so
wanted_refused : {B : Type 0} (why : SeedsKind → List ℕ → Type 0) (f : List ℕ × List (List ℕ) → Result B SeedsKind) (kind : SeedsKind) (text : List (List ℕ)) → ((x : List ℕ × List (List ℕ)) → why kind x.0 → f x ≡ Err kind) → StopsAtWanted why kind text → (wanted_line text >>= f) ≡ Err kind
wanted_refused why f kind [] cause h = absurd h
wanted_refused why f kind ([] ∷ []) cause h = ap Err (sym h)
wanted_refused why f kind ((byte ∷ unended) ∷ []) cause h = rw (some_byte byte unended) (ap Err (sym h))
wanted_refused why f kind (line ∷ next ∷ others) cause h = cause (line, next ∷ others) h

other_title : (b : Bool) (rest : List (List ℕ)) → (b ≡ true → ⊥) → cond b (Ok rest) (Err BadLine) ≡ Err BadLine
other_title true rest never = absurd (never refl)
other_title false rest never = refl

title_line_refused : (kind : SeedsKind) (x : List ℕ × List (List ℕ)) → WhySeedsTitle kind x.0 → cond (bytes_eq x.0 (codes "tesla-seeds 1")) (Ok x.1) (Err BadLine) ≡ Err kind
title_line_refused BadLine x why = other_title (bytes_eq x.0 (codes "tesla-seeds 1")) x.1 (λ same. why ((bytes_eq-Decides x.0 (codes "tesla-seeds 1")).0 same))
title_line_refused BadHex x why = absurd why
title_line_refused WrongCount x why = absurd why
title_line_refused TooLong x why = absurd why

seed_line_refused : (kind : SeedsKind) (x : List ℕ × List (List ℕ)) → WhySeed kind x.0 → seed_said x ≡ Err kind
seed_line_refused BadLine x why = rw (value_refused (codes "seed") (words x.0) why) refl
seed_line_refused BadHex x why = rw (value_taken (codes "seed") why.0 (words x.0) why.1, hex_refused 32 why.0 why.2) refl
seed_line_refused WrongCount x why = absurd why
seed_line_refused TooLong x why = absurd why

-- a text that goes on is refused behind its seeds
over_refused : (number : ℕ) (prefix : List Key) (kind : SeedsKind) (rest : List (List ℕ)) → GoesOn kind rest → onto prefix (keys_judged number 0 rest) ≡ Err (number, kind)
unfolding keys_judged
over_refused number prefix kind [] h = let some = h.1 in absurd (omega arith)
over_refused number prefix kind ([] ∷ []) h = absurd (h.2 refl)
over_refused number prefix kind ((byte ∷ unended) ∷ []) h = rw (some_byte byte unended) (ap (λ (k : SeedsKind). Err (number, k)) (sym h.0))
over_refused number prefix kind (line ∷ next ∷ others) h = ap (λ (k : SeedsKind). Err (number, k)) (sym h.0)

-- a text never stops behind its end
stops_some : (why : SeedsKind → List ℕ → Type 0) (kind : SeedsKind) (rest : List (List ℕ)) → StopsAtWanted why kind rest → 0 < length rest
stops_some why kind [] h = absurd h
stops_some why kind (line ∷ others) h = omega arith

-- what stops behind seeds is refused so
keys_stopped : (wanted before : ℕ) (kind : SeedsKind) (seeds : List Key) (rest : List (List ℕ)) → AllByRecursion IsKey seeds → length seeds ≡ before → ((before < wanted) × StopsAtWanted WhySeed kind rest) ⊎ ((before ≡ wanted) × GoesOn kind rest) → (0 < length rest) × (keys_judged 2 wanted (map seed_text seeds ++ rest) ≡ Err (suc (suc before), kind))
keys_stopped wanted before kind seeds rest keys count (inl short) =
    let few = short.0 in
    let some = stops_some WhySeed kind rest short.1 in
    let line : 2 + length seeds ≡ suc (suc before) = omega arith in
    let here = keys_refused (2 + length seeds) (wanted - before) seeds rest kind (omega arith) (wanted_refused WhySeed seed_said kind rest (λ x why. seed_line_refused kind x why) short.1) in
    (some, seeds_behind 2 wanted (wanted - before) seeds rest (omega arith) keys some ∙ here ∙ ap (λ (n : ℕ). Err (n, kind)) line)
keys_stopped wanted before kind seeds rest keys count (inr over) =
    let all = over.0 in
    let some = over.1.1 in
    let line : 2 + length seeds ≡ suc (suc before) = omega arith in
    (some, seeds_behind 2 wanted 0 seeds rest (omega arith) keys some ∙ over_refused (2 + length seeds) seeds kind rest over.1 ∙ ap (λ (n : ℕ). Err (n, kind)) line)

long_seeds : (text : List ℕ) (wanted : ℕ) → 4096 < length text → seeds_judged wanted text ≡ Err (0, TooLong)
unfolding seeds_judged
long_seeds text wanted long =
    let test : ltb 4096 (length text) ≡ true = grind (arith, nat_tests) in
    rw test refl

title_stopped : (text : List ℕ) (wanted : ℕ) (kind : SeedsKind) → length text ≤ 4096 → after_title (lines text) ≡ Err kind → seeds_judged wanted text ≡ Err (1, kind)
unfolding seeds_judged
title_stopped text wanted kind short h =
    let test : ltb 4096 (length text) ≡ false = grind (arith, nat_tests) in
    rw (test, h) refl

seeds_stopped : (text : List ℕ) (wanted : ℕ) (rest : List (List ℕ)) (e : ℕ × SeedsKind) → length text ≤ 4096 → after_title (lines text) ≡ Ok rest → keys_judged 2 wanted rest ≡ Err e → seeds_judged wanted text ≡ Err e
unfolding seeds_judged
seeds_stopped text wanted rest e short title h =
    let test : ltb 4096 (length text) ≡ false = grind (arith, nat_tests) in
    rw (test, title) h

-- a text with the cause at a line is refused there
pub refused_seeds : (text : List ℕ) (wanted number : ℕ) (kind : SeedsKind) → IsSeedsRefused text wanted number kind → seeds_judged wanted text ≡ Err (number, kind)
refused_seeds text wanted zero kind h = long_seeds text wanted h.1 ∙ ap (λ (k : SeedsKind). Err (0, k)) (sym h.0)
refused_seeds text wanted (suc zero) kind h =
    title_stopped text wanted kind h.0 (wanted_refused WhySeedsTitle (λ title. cond (bytes_eq title.0 (codes "tesla-seeds 1")) (Ok title.1) (Err BadLine)) kind (lines text) (λ x why. title_line_refused kind x why) h.1)
refused_seeds text wanted (suc (suc before)) kind h =
    let s = h.1 in
    let k = keys_stopped wanted before kind s.seeds s.rest s.keys s.count s.why in
    let behind = map seed_text s.seeds ++ s.rest in
    seeds_stopped text wanted behind (suc (suc before), kind) h.0 (ap after_title s.spelled ∙ title_taken behind (rest_some s.seeds s.rest k.0)) k.1
