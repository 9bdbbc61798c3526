-- What the lines of seeds are where they are taken, and how they are taken again.
use Rattle.std.proofs.Common.{◌≡◌, ℕ, zero, suc, ◌+◌, ◌<◌, Bool, true, false, cond, eqb, List, [], ◌∷◌, ◌++◌, length, map, Result, Ok, Err, refl, sym, ap, subst, ◌∙◌, arith}
use Rattle.std.specs.Prelude.{codes}
use Rattle.std.specs.List.{AllByRecursion}
use Rattle.std.specs.Str.{bytes_eq}
use Rattle.std.proofs.lemmas.Bool.Decides.{nat_tests}
use Rattle.std.proofs.lemmas.Slice.Eq.{bytes_eq-Decides}
use Rattle.hex.specs.Hex.{encode_lower}
use Rattle.tesla_base.specs.declared.names.Key.{Key}
use Rattle.tesla_commit.specs.JudgedLines.{◌>>=◌, at}
use Rattle.tesla_commit.specs.Parsing.{words, value_in, hex_in}
use Rattle.tesla_seeds.specs.Judged.{is_end, wanted_line, after_title, or_kind, first_seed, keys_judged}
use Rattle.tesla_seeds.specs.Refused.{seeds_title, seed_text}
use Rattle.tesla_seeds.specs.Text.{IsKey}
use Rattle.tesla_seeds.specs.declared.refusal.SeedsKind.{SeedsKind}
use Rattle.tesla_seeds.specs.declared.refusal.SeedsKind.TheVariants.{BadLine, BadHex, WrongCount}
use Rattle.tesla_commit.proofs.RowLaws.{onto, bind_ok, at_ok, ok_is}
use Rattle.tesla_seeds.proofs.Judging.{nothing_before}
use Rattle.tesla_commit.proofs.Spelled.{hex_found, value_found}
use Rattle.tesla_commit.proofs.Spelling.{solid_from_test, solid_hex, value_again, hex_again}

-- a test that gives its value or refuses
pub test_given : {A : Type 0} (b : Bool) (x y : A) (kind : SeedsKind) → cond b (Ok x) (Err kind) ≡ Ok y → (b ≡ true) × (x ≡ y)
test_given {A = A} true x y kind h = (refl, ok_is {E = SeedsKind} x y (Ok x) refl h)
test_given false x y kind h = absurd cc

pub never_given : (b : Bool) (x : List ℕ × List (List ℕ)) → cond b (Err WrongCount) (Err BadLine) ≡ Ok x → ⊥
never_given true x h = cc
never_given false x h = cc

-- ---- one line

-- a line that was taken stands before the others, of which there is one
pub wanted_taken : (text : List (List ℕ)) (x : List ℕ × List (List ℕ)) → wanted_line text ≡ Ok x → (text ≡ x.0 ∷ x.1) × (0 < length x.1)
wanted_taken [] x h = absurd cc
wanted_taken (unended ∷ []) x h = absurd (never_given (eqb (length unended) 0) x h)
wanted_taken (line ∷ next ∷ others) x h =
    let made : List ℕ × List (List ℕ) = (line, next ∷ others) in
    subst (λ (y : List ℕ × List (List ℕ)). (line ∷ next ∷ others ≡ y.0 ∷ y.1) × (0 < length y.1)) (ok_is {E = SeedsKind} made x (Ok made) refl h) (refl, omega arith)

pub wanted_again : (line : List ℕ) (rest : List (List ℕ)) → 0 < length rest → wanted_line (line ∷ rest) ≡ Ok (line, rest)
wanted_again line [] some = absurd (omega arith)
wanted_again line (next ∷ others) some = refl

-- line 1 where it is not refused
pub title_spelled : (text rest : List (List ℕ)) → after_title text ≡ Ok rest → (text ≡ seeds_title ∷ rest) × (0 < length rest)
title_spelled text rest h =
    let w = bind_ok (wanted_line text) (λ title. cond (bytes_eq title.0 (codes "tesla-seeds 1")) (Ok title.1) (Err BadLine)) rest h in
    let t = test_given (bytes_eq w.0.0 (codes "tesla-seeds 1")) w.0.1 rest BadLine w.2 in
    let same : w.0.0 ≡ seeds_title = (bytes_eq-Decides w.0.0 (codes "tesla-seeds 1")).0 t.0 in
    let taken = wanted_taken text w.0 w.1 in
    subst (λ (r : List (List ℕ)). (text ≡ seeds_title ∷ r) × (0 < length r)) t.1 (taken.0 ∙ ap (λ (l : List ℕ). l ∷ w.0.1) same, taken.1)

pub title_taken : (rest : List (List ℕ)) → 0 < length rest → after_title (seeds_title ∷ rest) ≡ Ok rest
title_taken rest some = rw (wanted_again seeds_title rest some) refl

-- ---- the line of a seed

pub kind_ok : {A E : Type 0} (kind : SeedsKind) (r : Result A E) (x : A) → or_kind kind r ≡ Ok x → r ≡ Ok x
kind_ok kind (Ok y) x h = ap Ok (ok_is {E = SeedsKind} y x (Ok y) refl h)
kind_ok kind (Err fault) x h = absurd cc

-- what is judged of the words of a seed
abbrev pub seed_said : List ℕ × List (List ℕ) → Result (Key × List (List ℕ)) SeedsKind
seed_said line = or_kind BadLine (value_in (codes "seed") (words line.0)) >>= λ word. or_kind BadHex (hex_in 32 word) >>= λ bytes. Ok (record { 0 = bytes }, line.1)

seed_bytes : (line : List ℕ × List (List ℕ)) (word : List ℕ) (x : Key × List (List ℕ)) → line.0 ≡ codes "seed" ++ 32 ∷ word → (or_kind BadHex (hex_in 32 word) >>= λ bytes. Ok (record { 0 = bytes }, line.1)) ≡ Ok x → (line.0 ≡ seed_text x.0) × (line.1 ≡ x.1) × IsKey x.0
seed_bytes line word x said h =
    let b = bind_ok (or_kind BadHex (hex_in 32 word)) (λ bytes. Ok (record { 0 = bytes }, line.1)) x h in
    let f = hex_found 32 word b.0 (kind_ok BadHex (hex_in 32 word) b.0 b.1) in
    let made : Key × List (List ℕ) = (record { 0 = b.0 }, line.1) in
    let text : line.0 ≡ seed_text made.0 = said ∙ ap (λ (w : List ℕ). codes "seed" ++ 32 ∷ w) f.text in
    subst (λ (y : Key × List (List ℕ)). (line.0 ≡ seed_text y.0) × (line.1 ≡ y.1) × IsKey y.0) (ok_is {E = SeedsKind} made x (Ok made) refl b.2) (text, refl, record { whole = f.whole; bytes = f.fits })

-- the line of a seed where it is not refused
pub seed_spelled : (text : List (List ℕ)) (x : Key × List (List ℕ)) → first_seed text ≡ Ok x → (text ≡ seed_text x.0 ∷ x.1) × (0 < length x.1) × IsKey x.0
seed_spelled text x h =
    let line = bind_ok (wanted_line text) (λ line. seed_said line) x h in
    let word = bind_ok (or_kind BadLine (value_in (codes "seed") (words line.0.0))) (λ word. or_kind BadHex (hex_in 32 word) >>= λ bytes. Ok (record { 0 = bytes }, line.0.1)) x line.2 in
    let said = value_found (codes "seed") word.0 line.0.0 (kind_ok BadLine (value_in (codes "seed") (words line.0.0)) word.0 word.1) in
    let seed = seed_bytes line.0 word.0 x said word.2 in
    let taken = wanted_taken text line.0 line.1 in
    (taken.0 ∙ ap (λ (l : List ℕ). l ∷ line.0.1) seed.0 ∙ ap (λ (r : List (List ℕ)). seed_text x.0 ∷ r) seed.1, subst (λ (r : List (List ℕ)). 0 < length r) seed.1 taken.1, seed.2)

pub seed_taken : (key : Key) (rest : List (List ℕ)) → IsKey key → 0 < length rest → first_seed (seed_text key ∷ rest) ≡ Ok (key, rest)
seed_taken key rest whole some =
    rw (wanted_again (seed_text key) rest some, value_again (codes "seed") (encode_lower key.0) (solid_from_test (codes "seed") refl) (solid_hex key.0 whole.bytes), hex_again 32 key.0 whole.whole whole.bytes) refl

-- ---- all seeds

-- the refusal of what stands where a text has to end
abbrev pub going_on : ℕ → Result (List Key) (ℕ × SeedsKind)
going_on number = Err (number, WrongCount)

-- the end of a text
end_is : (text : List (List ℕ)) (seeds : List Key) (number : ℕ) → cond (is_end text) (Ok []) (going_on number) ≡ Ok seeds → (text ≡ [] ∷ []) × (seeds ≡ [])
end_is [] seeds number h = absurd cc
end_is ([] ∷ []) seeds number h = (refl, sym (ok_is {E = ℕ × SeedsKind} [] seeds (Ok []) refl h))
end_is ((b ∷ unended) ∷ []) seeds number h =
    let some : eqb (length (b ∷ unended)) 0 ≡ false = grind (arith, nat_tests) in
    let refused : going_on number ≡ Ok seeds = rw some at h in
    absurd cc
end_is (line ∷ next ∷ others) seeds number h = absurd cc

-- the lines of seeds where none is refused
pub record AreSeeds (count : ℕ) (text : List (List ℕ)) (seeds : List Key) : Type 0 where
  pub each : length seeds ≡ count
  pub keys : AllByRecursion IsKey seeds
  pub spelled : text ≡ map seed_text seeds ++ [] ∷ []

pub seeds_spelled : (number count : ℕ) (text : List (List ℕ)) (seeds : List Key) → keys_judged number count text ≡ Ok seeds → AreSeeds count text seeds
unfolding keys_judged
seeds_spelled number zero text seeds h =
    let e = end_is text seeds number h in
    subst (λ (s : List Key). AreSeeds 0 text s) (sym e.1) (record { each = refl; keys = tt; spelled = e.0 })
seeds_spelled number (suc more) text seeds h =
    let seed = bind_ok (at number (first_seed text)) (λ seed. keys_judged (number + 1) more seed.1 >>= λ keys. Ok (seed.0 ∷ keys)) seeds h in
    let others = bind_ok (keys_judged (number + 1) more seed.0.1) (λ keys. Ok (seed.0.0 ∷ keys)) seeds seed.2 in
    let one = seed_spelled text seed.0 (at_ok number (first_seed text) seed.0 seed.1) in
    let behind = seeds_spelled (number + 1) more seed.0.1 others.0 others.1 in
    let each = behind.each in
    let made : List Key = seed.0.0 ∷ others.0 in
    subst (λ (s : List Key). AreSeeds (suc more) text s) (ok_is {E = ℕ × SeedsKind} made seeds (Ok made) refl others.2)
    (record { each = omega arith; keys = (one.2, behind.keys); spelled = one.0 ∙ ap (λ (r : List (List ℕ)). seed_text seed.0.0 ∷ r) behind.spelled })

-- something stands behind the lines of seeds
pub rest_some : (seeds : List Key) (rest : List (List ℕ)) → 0 < length rest → 0 < length (map seed_text seeds ++ rest)
rest_some [] rest some = some
rest_some (seed ∷ seeds) rest some = omega arith

onto_next : (seed : Key) (seeds : List Key) (r : Result (List Key) (ℕ × SeedsKind)) → (onto seeds r >>= λ keys. Ok (seed ∷ keys)) ≡ onto (seed ∷ seeds) r
onto_next seed seeds (Ok others) = refl
onto_next seed seeds (Err e) = refl

-- what is judged behind the lines of seeds
pub seeds_behind : (number count more : ℕ) (seeds : List Key) (rest : List (List ℕ)) → count ≡ length seeds + more → AllByRecursion IsKey seeds → 0 < length rest → keys_judged number count (map seed_text seeds ++ rest) ≡ onto seeds (keys_judged (number + length seeds) more rest)
unfolding keys_judged
seeds_behind number count more [] rest each keys some =
    let same : count ≡ more = omega arith in
    let here : number + 0 ≡ number = omega arith in
    sym (nothing_before (keys_judged number count rest)) ∙ ap (λ (n : ℕ). onto [] (keys_judged number n rest)) same ∙ ap (λ (n : ℕ). onto [] (keys_judged n more rest)) (sym here)
seeds_behind number zero more (seed ∷ seeds) rest each keys some = absurd (omega arith)
seeds_behind number (suc count) more (seed ∷ seeds) rest each keys some =
    let behind = seeds_behind (number + 1) count more seeds rest (omega arith) keys.1 some in
    let place : (number + 1) + length seeds ≡ number + length (seed ∷ seeds) = omega arith in
    let one = seed_taken seed (map seed_text seeds ++ rest) keys.0 (rest_some seeds rest some) in
    rw (one, behind) (onto_next seed seeds (keys_judged ((number + 1) + length seeds) more rest) ∙ ap (λ (n : ℕ). onto (seed ∷ seeds) (keys_judged n more rest)) place)
