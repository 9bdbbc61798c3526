-- What is read as seeds is spelled so, and what is spelled so is read.
use Rattle.std.proofs.Common.{◌≡◌, ◌⊎◌, ℕ, ◌+◌, ◌*◌, ◌<◌, ◌≤◌, false, ltb, List, [], ◌∷◌, ◌++◌, length, map, Result, Ok, Err, refl, sym, ap, ◌∙◌, inl, inr, length-append, arith}
use Rattle.std.specs.Prelude.{codes, IfOk}
use Rattle.std.specs.List.{flat_map, join_with_byte, AllByRecursion}
use Rattle.std.proofs.lemmas.Bool.Decides.{nat_tests}
use Rattle.std.proofs.lemmas.List.{append-nil}
use Rattle.hex.specs.Hex.{encode_lower}
use Rattle.tesla_base.specs.declared.names.Key.{Key}
use Rattle.tesla_commit.specs.JudgedLines.{◌>>=◌, at}
use Rattle.tesla_commit.specs.Parsing.{lines}
use Rattle.tesla_commit.specs.SetupText.{line}
use Rattle.tesla_seeds.specs.Judged.{after_title, keys_judged, seeds_judged, SeedsAnswers}
use Rattle.tesla_seeds.specs.Refused.{seeds_title, seed_text}
use Rattle.tesla_seeds.specs.Text.{IsKey, seed_line, seeds_text, IsSeeds}
use Rattle.tesla_seeds.specs.declared.refusal.SeedsKind.TheVariants.{TooLong}
use Rattle.tesla_seeds.specs.declared.refusal.SeedsRefusal.{SeedsRefusal}
use Rattle.tesla_seeds.specs.declared.refusal.SeedsRefusal.TheVariants as refusals
use Rattle.tesla_commit.proofs.Causes.{never}
use Rattle.tesla_commit.proofs.Lengths.{hex_length, line_length}
use Rattle.tesla_commit.proofs.RowLaws.{onto, bind_ok, guard_ok, at_ok, ok_is}
use Rattle.tesla_seeds.proofs.Spelled.{title_spelled, title_taken, seeds_spelled, rest_some, seeds_behind}
use Rattle.tesla_commit.proofs.Spelled.{joined, line_then}
use Rattle.tesla_commit.proofs.Spelling.{IsPlain, solid_from_test, plain_is, plain_line, lines_of, solid_hex}
use Rattle.tesla_commit.proofs.WordLaws.{lines_of_nothing}

-- ---- from lines to bytes

join_more : (first : List ℕ) (rest : List (List ℕ)) → 0 < length rest → join_with_byte 10 (first ∷ rest) ≡ first ++ 10 ∷ join_with_byte 10 rest
join_more first [] some = absurd (omega arith)
join_more first (next ∷ others) some = refl

seeds_joined : (seeds : List Key) → join_with_byte 10 (map seed_text seeds ++ [] ∷ []) ≡ flat_map seed_line seeds
seeds_joined [] = refl
seeds_joined (seed ∷ seeds) =
    let rest = map seed_text seeds ++ [] ∷ [] in
    join_more (seed_text seed) rest (rest_some seeds ([] ∷ []) (omega arith)) ∙ line_then (seed_text seed) (codes "seed") (encode_lower seed.0) (join_with_byte 10 rest) refl ∙ ap (λ (r : List ℕ). seed_line seed ++ r) (seeds_joined seeds)

-- the text of these lines
text_of : (text : List ℕ) (seeds : List Key) → lines text ≡ seeds_title ∷ map seed_text seeds ++ [] ∷ [] → text ≡ seeds_text seeds
unfolding seeds_text
text_of text seeds h =
    let rest = map seed_text seeds ++ [] ∷ [] in
    sym (joined 10 text) ∙ ap (join_with_byte 10) h ∙ join_more seeds_title rest (rest_some seeds ([] ∷ []) (omega arith)) ∙ line_then seeds_title (codes "tesla-seeds") (codes "1") (join_with_byte 10 rest) refl ∙ ap (λ (r : List ℕ). line (codes "tesla-seeds") (codes "1") ++ r) (seeds_joined seeds)

pub seeds_found : (count : ℕ) (text : List ℕ) (seeds : List Key) → seeds_judged count text ≡ Ok seeds → IsSeeds text count seeds
unfolding seeds_judged
seeds_found count text seeds h =
    let g = guard_ok (ltb 4096 (length text)) (0, TooLong) (at 1 (after_title (lines text)) >>= λ rest. keys_judged 2 count rest) seeds h in
    let short : length text ≤ 4096 = grind (arith, nat_tests, g.0) in
    let a = bind_ok (at 1 (after_title (lines text))) (λ rest. keys_judged 2 count rest) seeds g.1 in
    let title = title_spelled (lines text) a.0 (at_ok 1 (after_title (lines text)) a.0 a.1) in
    let are = seeds_spelled 2 count a.0 seeds a.2 in
    record { each = are.each; keys = are.keys; text = text_of text seeds (title.0 ∙ ap (λ (r : List (List ℕ)). seeds_title ∷ r) are.spelled); short = short }

-- ---- from bytes to lines

plain_seed : (key : Key) → IsKey key → IsPlain (seed_text key)
plain_seed key whole = plain_line (codes "seed") (encode_lower key.0) (plain_is (codes "seed") (solid_from_test (codes "seed") refl)) (plain_is (encode_lower key.0) (solid_hex key.0 whole.bytes))

seed_lines_are : (seeds : List Key) → AllByRecursion IsKey seeds → lines (flat_map seed_line seeds) ≡ map seed_text seeds ++ [] ∷ []
seed_lines_are [] keys = lines_of_nothing [] refl
seed_lines_are (seed ∷ seeds) keys =
    lines_of (codes "seed") (encode_lower seed.0) (flat_map seed_line seeds) (plain_seed seed keys.0) ∙ ap (λ (r : List (List ℕ)). seed_text seed ∷ r) (seed_lines_are seeds keys.1)

lines_are : (seeds : List Key) → AllByRecursion IsKey seeds → lines (seeds_text seeds) ≡ seeds_title ∷ map seed_text seeds ++ [] ∷ []
unfolding seeds_text
lines_are seeds keys =
    let plain = plain_line (codes "tesla-seeds") (codes "1") (plain_is (codes "tesla-seeds") (solid_from_test (codes "tesla-seeds") refl)) (plain_is (codes "1") (solid_from_test (codes "1") refl)) in
    lines_of (codes "tesla-seeds") (codes "1") (flat_map seed_line seeds) plain ∙ ap (λ (r : List (List ℕ)). seeds_title ∷ r) (seed_lines_are seeds keys)

-- where a text ends behind its seeds, they are all
last_judged : (number : ℕ) (seeds : List Key) → onto seeds (keys_judged number 0 ([] ∷ [])) ≡ Ok seeds
unfolding keys_judged
last_judged number seeds = ap Ok (append-nil seeds)

pub seeds_again : (count : ℕ) (text : List ℕ) (seeds : List Key) → IsSeeds text count seeds → seeds_judged count text ≡ Ok seeds
unfolding seeds_judged
seeds_again count text seeds h =
    let short = h.short in
    let each = h.each in
    let rest = map seed_text seeds ++ [] ∷ [] in
    let test : ltb 4096 (length text) ≡ false = grind (arith, nat_tests) in
    let title : after_title (lines text) ≡ Ok rest = ap (λ (t : List ℕ). after_title (lines t)) h.text ∙ ap after_title (lines_are seeds h.keys) ∙ title_taken rest (rest_some seeds ([] ∷ []) (omega arith)) in
    let judged : keys_judged 2 count rest ≡ Ok seeds = seeds_behind 2 count 0 seeds ([] ∷ []) (omega arith) h.keys (omega arith) ∙ last_judged (2 + length seeds) seeds in
    rw (test, title) judged

-- ---- what is written

seeds_length : (seeds : List Key) → AllByRecursion IsKey seeds → length (flat_map seed_line seeds) ≡ 70 * length seeds
seeds_length [] keys = refl
seeds_length (seed ∷ seeds) keys =
    let whole = keys.0.whole in
    let one = line_length (codes "seed") (encode_lower seed.0) in
    let digits = hex_length seed.0 in
    let more = seeds_length seeds keys.1 in
    rw length-append (omega arith)

-- the text of seeds that are few enough is one
pub seeds_text_is : (seeds : List Key) → length seeds ≤ 58 → AllByRecursion IsKey seeds → IsSeeds (seeds_text seeds) (length seeds) seeds
unfolding seeds_text
seeds_text_is seeds few keys =
    let title = line_length (codes "tesla-seeds") (codes "1") in
    let more = seeds_length seeds keys in
    let short : length (line (codes "tesla-seeds") (codes "1") ++ flat_map seed_line seeds) ≤ 4096 = rw length-append (omega arith) in
    record { each = refl; keys = keys; text = refl; short = short }

-- ---- what is answered of a text

pub seeds_answer_found : (count : ℕ) (text : List ℕ) (r : Result (List Key) SeedsRefusal) → SeedsAnswers (λ seeds. seeds) r (seeds_judged count text) → IfOk r (λ seeds. IsSeeds text count seeds)
seeds_answer_found count text (Ok seeds) h = seeds_found count text seeds h
seeds_answer_found count text (Err e) h = tt

pub seeds_answer_only : (count : ℕ) (text : List ℕ) (r : Result (List Key) SeedsRefusal) (seeds : List Key) → SeedsAnswers (λ seeds. seeds) r (seeds_judged count text) → IsSeeds text count seeds → (r ≡ Ok seeds) ⊎ (r ≡ Err refusals.NoMemory)
seeds_answer_only count text (Ok made) seeds h k = inl (ap Ok (ok_is made seeds (seeds_judged count text) h (seeds_again count text seeds k)))
seeds_answer_only count text (Err (refusals.At number kind)) seeds h k = absurd (never seeds (number, kind) (seeds_judged count text) (seeds_again count text seeds k) h)
seeds_answer_only count text (Err refusals.NoMemory) seeds h k = inr refl
