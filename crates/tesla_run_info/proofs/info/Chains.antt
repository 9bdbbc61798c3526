-- The delay of the last chain, and the lines of chains and of what is left, one after another.
use Rattle.std.proofs.Common.{◌≡◌, ◌∙◌, ℕ, zero, suc, ◌+◌, ◌<◌, ◌≤◌, Some, List, [], ◌∷◌, ◌++◌, length, drop, codes, false, refl, sym, ap, arith, append-nil, append_assoc}
use Rattle.std.specs.Prelude.{slice_get}
use Rattle.std.specs.Int.{w64, to_be_bytes}
use Rattle.std.proofs.Math.Seq.{drop-cons}
use Rattle.std.proofs.Math.ListN.{drop_of_length-le}
use Rattle.std.proofs.lemmas.Bool.Decides.{nat_tests}
use Rattle.std.proofs.lemmas.Option.{get_or_from_slice_get}
use Rattle.hex.specs.Hex.{encode_lower}
use Rattle.sha2.specs.Sha256.{sha256}
use Rattle.sha2.proofs.Facts256.{length-sha256}
use Rattle.tesla_commit.specs.declared.chain_row.ChainRow.{ChainRow}
use Rattle.tesla_commit.proofs.Lengths.{hex_length}
use Rattle.tesla_clock.specs.Schedule.{Times}
use Rattle.tesla_front.specs.Lines.{count_line}
use Rattle.tesla_run_info.specs.info.Left.{is_unread, left_at, seconds_left_at}
use Rattle.tesla_run_info.specs.info.Lines.{chain_line, chain_lines, left_lines, slowest}

-- the last row has the slowest delay
pub slowest_is : (rows : List ChainRow) (place : ℕ) (row : ChainRow) → place + 1 ≡ length rows → slice_get rows place ≡ Some row → slowest rows ≡ row.delay
slowest_is [] place row last is = absurd (omega (arith, last))
slowest_is (one ∷ []) zero row last is = let same : one ≡ row = cc in rw same refl
slowest_is (one ∷ []) (suc place) row last is = absurd (omega (arith, last))
slowest_is (one ∷ next ∷ rows) zero row last is = absurd (omega (arith, last))
slowest_is (one ∷ next ∷ rows) (suc place) row last is = slowest_is (next ∷ rows) place row (omega (arith, last)) is

-- from the end on there are no chains
pub no_chains : (length_of k : ℕ) (rows : List ChainRow) (text : List ℕ) → k ≡ length rows → text ≡ text ++ chain_lines length_of k (drop k rows)
no_chains length_of k rows text end = sym (append-nil text) ∙ ap (λ (rs : List ChainRow). text ++ chain_lines length_of k rs) (sym (drop_of_length-le rows (omega (arith, end))))

one_left : (rows : List ChainRow) (k : ℕ) (row : ChainRow) → slice_get rows k ≡ Some row → k < length rows → drop k rows ≡ row ∷ drop (k + 1) rows
one_left rows k row is within =
    drop-cons rows k row within ∙ ap (λ (r : ChainRow). r ∷ drop (suc k) rows) (get_or_from_slice_get rows k row row is) ∙ ap (λ (n : ℕ). row ∷ drop n rows) (let e : suc k ≡ k + 1 = omega arith in e)

-- and else the line of one, and those behind it
pub next_chains : (length_of k : ℕ) (rows : List ChainRow) (row : ChainRow) (before mid now : List ℕ) → slice_get rows k ≡ Some row → k < length rows → mid ≡ before ++ chain_line length_of k row → now ≡ mid ++ chain_lines length_of (k + 1) (drop (k + 1) rows) → now ≡ before ++ chain_lines length_of k (drop k rows)
next_chains length_of k rows row before mid now is within one rest =
    rest ∙ ap (λ (t : List ℕ). t ++ chain_lines length_of (k + 1) (drop (k + 1) rows)) one
    ∙ append_assoc before (chain_line length_of k row) (chain_lines length_of (k + 1) (drop (k + 1) rows))
    ∙ ap (λ (n : ℕ). before ++ (chain_line length_of k row ++ chain_lines length_of n (drop (k + 1) rows))) (let e : k + 1 ≡ suc k = omega arith in e)
    ∙ ap (λ (rs : List ChainRow). before ++ chain_lines length_of k rs) (sym (one_left rows k row is within))

-- the two lines of what is left, where the clock could be read
pub both_left : (times : Times) (reading : ℕ) (before mid now : List ℕ) (intervals seconds : ℕ) → (reading ≡ 18446744073709551615 → ⊥) → intervals ≡ left_at times reading → seconds ≡ seconds_left_at times reading
    → mid ≡ before ++ count_line (codes "left") intervals → now ≡ mid ++ count_line (codes "left-seconds") seconds → now ≡ before ++ left_lines times reading
both_left times reading before mid now intervals seconds read is are one two =
    let is_read : is_unread reading ≡ false = grind (arith, nat_tests, read) in
    rw is_read (two ∙ ap (λ (n : ℕ). mid ++ count_line (codes "left-seconds") n) are ∙ ap (λ (t : List ℕ). t ++ count_line (codes "left-seconds") (seconds_left_at times reading)) (one ∙ ap (λ (n : ℕ). before ++ count_line (codes "left") n) is)
    ∙ append_assoc before (count_line (codes "left") (left_at times reading)) (count_line (codes "left-seconds") (seconds_left_at times reading)))

-- five parts, one behind another
pub all_lines : (head left chains capacity sum a b c d e : List ℕ) → a ≡ head → b ≡ a ++ left → c ≡ b ++ chains → d ≡ c ++ capacity → e ≡ d ++ sum → e ≡ head ++ left ++ chains ++ capacity ++ sum
all_lines head left chains capacity sum a b c d e one two three four five =
    five ∙ ap (λ (t : List ℕ). t ++ sum) (four ∙ ap (λ (t : List ℕ). t ++ capacity) (three ∙ ap (λ (t : List ℕ). t ++ chains) (two ∙ ap (λ (t : List ℕ). t ++ left) one)))

-- the digits of a stream's number are 16
pub stream_short : (number : ℕ) (digits : List ℕ) → digits ≡ encode_lower (to_be_bytes w64 number) → length digits ≤ 64
stream_short number digits is =
    let bytes : length (to_be_bytes w64 number) ≡ 8 = refl in
    omega (arith, ap length is, hex_length (to_be_bytes w64 number), bytes)

-- those of a sum 64
pub sum_short : (text digits : List ℕ) → digits ≡ encode_lower (sha256 text) → length digits ≤ 64
sum_short text digits is = omega (arith, ap length is, hex_length (sha256 text), length-sha256 text)
