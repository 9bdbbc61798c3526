-- Judging rows one after another.
use Rattle.std.proofs.Common.{◌≡◌, ◌≢◌, ℕ, ◌+◌, ◌^◌, ◌<◌, ◌≤◌, Bool, true, false, cond, eqb, List, [], ◌∷◌, ◌++◌, length, take, drop, get_or, Result, Ok, Err, refl, sym, ap, subst, ◌∙◌, append_assoc, add-one, arith}
use Rattle.std.specs.Prelude.{◌||◌, nat_lt, nat_le}
use Rattle.std.specs.List.{AllByRecursion}
use Rattle.std.proofs.lemmas.Bool.Decides.{nat_tests}
use Rattle.std.proofs.lemmas.List.{append-nil, take_more, take_all, drop_all}
use Rattle.std.proofs.Math.Seq.{drop-cons}
use Rattle.tesla_base.specs.Version.{IsTagLength}
use Rattle.tesla_base.specs.declared.version.Version.{Version}
use Rattle.tesla_base.specs.declared.version.Version.TheVariants.{One, Two}
use Rattle.tesla_clock.specs.Schedule.{IsSchedule}
use Rattle.tesla_commit.specs.Parts.{Parts, IsRow, DelaysRise, IsSetupOf}
use Rattle.tesla_commit.specs.JudgedLines.{◌>>=◌, at}
use Rattle.tesla_commit.specs.ChainRows.{row_judged, first_line, end_line, rows_judged}
use Rattle.tesla_commit.specs.SetupText.{HasKey}
use Rattle.tesla_commit.specs.declared.chain_row.ChainRow.{ChainRow}
use Rattle.tesla_commit.specs.declared.refusal.SetupKind.{SetupKind}
use Rattle.tesla_commit.specs.declared.refusal.SetupKind.TheVariants.{NoChain, TooManyChains, DelaysNotRising, IndexPastLast, LimitPassed}

-- rows before those that are judged
abbrev pub onto : {A E : Type 0} → List A → Result (List A) E → Result (List A) E
onto prefix (Ok others) = Ok (prefix ++ others)
onto prefix (Err e) = Err e

-- a step that was not refused
pub bind_ok : {A B E : Type 0} (r : Result A E) (f : A → Result B E) (y : B) → (r >>= f) ≡ Ok y → (x : A) × (r ≡ Ok x) × (f x ≡ Ok y)
bind_ok (Ok x) f y e = (x, refl, e)
bind_ok (Err d) f y e = absurd cc

-- a test that did not refuse
pub guard_ok : {A E : Type 0} (b : Bool) (e : E) (r : Result A E) (x : A) → cond b (Err e) r ≡ Ok x → (b ≡ false) × (r ≡ Ok x)
guard_ok true e r x h = absurd cc
guard_ok false e r x h = (refl, h)

pub at_ok : {A E : Type 0} (line : ℕ) (r : Result A E) (x : A) → at line r ≡ Ok x → r ≡ Ok x
at_ok line (Ok y) x h = cc
at_ok line (Err kind) x h = absurd cc

pub ok_is : {A E : Type 0} (x y : A) (r : Result A E) → r ≡ Ok x → r ≡ Ok y → x ≡ y
ok_is x y r h k = cc

-- a row that is not refused
pub record IsNext (last before : ℕ) (row : ChainRow) : Type 0 where
  pub limits : IsRow last row
  pub above : before < row.delay

pub row_is : (last before : ℕ) (row other : ChainRow) → row_judged last before row ≡ Ok other → (row ≡ other) × IsNext last before row
row_is last before row other h =
    let a = guard_ok (nat_lt row.delay 1 || nat_lt 4096 row.delay) LimitPassed (cond (nat_le row.delay before) (Err DelaysNotRising) (cond (nat_lt last row.index) (Err IndexPastLast) (Ok row))) other h in
    let b = guard_ok (nat_le row.delay before) DelaysNotRising (cond (nat_lt last row.index) (Err IndexPastLast) (Ok row)) other a.1 in
    let d = guard_ok (nat_lt last row.index) IndexPastLast (Ok row) other b.1 in (
      ok_is row other (Ok row) refl d.1,
      record {
        limits = record { shortest = grind (arith, nat_tests); longest = grind (arith, nat_tests); within = grind (arith, nat_tests) };
        above = grind (arith, nat_tests);
      },
    )

pub row_again : (last before : ℕ) (row : ChainRow) → IsNext last before row → row_judged last before row ≡ Ok row
row_again last before row h =
    let shortest = h.limits.shortest in
    let longest = h.limits.longest in
    let within = h.limits.within in
    let above = h.above in
    let a : nat_lt row.delay 1 ≡ false = grind (arith, nat_tests) in
    let b : nat_lt 4096 row.delay ≡ false = grind (arith, nat_tests) in
    let d : nat_le row.delay before ≡ false = grind (arith, nat_tests) in
    let e : nat_lt last row.index ≡ false = grind (arith, nat_tests) in
    rw (a, b, d, e) refl

pub onto_first : {A E : Type 0} (prefix : List A) (x : A) (r : Result (List A) E) → onto prefix (r >>= λ others. Ok (x ∷ others)) ≡ onto (prefix ++ x ∷ []) r
onto_first prefix x (Ok others) = ap Ok (sym (append_assoc prefix (x ∷ []) others))
onto_first prefix x (Err e) = refl

pub not_line : (line other : ℕ) → line ≢ other → eqb line other ≡ false
not_line line other h = grind (arith, nat_tests)

-- line 6 or 7 is that of the first chain
pub first_bounds : (version : Version) → (6 ≤ first_line version) × (first_line version ≤ 7)
first_bounds One = (omega arith, omega arith)
first_bounds Two = (omega arith, omega arith)

-- no version has more than eight chains
pub end_bound : (version : Version) → end_line version ≤ first_line version + 8
end_bound One = omega arith
end_bound Two = omega arith

pub same_line : (line other : ℕ) → line ≡ other → eqb line other ≡ true
same_line line other h = grind (arith, nat_tests)

pub rows_step : (version : Version) (last line before : ℕ) (prefix rows : List ChainRow) (row other : ChainRow) → line ≢ end_line version → row_judged last before row ≡ Ok other → onto prefix (rows_judged version last line before (row ∷ rows)) ≡ onto (prefix ++ row ∷ []) (rows_judged version last (line + 1) row.delay rows)
unfolding rows_judged
rows_step version last line before prefix rows row other ne h =
    let e = (row_is last before row other h).0 in
    let judged : row_judged last before row ≡ Ok row = h ∙ ap Ok (sym e) in
    let test = not_line line (end_line version) ne in
    rw (test, judged) (onto_first prefix row (rows_judged version last (line + 1) row.delay rows))

pub rows_refused : (version : Version) (last line before : ℕ) (prefix rows : List ChainRow) (row : ChainRow) (kind : SetupKind) → line ≢ end_line version → row_judged last before row ≡ Err kind → onto prefix (rows_judged version last line before (row ∷ rows)) ≡ Err (line, kind)
unfolding rows_judged
rows_refused version last line before prefix rows row kind ne h =
    let test = not_line line (end_line version) ne in
    rw (test, h) refl

pub rows_over : (version : Version) (last line before : ℕ) (prefix rows : List ChainRow) (row : ChainRow) → line ≡ end_line version → onto prefix (rows_judged version last line before (row ∷ rows)) ≡ Err (line, TooManyChains)
unfolding rows_judged
rows_over version last line before prefix rows row e =
    let test = same_line line (end_line version) e in
    rw test refl

pub rows_none : (version : Version) (last line before : ℕ) (prefix : List ChainRow) → line ≡ first_line version → onto prefix (rows_judged version last line before []) ≡ Err (line, NoChain)
unfolding rows_judged
rows_none version last line before prefix e =
    let test = same_line line (first_line version) e in
    rw test refl

pub rows_end : (version : Version) (last line before : ℕ) (prefix : List ChainRow) → line ≢ first_line version → onto prefix (rows_judged version last line before []) ≡ Ok prefix
unfolding rows_judged
rows_end version last line before prefix ne =
    let test = not_line line (first_line version) ne in
    rw test (ap Ok (append-nil prefix))

from_index : (rows : List ChainRow) (i : ℕ) (d : ChainRow) → i < length rows → drop i rows ≡ get_or rows i d ∷ drop (i + 1) rows
from_index rows i d lt = rw (add-one, drop-cons rows i d) refl

pub at_step : (version : Version) (last line before i : ℕ) (rows : List ChainRow) (d other : ChainRow) → i < length rows → line ≢ end_line version → row_judged last before (get_or rows i d) ≡ Ok other → onto (take i rows) (rows_judged version last line before (drop i rows)) ≡ onto (take (i + 1) rows) (rows_judged version last (line + 1) (get_or rows i d).delay (drop (i + 1) rows))
at_step version last line before i rows d other lt ne h =
    let e = from_index rows i d lt in
    let t : take (i + 1) rows ≡ take i rows ++ get_or rows i d ∷ [] = take_more rows i d lt in
    rw (e, t) (rows_step version last line before (take i rows) (drop (i + 1) rows) (get_or rows i d) other ne h)

-- one row more that has what the others have
all_more : {X : Type 0} (P : X → Type 0) (xs : List X) (x : X) → AllByRecursion P xs → P x → AllByRecursion P (xs ++ x ∷ [])
all_more P [] x h k = (k, tt)
all_more P (y ∷ xs) x h k = (h.0, all_more P xs x h.1 k)

-- a row that is judged as it stands has the key of the judged one
pub keys_more : (last before i : ℕ) (rows : List ChainRow) (d other : ChainRow) → i < length rows → row_judged last before (get_or rows i d) ≡ Ok other → HasKey other → AllByRecursion HasKey (take i rows) → AllByRecursion HasKey (take (i + 1) rows)
keys_more last before i rows d other lt judged key keys =
    let same : HasKey (get_or rows i d) = subst HasKey (sym (row_is last before (get_or rows i d) other judged).0) key in
    subst (λ (rs : List ChainRow). AllByRecursion HasKey rs) (sym (take_more rows i d lt)) (all_more HasKey (take i rows) (get_or rows i d) keys same)

pub at_refused : (version : Version) (last line before i : ℕ) (rows : List ChainRow) (d : ChainRow) (kind : SetupKind) → i < length rows → line ≢ end_line version → row_judged last before (get_or rows i d) ≡ Err kind → onto (take i rows) (rows_judged version last line before (drop i rows)) ≡ Err (line, kind)
at_refused version last line before i rows d kind lt ne h =
    rw (from_index rows i d lt) (rows_refused version last line before (take i rows) (drop (i + 1) rows) (get_or rows i d) kind ne h)

pub at_over : (version : Version) (last line before i : ℕ) (rows : List ChainRow) (d : ChainRow) → i < length rows → line ≡ end_line version → onto (take i rows) (rows_judged version last line before (drop i rows)) ≡ Err (line, TooManyChains)
at_over version last line before i rows d lt e =
    rw (from_index rows i d lt) (rows_over version last line before (take i rows) (drop (i + 1) rows) (get_or rows i d) e)

pub at_none : (version : Version) (last line before i : ℕ) (rows : List ChainRow) → length rows ≤ i → line ≡ first_line version → onto (take i rows) (rows_judged version last line before (drop i rows)) ≡ Err (line, NoChain)
at_none version last line before i rows le e = rw (drop_all i rows le) (rows_none version last line before (take i rows) e)

pub at_end : (version : Version) (last line before i : ℕ) (rows : List ChainRow) → length rows ≤ i → line ≢ first_line version → onto (take i rows) (rows_judged version last line before (drop i rows)) ≡ Ok rows
at_end version last line before i rows le ne = rw (drop_all i rows le, take_all i rows le) (rows_end version last line before rows ne)

-- ---- what rows that are not refused are

-- each delay is above the one before, the first above that number
abbrev pub RiseFrom : ℕ → List ChainRow → Type 0
RiseFrom before [] = Unit {0}
RiseFrom before (row ∷ rows) = (before < row.delay) × RiseFrom row.delay rows

pub rise_is : (before : ℕ) (rows : List ChainRow) → RiseFrom before rows → DelaysRise rows
rise_is before [] h = tt
rise_is before (row ∷ []) h = tt
rise_is before (row ∷ next ∷ rows) h = (h.1.0, rise_is row.delay (next ∷ rows) h.1)

rise_after : (row : ChainRow) (rows : List ChainRow) → DelaysRise (row ∷ rows) → RiseFrom row.delay rows
rise_after row [] rise = tt
rise_after row (next ∷ rows) rise = (rise.0, rise_after next rows rise.1)

pub rise_again : (last : ℕ) (rows : List ChainRow) → AllByRecursion (IsRow last) rows → DelaysRise rows → RiseFrom 0 rows
rise_again last [] each rise = tt
rise_again last (row ∷ rows) each rise = (each.0.shortest, rise_after row rows rise)

-- rows that are not refused from that line on
pub record AreRows (version : Version) (last line before : ℕ) (rows : List ChainRow) : Type 0 where
  pub some : first_line version < line + length rows
  pub few : line + length rows ≤ end_line version
  pub each : AllByRecursion (IsRow last) rows
  pub rise : RiseFrom before rows

pub rows_are : (version : Version) (last line before : ℕ) (rows other : List ChainRow) → first_line version ≤ line → line ≤ end_line version → rows_judged version last line before rows ≡ Ok other → (rows ≡ other) × AreRows version last line before rows
unfolding rows_judged
rows_are version last line before [] other low high h =
    let g = guard_ok (eqb line (first_line version)) (line, NoChain) (Ok []) other h in
    let ne : line ≢ first_line version = grind (arith, nat_tests, g.0) in
    (ok_is [] other (Ok []) refl g.1, record { some = omega arith; few = omega arith; each = tt; rise = tt })
rows_are version last line before (row ∷ rows) other low high h =
    let g = guard_ok (eqb line (end_line version)) (line, TooManyChains) (at line (row_judged last before row) >>= λ first. rows_judged version last (line + 1) first.delay rows >>= λ others. Ok (first ∷ others)) other h in
    let ne : line ≢ end_line version = grind (arith, nat_tests, g.0) in
    let a = bind_ok (at line (row_judged last before row)) (λ first. rows_judged version last (line + 1) first.delay rows >>= λ others. Ok (first ∷ others)) other g.1 in
    let one = row_is last before row a.0 (at_ok line (row_judged last before row) a.0 a.1) in
    let b = bind_ok (rows_judged version last (line + 1) a.0.delay rows) (λ others. Ok (a.0 ∷ others)) other a.2 in
    let two = rows_are version last (line + 1) a.0.delay rows b.0 (omega arith) (omega arith) b.1 in
    let same : row.delay ≡ a.0.delay = ap (λ (r : ChainRow). r.delay) one.0 in
    let whole : (row ∷ rows) ≡ other = ap (λ (r : ChainRow). r ∷ rows) one.0 ∙ ap (λ (rs : List ChainRow). a.0 ∷ rs) two.0 ∙ ok_is (a.0 ∷ b.0) other (Ok (a.0 ∷ b.0)) refl b.2 in (
      whole,
      record {
        some = omega (arith, two.1.some);
        few = omega (arith, two.1.few);
        each = (one.1.limits, two.1.each);
        rise = (one.1.above, subst (λ (n : ℕ). RiseFrom n rows) (sym same) two.1.rise);
      },
    )

pub rows_again : (version : Version) (last line before : ℕ) (rows : List ChainRow) → AreRows version last line before rows → rows_judged version last line before rows ≡ Ok rows
unfolding rows_judged
rows_again version last line before [] h =
    let some = h.some in
    let ne : line ≢ first_line version = omega arith in
    let test = not_line line (first_line version) ne in
    rw test refl
rows_again version last line before (row ∷ rows) h =
    let few = h.few in
    let ne : line ≢ end_line version = omega arith in
    let test = not_line line (end_line version) ne in
    let one = row_again last before row (record { limits = h.each.0; above = h.rise.0 }) in
    let some = h.some in
    let two = rows_again version last (line + 1) row.delay rows (record { some = omega arith; few = omega arith; each = h.each.1; rise = h.rise.1 }) in
    rw (test, one, two) refl

-- ---- a setup of rows that are not refused

pub setup_is : (parts : Parts) (other : List ChainRow) → parts.stream.0 < 2 ^ 64 → parts.times.start < 2 ^ 64 → IsSchedule parts.times → IsTagLength parts.version parts.tag_length → rows_judged parts.version parts.times.last (first_line parts.version) 0 parts.rows ≡ Ok other → IsSetupOf parts
setup_is parts other stream start times tag h =
    let a = (rows_are parts.version parts.times.last (first_line parts.version) 0 parts.rows other (omega arith) (omega arith) h).1 in
    let some = a.some in
    let few = a.few in
    record { stream = stream; start = start; times = times; tag_length = tag; some = omega arith; few = omega arith; each = a.each; rise = rise_is 0 parts.rows a.rise }

pub setup_again : (parts : Parts) → IsSetupOf parts → rows_judged parts.version parts.times.last (first_line parts.version) 0 parts.rows ≡ Ok parts.rows
setup_again parts h =
    let some = h.some in
    let few = h.few in
    rows_again parts.version parts.times.last (first_line parts.version) 0 parts.rows (record { some = omega arith; few = omega arith; each = h.each; rise = rise_again parts.times.last parts.rows h.each h.rise })
