-- The setup that is made from seeds.
use Rattle.std.proofs.Common.{◌≡◌, ◌∙◌, ℕ, zero, suc, ◌+◌, ◌-◌, ◌*◌, ◌<◌, ◌≤◌, ◌^◌, List, [], ◌∷◌, ◌++◌, length, take, get_or, Some, Result, Ok, Err, refl, sym, ap, arith}
use Rattle.std.specs.List.{AllByRecursion, slice_get}
use Rattle.std.proofs.lemmas.Option.{get_or_from_slice_get}
use Rattle.std.proofs.lemmas.Bool.Decides.{nat_tests}
use Rattle.tesla_base.specs.Version.{shortest_tag, longest_tag, IsTagLength}
use Rattle.tesla_base.specs.declared.names.Key.{Key}
use Rattle.tesla_clock.specs.Schedule.{IsSchedule}
use Rattle.tesla_commit.specs.ChainRows.{parts_judged}
use Rattle.tesla_commit.specs.JudgedLines.{Answers, within}
use Rattle.tesla_commit.specs.Parts.{Parts, IsRow, DelaysRise, IsSetupOf}
use Rattle.tesla_commit.specs.declared.chain_row.ChainRow.{ChainRow}
use Rattle.tesla_commit.specs.declared.refusal.SetupKind.{SetupKind}
use Rattle.tesla_commit.specs.declared.refusal.SetupRefusal.{SetupRefusal}
use Rattle.tesla_commit.specs.declared.refusal.SetupRefusal.TheVariants as refusals
use Rattle.tesla_commit.proofs.RowLaws.{setup_again}
use Rattle.tesla_prf.specs.Keys.{walk}
use Rattle.tesla_sender_setup.specs.Made.{rows_of, setup_made}
use Rattle.tesla_sender_setup.specs.Parameters.{StreamParameters}
use Rattle.tesla_sender_setup.specs.Delays.{RiseAbove, AreDelays}

-- ---- rows

-- one chain more
pub rows_more : (last i d : ℕ) (k : Key) (delays : List ℕ) (seeds : List Key) → i < length delays → i < length seeds → rows_of last (take (i + 1) delays) (take (i + 1) seeds) ≡ rows_of last (take i delays) (take i seeds) ++ record { delay = get_or delays i d; index = 0; key = walk (get_or seeds i k) last } ∷ []
rows_more last i d k [] seeds here there = absurd (omega arith)
rows_more last i d k (delay ∷ delays) [] here there = absurd (omega arith)
rows_more last zero d k (delay ∷ delays) (seed ∷ seeds) here there = refl
rows_more last (suc i) d k (delay ∷ delays) (seed ∷ seeds) here there =
    let count : suc i + 1 ≡ suc (i + 1) = omega arith in
    rw count (ap (λ (rows : List ChainRow). record { delay = delay; index = 0; key = walk seed last } ∷ rows) (rows_more last i d k delays seeds (omega arith) (omega arith)))

sub-zero : (n : ℕ) → n - 0 ≡ n
sub-zero n = omega arith

-- the next chain was pushed
pub rows_next : (last i : ℕ) (delays : List ℕ) (seeds : List Key) (key walked : Key) (before now : List ChainRow) → i < length delays → length seeds ≡ length delays → slice_get seeds i ≡ Some key → walked ≡ walk key (last - 0) → before ≡ rows_of last (take i delays) (take i seeds) → now ≡ before ++ record { delay = get_or delays i 0; index = 0; key = walked } ∷ [] → now ≡ rows_of last (take (i + 1) delays) (take (i + 1) seeds)
rows_next last i delays seeds key walked before now here same got is first more =
    let whole : walked ≡ walk (get_or seeds i key) last = is ∙ ap (walk key) (sub-zero last) ∙ ap (λ (k : Key). walk k last) (sym (get_or_from_slice_get seeds i key key got)) in
    more ∙ ap (λ (rows : List ChainRow). rows ++ record { delay = get_or delays i 0; index = 0; key = walked } ∷ []) first
    ∙ ap (λ (k : Key). rows_of last (take i delays) (take i seeds) ++ record { delay = get_or delays i 0; index = 0; key = k } ∷ []) whole
    ∙ sym (rows_more last i 0 key delays seeds here (omega arith))

-- and it took so many steps
pub cost_next : (last i old before now : ℕ) → before ≡ old + i * last → now ≡ before + (last - 0) → now ≡ old + (i + 1) * last
cost_next last i old before now first more = omega arith

-- a chain for each delay
pub rows_count : (last : ℕ) (delays : List ℕ) (seeds : List Key) → length seeds ≡ length delays → length (rows_of last delays seeds) ≡ length delays
rows_count last [] seeds same = refl
rows_count last (delay ∷ delays) [] same = absurd (omega arith)
rows_count last (delay ∷ delays) (seed ∷ seeds) same =
    let others = rows_count last delays seeds (omega arith) in
    omega arith

each_is : (last before : ℕ) (delays : List ℕ) (seeds : List Key) → RiseAbove before delays → AllByRecursion (IsRow last) (rows_of last delays seeds)
each_is last before [] seeds rise = tt
each_is last before (delay ∷ delays) [] rise = tt
each_is last before (delay ∷ delays) (seed ∷ seeds) rise =
    let above = rise.0 in
    (record { shortest = omega arith; longest = rise.1; within = omega arith }, each_is last delay delays seeds rise.2)

rise_is : (last before : ℕ) (delays : List ℕ) (seeds : List Key) → RiseAbove before delays → DelaysRise (rows_of last delays seeds)
rise_is last before [] seeds rise = tt
rise_is last before (delay ∷ delays) [] rise = tt
rise_is last before (delay ∷ []) (seed ∷ seeds) rise = tt
rise_is last before (delay ∷ next ∷ delays) (seed ∷ []) rise = tt
rise_is last before (delay ∷ next ∷ delays) (seed ∷ other ∷ seeds) rise = (rise.2.0, rise_is last delay (next ∷ delays) (other ∷ seeds) rise.2)

-- ---- the setup

-- what the parameters and the seeds make is a setup
pub setup_is : (it : StreamParameters) (seeds : List Key) → it.stream.0 < 2 ^ 64 → it.times.start < 2 ^ 64 → IsSchedule it.times → IsTagLength it.version it.tag_length → AreDelays it.version it.delays → length seeds ≡ length it.delays → IsSetupOf (setup_made it seeds)
setup_is it seeds stream start times size delays same =
    let count = rows_count it.times.last it.delays seeds same in
    let some = delays.some in
    let few = delays.few in
    record {
      stream = stream;
      start = start;
      times = times;
      tag_length = size;
      some = omega arith;
      few = omega arith;
      each = each_is it.times.last 0 it.delays seeds delays.rise;
      rise = rise_is it.times.last 0 it.delays seeds delays.rise;
    }

within_again : (low high n : ℕ) → low ≤ n → n ≤ high → within low high n ≡ Ok n
within_again low high n least most = grind (arith, nat_tests)

-- parts within the limits are not refused
parts_again : (parts : Parts) → IsSetupOf parts → parts_judged parts.version parts.stream parts.times parts.tag_length parts.rows ≡ Ok parts
unfolding parts_judged
parts_again parts is = rw (within_again (shortest_tag parts.version) (longest_tag parts.version) parts.tag_length is.tag_length.shortest is.tag_length.longest, setup_again parts is) refl

answered_by : (parts : Parts) (result : Result Parts SetupRefusal) (judged : Result Parts (ℕ × SetupKind)) → judged ≡ Ok parts → Answers (λ setup. setup) result judged → result ≡ Ok parts
answered_by parts (Ok setup) judged e answers = let both : Ok parts ≡ Ok setup = sym e ∙ answers in cc
answered_by parts (Err (refusals.At line kind)) judged e answers = absurd (let no : Ok parts ≡ Err (line, kind) = sym e ∙ answers in cc)
answered_by parts (Err refusals.NoMemory) judged e answers = absurd answers

-- they are the setup
pub answered : (parts : Parts) (result : Result Parts SetupRefusal) → IsSetupOf parts → Answers (λ setup. setup) result (parts_judged parts.version parts.stream parts.times parts.tag_length parts.rows) → result ≡ Ok parts
answered parts result is answers = answered_by parts result _ (parts_again parts is) answers
