-- What an arrival may cost doesn't grow with the history.
use Rattle.std.proofs.Common.{◌≡◌, ℕ, ◌+◌, ◌-◌, ◌*◌, ◌≤◌, Bool, true, false, cond, ◌||◌, List, [], ◌∷◌, length, count_by, Option, Some, None, refl, subst, arith, ◌==◌}
use Rattle.std.specs.Prelude.{not, nat_lt, nat_le}
use Rattle.std.specs.List.{list_any, list_all, enumerate_from}
use Rattle.std.proofs.Math.Nat.{mul-le-mul_right}
use Rattle.std.proofs.lemmas.Bool.{and_parts, and_from, or_parts, not-true, ltb-true, ltb-false, leb-true, le-leb, eqb-true}
use Rattle.std.proofs.lemmas.List.FromFn.{length-range_with_len}
use Rattle.std.proofs.lemmas.List.Sums.{count_by-le-length}
use Rattle.tesla_base.specs.Version.{number_of}
use Rattle.tesla_base.specs.declared.names.Key.{Key}
use Rattle.tesla_base.proofs.Lists.{list_all_weaker}
use Rattle.tesla_base.proofs.Filtered.{all_filtered, filter_shorter}
use Rattle.tesla_base.proofs.Numbered.{all_enumerated, gathered_fewer}
use Rattle.tesla_base.proofs.Passing.{all_fail, all_true}
use Rattle.tesla_base.proofs.Sums.{sum_most}
use Rattle.tesla_frame.specs.Frame.{Frame, Data, Disclosure, TagRow, ChainsRise}
use Rattle.tesla_frame.specs.Reading.{frame_of}
use Rattle.tesla_frame.specs.declared.row.KeyRow.{KeyRow}
use Rattle.tesla_fitting.specs.declared.config.Config.{Config}
use Rattle.tesla_receiver.specs.Entries.{Entry}
use Rattle.tesla_fitting.specs.Fitting.{stream_of, version_in, is_early, is_outside, fields_misfit, is_misfit, is_future}
use Rattle.tesla_fitting.specs.Config.{chains, chain_row}
use Rattle.tesla_state.specs.Costs.{is_unread, gaps_by, is_reached_by, reached_by, pairs_by, most_on, most_by}
use Rattle.tesla_receiver.specs.Costs.{most_evaluations}
use Rattle.tesla_receiver.specs.History.{IsLegal, arrivals_in}
use Rattle.tesla_fitting.specs.Rows.{carried, keys_of}
use Rattle.tesla_walks.specs.Holding.{Holding}
use Rattle.tesla_state.specs.State.{State}
use Rattle.tesla_walks.specs.Tips.{tip_at, is_newer}
use Rattle.tesla_state.specs.Steps.{new_rows, bound_at}
use Rattle.tesla_receiver.proofs.Consistent.{consistent}
use Rattle.tesla_receiver.proofs.Costs.{cost_same, read_fits}
use Rattle.tesla_frame.proofs.Rising.{disclosed_rise}
use Rattle.tesla_receiver.proofs.Judged.{data_long, keys_within}
use Rattle.tesla_receiver.proofs.States.{state_of, stands_of}

-- ---- the keys of a frame

one_if_not : (b : Bool) (row : KeyRow) → length (cond b [] (row ∷ [])) ≤ 1
one_if_not true row = omega arith
one_if_not false row = omega arith

carried_few : (cfg : Config) (interval chain : ℕ) (key : Option Key) → length (carried cfg interval chain key) ≤ 1
carried_few cfg interval chain None = omega arith
carried_few cfg interval chain (Some key) = one_if_not (nat_lt interval (chain_row cfg chain).delay) (record { chain = record { 0 = chain }; index = interval - (chain_row cfg chain).delay; key = key })

-- where the first chain stands, no more follow than are left
rise_few : (n : ℕ) (first : KeyRow) (rows : List KeyRow) → ChainsRise (first ∷ rows) → list_all (λ row. nat_lt row.chain.0 n) (first ∷ rows) ≡ true → first.chain.0 + length (first ∷ rows) ≤ n
rise_few n first [] rise within =
    let parts = and_parts (nat_lt first.chain.0 n) true within in
    let below = ltb-true first.chain.0 n parts.0 in omega (arith, below)
rise_few n first (next ∷ rows) rise within =
    let parts = and_parts (nat_lt first.chain.0 n) (list_all (λ row. nat_lt row.chain.0 n) (next ∷ rows)) within in
    let rest = rise_few n next rows rise.1 parts.1 in
    let above = rise.0 in omega (arith, rest, above)

rows_few : (n : ℕ) (rows : List KeyRow) → ChainsRise rows → list_all (λ row. nat_lt row.chain.0 n) rows ≡ true → length rows ≤ n
rows_few n [] rise within = omega arith
rows_few n (first ∷ rows) rise within = let all = rise_few n first rows rise within in omega (arith, all)

keys_few : (cfg : Config) (bytes : List ℕ) (frame : Frame) → frame_of bytes ≡ Some frame → is_misfit cfg frame ≡ false → length (keys_of cfg frame) ≤ length cfg.setup.rows
keys_few cfg bytes (Data f) read fits =
    let fields = (or_parts (not (number_of (version_in (Data f)) == number_of cfg.setup.version)) (fields_misfit cfg (Data f)) fits).1 in
    let long : length f.rows ≡ length cfg.setup.rows =
    eqb-true (length f.rows) (length cfg.setup.rows)
    (data_long (f.name.interval == 0) (nat_lt cfg.setup.times.last f.name.interval) (length f.rows == length cfg.setup.rows) (not (f.tag_length == cfg.setup.tag_length))
    (list_any (λ (p : ℕ × TagRow). is_early cfg f.name.interval p.0 p.1.key) (enumerate_from 0 f.rows)) fields) in
    let few = gathered_fewer (λ (p : ℕ × TagRow). carried cfg f.name.interval p.0 p.1.key) 0 f.rows (λ n row. carried_few cfg f.name.interval n row.key) in
    omega (arith, few, long)
keys_few cfg bytes (Disclosure f) read fits = rows_few (length cfg.setup.rows) f.rows (disclosed_rise bytes f read) (keys_within cfg (Disclosure f) fits)

-- ---- how far they are

abbrev is_until : ℕ → KeyRow → Bool
is_until last row = nat_le row.index last

data_until : (a b c d e : Bool) → (a || b || c || d || e) ≡ false → b ≡ false
data_until true b c d e h = absurd (cc)
data_until false true c d e h = absurd (cc)
data_until false false c d e h = refl

until_if : (last chain index : ℕ) (key : Key) (b : Bool) → index ≤ last → list_all (is_until last) (cond b [] (record { chain = record { 0 = chain }; index = index; key = key } ∷ [])) ≡ true
until_if last chain index key true h = refl
until_if last chain index key false h = and_from (nat_le index last) true (le-leb index last h) refl

carried_until : (cfg : Config) (last interval chain : ℕ) (key : Option Key) → interval ≤ last → list_all (is_until last) (carried cfg interval chain key) ≡ true
carried_until cfg last interval chain None h = refl
carried_until cfg last interval chain (Some key) h = until_if last chain (interval - (chain_row cfg chain).delay) key (nat_lt interval (chain_row cfg chain).delay) (omega (arith, h))

inside_last : (a b : Bool) → not (not a || b) ≡ true → b ≡ false
inside_last true b h = not-true b h
inside_last false b h = absurd (cc)

keys_until : (cfg : Config) (frame : Frame) → fields_misfit cfg frame ≡ false → list_all (is_until cfg.setup.times.last) (keys_of cfg frame) ≡ true
keys_until cfg (Data f) fields =
    let below = ltb-false cfg.setup.times.last f.name.interval
    (data_until (f.name.interval == 0) (nat_lt cfg.setup.times.last f.name.interval) (not (length f.rows == length cfg.setup.rows)) (not (f.tag_length == cfg.setup.tag_length))
    (list_any (λ (p : ℕ × TagRow). is_early cfg f.name.interval p.0 p.1.key) (enumerate_from 0 f.rows)) fields) in
    all_enumerated (is_until cfg.setup.times.last) (λ (p : ℕ × TagRow). carried cfg f.name.interval p.0 p.1.key) 0 f.rows (λ k row at. carried_until cfg cfg.setup.times.last f.name.interval (0 + k) row.key below)
keys_until cfg (Disclosure f) fields =
    list_all_weaker (λ row. not (is_outside cfg row)) (is_until cfg.setup.times.last) f.rows
    (λ row e. le-leb row.index cfg.setup.times.last (ltb-false cfg.setup.times.last row.index (inside_last (nat_lt row.chain.0 (length cfg.setup.rows)) (nat_lt cfg.setup.times.last row.index) e)))
    (all_fail (is_outside cfg) f.rows fields)

-- ---- an arrival

module _ (s : State) (bytes : List ℕ) where
  gaps_few : (frame : Frame) → frame_of bytes ≡ Some frame → is_misfit s.config frame ≡ false → gaps_by s frame ≤ length s.config.setup.rows * s.config.setup.times.last
  gaps_few frame read fits =
      let last : ℕ = s.config.setup.times.last in
      let fields = (or_parts (not (number_of (version_in frame) == number_of s.config.setup.version)) (fields_misfit s.config frame) fits).1 in
      let until = all_filtered (is_until last) (is_newer s.tips) (keys_of s.config frame) (keys_until s.config frame fields) in
      let sum = sum_most (λ row. row.index - (tip_at s.tips row.chain.0).index) last (is_until last) (new_rows s frame) until (λ row e. (let below = leb-true row.index last e in omega (arith, below))) in
      let fewer = filter_shorter (is_newer s.tips) (keys_of s.config frame) in
      let few = keys_few s.config bytes frame read fits in
      let long : length (new_rows s frame) ≤ length s.config.setup.rows = omega (arith, fewer, few) in
      let more : length (new_rows s frame) * last ≤ length s.config.setup.rows * last = mul-le-mul_right last long in
      omega (arith, sum, more)

  item_few : (new : List KeyRow) (item : Holding) (b : Bool) → cond b 0 (count_by (is_reached_by s.tips new item) (chains s.config)) ≤ length s.config.setup.rows
  item_few new item true = omega arith
  item_few new item false =
      let count = count_by-le-length (is_reached_by s.tips new item) (chains s.config) in
      let long = length-range_with_len 0 (length s.config.setup.rows) in
      omega (arith, count, long)

  pairs_few : (frame : Frame) → length s.held ≤ s.config.capacity → pairs_by s frame ≤ s.config.capacity * length s.config.setup.rows
  pairs_few frame few =
      let sum = sum_most (reached_by s (new_rows s frame)) (length s.config.setup.rows) (λ item. true) s.held (all_true s.held) (λ item e. item_few (new_rows s frame) item item.released) in
      let more : length s.held * length s.config.setup.rows ≤ s.config.capacity * length s.config.setup.rows = mul-le-mul_right (length s.config.setup.rows) few in
      omega (arith, sum, more)

  unless_few : (b : Bool) (m n : ℕ) → (b ≡ false → m ≤ n) → cond b 0 m ≤ n
  unless_few true m n h = omega arith
  unless_few false m n h = h refl

  most_few : (bound : Option ℕ) (o : Option Frame) → frame_of bytes ≡ o → length s.held ≤ s.config.capacity → most_on s bound o ≤ 2 * (length s.config.setup.rows * s.config.setup.times.last) + 2 * (s.config.capacity * length s.config.setup.rows)
  most_few bound None read few = omega arith
  most_few bound (Some frame) read few =
      unless_few (is_unread s.config bound frame) (2 * gaps_by s frame + 2 * pairs_by s frame) (2 * (length s.config.setup.rows * s.config.setup.times.last) + 2 * (s.config.capacity * length s.config.setup.rows))
      (λ e. (let fits = read_fits (not ((stream_of frame).0 == s.config.setup.stream.0)) (is_misfit s.config frame) (is_future s.config bound frame) e in
      let gap = gaps_few frame read fits in
      let pair = pairs_few frame few in
      omega (arith, gap, pair)))

-- the most evaluations, whatever came before
pub cost_bounded : (cfg : Config) (h : List Entry) → IsLegal cfg h → (reading : ℕ) (bytes : List ℕ) → most_evaluations cfg (arrivals_in h) reading bytes ≤ 2 * (length cfg.setup.rows * cfg.setup.times.last) + 2 * (cfg.capacity * length cfg.setup.rows)
unfolding most_by
cost_bounded cfg h legal reading bytes =
    let s : State = state_of cfg h 0 in
    let st = stands_of cfg h 0 legal in
    subst (λ (n : ℕ). n ≤ 2 * (length cfg.setup.rows * cfg.setup.times.last) + 2 * (cfg.capacity * length cfg.setup.rows)) (cost_same s h st reading bytes)
    (most_few s bytes (bound_at s reading) (frame_of bytes) refl (consistent s h st).few)
