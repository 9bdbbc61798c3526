-- Which streams are over where a feed over a list is opened.
use Rattle.std.proofs.Common.{◌≡◌, ◌∙◌, ◌<◌, ◌≤◌, ℕ, ◌+◌, ◌*◌, Bool, true, false, List, [], ◌∷◌, ◌++◌, length, take, Some, refl, sym, ap, subst, arith}
use Rattle.std.specs.Prelude.{if◌then◌else◌, ◌&&◌, nat_lt, slice_get}
use Rattle.std.specs.List.{list_all}
use Rattle.std.proofs.lemmas.List.Folds.{list_all-append, list_all_at}
use Rattle.std.proofs.lemmas.List.{take_all, take_more}
use Rattle.std.proofs.lemmas.Option.{get_or_from_slice_get}
use Rattle.tesla_base.specs.declared.names.Key.{Key}
use Rattle.tesla_clock.specs.Schedule.{Times}
use Rattle.tesla_commit.specs.Parts.{Parts}
use Rattle.tesla_commit.specs.declared.chain_row.ChainRow.{ChainRow}
use Rattle.tesla_sender.specs.Made.{Stream, chains_from}
use Rattle.tesla_feed.specs.Fed.{has_ended}
use Rattle.tesla_feeds.specs.Fed.{lasting}
use Rattle.tesla_feeds.specs.Later.{AreOf}

-- ---- one stream

-- a chain is over
abbrev pub ends_by : Times → ℕ → ChainRow → Bool
ends_by times opening row = nat_lt (times.start + (times.last + 1 + row.delay + 64) * times.length) opening

-- all of a setup are
abbrev pub rows_end : Parts → ℕ → List ChainRow → Bool
rows_end setup opening rows = list_all (ends_by setup.times opening) rows

chains_end : (times : Times) (opening last number : ℕ) (rows : List ChainRow) (seeds : List Key) → length seeds ≡ length rows
    → list_all (ends_by times opening) rows ≡ list_all (λ chain. nat_lt (times.start + (times.last + 1 + chain.row.delay + 64) * times.length) opening) (chains_from last number rows seeds)
chains_end times opening last number [] seeds each = refl
chains_end times opening last number (row ∷ rows) [] each = absurd (omega (arith, each))
chains_end times opening last number (row ∷ rows) (seed ∷ seeds) each =
    ap (λ (b : Bool). ends_by times opening row && b) (chains_end times opening last (number + 1) rows seeds (omega (arith, each)))

-- and then the stream is over
pub setup_ended : (stream : Stream) (setup : Parts) (opening : ℕ) (ended : Bool) → ended ≡ rows_end setup opening setup.rows → stream.setup ≡ setup → length stream.seeds ≡ length setup.rows → ended ≡ has_ended stream opening
setup_ended stream setup opening ended is same each =
    is ∙ ap (λ (s : Parts). rows_end s opening s.rows) (sym same)
    ∙ chains_end stream.setup.times opening stream.setup.times.last 0 stream.setup.rows stream.seeds (each ∙ ap (λ (s : Parts). length s.rows) (sym same))

-- one row more
pub row_ended : (setup : Parts) (opening i : ℕ) (row : ChainRow) (times : Times) (ended : Bool) → ended ≡ ends_by times opening row → times ≡ setup.times → ended ≡ true → i < length setup.rows → slice_get setup.rows i ≡ Some row → rows_end setup opening (take i setup.rows) ≡ true
    → rows_end setup opening (take (i + 1) setup.rows) ≡ true
row_ended setup opening i row times ended is same ended_is lt at before =
    let further : take (i + 1) setup.rows ≡ take i setup.rows ++ row ∷ [] = take_more setup.rows i row lt ∙ ap (λ (r : ChainRow). take i setup.rows ++ r ∷ []) (get_or_from_slice_get setup.rows i row row at) in
    let one : ends_by setup.times opening row ≡ true = ap (λ (t : Times). ends_by t opening row) (sym same) ∙ sym is ∙ ended_is in
    ap (rows_end setup opening) further
    ∙ list_all-append (ends_by setup.times opening) (take i setup.rows) (row ∷ [])
    ∙ ap (λ (b : Bool). b && (ends_by setup.times opening row && true)) before
    ∙ ap (λ (b : Bool). b && true) one

-- one of them isn't over
pub row_lasts : (setup : Parts) (opening i : ℕ) (row : ChainRow) (times : Times) (ended : Bool) → ended ≡ ends_by times opening row → times ≡ setup.times → ended ≡ false → i < length setup.rows → slice_get setup.rows i ≡ Some row → rows_end setup opening setup.rows ≡ false
row_lasts setup opening i row times ended is same lasts_is lt at =
    let one : ends_by setup.times opening row ≡ false = ap (λ (t : Times). ends_by t opening row) (sym same) ∙ sym is ∙ lasts_is in
    list_all_at (ends_by setup.times opening) setup.rows i row lt (ap (ends_by setup.times opening) (get_or_from_slice_get setup.rows i row row at) ∙ one)

-- all of them are
pub rows_ended : (setup : Parts) (opening i : ℕ) → length setup.rows ≤ i → rows_end setup opening (take i setup.rows) ≡ true → rows_end setup opening setup.rows ≡ true
rows_ended setup opening i all before = ap (rows_end setup opening) (sym (take_all i setup.rows all)) ∙ before

-- ---- those in front

pub lasting_empty : (setups : List Parts) (streams : List Stream) (opening : ℕ) → length setups ≡ 0 → AreOf streams setups → AreOf (lasting opening streams) setups
lasting_empty [] [] opening none are = tt
lasting_empty [] (stream ∷ streams) opening none are = absurd are
lasting_empty (setup ∷ setups) streams opening none are = absurd (omega (arith, none))

over_where : (stream : Stream) (streams : List Stream) (opening : ℕ) (over : Bool) → over ≡ true → (if over then lasting opening streams else stream ∷ streams) ≡ lasting opening streams
over_where stream streams opening true is = refl
over_where stream streams opening false is = absurd cc

on_where : (stream : Stream) (streams : List Stream) (opening : ℕ) (over : Bool) → over ≡ false → (if over then lasting opening streams else stream ∷ streams) ≡ stream ∷ streams
on_where stream streams opening true is = absurd cc
on_where stream streams opening false is = refl

-- whether a stream of a setup is over
abbrev pub TellsEnd : Parts → ℕ → Bool → Type 0
TellsEnd setup opening ended = (stream : Stream) → stream.setup ≡ setup → length stream.seeds ≡ length setup.rows → ended ≡ has_ended stream opening

lasting_over : (setup : Parts) (setups : List Parts) (opening : ℕ) (ended : Bool) (result : List Parts) → TellsEnd setup opening ended → ended ≡ true → ((streams : List Stream) → AreOf streams setups → AreOf (lasting opening streams) result)
    → (streams : List Stream) → AreOf streams (setup ∷ setups) → AreOf (lasting opening streams) result
lasting_over setup setups opening ended result tells over others [] are = absurd are
lasting_over setup setups opening ended result tells over others (stream ∷ streams) are =
    subst (λ (ss : List Stream). AreOf ss result) (sym (over_where stream streams opening (has_ended stream opening) (sym (tells stream are.0 are.1) ∙ over))) (others streams are.2)

lasting_on : (setup : Parts) (setups : List Parts) (opening : ℕ) (ended : Bool) → TellsEnd setup opening ended → ended ≡ false → (streams : List Stream) → AreOf streams (setup ∷ setups) → AreOf (lasting opening streams) (setup ∷ setups)
lasting_on setup setups opening ended tells lasts [] are = absurd are
lasting_on setup setups opening ended tells lasts (stream ∷ streams) are =
    subst (λ (ss : List Stream). AreOf ss (setup ∷ setups)) (sym (on_where stream streams opening (has_ended stream opening) (sym (tells stream are.0 are.1) ∙ lasts))) are

pub lasting_passed : (whole : List Parts) (setup : Parts) (setups : List Parts) (opening : ℕ) (ended : Bool) (result : List Parts) → whole ≡ setup ∷ setups → TellsEnd setup opening ended → ended ≡ true → ((streams : List Stream) → AreOf streams setups → AreOf (lasting opening streams) result)
    → (streams : List Stream) → AreOf streams whole → AreOf (lasting opening streams) result
lasting_passed whole setup setups opening ended result is tells over others streams are =
    lasting_over setup setups opening ended result tells over others streams (subst (λ (ps : List Parts). AreOf streams ps) is are)

pub lasting_here : (whole : List Parts) (setup : Parts) (setups : List Parts) (opening : ℕ) (ended : Bool) → whole ≡ setup ∷ setups → TellsEnd setup opening ended → ended ≡ false → (streams : List Stream) → AreOf streams whole → AreOf (lasting opening streams) whole
lasting_here whole setup setups opening ended is tells lasts streams are =
    subst (λ (ps : List Parts). AreOf (lasting opening streams) ps) (sym is)
    (lasting_on setup setups opening ended tells lasts streams (subst (λ (ps : List Parts). AreOf streams ps) is are))
