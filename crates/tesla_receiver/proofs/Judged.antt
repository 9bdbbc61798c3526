-- The verdict on an arrival by what a receiver keeps is the one by the history.
use Rattle.std.proofs.Common.{◌≡◌, ℕ, zero, suc, ◌+◌, ◌-◌, ◌^◌, ◌<◌, Bool, true, false, cond, ◌&&◌, ◌||◌, List, [], ◌∷◌, length, count_by, Option, Some, None, refl, sym, ap, ⊎_elim, ◌∙◌, arith, ◌==◌, add-zero, zero-add}
use Rattle.std.specs.Prelude.{not, find, filter, nat_lt, option_map}
use Rattle.std.specs.List.{list_any, list_all, enumerate_from}
use Rattle.std.proofs.lemmas.Bool.{and_parts, and_from, and_right, or_parts, cases_Bool, not_from_false, eqb-true, lt-ltb, ltb-true, lt-leb}
use Rattle.std.proofs.lemmas.Option.{slice_get_within}
use Rattle.tesla_base.specs.Version.{number_of}
use Rattle.tesla_base.specs.declared.names.Key.{Key}
use Rattle.tesla_base.specs.declared.names.Name.{Name}
use Rattle.tesla_base.proofs.Lists.{list_all_weaker, not_all_numbers}
use Rattle.tesla_base.proofs.Filtered.{filter_same_in}
use Rattle.tesla_base.proofs.Numbered.{all_enumerated}
use Rattle.tesla_base.proofs.Passing.{all_fail, find_same, same_test}
use Rattle.tesla_base.proofs.Sums.{count_all, count_gathered}
use Rattle.tesla_clock.specs.Safe.{has_chain, chain_set}
use Rattle.tesla_clock.specs.Safe as clock
use Rattle.tesla_clock.proofs.Sets.{set_has}
use Rattle.tesla_frame.specs.Frame.{Frame, Data, Disclosure, DataFrame, TagRow}
use Rattle.tesla_frame.specs.Reading.{frame_of}
use Rattle.tesla_frame.specs.declared.row.KeyRow.{KeyRow}
use Rattle.tesla_keys.specs.Tip.{Tip}
use Rattle.tesla_fitting.specs.declared.config.Config.{Config}
use Rattle.tesla_receiver.specs.Entries.{Arrival, Entry}
use Rattle.tesla_receiver.specs.declared.packet.Packet.{Packet}
use Rattle.tesla_fitting.specs.declared.verdict.Verdict.{Verdict}
use Rattle.tesla_fitting.specs.declared.verdict.Verdict.TheVariants.{Foreign, Misfit, Future, BadKey, Late, Repeat, Full, Kept}
use Rattle.tesla_fitting.specs.Fitting.{stream_of, version_in, is_early, is_outside, fields_misfit, is_misfit, is_future}
use Rattle.tesla_receiver.specs.Answer.{is_bad, safe_chains, packet_verdict, verdict_taken, refusal}
use Rattle.tesla_fitting.specs.Config.{chains, chain_row}
use Rattle.tesla_receiver.specs.Held.{is_asked, has_passed, is_gone, has_slot, held_of}
use Rattle.tesla_receiver.specs.History.{IsLegal, arrivals_in}
use Rattle.tesla_fitting.specs.Rows.{carried, keys_of, leads_to}
use Rattle.tesla_receiver.specs.Keys.{keys_in, takes_keys, newest, new_keys}
use Rattle.tesla_receiver.specs.Packets.{is_safe, packet_of, candidates, released}
use Rattle.tesla_state.specs.Releases.{has_name}
use Rattle.tesla_walks.specs.Holding.{Holding}
use Rattle.tesla_state.specs.State.{State}
use Rattle.tesla_receiver.specs.Stands.{holding_of, held_at, holdings}
use Rattle.tesla_walks.specs.Tips.{tip_at, is_newer, fails}
use Rattle.tesla_state.specs.Steps.{new_rows, refused, safe_by, is_named_so, in_interval, judged_packet, judged_taken}
use Rattle.tesla_receiver.proofs.Batches.{is_open, is_seen, seen_held}
use Rattle.tesla_receiver.proofs.Tips.{bad_offered}
use Rattle.tesla_receiver.proofs.KeptState.{Keeps, tip_kept, tips_kept}
use Rattle.tesla_receiver.proofs.Names.{first_named}
use Rattle.tesla_receiver.proofs.Owners.{released_proved}
use Rattle.tesla_receiver.proofs.SafeChains.{set_same}

-- ---- a fitting frame's keys are of the setup's chains

abbrev is_within : ℕ → KeyRow → Bool
is_within n row = nat_lt row.chain.0 n

within_if : (n chain index : ℕ) (key : Key) (b : Bool) → chain < n → list_all (is_within n) (cond b [] (record { chain = record { 0 = chain }; index = index; key = key } ∷ [])) ≡ true
within_if n chain index key true h = refl
within_if n chain index key false h = ap (λ b. b && true) (lt-ltb chain n h)

carried_within : (cfg : Config) (n interval chain : ℕ) (key : Option Key) → chain < n → list_all (is_within n) (carried cfg interval chain key) ≡ true
carried_within cfg n interval chain None h = refl
carried_within cfg n interval chain (Some key) h = within_if n chain (interval - (chain_row cfg chain).delay) key (nat_lt interval (chain_row cfg chain).delay) h

pub data_long : (a b c d e : Bool) → (a || b || not c || d || e) ≡ false → c ≡ true
data_long a b true d e h = refl
data_long true true false d e h = absurd (cc)
data_long true false false d e h = absurd (cc)
data_long false true false d e h = absurd (cc)
data_long false false false d e h = absurd (cc)

inside_first : (a b : Bool) → not (not a || b) ≡ true → a ≡ true
inside_first true b h = refl
inside_first false b h = absurd (cc)

fields_within : (cfg : Config) (frame : Frame) → fields_misfit cfg frame ≡ false → list_all (is_within (length cfg.setup.rows)) (keys_of cfg frame) ≡ true
fields_within cfg (Data f) fits =
    let long : length f.rows ≡ length cfg.setup.rows =
    eqb-true (length f.rows) (length cfg.setup.rows)
    (data_long (f.name.interval == 0) (nat_lt cfg.setup.times.last f.name.interval) (length f.rows == length cfg.setup.rows) (not (f.tag_length == cfg.setup.tag_length))
    (list_any (λ (p : ℕ × TagRow). is_early cfg f.name.interval p.0 p.1.key) (enumerate_from 0 f.rows)) fits) in
    all_enumerated (is_within (length cfg.setup.rows)) (λ (p : ℕ × TagRow). carried cfg f.name.interval p.0 p.1.key) 0 f.rows (λ k row at.
    let below = slice_get_within f.rows k row at in
    carried_within cfg (length cfg.setup.rows) f.name.interval (0 + k) row.key (omega (arith, below, long)))
fields_within cfg (Disclosure f) fits =
    list_all_weaker (λ row. not (is_outside cfg row)) (is_within (length cfg.setup.rows)) f.rows
    (λ row e. inside_first (nat_lt row.chain.0 (length cfg.setup.rows)) (nat_lt cfg.setup.times.last row.index) e) (all_fail (is_outside cfg) f.rows fits)

pub keys_within : (cfg : Config) (frame : Frame) → is_misfit cfg frame ≡ false → list_all (λ row. nat_lt row.chain.0 (length cfg.setup.rows)) (keys_of cfg frame) ≡ true
keys_within cfg frame fits = fields_within cfg frame ((or_parts (not (number_of (version_in frame) == number_of cfg.setup.version)) (fields_misfit cfg frame) fits).1)

-- ---- the refusal of a frame

under_misfit : (a b c : Bool) (x y z u v : Option Verdict) → (b ≡ false → u ≡ v) → cond a x (cond b y (cond c z u)) ≡ cond a x (cond b y (cond c z v))
under_misfit true b c x y z u v same = refl
under_misfit false true c x y z u v same = refl
under_misfit false false true x y z u v same = refl
under_misfit false false false x y z u v same = same refl

not_misfit : (a b c : Bool) (x y z : Verdict) (u : Option Verdict) → cond a (Some x) (cond b (Some y) (cond c (Some z) u)) ≡ None → b ≡ false
not_misfit true b c x y z u h = absurd (cc)
not_misfit false true c x y z u h = absurd (cc)
not_misfit false false c x y z u h = refl

-- a frame that isn't refused fits the setup
pub fits_unrefused : (cfg : Config) (xs : List Arrival) (bound : Option ℕ) (frame : Frame) → refusal cfg xs bound frame ≡ None → is_misfit cfg frame ≡ false
fits_unrefused cfg xs bound frame h =
    not_misfit (not ((stream_of frame).0 == cfg.setup.stream.0)) (is_misfit cfg frame) (is_future cfg bound frame) (Foreign (stream_of frame)) Misfit (Future bound)
    (option_map (λ (row : KeyRow). BadKey row.chain) (find (is_bad cfg xs) (keys_of cfg frame))) h

-- ---- the keys of a frame, by the newest of each chain

module _ (s : State) (h : List Entry) (given : ℕ) (legal : IsLegal s.config h) (k : Keeps s (arrivals_in h) given) where
  fails_same : (row : KeyRow) → nat_lt row.chain.0 (length s.config.setup.rows) ≡ true → fails s.tips row ≡ is_bad s.config (arrivals_in h) row
  fails_same row e =
      let within = ltb-true row.chain.0 (length s.config.setup.rows) e in
      ap (λ (t : Tip). nat_lt t.index row.index && not (leads_to row t.index t.key)) (tip_kept s (arrivals_in h) given k row.chain.0 within) ∙ sym (bad_offered s.config h row legal)

  pub refused_same : (bound : Option ℕ) (frame : Frame) → refused s bound frame ≡ refusal s.config (arrivals_in h) bound frame
  refused_same bound frame =
      under_misfit (not ((stream_of frame).0 == s.config.setup.stream.0)) (is_misfit s.config frame) (is_future s.config bound frame) (Some (Foreign (stream_of frame))) (Some Misfit) (Some (Future bound))
      (option_map (λ (row : KeyRow). BadKey row.chain) (find (fails s.tips) (keys_of s.config frame))) (option_map (λ (row : KeyRow). BadKey row.chain) (find (is_bad s.config (arrivals_in h)) (keys_of s.config frame)))
      (λ fits. ap (option_map (λ (row : KeyRow). BadKey row.chain)) (find_same (λ row. nat_lt row.chain.0 (length s.config.setup.rows)) (fails s.tips) (is_bad s.config (arrivals_in h)) (keys_of s.config frame) (keys_within s.config frame fits) fails_same))

-- the keys that an arrival with this frame takes and that are new
pub new_same : (s : State) (xs : List Arrival) (given : ℕ) (a : Arrival) (frame : Frame) → Keeps s xs given → frame_of a.bytes ≡ Some frame → takes_keys a.verdict ≡ true → is_misfit s.config frame ≡ false → new_rows s frame ≡ new_keys s.config xs a
new_same s xs given a frame k read takes fits =
    filter_same_in (λ row. nat_lt row.chain.0 (length s.config.setup.rows)) (is_newer s.tips) (λ row. nat_lt (newest s.config xs row.chain.0) row.index) (keys_of s.config frame) (keys_within s.config frame fits)
    (λ row e. ap (λ (n : ℕ). nat_lt n row.index) (tips_kept s xs given k row.chain.0 (ltb-true row.chain.0 (length s.config.setup.rows) e)))
    ∙ ap (λ o. filter (λ row. nat_lt (newest s.config xs row.chain.0) row.index) (keys_in s.config o)) (sym read)
    ∙ ap (λ b. filter (λ row. nat_lt (newest s.config xs row.chain.0) row.index) (cond b (keys_in s.config (frame_of a.bytes)) [])) (sym takes)

-- ---- how many packets are held

and_true : (b : Bool) → (b && true) ≡ b
and_true true = refl
and_true false = refl

one_counted : (q : Holding → Bool) (item : Holding) (gone : Bool) → count_by q (cond gone [] (item ∷ [])) ≡ cond (q item && not gone) 1 0
one_counted q item true = ap (λ b. cond b 1 0) (sym (and_right (q item) false refl))
one_counted q item false = zero-add (cond (q item) 1 0) ∙ ap (λ b. cond b 1 0) (sym (and_true (q item)))

at_counted : (cfg : Config) (xs : List Arrival) (given : ℕ) (asked : Option ℕ) (order : ℕ) (o : Option Packet) → count_by (λ item. is_asked asked item.name.interval) (held_at cfg xs given order o) ≡ cond (has_slot cfg xs given asked order o) 1 0
at_counted cfg xs given asked order None = refl
at_counted cfg xs given asked order (Some packet) = one_counted (λ item. is_asked asked item.name.interval) (holding_of cfg xs given order packet) (is_gone cfg xs given order packet)

held_counted : (cfg : Config) (xs : List Arrival) (given : ℕ) (asked : Option ℕ) → count_by (λ item. is_asked asked item.name.interval) (holdings cfg xs given) ≡ held_of cfg xs given asked
unfolding holdings held_of
held_counted cfg xs given asked =
    count_gathered (λ item. is_asked asked item.name.interval) (λ (p : ℕ × Arrival). held_at cfg xs given p.0 (packet_of p.1)) (λ (p : ℕ × Arrival). has_slot cfg xs given asked p.0 (packet_of p.1)) (enumerate_from 0 xs)
    (λ p. at_counted cfg xs given asked p.0 (packet_of p.1))

-- how many packets are held: all, and those of an interval
pub held_all : (cfg : Config) (xs : List Arrival) (given : ℕ) → length (holdings cfg xs given) ≡ held_of cfg xs given None
held_all cfg xs given = sym (count_all (holdings cfg xs given)) ∙ held_counted cfg xs given None

pub held_interval : (cfg : Config) (xs : List Arrival) (given interval : ℕ) → count_by (in_interval interval) (holdings cfg xs given) ≡ held_of cfg xs given (Some interval)
held_interval cfg xs given interval = held_counted cfg xs given (Some interval)

-- ---- the verdict on a frame whose keys are taken

-- a set that isn't empty has a chain that passes
pub record HasSafe (test : ℕ → Bool) (n : ℕ) : Type 0 where
  pub chain : ℕ
  pub below : chain < n
  pub passes : test chain ≡ true

some_of : (test : ℕ → Bool) (n : ℕ) → (chain_set test n == 0) ≡ false → HasSafe test n
some_of test zero h = absurd (cc)
some_of test (suc n) h =
    ⊎_elim
    (λ e. record { chain = n; below = omega arith; passes = e })
    (λ e. let rest : (chain_set test n == 0) ≡ false = ap (λ m. m == 0) (sym (ap (λ b. chain_set test n + cond b (2 ^ n) 0) e ∙ add-zero (chain_set test n))) ∙ h in
    let found = some_of test n rest in
    record { chain = found.chain; below = let less = found.below in omega arith; passes = found.passes })
    (cases_Bool (test n))

pub safe_some : (cfg : Config) (xs : List Arrival) (bound : Option ℕ) (interval : ℕ) → (safe_chains cfg xs bound interval == 0) ≡ false → HasSafe (λ c. has_chain (safe_chains cfg xs bound interval) c && nat_lt (newest cfg xs c) interval) (length cfg.setup.rows)
safe_some cfg xs None interval h = absurd (cc)
safe_some cfg xs (Some bound) interval h =
    let found = some_of (is_safe cfg xs bound interval) (length cfg.setup.rows) h in
    let has : has_chain (safe_chains cfg xs (Some bound) interval) found.chain ≡ true = set_has (is_safe cfg xs bound interval) (length cfg.setup.rows) found.chain found.below ∙ found.passes in
    let parts = and_parts (nat_lt bound (interval + (chain_row cfg found.chain).delay)) (nat_lt (newest cfg xs found.chain) interval) found.passes in
    record { chain = found.chain; below = found.below; passes = and_from (has_chain (safe_chains cfg xs (Some bound) interval) found.chain) (nat_lt (newest cfg xs found.chain) interval) has parts.1 }

-- where a chain is safe, it hasn't passed the interval
open_safe : (cfg : Config) (xs : List Arrival) (bound : Option ℕ) (name : Name) → (safe_chains cfg xs bound name.interval == 0) ≡ false → is_open cfg xs name ≡ true
open_safe cfg xs bound name h =
    let found = safe_some cfg xs bound name.interval h in
    let ahead = ltb-true (newest cfg xs found.chain) name.interval ((and_parts (has_chain (safe_chains cfg xs bound name.interval) found.chain) (nat_lt (newest cfg xs found.chain) name.interval) found.passes).1) in
    not_from_false (list_all (has_passed cfg xs name.interval) (chains cfg))
    (not_all_numbers (has_passed cfg xs name.interval) (length cfg.setup.rows) found.chain found.below (lt-leb name.interval (newest cfg xs found.chain) ahead))

-- a name is released where a packet of it was proved
released_seen : (cfg : Config) (xs : List Arrival) (name : Name) → list_any (has_name name) (released cfg xs) ≡ is_seen cfg xs name
unfolding released
released_seen cfg xs name = same_test (list_any (has_name name) (released cfg xs)) (is_seen cfg xs name) (released_proved cfg xs (has_name name)) (first_named name [] (candidates cfg xs) refl)

under_empty : (a b c d : Bool) (u : Verdict) → (a ≡ false → b ≡ c) → cond a Late (cond b Repeat (cond d Full u)) ≡ cond a Late (cond c Repeat (cond d Full u))
under_empty true b c d u same = refl
under_empty false b c d u same = ap (λ e. cond e Repeat (cond d Full u)) (same refl)

module _ (s : State) (xs : List Arrival) (given : ℕ) (k : Keeps s xs given) where
  safe_same : (bound : Option ℕ) (interval : ℕ) → safe_by s bound interval ≡ safe_chains s.config xs bound interval
  safe_same None interval = refl
  safe_same (Some bound) interval =
      set_same (λ c. clock.is_safe bound interval (chain_row s.config c).delay (tip_at s.tips c).index) (is_safe s.config xs bound interval) (length s.config.setup.rows)
      (λ c h. ap (clock.is_safe bound interval (chain_row s.config c).delay) (tips_kept s xs given k c h))

  packet_same : (bound : Option ℕ) (f : DataFrame) → judged_packet s (safe_chains s.config xs bound f.name.interval) f ≡ packet_verdict s.config xs given (safe_chains s.config xs bound f.name.interval) f
  packet_same bound f =
      let cfg : Config = s.config in
      let set : ℕ = safe_chains cfg xs bound f.name.interval in
      ap (λ hs. cond (set == 0) Late (cond (list_any (is_named_so f.name) hs) Repeat (cond (length hs == cfg.capacity || count_by (in_interval f.name.interval) hs == cfg.quota) Full (Kept set)))) k.held
      ∙ ap (λ (n : ℕ). cond (set == 0) Late (cond (list_any (is_named_so f.name) (holdings cfg xs given)) Repeat (cond (n == cfg.capacity || count_by (in_interval f.name.interval) (holdings cfg xs given) == cfg.quota) Full (Kept set)))) (held_all cfg xs given)
      ∙ ap (λ (n : ℕ). cond (set == 0) Late (cond (list_any (is_named_so f.name) (holdings cfg xs given)) Repeat (cond (held_of cfg xs given None == cfg.capacity || n == cfg.quota) Full (Kept set)))) (held_interval cfg xs given f.name.interval)
      ∙ under_empty (set == 0) (list_any (is_named_so f.name) (holdings cfg xs given)) (list_any (has_name f.name) (released cfg xs)) (held_of cfg xs given None == cfg.capacity || held_of cfg xs given (Some f.name.interval) == cfg.quota) (Kept set)
      (λ some. sym (seen_held cfg xs given f.name (open_safe cfg xs bound f.name some)) ∙ sym (released_seen cfg xs f.name))

  pub judged_same : (bound : Option ℕ) (frame : Frame) → judged_taken s bound frame ≡ verdict_taken s.config xs given bound frame
  judged_same bound (Disclosure f) = refl
  judged_same bound (Data f) = ap (λ set. judged_packet s set f) (safe_same bound f.name.interval) ∙ packet_same bound f
