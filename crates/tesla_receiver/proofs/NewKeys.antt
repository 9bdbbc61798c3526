-- A key that was new was carried, is of the setup, and was good; and the newest index rises by such keys alone.
use Rattle.std.proofs.Common.{◌≡◌, ◌⊎◌, ℕ, zero, suc, ◌+◌, ◌-◌, ◌≤◌, Bool, true, false, cond, ◌&&◌, ◌||◌, List, [], ◌∷◌, ◌++◌, length, take, max, Option, Some, None, inl, inr, refl, sym, ap, subst, ⊎_elim, ◌∙◌, arith, append_assoc, ◌==◌}
use Rattle.std.specs.Prelude.{not, find, filter, fold, slice_get, nat_lt, nat_le, option_map}
use Rattle.std.specs.List.{Contains, list_all, list_any, enumerate_from}
use Rattle.std.proofs.lemmas.Bool.{cases_lt, eqb-true, leb-true, le-leb, ltb-true, ltb-false, not-true, or_parts}
use Rattle.std.proofs.lemmas.List.{append-nil}
use Rattle.std.proofs.lemmas.List.Elements.{All-contains, All-contains_itself, All-filter, Contains-append_cases, Contains-append_left, Contains-append_right, Contains-push, filter_passes}
use Rattle.std.proofs.lemmas.Option.{same_Some}
use Rattle.tesla_base.specs.Version.{number_of}
use Rattle.tesla_base.specs.declared.names.Key.{Key}
use Rattle.tesla_base.proofs.Lists.{list_all_weaker}
use Rattle.tesla_base.proofs.Numbered.{all_enumerated}
use Rattle.tesla_base.proofs.Passing.{all_fail, unfound_fail}
use Rattle.tesla_clock.specs.Schedule.{bound_of}
use Rattle.tesla_frame.specs.Frame.{Frame, Data, Disclosure, TagRow}
use Rattle.tesla_frame.specs.Reading.{frame_of}
use Rattle.tesla_frame.specs.declared.row.KeyRow.{KeyRow}
use Rattle.tesla_fitting.specs.declared.config.Config.{Config}
use Rattle.tesla_fitting.specs.declared.verdict.Verdict.{Verdict}
use Rattle.tesla_fitting.specs.declared.verdict.Verdict.TheVariants.{Foreign, Misfit, Future, BadKey}
use Rattle.tesla_fitting.specs.Config.{chain_row}
use Rattle.tesla_fitting.specs.Fitting.{fields_misfit, is_early, is_future, is_misfit, is_outside, stream_of, version_in}
use Rattle.tesla_fitting.specs.Rows.{carried, is_of, keys_of}
use Rattle.tesla_receiver.specs.Entries.{Arrival}
use Rattle.tesla_receiver.specs.Answer.{is_bad}
use Rattle.tesla_receiver.specs.Arrivals.{FreshAreNew, NewAreFresh, NewAreTaken, NewestRises}
use Rattle.tesla_receiver.specs.History.{arrivals_in}
use Rattle.tesla_receiver.specs.Keys.{fresh_keys, is_good, keys_in, keys_taken, new_keys, newest, takes_keys}
use Rattle.tesla_state.specs.Releases.{each_after}
use Rattle.tesla_receiver.proofs.Arrivals.{contained_passes, took_keys, verdict_at}
use Rattle.tesla_receiver.proofs.Judged.{fits_unrefused, keys_within}
use Rattle.tesla_receiver.proofs.Newest.{greatest-new, newest_more}

-- ---- what passes a filter, and what a choice has

pub filter_has : {A : Type 0} (p : A → Bool) (xs : List A) (x : A) → Contains (filter p xs) x → Contains xs x × (p x ≡ true)
filter_has p xs x c =
    (All-contains (Contains xs) (filter p xs) x (All-filter p (Contains xs) xs (All-contains_itself xs)) c, All-contains (λ y. p y ≡ true) (filter p xs) x (filter_passes p xs) c)

pub none_contained : {A : Type 0} (x : A) → Contains [] x → ⊥
none_contained x c = omega (arith, c.1)

pub cond_has : {A : Type 0} (b : Bool) (xs : List A) (x : A) → Contains (cond b xs []) x → (b ≡ true) × Contains xs x
cond_has true xs x c = (refl, c)
cond_has false xs x c = absurd (none_contained x c)

-- ---- a fitting frame's keys are of the setup's intervals

data_within : (a b c d e : Bool) → (a || b || c || d || e) ≡ false → b ≡ false
data_within a b c d e h = (or_parts a b (or_parts (a || b) c (or_parts (a || b || c) d (or_parts (a || b || c || d) e h).0).0).0).1

inside_last : (a b : Bool) → not (a || b) ≡ true → b ≡ false
inside_last a b h = (or_parts a b (not-true (a || b) h)).1

abbrev is_by : ℕ → KeyRow → Bool
is_by last row = nat_le row.index last

by_if : (n chain index : ℕ) (key : Key) (b : Bool) → index ≤ n → list_all (is_by n) (cond b [] (record { chain = record { 0 = chain }; index = index; key = key } ∷ [])) ≡ true
by_if n chain index key true h = refl
by_if n chain index key false h = ap (λ b. b && true) (le-leb index n h)

carried_by : (cfg : Config) (n interval chain : ℕ) (key : Option Key) → interval ≤ n → list_all (is_by n) (carried cfg interval chain key) ≡ true
carried_by cfg n interval chain None h = refl
carried_by cfg n interval chain (Some key) h = by_if n chain (interval - (chain_row cfg chain).delay) key (nat_lt interval (chain_row cfg chain).delay) (omega arith)

fields_by : (cfg : Config) (frame : Frame) → fields_misfit cfg frame ≡ false → list_all (is_by cfg.setup.times.last) (keys_of cfg frame) ≡ true
fields_by cfg (Data f) fits =
    let last : ℕ = cfg.setup.times.last in
    let within : f.name.interval ≤ last = ltb-false last f.name.interval
    (data_within (f.name.interval == 0) (nat_lt last f.name.interval) (not (length f.rows == length cfg.setup.rows)) (not (f.tag_length == cfg.setup.tag_length))
    (list_any (λ (p : ℕ × TagRow). is_early cfg f.name.interval p.0 p.1.key) (enumerate_from 0 f.rows)) fits) in
    all_enumerated (is_by last) (λ (p : ℕ × TagRow). carried cfg f.name.interval p.0 p.1.key) 0 f.rows (λ k row at. carried_by cfg last f.name.interval (0 + k) row.key within)
fields_by cfg (Disclosure f) fits =
    let last : ℕ = cfg.setup.times.last in
    list_all_weaker (λ row. not (is_outside cfg row)) (is_by last) f.rows
    (λ row e. le-leb row.index last (ltb-false last row.index (inside_last (not (nat_lt row.chain.0 (length cfg.setup.rows))) (nat_lt last row.index) e))) (all_fail (is_outside cfg) f.rows fits)

keys_by : (cfg : Config) (frame : Frame) → is_misfit cfg frame ≡ false → list_all (is_by cfg.setup.times.last) (keys_of cfg frame) ≡ true
keys_by cfg frame fits = fields_by cfg frame ((or_parts (not (number_of (version_in frame) == number_of cfg.setup.version)) (fields_misfit cfg frame) fits).1)

-- ---- a frame that isn't refused has no bad key

none_bad : (a b c : Bool) (x y z : Verdict) (o : Option KeyRow) → cond a (Some x) (cond b (Some y) (cond c (Some z) (option_map (λ (row : KeyRow). BadKey row.chain) o))) ≡ None → o ≡ None
none_bad true b c x y z o e = absurd (cc)
none_bad false true c x y z o e = absurd (cc)
none_bad false false true x y z o e = absurd (cc)
none_bad false false false x y z None e = refl
none_bad false false false x y z (Some row) e = absurd (cc)

newer_good : (newer good : Bool) → not (newer && not good) ≡ true → newer ≡ true → good ≡ true
newer_good true true h e = refl
newer_good true false h e = absurd (cc)
newer_good false good h e = absurd (cc)

-- ---- the keys that an arrival took

pub new_taken : NewAreTaken
new_taken cfg h n a row legal at new =
    let before : List Arrival = take n (arrivals_in h) in
    let parts = filter_has (λ (r : KeyRow). nat_lt (newest cfg before r.chain.0) r.index) (keys_taken cfg a) row new in
    let taken = cond_has (takes_keys a.verdict) (keys_in cfg (frame_of a.bytes)) row parts.0 in
    let bound : Option ℕ = bound_of cfg.setup.times cfg.lag a.reading in
    let took = took_keys cfg before a (verdict_at cfg h n a legal at) taken.0 in
    let frame : Frame = took.frame in
    let here : Contains (keys_of cfg frame) row = subst (λ (o : Option Frame). Contains (keys_in cfg o) row) took.framed taken.1 in
    let fits = fits_unrefused cfg before bound frame took.unrefused in
    let unfound : find (is_bad cfg before) (keys_of cfg frame) ≡ None = none_bad (not ((stream_of frame).0 == cfg.setup.stream.0)) (is_misfit cfg frame) (is_future cfg bound frame) (Foreign (stream_of frame)) Misfit (Future bound) (find (is_bad cfg before) (keys_of cfg frame)) took.unrefused in
    record {
      carried = taken.1;
      chain_is = ltb-true row.chain.0 (length cfg.setup.rows) (contained_passes (λ (r : KeyRow). nat_lt r.chain.0 (length cfg.setup.rows)) (keys_of cfg frame) row (keys_within cfg frame fits) here);
      within = leb-true row.index cfg.setup.times.last (contained_passes (is_by cfg.setup.times.last) (keys_of cfg frame) row (keys_by cfg frame fits) here);
      good = newer_good (nat_lt (newest cfg before row.chain.0) row.index) (is_good cfg before row)
          (contained_passes (λ (r : KeyRow). not (is_bad cfg before r)) (keys_of cfg frame) row (unfound_fail (is_bad cfg before) (keys_of cfg frame) unfound) here) parts.1;
    }

-- ---- the fresh keys are those that were new

record NewAlong (cfg : Config) (before xs : List Arrival) (row : KeyRow) : Type 0 where
  n : ℕ
  arrival : Arrival
  at : slice_get xs n ≡ Some arrival
  new : Contains (new_keys cfg (before ++ take n xs) arrival) row

new_along : (cfg : Config) (before xs : List Arrival) (row : KeyRow) → Contains (each_after (new_keys cfg) before xs) row → NewAlong cfg before xs row
new_along cfg before [] row c = absurd (none_contained row c)
new_along cfg before (x ∷ xs) row c =
    ⊎_elim
    (λ here. record { n = 0; arrival = x; at = refl; new = subst (λ (ys : List Arrival). Contains (new_keys cfg ys x) row) (sym (append-nil before)) here })
    (λ later. let rest = new_along cfg (before ++ x ∷ []) xs row later in
    record { n = suc rest.n; arrival = rest.arrival; at = rest.at; new = subst (λ (ys : List Arrival). Contains (new_keys cfg ys rest.arrival) row) (append_assoc before (x ∷ []) (take rest.n xs)) rest.new })
    (Contains-append_cases (new_keys cfg before x) (each_after (new_keys cfg) (before ++ x ∷ []) xs) row c)

fresh_along : (cfg : Config) (before xs : List Arrival) (n : ℕ) (a : Arrival) (row : KeyRow) → slice_get xs n ≡ Some a → Contains (new_keys cfg (before ++ take n xs) a) row → Contains (each_after (new_keys cfg) before xs) row
fresh_along cfg before [] n a row at c = absurd (cc)
fresh_along cfg before (x ∷ xs) zero a row at c =
    let same : a ≡ x = sym (same_Some x a at) in
    let here : Contains (new_keys cfg before a) row = subst (λ (ys : List Arrival). Contains (new_keys cfg ys a) row) (append-nil before) c in
    Contains-append_left (new_keys cfg before x) (each_after (new_keys cfg) (before ++ x ∷ []) xs) row (subst (λ (y : Arrival). Contains (new_keys cfg before y) row) same here)
fresh_along cfg before (x ∷ xs) (suc n) a row at c =
    Contains-append_right (new_keys cfg before x) (each_after (new_keys cfg) (before ++ x ∷ []) xs) row
    (fresh_along cfg (before ++ x ∷ []) xs n a row at (subst (λ (ys : List Arrival). Contains (new_keys cfg ys a) row) (sym (append_assoc before (x ∷ []) (take n xs))) c))

pub fresh_new : FreshAreNew
unfolding fresh_keys
fresh_new cfg xs row c = let on = new_along cfg [] xs row c in record { n = on.n; arrival = on.arrival; at = on.at; new = on.new }

pub new_fresh : NewAreFresh
unfolding fresh_keys
new_fresh cfg xs row on = fresh_along cfg [] xs on.n on.arrival row on.at on.new

-- ---- the newest index rises by a new key

-- a row with the greatest index
record IsHighest (rows : List KeyRow) (index : ℕ) : Type 0 where
  row : KeyRow
  among : Contains rows row
  is : row.index ≡ index

higher : (n : ℕ) (row : KeyRow) (rows : List KeyRow) (top : ℕ) → (top ≡ max n row.index) ⊎ IsHighest rows top → (top ≡ n) ⊎ IsHighest (row ∷ rows) top
higher n row rows top (inl e) =
    ⊎_elim
    (λ less. inr (record { row = row; among = Contains-append_left (row ∷ []) rows row (Contains-push [] row); is = omega arith }))
    (λ least. inl (omega arith))
    (cases_lt n row.index)
higher n row rows top (inr high) = inr (record { row = high.row; among = Contains-append_right (row ∷ []) rows high.row high.among; is = high.is })

highest : (n : ℕ) (rows : List KeyRow) → (fold (λ m row. max m row.index) n rows ≡ n) ⊎ IsHighest rows (fold (λ m row. max m row.index) n rows)
highest n [] = inl refl
highest n (row ∷ rows) = higher n row rows (fold (λ m r. max m r.index) (max n row.index) rows) (highest (max n row.index) rows)

pub newest_by_new : NewestRises
newest_by_new cfg before a chain less =
    let low : ℕ = newest cfg before chain in
    let top : ℕ = newest cfg (before ++ a ∷ []) chain in
    let rows : List KeyRow = filter (is_of chain) (new_keys cfg before a) in
    let same : fold (λ m row. max m row.index) low rows ≡ top = greatest-new (newest cfg before) chain low (keys_taken cfg a) (omega arith) ∙ sym (newest_more cfg before a chain) in
    ⊎_elim
    (λ none. absurd (omega (arith, same, none, less)))
    (λ high. let parts = filter_has (is_of chain) (new_keys cfg before a) high.row high.among in
    record { row = high.row; new = parts.0; chain_is = eqb-true high.row.chain.0 chain parts.1; index_is = high.is ∙ same })
    (highest low rows)
