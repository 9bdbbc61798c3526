-- A packet that is gone stays gone, whatever more arrives or is taken.
use Rattle.std.proofs.Common.{◌≡◌, ℕ, ◌+◌, Bool, true, false, cond, ◌&&◌, ◌||◌, List, [], ◌∷◌, ◌++◌, take, Option, Some, None, refl, sym, ap, ⊎_elim, ◌∙◌, arith, ◌==◌}
use Rattle.std.specs.Prelude.{not, slice_get, nat_lt, nat_le, find}
use Rattle.std.specs.List.{list_any, list_all}
use Rattle.std.proofs.lemmas.Bool.{and_parts, and_from, or_from, or_left, or_right, or_cases, cases_Bool, not_from_false, not-true, leb-true, le-leb, le-ltb, eqb-true, eq-eqb}
use Rattle.std.proofs.lemmas.List.Folds.{list_any-append, list_all-append}
use Rattle.std.proofs.lemmas.Option.{slice_get_within, same_Some}
use Rattle.tesla_base.specs.declared.names.Name.{Name}
use Rattle.tesla_base.proofs.Lists.{slice_get-append, list_all_weaker}
use Rattle.tesla_base.proofs.Numbered.{all_enumerated}
use Rattle.tesla_base.proofs.Passing.{any_further, any_longer, none_found, none_passes}
use Rattle.tesla_clock.specs.Safe.{has_chain}
use Rattle.tesla_frame.specs.declared.row.KeyRow.{KeyRow}
use Rattle.tesla_frame.specs.Frame.{DataFrame}
use Rattle.tesla_fitting.specs.declared.config.Config.{Config}
use Rattle.tesla_receiver.specs.Entries.{Arrival}
use Rattle.tesla_receiver.specs.declared.packet.Packet.{Packet}
use Rattle.tesla_walks.specs.declared.release.Release.{Release}
use Rattle.tesla_fitting.specs.Config.{chains}
use Rattle.tesla_state.specs.Releases.{each_after, has_name, unless_named, is_at}
use Rattle.tesla_receiver.specs.Keys.{newest, new_keys}
use Rattle.tesla_receiver.specs.Packets.{packet_of, is_proof, proves, release_on, release_of, batch, candidates, released}
use Rattle.tesla_receiver.specs.Held.{has_passed, is_past, is_settled, is_gone}
use Rattle.tesla_receiver.proofs.EachAfter.{each_after-append, all_each_after}
use Rattle.tesla_receiver.proofs.Prefixes.{released_more, newest_rises}
use Rattle.tesla_receiver.proofs.ArrivalOrders.{firsts_pass, unless_pass}
use Rattle.tesla_state.proofs.Named.{same_name}

-- a release isn't of the place
abbrev pub is_elsewhere : ℕ → Release → Bool
is_elsewhere order release = not (is_at order release)

-- a release of the place has the name
abbrev pub is_called : ℕ → Name → Release → Bool
is_called order name release = is_elsewhere order release || has_name name release

-- ---- chains

pub passed_stays : (cfg : Config) (xs ys : List Arrival) (interval chain : ℕ) → has_passed cfg xs interval chain ≡ true → has_passed cfg (xs ++ ys) interval chain ≡ true
passed_stays cfg xs ys interval chain h =
    let below = leb-true interval (newest cfg xs chain) h in
    let more = newest_rises cfg xs ys chain in
    le-leb interval (newest cfg (xs ++ ys) chain) (omega (arith, below, more))

past_stays : (cfg : Config) (xs ys : List Arrival) (packet : Packet) (chain : ℕ) → is_past cfg xs packet chain ≡ true → is_past cfg (xs ++ ys) packet chain ≡ true
past_stays cfg xs ys packet chain h =
    let unsafe : Bool = not (has_chain packet.chains chain) in
    let now : Bool = has_passed cfg (xs ++ ys) packet.frame.name.interval chain in
    ⊎_elim (λ e. or_left unsafe now e) (λ e. or_right unsafe now (passed_stays cfg xs ys packet.frame.name.interval chain e))
    (or_cases unsafe (has_passed cfg xs packet.frame.name.interval chain) h)

pub all_past_stay : (cfg : Config) (xs ys : List Arrival) (packet : Packet) → list_all (is_past cfg xs packet) (chains cfg) ≡ true → list_all (is_past cfg (xs ++ ys) packet) (chains cfg) ≡ true
all_past_stay cfg xs ys packet h = list_all_weaker (is_past cfg xs packet) (is_past cfg (xs ++ ys) packet) (chains cfg) (past_stays cfg xs ys packet) h

not_proved : (safe before one : Bool) → (not safe || not before) ≡ true → not (safe && before && one) ≡ true
not_proved true true one h = absurd (cc)
not_proved true false one h = refl
not_proved false before one h = refl

-- a chain that is past proves nothing
past_proves : (cfg : Config) (xs : List Arrival) (new : List KeyRow) (packet : Packet) (chain : ℕ) → is_past cfg xs packet chain ≡ true → not (proves cfg xs new packet chain) ≡ true
past_proves cfg xs new packet chain h =
    let interval : ℕ = packet.frame.name.interval in
    let unsafe : Bool = not (has_chain packet.chains chain) in
    let before : Bool = nat_lt (newest cfg xs chain) interval in
    not_proved (has_chain packet.chains chain) before (list_any (is_proof cfg packet.frame chain) new)
    (⊎_elim (λ e. or_left unsafe (not before) e) (λ e. or_right unsafe (not before) (not_from_false before (le-ltb (newest cfg xs chain) interval (leb-true interval (newest cfg xs chain) e))))
    (or_cases unsafe (nat_le interval (newest cfg xs chain)) h))

pub past_none : (cfg : Config) (xs : List Arrival) (new : List KeyRow) (packet : Packet) → list_all (is_past cfg xs packet) (chains cfg) ≡ true → find (proves cfg xs new packet) (chains cfg) ≡ None
past_none cfg xs new packet h =
    none_found (proves cfg xs new packet) (chains cfg) (list_all_weaker (is_past cfg xs packet) (λ c. not (proves cfg xs new packet c)) (chains cfg) (past_proves cfg xs new packet) h)

-- ---- the releases of a place

on_elsewhere : (order m : ℕ) (f : DataFrame) (o : Option ℕ) → (m == order) ≡ false → list_all (is_elsewhere order) (release_on m f o) ≡ true
on_elsewhere order m f None h = refl
on_elsewhere order m f (Some chain) h = and_from (not (m == order)) true (not_from_false (m == order) h) refl

-- a packet that no chain can prove isn't released
of_past : (cfg : Config) (xs : List Arrival) (new : List KeyRow) (packet : Packet) (order m : ℕ) (o : Option Packet) → list_all (is_past cfg xs packet) (chains cfg) ≡ true → (m ≡ order → o ≡ Some packet) → list_all (is_elsewhere order) (release_of cfg xs new m o) ≡ true
of_past cfg xs new packet order m None past here = refl
of_past cfg xs new packet order m (Some other) past here =
    ⊎_elim
    (λ e. let same : other ≡ packet = same_Some other packet (here (eqb-true m order e)) in
    let none : find (proves cfg xs new other) (chains cfg) ≡ None = ap (λ (p : Packet). find (proves cfg xs new p) (chains cfg)) same ∙ past_none cfg xs new packet past in
    ap (λ (o : Option ℕ). list_all (is_elsewhere order) (release_on m other.frame o)) none)
    (λ e. on_elsewhere order m other.frame (find (proves cfg xs new other) (chains cfg)) e)
    (cases_Bool (m == order))

pub called_same : (order m : ℕ) (name : Name) (release : Release) → release.name ≡ name → has_name name release ≡ true
called_same order m name release e =
    and_from (release.name.interval == name.interval) (release.name.number == name.number)
    (eq-eqb release.name.interval name.interval (ap (λ (n : Name). n.interval) e)) (eq-eqb release.name.number name.number (ap (λ (n : Name). n.number) e))

on_called : (order m : ℕ) (name : Name) (f : DataFrame) (o : Option ℕ) → (m ≡ order → f.name ≡ name) → list_all (is_called order name) (release_on m f o) ≡ true
on_called order m name f None h = refl
on_called order m name f (Some chain) h =
    let release : Release = record { place = m; name = f.name; chain = record { 0 = chain } } in
    and_from (is_called order name release) true
    (⊎_elim (λ e. or_right (not (m == order)) (has_name name release) (called_same order m name release (h (eqb-true m order e))))
    (λ e. or_left (not (m == order)) (has_name name release) (not_from_false (m == order) e)) (cases_Bool (m == order)))
    refl

of_called : (cfg : Config) (xs : List Arrival) (new : List KeyRow) (packet : Packet) (order m : ℕ) (o : Option Packet) → (m ≡ order → o ≡ Some packet) → list_all (is_called order packet.frame.name) (release_of cfg xs new m o) ≡ true
of_called cfg xs new packet order m None here = refl
of_called cfg xs new packet order m (Some other) here =
    on_called order m packet.frame.name other.frame (find (proves cfg xs new other) (chains cfg)) (λ e. ap (λ (p : Packet). p.frame.name) (same_Some other packet (here e)))

-- the arrival at the place brought the packet
pub record Brought (xs : List Arrival) (order : ℕ) (packet : Packet) : Type 0 where
  pub arrival : Arrival
  pub at : slice_get xs order ≡ Some arrival
  pub kept : packet_of arrival ≡ Some packet

-- what was brought, where some of the arrivals are looked at
brought_at : (xs : List Arrival) (order m : ℕ) (packet : Packet) (x : Arrival) → Brought xs order packet → slice_get xs m ≡ Some x → m ≡ order → packet_of x ≡ Some packet
brought_at xs order m packet x b at e =
    let same : x ≡ b.arrival = same_Some x b.arrival (sym at ∙ ap (slice_get xs) e ∙ b.at) in
    ap packet_of same ∙ b.kept

brought_stays : (xs ys : List Arrival) (order : ℕ) (packet : Packet) → Brought xs order packet → Brought (xs ++ ys) order packet
brought_stays xs ys order packet b = record { arrival = b.arrival; at = slice_get-append xs ys order (slice_get_within xs order b.arrival b.at) ∙ b.at; kept = b.kept }

pub candidates_called : (cfg : Config) (xs : List Arrival) (order : ℕ) (packet : Packet) → Brought xs order packet → list_all (is_called order packet.frame.name) (each_after (batch cfg) [] xs) ≡ true
candidates_called cfg xs order packet b =
    all_each_after (is_called order packet.frame.name) (batch cfg) [] xs (λ prefix x rest e.
    all_enumerated (is_called order packet.frame.name) (λ (p : ℕ × Arrival). release_of cfg prefix (new_keys cfg prefix x) p.0 (packet_of p.1)) 0 prefix (λ k y at.
    let count : 0 + k ≡ k = omega arith in
    let there : slice_get xs k ≡ Some y = ap (λ zs. slice_get zs k) e ∙ slice_get-append prefix (x ∷ rest) k (slice_get_within prefix k y at) ∙ at in
    of_called cfg prefix (new_keys cfg prefix x) packet order (0 + k) (packet_of y) (λ same. brought_at xs order k packet y b there (sym count ∙ same))))

past_elsewhere : (cfg : Config) (xs ys : List Arrival) (order : ℕ) (packet : Packet) → Brought xs order packet → list_all (is_past cfg xs packet) (chains cfg) ≡ true → list_all (is_elsewhere order) (each_after (batch cfg) xs ys) ≡ true
past_elsewhere cfg xs ys order packet b past =
    all_each_after (is_elsewhere order) (batch cfg) xs ys (λ prefix x rest e.
    all_enumerated (is_elsewhere order) (λ (p : ℕ × Arrival). release_of cfg (xs ++ prefix) (new_keys cfg (xs ++ prefix) x) p.0 (packet_of p.1)) 0 (xs ++ prefix) (λ k y at.
    let count : 0 + k ≡ k = omega arith in
    of_past cfg (xs ++ prefix) (new_keys cfg (xs ++ prefix) x) packet order (0 + k) (packet_of y) (all_past_stay cfg xs prefix packet past)
    (λ same. brought_at (xs ++ prefix) order k packet y (brought_stays xs prefix order packet b) at (sym count ∙ same))))

-- where the name stands before, none of the place comes again
called_elsewhere : (order : ℕ) (name : Name) (before xs : List Release) → list_any (has_name name) before ≡ true → list_all (is_called order name) xs ≡ true → list_all (is_elsewhere order) (each_after unless_named before xs) ≡ true
called_elsewhere order name before [] stands h = refl
called_elsewhere order name before (x ∷ xs) stands h =
    let parts = and_parts (is_called order name x) (list_all (is_called order name) xs) h in
    let later = called_elsewhere order name (before ++ x ∷ []) xs (list_any-append (has_name name) before (x ∷ []) ∙ or_left (list_any (has_name name) before) (list_any (has_name name) (x ∷ [])) stands) parts.1 in
    let here : list_all (is_elsewhere order) (unless_named before x) ≡ true =
    ⊎_elim
    (λ e. unless_pass (is_elsewhere order) x (list_any (has_name x.name) before) e)
    (λ e. let found : list_any (has_name x.name) before ≡ true = ap (λ (n : Name). list_any (has_name n) before) (same_name name x e) ∙ stands in
    ap (λ b. list_all (is_elsewhere order) (cond b [] (x ∷ []))) found)
    (or_cases (is_elsewhere order x) (has_name name x) parts.0) in
    list_all-append (is_elsewhere order) (unless_named before x) (each_after unless_named (before ++ x ∷ []) xs)
    ∙ and_from (list_all (is_elsewhere order) (unless_named before x)) (list_all (is_elsewhere order) (each_after unless_named (before ++ x ∷ []) xs)) here later

-- a release of the place is one of the name
pub called_any : (order : ℕ) (name : Name) (xs : List Release) → list_all (is_called order name) xs ≡ true → list_any (is_at order) xs ≡ true → list_any (has_name name) xs ≡ true
called_any order name [] all h = absurd (cc)
called_any order name (x ∷ xs) all h =
    let parts = and_parts (is_called order name x) (list_all (is_called order name) xs) all in
    ⊎_elim
    (λ e. ⊎_elim (λ no. absurd (cc (not-true (is_at order x) no, e))) (λ yes. or_left (has_name name x) (list_any (has_name name) xs) yes) (or_cases (is_elsewhere order x) (has_name name x) parts.0))
    (λ e. or_right (has_name name x) (list_any (has_name name) xs) (called_any order name xs parts.1 e))
    (or_cases (is_at order x) (list_any (is_at order) xs) h)

-- ---- the packet

module _ (cfg : Config) (xs ys : List Arrival) (order : ℕ) (packet : Packet) where
  settled_stays : is_settled cfg xs order packet ≡ true → is_settled cfg (xs ++ ys) order packet ≡ true
  unfolding candidates
  settled_stays h =
      let a : List Release = each_after (batch cfg) [] xs in
      let b : List Release = each_after (batch cfg) xs ys in
      let proved : list_any (is_at order) (each_after (batch cfg) [] (xs ++ ys)) ≡ (list_any (is_at order) a || list_any (is_at order) b) =
      ap (list_any (is_at order)) (each_after-append (batch cfg) [] xs ys) ∙ list_any-append (is_at order) a b in
      let past : Bool = list_all (is_past cfg (xs ++ ys) packet) (chains cfg) in
      ap (λ p. p || past) proved
      ∙ ⊎_elim
      (λ e. or_left (list_any (is_at order) a || list_any (is_at order) b) past (or_left (list_any (is_at order) a) (list_any (is_at order) b) e))
      (λ e. or_right (list_any (is_at order) a || list_any (is_at order) b) past (all_past_stay cfg xs ys packet e))
      (or_cases (list_any (is_at order) a) (list_all (is_past cfg xs packet) (chains cfg)) h)

  -- what was settled is released with the arrivals that settle it, or never
  unreleased_stays : Brought xs order packet → is_settled cfg xs order packet ≡ true → list_any (is_at order) (released cfg xs) ≡ false → list_any (is_at order) (released cfg (xs ++ ys)) ≡ false
  unfolding candidates released
  unreleased_stays brought settled none =
      let a : List Release = each_after (batch cfg) [] xs in
      let b : List Release = each_after (batch cfg) xs ys in
      let all : each_after (batch cfg) [] (xs ++ ys) ≡ a ++ b = each_after-append (batch cfg) [] xs ys in
      let rest : List Release = each_after unless_named a b in
      let elsewhere : list_all (is_elsewhere order) rest ≡ true =
      ⊎_elim
      (λ e. let called = and_parts (list_all (is_called order packet.frame.name) a) (list_all (is_called order packet.frame.name) b)
      (sym (list_all-append (is_called order packet.frame.name) a b) ∙ ap (list_all (is_called order packet.frame.name)) (sym all) ∙ candidates_called cfg (xs ++ ys) order packet (brought_stays xs ys order packet brought)) in
      called_elsewhere order packet.frame.name a b (called_any order packet.frame.name a called.0 e) called.1)
      (λ e. firsts_pass (is_elsewhere order) a b (past_elsewhere cfg xs ys order packet brought e))
      (or_cases (list_any (is_at order) a) (list_all (is_past cfg xs packet) (chains cfg)) settled) in
      ap (λ c. list_any (is_at order) (each_after unless_named [] c)) all ∙ ap (list_any (is_at order)) (each_after-append unless_named [] a b)
      ∙ list_any-append (is_at order) (each_after unless_named [] a) rest
      ∙ or_from (list_any (is_at order) (each_after unless_named [] a)) (list_any (is_at order) rest) none (none_passes (is_at order) rest elsewhere)

  taken_stays : (given more : ℕ) → list_any (is_at order) (take given (released cfg xs)) ≡ true → list_any (is_at order) (take (given + more) (released cfg (xs ++ ys))) ≡ true
  taken_stays given more h =
      let longer = released_more cfg xs ys in
      any_further (is_at order) (released cfg (xs ++ ys)) given more
      (ap (λ r. list_any (is_at order) (take given r)) longer.1 ∙ any_longer (is_at order) (released cfg xs) longer.0 given h)

  -- a packet that is gone stays gone
  pub gone_stays : (given more : ℕ) → Brought xs order packet → is_gone cfg xs given order packet ≡ true → is_gone cfg (xs ++ ys) (given + more) order packet ≡ true
  gone_stays given more brought h =
      let interval : ℕ = packet.frame.name.interval in
      let none : Bool = is_settled cfg (xs ++ ys) order packet && not (list_any (is_at order) (released cfg (xs ++ ys))) in
      let done : Bool = list_any (is_at order) (take (given + more) (released cfg (xs ++ ys))) && list_all (has_passed cfg (xs ++ ys) interval) (chains cfg) in
      ⊎_elim
      (λ e. let parts = and_parts (is_settled cfg xs order packet) (not (list_any (is_at order) (released cfg xs))) e in
      or_left none done
      (and_from (is_settled cfg (xs ++ ys) order packet) (not (list_any (is_at order) (released cfg (xs ++ ys)))) (settled_stays parts.0)
      (not_from_false (list_any (is_at order) (released cfg (xs ++ ys))) (unreleased_stays brought parts.0 (not-true (list_any (is_at order) (released cfg xs)) parts.1)))))
      (λ e. let parts = and_parts (list_any (is_at order) (take given (released cfg xs))) (list_all (has_passed cfg xs interval) (chains cfg)) e in
      or_right none done
      (and_from (list_any (is_at order) (take (given + more) (released cfg (xs ++ ys)))) (list_all (has_passed cfg (xs ++ ys) interval) (chains cfg)) (taken_stays given more parts.0)
      (list_all_weaker (has_passed cfg xs interval) (has_passed cfg (xs ++ ys) interval) (chains cfg) (passed_stays cfg xs ys interval) parts.1)))
      (or_cases (is_settled cfg xs order packet && not (list_any (is_at order) (released cfg xs))) (list_any (is_at order) (take given (released cfg xs)) && list_all (has_passed cfg xs interval) (chains cfg)) h)
