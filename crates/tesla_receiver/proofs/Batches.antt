-- What new keys prove and release, by the packets that are held.
use Rattle.std.proofs.Common.{◌≡◌, ℕ, ◌+◌, ◌<◌, Bool, true, false, cond, ◌&&◌, ◌||◌, List, [], ◌∷◌, length, map, take, flat_map, Option, Some, None, refl, sym, ap, ⊎_elim, inl, inr, ◌∙◌, arith, ◌==◌}
use Rattle.std.specs.Prelude.{not, slice_get, nat_lt, nat_le, find, filter, option_map}
use Rattle.std.specs.List.{list_any, list_all, enumerate_from}
use Rattle.std.proofs.lemmas.Bool.{and_parts, and_from, and_right, or_from, or_left, or_right, or_cases, cases_Bool, not-true, not_from_true, not_from_false, both_ways, ltb-true, lt-leb, eq-eqb}
use Rattle.std.proofs.lemmas.List.{append-nil}
use Rattle.std.proofs.lemmas.Option.{slice_get-map}
use Rattle.tesla_base.specs.declared.names.Name.{Name}
use Rattle.tesla_base.proofs.Lists.{list_all_weaker, list_any_got, not_all_numbers}
use Rattle.tesla_base.proofs.Below.{find_below, found_below}
use Rattle.tesla_base.proofs.Numbered.{all_enumerated, any_from, flat_map-flat_map}
use Rattle.tesla_base.proofs.Passing.{any_same, implied, passes_at, passes_somewhere, same_test}
use Rattle.tesla_clock.specs.Safe.{has_chain}
use Rattle.tesla_frame.specs.declared.row.KeyRow.{KeyRow}
use Rattle.tesla_frame.specs.Frame.{TagRow}
use Rattle.tesla_keys.specs.Tip.{Tip}
use Rattle.tesla_fitting.specs.declared.config.Config.{Config}
use Rattle.tesla_receiver.specs.Entries.{Arrival}
use Rattle.tesla_receiver.specs.declared.packet.Packet.{Packet}
use Rattle.tesla_fitting.specs.Config.{chains}
use Rattle.tesla_state.specs.Releases.{is_at, each_after, has_name, unless_named}
use Rattle.tesla_receiver.specs.Held.{has_passed, is_past, is_settled, is_gone}
use Rattle.tesla_fitting.specs.Rows.{is_of, tag_in}
use Rattle.tesla_receiver.specs.Keys.{newest}
use Rattle.tesla_receiver.specs.Packets.{packet_of, verifies_row, is_proof, proves, release_on, release_of, proved_by, candidates, released}
use Rattle.tesla_walks.specs.Holding.{Holding}
use Rattle.tesla_receiver.specs.Stands.{holding_of, held_at, holdings}
use Rattle.tesla_walks.specs.Tips.{tip_at}
use Rattle.tesla_walks.specs.Proved.{matches, is_proof_of, proves_on, released_on, proof_of}
use Rattle.tesla_state.specs.Steps.{batch_of, as_release, is_released, released_of, is_named_so}
use Rattle.tesla_receiver.proofs.Gone.{Brought, past_none}
use Rattle.tesla_state.proofs.Named.{same_name}
use Rattle.tesla_receiver.proofs.Owners.{owned_at, named_at, released_proved}
use Rattle.tesla_receiver.proofs.Names.{AgreeOn, SameOrSeen, first_named, firsts_gathered}

-- ---- the newest keys

-- the tips of the chains have the newest indexes
abbrev pub TipsOf : Config → List Arrival → List Tip → Type 0
TipsOf cfg xs tips = (c : ℕ) → c < length cfg.setup.rows → (tip_at tips c).index ≡ newest cfg xs c

-- ---- names that are still open

-- some chain hasn't passed the interval of the name
abbrev pub is_open : Config → List Arrival → Name → Bool
is_open cfg xs name = not (list_all (has_passed cfg xs name.interval) (chains cfg))

-- a packet of the name was proved
abbrev pub is_seen : Config → List Arrival → Name → Bool
is_seen cfg xs name = list_any (has_name name) (candidates cfg xs)

-- a packet that is released stays while some chain hasn't passed it
pub not_gone : (cfg : Config) (xs : List Arrival) (given order : ℕ) (packet : Packet) → list_any (is_at order) (released cfg xs) ≡ true → list_all (has_passed cfg xs packet.frame.name.interval) (chains cfg) ≡ false → is_gone cfg xs given order packet ≡ false
not_gone cfg xs given order packet out still =
    or_from (is_settled cfg xs order packet && not (list_any (is_at order) (released cfg xs)))
    (list_any (is_at order) (take given (released cfg xs)) && list_all (has_passed cfg xs packet.frame.name.interval) (chains cfg))
    (and_right (is_settled cfg xs order packet) (not (list_any (is_at order) (released cfg xs))) (not_from_true (list_any (is_at order) (released cfg xs)) out))
    (and_right (list_any (is_at order) (take given (released cfg xs))) (list_all (has_passed cfg xs packet.frame.name.interval) (chains cfg)) still)

-- ---- names that were released, by the packets that are held

called_so : (name : Name) (item : Holding) → item.released ≡ true → item.name ≡ name → is_named_so name item ≡ true
called_so name item out same =
    and_from item.released (has_name name (as_release item)) out
    (and_from (item.name.interval == name.interval) (item.name.number == name.number)
    (eq-eqb item.name.interval name.interval (ap (λ (n : Name). n.interval) same)) (eq-eqb item.name.number name.number (ap (λ (n : Name). n.number) same)))

-- a released packet that isn't gone is held under its name
held_name : (cfg : Config) (xs : List Arrival) (given order : ℕ) (packet : Packet) (name : Name) (o : Option Packet) → o ≡ Some packet → is_gone cfg xs given order packet ≡ false → list_any (is_at order) (released cfg xs) ≡ true → packet.frame.name ≡ name → list_any (is_named_so name) (held_at cfg xs given order o) ≡ true
held_name cfg xs given order packet name o kept stays out same =
    ap (λ (p : Option Packet). list_any (is_named_so name) (held_at cfg xs given order p)) kept
    ∙ ap (λ b. list_any (is_named_so name) (cond b [] (holding_of cfg xs given order packet ∷ []))) stays
    ∙ or_left (is_named_so name (holding_of cfg xs given order packet)) false (called_so name (holding_of cfg xs given order packet) out same)

named_to_held : (cfg : Config) (xs : List Arrival) (given : ℕ) (name : Name) → is_open cfg xs name ≡ true → is_seen cfg xs name ≡ true → list_any (is_named_so name) (holdings cfg xs given) ≡ true
unfolding holdings released
named_to_held cfg xs given name still seen =
    let out : list_any (has_name name) (released cfg xs) ≡ true = first_named name [] (candidates cfg xs) refl seen in
    let found = passes_somewhere (has_name name) (released cfg xs) out in
    let owned = owned_at cfg xs found.place found.element found.at in
    let count : found.element.place ≡ 0 + found.element.place = omega arith in
    let same : owned.packet.frame.name ≡ name = owned.name ∙ same_name name found.element found.passes in
    let here : list_any (is_at found.element.place) (released cfg xs) ≡ true = list_any_got (is_at found.element.place) (released cfg xs) found.place found.element found.at (eq-eqb found.element.place found.element.place refl) in
    let not_passed : list_all (has_passed cfg xs owned.packet.frame.name.interval) (chains cfg) ≡ false =
    ap (λ (n : Name). list_all (has_passed cfg xs n.interval) (chains cfg)) same ∙ not-true (list_all (has_passed cfg xs name.interval) (chains cfg)) still in
    let stays = not_gone cfg xs given found.element.place owned.packet here not_passed in
    any_from (is_named_so name) (λ (p : ℕ × Arrival). held_at cfg xs given p.0 (packet_of p.1)) 0 xs found.element.place owned.brought.arrival owned.brought.at
    (ap (λ k. list_any (is_named_so name) (held_at cfg xs given k (packet_of owned.brought.arrival))) (sym count)
    ∙ held_name cfg xs given found.element.place owned.packet name (packet_of owned.brought.arrival) owned.brought.kept stays here same)

-- a held packet's name, if it is released, was seen
seen_item : (cfg : Config) (xs : List Arrival) (given order : ℕ) (packet : Packet) (name : Name) → Brought xs order packet → (not (is_named_so name (holding_of cfg xs given order packet)) || is_seen cfg xs name) ≡ true
seen_item cfg xs given order packet name brought =
    implied (is_named_so name (holding_of cfg xs given order packet)) (is_seen cfg xs name)
    (λ h. let parts = and_parts (list_any (is_at order) (released cfg xs)) (has_name name (as_release (holding_of cfg xs given order packet))) h in
    ap (λ (n : Name). is_seen cfg xs n) (sym (same_name name (as_release (holding_of cfg xs given order packet)) parts.1))
    ∙ named_at cfg xs order packet brought (released_proved cfg xs (is_at order) parts.0))

all_if_held : (q : Holding → Bool) (item : Holding) (b : Bool) → (b ≡ false → q item ≡ true) → list_all q (cond b [] (item ∷ [])) ≡ true
all_if_held q item true h = refl
all_if_held q item false h = and_from (q item) true (h refl) refl

all_held_at : (cfg : Config) (xs : List Arrival) (given : ℕ) (q : Holding → Bool) (order : ℕ) (x : Arrival) (o : Option Packet) → slice_get xs order ≡ Some x → packet_of x ≡ o → ((order : ℕ) (packet : Packet) → Brought xs order packet → is_gone cfg xs given order packet ≡ false → q (holding_of cfg xs given order packet) ≡ true) → list_all q (held_at cfg xs given order o) ≡ true
all_held_at cfg xs given q order x None at kept each = refl
all_held_at cfg xs given q order x (Some packet) at kept each =
    all_if_held q (holding_of cfg xs given order packet) (is_gone cfg xs given order packet) (each order packet (record { arrival = x; at = at; kept = kept }))

-- all held packets pass what each that was brought and isn't gone passes
pub all_held : (cfg : Config) (xs : List Arrival) (given : ℕ) (q : Holding → Bool) → ((order : ℕ) (packet : Packet) → Brought xs order packet → is_gone cfg xs given order packet ≡ false → q (holding_of cfg xs given order packet) ≡ true) → list_all q (holdings cfg xs given) ≡ true
unfolding holdings
all_held cfg xs given q each =
    all_enumerated q (λ (p : ℕ × Arrival). held_at cfg xs given p.0 (packet_of p.1)) 0 xs (λ k x at.
    let count : k ≡ 0 + k = omega arith in
    all_held_at cfg xs given q (0 + k) x (packet_of x) (ap (slice_get xs) (sym count) ∙ at) refl each)

held_to_named : (cfg : Config) (xs : List Arrival) (given : ℕ) (name : Name) → list_any (is_named_so name) (holdings cfg xs given) ≡ true → is_seen cfg xs name ≡ true
held_to_named cfg xs given name h =
    let found = passes_somewhere (is_named_so name) (holdings cfg xs given) h in
    let all = all_held cfg xs given (λ item. not (is_named_so name item) || is_seen cfg xs name) (λ order packet brought stays. seen_item cfg xs given order packet name brought) in
    let here = passes_at (λ item. not (is_named_so name item) || is_seen cfg xs name) (holdings cfg xs given) found.place found.element all found.at in
    ⊎_elim
    (λ e. absurd (both_ways (is_named_so name found.element) (not-true (is_named_so name found.element) e) found.passes))
    (λ e. e)
    (or_cases (not (is_named_so name found.element)) (is_seen cfg xs name) here)

-- where some chain hasn't passed the name's interval, it was seen exactly where a held packet of it is released
pub seen_held : (cfg : Config) (xs : List Arrival) (given : ℕ) (name : Name) → is_open cfg xs name ≡ true → is_seen cfg xs name ≡ list_any (is_named_so name) (holdings cfg xs given)
seen_held cfg xs given name still = same_test (is_seen cfg xs name) (list_any (is_named_so name) (holdings cfg xs given)) (named_to_held cfg xs given name still) (held_to_named cfg xs given name)

filtered_step : (name : Name) (b : Bool) (item : Holding) (rest : List Holding) → list_any (has_name name) (map as_release (cond b (item ∷ rest) rest)) ≡ (b && has_name name (as_release item) || list_any (has_name name) (map as_release rest))
filtered_step name true item rest = refl
filtered_step name false item rest = refl

-- the names of the released ones among held packets
pub named_filter : (name : Name) (held : List Holding) → list_any (has_name name) (map as_release (filter is_released held)) ≡ list_any (is_named_so name) held
named_filter name [] = refl
named_filter name (item ∷ held) = filtered_step name item.released item (filter is_released held) ∙ ap (λ b. is_named_so name item || b) (named_filter name held)

names_agree : (cfg : Config) (xs : List Arrival) (given : ℕ) → AgreeOn (is_open cfg xs) (candidates cfg xs) (map as_release (filter is_released (holdings cfg xs given)))
names_agree cfg xs given name still = seen_held cfg xs given name still ∙ sym (named_filter name (holdings cfg xs given))

-- ---- what new keys prove of one packet

module _ (cfg : Config) (xs : List Arrival) (given : ℕ) (new : List KeyRow) (tips : List Tip) (newer : TipsOf cfg xs tips) where
  matches_same : (order : ℕ) (packet : Packet) (chain : ℕ) (row : KeyRow) (o : Option TagRow) → matches cfg (holding_of cfg xs given order packet) chain row (option_map tag_in o) ≡ verifies_row cfg packet.frame chain row o
  matches_same order packet chain row None = refl
  matches_same order packet chain row (Some tagged) = refl

  proof_same : (order : ℕ) (packet : Packet) (chain : ℕ) (row : KeyRow) → is_proof_of cfg (holding_of cfg xs given order packet) chain row ≡ is_proof cfg packet.frame chain row
  proof_same order packet chain row =
      ap (λ o. is_of chain row && nat_le packet.frame.name.interval row.index && matches cfg (holding_of cfg xs given order packet) chain row o) (slice_get-map tag_in packet.frame.rows chain)
      ∙ ap (λ b. is_of chain row && nat_le packet.frame.name.interval row.index && b) (matches_same order packet chain row (slice_get packet.frame.rows chain))

  proves_same : (order : ℕ) (packet : Packet) (chain : ℕ) → chain < length cfg.setup.rows → proves_on cfg tips new (holding_of cfg xs given order packet) chain ≡ proves cfg xs new packet chain
  proves_same order packet chain within =
      ap (λ (n : ℕ). has_chain packet.chains chain && nat_lt n packet.frame.name.interval && list_any (is_proof_of cfg (holding_of cfg xs given order packet) chain) new) (newer chain within)
      ∙ ap (λ b. has_chain packet.chains chain && nat_lt (newest cfg xs chain) packet.frame.name.interval && b) (any_same (is_proof_of cfg (holding_of cfg xs given order packet) chain) (is_proof cfg packet.frame chain) new (proof_same order packet chain))

  on_same : (order : ℕ) (packet : Packet) (o : Option ℕ) → released_on (holding_of cfg xs given order packet) o ≡ release_on order packet.frame o
  on_same order packet None = refl
  on_same order packet (Some chain) = refl

  -- a packet that is held and isn't released is proved alike
  pub proof_held : (order : ℕ) (packet : Packet) → list_any (is_at order) (released cfg xs) ≡ false → proof_of cfg tips new (holding_of cfg xs given order packet) ≡ release_of cfg xs new order (Some packet)
  proof_held order packet waits =
      let item : Holding = holding_of cfg xs given order packet in
      ap (λ b. cond b [] (released_on item (find (proves_on cfg tips new item) (chains cfg)))) waits
      ∙ ap (released_on item) (find_below (proves_on cfg tips new item) (proves cfg xs new packet) 0 (length cfg.setup.rows) (λ c h. proves_same order packet c (omega arith)))
      ∙ on_same order packet (find (proves cfg xs new packet) (chains cfg))

  -- ---- and of all

  names_on : (ok : Name → Bool) (order : ℕ) (packet : Packet) (o : Option ℕ) → ok packet.frame.name ≡ true → list_all (λ r. ok r.name) (release_on order packet.frame o) ≡ true
  names_on ok order packet None h = refl
  names_on ok order packet (Some chain) h = and_from (ok packet.frame.name) true h refl

  open_on : (order : ℕ) (packet : Packet) (o : Option ℕ) → find (proves cfg xs new packet) (chains cfg) ≡ o → list_all (λ r. is_open cfg xs r.name) (release_on order packet.frame o) ≡ true
  open_on order packet None found = refl
  open_on order packet (Some chain) found =
      let here = found_below (proves cfg xs new packet) (length cfg.setup.rows) chain found in
      let parts = and_parts (has_chain packet.chains chain && nat_lt (newest cfg xs chain) packet.frame.name.interval) (list_any (is_proof cfg packet.frame chain) new) here.passes in
      let below = ltb-true (newest cfg xs chain) packet.frame.name.interval ((and_parts (has_chain packet.chains chain) (nat_lt (newest cfg xs chain) packet.frame.name.interval) parts.0).1) in
      names_on (is_open cfg xs) order packet (Some chain)
      (not_from_false (list_all (has_passed cfg xs packet.frame.name.interval) (chains cfg))
      (not_all_numbers (has_passed cfg xs packet.frame.name.interval) (length cfg.setup.rows) chain here.below (lt-leb packet.frame.name.interval (newest cfg xs chain) below)))

  past_seen : (order : ℕ) (packet : Packet) → list_all (is_past cfg xs packet) (chains cfg) ≡ true → list_all (λ r. is_seen cfg xs r.name) (release_of cfg xs new order (Some packet)) ≡ true
  past_seen order packet past = ap (λ o. list_all (λ r. is_seen cfg xs r.name) (release_on order packet.frame o)) (past_none cfg xs new packet past)

  at_seen : (order : ℕ) (packet : Packet) → Brought xs order packet → list_any (is_at order) (candidates cfg xs) ≡ true → list_all (λ r. is_seen cfg xs r.name) (release_of cfg xs new order (Some packet)) ≡ true
  at_seen order packet brought h = names_on (is_seen cfg xs) order packet (find (proves cfg xs new packet) (chains cfg)) (named_at cfg xs order packet brought h)

  -- what is gone adds no name
  gone_seen : (order : ℕ) (packet : Packet) → Brought xs order packet → is_gone cfg xs given order packet ≡ true → list_all (λ r. is_seen cfg xs r.name) (release_of cfg xs new order (Some packet)) ≡ true
  gone_seen order packet brought h =
      ⊎_elim
      (λ e. ⊎_elim
      (λ f. at_seen order packet brought f)
      (λ f. past_seen order packet f)
      (or_cases (list_any (is_at order) (candidates cfg xs)) (list_all (is_past cfg xs packet) (chains cfg)) ((and_parts (is_settled cfg xs order packet) (not (list_any (is_at order) (released cfg xs))) e).0)))
      (λ e. past_seen order packet
      (list_all_weaker (has_passed cfg xs packet.frame.name.interval) (is_past cfg xs packet) (chains cfg) (λ c f. or_right (not (has_chain packet.chains c)) (has_passed cfg xs packet.frame.name.interval c) f)
      ((and_parts (list_any (is_at order) (take given (released cfg xs))) (list_all (has_passed cfg xs packet.frame.name.interval) (chains cfg)) e).1)))
      (or_cases (is_settled cfg xs order packet && not (list_any (is_at order) (released cfg xs))) (list_any (is_at order) (take given (released cfg xs)) && list_all (has_passed cfg xs packet.frame.name.interval) (chains cfg)) h)

  each_same : (order : ℕ) (o : Option Packet) → ((packet : Packet) → o ≡ Some packet → Brought xs order packet) → SameOrSeen (is_open cfg xs) (is_seen cfg xs) (release_of cfg xs new order o) (flat_map (proof_of cfg tips new) (held_at cfg xs given order o))
  each_same order None brought = inl (refl, refl)
  each_same order (Some packet) brought =
      let item : Holding = holding_of cfg xs given order packet in
      ⊎_elim
      (λ e. inr (ap (λ b. flat_map (proof_of cfg tips new) (cond b [] (item ∷ []))) e, gone_seen order packet (brought packet refl) e))
      (λ e. let one : flat_map (proof_of cfg tips new) (held_at cfg xs given order (Some packet)) ≡ proof_of cfg tips new item = ap (λ b. flat_map (proof_of cfg tips new) (cond b [] (item ∷ []))) e ∙ append-nil (proof_of cfg tips new item) in
      ⊎_elim
      (λ f. inr (one ∙ ap (λ b. cond b [] (released_on item (find (proves_on cfg tips new item) (chains cfg)))) f, at_seen order packet (brought packet refl) (released_proved cfg xs (is_at order) f)))
      (λ f. inl (sym (one ∙ proof_held order packet f), open_on order packet (find (proves cfg xs new packet) (chains cfg)) refl))
      (cases_Bool (list_any (is_at order) (released cfg xs))))
      (cases_Bool (is_gone cfg xs given order packet))

  -- what new keys release, by the packets that are held
  pub released_by : each_after unless_named (candidates cfg xs) (proved_by cfg xs new) ≡ released_of (holdings cfg xs given) (batch_of cfg tips new (holdings cfg xs given))
  unfolding holdings
  released_by =
      firsts_gathered (is_open cfg xs) (is_seen cfg xs) (λ (p : ℕ × Arrival). release_of cfg xs new p.0 (packet_of p.1)) (λ (p : ℕ × Arrival). flat_map (proof_of cfg tips new) (held_at cfg xs given p.0 (packet_of p.1))) 0 xs
      (candidates cfg xs) (map as_release (filter is_released (holdings cfg xs given))) (names_agree cfg xs given) (λ name h. h)
      (λ k x at. let count : k ≡ 0 + k = omega arith in each_same (0 + k) (packet_of x) (λ packet kept. record { arrival = x; at = ap (slice_get xs) (sym count) ∙ at; kept = kept }))
      ∙ ap (each_after unless_named (map as_release (filter is_released (holdings cfg xs given))))
      (sym (flat_map-flat_map (proof_of cfg tips new) (λ (p : ℕ × Arrival). held_at cfg xs given p.0 (packet_of p.1)) (enumerate_from 0 xs)))
