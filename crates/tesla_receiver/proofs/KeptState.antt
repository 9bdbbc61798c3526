-- The keys, packets and releases that a receiver keeps, with one arrival more.
use Rattle.std.proofs.Common.{◌≡◌, ℕ, ◌+◌, ◌<◌, ◌≤◌, Bool, true, false, cond, ◌&&◌, ◌||◌, List, [], ◌∷◌, ◌++◌, length, map, drop, flat_map, get_or, Option, Some, None, refl, sym, ap, ⊎_elim, ◌∙◌}
use Rattle.std.specs.Prelude.{not, find, fold, filter, nat_lt}
use Rattle.std.specs.List.{list_any, list_all, enumerate_from}
use Rattle.std.proofs.Math.Bool.{or-false}
use Rattle.std.proofs.lemmas.Bool.{and_parts, and_left, and_right, and_cases, or_parts, or_from, not-true, not_from_false}
use Rattle.std.proofs.lemmas.List.{append-nil, drop-append-le}
use Rattle.tesla_base.proofs.Lists.{map_same}
use Rattle.tesla_base.proofs.Below.{got_below}
use Rattle.tesla_base.proofs.Numbered.{map_numbered}
use Rattle.tesla_clock.specs.Safe.{has_chain}
use Rattle.tesla_frame.specs.Reading.{frame_of}
use Rattle.tesla_frame.specs.declared.row.KeyRow.{KeyRow}
use Rattle.tesla_keys.specs.Tip.{Tip}
use Rattle.tesla_fitting.specs.declared.config.Config.{Config}
use Rattle.tesla_receiver.specs.Entries.{Arrival}
use Rattle.tesla_receiver.specs.declared.packet.Packet.{Packet}
use Rattle.tesla_fitting.specs.Config.{chains}
use Rattle.tesla_state.specs.Releases.{is_at}
use Rattle.tesla_receiver.specs.Held.{has_passed, is_past, is_gone}
use Rattle.tesla_receiver.specs.Keys.{takes_keys, keys_in, newest, new_keys}
use Rattle.tesla_receiver.specs.Packets.{packet_of, candidates, released}
use Rattle.tesla_walks.specs.Holding.{Holding}
use Rattle.tesla_state.specs.State.{State}
use Rattle.tesla_receiver.specs.Stands.{holding_of, held_at, holdings}
use Rattle.tesla_walks.specs.Tips.{no_tip, tip_at, tips_after, raised}
use Rattle.tesla_walks.specs.Proved.{proves_on, released_on}
use Rattle.tesla_state.specs.Steps.{batch_of, released_of, is_passed, is_let_go, marked, kept_after, with_keys}
use Rattle.tesla_receiver.specs.Tips.{tip_of}
use Rattle.tesla_receiver.proofs.Batches.{TipsOf, all_held}
use Rattle.tesla_receiver.proofs.Tips.{tip_index, tip_more}
use Rattle.tesla_receiver.proofs.HeldAfter.{over_same, passed_same, released_now, released_after, holdings_more}

-- the keys, packets and releases are those that the arrivals and what was given name
pub record Keeps (state : State) (xs : List Arrival) (given : ℕ) : Type 0 where
  pub tips : state.tips ≡ map (tip_of state.config xs) (chains state.config)
  pub held : state.held ≡ holdings state.config xs given
  pub waiting : state.waiting ≡ drop given (released state.config xs)

-- ---- the newest keys

pub tip_kept : (s : State) (xs : List Arrival) (given : ℕ) → Keeps s xs given → (c : ℕ) → c < length s.config.setup.rows → tip_at s.tips c ≡ tip_of s.config xs c
tip_kept s xs given k c h = ap (λ ts. get_or ts c no_tip) k.tips ∙ got_below (tip_of s.config xs) (length s.config.setup.rows) c no_tip h

pub tips_kept : (s : State) (xs : List Arrival) (given : ℕ) → Keeps s xs given → TipsOf s.config xs s.tips
tips_kept s xs given k c h = ap (λ (t : Tip). t.index) (tip_kept s xs given k c h) ∙ tip_index s.config xs c

-- the newest keys with one arrival more
tips_more : (s : State) (xs : List Arrival) (given : ℕ) (a : Arrival) → Keeps s xs given → tips_after s.tips (new_keys s.config xs a) ≡ map (tip_of s.config (xs ++ a ∷ [])) (chains s.config)
tips_more s xs given a k =
    ap (λ ts. tips_after ts (new_keys s.config xs a)) k.tips
    ∙ map_numbered (λ (p : ℕ × Tip). fold (raised p.0) p.1 (new_keys s.config xs a)) (tip_of s.config xs) 0 (length s.config.setup.rows)
    ∙ map_same (λ c. fold (raised c) (tip_of s.config xs c) (new_keys s.config xs a)) (tip_of s.config (xs ++ a ∷ [])) (chains s.config) (λ c. sym (tip_more s.config xs a c))

tips_of_more : (s : State) (xs : List Arrival) (given : ℕ) (a : Arrival) → Keeps s xs given → TipsOf s.config (xs ++ a ∷ []) (tips_after s.tips (new_keys s.config xs a))
tips_of_more s xs given a k c h =
    ap (λ ts. (tip_at ts c).index) (tips_more s xs given a k) ∙ ap (λ (t : Tip). t.index) (got_below (tip_of s.config (xs ++ a ∷ [])) (length s.config.setup.rows) c no_tip h) ∙ tip_index s.config (xs ++ a ∷ []) c

-- ---- an arrival that takes its keys

module _ (s : State) (xs : List Arrival) (given : ℕ) (a : Arrival) (k : Keeps s xs given) (few : given ≤ length (released s.config xs)) where
  pub tips_keyed : (with_keys s (new_keys s.config xs a)).tips ≡ map (tip_of s.config (xs ++ a ∷ [])) (chains s.config)
  tips_keyed = tips_more s xs given a k

  pub waiting_keyed : (with_keys s (new_keys s.config xs a)).waiting ≡ drop given (released s.config (xs ++ a ∷ []))
  waiting_keyed =
      let cfg : Config = s.config in
      let after : List Tip = tips_after s.tips (new_keys cfg xs a) in
      ap (λ w. w ++ released_of s.held (batch_of cfg s.tips (new_keys cfg xs a) s.held)) k.waiting
      ∙ ap (λ hs. drop given (released cfg xs) ++ released_of hs (batch_of cfg s.tips (new_keys cfg xs a) hs)) k.held
      ∙ sym (drop-append-le given (released cfg xs) (released_now cfg xs a given s.tips after (tips_kept s xs given k) (tips_of_more s xs given a k) few) few)
      ∙ ap (drop given) (sym (released_after cfg xs a given s.tips after (tips_kept s xs given k) (tips_of_more s xs given a k) few))

  pub held_keyed : (with_keys s (new_keys s.config xs a)).held ++ held_at s.config (xs ++ a ∷ []) given (length xs) (packet_of a) ≡ holdings s.config (xs ++ a ∷ []) given
  held_keyed =
      let cfg : Config = s.config in
      let new : List KeyRow = new_keys cfg xs a in
      let after : List Tip = tips_after s.tips new in
      ap (λ hs. flat_map (kept_after cfg after (batch_of cfg s.tips new hs) (released_of hs (batch_of cfg s.tips new hs))) hs ++ held_at cfg (xs ++ a ∷ []) given (length xs) (packet_of a)) k.held
      ∙ sym (holdings_more cfg xs a given s.tips after (tips_kept s xs given k) (tips_of_more s xs given a k) few)

  -- an arrival that isn't kept
  pub keeps_keyed : packet_of a ≡ None → Keeps (with_keys s (new_keys s.config xs a)) (xs ++ a ∷ []) given
  keeps_keyed none = record {
    tips = tips_keyed;
    held = sym (ap (λ o. (with_keys s (new_keys s.config xs a)).held ++ held_at s.config (xs ++ a ∷ []) given (length xs) o) none ∙ append-nil (with_keys s (new_keys s.config xs a)).held) ∙ held_keyed;
    waiting = waiting_keyed;
  }

-- ---- what could go has gone

still_kept : (c p r t : Bool) → ((c || p) && not r || t) ≡ false → (p && not r || t) ≡ false
still_kept c p true t h = or_from (p && false) t (and_right p false refl) ((or_parts ((c || p) && false) t h).1)
still_kept c p false t h =
    let parts = or_parts ((c || p) && true) t h in
    or_from (p && true) t (and_left p true (⊎_elim (λ e. (or_parts c p e).1) (λ e. absurd (cc)) (and_cases (c || p) true parts.0))) parts.1

let_go_of : (cfg : Config) (xs : List Arrival) (given order : ℕ) (packet : Packet) (tips : List Tip) → TipsOf cfg xs tips → is_gone cfg xs given order packet ≡ false → is_let_go cfg tips [] (holding_of cfg xs given order packet) ≡ false
let_go_of cfg xs given order packet tips newer stays =
    let item : Holding = holding_of cfg xs given order packet in
    ap (λ b. b && not item.released || item.taken && list_all (is_passed tips item.name.interval) (chains cfg)) (over_same cfg xs tips packet item newer refl refl)
    ∙ ap (λ b. list_all (is_past cfg xs packet) (chains cfg) && not item.released || item.taken && b) (passed_same cfg xs tips packet.frame.name.interval newer)
    ∙ still_kept (list_any (is_at order) (candidates cfg xs)) (list_all (is_past cfg xs packet) (chains cfg)) item.released (item.taken && list_all (has_passed cfg xs packet.frame.name.interval) (chains cfg)) stays

-- a packet that is held can't be let go
pub none_let_go : (s : State) (xs : List Arrival) (given : ℕ) → Keeps s xs given → list_all (λ item. not (is_let_go s.config s.tips [] item)) s.held ≡ true
none_let_go s xs given k =
    ap (list_all (λ item. not (is_let_go s.config s.tips [] item))) k.held
    ∙ all_held s.config xs given (λ item. not (is_let_go s.config s.tips [] item)) (λ order packet brought stays.
    not_from_false (is_let_go s.config s.tips [] (holding_of s.config xs given order packet)) (let_go_of s.config xs given order packet s.tips (tips_kept s xs given k) stays))

-- ---- no new key

proves_none : (cfg : Config) (tips : List Tip) (item : Holding) (cs : List ℕ) → find (proves_on cfg tips [] item) cs ≡ None
proves_none cfg tips item [] = refl
proves_none cfg tips item (c ∷ cs) =
    ap (λ b. cond b (Some c) (find (proves_on cfg tips [] item) cs)) (and_right (has_chain item.chains c && nat_lt (tip_at tips c).index item.name.interval) false refl) ∙ proves_none cfg tips item cs

proof_none : (item : Holding) (b : Bool) (o : Option ℕ) → o ≡ None → cond b [] (released_on item o) ≡ []
proof_none item true o e = refl
proof_none item false o e = ap (released_on item) e

batch_none : (cfg : Config) (tips : List Tip) (held : List Holding) → batch_of cfg tips [] held ≡ []
batch_none cfg tips [] = refl
batch_none cfg tips (item ∷ held) =
    ap (λ r. r ++ batch_of cfg tips [] held) (proof_none item item.released (find (proves_on cfg tips [] item) (chains cfg)) (proves_none cfg tips item (chains cfg))) ∙ batch_none cfg tips held

tips_none : (n : ℕ) (tips : List Tip) → map (λ (p : ℕ × Tip). fold (raised p.0) p.1 []) (enumerate_from n tips) ≡ tips
tips_none n [] = refl
tips_none n (tip ∷ tips) = ap (λ ts. tip ∷ ts) (tips_none (n + 1) tips)

marked_none : (item : Holding) → marked [] item ≡ item
marked_none item = ap (λ b. record item { released = b }) (or-false item.released)

kept_none : (cfg : Config) (tips : List Tip) (held : List Holding) → list_all (λ item. not (is_let_go cfg tips [] item)) held ≡ true → flat_map (kept_after cfg tips [] []) held ≡ held
kept_none cfg tips [] h = refl
kept_none cfg tips (item ∷ held) h =
    let parts = and_parts (not (is_let_go cfg tips [] item)) (list_all (λ i. not (is_let_go cfg tips [] i)) held) h in
    ap (λ i. cond (is_let_go cfg tips [] i) [] (i ∷ []) ++ flat_map (kept_after cfg tips [] []) held) (marked_none item)
    ∙ ap (λ b. cond b [] (item ∷ []) ++ flat_map (kept_after cfg tips [] []) held) (not-true (is_let_go cfg tips [] item) parts.0)
    ∙ ap (λ r. item ∷ r) (kept_none cfg tips held parts.1)

-- an arrival that takes no key changes nothing that is kept
pub keeps_quiet : (s : State) (xs : List Arrival) (given : ℕ) (a : Arrival) → Keeps s xs given → given ≤ length (released s.config xs) → takes_keys a.verdict ≡ false → packet_of a ≡ None → Keeps s (xs ++ a ∷ []) given
keeps_quiet s xs given a k few quiet none =
    let cfg : Config = s.config in
    let no_key : new_keys cfg xs a ≡ [] = ap (λ b. filter (λ (row : KeyRow). nat_lt (newest cfg xs row.chain.0) row.index) (cond b (keys_in cfg (frame_of a.bytes)) [])) quiet in
    let after = keeps_keyed s xs given a k few none in
    let no_batch : batch_of cfg s.tips [] s.held ≡ [] = batch_none cfg s.tips s.held in
    record {
      tips = sym (tips_none 0 s.tips) ∙ ap (tips_after s.tips) (sym no_key) ∙ after.tips;
      held =
          sym (kept_none cfg s.tips s.held (none_let_go s xs given k))
          ∙ ap (λ ts. flat_map (kept_after cfg ts [] []) s.held) (sym (tips_none 0 s.tips))
          ∙ ap (λ b. flat_map (kept_after cfg (tips_after s.tips []) b (released_of s.held b)) s.held) (sym no_batch)
          ∙ ap (λ new. (with_keys s new).held) (sym no_key) ∙ after.held;
      waiting =
          sym (append-nil s.waiting) ∙ ap (λ b. s.waiting ++ released_of s.held b) (sym no_batch)
          ∙ ap (λ new. (with_keys s new).waiting) (sym no_key) ∙ after.waiting;
    }
