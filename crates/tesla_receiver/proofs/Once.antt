-- Each packet is released once, and the next to be given is held.
use Rattle.std.proofs.Common.{◌≡◌, ℕ, zero, suc, ◌+◌, Bool, true, false, cond, ◌&&◌, List, [], ◌∷◌, ◌++◌, take, Option, Some, None, refl, sym, ap, ◌∙◌, arith}
use Rattle.std.specs.Prelude.{not, find, slice_get}
use Rattle.std.specs.List.{list_any, list_all}
use Rattle.std.proofs.Math.Bool.{or-false}
use Rattle.std.proofs.lemmas.Bool.{and_from, and_left, and_right, or_parts, or_from, both_ways, not-true, not_from_true, not_from_false, false_from_ne_true, ne_eqb, eq-eqb}
use Rattle.std.proofs.lemmas.List.Folds.{list_any-append, list_all-append}
use Rattle.std.proofs.lemmas.Option.{same_Some}
use Rattle.tesla_base.specs.declared.names.Name.{Name}
use Rattle.tesla_base.proofs.Lists.{list_all_weaker, list_all-take, list_any_got}
use Rattle.tesla_base.proofs.Numbered.{find_at}
use Rattle.tesla_base.proofs.Passing.{passes_at}
use Rattle.tesla_frame.specs.Frame.{Frame, Data, Disclosure}
use Rattle.tesla_frame.specs.Reading.{frame_of}
use Rattle.tesla_fitting.specs.declared.config.Config.{Config}
use Rattle.tesla_receiver.specs.Entries.{Arrival}
use Rattle.tesla_receiver.specs.declared.packet.Packet.{Packet}
use Rattle.tesla_walks.specs.declared.release.Release.{Release}
use Rattle.tesla_fitting.specs.declared.verdict.Verdict.{Verdict}
use Rattle.tesla_fitting.specs.declared.verdict.Verdict.TheVariants.{Malformed, Foreign, Misfit, Future, BadKey, Late, Repeat, Full, Kept, Keys}
use Rattle.tesla_fitting.specs.Config.{chains}
use Rattle.tesla_state.specs.Releases.{is_at, each_after, has_name, unless_named}
use Rattle.tesla_receiver.specs.Held.{has_passed, is_settled, is_gone}
use Rattle.tesla_receiver.specs.History.{payload_in, payload_of}
use Rattle.tesla_receiver.specs.Packets.{packet_in, packet_of, batch, candidates, released}
use Rattle.tesla_walks.specs.Holding.{Holding}
use Rattle.tesla_receiver.specs.Stands.{holding_of, held_at, holdings}
use Rattle.tesla_state.specs.Steps.{payload_held, is_numbered}
use Rattle.tesla_receiver.proofs.Gone.{Brought, is_called, called_any, candidates_called}
use Rattle.tesla_receiver.proofs.Owners.{owned_at}
use Rattle.tesla_receiver.proofs.ArrivalOrders.{firsts_pass}

-- ---- each name is released once

unnamed_if : (q : Release → Bool) (release : Release) (b : Bool) → (b ≡ false → q release ≡ true) → list_all q (cond b [] (release ∷ [])) ≡ true
unnamed_if q release true h = refl
unnamed_if q release false h = and_from (q release) true (h refl) refl

-- the firsts have no name that stands before
firsts_unnamed : (before xs : List Release) → list_all (λ r. not (list_any (has_name r.name) before)) (each_after unless_named before xs) ≡ true
firsts_unnamed before [] = refl
firsts_unnamed before (x ∷ xs) =
    let q : Release → Bool = λ r. not (list_any (has_name r.name) before) in
    list_all-append q (unless_named before x) (each_after unless_named (before ++ x ∷ []) xs)
    ∙ and_from (list_all q (unless_named before x)) (list_all q (each_after unless_named (before ++ x ∷ []) xs))
    (unnamed_if q x (list_any (has_name x.name) before) (λ e. not_from_false (list_any (has_name x.name) before) e))
    (list_all_weaker (λ r. not (list_any (has_name r.name) (before ++ x ∷ []))) q (each_after unless_named (before ++ x ∷ []) xs)
    (λ r h. not_from_false (list_any (has_name r.name) before) ((or_parts (list_any (has_name r.name) before) (list_any (has_name r.name) (x ∷ [])) (sym (list_any-append (has_name r.name) before (x ∷ [])) ∙ not-true (list_any (has_name r.name) (before ++ x ∷ [])) h)).0))
    (firsts_unnamed (before ++ x ∷ []) xs))

first_once : (x : Release) (rest : List Release) (b : Bool) (k : ℕ) (r : Release) → slice_get (cond b [] (x ∷ []) ++ rest) k ≡ Some r → list_all (λ r. not (has_name r.name x)) rest ≡ true → ((k : ℕ) → slice_get rest k ≡ Some r → list_any (has_name r.name) (take k rest) ≡ false) → list_any (has_name r.name) (take k (cond b [] (x ∷ []) ++ rest)) ≡ false
first_once x rest true k r at none once = once k at
first_once x rest false zero r at none once = refl
first_once x rest false (suc k) r at none once =
    or_from (has_name r.name x) (list_any (has_name r.name) (take k rest)) (not-true (has_name r.name x) (passes_at (λ r. not (has_name r.name x)) rest k r none at)) (once k at)

firsts_once : (before xs : List Release) (k : ℕ) (r : Release) → slice_get (each_after unless_named before xs) k ≡ Some r → list_any (has_name r.name) (take k (each_after unless_named before xs)) ≡ false
firsts_once before [] k r at = absurd (cc)
firsts_once before (x ∷ xs) k r at =
    let rest : List Release = each_after unless_named (before ++ x ∷ []) xs in
    first_once x rest (list_any (has_name x.name) before) k r at
    (list_all_weaker (λ r. not (list_any (has_name r.name) (before ++ x ∷ []))) (λ r. not (has_name r.name x)) rest
    (λ r h. not_from_false (has_name r.name x)
    (sym (or-false (has_name r.name x)) ∙ (or_parts (list_any (has_name r.name) before) (list_any (has_name r.name) (x ∷ [])) (sym (list_any-append (has_name r.name) before (x ∷ [])) ∙ not-true (list_any (has_name r.name) (before ++ x ∷ [])) h)).1))
    (firsts_unnamed (before ++ x ∷ []) xs))
    (λ j there. firsts_once (before ++ x ∷ []) xs j r there)

-- no packet of a released name is released before it
pub released_once : (cfg : Config) (xs : List Arrival) (k : ℕ) (r : Release) → slice_get (released cfg xs) k ≡ Some r → list_any (has_name r.name) (take k (released cfg xs)) ≡ false
unfolding released
released_once cfg xs k r at = firsts_once [] (candidates cfg xs) k r at

pub all_called : (cfg : Config) (xs : List Arrival) (order : ℕ) (packet : Packet) → Brought xs order packet → list_all (is_called order packet.frame.name) (released cfg xs) ≡ true
unfolding released candidates
all_called cfg xs order packet brought = firsts_pass (is_called order packet.frame.name) [] (each_after (batch cfg) [] xs) (candidates_called cfg xs order packet brought)

-- a packet is released once
pub order_once : (cfg : Config) (xs : List Arrival) (k : ℕ) (r : Release) → slice_get (released cfg xs) k ≡ Some r → list_any (is_at r.place) (take k (released cfg xs)) ≡ false
order_once cfg xs k r at =
    let owned = owned_at cfg xs k r at in
    let called = list_all-take (is_called r.place owned.packet.frame.name) k (released cfg xs) (all_called cfg xs r.place owned.packet owned.brought) in
    let once : list_any (has_name owned.packet.frame.name) (take k (released cfg xs)) ≡ false = ap (λ (n : Name). list_any (has_name n) (take k (released cfg xs))) owned.name ∙ released_once cfg xs k r at in
    false_from_ne_true (list_any (is_at r.place) (take k (released cfg xs))) (λ e. both_ways (list_any (has_name owned.packet.frame.name) (take k (released cfg xs))) once (called_any r.place owned.packet.frame.name (take k (released cfg xs)) called e))

-- ---- the packet of the next release

pub next_out : (cfg : Config) (xs : List Arrival) (k : ℕ) (r : Release) → slice_get (released cfg xs) k ≡ Some r → list_any (is_at r.place) (released cfg xs) ≡ true
next_out cfg xs k r at = list_any_got (is_at r.place) (released cfg xs) k r at (eq-eqb r.place r.place refl)

-- a packet that is released and wasn't taken has its place
pub untaken_stays : (cfg : Config) (xs : List Arrival) (given order : ℕ) (packet : Packet) → list_any (is_at order) (released cfg xs) ≡ true → list_any (is_at order) (take given (released cfg xs)) ≡ false → is_gone cfg xs given order packet ≡ false
untaken_stays cfg xs given order packet out untaken =
    or_from (is_settled cfg xs order packet && not (list_any (is_at order) (released cfg xs))) (list_any (is_at order) (take given (released cfg xs)) && list_all (has_passed cfg xs packet.frame.name.interval) (chains cfg))
    (and_right (is_settled cfg xs order packet) (not (list_any (is_at order) (released cfg xs))) (not_from_true (list_any (is_at order) (released cfg xs)) out))
    (and_left (list_any (is_at order) (take given (released cfg xs))) (list_all (has_passed cfg xs packet.frame.name.interval) (chains cfg)) untaken)

numbered_if : (order : ℕ) (item : Holding) (gone : Bool) → (item.order ≡ order → ⊥) → find (is_numbered order) (cond gone [] (item ∷ [])) ≡ None
numbered_if order item true other = refl
numbered_if order item false other = ap (λ b. cond b (Some item) None) (ne_eqb item.order order other)

numbered_other : (cfg : Config) (xs : List Arrival) (given order j : ℕ) (o : Option Packet) → (j ≡ order → ⊥) → find (is_numbered order) (held_at cfg xs given j o) ≡ None
numbered_other cfg xs given order j None other = refl
numbered_other cfg xs given order j (Some packet) other = numbered_if order (holding_of cfg xs given j packet) (is_gone cfg xs given j packet) other

-- a packet that isn't gone is found by its number
pub found_held : (cfg : Config) (xs : List Arrival) (given order : ℕ) (packet : Packet) → Brought xs order packet → is_gone cfg xs given order packet ≡ false → find (is_numbered order) (holdings cfg xs given) ≡ Some (holding_of cfg xs given order packet)
unfolding holdings
found_held cfg xs given order packet brought stays =
    let count : 0 + order ≡ order = omega arith in
    find_at (is_numbered order) (λ (p : ℕ × Arrival). held_at cfg xs given p.0 (packet_of p.1)) 0 xs order brought.arrival brought.at (λ j y other. numbered_other cfg xs given order j (packet_of y) (λ e. other (e ∙ sym count)))
    ∙ ap (λ (n : ℕ). find (is_numbered order) (held_at cfg xs given n (packet_of brought.arrival))) count ∙ ap (λ o. find (is_numbered order) (held_at cfg xs given order o)) brought.kept
    ∙ ap (λ b. find (is_numbered order) (cond b [] (holding_of cfg xs given order packet ∷ []))) stays
    ∙ ap (λ b. cond b (Some (holding_of cfg xs given order packet)) None) (eq-eqb order order refl)

payload_kept : (v : Verdict) (o : Option Frame) (packet : Packet) → packet_in v o ≡ Some packet → payload_in o ≡ packet.frame.payload
payload_kept (Kept set) (Some (Data f)) packet e = ap (λ (p : Packet). p.frame.payload) (same_Some (record { chains = set; frame = f }) packet e)
payload_kept (Kept set) (Some (Disclosure f)) packet e = absurd (cc)
payload_kept (Kept set) None packet e = absurd (cc)
payload_kept Malformed o packet e = absurd (cc)
payload_kept (Foreign stream) o packet e = absurd (cc)
payload_kept Misfit o packet e = absurd (cc)
payload_kept (Future bound) o packet e = absurd (cc)
payload_kept (BadKey chain) o packet e = absurd (cc)
payload_kept Late o packet e = absurd (cc)
payload_kept Repeat o packet e = absurd (cc)
payload_kept Full o packet e = absurd (cc)
payload_kept Keys o packet e = absurd (cc)

-- the payload of the next release, by the packets that are held
pub payload_next : (cfg : Config) (xs : List Arrival) (given : ℕ) (r : Release) → slice_get (released cfg xs) given ≡ Some r → payload_held (find (is_numbered r.place) (holdings cfg xs given)) ≡ payload_of (slice_get xs r.place)
payload_next cfg xs given r at =
    let owned = owned_at cfg xs given r at in
    ap payload_held (found_held cfg xs given r.place owned.packet owned.brought (untaken_stays cfg xs given r.place owned.packet (next_out cfg xs given r at) (order_once cfg xs given r at)))
    ∙ sym (payload_kept owned.brought.arrival.verdict (frame_of owned.brought.arrival.bytes) owned.packet owned.brought.kept)
    ∙ ap payload_of (sym owned.brought.at)
