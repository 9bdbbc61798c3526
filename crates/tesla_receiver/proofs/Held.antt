-- How many packets are held with one arrival more, and with more taken.
use Rattle.std.proofs.Common.{◌≡◌, ℕ, ◌+◌, ◌≤◌, Bool, true, false, cond, ◌&&◌, ◌||◌, List, [], ◌∷◌, ◌++◌, length, take, count_by, Option, Some, None, refl, sym, ap, subst, ⊎_elim, ◌∙◌, arith, ◌==◌, add-zero}
use Rattle.std.specs.Prelude.{not, slice_get, nat_le}
use Rattle.std.specs.List.{list_any, list_all, enumerate_from}
use Rattle.std.proofs.lemmas.Bool.{and_parts, and_from, and_left, cases_Bool, not_from_false, not-true, both_ways}
use Rattle.std.proofs.lemmas.List.{append-nil}
use Rattle.std.proofs.lemmas.List.Sums.{sum_by_push}
use Rattle.tesla_clock.specs.Safe.{has_chain}
use Rattle.tesla_fitting.specs.declared.config.Config.{Config}
use Rattle.tesla_receiver.specs.Entries.{Arrival}
use Rattle.tesla_receiver.specs.declared.packet.Packet.{Packet}
use Rattle.tesla_walks.specs.declared.release.Release.{Release}
use Rattle.tesla_fitting.specs.Config.{chains}
use Rattle.tesla_receiver.specs.Keys.{keys_taken, greatest, newest}
use Rattle.tesla_receiver.specs.Packets.{packet_of, candidates, first_of_each_name, released}
use Rattle.tesla_state.specs.Releases.{is_at}
use Rattle.tesla_receiver.specs.Held.{has_passed, is_past, is_gone, is_asked, has_slot, held_of}
use Rattle.tesla_base.proofs.Lists.{enumerate_from-append}
use Rattle.tesla_base.proofs.Numbered.{count_fewer}
use Rattle.tesla_base.proofs.Passing.{all_same}
use Rattle.tesla_receiver.proofs.Gone.{gone_stays}
use Rattle.tesla_receiver.proofs.Grown.{candidates_same}
use Rattle.tesla_receiver.proofs.Newest.{newest_more}

-- the packets of these arrivals that have a place, by what all arrivals tell
abbrev held_among : Config → List Arrival → ℕ → Option ℕ → List Arrival → ℕ
held_among cfg all given asked xs = count_by (λ (p : ℕ × Arrival). has_slot cfg all given asked p.0 (packet_of p.1)) (enumerate_from 0 xs)

-- ---- more arrivals, or more taken

order_before : (cfg : Config) (xs ys : List Arrival) (given more order : ℕ) (asked : Option ℕ) (arrival : Arrival) (o : Option Packet) → slice_get xs order ≡ Some arrival → packet_of arrival ≡ o → has_slot cfg (xs ++ ys) (given + more) asked order o ≡ true → has_slot cfg xs given asked order o ≡ true
order_before cfg xs ys given more order asked arrival None at kept h = absurd (cc)
order_before cfg xs ys given more order asked arrival (Some packet) at kept h =
    let wanted : Bool = is_asked asked packet.frame.name.interval in
    let parts = and_parts wanted (not (is_gone cfg (xs ++ ys) (given + more) order packet)) h in
    let here : is_gone cfg (xs ++ ys) (given + more) order packet ≡ false = not-true (is_gone cfg (xs ++ ys) (given + more) order packet) parts.1 in
    and_from wanted (not (is_gone cfg xs given order packet)) parts.0
    (⊎_elim
    (λ e. absurd (both_ways (is_gone cfg (xs ++ ys) (given + more) order packet) here (gone_stays cfg xs ys order packet given more (record { arrival = arrival; at = at; kept = kept }) e)))
    (λ e. not_from_false (is_gone cfg xs given order packet) e)
    (cases_Bool (is_gone cfg xs given order packet)))

-- of the first arrivals no more are held when more have come
held_less : (cfg : Config) (xs ys : List Arrival) (given more : ℕ) (asked : Option ℕ) → held_among cfg (xs ++ ys) (given + more) asked xs ≤ held_of cfg xs given asked
unfolding held_of
held_less cfg xs ys given more asked =
    count_fewer (λ (p : ℕ × Arrival). has_slot cfg (xs ++ ys) (given + more) asked p.0 (packet_of p.1)) (λ (p : ℕ × Arrival). has_slot cfg xs given asked p.0 (packet_of p.1)) 0 xs (λ k x at.
    let count : 0 + k ≡ k = omega arith in
    order_before cfg xs ys given more (0 + k) asked x (packet_of x) (ap (slice_get xs) count ∙ at) refl)

-- one arrival more is held, or none
held_push : (cfg : Config) (xs : List Arrival) (x : Arrival) (given : ℕ) (asked : Option ℕ) → held_of cfg (xs ++ x ∷ []) given asked ≡ held_among cfg (xs ++ x ∷ []) given asked xs + cond (has_slot cfg (xs ++ x ∷ []) given asked (0 + length xs) (packet_of x)) 1 0
unfolding held_of
held_push cfg xs x given asked =
    ap (count_by (λ (p : ℕ × Arrival). has_slot cfg (xs ++ x ∷ []) given asked p.0 (packet_of p.1))) (enumerate_from-append 0 xs (x ∷ []))
    ∙ sum_by_push (λ (p : ℕ × Arrival). cond (has_slot cfg (xs ++ x ∷ []) given asked p.0 (packet_of p.1)) 1 0) (enumerate_from 0 xs) (0 + length xs, x)

-- an arrival whose packet has no place, if it brought one, adds none
held_without_slot : (cfg : Config) (xs : List Arrival) (x : Arrival) (given : ℕ) (asked : Option ℕ) → has_slot cfg (xs ++ x ∷ []) given asked (0 + length xs) (packet_of x) ≡ false → held_of cfg (xs ++ x ∷ []) given asked ≤ held_of cfg xs given asked
held_without_slot cfg xs x given asked none =
    let less : held_among cfg (xs ++ x ∷ []) (given + 0) asked xs ≤ held_of cfg xs given asked = held_less cfg xs (x ∷ []) given 0 asked in
    let now : held_among cfg (xs ++ x ∷ []) given asked xs ≤ held_of cfg xs given asked = subst (λ (g : ℕ). held_among cfg (xs ++ x ∷ []) g asked xs ≤ held_of cfg xs given asked) (add-zero given) less in
    let last : ◌≡◌ {A = ℕ} (cond (has_slot cfg (xs ++ x ∷ []) given asked (0 + length xs) (packet_of x)) 1 0) 0 = ap (λ b. cond b 1 0) none in
    omega (arith, now, last, held_push cfg xs x given asked)

-- an arrival that isn't kept adds none
pub held_quiet : (cfg : Config) (xs : List Arrival) (x : Arrival) (given : ℕ) (asked : Option ℕ) → packet_of x ≡ None → held_of cfg (xs ++ x ∷ []) given asked ≤ held_of cfg xs given asked
held_quiet cfg xs x given asked none = held_without_slot cfg xs x given asked (ap (has_slot cfg (xs ++ x ∷ []) given asked (0 + length xs)) none)

-- a packet of another interval isn't counted
pub held_other : (cfg : Config) (xs : List Arrival) (x : Arrival) (given interval : ℕ) (packet : Packet) → packet_of x ≡ Some packet → (packet.frame.name.interval == interval) ≡ false → held_of cfg (xs ++ x ∷ []) given (Some interval) ≤ held_of cfg xs given (Some interval)
held_other cfg xs x given interval packet kept other =
    held_without_slot cfg xs x given (Some interval)
    (ap (has_slot cfg (xs ++ x ∷ []) given (Some interval) (0 + length xs)) kept ∙ and_left (packet.frame.name.interval == interval) (not (is_gone cfg (xs ++ x ∷ []) given (0 + length xs) packet)) other)

-- no more are held when more were taken
pub held_taken : (cfg : Config) (xs : List Arrival) (given more : ℕ) (asked : Option ℕ) → held_of cfg xs (given + more) asked ≤ held_of cfg xs given asked
unfolding held_of
held_taken cfg xs given more asked =
    subst (λ (all : List Arrival). held_among cfg all (given + more) asked xs ≤ held_of cfg xs given asked) (append-nil xs) (held_less cfg xs [] given more asked)

-- ---- the last arrival with another verdict

gone_same : (cfg : Config) (xs ys : List Arrival) (given order : ℕ) (packet : Packet) → ((c : ℕ) → newest cfg xs c ≡ newest cfg ys c) → candidates cfg xs ≡ candidates cfg ys → is_gone cfg xs given order packet ≡ is_gone cfg ys given order packet
unfolding released
gone_same cfg xs ys given order packet newer proved =
    let interval : ℕ = packet.frame.name.interval in
    let passed : (c : ℕ) → has_passed cfg xs interval c ≡ has_passed cfg ys interval c = λ c. ap (λ (n : ℕ). nat_le interval n) (newer c) in
    let past : list_all (is_past cfg xs packet) (chains cfg) ≡ list_all (is_past cfg ys packet) (chains cfg) =
    all_same (is_past cfg xs packet) (is_past cfg ys packet) (chains cfg) (λ c. ap (λ b. not (has_chain packet.chains c) || b) (passed c)) in
    let all : list_all (has_passed cfg xs interval) (chains cfg) ≡ list_all (has_passed cfg ys interval) (chains cfg) = all_same (has_passed cfg xs interval) (has_passed cfg ys interval) (chains cfg) passed in
    ap (λ (rs : List Release). (list_any (is_at order) rs || list_all (is_past cfg xs packet) (chains cfg)) && not (list_any (is_at order) (first_of_each_name rs)) || list_any (is_at order) (take given (first_of_each_name rs)) && list_all (has_passed cfg xs interval) (chains cfg)) proved
    ∙ ap (λ b. (list_any (is_at order) (candidates cfg ys) || b) && not (list_any (is_at order) (released cfg ys)) || list_any (is_at order) (take given (released cfg ys)) && list_all (has_passed cfg xs interval) (chains cfg)) past
    ∙ ap (λ b. (list_any (is_at order) (candidates cfg ys) || list_all (is_past cfg ys packet) (chains cfg)) && not (list_any (is_at order) (released cfg ys)) || list_any (is_at order) (take given (released cfg ys)) && b) all

order_same : (cfg : Config) (xs ys : List Arrival) (given order : ℕ) (asked : Option ℕ) (o : Option Packet) → ((c : ℕ) → newest cfg xs c ≡ newest cfg ys c) → candidates cfg xs ≡ candidates cfg ys → has_slot cfg xs given asked order o ≡ has_slot cfg ys given asked order o
order_same cfg xs ys given order asked None newer proved = refl
order_same cfg xs ys given order asked (Some packet) newer proved = ap (λ b. is_asked asked packet.frame.name.interval && not b) (gone_same cfg xs ys given order packet newer proved)

at_most : (b : Bool) → cond b 1 0 ≤ 1
at_most true = omega arith
at_most false = omega arith

-- with a verdict with which the last arrival takes the same keys, one more is held at most
pub held_rejudged : (cfg : Config) (xs : List Arrival) (a b : Arrival) (given : ℕ) (asked : Option ℕ) → keys_taken cfg a ≡ keys_taken cfg b → held_of cfg (xs ++ a ∷ []) given asked ≤ held_of cfg (xs ++ b ∷ []) given asked + 1
held_rejudged cfg xs a b given asked same =
    let newer : (c : ℕ) → newest cfg (xs ++ a ∷ []) c ≡ newest cfg (xs ++ b ∷ []) c = λ c. newest_more cfg xs a c ∙ ap (greatest c (newest cfg xs c)) same ∙ sym (newest_more cfg xs b c) in
    let proved = candidates_same cfg xs a b same in
    let among : held_among cfg (xs ++ a ∷ []) given asked xs ≤ held_among cfg (xs ++ b ∷ []) given asked xs =
    count_fewer (λ (p : ℕ × Arrival). has_slot cfg (xs ++ a ∷ []) given asked p.0 (packet_of p.1)) (λ (p : ℕ × Arrival). has_slot cfg (xs ++ b ∷ []) given asked p.0 (packet_of p.1)) 0 xs
    (λ k x at h. sym (order_same cfg (xs ++ a ∷ []) (xs ++ b ∷ []) given (0 + k) asked (packet_of x) newer proved) ∙ h) in
    let one : cond (has_slot cfg (xs ++ a ∷ []) given asked (0 + length xs) (packet_of a)) 1 0 ≤ 1 = at_most (has_slot cfg (xs ++ a ∷ []) given asked (0 + length xs) (packet_of a)) in
    omega (arith, among, one, held_push cfg xs a given asked, held_push cfg xs b given asked)
