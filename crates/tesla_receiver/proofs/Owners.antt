-- The packet of each release.
use Rattle.std.proofs.Common.{◌≡◌, ℕ, ◌+◌, Bool, true, false, cond, List, [], ◌∷◌, ◌++◌, Option, Some, None, refl, sym, ap, ⊎_elim, ◌∙◌, arith, ◌==◌}
use Rattle.std.specs.Prelude.{slice_get, find}
use Rattle.std.specs.List.{list_any, list_all}
use Rattle.std.proofs.lemmas.Bool.{and_from, or_left, or_right, or_cases, eq-eqb}
use Rattle.std.proofs.Math.Bool.{or-false}
use Rattle.std.proofs.lemmas.List.Folds.{list_any-append}
use Rattle.std.proofs.lemmas.Option.{slice_get_within}
use Rattle.tesla_base.proofs.Lists.{slice_get-append}
use Rattle.tesla_base.proofs.Numbered.{all_enumerated}
use Rattle.tesla_base.proofs.Passing.{passes_at}
use Rattle.tesla_frame.specs.declared.row.KeyRow.{KeyRow}
use Rattle.tesla_fitting.specs.declared.config.Config.{Config}
use Rattle.tesla_receiver.specs.Entries.{Arrival}
use Rattle.tesla_receiver.specs.declared.packet.Packet.{Packet}
use Rattle.tesla_walks.specs.declared.release.Release.{Release}
use Rattle.tesla_fitting.specs.Config.{chains}
use Rattle.tesla_state.specs.Releases.{is_at, each_after, has_name, unless_named}
use Rattle.tesla_receiver.specs.Keys.{new_keys}
use Rattle.tesla_receiver.specs.Packets.{packet_of, proves, release_on, release_of, batch, candidates, released}
use Rattle.tesla_receiver.proofs.Gone.{Brought, called_any, candidates_called}
use Rattle.tesla_state.proofs.Named.{same_name}
use Rattle.tesla_receiver.proofs.ArrivalOrders.{firsts_pass}
use Rattle.tesla_receiver.proofs.EachAfter.{all_each_after}

abbrev brought_in : Option Arrival → Option Packet
brought_in None = None
brought_in (Some arrival) = packet_of arrival

abbrev is_own_of : Release → Option Packet → Bool
is_own_of release None = false
is_own_of release (Some packet) = has_name release.name (record { place = 0; name = packet.frame.name; chain = record { 0 = 0 } })

-- the arrival at the release's place brought a packet of its name
abbrev is_own : List Arrival → Release → Bool
is_own xs release = is_own_of release (brought_in (slice_get xs release.place))

-- the packet that was released
pub record Owned (xs : List Arrival) (release : Release) : Type 0 where
  pub packet : Packet
  pub brought : Brought xs release.place packet
  pub name : packet.frame.name ≡ release.name

owned_packet : (xs : List Arrival) (release : Release) (x : Arrival) (o : Option Packet) → slice_get xs release.place ≡ Some x → packet_of x ≡ o → is_own_of release o ≡ true → Owned xs release
owned_packet xs release x None at kept h = absurd (cc)
owned_packet xs release x (Some packet) at kept h = record {
  packet = packet;
  brought = record { arrival = x; at = at; kept = kept };
  name = same_name release.name (record { place = 0; name = packet.frame.name; chain = record { 0 = 0 } }) h;
}

owned_from : (xs : List Arrival) (release : Release) (o : Option Arrival) → slice_get xs release.place ≡ o → is_own_of release (brought_in o) ≡ true → Owned xs release
owned_from xs release None at h = absurd (cc)
owned_from xs release (Some x) at h = owned_packet xs release x (packet_of x) at refl h

own_here : (xs : List Arrival) (order : ℕ) (y : Arrival) (packet : Packet) (chain : ℕ) → slice_get xs order ≡ Some y → packet_of y ≡ Some packet → is_own xs (record { place = order; name = packet.frame.name; chain = record { 0 = chain } }) ≡ true
own_here xs order y packet chain at kept =
    let release : Release = record { place = order; name = packet.frame.name; chain = record { 0 = chain } } in
    ap (λ o. is_own_of release (brought_in o)) at ∙ ap (is_own_of release) kept
    ∙ and_from (packet.frame.name.interval == packet.frame.name.interval) (packet.frame.name.number == packet.frame.name.number)
    (eq-eqb packet.frame.name.interval packet.frame.name.interval refl) (eq-eqb packet.frame.name.number packet.frame.name.number refl)

own_on : (xs : List Arrival) (order : ℕ) (y : Arrival) (packet : Packet) (o : Option ℕ) → slice_get xs order ≡ Some y → packet_of y ≡ Some packet → list_all (is_own xs) (release_on order packet.frame o) ≡ true
own_on xs order y packet None at kept = refl
own_on xs order y packet (Some chain) at kept = and_from (is_own xs (record { place = order; name = packet.frame.name; chain = record { 0 = chain } })) true (own_here xs order y packet chain at kept) refl

own_of : (cfg : Config) (xs prefix : List Arrival) (new : List KeyRow) (order : ℕ) (y : Arrival) (o : Option Packet) → slice_get xs order ≡ Some y → packet_of y ≡ o → list_all (is_own xs) (release_of cfg prefix new order o) ≡ true
own_of cfg xs prefix new order y None at kept = refl
own_of cfg xs prefix new order y (Some packet) at kept = own_on xs order y packet (find (proves cfg prefix new packet) (chains cfg)) at kept

candidates_own : (cfg : Config) (xs : List Arrival) → list_all (is_own xs) (each_after (batch cfg) [] xs) ≡ true
candidates_own cfg xs =
    all_each_after (is_own xs) (batch cfg) [] xs (λ prefix x rest e.
    all_enumerated (is_own xs) (λ (p : ℕ × Arrival). release_of cfg prefix (new_keys cfg prefix x) p.0 (packet_of p.1)) 0 prefix (λ k y at.
    let count : k ≡ 0 + k = omega arith in
    let there : slice_get xs k ≡ Some y = ap (λ zs. slice_get zs k) e ∙ slice_get-append prefix (x ∷ rest) k (slice_get_within prefix k y at) ∙ at in
    own_of cfg xs prefix (new_keys cfg prefix x) (0 + k) y (packet_of y) (ap (slice_get xs) (sym count) ∙ there) refl))

-- each released packet is that of an arrival
pub owned_at : (cfg : Config) (xs : List Arrival) (k : ℕ) (release : Release) → slice_get (released cfg xs) k ≡ Some release → Owned xs release
unfolding released candidates
owned_at cfg xs k release at =
    owned_from xs release (slice_get xs release.place) refl
    (passes_at (is_own xs) (released cfg xs) k release (firsts_pass (is_own xs) [] (each_after (batch cfg) [] xs) (candidates_own cfg xs)) at)

-- where a packet is proved, one of its name is
pub named_at : (cfg : Config) (xs : List Arrival) (order : ℕ) (packet : Packet) → Brought xs order packet → list_any (is_at order) (candidates cfg xs) ≡ true → list_any (has_name packet.frame.name) (candidates cfg xs) ≡ true
unfolding candidates
named_at cfg xs order packet brought h = called_any order packet.frame.name (each_after (batch cfg) [] xs) (candidates_called cfg xs order packet brought) h

any_kept : (q : Release → Bool) (release : Release) (t : Bool) → list_any q (cond t [] (release ∷ [])) ≡ true → q release ≡ true
any_kept q release true h = absurd (cc)
any_kept q release false h = sym (or-false (q release)) ∙ h

any_first : (q : Release → Bool) (before xs : List Release) → list_any q (each_after unless_named before xs) ≡ true → list_any q xs ≡ true
any_first q before [] h = absurd (cc)
any_first q before (x ∷ xs) h =
    ⊎_elim
    (λ e. or_left (q x) (list_any q xs) (any_kept q x (list_any (has_name x.name) before) e))
    (λ e. or_right (q x) (list_any q xs) (any_first q (before ++ x ∷ []) xs e))
    (or_cases (list_any q (unless_named before x)) (list_any q (each_after unless_named (before ++ x ∷ []) xs)) (sym (list_any-append q (unless_named before x) (each_after unless_named (before ++ x ∷ []) xs)) ∙ h))

-- what is released was proved
pub released_proved : (cfg : Config) (xs : List Arrival) (q : Release → Bool) → list_any q (released cfg xs) ≡ true → list_any q (candidates cfg xs) ≡ true
unfolding released
released_proved cfg xs q h = any_first q [] (candidates cfg xs) h
