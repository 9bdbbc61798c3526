-- What is given is authentic.
use Rattle.std.proofs.Common.{◌≡◌, ℕ, zero, suc, ◌+◌, ◌<◌, ◌≤◌, Bool, true, false, ◌&&◌, List, [], ◌∷◌, ◌++◌, take, drop, Option, Some, None, refl, sym, ap, subst, ◌∙◌, arith}
use Rattle.std.specs.Prelude.{find, slice_get, nat_lt, nat_le, length}
use Rattle.std.specs.List.{Contains, list_any, list_all, range_with_len}
use Rattle.std.proofs.lemmas.Bool.{eqb-true, leb-true}
use Rattle.std.proofs.lemmas.List.{length-take, take-append-drop}
use Rattle.std.proofs.lemmas.Option.{same_Some, slice_get_within}
use Rattle.tesla_base.specs.declared.release.Head.{Head}
use Rattle.tesla_base.specs.declared.names.Name.{Name}
use Rattle.tesla_base.proofs.Passing.{passes_somewhere}
use Rattle.tesla_base.proofs.Lists.{taken_at}
use Rattle.tesla_clock.specs.Safe.{has_chain}
use Rattle.tesla_fitting.specs.Config.{chains}
use Rattle.tesla_fitting.specs.Rows.{is_of}
use Rattle.tesla_fitting.specs.declared.config.Config.{Config}
use Rattle.tesla_frame.specs.Frame.{DataFrame}
use Rattle.tesla_frame.specs.declared.row.KeyRow.{KeyRow}
use Rattle.tesla_receiver.specs.Arrivals.{IsSafeOn, KeptAreSafe, NewAreTaken}
use Rattle.tesla_receiver.specs.Entries.{Arrival, Entry}
use Rattle.tesla_receiver.specs.History.{IsLegal, Takes, arrivals_in, entry_of, event_of, given_in, has_end, payload_of, payload_in, reply_to, reply_with}
use Rattle.tesla_receiver.specs.Keys.{new_keys, newest}
use Rattle.tesla_receiver.specs.Packets.{batch, candidates, is_proof, packet_of, proves, release_of, release_on, released, verifies}
use Rattle.tesla_receiver.specs.declared.history.Entry.TheVariants.{Taken}
use Rattle.tesla_receiver.specs.declared.packet.Packet.{Packet}
use Rattle.tesla_state.specs.Releases.{head_of}
use Rattle.tesla_state.specs.declared.replies.Reply.TheVariants.{Given}
use Rattle.tesla_walks.specs.declared.release.Release.{Release}
use Rattle.tesla_theorem.specs.Theorem.{GivenAreAuthentic, IsAuthentic}
use Rattle.tesla_theorem.proofs.Among.{among_firsts, both, contained, found_passes, gave_after, gave_at}
use Rattle.tesla_receiver.proofs.Arrivals.{contained_at}
use Rattle.tesla_receiver.proofs.NewKeys.{none_contained}

-- ---- the release that a take gave

pub record GivesRelease (arrivals : List Arrival) (position : ℕ) (waiting : Option Release) (head : Head) (payload : List ℕ) : Type 0 where
  pub release : Release
  pub waits : waiting ≡ Some release
  pub head_is : head ≡ head_of position release (payload_of (slice_get arrivals release.place))
  pub payload_is : payload ≡ payload_of (slice_get arrivals release.place)

gives_release : (arrivals : List Arrival) (position : ℕ) (waiting : Option Release) (over : Bool) (head : Head) (payload : List ℕ) → Given head payload ≡ reply_with arrivals position waiting over → GivesRelease arrivals position waiting head payload
gives_release arrivals position (Some release) over head payload e = record { release = release; waits = refl; head_is = cc; payload_is = cc }
gives_release arrivals position None true head payload e = absurd (cc)
gives_release arrivals position None false head payload e = absurd (cc)

pub reply_gives : (cfg : Config) (h : List Entry) (head : Head) (payload : List ℕ) → Given head payload ≡ reply_to cfg h → GivesRelease (arrivals_in h) (given_in h) (slice_get (released cfg (arrivals_in h)) (given_in h)) head payload
unfolding reply_to
reply_gives cfg h head payload e =
    gives_release (arrivals_in h) (given_in h) (slice_get (released cfg (arrivals_in h)) (given_in h)) (list_all (has_end h) (range_with_len 0 cfg.ingests)) head payload e

-- ---- what a release is of

record IsOfPacket (cfg : Config) (before : List Arrival) (new : List KeyRow) (order : ℕ) (brought : Option Packet) (release : Release) : Type 0 where
  packet : Packet
  packet_is : brought ≡ Some packet
  place_is : release.place ≡ order
  name_is : release.name ≡ packet.frame.name
  proves_it : proves cfg before new packet release.chain.0 ≡ true

record IsOn (order : ℕ) (f : DataFrame) (found : Option ℕ) (release : Release) : Type 0 where
  chain : ℕ
  found_is : found ≡ Some chain
  release_is : release ≡ record { place = order; name = f.name; chain = record { 0 = chain } }

single_at : (x y : Release) (k : ℕ) → slice_get (x ∷ []) k ≡ Some y → y ≡ x
single_at x y zero e = sym (same_Some x y e)
single_at x y (suc k) e = absurd (cc)

single : (x y : Release) → Contains (x ∷ []) y → y ≡ x
single x y c = let at = contained_at (x ∷ []) y c in single_at x y at.0 at.1

on_chain : (order : ℕ) (f : DataFrame) (found : Option ℕ) (release : Release) → Contains (release_on order f found) release → IsOn order f found release
on_chain order f None release c = absurd (none_contained release c)
on_chain order f (Some chain) release c = record { chain = chain; found_is = refl; release_is = single (record { place = order; name = f.name; chain = record { 0 = chain } }) release c }

of_packet : (cfg : Config) (before : List Arrival) (new : List KeyRow) (order : ℕ) (brought : Option Packet) (release : Release) → Contains (release_of cfg before new order brought) release → IsOfPacket cfg before new order brought release
of_packet cfg before new order None release c = absurd (none_contained release c)
of_packet cfg before new order (Some packet) release c =
    let on = on_chain order packet.frame (find (proves cfg before new packet) (chains cfg)) release c in
    record {
      packet = packet;
      packet_is = refl;
      place_is = ap (λ (r : Release). r.place) on.release_is;
      name_is = ap (λ (r : Release). r.name) on.release_is;
      proves_it = subst (λ (chain : ℕ). proves cfg before new packet chain ≡ true) (sym (ap (λ (r : Release). r.chain.0) on.release_is)) (found_passes (proves cfg before new packet) (chains cfg) on.chain on.found_is);
    }

-- ---- a candidate was proved by a later arrival

record WasProved (cfg : Config) (arrivals : List Arrival) (release : Release) : Type 0 where
  later : ℕ
  arrival : Arrival
  at : slice_get arrivals later ≡ Some arrival
  kept : Arrival
  kept_at : slice_get (take later arrivals) release.place ≡ Some kept
  of : IsOfPacket cfg (take later arrivals) (new_keys cfg (take later arrivals) arrival) release.place (packet_of kept) release

was_proved : (cfg : Config) (arrivals : List Arrival) (release : Release) → Contains (released cfg arrivals) release → WasProved cfg arrivals release
unfolding released candidates
was_proved cfg arrivals release c =
    let by = gave_after (batch cfg) [] arrivals release (among_firsts [] (candidates cfg arrivals) release c) in
    let before : List Arrival = take by.n arrivals in
    let new : List KeyRow = new_keys cfg before by.x in
    let held = gave_at (λ (p : ℕ × Arrival). release_of cfg before new p.0 (packet_of p.1)) 0 before release by.gave in
    let found = of_packet cfg before new (0 + held.n) (packet_of held.x) release held.gave in
    let place : release.place ≡ held.n = omega arith in
    record {
      later = by.n;
      arrival = by.x;
      at = by.at;
      kept = held.x;
      kept_at = subst (λ (k : ℕ). slice_get before k ≡ Some held.x) (sym place) held.at;
      of = record { packet = found.packet; packet_is = found.packet_is; place_is = refl; name_is = found.name_is; proves_it = found.proves_it };
    }

-- ---- a chain that proves a packet was safe, and a new key of it verifies

record ProvesBy (cfg : Config) (new : List KeyRow) (packet : Packet) (chain : ℕ) : Type 0 where
  safe : has_chain packet.chains chain ≡ true
  key : KeyRow
  new_is : Contains new key
  of_chain : key.chain.0 ≡ chain
  reaches : packet.frame.name.interval ≤ key.index
  verifies_it : verifies cfg packet.frame chain key ≡ true

proves_by : (cfg : Config) (before : List Arrival) (new : List KeyRow) (packet : Packet) (chain : ℕ) → proves cfg before new packet chain ≡ true → ProvesBy cfg new packet chain
proves_by cfg before new packet chain e =
    let parts = both (has_chain packet.chains chain && nat_lt (newest cfg before chain) packet.frame.name.interval) (list_any (is_proof cfg packet.frame chain) new) e in
    let somewhere = passes_somewhere (is_proof cfg packet.frame chain) new parts.1 in
    let key : KeyRow = somewhere.element in
    let tests = both (is_of chain key && nat_le packet.frame.name.interval key.index) (verifies cfg packet.frame chain key) somewhere.passes in
    let first = both (is_of chain key) (nat_le packet.frame.name.interval key.index) tests.0 in
    record {
      safe = (both (has_chain packet.chains chain) (nat_lt (newest cfg before chain) packet.frame.name.interval) parts.0).0;
      key = key;
      new_is = contained new somewhere.place key somewhere.at;
      of_chain = eqb-true key.chain.0 chain first.0;
      reaches = leb-true packet.frame.name.interval key.index first.1;
      verifies_it = tests.1;
    }

-- ---- the whole

-- a place below another, of a list that ends there
shorter : (xs : List Arrival) (i n : ℕ) (a : Arrival) → slice_get (take n xs) i ≡ Some a → i < n
shorter xs i n a e = let within : i < length (take n xs) = slice_get_within (take n xs) i a e in omega (arith, length-take n xs)

authentic_release : KeptAreSafe → NewAreTaken → (cfg : Config) (h : List Entry) (head : Head) (payload : List ℕ) → IsLegal cfg h
    → GivesRelease (arrivals_in h) (given_in h) (slice_get (released cfg (arrivals_in h)) (given_in h)) head payload → IsAuthentic cfg (arrivals_in h) head payload
authentic_release kept_safe new_taken cfg h head payload legal gives =
    let arrivals : List Arrival = arrivals_in h in
    let release : Release = gives.release in
    let chain : ℕ = release.chain.0 in
    let proved = was_proved cfg arrivals release (contained (released cfg arrivals) (given_in h) release gives.waits) in
    let packet : Packet = proved.of.packet in
    let less : release.place < proved.later = shorter arrivals release.place proved.later proved.kept proved.kept_at in
    let came : slice_get arrivals release.place ≡ Some proved.kept = sym (taken_at arrivals release.place proved.later less) ∙ proved.kept_at in
    let by = proves_by cfg (take proved.later arrivals) (new_keys cfg (take proved.later arrivals) proved.arrival) packet chain proved.of.proves_it in
    let safe = kept_safe cfg h release.place proved.kept packet chain legal came proved.of.packet_is by.safe in
    let told : payload_of (slice_get arrivals release.place) ≡ packet.frame.payload = ap payload_of came ∙ ap payload_in safe.framed in
    let chain_is : head.chain ≡ chain = ap (λ (it : Head). it.chain) gives.head_is in
    record {
      place = release.place;
      arrival = proved.kept;
      came = came;
      packet = packet;
      buffered = proved.of.packet_is;
      interval_is = ap (λ (it : Head). it.interval) gives.head_is ∙ ap (λ (it : Name). it.interval) proved.of.name_is;
      number_is = ap (λ (it : Head). it.number) gives.head_is ∙ ap (λ (it : Name). it.number) proved.of.name_is;
      payload_is = gives.payload_is ∙ told;
      safe = subst (λ (c : ℕ). IsSafeOn cfg (take release.place arrivals) proved.kept packet c) (sym chain_is) safe;
      proved = record {
        later = proved.later;
        behind = less;
        arrival = proved.arrival;
        at = proved.at;
        key = by.key;
        disclosed = new_taken cfg h proved.later proved.arrival by.key legal proved.at by.new_is;
        of_chain = by.of_chain ∙ sym chain_is;
        reaches = by.reaches;
        verifies = subst (λ (c : ℕ). verifies cfg packet.frame c by.key ≡ true) (sym chain_is) by.verifies_it;
      };
    }

-- an entry that gives, by the one answer
pub given_by : (cfg : Config) (before : List Entry) (releaser : ℕ) (head : Head) (payload : List ℕ) → Taken releaser (Given head payload) ≡ entry_of cfg before (Takes releaser) → Given head payload ≡ reply_to cfg before
given_by cfg before releaser head payload e = cc

pub authentic : ((cfg : Config) (h : List Entry) → IsLegal cfg h → (n : ℕ) (e : Entry) → slice_get h n ≡ Some e → e ≡ entry_of cfg (take n h) (event_of e))
    → ((cfg : Config) (h more : List Entry) → IsLegal cfg (h ++ more) → IsLegal cfg h)
    → KeptAreSafe → NewAreTaken → GivenAreAuthentic
authentic by_index prefix kept_safe new_taken cfg h n releaser head payload legal at =
    let before : List Entry = take n h in
    let entry = by_index cfg h legal n (Taken releaser (Given head payload)) at in
    let whole : h ≡ before ++ drop n h = sym (take-append-drop n h) in
    authentic_release kept_safe new_taken cfg before head payload
    (prefix cfg before (drop n h) (subst (IsLegal cfg) whole legal))
    (reply_gives cfg before head payload (given_by cfg before releaser head payload entry))
