-- A packet that a new key proves is released under its name then at the latest.
use Rattle.std.proofs.Common.{◌≡◌, ℕ, ◌+◌, ◌<◌, Bool, true, false, List, [], ◌∷◌, ◌++◌, length, take, Option, Some, None, refl, ap, ◌∙◌, ◌==◌}
use Rattle.std.specs.Prelude.{not, find, slice_get}
use Rattle.std.specs.List.{list_any, list_all, range_with_len}
use Rattle.std.proofs.lemmas.Bool.{and_from, both_ways, eq-eqb, not_from_true, or_left, or_right}
use Rattle.std.proofs.lemmas.List.{take_more}
use Rattle.std.proofs.lemmas.List.Folds.{list_any-append}
use Rattle.std.proofs.lemmas.Option.{get_or_from_slice_get, slice_get_within}
use Rattle.tesla_base.specs.declared.names.Name.{Name}
use Rattle.tesla_base.proofs.Lists.{not_all_numbers, taken_at}
use Rattle.tesla_base.proofs.Numbered.{any_from}
use Rattle.tesla_base.proofs.Passing.{unfound_fail}
use Rattle.tesla_frame.specs.Frame.{DataFrame}
use Rattle.tesla_frame.specs.declared.row.KeyRow.{KeyRow}
use Rattle.tesla_fitting.specs.declared.config.Config.{Config}
use Rattle.tesla_fitting.specs.Config.{chains}
use Rattle.tesla_receiver.specs.Entries.{Arrival}
use Rattle.tesla_receiver.specs.declared.packet.Packet.{Packet}
use Rattle.tesla_walks.specs.declared.release.Release.{Release}
use Rattle.tesla_receiver.specs.Arrivals.{ProvedAreReleased}
use Rattle.tesla_receiver.specs.Keys.{new_keys}
use Rattle.tesla_receiver.specs.Packets.{packet_of, proves, release_on, release_of, batch, candidates, released}
use Rattle.tesla_state.specs.Releases.{each_after, has_name}
use Rattle.tesla_receiver.proofs.EachAfter.{each_after_more}
use Rattle.tesla_receiver.proofs.Names.{first_named}

name_itself : (name : Name) (order chain : ℕ) → has_name name (record { place = order; name = name; chain = record { 0 = chain } }) ≡ true
name_itself name order chain = and_from (name.interval == name.interval) (name.number == name.number) (eq-eqb name.interval name.interval refl) (eq-eqb name.number name.number refl)

named_on : (order : ℕ) (f : DataFrame) (test : ℕ → Bool) (n chain : ℕ) (o : Option ℕ) → find test (range_with_len 0 n) ≡ o → chain < n → test chain ≡ true → list_any (has_name f.name) (release_on order f o) ≡ true
named_on order f test n chain (Some c) e below passes = or_left (has_name f.name (record { place = order; name = f.name; chain = record { 0 = c } })) false (name_itself f.name order c)
named_on order f test n chain None e below passes =
    absurd (both_ways (list_all (λ c. not (test c)) (range_with_len 0 n)) (not_all_numbers (λ c. not (test c)) n chain below (not_from_true (test chain) passes)) (unfound_fail test (range_with_len 0 n) e))

-- the batch of an arrival has a release of each packet that it proves
named_in_batch : (cfg : Config) (before : List Arrival) (a kept : Arrival) (m : ℕ) (packet : Packet) (chain : ℕ) → slice_get before m ≡ Some kept → packet_of kept ≡ Some packet → chain < length cfg.setup.rows → proves cfg before (new_keys cfg before a) packet chain ≡ true → list_any (has_name packet.frame.name) (batch cfg before a) ≡ true
named_in_batch cfg before a kept m packet chain at is below proof =
    let new : List KeyRow = new_keys cfg before a in
    any_from (has_name packet.frame.name) (λ (p : ℕ × Arrival). release_of cfg before new p.0 (packet_of p.1)) 0 before m kept at
    (ap (λ o. list_any (has_name packet.frame.name) (release_of cfg before new (0 + m) o)) is
    ∙ named_on (0 + m) packet.frame (proves cfg before new packet) (length cfg.setup.rows) chain (find (proves cfg before new packet) (chains cfg)) refl below proof)

taken_more : {A : Type 0} (xs : List A) (n : ℕ) (x : A) → slice_get xs n ≡ Some x → take (n + 1) xs ≡ take n xs ++ x ∷ []
taken_more xs n x at = take_more xs n x (slice_get_within xs n x at) ∙ ap (λ y. take n xs ++ y ∷ []) (get_or_from_slice_get xs n x x at)

-- the law
pub proved_released : ProvedAreReleased
unfolding released candidates
proved_released cfg xs m n kept a packet chain before at is there below proof =
    let prefix : List Arrival = take n xs in
    let q : Release → Bool = has_name packet.frame.name in
    let named : list_any q (batch cfg prefix a) ≡ true = named_in_batch cfg prefix a kept m packet chain (taken_at xs m n before ∙ at) is below proof in
    let all : list_any q (each_after (batch cfg) [] (prefix ++ a ∷ [])) ≡ true =
    ap (list_any q) (each_after_more (batch cfg) prefix a) ∙ list_any-append q (each_after (batch cfg) [] prefix) (batch cfg prefix a) ∙ or_right (list_any q (each_after (batch cfg) [] prefix)) (list_any q (batch cfg prefix a)) named in
    ap (λ (ys : List Arrival). list_any q (released cfg ys)) (taken_more xs n a there) ∙ first_named packet.frame.name [] (candidates cfg (prefix ++ a ∷ [])) refl all
