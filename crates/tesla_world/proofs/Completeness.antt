-- A kept packet with the sender's tag is proved by the first new key of a chain of its set that reaches its interval.
use Rattle.std.proofs.Common.{◌≡◌, ℕ, ◌+◌, ◌-◌, ◌<◌, ◌≤◌, Bool, true, List, length, take, Some, refl, sym, ap, subst, ◌∙◌, arith, ◌&&◌}
use Rattle.std.specs.Prelude.{slice_get, nat_lt, nat_le}
use Rattle.std.specs.List.{Contains, list_any}
use Rattle.std.proofs.lemmas.Bool.{and_from, eq-eqb, le-leb, lt-ltb}
use Rattle.std.proofs.lemmas.List.Folds.{list_any_at}
use Rattle.std.proofs.lemmas.Option.{slice_get_within}
use Rattle.std.proofs.lemmas.Slice.Eq.{bytes_eq-Decides}
use Rattle.tesla_base.specs.declared.names.Key.{Key}
use Rattle.tesla_clock.specs.Safe.{has_chain}
use Rattle.tesla_fitting.specs.Rows.{is_of}
use Rattle.tesla_fitting.specs.declared.config.Config.{Config}
use Rattle.tesla_frame.specs.Frame.{DataFrame}
use Rattle.tesla_frame.specs.declared.row.KeyRow.{KeyRow}
use Rattle.tesla_prf.specs.Keys.{tag_of, walk}
use Rattle.tesla_prf.proofs.Walks.{walk_on}
use Rattle.tesla_receiver.specs.Arrivals.{KeptAreSafe, NewAreTaken, NewestRises, ProvedAreReleased}
use Rattle.tesla_receiver.specs.History.{IsLegal, arrivals_in}
use Rattle.tesla_receiver.specs.Keys.{new_keys, newest}
use Rattle.tesla_receiver.specs.Packets.{packet_of, is_proof, proves, tag_by, verifies, verifies_row}
use Rattle.tesla_receiver.specs.Entries.{Arrival, Entry}
use Rattle.tesla_receiver.specs.declared.packet.Packet.{Packet}
use Rattle.tesla_sender.specs.Made.{key_of}
use Rattle.tesla_world.specs.Laws.{HasSendersTag, HonestCompleteness, IsHonest, IsProvedAt, IsReached, seed_in, senders_key}
use Rattle.tesla_world.proofs.Newest.{stays_below, take_got}

-- the sender's key of an index walks to that of an earlier one
senders_walk : (last : ℕ) (seed : Key) (interval index : ℕ) → interval ≤ index → index ≤ last → walk (key_of last seed index) (index - interval) ≡ key_of last seed interval
senders_walk last seed interval index below within =
    let steps : (last - index) + (index - interval) ≡ last - interval = omega arith in
    walk_on seed (last - index) (index - interval) ∙ ap (walk seed) steps

-- the sender's key of the interval or a later one proves a packet with the sender's tag
senders_proof : (cfg : Config) (seeds : List Key) (frame : DataFrame) (row : KeyRow) → HasSendersTag cfg seeds frame row.chain.0 → row.key ≡ senders_key cfg seeds row.chain.0 row.index → frame.name.interval ≤ row.index → row.index ≤ cfg.setup.times.last → is_proof cfg frame row.chain.0 row ≡ true
senders_proof cfg seeds frame row tagged own reaches within =
    let chain : ℕ = row.chain.0 in
    let last : ℕ = cfg.setup.times.last in
    let steps : ℕ = row.index - frame.name.interval in
    let key : walk row.key steps ≡ senders_key cfg seeds chain frame.name.interval = ap (λ k. walk k steps) own ∙ senders_walk last (seed_in seeds chain) frame.name.interval row.index reaches within in
    let tag : tagged.row.tag ≡ tag_by cfg frame chain row =
    tagged.tag ∙ ap (λ k. tag_of cfg.setup.tag_length k cfg.setup.stream (record { 0 = chain }) frame.name frame.payload) (sym key) in
    let verified : verifies cfg frame chain row ≡ true =
    ap (verifies_row cfg frame chain row) tagged.at ∙ (bytes_eq-Decides tagged.row.tag (tag_by cfg frame chain row)).1 tag in
    and_from (is_of chain row && nat_le frame.name.interval row.index) (verifies cfg frame chain row)
    (and_from (is_of chain row) (nat_le frame.name.interval row.index) (eq-eqb chain chain refl) (le-leb frame.name.interval row.index reaches)) verified

-- a test that an element of the list passes
passed_by : {A : Type 0} (p : A → Bool) (xs : List A) (x : A) → Contains xs x → p x ≡ true → list_any p xs ≡ true
passed_by p xs x among passes = list_any_at p xs among.0 x among.1 (ap p among.2 ∙ passes)

-- where no new key reached the interval before, the one that does proves the packet
pub proved_at : KeptAreSafe → NewAreTaken → ProvedAreReleased → (cfg : Config) (seeds : List Key) (h : List Entry) → IsLegal cfg h → IsHonest cfg seeds (arrivals_in h) → (m n : ℕ) (kept arrival : Arrival) (packet : Packet) (chain : ℕ) → m < n → slice_get (arrivals_in h) m ≡ Some kept → packet_of kept ≡ Some packet → has_chain packet.chains chain ≡ true → HasSendersTag cfg seeds packet.frame chain → slice_get (arrivals_in h) n ≡ Some arrival → IsReached cfg (take n (arrivals_in h)) arrival chain packet.frame.name.interval → newest cfg (take n (arrivals_in h)) chain < packet.frame.name.interval → IsProvedAt cfg (arrivals_in h) n arrival packet chain
proved_at safe taken proved cfg seeds h legal honest m n kept arrival packet chain less at_m brought set tagged at_n reached below =
    let before : List Arrival = take n (arrivals_in h) in
    let interval : ℕ = packet.frame.name.interval in
    let row : KeyRow = reached.row in
    let same : row.chain.0 ≡ chain = reached.chain_is in
    let passes : is_proof cfg packet.frame row.chain.0 row ≡ true =
    senders_proof cfg seeds packet.frame row (subst (λ (c : ℕ). HasSendersTag cfg seeds packet.frame c) (sym same) tagged) (honest n arrival row at_n reached.new) reached.reaches (taken cfg h n arrival row legal at_n reached.new).within in
    let some : list_any (is_proof cfg packet.frame chain) (new_keys cfg before arrival) ≡ true =
    passed_by (is_proof cfg packet.frame chain) (new_keys cfg before arrival) row reached.new (subst (λ (c : ℕ). is_proof cfg packet.frame c row ≡ true) same passes) in
    let all : proves cfg before (new_keys cfg before arrival) packet chain ≡ true =
    and_from (has_chain packet.chains chain && nat_lt (newest cfg before chain) interval) (list_any (is_proof cfg packet.frame chain) (new_keys cfg before arrival))
    (and_from (has_chain packet.chains chain) (nat_lt (newest cfg before chain) interval) set (lt-ltb (newest cfg before chain) interval below)) some in
    record {
      proves_it = all;
      released_by = proved cfg (arrivals_in h) m n kept arrival packet chain less at_m brought at_n (safe cfg h m kept packet chain legal at_m brought set).chain_is all;
    }

-- with the arrival that brought a kept packet, no key that reaches its interval is taken
pub below_with : KeptAreSafe → (cfg : Config) (h : List Entry) → IsLegal cfg h → (m : ℕ) (kept : Arrival) (packet : Packet) (chain : ℕ) → slice_get (arrivals_in h) m ≡ Some kept → packet_of kept ≡ Some packet → has_chain packet.chains chain ≡ true → newest cfg (take (m + 1) (arrivals_in h)) chain < packet.frame.name.interval
below_with safe cfg h legal m kept packet chain at brought set =
    subst (λ (xs : List Arrival). newest cfg xs chain < packet.frame.name.interval) (sym (take_got (arrivals_in h) m kept at))
    (safe cfg h m kept packet chain legal at brought set).unknown

pub complete : KeptAreSafe → NewAreTaken → NewestRises → ProvedAreReleased → HonestCompleteness
complete safe taken rises proved cfg seeds h legal honest m n kept arrival packet chain less at_m brought set tagged at_n reached none =
    let arrivals : List Arrival = arrivals_in h in
    let interval : ℕ = packet.frame.name.interval in
    let more : ℕ = n - (m + 1) in
    let count : (m + 1) + more ≡ n = omega arith in
    let long : n < length arrivals = slice_get_within arrivals n arrival at_n in
    let below : newest cfg (take ((m + 1) + more) arrivals) chain < interval =
    stays_below rises cfg arrivals (m + 1) more chain interval (omega (arith, count, long)) (below_with safe cfg h legal m kept packet chain at_m brought set)
    (λ k other above before at reaches. none k other (omega (arith, above)) (omega (arith, before, count)) at reaches) in
    proved_at safe taken proved cfg seeds h legal honest m n kept arrival packet chain less at_m brought set tagged at_n reached
    (subst (λ (k : ℕ). newest cfg (take k arrivals) chain < interval) count below)
