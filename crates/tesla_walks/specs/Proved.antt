-- Packets that new keys prove, and their order.
use Rattle.std.specs.Prelude.{ℕ, ◌-◌, Bool, false, ◌&&◌, List, [], ◌∷◌, find, slice_get, Option, Some, None, nat_lt, nat_le, if◌then◌else◌, bytes_eq, ◌<◌, All}
use Rattle.std.specs.List.{list_any}
use Rattle.tesla_clock.specs.Safe.{has_chain}
use Rattle.tesla_frame.specs.declared.row.KeyRow.{KeyRow}
use Rattle.tesla_keys.specs.Tip.{Tip}
use Rattle.tesla_prf.specs.Keys.{walk, tag_of}
use Rattle.tesla_fitting.specs.declared.config.Config.{Config}
use Rattle.tesla_walks.specs.declared.release.Release.{Release}
use Rattle.tesla_fitting.specs.Config.{chains}
use Rattle.tesla_fitting.specs.Rows.{is_of}
use Rattle.tesla_walks.specs.Holding.{Holding}
use Rattle.tesla_walks.specs.Tips.{tip_at}
use Rattle.tesla_walks.specs.declared.ordering.Proved.{Proved}

abbrev pub matches : Config → Holding → ℕ → KeyRow → Option (List ℕ) → Bool
matches cfg item chain row None = false
matches cfg item chain row (Some tag) =
    bytes_eq tag (tag_of cfg.setup.tag_length (walk row.key (row.index - item.name.interval)) cfg.setup.stream (record { 0 = chain }) item.name item.payload)

-- the key is of the chain, reaches the packet's interval, and verifies its tag
abbrev pub is_proof_of : Config → Holding → ℕ → KeyRow → Bool
is_proof_of cfg item chain row = is_of chain row && nat_le item.name.interval row.index && matches cfg item chain row (slice_get item.tags chain)

-- on this chain, which was safe, one of these new keys is the first to reach the packet's interval, and verifies its tag
abbrev pub proves_on : Config → List Tip → List KeyRow → Holding → ℕ → Bool
proves_on cfg tips new item chain =
    has_chain item.chains chain && nat_lt (tip_at tips chain).index item.name.interval && list_any (is_proof_of cfg item chain) new

abbrev pub released_on : Holding → Option ℕ → List Release
released_on item None = []
released_on item (Some chain) = record { place = item.order; name = item.name; chain = record { 0 = chain } } ∷ []

-- the release of a packet that isn't released yet by these new keys, told the least chain that proves it
abbrev pub proof_of : Config → List Tip → List KeyRow → Holding → List Release
proof_of cfg tips new item = if item.released then [] else released_on item (find (proves_on cfg tips new item) (chains cfg))

-- ---- what is told of them

abbrev pub release_in : Proved → Release
release_in proved = proved.release

abbrev pub arrival_number : Release → ℕ
arrival_number release = release.place

-- the numbers of the elements rise
abbrev pub RiseBy : {A : Type 0} → (A → ℕ) → List A → Type 0
RiseBy number [] = Unit {0}
RiseBy number (x ∷ xs) = All (λ y. number x < number y) xs × RiseBy number xs
