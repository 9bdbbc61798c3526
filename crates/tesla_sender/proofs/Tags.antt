-- The tag of a message on a chain.
use Rattle.std.proofs.Common.{◌≡◌, ℕ, List, ap}
use Rattle.tesla_base.specs.Tag.{wide_tag}
use Rattle.tesla_base.specs.declared.names.Key.{Key}
use Rattle.tesla_base.specs.declared.names.Name.{Name}
use Rattle.tesla_commit.specs.Parts.{Parts}
use Rattle.tesla_prf.specs.Keys.{mac_of, tag_under}
use Rattle.tesla_sender.specs.Made.{Chain, key_of}
use Rattle.tesla_sender.specs.Chains.{tag_made}

-- a tag under the MAC key of the interval
pub tag_is_made : (setup : Parts) (name : Name) (payload : List ℕ) (chain : Chain) (mac : Key) → mac ≡ mac_of (key_of chain.last chain.seed name.interval) → wide_tag (tag_under setup.tag_length mac setup.stream (record { 0 = chain.number }) name payload) ≡ tag_made setup name payload chain
unfolding tag_made
tag_is_made setup name payload chain mac is = ap (λ k. wide_tag (tag_under setup.tag_length k setup.stream (record { 0 = chain.number }) name payload)) is
