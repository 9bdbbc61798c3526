-- What the first arrivals tell stays when more arrive.
use Rattle.std.proofs.Common.{◌≡◌, ℕ, ◌≤◌, List, [], ◌∷◌, ◌++◌, max, ap, subst, sym, ◌∙◌, arith}
use Rattle.std.specs.Prelude.{filter, fold, flat_map}
use Rattle.std.proofs.lemmas.List.Concat.{flat_map-append}
use Rattle.tesla_frame.specs.declared.row.KeyRow.{KeyRow}
use Rattle.tesla_fitting.specs.declared.config.Config.{Config}
use Rattle.tesla_receiver.specs.Entries.{Arrival}
use Rattle.tesla_walks.specs.declared.release.Release.{Release}
use Rattle.tesla_fitting.specs.Config.{chain_row}
use Rattle.tesla_state.specs.Releases.{each_after, unless_named}
use Rattle.tesla_receiver.specs.Keys.{keys_taken, greatest, newest}
use Rattle.tesla_fitting.specs.Rows.{is_of}
use Rattle.tesla_receiver.specs.Packets.{batch, candidates, released}
use Rattle.tesla_receiver.proofs.EachAfter.{each_after-append}
use Rattle.tesla_receiver.proofs.Newest.{greatest-append}

-- what more is released when more arrives
pub released_more : (cfg : Config) (xs ys : List Arrival) → (rest : List Release) × (released cfg (xs ++ ys) ≡ released cfg xs ++ rest)
unfolding released candidates
released_more cfg xs ys =
    let a : List Release = each_after (batch cfg) [] xs in
    let b : List Release = each_after (batch cfg) xs ys in
    (each_after unless_named a b, ap (each_after unless_named []) (each_after-append (batch cfg) [] xs ys) ∙ each_after-append unless_named [] a b)

greatest_above : (n : ℕ) (rows : List KeyRow) → n ≤ fold (λ m row. max m row.index) n rows
greatest_above n [] = omega arith
greatest_above n (row ∷ rows) = let more = greatest_above (max n row.index) rows in omega (arith, more)

-- the newest index of a chain only rises
pub newest_rises : (cfg : Config) (xs ys : List Arrival) (chain : ℕ) → newest cfg xs chain ≤ newest cfg (xs ++ ys) chain
unfolding newest
newest_rises cfg xs ys chain =
    let first : ℕ = (chain_row cfg chain).index in
    let both : greatest chain first (flat_map (keys_taken cfg) (xs ++ ys)) ≡ greatest chain (greatest chain first (flat_map (keys_taken cfg) xs)) (flat_map (keys_taken cfg) ys) =
    ap (greatest chain first) (flat_map-append (keys_taken cfg) xs ys) ∙ greatest-append chain first (flat_map (keys_taken cfg) xs) (flat_map (keys_taken cfg) ys) in
    subst (λ (n : ℕ). greatest chain first (flat_map (keys_taken cfg) xs) ≤ n) (sym both)
    (greatest_above (greatest chain first (flat_map (keys_taken cfg) xs)) (filter (is_of chain) (flat_map (keys_taken cfg) ys)))
