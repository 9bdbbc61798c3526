-- How many of the packets in their places weren't taken.
use Rattle.std.proofs.Common.{◌≡◌, ◌+◌, ℕ, cond, List, [], ◌∷◌, map, refl, sym, ap, ◌∙◌}
use Rattle.std.specs.Prelude.{count_by}
use Rattle.std.proofs.lemmas.List.Sums.{sum_by-cons}
use Rattle.tesla_buffer.specs.Held as held
use Rattle.tesla_buffer.specs.Held.{Held}
use Rattle.tesla_walks.specs.Holding.{Holding}
use Rattle.tesla_walks.specs.ItemShown.{holding_in}
use Rattle.tesla_state.specs.Steps.{is_untaken}
use Rattle.tesla_state.specs.Stored.{holding_at, placed_in}

pub untaken_are : (chains : ℕ) (hs : List Held) → count_by held.is_untaken hs ≡ count_by is_untaken (map holding_at (map (placed_in chains) hs))
untaken_are chains [] = refl
untaken_are chains (h ∷ hs) =
    sum_by-cons (λ (x : Held). cond (held.is_untaken x) 1 0) h hs
    ∙ ap (λ n. cond (held.is_untaken h) 1 0 + n) (untaken_are chains hs)
    ∙ sym (sum_by-cons (λ (x : Holding). cond (is_untaken x) 1 0) (holding_in chains h.item) (map holding_at (map (placed_in chains) hs)))
