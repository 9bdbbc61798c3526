-- Rows of a data frame that carry keys.
use Rattle.std.proofs.Common.{◌≡◌, ℕ, ◌+◌, true, false, ◌||◌, List, [], get_or, take, Some, None, ap, ◌∙◌}
use Rattle.std.specs.Prelude.{slice_get, option_map}
use Rattle.std.specs.List.{list_any, enumerate_from}
use Rattle.tesla_base.proofs.Lists.{get_or_from_option_map, within_from_option_map, list_any_numbered, list_any_numbered_more}
use Rattle.tesla_frame.specs.Frame.{TagRow}
use Rattle.tesla_fitting.specs.declared.config.Config.{Config}
use Rattle.tesla_fitting.specs.Fitting.{is_early}

-- what stands for a row that the frame doesn't have
abbrev pub no_tag : TagRow
no_tag = record { tag = []; key = None }

module _ (cfg : Config) (interval : ℕ) (rows : List TagRow) (chain : ℕ) where
  -- a row that carries its key too early
  pub early_here : option_map (λ row. is_early cfg interval chain row.key) (slice_get rows chain) ≡ Some true → list_any (λ (p : ℕ × TagRow). is_early cfg interval p.0 p.1.key) (enumerate_from 0 rows) ≡ true
  early_here h =
      list_any_numbered (λ (p : ℕ × TagRow). is_early cfg interval p.0 p.1.key) rows chain no_tag (within_from_option_map (λ (row : TagRow). is_early cfg interval chain row.key) rows chain true h)
      (get_or_from_option_map (λ (row : TagRow). is_early cfg interval chain row.key) rows chain no_tag true h)

  -- one row more that doesn't
  pub early_more : option_map (λ row. is_early cfg interval chain row.key) (slice_get rows chain) ≡ Some false → list_any (λ (p : ℕ × TagRow). is_early cfg interval p.0 p.1.key) (enumerate_from 0 (take chain rows)) ≡ false → list_any (λ (p : ℕ × TagRow). is_early cfg interval p.0 p.1.key) (enumerate_from 0 (take (chain + 1) rows)) ≡ false
  early_more h none =
      list_any_numbered_more (λ (p : ℕ × TagRow). is_early cfg interval p.0 p.1.key) rows chain no_tag (within_from_option_map (λ (row : TagRow). is_early cfg interval chain row.key) rows chain false h)
      ∙ ap (λ b. b || is_early cfg interval chain (get_or rows chain no_tag).key) none
      ∙ get_or_from_option_map (λ (row : TagRow). is_early cfg interval chain row.key) rows chain no_tag false h
