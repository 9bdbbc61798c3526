-- Where it matters whether there is memory for a further epoch.
use Rattle.std.proofs.Common.{◌≡◌, ◌∙◌, ◌⊎◌, inl, inr, ℕ, suc, ◌-◌, Bool, true, false, cond, List, length, Option, Some, None, Result, Ok, Err, refl, sym}
use Rattle.std.specs.Prelude.{◌==◌, not}
use Rattle.std.specs.List.{list_any}
use Rattle.tesla_commit.specs.Parsing.{judged}
use Rattle.tesla_commit.specs.Parts.{Parts}
use Rattle.tesla_commit.specs.declared.refusal.SetupKind.{SetupKind}
use Rattle.tesla_fitting.specs.declared.config.Config.{Config}
use Rattle.tesla_rollover.specs.Epochs.{has_stream, most_epochs, next_judged, next_of, next_spelled}
use Rattle.tesla_rollover.specs.Handover.{handover_text}
use Rattle.tesla_rollover.specs.Replies.{had_memory}
use Rattle.tesla_rollover.specs.declared.answers.Next.{Next}
use Rattle.tesla_rollover.specs.declared.answers.Next.TheVariants.{Plain, Old, EpochsSpent, BadSetup, UsedStream, NoMemory, Opened}

-- told without memory and with enough, both are the same, or an epoch is opened with it
abbrev Matters : Next → Next → Type 0
Matters without enough = ((without ≡ enough) × (had_memory without ≡ true)) ⊎ ((without ≡ NoMemory) × (enough ≡ Opened))

judged_matters : (configs : List Config) (r : Result Parts (ℕ × SetupKind)) → Matters (next_judged configs false r) (next_judged configs true r)
judged_matters configs (Err refused) = inl (refl, refl)
judged_matters configs (Ok setup) = used (list_any (has_stream setup.stream) configs)
  where
    used : (has : Bool) → Matters (cond has (UsedStream setup.stream) NoMemory) (cond has (UsedStream setup.stream) Opened)
    used true = inl (refl, refl)
    used false = inr (refl, refl)

newest_matters : (old spent : Bool) (newest : ℕ) (without enough : Next) → Matters without enough → Matters (cond old (Old newest) (cond spent EpochsSpent without)) (cond old (Old newest) (cond spent EpochsSpent enough))
newest_matters true spent newest without enough matters = inl (refl, refl)
newest_matters false true newest without enough matters = inl (refl, refl)
newest_matters false false newest without enough matters = matters

spelled_matters : (configs : List Config) (epoch : ℕ) (text : Option (List ℕ)) → Matters (next_spelled configs epoch false text) (next_spelled configs epoch true text)
spelled_matters configs epoch None = inl (refl, refl)
spelled_matters configs epoch (Some text) =
    newest_matters (not (suc epoch == length configs)) (length configs == most_epochs) (length configs - 1) (next_judged configs false (judged text)) (next_judged configs true (judged text)) (judged_matters configs (judged text))

wanting_by : (without enough : Next) → Matters without enough → had_memory without ≡ false → (without ≡ NoMemory) × (enough ≡ Opened)
wanting_by without enough (inl same) wanting = absurd (let no : true ≡ false = sym same.1 ∙ wanting in cc)
wanting_by without enough (inr opens) wanting = opens

-- where memory was wanting, an epoch would have been opened
pub memory_matters : (configs : List Config) (epoch : ℕ) (payload : List ℕ) → had_memory (next_of configs epoch false payload) ≡ false → (next_of configs epoch false payload ≡ NoMemory) × (next_of configs epoch true payload ≡ Opened)
memory_matters configs epoch payload = wanting_by (next_of configs epoch false payload) (next_of configs epoch true payload) (spelled_matters configs epoch (handover_text payload))

same_by : (without enough : Next) → Matters without enough → (enough ≡ Opened → ⊥) → without ≡ enough
same_by without enough (inl same) unopened = same.0
same_by without enough (inr opens) unopened = absurd (unopened opens.1)

-- where none would be opened, it is the same without memory
pub memory_alike : (configs : List Config) (epoch : ℕ) (payload : List ℕ) → (next_of configs epoch true payload ≡ Opened → ⊥) → next_of configs epoch false payload ≡ next_of configs epoch true payload
memory_alike configs epoch payload = same_by (next_of configs epoch false payload) (next_of configs epoch true payload) (spelled_matters configs epoch (handover_text payload))
