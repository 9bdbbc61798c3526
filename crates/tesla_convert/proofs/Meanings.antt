-- What is so of an input by one meaning is so by another that says the same.
use Rattle.std.proofs.Common.{◌≡◌, ◌∙◌, ◌⊎◌, inl, inr, ◌<◌, ℕ, Option, List, subst}
use Rattle.tesla_front.specs.OutcomeView.{OutcomeView, Done, Usage, Refused, Failed}
use Rattle.tesla_front.specs.Files.{IsPrefix}
use Rattle.tesla_front.specs.declared.fault.Fault.TheVariants as faults
use Rattle.tesla_convert.specs.Meaning.{ConvertsBetween, EndsBetween, Meaning, SaysSame, StopsBetween}

module _ (first second : Meaning) (same : SaysSame first second) (before left written : Option (List ℕ)) (failed : ℕ) where
  ends_same : (outcome : OutcomeView) → EndsBetween first before written outcome → EndsBetween second before written outcome
  ends_same outcome ends = record {
    end = λ bytes told. ends.end bytes told ∙ same.comes bytes;
    text = λ bytes done told written_is. ends.text bytes done told written_is ∙ same.makes bytes;
  }

  part_same : (text other done : List ℕ) → text ≡ other → (done ≡ text) ⊎ ((0 < failed) × IsPrefix text done) → (done ≡ other) ⊎ ((0 < failed) × IsPrefix other done)
  part_same text other done e (inl whole) = inl (whole ∙ e)
  part_same text other done e (inr (some, prefix)) = inr (some, subst (λ (t : List ℕ). IsPrefix t done) e prefix)

  stops_same : StopsBetween first before left written failed → StopsBetween second before left written failed
  stops_same stops = λ bytes told.
      let (read, rest, left_is, parts, none, text) = stops bytes told in
      (read, rest, left_is, parts, same.unrefused read none, λ done written_is. part_same (first.so_far read) (second.so_far read) done (same.so_far read) (text done written_is))

  -- what was so of an input by the first is so by the second
  pub between_same : (outcome : OutcomeView) → ConvertsBetween first before left written failed outcome → ConvertsBetween second before left written failed outcome
  between_same (Done lines) between = ends_same (Done lines) between
  between_same Usage between = absurd between
  between_same (Refused status line) between = ends_same (Refused status line) between
  between_same (Failed faults.Read) between = stops_same between
  between_same (Failed faults.Write) between = (between.0, λ bytes done told written_is. subst (λ (t : List ℕ). IsPrefix t done) (same.makes bytes) (between.1 bytes done told written_is))
  between_same (Failed faults.NoMemory) (inl unbegun) = inl unbegun
  between_same (Failed faults.NoMemory) (inr wants) =
      inr (
        same.may wants.0,
        wants.1,
        λ bytes done told written_is.
            let it = wants.2 bytes done told written_is in
            (subst (λ (t : List ℕ). IsPrefix t done) (same.makes bytes) it.0, same.wanting bytes done it.1),
      )
  between_same (Failed faults.Open) between = absurd between
