-- Releases that have a name.
use Rattle.std.proofs.Common.{◌≡◌, ℕ, true, ap, ◌∙◌, ◌==◌}
use Rattle.std.proofs.lemmas.Bool.{and_parts, eqb-true}
use Rattle.tesla_base.specs.declared.names.Name.{Name}
use Rattle.tesla_walks.specs.declared.release.Release.{Release}
use Rattle.tesla_state.specs.Releases.{has_name}

-- it is the release's own
pub same_name : (name : Name) (release : Release) → has_name name release ≡ true → release.name ≡ name
same_name name release h =
    let parts = and_parts (release.name.interval == name.interval) (release.name.number == name.number) h in
    ap (λ (i : ℕ). record { interval = i; number = release.name.number }) (eqb-true release.name.interval name.interval parts.0)
    ∙ ap (λ (n : ℕ). record { interval = name.interval; number = n }) (eqb-true release.name.number name.number parts.1)
