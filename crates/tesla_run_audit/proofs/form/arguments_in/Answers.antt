use Rattle.std.proofs.Common.{◌≡◌, ◌∙◌, ℕ, ℤ, pos, List, Option, Some, None, FitsSigned, sym, ap, subst}
use Rattle.std.specs.Int.{w64}
use Rattle.std.specs.Option.{option_map}
use Rattle.std.proofs.lemmas.Int.{to_z-of_z}
use Rattle.tesla_front.specs.declared.words.PacketLimits.{PacketLimits}
use Rattle.tesla_run_audit.specs.Arguments.{AuditArguments}
use Rattle.tesla_run_audit.proofs.form.arguments_in.Goals as goal

abbrev made : List ℕ × (ℤ × (PacketLimits × (List ℕ × Unit {0}))) → AuditArguments
made w = record { setup = w.0; lag = w.1.0; limits = w.1.1.0; trace = w.1.1.1.0 }

abbrev lag_of : Option AuditArguments → ℤ
lag_of None = pos 0
lag_of (Some it) = it.lag

pub returns-in-Some-clause-only : goal.returns-in-Some-clause-only
returns-in-Some-clause-only c it is =
    let same = ap (option_map made) (sym c.in-Some.is ∙ c.words_in-found.ensures.only (it.setup, (it.lag, (it.limits, (it.trace, tt)))) is) in
    let lag : c.in-Some.lag ≡ it.lag = ap lag_of same in
    rw (c.as_str.ensures, c.as_str-in-Some.ensures, to_z-of_z w64 c.in-Some.lag (subst (FitsSigned w64) (sym lag) is.rest.rest.first.1)) same

pub returns-in-None-clause-only : goal.returns-in-None-clause-only
returns-in-None-clause-only c it is = let no = c.words_in-found.ensures.only (it.setup, (it.lag, (it.limits, (it.trace, tt)))) is in cc
