-- Which words are audit, and its files in order.
use Rattle.std.specs.Prelude.{ℕ, ℤ, List, [], ◌∷◌, codes}
use Rattle.tesla_commit.specs.Parts.{Parts}
use Rattle.tesla_desk.specs.Outside.{Opening, OfSource}
use Rattle.tesla_fitting.specs.declared.config.Config.{Config}
use Rattle.tesla_front.specs.Forms.{AreSpelled, LagIs, NameIs, LimitsAre, WordIs}
use Rattle.tesla_front.specs.declared.words.PacketLimits.{PacketLimits}
use Rattle.tesla_run_audit.specs.declared.arguments.Arguments.{Arguments}

-- its words
abbrev pub usage : List ℕ
usage = codes "audit SETUP LAG CAPACITY TRACE"

-- the names of the files, the lag, and how many packets are held at most
pub record AuditArguments : Type 0 where
  pub setup : List ℕ
  pub lag : ℤ
  pub limits : PacketLimits
  pub trace : List ℕ

-- what the words that were read ask for
abbrev pub arguments_of : Arguments → AuditArguments
arguments_of words = record { setup = words.setup.now; lag = words.lag; limits = words.limits; trace = words.trace.now }

-- its files, in the order in which they are opened
abbrev pub files_of_audit : AuditArguments → List Opening
files_of_audit arguments = OfSource arguments.setup ∷ OfSource arguments.trace ∷ []

-- the words are the form 'audit SETUP LAG CAPACITY TRACE'; the names may be the same
abbrev pub IsAudit : AuditArguments → List (List ℕ) → Type 0
IsAudit it = AreSpelled (WordIs (codes "audit") ∷ NameIs it.setup ∷ LagIs it.lag ∷ LimitsAre it.limits ∷ NameIs it.trace ∷ [])

-- the configuration of a receiver of such words, with so many ingests
abbrev pub config_of : AuditArguments → Parts → ℕ → Config
config_of arguments setup ingests =
    record { setup = setup; lag = arguments.lag; capacity = arguments.limits.capacity; quota = arguments.limits.quota; ingests = ingests }
