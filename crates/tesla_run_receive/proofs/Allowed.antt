-- What a live run may write, from what its words allow.
use Rattle.std.proofs.Common.{◌≡◌, ◌∙◌, ℕ, suc, ◌+◌, Bool, List, [], ◌∷◌, Option, Some, refl, sym, ap, subst, arith}
use Rattle.std.specs.Prelude.{slice_get}
use Rattle.tesla_commit.specs.Parts.{Parts}
use Rattle.tesla_desk.specs.Outside.{Told}
use Rattle.tesla_fitting.specs.declared.config.Config.{Config}
use Rattle.tesla_session.specs.Allowed.{MayReleaseAll}
use Rattle.tesla_shared.specs.Due.{IsDue}
use Rattle.tesla_shared.specs.Yields.{Record}
use Rattle.tesla_run_receive.specs.Allowed.{MayWriteReleasedOf}
use Rattle.tesla_run_receive.specs.Arguments.{ReceiveArguments}
use Rattle.tesla_run_receive.specs.Receive.{LiveKind, config_of}

module _ {V R : Type 0} (kind : LiveKind V R) {S : Type 0} (name : S → List ℕ) (written : S → Option (List ℕ)) (may_write : S → List ℕ → Bool) (read_for : ℕ → List ℕ → ℕ → Bool)
    (arguments : ReceiveArguments) (told : Told) (setup : Parts) (config : Config) where
  -- the answer is due under this configuration
  abbrev Due : Config → ℕ → Option (List ℕ) → R → Type 0
  Due cfg = IsDue (kind.behaviour cfg).yields (kind.behaviour cfg).IsLegal cfg.ingests read_for

  releases_from : kind.IsSetup (told.page arguments.setup) setup → config ≡ config_of arguments setup → MayWriteReleasedOf kind name written may_write read_for arguments told
      → (number : ℕ) (names : List (List ℕ)) → ((k : ℕ) (under : List ℕ) → slice_get names k ≡ Some under → slice_get arguments.sinks (number + k) ≡ Some under)
      → MayReleaseAll name written may_write (kind.behaviour config).yields (Due config) number names
  releases_from spelled configured may number [] are = tt
  releases_from spelled configured may number (under ∷ others) are = (
    λ it reply text is due yields. may it text (record {
      setup = setup;
      spelled = spelled;
      releaser = number;
      named = ap (slice_get arguments.sinks) (let same : number ≡ number + 0 = omega arith in same) ∙ are 0 under refl ∙ ap (λ (n : List ℕ). Some n) (sym is);
      reply = reply;
      due = subst (λ (cfg : Config). Due cfg number (written it) reply) configured due;
      piece_is = subst (λ (cfg : Config). (kind.behaviour cfg).yields reply ≡ Record text) configured yields;
    }),
    releases_from spelled configured may (number + 1) others (λ k other is. ap (slice_get arguments.sinks) (let same : number + 1 + k ≡ number + suc k = omega arith in same) ∙ are (suc k) other is),
  )

  -- each sink may write what is released to it, under the setup that was found
  pub releases_all : kind.IsSetup (told.page arguments.setup) setup → config ≡ config_of arguments setup → MayWriteReleasedOf kind name written may_write read_for arguments told
      → MayReleaseAll name written may_write (kind.behaviour config).yields (Due config) 0 arguments.sinks
  releases_all spelled configured may = releases_from spelled configured may 0 arguments.sinks (λ k under is. ap (slice_get arguments.sinks) (let same : 0 + k ≡ k = omega arith in same) ∙ is)
