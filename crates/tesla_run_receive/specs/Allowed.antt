-- What a live run may write while it runs, told the words and the setup. It holds whether or not the run ends.
use Rattle.std.specs.Prelude.{◌≡◌, ℕ, Bool, true, List, Option, Some, slice_get}
use Rattle.tesla_commit.specs.Parts.{Parts}
use Rattle.tesla_desk.specs.Outside.{Told}
use Rattle.tesla_shared.specs.Due.{IsDue}
use Rattle.tesla_shared.specs.Yields.{Record}
use Rattle.tesla_run_receive.specs.Arguments.{ReceiveArguments}
use Rattle.tesla_run_receive.specs.Receive.{LiveKind, config_of, of_receiver}

module _ {V R : Type 0} (kind : LiveKind V R) where
  -- The piece is the record of an answer that is due to the sink of this name, which has this written: under the setup that SETUP spells, with what these words ask for
  pub record IsReleased (read_for : ℕ → List ℕ → ℕ → Bool) (arguments : ReceiveArguments) (told : Told) (name : List ℕ) (written : Option (List ℕ)) (piece : List ℕ) : Type 0 where
    pub setup : Parts
    pub spelled : kind.IsSetup (told.page arguments.setup) setup
    pub releaser : ℕ
    pub named : slice_get arguments.sinks releaser ≡ Some name
    pub reply : R
    pub due : (let cfg = config_of arguments setup in let behaviour = kind.behaviour cfg in IsDue behaviour.yields behaviour.IsLegal cfg.ingests read_for releaser written reply)
    pub piece_is : (kind.behaviour (config_of arguments setup)).yields reply ≡ Record piece

  -- each sink may write what is released to it
  abbrev pub MayWriteReleasedOf : {S : Type 0} → (S → List ℕ) → (S → Option (List ℕ)) → (S → List ℕ → Bool) → (ℕ → List ℕ → ℕ → Bool) → ReceiveArguments → Told → Type 0
  MayWriteReleasedOf {S} name written may_write read_for arguments told = (it : S) (piece : List ℕ) → IsReleased read_for arguments told (name it) (written it) piece → may_write it piece ≡ true

-- each sink of receive may
abbrev pub MayWriteReleased : {S : Type 0} → (S → List ℕ) → (S → Option (List ℕ)) → (S → List ℕ → Bool) → (ℕ → List ℕ → ℕ → Bool) → ReceiveArguments → Told → Type 0
MayWriteReleased name written may_write read_for arguments told = MayWriteReleasedOf of_receiver name written may_write read_for arguments told
