-- What record may write to TAIL, whether or not a run ends. It holds at each write.
use Rattle.std.specs.Prelude.{◌≡◌, ℕ, Bool, true, List, ◌++◌, Option, IfSome}
use Rattle.tesla_commit.specs.Parts.{Parts}
use Rattle.tesla_desk.specs.Outside.{Told}
use Rattle.tesla_fitting.specs.declared.config.Config.{Config}
use Rattle.tesla_front.specs.Setup.{IsSetupIn}
use Rattle.tesla_receiver.specs.History.{IsLegal}
use Rattle.tesla_receiver.specs.Entries.{Entry}
use Rattle.tesla_shared.specs.Due.{IsOfWorker}
use Rattle.tesla_turn.specs.History.{entries}
use Rattle.tesla_turn.specs.Permitted.{ArePermitted}
use Rattle.tesla_turn.specs.declared.view.Call.{Call}
use Rattle.tesla_run_receive.specs.OutputArguments.{OutputArguments}
use Rattle.tesla_run_receive.specs.Receive.{config_of}
use Rattle.tesla_run_receive.specs.record.Record.{tail_of}

-- the piece goes on with a text, behind what the output has written, where it tells that
pub record GoesOn (text : List ℕ) (written : Option (List ℕ)) (piece : List ℕ) : Type 0 where
  pub before : List ℕ
  pub rest : List ℕ
  pub written_is : IfSome written (λ bytes. bytes ≡ before)
  pub text_is : text ≡ before ++ (piece ++ rest)

-- There is a legal history of calls of workers: of each ingest the n-th arrival is the n-th datagram that its link brought, at a reading that a clock gave when it was asked for that one. The piece goes on with the spelling of its last entries, at most so many
pub record IsOfTail (cfg : Config) (read_for : ℕ → List ℕ → ℕ → Bool) (keep : ℕ) (written : Option (List ℕ)) (piece : List ℕ) : Type 0 where
  pub log : List (Call Entry)
  pub legal : IsLegal cfg (entries log)
  pub calls : ArePermitted (IsOfWorker read_for cfg.ingests) log
  pub goes_on : GoesOn (tail_of keep (entries log)) written piece

module _ {S : Type 0} (name : S → List ℕ) (written : S → Option (List ℕ)) (may_write : S → List ℕ → Bool) where
  -- the outputs of this name may write each piece that goes on with the text
  abbrev pub MayGoOn : List ℕ → List ℕ → Type 0
  MayGoOn text under = (it : S) (piece : List ℕ) → name it ≡ under → GoesOn text (written it) piece → may_write it piece ≡ true

  -- the outputs of this name may write each piece of the last entries of such a history
  abbrev pub MayWriteTailOf : (ℕ → List ℕ → ℕ → Bool) → Config → ℕ → List ℕ → Type 0
  MayWriteTailOf read_for cfg keep under = (it : S) (piece : List ℕ) → name it ≡ under → IsOfTail cfg read_for keep (written it) piece → may_write it piece ≡ true

  -- TAIL may be given each of these, under the setup that SETUP spells, with what these words ask for
  abbrev pub MayWriteTail : (ℕ → List ℕ → ℕ → Bool) → OutputArguments → Told → Type 0
  MayWriteTail read_for arguments told =
      (setup : Parts) → IsSetupIn (told.page arguments.receive.setup) setup → MayWriteTailOf read_for (config_of arguments.receive setup) arguments.number arguments.output
