-- What send comes to, and what CAPTURE holds.
use Rattle.std.specs.Prelude.{◌≡◌, ◌⊎◌, ℕ, Option, Some, None, List, [], ◌∷◌, length, codes}
use Rattle.tesla_capture.specs.Records.{outline_of}
use Rattle.tesla_capture.specs.Script.{script}
use Rattle.tesla_capture.specs.Taken.{HoldsNoRefusal}
use Rattle.tesla_convert.specs.Meaning.{Converts, IsUnread, Meaning}
use Rattle.tesla_front.specs.OutcomeView.{OutcomeView, Done, Refused, Failed}
use Rattle.tesla_front.specs.Command.{Command}
use Rattle.tesla_front.specs.Lines.{count_line}
use Rattle.tesla_front.specs.Openings.{File}
use Rattle.tesla_front.specs.Refusal.{refused_line}
use Rattle.tesla_front.specs.declared.fault.Fault.TheVariants as faults
use Rattle.tesla_sender.specs.Made.{Stream}
use Rattle.tesla_run_send.specs.Arguments.{SendArguments, IsSend, files_of_send}
use Rattle.tesla_run_send.specs.Script.{Sending, Sent, sending, sending_of, sent_text}
use Rattle.tesla_run_send.specs.Sender.{IsStreamIn, LacksSender}
use Rattle.tesla_run_send.specs.ScriptKind.{script_kind_name}
use Rattle.tesla_run_send.specs.declared.script_kind.ScriptKind.{ScriptKind}

-- ---- the script

-- the line that tells how many frames there are
abbrev pub frames_line : ℕ → List ℕ
frames_line count = count_line (codes "frames") count

-- the line that tells the place of a script that is refused, and the kind
abbrev pub script_line : ℕ → ScriptKind → List ℕ
script_line offset kind = refused_line (codes "script") offset (script_kind_name kind)

-- what sending comes to where nothing fails: the number of the frames, or the refused place
abbrev pub comes_by : Option (ℕ × ScriptKind) → List Sent → OutcomeView
comes_by None sent = Done (frames_line (length sent))
comes_by (Some refused) sent = Refused 3 (script_line refused.0 refused.1)

-- the first bytes of a script, as far as their whole records go
abbrev pub sending_so_far : Stream → List ℕ → Sending
sending_so_far stream read = sending_of stream None (outline_of script read).records 5 []

-- what the sender of a stream makes of a script: the capture of the frames, which where a place is refused are those of the records before it
abbrev pub meaning : Stream → Meaning
meaning stream = record {
  comes = λ bytes. comes_by (sending stream bytes).refused (sending stream bytes).sent;
  makes = λ bytes. sent_text (sending stream bytes).sent;
  so_far = λ read. sent_text (sending_so_far stream read).sent;
  IsUnrefused = λ read. HoldsNoRefusal script read × ((sending_so_far stream read).refused ≡ None);
  MayWant = ⊥;
  IsWanting = λ bytes written. ⊥;
}

-- what sending a script comes to, with what is told of both files before and afterwards, and how many files were asked for, of which the setup and the seeds are the first two
pub record SendsScript (stream : Stream) (script out script_after out_after : File) (opened : ℕ) (outcome : OutcomeView) : Type 0 where
  pub converts : Converts (meaning stream) script.page script_after.left out.page out_after.page outcome
  -- memory is wanting only before the output is opened
  pub memory : outcome ≡ Failed faults.NoMemory → out_after.page ≡ out.page
  -- and before the first byte of the script is read
  pub unread : outcome ≡ Failed faults.NoMemory → IsUnread 2 opened script.page script_after.left

-- ---- the command

-- the script was sent by the sender of a setup and seeds
pub record SendsWith (setup secret script out script_after out_after : File) (opened : ℕ) (outcome : OutcomeView) : Type 0 where
  pub stream : Stream
  pub is : IsStreamIn setup secret stream
  pub sends : SendsScript stream script out script_after out_after opened outcome

-- a run of the command, of which so many files were asked to be opened, with what is told of SETUP, SECRET, SCRIPT and CAPTURE before and after it, and what it came to
abbrev pub DoesSend : SendArguments → ℕ → List File → List File → OutcomeView → Type 0
DoesSend arguments opened (setup ∷ secret ∷ script ∷ out ∷ []) (setup_after ∷ secret_after ∷ script_after ∷ out_after ∷ []) outcome =
    LacksSender setup secret opened outcome ⊎ SendsWith setup secret script out script_after out_after opened outcome
DoesSend arguments opened before after outcome = ⊥

-- the command
abbrev pub send : Command
send = record { Arguments = SendArguments; IsForm = IsSend; files = files_of_send; Does = DoesSend }
