-- The records of a frame, put behind what is held.
use Rattle.std.proofs.Common.{◌≡◌, ◌∙◌, ℕ, Option, Result, Ok, Err, List, [], ◌∷◌, ◌++◌, length, take, drop, sym, ap, subst, append_assoc}
use Rattle.std.proofs.Math.Seq.{take-append_seam}
use Rattle.tesla_capture.specs.Gathering.{Gathers}
use Rattle.tesla_capture.specs.Script.{Record}
use Rattle.tesla_convert.specs.declared.converter.Converted.{Converted}
use Rattle.tesla_convert.specs.declared.converter.Converted.TheVariants.{Whole, Refused, WriteFault, NoMemory}
use Rattle.tesla_desk.specs.Outside.{AppendsPrefix}
use Rattle.tesla_desk.proofs.Told.{with_more, prefix_after, prefix_longer}
use Rattle.tesla_frame.specs.Frame.{Frame, frame_text}
use Rattle.tesla_sender.specs.Made.{Call}
use Rattle.tesla_sender.specs.Stands.{Answers, IsWritten, Stands, State}
use Rattle.tesla_run_send.specs.Rule.{frame_records}
use Rattle.tesla_run_send.specs.Script.{Answer, Makes, call_of, reading_of}
use Rattle.tesla_run_send.specs.Steps.{CarriesOut, PutsFrame}
use Rattle.tesla_run_send.specs.declared.script_kind.ScriptKind.{ScriptKind}

-- one piece was put behind what is held, and then another
pub gathers_both : (before mid now : Option (List ℕ)) (held more rest a b : List ℕ) → Gathers before mid more (held ++ a) → Gathers mid now rest (more ++ b) → Gathers before now rest (held ++ (a ++ b))
gathers_both before mid now held more rest a b first second = record {
  done = first.done ++ second.done;
  written = with_more before mid now first.done second.done first.written second.written;
  both = sym (append_assoc held a b) ∙ ap (λ t. t ++ b) first.both ∙ append_assoc first.done more b ∙ ap (λ t. first.done ++ t) second.both ∙ sym (append_assoc first.done second.done rest);
}

-- where the second wasn't put, a prefix of what is held and of both was written
pub prefix_second : (before mid now : Option (List ℕ)) (held more a b : List ℕ) → Gathers before mid more (held ++ a) → AppendsPrefix mid now more → AppendsPrefix before now (held ++ (a ++ b))
prefix_second before mid now held more a b first prefix =
    subst (λ (t : List ℕ). AppendsPrefix before now t) (append_assoc held a b)
    (prefix_longer before now (held ++ a) b (subst (λ (t : List ℕ). AppendsPrefix before now t) (sym first.both) (prefix_after before mid now first.done more first.written prefix)))

-- the bytes of a frame that was written at the front of the room
text_is : (frame : Frame) (size : ℕ) (before now : List ℕ) → IsWritten frame size before now → take size now ≡ frame_text frame
text_is frame size before now written =
    ap (λ n. take n now) written.length ∙ ap (take (length (frame_text frame))) written.text ∙ take-append_seam (frame_text frame) (drop (length (frame_text frame)) before)

-- the frame that was made was put
pub carries_made : {E : Type 0} (answer : Result Frame E → Answer) → ((frame : Frame) → answer (Ok frame) ≡ Makes frame)
    → (made : Result Frame E) (outcome : Converted ScriptKind) (first : Record) (log : List Call) (sender after : State) (size : ℕ) (room full : List ℕ) (count counted : ℕ) (before now : Option (List ℕ)) (held rest : List ℕ)
    → Answers {E = E} (Ok size) made room full → Stands sender (log ++ call_of first ∷ []) → after ≡ sender
    → PutsFrame outcome (frame_records (reading_of first) (take size full)) count counted before now held rest
    → CarriesOut outcome (answer made) first log after count counted before now held rest
carries_made answer good (Ok frame) Whole first log sender after size room full count counted before now held rest written stands same puts =
    subst (λ (a : Answer). CarriesOut Whole a first log after count counted before now held rest) (sym (good frame)) (
      subst (λ (s : State). Stands s (log ++ call_of first ∷ [])) (sym same) stands,
      subst (λ (bytes : List ℕ). PutsFrame Whole (frame_records (reading_of first) bytes) count counted before now held rest) (text_is frame size room full written) puts,
    )
carries_made answer good (Ok frame) (Refused kind) first log sender after size room full count counted before now held rest written stands same puts = absurd puts
carries_made answer good (Ok frame) WriteFault first log sender after size room full count counted before now held rest written stands same puts =
    subst (λ (a : Answer). CarriesOut WriteFault a first log after count counted before now held rest) (sym (good frame))
    (subst (λ (bytes : List ℕ). PutsFrame WriteFault (frame_records (reading_of first) bytes) count counted before now held rest) (text_is frame size room full written) puts)
carries_made answer good (Ok frame) NoMemory first log sender after size room full count counted before now held rest written stands same puts = absurd puts
carries_made answer good (Err refusal) outcome first log sender after size room full count counted before now held rest written stands same puts = absurd written
