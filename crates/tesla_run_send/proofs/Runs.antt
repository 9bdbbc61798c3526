-- A run of send, from its steps.
use Rattle.std.proofs.Common.{◌≡◌, inl, inr, ℕ, suc, ◌<◌, Option, List, [], ◌∷◌, ◌∙◌, subst}
use Rattle.tesla_convert.specs.Files.{ClosesBoth, ConvertsFiles, OpensBoth, OpensNotBoth}
use Rattle.tesla_convert.specs.Meaning.{Converts, ConvertsBetween, IsUnread}
use Rattle.tesla_convert.proofs.Closed.{converts_closed, converts_unopened}
use Rattle.tesla_convert.proofs.Unread.{unread_behind, unread_never}
use Rattle.tesla_desk.specs.Faults.{HasCause, HasCauseBeside}
use Rattle.tesla_desk.specs.Outside.{Page, Told, OfSource, OfSink}
use Rattle.tesla_desk.proofs.Counts.{causes_plain, causes_then}
use Rattle.tesla_front.specs.OutcomeView.{OutcomeView, Failed}
use Rattle.tesla_front.specs.Command.{Performs}
use Rattle.tesla_front.specs.Openings.{AreFiles}
use Rattle.tesla_front.specs.declared.fault.Fault.{Fault}
use Rattle.tesla_front.specs.declared.fault.Fault.TheVariants as faults
use Rattle.tesla_sender.specs.Made.{Stream}
use Rattle.tesla_run_send.specs.Arguments.{IsSend, SendArguments, files_of_send}
use Rattle.tesla_run_send.specs.Send.{meaning, send}
use Rattle.tesla_run_send.specs.Sender.{OpensNoSender, OpensSender}
use Rattle.tesla_run_send.specs.Steps.{SendsFiles}
use Rattle.tesla_run_send.proofs.Sender.{opens_behind, opens_no_more}

-- none of the files is the console
pub are_files : (arguments : SendArguments) (words : List (List ℕ)) → IsSend arguments words → AreFiles (files_of_send arguments)
are_files arguments words is = (is.spelled.rest.first.0.file, (is.spelled.rest.rest.first.0.file, (is.spelled.rest.rest.rest.first.0.file, (is.spelled.rest.rest.rest.rest.first.0.file, tt))))

-- ---- the script

files_sent : (stream : Stream) (script out : List ℕ) (old new : Told) (outcome : OutcomeView) → ConvertsFiles (meaning stream) script out old new outcome → (outcome ≡ Failed faults.NoMemory → new.page out ≡ old.page out) → SendsFiles stream script out old new outcome
files_sent stream script out old new outcome converts memory = record {
  opened = converts.opened;
  opens = converts.opens;
  sends = record {
    converts = converts.converts;
    memory = memory;
    unread = λ e. unread_behind 1 (suc converts.opened) (old.page script) (new.left script)
        (unread_behind 0 converts.opened (old.page script) (new.left script) (unread_never 0 converts.opened (old.page script) (new.left script) (converts.unread e)));
  };
  counts = converts.counts;
}

-- both files were opened, the script was sent, and both were closed
pub sent_closed : (stream : Stream) (script out input output : List ℕ) (before empty left written : Option (List ℕ)) (taken given : ℕ) (outcome : OutcomeView) (old mid new : Told) → input ≡ script → output ≡ out → OpensBoth script out before empty old mid → ConvertsBetween (meaning stream) before left written given outcome → (outcome ≡ Failed faults.NoMemory → ⊥)
    → HasCause 0 taken (outcome ≡ Failed faults.Read) → HasCauseBeside ((outcome ≡ Failed faults.Read) × (0 < given)) 0 given (outcome ≡ Failed faults.Write) → ClosesBoth input output left written taken given mid new → SendsFiles stream script out old new outcome
sent_closed stream script out input output before empty left written taken given outcome old mid new same own opens between memory reads writes closes =
    files_sent stream script out old new outcome
    (converts_closed (meaning stream) script out before empty left written taken given outcome old mid new opens between reads writes
    (subst (λ (n : List ℕ). ClosesBoth n out left written taken given mid new) same (subst (λ (n : List ℕ). ClosesBoth input n left written taken given mid new) own closes)))
    (λ e. absurd (memory e))

-- one of both wasn't opened
pub sent_unopened : (stream : Stream) (script out : List ℕ) (fault : Fault) (old new : Told) → OpensNotBoth script out old new fault → SendsFiles stream script out old new (Failed fault)
sent_unopened stream script out fault old new refused = files_sent stream script out old new (Failed fault) (converts_unopened (meaning stream) script out fault old new refused) (λ e. refused.pages out)

-- ---- the command

-- there was no sender
pub performs_unsent : (arguments : SendArguments) (before now : Told) (outcome : OutcomeView) → AreFiles (files_of_send arguments) → OpensNoSender arguments.setup arguments.secret outcome before now → Performs send arguments before now outcome
performs_unsent arguments before now outcome named none = record {
  named = named;
  opened = none.opened;
  opens = opens_no_more (OfSource arguments.setup) (OfSource arguments.secret) (OfSource arguments.script ∷ OfSink arguments.out ∷ []) none.opened before now none.few none.opens;
  does = inl none.why;
  counts = causes_plain before.faults now.faults none.causes;
}

-- the sender was opened, and the script sent
pub performs_sent : (arguments : SendArguments) (stream : Stream) (before mid now : Told) (outcome : OutcomeView) → AreFiles (files_of_send arguments) → OpensSender arguments.setup arguments.secret stream before mid → SendsFiles stream arguments.script arguments.out mid now outcome → Performs send arguments before now outcome
performs_sent arguments stream before mid now outcome named opens sends =
    let script = arguments.script in
    let out = arguments.out in
    record {
      named = named;
      opened = suc (suc sends.opened);
      opens = opens_behind arguments.setup arguments.secret (OfSource script ∷ OfSink out ∷ []) sends.opened before mid now opens.opens opens.pages sends.opens;
      does = inr (record {
        stream = stream;
        is = opens.is;
        sends = record {
          converts = subst (λ (p : Page). Converts (meaning stream) p (now.left script) (before.page out) (now.page out) outcome) (opens.pages script)
              (subst (λ (p : Page). Converts (meaning stream) (mid.page script) (now.left script) p (now.page out) outcome) (opens.pages out) sends.sends.converts);
          memory = λ e. sends.sends.memory e ∙ opens.pages out;
          unread = λ e. subst (λ (p : Page). IsUnread 2 (suc (suc sends.opened)) p (now.left script)) (opens.pages script) (sends.sends.unread e);
        };
      });
      counts = causes_then before.faults mid.faults now.faults opens.counts sends.counts;
    }
