-- What sending a script comes to, from what the records of it were made into.
use Rattle.std.proofs.Common.{◌≡◌, ◌∙◌, ◌⊎◌, inl, inr, ℕ, ◌<◌, Option, Some, None, Result, Ok, Err, List, [], length, refl, sym, ap, subst, append-nil}
use Rattle.tesla_capture.specs.Records.{outline_of}
use Rattle.tesla_capture.specs.Script.{Record, script}
use Rattle.tesla_convert.specs.Held.{HoldsText, HoldsPrefix}
use Rattle.tesla_convert.specs.Meaning.{ConvertsBetween, StopsBetween}
use Rattle.tesla_convert.specs.Rule.{Made}
use Rattle.tesla_convert.specs.Steps.{Converts, IsMade, IsWrittenSoFar}
use Rattle.tesla_convert.specs.declared.conversion.Ending.{Ending}
use Rattle.tesla_convert.specs.declared.conversion.Ending.TheVariants.{End, Refused}
use Rattle.tesla_convert.specs.declared.conversion.Stopped.{Stopped}
use Rattle.tesla_convert.specs.declared.conversion.Stopped.TheVariants as stopped
use Rattle.tesla_desk.specs.Faults.{HasCauseBeside}
use Rattle.tesla_front.specs.OutcomeView as outcome_views
use Rattle.tesla_front.specs.OutcomeView.{OutcomeView, Done, Failed}
use Rattle.tesla_front.specs.Files.{IsPrefix}
use Rattle.tesla_front.specs.declared.fault.Fault.TheVariants as faults
use Rattle.tesla_front.proofs.Reported.{rose_some}
use Rattle.tesla_sender.specs.Made.{Stream}
use Rattle.tesla_run_send.specs.Rule.{frames_of, rule_of}
use Rattle.tesla_run_send.specs.Script.{Sent, end_of_file, sending, sent_text}
use Rattle.tesla_run_send.specs.Send.{comes_by, frames_line, meaning, script_line, sending_so_far}
use Rattle.tesla_run_send.specs.Steps.{outcome_with}
use Rattle.tesla_run_send.specs.declared.script_kind.ScriptKind.{ScriptKind}
use Rattle.tesla_run_send.proofs.Scripts.{frames_counted, made_is, so_far_is}

-- all of a text was written
whole_text : (written : Option (List ℕ)) (text done : List ℕ) → HoldsText written [] text → written ≡ Some done → done ≡ text
whole_text written text done holds told = sym (append-nil done) ∙ holds done told

-- a prefix of it was
prefix_text : (written : Option (List ℕ)) (text done : List ℕ) → HoldsPrefix written [] text → written ≡ Some done → IsPrefix text done
prefix_text written text done prefix told = subst (λ (b : List ℕ). IsPrefix text b) (append-nil done) (prefix done told)

comes_done : (refused : Option (ℕ × ScriptKind)) (sent : List Sent) (count : ℕ) → refused ≡ None → count ≡ length sent → Done (frames_line count) ≡ comes_by refused sent
comes_done None sent count none same = ap (λ (n : ℕ). Done (frames_line n)) same
comes_done (Some refused) sent count none same = absurd cc

comes_refused : (refused : Option (ℕ × ScriptKind)) (sent : List Sent) (offset : ℕ) (kind : ScriptKind) → refused ≡ Some (offset, kind) → outcome_views.Refused 3 (script_line offset kind) ≡ comes_by refused sent
comes_refused None sent offset kind some = absurd cc
comes_refused (Some refused) sent offset kind some =
    let at : refused.0 ≡ offset = cc in
    let why : refused.1 ≡ kind = cc in
    ap (λ (p : ℕ). outcome_views.Refused 3 (script_line p kind)) (sym at) ∙ ap (λ (k : ScriptKind). outcome_views.Refused 3 (script_line refused.0 k)) (sym why)

-- the refused place that was made of a script is the sender's
refused_sent : (stream : Stream) (bytes : List ℕ) (refused : Option (ℕ × ScriptKind)) (written : Option (List ℕ)) → IsMade script ScriptKind (rule_of stream) refused bytes written [] → (sending stream bytes).refused ≡ refused
refused_sent stream bytes refused written is = sym (ap (λ (m : Made ScriptKind). m.refused) (made_is stream bytes)) ∙ is.refused_is

-- what was written is the capture of the frames
text_sent : (stream : Stream) (bytes done : List ℕ) (refused : Option (ℕ × ScriptKind)) (written : Option (List ℕ)) → IsMade script ScriptKind (rule_of stream) refused bytes written [] → written ≡ Some done → done ≡ sent_text (sending stream bytes).sent
text_sent stream bytes done refused written is told = whole_text written _ done is.holds told ∙ ap (λ (m : Made ScriptKind). m.text) (made_is stream bytes)

so_far_text : (stream : Stream) (read done : List ℕ) (written : Option (List ℕ)) (failed : ℕ) → written ≡ Some done → HoldsText written [] (sent_text (sending_so_far stream read).sent) ⊎ ((0 < failed) × HoldsPrefix written [] (sent_text (sending_so_far stream read).sent))
    → (done ≡ sent_text (sending_so_far stream read).sent) ⊎ ((0 < failed) × IsPrefix (sent_text (sending_so_far stream read).sent) done)
so_far_text stream read done written failed told (inl whole) = inl (whole_text written _ done whole told)
so_far_text stream read done written failed told (inr (some, prefix)) = inr (some, prefix_text written _ done prefix told)

-- a read failed
stops_sending : (stream : Stream) (before left written : Option (List ℕ)) (failed : ℕ) → ((bytes : List ℕ) → before ≡ Some bytes → IsWrittenSoFar script ScriptKind (rule_of stream) bytes left written failed) → StopsBetween (meaning stream) before left written failed
stops_sending stream before left written failed converts = λ bytes told.
    let it = converts bytes told in
    let text : Made ScriptKind → Type 0 = λ m. HoldsText written [] m.text ⊎ ((0 < failed) × HoldsPrefix written [] m.text) in (
      it.read,
      it.rest,
      it.left_is,
      it.parts,
      (it.none, sym (ap (λ (m : Made ScriptKind). m.refused) (so_far_is stream it.read)) ∙ it.taken),
      λ done written_done. so_far_text stream it.read done written failed written_done (subst text (so_far_is stream it.read) it.written_is),
    )

between_by : (ended : Result (Ending ScriptKind) Stopped) (stream : Stream) (before left written : Option (List ℕ)) (count failed : ℕ)
    → ((bytes : List ℕ) → before ≡ Some bytes → Converts script ScriptKind (rule_of stream) (λ (records : List Record). count ≡ frames_of stream records) ended bytes left written failed)
    → (ended ≡ Err stopped.Write → 0 < failed) → (ended ≡ Err stopped.Memory → ⊥) → ConvertsBetween (meaning stream) before left written failed (outcome_with ended count)
between_by (Ok End) stream before left written count failed converts lost enough = record {
  end = λ bytes told.
      let none : (sending stream bytes).refused ≡ None = refused_sent stream bytes None written (converts bytes told).1 in
      let counted : count ≡ length (sending stream bytes).sent =
      (converts bytes told).0 ∙ frames_counted stream (end_of_file (outline_of script bytes).fault) 5 [] (outline_of script bytes).records none in
      comes_done (sending stream bytes).refused (sending stream bytes).sent count none counted;
  text = λ bytes done told written_done. text_sent stream bytes done None written (converts bytes told).1 written_done;
}
between_by (Ok (Refused offset kind)) stream before left written count failed converts lost enough = record {
  end = λ bytes told. comes_refused (sending stream bytes).refused (sending stream bytes).sent offset kind (refused_sent stream bytes (Some (offset, kind)) written (converts bytes told));
  text = λ bytes done told written_done. text_sent stream bytes done (Some (offset, kind)) written (converts bytes told) written_done;
}
between_by (Err stopped.Read) stream before left written count failed converts lost enough = stops_sending stream before left written failed converts
between_by (Err stopped.Write) stream before left written count failed converts lost enough = (
  lost refl,
  λ bytes done told written_done. subst (λ (m : Made ScriptKind). IsPrefix m.text done) (made_is stream bytes) (prefix_text written _ done (converts bytes told) written_done),
)
between_by (Err stopped.Memory) stream before left written count failed converts lost enough = absurd (enough refl)

-- it comes to want of memory only where the conversion does
pub never_wants : (ended : Result (Ending ScriptKind) Stopped) (count : ℕ) (outcome : OutcomeView) → outcome ≡ outcome_with ended count → (ended ≡ Err stopped.Memory → ⊥) → outcome ≡ Failed faults.NoMemory → ⊥
never_wants (Ok End) count outcome is enough e = absurd cc
never_wants (Ok (Refused offset kind)) count outcome is enough e = absurd cc
never_wants (Err stopped.Read) count outcome is enough e = absurd cc
never_wants (Err stopped.Write) count outcome is enough e = absurd cc
never_wants (Err stopped.Memory) count outcome is enough e = enough refl

-- a script was sent between a source and a sink
pub sent_between : {hidden : Type 0} (ended : Result (Ending ScriptKind) Stopped) (stream other : Stream) (before left written : Option (List ℕ)) (count counted failed : ℕ) (outcome : OutcomeView) → other ≡ stream → outcome ≡ outcome_with ended count → count ≡ counted
    → ((bytes : List ℕ) → before ≡ Some bytes → Converts script ScriptKind (rule_of stream) (λ (records : List Record). counted ≡ frames_of stream records) ended bytes left written failed)
    → HasCauseBeside hidden 0 failed (ended ≡ Err stopped.Write) → (ended ≡ Err stopped.Memory → ⊥) → ConvertsBetween (meaning other) before left written failed outcome
sent_between ended stream other before left written count counted failed outcome one is same converts cause enough =
    subst (λ (s : Stream). ConvertsBetween (meaning s) before left written failed outcome) (sym one)
    (subst (λ (c : OutcomeView). ConvertsBetween (meaning stream) before left written failed c) (sym (is ∙ ap (outcome_with ended) same))
    (between_by ended stream before left written counted failed converts (λ e. rose_some 0 failed refl (cause.rose e)) enough))
