-- What is made of a capture by the rule of a target.
use Rattle.std.proofs.Common.{◌≡◌, ◌∙◌, ℕ, ◌+◌, Option, Some, None, List, [], ◌∷◌, ◌++◌, length, refl, sym, ap, append_assoc, append-nil}
use Rattle.std.proofs.lemmas.List.{map-append}
use Rattle.tesla_capture.specs.Capture.{Record, capture, record_text}
use Rattle.tesla_capture.specs.Outline.{outline_of}
use Rattle.tesla_capture.specs.declared.record.RecordKind.{RecordKind}
use Rattle.tesla_receiver.specs.History.{Event}
use Rattle.tesla_replay.specs.Played.{event_in}
use Rattle.tesla_receiver.proofs.EachAfter.{each_after-append}
use Rattle.tesla_state.specs.Releases.{each_after}
use Rattle.tesla_convert.specs.Rule.{Behind, Made, Unread, behind_of, made, made_behind, made_of, made_so_far, with_text}
use Rattle.tesla_run_replay.specs.Playing.{EventRule, end_after, events_in, events_text, record_rule, text_by_rule}

-- one record more is one event more
pub one_event : (records : List Record) (first : Record) → events_in (records ++ first ∷ []) ≡ events_in records ++ event_in first ∷ []
one_event records first = map-append event_in records (first ∷ [])

text_twice : (a b : List ℕ) (m : Made RecordKind) → with_text a (with_text b m) ≡ with_text (a ++ b) m
text_twice a b m = ap (λ (t : List ℕ). let it : Made RecordKind = record { text = t; refused = m.refused } in it) (sym (append_assoc a b m.text))

-- no record is refused, so what is made of records is what their events write, and what stands behind them
made_all : (rule : EventRule) (behind : Behind RecordKind) (offset : ℕ) (before records : List Record)
    → made_of capture RecordKind (record_rule rule) behind offset before records ≡ with_text (each_after rule.adds (events_in before) (events_in records)) (made_behind capture RecordKind (record_rule rule) behind (before ++ records))
made_all rule behind offset before [] = ap (made_behind capture RecordKind (record_rule rule) behind) (sym (append-nil before))
made_all rule behind offset before (first ∷ records) =
    ap (with_text (rule.adds (events_in before) (event_in first))) (made_all rule behind (offset + length (record_text first)) (before ++ first ∷ []) records
    ∙ ap (λ (es : List Event). with_text (each_after rule.adds es (events_in records)) (made_behind capture RecordKind (record_rule rule) behind ((before ++ first ∷ []) ++ records))) (one_event before first)
    ∙ ap (λ (rs : List Record). with_text (each_after rule.adds (events_in before ++ event_in first ∷ []) (events_in records)) (made_behind capture RecordKind (record_rule rule) behind rs)) (append_assoc before (first ∷ []) records))
    ∙ text_twice (rule.adds (events_in before) (event_in first)) (each_after rule.adds (events_in before ++ event_in first ∷ []) (events_in records)) (made_behind capture RecordKind (record_rule rule) behind (before ++ first ∷ records))

behind_fault : (rule : EventRule) (fault : Option (ℕ × RecordKind)) (records : List Record) → (made_behind capture RecordKind (record_rule rule) (behind_of capture RecordKind (record_rule rule) fault) records).refused ≡ fault
behind_fault rule None records = refl
behind_fault rule (Some fault) records = refl

-- the first place that is refused is that of the file
pub refused_is : (rule : EventRule) (bytes : List ℕ) → (made capture RecordKind (record_rule rule) bytes).refused ≡ (outline_of bytes).fault
refused_is rule bytes =
    ap (λ (m : Made RecordKind). m.refused) (made_all rule (behind_of capture RecordKind (record_rule rule) (outline_of bytes).fault) 5 [] (outline_of bytes).records)
    ∙ behind_fault rule (outline_of bytes).fault (outline_of bytes).records

text_behind : (rule : EventRule) (fault : Option (ℕ × RecordKind)) (records : List Record)
    → events_text rule (events_in records) ++ (made_behind capture RecordKind (record_rule rule) (behind_of capture RecordKind (record_rule rule) fault) records).text ≡ text_by_rule rule fault records
text_behind rule None records = sym (each_after-append rule.adds [] (events_in records) (end_after rule (events_in records)))
text_behind rule (Some fault) records = append-nil (events_text rule (events_in records))

-- what is made of a file is the text of its events, behind what is written before them
pub text_is : (rule : EventRule) (bytes : List ℕ) → (made capture RecordKind (record_rule rule) bytes).text ≡ rule.begins ++ text_by_rule rule (outline_of bytes).fault (outline_of bytes).records
text_is rule bytes =
    ap (λ (m : Made RecordKind). rule.begins ++ m.text) (made_all rule (behind_of capture RecordKind (record_rule rule) (outline_of bytes).fault) 5 [] (outline_of bytes).records)
    ∙ ap (λ (t : List ℕ). rule.begins ++ t) (text_behind rule (outline_of bytes).fault (outline_of bytes).records)

-- what is made of records alone is the text of their events
pub unread_text : (rule : EventRule) (records : List Record) → (made_of capture RecordKind (record_rule rule) Unread 5 [] records).text ≡ events_text rule (events_in records)
unread_text rule records = ap (λ (m : Made RecordKind). m.text) (made_all rule Unread 5 [] records) ∙ append-nil (events_text rule (events_in records))

-- what is made of the first bytes of a file is the text of theirs, behind the same
pub so_far_is : (rule : EventRule) (read : List ℕ) → (made_so_far capture RecordKind (record_rule rule) read).text ≡ rule.begins ++ events_text rule (events_in (outline_of read).records)
so_far_is rule read =
    ap (λ (t : List ℕ). rule.begins ++ t) (unread_text rule (outline_of read).records)
