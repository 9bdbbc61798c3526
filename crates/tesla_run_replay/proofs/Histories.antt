-- What a capture comes to by the rule of a target whose events make a history is what it comes to by the history that it plays.
use Rattle.std.proofs.Common.{◌≡◌, ◌∙◌, ℕ, suc, Bool, true, false, Option, Some, None, is_none, List, [], ◌∷◌, ◌++◌, replicate, refl, sym, ap, append_assoc, append-nil}
use Rattle.tesla_capture.specs.Capture.{Record}
use Rattle.tesla_capture.specs.Outline.{outline_of}
use Rattle.tesla_capture.specs.declared.record.RecordKind.{RecordKind}
use Rattle.tesla_fitting.specs.declared.config.Config.{Config}
use Rattle.tesla_front.specs.OutcomeView.{Done}
use Rattle.tesla_receiver.specs.Entries.{Entry}
use Rattle.tesla_receiver.specs.History.{Event, Takes, Ends, entry_of}
use Rattle.tesla_receiver.specs.Events.{after_events, waiting_in}
use Rattle.tesla_receiver.proofs.Events.{after_one}
use Rattle.tesla_replay.specs.Played.{played}
use Rattle.tesla_state.specs.Releases.{each_after}
use Rattle.tesla_convert.specs.Meaning.{SaysSame}
use Rattle.tesla_run_replay.specs.Playing.{HistoryRule, WantsAt, end_by_rule, events_by_rule, events_in, events_text, meaning_by, meaning_of, receiver_by, rule_by, text_by_rule, with_end}
use Rattle.tesla_run_replay.specs.Under.{end_outcome}

-- told what the events make, a text of histories that grows by what is written with each entry, and the histories that records play
module _ {E : Type 0} (by : HistoryRule E) (one : (events : List Event) (event : Event) → by.after (events ++ event ∷ []) ≡ by.after events ++ by.entry (by.after events) event ∷ [])
    (text : List E → List ℕ) (none : text (by.after []) ≡ []) (grows : (h : List E) (e : E) → text (h ++ e ∷ []) ≡ text h ++ by.adds h e) where
  -- it grows by what is written of more events
  text_after : (before events : List Event) → text (by.after (before ++ events)) ≡ text (by.after before) ++ each_after (rule_by by).adds before events
  text_after before [] = ap (λ (es : List Event). text (by.after es)) (append-nil before) ∙ sym (append-nil (text (by.after before)))
  text_after before (event ∷ events) =
      let h : List E = by.after before in
      let piece : List ℕ = by.adds h (by.entry h event) in
      ap (λ (es : List Event). text (by.after es)) (sym (append_assoc before (event ∷ []) events))
      ∙ text_after (before ++ event ∷ []) events
      ∙ ap (λ (r : List ℕ). r ++ each_after (rule_by by).adds (before ++ event ∷ []) events) (ap text (one before event) ∙ grows h (by.entry h event))
      ∙ append_assoc (text h) piece (each_after (rule_by by).adds (before ++ event ∷ []) events)

  -- what is written of events is the text of their history
  pub text_is : (events : List Event) → events_text (rule_by by) events ≡ text (by.after events)
  text_is events = ap (λ (t : List ℕ). t ++ events_text (rule_by by) events) (sym none) ∙ sym (text_after [] events)

  module _ (plays : List Record → Bool → List E) (prefix : (records : List Record) → by.after (events_in records) ≡ plays records false) (whole : (records : List Record) → by.after (with_end (rule_by by) (events_in records)) ≡ plays records true) where
    end_same : (fault : Option (ℕ × RecordKind)) (records : List Record) → end_by_rule (rule_by by) fault records ≡ end_outcome fault (by.tells (plays records (is_none fault)))
    end_same None records = ap (λ (h : List E). Done (by.tells h)) (whole records)
    end_same (Some fault) records = refl

    text_same : (fault : Option (ℕ × RecordKind)) (records : List Record) → text_by_rule (rule_by by) fault records ≡ text (plays records (is_none fault))
    text_same None records = text_is (with_end (rule_by by) (events_in records)) ∙ ap text (whole records)
    text_same (Some fault) records = text_is (events_in records) ∙ ap text (prefix records)

    -- the events with the end, where no place is refused, make the history that is played
    pub history_same : (fault : Option (ℕ × RecordKind)) (records : List Record) → by.after (events_by_rule (rule_by by) fault records) ≡ plays records (is_none fault)
    history_same None records = whole records
    history_same (Some fault) records = prefix records

    -- what is said by the rule is said by the histories, where the second meaning says what memory that is wanting leaves
    pub says_histories : (may_want : Bool) (May : Type 0) (Wanting : List ℕ → List ℕ → Type 0) → (may_want ≡ true → May)
        → ((bytes written : List ℕ) → WantsAt (rule_by by) (events_by_rule (rule_by by) (outline_of bytes).fault (outline_of bytes).records) written → Wanting bytes written)
        → SaysSame (meaning_by may_want (rule_by by)) (record (meaning_of plays by.tells (λ h. by.begins ++ text h)) { MayWant = May; IsWanting = Wanting })
    says_histories may_want May Wanting may wanting = record {
      comes = λ bytes. end_same (outline_of bytes).fault (outline_of bytes).records;
      makes = λ bytes. ap (λ (t : List ℕ). by.begins ++ t) (text_same (outline_of bytes).fault (outline_of bytes).records);
      so_far = λ read. ap (λ (t : List ℕ). by.begins ++ t) (text_is (events_in (outline_of read).records) ∙ ap text (prefix (outline_of read).records));
      unrefused = λ read none. none;
      may = may;
      wanting = wanting;
    }

-- ---- a receiver

-- events, one list after another
after_both : (cfg : Config) (h : List Entry) (first second : List Event) → after_events cfg h (first ++ second) ≡ after_events cfg (after_events cfg h first) second
after_both cfg h [] second = refl
after_both cfg h (event ∷ first) second = after_both cfg (h ++ entry_of cfg h event ∷ []) first second

-- what is said by the rule of a receiver is said by the histories that records play to it
pub says_received : (cfg : Config) (begins : List ℕ) (adds : List Entry → Entry → List ℕ) (tells text : List Entry → List ℕ) → text [] ≡ [] → ((h : List Entry) (e : Entry) → text (h ++ e ∷ []) ≡ text h ++ adds h e)
    → SaysSame (meaning_by false (rule_by (receiver_by cfg begins adds tells))) (meaning_of (played cfg) tells (λ h. begins ++ text h))
says_received cfg begins adds tells text none grows =
    says_histories (receiver_by cfg begins adds tells) (after_one cfg []) text none grows (played cfg) (λ records. refl)
    (λ records. after_both cfg [] (events_in records) (Ends 0 ∷ replicate (suc (waiting_in cfg (after_events cfg [] (events_in records)))) (Takes 0))) false ⊥ (λ bytes written. ⊥) (λ e. absurd cc) (λ bytes written wants. absurd (let never = wants.2.wants in cc))
