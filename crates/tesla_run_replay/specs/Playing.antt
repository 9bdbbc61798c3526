-- The events that a capture's records play, and what is written of each. They are played one after another.
use Rattle.std.specs.Prelude.{◌≡◌, ◌≤◌, ℕ, suc, Bool, true, false, Option, Some, None, is_none, List, [], ◌∷◌, ◌++◌, length, map, replicate}
use Rattle.tesla_capture.specs.Capture.{Record, capture}
use Rattle.tesla_capture.specs.Outline.{outline_of}
use Rattle.tesla_capture.specs.Taken.{HoldsNoRefusal}
use Rattle.tesla_capture.specs.declared.record.RecordKind.{RecordKind}
use Rattle.tesla_fitting.specs.declared.config.Config.{Config}
use Rattle.tesla_front.specs.OutcomeView.{OutcomeView}
use Rattle.tesla_receiver.specs.History.{Event, Arrives, Takes, Ends, entry_of}
use Rattle.tesla_replay.specs.Played.{event_in}
use Rattle.tesla_receiver.specs.Events.{after_events, waiting_in}
use Rattle.tesla_receiver.specs.Report.{report_of}
use Rattle.tesla_receiver.specs.Entries.{Entry}
use Rattle.tesla_replay.specs.Records.{record_in}
use Rattle.tesla_state.specs.Releases.{each_after}
use Rattle.tesla_convert.specs.Meaning.{Meaning}
use Rattle.tesla_convert.specs.Rule.{Rule}
use Rattle.tesla_run_replay.specs.ReportText.{report_text}
use Rattle.tesla_run_replay.specs.Under.{end_outcome}
use Rattle.tesla_run_replay.specs.declared.target.PlayedEvent.{PlayedEvent}
use Rattle.tesla_run_replay.specs.declared.target.PlayedEvent.TheVariants as played

-- what a target writes before all events and of an event after those before it, and after some events how many packets wait and which lines tell what was played, and at which event memory may be wanting
pub record EventRule : Type 0 where
  pub begins : List ℕ
  pub adds : List Event → Event → List ℕ
  pub waiting : List Event → ℕ
  pub tells : List Event → List ℕ
  pub wants : List Event → Event → Bool

-- nothing is written or told, and no memory is wanting
abbrev pub silent : EventRule
silent = record { begins = []; adds = λ events event. []; waiting = λ events. 0; tells = λ events. []; wants = λ events event. false }

-- the event of ingest 0 or releaser 0
abbrev pub event_of : PlayedEvent → Event
event_of (played.Arrival reading datagram) = Arrives 0 reading datagram.now
event_of played.Take = Takes 0
event_of played.End = Ends 0

-- its datagram has at most as many bytes as a capture carries of one
abbrev pub EventFits : PlayedEvent → Type 0
EventFits (played.Arrival reading datagram) = length datagram.now ≤ 2048
EventFits played.Take = Unit {0}
EventFits played.End = Unit {0}

-- the events of a capture's records
abbrev pub events_in : List Record → List Event
events_in records = map event_in records

-- the end of the ingest, and a take for each packet that waits, and one more
abbrev pub end_after : EventRule → List Event → List Event
end_after rule events = Ends 0 ∷ replicate (suc (rule.waiting events)) (Takes 0)

abbrev pub with_end : EventRule → List Event → List Event
with_end rule events = events ++ end_after rule events

-- what is written of events, from the first on
abbrev pub events_text : EventRule → List Event → List ℕ
events_text rule events = each_after rule.adds [] events

-- the events of a record behind those before it, or of the end
abbrev pub events_next : EventRule → List Record → Option Record → List Event
events_next rule before (Some first) = event_in first ∷ []
events_next rule before None = end_after rule (events_in before)

-- memory was wanting at one of these events behind others, and this is written of them up to and with it
pub record WantsIn (rule : EventRule) (before events : List Event) (piece : List ℕ) : Type 0 where
  pub first : List Event
  pub event : Event
  pub rest : List Event
  pub are : events ≡ first ++ event ∷ rest
  pub wants : rule.wants (before ++ first) event ≡ true
  pub text : piece ≡ each_after rule.adds before (first ++ event ∷ [])

-- the same at the events of the next record, or of the end
abbrev pub WantsNext : EventRule → List Record → Option Record → List ℕ → Type 0
WantsNext rule before next piece = WantsIn rule (events_in before) (events_next rule before next) piece

-- what is written of each record of a capture by such a rule, and of its end: no record is refused
abbrev pub record_rule : EventRule → Rule capture RecordKind
record_rule rule = record {
  begins = rule.begins;
  refuses = λ before first. None;
  adds = λ before first. rule.adds (events_in before) (event_in first);
  ends = λ before. each_after rule.adds (events_in before) (end_after rule (events_in before));
  kind_of = λ kind. kind;
}

-- what playing a capture of these records comes to by such a rule where nothing fails: the lines that tell its events with the end, or the refused place
abbrev pub end_by_rule : EventRule → Option (ℕ × RecordKind) → List Record → OutcomeView
end_by_rule rule fault records = end_outcome fault (rule.tells (with_end rule (events_in records)))

-- what is written of its events, and where no place is refused of the end too
abbrev pub text_by_rule : EventRule → Option (ℕ × RecordKind) → List Record → List ℕ
text_by_rule rule None records = events_text rule (with_end rule (events_in records))
text_by_rule rule (Some fault) records = events_text rule (events_in records)

-- its events, and where no place is refused the end's too
abbrev pub events_by_rule : EventRule → Option (ℕ × RecordKind) → List Record → List Event
events_by_rule rule None records = with_end rule (events_in records)
events_by_rule rule (Some fault) records = events_in records

-- memory was wanting at one of these events, and this was written
abbrev pub WantsAt : EventRule → List Event → List ℕ → Type 0
WantsAt rule events written = (piece : List ℕ) × (written ≡ rule.begins ++ piece) × WantsIn rule [] events piece

-- all of that, behind what is written before all events, as functions of the capture's bytes, told whether memory may be wanting once records were played
abbrev pub meaning_by : Bool → EventRule → Meaning
meaning_by may_want rule = record {
  comes = λ bytes. end_by_rule rule (outline_of bytes).fault (outline_of bytes).records;
  makes = λ bytes. rule.begins ++ text_by_rule rule (outline_of bytes).fault (outline_of bytes).records;
  so_far = λ read. rule.begins ++ events_text rule (events_in (outline_of read).records);
  IsUnrefused = HoldsNoRefusal capture;
  MayWant = may_want ≡ true;
  IsWanting = λ bytes written. WantsAt rule (events_by_rule rule (outline_of bytes).fault (outline_of bytes).records) written;
}

-- what a target writes and tells whose events make a history
pub record HistoryRule (E : Type 0) : Type 0 where
  -- the history after events, and the entry of an event behind a history
  pub after : List Event → List E
  pub entry : List E → Event → E
  -- what is written before all events, and of an entry behind a history
  pub begins : List ℕ
  pub adds : List E → E → List ℕ
  -- how many packets wait, and the lines that tell a history
  pub waiting : List E → ℕ
  pub tells : List E → List ℕ
  -- whether memory may be wanting at an event behind a history
  pub wants : List E → Event → Bool

abbrev pub rule_by : {E : Type 0} → HistoryRule E → EventRule
rule_by by = record {
  begins = by.begins;
  adds = λ events event. by.adds (by.after events) (by.entry (by.after events) event);
  waiting = λ events. by.waiting (by.after events);
  tells = λ events. by.tells (by.after events);
  wants = λ events event. by.wants (by.after events) event;
}

-- a receiver of that configuration
abbrev pub receiver_by : Config → List ℕ → (List Entry → Entry → List ℕ) → (List Entry → List ℕ) → HistoryRule Entry
receiver_by cfg begins adds tells =
    record { after = after_events cfg []; entry = entry_of cfg; begins = begins; adds = adds; waiting = waiting_in cfg; tells = tells; wants = λ history event. false }

-- the lines of the report of a history
abbrev pub history_report : List Entry → List ℕ
history_report history = report_text (report_of history)

-- what a receiver of that configuration writes, the records of what its takes give, and tells, its report
abbrev pub rule_of : Config → EventRule
rule_of cfg = rule_by (receiver_by cfg [] (λ history entry. record_in 0 entry) history_report)

-- what a capture comes to, told which history its records play, with its end or without, and what is told and written of that; no memory is wanting once records were played
abbrev pub meaning_of : {H : Type 0} → (List Record → Bool → H) → (H → List ℕ) → (H → List ℕ) → Meaning
meaning_of plays tells text = record {
  comes = λ bytes. end_outcome (outline_of bytes).fault (tells (plays (outline_of bytes).records (is_none (outline_of bytes).fault)));
  makes = λ bytes. text (plays (outline_of bytes).records (is_none (outline_of bytes).fault));
  so_far = λ read. text (plays (outline_of read).records false);
  IsUnrefused = HoldsNoRefusal capture;
  MayWant = ⊥;
  IsWanting = λ bytes written. ⊥;
}
