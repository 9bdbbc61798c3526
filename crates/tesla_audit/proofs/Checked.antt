-- A receiver that was played the event of an entry.
use Rattle.std.proofs.Common.{◌≡◌, ℕ, List, [], ◌∷◌, ◌++◌, take, sym, subst}
use Rattle.tesla_receiver.specs.History.{Event, Arrives, Takes, Ends, entry_of, event_of}
use Rattle.tesla_receiver.specs.Stands.{Stands}
use Rattle.tesla_receiver.specs.Entries.{Entry}
use Rattle.tesla_state.specs.Replies.{KeepsBehind}
use Rattle.tesla_state.specs.State.{State}
use Rattle.tesla_state.specs.declared.replies.Take.{Take}
use Rattle.tesla_state.specs.declared.replies.Take.TheVariants.{Given, Empty, Over}
use Rattle.tesla_trace.specs.Entries.{entry_by, entry_in}
use Rattle.tesla_trace.specs.declared.entry.EntryBuffer.{EntryBuffer}
use Rattle.tesla_trace.specs.declared.entry.EntryKind.{EntryKind}
use Rattle.tesla_trace.specs.declared.entry.EntryKind.TheVariants as kinds
use Rattle.tesla_audit.specs.Checks.{IsShort}

-- it stands for the history with the event and its one answer
abbrev StandsAfter : State → State → Event → Type 0
StandsAfter old new event = (h : List Entry) → Stands old h → Stands new (h ++ entry_of old.config h event ∷ [])

pub seen_after : (inside old new : State) (event : Event) → inside ≡ old → StandsAfter inside new event → StandsAfter old new event
seen_after inside old new event is after = subst (λ (s : State). StandsAfter s new event) is after

pub arrival_after : (entry : EntryBuffer) (n : ℕ) (old new : State) → entry.kind ≡ kinds.Arrival → n ≡ entry.length → StandsAfter old new (Arrives entry.who entry.reading (take n entry.bytes)) → StandsAfter old new (event_of (entry_in entry))
arrival_after entry n old new kind is after =
    subst (λ (k : EntryKind). StandsAfter old new (event_of (entry_by k entry))) (sym kind) (subst (λ (m : ℕ). StandsAfter old new (Arrives entry.who entry.reading (take m entry.bytes))) is after)

pub take_after : (entry : EntryBuffer) (old new : State) → entry.kind ≡ kinds.Take → StandsAfter old new (Takes entry.who) → StandsAfter old new (event_of (entry_in entry))
take_after entry old new kind after = subst (λ (k : EntryKind). StandsAfter old new (event_of (entry_by k entry))) (sym kind) after

pub end_after : (entry : EntryBuffer) (inside old new : State) → entry.kind ≡ kinds.End → inside ≡ old → StandsAfter inside new (Ends entry.who) → StandsAfter old new (event_of (entry_in entry))
end_after entry inside old new kind is after = subst (λ (k : EntryKind). StandsAfter old new (event_of (entry_by k entry))) (sym kind) (seen_after inside old new (Ends entry.who) is after)

-- a packet's payload that was given is short
pub keeps_short : (reply : Take) (old new : List ℕ) → KeepsBehind reply old new → IsShort reply
keeps_short (Given head) old new keeps = keeps.0
keeps_short Empty old new keeps = tt
keeps_short Over old new keeps = tt
