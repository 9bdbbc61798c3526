-- What an event adds to the frames of a feed over a list.
use Rattle.std.proofs.Common.{◌≡◌, ◌∙◌, ℕ, Bool, true, false, List, [], ◌++◌, Option, Some, None, refl, sym, ap, append_assoc, append-nil}
use Rattle.std.specs.Prelude.{if◌then◌else◌}
use Rattle.tesla_desk.specs.declared.link.Letter.TheVariants as letters
use Rattle.tesla_feed.specs.Fed.{Event, Received, Rested, is_unread, reading_of}
use Rattle.tesla_feeds.specs.Events.{frames_handed, frames_item, frames_read, frames_said, frames_told}
use Rattle.tesla_feeds.specs.Fed.{Fed, after_event, after_handover, after_item, after_message, after_missed, after_read}

message_frames : (reading : ℕ) (payload : Option (List ℕ)) (fed : Fed) → (after_message reading payload fed).frames ≡ fed.frames ++ frames_said reading payload fed
message_frames reading None fed = sym (append-nil fed.frames)
message_frames reading (Some payload) fed = refl

missed_frames : (payload : Option (List ℕ)) (fed : Fed) → (after_missed payload fed).frames ≡ fed.frames ++ []
missed_frames None fed = sym (append-nil fed.frames)
missed_frames (Some payload) fed = sym (append-nil fed.frames)

read_frames : (reading : ℕ) (payload : Option (List ℕ)) (fed : Fed) → (after_read reading payload fed).frames ≡ fed.frames ++ frames_read reading payload fed
read_frames reading payload fed =
    let handed = after_handover reading fed in
    let said = frames_said reading payload handed in
    let told = frames_told reading (after_message reading payload handed) in
    ap (λ (ds : List (List ℕ)). ds ++ told) (message_frames reading payload handed)
    ∙ append_assoc (fed.frames ++ frames_handed reading fed) said told
    ∙ append_assoc fed.frames (frames_handed reading fed) (said ++ told)

frames_where : (reading : ℕ) (payload : Option (List ℕ)) (fed : Fed) (unread : Bool)
    → (if unread then after_missed payload fed else after_read reading payload fed).frames ≡ fed.frames ++ (if unread then [] else frames_read reading payload fed)
frames_where reading payload fed true = missed_frames payload fed
frames_where reading payload fed false = read_frames reading payload fed

pub frames_added : (reading : ℕ) (payload : Option (List ℕ)) (fed : Fed) → (after_item reading payload fed).frames ≡ fed.frames ++ frames_item reading payload fed
frames_added reading payload fed = frames_where reading payload fed (is_unread reading)

-- ---- the item of an event

abbrev pub payload_of : Event → Option (List ℕ)
payload_of (Received reading (letters.Datagram bytes)) = Some bytes
payload_of (Received reading letters.Quiet) = None
payload_of (Rested reading) = None

pub event_item : (fed : Fed) (event : Event) → after_event fed event ≡ after_item (reading_of event) (payload_of event) fed
event_item fed (Received reading (letters.Datagram bytes)) = refl
event_item fed (Received reading letters.Quiet) = refl
event_item fed (Rested reading) = refl
