-- The streams of a feed over a list stay what they are.
use Rattle.std.proofs.Common.{◌≡◌, ◌∙◌, ℕ, Bool, true, false, List, [], ◌∷◌, map, Option, Some, None, refl, ap}
use Rattle.std.specs.Prelude.{Result, Ok, Err, if◌then◌else◌, not}
use Rattle.std.specs.List.{fold}
use Rattle.tesla_base.specs.declared.names.Name.{Name}
use Rattle.tesla_commit.specs.Parts.{Parts}
use Rattle.tesla_desk.specs.declared.link.Letter.TheVariants as letters
use Rattle.tesla_sender.specs.Made.{Disclose, Stream}
use Rattle.tesla_sender.specs.declared.refusal.SendRefusal.{SendRefusal}
use Rattle.tesla_feed.specs.Fed.{Event, Received, Rested, has_ended, is_due, is_unread, name_from}
use Rattle.tesla_feeds.specs.Fed.{Done, Fed, Part, after_event, after_handover, after_item, after_message, after_missed, after_read, call_done, disclosed, done_behind, done_each, done_on, fed_from, handed_as, handed_over, handed_to, is_on, lasting, may_hand_over, nothing_done, one_done, parts_at, said, said_as}
use Rattle.tesla_feeds.specs.Laws.{FeedsLasting}
use Rattle.tesla_feeds.specs.Opening.{first_lasts, streams_of}
use Rattle.tesla_feeds.specs.Order.{handover_to}
use Rattle.tesla_feeds.specs.Steps.{FeedParts}
use Rattle.tesla_feeds.specs.declared.listed.ListedFeeder.{ListedFeeder}

abbrev pub stream_in : Part → Stream
stream_in part = part.stream

-- ---- one stream

pub said_same : (part : Part) (reading : ℕ) (payload : List ℕ) (name : Result Name SendRefusal) → (said_as part reading payload name).part.stream ≡ part.stream
said_same part reading payload (Ok name) = refl
said_same part reading payload (Err refusal) = refl

handed_same : (part : Part) (reading : ℕ) (payload : List ℕ) (name : Result Name SendRefusal) → (handed_as part reading payload name).part.stream ≡ part.stream
handed_same part reading payload (Ok name) = refl
handed_same part reading payload (Err refusal) = refl

handed_where : (part : Part) (reading : ℕ) (next : Parts) (may : Bool)
    → (if may then handed_as part reading (handover_to next) (name_from part.stream.setup.times part.first part.log reading (handover_to next)) else nothing_done part).part.stream ≡ part.stream
handed_where part reading next true = handed_same part reading (handover_to next) _
handed_where part reading next false = refl

pub over_same : (part : Part) (reading : ℕ) (next : Option Parts) → (handed_to reading part next).part.stream ≡ part.stream
over_same part reading None = refl
over_same part reading (Some next) = handed_where part reading next (may_hand_over part next reading)

pub told_same : (part : Part) (reading : ℕ) (due : Bool) → (if due then call_done part (Disclose reading) else nothing_done part).part.stream ≡ part.stream
told_same part reading true = refl
told_same part reading false = refl

-- ---- all streams

on_where : (act : Part → Done) (reading : ℕ) (part : Part) (parts : List Part) (on : Bool) → (act part).part.stream ≡ part.stream → map stream_in (done_on act reading parts).parts ≡ map stream_in parts
    → map stream_in (if on then one_done (act part) parts else done_behind part (done_on act reading parts)).parts ≡ map stream_in (part ∷ parts)
on_where act reading part parts true here behind = ap (λ (s : Stream). s ∷ map stream_in parts) here
on_where act reading part parts false here behind = ap (λ (ss : List Stream). part.stream ∷ ss) behind

pub on_same : (act : Part → Done) (reading : ℕ) (parts : List Part) → ((part : Part) → (act part).part.stream ≡ part.stream) → map stream_in (done_on act reading parts).parts ≡ map stream_in parts
on_same act reading [] same = refl
on_same act reading (part ∷ parts) same = on_where act reading part parts (is_on reading part parts) (same part) (on_same act reading parts same)

pub each_same : (act : Part → Done) (parts : List Part) → ((part : Part) → (act part).part.stream ≡ part.stream) → map stream_in (done_each act parts).parts ≡ map stream_in parts
each_same act [] same = refl
each_same act (part ∷ parts) same = ap (λ (s : Stream). s ∷ map stream_in (done_each act parts).parts) (same part) ∙ ap (λ (ss : List Stream). part.stream ∷ ss) (each_same act parts same)

-- ---- events

message_same : (reading : ℕ) (payload : Option (List ℕ)) (fed : Fed) → map stream_in (after_message reading payload fed).parts ≡ map stream_in fed.parts
message_same reading None fed = refl
message_same reading (Some payload) fed = on_same (said reading payload) reading fed.parts (λ part. said_same part reading payload _)

missed_same : (payload : Option (List ℕ)) (fed : Fed) → map stream_in (after_missed payload fed).parts ≡ map stream_in fed.parts
missed_same None fed = refl
missed_same (Some payload) fed = refl

read_same : (reading : ℕ) (payload : Option (List ℕ)) (fed : Fed) → map stream_in (after_read reading payload fed).parts ≡ map stream_in fed.parts
read_same reading payload fed =
    let handed = after_handover reading fed in
    each_same (disclosed reading) (after_message reading payload handed).parts (λ part. told_same part reading (is_due part.stream part.first part.log reading))
    ∙ message_same reading payload handed
    ∙ on_same (handed_over reading) reading fed.parts (λ part. over_same part reading part.next)

item_where : (reading : ℕ) (payload : Option (List ℕ)) (fed : Fed) (unread : Bool) → map stream_in (if unread then after_missed payload fed else after_read reading payload fed).parts ≡ map stream_in fed.parts
item_where reading payload fed true = missed_same payload fed
item_where reading payload fed false = read_same reading payload fed

pub item_same : (reading : ℕ) (payload : Option (List ℕ)) (fed : Fed) → map stream_in (after_item reading payload fed).parts ≡ map stream_in fed.parts
item_same reading payload fed = item_where reading payload fed (is_unread reading)

event_same : (fed : Fed) (event : Event) → map stream_in (after_event fed event).parts ≡ map stream_in fed.parts
event_same fed (Received reading (letters.Datagram bytes)) = item_same reading (Some bytes) fed
event_same fed (Received reading letters.Quiet) = item_same reading None fed
event_same fed (Rested reading) = item_same reading None fed

pub events_same : (fed : Fed) (events : List Event) → map stream_in (fold after_event fed events).parts ≡ map stream_in fed.parts
events_same fed [] = refl
events_same fed (event ∷ events) = events_same (after_event fed event) events ∙ event_same fed event

-- ---- a whole feed

pub opened_streams : (opening : ℕ) (streams : List Stream) → map stream_in (parts_at opening streams) ≡ streams
opened_streams opening [] = refl
opened_streams opening (stream ∷ streams) = ap (λ (ss : List Stream). stream ∷ ss) (opened_streams opening streams)

-- the feeders' streams are those that they stand for
pub parts_streams : (feeders : List ListedFeeder) (parts : List Part) → FeedParts feeders parts → streams_of feeders ≡ map stream_in parts
parts_streams [] [] stands = refl
parts_streams [] (part ∷ parts) stands = absurd stands
parts_streams (feeder ∷ feeders) [] stands = absurd stands
parts_streams (feeder ∷ feeders) (part ∷ parts) stands =
    ap (λ (s : Stream). s ∷ streams_of feeders) stands.0.stands.stream_is ∙ ap (λ (ss : List Stream). part.stream ∷ ss) (parts_streams feeders parts stands.1)

-- ---- the streams that aren't over

-- the first of these isn't over, where there is one
lasts_where : (opening : ℕ) (stream : Stream) (streams : List Stream) (over : Bool) → has_ended stream opening ≡ over
    → ((lasting opening streams ≡ [] → ⊥) → first_lasts opening (lasting opening streams) ≡ true)
    → ((if over then lasting opening streams else stream ∷ streams) ≡ [] → ⊥) → first_lasts opening (if over then lasting opening streams else stream ∷ streams) ≡ true
lasts_where opening stream streams true is others some = others some
lasts_where opening stream streams false is others some = ap not is

pub lasting_lasts : (opening : ℕ) (streams : List Stream) → (lasting opening streams ≡ [] → ⊥) → first_lasts opening (lasting opening streams) ≡ true
lasting_lasts opening [] some = absurd (some refl)
lasting_lasts opening (stream ∷ streams) some = lasts_where opening stream streams (has_ended stream opening) refl (lasting_lasts opening streams) some

-- and nothing of these is over
again_where : (opening : ℕ) (stream : Stream) (streams : List Stream) (over : Bool) → has_ended stream opening ≡ over → lasting opening (lasting opening streams) ≡ lasting opening streams
    → lasting opening (if over then lasting opening streams else stream ∷ streams) ≡ (if over then lasting opening streams else stream ∷ streams)
again_where opening stream streams true is same = same
again_where opening stream streams false is same = ap (λ (over : Bool). if over then lasting opening streams else stream ∷ streams) is

lasting_again : (opening : ℕ) (streams : List Stream) → lasting opening (lasting opening streams) ≡ lasting opening streams
lasting_again opening [] = refl
lasting_again opening (stream ∷ streams) = again_where opening stream streams (has_ended stream opening) refl (lasting_again opening streams)

pub are_lasting : FeedsLasting
are_lasting streams opening events = ap (λ (ss : List Stream). fed_from (parts_at opening ss) events) (lasting_again opening streams)
