-- What is kept by each call that a feed over a list makes holds of every stream of it.
use Rattle.std.proofs.Common.{◌≡◌, ℕ, Bool, true, false, List, [], ◌∷◌, Option, Some, None, refl}
use Rattle.std.specs.Prelude.{Result, Ok, Err, if◌then◌else◌}
use Rattle.std.specs.List.{AllByRecursion, fold}
use Rattle.tesla_base.specs.declared.names.Name.{Name}
use Rattle.tesla_commit.specs.Parts.{Parts}
use Rattle.tesla_desk.specs.declared.link.Letter.TheVariants as letters
use Rattle.tesla_sender.specs.Made.{Message, Disclose, Stream}
use Rattle.tesla_sender.specs.declared.refusal.SendRefusal.{SendRefusal}
use Rattle.tesla_feed.specs.Fed.{Event, Received, Rested, is_due, is_unread, name_from}
use Rattle.tesla_feeds.specs.Fed.{Done, Fed, Part, after_event, after_handover, after_item, after_keys, after_message, after_missed, after_read, call_done, disclosed, done_behind, done_each, done_on, fed_all, fed_from, handed_as, handed_over, handed_to, handover_done, interval_of_part, is_on, lasting, may_hand_over, nothing_done, one_done, opened_with, parts_at, said, said_as, with_call}
use Rattle.tesla_feeds.specs.Order.{handover_to}

-- each call keeps it
pub record KeptByCalls (P : Part → Type 0) : Type 0 where
  pub message : (part : Part) (reading : ℕ) (payload : List ℕ) (name : Name) → name_from part.stream.setup.times part.first part.log reading payload ≡ Ok name → P part → P (with_call part (Message reading payload))
  pub handover : (part : Part) (reading : ℕ) (payload : List ℕ) (name : Name) → name_from part.stream.setup.times part.first part.log reading payload ≡ Ok name → P part → P (handover_done part (Message reading payload) (interval_of_part part reading)).part
  pub disclosure : (part : Part) (reading : ℕ) → is_due part.stream part.first part.log reading ≡ true → P part → P (with_call part (Disclose reading))

module _ (P : Part → Type 0) (kept : KeptByCalls P) where
  -- ---- one stream

  said_kept : (part : Part) (reading : ℕ) (payload : List ℕ) (name : Result Name SendRefusal) → name_from part.stream.setup.times part.first part.log reading payload ≡ name → P part → P (said_as part reading payload name).part
  said_kept part reading payload (Ok name) is now = kept.message part reading payload name is now
  said_kept part reading payload (Err refusal) is now = now

  handed_kept : (part : Part) (reading : ℕ) (payload : List ℕ) (name : Result Name SendRefusal) → name_from part.stream.setup.times part.first part.log reading payload ≡ name → P part → P (handed_as part reading payload name).part
  handed_kept part reading payload (Ok name) is now = kept.handover part reading payload name is now
  handed_kept part reading payload (Err refusal) is now = now

  handed_where : (part : Part) (reading : ℕ) (next : Parts) (may : Bool) → P part
      → P (if may then handed_as part reading (handover_to next) (name_from part.stream.setup.times part.first part.log reading (handover_to next)) else nothing_done part).part
  handed_where part reading next true now = handed_kept part reading (handover_to next) _ refl now
  handed_where part reading next false now = now

  over_kept : (part : Part) (reading : ℕ) (next : Option Parts) → P part → P (handed_to reading part next).part
  over_kept part reading None now = now
  over_kept part reading (Some next) now = handed_where part reading next (may_hand_over part next reading) now

  told_kept : (part : Part) (reading : ℕ) (due : Bool) → is_due part.stream part.first part.log reading ≡ due → P part → P (if due then call_done part (Disclose reading) else nothing_done part).part
  told_kept part reading true is now = kept.disclosure part reading is now
  told_kept part reading false is now = now

  -- ---- all streams

  on_where : (act : Part → Done) (reading : ℕ) (part : Part) (parts : List Part) (on : Bool) → P (act part).part → AllByRecursion P (done_on act reading parts).parts → P part → AllByRecursion P parts
      → AllByRecursion P (if on then one_done (act part) parts else done_behind part (done_on act reading parts)).parts
  on_where act reading part parts true here behind first others = (here, others)
  on_where act reading part parts false here behind first others = (first, behind)

  on_kept : (act : Part → Done) (reading : ℕ) (parts : List Part) → ((part : Part) → P part → P (act part).part) → AllByRecursion P parts → AllByRecursion P (done_on act reading parts).parts
  on_kept act reading [] keeps now = tt
  on_kept act reading (part ∷ parts) keeps now = on_where act reading part parts (is_on reading part parts) (keeps part now.0) (on_kept act reading parts keeps now.1) now.0 now.1

  each_kept : (act : Part → Done) (parts : List Part) → ((part : Part) → P part → P (act part).part) → AllByRecursion P parts → AllByRecursion P (done_each act parts).parts
  each_kept act [] keeps now = tt
  each_kept act (part ∷ parts) keeps now = (keeps part now.0, each_kept act parts keeps now.1)

  -- ---- events

  handover_kept : (reading : ℕ) (fed : Fed) → AllByRecursion P fed.parts → AllByRecursion P (after_handover reading fed).parts
  handover_kept reading fed now = on_kept (handed_over reading) reading fed.parts (λ part one. over_kept part reading part.next one) now

  message_kept : (reading : ℕ) (payload : Option (List ℕ)) (fed : Fed) → AllByRecursion P fed.parts → AllByRecursion P (after_message reading payload fed).parts
  message_kept reading None fed now = now
  message_kept reading (Some payload) fed now = on_kept (said reading payload) reading fed.parts (λ part one. said_kept part reading payload _ refl one) now

  keys_kept : (reading : ℕ) (fed : Fed) → AllByRecursion P fed.parts → AllByRecursion P (after_keys reading fed).parts
  keys_kept reading fed now = each_kept (disclosed reading) fed.parts (λ part one. told_kept part reading (is_due part.stream part.first part.log reading) refl one) now

  missed_kept : (payload : Option (List ℕ)) (fed : Fed) → AllByRecursion P fed.parts → AllByRecursion P (after_missed payload fed).parts
  missed_kept None fed now = now
  missed_kept (Some payload) fed now = now

  item_where : (payload : Option (List ℕ)) (fed after : Fed) (unread : Bool) → AllByRecursion P fed.parts → AllByRecursion P after.parts → AllByRecursion P (if unread then after_missed payload fed else after).parts
  item_where payload fed after true now read = missed_kept payload fed now
  item_where payload fed after false now read = read

  item_kept : (reading : ℕ) (payload : Option (List ℕ)) (fed : Fed) → AllByRecursion P fed.parts → AllByRecursion P (after_item reading payload fed).parts
  item_kept reading payload fed now =
      item_where payload fed (after_read reading payload fed) (is_unread reading) now
      (keys_kept reading (after_message reading payload (after_handover reading fed)) (message_kept reading payload (after_handover reading fed) (handover_kept reading fed now)))

  event_kept : (fed : Fed) (event : Event) → AllByRecursion P fed.parts → AllByRecursion P (after_event fed event).parts
  event_kept fed (Received reading (letters.Datagram bytes)) now = item_kept reading (Some bytes) fed now
  event_kept fed (Received reading letters.Quiet) now = item_kept reading None fed now
  event_kept fed (Rested reading) now = item_kept reading None fed now

  events_kept : (fed : Fed) (events : List Event) → AllByRecursion P fed.parts → AllByRecursion P (fold after_event fed events).parts
  events_kept fed [] now = now
  events_kept fed (event ∷ events) now = events_kept (after_event fed event) events (event_kept fed event now)

  -- ---- a whole feed

  from_kept : (parts : List Part) (events : List Event) → AllByRecursion P parts → AllByRecursion P (fed_from parts events).parts
  from_kept [] events now = tt
  from_kept (part ∷ parts) events now = events_kept (opened_with (part ∷ parts)) events now

  -- it holds of every stream, where it holds of each at the opening
  pub fed_keeps : (streams : List Stream) (opening : ℕ) (events : List Event) → AllByRecursion P (parts_at opening (lasting opening streams)) → AllByRecursion P (fed_all streams opening events).parts
  fed_keeps streams opening events now = from_kept (parts_at opening (lasting opening streams)) events now
