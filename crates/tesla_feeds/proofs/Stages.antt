-- The stages of an event of a feed over a list.
use Rattle.std.proofs.Common.{◌≡◌, ◌∙◌, ℕ, ◌+◌, ◌-◌, ◌^◌, min, Bool, true, false, List, [], ◌∷◌, ◌++◌, length, take, drop, Some, refl, sym, ap, append-nil, arith}
use Rattle.std.specs.Prelude.{Result, Ok, Err}
use Rattle.std.proofs.lemmas.List.{take-append-le, take_all}
use Rattle.tesla_relay.specs.Posts.{PostSeen}
use Rattle.tesla_sender.specs.Made.{Call, Message}
use Rattle.tesla_sender.specs.declared.refusal.SendRefusal.{SendRefusal}
use Rattle.tesla_feed.specs.Fed.{Feeding, counts_of}
use Rattle.tesla_feed.specs.declared.counts.FeedCounts.{FeedCounts}
use Rattle.tesla_feed.proofs.Counting.{message_counts, refused_counts}
use Rattle.tesla_feeds.specs.Events.{FeedAll, MayStage, TakeAll, after_said, frames_handed, frames_said, frames_told}
use Rattle.tesla_feeds.specs.Fed.{Fed, Part, after_handover, after_keys, after_message, disclosed, done_each, done_on, handed_over, said}
use Rattle.tesla_feeds.specs.Steps.{DoesAll, FeedParts, HandsAll, MayDo, calls_sent, many_where, refused_by, with_calls}
use Rattle.tesla_feeds.specs.declared.events.Feeders.{Feeders}
use Rattle.tesla_feeds.specs.declared.events.FeedsCounts.{FeedsCounts}
use Rattle.tesla_feeds.specs.declared.listed.ListedFeeder.{ListedFeeder}

-- the items of a table that is written back whole
pub written_back : (len : ℕ) (now items : List ListedFeeder) → len ≡ length now → take len (now ++ drop (length now) items) ≡ now
written_back len now items same =
    take-append-le len now (drop (length now) items) (omega (arith, same)) ∙ take_all len now (omega (arith, same))

-- ---- handovers

pub handed_all : (fed : Fed) (reading : ℕ) (before nows : List ListedFeeder) (counts now : FeedsCounts) (sent : Bool) (posts posts_now : List PostSeen) (failed failed_now : List Bool) → FeedAll before counts fed
    → ((parts : List Part) → FeedParts before parts → HandsAll (done_on (handed_over reading) reading parts) sent nows posts posts_now failed failed_now)
    → now ≡ record { feed = counts.feed; handovers = min (counts.handovers + many_where sent) (2 ^ 64 - 1) }
    → TakeAll (after_handover reading fed) (frames_handed reading fed) nows now posts posts_now failed failed_now
handed_all fed reading before nows counts now sent posts posts_now failed failed_now all hands same =
    let it = hands fed.parts all.parts in
    let n : now.handovers ≡ min (counts.handovers + many_where sent) (2 ^ 64 - 1) = ap (λ (c : FeedsCounts). c.handovers) same in
    record {
      stands = record {
        parts = it.does.stands;
        feed = ap (λ (c : FeedsCounts). c.feed) same ∙ all.feed;
        handovers = omega (arith, n, all.handovers, it.count);
      };
      sends = it.does.sends;
    }

-- ---- messages

counts_with : (whole : Feeding) (log more : List Call) (refused others : List SendRefusal) → log ≡ more → refused ≡ others
    → counts_of (record { log = log; refused = refused; unread = whole.unread }) ≡ counts_of (record { log = more; refused = others; unread = whole.unread })
counts_with whole log more refused others same_log same_refused =
    ap (λ (l : List Call). counts_of (record { log = l; refused = refused; unread = whole.unread })) same_log
    ∙ ap (λ (r : List SendRefusal). counts_of (record { log = more; refused = r; unread = whole.unread })) same_refused

said_counts : (whole : Feeding) (reading : ℕ) (payload : List ℕ) (result : Result Bool SendRefusal) (calls : List Call) (refused : List SendRefusal) → calls ≡ calls_sent result (Message reading payload) → refused ≡ refused_by result
    → after_said (counts_of whole) result ≡ counts_of (record { log = whole.log ++ calls; refused = whole.refused ++ refused; unread = whole.unread })
said_counts whole reading payload (Ok true) calls refused calls_are refused_are =
    sym (message_counts whole reading payload)
    ∙ counts_with whole (whole.log ++ Message reading payload ∷ []) (whole.log ++ calls) whole.refused (whole.refused ++ refused) (ap (λ (cs : List Call). whole.log ++ cs) (sym calls_are)) (sym (append-nil whole.refused) ∙ ap (λ (rs : List SendRefusal). whole.refused ++ rs) (sym refused_are))
said_counts whole reading payload (Ok false) calls refused calls_are refused_are =
    counts_with whole whole.log (whole.log ++ calls) whole.refused (whole.refused ++ refused) (sym (append-nil whole.log) ∙ ap (λ (cs : List Call). whole.log ++ cs) (sym calls_are)) (sym (append-nil whole.refused) ∙ ap (λ (rs : List SendRefusal). whole.refused ++ rs) (sym refused_are))
said_counts whole reading payload (Err refusal) calls refused calls_are refused_are =
    sym (refused_counts whole refusal)
    ∙ counts_with whole whole.log (whole.log ++ calls) (whole.refused ++ refusal ∷ []) (whole.refused ++ refused) (sym (append-nil whole.log) ∙ ap (λ (cs : List Call). whole.log ++ cs) (sym calls_are)) (ap (λ (rs : List SendRefusal). whole.refused ++ rs) (sym refused_are))

pub said_all : (fed : Fed) (reading : ℕ) (payload : List ℕ) (before nows : List ListedFeeder) (counts now : FeedsCounts) (result : Result Bool SendRefusal) (posts posts_now : List PostSeen) (failed failed_now : List Bool) → FeedAll before counts fed
    → ((parts : List Part) → FeedParts before parts → DoesAll (done_on (said reading payload) reading parts) (calls_sent result (Message reading payload)) (refused_by result) nows posts posts_now failed failed_now)
    → now ≡ record { feed = after_said counts.feed result; handovers = counts.handovers }
    → TakeAll (after_message reading (Some payload) fed) (frames_said reading (Some payload) fed) nows now posts posts_now failed failed_now
said_all fed reading payload before nows counts now result posts posts_now failed failed_now all does same =
    let it = does fed.parts all.parts in
    record {
      stands = record {
        parts = it.stands;
        feed = ap (λ (c : FeedsCounts). c.feed) same ∙ ap (λ (c : FeedCounts). after_said c result) all.feed ∙ said_counts fed.whole reading payload result _ _ it.calls_are it.refused_are;
        handovers = ap (λ (c : FeedsCounts). c.handovers) same ∙ all.handovers;
      };
      sends = it.sends;
    }

-- ---- disclosures

pub told_all : (fed : Fed) (reading : ℕ) (before nows : List ListedFeeder) (counts : FeedsCounts) (feed : FeedCounts) (posts posts_now : List PostSeen) (failed failed_now : List Bool) → FeedAll before counts fed
    → ((parts : List Part) → FeedParts before parts → DoesAll (done_each (disclosed reading) parts) (done_each (disclosed reading) parts).calls [] nows posts posts_now failed failed_now)
    → ((parts : List Part) (whole : Feeding) → FeedParts before parts → counts.feed ≡ counts_of whole → feed ≡ counts_of (with_calls whole (done_each (disclosed reading) parts).calls))
    → TakeAll (after_keys reading fed) (frames_told reading fed) nows (record { feed = feed; handovers = counts.handovers }) posts posts_now failed failed_now
told_all fed reading before nows counts feed posts posts_now failed failed_now all does count =
    let it = does fed.parts all.parts in
    let done = done_each (disclosed reading) fed.parts in
    record {
      stands = record {
        parts = it.stands;
        feed = count fed.parts fed.whole all.parts all.feed ∙ counts_with fed.whole (fed.whole.log ++ done.calls) (fed.whole.log ++ done.calls) fed.whole.refused (fed.whole.refused ++ done.refused) refl (sym (append-nil fed.whole.refused) ∙ ap (λ (rs : List SendRefusal). fed.whole.refused ++ rs) (sym it.refused_are));
        handovers = all.handovers;
      };
      sends = it.sends;
    }

-- ---- what may be sent

module _ {P : Type 0} (seen : P → PostSeen) (may_send : P → List ℕ → Bool) where
  pub may_on : (feeders : Feeders) (reading : ℕ) (posts : List P) (failed : List Bool) → MayStage seen may_send feeders (frames_handed reading) posts failed → MayDo seen may_send feeders.feeders.items (done_on (handed_over reading) reading) posts failed
  may_on feeders reading posts failed may = record { parts = may.fed.parts; stands = may.stands.parts; may = may.may }

  pub may_say : (feeders : Feeders) (reading : ℕ) (payload : List ℕ) (posts : List P) (failed : List Bool) → MayStage seen may_send feeders (frames_said reading (Some payload)) posts failed → MayDo seen may_send feeders.feeders.items (done_on (said reading payload) reading) posts failed
  may_say feeders reading payload posts failed may = record { parts = may.fed.parts; stands = may.stands.parts; may = may.may }

  pub may_tell : (feeders : Feeders) (reading : ℕ) (posts : List P) (failed : List Bool) → MayStage seen may_send feeders (frames_told reading) posts failed → MayDo seen may_send feeders.feeders.items (done_each (disclosed reading)) posts failed
  may_tell feeders reading posts failed may = record { parts = may.fed.parts; stands = may.stands.parts; may = may.may }
