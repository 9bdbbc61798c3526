-- What is done with each stream of a list.
use Rattle.std.proofs.Common.{◌≡◌, ◌∙◌, ℕ, Bool, List, [], ◌∷◌, ◌++◌, map, Option, refl, sym, ap, subst, append_assoc, append-nil}
use Rattle.tesla_relay.specs.Posts.{PostSeen}
use Rattle.tesla_sender.specs.Made.{Call, Disclose}
use Rattle.tesla_sender.specs.declared.refusal.SendRefusal.{SendRefusal}
use Rattle.tesla_feed.specs.Fed.{Feeding, counts_of}
use Rattle.tesla_feed.specs.Steps.{MayHand, one_more}
use Rattle.tesla_feed.specs.declared.counts.FeedCounts.{FeedCounts}
use Rattle.tesla_feed.proofs.Counting.{disclosure_counts}
use Rattle.tesla_feeds.specs.Fed.{Done, Part, done_each}
use Rattle.tesla_feeds.specs.Steps.{DoesAll, DoesOne, DoesPart, FeedParts, FeedsPart, MayDo, MayDoOne, MaySendOn, SendOn, frames_made, with_calls}
use Rattle.tesla_feeds.specs.declared.listed.ListedFeeder.{ListedFeeder}
use Rattle.tesla_feeds.proofs.Sending.{may_front, may_one_frame, may_rest, send_both, send_none}

-- ---- counts

pub count_none : (whole : Feeding) (counts : FeedCounts) (calls : List Call) → calls ≡ [] → counts ≡ counts_of whole → counts ≡ counts_of (with_calls whole calls)
count_none whole counts calls none is =
    is ∙ ap (λ (log : List Call). counts_of (record { log = log; refused = whole.refused; unread = whole.unread })) (sym (append-nil whole.log) ∙ ap (λ (cs : List Call). whole.log ++ cs) (sym none))

pub count_one : (whole : Feeding) (reading : ℕ) (counts now : FeedCounts) (calls : List Call) → calls ≡ Disclose reading ∷ [] → counts ≡ counts_of whole
    → now ≡ record counts { disclosures = one_more counts.disclosures } → now ≡ counts_of (with_calls whole calls)
count_one whole reading counts now calls one is more =
    more ∙ ap (λ (c : FeedCounts). let it : FeedCounts = record c { disclosures = one_more c.disclosures } in it) is ∙ sym (disclosure_counts whole reading) ∙ ap (λ (cs : List Call). counts_of (with_calls whole cs)) (sym one)

count_both : (whole : Feeding) (first more : List Call) → counts_of (with_calls (with_calls whole first) more) ≡ counts_of (with_calls whole (first ++ more))
count_both whole first more = ap (λ (log : List Call). counts_of (record { log = log; refused = whole.refused; unread = whole.unread })) (append_assoc whole.log first more)

-- ---- one stream

pub one_sent : (done : Done) (calls : List Call) (now : ListedFeeder) (result : Option ℕ) (posts posts_now : List PostSeen) (failed failed_now : List Bool)
    → DoesPart done calls [] now result → SendOn (frames_made result now.feeder.frame) posts posts_now failed failed_now → DoesOne done now posts posts_now failed failed_now
one_sent done calls now result posts posts_now failed failed_now does sends = record {
  stands = does.stands;
  sends = subst (λ (fs : List (List ℕ)). SendOn fs posts posts_now failed failed_now) (sym does.frames) sends;
  refused_are = does.refused_are;
}

-- ---- all streams

module _ (act : Part → Done) where
  pub each_none : (parts : List Part) (posts : List PostSeen) (failed : List Bool) → FeedParts [] parts → DoesAll (done_each act parts) (done_each act parts).calls [] [] posts posts failed failed
  each_none [] posts failed stands = record { stands = tt; sends = send_none posts failed; calls_are = refl; refused_are = refl }
  each_none (part ∷ parts) posts failed stands = absurd stands

  pub each_uncounted : (parts : List Part) (whole : Feeding) (counts : FeedCounts) → FeedParts [] parts → counts ≡ counts_of whole → counts ≡ counts_of (with_calls whole (done_each act parts).calls)
  each_uncounted [] whole counts stands is = count_none whole counts [] refl is
  each_uncounted (part ∷ parts) whole counts stands is = absurd stands

  pub each_more : (feeder now : ListedFeeder) (behind nows : List ListedFeeder) (parts : List Part) (posts mid posts_now : List PostSeen) (failed failed_mid failed_now : List Bool)
      → ((part : Part) → FeedsPart feeder part → DoesOne (act part) now posts mid failed failed_mid)
      → ((parts : List Part) → FeedParts behind parts → DoesAll (done_each act parts) (done_each act parts).calls [] nows mid posts_now failed_mid failed_now)
      → FeedParts (feeder ∷ behind) parts → DoesAll (done_each act parts) (done_each act parts).calls [] (now ∷ nows) posts posts_now failed failed_now
  each_more feeder now behind nows [] posts mid posts_now failed failed_mid failed_now one others stands = absurd stands
  each_more feeder now behind nows (part ∷ parts) posts mid posts_now failed failed_mid failed_now one others stands =
      let first = one part stands.0 in
      let all = others parts stands.1 in
      record {
        stands = (first.stands, all.stands);
        sends = send_both (act part).frames (done_each act parts).frames posts mid posts_now failed failed_mid failed_now first.sends all.sends;
        calls_are = refl;
        refused_are = ap (λ (rs : List SendRefusal). rs ++ (done_each act parts).refused) first.refused_are ∙ all.refused_are;
      }

  pub each_counted : (feeder : ListedFeeder) (behind : List ListedFeeder) (parts : List Part) (whole : Feeding) (counts mid now : FeedCounts)
      → ((part : Part) (whole : Feeding) → FeedsPart feeder part → counts ≡ counts_of whole → mid ≡ counts_of (with_calls whole (act part).calls))
      → ((parts : List Part) (whole : Feeding) → FeedParts behind parts → mid ≡ counts_of whole → now ≡ counts_of (with_calls whole (done_each act parts).calls))
      → FeedParts (feeder ∷ behind) parts → counts ≡ counts_of whole → now ≡ counts_of (with_calls whole (done_each act parts).calls)
  each_counted feeder behind [] whole counts mid now one others stands is = absurd stands
  each_counted feeder behind (part ∷ parts) whole counts mid now one others stands is =
      others parts (with_calls whole (act part).calls) stands.1 (one part whole stands.0 is) ∙ count_both whole (act part).calls (done_each act parts).calls

  -- what may be sent
  module _ {P : Type 0} (seen : P → PostSeen) (may_send : P → List ℕ → Bool) (feeder : ListedFeeder) (behind : List ListedFeeder) (posts : List P) (failed : List Bool) where
    first_cases : (parts : List Part) → FeedParts (feeder ∷ behind) parts → MaySendOn seen may_send (done_each act parts).frames posts failed → MayDoOne seen may_send feeder act posts failed
    first_cases [] stands may = absurd stands
    first_cases (part ∷ parts) stands may = record { part = part; stands = stands.0; may = may_front seen may_send (act part).frames (done_each act parts).frames posts failed may }

    pub may_first : (feeders : List ListedFeeder) → feeders ≡ feeder ∷ behind → MayDo seen may_send feeders (done_each act) posts failed → MayDoOne seen may_send feeder act posts failed
    may_first feeders whole may = first_cases may.parts (subst (λ (fs : List ListedFeeder). FeedParts fs may.parts) whole may.stands) may.may

    others_cases : (now : ListedFeeder) (mid : List P) (failed_mid : List Bool) (parts : List Part) → FeedParts (feeder ∷ behind) parts → MaySendOn seen may_send (done_each act parts).frames posts failed
        → ((part : Part) → FeedsPart feeder part → DoesOne (act part) now (map seen posts) (map seen mid) failed failed_mid) → MayDo seen may_send behind (done_each act) mid failed_mid
    others_cases now mid failed_mid [] stands may one = absurd stands
    others_cases now mid failed_mid (part ∷ parts) stands may one = record {
      parts = parts;
      stands = stands.1;
      may = may_rest seen may_send (act part).frames (done_each act parts).frames posts mid failed failed_mid may (one part stands.0).sends;
    }

    pub may_others : (now : ListedFeeder) (mid : List P) (failed_mid : List Bool) (feeders : List ListedFeeder) → feeders ≡ feeder ∷ behind → MayDo seen may_send feeders (done_each act) posts failed
        → ((part : Part) → FeedsPart feeder part → DoesOne (act part) now (map seen posts) (map seen mid) failed failed_mid) → MayDo seen may_send behind (done_each act) mid failed_mid
    may_others now mid failed_mid feeders whole may one =
        others_cases now mid failed_mid may.parts (subst (λ (fs : List ListedFeeder). FeedParts fs may.parts) whole may.stands) may.may one

-- a frame that may be sent
pub may_hand_one : {P : Type 0} (seen : P → PostSeen) (may_send : P → List ℕ → Bool) (feeder : ListedFeeder) (act : Part → Done) (posts : List P) (failed : List Bool) → MayDoOne seen may_send feeder act posts failed
    → (datagram : List ℕ) → ((part : Part) → FeedsPart feeder part → (act part).frames ≡ datagram ∷ []) → MayHand may_send datagram posts failed
may_hand_one seen may_send feeder act posts failed may datagram frames = may_one_frame seen may_send (act may.part).frames datagram posts failed may.may (frames may.part may.stands)
