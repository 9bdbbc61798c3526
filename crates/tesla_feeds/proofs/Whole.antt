-- One event of a feed over a list, whole.
use Rattle.std.proofs.Common.{◌≡◌, ℕ, Bool, true, false, List, [], map, Option, None, sym, subst}
use Rattle.std.specs.Prelude.{if◌then◌else◌}
use Rattle.tesla_relay.specs.Posts.{PostSeen}
use Rattle.tesla_feed.specs.Fed.{is_unread}
use Rattle.tesla_feeds.specs.Events.{FeedsAll, MayStage, TakesAll, frames_behind, frames_handed, frames_item, frames_read, frames_said, frames_told}
use Rattle.tesla_feeds.specs.Fed.{Fed, after_handover, after_item, after_keys, after_message, after_missed, after_read}
use Rattle.tesla_feeds.specs.Steps.{MaySendOn}
use Rattle.tesla_feeds.specs.declared.events.Feeders.{Feeders}
use Rattle.tesla_feeds.proofs.Sending.{may_front, may_rest, send_both, send_none}

-- ---- what was done

abbrev Stage : (Fed → Fed) → (Fed → List (List ℕ)) → Feeders → Feeders → List PostSeen → List PostSeen → List Bool → List Bool → Type 0
Stage after frames before now posts posts_now failed failed_now = (fed : Fed) → FeedsAll before fed → TakesAll (after fed) (frames fed) now posts posts_now failed failed_now

item_where : (reading : ℕ) (payload : Option (List ℕ)) (fed : Fed) (unread : Bool) → is_unread reading ≡ unread → (now : Feeders) (posts posts_now : List PostSeen) (failed failed_now : List Bool)
    → TakesAll (if unread then after_missed payload fed else after_read reading payload fed) (if unread then [] else frames_read reading payload fed) now posts posts_now failed failed_now
    → TakesAll (after_item reading payload fed) (frames_item reading payload fed) now posts posts_now failed failed_now
item_where reading payload fed unread is now posts posts_now failed failed_now takes =
    let P : Bool → Type 0 = λ u. TakesAll (if u then after_missed payload fed else after_read reading payload fed) (if u then [] else frames_read reading payload fed) now posts posts_now failed failed_now in
    subst P (sym is) takes

pub takes_read : (reading : ℕ) (payload : Option (List ℕ)) (a b c d : Feeders) (p q r s : List PostSeen) (f g h i : List Bool) → is_unread reading ≡ false
    → Stage (after_handover reading) (frames_handed reading) a b p q f g → Stage (after_message reading payload) (frames_said reading payload) b c q r g h → Stage (after_keys reading) (frames_told reading) c d r s h i
    → Stage (after_item reading payload) (frames_item reading payload) a d p s f i
takes_read reading payload a b c d p q r s f g h i read first second third = λ fed all.
    let one = first fed all in
    let two = second (after_handover reading fed) one.stands in
    let three = third (after_message reading payload (after_handover reading fed)) two.stands in
    let told = frames_told reading (after_message reading payload (after_handover reading fed)) in
    item_where reading payload fed false read d p s f i (record {
      stands = three.stands;
      sends = send_both (frames_handed reading fed) (frames_behind reading payload (after_handover reading fed)) p q s f g i one.sends
          (send_both (frames_said reading payload (after_handover reading fed)) told q r s g h i two.sends three.sends);
    })

pub takes_missed : (reading : ℕ) (payload : Option (List ℕ)) (a b : Feeders) (p : List PostSeen) (f : List Bool) → is_unread reading ≡ true
    → ((fed : Fed) → FeedsAll a fed → FeedsAll b (after_missed payload fed)) → Stage (after_item reading payload) (frames_item reading payload) a b p p f f
takes_missed reading payload a b p f unread misses = λ fed all.
    item_where reading payload fed true unread b p p f f (record { stands = misses fed all; sends = send_none p f })

pub takes_quiet : (reading : ℕ) (a : Feeders) (p : List PostSeen) (f : List Bool) → Stage (after_message reading None) (frames_said reading None) a a p p f f
takes_quiet reading a p f = λ fed all. record { stands = all; sends = send_none p f }

-- ---- what may be sent

module _ {P : Type 0} (seen : P → PostSeen) (may_send : P → List ℕ → Bool) (reading : ℕ) (payload : Option (List ℕ)) (a : Feeders) (posts : List P) (failed : List Bool)
    (may : MayStage seen may_send a (frames_item reading payload) posts failed) (read : is_unread reading ≡ false) where
  may_all : MaySendOn seen may_send (frames_read reading payload may.fed) posts failed
  may_all =
      let P : Bool → Type 0 = λ u. MaySendOn seen may_send (if u then [] else frames_read reading payload may.fed) posts failed in
      subst P read may.may

  pub may_first : MayStage seen may_send a (frames_handed reading) posts failed
  may_first = record {
    fed = may.fed;
    stands = may.stands;
    may = may_front seen may_send (frames_handed reading may.fed) (frames_behind reading payload (after_handover reading may.fed)) posts failed may_all;
  }

  module _ (b : Feeders) (mid : List P) (failed_mid : List Bool) (first : Stage (after_handover reading) (frames_handed reading) a b (map seen posts) (map seen mid) failed failed_mid) where
    may_later : MaySendOn seen may_send (frames_behind reading payload (after_handover reading may.fed)) mid failed_mid
    may_later = may_rest seen may_send (frames_handed reading may.fed) (frames_behind reading payload (after_handover reading may.fed)) posts mid failed failed_mid may_all (first may.fed may.stands).sends

    pub may_second : MayStage seen may_send b (frames_said reading payload) mid failed_mid
    may_second = record {
      fed = after_handover reading may.fed;
      stands = (first may.fed may.stands).stands;
      may = may_front seen may_send (frames_said reading payload (after_handover reading may.fed)) (frames_told reading (after_message reading payload (after_handover reading may.fed))) mid failed_mid may_later;
    }

    pub may_third : (c : Feeders) (last : List P) (failed_last : List Bool) → Stage (after_message reading payload) (frames_said reading payload) b c (map seen mid) (map seen last) failed_mid failed_last
        → MayStage seen may_send c (frames_told reading) last failed_last
    may_third c last failed_last second =
        let one = first may.fed may.stands in
        let two = second (after_handover reading may.fed) one.stands in
        record {
          fed = after_message reading payload (after_handover reading may.fed);
          stands = two.stands;
          may = may_rest seen may_send (frames_said reading payload (after_handover reading may.fed)) (frames_told reading (after_message reading payload (after_handover reading may.fed))) mid last failed_mid failed_last may_later two.sends;
        }
