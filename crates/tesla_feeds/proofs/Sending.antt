-- Frames that are sent one after another, and what may be sent.
use Rattle.std.proofs.Common.{◌≡◌, ◌∙◌, ℕ, Bool, List, [], ◌∷◌, ◌++◌, map, Option, sym, ap, subst, append_assoc, append-nil}
use Rattle.std.specs.Prelude.{IfSome}
use Rattle.tesla_relay.specs.Opened.{post_name}
use Rattle.tesla_relay.specs.Posts.{PostSeen}
use Rattle.tesla_feed.specs.Feed.{SendPosts}
use Rattle.tesla_feed.specs.Steps.{HandPosts, MayHand}
use Rattle.tesla_feed.proofs.Going.{posts_more}
use Rattle.tesla_feed.proofs.Permitted.{may_hand}
use Rattle.tesla_feeds.specs.Steps.{MaySendOn, SendOn}

-- ---- frames that were sent

pub send_none : (posts : List PostSeen) (failed : List Bool) → SendOn [] posts posts failed failed
send_none posts failed = λ sent firsts sends.
    subst (λ (ds : List (List ℕ)). SendPosts ds firsts posts failed) (sym (append-nil sent)) sends

pub send_one : (datagram : List ℕ) (posts now : List PostSeen) (failed failed_now : List Bool)
    → HandPosts datagram posts now failed failed_now → SendOn (datagram ∷ []) posts now failed failed_now
send_one datagram posts now failed failed_now hands = λ sent firsts sends.
    posts_more sent datagram firsts posts now failed failed_now sends hands

pub send_both : (frames more : List (List ℕ)) (posts mid now : List PostSeen) (failed failed_mid failed_now : List Bool)
    → SendOn frames posts mid failed failed_mid → SendOn more mid now failed_mid failed_now
    → SendOn (frames ++ more) posts now failed failed_now
send_both frames more posts mid now failed failed_mid failed_now first second = λ sent firsts sends.
    subst (λ (ds : List (List ℕ)). SendPosts ds firsts now failed_now) (append_assoc sent frames more)
    (second (sent ++ frames) firsts (first sent firsts sends))

-- ---- frames that may be sent

pub if_some_as : (sent : Option (List (List ℕ))) (a b : List (List ℕ)) → a ≡ b → IfSome sent (λ all. all ≡ a) → IfSome sent (λ all. all ≡ b)
if_some_as sent a b same is = subst (λ (ds : List (List ℕ)). IfSome sent (λ all. all ≡ ds)) same is

module _ {P : Type 0} (seen : P → PostSeen) (may_send : P → List ℕ → Bool) where
  -- the first of these
  pub may_front : (frames more : List (List ℕ)) (posts : List P) (failed : List Bool)
      → MaySendOn seen may_send (frames ++ more) posts failed → MaySendOn seen may_send frames posts failed
  may_front frames more posts failed on = record {
    sent = on.sent;
    firsts = on.firsts;
    unsent = on.unsent;
    sends = on.sends;
    may = λ before later datagram post is named all. on.may before (later ++ more) datagram post
        (ap (λ (ds : List (List ℕ)). ds ++ more) is ∙ append_assoc before (datagram ∷ later) more) named all;
  }

  -- the others, once the first were sent
  pub may_rest : (frames more : List (List ℕ)) (posts now : List P) (failed failed_now : List Bool)
      → MaySendOn seen may_send (frames ++ more) posts failed → SendOn frames (map seen posts) (map seen now) failed failed_now
      → MaySendOn seen may_send more now failed_now
  may_rest frames more posts now failed failed_now on sends = record {
    sent = on.sent ++ frames;
    firsts = on.firsts;
    unsent = on.unsent;
    sends = sends on.sent on.firsts on.sends;
    may = λ before later datagram post is named all. on.may (frames ++ before) later datagram post
        (ap (λ (ds : List (List ℕ)). frames ++ ds) is ∙ sym (append_assoc frames before (datagram ∷ later))) named
        (if_some_as (seen post).sent ((on.sent ++ frames) ++ before) (on.sent ++ (frames ++ before)) (append_assoc on.sent frames before) all);
  }

  -- one frame
  pub may_one_frame : (frames : List (List ℕ)) (datagram : List ℕ) (posts : List P) (failed : List Bool)
      → MaySendOn seen may_send frames posts failed → frames ≡ datagram ∷ [] → MayHand may_send datagram posts failed
  may_one_frame frames datagram posts failed on is =
      may_hand seen may_send on.sent datagram on.firsts (map post_name on.firsts) posts failed
      (λ post named all. on.may [] [] datagram post is named (if_some_as (seen post).sent on.sent (on.sent ++ []) (sym (append-nil on.sent)) all))
      (λ name has. has) on.unsent on.sends
