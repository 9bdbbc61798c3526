-- What the desk tells of posts that were relayed to, once they are closed.
use Rattle.std.proofs.Common.{◌≡◌, ◌∙◌, ◌⊎◌, inl, inr, ℕ, ◌<◌, nat_lt, Bool, true, false, IfSome, List, [], ◌∷◌, map, refl, sym, ap, subst, arith}
use Rattle.std.proofs.lemmas.Bool.Decides.{nat_tests}
use Rattle.std.specs.List.{list_any}
use Rattle.tesla_desk.specs.Live.{Mail, mail_of}
use Rattle.tesla_desk.specs.Outside.{Told}
use Rattle.tesla_relay.specs.Closed.{AnyFaulty, HasMails, HoldsSent}
use Rattle.tesla_relay.specs.Opened.{AreFresh, post_name}
use Rattle.tesla_relay.specs.Posts.{PostSeen}
use Rattle.tesla_relay.proofs.Mails.{failed_is, holds_sent}
use Rattle.tesla_relay.specs.Relay.{RelaysPost, RelaysPosts}
use Rattle.tesla_relay.specs.declared.relayed.PostCount.{PostCount}
use Rattle.tesla_run_relay.specs.Lines.{has_failed}
use Rattle.tesla_run_relay.specs.Relay.{SendPosts, SendsPost}

-- ---- one post

sends_post : (capacity : ℕ) (arrived : List (List ℕ)) (old new : PostSeen) (count : PostCount) (mail : Mail) → IfSome old.sent (λ sent. sent ≡ []) → old.faults ≡ 0 → mail ≡ mail_of new.sent new.faults → RelaysPost capacity arrived old new count → SendsPost capacity arrived mail count
sends_post capacity arrived old new count mail empty none is relays = record {
  sent = relays.sent;
  to = relays.to;
  holds = subst (λ (m : Mail). HoldsSent relays.sent count.failed m) (sym is)
      (holds_sent old.sent new.sent relays.sent new.faults count.failed empty relays.sent_is (failed_is count.failed old.faults new.faults none relays.cause));
}

-- ---- all posts

pub sends_posts : (capacity : ℕ) (arrived : List (List ℕ)) (opened posts : List PostSeen) (counts : List PostCount) (now : Told) → AreFresh opened → HasMails posts now → RelaysPosts capacity arrived opened posts counts → SendPosts capacity arrived (map post_name posts) now.live counts
sends_posts capacity arrived [] [] [] now fresh mails relays = tt
sends_posts capacity arrived [] [] (count ∷ counts) now fresh mails relays = absurd relays
sends_posts capacity arrived [] (post ∷ posts) counts now fresh mails relays = absurd relays
sends_posts capacity arrived (old ∷ opened) [] counts now fresh mails relays = absurd relays
sends_posts capacity arrived (old ∷ opened) (post ∷ posts) [] now fresh mails relays = absurd relays
sends_posts capacity arrived (old ∷ opened) (post ∷ posts) (count ∷ counts) now ((empty, none), fresh) (mail, mails) (one, others) =
    (sends_post capacity arrived old post count (now.live.mail post.name) empty none mail one, sends_posts capacity arrived opened posts counts now fresh mails others)

-- the posts keep their names
pub names_kept : (capacity : ℕ) (arrived : List (List ℕ)) (opened posts : List PostSeen) (counts : List PostCount) → RelaysPosts capacity arrived opened posts counts → map post_name posts ≡ map post_name opened
names_kept capacity arrived [] [] [] relays = refl
names_kept capacity arrived [] [] (count ∷ counts) relays = refl
names_kept capacity arrived [] (post ∷ posts) counts relays = absurd relays
names_kept capacity arrived (old ∷ opened) [] counts relays = absurd relays
names_kept capacity arrived (old ∷ opened) (post ∷ posts) [] relays = absurd relays
names_kept capacity arrived (old ∷ opened) (post ∷ posts) (count ∷ counts) (one, others) =
    ap (λ n. n ∷ map post_name posts) one.name ∙ ap (λ ns. old.name ∷ ns) (names_kept capacity arrived opened posts counts others)

-- ---- failed posts

faulty_first : (failed : Bool) (count : PostCount) (counts : List PostCount) (faults : ℕ) → count.failed ≡ failed → nat_lt 0 faults ≡ failed → 0 < faults → list_any has_failed (count ∷ counts) ≡ true
faulty_first true count counts faults is test some = rw is refl
faulty_first false count counts faults is test some = absurd (let yes : nat_lt 0 faults ≡ true = grind (arith, nat_tests, some) in cc)

faulty_later : (failed : Bool) (count : PostCount) (counts : List PostCount) → count.failed ≡ failed → list_any has_failed counts ≡ true → list_any has_failed (count ∷ counts) ≡ true
faulty_later true count counts is rest = rw is refl
faulty_later false count counts is rest = rw is rest

-- a post that failed is counted so
pub faulty_counted : (capacity : ℕ) (arrived : List (List ℕ)) (opened posts : List PostSeen) (counts : List PostCount) → AreFresh opened → RelaysPosts capacity arrived opened posts counts → AnyFaulty posts → list_any has_failed counts ≡ true
faulty_counted capacity arrived [] [] counts fresh relays failed = absurd failed
faulty_counted capacity arrived [] (post ∷ posts) counts fresh relays failed = absurd relays
faulty_counted capacity arrived (old ∷ opened) [] counts fresh relays failed = absurd failed
faulty_counted capacity arrived (old ∷ opened) (post ∷ posts) [] fresh relays failed = absurd relays
faulty_counted capacity arrived (old ∷ opened) (post ∷ posts) (count ∷ counts) ((empty, none), fresh) (one, others) (inl own) =
    faulty_first count.failed count counts post.faults refl (failed_is count.failed old.faults post.faults none one.cause) own
faulty_counted capacity arrived (old ∷ opened) (post ∷ posts) (count ∷ counts) ((empty, none), fresh) (one, others) (inr other) =
    faulty_later count.failed count counts refl (faulty_counted capacity arrived opened posts counts fresh others other)

counted_first : (failed : Bool) (count : PostCount) (counts : List PostCount) (faults : ℕ) (posts : List PostSeen) → count.failed ≡ failed → nat_lt 0 faults ≡ failed → list_any has_failed (count ∷ counts) ≡ true → (list_any has_failed counts ≡ true → AnyFaulty posts) → (0 < faults) ⊎ AnyFaulty posts
counted_first true count counts faults posts is test any rest = inl (grind (arith, nat_tests, test))
counted_first false count counts faults posts is test any rest = inr (rest (rw is at any))

-- and one that is counted so failed
pub counted_faulty : (capacity : ℕ) (arrived : List (List ℕ)) (opened posts : List PostSeen) (counts : List PostCount) → AreFresh opened → RelaysPosts capacity arrived opened posts counts → list_any has_failed counts ≡ true → AnyFaulty posts
counted_faulty capacity arrived [] [] [] fresh relays any = absurd cc
counted_faulty capacity arrived [] [] (count ∷ counts) fresh relays any = absurd relays
counted_faulty capacity arrived [] (post ∷ posts) counts fresh relays any = absurd relays
counted_faulty capacity arrived (old ∷ opened) [] counts fresh relays any = absurd relays
counted_faulty capacity arrived (old ∷ opened) (post ∷ posts) [] fresh relays any = absurd relays
counted_faulty capacity arrived (old ∷ opened) (post ∷ posts) (count ∷ counts) ((empty, none), fresh) (one, others) any =
    counted_first count.failed count counts post.faults posts refl (failed_is count.failed old.faults post.faults none one.cause) any (counted_faulty capacity arrived opened posts counts fresh others)
