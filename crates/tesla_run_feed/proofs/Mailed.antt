-- What the desk tells of posts that were fed, once they are closed.
use Rattle.std.proofs.Common.{◌≡◌, ◌∙◌, ◌⊎◌, inl, inr, ℕ, suc, ◌<◌, nat_lt, Bool, true, false, IfSome, List, [], ◌∷◌, length, map, take, refl, sym, ap, subst, arith}
use Rattle.std.proofs.lemmas.Bool.Decides.{nat_tests}
use Rattle.std.specs.List.{list_any}
use Rattle.tesla_desk.specs.Live.{Mail, mail_of}
use Rattle.tesla_desk.specs.Outside.{Told}
use Rattle.tesla_feed.specs.Feed as fed
use Rattle.tesla_feed.specs.Feed.{has_failed}
use Rattle.tesla_relay.specs.Closed.{AnyFaulty, HasMails, HoldsSent}
use Rattle.tesla_relay.specs.Opened.{AreFresh, post_name}
use Rattle.tesla_relay.specs.Posts.{PostSeen}
use Rattle.tesla_relay.proofs.Mails.{failed_is, holds_sent}
use Rattle.tesla_run_feed.specs.Feeding.{SendPosts, SendsPost}

-- ---- one post

sends_post : (datagrams : List (List ℕ)) (old new : PostSeen) (failed : Bool) (mail : Mail) → IfSome old.sent (λ sent. sent ≡ []) → old.faults ≡ 0 → mail ≡ mail_of new.sent new.faults → fed.SendsPost datagrams old new failed → SendsPost datagrams mail failed
sends_post datagrams old new failed mail empty none is sends = record {
  sends = sends.sends;
  many = sends.many;
  sent = subst (λ (m : Mail). HoldsSent (take sends.sends datagrams) failed m) (sym is)
      (holds_sent old.sent new.sent (take sends.sends datagrams) new.faults failed empty sends.sent (failed_is failed old.faults new.faults none sends.cause));
}

-- ---- all posts

pub sends_posts : (datagrams : List (List ℕ)) (opened posts : List PostSeen) (failed : List Bool) (now : Told) → AreFresh opened → HasMails posts now → fed.SendPosts datagrams opened posts failed → SendPosts datagrams (map post_name posts) now.live failed
sends_posts datagrams [] [] [] now fresh mails sends = tt
sends_posts datagrams [] [] (one ∷ others) now fresh mails sends = absurd sends
sends_posts datagrams [] (post ∷ posts) failed now fresh mails sends = absurd sends
sends_posts datagrams (old ∷ opened) [] failed now fresh mails sends = absurd sends
sends_posts datagrams (old ∷ opened) (post ∷ posts) [] now fresh mails sends = absurd sends
sends_posts datagrams (old ∷ opened) (post ∷ posts) (failed ∷ others) now ((empty, none), fresh) (mail, mails) (one, more) =
    (sends_post datagrams old post failed (now.live.mail post.name) empty none mail one, sends_posts datagrams opened posts others now fresh mails more)

-- the posts keep their names
pub names_kept : (datagrams : List (List ℕ)) (opened posts : List PostSeen) (failed : List Bool) → fed.SendPosts datagrams opened posts failed → map post_name posts ≡ map post_name opened
names_kept datagrams [] [] [] sends = refl
names_kept datagrams [] [] (one ∷ others) sends = refl
names_kept datagrams [] (post ∷ posts) failed sends = absurd sends
names_kept datagrams (old ∷ opened) [] failed sends = absurd sends
names_kept datagrams (old ∷ opened) (post ∷ posts) [] sends = absurd sends
names_kept datagrams (old ∷ opened) (post ∷ posts) (failed ∷ others) (one, more) =
    ap (λ n. n ∷ map post_name posts) one.name ∙ ap (λ ns. old.name ∷ ns) (names_kept datagrams opened posts others more)

-- of each it is told whether it failed
pub each_reported : (datagrams : List (List ℕ)) (opened posts : List PostSeen) (failed : List Bool) → fed.SendPosts datagrams opened posts failed → length failed ≡ length posts
each_reported datagrams [] [] [] sends = refl
each_reported datagrams [] [] (one ∷ others) sends = absurd sends
each_reported datagrams [] (post ∷ posts) failed sends = absurd sends
each_reported datagrams (old ∷ opened) [] failed sends = absurd sends
each_reported datagrams (old ∷ opened) (post ∷ posts) [] sends = absurd sends
each_reported datagrams (old ∷ opened) (post ∷ posts) (failed ∷ others) (one, more) = ap suc (each_reported datagrams opened posts others more)

-- ---- failed posts

faulty_first : (failed : Bool) (others : List Bool) (faults : ℕ) → nat_lt 0 faults ≡ failed → 0 < faults → list_any has_failed (failed ∷ others) ≡ true
faulty_first true others faults test some = refl
faulty_first false others faults test some = absurd (let yes : nat_lt 0 faults ≡ true = grind (arith, nat_tests, some) in cc)

faulty_later : (failed : Bool) (others : List Bool) → list_any has_failed others ≡ true → list_any has_failed (failed ∷ others) ≡ true
faulty_later true others rest = refl
faulty_later false others rest = rest

-- a post that failed is told so
pub faulty_marked : (datagrams : List (List ℕ)) (opened posts : List PostSeen) (failed : List Bool) → AreFresh opened → fed.SendPosts datagrams opened posts failed → AnyFaulty posts → list_any has_failed failed ≡ true
faulty_marked datagrams [] [] failed fresh sends faulty = absurd faulty
faulty_marked datagrams [] (post ∷ posts) failed fresh sends faulty = absurd sends
faulty_marked datagrams (old ∷ opened) [] failed fresh sends faulty = absurd faulty
faulty_marked datagrams (old ∷ opened) (post ∷ posts) [] fresh sends faulty = absurd sends
faulty_marked datagrams (old ∷ opened) (post ∷ posts) (failed ∷ others) ((empty, none), fresh) (one, more) (inl own) =
    faulty_first failed others post.faults (failed_is failed old.faults post.faults none one.cause) own
faulty_marked datagrams (old ∷ opened) (post ∷ posts) (failed ∷ others) ((empty, none), fresh) (one, more) (inr other) =
    faulty_later failed others (faulty_marked datagrams opened posts others fresh more other)

marked_first : (failed : Bool) (others : List Bool) (faults : ℕ) (posts : List PostSeen) → nat_lt 0 faults ≡ failed → list_any has_failed (failed ∷ others) ≡ true → (list_any has_failed others ≡ true → AnyFaulty posts) → (0 < faults) ⊎ AnyFaulty posts
marked_first true others faults posts test any rest = inl (grind (arith, nat_tests, test))
marked_first false others faults posts test any rest = inr (rest any)

-- and one that is told so failed
pub marked_faulty : (datagrams : List (List ℕ)) (opened posts : List PostSeen) (failed : List Bool) → AreFresh opened → fed.SendPosts datagrams opened posts failed → list_any has_failed failed ≡ true → AnyFaulty posts
marked_faulty datagrams [] [] [] fresh sends any = absurd cc
marked_faulty datagrams [] [] (one ∷ others) fresh sends any = absurd sends
marked_faulty datagrams [] (post ∷ posts) failed fresh sends any = absurd sends
marked_faulty datagrams (old ∷ opened) [] failed fresh sends any = absurd sends
marked_faulty datagrams (old ∷ opened) (post ∷ posts) [] fresh sends any = absurd sends
marked_faulty datagrams (old ∷ opened) (post ∷ posts) (failed ∷ others) ((empty, none), fresh) (one, more) any =
    marked_first failed others post.faults posts (failed_is failed old.faults post.faults none one.cause) any (marked_faulty datagrams opened posts others fresh more)
