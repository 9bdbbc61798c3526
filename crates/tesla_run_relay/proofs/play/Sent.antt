-- What posts have sent, once they were played to and closed.
use Rattle.std.proofs.Common.{◌≡◌, ◌∙◌, inl, inr, ℕ, nat_lt, true, false, Option, IfSome, List, [], ◌∷◌, ◌++◌, map, refl, sym, ap, subst, arith}
use Rattle.tesla_desk.specs.Live.{Mail, mail_of}
use Rattle.tesla_desk.specs.Outside.{Told}
use Rattle.tesla_relay.specs.Play as plays
use Rattle.tesla_relay.specs.Play.{PostsTo, having_sent}
use Rattle.tesla_relay.specs.declared.playing.PlayEnd.{PlayEnd}
use Rattle.tesla_relay.specs.declared.playing.PlayEnd.TheVariants.{Ended, Refused, ReadFault, PostFault}
use Rattle.tesla_relay.proofs.Sends.{sent_twice}
use Rattle.tesla_relay.specs.Closed.{AnyFaulty, HasMails, HoldsSent}
use Rattle.tesla_relay.specs.Opened.{AreFresh, post_name}
use Rattle.tesla_relay.specs.Posts.{PostSeen, with_datagrams}
use Rattle.tesla_relay.proofs.Mails.{holds_sent, rose_reported, some_rose}
use Rattle.tesla_run_relay.specs.play.Playing.{BreaksAt, HaveSent, PostsHold}

-- ---- names

names_sent : (posts : List PostSeen) (datagrams : List (List ℕ)) → map post_name (map (having_sent datagrams) posts) ≡ map post_name posts
names_sent [] datagrams = refl
names_sent (post ∷ posts) datagrams = ap (λ names. post.name ∷ names) (names_sent posts datagrams)

names_broken : (last : List ℕ) (before now : List PostSeen) → plays.BreaksAt last before now → map post_name now ≡ map post_name before
names_broken last [] now broken = absurd broken
names_broken last (post ∷ before) [] broken = absurd broken
names_broken last (post ∷ before) (one ∷ now) (inl (sent, broken)) =
    ap (λ (p : PostSeen). p.name ∷ map post_name now) sent ∙ ap (λ names. post.name ∷ names) (names_broken last before now broken)
names_broken last (post ∷ before) (one ∷ now) (inr (fails, same)) =
    ap (λ name. name ∷ map post_name now) fails.name ∙ ap (λ (ps : List PostSeen). post.name ∷ map post_name ps) same

names_all : (datagrams : List (List ℕ)) (fresh posts : List PostSeen) → posts ≡ map (having_sent datagrams) fresh → map post_name posts ≡ map post_name fresh
names_all datagrams fresh posts sent = ap (map post_name) sent ∙ names_sent fresh datagrams

-- the posts keep their names
pub names_stay : (end : PlayEnd) (datagrams : List (List ℕ)) (fresh posts : List PostSeen) → PostsTo end datagrams fresh posts → map post_name posts ≡ map post_name fresh
names_stay (Ended sent) datagrams fresh posts to = names_all datagrams fresh posts to
names_stay (Refused offset kind) datagrams fresh posts to = names_all datagrams fresh posts to
names_stay ReadFault datagrams fresh posts to = names_all datagrams fresh posts to
names_stay PostFault datagrams fresh posts to = names_broken to.last (map (having_sent to.prefix) fresh) posts to.breaks ∙ names_sent fresh to.prefix

-- ---- mail

-- a post that did not fail
sent_mail : (sent : Option (List (List ℕ))) (faults : ℕ) (datagrams : List (List ℕ)) → IfSome sent (λ before. before ≡ []) → faults ≡ 0 → HoldsSent datagrams false (mail_of (with_datagrams sent datagrams) faults)
sent_mail sent faults datagrams empty none = holds_sent sent (with_datagrams sent datagrams) datagrams faults false empty refl (ap (λ n. nat_lt 0 n) none)

-- each post sent all
have_sent : (posts : List PostSeen) (datagrams : List (List ℕ)) (told : Told) → AreFresh posts → HasMails (map (having_sent datagrams) posts) told → HaveSent datagrams (map post_name posts) told.live
have_sent [] datagrams told fresh mails = tt
have_sent (post ∷ posts) datagrams told (own, others) (mail, mails) =
    (subst (λ (m : Mail). HoldsSent datagrams false m) (sym mail) (sent_mail post.sent post.faults datagrams own.0 own.1), have_sent posts datagrams told others mails)

-- one failed
breaks_at : (fresh posts : List PostSeen) (prefix : List (List ℕ)) (last : List ℕ) (told : Told) → AreFresh fresh → plays.BreaksAt last (map (having_sent prefix) fresh) posts → HasMails posts told → BreaksAt prefix last (map post_name fresh) told.live
breaks_at [] posts prefix last told are_fresh broken mails = absurd broken
breaks_at (post ∷ fresh) [] prefix last told are_fresh broken mails = absurd broken
breaks_at (post ∷ fresh) (now ∷ posts) prefix last told (own, others) (inl (sent, broken)) (mail, mails) =
    let told_so : told.live.mail post.name ≡ mail_of (with_datagrams (with_datagrams post.sent prefix) (last ∷ [])) post.faults = subst (λ (p : PostSeen). told.live.mail p.name ≡ mail_of p.sent p.faults) sent mail in
    let told_is : told.live.mail post.name ≡ mail_of (with_datagrams post.sent (prefix ++ last ∷ [])) post.faults = told_so ∙ ap (λ (s : Option (List (List ℕ))). mail_of s post.faults) (sent_twice post.sent prefix (last ∷ [])) in
    inl (
      subst (λ (m : Mail). HoldsSent (prefix ++ last ∷ []) false m) (sym told_is) (sent_mail post.sent post.faults (prefix ++ last ∷ []) own.0 own.1),
      breaks_at fresh posts prefix last told others broken mails,
    )
breaks_at (post ∷ fresh) (now ∷ posts) prefix last told (own, others) (inr (fails, same)) (mail, mails) =
    let told_is : told.live.mail post.name ≡ mail_of now.sent now.faults = ap told.live.mail (sym fails.name) ∙ mail in
    inr (
      subst (λ (m : Mail). HoldsSent prefix true m) (sym told_is) (holds_sent post.sent now.sent prefix now.faults true own.0 fails.sent (rose_reported post.faults now.faults own.1 fails.rose)),
      have_sent fresh prefix told others (subst (λ (ps : List PostSeen). HasMails ps told) same mails),
    )

all_sent : (datagrams : List (List ℕ)) (fresh posts : List PostSeen) (told : Told) → AreFresh fresh → posts ≡ map (having_sent datagrams) fresh → HasMails posts told → HaveSent datagrams (map post_name fresh) told.live
all_sent datagrams fresh posts told are_fresh sent mails = have_sent fresh datagrams told are_fresh (subst (λ (ps : List PostSeen). HasMails ps told) sent mails)

-- what each post sent is told once they are closed
pub posts_hold : (end : PlayEnd) (datagrams : List (List ℕ)) (fresh posts : List PostSeen) (told : Told) → AreFresh fresh → PostsTo end datagrams fresh posts → HasMails posts told → PostsHold end datagrams (map post_name fresh) told.live
posts_hold (Ended sent) datagrams fresh posts told are_fresh to mails = all_sent datagrams fresh posts told are_fresh to mails
posts_hold (Refused offset kind) datagrams fresh posts told are_fresh to mails = all_sent datagrams fresh posts told are_fresh to mails
posts_hold ReadFault datagrams fresh posts told are_fresh to mails = all_sent datagrams fresh posts told are_fresh to mails
posts_hold PostFault datagrams fresh posts told are_fresh to mails = record {
  prefix = to.prefix;
  last = to.last;
  datagrams_are = to.datagrams_are;
  breaks = breaks_at fresh posts to.prefix to.last told are_fresh to.breaks mails;
}

-- ---- faults

none_faulty : (posts : List PostSeen) (datagrams : List (List ℕ)) → AreFresh posts → AnyFaulty (map (having_sent datagrams) posts) → ⊥
none_faulty [] datagrams fresh failed = failed
none_faulty (post ∷ posts) datagrams (own, others) (inl some) = absurd (let none : post.faults ≡ 0 = own.1 in omega (arith, some, none))
none_faulty (post ∷ posts) datagrams (own, others) (inr other) = none_faulty posts datagrams others other

one_faulty : (fresh posts : List PostSeen) (prefix : List (List ℕ)) (last : List ℕ) → AreFresh fresh → plays.BreaksAt last (map (having_sent prefix) fresh) posts → AnyFaulty posts
one_faulty [] posts prefix last are_fresh broken = absurd broken
one_faulty (post ∷ fresh) [] prefix last are_fresh broken = absurd broken
one_faulty (post ∷ fresh) (now ∷ posts) prefix last (own, others) (inl (sent, broken)) = inr (one_faulty fresh posts prefix last others broken)
one_faulty (post ∷ fresh) (now ∷ posts) prefix last (own, others) (inr (fails, same)) = inl (some_rose post.faults now.faults own.1 fails.rose)

no_faulty : (datagrams : List (List ℕ)) (fresh posts : List PostSeen) → AreFresh fresh → posts ≡ map (having_sent datagrams) fresh → AnyFaulty posts → ⊥
no_faulty datagrams fresh posts are_fresh sent failed = none_faulty fresh datagrams are_fresh (subst AnyFaulty sent failed)

-- a post failed exactly where that is answered
pub faulty_end : (end : PlayEnd) (datagrams : List (List ℕ)) (fresh posts : List PostSeen) → AreFresh fresh → PostsTo end datagrams fresh posts → AnyFaulty posts → end ≡ PostFault
faulty_end (Ended sent) datagrams fresh posts are_fresh to failed = absurd (no_faulty datagrams fresh posts are_fresh to failed)
faulty_end (Refused offset kind) datagrams fresh posts are_fresh to failed = absurd (no_faulty datagrams fresh posts are_fresh to failed)
faulty_end ReadFault datagrams fresh posts are_fresh to failed = absurd (no_faulty datagrams fresh posts are_fresh to failed)
faulty_end PostFault datagrams fresh posts are_fresh to failed = refl

pub end_faulty : (end : PlayEnd) (datagrams : List (List ℕ)) (fresh posts : List PostSeen) → AreFresh fresh → PostsTo end datagrams fresh posts → end ≡ PostFault → AnyFaulty posts
end_faulty (Ended sent) datagrams fresh posts are_fresh to is = absurd cc
end_faulty (Refused offset kind) datagrams fresh posts are_fresh to is = absurd cc
end_faulty ReadFault datagrams fresh posts are_fresh to is = absurd cc
end_faulty PostFault datagrams fresh posts are_fresh to is = one_faulty fresh posts to.prefix to.last are_fresh to.breaks
