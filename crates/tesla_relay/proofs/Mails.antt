-- What is told of the mail of posts that sent datagrams, once they are closed.
use Rattle.std.proofs.Common.{◌≡◌, ◌∙◌, ◌⊎◌, inl, inr, ℕ, ◌<◌, nat_lt, Bool, true, false, Option, Some, None, IfSome, List, [], ◌∷◌, ◌++◌, map, refl, sym, ap, subst, arith}
use Rattle.std.proofs.lemmas.Bool.Decides.{nat_tests}
use Rattle.tesla_desk.specs.Faults.{HasCause, Rose}
use Rattle.tesla_desk.specs.Live.{Live, mail_of}
use Rattle.tesla_desk.specs.Outside.{Told, OfPost}
use Rattle.tesla_front.specs.Files.{HasFailedMail}
use Rattle.tesla_front.specs.Openings.{AnyFailed}
use Rattle.tesla_relay.specs.Closed.{AnyFaulty, HasMails, HoldsSent, IsUnsent}
use Rattle.tesla_relay.specs.Opened.{post_name}
use Rattle.tesla_relay.specs.Posts.{PostSeen, with_datagrams}

-- ---- faults

-- a count that was 0 and rose is no longer 0
pub some_rose : (before now : ℕ) → before ≡ 0 → Rose before now → 0 < now
some_rose before now none rose = grind (arith, none, rose)

-- which is told
pub rose_reported : (before now : ℕ) → before ≡ 0 → Rose before now → nat_lt 0 now ≡ true
rose_reported before now none rose = let some : 0 < now = some_rose before now none rose in grind (arith, nat_tests, some)

-- what had not failed before did so where that is told
pub failed_is : (failed : Bool) (before faults : ℕ) → before ≡ 0 → HasCause before faults (failed ≡ true) → nat_lt 0 faults ≡ failed
failed_is true before faults none cause = rose_reported before faults none (cause.rose refl)
failed_is false before faults none cause = ap (λ (n : ℕ). nat_lt 0 n) (cause.still (λ e. absurd cc) ∙ none)

-- ---- mail

-- a post that had sent nothing sent these datagrams
pub holds_sent : (old new : Option (List (List ℕ))) (datagrams : List (List ℕ)) (faults : ℕ) (failed : Bool) → IfSome old (λ sent. sent ≡ []) → new ≡ with_datagrams old datagrams → nat_lt 0 faults ≡ failed → HoldsSent datagrams failed (mail_of new faults)
holds_sent None new datagrams faults failed empty sent is = subst (λ (s : Option (List (List ℕ))). HoldsSent datagrams failed (mail_of s faults)) (sym sent) tt
holds_sent (Some prefix) new datagrams faults failed empty sent is = subst (λ (s : Option (List (List ℕ))). HoldsSent datagrams failed (mail_of s faults)) (sym sent) (ap (λ (f : List (List ℕ)). f ++ datagrams) empty, is)

failed_mail : (sent : Option (List (List ℕ))) (faults : ℕ) → 0 < faults → HasFailedMail (mail_of sent faults)
failed_mail None faults some = tt
failed_mail (Some datagrams) faults some = grind (arith, nat_tests, some)

-- the desk tells that one of the posts failed
pub faulty_told : (posts : List PostSeen) (now : Told) → HasMails posts now → AnyFaulty posts → AnyFailed (map OfPost (map post_name posts)) now
faulty_told [] now mails failed = failed
faulty_told (post ∷ posts) now (mail, mails) (inl own) = inl (subst HasFailedMail (sym mail) (failed_mail post.sent post.faults own))
faulty_told (post ∷ posts) now (mail, mails) (inr other) = inr (faulty_told posts now mails other)

-- where nothing was sent, and the mail is the same afterwards, nothing was sent by then either
pub unsent_on : (before now mid : Live) (name : List ℕ) → now.mail name ≡ mid.mail name → (mid.mail name ≡ before.mail name) ⊎ IsUnsent (mid.mail name) → (now.mail name ≡ before.mail name) ⊎ IsUnsent (now.mail name)
unsent_on before now mid name same (inl is) = inl (same ∙ is)
unsent_on before now mid name same (inr unsent) = inr (subst IsUnsent (sym same) unsent)
