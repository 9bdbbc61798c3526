-- The closing of posts.
use Rattle.std.proofs.Common.{◌≡◌, ◌∙◌, ◌≢◌, ◌⊎◌, inl, inr, ℕ, ◌<◌, nat_lt, Bool, true, false, Option, Some, None, IfSome, List, [], ◌∷◌, map, refl, sym, ap, subst, arith}
use Rattle.std.proofs.lemmas.Bool.Decides.{nat_tests}
use Rattle.std.proofs.lemmas.Slice.Eq.{bytes_eq-Decides}
use Rattle.std.specs.Str.{bytes_eq}
use Rattle.tesla_desk.specs.Faults.{Faults, HasCause, raised, raised_where_failed}
use Rattle.tesla_desk.specs.Live.{mail_of}
use Rattle.tesla_desk.specs.Outside.{Told, ClosesPost}
use Rattle.tesla_desk.proofs.Counts.{cause_both, cause_none, causes_none, raised_stays, rose_raised}
use Rattle.tesla_front.specs.Names.{IsNoneOf}
use Rattle.tesla_relay.specs.Closed.{AnyFaulty, ClosesTo, HasMails, IsUnsent}
use Rattle.tesla_relay.specs.Opened.{AreFresh, post_name}
use Rattle.tesla_relay.specs.Opening.{ClosesPosts}
use Rattle.tesla_relay.specs.Posts.{PostSeen}

-- ---- the counts

counted_by : (failed : Bool) (faults n : ℕ) → nat_lt 0 faults ≡ failed → HasCause n (raised_where_failed faults n) (0 < faults)
counted_by true faults n is = subst (λ (m : ℕ). HasCause n m (0 < faults)) (sym (raises is)) (record { stays = raised_stays n; rose = λ some. rose_raised n; still = λ none. absurd (none (grind (arith, nat_tests, is))) }) where
  raises : nat_lt 0 faults ≡ true → raised_where_failed faults n ≡ raised n
  raises e = rw e refl
counted_by false faults n is = cause_none n (raised_where_failed faults n) (stays is) (λ some. absurd (let no : nat_lt 0 faults ≡ true = grind (arith, nat_tests, some) in cc)) where
  stays : nat_lt 0 faults ≡ false → raised_where_failed faults n ≡ n
  stays e = rw e refl

-- ---- the mail

-- the closing of a post under another name changes nothing of that
still_mailed : (posts : List PostSeen) (name : List ℕ) (before now : Told) → IsNoneOf name (map post_name posts) → ((n : List ℕ) → n ≢ name → now.live.mail n ≡ before.live.mail n) → HasMails posts before → HasMails posts now
still_mailed [] name before now none others mails = tt
still_mailed (post ∷ posts) name before now none others mails = (others post.name (λ e. none.0 (sym e)) ∙ mails.0, still_mailed posts name before now none.1 others mails.1)

-- what changes no mail changes nothing of that
pub mails_same : (posts : List PostSeen) (before now : Told) → ((name : List ℕ) → now.live.mail name ≡ before.live.mail name) → HasMails posts before → HasMails posts now
mails_same [] before now same mails = tt
mails_same (post ∷ posts) before now same mails = (same post.name ∙ mails.0, mails_same posts before now same mails.1)

-- ---- all closings

closes_nothing : (before now : Told) → now ≡ before → ClosesTo [] before now
closes_nothing before now same = record {
  mails = λ distinct. tt;
  others = λ name none. ap (λ (t : Told). t.live.mail name) same;
  wires = λ name. ap (λ (t : Told). t.live.wire name) same;
  remainders = λ name. ap (λ (t : Told). t.live.left name) same;
  clocks = (ap (λ (t : Told). t.live.readings) same, ap (λ (t : Told). t.live.made) same);
  pages = λ name. ap (λ (t : Told). t.page name) same;
  lefts = λ name. ap (λ (t : Told). t.left name) same;
  asked = ap (λ (t : Told). t.openings) same;
  reads = ap (λ (t : Told). t.faults.reads) same;
  writes = cause_none before.faults.writes now.faults.writes (ap (λ (t : Told). t.faults.writes) same) (λ never. never);
  openings = ap (λ (t : Told). t.faults.openings) same;
}

closes_more : (post : PostSeen) (posts : List PostSeen) (before mid now : Told) → ClosesTo posts before mid → ClosesPost post.name post.sent post.faults mid now → ClosesTo (post ∷ posts) before now
closes_more post posts before mid now rest close = record {
  mails = λ distinct. (close.own, still_mailed posts post.name mid now distinct.0 close.others (rest.mails distinct.1));
  others = λ name none. close.others name none.0 ∙ rest.others name none.1;
  wires = λ name. close.wires name ∙ rest.wires name;
  remainders = λ name. close.remainders name ∙ rest.remainders name;
  clocks = (close.clocks.0 ∙ rest.clocks.0, close.clocks.1 ∙ rest.clocks.1);
  pages = λ name. close.pages name ∙ rest.pages name;
  lefts = λ name. close.lefts name ∙ rest.lefts name;
  asked = close.asked ∙ rest.asked;
  reads = ap (λ (f : Faults). f.reads) close.counts ∙ rest.reads;
  writes = cause_both before.faults.writes mid.faults.writes now.faults.writes rest.writes
      (subst (λ (n : ℕ). HasCause mid.faults.writes n (0 < post.faults)) (sym (ap (λ (f : Faults). f.writes) close.counts)) (counted_by (nat_lt 0 post.faults) post.faults mid.faults.writes refl))
      swap swap_back;
  openings = ap (λ (f : Faults). f.openings) close.counts ∙ rest.openings;
} where
  swap : AnyFaulty (post ∷ posts) → AnyFaulty posts ⊎ (0 < post.faults)
  swap (inl own) = inr own
  swap (inr other) = inl other

  swap_back : AnyFaulty posts ⊎ (0 < post.faults) → AnyFaulty (post ∷ posts)
  swap_back (inl other) = inr other
  swap_back (inr own) = inl own

-- posts were closed, the last first
pub closes_to : (posts : List PostSeen) (before now : Told) → ClosesPosts posts before now → ClosesTo posts before now
closes_to [] before now same = closes_nothing before now same
closes_to (post ∷ posts) before now (mid, rest, close) = closes_more post posts before mid now (closes_to posts before mid rest) close

-- ---- posts that sent nothing

-- none of them failed
pub fresh_sound : (posts : List PostSeen) → AreFresh posts → AnyFaulty posts → ⊥
fresh_sound [] fresh failed = failed
fresh_sound (post ∷ posts) (own, others) (inl some) = absurd (let none : post.faults ≡ 0 = own.1 in omega (arith, some, none))
fresh_sound (post ∷ posts) (own, others) (inr other) = fresh_sound posts others other

-- so no count rises
pub fresh_counts : (posts : List PostSeen) (before now : Told) → AreFresh posts → ClosesTo posts before now → now.faults ≡ before.faults
fresh_counts posts before now fresh closes =
    causes_none {read = ⊥} {write = AnyFaulty posts} {opening = ⊥} before.faults now.faults (record {
      reads = cause_none before.faults.reads now.faults.reads closes.reads (λ never. never);
      writes = closes.writes;
      openings = cause_none before.faults.openings now.faults.openings closes.openings (λ never. never);
    }) (λ never. never) (fresh_sound posts fresh) (λ never. never)

unsent_mail : (sent : Option (List (List ℕ))) (faults : ℕ) → IfSome sent (λ datagrams. datagrams ≡ []) → faults ≡ 0 → IsUnsent (mail_of sent faults)
unsent_mail None faults empty none = tt
unsent_mail (Some datagrams) faults empty none = (empty, ap (λ (n : ℕ). nat_lt 0 n) none)

by_name : (same : Bool) (post : PostSeen) (before mid now : Told) (name : List ℕ) → bytes_eq name post.name ≡ same → IfSome post.sent (λ datagrams. datagrams ≡ []) → post.faults ≡ 0 → ClosesPost post.name post.sent post.faults mid now → (mid.live.mail name ≡ before.live.mail name) ⊎ IsUnsent (mid.live.mail name) → (now.live.mail name ≡ before.live.mail name) ⊎ IsUnsent (now.live.mail name)
by_name true post before mid now name test empty none close rest =
    let same : name ≡ post.name = (bytes_eq-Decides name post.name).0 test in
    inr (subst (λ (n : List ℕ). IsUnsent (now.live.mail n)) (sym same) (subst IsUnsent (sym close.own) (unsent_mail post.sent post.faults empty none)))
by_name false post before mid now name test empty none close (inl as_before) = inl (close.others name (λ e. absurd (let yes : bytes_eq name post.name ≡ true = (bytes_eq-Decides name post.name).1 e in cc)) ∙ as_before)
by_name false post before mid now name test empty none close (inr unsent) =
    inr (subst IsUnsent (sym (close.others name (λ e. absurd (let yes : bytes_eq name post.name ≡ true = (bytes_eq-Decides name post.name).1 e in cc)))) unsent)

-- the mail under each name is as before, or nothing was sent
pub fresh_mails : (posts : List PostSeen) (before now : Told) → AreFresh posts → ClosesPosts posts before now → (name : List ℕ) → (now.live.mail name ≡ before.live.mail name) ⊎ IsUnsent (now.live.mail name)
fresh_mails [] before now fresh same name = inl (ap (λ (t : Told). t.live.mail name) same)
fresh_mails (post ∷ posts) before now (own, others) (mid, rest, close) name =
    by_name (bytes_eq name post.name) post before mid now name refl own.0 own.1 close (fresh_mails posts before mid others rest name)
