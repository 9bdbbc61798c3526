-- What is due to an open post, from what is due in the run.
use Rattle.std.proofs.Common.{◌≡◌, ℕ, Bool, List, [], ◌∷◌, ◌++◌, map, Option, Ok, subst}
use Rattle.std.specs.List.{Contains}
use Rattle.tesla_desk.specs.Outside.{Holds, Opened, Page, Told, Untold, Absent}
use Rattle.tesla_relay.specs.Due.{AreFirstOf, IsNextPlayed}
use Rattle.tesla_relay.specs.Opening.{OpensPosts}
use Rattle.tesla_relay.specs.Play.{Played, bytes_of}
use Rattle.tesla_relay.specs.Posts.{PostSeen}
use Rattle.tesla_run_relay.proofs.Permitted.{opened_sent}
use Rattle.tesla_run_relay.specs.play.Due.{AreFirstIn, IsNextUnder}

-- ---- the capture

first_in : (page : Page) (left : Option (List ℕ)) (played : List Played) → Opened page left → AreFirstOf left played → AreFirstIn page played
first_in Untold left played opened first = tt
first_in Absent left played opened first = opened
first_in (Holds bytes failed) left played opened first = first bytes opened

-- what is due of an open source is due of the page that it was opened at
pub next_of_page : (gave : ℕ → Bool) (page : Page) (left : Option (List ℕ)) (names posts : List (List ℕ)) (name : List ℕ) (sent : Option (List (List ℕ))) (datagram : List ℕ) → Opened page left → names ≡ posts → IsNextUnder gave (AreFirstOf left) names name sent datagram → IsNextUnder gave (AreFirstIn page) posts name sent datagram
next_of_page gave page left names posts name sent datagram opened same due = record {
  named = subst (λ (all : List (List ℕ)). Contains all name) same due.named;
  before = due.before;
  sent_is = due.sent_is;
  next = record {
    reading = due.next.reading;
    first = first_in page left (due.before ++ record { reading = due.next.reading; bytes = datagram } ∷ []) opened due.next.first;
    now = due.next.now;
    given = due.next.given;
    late = due.next.late;
  };
}

-- ---- the posts

-- what is due to one of the posts that were opened is due under its name
pub next_of_posts : (gave : ℕ → Bool) (left : Option (List ℕ)) (names : List (List ℕ)) (before now : Told) (old posts : List PostSeen) (post : PostSeen) (datagram : List ℕ) → old ≡ [] → OpensPosts names before now old posts (Ok tt) → IsNextPlayed gave left posts post datagram → IsNextUnder gave (AreFirstOf left) names post.name post.sent datagram
next_of_posts gave left names before now old posts post datagram none opens due =
    let both = opened_sent names before now old posts due.start post (map bytes_of due.before) none opens due.among due.post_is in
    record { named = both.0; before = due.before; sent_is = both.1; next = due.next }
