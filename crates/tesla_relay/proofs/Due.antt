-- What is due to a post, from what has been played to it.
use Rattle.std.proofs.Common.{◌≡◌, ℕ, zero, suc, ◌<◌, ◌≤◌, Bool, true, List, [], ◌∷◌, ◌++◌, length, map, Option, Some, slice_index_or, refl, arith}
use Rattle.std.specs.List.{All, Contains}
use Rattle.tesla_desk.specs.Clocks.{Ticking}
use Rattle.tesla_capture.specs.Capture.{Arrives}
use Rattle.tesla_capture.specs.Reader.{GivesRecord}
use Rattle.tesla_relay.specs.Due.{IsNextPlayed}
use Rattle.tesla_relay.specs.Play.{Played, bytes_of, having_sent}
use Rattle.tesla_relay.specs.Posts.{PostSeen}
use Rattle.tesla_relay.specs.Steps.{PlaysOn}
use Rattle.tesla_relay.proofs.Taken.{played_more, played_prefix}

-- a post stands at the place at which it stood at the start
seen_at : {X : Type 0} (seen : X → PostSeen) (now : PostSeen → PostSeen) (posts : List X) (starts : List PostSeen) (i : ℕ) (d : X) → i < length posts → map seen posts ≡ map now starts → (start : PostSeen) × Contains starts start × (seen (slice_index_or posts i d) ≡ now start)
seen_at seen now [] starts i d inside same = absurd (omega (arith, inside))
seen_at seen now (post ∷ posts) [] i d inside same = absurd cc
seen_at seen now (post ∷ posts) (start ∷ starts) zero d inside same = (start, (0, omega arith, refl), cc)
seen_at seen now (post ∷ posts) (start ∷ starts) (suc i) d inside same =
    let rest = seen_at seen now posts starts i d (omega (arith, inside)) cc in
    let among = rest.1 in
    (rest.0, (suc among.0, omega (arith, among.1), among.2), rest.2)

-- each post may send an arrival that is read behind those that were played, once a clock has given its reading or a later one
pub all_permitted : {X : Type 0} (seen : X → PostSeen) (may_send : X → List ℕ → Bool) (gave : ℕ → Bool) (reading : ℕ) (datagram : List ℕ) (posts starts : List X) (count offset now : ℕ) (left ahead later : Option (List ℕ)) (before mid : Option Ticking)
    → PlaysOn count offset left ahead before mid (map seen starts) (map seen posts) → ((rest : List ℕ) → ahead ≡ Some rest → GivesRecord (Arrives reading datagram) offset rest now later) → (time : ℕ) × (gave time ≡ true) × (reading ≤ time)
    → ((post : X) (sent : List ℕ) → IsNextPlayed gave left (map seen starts) (seen post) sent → may_send post sent ≡ true) → All (λ post. may_send post datagram ≡ true) posts
all_permitted seen may_send gave reading datagram posts starts count offset now left ahead later before mid on gives time due i d inside =
    let at = seen_at seen (having_sent (map bytes_of on.played)) posts (map seen starts) i d inside on.posts_are in
    let one : Played = record { reading = reading; bytes = datagram } in
    due (slice_index_or posts i d) datagram (record {
      start = at.0;
      among = at.1;
      before = on.played;
      post_is = at.2;
      next = record {
        reading = reading;
        first = λ bytes is. let to = on.file bytes is in played_prefix bytes (on.played ++ one ∷ []) now later (played_more bytes on.played offset now ahead later (Arrives reading datagram) to (gives to.rest to.ahead_is));
        now = time.0;
        given = time.1;
        late = time.2;
      };
    })
