-- What posts have sent, as datagrams are handed to them one after another.
use Rattle.std.proofs.Common.{◌≡◌, ◌∙◌, inl, inr, ℕ, Bool, true, false, List, [], ◌∷◌, ◌++◌, map, Option, Some, None, refl, sym, ap, append_assoc, append-nil}
use Rattle.tesla_desk.specs.Faults.{HasCause}
use Rattle.tesla_desk.specs.Posts.{with_datagram}
use Rattle.tesla_relay.specs.Posts.{PostSeen, with_datagrams}
use Rattle.tesla_relay.specs.Play.{BreaksAt, having_sent}
use Rattle.tesla_relay.specs.Steps.{Hands}

sent_none : (sent : Option (List (List ℕ))) → with_datagrams sent [] ≡ sent
sent_none None = refl
sent_none (Some prefix) = ap (λ (ds : List (List ℕ)). Some ds) (append-nil prefix)

pub sent_twice : (sent : Option (List (List ℕ))) (a b : List (List ℕ)) → with_datagrams (with_datagrams sent a) b ≡ with_datagrams sent (a ++ b)
sent_twice None a b = refl
sent_twice (Some prefix) a b = ap (λ (ds : List (List ℕ)). Some ds) (append_assoc prefix a b)

-- nothing was sent yet
pub none_sent : (posts : List PostSeen) → posts ≡ map (having_sent []) posts
none_sent [] = refl
none_sent (post ∷ posts) =
    ap (λ (s : Option (List (List ℕ))). let it : PostSeen = record post { sent = s } in it ∷ posts) (sym (sent_none post.sent)) ∙ ap (λ (ps : List PostSeen). having_sent [] post ∷ ps) (none_sent posts)

-- datagrams behind others
pub both_sent : (posts : List PostSeen) (a b : List (List ℕ)) → map (having_sent b) (map (having_sent a) posts) ≡ map (having_sent (a ++ b)) posts
both_sent [] a b = refl
both_sent (post ∷ posts) a b =
    ap (λ (s : Option (List (List ℕ))). let it : PostSeen = record post { sent = s } in it ∷ map (having_sent b) (map (having_sent a) posts)) (sent_twice post.sent a b) ∙ ap (λ (ps : List PostSeen). having_sent (a ++ b) post ∷ ps) (both_sent posts a b)

-- ---- one datagram

-- a post sent it
sent_one : (datagram : List ℕ) (post now : PostSeen) → now.sent ≡ with_datagram post.sent datagram → now.name ≡ post.name → now.faults ≡ post.faults → now ≡ having_sent (datagram ∷ []) post
sent_one datagram post now sent name faults =
    ap (λ (n : List ℕ). let it : PostSeen = record { name = n; sent = now.sent; faults = now.faults } in it) name
    ∙ ap (λ (s : Option (List (List ℕ))). let it : PostSeen = record { name = post.name; sent = s; faults = now.faults } in it) sent
    ∙ ap (λ (n : ℕ). let it : PostSeen = record { name = post.name; sent = with_datagram post.sent datagram; faults = n } in it) faults

-- the first post sent it, and it was handed to the others
pub hands_first : (datagram : List ℕ) (whole : Bool) (post now : PostSeen) (posts posts_now : List PostSeen) → now.sent ≡ with_datagram post.sent datagram → now.name ≡ post.name → now.faults ≡ post.faults → Hands datagram whole posts posts_now → Hands datagram whole (post ∷ posts) (now ∷ posts_now)
hands_first datagram true post now posts posts_now sent name faults hands =
    ap (λ (p : PostSeen). p ∷ posts_now) (sent_one datagram post now sent name faults) ∙ ap (λ (ps : List PostSeen). having_sent (datagram ∷ []) post ∷ ps) hands
hands_first datagram false post now posts posts_now sent name faults hands = inl (sent_one datagram post now sent name faults, hands)

-- the first post failed
pub hands_none : (datagram : List ℕ) (failed : Type 0) (post now : PostSeen) (posts : List PostSeen) → now.sent ≡ post.sent → now.name ≡ post.name → HasCause post.faults now.faults failed → failed → BreaksAt datagram (post ∷ posts) (now ∷ posts)
hands_none datagram failed post now posts sent name cause fails = inr (record { name = name; sent = sent; stays = cause.stays; rose = cause.rose fails }, refl)
