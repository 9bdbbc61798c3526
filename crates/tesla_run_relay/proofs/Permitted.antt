-- What is due to an open post, from what is due in the run.
use Rattle.std.proofs.Common.{◌≡◌, ℕ, zero, suc, ◌<◌, Bool, List, [], ◌∷◌, ◌++◌, length, map, Option, Some, None, IfSome, Ok, slice_index_or, refl, sym, ap, subst, arith}
use Rattle.std.specs.List.{Contains}
use Rattle.tesla_desk.specs.Outside.{Told}
use Rattle.tesla_relay.specs.Due.{IsNextRelayed}
use Rattle.tesla_relay.specs.Numbered.{datagram_of}
use Rattle.tesla_relay.specs.Opened.{AreFresh, post_name}
use Rattle.tesla_relay.specs.Opening.{OpensPosts}
use Rattle.tesla_relay.specs.Play.{having_sent}
use Rattle.tesla_relay.specs.Posts.{PostSeen, with_datagrams}
use Rattle.tesla_relay.proofs.Openings.{opens_new}
use Rattle.tesla_run_relay.specs.Due.{IsNextUnder}

name_at : (posts : List PostSeen) (post : PostSeen) (k : ℕ) → k < length posts → slice_index_or posts k post ≡ post → Contains (map post_name posts) post.name
name_at [] post k inside is = absurd (omega (arith, inside))
name_at (first ∷ posts) post zero inside is = (0, omega arith, ap post_name is)
name_at (first ∷ posts) post (suc k) inside is = let rest = name_at posts post k (omega (arith, inside)) is in (suc rest.0, omega (arith, rest.1), rest.2)

fresh_at : (posts : List PostSeen) (post : PostSeen) (k : ℕ) → AreFresh posts → k < length posts → slice_index_or posts k post ≡ post → IfSome post.sent (λ sent. sent ≡ [])
fresh_at [] post k fresh inside is = absurd (omega (arith, inside))
fresh_at (first ∷ posts) post zero fresh inside is = subst (λ (p : PostSeen). IfSome p.sent (λ sent. sent ≡ [])) is fresh.0.0
fresh_at (first ∷ posts) post (suc k) fresh inside is = fresh_at posts post k fresh.1 (omega (arith, inside)) is

-- a post that had sent nothing has sent these
alone_sent : (sent : Option (List (List ℕ))) (datagrams : List (List ℕ)) → IfSome sent (λ all. all ≡ []) → IfSome (with_datagrams sent datagrams) (λ all. all ≡ datagrams)
alone_sent None datagrams none = tt
alone_sent (Some prefix) datagrams none = ap (λ (all : List (List ℕ)). all ++ datagrams) none

-- one of the posts that were opened has sent these datagrams: it has one of the names, and tells no others
pub opened_sent : (names : List (List ℕ)) (before now : Told) (old posts : List PostSeen) (start post : PostSeen) (datagrams : List (List ℕ)) → old ≡ [] → OpensPosts names before now old posts (Ok tt) → Contains posts start → post ≡ having_sent datagrams start
    → Contains names post.name × IfSome post.sent (λ all. all ≡ datagrams)
opened_sent names before now old posts start post datagrams none opens among is =
    let to = opens_new names before now posts (Ok tt) (subst (λ (ps : List PostSeen). OpensPosts names before now ps posts (Ok tt)) none opens) in
    let named : Contains names start.name = subst (λ (all : List (List ℕ)). Contains all start.name) (to.whole refl).names_are (name_at posts start among.0 among.1 among.2) in (
      subst (λ (p : PostSeen). Contains names p.name) (sym is) named,
      subst (λ (p : PostSeen). IfSome p.sent (λ all. all ≡ datagrams)) (sym is) (alone_sent start.sent datagrams (fresh_at posts start among.0 to.fresh among.1 among.2)),
    )

-- what is due to one of the posts that were opened is due under its name
pub next_of_posts : (brought : ℕ → List ℕ → Bool) (names : List (List ℕ)) (before now : Told) (old posts : List PostSeen) (post : PostSeen) (datagram : List ℕ) → old ≡ [] → OpensPosts names before now old posts (Ok tt) → IsNextRelayed (record { brought = brought; posts = posts }) post datagram → IsNextUnder brought names post.name post.sent datagram
next_of_posts brought names before now old posts post datagram none opens due =
    let both = opened_sent names before now old posts due.start post (map datagram_of due.before) none opens due.among due.post_is in
    record { named = both.0; before = due.before; sent_is = both.1; number = due.number; brought_all = due.brought }
