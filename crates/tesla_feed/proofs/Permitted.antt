-- What the posts may send.
use Rattle.std.proofs.Common.{◌≡◌, ◌∙◌, ℕ, Bool, true, false, IfSome, List, [], ◌∷◌, ◌++◌, length, map, take, Option, Some, None, sym, ap, subst, arith}
use Rattle.std.specs.List.{Contains}
use Rattle.std.proofs.lemmas.List.{take_all}
use Rattle.std.proofs.lemmas.List.Elements.{Contains-append_left, Contains-append_right, Contains-push}
use Rattle.tesla_relay.specs.Opened.{post_name}
use Rattle.tesla_relay.specs.Posts.{PostSeen, with_datagrams}
use Rattle.tesla_feed.specs.Due.{AreUnsent}
use Rattle.tesla_feed.specs.Feed.{SendPosts, SendsPost}
use Rattle.tesla_feed.specs.Steps.{MayHand}

-- a post that hasn't failed tells to have sent all datagrams
sent_all : (first now : Option (List (List ℕ))) (datagrams : List (List ℕ)) (n : ℕ) → n ≡ length datagrams
    → IfSome first (λ sent. sent ≡ []) → now ≡ with_datagrams first (take n datagrams)
    → IfSome now (λ all. all ≡ datagrams)
sent_all None now datagrams n all none is =
    subst (λ (s : Option (List (List ℕ))). IfSome s (λ all. all ≡ datagrams)) (sym is) tt
sent_all (Some prefix) now datagrams n all none is =
    subst (λ (s : Option (List (List ℕ))). IfSome s (λ all. all ≡ datagrams)) (sym is)
    (ap (λ (p : List (List ℕ)). p ++ take n datagrams) none ∙ take_all n datagrams (omega (arith, all)))

module _ {P : Type 0} (seen : P → PostSeen) (may_send : P → List ℕ → Bool) (datagrams : List (List ℕ))
    (datagram : List ℕ) where
  -- a post that tells to have sent these may send the datagram
  abbrev pub MayNext : List (List ℕ) → Type 0
  MayNext names = (post : P) → Contains names (seen post).name → IfSome (seen post).sent (λ all. all ≡ datagrams)
      → may_send post datagram ≡ true

  may_one : (first : PostSeen) (names : List (List ℕ)) (post : P) (failed : Bool) → MayNext names
      → Contains names first.name → IfSome first.sent (λ sent. sent ≡ [])
      → SendsPost datagrams first (seen post) failed → failed ≡ false → may_send post datagram ≡ true
  may_one first names post true may named unsent sends alive = absurd cc
  may_one first names post false may named unsent sends alive =
      may post (subst (λ (name : List ℕ). Contains names name) (sym sends.name) named)
      (sent_all first.sent (seen post).sent datagrams sends.sends sends.many unsent sends.sent)

  pub may_hand : (firsts : List PostSeen) (names : List (List ℕ)) (posts : List P) (failed : List Bool) → MayNext names
      → ((name : List ℕ) → Contains (map post_name firsts) name → Contains names name) → AreUnsent firsts
      → SendPosts datagrams firsts (map seen posts) failed → MayHand may_send datagram posts failed
  may_hand firsts names [] failed may named unsent sends = tt
  may_hand firsts names (post ∷ posts) [] may named unsent sends = tt
  may_hand [] names (post ∷ posts) (failed ∷ others) may named unsent sends = absurd sends
  may_hand (first ∷ firsts) names (post ∷ posts) (failed ∷ others) may named unsent sends =
      let more = map post_name firsts in (
        may_one first names post failed may
            (named first.name (Contains-append_left (first.name ∷ []) more first.name (Contains-push [] first.name)))
            unsent.0 sends.0,
        may_hand firsts names posts others may
            (λ name has. named name (Contains-append_right (first.name ∷ []) more name has)) unsent.1 sends.1,
      )
