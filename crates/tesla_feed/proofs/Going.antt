-- What is sent and read, one thing after another.
use Rattle.std.proofs.Common.{◌≡◌, ◌∙◌, ℕ, ◌+◌, Bool, true, false, List, [], ◌∷◌, ◌++◌, length, map, take, Option, Some, None, refl, sym, ap, subst, append_assoc, append-nil, length-append, arith}
use Rattle.std.specs.List.{AllByRecursion}
use Rattle.std.proofs.lemmas.List.{take-append-le, take_all}
use Rattle.tesla_desk.proofs.Given.{gives_more}
use Rattle.tesla_desk.specs.Clocks.{Ticking, Ticks}
use Rattle.tesla_desk.specs.Faults.{HasCause}
use Rattle.tesla_desk.specs.Links.{after_letters}
use Rattle.tesla_desk.specs.declared.link.Letter.{Letter}
use Rattle.tesla_relay.specs.Posts.{PostSeen, with_datagrams}
use Rattle.tesla_sender.specs.Made.{Call, Stream}
use Rattle.tesla_feed.specs.Fed.{datagram_of, datagrams_from, is_unread}
use Rattle.tesla_feed.specs.Feed.{OpensAt, SendPosts, SendsPost}
use Rattle.tesla_feed.specs.Steps.{HandPosts, HandsPost, Misses}

-- ---- posts

sent_twice : (sent : Option (List (List ℕ))) (a b : List (List ℕ)) → with_datagrams (with_datagrams sent a) b ≡ with_datagrams sent (a ++ b)
sent_twice None a b = refl
sent_twice (Some prefix) a b = ap (λ (ds : List (List ℕ)). Some ds) (append_assoc prefix a b)

sent_none : (sent : Option (List (List ℕ))) → with_datagrams sent [] ≡ sent
sent_none None = refl
sent_none (Some prefix) = ap (λ (ds : List (List ℕ)). Some ds) (append-nil prefix)

differ : (false ≡ true) → ⊥
differ e = absurd cc

-- all of these and one more
take_more : (datagrams : List (List ℕ)) (datagram : List ℕ) (n : ℕ) → n ≡ length datagrams → take n datagrams ++ datagram ∷ [] ≡ take (n + 1) (datagrams ++ datagram ∷ [])
take_more datagrams datagram n all =
    ap (λ (ds : List (List ℕ)). ds ++ datagram ∷ []) (take_all n datagrams (omega arith)) ∙ sym (take_all (n + 1) (datagrams ++ datagram ∷ []) (omega (arith, length-append datagrams (datagram ∷ []))))

-- a datagram more was handed to a post
post_more : (datagrams : List (List ℕ)) (datagram : List ℕ) (first before now : PostSeen) (failed failed_now : Bool) → SendsPost datagrams first before failed → HandsPost datagram before now failed failed_now → SendsPost (datagrams ++ datagram ∷ []) first now failed_now
post_more datagrams datagram first before now false false sends hands = record {
  sends = sends.sends + 1;
  many = omega (arith, length-append datagrams (datagram ∷ []), sends.many);
  sent = hands.sent refl ∙ ap (λ (s : Option (List (List ℕ))). with_datagrams s (datagram ∷ [])) sends.sent ∙ sent_twice first.sent (take sends.sends datagrams) (datagram ∷ []) ∙ ap (with_datagrams first.sent) (take_more datagrams datagram sends.sends sends.many);
  name = hands.name ∙ sends.name;
  cause = record { stays = omega (arith, (hands.cause refl).stays, sends.cause.stays); rose = λ e. absurd cc; still = λ e. (hands.cause refl).still (λ f. absurd cc) ∙ sends.cause.still (λ f. absurd cc) };
}
post_more datagrams datagram first before now false true sends hands = record {
  sends = sends.sends;
  many = omega (arith, length-append datagrams (datagram ∷ []), sends.many);
  sent = hands.unsent refl ∙ sends.sent ∙ ap (with_datagrams first.sent) (sym (take-append-le sends.sends datagrams (datagram ∷ []) (omega (arith, sends.many))));
  name = hands.name ∙ sends.name;
  cause = (let same : before.faults ≡ first.faults = sends.cause.still (λ f. absurd cc) in subst (λ (n : ℕ). HasCause n now.faults (true ≡ true)) same (hands.cause refl));
}
post_more datagrams datagram first before now true true sends hands = record {
  sends = sends.sends;
  many = omega (arith, length-append datagrams (datagram ∷ []), sends.many);
  sent = hands.unsent refl ∙ sends.sent ∙ ap (with_datagrams first.sent) (sym (take-append-le sends.sends datagrams (datagram ∷ []) (omega (arith, sends.many))));
  name = hands.name ∙ sends.name;
  cause = (let same : now.faults ≡ before.faults = (hands.stays refl).1 in subst (λ (n : ℕ). HasCause first.faults n (true ≡ true)) (sym same) sends.cause);
}
post_more datagrams datagram first before now true false sends hands = (let same : false ≡ true = (hands.stays refl).0 in absurd (differ same))

pub posts_more : (datagrams : List (List ℕ)) (datagram : List ℕ) (firsts befores nows : List PostSeen) (failed failed_now : List Bool) → SendPosts datagrams firsts befores failed → HandPosts datagram befores nows failed failed_now → SendPosts (datagrams ++ datagram ∷ []) firsts nows failed_now
posts_more datagrams datagram [] [] [] [] [] sends hands = tt
posts_more datagrams datagram (first ∷ firsts) (before ∷ befores) (now ∷ nows) (failed ∷ others) (failed_now ∷ others_now) sends hands =
    (post_more datagrams datagram first before now failed failed_now sends.0 hands.0, posts_more datagrams datagram firsts befores nows others others_now sends.1 hands.1)
posts_more datagrams datagram [] [] [] [] (failed ∷ others) sends hands = absurd hands
posts_more datagrams datagram [] [] [] (failed ∷ others) failed_now sends hands = absurd sends
posts_more datagrams datagram [] [] (now ∷ nows) failed failed_now sends hands = absurd hands
posts_more datagrams datagram [] (before ∷ befores) nows failed failed_now sends hands = absurd sends
posts_more datagrams datagram (first ∷ firsts) [] nows failed failed_now sends hands = absurd sends
posts_more datagrams datagram (first ∷ firsts) (before ∷ befores) [] failed failed_now sends hands = absurd hands
posts_more datagrams datagram (first ∷ firsts) (before ∷ befores) (now ∷ nows) [] failed_now sends hands = absurd sends
posts_more datagrams datagram (first ∷ firsts) (before ∷ befores) (now ∷ nows) (failed ∷ others) [] sends hands = absurd hands

-- ---- calls

pub datagrams_more : (stream : Stream) (before log : List Call) (call : Call) → datagrams_from stream before (log ++ call ∷ []) ≡ datagrams_from stream before log ++ datagram_of stream (before ++ log) call
datagrams_more stream before [] call = append-nil (datagram_of stream before call) ∙ ap (λ (b : List Call). datagram_of stream b call) (sym (append-nil before))
datagrams_more stream before (first ∷ log) call =
    ap (λ (ds : List (List ℕ)). datagram_of stream before first ++ ds) (datagrams_more stream (before ++ first ∷ []) log call)
    ∙ ap (λ (b : List Call). datagram_of stream before first ++ (datagrams_from stream (before ++ first ∷ []) log ++ datagram_of stream b call)) (append_assoc before (first ∷ []) log)
    ∙ sym (append_assoc (datagram_of stream before first) (datagrams_from stream (before ++ first ∷ []) log) (datagram_of stream (before ++ first ∷ log) call))

-- ---- readings

pub map_more : {A B : Type 0} (f : A → B) (xs : List A) (x : A) → map f (xs ++ x ∷ []) ≡ map f xs ++ f x ∷ []
map_more f [] x = refl
map_more f (y ∷ xs) x = ap (λ ys. f y ∷ ys) (map_more f xs x)

pub all_more : {A : Type 0} (P : A → Type 0) (xs : List A) (x : A) → AllByRecursion P xs → P x → AllByRecursion P (xs ++ x ∷ [])
all_more P [] x all one = (one, tt)
all_more P (y ∷ xs) x all one = (all.0, all_more P xs x all.1 one)

-- the clock wasn't asked yet
pub misses_none : (told : Option Ticking) → Misses told told
misses_none told = record { unread = []; gives = refl; missed = tt }

-- it couldn't be read once more
pub misses_more : (reading : ℕ) (before then after : Option Ticking) → Misses before then → Ticks then after reading → is_unread reading ≡ true → Misses before after
misses_more reading before then after misses ticks unread = record {
  unread = misses.unread ++ reading ∷ [];
  gives = gives_more misses.unread before then after reading misses.gives ticks;
  missed = all_more (λ r. is_unread r ≡ true) misses.unread reading misses.missed unread;
}

-- and then it could
pub opens_at : (reading : ℕ) (before then after : Option Ticking) → Misses before then → Ticks then after reading → is_unread reading ≡ false → OpensAt reading before after
opens_at reading before then after misses ticks read = record {
  unread = misses.unread;
  gives = gives_more misses.unread before then after reading misses.gives ticks;
  missed = misses.missed;
  read = read;
}

-- ---- items

pub letters_twice : (left : Option (List Letter)) (a b : List Letter) → after_letters a (after_letters b left) ≡ after_letters (a ++ b) left
letters_twice None a b = refl
letters_twice (Some rest) a b = ap (λ (ls : List Letter). Some ls) (sym (append_assoc a b rest))

pub letters_none : (left : Option (List Letter)) → left ≡ after_letters [] left
letters_none None = refl
letters_none (Some rest) = refl

-- ---- tests

pub both_ways : (b : Bool) → b ≡ true → b ≡ false → ⊥
both_ways b is isn't = differ (sym isn't ∙ is)
