-- What was offered to queues, and when a link may be asked again. Queues stand before posts, and the link is asked for its next letter.
use Rattle.std.specs.Prelude.{◌≡◌, ◌⊎◌, ℕ, ◌-◌, ◌^◌, ◌<◌, ◌≤◌, Bool, true, List, [], ◌∷◌, length}
use Rattle.tesla_relay.specs.Lists.{FeedsOn}
use Rattle.tesla_relay.specs.declared.feed.Feed.{Feed}

-- told which datagrams were put into the queue of which post, and which queue held so many items when which datagram had come
module _ (was_put : ℕ → ℕ → Bool) (was_full : ℕ → ℕ → ℕ → Bool) where
  -- a datagram was offered to the queue of a post: it was put in, or the queue held as many as it may, or it is behind those of which a queue takes any
  abbrev pub WasOffered : (capacity post number : ℕ) → Type 0
  WasOffered capacity post number = (was_put post number ≡ true) ⊎ (was_full capacity post number ≡ true) ⊎ (2 ^ 62 - 2 ≤ number)

  -- each of the first so many datagrams was offered to the queue of each of so many posts
  abbrev pub AllOffered : (capacity posts number : ℕ) → Type 0
  AllOffered capacity posts number = (post earlier : ℕ) → post < posts → earlier < number → WasOffered capacity post earlier

  -- a link may be asked for its next letter once all datagrams that it has brought were offered to all posts
  abbrev pub MayAskNext : {K : Type 0} → (has_brought : K → ℕ → Bool) → (may_ask : K → Bool) → (capacity posts : ℕ) → Type 0
  MayAskNext {K} has_brought may_ask capacity posts = (link : K) (number : ℕ) → has_brought link number ≡ true → AllOffered capacity posts number → may_ask link ≡ true

  -- ---- feeds

  -- a datagram came to a feed, and was offered to its queue
  pub record Offers {X : Type 0} (datagram : List ℕ) (old new : Feed X) : Type 0 where
    pub feeds : FeedsOn (datagram ∷ []) old new
    pub offered : WasOffered old.capacity old.post old.came

  -- each of the first so many datagrams was offered to the queue of this post by its feed
  pub record HasOffered {X : Type 0} (capacity post number : ℕ) (feed : Feed X) : Type 0 where
    pub capacity_is : feed.capacity ≡ capacity
    pub post_is : feed.post ≡ post
    pub each : (earlier : ℕ) → earlier < number → WasOffered capacity post earlier

  -- the same of all feeds, which are those of the posts from the last to the first
  abbrev pub HaveOffered : {X : Type 0} → (capacity number : ℕ) → List (Feed X) → Type 0
  HaveOffered capacity number [] = Unit {0}
  HaveOffered capacity number (feed ∷ feeds) = HasOffered capacity (length feeds) number feed × HaveOffered capacity number feeds

  -- feeds that have offered nothing yet, and a link that may be asked once they have offered what it has brought
  abbrev pub MayHear : {K X : Type 0} → (has_brought : K → ℕ → Bool) → (may_ask : K → Bool) → List (Feed X) → Type 0
  MayHear has_brought may_ask feeds = (capacity : ℕ) × HaveOffered capacity 0 feeds × MayAskNext has_brought may_ask capacity (length feeds)

-- feeds are those of the posts from the last to the first
abbrev pub AreNumbered : {X : Type 0} → List (Feed X) → Type 0
AreNumbered [] = Unit {0}
AreNumbered (feed ∷ feeds) = (feed.post ≡ length feeds) × AreNumbered feeds
