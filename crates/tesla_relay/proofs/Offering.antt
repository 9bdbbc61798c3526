-- What feeds have offered to the queues before posts, one datagram later.
use Rattle.std.proofs.Common.{◌≡◌, ◌∙◌, ◌⊎◌, inl, inr, ℕ, suc, ◌-◌, ◌^◌, ◌<◌, ◌≤◌, Bool, true, List, [], ◌∷◌, ◌++◌, length, refl, sym, ap, subst, arith}
use Rattle.std.proofs.lemmas.Bool.{cases_lt}
use Rattle.tesla_relay.specs.Feeding.{Fed, IsFeeding, ServerSeen, came_in}
use Rattle.tesla_relay.specs.Lists.{Each, FeedsOn, HaveCome, Starts}
use Rattle.tesla_relay.specs.Offers.{AllOffered, AreNumbered, HasOffered, HaveOffered, Offers, WasOffered}
use Rattle.tesla_relay.specs.Posts.{PostSeen}
use Rattle.tesla_relay.specs.Queues.{Starting}
use Rattle.tesla_relay.specs.declared.feed.Feed.{Feed}
use Rattle.tesla_relay.proofs.Queued.{each_length}

-- each feed has this capacity
abbrev AreSized : {X : Type 0} → ℕ → List (Feed X) → Type 0
AreSized capacity [] = Unit {0}
AreSized capacity (feed ∷ feeds) = (feed.capacity ≡ capacity) × AreSized capacity feeds

sized_snoc : {X : Type 0} (capacity : ℕ) (feeds : List (Feed X)) (feed : Feed X) → AreSized capacity feeds → feed.capacity ≡ capacity → AreSized capacity (feeds ++ feed ∷ [])
sized_snoc capacity [] feed all is = (is, tt)
sized_snoc capacity (first ∷ feeds) feed all is = (all.0, sized_snoc capacity feeds feed all.1 is)

starting_sized : {X : Type 0} (capacity : ℕ) (posts : List PostSeen) (feeds : List (Feed X)) (servers : List ServerSeen) → Starting capacity posts feeds servers → AreSized capacity feeds
starting_sized capacity [] feeds servers start = subst (AreSized capacity) (sym start.0) tt
starting_sized capacity (post ∷ posts) feeds servers start = subst (AreSized capacity) (sym start.4) (sized_snoc capacity start.0 start.1 (starting_sized capacity posts start.0 start.2 start.7) start.6.capacity_is)

module _ (was_put : ℕ → ℕ → Bool) (was_full : ℕ → ℕ → ℕ → Bool) where
  -- a datagram behind those of which queues take any needs no queue
  pub offered_late : (capacity post number : ℕ) → 2 ^ 62 - 2 ≤ number → WasOffered was_put was_full capacity post number
  offered_late capacity post number late = inr (inr late)

  pub offered_put : (capacity post number : ℕ) → was_put post number ≡ true → WasOffered was_put was_full capacity post number
  offered_put capacity post number put = inl put

  pub offered_full : (capacity post number : ℕ) → was_full capacity post number ≡ true → WasOffered was_put was_full capacity post number
  offered_full capacity post number full = inr (inl full)

  module _ {X : Type 0} where
    -- it came to each feed
    pub each_fed : (datagram : List ℕ) (a b : List (Feed X)) → Each (Offers was_put was_full datagram) a b → Each (FeedsOn (datagram ∷ [])) a b
    each_fed datagram [] [] offers = tt
    each_fed datagram [] (y ∷ b) offers = absurd offers
    each_fed datagram (x ∷ a) [] offers = absurd offers
    each_fed datagram (x ∷ a) (y ∷ b) offers = (offers.0.feeds, each_fed datagram a b offers.1)

    -- the datagram of this number was offered too
    one_more : (capacity post number : ℕ) (datagram : List ℕ) (old new : Feed X) → Offers was_put was_full datagram old new → old.came ≡ came_in number → HasOffered was_put was_full capacity post number old → HasOffered was_put was_full capacity post (suc number) new
    one_more capacity post number datagram old new offers came has = record {
      capacity_is = offers.feeds.same.capacity ∙ has.capacity_is;
      post_is = offers.feeds.same.post ∙ has.post_is;
      each = λ earlier before. by_place earlier before (cases_lt earlier number);
    }
      where
        own : (old.came < 2 ^ 62 - 2) ⊎ (2 ^ 62 - 2 ≤ old.came) → WasOffered was_put was_full capacity post number
        own (inl few) =
            let same : old.came ≡ number = omega (arith, came, few) in
            subst (λ n. WasOffered was_put was_full capacity post n) same
            (subst (λ p. WasOffered was_put was_full capacity p old.came) has.post_is
            (subst (λ c. WasOffered was_put was_full c old.post old.came) has.capacity_is offers.offered))
        own (inr many) = offered_late capacity post number (omega (arith, came, many))

        by_place : (earlier : ℕ) → earlier < suc number → (earlier < number) ⊎ (number ≤ earlier) → WasOffered was_put was_full capacity post earlier
        by_place earlier before (inl less) = has.each earlier less
        by_place earlier before (inr not_less) =
            let same : number ≡ earlier = omega (arith, before, not_less) in
            subst (λ n. WasOffered was_put was_full capacity post n) same (own (cases_lt old.came (2 ^ 62 - 2)))

    pub have_offered : (capacity number : ℕ) (datagram : List ℕ) (a b : List (Feed X)) → Each (Offers was_put was_full datagram) a b → HaveCome number a → HaveOffered was_put was_full capacity number a → HaveOffered was_put was_full capacity (suc number) b
    have_offered capacity number datagram [] [] offers come have = tt
    have_offered capacity number datagram [] (y ∷ b) offers come have = absurd offers
    have_offered capacity number datagram (x ∷ a) [] offers come have = absurd offers
    have_offered capacity number datagram (x ∷ a) (y ∷ b) offers come have =
        let size : length b ≡ length a = each_length (Offers was_put was_full datagram) a b offers.1 in (
          subst (λ post. HasOffered was_put was_full capacity post (suc number) y) (sym size) (one_more capacity (length a) number datagram x y offers.0 come.0 have.0),
          have_offered capacity number datagram a b offers.1 come.1 have.1,
        )

    -- there is a feed for each post
    pub all_offered : (capacity number : ℕ) (feeds : List (Feed X)) → HaveOffered was_put was_full capacity number feeds → AllOffered was_put was_full capacity (length feeds) number
    all_offered capacity number [] have post earlier among before = absurd (omega (arith, among))
    all_offered capacity number (feed ∷ feeds) have post earlier among before = by_place (λ less. all_offered capacity number feeds have.1 post earlier less before) (cases_lt post (length feeds))
      where
        by_place : (post < length feeds → WasOffered was_put was_full capacity post earlier) → (post < length feeds) ⊎ (length feeds ≤ post) → WasOffered was_put was_full capacity post earlier
        by_place others (inl less) = others less
        by_place others (inr not_less) =
            let same : length feeds ≡ post = omega (arith, among, not_less) in
            subst (λ p. WasOffered was_put was_full capacity p earlier) same (have.0.each earlier before)

    -- nothing was offered yet, and nothing came
    none_offered : (capacity : ℕ) (feeds : List (Feed X)) → AreSized capacity feeds → AreNumbered feeds → HaveOffered was_put was_full capacity 0 feeds
    none_offered capacity [] sized numbered = tt
    none_offered capacity (feed ∷ feeds) sized numbered = (record { capacity_is = sized.0; post_is = numbered.0; each = λ earlier before. absurd (omega (arith, before)) }, none_offered capacity feeds sized.1 numbered.1)

    pub starting_offered : (capacity : ℕ) (posts : List PostSeen) (feeds : List (Feed X)) (servers : List ServerSeen) → Starting capacity posts feeds servers → AreNumbered feeds → HaveOffered was_put was_full capacity 0 feeds
    starting_offered capacity posts feeds servers start numbered = none_offered capacity feeds (starting_sized capacity posts feeds servers start) numbered

-- a feed may be given the place of its post
pub starts_at : {X : Type 0} (capacity : ℕ) (post : PostSeen) (feed : Feed X) (server : ServerSeen) (place : ℕ) → Starts capacity post feed server → Starts capacity post (record feed { post = place }) server
starts_at capacity post feed server place starts = record {
  feeding = record {
    own = starts.feeding.own;
    items = starts.feeding.items;
    view_is = starts.feeding.view_is;
    counts = starts.feeding.counts;
    below = starts.feeding.below;
    first = starts.feeding.first;
    room = starts.feeding.room;
    few = starts.feeding.few;
  };
  fed = starts.fed;
  came = starts.came;
  capacity_is = starts.capacity_is;
  serving = starts.serving;
  served = starts.served;
  table = starts.table;
}
