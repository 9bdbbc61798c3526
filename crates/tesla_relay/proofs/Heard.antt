-- What came to several feeds and servers, one step later.
use Rattle.std.proofs.Common.{◌≡◌, ◌∙◌, ℕ, zero, suc, ◌<◌, arith, slice_index_or, map, List, [], ◌∷◌, ◌++◌, ◌+◌, length, Option, Some, None, IfSome, refl, sym, ap, subst, append-nil, append_assoc}
use Rattle.std.proofs.lemmas.List.{length-append}
use Rattle.std.proofs.lemmas.List.Concat.{flat_map-append}
use Rattle.tesla_desk.specs.Links.{after_letters, datagram_in, datagrams}
use Rattle.tesla_desk.specs.declared.link.Letter.{Letter}
use Rattle.tesla_desk.specs.declared.link.Letter.TheVariants as letters
use Rattle.tesla_relay.specs.Due.{Basis}
use Rattle.tesla_relay.specs.Feeding.{Closed, Fed, IsFeeding, IsSameFeed, IsServing, ServerSeen, ServesOn, came_in}
use Rattle.tesla_relay.specs.Lists.{AreFeeding, AreServing, Each, FeedsAll, FeedsOn, HaveCome, HearsAll, HearsOn, MayServe, ServesAll}
use Rattle.tesla_relay.specs.declared.feed.Feed.{Feed}
use Rattle.tesla_relay.specs.declared.relayed.RelayEnd.{RelayEnd}
use Rattle.tesla_relay.specs.declared.relayed.RelayEnd.TheVariants.{Ended}

-- ---- feeds

same_feeds : {X : Type 0} (a b c : Feed X) → IsSameFeed a b → IsSameFeed b c → IsSameFeed a c
same_feeds a b c one two = record { table = two.table ∙ one.table; capacity = two.capacity ∙ one.capacity; post = two.post ∙ one.post }

pub feeds_none : {X : Type 0} (feeds : List (Feed X)) → AreFeeding feeds → Each (FeedsOn []) feeds feeds
feeds_none [] feeding = tt
feeds_none (feed ∷ feeds) feeding = (record { feeding = feeding.0; same = record { table = refl; capacity = refl; post = refl }; fed = λ before fed. subst (λ (all : List (List ℕ)). Fed all feed) (sym (append-nil before)) fed; came = omega (arith, feeding.0.counts) }, feeds_none feeds feeding.1)

feeds_then : {X : Type 0} (arrived more : List (List ℕ)) (a b c : List (Feed X)) → Each (FeedsOn arrived) a b → Each (FeedsOn more) b c → Each (FeedsOn (arrived ++ more)) a c
feeds_then arrived more [] [] [] one two = tt
feeds_then arrived more [] [] (z ∷ c) one two = absurd two
feeds_then arrived more [] (y ∷ b) c one two = absurd one
feeds_then arrived more (x ∷ a) [] c one two = absurd one
feeds_then arrived more (x ∷ a) (y ∷ b) [] one two = absurd two
feeds_then arrived more (x ∷ a) (y ∷ b) (z ∷ c) one two = (
  record {
    feeding = two.0.feeding;
    same = same_feeds x y z one.0.same two.0.same;
    fed = λ before fed. subst (λ (all : List (List ℕ)). Fed all z) (append_assoc before arrived more) (two.0.fed (before ++ arrived) (one.0.fed before fed));
    came = omega (arith, one.0.came, two.0.came, length-append arrived more);
  },
  feeds_then arrived more a b c one.1 two.1,
)

feeds_end : {X : Type 0} (arrived : List (List ℕ)) (a b c : List (Feed X)) → Each (FeedsOn arrived) a b → Each (FeedsAll []) b c → Each (FeedsAll arrived) a c
feeds_end arrived [] [] [] one two = tt
feeds_end arrived [] [] (z ∷ c) one two = absurd two
feeds_end arrived [] (y ∷ b) c one two = absurd one
feeds_end arrived (x ∷ a) [] c one two = absurd one
feeds_end arrived (x ∷ a) (y ∷ b) [] one two = absurd two
feeds_end arrived (x ∷ a) (y ∷ b) (z ∷ c) one two = (
  record {
    own = two.0.own;
    same = same_feeds x y z one.0.same two.0.same;
    fed = λ before fed. subst (λ (all : List (List ℕ)). Closed all z) (append-nil (before ++ arrived)) (two.0.fed (before ++ arrived) (one.0.fed before fed));
  },
  feeds_end arrived a b c one.1 two.1,
)

pub are_feeding : {X : Type 0} (arrived : List (List ℕ)) (a b : List (Feed X)) → Each (FeedsOn arrived) a b → AreFeeding b
are_feeding arrived [] [] on = tt
are_feeding arrived [] (y ∷ b) on = absurd on
are_feeding arrived (x ∷ a) [] on = absurd on
are_feeding arrived (x ∷ a) (y ∷ b) on = (on.0.feeding, are_feeding arrived a b on.1)

-- so many more came to each
pub have_come : {X : Type 0} (number : ℕ) (arrived : List (List ℕ)) (a b : List (Feed X)) → Each (FeedsOn arrived) a b → HaveCome number a → HaveCome (number + length arrived) b
have_come number arrived [] [] on come = tt
have_come number arrived [] (y ∷ b) on come = absurd on
have_come number arrived (x ∷ a) [] on come = absurd on
have_come number arrived (x ∷ a) (y ∷ b) on come = (omega (arith, on.0.came, come.0), have_come number arrived a b on.1 come.1)

pub come_at : {X : Type 0} (number : ℕ) (xs : List (Feed X)) (i : ℕ) (d : Feed X) → i < length xs → HaveCome number xs → (slice_index_or xs i d).came ≡ came_in number
come_at number [] i d inside all = absurd (omega (arith, inside))
come_at number (x ∷ xs) zero d inside all = all.0
come_at number (x ∷ xs) (suc i) d inside all = come_at number xs i d (omega (arith, inside)) all.1

-- ---- letters

letters_then : (taken more : List Letter) (left mid later : Option (List Letter)) → left ≡ after_letters taken mid → mid ≡ after_letters more later → left ≡ after_letters (taken ++ more) later
letters_then taken more left mid None is next = is ∙ ap (λ l. after_letters taken l) next
letters_then taken more left mid (Some rest) is next = is ∙ ap (λ l. after_letters taken l) next ∙ ap (λ all. Some all) (sym (append_assoc taken more rest))

letters_none : (left : Option (List Letter)) → left ≡ after_letters [] left
letters_none None = refl
letters_none (Some rest) = refl

pub hears_none : {X : Type 0} (left : Option (List Letter)) (feeds : List (Feed X)) → AreFeeding feeds → HearsOn left left feeds feeds
hears_none left feeds feeding = record { taken = []; left_is = letters_none left; feeds = feeds_none feeds feeding }

pub hears_quiet : {X : Type 0} (left mid later : Option (List Letter)) (olds feeds : List (Feed X)) → HearsOn left mid olds feeds → mid ≡ after_letters (letters.Quiet ∷ []) later → HearsOn left later olds feeds
hears_quiet left mid later olds feeds hears quiet = record {
  taken = hears.taken ++ letters.Quiet ∷ [];
  left_is = letters_then hears.taken (letters.Quiet ∷ []) left mid later hears.left_is quiet;
  feeds = subst (λ (all : List (List ℕ)). Each (FeedsOn all) olds feeds) (sym (flat_map-append datagram_in hears.taken (letters.Quiet ∷ []) ∙ append-nil (datagrams hears.taken))) hears.feeds;
}

pub hears_more : {X : Type 0} (datagram : List ℕ) (left mid later : Option (List Letter)) (olds feeds news : List (Feed X)) → HearsOn left mid olds feeds → mid ≡ after_letters (letters.Datagram datagram ∷ []) later → Each (FeedsOn (datagram ∷ [])) feeds news → HearsOn left later olds news
hears_more datagram left mid later olds feeds news hears arrived on = record {
  taken = hears.taken ++ letters.Datagram datagram ∷ [];
  left_is = letters_then hears.taken (letters.Datagram datagram ∷ []) left mid later hears.left_is arrived;
  feeds = subst (λ (all : List (List ℕ)). Each (FeedsOn all) olds news) (sym (flat_map-append datagram_in hears.taken (letters.Datagram datagram ∷ []))) (feeds_then (datagrams hears.taken) (datagram ∷ []) olds feeds news hears.feeds on);
}

pub hears_same : {X : Type 0} (left mid later : Option (List Letter)) (olds feeds : List (Feed X)) → HearsOn left mid olds feeds → later ≡ mid → HearsOn left later olds feeds
hears_same left mid later olds feeds hears same = subst (λ (l : Option (List Letter)). HearsOn left l olds feeds) (sym same) hears

pub hears_end : {X : Type 0} (end : RelayEnd) (left later : Option (List Letter)) (olds feeds news : List (Feed X)) → HearsOn left later olds feeds → Each (FeedsAll []) feeds news → (end ≡ Ended → IfSome later (λ rest. rest ≡ [])) → HearsAll end left later olds news
hears_end end left later olds feeds news hears all ended = record {
  taken = hears.taken;
  left_is = hears.left_is;
  feeds = feeds_end (datagrams hears.taken) olds feeds news hears.feeds all;
  ended = ended;
}

-- ---- servers

pub on_then : (a b c : ServerSeen) → ServesOn a b → ServesOn b c → ServesOn a c
on_then a b c one two = record {
  serving = two.serving;
  same = record { table = two.same.table ∙ one.same.table; pass = two.same.pass ∙ one.same.pass };
  served = λ start served. two.served start (one.served start served);
}

pub on_none : (a : ServerSeen) → IsServing a → ServesOn a a
on_none a serving = record { serving = serving; same = record { table = refl; pass = refl }; served = λ start served. served }

pub serve_none : (basis : Basis) (servers : List ServerSeen) → AreServing basis servers → Each ServesOn servers servers
serve_none basis [] serving = tt
serve_none basis (server ∷ servers) serving = (on_none server serving.0.0, serve_none basis servers serving.1)

pub serve_then : (a b c : List ServerSeen) → Each ServesOn a b → Each ServesOn b c → Each ServesOn a c
serve_then [] [] [] one two = tt
serve_then [] [] (z ∷ c) one two = absurd two
serve_then [] (y ∷ b) c one two = absurd one
serve_then (x ∷ a) [] c one two = absurd one
serve_then (x ∷ a) (y ∷ b) [] one two = absurd two
serve_then (x ∷ a) (y ∷ b) (z ∷ c) one two = (on_then x y z one.0 two.0, serve_then a b c one.1 two.1)

-- it has served its post then, too
pub may_serve : (basis : Basis) (a b : ServerSeen) → MayServe basis a → ServesOn a b → MayServe basis b
may_serve basis a b may on = (on.serving, record { start = may.1.start; among = may.1.among; served = on.served may.1.start may.1.served })

pub are_serving : (basis : Basis) (a b : List ServerSeen) → AreServing basis a → Each ServesOn a b → AreServing basis b
are_serving basis [] [] all on = tt
are_serving basis [] (y ∷ b) all on = absurd on
are_serving basis (x ∷ a) [] all on = absurd on
are_serving basis (x ∷ a) (y ∷ b) all on = (may_serve basis x y all.0 on.0, are_serving basis a b all.1 on.1)

-- ---- servers that went on to the end

pub serve_all_then : (a b c : List ServerSeen) → Each ServesOn a b → Each ServesAll b c → Each ServesAll a c
serve_all_then [] [] [] one two = tt
serve_all_then [] [] (z ∷ c) one two = absurd two
serve_all_then [] (y ∷ b) c one two = absurd one
serve_all_then (x ∷ a) [] c one two = absurd one
serve_all_then (x ∷ a) (y ∷ b) [] one two = absurd two
serve_all_then (x ∷ a) (y ∷ b) (z ∷ c) one two = ((on_then x y z one.0 two.0.0, two.0.1), serve_all_then a b c one.1 two.1)

-- by their places
pub each_by : {A : Type 0} (R : A → A → Type 0) (xs ys : List A) → length ys ≡ length xs → ((i : ℕ) (d : A) → i < length xs → R (slice_index_or xs i d) (slice_index_or ys i d)) → Each R xs ys
each_by R [] [] same each = tt
each_by R [] (y ∷ ys) same each = absurd (omega (arith, same))
each_by R (x ∷ xs) [] same each = absurd (omega (arith, same))
each_by R (x ∷ xs) (y ∷ ys) same each = (each 0 x (omega arith), each_by R xs ys (omega (arith, same)) (λ i d inside. each (suc i) d (omega (arith, inside))))

pub feeding_at : {X : Type 0} (xs : List (Feed X)) (i : ℕ) (d : Feed X) → i < length xs → AreFeeding xs → IsFeeding (slice_index_or xs i d)
feeding_at [] i d inside all = absurd (omega (arith, inside))
feeding_at (x ∷ xs) zero d inside all = all.0
feeding_at (x ∷ xs) (suc i) d inside all = feeding_at xs i d (omega (arith, inside)) all.1

module _ {X : Type 0} (seen : X → ServerSeen) where
  pub each_seen : (R : ServerSeen → ServerSeen → Type 0) (xs ys : List X) → length ys ≡ length xs → ((i : ℕ) (d : X) → i < length xs → R (seen (slice_index_or xs i d)) (seen (slice_index_or ys i d))) → Each R (map seen xs) (map seen ys)
  each_seen R [] [] same each = tt
  each_seen R [] (y ∷ ys) same each = absurd (omega (arith, same))
  each_seen R (x ∷ xs) [] same each = absurd (omega (arith, same))
  each_seen R (x ∷ xs) (y ∷ ys) same each = (each 0 x (omega arith), each_seen R xs ys (omega (arith, same)) (λ i d inside. each (suc i) d (omega (arith, inside))))

  pub seen_serving_at : (basis : Basis) (xs : List X) (i : ℕ) (d : X) → i < length xs → AreServing basis (map seen xs) → MayServe basis (seen (slice_index_or xs i d))
  seen_serving_at basis [] i d inside all = absurd (omega (arith, inside))
  seen_serving_at basis (x ∷ xs) zero d inside all = all.0
  seen_serving_at basis (x ∷ xs) (suc i) d inside all = seen_serving_at basis xs i d (omega (arith, inside)) all.1
