-- Queues that were made, and what stands before them.
use Rattle.std.proofs.Common.{◌≡◌, ◌∙◌, ℕ, suc, ◌+◌, false, true≢false, List, [], ◌∷◌, ◌++◌, length, take, drop, Option, Some, None, refl, sym, ap, subst, subst₂, arith, append_assoc, append-nil}
use Rattle.std.proofs.lemmas.List.{length-append}
use Rattle.std.specs.Arc.{arc_value}
use Rattle.std.specs.List.{AllByRecursion, Contains}
use Rattle.crossbeam_queue.specs.Passes.{Pass, view}
use Rattle.tesla_relay.specs.Posts.{PostSeen, with_datagrams}
use Rattle.tesla_relay.specs.Due.{Basis}
use Rattle.tesla_relay.specs.Feeding.{Fed, IsFeeding, ServerSeen, came_in}
use Rattle.tesla_relay.specs.Line.{popped_log, put_log}
use Rattle.tesla_relay.specs.Lists.{AreFeeding, AreServing, Each, Ends, FeedsAll, HaveCome, MayServe, ServesAll, Starts}
use Rattle.tesla_relay.specs.Queues.{Adds, AreNew, Backwards, Ending, GivesBack, IsEnding, IsNew, Starting}
use Rattle.tesla_relay.specs.Relay.{RelaysPost, RelaysPosts}
use Rattle.tesla_relay.specs.declared.relayed.PostCount.{PostCount}
use Rattle.tesla_relay.specs.declared.line.Item.{Item}
use Rattle.tesla_relay.specs.declared.line.Log.{Log}
use Rattle.tesla_relay.specs.declared.feed.Feed.{Feed}
use Rattle.tesla_relay.specs.declared.queues.Queue.{Queue}

pub new_fed : {X : Type 0} (feed : Feed X) → view feed.pass ≡ put_log [] → feed.dropped ≡ 0 → Fed [] feed
new_fed feed none zeros = ([], none, record { marks = []; each = refl; full = tt; texts_are = refl; whole = tt; dropped_is = zeros })

pub new_more : {X : Type 0} (capacity : ℕ) (queues : List (Queue X)) (queue : Queue X) → AreNew capacity queues → IsNew capacity queue → AreNew capacity (queues ++ queue ∷ [])
new_more capacity [] queue all new = (new, tt)
new_more capacity (first ∷ queues) queue all new = (all.0, new_more capacity queues queue all.1 new)

-- ---- snoc

init_of : {A : Type 0} → A → List A → List A
init_of d [] = []
init_of d (x ∷ []) = []
init_of d (x ∷ (y ∷ xs)) = x ∷ init_of d (y ∷ xs)

last_of : {A : Type 0} → A → List A → A
last_of d [] = d
last_of d (x ∷ []) = x
last_of d (x ∷ (y ∷ xs)) = last_of d (y ∷ xs)

init_snoc : {A : Type 0} (d : A) (xs : List A) (x : A) → init_of d (xs ++ x ∷ []) ≡ xs
unfolding init_of
init_snoc d [] x = refl
init_snoc d (y ∷ []) x = refl
init_snoc d (y ∷ (z ∷ xs)) x = ap (λ l. y ∷ l) (init_snoc d (z ∷ xs) x)

last_snoc : {A : Type 0} (d : A) (xs : List A) (x : A) → last_of d (xs ++ x ∷ []) ≡ x
unfolding last_of
last_snoc d [] x = refl
last_snoc d (y ∷ []) x = refl
last_snoc d (y ∷ (z ∷ xs)) x = last_snoc d (z ∷ xs) x

pub snoc_same : {A : Type 0} (xs ys : List A) (x y : A) → xs ++ x ∷ [] ≡ ys ++ y ∷ [] → (xs ≡ ys) × (x ≡ y)
snoc_same xs ys x y same = (sym (init_snoc x xs x) ∙ ap (λ l. init_of x l) same ∙ init_snoc x ys y, sym (last_snoc x xs x) ∙ ap (λ l. last_of x l) same ∙ last_snoc x ys y)

snoc_some : {A : Type 0} (xs : List A) (x : A) → xs ++ x ∷ [] ≡ [] → ⊥
snoc_some xs x none = let size : length (xs ++ x ∷ []) ≡ length xs + 1 = length-append xs (x ∷ []) in omega (arith, size, ap (λ l. length l) none)

-- ---- feeds and servers backwards

module _ {X : Type 0} (R : PostSeen → Feed X → ServerSeen → Type 0) where
  -- those of the last post stand first
  pub back_first : (posts : List PostSeen) (post : PostSeen) (feeds : List (Feed X)) (feed : Feed X) (servers : List ServerSeen) (server : ServerSeen) → R post feed server → Backwards R posts feeds servers → Backwards R (posts ++ post ∷ []) (feed ∷ feeds) (server ∷ servers)
  back_first [] post feeds feed servers server own (e, f) = ([], feed, [], server, ap (λ l. feed ∷ l) e, ap (λ l. server ∷ l) f, own, (refl, refl))
  back_first (first ∷ posts) post feeds feed servers server own back =
      (feed ∷ back.0, back.1, server ∷ back.2, back.3, ap (λ l. feed ∷ l) back.4, ap (λ l. server ∷ l) back.5, back.6, back_first posts post back.0 feed back.2 server own back.7)

  -- one more post is taken in
  pub adds_one : (posts : List PostSeen) (post : PostSeen) (feeds more : List (Feed X)) (feed : Feed X) (servers others : List ServerSeen) (server : ServerSeen) → R post feed server → Adds (Backwards R) posts (feeds ++ feed ∷ []) more (servers ++ server ∷ []) others → Adds (Backwards R) (posts ++ post ∷ []) feeds more servers others
  adds_one posts post feeds more feed servers others server own adds =
      (feed ∷ adds.0, server ∷ adds.1, adds.2 ∙ append_assoc feeds (feed ∷ []) adds.0, adds.3 ∙ append_assoc servers (server ∷ []) adds.1, back_first posts post adds.0 feed adds.1 server own adds.4)

  pub adds_none : (feeds : List (Feed X)) (servers : List ServerSeen) → Adds (Backwards R) [] feeds feeds servers servers
  adds_none feeds servers = ([], [], sym (append-nil feeds), sym (append-nil servers), (refl, refl))

  -- the last of both are those of the first post
  pub back_pop : (posts : List PostSeen) (prefix : List (Feed X)) (feed : Feed X) (others : List ServerSeen) (server : ServerSeen) → Backwards R posts (prefix ++ feed ∷ []) (others ++ server ∷ []) → (post : PostSeen) × (rest : List PostSeen) × (posts ≡ post ∷ rest) × R post feed server × Backwards R rest prefix others
  back_pop [] prefix feed others server back = absurd (snoc_some prefix feed back.0)
  back_pop (post ∷ posts) prefix feed others server back =
      let fs = snoc_same prefix back.0 feed back.1 back.4 in let ss = snoc_same others back.2 server back.3 back.5 in
      (post, posts, refl, subst₂ (λ (f : Feed X) (s : ServerSeen). R post f s) (sym fs.1) (sym ss.1) back.6, subst₂ (λ (f : List (Feed X)) (s : List ServerSeen). Backwards R posts f s) (sym fs.0) (sym ss.0) back.7)

  -- there is a feed for each server
  pub back_fed : (posts : List PostSeen) (feeds : List (Feed X)) (others : List ServerSeen) (server : ServerSeen) → Backwards R posts feeds (others ++ server ∷ []) → feeds ≡ [] → ⊥
  back_fed [] feeds others server back none = snoc_some others server back.1
  back_fed (post ∷ posts) feeds others server back none = snoc_some back.0 back.1 (sym back.4 ∙ none)

  pub back_none : (posts : List PostSeen) (feeds : List (Feed X)) (servers : List ServerSeen) → Backwards R posts feeds servers → servers ≡ [] → posts ≡ []
  back_none [] feeds servers back none = refl
  back_none (post ∷ posts) feeds servers back none = absurd (snoc_some back.2 back.3 (sym back.5 ∙ none))

-- one more is given back
pub gives_one : (R : List PostSeen → List PostSeen → List PostCount → Type 0) (Q : PostSeen → PostSeen → PostCount → Type 0) → ((old new : PostSeen) (count : PostCount) (olds news : List PostSeen) (counts : List PostCount) → Q old new count → R olds news counts → R (old ∷ olds) (new ∷ news) (count ∷ counts))
    → (old new : PostSeen) (count : PostCount) (olds all posts more : List PostSeen) (counts others : List PostCount) → all ≡ old ∷ olds → Q old new count → GivesBack R olds (posts ++ new ∷ []) more (counts ++ count ∷ []) others → GivesBack R all posts more counts others
gives_one R Q both old new count olds all posts more counts others is own gives =
    subst (λ (l : List PostSeen). GivesBack R l posts more counts others) (sym is)
    (new ∷ gives.0, count ∷ gives.1, gives.2 ∙ append_assoc posts (new ∷ []) gives.0, gives.3 ∙ append_assoc counts (count ∷ []) gives.1, both old new count olds gives.0 gives.1 own gives.4)

pub gives_none : (capacity : ℕ) (arrived : List (List ℕ)) (all posts : List PostSeen) (counts : List PostCount) → all ≡ [] → GivesBack (RelaysPosts capacity arrived) all posts posts counts counts
gives_none capacity arrived all posts counts none = subst (λ (l : List PostSeen). GivesBack (RelaysPosts capacity arrived) l posts posts counts counts) (sym none) ([], [], sym (append-nil posts), sym (append-nil counts), tt)

pub relays_one : (capacity : ℕ) (arrived : List (List ℕ)) (old new : PostSeen) (count : PostCount) (olds news : List PostSeen) (counts : List PostCount) → RelaysPost capacity arrived old new count → RelaysPosts capacity arrived olds news counts → RelaysPosts capacity arrived (old ∷ olds) (new ∷ news) (count ∷ counts)
relays_one capacity arrived old new count olds news counts own others = (own, others)

-- a new queue, and a server that has sent nothing, start
pub starts_new : {X : Type 0} (capacity : ℕ) (queue : Queue X) (post : PostSeen) (server : ServerSeen) → IsNew capacity queue → server.post ≡ post → server.table ≡ (arc_value queue.line).table.shared.table_id → server.pass ≡ queue.pass → server.sent ≡ 0 → server.failed ≡ false → Starts capacity post queue.feed server
starts_new capacity queue post server new own table pass sent failed =
    let told : view server.pass ≡ popped_log [] = ap (λ (p : Pass Item Log). view p) pass ∙ new.view_is in record {
      feeding = new.feeding;
      fed = new.fed;
      came = new.came;
      capacity_is = new.capacity_is;
      serving = record { table = ap (λ (p : Pass Item Log). p.table_id) pass ∙ new.own.0 ∙ sym table; whole = ap (λ (p : Pass Item Log). p.me.1) pass ∙ new.own.1; popped = []; view_is = told };
      served = record {
        popped = [];
        view_is = told;
        sends = 0;
        few = omega arith;
        all = λ fine. refl;
        sent = ap (λ (p : PostSeen). p.sent) own ∙ sent_none post.sent;
        name = ap (λ (p : PostSeen). p.name) own;
        cause = record { stays = omega (arith, ap (λ (p : PostSeen). p.faults) own); rose = λ f. absurd (true≢false (sym f ∙ failed)); still = λ fine. ap (λ (p : PostSeen). p.faults) own };
        count = sent;
      };
      table = ap (λ (p : Pass Item Log). p.table_id) pass ∙ new.table;
    }
  where
    sent_none : (told : Option (List (List ℕ))) → told ≡ with_datagrams told []
    sent_none None = refl
    sent_none (Some prefix) = ap (λ l. Some l) (sym (append-nil prefix))

pub new_last : {X : Type 0} (capacity : ℕ) (queues : List (Queue X)) (queue : Queue X) → AreNew capacity (queues ++ queue ∷ []) → AreNew capacity queues × IsNew capacity queue
new_last capacity [] queue all = (tt, all.0)
new_last capacity (first ∷ queues) queue all = let rest = new_last capacity queues queue all.1 in ((all.0, rest.0), rest.1)

-- what ends may be settled
pub ending_of : {X : Type 0} (capacity : ℕ) (arrived : List (List ℕ)) (post : PostSeen) (feed : Feed X) (server : ServerSeen) → Ends capacity arrived post feed server → IsEnding feed server
ending_of capacity arrived post feed server ends = record {
  own = ends.own;
  table = ends.table;
  whole = ends.serving.whole;
  puts = ap (λ (l : Log). l.puts) ends.closed.1;
  pops = ap (λ (l : Log). l.pops) ends.serving.view_is;
}

feeding_snoc : {X : Type 0} (feeds : List (Feed X)) (feed : Feed X) → AreFeeding feeds → IsFeeding feed → AreFeeding (feeds ++ feed ∷ [])
feeding_snoc [] feed all is = (is, tt)
feeding_snoc (first ∷ feeds) feed all is = (all.0, feeding_snoc feeds feed all.1 is)

come_snoc : {X : Type 0} (number : ℕ) (feeds : List (Feed X)) (feed : Feed X) → HaveCome number feeds → feed.came ≡ came_in number → HaveCome number (feeds ++ feed ∷ [])
come_snoc number [] feed all is = (is, tt)
come_snoc number (first ∷ feeds) feed all is = (all.0, come_snoc number feeds feed all.1 is)

serving_snoc : (basis : Basis) (servers : List ServerSeen) (server : ServerSeen) → AreServing basis servers → MayServe basis server → AreServing basis (servers ++ server ∷ [])
serving_snoc basis [] server all is = (is, tt)
serving_snoc basis (first ∷ servers) server all is = (all.0, serving_snoc basis servers server all.1 is)

among_more : (first : PostSeen) (all posts : List PostSeen) → AllByRecursion (Contains all) posts → AllByRecursion (Contains (first ∷ all)) posts
among_more first all [] among = tt
among_more first all (post ∷ posts) among = (let (place, inside, is) = among.0 in (suc place, omega (arith, inside), is), among_more first all posts among.1)

-- the posts are among themselves
pub among_all : (posts : List PostSeen) → AllByRecursion (Contains posts) posts
among_all [] = tt
among_all (post ∷ posts) = ((0, omega arith, refl), among_more post posts posts (among_all posts))

-- ---- a run

-- what starts feeds and serves
pub starting_feeding : {X : Type 0} (capacity : ℕ) (posts : List PostSeen) (feeds : List (Feed X)) (servers : List ServerSeen) → Starting capacity posts feeds servers → AreFeeding feeds
starting_feeding capacity [] feeds servers start = subst AreFeeding (sym start.0) tt
starting_feeding capacity (post ∷ posts) feeds servers start = subst AreFeeding (sym start.4) (feeding_snoc start.0 start.1 (starting_feeding capacity posts start.0 start.2 start.7) start.6.feeding)

-- nothing came to them
pub starting_come : {X : Type 0} (capacity : ℕ) (posts : List PostSeen) (feeds : List (Feed X)) (servers : List ServerSeen) → Starting capacity posts feeds servers → HaveCome 0 feeds
starting_come capacity [] feeds servers start = subst (HaveCome 0) (sym start.0) tt
starting_come capacity (post ∷ posts) feeds servers start = subst (HaveCome 0) (sym start.4) (come_snoc 0 start.0 start.1 (starting_come capacity posts start.0 start.2 start.7) (omega (arith, start.6.came)))

pub starting_serving : {X : Type 0} (basis : Basis) (capacity : ℕ) (posts : List PostSeen) (feeds : List (Feed X)) (servers : List ServerSeen) → AllByRecursion (Contains basis.posts) posts → Starting capacity posts feeds servers → AreServing basis servers
starting_serving basis capacity [] feeds servers among start = subst (AreServing basis) (sym start.1) tt
starting_serving basis capacity (post ∷ posts) feeds servers among start =
    subst (AreServing basis) (sym start.5)
    (serving_snoc basis start.2 start.3 (starting_serving basis capacity posts start.0 start.2 among.1 start.7) (start.6.serving, record { start = post; among = among.0; served = start.6.served }))

-- what starts, was fed all and served all, ends
pub ends_one : {X : Type 0} (capacity : ℕ) (arrived : List (List ℕ)) (post : PostSeen) (feed more : Feed X) (server other : ServerSeen) → Starts capacity post feed server → FeedsAll arrived feed more → ServesAll server other → Ends capacity arrived post more other
ends_one capacity arrived post feed more server other starts feeds serves = record {
  own = feeds.own;
  closed = feeds.fed [] starts.fed;
  capacity_is = feeds.same.capacity ∙ starts.capacity_is;
  serving = serves.0.serving;
  served = serves.0.served post starts.served;
  done = serves.1;
  table = serves.0.same.pass ∙ starts.table ∙ sym feeds.same.table;
}

-- the last of two lists that belong together
each_last : {A B : Type 0} (R : A → B → Type 0) (xs : List A) (x : A) (ys : List B) → Each R (xs ++ x ∷ []) ys → (prefix : List B) × (y : B) × (ys ≡ prefix ++ y ∷ []) × Each R xs prefix × R x y
each_last R [] x [] each = absurd each
each_last R [] x (y ∷ []) each = ([], y, refl, tt, each.0)
each_last R [] x (y ∷ (z ∷ ys)) each = absurd each.1
each_last R (w ∷ xs) x [] each = absurd each
each_last R (w ∷ xs) x (y ∷ ys) each = let rest = each_last R xs x ys each.1 in (y ∷ rest.0, rest.1, ap (λ l. y ∷ l) rest.2, (each.0, rest.3), rest.4)

each_none : {A B : Type 0} (R : A → B → Type 0) (ys : List B) → Each R [] ys → ys ≡ []
each_none R [] each = refl
each_none R (y ∷ ys) each = absurd each

pub starting_ending : {X : Type 0} (capacity : ℕ) (arrived : List (List ℕ)) (posts : List PostSeen) (feeds more : List (Feed X)) (servers others : List ServerSeen) → Starting capacity posts feeds servers → Each (FeedsAll arrived) feeds more → Each ServesAll servers others → Ending capacity arrived posts more others
starting_ending {X} capacity arrived [] feeds more servers others start fed served =
    (each_none (FeedsAll arrived) more (subst (λ (l : List (Feed X)). Each (FeedsAll arrived) l more) start.0 fed), each_none ServesAll others (subst (λ (l : List ServerSeen). Each ServesAll l others) start.1 served))
starting_ending {X} capacity arrived (post ∷ posts) feeds more servers others start fed served =
    let f = each_last (FeedsAll arrived) start.0 start.1 more (subst (λ (l : List (Feed X)). Each (FeedsAll arrived) l more) start.4 fed) in
    let s = each_last ServesAll start.2 start.3 others (subst (λ (l : List ServerSeen). Each ServesAll l others) start.5 served) in
    (f.0, f.1, s.0, s.1, f.2, s.2, ends_one capacity arrived post start.1 f.1 start.3 s.1 start.6 f.4 s.4, starting_ending capacity arrived posts start.0 f.0 start.2 s.0 start.7 f.3 s.3)

-- what was added behind nothing
pub adds_all : {X : Type 0} (R : List PostSeen → List (Feed X) → List ServerSeen → Type 0) (posts : List PostSeen) (feeds more : List (Feed X)) (servers others : List ServerSeen) → feeds ≡ [] → servers ≡ [] → Adds R posts feeds more servers others → R posts more others
adds_all {X} R posts feeds more servers others none nil adds =
    subst₂ (λ (f : List (Feed X)) (s : List ServerSeen). R posts f s) (sym (adds.2 ∙ ap (λ l. l ++ adds.0) none)) (sym (adds.3 ∙ ap (λ l. l ++ adds.1) nil)) adds.4

pub gives_all : (R : List PostSeen → List PostSeen → List PostCount → Type 0) (olds posts more : List PostSeen) (counts others : List PostCount) → posts ≡ [] → counts ≡ [] → GivesBack R olds posts more counts others → R olds more others
gives_all R olds posts more counts others none nil gives =
    subst₂ (λ (p : List PostSeen) (c : List PostCount). R olds p c) (sym (gives.2 ∙ ap (λ l. l ++ gives.0) none)) (sym (gives.3 ∙ ap (λ l. l ++ gives.1) nil)) gives.4

-- there is a server for each post
pub starting_length : {X : Type 0} (capacity : ℕ) (posts : List PostSeen) (feeds : List (Feed X)) (servers : List ServerSeen) → Starting capacity posts feeds servers → length servers ≡ length posts
starting_length capacity [] feeds servers start = ap (λ l. length l) start.1
starting_length capacity (post ∷ posts) feeds servers start = ap (λ l. length l) start.5 ∙ (let size : length (start.2 ++ start.3 ∷ []) ≡ length start.2 + 1 = length-append start.2 (start.3 ∷ []) in let rest = starting_length capacity posts start.0 start.2 start.7 in omega (arith, size, rest))

pub each_length : {A B : Type 0} (R : A → B → Type 0) (xs : List A) (ys : List B) → Each R xs ys → length ys ≡ length xs
each_length R [] [] each = refl
each_length R [] (y ∷ ys) each = absurd each
each_length R (x ∷ xs) [] each = absurd each
each_length R (x ∷ xs) (y ∷ ys) each = ap suc (each_length R xs ys each.1)

-- a vector all of whose items were written
pub all_written : {A : Type 0} (n : ℕ) (xs ys : List A) → length xs ≡ n → take n (xs ++ drop (length xs) ys) ≡ xs
all_written n xs ys same = subst (λ (m : ℕ). take m (xs ++ drop (length xs) ys) ≡ xs) same (prefix xs (drop (length xs) ys))
  where
    prefix : {A : Type 0} (xs zs : List A) → take (length xs) (xs ++ zs) ≡ xs
    prefix [] zs = refl
    prefix (x ∷ xs) zs = ap (λ l. x ∷ l) (prefix xs zs)
