-- The senders of a list, from the opening of each.
use Rattle.std.proofs.Common.{◌≡◌, ◌∙◌, inl, inr, ℕ, zero, suc, ◌+◌, ◌-◌, ◌<◌, ◌≤◌, Bool, true, Some, List, [], ◌∷◌, ◌++◌, length, map, drop, get_or, arith, refl, sym, ap, subst}
use Rattle.std.proofs.lemmas.Bool.{and_from, and_parts}
use Rattle.std.proofs.Math.Seq.{drop-nil}
use Rattle.std.specs.List.{list_all}
use Rattle.tesla_base.proofs.Lists.{drop_next}
use Rattle.tesla_base.specs.declared.names.Key.{Key}
use Rattle.tesla_commit.specs.Parts.{Parts}
use Rattle.tesla_feeds.specs.Later.{AreOf, IsOpenFeed, OnlyFirst, OpensFeeds, last_streams}
use Rattle.tesla_feeds.specs.Opening.{first_setup, streams_fed}
use Rattle.tesla_feeds.specs.Steps.{HandsOver}
use Rattle.tesla_feeds.specs.declared.opening.ListedSender.{ListedSender}
use Rattle.tesla_feeds.specs.declared.opening.OpenFeeds.{OpenFeeds}
use Rattle.tesla_front.specs.OutcomeView.{Failed}
use Rattle.tesla_front.specs.declared.fault.Fault.TheVariants as faults
use Rattle.tesla_run_feed.specs.Feeding.{LackSenders, LacksFirst}
use Rattle.tesla_run_feed.specs.Later.{IsAt, stream_of}
use Rattle.tesla_run_feed.specs.Listing.{HaveSeeds, IsRight, is_right_stream, streams_in, streams_with}
use Rattle.tesla_run_feed.specs.Steps.{HandsFirst, IsReady, OpensFirst}
use Rattle.tesla_run_feed.specs.declared.listing.SeededSetups.{SeededSetups}
use Rattle.tesla_sender.specs.Made.{Stream}
use Rattle.tesla_sender.specs.Stands.{Stands, State}

-- ---- want of memory

-- it is why there are none
pub lack_memory : (streams : List Stream) → 1 ≤ length streams → LackSenders streams (Failed faults.NoMemory)
lack_memory [] some = absurd (omega arith)
lack_memory (stream ∷ streams) some = inl (inr refl)

pub lacks_memory : (streams : List Stream) → 1 ≤ length streams → LacksFirst streams (Failed faults.NoMemory)
lacks_memory [] some = absurd (omega arith)
lacks_memory (stream ∷ streams) some = inr refl

-- ---- lists

-- a list whose first element was taken
pub taken_first : {A : Type 0} (xs ys : List A) (x : A) → 0 < length xs → x ≡ get_or xs 0 x → ys ≡ drop 1 xs → xs ≡ x ∷ ys
taken_first [] ys x some is rest = absurd (omega arith)
taken_first (y ∷ xs) ys x some is rest = ap (λ (z : _). z ∷ xs) (sym is) ∙ ap (λ (zs : _). x ∷ zs) (sym rest)

-- a place that has an element is within the list
pub place_within : {A : Type 0} (xs : List A) (n : ℕ) (x : A) (ys : List A) → drop n xs ≡ x ∷ ys → n < length xs
place_within [] n x ys is = absurd (let none = sym (drop-nil {A = _} n) ∙ is in cc)
place_within (y ∷ xs) zero x ys is = omega arith
place_within (y ∷ xs) (suc n) x ys is = let within : n < length xs = place_within xs n x ys is in omega arith

-- the last so many, where there are more, and where there aren't
pub last_fewer : (stream : Stream) (streams : List Stream) (many : ℕ) → many ≤ length streams → last_streams many (stream ∷ streams) ≡ last_streams many streams
last_fewer stream streams many few =
    let more : length (stream ∷ streams) - many ≡ suc (length streams - many) = omega arith in
    ap (λ (n : ℕ). drop n (stream ∷ streams)) more

pub last_all : (streams : List Stream) (many : ℕ) → length streams ≤ many → last_streams many streams ≡ streams
last_all streams many few =
    let none : length streams - many ≡ 0 = omega arith in
    ap (λ (n : ℕ). drop n streams) none

-- ---- setups and seeds

pub streams_size : (setups : List Parts) (seeds : List (List Key)) → length seeds ≡ length setups → length (streams_with setups seeds) ≡ length setups
streams_size [] seeds each = refl
streams_size (setup ∷ setups) [] each = absurd (omega (arith, each))
streams_size (setup ∷ setups) (keys ∷ seeds) each = let rest : length (streams_with setups seeds) ≡ length setups = streams_size setups seeds (omega (arith, each)) in omega arith

-- the first of them
pub streams_first : (setups : List Parts) (seeds : List (List Key)) (setup : Parts) (keys : List Key) (later : List Parts) (others : List (List Key)) → setups ≡ setup ∷ later → seeds ≡ keys ∷ others → streams_with setups seeds ≡ record { setup = setup; seeds = keys } ∷ streams_with later others
streams_first setups seeds setup keys later others setups_are seeds_are =
    ap (λ (ps : List Parts). streams_with ps seeds) setups_are ∙ ap (λ (ks : List (List Key)). streams_with (setup ∷ later) ks) seeds_are

-- there are as many of those behind it
pub each_behind : (setups : List Parts) (seeds : List (List Key)) (setup : Parts) (keys : List Key) (later : List Parts) (others : List (List Key)) → setups ≡ setup ∷ later → seeds ≡ keys ∷ others → length seeds ≡ length setups → length others ≡ length later
each_behind setups seeds setup keys later others setups_are seeds_are each =
    let a : length setups ≡ length (setup ∷ later) = ap (λ (ps : List Parts). length ps) setups_are in
    let b : length seeds ≡ length (keys ∷ others) = ap (λ (ks : List (List Key)). length ks) seeds_are in
    omega (arith, a, b, each)

-- each of the last so many has seeds
pub seeds_behind : (n : ℕ) (streams : List Stream) → HaveSeeds streams → HaveSeeds (drop n streams)
seeds_behind zero streams have = have
seeds_behind (suc n) [] have = have
seeds_behind (suc n) (stream ∷ streams) have = seeds_behind n streams have.1

drop_few : (n : ℕ) (streams : List Stream) → length (drop n streams) ≤ length streams
drop_few zero streams = omega arith
drop_few (suc n) [] = omega arith
drop_few (suc n) (stream ∷ streams) = let few : length (drop n streams) ≤ length streams = drop_few n streams in omega arith

-- they are streams of their setups
pub are_of : (setups : List Parts) (seeds : List (List Key)) → length seeds ≡ length setups → HaveSeeds (streams_with setups seeds) → AreOf (streams_with setups seeds) setups
are_of [] seeds each have = tt
are_of (setup ∷ setups) [] each have = absurd (omega (arith, each))
are_of (setup ∷ setups) (keys ∷ seeds) each have = (refl, have.0, are_of setups seeds (omega (arith, each)) have.1)

-- ---- the first sender

pub opens_first : (setups : List Parts) (seeds : List (List Key)) (setup : Parts) (keys : List Key) (first : ListedSender) (behind : SeededSetups) → setups ≡ setup ∷ behind.setups.items → seeds ≡ keys ∷ behind.seeds.items → length seeds ≡ length setups → length setups ≤ 16 → HaveSeeds (streams_with setups seeds) → HandsFirst first.handover setups → Stands first.sender []
    → first.sender.stream ≡ record { setup = setup; seeds = keys } → IsRight (record { setup = setup; seeds = keys }) → OpensFirst (streams_with setups seeds) first behind
opens_first setups seeds setup keys first behind setups_are seeds_are each size have hands fresh own right =
    let stream : Stream = record { setup = setup; seeds = keys } in
    let all = streams_first setups seeds setup keys behind.setups.items behind.seeds.items setups_are seeds_are in
    let both : HaveSeeds (stream ∷ streams_in behind) = subst HaveSeeds all have in
    let as_many = each_behind setups seeds setup keys behind.setups.items behind.seeds.items setups_are seeds_are each in
    let length_is : length setups ≡ length (setup ∷ behind.setups.items) = ap (λ (ps : List Parts). length ps) setups_are in
    let many = streams_size behind.setups.items behind.seeds.items as_many in
    record {
      streams_are = all ∙ ap (λ (s : Stream). s ∷ streams_in behind) (sym own);
      fresh = fresh;
      right = subst IsRight (sym own) right;
      hands = subst (λ (s : Stream). HandsOver first.handover s (first_setup behind.setups.items)) (sym own) (subst (λ (ps : List Parts). HandsFirst first.handover ps) setups_are hands);
      each = as_many;
      have = both.1;
      few = omega (arith, many, length_is, size);
    }

-- it is the first of the streams
pub first_lacks : (setups : List Parts) (seeds : List (List Key)) (setup : Parts) (keys : List Key) (later : List Parts) (others : List (List Key)) (stop : _) → setups ≡ setup ∷ later → seeds ≡ keys ∷ others → LacksFirst (record { setup = setup; seeds = keys } ∷ []) stop → LacksFirst (streams_with setups seeds) stop
first_lacks setups seeds setup keys later others stop setups_are seeds_are why =
    subst (λ (ss : List Stream). LacksFirst ss stop) (sym (streams_first setups seeds setup keys later others setups_are seeds_are)) why

-- ---- later senders

-- the stream at a place of those that are handed over
pub at_place : (all : List Stream) (place : ℕ) (stream own : Stream) (streams : List Stream) → drop place all ≡ stream ∷ streams → own ≡ stream → IsAt all place own
at_place all place stream own streams is same =
    is ∙ ap (λ (ss : List Stream). stream ∷ ss) (sym (drop_next all place stream streams is)) ∙ ap (λ (s : Stream). s ∷ drop (place + 1) all) (sym same)

-- the first of those that are there was taken
module _ (all : List Stream) (put taken : ℕ) (senders now : List State) (sender : State) (is : senders ≡ sender ∷ now) (are : map stream_of senders ++ drop put all ≡ drop taken all) where
  first_is : drop taken all ≡ sender.stream ∷ (map stream_of now ++ drop put all)
  first_is = sym are ∙ ap (λ (ss : List State). map stream_of ss ++ drop put all) is

  pub taken_are : map stream_of now ++ drop put all ≡ drop (taken + 1) all
  taken_are = sym (drop_next all taken sender.stream (map stream_of now ++ drop put all) first_is)

  pub taken_at : IsAt all taken sender.stream
  taken_at = at_place all taken sender.stream sender.stream (map stream_of now ++ drop put all) first_is refl

pub all_fewer : {A : Type 0} (test : A → Bool) (xs now : List A) (x : A) → xs ≡ x ∷ now → list_all test xs ≡ true → (test x ≡ true) × (list_all test now ≡ true)
all_fewer test xs now x is all = and_parts (test x) (list_all test now) (ap (list_all test) (sym is) ∙ all)

-- ---- an open feed

-- the seeds of the streams that have senders are right
pub only_right : (first : Stream) (streams : List Stream) → OnlyFirst first streams → IsRight first → list_all is_right_stream streams ≡ true
only_right first [] only right = refl
only_right first (stream ∷ []) only right = and_from (is_right_stream stream) true (ap is_right_stream only ∙ right) refl
only_right first (stream ∷ other ∷ streams) only right = absurd only

-- the last so many of the streams behind the first were kept
pub is_ready : (opening : ℕ) (first : ListedSender) (behind later : SeededSetups) (feed : OpenFeeds) → OpensFirst (first.sender.stream ∷ streams_in behind) first behind → OpensFeeds opening first.sender.stream (streams_in behind) (Some feed)
    → length later.seeds.items ≡ length later.setups.items → streams_in later ≡ last_streams (length feed.later.items) (streams_in behind) → IsReady feed later
is_ready opening first behind later feed opens feeds each later_is =
    let n = length (streams_in behind) - length feed.later.items in
    let few : length (drop n (streams_in behind)) ≤ length (streams_in behind) = drop_few n (streams_in behind) in
    let size : length (streams_in later) ≡ length (drop n (streams_in behind)) = ap (λ (ss : List Stream). length ss) later_is in
    record {
      is_open = subst (λ (ss : List Stream). IsOpenFeed feed ss) (sym later_is) feeds.2;
      right = only_right first.sender.stream (streams_fed feed.feeders) feeds.3 opens.right;
      each = each;
      have = subst HaveSeeds (sym later_is) (seeds_behind n (streams_in behind) opens.have);
      few = omega (arith, size, few, opens.few);
    }
