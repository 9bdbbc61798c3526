-- What is true of each sender, before and after a call.
use Rattle.std.proofs.Common.{◌≡◌, ℕ, zero, suc, ◌+◌, ◌<◌, ◌≤◌, List, [], ◌∷◌, length, map, refl, sym, ◌∙◌, ap, subst, arith}
use Rattle.std.specs.Prelude.{min}
use Rattle.std.specs.List.{All}
use Rattle.std.proofs.lemmas.List.{length-map}
use Rattle.tesla_base.specs.declared.names.Key.{Key}
use Rattle.tesla_commit.specs.Parts.{Parts}
use Rattle.tesla_commit.specs.declared.chain_row.ChainRow.{ChainRow}
use Rattle.tesla_sender.specs.Made.{Chain, Stream, chains_from, chains_of}
use Rattle.tesla_sender.specs.Chains.{AreNumbered, CanTag, HasMade, HasReached, IsPrepared, IsReady, Progress, chain_in}
use Rattle.tesla_sender.specs.Senders.{IsSender, seed_of}

-- ---- the chains of a stream

numbered_from : (last number : ℕ) (rows : List ChainRow) (seeds : List Key) → AreNumbered number (chains_from last number rows seeds)
numbered_from last number [] seeds = tt
numbered_from last number (row ∷ rows) [] = tt
numbered_from last number (row ∷ rows) (seed ∷ seeds) = (refl, numbered_from last (number + 1) rows seeds)

lasts_from : (last number : ℕ) (rows : List ChainRow) (seeds : List Key) (chains : List Progress) → map chain_in chains ≡ chains_from last number rows seeds → All (λ (now : Progress). now.chain.last ≡ last) chains
lasts_from last number rows seeds [] same k d within = absurd (omega arith)
lasts_from last number [] seeds (now ∷ chains) same k d within = absurd cc
lasts_from last number (row ∷ rows) [] (now ∷ chains) same k d within = absurd cc
lasts_from last number (row ∷ rows) (seed ∷ seeds) (now ∷ chains) same zero d within =
    let first : Chain = record { number = number; row = row; seed = seed; last = last } in
    let is : now.chain ≡ first = cc in
    ap (λ (chain : Chain). chain.last) is
lasts_from last number (row ∷ rows) (seed ∷ seeds) (now ∷ chains) same (suc k) d within =
    let rest : map chain_in chains ≡ chains_from last (number + 1) rows seeds = cc in
    lasts_from last (number + 1) rows seeds chains rest k d (omega arith)

-- ---- before a call

pub lasts : (setup : Parts) (chains : List Progress) (latest used : ℕ) → IsSender setup chains latest used → All (λ (now : Progress). now.chain.last ≡ setup.times.last) chains
lasts setup chains latest used is = lasts_from setup.times.last 0 setup.rows (map seed_of (map chain_in chains)) chains is.same

-- the chains can go on to an interval from the next one on
pub ready : (setup : Parts) (chains : List Progress) (latest used interval : ℕ) → IsSender setup chains latest used → latest < interval → All (IsReady (min interval setup.times.last)) chains
ready setup chains latest used interval is later k d within =
    let last = lasts setup chains latest used is k d within in
    record { later = omega (arith, (is.reached k d within).most, last); within = omega (arith, last) }

pub next_ready : (setup : Parts) (chains : List Progress) (latest used : ℕ) → IsSender setup chains latest used → latest < setup.times.last → All (IsReady (latest + 1)) chains
next_ready setup chains latest used is more k d within =
    let last = lasts setup chains latest used is k d within in
    record { later = omega (arith, (is.reached k d within).most, last); within = omega (arith, last) }

-- they have the key of the interval, which isn't after the last one
pub can_tag : (setup : Parts) (chains : List Progress) (latest used : ℕ) → IsSender setup chains latest used → latest ≤ setup.times.last → All (CanTag latest) chains
can_tag setup chains latest used is within k d here = record { within = omega (arith, lasts setup chains latest used is k d here, within); made = is.reached k d here }

-- one that makes its MAC key
pub prepared : (interval : ℕ) (before now : Progress) → CanTag interval before → now.chain ≡ before.chain → now.reached ≡ before.reached → now.tagging ≡ interval → IsPrepared interval now
prepared interval before now can same reached tagging =
    let last : now.chain.last ≡ before.chain.last = ap (λ (chain : Chain). chain.last) same in
    record {
      within = omega (arith, last, can.within);
      made = record { least = omega (arith, last, reached, can.made.least); most = omega (arith, last, reached, can.made.most) };
      tagging = tagging;
    }

pub numbered : (setup : Parts) (chains : List Progress) (latest used : ℕ) → IsSender setup chains latest used → AreNumbered 0 (map chain_in chains)
numbered setup chains latest used is = subst (AreNumbered 0) (sym is.same) (numbered_from setup.times.last 0 setup.rows (map seed_of (map chain_in chains)))

-- ---- after a call

abbrev stream_with : Parts → List Chain → Stream
stream_with setup chains = record { setup = setup; seeds = map seed_of chains }

-- the chains are the same ones, and have come to the interval
pub goes_on : (setup : Parts) (before now : List Progress) (latest used interval number : ℕ) → IsSender setup before latest used → map chain_in now ≡ map chain_in before → All (HasMade interval) now → number ≤ 65536 → IsSender setup now interval number
goes_on setup before now latest used interval number is same made few = record {
  same = same ∙ is.same ∙ ap (λ (chains : List Chain). chains_of (stream_with setup chains)) (sym same);
  count =
      let lengths : length (map chain_in now) ≡ length (map chain_in before) = ap length same in
      omega (arith, lengths, length-map now chain_in, length-map before chain_in, is.count);
  reached = made;
  few = few;
}

-- chains whose keys were made up to that of an index
made_to : (setup : Parts) (before now : List Progress) (latest used interval index : ℕ) → IsSender setup before latest used → map chain_in now ≡ map chain_in before → All (HasReached index) now → min interval setup.times.last ≤ index → index ≤ min (interval + 1) setup.times.last → All (HasMade interval) now
made_to setup before now latest used interval index is same reached least most k d within =
    let all = lasts_from setup.times.last 0 setup.rows (map seed_of (map chain_in before)) now (same ∙ is.same) in
    record {
      least = omega (arith, all k d within, reached k d within, least);
      most = omega (arith, all k d within, reached k d within, most);
    }

-- a sender that goes on to a later interval
pub begins_at : (setup : Parts) (before now : List Progress) (latest used interval : ℕ) → IsSender setup before latest used → map chain_in now ≡ map chain_in before → All (HasReached (min interval setup.times.last)) now → IsSender setup now interval 0
begins_at setup before now latest used interval is same reached =
    goes_on setup before now latest used interval 0 is same (made_to setup before now latest used interval (min interval setup.times.last) is same reached (omega arith) (omega arith)) (omega arith)

-- one that has the next keys
pub has_next : (setup : Parts) (before now : List Progress) (latest used : ℕ) → IsSender setup before latest used → map chain_in now ≡ map chain_in before → latest < setup.times.last → All (HasReached (latest + 1)) now → IsSender setup now latest used
has_next setup before now latest used is same more reached =
    goes_on setup before now latest used latest used is same (made_to setup before now latest used latest (latest + 1) is same reached (omega arith) (omega arith)) is.few
