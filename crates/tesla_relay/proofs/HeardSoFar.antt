-- What was heard of a link so far, by the feeds and by the servers that stand with them.
use Rattle.std.proofs.Common.{◌≡◌, ℕ, List, [], ◌∷◌, Option, IfSome, sym, subst}
use Rattle.tesla_desk.specs.Links.{EndsLink, after_letters}
use Rattle.tesla_desk.specs.declared.link.Letter.{Letter}
use Rattle.tesla_desk.specs.declared.link.Letter.TheVariants as letters
use Rattle.tesla_relay.specs.Due.{Basis}
use Rattle.tesla_relay.specs.Feeding.{ServerSeen, ServesOn}
use Rattle.tesla_relay.specs.Lists.{AreFeeding, AreServing, Each, FeedsOn, HearsOn}
use Rattle.tesla_relay.specs.declared.feed.Feed.{Feed}
use Rattle.tesla_relay.proofs.Heard.{are_feeding, are_serving, hears_more, hears_none, hears_quiet, serve_none, serve_then}

pub record HeardSoFar {X : Type 0} (basis : Basis) (left later : Option (List Letter)) (olds feeds : List (Feed X)) (befores servers : List ServerSeen) : Type 0 where
  pub hears : HearsOn left later olds feeds
  pub feeding : AreFeeding feeds
  pub here : Each ServesOn befores servers
  pub serving : AreServing basis servers

pub heard_none : {X : Type 0} (basis : Basis) (left : Option (List Letter)) (feeds : List (Feed X)) (here : List ServerSeen) → AreFeeding feeds → AreServing basis here → HeardSoFar basis left left feeds feeds here here
heard_none basis left feeds here feeding serving = record { hears = hears_none left feeds feeding; feeding = feeding; here = serve_none basis here serving; serving = serving }

pub heard_quiet : {X : Type 0} (basis : Basis) (left mid later : Option (List Letter)) (olds feeds : List (Feed X)) (befores here : List ServerSeen) → HeardSoFar basis left mid olds feeds befores here → mid ≡ after_letters (letters.Quiet ∷ []) later → HeardSoFar basis left later olds feeds befores here
heard_quiet basis left mid later olds feeds befores here heard quiet = record { hears = hears_quiet left mid later olds feeds heard.hears quiet; feeding = heard.feeding; here = heard.here; serving = heard.serving }

pub heard_more : {X : Type 0} (basis : Basis) (datagram : List ℕ) (left mid later : Option (List Letter)) (olds feeds news : List (Feed X)) (befores here now : List ServerSeen) → HeardSoFar basis left mid olds feeds befores here → mid ≡ after_letters (letters.Datagram datagram ∷ []) later
    → Each (FeedsOn (datagram ∷ [])) feeds news → Each ServesOn here now → HeardSoFar basis left later olds news befores now
heard_more basis datagram left mid later olds feeds news befores here now heard arrived on served = record {
  hears = hears_more datagram left mid later olds feeds news heard.hears arrived on;
  feeding = are_feeding (datagram ∷ []) feeds news on;
  here = serve_then befores here now heard.here served;
  serving = are_serving basis here now heard.serving served;
}

-- nothing is left of a link that ended
pub left_none : (old new : Option (List Letter)) → EndsLink old new → IfSome new (λ rest. rest ≡ [])
left_none old new ends = subst (λ (left : Option (List Letter)). IfSome left (λ rest. rest ≡ [])) (sym ends.left) ends.empty
