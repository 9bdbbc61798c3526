-- Which datagram a post of relay may send next, and when its link may be asked.
use Rattle.std.specs.Prelude.{◌≡◌, ℕ, Bool, List, [], ◌∷◌, ◌++◌, length, map, Option, IfSome}
use Rattle.std.specs.List.{Contains}
use Rattle.tesla_relay.specs.Numbered.{AreBrought, Numbered, datagram_of}
use Rattle.tesla_relay.specs.Offers.{MayAskNext}
use Rattle.tesla_run_relay.specs.Arguments.{RelayArguments, IsRelayForm}

-- a post under one of these names: it has sent datagrams that the link brought before this one, in order and each once, where it tells what it sent
pub record IsNextUnder (brought : ℕ → List ℕ → Bool) (names : List (List ℕ)) (name : List ℕ) (sent : Option (List (List ℕ))) (datagram : List ℕ) : Type 0 where
  pub named : Contains names name
  pub before : List Numbered
  pub sent_is : IfSome sent (λ all. all ≡ map datagram_of before)
  pub number : ℕ
  pub brought_all : AreBrought brought (before ++ record { number = number; bytes = datagram } ∷ [])

-- the words are of the form, and a post under one of POSTS is to send a datagram that a link brought, behind those that it has sent
pub record IsDue (brought : ℕ → List ℕ → Bool) (words : List (List ℕ)) (name : List ℕ) (sent : Option (List (List ℕ))) (datagram : List ℕ) : Type 0 where
  pub arguments : RelayArguments
  pub form : IsRelayForm arguments words
  pub next : IsNextUnder brought arguments.posts name sent datagram

-- where the words are of the form, a link may be asked for its next letter once each datagram that it has brought was offered to the queue of each of POSTS: it was put in, or the queue held CAPACITY items, or it is behind those of which a queue takes any
abbrev pub MayAskForWords : {K : Type 0} → (was_put : ℕ → ℕ → Bool) → (was_full : ℕ → ℕ → ℕ → Bool) → (has_brought : K → ℕ → Bool) → (may_ask : K → Bool) → List (List ℕ) → Type 0
MayAskForWords was_put was_full has_brought may_ask words =
    (arguments : RelayArguments) → IsRelayForm arguments words → MayAskNext was_put was_full has_brought may_ask arguments.capacity (length arguments.posts)
