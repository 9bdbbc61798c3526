-- Which datagram a post of play may send next.
use Rattle.std.specs.Prelude.{◌≡◌, ℕ, Bool, List, map, Option, IfSome}
use Rattle.std.specs.List.{Contains}
use Rattle.tesla_desk.specs.Outside.{Page, Told}
use Rattle.tesla_front.specs.Files.{HoldsWhere}
use Rattle.tesla_relay.specs.Due.{IsNextArrival}
use Rattle.tesla_relay.specs.Play.{IsPrefixOf, Played, bytes_of}
use Rattle.tesla_run_relay.specs.play.Arguments.{PlayArguments, IsPlayForm}

-- these are the first arrivals of the bytes of a page, where those are told
abbrev pub AreFirstIn : Page → List Played → Type 0
AreFirstIn page played = HoldsWhere page (λ bytes. IsPrefixOf bytes played)

-- a post under one of these names, told what holds of the first arrivals of the capture: it has sent the datagrams of the arrivals before this one, in order and each once, where it tells that
pub record IsNextUnder (gave : ℕ → Bool) (AreFirst : List Played → Type 0) (names : List (List ℕ)) (name : List ℕ) (sent : Option (List (List ℕ))) (datagram : List ℕ) : Type 0 where
  pub named : Contains names name
  pub before : List Played
  pub sent_is : IfSome sent (λ all. all ≡ map bytes_of before)
  pub next : IsNextArrival gave AreFirst before datagram

-- the words are of the form, and a post under one of POSTS is to send the datagram of the next arrival of CAPTURE, for which a clock gave the arrival's reading or a later one
pub record IsDue (gave : ℕ → Bool) (told : Told) (words : List (List ℕ)) (name : List ℕ) (sent : Option (List (List ℕ))) (datagram : List ℕ) : Type 0 where
  pub arguments : PlayArguments
  pub form : IsPlayForm arguments words
  pub next : IsNextUnder gave (AreFirstIn (told.page arguments.capture)) arguments.posts name sent datagram
