-- An environment that permits each piece, each datagram and each asking allows what live commands need.
use Rattle.std.proofs.Common.{◌≡◌, ℕ, Bool, true, List, Option}
use Rattle.tesla_desk.specs.Outside.{Told}
use Rattle.tesla_cli_live.specs.Allowed.{AllowsLive, AllowsLiveTools, AllowsRecorded}

module _ {S : Type 0} (output_name : S → List ℕ) (written : S → Option (List ℕ)) (may_write : S → List ℕ → Bool)
    {P : Type 0} (post_name : P → List ℕ) (sent : P → Option (List (List ℕ))) (may_send : P → List ℕ → Bool)
    (brought : ℕ → List ℕ → Bool) {K : Type 0} (may_ask_link : K → Bool) (may_ask : ℕ → List ℕ → Bool) (gave : ℕ → Bool) (read_for : ℕ → List ℕ → ℕ → Bool)
    (writes : (it : S) (piece : List ℕ) → may_write it piece ≡ true) (sends : (post : P) (datagram : List ℕ) → may_send post datagram ≡ true)
    (links : (link : K) → may_ask_link link ≡ true) (asks : (number : ℕ) (datagram : List ℕ) → may_ask number datagram ≡ true) (words : List (List ℕ)) (told : Told) where
  pub live_allowed : (has_brought : K → ℕ → Bool) (was_put : (ℕ → List ℕ → Bool) → ℕ → ℕ → Bool) (was_full : (ℕ → List ℕ → Bool) → ℕ → ℕ → ℕ → Bool)
      → AllowsLive output_name written may_write post_name sent may_send brought may_ask_link may_ask gave read_for has_brought was_put was_full words told
  live_allowed has_brought was_put was_full = record {
    any_link = λ first. links;
    relay_link = λ arguments is link number has offered. links link;
    asked = λ number datagram came. asks number datagram;
    received = λ arguments is it piece due. writes it piece;
    relayed = λ post datagram due. sends post datagram;
    played = λ post datagram due. sends post datagram;
  }

  pub tools_allowed : (has_brought : K → ℕ → Bool) (was_put : (ℕ → List ℕ → Bool) → ℕ → ℕ → Bool) (was_full : (ℕ → List ℕ → Bool) → ℕ → ℕ → ℕ → Bool)
      → AllowsLiveTools output_name written may_write post_name sent may_send brought may_ask_link may_ask gave read_for has_brought was_put was_full words told
  tools_allowed has_brought was_put was_full = record {
    any_link = λ first. links;
    relay_link = λ arguments is link number has offered. links link;
    asked = λ number datagram came. asks number datagram;
    captured = λ it piece due. writes it piece;
    fed = λ post datagram due. sends post datagram;
    counted = λ it piece next. writes it piece;
    watched = λ arguments is it piece due. writes it piece;
    status = λ arguments is setup spelled it piece named next. writes it piece;
    relayed = λ post datagram due. sends post datagram;
    tallies = λ arguments is it piece named next. writes it piece;
    followed = λ arguments is it piece due. writes it piece;
    counts = λ arguments is it piece named next. writes it piece;
  }

  pub recorded_allowed : AllowsRecorded output_name written may_write post_name sent may_send brought may_ask_link may_ask gave read_for words told
  recorded_allowed = record {
    any_link = links;
    asked = λ number datagram came. asks number datagram;
    recorded = λ arguments is it piece due. writes it piece;
    tail = λ arguments is setup spelled it piece named part. writes it piece;
  }
