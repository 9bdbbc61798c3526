-- What a session needs to be allowed. Links may be asked, and clocks for what links brought, and outputs may write what is due.
use Rattle.std.specs.Prelude.{◌≡◌, ℕ, suc, ◌+◌, Bool, true, List, [], ◌∷◌, length, Option, Some}
use Rattle.tesla_shared.specs.Yields.{Yield, Record}
use Rattle.tesla_session.specs.Session.{PassSeen, split_pass}

-- a clock may be asked for each datagram that a link brought
abbrev pub MayAsk : (ℕ → List ℕ → Bool) → (ℕ → List ℕ → Bool) → Type 0
MayAsk brought may_ask = (number : ℕ) (bytes : List ℕ) → brought number bytes ≡ true → may_ask number bytes ≡ true

module _ {S R : Type 0} (name : S → List ℕ) (written : S → Option (List ℕ)) (may_write : S → List ℕ → Bool) (yields : R → Yield) where
  -- the outputs of this name may write the record of each answer that is due to the releaser
  abbrev pub MayRelease : (ℕ → Option (List ℕ) → R → Type 0) → ℕ → List ℕ → Type 0
  MayRelease is_due releaser under = (it : S) (reply : R) (text : List ℕ) → name it ≡ under → is_due releaser (written it) reply → yields reply ≡ Record text → may_write it text ≡ true

  -- the same of the outputs of these names, for releasers that are numbered from here on
  abbrev pub MayReleaseAll : (ℕ → Option (List ℕ) → R → Type 0) → ℕ → List (List ℕ) → Type 0
  MayReleaseAll is_due releaser [] = Unit {0}
  MayReleaseAll is_due releaser (under ∷ others) = MayRelease is_due releaser under × MayReleaseAll is_due (releaser + 1) others

  -- a worker for the output of this name may have the next pass
  abbrev pub AllowsSink : {C V : Type 0} → (C → ℕ → Option (List ℕ) → R → Type 0) → (C → ℕ) → PassSeen C V R → ℕ → List ℕ → Type 0
  AllowsSink {C} is_due ingests first releaser under = (cfg : C) → first.config ≡ Some cfg → (length first.joined ≡ suc (ingests cfg + releaser)) × MayRelease (is_due cfg) releaser under

-- each link may be asked for its next letter
abbrev pub MayAskLinks : {K : Type 0} → (K → Bool) → Type 0
MayAskLinks {K} may_ask_link = (link : K) → may_ask_link link ≡ true

-- a worker for the link of this number may have the next pass
abbrev pub AllowsLink : {C V R K : Type 0} → (ℕ → List ℕ → Bool) → (ℕ → List ℕ → Bool) → (K → Bool) → PassSeen C V R → ℕ → List ℕ → Type 0
AllowsLink brought may_ask may_ask_link first ingest under = (length first.joined ≡ suc ingest) × MayAsk brought may_ask × MayAskLinks may_ask_link

module _ {C V R : Type 0} where
  -- each of these workers, numbered from here on, may have the next pass
  abbrev pub AreAllowed : (PassSeen C V R → ℕ → List ℕ → Type 0) → PassSeen C V R → ℕ → List (List ℕ) → Type 0
  AreAllowed allowed first number [] = Unit {0}
  AreAllowed allowed first number (name ∷ names) = allowed first number name × AreAllowed allowed (split_pass first) (number + 1) names
