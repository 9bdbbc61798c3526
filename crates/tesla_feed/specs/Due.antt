-- At which readings events of a feed are given, and posts that sent nothing.
use Rattle.std.specs.Prelude.{◌≡◌, ℕ, suc, Bool, true, List, [], ◌∷◌, IfSome}
use Rattle.std.specs.List.{AllByRecursion}
use Rattle.tesla_desk.specs.declared.link.Letter.TheVariants as letters
use Rattle.tesla_relay.specs.Posts.{PostSeen}
use Rattle.tesla_feed.specs.Fed.{Event, Received, Rested}

-- ---- readings that the clock gave

-- the clock gave the reading of an event, and that of a datagram when it was asked for the datagram of this number
abbrev pub IsGiven : (ℕ → Bool) → (ℕ → List ℕ → ℕ → Bool) → ℕ → Event → Type 0
IsGiven gave read_for number (Received reading (letters.Datagram bytes)) =
    (gave reading ≡ true) × (read_for number bytes reading ≡ true)
IsGiven gave read_for number (Received reading letters.Quiet) = gave reading ≡ true
IsGiven gave read_for number (Rested reading) = gave reading ≡ true

-- how many datagrams came by an event, of which so many came before it
abbrev pub datagrams_by : ℕ → Event → ℕ
datagrams_by number (Received reading (letters.Datagram bytes)) = suc number
datagrams_by number (Received reading letters.Quiet) = number
datagrams_by number (Rested reading) = number

-- the clock gave the readings of these events behind so many datagrams; theirs are numbered on from there, in order
abbrev pub AreGiven : (ℕ → Bool) → (ℕ → List ℕ → ℕ → Bool) → ℕ → List Event → Type 0
AreGiven gave read_for number [] = Unit {0}
AreGiven gave read_for number (event ∷ events) =
    IsGiven gave read_for number event × AreGiven gave read_for (datagrams_by number event) events

-- ---- posts

-- none of the posts sent anything, where it tells what it sent
abbrev pub AreUnsent : List PostSeen → Type 0
AreUnsent posts = AllByRecursion (λ post. IfSome post.sent (λ sent. sent ≡ [])) posts
