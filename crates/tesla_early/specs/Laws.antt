-- What is so of the early arrivals of every history.
use Rattle.std.specs.Prelude.{◌≡◌, ◌≢◌, ◌⊎◌, ◌≤◌, ◌<◌, ◌+◌, ◌^◌, Bool, ℕ, suc, true, false, List, length, take, Some, slice_get}
use Rattle.sha2.specs.Sha256.{sha256}
use Rattle.tesla_base.specs.declared.names.Name.{Name}
use Rattle.tesla_base.specs.declared.release.Head.{Head}
use Rattle.tesla_early.specs.Payloads.{promise_for, promise_of}
use Rattle.tesla_early.specs.declared.promise.Promise.{Promise}
use Rattle.tesla_fitting.specs.declared.config.Config.{Config}
use Rattle.tesla_receiver.specs.History.{arrivals_in, given_in, payload_of}
use Rattle.tesla_receiver.specs.Packets.{released}
use Rattle.tesla_receiver.specs.Entries.{Arrival, Entry}
use Rattle.tesla_receiver.specs.declared.history.Entry.TheVariants.{Arrived, Taken}
use Rattle.tesla_state.specs.declared.replies.Reply.TheVariants.{Given}
use Rattle.tesla_walks.specs.declared.release.Release.{Release}
use Rattle.tesla_early.specs.Early.{Message, candidate, is_early, learnt}
use Rattle.tesla_early.specs.Learnt.{Learnt}

-- the entry of this place gave a packet with this payload
pub record Gave (history : List Entry) (entry : ℕ) (payload : List ℕ) : Type 0 where
  pub releaser : ℕ
  pub head : Head
  pub is : slice_get history entry ≡ Some (Taken releaser (Given head payload))

-- the entry of this place is an early arrival of this message
pub record WasEarly (most : ℕ) (history : List Entry) (entry : ℕ) (message : Message) : Type 0 where
  pub arrival : Arrival
  pub is : slice_get history entry ≡ Some (Arrived arrival)
  pub early : is_early most (take entry history) arrival ≡ true
  pub candidate_is : candidate arrival ≡ Some message

-- the entry of this place taught what this payload promises
abbrev pub Taught : ℕ → List Entry → ℕ → List ℕ → Type 0
Taught most history entry payload = Gave history entry payload ⊎ ((name : Name) × WasEarly most history entry (record { name = name; payload = payload }))

-- an early arrival used the promise
abbrev pub is_used : Learnt → Bool
is_used it = it.used

-- what never changes of a promise that was learnt
abbrev pub origin_of : Learnt → ℕ × Promise
origin_of it = (it.entry, it.promise)

-- the entry of this place taught this promise
pub record TaughtPromise (most : ℕ) (history : List Entry) (entry : ℕ) (promise : Promise) : Type 0 where
  pub payload : List ℕ
  pub taught : Taught most history entry payload
  pub promise_is : promise_of payload ≡ Some promise

-- the promise that the entry of this place taught is among those that were learnt
pub record IsLearnt (most : ℕ) (history : List Entry) (entry : ℕ) (promise : Promise) : Type 0 where
  pub place : ℕ
  pub it : Learnt
  pub is : slice_get (learnt most history) place ≡ Some it
  pub entry_is : it.entry ≡ entry
  pub promise_is : it.promise ≡ promise

-- the promise of an early arrival stands in a payload that was given before, or that was early before
pub record WasPromised (most : ℕ) (history : List Entry) (entry : ℕ) (message : Message) : Type 0 where
  -- the entry that taught it
  pub teacher : ℕ
  pub before : teacher < entry
  pub payload : List ℕ
  pub taught : Taught most history teacher payload
  pub promise : promise_of payload ≡ Some (promise_for message.name message.payload)

-- the entry of this place taught a promise that an arrival behind this history may use: it stands among the last so many that were learnt, and no early arrival has used it
pub record IsLive (most : ℕ) (history : List Entry) (entry : ℕ) : Type 0 where
  pub place : ℕ
  pub it : Learnt
  pub is : slice_get (learnt most history) place ≡ Some it
  pub entry_is : it.entry ≡ entry
  pub unused : it.used ≡ false
  -- fewer than so many were learnt behind it
  pub last : length (learnt most history) ≤ place + most

-- the entries whose promises early arrivals used: the entry of this place used the promise that that one taught
pub record Uses (most : ℕ) (history : List Entry) (entry teacher : ℕ) : Type 0 where
  pub place : ℕ
  pub before : Learnt
  pub is : slice_get (learnt most (take entry history)) place ≡ Some before
  pub entry_is : before.entry ≡ teacher
  pub unused : before.used ≡ false
  pub after : Learnt
  pub now : slice_get (learnt most (take (suc entry) history)) place ≡ Some after
  pub used : after.used ≡ true

-- ---- where trust comes from

-- the payload is that of the packet that is released next of the entries before this place
pub record IsReleased (cfg : Config) (history : List Entry) (entry : ℕ) (payload : List ℕ) : Type 0 where
  pub release : Release
  -- of what is released of the arrivals before, the first that wasn't given
  pub next : slice_get (released cfg (arrivals_in (take entry history))) (given_in (take entry history)) ≡ Some release
  pub payload_is : payload ≡ payload_of (slice_get (arrivals_in (take entry history)) release.place)

-- the promise of the message that came at this place goes back, through messages that were early, to a packet that was released
pub data ReachesReleased (cfg : Config) (most : ℕ) (history : List Entry) : ℕ → Message → Type 0 where
  -- it stands in the payload of a packet that was released and given before
  FromGiven : (entry : ℕ) (message : Message) (giver : ℕ) (payload : List ℕ) → giver < entry → Gave history giver payload → IsReleased cfg history giver payload → promise_of payload ≡ Some (promise_for message.name message.payload) → ReachesReleased cfg most history entry message
  -- it stands in the payload of a message that was early before, whose own promise does
  FromEarly : (entry : ℕ) (message : Message) (earlier : ℕ) (before : Message) → earlier < entry → WasEarly most history earlier before → promise_of before.payload ≡ Some (promise_for message.name message.payload) → ReachesReleased cfg most history earlier before → ReachesReleased cfg most history entry message

-- ---- messages of one sender

-- the fields of these names are within their sizes
abbrev pub NamesFit : List Name → Type 0
NamesFit names = (place : ℕ) (name : Name) → slice_get names place ≡ Some name → (name.interval < 2 ^ 32) × (name.number < 2 ^ 16)

-- each packet that was given has one of these payloads
abbrev pub GivenAreOf : List Entry → List (List ℕ) → Type 0
GivenAreOf history payloads = (entry : ℕ) (payload : List ℕ) → Gave history entry payload → (place : ℕ) × (slice_get payloads place ≡ Some payload)

-- the message is one of those with these names and payloads
pub record IsOneOf (names : List Name) (payloads : List (List ℕ)) (message : Message) : Type 0 where
  pub place : ℕ
  pub name_is : slice_get names place ≡ Some message.name
  pub payload_is : slice_get payloads place ≡ Some message.payload

-- an early arrival up to this entry has another payload than one of these, of the same digest
pub record Collides (most : ℕ) (history : List Entry) (entry : ℕ) (payloads : List (List ℕ)) : Type 0 where
  pub early : ℕ
  pub no_later : early ≤ entry
  pub message : Message
  pub was : WasEarly most history early message
  pub place : ℕ
  pub other : List ℕ
  pub other_is : slice_get payloads place ≡ Some other
  pub differs : message.payload ≢ other
  pub same : sha256 message.payload ≡ sha256 other
