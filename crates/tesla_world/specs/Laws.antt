-- The laws: what a right clock and an honest stream buy.
use Rattle.std.specs.Prelude.{◌≡◌, ◌≢◌, ◌⊎◌, ℕ, ◌-◌, ◌+◌, ◌<◌, ◌≤◌, ℤ, pos, ◌≤ℤ◌, ◌+ℤ◌, ◌-ℤ◌, true, ◌&&◌, List, [], ◌∷◌, take, replicate, get_or, Option, Some, Ok, nat_lt, slice_get}
use Rattle.std.specs.List.{Contains, list_any}
use Rattle.tesla_base.specs.declared.names.Key.{Key}
use Rattle.tesla_clock.specs.Safe.{has_chain}
use Rattle.tesla_fitting.specs.Config.{chain_row}
use Rattle.tesla_fitting.specs.Rows.{keys_of, leads_to}
use Rattle.tesla_fitting.specs.declared.config.Config.{Config}
use Rattle.tesla_fitting.specs.declared.verdict.Verdict.TheVariants.{Future}
use Rattle.tesla_frame.specs.Frame.{Data, DataFrame, TagRow, Frame}
use Rattle.tesla_frame.specs.Reading.{frame_of}
use Rattle.tesla_frame.specs.declared.row.KeyRow.{KeyRow}
use Rattle.tesla_prf.specs.Keys.{next_of, tag_of, walk}
use Rattle.tesla_receiver.specs.History.{IsLegal, arrivals_in}
use Rattle.tesla_receiver.specs.Keys.{is_good, keys_in, keys_taken, new_keys, newest}
use Rattle.tesla_receiver.specs.Packets.{packet_of, proves, released}
use Rattle.tesla_receiver.specs.Entries.{Arrival, Entry}
use Rattle.tesla_receiver.specs.declared.packet.Packet.{Packet}
use Rattle.tesla_sender.specs.Made.{Call, key_of}
use Rattle.tesla_state.specs.Releases.{has_name}
use Rattle.tesla_sync.specs.Lag.{lag_judged}
use Rattle.tesla_world.specs.World.{Moment, Sent, Received, IsBounded, Joined, arrival_at}

-- the seed of a chain
abbrev pub seed_in : List Key → ℕ → Key
seed_in seeds chain = get_or seeds chain (record { 0 = replicate 32 0 })

-- the sender's key of an index of a chain
abbrev pub senders_key : Config → List Key → ℕ → ℕ → Key
senders_key cfg seeds chain index = key_of cfg.setup.times.last (seed_in seeds chain) index

-- ---- the commitment law

-- the key of a row was carried by the frame of one of these arrivals
pub record IsCarried (cfg : Config) (arrivals : List Arrival) (row : KeyRow) : Type 0 where
  pub arrival : Arrival
  pub among : Contains arrivals arrival
  pub carried : Contains (keys_in cfg (frame_of arrival.bytes)) row

-- a value on the walk of a key down to the index of its chain's commitment: of the offered key, or of one of its chain that these arrivals carried
pub record IsOnWalk (cfg : Config) (arrivals : List Arrival) (offered : KeyRow) (value : Key) : Type 0 where
  pub row : KeyRow
  pub known : (row ≡ offered) ⊎ IsCarried cfg arrivals row
  pub chain_is : row.chain.0 ≡ offered.chain.0
  pub above : (chain_row cfg row.chain.0).index ≤ row.index
  pub steps : ℕ
  pub within : steps ≤ row.index - (chain_row cfg row.chain.0).index
  pub value_is : value ≡ walk row.key steps

-- no two different values on these walks have one image under the one-way function
abbrev pub NoneCollide : Config → List Arrival → KeyRow → Type 0
NoneCollide cfg arrivals offered = (x y : Key) → IsOnWalk cfg arrivals offered x → IsOnWalk cfg arrivals offered y → next_of x ≡ next_of y → x ≡ y

-- where none collide, a key is good exactly where it is newer and leads to the commitment
abbrev pub CommitmentLaw : Type 0
CommitmentLaw =
    (cfg : Config) (h : List Entry) (row : KeyRow) → IsLegal cfg h → NoneCollide cfg (arrivals_in h) row →
    is_good cfg (arrivals_in h) row ≡ (nat_lt (newest cfg (arrivals_in h) row.chain.0) row.index && leads_to row (chain_row cfg row.chain.0).index (chain_row cfg row.chain.0).key)

-- ---- the security condition

-- each key that was disclosed in a world is the sender's own of the index that it stands for
abbrev pub TellsOwnKeys : Config → List Key → List Moment → Type 0
TellsOwnKeys cfg seeds world =
    (i sent : ℕ) (text : List ℕ) (frame : Frame) (row : KeyRow) → slice_get world i ≡ Some (Sent sent text) → frame_of text ≡ Some frame →
    Contains (keys_of cfg frame) row → row.key ≡ senders_key cfg seeds row.chain.0 row.index

-- the frames that were sent in this part of a world told no key of the chain that reaches the interval
abbrev pub IsUndisclosed : Config → List Moment → ℕ → ℕ → Type 0
IsUndisclosed cfg prefix chain interval =
    (i sent : ℕ) (text : List ℕ) (frame : Frame) (row : KeyRow) → slice_get prefix i ≡ Some (Sent sent text) → frame_of text ≡ Some frame →
    Contains (keys_of cfg frame) row → row.chain.0 ≡ chain → row.index < interval

-- what was sent before a kept packet came told no key of a chain of its set that reaches its interval
abbrev pub AreUndisclosed : Config → List Moment → List Entry → Type 0
AreUndisclosed cfg world history =
    (j received : ℕ) (bytes : List ℕ) (arrival : Arrival) (packet : Packet) (chain : ℕ) → slice_get world j ≡ Some (Received received bytes) →
    slice_get (arrivals_in history) (arrival_at world j) ≡ Some arrival → packet_of arrival ≡ Some packet → has_chain packet.chains chain ≡ true →
    IsUndisclosed cfg (take j world) chain packet.frame.name.interval

-- and so it is where the clock bound holds of the world
abbrev pub KeptAreUndisclosed : Config → List Moment → List Entry → Type 0
KeptAreUndisclosed cfg world history = IsBounded cfg.lag world → AreUndisclosed cfg world history

-- both: a data frame writes no index, so what its key stands for is said beside
pub record IsSecure (cfg : Config) (seeds : List Key) (world : List Moment) (history : List Entry) : Type 0 where
  pub own : TellsOwnKeys cfg seeds world
  pub undisclosed : KeptAreUndisclosed cfg world history

abbrev pub SecurityCondition : Type 0
SecurityCondition =
    (cfg : Config) (seeds : List Key) (world : List Moment) (log : List Call) (history : List Entry) → Joined cfg seeds world log history →
    IsSecure cfg seeds world history

-- ---- what was sent isn't from the future

-- no arrival with the bytes of a frame that was sent before it came was judged as from the future
abbrev pub AreNotFuture : List Moment → List Entry → Type 0
AreNotFuture world history =
    (i j sent received : ℕ) (bytes : List ℕ) (arrival : Arrival) (bound : Option ℕ) → i < j →
    slice_get world i ≡ Some (Sent sent bytes) → slice_get world j ≡ Some (Received received bytes) →
    slice_get (arrivals_in history) (arrival_at world j) ≡ Some arrival → arrival.verdict ≢ Future bound

-- and so it is where the clock bound holds of the world
abbrev pub SentAreNotFuture : Config → List Moment → List Entry → Type 0
SentAreNotFuture cfg world history = IsBounded cfg.lag world → AreNotFuture world history

abbrev pub FutureLaw : Type 0
FutureLaw =
    (cfg : Config) (seeds : List Key) (world : List Moment) (log : List Call) (history : List Entry) → Joined cfg seeds world log history →
    SentAreNotFuture cfg world history

-- ---- the honest completeness

-- no taken key is forged: each new one is the sender's of its index
abbrev pub IsHonest : Config → List Key → List Arrival → Type 0
IsHonest cfg seeds arrivals =
    (n : ℕ) (arrival : Arrival) (row : KeyRow) → slice_get arrivals n ≡ Some arrival → Contains (new_keys cfg (take n arrivals) arrival) row →
    row.key ≡ senders_key cfg seeds row.chain.0 row.index

-- the packet has the sender's tag for the chain
pub record HasSendersTag (cfg : Config) (seeds : List Key) (frame : DataFrame) (chain : ℕ) : Type 0 where
  pub row : TagRow
  pub at : slice_get frame.rows chain ≡ Some row
  pub tag : row.tag ≡ tag_of cfg.setup.tag_length (senders_key cfg seeds chain frame.name.interval) cfg.setup.stream (record { 0 = chain }) frame.name frame.payload

-- a new key of the chain that an arrival takes after these reaches the interval
pub record IsReached (cfg : Config) (before : List Arrival) (arrival : Arrival) (chain interval : ℕ) : Type 0 where
  pub row : KeyRow
  pub new : Contains (new_keys cfg before arrival) row
  pub chain_is : row.chain.0 ≡ chain
  pub reaches : interval ≤ row.index

-- at the arrival n the chain proves the packet, which is released by then under its name, or another packet of its name is
pub record IsProvedAt (cfg : Config) (arrivals : List Arrival) (n : ℕ) (arrival : Arrival) (packet : Packet) (chain : ℕ) : Type 0 where
  pub proves_it : proves cfg (take n arrivals) (new_keys cfg (take n arrivals) arrival) packet chain ≡ true
  pub released_by : list_any (has_name packet.frame.name) (released cfg (take (n + 1) arrivals)) ≡ true

-- where no taken key is forged, a kept packet with the sender's tag is proved by the first new key of a chain of its set that reaches its interval
abbrev pub IsComplete : Config → List Key → List Entry → Type 0
IsComplete cfg seeds history =
    IsHonest cfg seeds (arrivals_in history) → (m n : ℕ) (kept arrival : Arrival) (packet : Packet) (chain : ℕ) → m < n →
    slice_get (arrivals_in history) m ≡ Some kept → packet_of kept ≡ Some packet → has_chain packet.chains chain ≡ true → HasSendersTag cfg seeds packet.frame chain →
    slice_get (arrivals_in history) n ≡ Some arrival → IsReached cfg (take n (arrivals_in history)) arrival chain packet.frame.name.interval →
    ((k : ℕ) (other : Arrival) → m < k → k < n → slice_get (arrivals_in history) k ≡ Some other → IsReached cfg (take k (arrivals_in history)) other chain packet.frame.name.interval → ⊥) →
    IsProvedAt cfg (arrivals_in history) n arrival packet chain

abbrev pub HonestCompleteness : Type 0
HonestCompleteness = (cfg : Config) (seeds : List Key) (history : List Entry) → IsLegal cfg history → IsComplete cfg seeds history

-- ---- what a reader takes from it

-- where no taken key is forged, a message that was sent, came and was kept is released under its name once a key of a chain of its set, of its interval or a later one, was taken
abbrev pub DeliveryLaw : Type 0
DeliveryLaw =
    (cfg : Config) (seeds : List Key) (world : List Moment) (log : List Call) (history : List Entry) → Joined cfg seeds world log history →
    IsHonest cfg seeds (arrivals_in history) →
    (i j n sent received : ℕ) (bytes : List ℕ) (message : DataFrame) (kept arrival : Arrival) (packet : Packet) (chain : ℕ) (row : KeyRow) →
    slice_get world i ≡ Some (Sent sent bytes) → frame_of bytes ≡ Some (Data message) → slice_get world j ≡ Some (Received received bytes) →
    slice_get (arrivals_in history) (arrival_at world j) ≡ Some kept → packet_of kept ≡ Some packet → has_chain packet.chains chain ≡ true →
    arrival_at world j < n → slice_get (arrivals_in history) n ≡ Some arrival → Contains (keys_taken cfg arrival) row → row.chain.0 ≡ chain → message.name.interval ≤ row.index →
    list_any (has_name message.name) (released cfg (take (n + 1) (arrivals_in history))) ≡ true

-- ---- the time law

-- each frame that was sent before a datagram came was sent, by both clocks, no later against it than the clocks stood apart when the receiver asked, and the drift
abbrev pub HaveDrifted : ℕ → ℕ → ℕ → List Moment → Type 0
HaveDrifted asked at_ask drift world =
    (i j sent received : ℕ) (text bytes : List ℕ) → i < j → slice_get world i ≡ Some (Sent sent text) → slice_get world j ≡ Some (Received received bytes) →
    (pos sent -ℤ pos received) ≤ℤ ((pos at_ask -ℤ pos asked) +ℤ pos drift)

-- the receiver read `asked` when it asked, the sender's clock read `at_ask` then and `answered` when it answered, not before: the lag that follows bounds the clocks
abbrev pub TimeLaw : Type 0
TimeLaw =
    (asked at_ask answered drift : ℕ) (lag : ℤ) (world : List Moment) → at_ask ≤ answered → HaveDrifted asked at_ask drift world →
    lag_judged answered asked drift ≡ Ok lag → IsBounded lag world

-- ---- clocks that err on the safe side

-- the same was sent or came at both moments; the first reading is at most the other where it is the sender's, and at least the other where it is the receiver's
abbrev pub ErrsSafelyAt : Moment → Moment → Type 0
ErrsSafelyAt (Sent reading bytes) (Sent right same) = (reading ≤ right) × (bytes ≡ same)
ErrsSafelyAt (Sent reading bytes) (Received right same) = ⊥
ErrsSafelyAt (Received reading bytes) (Sent right same) = ⊥
ErrsSafelyAt (Received reading bytes) (Received right same) = (right ≤ reading) × (bytes ≡ same)

-- two worlds in which the same was sent and came, and which differ in readings alone: at each moment the sender's reading is at most, and the receiver's at least, that of the other
abbrev pub ErrsSafely : List Moment → List Moment → Type 0
ErrsSafely [] [] = Unit {0}
ErrsSafely [] (right ∷ others) = ⊥
ErrsSafely (moment ∷ world) [] = ⊥
ErrsSafely (moment ∷ world) (right ∷ others) = ErrsSafelyAt moment right × ErrsSafely world others

-- where the clock bound holds of right clocks, it holds of clocks that err so
abbrev pub SafeClocksAreBounded : Type 0
SafeClocksAreBounded = (lag : ℤ) (world right : List Moment) → ErrsSafely world right → IsBounded lag right → IsBounded lag world

-- and so what was sent before a kept packet came told no key that reaches its interval, with the premise on the right clocks alone
abbrev pub SafeClocksAreSecure : Type 0
SafeClocksAreSecure =
    (cfg : Config) (seeds : List Key) (world right : List Moment) (log : List Call) (history : List Entry) → Joined cfg seeds world log history →
    ErrsSafely world right → IsBounded cfg.lag right → AreUndisclosed cfg world history

-- ---- what the second half of the security condition is for

-- a frame of the world tells for a chain the key of one interval later than it stands for, which is another key
pub record TellsEarly (cfg : Config) (seeds : List Key) (world : List Moment) (chain : ℕ) : Type 0 where
  pub i : ℕ
  pub sent : ℕ
  pub text : List ℕ
  pub frame : DataFrame
  pub row : TagRow
  pub at : slice_get world i ≡ Some (Sent sent text)
  pub framed : frame_of text ≡ Some (Data frame)
  pub row_at : slice_get frame.rows chain ≡ Some row
  pub due : (chain_row cfg chain).delay ≤ frame.name.interval
  pub tells : row.key ≡ Some (senders_key cfg seeds chain (frame.name.interval - (chain_row cfg chain).delay + 1))
  pub other : senders_key cfg seeds chain (frame.name.interval - (chain_row cfg chain).delay + 1) ≢ senders_key cfg seeds chain (frame.name.interval - (chain_row cfg chain).delay)

-- a world in which a key is disclosed an interval too early isn't secure, whatever came
abbrev pub EarlyIsInsecure : Type 0
EarlyIsInsecure =
    (cfg : Config) (seeds : List Key) (world : List Moment) (history : List Entry) (chain : ℕ) → TellsEarly cfg seeds world chain → IsSecure cfg seeds world history → ⊥
