-- What a sent frame carries: the keys that are due in its interval, each the sender's own of its index.
use Rattle.std.proofs.Common.{◌≡◌, ℕ, zero, suc, ◌+◌, ◌-◌, ◌<◌, ◌≤◌, Bool, true, false, cond, List, [], ◌∷◌, get_or, map, min, Option, Some, None, Result, Ok, Err, inl, inr, refl, sym, ap, subst, ◌∙◌, arith}
use Rattle.std.specs.Prelude.{nat_lt, option_map, slice_get}
use Rattle.std.specs.List.{All, Contains, enumerate_from, flat_map}
use Rattle.std.proofs.lemmas.Bool.{cases_Bool, ltb-true, le-ltb}
use Rattle.std.proofs.lemmas.List.Elements.{All-append, All-cons, All-contains, All-get_or, All-nil}
use Rattle.std.proofs.lemmas.Option.{get_or_from_slice_get, none-some, same_Some, slice_get-get_or, slice_get-map, slice_get_within}
use Rattle.tesla_base.specs.declared.names.Key.{Key}
use Rattle.tesla_base.specs.declared.names.Name.{Name}
use Rattle.tesla_base.proofs.Numbered.{each_gathered}
use Rattle.tesla_base.proofs.Passing.{passes_somewhere}
use Rattle.tesla_clock.specs.Schedule.{Times}
use Rattle.tesla_commit.specs.declared.chain_row.ChainRow.{ChainRow}
use Rattle.tesla_fitting.specs.Config.{chain_row, no_row}
use Rattle.tesla_fitting.specs.Fitting.{is_future, is_undisclosed}
use Rattle.tesla_fitting.specs.Rows.{carried, keys_of}
use Rattle.tesla_fitting.specs.declared.config.Config.{Config}
use Rattle.tesla_frame.specs.Frame.{Frame, TagRow}
use Rattle.tesla_frame.specs.declared.row.KeyRow.{KeyRow}
use Rattle.tesla_sender.specs.Made.{Call, Message, Disclose, Stream, Chain, any_due, chains_from, chains_of, disclosed, disclosed_after, disclosure_frame, due_row, due_rows, frame_in, frame_made, framed, interval_at, key_due, key_of, latest_of, made_disclosure, made_message, message_frame, messages_of, name_of, reading_of, row_of}
use Rattle.tesla_sender.specs.declared.refusal.DiscloseRefusal.{DiscloseRefusal}
use Rattle.tesla_sender.specs.declared.refusal.DiscloseRefusal.TheVariants as undisclosed
use Rattle.tesla_sender.specs.declared.refusal.SendRefusal.{SendRefusal}
use Rattle.tesla_sender.proofs.Logs.{IsNamed, named}
use Rattle.tesla_world.specs.World.{Moment, Sent, AreSentFor, sent_in}
use Rattle.tesla_world.specs.Laws.{seed_in, senders_key}
use Rattle.tesla_world.proofs.Newest.{contained}
use Rattle.tesla_world.proofs.Sent.{HasCall, sent_for, sent_number}

-- ---- lists

-- what a function gives at a place comes from the element there
pub mapped_from : {A B : Type 0} (f : A → B) (o : Option A) (y : B) → option_map f o ≡ Some y → (x : A) × (o ≡ Some x) × (f x ≡ y)
mapped_from f None y e = absurd (none-some y e)
mapped_from f (Some x) y e = (x, refl, same_Some (f x) y e)

-- what is so of all elements is so of the one at a place
got_all : {A : Type 0} (P : A → Type 0) (xs : List A) (k : ℕ) (x : A) → All P xs → slice_get xs k ≡ Some x → P x
got_all P xs k x all at = subst P (get_or_from_slice_get xs k x x at) (All-get_or P xs k x (slice_get_within xs k x at) all)

-- what is so of all that each element gives is so of all that they give
all_joined : {A B : Type 0} (P : B → Type 0) (f : A → List B) (xs : List A) → ((k : ℕ) (x : A) → slice_get xs k ≡ Some x → All P (f x)) → All P (flat_map f xs)
all_joined P f [] each = All-nil P
all_joined P f (x ∷ xs) each = All-append P (f x) (flat_map f xs) (each 0 x refl) (all_joined P f xs (λ k y at. each (suc k) y at))

-- ---- the call behind a sent frame

-- what was sent at a moment is for a call
pub call_at : (stream : Stream) (log : List Call) (world : List Moment) (i reading : ℕ) (bytes : List ℕ) → AreSentFor stream [] log (sent_in world) → slice_get world i ≡ Some (Sent reading bytes) → (k : ℕ) × HasCall stream [] log k (record { reading = reading; bytes = bytes })
call_at stream log world i reading bytes all at =
    let number = sent_number world i reading bytes at in
    (number.0, sent_for stream [] log (sent_in world) number.0 (record { reading = reading; bytes = bytes }) all number.1)

-- ---- the chains of a stream

-- a chain with its number, its row, its seed and the index of that
record IsChain (last number : ℕ) (row : ChainRow) (seed : Key) (chain : Chain) : Type 0 where
  pub number_is : chain.number ≡ number
  pub row_is : chain.row ≡ row
  pub seed_is : chain.seed ≡ seed
  pub last_is : chain.last ≡ last

-- the chains at their places
paired_at : (last number : ℕ) (rows : List ChainRow) (seeds : List Key) (k : ℕ) (chain : Chain) → slice_get (chains_from last number rows seeds) k ≡ Some chain → IsChain last (number + k) (get_or rows k no_row) (seed_in seeds k) chain
paired_at last number [] seeds k chain at = absurd (none-some chain at)
paired_at last number (row ∷ rows) [] k chain at = absurd (none-some chain at)
paired_at last number (row ∷ rows) (seed ∷ seeds) zero chain at =
    let is : record { number = number; row = row; seed = seed; last = last } ≡ chain = same_Some _ chain at in
    let first : number ≡ number + 0 = omega arith in
    record { number_is = sym (ap (λ (c : Chain). c.number) is) ∙ first; row_is = sym (ap (λ (c : Chain). c.row) is); seed_is = sym (ap (λ (c : Chain). c.seed) is); last_is = sym (ap (λ (c : Chain). c.last) is) }
paired_at last number (row ∷ rows) (seed ∷ seeds) (suc k) chain at =
    let later = paired_at last (number + 1) rows seeds k chain at in
    let next : number + 1 + k ≡ number + suc k = omega arith in
    record { number_is = later.number_is ∙ next; row_is = later.row_is; seed_is = later.seed_is; last_is = later.last_is }

-- a chain of the stream has the row and the seed of its number
abbrev IsChainOf : Config → List Key → ℕ → Chain → Type 0
IsChainOf cfg seeds number chain = IsChain cfg.setup.times.last number (chain_row cfg number) (seed_in seeds number) chain

chain_at : (cfg : Config) (seeds : List Key) (k : ℕ) (chain : Chain) → slice_get (chains_of (record { setup = cfg.setup; seeds = seeds })) k ≡ Some chain → IsChainOf cfg seeds k chain
chain_at cfg seeds k chain at =
    let first : 0 + k ≡ k = omega arith in
    subst (λ (n : ℕ). IsChain cfg.setup.times.last n (chain_row cfg k) (seed_in seeds k) chain) first (paired_at cfg.setup.times.last 0 cfg.setup.rows seeds k chain at)

-- ---- the keys that are due

-- a key is the sender's own, and of an index that is the chain's delay before the interval or earlier
pub record IsDueKey (cfg : Config) (seeds : List Key) (interval : ℕ) (row : KeyRow) : Type 0 where
  pub due : row.index + (chain_row cfg row.chain.0).delay ≤ interval
  pub own : row.key ≡ senders_key cfg seeds row.chain.0 row.index

module _ (cfg : Config) (seeds : List Key) (interval number : ℕ) (chain : Chain) (is : IsChainOf cfg seeds number chain) where
  -- the sender's key, by the stream's seed
  own_key : (index : ℕ) → key_of chain.last chain.seed index ≡ senders_key cfg seeds number index
  own_key index = ap (λ (last : ℕ). key_of last chain.seed index) is.last_is ∙ ap (λ (seed : Key). key_of cfg.setup.times.last seed index) is.seed_is

  delay_is : chain.row.delay ≡ (chain_row cfg number).delay
  delay_is = ap (λ (row : ChainRow). row.delay) is.row_is

  -- the key of a chain in a data frame
  carried_due : All (IsDueKey cfg seeds interval) (carried cfg interval number (key_due interval chain))
  carried_due = elim (cases_Bool (nat_lt chain.row.delay interval)) [
    | inl late ↦
        let less : chain.row.delay < interval = ltb-true chain.row.delay interval late in
        let delay = delay_is in
        let index : interval - chain.row.delay ≡ interval - (chain_row cfg number).delay = omega arith in
        let key = key_of chain.last chain.seed (interval - chain.row.delay) in
        let row : KeyRow = record { chain = record { 0 = number }; index = interval - (chain_row cfg number).delay; key = key } in
        let due : key_due interval chain ≡ Some key = ap (λ b. cond b (Some key) None) late in
        let fits : nat_lt interval (chain_row cfg number).delay ≡ false = le-ltb interval (chain_row cfg number).delay (omega arith) in
        let one : carried cfg interval number (key_due interval chain) ≡ row ∷ [] = ap (carried cfg interval number) due ∙ ap (λ b. cond b [] (row ∷ [])) fits in
        let is_due : IsDueKey cfg seeds interval row = record {
          due = omega arith;
          own = own_key (interval - chain.row.delay) ∙ ap (senders_key cfg seeds number) index;
        } in
        subst (λ (rows : List KeyRow). All (IsDueKey cfg seeds interval) rows) (sym one) (All-cons (IsDueKey cfg seeds interval) row [] is_due (All-nil (IsDueKey cfg seeds interval)))
    | inr early ↦
        let key = key_of chain.last chain.seed (interval - chain.row.delay) in
        let none : carried cfg interval number (key_due interval chain) ≡ [] = ap (λ b. carried cfg interval number (cond b (Some key) None)) early in
        subst (λ (rows : List KeyRow). All (IsDueKey cfg seeds interval) rows) (sym none) (All-nil (IsDueKey cfg seeds interval))
  ]

  -- and in a disclosure
  disclosed_due : All (IsDueKey cfg seeds interval) (due_row interval chain)
  disclosed_due =
      let index = min (interval - chain.row.delay) chain.last in
      let row : KeyRow = record { chain = record { 0 = chain.number }; index = index; key = key_of chain.last chain.seed index } in
      let delay : (chain_row cfg chain.number).delay ≡ chain.row.delay = ap (λ (n : ℕ). (chain_row cfg n).delay) is.number_is ∙ sym delay_is in
      elim (cases_Bool (nat_lt chain.row.delay interval)) [
        | inl late ↦
            let less : chain.row.delay < interval = ltb-true chain.row.delay interval late in
            let one : due_row interval chain ≡ row ∷ [] = ap (λ b. cond b (row ∷ []) []) late in
            let is_due : IsDueKey cfg seeds interval row = record {
              due = omega arith;
              own = own_key index ∙ ap (λ (n : ℕ). senders_key cfg seeds n index) (sym is.number_is);
            } in
            subst (λ (rows : List KeyRow). All (IsDueKey cfg seeds interval) rows) (sym one) (All-cons (IsDueKey cfg seeds interval) row [] is_due (All-nil (IsDueKey cfg seeds interval)))
        | inr early ↦
            let none : due_row interval chain ≡ [] = ap (λ b. cond b (row ∷ []) []) early in
            subst (λ (rows : List KeyRow). All (IsDueKey cfg seeds interval) rows) (sym none) (All-nil (IsDueKey cfg seeds interval))
      ]

-- ---- the keys of a frame

-- the keys of a message are due in its interval
message_due : (cfg : Config) (seeds : List Key) (name : Name) (payload : List ℕ) (row : KeyRow) → Contains (keys_of cfg (message_frame cfg.setup (chains_of (record { setup = cfg.setup; seeds = seeds })) name payload)) row → IsDueKey cfg seeds name.interval row
unfolding message_frame
message_due cfg seeds name payload row carries =
    let chains = chains_of (record { setup = cfg.setup; seeds = seeds }) in
    let made : Chain → TagRow = row_of cfg.setup name payload in
    let keys : ℕ × TagRow → List KeyRow = λ (p : ℕ × TagRow). carried cfg name.interval p.0 p.1.key in
    each_gathered (IsDueKey cfg seeds name.interval) keys 0 (map made chains)
    (λ k tagged there i found here.
    let from = mapped_from made (slice_get chains k) tagged (sym (slice_get-map made chains k) ∙ there) in
    let number : k ≡ 0 + k = omega arith in
    let all : All (IsDueKey cfg seeds name.interval) (keys (0 + k, tagged)) =
    subst (λ (t : TagRow). All (IsDueKey cfg seeds name.interval) (keys (0 + k, t))) from.2
    (subst (λ (n : ℕ). All (IsDueKey cfg seeds name.interval) (carried cfg name.interval n (key_due name.interval from.0))) number
    (carried_due cfg seeds name.interval k from.0 (chain_at cfg seeds k from.0 from.1))) in
    got_all (IsDueKey cfg seeds name.interval) (keys (0 + k, tagged)) i found all here)
    carries.0 row (slice_get-get_or (flat_map keys (enumerate_from 0 (map made chains))) carries.0 row carries.1 ∙ ap Some carries.2)

-- and those of a disclosure in its own
disclosure_due : (cfg : Config) (seeds : List Key) (interval : ℕ) (row : KeyRow) → Contains (keys_of cfg (disclosure_frame cfg.setup (chains_of (record { setup = cfg.setup; seeds = seeds })) interval)) row → IsDueKey cfg seeds interval row
unfolding disclosure_frame
disclosure_due cfg seeds interval row carries =
    let chains = chains_of (record { setup = cfg.setup; seeds = seeds }) in
    All-contains (IsDueKey cfg seeds interval) (due_rows chains interval) row
    (all_joined (IsDueKey cfg seeds interval) (due_row interval) chains (λ k chain at. disclosed_due cfg seeds interval k chain (chain_at cfg seeds k chain at)))
    carries

-- ---- the interval of a call

-- what stands behind a refusal
past : {A E : Type 0} (refused : Bool) (refusal : E) (answer : Result A E) (value : A) → cond refused (Err refusal) answer ≡ Ok value → answer ≡ Ok value
past true refusal answer value e = absurd (cc)
past false refusal answer value e = e

-- and an answer before one
passed : {A E : Type 0} (taken : Bool) (refusal : E) (value other : A) → cond taken (Ok value) (Err refusal) ≡ Ok other → (taken ≡ true) × (value ≡ other)
passed true refusal value other e = (refl, cc)
passed false refusal value other e = absurd (cc)

-- a disclosure has a key that is due, and is of the interval of its reading
disclosed_is : (times : Times) (before : ℕ) (due : Bool) (reading interval : ℕ) → disclosed_after times before due reading ≡ Ok interval → (due ≡ true) × (interval_at times reading ≡ interval)
disclosed_is times before due reading interval e =
    passed due undisclosed.NothingDue (interval_at times reading) interval
    (past (nat_lt (interval_at times reading) before) (undisclosed.Backward before) (cond due (Ok (interval_at times reading)) (Err undisclosed.NothingDue)) interval e)

-- the name behind a message's frame
framed_from : (stream : Stream) (payload : List ℕ) (named : Result Name SendRefusal) (frame : Frame) → frame_in (framed stream payload named) ≡ Some frame → (name : Name) × (named ≡ Ok name) × (message_frame stream.setup (chains_of stream) name payload ≡ frame)
framed_from stream payload (Ok name) frame e = (name, refl, same_Some (message_frame stream.setup (chains_of stream) name payload) frame e)
framed_from stream payload (Err refusal) frame e = absurd (none-some frame e)

-- and the interval behind a disclosure's
disclosed_from : (stream : Stream) (after : Result ℕ DiscloseRefusal) (frame : Frame) → frame_in (disclosed stream after) ≡ Some frame → (interval : ℕ) × (after ≡ Ok interval) × (disclosure_frame stream.setup (chains_of stream) interval ≡ frame)
disclosed_from stream (Ok interval) frame e = (interval, refl, same_Some (disclosure_frame stream.setup (chains_of stream) interval) frame e)
disclosed_from stream (Err refusal) frame e = absurd (none-some frame e)

-- what is so of a message that has a name
named_at : (cfg : Config) (log : List Call) (reading : ℕ) (payload : List ℕ) (name : Name) → name_of cfg.setup.times log reading payload ≡ Ok name → IsNamed cfg.setup.times (latest_of cfg.setup.times log) (messages_of cfg.setup.times (interval_at cfg.setup.times reading) log) reading payload name
named_at cfg log reading payload name is = named cfg.setup.times (latest_of cfg.setup.times log) (messages_of cfg.setup.times (interval_at cfg.setup.times reading) log) reading payload name is

-- each key of the frame of a call is due in its interval
pub made_due : (cfg : Config) (seeds : List Key) (log : List Call) (call : Call) (frame : Frame) (row : KeyRow) → frame_made (record { setup = cfg.setup; seeds = seeds }) log call ≡ Some frame → Contains (keys_of cfg frame) row → IsDueKey cfg seeds (interval_at cfg.setup.times (reading_of call)) row
unfolding made_message made_disclosure
made_due cfg seeds log (Message reading payload) frame row made carries =
    let stream : Stream = record { setup = cfg.setup; seeds = seeds } in
    let from = framed_from stream payload (name_of cfg.setup.times log reading payload) frame made in
    let interval : from.0.interval ≡ interval_at cfg.setup.times reading = sym (ap (λ (n : Name). n.interval) (named_at cfg log reading payload from.0 from.1).is) in
    subst (λ (n : ℕ). IsDueKey cfg seeds n row) interval
    (message_due cfg seeds from.0 payload row (subst (λ (f : Frame). Contains (keys_of cfg f) row) (sym from.2) carries))
made_due cfg seeds log (Disclose reading) frame row made carries =
    let stream : Stream = record { setup = cfg.setup; seeds = seeds } in
    let due = any_due (interval_at cfg.setup.times reading) (chains_of stream) in
    let from = disclosed_from stream (disclosed_after cfg.setup.times (latest_of cfg.setup.times log) due reading) frame made in
    let interval : interval_at cfg.setup.times reading ≡ from.0 = (disclosed_is cfg.setup.times (latest_of cfg.setup.times log) due reading from.0 from.1).1 in
    subst (λ (n : ℕ). IsDueKey cfg seeds n row) (sym interval)
    (disclosure_due cfg seeds from.0 row (subst (λ (f : Frame). Contains (keys_of cfg f) row) (sym from.2) carries))

-- ---- the time of a call

-- a call that makes a frame is of interval 1 at the earliest
pub made_begun : (cfg : Config) (seeds : List Key) (log : List Call) (call : Call) (frame : Frame) → frame_made (record { setup = cfg.setup; seeds = seeds }) log call ≡ Some frame → 1 ≤ interval_at cfg.setup.times (reading_of call)
unfolding made_message made_disclosure
made_begun cfg seeds log (Message reading payload) frame made =
    let from = framed_from (record { setup = cfg.setup; seeds = seeds }) payload (name_of cfg.setup.times log reading payload) frame made in
    (named_at cfg log reading payload from.0 from.1).some
made_begun cfg seeds log (Disclose reading) frame made =
    let stream : Stream = record { setup = cfg.setup; seeds = seeds } in
    let interval = interval_at cfg.setup.times reading in
    let due = any_due interval (chains_of stream) in
    let from = disclosed_from stream (disclosed_after cfg.setup.times (latest_of cfg.setup.times log) due reading) frame made in
    let some = passes_somewhere (λ (chain : Chain). nat_lt chain.row.delay interval) (chains_of stream) (disclosed_is cfg.setup.times (latest_of cfg.setup.times log) due reading from.0 from.1).0 in
    let late : some.element.row.delay < interval = ltb-true some.element.row.delay interval some.passes in
    omega arith

-- by a bound that the interval of a call doesn't pass, its frame isn't from the future
pub made_in_time : (cfg : Config) (seeds : List Key) (log : List Call) (call : Call) (frame : Frame) (bound : ℕ) → frame_made (record { setup = cfg.setup; seeds = seeds }) log call ≡ Some frame → interval_at cfg.setup.times (reading_of call) ≤ bound → is_future cfg (Some bound) frame ≡ true → ⊥
unfolding made_message made_disclosure message_frame disclosure_frame
made_in_time cfg seeds log (Message reading payload) frame bound made within future =
    let from = framed_from (record { setup = cfg.setup; seeds = seeds }) payload (name_of cfg.setup.times log reading payload) frame made in
    let interval : interval_at cfg.setup.times reading ≡ from.0.interval = ap (λ (n : Name). n.interval) (named_at cfg log reading payload from.0 from.1).is in
    let above : bound < from.0.interval = ltb-true bound from.0.interval (ap (is_future cfg (Some bound)) from.2 ∙ future) in
    omega arith
made_in_time cfg seeds log (Disclose reading) frame bound made within future =
    let stream : Stream = record { setup = cfg.setup; seeds = seeds } in
    let due = any_due (interval_at cfg.setup.times reading) (chains_of stream) in
    let from = disclosed_from stream (disclosed_after cfg.setup.times (latest_of cfg.setup.times log) due reading) frame made in
    let interval : interval_at cfg.setup.times reading ≡ from.0 = (disclosed_is cfg.setup.times (latest_of cfg.setup.times log) due reading from.0 from.1).1 in
    let rows = due_rows (chains_of stream) from.0 in
    let some = passes_somewhere (is_undisclosed cfg bound) rows (ap (is_future cfg (Some bound)) from.2 ∙ future) in
    let row : KeyRow = some.element in
    let is_due = disclosure_due cfg seeds from.0 row (contained rows some.place row some.at) in
    let above : bound < row.index + (chain_row cfg row.chain.0).delay = ltb-true bound (row.index + (chain_row cfg row.chain.0).delay) some.passes in
    let reached : row.index + (chain_row cfg row.chain.0).delay ≤ from.0 = is_due.due in
    omega arith
