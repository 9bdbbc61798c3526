-- An arrival that an entry before promised is early.
use Rattle.std.proofs.Common.{◌≡◌, ◌≤◌, ◌<◌, ◌^◌, ℕ, ◌+◌, ◌-◌, true, List, length, drop, Some, sym, ap, ◌∙◌, arith}
use Rattle.std.specs.Prelude.{slice_get}
use Rattle.std.proofs.lemmas.Option.{same_Some}
use Rattle.tesla_base.proofs.Lists.{from_drop, list_any_got}
use Rattle.tesla_early.specs.Payloads.{promise_for, promise_of}
use Rattle.tesla_early.specs.Woven.{woven}
use Rattle.tesla_early.proofs.Each.{woven_read}
use Rattle.tesla_base.specs.declared.names.Name.{Name}
use Rattle.tesla_receiver.specs.Entries.{Arrival, Entry}
use Rattle.tesla_early.specs.Early.{Message, candidate, is_early, is_promised, learnt}
use Rattle.tesla_early.specs.Laws.{IsLive, Taught}
use Rattle.tesla_early.proofs.Accepted.{is_of_promise, learnt_once, taught_learnt}
use Rattle.tesla_early.proofs.Steps.{is_of}

-- a live promise of the entry's payload is that of the message
pub live_early : (most : ℕ) (h : List Entry) (entry : ℕ) (payload : List ℕ) (message : Message) (arrival : Arrival) → Taught most h entry payload → promise_of payload ≡ Some (promise_for message.name message.payload)
    → IsLive most h entry → candidate arrival ≡ Some message → is_early most h arrival ≡ true
live_early most h entry payload message arrival taught promise live is =
    let all = learnt most h in
    let own = taught_learnt most h entry payload (promise_for message.name message.payload) taught promise in
    let index : own.place ≡ live.place = learnt_once most h own.place live.place own.it live.it own.is live.is (own.entry_is ∙ sym live.entry_is) in
    let it : own.it ≡ live.it = same_Some own.it live.it (sym own.is ∙ ap (slice_get all) index ∙ live.is) in
    let passes : is_of message live.it ≡ true = is_of_promise message live.it live.unused (ap (λ l. l.promise) (sym it) ∙ own.promise_is) in
    let prefix = length all - most in
    let whole : prefix + (live.place - prefix) ≡ live.place = (let last = live.last in omega arith) in
    ap (is_promised most all) is
    ∙ list_any_got (is_of message) (drop prefix all) (live.place - prefix) live.it (from_drop all prefix (live.place - prefix) ∙ ap (slice_get all) whole ∙ live.is) passes

-- of payloads that were woven, the later message
pub woven_early : (most gap k entry : ℕ) (names : List Name) (bodies : List (List ℕ)) (payload later : List ℕ) (name : Name) (h : List Entry) (arrival : Arrival) → 1 ≤ gap → length names ≡ length bodies → name.interval < 2 ^ 32 → name.number < 2 ^ 16
    → slice_get (woven gap names bodies) k ≡ Some payload → slice_get (woven gap names bodies) (k + gap) ≡ Some later → slice_get names (k + gap) ≡ Some name
    → Taught most h entry payload → IsLive most h entry → candidate arrival ≡ Some (record { name = name; payload = later }) → is_early most h arrival ≡ true
woven_early most gap k entry names bodies payload later name h arrival some same interval number at behind named taught live is =
    live_early most h entry payload (record { name = name; payload = later }) arrival taught (woven_read gap names bodies k payload later name some same at behind named interval number) live is
