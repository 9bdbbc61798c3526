use Rattle.std.proofs.Common.{◌≡◌, ◌+◌, ◌-◌, ◌<◌, ◌≤◌, ◌++◌, ◌∷◌, [], true, Option, ℕ, List, length, refl, set, option_copied, option_map, sym, ap, subst, ◌∙◌, arith}
use Rattle.std.specs.Prelude.{nat_lt}
use Rattle.std.proofs.lemmas.Bool.Decides.{nat_tests}
use Rattle.tesla_early.specs.Early.{message_in, message_of}
use Rattle.tesla_fitting.specs.declared.config.Config.{Config}
use Rattle.tesla_frame.specs.Frame.{Frame}
use Rattle.tesla_frame.specs.Reading.{frame_of}
use Rattle.tesla_frame.specs.Shown.{shown}
use Rattle.tesla_receiver.specs.Costs.{most_evaluations}
use Rattle.tesla_receiver.specs.History.{Arrives, arrivals_in}
use Rattle.tesla_receiver.specs.declared.history.Entry.TheVariants.{Arrived}
use Rattle.tesla_follow.specs.Followed.{Accepted, Followed, oldest, place_for}
use Rattle.tesla_follow.specs.History.{FollowEntry, entry_of, epoch_at, followed}
use Rattle.tesla_follow.specs.Kept.{Shape, reserved_in, shapes_of, waits_by}
use Rattle.tesla_follow.specs.Stands.{FollowStands, FollowState, Keeps}
use Rattle.tesla_follow.proofs.Arrived.{ArrivesAt, cost_arrived, entry_arrived, keeps_after, oldest_is, place_found}
use Rattle.tesla_follow.proofs.Called.{called_got, called_set, kept_called, shapes_set}
use Rattle.tesla_follow.proofs.Histories.{stands_more}
use Rattle.tesla_follow.proofs.follower.Follower.arrive.Goals.{After-arrive-judged}
use Rattle.tesla_follow.proofs.follower.Follower.arrive.Goals as goal

pub wait-requires : goal.wait-requires
wait-requires g c queued =
    let room : nat_lt (length c.self.inside.queue.waiting) c.self.inside.queue.capacity ≡ true = sym c.has_room-room.ensures ∙ c.arrive-judged.ensures.placed queued in
    grind (arith, nat_tests, room)

-- the epoch was there
below : (g : _) (c : After-arrive-judged g) → c.place_for-place.result < length c.self.inside.epochs.items
below g c =
    let within = c.place_for-place.ensures.within in
    let long : length c.as_slice.result.now ≡ length c.self.inside.epochs.items = ap length c.as_slice.ensures.value in
    omega (arith, within, long)

shapes : (g : _) (c : After-arrive-judged g) → shapes_of (set c.self.inside.epochs.items c.place_for-place.result c.arrive-judged.new.self) ≡ shapes_of c.self.inside.epochs.items
shapes g c =
    let e = c.arrive-judged.ensures in
    let now = c.arrive-judged.new.self in
    let old = c.index_mut.result.now in
    shapes_set c.self.inside.epochs.items c.place_for-place.result old now (sym c.index_mut.ensures.value)
    (let one : Shape = record { config = now.receiver.config; most = now.promises.most; room = now.receiver.reserved + now.promises.reserved } in
    ap (λ x. (let s : Shape = record { config = x; most = now.promises.most; room = now.receiver.reserved + now.promises.reserved } in s)) e.config
    ∙ ap (λ x. (let s : Shape = record { config = old.receiver.config; most = x; room = now.receiver.reserved + now.promises.reserved } in s)) e.most
    ∙ ap (λ x. (let s : Shape = record { config = old.receiver.config; most = old.promises.most; room = x } in s)) e.room)

pub invariant_of-self : goal.invariant_of-self
invariant_of-self g c =
    let i = c.self.inside in
    let at = (goal.at.invariant_of-self g c).After-arrive-judged in
    let calls : i.calls ≡ c.args.self.now.calls = ap (λ (s : FollowState). s.calls) c.self.view_is in
    let few = c.requires in
    let had = called_got i.calls i.epochs.items c.place_for-place.result c.index_mut.result.now c.self.invariant.called (below g at) (sym c.index_mut.ensures.value) in
    let has = c.arrive-judged.ensures.calls in
    kept_called i.config i.epochs.items (set i.epochs.items c.place_for-place.result c.arrive-judged.new.self) i.spares.items i.epochs.cap i.spares.cap i.opened i.queue c.wait.new.queue i.ended.items i.ended.items i.records i.early i.unqueued c.unqueued_by.result i.dropped i.calls
    c.self.invariant (omega (arith, calls, few)) (shapes g at)
    (called_set i.calls i.epochs.items c.place_for-place.result c.arrive-judged.new.self c.self.invariant.called (omega (arith, had, has)))
    c.wait.ensures.capacity (c.wait.ensures.within c.self.invariant.waiting) refl (omega arith) c.unqueued_by.ensures.few

abbrev before : (g : _) (c : After-arrive-judged g) → FollowState
before g c =
    let i = c.self.inside in
    record {
      config = i.config;
      opened = i.opened;
      receiving = i.epochs.items;
      known = i.known;
      queue = i.queue.waiting;
      turn = i.turn;
      ended = i.ended.items;
      records = i.records;
      early = i.early;
      unqueued = i.unqueued;
      dropped = i.dropped;
      closed = i.closed;
      calls = i.calls;
      reserved = reserved_in i.epochs.items i.spares.items (i.epochs.cap + i.spares.cap) i.queue.capacity i.ended.cap;
    }

arrives : (g : _) (c : After-arrive-judged g) (it : Followed) → Keeps (before g c) it
    → ArrivesAt (before g c) it c.args.ingest c.args.reading c.args.bytes.now c.place_for-place.result c.has_room-room.result c.arrive-judged.result.verdict c.arrive-judged.result.acceptance c.index_mut.result.now c.arrive-judged.new.self
arrives g c it k =
    let i = c.self.inside in
    record {
      place_is = place_found (before g c) it c.args.bytes.now c.as_slice.result.now (option_map shown (option_copied c.as_ref.result)) c.place_for-place.result k c.as_slice.ensures.value
          (ap (option_map shown) c.as_ref.ensures.value ∙ c.read_frame-frame.ensures.exact) c.place_for-place.ensures.value;
      below = below g c;
      was = sym c.index_mut.ensures.value;
      room_is = c.has_room-room.ensures ∙ ap (λ n. nat_lt (length i.queue.waiting) n) c.self.invariant.places ∙ ap (λ (q : List Accepted). nat_lt (length q) i.config.capacity) k.queue;
      answer = c.arrive-judged.ensures.answer;
      accepts = c.arrive-judged.ensures.acceptance;
      stands = c.arrive-judged.ensures.stands;
    }

number : (g : _) (c : After-arrive-judged g) (it : Followed) → Keeps (before g c) it → c.self.inside.opened - c.len.result + c.place_for-place.result ≡ oldest it + c.place_for-place.result
number g c it k =
    ap (λ n. n + c.place_for-place.result) (oldest_is (before g c) it c.len.result k (c.len.ensures ∙ sym c.as_slice.ensures.len ∙ ap length c.as_slice.ensures.value))

pub returns-clause-answer : goal.returns-clause-answer
returns-clause-answer g c h st =
    let at = (goal.at.returns-clause-answer g c).After-arrive-judged in
    let was : FollowStands (before g at) h = subst (λ (s : FollowState). FollowStands s h) (sym c.self.view_is) st in
    let it = followed c.self.inside.config h in
    let epoch = c.self.inside.opened - c.len.result + c.place_for-place.result in
    let answer : FollowEntry = Arrived (record { ingest = c.args.ingest; reading = c.args.reading; bytes = c.args.bytes.now; verdict = record { epoch = epoch; verdict = c.arrive-judged.result.verdict; acceptance = c.arrive-judged.result.acceptance } }) in
    subst (λ (cfg : Config). answer ≡ entry_of cfg (followed cfg h) (Arrives c.args.ingest c.args.reading c.args.bytes.now)) (ap (λ (s : FollowState). s.config) c.self.view_is)
    (entry_arrived (before g at) it c.args.ingest c.args.reading c.args.bytes.now c.place_for-place.result c.has_room-room.result c.arrive-judged.result.verdict c.arrive-judged.result.acceptance c.index_mut.result.now c.arrive-judged.new.self
    was.keeps (arrives g at it was.keeps) epoch (number g at it was.keeps))

pub returns-clause-stands : goal.returns-clause-stands
returns-clause-stands g c h st =
    let i = c.self.inside in
    let at = (goal.at.returns-clause-stands g c).After-arrive-judged in
    let was : FollowStands (before g at) h = subst (λ (s : FollowState). FollowStands s h) (sym c.self.view_is) st in
    let it = followed i.config h in
    let states = set i.epochs.items c.place_for-place.result c.arrive-judged.new.self in
    let reserved = reserved_in states i.spares.items (i.epochs.cap + i.spares.cap) c.wait.new.queue.capacity i.ended.cap in
    let after : FollowState = record {
      config = i.config;
      opened = i.opened;
      receiving = states;
      known = i.known;
      queue = c.wait.new.queue.waiting;
      turn = i.turn;
      ended = i.ended.items;
      records = i.records;
      early = i.early;
      unqueued = i.unqueued + c.unqueued_by.result;
      dropped = i.dropped;
      closed = i.closed;
      calls = i.calls + 1;
      reserved = reserved;
    } in
    let read : option_map shown (option_copied c.as_ref-3.result) ≡ frame_of c.args.bytes.now = ap (option_map shown) c.as_ref-3.ensures.value ∙ c.read_frame-frame.ensures.exact in
    let waits : c.wait.new.queue.waiting ≡ i.queue.waiting ++ waits_by (oldest it + c.place_for-place.result) c.arrive-judged.result.acceptance (message_of c.args.bytes.now) =
    c.wait.ensures.waiting ∙ ap (λ (o : Option Frame). i.queue.waiting ++ waits_by (i.opened - c.len.result + c.place_for-place.result) c.arrive-judged.result.acceptance (message_in o)) read
    ∙ ap (λ (n : ℕ). i.queue.waiting ++ waits_by n c.arrive-judged.result.acceptance (message_of c.args.bytes.now)) (number g at it was.keeps) in
    let moved : FollowStands after (h ++ entry_of i.config it (Arrives c.args.ingest c.args.reading c.args.bytes.now) ∷ []) =
    stands_more (before g at) after h (Arrives c.args.ingest c.args.reading c.args.bytes.now) was refl refl
    (keeps_after (before g at) it c.args.ingest c.args.reading c.args.bytes.now c.place_for-place.result c.has_room-room.result c.arrive-judged.result.verdict c.arrive-judged.result.acceptance c.index_mut.result.now c.arrive-judged.new.self
    was.keeps (arrives g at it was.keeps) c.wait.new.queue.waiting (i.unqueued + c.unqueued_by.result) (i.calls + 1) reserved waits (ap (λ n. i.unqueued + n) c.unqueued_by.ensures.value)) in
    subst (λ (cfg : Config). FollowStands after (h ++ entry_of cfg (followed cfg h) (Arrives c.args.ingest c.args.reading c.args.bytes.now) ∷ [])) (ap (λ (s : FollowState). s.config) c.self.view_is) moved

pub returns-clause-evaluations : goal.returns-clause-evaluations
returns-clause-evaluations g c h st =
    let at = (goal.at.returns-clause-evaluations g c).After-arrive-judged in
    let was : FollowStands (before g at) h = subst (λ (s : FollowState). FollowStands s h) (sym c.self.view_is) st in
    let it = followed c.self.inside.config h in
    subst (λ (cfg : Config). (let own = epoch_at cfg (followed cfg h) (place_for (followed cfg h) c.args.bytes.now) in c.arrive-judged.new.steps ≤ c.args.steps.now + most_evaluations own.config (arrivals_in own.history) c.args.reading c.args.bytes.now))
    (ap (λ (s : FollowState). s.config) c.self.view_is)
    (cost_arrived (before g at) it c.args.ingest c.args.reading c.args.bytes.now c.place_for-place.result c.has_room-room.result c.arrive-judged.result.verdict c.arrive-judged.result.acceptance c.index_mut.result.now c.arrive-judged.new.self
    was.keeps (arrives g at it was.keeps) c.args.steps.now c.arrive-judged.new.steps c.arrive-judged.ensures.evaluations)
