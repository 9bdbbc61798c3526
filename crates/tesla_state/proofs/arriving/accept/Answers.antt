use Rattle.std.proofs.Common.{◌≡◌, ◌+◌, ◌*◌, ◌≤◌, ◌++◌, [], ap, sym, ◌∙◌, subst, length, map, take, drop, List, arith}
use Rattle.std.specs.Prelude.{vec_capacity, All}
use Rattle.std.proofs.lemmas.List.{append-nil}
use Rattle.tesla_frame.specs.Frame.{Frame, Data}
use Rattle.tesla_fitting.specs.Rows.{keys_of}
use Rattle.tesla_fitting.specs.declared.verdict.Verdict.TheVariants.{Keys}
use Rattle.tesla_frame.specs.Shown.{shown}
use Rattle.tesla_walks.specs.declared.release.Release.{Release}
use Rattle.tesla_state.specs.Kept.{state_in, state_of, IsBefore}
use Rattle.tesla_state.specs.State.{State}
use Rattle.tesla_walks.specs.Holding.{Holding}
use Rattle.tesla_walks.specs.Offered.{HaveBegun}
use Rattle.tesla_state.specs.Steps.{no_counts, judged_packet, judged_taken, safe_by, with_keys, new_rows, own}
use Rattle.tesla_state.specs.Stored.{holding_at, AreNeeded}
use Rattle.tesla_walks.specs.Walking.{Walking, left, pairs, rows_of}
use Rattle.tesla_keys.specs.Tip.{Tip}
use Rattle.tesla_walks.specs.Proved.{RiseBy}
use Rattle.tesla_state.specs.Gathering.{order_of}
use Rattle.tesla_state.proofs.Arrived.{keys_are, length_back, taken_back}
use Rattle.tesla_state.proofs.StaysKept.{keys_rise, keys_before, keys_needed, rise_own, before_own, before_later, needed_more}
use Rattle.tesla_state.proofs.arriving.accept.Given as given
use Rattle.tesla_state.proofs.arriving.accept.Goals.{After-take_keys}
use Rattle.tesla_state.proofs.arriving.accept.Goals as goal

pub take_keys-requires : goal.take_keys-requires
take_keys-requires g c =
    let a = c.args.tables.now in
    let capacity : a.store.capacity ≡ a.config.capacity = c.requires.capacity in
    let room : a.config.capacity ≤ vec_capacity a.batch = c.requires.room in
    let begun =
    subst (λ (ws : List Walking). HaveBegun c.deref_mut.result.now (keys_of a.config (shown c.args.frame.now)) ws) (sym c.deref_mut-2.ensures.value)
    (subst (λ (ts : List Tip). HaveBegun ts (keys_of a.config (shown c.args.frame.now)) a.walks.items) (sym c.deref_mut.ensures.value) c.requires.begun) in
    record {
      tips = ap (λ (ts : List Tip). length ts) c.deref_mut.ensures.value ∙ c.requires.tips;
      chains = c.requires.chains;
      orders = c.requires.orders;
      needed = subst (λ (ts : List Tip). AreNeeded a.config ts a.store.held) (sym c.deref_mut.ensures.value) c.requires.needed;
      of_chains = begun.chains;
      rise = begun.rise;
      good = begun.good;
      above = begun.above;
      room = omega arith;
    }

pub returns-in-Data-clause-verdict : goal.returns-in-Data-clause-verdict
returns-in-Data-clause-verdict g c ended counts calls reserved =
    let a = c.args.tables.now in
    let taken = taken_back c.take_keys.new.tips c.deref_mut.ensures.value c.deref_mut.ensures.len c.take_keys.auto.tips c.deref_mut-2.ensures.value c.take_keys.ensures.taken in
    let s : State = state_in c.args.tables.now ended counts calls reserved in
    let w : State = with_keys s (new_rows s (shown c.args.frame.now)) in
    let is : state_of a.config c.deref.result.now c.take_keys.new.store ended counts calls reserved ≡ w =
    ap (λ (ts : List Tip). state_of a.config ts c.take_keys.new.store ended counts calls reserved) c.deref.ensures.value ∙ keys_are taken ended counts calls reserved
    ∙ ap (with_keys s) c.requires.begun.new in
    c.keep.ensures.verdict ended counts calls reserved
    ∙ ap (λ (t : State). judged_packet t (safe_by t c.args.bound c.in-Data.data.name.interval) c.in-Data.data) is
    ∙ ap (judged_taken w c.args.bound) (sym (ap shown c.in-Data.is))

pub returns-in-Data-clause-state : goal.returns-in-Data-clause-state
returns-in-Data-clause-state g c ended counts calls reserved =
    let a = c.args.tables.now in
    let taken = taken_back c.take_keys.new.tips c.deref_mut.ensures.value c.deref_mut.ensures.len c.take_keys.auto.tips c.deref_mut-2.ensures.value c.take_keys.ensures.taken in
    let s : State = state_in c.args.tables.now ended counts calls reserved in
    let w : State = with_keys s (new_rows s (shown c.args.frame.now)) in
    let t : State = state_of a.config (take a.tips.len (c.take_keys.new.tips ++ drop (length c.take_keys.new.tips) a.tips.items)) c.take_keys.new.store ended counts calls reserved in
    let is : t ≡ w =
    keys_are taken ended counts calls reserved
    ∙ ap (with_keys s) c.requires.begun.new in
    ap (λ (hs : List Holding). record t { held = hs; waiting = c.keep.new.store.waiting }) c.keep.ensures.held
    ∙ ap (λ (ws : List Release). record t { held = t.held ++ own c.args.order c.keep.result (Data c.in-Data.data); waiting = ws }) c.keep.ensures.waiting
    ∙ ap (λ (u : State). record u { held = u.held ++ own c.args.order c.keep.result (Data c.in-Data.data) }) is
    ∙ ap (λ (f : Frame). record w { held = w.held ++ own c.args.order c.keep.result f }) (sym (ap shown c.in-Data.is))

pub returns-in-Disclosure-clause-state : goal.returns-in-Disclosure-clause-state
returns-in-Disclosure-clause-state g c ended counts calls reserved =
    let taken = taken_back c.take_keys.new.tips c.deref_mut.ensures.value c.deref_mut.ensures.len c.take_keys.auto.tips c.deref_mut-2.ensures.value c.take_keys.ensures.taken in
    let s : State = state_in c.args.tables.now ended counts calls reserved in
    let w : State = with_keys s (new_rows s (shown c.args.frame.now)) in
    keys_are taken ended counts calls reserved
    ∙ ap (with_keys s) c.requires.begun.new
    ∙ ap (λ (hs : List Holding). record w { held = hs }) (sym (append-nil w.held))
    ∙ ap (λ (f : Frame). record w { held = w.held ++ own c.args.order Keys f }) (sym (ap shown c.in-Disclosure.is))

pub returns-in-Disclosure-clause-orders : goal.returns-in-Disclosure-clause-orders
returns-in-Disclosure-clause-orders g c =
    let taken = taken_back c.take_keys.new.tips c.deref_mut.ensures.value c.deref_mut.ensures.len c.take_keys.auto.tips c.deref_mut-2.ensures.value c.take_keys.ensures.taken in
    keys_rise taken c.requires.orders

pub returns-in-Disclosure-clause-before : goal.returns-in-Disclosure-clause-before
returns-in-Disclosure-clause-before g c =
    let taken = taken_back c.take_keys.new.tips c.deref_mut.ensures.value c.deref_mut.ensures.len c.take_keys.auto.tips c.deref_mut-2.ensures.value c.take_keys.ensures.taken in
    before_later c.args.order (map holding_at c.take_keys.new.store.held) (keys_before taken c.args.order c.requires.before)

pub returns-in-Disclosure-clause-needed : goal.returns-in-Disclosure-clause-needed
returns-in-Disclosure-clause-needed g c =
    let taken = taken_back c.take_keys.new.tips c.deref_mut.ensures.value c.deref_mut.ensures.len c.take_keys.auto.tips c.deref_mut-2.ensures.value c.take_keys.ensures.taken in
    keys_needed taken

pub returns-in-Data-clause-orders : goal.returns-in-Data-clause-orders
returns-in-Data-clause-orders g c =
    let taken = taken_back c.take_keys.new.tips c.deref_mut.ensures.value c.deref_mut.ensures.len c.take_keys.auto.tips c.deref_mut-2.ensures.value c.take_keys.ensures.taken in
    subst (RiseBy order_of) (sym c.keep.ensures.held) (rise_own c.args.order c.keep.result (Data c.in-Data.data) (map holding_at c.take_keys.new.store.held) (keys_rise taken c.requires.orders) (keys_before taken c.args.order c.requires.before))

pub returns-in-Data-clause-before : goal.returns-in-Data-clause-before
returns-in-Data-clause-before g c =
    let taken = taken_back c.take_keys.new.tips c.deref_mut.ensures.value c.deref_mut.ensures.len c.take_keys.auto.tips c.deref_mut-2.ensures.value c.take_keys.ensures.taken in
    subst (All (IsBefore (c.args.order + 1))) (sym c.keep.ensures.held) (before_own c.args.order c.keep.result (Data c.in-Data.data) (map holding_at c.take_keys.new.store.held) (keys_before taken c.args.order c.requires.before))

pub returns-in-Data-clause-needed : goal.returns-in-Data-clause-needed
returns-in-Data-clause-needed g c =
    let a = c.args.tables.now in
    let taken = taken_back c.take_keys.new.tips c.deref_mut.ensures.value c.deref_mut.ensures.len c.take_keys.auto.tips c.deref_mut-2.ensures.value c.take_keys.ensures.taken in
    let s : State = state_of a.config c.deref.result.now c.take_keys.new.store [] no_counts 0 0 in
    subst (λ (ts : List Tip). AreNeeded a.config ts c.keep.new.store.held) c.deref.ensures.value
    (needed_more s c.args.bound c.args.order c.keep.result c.in-Data.data c.take_keys.new.store.held c.keep.new.store.held (c.keep.ensures.verdict [] no_counts 0 0)
    (subst (λ (ts : List Tip). AreNeeded a.config ts c.take_keys.new.store.held) (sym c.deref.ensures.value) (keys_needed taken)) c.keep.ensures.held)

pub returns-in-Disclosure-clause-tips : goal.returns-in-Disclosure-clause-tips
returns-in-Disclosure-clause-tips g c =
    length_back c.take_keys.new.tips c.deref_mut.ensures.value c.deref_mut.ensures.len c.take_keys.auto.tips

pub returns-in-Data-clause-tips : goal.returns-in-Data-clause-tips
returns-in-Data-clause-tips g c =
    length_back c.take_keys.new.tips c.deref_mut.ensures.value c.deref_mut.ensures.len c.take_keys.auto.tips

-- the keys cost what they may over the tables
taking_cost : (g : given.Over) (c : After-take_keys g) → c.take_keys.new.steps ≤ c.args.steps.now + left c.args.tables.now.tips.items c.args.tables.now.walks.items + 2 * pairs c.args.tables.now.config c.args.tables.now.tips.items (rows_of c.args.tables.now.walks.items) (map holding_at c.args.tables.now.store.held)
taking_cost g c =
    let a = c.args.tables.now in
    subst (λ (ws : List Walking). c.take_keys.new.steps ≤ c.args.steps.now + left a.tips.items ws + 2 * pairs a.config a.tips.items (rows_of ws) (map holding_at a.store.held)) c.deref_mut-2.ensures.value
    (subst (λ (ts : List Tip). c.take_keys.new.steps ≤ c.args.steps.now + left ts c.deref_mut-2.result.now + 2 * pairs a.config ts (rows_of c.deref_mut-2.result.now) (map holding_at a.store.held)) c.deref_mut.ensures.value c.take_keys.ensures.cost)

pub returns-in-Disclosure-clause-cost : goal.returns-in-Disclosure-clause-cost
returns-in-Disclosure-clause-cost g c = taking_cost g (goal.at.returns-in-Disclosure-clause-cost g c).After-take_keys

pub returns-in-Data-clause-cost : goal.returns-in-Data-clause-cost
returns-in-Data-clause-cost g c = taking_cost g (goal.at.returns-in-Data-clause-cost g c).After-take_keys

pub keep-requires-clause-tips : goal.keep-requires-clause-tips
keep-requires-clause-tips g c =
    ap (λ (ts : List Tip). length ts) c.deref.ensures.value ∙ length_back c.take_keys.new.tips c.deref_mut.ensures.value c.deref_mut.ensures.len c.take_keys.auto.tips ∙ c.requires.tips
