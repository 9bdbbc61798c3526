use Rattle.std.proofs.Common.{◌≡◌, ◌+◌, true, List, [], ◌∷◌, ◌++◌, length, map, set, Some, option_map, option_copied, sym, ap, subst, ◌∙◌, arith}
use Rattle.std.specs.Prelude.{slice_get}
use Rattle.tesla_frame.specs.Shown.{shown}
use Rattle.tesla_receiver.specs.History.{Arrives}
use Rattle.tesla_state.specs.State.{State}
use Rattle.tesla_rollover.specs.Epochs.{roll_entry_of}
use Rattle.tesla_rollover.specs.History.{RollEntry}
use Rattle.tesla_rollover.specs.Kept.{configs_of, receivers_of}
use Rattle.tesla_rollover.specs.Stands.{RollState, RollStands, config_in, room_of, rooms_in}
use Rattle.tesla_rollover.specs.declared.epoch.Epoch.{Epoch}
use Rattle.tesla_rollover.proofs.Arrived.{ArrivesAt, cost_arrived, entry_arrived, number_found, stands_arrived}
use Rattle.tesla_rollover.proofs.Called.{receiver_got, receivers_set}
use Rattle.tesla_rollover.proofs.InStep.{same_set}
use Rattle.tesla_rollover.proofs.rollover.Rollover.arrive.Goals as goal

arrives : (g : _) (c : goal.After-self-2-1 g) (h : List RollEntry) → RollStands c.args.self.now h → ArrivesAt c.args.self.now h c.args.ingest c.args.reading c.args.bytes.now c.epoch_for-epoch.result c.arrive_read-verdict.result c.index_mut.result.now.receiver c.arrive_read-verdict.new.self
arrives g c h st =
    let items = c.self.inside.epochs.items in
    let epoch = c.epoch_for-epoch.result in
    let same : receivers_of items ≡ c.args.self.now.receivers = ap (λ (s : RollState). s.receivers) c.self.view_is in
    let within = c.epoch_for-epoch.ensures.within in
    let long : length c.as_slice.result.now ≡ length items = ap (λ (es : List Epoch). length es) c.as_slice.ensures.value in
    record {
      number = number_found c.args.self.now.config h c.args.bytes.now c.as_slice.result.now (option_map shown (option_copied c.as_ref.result)) epoch
          (ap configs_of c.as_slice.ensures.value ∙ ap (λ (ss : List State). map config_in ss) same ∙ st.configs) (ap (option_map shown) c.as_ref.ensures.value ∙ c.read_frame-frame.ensures.exact) c.epoch_for-epoch.ensures.value;
      was = ap (λ (ss : List State). slice_get ss epoch) (sym same) ∙ receiver_got items epoch c.index_mut.result.now (omega (arith, within, long)) ∙ ap (λ (e : Epoch). Some e.receiver) (sym c.index_mut.ensures.value);
      answer = c.arrive_read-verdict.ensures.answer;
      stands = c.arrive_read-verdict.ensures.stands;
      config = c.arrive_read-verdict.ensures.config;
    }

pub returns-clause-answer : goal.returns-clause-answer
returns-clause-answer g c h st =
    entry_arrived c.args.self.now h c.args.ingest c.args.reading c.args.bytes.now c.epoch_for-epoch.result c.arrive_read-verdict.result c.index_mut.result.now.receiver c.arrive_read-verdict.new.self st (arrives g c h st)

pub returns-clause-stands : goal.returns-clause-stands
returns-clause-stands g c h st =
    let epoch = c.epoch_for-epoch.result in
    let after = c.arrive_read-verdict.new.self in
    let i = c.self.inside in
    let e : RollEntry = roll_entry_of c.args.self.now.config h true (Arrives c.args.ingest c.args.reading c.args.bytes.now) in
    let moved = stands_arrived c.args.self.now h c.args.ingest c.args.reading c.args.bytes.now epoch c.arrive_read-verdict.result c.index_mut.result.now.receiver after st (arrives g c h st) in
    let kept : RollStands (record { config = i.config; receivers = set (receivers_of i.epochs.items) epoch after; given = i.given; calls = i.calls + 1 }) (h ++ e ∷ []) =
    subst (λ (s : RollState). RollStands (record { config = s.config; receivers = set s.receivers epoch after; given = s.given; calls = s.calls + 1 }) (h ++ e ∷ [])) (sym c.self.view_is) moved in
    subst (λ (ss : List State). RollStands (record { config = i.config; receivers = ss; given = i.given; calls = i.calls + 1 }) (h ++ e ∷ []))
    (sym (receivers_set i.epochs.items epoch (record { stream = c.index_mut.result.now.stream; receiver = after; same = _ }))) kept

pub returns-clause-rooms : goal.returns-clause-rooms
returns-clause-rooms g c =
    let items = c.self.inside.epochs.items in
    let epoch = c.epoch_for-epoch.result in
    let after = c.arrive_read-verdict.new.self in
    let within = c.epoch_for-epoch.ensures.within in
    let long : length c.as_slice.result.now ≡ length items = ap (λ (es : List Epoch). length es) c.as_slice.ensures.value in
    let was = receiver_got items epoch c.index_mut.result.now (omega (arith, within, long)) ∙ ap (λ (e : Epoch). Some e.receiver) (sym c.index_mut.ensures.value) in
    ap (map room_of) (receivers_set items epoch (record { stream = c.index_mut.result.now.stream; receiver = after; same = _ }))
    ∙ same_set room_of (receivers_of items) epoch c.index_mut.result.now.receiver after was c.arrive_read-verdict.ensures.reserved ∙ ap (λ (s : RollState). rooms_in s) c.self.view_is

pub returns-clause-evaluations : goal.returns-clause-evaluations
returns-clause-evaluations g c h st =
    cost_arrived c.args.self.now h c.args.ingest c.args.reading c.args.bytes.now c.epoch_for-epoch.result c.arrive_read-verdict.result c.index_mut.result.now.receiver c.arrive_read-verdict.new.self st (arrives g c h st)
    c.args.steps.now c.arrive_read-verdict.new.steps c.arrive_read-verdict.ensures.evaluations
