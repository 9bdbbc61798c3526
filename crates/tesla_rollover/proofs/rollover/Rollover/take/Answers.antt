use Rattle.std.proofs.Common.{◌≡◌, ℕ, ◌+◌, true, List, [], ◌∷◌, ◌++◌, length, take, drop, sym, ap, subst, ◌∙◌, arith}
use Rattle.std.specs.List.{AllByRecursion}
use Rattle.std.proofs.lemmas.List.{length-map}
use Rattle.tesla_base.proofs.Lists.{cons_from_length}
use Rattle.tesla_fitting.specs.declared.config.Config.{Config}
use Rattle.tesla_receiver.specs.History.{Takes}
use Rattle.tesla_rollover.specs.Epochs.{roll_entry_of}
use Rattle.tesla_rollover.specs.History.{RollEntry}
use Rattle.tesla_rollover.specs.Kept as kept
use Rattle.tesla_rollover.specs.Kept.{AskedReply, HandsOver, HasIngests, IsCalled, IsRollKept, asked_shown, configs_of, receiver_of, receivers_of, rooms_of}
use Rattle.tesla_rollover.specs.Replies.{TakesRoom, had_memory}
use Rattle.tesla_rollover.specs.Stands.{RollState, RollStands, rooms_in}
use Rattle.tesla_rollover.specs.declared.epoch.Epoch.{Epoch}
use Rattle.tesla_rollover.proofs.Called.{as_many, epochs_back, same_ingests}
use Rattle.tesla_rollover.proofs.Taken.{Asks, TakesGiven, asks, empty_answer, empty_stands, given_answer, given_stands, kept_asked, kept_handed, over_answer, over_stands, rooms_handed}
use Rattle.tesla_rollover.proofs.rollover.Rollover.take.Goals.{After-ask, After-hand_over-next}
use Rattle.tesla_rollover.proofs.rollover.Rollover.take.Goals as goal

pub ask-requires-clause-calls : goal.ask-requires-clause-calls
ask-requires-clause-calls c =
    let few = c.self.invariant.few in
    (c.self.inside.calls + 256, omega (arith, few), subst (λ (es : List Epoch). AllByRecursion (IsCalled (c.self.inside.calls + 256)) es) (sym c.as_mut_slice.ensures.value) c.self.invariant.called)

pub hand_over-next-requires-clause-same : goal.hand_over-next-requires-clause-same
hand_over-next-requires-clause-same c =
    let i = c.self.inside in
    subst (λ (es : List Epoch). AllByRecursion (HasIngests i.config.ingests) es) (sym (epochs_back i.epochs.len c.as_mut_slice.result.now c.ask.new.epochs i.epochs.items c.as_mut_slice.ensures.len c.ask.ensures.configs))
    (same_ingests i.config.ingests i.epochs.items c.ask.new.epochs (c.ask.ensures.configs ∙ ap configs_of c.as_mut_slice.ensures.value) c.self.invariant.same)

-- ---- what is kept

pub invariant_of-self : goal.invariant_of-self
invariant_of-self c =
    let i = c.self.inside in
    let calls : i.calls ≡ c.args.self.now.calls = ap (λ (s : RollState). s.calls) c.self.view_is in
    let below = c.requires in
    let back = epochs_back i.epochs.len c.as_mut_slice.result.now c.ask.new.epochs i.epochs.items c.as_mut_slice.ensures.len c.ask.ensures.configs in
    let before = kept_asked i.config i.epochs.items c.as_mut_slice.result.now c.ask.new.epochs i.epochs.cap i.given i.calls (i.given + 1) c.self.invariant (omega (arith, calls, below)) (omega arith) c.as_mut_slice.ensures.value c.ask.ensures.configs c.ask.ensures.calls in
    let some : length (receivers_of c.ask.new.epochs) ≡ length c.ask.new.epochs = length-map c.ask.new.epochs receiver_of in
    let one = before.some in
    let first = cons_from_length (receivers_of c.ask.new.epochs) (omega (arith, some, one)) in
    subst (λ (n : ℕ). IsRollKept i.config c.hand_over-next.new.epochs.items n (i.given + 1) (i.calls + 1)) (sym c.hand_over-next.ensures.capacity)
    (kept_handed i.config first.0 c.in-Given.epoch (take c.from.result c.ask.new.into) c.ask.new.epochs c.hand_over-next.new.epochs.items c.hand_over-next.result i.epochs.cap (i.given + 1) (i.calls + 1) before
    (subst (λ (es : List Epoch). HandsOver i.config first.0 c.in-Given.epoch (take c.from.result c.ask.new.into) es c.hand_over-next.new.epochs.items c.hand_over-next.result) back (c.hand_over-next.ensures.hands first.0 first.1 (ap receivers_of back ∙ first.2))))

-- what was asked is kept, where nothing was given
asked_kept : (c : After-ask) → IsRollKept c.self.inside.config (take c.self.inside.epochs.len (c.ask.new.epochs ++ drop (length c.ask.new.epochs) c.self.inside.epochs.items)) c.self.inside.epochs.cap c.self.inside.given (c.self.inside.calls + 1)
asked_kept c =
    let i = c.self.inside in
    let calls : i.calls ≡ c.args.self.now.calls = ap (λ (s : RollState). s.calls) c.self.view_is in
    let below = c.requires in
    subst (λ (es : List Epoch). IsRollKept i.config es i.epochs.cap i.given (i.calls + 1)) (sym (epochs_back i.epochs.len c.as_mut_slice.result.now c.ask.new.epochs i.epochs.items c.as_mut_slice.ensures.len c.ask.ensures.configs))
    (kept_asked i.config i.epochs.items c.as_mut_slice.result.now c.ask.new.epochs i.epochs.cap i.given i.calls i.given c.self.invariant (omega (arith, calls, below)) (omega arith) c.as_mut_slice.ensures.value c.ask.ensures.configs c.ask.ensures.calls)

pub invariant_of-self-in-Empty : goal.invariant_of-self-in-Empty
invariant_of-self-in-Empty c = asked_kept (goal.at.invariant_of-self-in-Empty c).After-ask

pub invariant_of-self-in-Over : goal.invariant_of-self-in-Over
invariant_of-self-in-Over c = asked_kept (goal.at.invariant_of-self-in-Over c).After-ask

-- ---- a packet was given

takes : (c : goal.After-hand_over-next) (h : List RollEntry) → RollStands c.args.self.now h
    → TakesGiven c.args.self.now h c.args.releaser c.in-Given.epoch c.in-Given.head (take c.in-Given.head.length c.ask.new.into) c.hand_over-next.result c.ask.new.epochs c.hand_over-next.new.epochs.items
takes c h st =
    let i = c.self.inside in
    let back = epochs_back i.epochs.len c.as_mut_slice.result.now c.ask.new.epochs i.epochs.items c.as_mut_slice.ensures.len c.ask.ensures.configs in
    record {
      asked = asks c.args.self.now h c.args.releaser (asked_shown c.ask.result c.ask.new.into) (kept.Gives c.in-Given.epoch c.in-Given.head (take c.in-Given.head.length c.ask.new.into)) i.epochs.items c.as_mut_slice.result.now c.ask.new.epochs st
          (ap (λ (s : RollState). s.receivers) c.self.view_is) c.as_mut_slice.ensures.value (ap (λ a. asked_shown a c.ask.new.into) c.in-Given.is) c.ask.ensures.answer c.ask.ensures.stand c.ask.ensures.configs;
      hands = λ first rest are.
          subst (λ (cfg : Config). HandsOver cfg first c.in-Given.epoch (take c.in-Given.head.length c.ask.new.into) c.ask.new.epochs c.hand_over-next.new.epochs.items c.hand_over-next.result) (ap (λ (s : RollState). s.config) c.self.view_is)
          (subst (λ (n : ℕ). HandsOver i.config first c.in-Given.epoch (take n c.ask.new.into) c.ask.new.epochs c.hand_over-next.new.epochs.items c.hand_over-next.result) c.from.ensures
          (subst (λ (es : List Epoch). HandsOver i.config first c.in-Given.epoch (take c.from.result c.ask.new.into) es c.hand_over-next.new.epochs.items c.hand_over-next.result) back
          (c.hand_over-next.ensures.hands first rest (ap receivers_of back ∙ are))));
    }

pub returns-in-Given-clause-answer : goal.returns-in-Given-clause-answer
returns-in-Given-clause-answer c h st =
    given_answer c.args.self.now h c.args.releaser c.in-Given.epoch c.in-Given.head (take c.in-Given.head.length c.ask.new.into) c.hand_over-next.result c.ask.new.epochs c.hand_over-next.new.epochs.items st (takes c h st)

pub returns-in-Given-clause-stands : goal.returns-in-Given-clause-stands
returns-in-Given-clause-stands c h st =
    subst (λ (s : RollState). RollStands (record { config = s.config; receivers = receivers_of c.hand_over-next.new.epochs.items; given = s.given + 1; calls = s.calls + 1 }) (h ++ roll_entry_of c.args.self.now.config h (had_memory c.hand_over-next.result) (Takes c.args.releaser) ∷ [])) (sym c.self.view_is)
    (given_stands c.args.self.now h c.args.releaser c.in-Given.epoch c.in-Given.head (take c.in-Given.head.length c.ask.new.into) c.hand_over-next.result c.ask.new.epochs c.hand_over-next.new.epochs.items st (takes c h st))

-- ---- none was

asked : (c : After-ask) (h : List RollEntry) (reply : AskedReply) → RollStands c.args.self.now h → asked_shown c.ask.result c.ask.new.into ≡ reply → Asks c.args.self.now h c.args.releaser reply c.ask.new.epochs
asked c h reply st is =
    asks c.args.self.now h c.args.releaser (asked_shown c.ask.result c.ask.new.into) reply c.self.inside.epochs.items c.as_mut_slice.result.now c.ask.new.epochs st (ap (λ (s : RollState). s.receivers) c.self.view_is) c.as_mut_slice.ensures.value is c.ask.ensures.answer c.ask.ensures.stand c.ask.ensures.configs

-- the state that the fields show
asked_stands : (c : After-ask) (h : List RollEntry)
    → RollStands (record { config = c.args.self.now.config; receivers = receivers_of c.ask.new.epochs; given = c.args.self.now.given; calls = c.args.self.now.calls + 1 }) (h ++ roll_entry_of c.args.self.now.config h true (Takes c.args.releaser) ∷ [])
    → RollStands (record { config = c.self.inside.config; receivers = receivers_of (take c.self.inside.epochs.len (c.ask.new.epochs ++ drop (length c.ask.new.epochs) c.self.inside.epochs.items)); given = c.self.inside.given; calls = c.self.inside.calls + 1 })
    (h ++ roll_entry_of c.args.self.now.config h true (Takes c.args.releaser) ∷ [])
asked_stands c h st =
    let i = c.self.inside in
    let log = h ++ roll_entry_of c.args.self.now.config h true (Takes c.args.releaser) ∷ [] in
    subst (λ (es : List Epoch). RollStands (record { config = i.config; receivers = receivers_of es; given = i.given; calls = i.calls + 1 }) log)
    (sym (epochs_back i.epochs.len c.as_mut_slice.result.now c.ask.new.epochs i.epochs.items c.as_mut_slice.ensures.len c.ask.ensures.configs))
    (subst (λ (s : RollState). RollStands (record { config = s.config; receivers = receivers_of c.ask.new.epochs; given = s.given; calls = s.calls + 1 }) log) (sym c.self.view_is) st)

pub returns-in-Empty-clause-answer : goal.returns-in-Empty-clause-answer
returns-in-Empty-clause-answer c h st =
    empty_answer c.args.self.now h c.args.releaser c.ask.new.epochs st (asked (goal.at.returns-in-Empty-clause-answer c).After-ask h kept.IsEmpty st (ap (λ a. asked_shown a c.ask.new.into) c.in-Empty.is))

pub returns-in-Empty-clause-stands : goal.returns-in-Empty-clause-stands
returns-in-Empty-clause-stands c h st =
    let at = (goal.at.returns-in-Empty-clause-stands c).After-ask in
    asked_stands at h (empty_stands c.args.self.now h c.args.releaser c.ask.new.epochs st (asked at h kept.IsEmpty st (ap (λ a. asked_shown a c.ask.new.into) c.in-Empty.is)))

pub returns-in-Over-clause-answer : goal.returns-in-Over-clause-answer
returns-in-Over-clause-answer c h st =
    over_answer c.args.self.now h c.args.releaser c.ask.new.epochs st (asked (goal.at.returns-in-Over-clause-answer c).After-ask h kept.IsOver st (ap (λ a. asked_shown a c.ask.new.into) c.in-Over.is))

pub returns-in-Over-clause-stands : goal.returns-in-Over-clause-stands
returns-in-Over-clause-stands c h st =
    let at = (goal.at.returns-in-Over-clause-stands c).After-ask in
    asked_stands at h (over_stands c.args.self.now h c.args.releaser c.ask.new.epochs st (asked at h kept.IsOver st (ap (λ a. asked_shown a c.ask.new.into) c.in-Over.is)))

-- ---- memory

rooms_asked : (c : After-ask) → rooms_of c.ask.new.epochs ≡ rooms_in c.args.self.now
rooms_asked c = c.ask.ensures.rooms ∙ ap rooms_of c.as_mut_slice.ensures.value ∙ ap (λ (s : RollState). rooms_in s) c.self.view_is

rooms_back : (c : After-ask) → rooms_of (take c.self.inside.epochs.len (c.ask.new.epochs ++ drop (length c.ask.new.epochs) c.self.inside.epochs.items)) ≡ rooms_in c.args.self.now
rooms_back c =
    let i = c.self.inside in
    ap rooms_of (epochs_back i.epochs.len c.as_mut_slice.result.now c.ask.new.epochs i.epochs.items c.as_mut_slice.ensures.len c.ask.ensures.configs) ∙ rooms_asked c

pub returns-in-Given-clause-rooms : goal.returns-in-Given-clause-rooms
returns-in-Given-clause-rooms c =
    let i = c.self.inside in
    let back = epochs_back i.epochs.len c.as_mut_slice.result.now c.ask.new.epochs i.epochs.items c.as_mut_slice.ensures.len c.ask.ensures.configs in
    let long = as_many c.ask.new.epochs i.epochs.items (c.ask.ensures.configs ∙ ap configs_of c.as_mut_slice.ensures.value) in
    let shown : length (receivers_of c.ask.new.epochs) ≡ length c.ask.new.epochs = length-map c.ask.new.epochs receiver_of in
    let some = c.self.invariant.some in
    let first = cons_from_length (receivers_of c.ask.new.epochs) (omega (arith, long, shown, some)) in
    let handed = subst (λ (es : List Epoch). HandsOver i.config first.0 c.in-Given.epoch (take c.from.result c.ask.new.into) es c.hand_over-next.new.epochs.items c.hand_over-next.result) back (c.hand_over-next.ensures.hands first.0 first.1 (ap receivers_of back ∙ first.2)) in
    subst (λ (rooms : List ℕ). TakesRoom c.hand_over-next.result rooms (rooms_of c.hand_over-next.new.epochs.items)) (rooms_asked (goal.at.returns-in-Given-clause-rooms c).After-ask)
    (rooms_handed i.config first.0 c.in-Given.epoch (take c.from.result c.ask.new.into) c.ask.new.epochs c.hand_over-next.new.epochs.items c.hand_over-next.result handed)

pub returns-in-Empty-clause-rooms : goal.returns-in-Empty-clause-rooms
returns-in-Empty-clause-rooms c = rooms_back (goal.at.returns-in-Empty-clause-rooms c).After-ask

pub returns-in-Over-clause-rooms : goal.returns-in-Over-clause-rooms
returns-in-Over-clause-rooms c = rooms_back (goal.at.returns-in-Over-clause-rooms c).After-ask
