use Rattle.std.proofs.Common.{◌≡◌, ℕ, ◌+◌, ◌++◌, refl, ap, sym, ◌∙◌, subst, map, List, [], Some, None, ◌≤◌}
use Rattle.std.specs.Prelude.{option_copied, option_map, unwrap_or, Option, is_some}
use Rattle.tesla_frame.specs.Frame.{Frame}
use Rattle.tesla_frame.specs.Shown.{shown}
use Rattle.tesla_keys.specs.Tip.{Tip}
use Rattle.tesla_fitting.specs.declared.verdict.Verdict.{Verdict}
use Rattle.tesla_fitting.specs.Rows.{keys_of}
use Rattle.tesla_state.specs.Kept.{state_in}
use Rattle.tesla_walks.specs.Offered.{HaveBegun, gaps}
use Rattle.tesla_state.specs.State.{State}
use Rattle.tesla_state.specs.Steps.{judged_taken, refused, entered_as, entered_frame, no_counts, with_keys, new_rows, own, counted, bound_at}
use Rattle.tesla_state.specs.Stored.{holding_at}
use Rattle.tesla_fitting.specs.Fitting.{unfit}
use Rattle.tesla_state.proofs.Evaluations.{bad_cost, refused_cost, taken_cost, taken_not_bad}
use Rattle.tesla_state.proofs.StaysKept.{before_later}
use Rattle.tesla_state.proofs.Arrived.{judged_at, after_at, rows_fit}
use Rattle.tesla_state.proofs.arriving.receive.Goals as goal

pub returns-in_default-clause-verdict : goal.returns-in_default-clause-verdict
returns-in_default-clause-verdict g c ended counts calls reserved =
    let s : State = state_in c.args.tables.now ended counts calls reserved in
    judged_at s c.args.reading c.args.bytes.now None (bound_at s c.args.reading) (sym c.requires.read ∙ ap (λ f. option_map shown (option_copied f)) c.in_default.is) refl

pub returns-in_default-clause-state : goal.returns-in_default-clause-state
returns-in_default-clause-state g c ended counts calls reserved h =
    let s : State = state_in c.args.tables.now ended counts calls reserved in
    after_at s c.args.reading c.args.bytes.now None (bound_at s c.args.reading) (sym c.requires.read ∙ ap (λ f. option_map shown (option_copied f)) c.in_default.is) refl

pub returns-in-Some-refused-clause-verdict : goal.returns-in-Some-refused-clause-verdict
returns-in-Some-refused-clause-verdict g c ended counts calls reserved =
    let s : State = state_in c.args.tables.now ended counts calls reserved in
    let fr : Frame = shown c.in-Some.frame.now in
    let bound : c.bound_at-bound.result ≡ bound_at s c.args.reading = c.bound_at-bound.ensures in
    let why : refused s c.bound_at-bound.result fr ≡ Some c.in-Some-refused.verdict = sym (c.refused.ensures.value s refl (sym c.deref.ensures.value)) ∙ c.in-Some-refused.is in
    sym (ap (λ o. unwrap_or o (judged_taken (with_keys s (new_rows s fr)) c.bound_at-bound.result fr)) why)
    ∙ judged_at s c.args.reading c.args.bytes.now (Some fr) c.bound_at-bound.result (sym c.requires.read ∙ ap (λ f. option_map shown (option_copied f)) c.in-Some.is) bound

pub returns-in-Some-refused-clause-state : goal.returns-in-Some-refused-clause-state
returns-in-Some-refused-clause-state g c ended counts calls reserved h =
    let s : State = state_in c.args.tables.now ended counts calls reserved in
    let fr : Frame = shown c.in-Some.frame.now in
    let bound : c.bound_at-bound.result ≡ bound_at s c.args.reading = c.bound_at-bound.ensures in
    let why : refused s c.bound_at-bound.result fr ≡ Some c.in-Some-refused.verdict = sym (c.refused.ensures.value s refl (sym c.deref.ensures.value)) ∙ c.in-Some-refused.is in
    sym (ap (entered_frame s c.bound_at-bound.result (Some fr)) why)
    ∙ after_at s c.args.reading c.args.bytes.now (Some fr) c.bound_at-bound.result (sym c.requires.read ∙ ap (λ f. option_map shown (option_copied f)) c.in-Some.is) bound

pub accept-requires : goal.accept-requires
accept-requires g c =
    let s : State = state_in c.args.tables.now [] no_counts 0 0 in
    let fr : Frame = shown c.in-Some.frame.now in
    let why : refused s c.bound_at-bound.result fr ≡ None = sym (c.refused.ensures.value s refl (sym c.deref.ensures.value)) ∙ c.in_default-refused.is in
    record {
      tips = c.requires.tips;
      chains = c.requires.chains;
      capacity = c.requires.capacity;
      orders = c.requires.orders;
      before = c.requires.before;
      needed = c.requires.needed;
      begun = subst (λ (ts : List Tip). HaveBegun ts (keys_of c.args.tables.now.config fr) c.refused.new.walks.items) c.deref.ensures.value c.in_default-refused.ensures.begun;
      room = c.requires.room;
      rows = λ f is. rows_fit s c.bound_at-bound.result fr f why is;
    }

pub returns-clause-verdict : goal.returns-clause-verdict
returns-clause-verdict g c ended counts calls reserved =
    let s : State = state_in c.args.tables.now ended counts calls reserved in
    let fr : Frame = shown c.in-Some.frame.now in
    let bound : c.bound_at-bound.result ≡ bound_at s c.args.reading = c.bound_at-bound.ensures in
    let why : refused s c.bound_at-bound.result fr ≡ None = sym (c.refused.ensures.value s refl (sym c.deref.ensures.value)) ∙ c.in_default-refused.is in
    c.accept.ensures.verdict ended counts calls reserved
    ∙ sym (ap (λ o. unwrap_or o (judged_taken (with_keys s (new_rows s fr)) c.bound_at-bound.result fr)) why)
    ∙ judged_at s c.args.reading c.args.bytes.now (Some fr) c.bound_at-bound.result (sym c.requires.read ∙ ap (λ f. option_map shown (option_copied f)) c.in-Some.is) bound

pub returns-clause-state : goal.returns-clause-state
returns-clause-state g c ended counts calls reserved h =
    let s : State = state_in c.args.tables.now ended counts calls reserved in
    let fr : Frame = shown c.in-Some.frame.now in
    let w : State = with_keys s (new_rows s fr) in
    let r : Verdict = c.accept.result in
    let bound : c.bound_at-bound.result ≡ bound_at s c.args.reading = c.bound_at-bound.ensures in
    let why : refused s c.bound_at-bound.result fr ≡ None = sym (c.refused.ensures.value s refl (sym c.deref.ensures.value)) ∙ c.in_default-refused.is in
    c.accept.ensures.state ended (counted r counts) (calls + 1) reserved
    ∙ ap (λ (k : ℕ). entered_as r (record w { held = w.held ++ own k r fr })) (sym h)
    ∙ ap (λ (v : Verdict). entered_as v (record w { held = w.held ++ own counts.arrivals v fr })) (c.accept.ensures.verdict ended counts calls reserved)
    ∙ sym (ap (entered_frame s c.bound_at-bound.result (Some fr)) why)
    ∙ after_at s c.args.reading c.args.bytes.now (Some fr) c.bound_at-bound.result (sym c.requires.read ∙ ap (λ f. option_map shown (option_copied f)) c.in-Some.is) bound

pub returns-in_default-clause-before : goal.returns-in_default-clause-before
returns-in_default-clause-before g c = before_later c.args.order (map holding_at c.args.tables.now.store.held) c.requires.before

pub returns-in-Some-refused-clause-before : goal.returns-in-Some-refused-clause-before
returns-in-Some-refused-clause-before g c = before_later c.args.order (map holding_at c.args.tables.now.store.held) c.requires.before

pub returns-in-Some-refused-clause-cost : goal.returns-in-Some-refused-clause-cost
returns-in-Some-refused-clause-cost g c ended counts calls reserved =
    let s : State = state_in c.args.tables.now ended counts calls reserved in
    let fr : Frame = shown c.in-Some.frame.now in
    let bound : c.bound_at-bound.result ≡ bound_at s c.args.reading = c.bound_at-bound.ensures in
    refused_cost s c.args.reading c.args.bytes.now fr (sym c.requires.read ∙ ap (λ f. option_map shown (option_copied f)) c.in-Some.is) c.args.steps.now c.refused.new.steps
    (λ e. c.refused.ensures.free (ap (λ (b : Option ℕ). is_some (unfit c.args.tables.now.config b fr)) bound ∙ e))
    (subst (λ (ts : List Tip). c.refused.new.steps ≤ c.args.steps.now + gaps ts (keys_of c.args.tables.now.config fr)) c.deref.ensures.value c.refused.ensures.most)

pub returns-in-Some-refused-clause-badkey : goal.returns-in-Some-refused-clause-badkey
returns-in-Some-refused-clause-badkey g c ended counts calls reserved chain e =
    let s : State = state_in c.args.tables.now ended counts calls reserved in
    let fr : Frame = shown c.in-Some.frame.now in
    bad_cost s c.args.reading c.args.bytes.now fr (sym c.requires.read ∙ ap (λ f. option_map shown (option_copied f)) c.in-Some.is) c.args.steps.now c.refused.new.steps
    (subst (λ (ts : List Tip). c.refused.new.steps ≤ c.args.steps.now + gaps ts (keys_of c.args.tables.now.config fr)) c.deref.ensures.value c.refused.ensures.most)

pub returns-clause-badkey : goal.returns-clause-badkey
returns-clause-badkey g c ended counts calls reserved chain e =
    let fr : Frame = shown c.in-Some.frame.now in
    let t : State = state_in c.args.tables.now ended counts calls reserved in
    absurd (taken_not_bad (with_keys t (new_rows t fr)) c.bound_at-bound.result fr chain (sym (c.accept.ensures.verdict ended counts calls reserved) ∙ e))

pub returns-clause-cost : goal.returns-clause-cost
returns-clause-cost g c ended counts calls reserved =
    let s : State = state_in c.args.tables.now ended counts calls reserved in
    let fr : Frame = shown c.in-Some.frame.now in
    let bound : c.bound_at-bound.result ≡ bound_at s c.args.reading = c.bound_at-bound.ensures in
    let none : c.refused.result ≡ None = c.in_default-refused.is in
    let why : refused s (bound_at s c.args.reading) fr ≡ None = ap (λ (b : Option ℕ). refused s b fr) (sym bound) ∙ sym (c.refused.ensures.value s refl (sym c.deref.ensures.value)) ∙ none in
    let begun : HaveBegun c.args.tables.now.tips.items (keys_of c.args.tables.now.config fr) c.refused.new.walks.items =
    subst (λ (ts : List Tip). HaveBegun ts (keys_of c.args.tables.now.config fr) c.refused.new.walks.items) c.deref.ensures.value c.in_default-refused.ensures.begun in
    let offered : c.refused.new.steps ≡ c.args.steps.now + gaps c.args.tables.now.tips.items (keys_of c.args.tables.now.config fr) =
    subst (λ (ts : List Tip). c.refused.new.steps ≡ c.args.steps.now + gaps ts (keys_of c.args.tables.now.config fr)) c.deref.ensures.value c.in_default-refused.ensures.cost in
    taken_cost s c.args.reading c.args.bytes.now fr (sym c.requires.read ∙ ap (λ f. option_map shown (option_copied f)) c.in-Some.is) c.refused.new.walks.items c.args.steps.now c.refused.new.steps c.accept.new.steps why begun offered
    c.accept.ensures.cost
