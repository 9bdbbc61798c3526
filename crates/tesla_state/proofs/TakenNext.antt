-- A take, by the state of a receiver.
use Rattle.std.proofs.Common.{◌≡◌, ℕ, ◌+◌, ◌-◌, ◌^◌, ◌<◌, ◌≤◌, Bool, true, false, cond, ◌&&◌, ◌||◌, List, [], ◌∷◌, ◌++◌, map, flat_map, take, Some, ◌⊎◌, inl, inr, refl, sym, ap, subst, ◌∙◌, arith, ◌==◌, rules}
use Rattle.std.specs.Prelude.{not, find, option_map, min, All}
use Rattle.std.specs.List.{list_all}
use Rattle.std.proofs.lemmas.Bool.{and_parts, and_from}
use Rattle.std.proofs.lemmas.List.Elements.{All-head, All-tail, All-nil, All-cons}
use Rattle.std.proofs.lemmas.List.Folds.{flat_map-map}
use Rattle.tesla_keys.specs.Tip.{Tip}
use Rattle.tesla_base.specs.declared.release.Head.{Head}
use Rattle.tesla_fitting.specs.declared.config.Config.{Config}
use Rattle.tesla_state.specs.declared.replies.Reply.TheVariants.{Given}
use Rattle.tesla_walks.specs.declared.release.Release.{Release}
use Rattle.tesla_state.specs.declared.report.Report.{Report}
use Rattle.tesla_state.specs.declared.replies.Take.TheVariants as takes
use Rattle.tesla_fitting.specs.Config.{chains}
use Rattle.tesla_walks.specs.Proved.{RiseBy}
use Rattle.tesla_state.specs.Gathering as gathering
use Rattle.tesla_state.specs.Releases.{head_of}
use Rattle.tesla_state.specs.Kept.{state_of, CountsWithin, IsBefore, IsKept}
use Rattle.tesla_state.specs.Replies.{reply_shown}
use Rattle.tesla_state.specs.State.{State}
use Rattle.tesla_walks.specs.Holding.{Holding}
use Rattle.tesla_state.specs.Steps.{is_over, is_passed, reply_for, reply_by, payload_held, payload_at, is_numbered, taken_after, with_taken}
use Rattle.tesla_state.specs.Steps as steps
use Rattle.tesla_state.specs.Stored.{Placed, Stored, holding_at, release_by, after_take, is_idle, AreNeeded, IsGiven}
use Rattle.tesla_base.proofs.Lists.{list_all_both}
use Rattle.tesla_state.proofs.Gathering.{GivesOwn, gives_rising}
use Rattle.tesla_state.proofs.KeysTaken.{map_flat}
use Rattle.tesla_state.proofs.Marked.{find_mapped}
use Rattle.tesla_state.proofs.ReleasedPackets.{flat_same}

pub none_taken : (s : State) → s.waiting ≡ [] → record s { calls = s.calls + 1 } ≡ steps.after_take s
unfolding steps.after_take
none_taken s h = ap (with_taken s) (sym h)

pub one_taken : (s : State) (r : Release) (rest : List Release) → s.waiting ≡ r ∷ rest → record s { held = flat_map (taken_after s.config s.tips r.place) s.held; waiting = rest; counts = record s.counts { given = s.counts.given + 1 }; calls = s.calls + 1 } ≡ steps.after_take s
unfolding steps.after_take
one_taken s r rest h = ap (with_taken s) (sym h)

taken_one : (a b : Bool) (x : Placed) → map holding_at (cond a (cond b [] (record x { holding = record x.holding { taken = true } } ∷ [])) (x ∷ [])) ≡ cond a (cond b [] (record x.holding { taken = true } ∷ [])) (x.holding ∷ [])
taken_one true true x = refl
taken_one true false x = refl
taken_one false b x = refl

-- what is held after a take
pub held_taken : (cfg : Config) (tips : List Tip) (order : ℕ) (held : List Placed) → map holding_at (flat_map (after_take cfg tips order) held) ≡ flat_map (taken_after cfg tips order) (map holding_at held)
held_taken cfg tips order held =
    map_flat (after_take cfg tips order) held
    ∙ flat_same (λ x. map holding_at (after_take cfg tips order x)) (λ x. taken_after cfg tips order x.holding) (λ x. taken_one (x.holding.order == order) (list_all (is_passed tips x.holding.name.interval) (chains cfg)) x) held
    ∙ sym (flat_map-map (taken_after cfg tips order) holding_at held)

-- the packet of the first that waits is found by its number
pub payload_there : (held : List Placed) (x : Placed) → find (λ (y : Placed). y.holding.order == x.holding.order) held ≡ Some x → payload_held (find (is_numbered x.holding.order) (map holding_at held)) ≡ x.holding.payload
payload_there held x h = ap payload_held (find_mapped (is_numbered x.holding.order) holding_at held ∙ ap (option_map holding_at) h)

pub answer_given : (s : State) (held : List Placed) (x : Placed) (chain : ℕ) (rest : List Release) (head : Head) (into : List ℕ) → s.held ≡ map holding_at held → s.waiting ≡ release_by chain (Some x) ∷ rest → find (λ (y : Placed). y.holding.order == x.holding.order) held ≡ Some x → head ≡ head_of s.counts.given (release_by chain (Some x)) x.holding.payload → take head.length into ≡ x.holding.payload → reply_shown (takes.Given head) into ≡ reply_by s
answer_given s held x chain rest head into shown first found is payload =
    let there : payload_at s x.holding.order ≡ x.holding.payload = ap (λ hs. payload_held (find (is_numbered x.holding.order) hs)) shown ∙ payload_there held x found in
    ap (λ p. Given head p) payload ∙ ap (λ h. Given h x.holding.payload) is
    ∙ ap (λ p. Given (head_of s.counts.given (release_by chain (Some x)) p) p) (sym there)
    ∙ ap (λ ws. reply_for s ws (list_all (λ flag. flag) s.ended)) (sym first)

-- ---- the invariant

own_two : (a b : Bool) (item : Holding) → (cond a (cond b [] (record item { taken = true } ∷ [])) (item ∷ []) ≡ []) ⊎ ((y : Holding) × (cond a (cond b [] (record item { taken = true } ∷ [])) (item ∷ []) ≡ y ∷ []) × (y.order ≡ item.order))
own_two true true item = inl refl
own_two true false item = inr (record item { taken = true }, refl, refl)
own_two false b item = inr (item, refl, refl)

own_taken : (cfg : Config) (tips : List Tip) (order : ℕ) → GivesOwn gathering.order_of gathering.order_of (taken_after cfg tips order)
own_taken cfg tips order item = own_two (item.order == order) (list_all (is_passed tips item.name.interval) (chains cfg)) item

-- what gives each its own keeps the numbers below a bound
pub own_before : (f : Holding → List Holding) (n : ℕ) → GivesOwn gathering.order_of gathering.order_of f → (xs : List Holding) → All (IsBefore n) xs → All (IsBefore n) (flat_map f xs)
own_before f n own [] all = All-nil (IsBefore n)
own_before f n own (x ∷ xs) all =
    let rest : All (IsBefore n) (flat_map f xs) = own_before f n own xs (All-tail (IsBefore n) x xs all) in
    let here : x.order < n = All-head (IsBefore n) x xs all in
    elim (own x) [
      | inl none ↦ subst (λ ys. All (IsBefore n) (ys ++ flat_map f xs)) (sym none) rest
      | inr (y, one, same) ↦ subst (λ ys. All (IsBefore n) (ys ++ flat_map f xs)) (sym one) (All-cons (IsBefore n) y (flat_map f xs) (omega (arith, here, same)) rest)
    ]

all_flat : {A B : Type 0} (ok : A → Bool) (q : B → Bool) (f : A → List B) → ((x : A) → ok x ≡ true → list_all q (f x) ≡ true) → (xs : List A) → list_all ok xs ≡ true → list_all q (flat_map f xs) ≡ true
all_flat ok q f gives [] h = refl
all_flat ok q f gives (x ∷ xs) h =
    let parts = and_parts (ok x) (list_all ok xs) h in
    list_all_both q (f x) (flat_map f xs) (gives x parts.0) (all_flat ok q f gives xs parts.1)

still_needed : (a r t p : Bool) → p ≡ false → not (((false || a) && not r) || (t && p)) ≡ true → not (((false || a) && not r) || (true && p)) ≡ true
still_needed a r true p e h = h
still_needed a r false p e h = ap (λ b. not ((a && not r) || b)) e ∙ h

needed_one : (cfg : Config) (tips : List Tip) (a b : Bool) (x : Placed) → list_all (is_passed tips x.holding.name.interval) (chains cfg) ≡ b → not (is_idle cfg tips x) ≡ true → list_all (λ y. not (is_idle cfg tips y)) (cond a (cond b [] (record x { holding = record x.holding { taken = true } } ∷ [])) (x ∷ [])) ≡ true
needed_one cfg tips true true x e h = refl
needed_one cfg tips true false x e h =
    and_from (not (is_idle cfg tips (record x { holding = record x.holding { taken = true } }))) true
    (still_needed (list_all (is_over tips x.holding) (chains cfg)) x.holding.released x.holding.taken (list_all (is_passed tips x.holding.name.interval) (chains cfg)) e h) refl
needed_one cfg tips false b x e h = and_from (not (is_idle cfg tips x)) true h refl

needed_taken : (cfg : Config) (tips : List Tip) (order : ℕ) (held : List Placed) → AreNeeded cfg tips held → AreNeeded cfg tips (flat_map (after_take cfg tips order) held)
needed_taken cfg tips order held h =
    all_flat (λ x. not (is_idle cfg tips x)) (λ x. not (is_idle cfg tips x)) (after_take cfg tips order)
    (λ x k. needed_one cfg tips (x.holding.order == order) (list_all (is_passed tips x.holding.name.interval) (chains cfg)) x refl k) held h

later_counts : (calls : ℕ) (r : Report) → CountsWithin calls r → CountsWithin (calls + 1) (record r { given = r.given + 1 })
later_counts calls r w = search rules

pub kept_taken : (cfg : Config) (tips : List Tip) (old new : Stored) (tips_room walks_room batch_room ended_room : ℕ) (counts : Report) (calls : ℕ) (head : Head) (before after : List ℕ) → IsKept cfg tips old tips_room walks_room batch_room ended_room counts calls → calls + 1 < 2 ^ 64 → new.capacity ≡ old.capacity → new.chains ≡ old.chains → IsGiven cfg tips counts.given old new head before after → IsKept cfg tips new tips_room walks_room batch_room ended_room (record counts { given = counts.given + 1 }) (calls + 1)
kept_taken cfg tips old new tips_room walks_room batch_room ended_room counts calls head before after k fits capacity chains g =
    let order : ℕ = g.packet.holding.order in
    let held : map holding_at new.held ≡ flat_map (taken_after cfg tips order) (map holding_at old.held) = ap (map holding_at) g.held ∙ held_taken cfg tips order old.held in
    let given : old.given ≡ counts.given = k.given in
    let few : counts.given ≤ calls = k.within.given in
    let now : new.given ≡ min (old.given + 1) (2 ^ 64 - 1) = g.given in
    record {
      tips_each = k.tips_each;
      chains = chains ∙ k.chains;
      capacity = capacity ∙ k.capacity;
      eight_tips = k.eight_tips;
      eight = k.eight;
      room = k.room;
      flags = k.flags;
      orders = subst (RiseBy gathering.order_of) (sym held) (gives_rising gathering.order_of gathering.order_of (taken_after cfg tips order) (own_taken cfg tips order) (map holding_at old.held) k.orders);
      before = subst (All (IsBefore counts.arrivals)) (sym held) (own_before (taken_after cfg tips order) counts.arrivals (own_taken cfg tips order) (map holding_at old.held) k.before);
      needed = subst (AreNeeded cfg tips) (sym g.held) (needed_taken cfg tips order old.held k.needed);
      within = later_counts calls counts k.within;
      given = omega arith;
    }

pub state_taken : (cfg : Config) (tips : List Tip) (old new : Stored) (ended : List Bool) (counts : Report) (calls reserved : ℕ) (head : Head) (before after : List ℕ) → IsGiven cfg tips counts.given old new head before after → state_of cfg tips new ended (record counts { given = counts.given + 1 }) (calls + 1) reserved ≡ steps.after_take (state_of cfg tips old ended counts calls reserved)
state_taken cfg tips old new ended counts calls reserved head before after g =
    let s : State = state_of cfg tips old ended counts calls reserved in
    ap (λ hs. record s { held = hs; waiting = new.waiting; counts = record counts { given = counts.given + 1 }; calls = calls + 1 }) (ap (map holding_at) g.held ∙ held_taken cfg tips g.packet.holding.order old.held)
    ∙ one_taken s (release_by g.chain (Some g.packet)) new.waiting g.first

pub answer_is : (cfg : Config) (tips : List Tip) (old new : Stored) (ended : List Bool) (counts : Report) (calls reserved : ℕ) (head : Head) (before after : List ℕ) → IsGiven cfg tips counts.given old new head before after → reply_shown (takes.Given head) after ≡ reply_by (state_of cfg tips old ended counts calls reserved)
answer_is cfg tips old new ended counts calls reserved head before after g =
    answer_given (state_of cfg tips old ended counts calls reserved) old.held g.packet g.chain new.waiting head after refl g.first g.found g.head_is g.payload
