-- Each step keeps the rule of the table.
use Rattle.std.proofs.Common.{◌≡◌, ◌≢◌, ◌⊎◌, ⊎_elim, inl, inr, ℕ, ◌+◌, ◌-◌, ◌*◌, ◌%◌, ◌^◌, ◌<◌, ◌≤◌, List, [], ◌∷◌, ◌++◌, length, get_or, set, Option, Some, None, sym, refl, ap, ◌∙◌, subst, arith, length-set, length-append, get_or-set_other, get_or-set_same}
use mathlib.Core.Logic.{dite}
use mathlib.Core.Option.{none, some, some-injective, some-ne-none}
use mathlib.Core.Option as maybe
use native.Mathlib.Decide.{ℕ_discrete}
use lib.ListN.{get_elem?, get_or-eq_default}
use lib.Seq.{set-get_or}
use Rattle.atomic_table.specs.Table.{State, step, Act, keeps, takes, gives, stepped, rest, carried_after, Valid, Allows, Splits, Joins, opening}
use Rattle.atomic_table.proofs.Lists.{at_set, at_longer, set_here, set_else}
use Rattle.tesla_turn.specs.declared.view.Call.{Call}
use Rattle.tesla_turn.specs.declared.view.View.{View}
use Rattle.tesla_turn.specs.declared.view.Phase.{Phase}
use Rattle.tesla_turn.specs.declared.view.Phase.TheVariants.{Idle, Waits, Acts}
use Rattle.tesla_turn.specs.History.{entries, calls_by, calls_of, HasCalls, BeginsWith}
use Rattle.tesla_turn.specs.Permitted.{ArePermitted}
use Rattle.tesla_turn.specs.Rule.{all_tickets, InPhase, Live, AtHome, OneActs, Ruled}
use Rattle.tesla_turn.specs.Steps.{Mine, first_view, gave_pass, new_view, both_views, spent_view, drew, Reached, looked, handed_on, gave_back}
use Rattle.tesla_turn.proofs.Histories.{entries-append, calls_by_own, calls_by_other, begins_self, begins_more, longer_either}
use Rattle.tesla_turn.proofs.Permissions.{permitted_none, permitted_more}
use Rattle.tesla_turn.proofs.Owners.{put, put_here, put_else, tickets_set, tickets_snoc, tickets_at, there_below, at_end, alone_set, read_grown}

module _ {V C E : Type 0} (config_of : V → C) (stands : V → List E → Type 0) (permits : C → ℕ → List E → E → Type 0) (config : C) (calls : ℕ) where
  abbrev St : Type 0
  St = State (Option V) (View C E)

  abbrev Rule : St → Type 0
  Rule = Ruled config_of stands permits config calls

  abbrev LiveOf : ℕ → List (Call E) → (ℕ → ℕ) → List (Option (List E)) → ℕ → View C E → Type 0
  LiveOf drawn log owner joined j v = (c : C) → v.config ≡ Some c → Live config calls drawn log owner joined j v

  seats_stay : (K : ℕ → View C E → Type 0) (vs : List (View C E)) (me : ℕ) (w : View C E) → K me w → ((j : ℕ) (d : View C E) → j ≢ me → get_elem? vs j ≡ some d → K j d)
      → (j : ℕ) (d : View C E) → get_elem? (set vs me w) j ≡ some d → K j d
  seats_stay K vs me w mine others j d e = ⊎_elim (λ (t : (j ≡ me) × (w ≡ d)). subst (λ (x : ℕ × View C E). K x.0 x.1) (λ i. (sym t.0 i, t.1 i)) mine)
      (λ (t : (j ≢ me) × (get_elem? vs j ≡ some d)). others j d t.0 t.1) (at_set vs me j w d e)

  -- the same pass, where its tickets, its room, its phase, what it has seen and which passes it knows to be joined change
  moved : (drawn drawn' : ℕ) (log : List (Call E)) (owner owner' : ℕ → ℕ) (joined joined' : List (Option (List E))) (j : ℕ) (v : View C E) (tickets room : ℕ) (seen : List (Call E)) (known : List (Option (List E))) (phase : Phase)
      → Live config calls drawn log owner joined j v → BeginsWith log seen → calls_of joined' j ≡ None → (j ≡ 0 → known ≡ joined') → InPhase drawn' log owner' j seen phase
      → Live config calls drawn' log owner' joined' j (record v { tickets = tickets; room = room; seen = seen; joined = known; phase = phase })
  moved drawn drawn' log owner owner' joined joined' j v tickets room seen known phase l begins apart first at = record {
    configured = l.configured;
    number = l.number;
    calls_is = l.calls_is;
    seen = begins;
    made = l.made;
    apart = apart;
    first = first;
    phase = at;
  }

  -- at another phase or among other tickets
  rephased : (drawn drawn' : ℕ) (log : List (Call E)) (owner owner' : ℕ → ℕ) (joined : List (Option (List E))) (j : ℕ) (v : View C E) → Live config calls drawn log owner joined j v
      → InPhase drawn' log owner' j v.seen v.phase → Live config calls drawn' log owner' joined j v
  rephased drawn drawn' log owner owner' joined j v l phase = moved drawn drawn' log owner owner' joined joined j v v.tickets v.room v.seen v.joined v.phase l l.seen l.apart l.first phase

  -- a step that leaves the history as it is
  same_log : (s : St) (r : Rule s) (id : ℕ) (w : View C E) (words' : List ℕ) (homes' : List (maybe.Option (Option V))) (drawn' : ℕ) (owner' : ℕ → ℕ)
      → words' ≡ drawn' ∷ length r.log ∷ [] → length r.log ≤ drawn' → drawn' + all_tickets (set s.views id w) ≤ 2 ^ 63 → length homes' ≡ 1
      → AtHome config_of stands config (record { words = words'; homes = homes'; views = set s.views id w }) r.log ⊎ OneActs config_of stands (record { words = words'; homes = homes'; views = set s.views id w }) r.log
      → LiveOf drawn' r.log owner' r.joined id w
      → ((j : ℕ) (d : View C E) → j ≢ id → InPhase r.drawn r.log r.owner j d.seen d.phase → InPhase drawn' r.log owner' j d.seen d.phase)
      → Rule record { words = words'; homes = homes'; views = set s.views id w }
  same_log s r id w words' homes' drawn' owner' words passed bound one_slot slot mine others = record {
    drawn = drawn';
    log = r.log;
    owner = owner';
    joined = r.joined;
    words = words;
    passed = passed;
    bound = bound;
    one_slot = one_slot;
    slot = slot;
    each = seats_stay (LiveOf drawn' r.log owner' r.joined) s.views id w mine
        (λ j d other at c is. let l = r.each j d at c is in rephased r.drawn drawn' r.log r.owner owner' r.joined j d l (others j d other l.phase));
    numbers = r.numbers ∙ sym (length-set s.views id w);
    unmade = λ k h. let e = length-set s.views id w in r.unmade k (omega arith);
    kept = r.kept;
    few = r.few;
    permitted = r.permitted;
  }

  -- who acts goes on acting while another seat moves
  acts_on : (s : St) (log : List (Call E)) (id : ℕ) (v w : View C E) (words' : List ℕ) (homes' : List (maybe.Option (Option V))) → get_elem? s.views id ≡ some v → v.phase ≢ Acts (length log)
      → OneActs config_of stands s log → OneActs config_of stands (record { words = words'; homes = homes'; views = set s.views id w }) log
  acts_on s log id v w words' homes' at idle acting = let u = acting.1 in
      let other : acting.0 ≢ id = λ e. let same : u ≡ v = some-injective u v (sym acting.3 ∙ (ap (get_elem? s.views) e ∙ at)) in idle (ap (λ (z : View C E). z.phase) (sym same) ∙ acting.5) in
      (acting.0, acting.1, acting.2, set_else s.views id acting.0 w other ∙ acting.3, acting.4, acting.5)

  -- a drawn ticket changes nothing for another pass
  drawn_more : (drawn : ℕ) (log : List (Call E)) (owner : ℕ → ℕ) (id j : ℕ) (seen : List (Call E)) (phase : Phase) → InPhase drawn log owner j seen phase → InPhase (drawn + 1) log (put owner drawn id) j seen phase
  drawn_more drawn log owner id j seen Idle h = tt
  drawn_more drawn log owner id j seen (Waits t) h = let low = h.1 in (h.0, omega arith, put_else owner drawn id t (λ e. omega arith) ∙ h.2)
  drawn_more drawn log owner id j seen (Acts t) h = let low = h.1 in (h.0, omega arith, put_else owner drawn id t (λ e. omega arith) ∙ h.2, h.3)

  -- the slot is as it was while a pass moves that doesn't act
  still_slot : (s : St) (log : List (Call E)) (id : ℕ) (v w : View C E) (words' : List ℕ) → get_elem? s.views id ≡ some v → v.phase ≢ Acts (length log) → AtHome config_of stands config s log ⊎ OneActs config_of stands s log
      → AtHome config_of stands config (record { words = words'; homes = s.homes; views = set s.views id w }) log ⊎ OneActs config_of stands (record { words = words'; homes = s.homes; views = set s.views id w }) log
  still_slot s log id v w words' at idle (inl h) = inl h
  still_slot s log id v w words' at idle (inr h) = inr (acts_on s log id v w words' s.homes at idle h)

  pub draws : (slots id : ℕ) (me : Mine V C E) (c : C) → me.0.phase ≡ Idle → me.0.config ≡ Some c → 0 < me.0.tickets
      → Allows Rule slots id me 0 (λ n. (n + 1) % 2 ^ 64) (drew (step slots 0 1 0 none) me)
  draws slots id me c idle is some_left s r deep at _ = let n : ℕ = get_or s.words 0 0 in let n_is : n ≡ r.drawn = ap (λ ws. get_or ws 0 0) r.words in let v : View C E = me.0 in
      let w : View C E = record v { tickets = v.tickets - 1; phase = Waits n } in let bound = r.bound in let passed = r.passed in let tickets = tickets_set s.views id v w at in let most = tickets_at s.views id v at in
      let small : (r.drawn + 1) % 2 ^ 64 ≡ r.drawn + 1 = omega arith in (
        w,
        keeps,
        tt,
        same_log s r id w (set s.words 0 ((n + 1) % 2 ^ 64)) s.homes (r.drawn + 1) (put r.owner r.drawn id)
            (ap (λ ws. set ws 0 ((get_or ws 0 0 + 1) % 2 ^ 64)) r.words ∙ ap (λ (k : ℕ). k ∷ length r.log ∷ []) small) (omega arith) (omega arith) r.one_slot
            (still_slot s r.log id v w (set s.words 0 ((n + 1) % 2 ^ 64)) at (λ e. cc) r.slot)
            (λ c' is'. let l = r.each id v at c' is' in moved r.drawn (r.drawn + 1) r.log r.owner (put r.owner r.drawn id) r.joined r.joined id v (v.tickets - 1) v.room v.seen v.joined (Waits n) l l.seen l.apart l.first (omega arith, omega arith, ap (put r.owner r.drawn id) n_is ∙ put_here r.owner r.drawn id))
            (λ j d other phase. drawn_more r.drawn r.log r.owner id j d.seen d.phase phase),
        refl,
      )

  -- whoever acts has the first ticket that was not passed, so no other pass can find that it has it
  not_both : (s : St) (r : Rule s) (id t : ℕ) (v : View C E) (c : C) → get_elem? s.views id ≡ some v → v.config ≡ Some c → v.phase ≡ Waits t → t ≡ length r.log → OneActs config_of stands s r.log → ⊥
  not_both s r id t v c at is waits first acting = let u = acting.1 in let mine = r.each id v at c is in let its = r.each acting.0 u acting.3 acting.2 acting.4 in
      let own : r.owner t ≡ id = (subst (InPhase r.drawn r.log r.owner id v.seen) waits mine.phase).2 in let other : r.owner (length r.log) ≡ acting.0 = (subst (InPhase r.drawn r.log r.owner acting.0 u.seen) acting.5 its.phase).2 in
      let e : acting.0 ≡ id = sym other ∙ (ap r.owner (sym first) ∙ own) in let same : u ≡ v = some-injective u v (sym acting.3 ∙ (ap (get_elem? s.views) e ∙ at)) in
      let phases : Acts (length r.log) ≡ Waits t = sym acting.5 ∙ (ap (λ (z : View C E). z.phase) same ∙ waits) in absurd cc

  known_calls : (log : List (Call E)) (joined : List (Option (List E))) (made : List E) → 0 < length joined → calls_by 0 log ≡ made → ((k : ℕ) (xs : List E) → calls_of joined k ≡ Some xs → calls_by k log ≡ xs)
      → ((k : ℕ) → length joined ≤ k → calls_by k log ≡ []) → HasCalls log (set joined 0 (Some made))
  known_calls log joined made some_pass own kept unmade = (
    (λ k xs e. dite (ℕ_discrete k 0)
        (λ z. let here : calls_of (set joined 0 (Some made)) 0 ≡ Some made = get_or-set_same joined 0 (Some made) None some_pass in let e' : Some made ≡ Some xs = sym here ∙ (ap (calls_of (set joined 0 (Some made))) (sym z) ∙ e) in
        let same : made ≡ xs = cc in ap (λ (i : ℕ). calls_by i log) z ∙ (own ∙ same))
        (λ z. kept k xs (sym (get_or-set_other joined 0 k (Some made) None z) ∙ e))),
    (λ k h. let l = length-set joined 0 (Some made) in unmade k (omega arith)),
  )

  reaches : (s : St) (r : Rule s) (id t : ℕ) (v : View C E) (c : C) (x : V) → get_elem? s.views id ≡ some v → v.config ≡ Some c → t ≡ length r.log → t < r.drawn → stands x (entries r.log) → config_of x ≡ config
      → Reached config_of stands permits v (record v { seen = r.log; phase = Acts t }) t x
  reaches s r id t v c x at is first low stood configured = let l = r.each id v at c is in let bound = r.bound in record {
    now = refl;
    begins = l.seen;
    size = (sym first, omega arith);
    own = ap (λ (k : ℕ). calls_by k r.log) l.number ∙ l.made;
    stood = stood;
    configured = l.configured ∙ ap (λ (z : C). Some z) (sym configured);
    whole = λ zero_is. let own_seat : id ≡ 0 = sym l.number ∙ zero_is in let below = there_below s.views id v at in let n = r.numbers in
        subst (λ (js : List (Option (List E))). HasCalls r.log (set js 0 (Some v.made))) (sym (l.first own_seat))
        (known_calls r.log r.joined v.made (omega arith) (ap (λ (k : ℕ). calls_by k r.log) (sym own_seat) ∙ l.made) r.kept (λ k h. r.unmade k (omega arith)));
    permitted = subst (λ (z : C). ArePermitted (permits z) r.log) (sym configured) r.permitted;
  }

  abbrev Looks : ℕ → ℕ → Mine V C E → St → Type 0
  Looks slots id me s = (w : View C E) × (a : Act (Option V)) × Valid s.homes me.1 a × Rule (stepped s 1 (get_or s.words 1 0) id me.1 w a) × looked config_of stands permits (step slots 1 0 0 none) me (get_or s.words 1 0) (w, carried_after me.1 a)

  same_ticket : (phase : Phase) (t t' : ℕ) → phase ≡ Waits t → phase ≡ Waits t' → t ≡ t'
  same_ticket phase t t' e e' = cc

  waiting : (s : St) (r : Rule s) (id t : ℕ) (v : View C E) (c : C) → get_elem? s.views id ≡ some v → v.config ≡ Some c → v.phase ≡ Waits t → InPhase r.drawn r.log r.owner id v.seen (Waits t)
  waiting s r id t v c at is waits = subst (InPhase r.drawn r.log r.owner id v.seen) waits (r.each id v at c is).phase

  -- at its turn the pass takes the value
  looks_home : (slots id : ℕ) (me : Mine V C E) (t : ℕ) (c : C) → me.0.phase ≡ Waits t → me.0.config ≡ Some c → me.1 ≡ [] → (s : St) (r : Rule s) → get_elem? s.views id ≡ some me.0 → get_or s.words 1 0 ≡ t → AtHome config_of stands config s r.log → Looks slots id me s
  looks_home slots id me t c waits is bare s r at hit home = let x : V = home.0 in let v : View C E = me.0 in let w : View C E = record v { seen = r.log; phase = Acts t } in let n_is : get_or s.words 1 0 ≡ length r.log = ap (λ ws. get_or ws 1 0) r.words in
      let first : t ≡ length r.log = sym hit ∙ n_is in let ticket = waiting s r id t v c at is waits in let below = ticket.1 in let homes' : List (maybe.Option (Option V)) = set s.homes 0 none in let words' : List ℕ = set s.words 1 (get_or s.words 1 0) in
      let tickets = tickets_set s.views id v w at in let bound = r.bound in let here : get_elem? (set s.views id w) id ≡ some w = set_here s.views id w (let b = there_below s.views id v at in omega arith) in
      let seen : Reached config_of stands permits v w t x = reaches s r id t v c x at is first ticket.1 home.2 home.3 in (
        w,
        takes 0 (Some x),
        ap (λ (hs : List (maybe.Option (Option V))). get_elem? hs 0) home.1,
        same_log s r id w words' homes' r.drawn r.owner (set-get_or s.words 1 0 ∙ r.words) r.passed (omega arith) (length-set s.homes 0 none ∙ r.one_slot)
            (inr (id, w, c, here, is, ap (λ (k : ℕ). Acts k) first))
            (λ c' is'. let l = r.each id v at c' is' in moved r.drawn r.drawn r.log r.owner r.owner r.joined r.joined id v v.tickets v.room r.log v.joined (Acts t) l (begins_self r.log) l.apart l.first (first, ticket.1, ticket.2, refl))
            (λ j d other phase. phase),
        (λ t' waits'. let e = same_ticket v.phase t t' waits waits' in let again : get_or s.words 1 0 ≡ t' = hit ∙ e in (
          omega arith,
          (λ ne. absurd (ne again)),
          λ _. (
            x,
            ap (λ (cs : List (ℕ × Option V)). (0, Some x) ∷ cs) bare,
            subst (λ (k : ℕ). Reached config_of stands permits v w k x) e seen,
          ),
        )),
      )

  -- before its turn nothing changes
  looks_early : (slots id : ℕ) (me : Mine V C E) (t : ℕ) (c : C) → me.0.phase ≡ Waits t → me.0.config ≡ Some c → (s : St) (r : Rule s) → get_elem? s.views id ≡ some me.0 → get_or s.words 1 0 ≢ t → Looks slots id me s
  looks_early slots id me t c waits is s r at miss = let v : View C E = me.0 in let n_is : get_or s.words 1 0 ≡ length r.log = ap (λ ws. get_or ws 1 0) r.words in let ticket = waiting s r id t v c at is waits in let low = ticket.0 in
      let words' : List ℕ = set s.words 1 (get_or s.words 1 0) in let tickets = tickets_set s.views id v v at in let bound = r.bound in
      let slot' : AtHome config_of stands config (record { words = words'; homes = s.homes; views = set s.views id v }) r.log ⊎ OneActs config_of stands (record { words = words'; homes = s.homes; views = set s.views id v }) r.log =
      still_slot s r.log id v v words' at (λ e. cc) r.slot in (
        v,
        keeps,
        tt,
        same_log s r id v words' s.homes r.drawn r.owner (set-get_or s.words 1 0 ∙ r.words) r.passed (omega arith) r.one_slot slot' (r.each id v at) (λ j d other phase. phase),
        (λ t' waits'. let e = same_ticket v.phase t t' waits waits' in (omega arith, (λ _. refl), λ hit. absurd (miss (hit ∙ sym e)))),
      )

  looks_by : (slots id : ℕ) (me : Mine V C E) (t : ℕ) (c : C) → me.0.phase ≡ Waits t → me.0.config ≡ Some c → me.1 ≡ [] → (s : St) (r : Rule s) → get_elem? s.views id ≡ some me.0 → get_or s.words 1 0 ≡ t
      → AtHome config_of stands config s r.log ⊎ OneActs config_of stands s r.log → Looks slots id me s
  looks_by slots id me t c waits is bare s r at hit (inl home) = looks_home slots id me t c waits is bare s r at hit home
  looks_by slots id me t c waits is bare s r at hit (inr acting) = absurd (not_both s r id t me.0 c at is waits (sym hit ∙ ap (λ ws. get_or ws 1 0) r.words) acting)

  pub looks : (slots id : ℕ) (me : Mine V C E) (t : ℕ) (c : C) → me.0.phase ≡ Waits t → me.0.config ≡ Some c → me.1 ≡ [] → Allows Rule slots id me 1 (λ n. n) (looked config_of stands permits (step slots 1 0 0 none) me)
  looks slots id me t c waits is bare s r deep at _ = dite (ℕ_discrete (get_or s.words 1 0) t) (λ hit. looks_by slots id me t c waits is bare s r at hit r.slot) (λ miss. looks_early slots id me t c waits is s r at miss)

  -- another pass keeps what it knows while the one that acts adds its call
  passed_by : (s : St) (r : Rule s) (id t : ℕ) (e : E) → t ≡ length r.log → r.owner t ≡ id → (j : ℕ) (seen : List (Call E)) (phase : Phase) → j ≢ id → InPhase r.drawn r.log r.owner j seen phase
      → InPhase r.drawn (r.log ++ record { by = id; entry = e } ∷ []) r.owner j seen phase
  passed_by s r id t e first own j seen Idle other h = tt
  passed_by s r id t e first own j seen (Waits u) other h = let n = length-append r.log (record { by = id; entry = e } ∷ []) in let low = h.0 in
      let apart : u ≢ t = λ same. other (sym h.2 ∙ (ap r.owner same ∙ own)) in (omega arith, h.1, h.2)
  passed_by s r id t e first own j seen (Acts u) other h = absurd (other (sym h.2 ∙ (ap r.owner (h.0 ∙ sym first) ∙ own)))

  -- the history with one call more of the pass id
  abbrev longer_log : List (Call E) → ℕ → E → List (Call E)
  longer_log log id e = log ++ record { by = id; entry = e } ∷ []

  hands_on_rule : (id t : ℕ) (v : View C E) (x : V) (e : E) → v.phase ≡ Acts t → v.config ≡ Some (config_of x) → stands x (entries v.seen ++ e ∷ []) → length v.made < v.calls
      → ((c : C) → v.config ≡ Some c → permits c v.number v.made e)
      → (s : St) (r : Rule s) → get_elem? s.views id ≡ some v
      → Rule record { words = set s.words 1 ((get_or s.words 1 0 + 1) % 2 ^ 64); homes = set s.homes 0 (some (Some x)); views = set s.views id (record v { seen = longer_log v.seen v.number e; made = v.made ++ e ∷ []; phase = Idle }) }
  hands_on_rule id t v x e acts is stood some_left may s r at = let l = r.each id v at (config_of x) is in let ticket = subst (InPhase r.drawn r.log r.owner id v.seen) acts l.phase in let low = ticket.1 in let bound = r.bound in
      let first : t ≡ length r.log = ticket.0 in let all_seen : v.seen ≡ r.log = ticket.3 in let log' : List (Call E) = longer_log r.log id e in let n = length-append r.log (record { by = id; entry = e } ∷ []) in
      let w : View C E = record v { seen = longer_log v.seen v.number e; made = v.made ++ e ∷ []; phase = Idle } in let tickets = tickets_set s.views id v w at in
      let now : longer_log v.seen v.number e ≡ log' = λ i. longer_log (all_seen i) (l.number i) e in let small : (length r.log + 1) % 2 ^ 64 ≡ length log' = omega arith in
      let same : config_of x ≡ config = (let both : Some (config_of x) ≡ Some config = sym is ∙ l.configured in cc) in
      let added : entries v.seen ++ e ∷ [] ≡ entries log' = ap (λ (h : List (Call E)). entries h ++ e ∷ []) all_seen ∙ sym (entries-append r.log (record { by = id; entry = e } ∷ [])) in
      let own : calls_by id log' ≡ v.made ++ e ∷ [] = calls_by_own id r.log e ∙ ap (λ (es : List E). es ++ e ∷ []) l.made in
      let call : permits config id (calls_by id r.log) e = subst (λ (z : ℕ × List E). permits config z.0 z.1 e)
      (λ i. (l.number i, sym l.made i)) (may config l.configured) in record {
        drawn = r.drawn;
        log = log';
        owner = r.owner;
        joined = r.joined;
        words = ap (λ ws. set ws 1 ((get_or ws 1 0 + 1) % 2 ^ 64)) r.words ∙ ap (λ (k : ℕ). r.drawn ∷ k ∷ []) small;
        passed = omega arith;
        bound = omega arith;
        one_slot = length-set s.homes 0 (some (Some x)) ∙ r.one_slot;
        slot = inl (x, alone_set s.homes (some (Some x)) r.one_slot, subst (stands x) added stood, same);
        each = seats_stay (LiveOf r.drawn log' r.owner r.joined) s.views id w
            (λ c' is'. record {
              configured = l.configured;
              number = l.number;
              calls_is = l.calls_is;
              seen = subst (BeginsWith log') (sym now) (begins_self log');
              made = own;
              apart = l.apart;
              first = l.first;
              phase = tt;
            })
            (λ j d other there c' is'. let k = r.each j d there c' is' in record {
              configured = k.configured;
              number = k.number;
              calls_is = k.calls_is;
              seen = begins_more d.seen r.log (record { by = id; entry = e } ∷ []) k.seen;
              made = calls_by_other j id r.log e other ∙ k.made;
              apart = k.apart;
              first = k.first;
              phase = passed_by s r id t e first ticket.2 j d.seen d.phase other k.phase;
            });
        numbers = r.numbers ∙ sym (length-set s.views id w);
        unmade = λ k h. let size = length-set s.views id w in let below = there_below s.views id v at in calls_by_other k id r.log e (λ z. omega arith) ∙ r.unmade k (omega arith);
        kept = λ k xs known. calls_by_other k id r.log e (λ z. let none_there : calls_of r.joined k ≡ None = ap (calls_of r.joined) z ∙ l.apart in let clash : None ≡ Some xs = sym none_there ∙ known in absurd cc) ∙ r.kept k xs known;
        few = λ k. dite (ℕ_discrete k id)
            (λ z. let size = length-append v.made (e ∷ []) in let most = l.calls_is in let eq : length (calls_by k log') ≡ length (v.made ++ e ∷ []) = ap (λ (i : ℕ). length (calls_by i log')) z ∙ ap length own in omega arith)
            (λ z. let f = r.few k in let eq : length (calls_by k log') ≡ length (calls_by k r.log) = ap length (calls_by_other k id r.log e z) in omega arith);
        permitted = permitted_more (permits config) r.log (record { by = id; entry = e }) r.permitted call;
      }

  pub hands_on : (slots id : ℕ) (me : Mine V C E) (t : ℕ) (x : V) (es : List E) (e : E) → es ≡ e ∷ [] → me.0.phase ≡ Acts t → me.0.config ≡ Some (config_of x) → me.1 ≡ (0, Some x) ∷ [] → stands x (entries me.0.seen ++ e ∷ [])
      → length me.0.made < me.0.calls → ((c : C) → me.0.config ≡ Some c → permits c me.0.number me.0.made e)
      → Allows Rule slots id me 1 (λ n. (n + 1) % 2 ^ 64) (handed_on es (step slots 1 1 0 none) me)
  hands_on slots id me t x es e one acts is held stood some_left may s r deep at _ = let v : View C E = me.0 in let w : E → View C E = λ z. record v { seen = longer_log v.seen v.number z; made = v.made ++ z ∷ []; phase = Idle } in (
    w e,
    gives,
    tt,
    subst (λ (cs : List (ℕ × Option V)). Rule (stepped s 1 ((get_or s.words 1 0 + 1) % 2 ^ 64) id cs (w e) gives)) (sym held) (hands_on_rule id t v x e acts is stood some_left may s r at),
    (λ e' one'. let both : e ∷ [] ≡ e' ∷ [] = sym one ∙ one' in let same : e ≡ e' = cc in λ i. (w (same i), ap rest held i)),
  )

  pub gives_back : (slots id : ℕ) (me : Mine V C E) (t : ℕ) (c : C) (y : Option V) → me.0.phase ≡ Acts t → me.0.config ≡ Some c → me.1 ≡ (0, y) ∷ [] → Allows Rule slots id me 0 (λ n. n) (gave_back (step slots 0 0 0 none) me)
  gives_back slots id me t c y acts is held s r deep at _ = let v : View C E = me.0 in let words' : List ℕ = set s.words 0 (get_or s.words 0 0) in let homes' : List (maybe.Option (Option V)) = set s.homes 0 (some y) in
      let ticket = subst (InPhase r.drawn r.log r.owner id v.seen) acts (r.each id v at c is).phase in let tickets = tickets_set s.views id v v at in let bound = r.bound in let below = there_below s.views id v at in (
        v,
        gives,
        tt,
        subst (λ (cs : List (ℕ × Option V)). Rule (stepped s 0 (get_or s.words 0 0) id cs v gives)) (sym held)
            (same_log s r id v words' homes' r.drawn r.owner (set-get_or s.words 0 0 ∙ r.words) r.passed (omega arith) (length-set s.homes 0 (some y) ∙ r.one_slot)
            (inr (id, v, c, set_here s.views id v (omega arith), is, acts ∙ ap (λ (k : ℕ). Acts k) ticket.0)) (r.each id v at) (λ j d other phase. phase)),
        (λ i. (v, ap rest held i)),
      )

  grown_slot : (s : St) (log : List (Call E)) (id : ℕ) (v w new : View C E) → get_elem? s.views id ≡ some v → v.phase ≢ Acts (length log) → AtHome config_of stands config s log ⊎ OneActs config_of stands s log
      → AtHome config_of stands config (record { words = s.words; homes = s.homes; views = set s.views id w ++ new ∷ [] }) log ⊎ OneActs config_of stands (record { words = s.words; homes = s.homes; views = set s.views id w ++ new ∷ [] }) log
  grown_slot s log id v w new at idle (inl h) = inl h
  grown_slot s log id v w new at idle (inr h) = let a = acts_on s log id v w s.words s.homes at idle h in inr (a.0, a.1, a.2, at_longer (set s.views id w) (new ∷ []) a.0 a.1 a.3, a.4, a.5)

  pub splits : (id : ℕ) (v : View C E) (c : C) → v.config ≡ Some c → v.number ≡ 0 → v.phase ≡ Idle → v.calls ≤ v.tickets → Splits Rule id v (gave_pass v) (new_view v)
  splits id v c is zero_is idle enough s r at = let l = r.each id v at c is in let own_seat : id ≡ 0 = sym l.number ∙ zero_is in let left : View C E = gave_pass v in let new : View C E = new_view v in let vs : List (View C E) = set s.views id left in
      let joined' : List (Option (List E)) = r.joined ++ None ∷ [] in let tickets = tickets_set s.views id v left at in let more = tickets_snoc vs new in let bound = r.bound in let below = there_below s.views id v at in let size = length-set s.views id left in
      let first : v.joined ≡ r.joined = l.first own_seat in let next : length v.joined ≡ length vs = ap length first ∙ (r.numbers ∙ sym size) in let all_sizes = length-append vs (new ∷ []) in let joined_size = length-append r.joined (None ∷ []) in let numbers = r.numbers in
      let unread : (k : ℕ) → calls_of joined' k ≡ calls_of r.joined k = λ k. read_grown r.joined None k in
      let beyond : (k : ℕ) → length s.views ≤ k → calls_of r.joined k ≡ None = λ k h. get_or-eq_default r.joined None (let most : length r.joined ≤ k = omega arith in most) in
      let longer_list : (j : ℕ) (d : View C E) → Live config calls r.drawn r.log r.owner r.joined j d → (j ≡ 0 → d.joined ≡ joined') → Live config calls r.drawn r.log r.owner joined' j d = λ j d k first'. moved r.drawn r.drawn r.log r.owner r.owner r.joined joined' j d d.tickets d.room d.seen d.joined d.phase k k.seen (unread j ∙ k.apart) first' k.phase in
      let before : (j : ℕ) (d : View C E) → get_elem? vs j ≡ some d → LiveOf r.drawn r.log r.owner joined' j d = seats_stay (LiveOf r.drawn r.log r.owner joined') s.views id left
      (λ c' is'. moved r.drawn r.drawn r.log r.owner r.owner r.joined joined' id v left.tickets left.room v.seen left.joined v.phase l l.seen (unread id ∙ l.apart) (λ _. ap (λ (js : List (Option (List E))). js ++ None ∷ []) first) l.phase)
      (λ j d other there c' is'. longer_list j d (r.each j d there c' is') (λ z. absurd (other (z ∙ sym own_seat)))) in record {
        drawn = r.drawn;
        log = r.log;
        owner = r.owner;
        joined = joined';
        words = r.words;
        passed = r.passed;
        bound = omega arith;
        one_slot = r.one_slot;
        slot = grown_slot s r.log id v left new at (λ e. cc) r.slot;
        each = λ j d there. ⊎_elim (before j d) (λ (t : (j ≡ length vs) × (new ≡ d)). subst (λ (z : ℕ × View C E). LiveOf r.drawn r.log r.owner joined' z.0 z.1) (λ i. (sym t.0 i, t.1 i))
            (λ c' is'. record {
              configured = l.configured;
              number = next;
              calls_is = l.calls_is;
              seen = l.seen;
              made = r.unmade (length vs) (omega arith);
              apart = unread (length vs) ∙ beyond (length vs) (omega arith);
              first = λ z. absurd (omega arith);
              phase = tt;
            })) (at_end vs new d j there);
        numbers = omega arith;
        unmade = λ k h. r.unmade k (omega arith);
        kept = λ k xs known. r.kept k xs (sym (unread k) ∙ known);
        few = r.few;
        permitted = r.permitted;
      }

  joined_slot : (s : St) (log : List (Call E)) (id other : ℕ) (v w both spent : View C E) → get_elem? s.views id ≡ some v → get_elem? (set s.views id both) other ≡ some w → v.phase ≢ Acts (length log) → w.phase ≢ Acts (length log)
      → AtHome config_of stands config s log ⊎ OneActs config_of stands s log
      → AtHome config_of stands config (record { words = s.words; homes = s.homes; views = set (set s.views id both) other spent }) log ⊎ OneActs config_of stands (record { words = s.words; homes = s.homes; views = set (set s.views id both) other spent }) log
  joined_slot s log id other v w both spent at there idle idle' (inl h) = inl h
  joined_slot s log id other v w both spent at there idle idle' (inr h) =
      inr (acts_on (record { words = s.words; homes = s.homes; views = set s.views id both }) log other w spent s.words s.homes there idle' (acts_on s log id v both s.words s.homes at idle h))

  pub joins : (id : ℕ) (v : View C E) (other : ℕ) (w : View C E) (c c' : C) → v.config ≡ Some c → w.config ≡ Some c' → v.number ≡ 0 → v.phase ≡ Idle → w.phase ≡ Idle → Joins Rule id v other w (both_views v w) spent_view
  joins id v other w c c' is is' zero_is idle idle' s r at apart there = let l = r.each id v at c is in let own_seat : id ≡ 0 = sym l.number ∙ zero_is in let both : View C E = both_views v w in let vs : List (View C E) = set s.views id both in
      let was : get_elem? s.views other ≡ some w = sym (set_else s.views id other both apart) ∙ there in let k = r.each other w was c' is' in let first : v.joined ≡ r.joined = l.first own_seat in
      let joined' : List (Option (List E)) = set r.joined other (Some w.made) in let now : both.joined ≡ joined' = λ i. set (first i) (k.number i) (Some w.made) in
      let unread : (j : ℕ) → j ≢ other → calls_of joined' j ≡ calls_of r.joined j = λ j ne. get_or-set_other r.joined other j (Some w.made) None ne in
      let tickets = tickets_set s.views id v both at in let tickets' = tickets_set vs other w spent_view there in let bound = r.bound in let size = length-set s.views id both in let size' = length-set vs other spent_view in let joined_size = length-set r.joined other (Some w.made) in
      let numbers = r.numbers in let below = there_below s.views other w was in
      let mine : LiveOf r.drawn r.log r.owner joined' id both = λ d is''. moved r.drawn r.drawn r.log r.owner r.owner r.joined joined' id v v.tickets v.room both.seen both.joined v.phase l (longer_either (BeginsWith r.log) v.seen w.seen l.seen k.seen) (unread id (λ e. apart (sym e)) ∙ l.apart) (λ _. now) (subst (InPhase r.drawn r.log r.owner id both.seen) (sym idle) tt) in
      let others : (j : ℕ) (d : View C E) → j ≢ other → get_elem? vs j ≡ some d → LiveOf r.drawn r.log r.owner joined' j d = λ j d ne at'. seats_stay (λ i x. i ≢ other → LiveOf r.drawn r.log r.owner joined' i x) s.views id both (λ _. mine)
      (λ i x ne' at'' ne'' z is''. let m = r.each i x at'' z is'' in moved r.drawn r.drawn r.log r.owner r.owner r.joined joined' i x x.tickets x.room x.seen x.joined x.phase m m.seen (unread i ne'' ∙ m.apart) (λ e. absurd (ne' (e ∙ sym own_seat))) m.phase) j d at' ne in record {
        drawn = r.drawn;
        log = r.log;
        owner = r.owner;
        joined = joined';
        words = r.words;
        passed = r.passed;
        bound = omega arith;
        one_slot = r.one_slot;
        slot = joined_slot s r.log id other v w both spent_view at there (λ e. cc) (λ e. cc) r.slot;
        each = seats_stay (LiveOf r.drawn r.log r.owner joined') vs other spent_view (λ d none_is. absurd cc) others;
        numbers = omega arith;
        unmade = λ j h. r.unmade j (omega arith);
        kept = λ j xs known. dite (ℕ_discrete j other)
            (λ e. let here : calls_of joined' other ≡ Some w.made = get_or-set_same r.joined other (Some w.made) None (omega arith) in let both_are : Some w.made ≡ Some xs = sym here ∙ (ap (calls_of joined') (sym e) ∙ known) in
            let same : w.made ≡ xs = cc in ap (λ (i : ℕ). calls_by i r.log) e ∙ (k.made ∙ same))
            (λ ne. r.kept j xs (sym (unread j ne) ∙ known));
        few = r.few;
        permitted = r.permitted;
      }

  pub starts : (x : V) (passes : ℕ) → stands x [] → config_of x ≡ config → passes * calls < 2 ^ 63 → Rule (opening (0 ∷ 0 ∷ []) (Some x ∷ []) (first_view config passes calls))
  starts x passes stood configured few = let v : View C E = first_view config passes calls in record {
    drawn = 0;
    log = [];
    owner = λ _. 0;
    joined = None ∷ [];
    words = refl;
    passed = omega arith;
    bound = omega arith;
    one_slot = refl;
    slot = inl (x, refl, stood, configured);
    each = λ j d there. ⊎_elim (λ (at : get_elem? [] j ≡ some d). absurd (some-ne-none d (sym at))) (λ (t : (j ≡ 0) × (v ≡ d)). subst (λ (z : ℕ × View C E). LiveOf 0 [] (λ _. 0) (None ∷ []) z.0 z.1) (λ i. (sym t.0 i, t.1 i))
        (λ c is. record {
          configured = refl;
          number = refl;
          calls_is = refl;
          seen = ([], refl);
          made = refl;
          apart = refl;
          first = λ _. refl;
          phase = tt;
        })) (at_end [] v d j there);
    numbers = refl;
    unmade = λ k h. refl;
    kept = λ k xs known. let clash : None ≡ Some xs = sym (read_grown [] None k) ∙ known in absurd cc;
    few = λ k. omega arith;
    permitted = permitted_none (permits config);
  }
