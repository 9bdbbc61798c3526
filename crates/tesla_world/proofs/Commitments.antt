-- The commitment law: where no two values on the walks collide, a newer key that leads to the commitment leads to each key of its chain that was taken.
use Rattle.std.proofs.Common.{◌≡◌, ℕ, zero, suc, ◌+◌, ◌-◌, ◌<◌, ◌≤◌, Bool, true, false, ◌&&◌, ◌||◌, List, [], ◌∷◌, ◌++◌, get_or, take, drop, Some, inl, inr, refl, sym, ap, subst, ◌∙◌, arith}
use Rattle.std.specs.Prelude.{filter, nat_lt, not, slice_get}
use Rattle.std.specs.List.{Contains, list_all}
use Rattle.std.proofs.lemmas.Bool.{and_parts, cases_Bool, eqb-true, ltb-true, or_left, or_right}
use Rattle.std.proofs.lemmas.List.{take-append-drop}
use Rattle.std.proofs.lemmas.List.Elements.{All-contains, All-contains_itself, All-filter, Contains-get_or}
use Rattle.std.proofs.lemmas.List.Sums.{list_all-from_AllPass}
use Rattle.std.proofs.lemmas.Slice.Eq.{bytes_eq-Decides}
use Rattle.tesla_base.specs.declared.names.Key.{Key}
use Rattle.tesla_fitting.specs.Config.{chain_row}
use Rattle.tesla_fitting.specs.Rows.{is_of, leads_to}
use Rattle.tesla_fitting.specs.declared.config.Config.{Config}
use Rattle.tesla_frame.specs.declared.row.KeyRow.{KeyRow}
use Rattle.tesla_prf.specs.Keys.{walk}
use Rattle.tesla_prf.proofs.Walks.{walk_on}
use Rattle.tesla_receiver.specs.Arrivals.{FreshAreNew, NewAreTaken}
use Rattle.tesla_receiver.specs.History.{IsLegal, arrivals_in}
use Rattle.tesla_receiver.specs.Keys.{fresh_keys, keys_taken, newest}
use Rattle.tesla_receiver.specs.Entries.{Arrival, Entry}
use Rattle.tesla_world.specs.Laws.{CommitmentLaw, IsCarried, IsOnWalk, NoneCollide}
use Rattle.tesla_world.proofs.Newest.{contained, newest_reaches, take_got}

-- ---- the newest index

-- with arrivals more the newest index of a chain is no lower
abbrev OnlyRises : Type 0
OnlyRises = (cfg : Config) (xs ys : List Arrival) (chain : ℕ) → newest cfg xs chain ≤ newest cfg (xs ++ ys) chain

-- so the commitment's isn't above it
newest_least : OnlyRises → (cfg : Config) (arrivals : List Arrival) (chain : ℕ) → (chain_row cfg chain).index ≤ newest cfg arrivals chain
unfolding newest
newest_least rises cfg arrivals chain = rises cfg [] arrivals chain

-- nor is that of a key that was taken
newest_taken : OnlyRises → (cfg : Config) (arrivals : List Arrival) (n : ℕ) (arrival : Arrival) (row : KeyRow) → slice_get arrivals n ≡ Some arrival → Contains (keys_taken cfg arrival) row → row.index ≤ newest cfg arrivals row.chain.0
newest_taken rises cfg arrivals n arrival row at taken =
    let prefix = take n arrivals ++ arrival ∷ [] in
    let rest = drop (n + 1) arrivals in
    let whole : prefix ++ rest ≡ arrivals = ap (λ xs. xs ++ rest) (sym (take_got arrivals n arrival at)) ∙ take-append-drop (n + 1) arrivals in
    omega (arith, newest_reaches cfg (take n arrivals) arrival row taken, rises cfg prefix rest row.chain.0, ap (λ xs. newest cfg xs row.chain.0) whole)

-- what a test keeps was there
kept_from : {A : Type 0} (p : A → Bool) (xs : List A) (x : A) → Contains (filter p xs) x → Contains xs x
kept_from p xs x has = All-contains (Contains xs) (filter p xs) x (All-filter p (Contains xs) xs (All-contains_itself xs)) has

-- ---- walks

-- two walks that meet after as many steps begin at one key
walks_meet : (cfg : Config) (arrivals : List Arrival) (offered : KeyRow) (x y : Key) (n : ℕ) → NoneCollide cfg arrivals offered →
    ((k : ℕ) → k ≤ n → IsOnWalk cfg arrivals offered (walk x k)) → ((k : ℕ) → k ≤ n → IsOnWalk cfg arrivals offered (walk y k)) → walk x n ≡ walk y n → x ≡ y
unfolding walk
walks_meet cfg arrivals offered x y zero none on_x on_y same = same
walks_meet cfg arrivals offered x y (suc n) none on_x on_y same =
    walks_meet cfg arrivals offered x y n none (λ k le. on_x k (omega arith)) (λ k le. on_y k (omega arith))
    (none (walk x n) (walk y n) (on_x n (omega arith)) (on_y n (omega arith)) same)

-- a key that leads to another walks to it
leads_from : (row : KeyRow) (index : ℕ) (key : Key) → leads_to row index key ≡ true → walk row.key (row.index - index) ≡ key
leads_from row index key e = ap (λ (bytes : List ℕ). record { 0 = bytes }) ((bytes_eq-Decides (walk row.key (row.index - index)).0 key.0).0 e)

-- and one that walks to it leads to it
leads_by : (row : KeyRow) (index : ℕ) (key : Key) → walk row.key (row.index - index) ≡ key → leads_to row index key ≡ true
leads_by row index key e = (bytes_eq-Decides (walk row.key (row.index - index)).0 key.0).1 (ap (λ (k : Key). k.0) e)

-- a key that leads to the commitment leads to a key of its chain, carried and not above it, that leads to the commitment too
leads_back : (cfg : Config) (arrivals : List Arrival) (offered other : KeyRow) → NoneCollide cfg arrivals offered → IsCarried cfg arrivals other → other.chain.0 ≡ offered.chain.0 →
    (chain_row cfg offered.chain.0).index ≤ other.index → other.index ≤ offered.index →
    leads_to offered (chain_row cfg offered.chain.0).index (chain_row cfg offered.chain.0).key ≡ true → leads_to other (chain_row cfg offered.chain.0).index (chain_row cfg offered.chain.0).key ≡ true →
    leads_to offered other.index other.key ≡ true
leads_back cfg arrivals offered other none carried own above below leads leads_other =
    let first = (chain_row cfg offered.chain.0).index in
    let apart = offered.index - other.index in
    let down = other.index - first in
    let key = walk offered.key apart in
    let sum : apart + down ≡ offered.index - first = omega arith in
    let meet : walk key down ≡ walk other.key down =
    walk_on offered.key apart down ∙ ap (walk offered.key) sum ∙ leads_from offered first (chain_row cfg offered.chain.0).key leads
    ∙ sym (leads_from other first (chain_row cfg offered.chain.0).key leads_other) in
    let same_first : (chain_row cfg other.chain.0).index ≡ first = ap (λ (c : ℕ). (chain_row cfg c).index) own in
    leads_by offered other.index other.key
    (walks_meet cfg arrivals offered key other.key down none
    (λ k le. record { row = offered; known = inl refl; chain_is = refl; above = omega arith; steps = apart + k; within = omega arith; value_is = walk_on offered.key apart k })
    (λ k le. record { row = other; known = inr carried; chain_is = own; above = omega arith; steps = k; within = omega arith; value_is = refl })
    meet)

-- ---- the law

module _ (rises : OnlyRises) (taken : NewAreTaken) (fresh : FreshAreNew) (cfg : Config) (h : List Entry) (row : KeyRow) (legal : IsLegal cfg h) (none : NoneCollide cfg (arrivals_in h) row)
    (newer : newest cfg (arrivals_in h) row.chain.0 < row.index) (leads : leads_to row (chain_row cfg row.chain.0).index (chain_row cfg row.chain.0).key ≡ true) where
  -- a newer key that leads to the commitment leads to each key of its chain that was new
  leads_to_fresh : (other : KeyRow) → Contains (fresh_keys cfg (arrivals_in h)) other → is_of row.chain.0 other ≡ true → leads_to row other.index other.key ≡ true
  leads_to_fresh other has own =
      let arrivals = arrivals_in h in
      let is_new = fresh cfg arrivals other has in
      let is_taken = taken cfg h is_new.n is_new.arrival other legal is_new.at is_new.new in
      let chain : other.chain.0 ≡ row.chain.0 = eqb-true other.chain.0 row.chain.0 own in
      let before = take is_new.n arrivals in
      let first = chain_row cfg other.chain.0 in
      let good = and_parts (nat_lt (newest cfg before other.chain.0) other.index && leads_to other first.index first.key) _ is_taken.good in
      let parts = and_parts (nat_lt (newest cfg before other.chain.0) other.index) (leads_to other first.index first.key) good.0 in
      let above : newest cfg before other.chain.0 < other.index = ltb-true (newest cfg before other.chain.0) other.index parts.0 in
      let lowest = newest_least rises cfg before other.chain.0 in
      let same : first.index ≡ (chain_row cfg row.chain.0).index = ap (λ (c : ℕ). (chain_row cfg c).index) chain in
      let kept = kept_from _ (keys_taken cfg is_new.arrival) other is_new.new in
      let below : other.index ≤ newest cfg arrivals row.chain.0 = subst (λ (c : ℕ). other.index ≤ newest cfg arrivals c) chain (newest_taken rises cfg arrivals is_new.n is_new.arrival other is_new.at kept) in
      leads_back cfg arrivals row other none (record { arrival = is_new.arrival; among = contained arrivals is_new.n is_new.arrival is_new.at; carried = is_taken.carried }) chain
      (omega (arith, above, lowest, same)) (omega (arith, newer, below)) leads
      (subst (λ (c : ℕ). leads_to other (chain_row cfg c).index (chain_row cfg c).key ≡ true) chain parts.1)

  -- and so passes the test of all
  leads_to_each : list_all (λ other. not (is_of row.chain.0 other) || leads_to row other.index other.key) (fresh_keys cfg (arrivals_in h)) ≡ true
  leads_to_each =
      let rows = fresh_keys cfg (arrivals_in h) in
      list_all-from_AllPass (λ other. not (is_of row.chain.0 other) || leads_to row other.index other.key) rows
      (λ k d within.
      let other = get_or rows k d in
      elim (cases_Bool (is_of row.chain.0 other)) [
        | inl own ↦ or_right (not (is_of row.chain.0 other)) (leads_to row other.index other.key) (leads_to_fresh other (Contains-get_or rows k d within) own)
        | inr foreign ↦ or_left (not (is_of row.chain.0 other)) (leads_to row other.index other.key) (ap not foreign)
      ])

-- a test that follows from the first two adds nothing
follows : (first each : Bool) → (first ≡ true → each ≡ true) → (first && each) ≡ first
follows true each given = given refl
follows false each given = refl

-- what the receiver's laws on new keys buy
pub commits : OnlyRises → NewAreTaken → FreshAreNew → CommitmentLaw
commits rises taken fresh cfg h row legal none =
    let newer = nat_lt (newest cfg (arrivals_in h) row.chain.0) row.index in
    let leads = leads_to row (chain_row cfg row.chain.0).index (chain_row cfg row.chain.0).key in
    follows (newer && leads) (list_all (λ other. not (is_of row.chain.0 other) || leads_to row other.index other.key) (fresh_keys cfg (arrivals_in h)))
    (λ both.
    let parts = and_parts newer leads both in
    leads_to_each rises taken fresh cfg h row legal none (ltb-true (newest cfg (arrivals_in h) row.chain.0) row.index parts.0) parts.1)
