-- What a receiver keeps has rising numbers and is needed, also after an arrival.
use Rattle.std.proofs.Common.{◌≡◌, ℕ, ◌+◌, ◌^◌, ◌<◌, ◌≤◌, suc, zero, Bool, true, false, cond, ◌&&◌, ◌||◌, List, [], ◌∷◌, ◌++◌, length, map, flat_map, Option, Some, None, ◌⊎◌, inl, inr, refl, sym, ap, subst, ⊎_elim, ◌∙◌, arith, ◌==◌}
use Rattle.std.specs.Prelude.{not, All, nat_lt, count_by}
use Rattle.std.specs.List.{list_any, list_all}
use Rattle.std.proofs.lemmas.Bool.{true≢false, cases_Bool, and_parts, and_from, or_from, ltb-true, lt-leb}
use Rattle.std.proofs.lemmas.List.Elements.{All-head, All-tail, All-nil, All-push, All-weaker}
use Rattle.tesla_base.proofs.Lists.{list_all_both, not_all_numbers}
use Rattle.tesla_clock.proofs.Sets.{set_has}
use Rattle.tesla_clock.specs.Safe.{has_chain, chain_set}
use Rattle.tesla_clock.specs.Safe as clock
use Rattle.tesla_frame.specs.Frame.{Frame, Data, Disclosure, DataFrame}
use Rattle.tesla_frame.specs.declared.row.KeyRow.{KeyRow}
use Rattle.tesla_keys.specs.Tip.{Tip}
use Rattle.tesla_fitting.specs.declared.config.Config.{Config}
use Rattle.tesla_walks.specs.declared.release.Release.{Release}
use Rattle.tesla_fitting.specs.declared.verdict.Verdict.{Verdict}
use Rattle.tesla_fitting.specs.declared.verdict.Verdict.TheVariants.{Malformed, Foreign, Misfit, Future, BadKey, Late, Repeat, Full, Kept, Keys}
use Rattle.tesla_fitting.specs.Config.{chains, chain_row}
use Rattle.tesla_walks.specs.Proved.{RiseBy}
use Rattle.tesla_state.specs.Gathering.{order_of}
use Rattle.tesla_state.specs.Releases.{is_at}
use Rattle.tesla_state.specs.Kept.{AreTaken, IsBefore}
use Rattle.tesla_state.specs.State.{State}
use Rattle.tesla_walks.specs.Holding.{Holding}
use Rattle.tesla_fitting.specs.Rows.{tag_in}
use Rattle.tesla_state.specs.Steps.{batch_of, released_of, is_named_so, in_interval, is_over, is_passed, is_let_go, marked, kept_after, own, one_if, safe_by, judged_packet}
use Rattle.tesla_walks.specs.Tips.{tip_at, tips_after}
use Rattle.tesla_state.specs.Stored.{Placed, Stored, holding_at, is_idle, AreNeeded}
use Rattle.tesla_state.proofs.Gathering.{GivesOwn, gives_rising}
use Rattle.tesla_state.proofs.Marked.{all_mapped}
use Rattle.tesla_state.proofs.TakenNext.{own_before}

-- ---- what stays

own_cond : (t : Bool) (m item : Holding) → m.order ≡ item.order → (cond t [] (m ∷ []) ≡ []) ⊎ ((y : Holding) × (cond t [] (m ∷ []) ≡ y ∷ []) × (y.order ≡ item.order))
own_cond true m item h = inl refl
own_cond false m item h = inr (m, refl, h)

own_kept : (cfg : Config) (tips : List Tip) (batch now : List Release) → GivesOwn order_of order_of (kept_after cfg tips batch now)
own_kept cfg tips batch now item = own_cond (is_let_go cfg tips batch (marked now item)) (marked now item) item refl

abbrev is_needed : Config → List Tip → Holding → Bool
is_needed cfg tips item = not (is_let_go cfg tips [] item)

drop_and : (x c : Bool) → ((x && false) || c) ≡ false → c ≡ false
drop_and true c h = h
drop_and false c h = h

less_let_go : (b a r t p : Bool) → (((b || a) && not r) || (t && p)) ≡ false → not (((false || a) && not r) || (t && p)) ≡ true
less_let_go b true true t p h = ap not (drop_and (b || true) (t && p) h)
less_let_go b false true t p h = ap not (drop_and (b || false) (t && p) h)
less_let_go true true false t p h = absurd (true≢false h)
less_let_go false true false t p h = absurd (true≢false h)
less_let_go true false false t p h = absurd (true≢false h)
less_let_go false false false t p h = ap not h

needed_cond : (cfg : Config) (tips : List Tip) (batch : List Release) (m : Holding) (t : Bool) → is_let_go cfg tips batch m ≡ t → list_all (is_needed cfg tips) (cond t [] (m ∷ [])) ≡ true
needed_cond cfg tips batch m true e = refl
needed_cond cfg tips batch m false e =
    and_from (is_needed cfg tips m) true (less_let_go (list_any (is_at m.order) batch) (list_all (is_over tips m) (chains cfg)) m.released m.taken (list_all (is_passed tips m.name.interval) (chains cfg)) e) refl

needed_kept : (cfg : Config) (tips : List Tip) (batch now : List Release) (hs : List Holding) → list_all (is_needed cfg tips) (flat_map (kept_after cfg tips batch now) hs) ≡ true
needed_kept cfg tips batch now [] = refl
needed_kept cfg tips batch now (h ∷ hs) =
    list_all_both (is_needed cfg tips) (kept_after cfg tips batch now h) (flat_map (kept_after cfg tips batch now) hs) (needed_cond cfg tips batch (marked now h) (is_let_go cfg tips batch (marked now h)) refl) (needed_kept cfg tips batch now hs)

-- ---- the packet of the arrival

own_cases : (n : ℕ) (v : Verdict) (fr : Frame) → (own n v fr ≡ []) ⊎ ((h : Holding) × (own n v fr ≡ h ∷ []) × (h.order ≡ n))
own_cases n (Kept set) (Data f) = inr (record { order = n; name = f.name; chains = set; payload = f.payload; tags = map tag_in f.rows; released = false; taken = false }, refl, refl)
own_cases n (Kept set) (Disclosure f) = inl refl
own_cases n Malformed (Data f) = inl refl
own_cases n Malformed (Disclosure f) = inl refl
own_cases n (Foreign stream) (Data f) = inl refl
own_cases n (Foreign stream) (Disclosure f) = inl refl
own_cases n Misfit (Data f) = inl refl
own_cases n Misfit (Disclosure f) = inl refl
own_cases n (Future bound) (Data f) = inl refl
own_cases n (Future bound) (Disclosure f) = inl refl
own_cases n (BadKey chain) (Data f) = inl refl
own_cases n (BadKey chain) (Disclosure f) = inl refl
own_cases n Late (Data f) = inl refl
own_cases n Late (Disclosure f) = inl refl
own_cases n Repeat (Data f) = inl refl
own_cases n Repeat (Disclosure f) = inl refl
own_cases n Full (Data f) = inl refl
own_cases n Full (Disclosure f) = inl refl
own_cases n Keys (Data f) = inl refl
own_cases n Keys (Disclosure f) = inl refl

rise_pushed : (n : ℕ) (h : Holding) (xs : List Holding) → h.order ≡ n → RiseBy order_of xs → All (IsBefore n) xs → RiseBy order_of (xs ++ h ∷ [])
rise_pushed n h [] e r b = (All-nil (λ (y : Holding). h.order < y.order), tt)
rise_pushed n h (x ∷ xs) e r b =
    let here : x.order < n = All-head (IsBefore n) x xs b in
    (All-push (λ (y : Holding). x.order < y.order) xs h r.0 (omega arith), rise_pushed n h xs e r.1 (All-tail (IsBefore n) x xs b))

append-none : (xs : List Holding) → xs ++ [] ≡ xs
append-none [] = refl
append-none (x ∷ xs) = ap (λ ys. x ∷ ys) (append-none xs)

pub rise_own : (n : ℕ) (v : Verdict) (fr : Frame) (xs : List Holding) → RiseBy order_of xs → All (IsBefore n) xs → RiseBy order_of (xs ++ own n v fr)
rise_own n v fr xs r b = elim (own_cases n v fr) [
  | inl none ↦ subst (λ ys. RiseBy order_of (xs ++ ys)) (sym none) (subst (RiseBy order_of) (sym (append-none xs)) r)
  | inr (h, one, e) ↦ subst (λ ys. RiseBy order_of (xs ++ ys)) (sym one) (rise_pushed n h xs e r b)
]

later : (n : ℕ) (xs : List Holding) → All (IsBefore n) xs → All (IsBefore (n + 1)) xs
later n xs b = All-weaker (IsBefore n) (IsBefore (n + 1)) (λ x h. omega arith) xs b

pub before_own : (n : ℕ) (v : Verdict) (fr : Frame) (xs : List Holding) → All (IsBefore n) xs → All (IsBefore (n + 1)) (xs ++ own n v fr)
before_own n v fr xs b = elim (own_cases n v fr) [
  | inl none ↦ subst (λ ys. All (IsBefore (n + 1)) (xs ++ ys)) (sym none) (subst (All (IsBefore (n + 1))) (sym (append-none xs)) (later n xs b))
  | inr (h, one, e) ↦ subst (λ ys. All (IsBefore (n + 1)) (xs ++ ys)) (sym one) (All-push (IsBefore (n + 1)) xs h (later n xs b) (omega arith))
]

pub before_later : (n : ℕ) (xs : List Holding) → All (IsBefore n) xs → All (IsBefore (n + 1)) xs
before_later n xs b = later n xs b

-- a chain of a set that isn't empty
record Member (test : ℕ → Bool) (n : ℕ) : Type 0 where
  pub chain : ℕ
  pub below : chain < n
  pub passes : test chain ≡ true

member : (test : ℕ → Bool) (n : ℕ) → (chain_set test n == 0) ≡ false → Member test n
member test zero h = absurd (true≢false h)
member test (suc n) h =
    ⊎_elim
    (λ e. record { chain = n; below = omega arith; passes = e })
    (λ e. let less : chain_set test n + 0 ≡ chain_set test n = omega arith in
    let m = member test n (ap (λ (k : ℕ). k == 0) (sym less) ∙ sym (ap (λ t. (chain_set test n + cond t (2 ^ n) 0) == 0) e) ∙ h) in
    let below = m.below in
    record { chain = m.chain; below = omega arith; passes = m.passes })
    (cases_Bool (test n))

abbrev own_packet : ℕ → ℕ → DataFrame → Holding
own_packet n set f = record { order = n; name = f.name; chains = set; payload = f.payload; tags = map tag_in f.rows; released = false; taken = false }

not_over : (s : State) (b n : ℕ) (f : DataFrame) → (safe_by s (Some b) f.name.interval == 0) ≡ false → list_all (is_over s.tips (own_packet n (safe_by s (Some b) f.name.interval) f)) (chains s.config) ≡ false
not_over s b n f h =
    let i : ℕ = f.name.interval in
    let test : ℕ → Bool = λ c. clock.is_safe b i (chain_row s.config c).delay (tip_at s.tips c).index in
    let count : ℕ = length s.config.setup.rows in
    let m = member test count h in
    let safe = and_parts (nat_lt b (i + (chain_row s.config m.chain).delay)) (nat_lt (tip_at s.tips m.chain).index i) m.passes in
    not_all_numbers (is_over s.tips (own_packet n (safe_by s (Some b) i) f)) count m.chain m.below
    (or_from (not (has_chain (chain_set test count) m.chain)) (is_passed s.tips i m.chain) (ap not (set_has test count m.chain m.below ∙ m.passes))
    (lt-leb i (tip_at s.tips m.chain).index (ltb-true (tip_at s.tips m.chain).index i safe.1)))

safe_needed : (s : State) (bound : Option ℕ) (n : ℕ) (f : DataFrame) → (safe_by s bound f.name.interval == 0) ≡ false → is_needed s.config s.tips (own_packet n (safe_by s bound f.name.interval) f) ≡ true
safe_needed s None n f h = absurd (true≢false h)
safe_needed s (Some b) n f h = ap (λ t. not ((t && true) || false)) (not_over s b n f h)

own_judged : (cfg : Config) (tips : List Tip) (a b c : Bool) (n set : ℕ) (f : DataFrame) → (a ≡ false → is_needed cfg tips (own_packet n set f) ≡ true) → list_all (is_needed cfg tips) (own n (cond a Late (cond b Repeat (cond c Full (Kept set)))) (Data f)) ≡ true
own_judged cfg tips true b c n set f h = refl
own_judged cfg tips false true c n set f h = refl
own_judged cfg tips false false true n set f h = refl
own_judged cfg tips false false false n set f h = and_from (is_needed cfg tips (own_packet n set f)) true (h refl) refl

pub own_needed : (s : State) (bound : Option ℕ) (n : ℕ) (f : DataFrame) → list_all (is_needed s.config s.tips) (own n (judged_packet s (safe_by s bound f.name.interval) f) (Data f)) ≡ true
own_needed s bound n f =
    let set : ℕ = safe_by s bound f.name.interval in
    own_judged s.config s.tips (set == 0) (list_any (is_named_so f.name) s.held) (length s.held == s.config.capacity || count_by (in_interval f.name.interval) s.held == s.config.quota) n set f (safe_needed s bound n f)

-- ---- together

needed_shown : (cfg : Config) (tips : List Tip) (held : List Placed) → list_all (λ (x : Placed). not (is_idle cfg tips x)) held ≡ list_all (is_needed cfg tips) (map holding_at held)
needed_shown cfg tips held = sym (all_mapped (is_needed cfg tips) (λ (x : Placed). not (is_idle cfg tips x)) holding_at (λ x. refl) held)

-- what is kept once keys were taken
module _ {cfg : Config} {tips later : List Tip} {new : List KeyRow} {old now : Stored} (taken : AreTaken cfg tips later new old now) where
  abbrev batch : List Release
  batch = batch_of cfg tips new (map holding_at old.held)

  abbrev fresh : List Release
  fresh = released_of (map holding_at old.held) batch

  pub keys_rise : RiseBy order_of (map holding_at old.held) → RiseBy order_of (map holding_at now.held)
  keys_rise r = subst (RiseBy order_of) (sym taken.held) (gives_rising order_of order_of (kept_after cfg (tips_after tips new) batch fresh) (own_kept cfg (tips_after tips new) batch fresh) (map holding_at old.held) r)

  pub keys_before : (n : ℕ) → All (IsBefore n) (map holding_at old.held) → All (IsBefore n) (map holding_at now.held)
  keys_before n b = subst (All (IsBefore n)) (sym taken.held) (own_before (kept_after cfg (tips_after tips new) batch fresh) n (own_kept cfg (tips_after tips new) batch fresh) (map holding_at old.held) b)

  pub keys_needed : AreNeeded cfg later now.held
  keys_needed =
      subst (λ (ts : List Tip). AreNeeded cfg ts now.held) (sym taken.newest)
      (needed_shown cfg (tips_after tips new) now.held ∙ ap (list_all (is_needed cfg (tips_after tips new))) taken.held ∙ needed_kept cfg (tips_after tips new) batch fresh (map holding_at old.held))

-- one more is needed
pub needed_more : (s : State) (bound : Option ℕ) (n : ℕ) (v : Verdict) (f : DataFrame) (held more : List Placed) → v ≡ judged_packet s (safe_by s bound f.name.interval) f → AreNeeded s.config s.tips held → map holding_at more ≡ map holding_at held ++ own n v (Data f) → AreNeeded s.config s.tips more
needed_more s bound n v f held more e h is =
    needed_shown s.config s.tips more ∙ ap (list_all (is_needed s.config s.tips)) (is ∙ ap (λ w. map holding_at held ++ own n w (Data f)) e)
    ∙ list_all_both (is_needed s.config s.tips) (map holding_at held) (own n (judged_packet s (safe_by s bound f.name.interval) f) (Data f)) (sym (needed_shown s.config s.tips held) ∙ h) (own_needed s bound n f)

-- ---- the counts

one_less : (b : Bool) (n calls : ℕ) → n ≤ calls → one_if b n ≤ calls + 1
one_less true n calls h = omega arith
one_less false n calls h = omega arith
