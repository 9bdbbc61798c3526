-- What an arrival takes in evaluations of HMAC: packet by packet, and by what a receiver keeps.
use Rattle.std.proofs.Common.{◌≡◌, ℕ, suc, ◌+◌, ◌-◌, ◌*◌, ◌≤◌, Bool, true, false, cond, ◌&&◌, ◌||◌, ◌==◌, List, [], ◌∷◌, map, take, drop, Option, Some, None, refl, sym, ap, subst, ⊎_elim, ◌∙◌, arith, zero-add}
use Rattle.std.specs.List.{filter, list_any, sum_by}
use Rattle.std.specs.Prelude.{not, find, is_some, nat_lt, option_map, length, count_by}
use Rattle.std.proofs.lemmas.Bool.{cases_Bool, ltb-false}
use Rattle.std.proofs.lemmas.List.{map-append}
use Rattle.std.proofs.lemmas.List.Sums.{sum_by-cons, sum_by_push}
use Rattle.tesla_base.specs.declared.names.Place.{Place}
use Rattle.tesla_frame.specs.declared.row.KeyRow.{KeyRow}
use Rattle.tesla_base.specs.declared.names.ChainNo.{ChainNo}
use Rattle.tesla_frame.specs.Frame.{Frame, Data, Disclosure}
use Rattle.tesla_frame.specs.Reading.{frame_of}
use Rattle.tesla_keys.specs.Tip.{Tip}
use Rattle.tesla_base.specs.Members.{Distinct}
use Rattle.tesla_base.proofs.Filtered.{filter-map}
use Rattle.tesla_fitting.specs.declared.config.Config.{Config}
use Rattle.tesla_walks.specs.declared.ordering.Proved.{Proved}
use Rattle.tesla_fitting.specs.declared.verdict.Verdict.{Verdict}
use Rattle.tesla_fitting.specs.declared.verdict.Verdict.TheVariants.{Foreign, Misfit, Future, BadKey, Late, Repeat, Full, Kept}
use Rattle.tesla_fitting.specs.Fitting.{stream_of, is_misfit, is_future, unfit}
use Rattle.tesla_state.specs.Costs.{is_unread, gaps_by, gaps_on, pairs_by, most_on, most_by, offers_by}
use Rattle.tesla_fitting.specs.Rows.{keys_of}
use Rattle.tesla_walks.specs.Offered.{HaveBegun, gap_of, gaps}
use Rattle.tesla_walks.specs.Holding.{Holding}
use Rattle.tesla_state.specs.State.{State}
use Rattle.tesla_state.specs.Steps.{bound_at, in_interval, is_named_so, judged_taken, safe_by, new_rows, refused}
use Rattle.tesla_walks.specs.Tips.{fails, is_newer, tip_at}
use Rattle.tesla_state.specs.Stored.{Placed, slot_of, holding_at, stands_at, is_of, is_unreleased_of}
use Rattle.tesla_walks.specs.Walking.{Walking, rows_of, left, tried, tries, pairs}
use Rattle.tesla_state.proofs.Sweeping.{comes}
use Rattle.tesla_state.proofs.TriedIntervals.{Trying, take_all, take_next}

-- ---- the packets of an interval

-- one packet more
sum_next : (number : Holding → ℕ) (n : ℕ) (xs : List Placed) (x : Placed) (rest : List Placed) → drop n xs ≡ x ∷ rest
    → sum_by number (map holding_at (take (n + 1) xs)) ≡ sum_by number (map holding_at (take n xs)) + number x.holding
sum_next number n xs x rest h =
    let count : n + 1 ≡ suc n = omega arith in
    ap (λ (k : ℕ). sum_by number (map holding_at (take k xs))) count
    ∙ ap (λ ys. sum_by number (map holding_at ys)) ((take_next n xs x rest h).0)
    ∙ ap (sum_by number) (map-append holding_at (take n xs) (x ∷ []))
    ∙ sum_by_push number (map holding_at (take n xs)) x.holding

-- the steps before, and those for one more
steps_more : (start now after sum here next : ℕ) → now ≤ start + 2 * sum → after ≤ now + 2 * here → next ≡ sum + here → after ≤ start + 2 * next
steps_more start now after sum here next h k e = omega arith

released_none : (b : Bool) (n : ℕ) → b ≡ true → cond b 0 n ≡ 0
released_none true n e = refl
released_none false n e = absurd (cc)

unreleased_step : (number : Holding → ℕ) (x : Placed) (a r : Bool) (unreleased all : List Placed) → (r ≡ true → number x.holding ≡ 0) → sum_by number (map holding_at unreleased) ≡ sum_by number (map holding_at all)
    → sum_by number (map holding_at (cond (a && not r) (x ∷ unreleased) unreleased)) ≡ sum_by number (map holding_at (cond a (x ∷ all) all))
unreleased_step number x true true unreleased all none h = let nothing = none refl in omega (arith, nothing, h, sum_by-cons number x.holding (map holding_at all))
unreleased_step number x true false unreleased all none h = omega (arith, h, sum_by-cons number x.holding (map holding_at unreleased), sum_by-cons number x.holding (map holding_at all))
unreleased_step number x false r unreleased all none h = h

-- where a released packet counts for nothing
sum_unreleased : (number : Holding → ℕ) → ((item : Holding) → item.released ≡ true → number item ≡ 0) → (held : List Placed) (i : ℕ) → sum_by number (map holding_at (filter (is_unreleased_of i) held)) ≡ sum_by number (map holding_at (filter (is_of i) held))
sum_unreleased number none [] i = refl
sum_unreleased number none (x ∷ xs) i = unreleased_step number x (is_of i x) x.holding.released (filter (is_unreleased_of i) xs) (filter (is_of i) xs) (none x.holding) (sum_unreleased number none xs i)

module _ (cfg : Config) (tips : List Tip) (begun : List Walking) (held : List Placed) (i n : ℕ) where
  -- one packet more was tried
  pub tried_cost : (walks later : List Walking) (slot : Place) (before batch : List Proved) (start now after : ℕ) → Distinct (map slot_of held) → Trying cfg tips begun walks held i n (Some slot) before batch
      → now + left tips walks ≤ start + left tips begun + 2 * pairs cfg tips (rows_of begun) (map holding_at (take n (filter (is_unreleased_of i) held)))
      → ((x : Placed) → find (stands_at slot.0) held ≡ Some x → after + left tips later ≤ now + left tips walks + 2 * tries cfg tips (rows_of walks) x.holding)
      → after + left tips later ≤ start + left tips begun + 2 * pairs cfg tips (rows_of begun) (map holding_at (take (n + 1) (filter (is_unreleased_of i) held)))
  tried_cost walks later slot before batch start now after d s so_far cost =
      let c = comes true i n held slot d s.next in
      let one = subst (λ (rows : List KeyRow). after + left tips later ≤ now + left tips walks + 2 * tries cfg tips rows c.packet.holding) s.rows (cost c.packet c.found) in
      steps_more (start + left tips begun) (now + left tips walks) (after + left tips later) (pairs cfg tips (rows_of begun) (map holding_at (take n (filter (is_unreleased_of i) held)))) (tries cfg tips (rows_of begun) c.packet.holding)
      (pairs cfg tips (rows_of begun) (map holding_at (take (n + 1) (filter (is_unreleased_of i) held)))) so_far one
      (sum_next (tries cfg tips (rows_of begun)) n (filter (is_unreleased_of i) held) c.packet c.behind c.is)

  -- all of the interval that aren't released were tried
  pub tried_whole : drop n (filter (is_unreleased_of i) held) ≡ [] → pairs cfg tips (rows_of begun) (map holding_at (take n (filter (is_unreleased_of i) held))) ≡ pairs cfg tips (rows_of begun) (filter (in_interval i) (map holding_at held))
  tried_whole h =
      ap (λ xs. pairs cfg tips (rows_of begun) (map holding_at xs)) (take_all n (filter (is_unreleased_of i) held) h)
      ∙ sum_unreleased (tries cfg tips (rows_of begun)) (λ item e. released_none item.released (tried cfg tips (rows_of begun) item) e) held i
      ∙ ap (pairs cfg tips (rows_of begun)) (sym (filter-map (in_interval i) holding_at held))

-- ---- an arrival

packet_not_bad : (late repeat full : Bool) (set : ℕ) (chain : ChainNo) → cond late Late (cond repeat Repeat (cond full Full (Kept set))) ≡ BadKey chain → ⊥
packet_not_bad true repeat full set chain e = cc
packet_not_bad false true full set chain e = cc
packet_not_bad false false true set chain e = cc
packet_not_bad false false false set chain e = cc

-- a frame whose keys are taken is no bad key
pub taken_not_bad : (s : State) (bound : Option ℕ) (frame : Frame) (chain : ChainNo) → judged_taken s bound frame ≡ BadKey chain → ⊥
taken_not_bad s bound (Data f) chain e =
    let set : ℕ = safe_by s bound f.name.interval in
    packet_not_bad (set == 0) (list_any (is_named_so f.name) s.held) (length s.held == s.config.capacity || count_by (in_interval f.name.interval) s.held == s.config.quota) set chain e
taken_not_bad s bound (Disclosure f) chain e = cc

-- a key that isn't newer isn't above the newest of its chain
old_gap : (tip index : ℕ) → nat_lt tip index ≡ false → index - tip ≡ 0
old_gap tip index e = let below = ltb-false tip index e in omega (arith, below)

-- the newer keys alone are above the newest of their chains
gaps_newer : (tips : List Tip) (rows : List KeyRow) → gaps tips rows ≡ gaps tips (filter (is_newer tips) rows)
gaps_newer tips [] = refl
gaps_newer tips (row ∷ rows) =
    let rest = gaps_newer tips rows in
    let whole = sum_by-cons (gap_of tips) row rows in
    ⊎_elim
    (λ newer. subst (λ b. gaps tips (row ∷ rows) ≡ gaps tips (cond b (row ∷ filter (is_newer tips) rows) (filter (is_newer tips) rows))) (sym newer)
    (whole ∙ ap (λ (n : ℕ). gap_of tips row + n) rest ∙ sym (sum_by-cons (gap_of tips) row (filter (is_newer tips) rows))))
    (λ older. subst (λ b. gaps tips (row ∷ rows) ≡ gaps tips (cond b (row ∷ filter (is_newer tips) rows) (filter (is_newer tips) rows))) (sym older)
    (whole ∙ ap (λ (n : ℕ). n + gaps tips rows) (old_gap (tip_at tips row.chain.0).index row.index older) ∙ zero-add (gaps tips rows) ∙ rest))
    (cases_Bool (is_newer tips row))

-- how far the keys of a frame are above the newest, by what a receiver keeps
pub gaps_are : (s : State) (frame : Frame) → gaps s.tips (keys_of s.config frame) ≡ gaps_by s frame
gaps_are s frame = gaps_newer s.tips (keys_of s.config frame)

-- the pairs of a held packet and a chain on which it is tried, by what a receiver keeps
pub pairs_are : (s : State) (frame : Frame) → pairs s.config s.tips (new_rows s frame) s.held ≡ pairs_by s frame
pairs_are s frame = refl

unread_where : (other misfit early : Bool) (x y z : Verdict) → (other || misfit || early) ≡ is_some (cond other (Some x) (cond misfit (Some y) (cond early (Some z) None)))
unread_where true misfit early x y z = refl
unread_where false true early x y z = refl
unread_where false false true x y z = refl
unread_where false false false x y z = refl

-- the keys of a frame aren't looked at exactly where it is unfit
pub unread_is_unfit : (cfg : Config) (bound : Option ℕ) (frame : Frame) → is_unread cfg bound frame ≡ is_some (unfit cfg bound frame)
unread_is_unfit cfg bound frame =
    unread_where (not ((stream_of frame).0 == cfg.setup.stream.0)) (is_misfit cfg frame) (is_future cfg bound frame) (Foreign (stream_of frame)) Misfit (Future bound)

read_where : (other misfit early : Bool) (x y z : Verdict) (o : Option Verdict) → cond other (Some x) (cond misfit (Some y) (cond early (Some z) o)) ≡ None → (other || misfit || early) ≡ false
read_where true misfit early x y z o e = absurd (cc)
read_where false true early x y z o e = absurd (cc)
read_where false false true x y z o e = absurd (cc)
read_where false false false x y z o e = refl

-- the keys of a frame that isn't refused are looked at
pub taken_is_read : (s : State) (bound : Option ℕ) (frame : Frame) → refused s bound frame ≡ None → is_unread s.config bound frame ≡ false
taken_is_read s bound frame e =
    read_where (not ((stream_of frame).0 == s.config.setup.stream.0)) (is_misfit s.config frame) (is_future s.config bound frame) (Foreign (stream_of frame)) Misfit (Future bound)
    (option_map (λ row. BadKey row.chain) (find (fails s.tips) (keys_of s.config frame))) e

within_unread : (unread : Bool) (before after most : ℕ) → (unread ≡ true → after ≡ before) → after ≤ before + most → after ≤ before + cond unread 0 most
within_unread true before after most free cost = let same = free refl in omega (arith, same)
within_unread false before after most free cost = cost

module _ (s : State) (reading : ℕ) (bytes : List ℕ) (frame : Frame) (is : frame_of bytes ≡ Some frame) where
  -- what an arrival may take, where its frame can be read
  most_read : most_by s reading bytes ≡ cond (is_unread s.config (bound_at s reading) frame) 0 (2 * gaps_by s frame + 2 * pairs_by s frame)
  unfolding most_by
  most_read = ap (most_on s (bound_at s reading)) is

  -- what its offers may take
  most_offered : offers_by s bytes ≡ gaps_by s frame
  unfolding offers_by
  most_offered = ap (gaps_on s) is

  -- a frame that is refused takes no more than its offers
  pub bad_cost : (before after : ℕ) → after ≤ before + gaps s.tips (keys_of s.config frame) → after ≤ before + offers_by s bytes
  bad_cost before after most = let far = gaps_are s frame in subst (λ (n : ℕ). after ≤ before + n) (sym most_offered) (omega (arith, far, most))

  -- a frame that is refused takes no more
  pub refused_cost : (before after : ℕ) → (is_some (unfit s.config (bound_at s reading) frame) ≡ true → after ≡ before) → after ≤ before + gaps s.tips (keys_of s.config frame) → after ≤ before + most_by s reading bytes
  refused_cost before after free most =
      let far = gaps_are s frame in
      subst (λ (n : ℕ). after ≤ before + n) (sym most_read)
      (within_unread (is_unread s.config (bound_at s reading) frame) before after (2 * gaps_by s frame + 2 * pairs_by s frame)
      (λ e. free (sym (unread_is_unfit s.config (bound_at s reading) frame) ∙ e)) (omega (arith, far, most)))

  -- a frame whose keys are taken takes no more: its keys were tried, and then the packets
  pub taken_cost : (walks : List Walking) (before judged after : ℕ) → refused s (bound_at s reading) frame ≡ None → HaveBegun s.tips (keys_of s.config frame) walks → judged ≡ before + gaps s.tips (keys_of s.config frame)
      → after ≤ judged + left s.tips walks + 2 * pairs s.config s.tips (rows_of walks) s.held → after ≤ before + most_by s reading bytes
  taken_cost walks before judged after e begun tried cost =
      let far = gaps_are s frame in
      let potential = begun.potential in
      let here = subst (λ (rows : List KeyRow). after ≤ judged + left s.tips walks + 2 * pairs s.config s.tips rows s.held) begun.new cost in
      let whole : after ≤ before + (2 * gaps_by s frame + 2 * pairs_by s frame) = omega (arith, far, potential, here, tried) in
      subst (λ (n : ℕ). after ≤ before + n) (sym most_read)
      (subst (λ b. after ≤ before + cond b 0 (2 * gaps_by s frame + 2 * pairs_by s frame)) (sym (taken_is_read s (bound_at s reading) frame e)) whole)
