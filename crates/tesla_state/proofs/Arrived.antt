-- An arrival, by the state of a receiver.
use Rattle.std.proofs.Common.{◌≡◌, ℕ, suc, zero, Bool, true, false, cond, ◌||◌, List, [], ◌∷◌, ◌++◌, length, map, take, drop, Option, Some, None, refl, sym, subst, ap, ◌∙◌, arith, ◌==◌}
use Rattle.std.specs.Prelude.{not, find, option_map, count_by, nat_lt}
use Rattle.std.specs.List.{list_any, filter, enumerate_from}
use Rattle.std.proofs.lemmas.Bool.{or_parts, true≢false, eqb-true}
use Rattle.tesla_base.specs.Version.{number_of}
use Rattle.tesla_base.proofs.Filtered.{filter-map}
use Rattle.std.proofs.lemmas.List.Sums.{length-filter}
use Rattle.tesla_frame.specs.Frame.{Frame, Data, DataFrame, TagRow}
use Rattle.tesla_frame.specs.Reading.{frame_of}
use Rattle.tesla_frame.specs.declared.row.KeyRow.{KeyRow}
use Rattle.tesla_keys.specs.Tip.{Tip}
use Rattle.tesla_fitting.specs.declared.config.Config.{Config}
use Rattle.tesla_state.specs.declared.report.Report.{Report}
use Rattle.tesla_fitting.specs.declared.verdict.Verdict.{Verdict}
use Rattle.tesla_fitting.specs.declared.verdict.Verdict.TheVariants.{Malformed, Foreign, Misfit, Future, BadKey, Late, Repeat, Full, Kept, Keys}
use Rattle.tesla_fitting.specs.Fitting.{stream_of, version_in, is_misfit, is_future, is_early}
use Rattle.tesla_fitting.specs.Rows.{keys_of}
use Rattle.tesla_state.specs.Judged.{verdict_by}
use Rattle.tesla_state.specs.Kept.{AreTaken, state_of}
use Rattle.tesla_state.specs.State.{State}
use Rattle.tesla_state.specs.Steps.{judged, judged_frame, entered_frame, refused, refused_of, after_arrival, bound_at, is_named_so, in_interval, judged_packet, own, with_keys}
use Rattle.tesla_walks.specs.Tips.{fails}
use Rattle.tesla_walks.specs.Walking.{Walking, rows_of}
use Rattle.tesla_state.specs.Stored.{Placed, Stored, holding_at, is_named, is_of}
use Rattle.tesla_state.proofs.Marked.{any_mapped}

length-holdings : (held : List Placed) → length (map holding_at held) ≡ length held
length-holdings [] = refl
length-holdings (x ∷ xs) = let rest = length-holdings xs in omega arith

counted_is : (i : ℕ) (held : List Placed) → count_by (in_interval i) (map holding_at held) ≡ length (filter (is_of i) held)
counted_is i held =
    sym (length-filter (in_interval i) (map holding_at held)) ∙ ap length (filter-map (in_interval i) holding_at held) ∙ length-holdings (filter (is_of i) held)

pub judged_is : (cfg : Config) (tips : List Tip) (store : Stored) (ended : List Bool) (counts : Report) (calls reserved : ℕ) (set : ℕ) (f : DataFrame) → judged_packet (state_of cfg tips store ended counts calls reserved) set f ≡ verdict_by cfg.capacity cfg.quota set (is_named store.held f.name) (length store.held) (length (filter (is_of f.name.interval) store.held))
judged_is cfg tips store ended counts calls reserved set f =
    ap (λ b. verdict_by cfg.capacity cfg.quota set b (length (map holding_at store.held)) (count_by (in_interval f.name.interval) (map holding_at store.held))) (any_mapped (is_named_so f.name) (λ (x : Placed). is_named_so f.name x.holding) holding_at (λ x. refl) store.held)
    ∙ ap (λ (n : ℕ). verdict_by cfg.capacity cfg.quota set (is_named store.held f.name) n (count_by (in_interval f.name.interval) (map holding_at store.held))) (length-holdings store.held)
    ∙ ap (λ (n : ℕ). verdict_by cfg.capacity cfg.quota set (is_named store.held f.name) (length store.held) n) (counted_is f.name.interval store.held)

pub own_none : (order : ℕ) (v : Verdict) (f : DataFrame) → ((chains : ℕ) → v ≡ Kept chains → ⊥) → own order v (Data f) ≡ []
own_none order Malformed f h = refl
own_none order (Foreign stream) f h = refl
own_none order Misfit f h = refl
own_none order (Future bound) f h = refl
own_none order (BadKey chain) f h = refl
own_none order Late f h = refl
own_none order Repeat f h = refl
own_none order Full f h = refl
own_none order (Kept chains) f h = absurd (h chains refl)
own_none order Keys f h = refl

-- the state once keys were taken
pub keys_are : {cfg : Config} {tips later : List Tip} {new : List KeyRow} {old now : Stored} → AreTaken cfg tips later new old now → (ended : List Bool) (counts : Report) (calls reserved : ℕ) → state_of cfg later now ended counts calls reserved ≡ with_keys (state_of cfg tips old ended counts calls reserved) new
keys_are {cfg} {tips} {later} {new} {old} {now} t ended counts calls reserved =
    let s : State = state_of cfg tips old ended counts calls reserved in
    let w : State = with_keys s new in
    ap (λ (ts : List Tip). record s { tips = ts; held = map holding_at now.held; waiting = now.waiting }) t.newest
    ∙ ap (λ hs. record w { held = hs; waiting = now.waiting }) t.held
    ∙ ap (λ ws. record w { waiting = ws }) t.waiting

-- ---- the whole arrival

pub judged_at : (s : State) (reading : ℕ) (bytes : List ℕ) (o : Option Frame) (bound : Option ℕ) → frame_of bytes ≡ o → bound ≡ bound_at s reading → judged_frame s bound o ≡ judged s reading bytes
unfolding judged
judged_at s reading bytes o bound e b = ap (judged_frame s bound) (sym e) ∙ ap (λ k. judged_frame s k (frame_of bytes)) b

pub after_at : (s : State) (reading : ℕ) (bytes : List ℕ) (o : Option Frame) (bound : Option ℕ) → frame_of bytes ≡ o → bound ≡ bound_at s reading → entered_frame s bound o (refused_of s bound o) ≡ after_arrival s reading bytes
unfolding after_arrival
after_at s reading bytes o bound e b = ap (λ f. entered_frame s bound f (refused_of s bound f)) (sym e) ∙ ap (λ k. entered_frame s k (frame_of bytes) (refused_of s k (frame_of bytes))) b

refused_none : (a b : Bool) (v w : Verdict) (o : Option Verdict) → cond a (Some v) (cond b (Some w) o) ≡ None → b ≡ false
refused_none true b v w o h = absurd (cc)
refused_none false true v w o h = absurd (cc)
refused_none false false v w o h = refl

fits_rows : (v a b c d e : Bool) → (v || (a || b || not c || d || e)) ≡ false → c ≡ true
fits_rows v a b true d e h = refl
fits_rows v a b false d e h =
    let u = or_parts v (a || b || true || d || e) h in
    let w = or_parts (a || b || true || d) e u.1 in
    let x = or_parts (a || b || true) d w.0 in
    let y = or_parts (a || b) true x.0 in
    absurd (true≢false y.1)

-- a data frame that isn't refused has a row for each chain
pub rows_fit : (s : State) (bound : Option ℕ) (frame : Frame) (f : DataFrame) → refused s bound frame ≡ None → frame ≡ Data f → length f.rows ≡ length s.config.setup.rows
rows_fit s bound frame f h is =
    let none : refused s bound (Data f) ≡ None = ap (refused s bound) (sym is) ∙ h in
    let fit : is_misfit s.config (Data f) ≡ false = refused_none (not ((stream_of (Data f)).0 == s.config.setup.stream.0)) (is_misfit s.config (Data f)) (Foreign (stream_of (Data f))) Misfit (cond (is_future s.config bound (Data f)) (Some (Future bound)) (option_map (λ row. BadKey row.chain) (find (fails s.tips) (keys_of s.config (Data f))))) none in
    eqb-true (length f.rows) (length s.config.setup.rows)
    (fits_rows (not (number_of (version_in (Data f)) == number_of s.config.setup.version)) (f.name.interval == 0) (nat_lt s.config.setup.times.last f.name.interval) (length f.rows == length s.config.setup.rows) (not (f.tag_length == s.config.setup.tag_length))
    (list_any (λ (p : ℕ × TagRow). is_early s.config f.name.interval p.0 p.1.key) (enumerate_from 0 f.rows)) fit)

take_prefix : (n : ℕ) (ys zs : List Tip) → length ys ≡ n → take n (ys ++ zs) ≡ ys
take_prefix zero [] zs h = refl
take_prefix zero (y ∷ ys) zs h = absurd (omega (arith, h))
take_prefix (suc n) [] zs h = absurd (omega (arith, h))
take_prefix (suc n) (y ∷ ys) zs h = ap (λ rs. y ∷ rs) (take_prefix n ys zs (omega (arith, h)))

-- the newest keys are written back whole
tips_back : (n : ℕ) (now xs ys : List Tip) → length now ≡ n → length ys ≡ length now → take n (ys ++ drop (length ys) xs) ≡ ys
tips_back n now xs ys long same = take_prefix n ys (drop (length ys) xs) (same ∙ long)

-- keys that are taken from slices of the tables are taken from the tables
module _ {n : ℕ} {slice tips : List Tip} (later : List Tip) (whole : slice ≡ tips) (long : length slice ≡ n) (same : length later ≡ length slice) where
  pub taken_back : {cfg : Config} {walking walks : List Walking} {old now : Stored} → walking ≡ walks → AreTaken cfg slice later (rows_of walking) old now → AreTaken cfg tips (take n (later ++ drop (length later) tips)) (rows_of walks) old now
  taken_back {cfg} {walking} {walks} {old} {now} walked taken =
      subst (λ (ts : List Tip). AreTaken cfg tips ts (rows_of walks) old now) (sym (tips_back n slice tips later long same))
      (subst (λ (ts : List Tip). AreTaken cfg ts later (rows_of walks) old now) whole
      (subst (λ (ws : List Walking). AreTaken cfg slice later (rows_of ws) old now) walked taken))

  pub length_back : length (take n (later ++ drop (length later) tips)) ≡ length tips
  length_back = ap (λ (ts : List Tip). length ts) (tips_back n slice tips later long same) ∙ same ∙ ap (λ (ts : List Tip). length ts) whole

-- a frame that isn't refused before its keys fits the setup
pub fits_where : (other misfit : Bool) (x y : Verdict) (o : Option Verdict) → cond other (Some x) (cond misfit (Some y) o) ≡ None → misfit ≡ false
fits_where true misfit x y o e = absurd (cc)
fits_where false true x y o e = absurd (cc)
fits_where false false x y o e = refl
