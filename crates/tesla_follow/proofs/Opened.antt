-- What is kept once the next epoch was opened.
use Rattle.std.proofs.Common.{◌≡◌, ℕ, zero, suc, ◌+◌, ◌-◌, ◌^◌, ◌<◌, ◌≤◌, ◌==◌, ◌||◌, eqb, Bool, true, false, cond, List, [], ◌∷◌, ◌++◌, length, length-append, map, take, drop, get_or, Option, None, Result, Ok, refl, sym, ap, subst, ◌∙◌, arith}
use Rattle.std.specs.Prelude.{filter}
use Rattle.std.specs.List.{AllByRecursion, enumerate_from, fold, list_any, range_with_len}
use Rattle.std.proofs.lemmas.Bool.{cond-false, cond-true, eq-eqb, ne_eqb}
use Rattle.std.proofs.lemmas.List.{append-nil, drop-append-le, drop-drop, drop-map, length-drop, length-map, length-take-le, map-append, map-id, take-append-drop, take-append-le, take_more}
use Rattle.std.proofs.lemmas.List.Elements.{filter-append}
use Rattle.std.proofs.lemmas.List.Folds.{list_any-append}
use Rattle.std.proofs.lemmas.List.FromFn.{get_or-map-range_with_len, length-range_with_len, map-range_with_len_more}
use Rattle.std.proofs.lemmas.List.Sums.{fold-append, sum_by-append, sum_by-cons}
use Rattle.tesla_base.specs.declared.names.StreamId.{StreamId}
use Rattle.tesla_base.proofs.Filtered.{filter_on}
use Rattle.tesla_base.proofs.Members.{range_in}
use Rattle.tesla_commit.specs.Parts.{Parts}
use Rattle.tesla_commit.specs.declared.refusal.SetupKind.{SetupKind}
use Rattle.tesla_early.specs.Early.{learnt, learnt_after}
use Rattle.tesla_early.specs.Learnt.{Learnt, last_of}
use Rattle.tesla_early.specs.Stands.{kept_of}
use Rattle.tesla_fitting.specs.declared.config.Config.{Config}
use Rattle.tesla_receiver.specs.Entries.{Entry}
use Rattle.tesla_receiver.specs.Report.{report_of}
use Rattle.tesla_receiver.specs.Stands.{Stands}
use Rattle.tesla_receiver.specs.Undelivered.{undelivered_in}
use Rattle.tesla_receiver.specs.declared.history.Entry.TheVariants.{Ended}
use Rattle.tesla_rollover.specs.Epochs.{has_stream}
use Rattle.tesla_rollover.specs.History.{config_with}
use Rattle.tesla_state.specs.declared.report.Report.{Report}
use Rattle.tesla_commit.specs.Equal.{first_equal}
use Rattle.tesla_follow.specs.Counted.{added, no_report, report_over}
use Rattle.tesla_follow.specs.Followed.{Followed, FollowedEpoch, after_opening, config_of, dropped_of, ends_before, epoch_of, most_promises, next_judged, next_of_setup, oldest, open_epochs}
use Rattle.tesla_follow.specs.declared.answers.FollowNext.TheVariants.{UsedStream, Opened}
use Rattle.tesla_follow.specs.Kept.{IsAlike, IsCalled, IsFollowKept, Waits, configs_of, counts_with, ends_if, ends_of, is_stream, room_of, rooms_of, set_count}
use Rattle.tesla_follow.specs.Stands.{EpochStands, EpochState, EpochsStand, FollowState, Keeps, closed_epochs, stream_in}
use Rattle.tesla_follow.proofs.Moved.{flags_of, stand_configs, stand_count, stand_push}

-- ---- the last of a list

-- the last of a list with others behind it are those of its last with them
last_joined : {A : Type 0} (most : ℕ) (xs ys : List A) → last_of most (xs ++ ys) ≡ last_of most (last_of most xs ++ ys)
last_joined most xs ys =
    let n = length xs - most in
    let all = xs ++ ys in
    let size = length-drop n all in
    let both = length-append xs ys in
    let prefix : drop n xs ++ ys ≡ drop n all = sym (drop-append-le n xs ys (omega arith)) in
    let count : n + (length (drop n all) - most) ≡ length all - most = omega arith in
    sym (ap (last_of most) prefix ∙ drop-drop (length (drop n all) - most) n all ∙ ap (λ k. drop k all) count)

-- a function of each
last_map : {A B : Type 0} (f : A → B) (most : ℕ) (xs : List A) → last_of most (map f xs) ≡ map f (last_of most xs)
last_map f most xs = ap (λ n. drop (n - most) (map f xs)) (length-map xs f) ∙ drop-map f (length xs - most) xs

-- ---- the ends that it begins with

flag_is : (n i : ℕ) (ended : List ℕ) → i < n → get_or (flags_of n ended) i false ≡ list_any (λ (other : ℕ). other == i) ended
flag_is n i ended below = get_or-map-range_with_len (λ (k : ℕ). list_any (λ (other : ℕ). other == k) ended) 0 n i i false below (omega arith)

-- the ends of the flags are those of the ingests
pub ends_are : (n : ℕ) (ended : List ℕ) → ends_of n (flags_of n ended) ≡ map (λ (ingest : ℕ). Ended ingest) (filter (λ (ingest : ℕ). list_any (λ (other : ℕ). other == ingest) ended) (range_with_len 0 n))
ends_are n ended =
    ap (map (λ (ingest : ℕ). Ended ingest))
    (filter_on (λ (ingest : ℕ). get_or (flags_of n ended) ingest false) (λ (ingest : ℕ). list_any (λ (other : ℕ). other == ingest) ended) (range_with_len 0 n)
    (λ p there. let within = range_in 0 n p there in flag_is n p ended (omega (arith, within))))

numbers_more : (n : ℕ) → range_with_len 0 (n + 1) ≡ range_with_len 0 n ++ n ∷ []
numbers_more n = sym (map-id (range_with_len 0 (n + 1))) ∙ map-range_with_len_more (λ (k : ℕ). k) 0 n n (omega arith) ∙ ap (λ (ns : List ℕ). ns ++ n ∷ []) (map-id (range_with_len 0 n))

ends_on : (flag : Bool) (n : ℕ) (ends : List Entry) → ends ++ map (λ (ingest : ℕ). Ended ingest) (cond flag (n ∷ []) []) ≡ ends_if flag n ends
ends_on true n ends = refl
ends_on false n ends = append-nil ends

-- the ends with one flag more
pub ends_more : (n : ℕ) (flags : List Bool) → ends_of (n + 1) flags ≡ ends_if (get_or flags n false) n (ends_of n flags)
ends_more n flags =
    let test : ℕ → Bool = λ ingest. get_or flags ingest false in
    ap (λ (ns : List ℕ). map (λ (ingest : ℕ). Ended ingest) (filter test ns)) (numbers_more n)
    ∙ ap (λ (ns : List ℕ). map (λ (ingest : ℕ). Ended ingest) ns) (filter-append test (range_with_len 0 n) (n ∷ []))
    ∙ map-append (λ (ingest : ℕ). Ended ingest) (filter test (range_with_len 0 n)) (cond (get_or flags n false) (n ∷ []) [])
    ∙ ends_on (get_or flags n false) n (ends_of n flags)

-- ends teach nothing
ends_learn : (most n : ℕ) (xs : List ℕ) (ls : List Learnt) → fold (learnt_after most) ls (enumerate_from n (map (λ (ingest : ℕ). Ended ingest) xs)) ≡ ls
ends_learn most n [] ls = refl
ends_learn most n (x ∷ xs) ls = ends_learn most (n + 1) xs ls

pub ends_untaught : (most n : ℕ) (flags : List Bool) → learnt most (ends_of n flags) ≡ []
unfolding learnt
ends_untaught most n flags = ends_learn most 0 (filter (λ (ingest : ℕ). get_or flags ingest false) (range_with_len 0 n)) []

-- it stands for the ends that it begins with
pub begun_stands : (state : EpochState) (n : ℕ) (flags : List Bool) → Stands state.receiver (ends_of n flags) → state.promises.most ≡ most_promises → state.promises.kept ≡ []
    → EpochStands state (record { config = state.receiver.config; history = ends_of n flags; teaching = ends_of n flags })
begun_stands state n flags receiver most none = record {
  config = refl;
  receiver = receiver;
  most = most;
  promises = none ∙ sym (ap (λ (ls : List Learnt). map kept_of (last_of most_promises ls)) (ends_untaught most_promises n flags));
}

-- so it stands for the next epoch
pub begins_as : (cfg : Config) (it : Followed) (setup : Parts) (state : EpochState) (flags : List Bool) → state.receiver.config ≡ config_with cfg setup → flags ≡ flags_of cfg.ingests it.ended
    → EpochStands state (record { config = state.receiver.config; history = ends_of (length flags) flags; teaching = ends_of (length flags) flags }) → EpochStands state (epoch_of cfg it setup)
begins_as cfg it setup state flags config told st =
    let size : length (flags_of cfg.ingests it.ended) ≡ cfg.ingests =
    length-map (range_with_len 0 cfg.ingests) (λ (ingest : ℕ). list_any (λ (other : ℕ). other == ingest) it.ended) ∙ length-range_with_len 0 cfg.ingests in
    let ends : ends_of (length flags) flags ≡ ends_before cfg it =
    ap (λ (fs : List Bool). ends_of (length fs) fs) told ∙ ap (λ (n : ℕ). ends_of n (flags_of cfg.ingests it.ended)) size ∙ ends_are cfg.ingests it.ended in
    subst (λ (c : Config). EpochStands state (record { config = c; history = ends_before cfg it; teaching = ends_before cfg it })) config
    (subst (λ (es : List Entry). EpochStands state (record { config = state.receiver.config; history = es; teaching = es })) ends st)

-- what its receiver lost is told of the epoch
pub lost_are : (state : EpochState) (e : FollowedEpoch) (lost : ℕ) → EpochStands state e → ((h : List Entry) → Stands state.receiver h → lost ≡ undelivered_in state.receiver.config h) → lost ≡ undelivered_in e.config e.history
lost_are state e lost st loses = loses e.history st.receiver ∙ ap (λ (c : Config). undelivered_in c e.history) st.config

-- ---- lists of epochs

-- an open epoch more, while fewer than three are open
module _ (it : Followed) (few : length (open_epochs it) < 3) where
  none_closed : length it.epochs - 3 ≡ 0
  none_closed = let size = length-drop (oldest it) it.epochs in omega (arith, few, size)

  all_open : open_epochs it ≡ it.epochs
  all_open = ap (λ (n : ℕ). drop n it.epochs) none_closed

  none_then : (e : FollowedEpoch) → length (it.epochs ++ e ∷ []) - 3 ≡ 0
  none_then e =
      let all = length-append it.epochs (e ∷ []) in
      let size = ap length all_open in
      omega (arith, few, all, size)

  pub open_more : (e : FollowedEpoch) → drop (length (it.epochs ++ e ∷ []) - 3) (it.epochs ++ e ∷ []) ≡ open_epochs it ++ e ∷ []
  open_more e = ap (λ (n : ℕ). drop n (it.epochs ++ e ∷ [])) (none_then e) ∙ ap (λ (es : List FollowedEpoch). es ++ e ∷ []) (sym all_open)

  pub closed_still : (e : FollowedEpoch) → take (length (it.epochs ++ e ∷ []) - 3) (it.epochs ++ e ∷ []) ≡ take (oldest it) it.epochs
  closed_still e = ap (λ (n : ℕ). take n (it.epochs ++ e ∷ [])) (none_then e) ∙ sym (ap (λ (n : ℕ). take n it.epochs) none_closed)

pub dropped_none : (es : List FollowedEpoch) → length es < 3 → dropped_of es ≡ 0
dropped_none [] few = refl
dropped_none (e ∷ es) few = cond-false (eqb (length es) 2) (undelivered_in e.config e.history) 0 (ne_eqb (length es) 2 (λ all. omega (arith, few, all)))

pub dropped_one : (e : FollowedEpoch) (es : List FollowedEpoch) → length (e ∷ es) ≡ 3 → dropped_of (e ∷ es) ≡ undelivered_in e.config e.history
dropped_one e es all = cond-true (eqb (length es) 2) (undelivered_in e.config e.history) 0 (eq-eqb (length es) 2 (omega (arith, all)))

got_dropped : {A : Type 0} (n : ℕ) (xs rest : List A) (x d : A) → drop n xs ≡ x ∷ rest → get_or xs n d ≡ x
got_dropped zero [] rest x d is = absurd cc
got_dropped zero (y ∷ xs) rest x d is = cc
got_dropped (suc n) [] rest x d is = absurd cc
got_dropped (suc n) (y ∷ xs) rest x d is = got_dropped n xs rest x d is

-- where three are open, the first of them is closed
module _ (it : Followed) (first : FollowedEpoch) (rest : List FollowedEpoch) (are : open_epochs it ≡ first ∷ rest) (three : length (first ∷ rest) ≡ 3) where
  enough : oldest it + 3 ≡ length it.epochs
  enough =
      let size = length-drop (oldest it) it.epochs in
      let long = ap length are in
      omega (arith, size, long, three)

  then_is : (e : FollowedEpoch) → length (it.epochs ++ e ∷ []) - 3 ≡ oldest it + 1
  then_is e = let all = length-append it.epochs (e ∷ []) in let some = enough in omega (arith, all, some)

  pub open_moved : (e : FollowedEpoch) → drop (length (it.epochs ++ e ∷ []) - 3) (it.epochs ++ e ∷ []) ≡ rest ++ e ∷ []
  open_moved e =
      ap (λ (n : ℕ). drop n (it.epochs ++ e ∷ [])) (then_is e)
      ∙ drop-append-le (oldest it + 1) it.epochs (e ∷ []) (let some = enough in omega (arith, some))
      ∙ ap (λ (es : List FollowedEpoch). es ++ e ∷ []) (sym (drop-drop 1 (oldest it) it.epochs) ∙ ap (drop 1) are)

  pub closed_moved : (e : FollowedEpoch) → take (length (it.epochs ++ e ∷ []) - 3) (it.epochs ++ e ∷ []) ≡ take (oldest it) it.epochs ++ first ∷ []
  closed_moved e =
      ap (λ (n : ℕ). take n (it.epochs ++ e ∷ [])) (then_is e)
      ∙ take-append-le (oldest it + 1) it.epochs (e ∷ []) (let some = enough in omega (arith, some))
      ∙ take_more it.epochs (oldest it) first (let some = enough in omega (arith, some))
      ∙ ap (λ (x : FollowedEpoch). take (oldest it) it.epochs ++ x ∷ []) (got_dropped (oldest it) it.epochs rest first first are)

-- ---- counts

pub report_more : (es : List FollowedEpoch) (e : FollowedEpoch) → report_over (es ++ e ∷ []) ≡ added (report_over es) (report_of e.history)
report_more es e = fold-append (λ report epoch. added report (report_of epoch.history)) no_report es (e ∷ [])

-- ---- what is kept

streams_more : (known : List StreamId) (es : List FollowedEpoch) (e : FollowedEpoch) → known ≡ map stream_in (last_of 64 es) → last_of 64 (known ++ stream_in e ∷ []) ≡ map stream_in (last_of 64 (es ++ e ∷ []))
streams_more known es e is =
    ap (λ (ss : List StreamId). last_of 64 (ss ++ stream_in e ∷ [])) is
    ∙ ap (last_of 64) (sym (map-append stream_in (last_of 64 es) (e ∷ [])))
    ∙ last_map stream_in 64 (last_of 64 es ++ e ∷ [])
    ∙ ap (map stream_in) (sym (last_joined 64 es (e ∷ [])))

pub keeps_spare : (old : FollowState) (it : Followed) (setup : Parts) (state : EpochState) (calls reserved : ℕ) → Keeps old it → length old.receiving < 3 → EpochStands state (epoch_of old.config it setup)
    → Keeps (record {
      config = old.config;
      opened = old.opened + 1;
      receiving = old.receiving ++ state ∷ [];
      known = old.known;
      queue = old.queue;
      turn = old.turn;
      ended = old.ended;
      records = old.records;
      early = old.early;
      unqueued = old.unqueued;
      dropped = old.dropped;
      closed = old.closed;
      calls = calls;
      reserved = reserved;
    }) (after_opening old.config it (Ok setup))
keeps_spare old it setup state calls reserved k few one =
    let e = epoch_of old.config it setup in
    let count = stand_count old.receiving (open_epochs it) k.receiving in
    let fewer : length (open_epochs it) < 3 = omega (arith, few, count) in
    record {
      opened = ap (λ n. n + 1) k.opened ∙ sym (length-append it.epochs (e ∷ []));
      receiving = subst (λ (es : List FollowedEpoch). EpochsStand (old.receiving ++ state ∷ []) es) (sym (open_more it fewer e)) (stand_push old.receiving (open_epochs it) state e k.receiving one);
      known = k.known ∙ ap (λ (es : List FollowedEpoch). map stream_in (last_of 64 es)) (sym (closed_still it fewer e));
      queue = k.queue;
      turn = k.turn;
      ended = k.ended;
      records = k.records;
      early = k.early;
      unqueued = k.unqueued;
      dropped = k.dropped ∙ (let none = dropped_none (open_epochs it) fewer in omega (arith, none));
      closed = k.closed ∙ ap report_over (sym (closed_still it fewer e));
    }

-- the epochs with the first of them told
pub stand_first : (state : EpochState) (states : List EpochState) (es : List FollowedEpoch) → EpochsStand (state ∷ states) es → (first : FollowedEpoch) × (rest : List FollowedEpoch) × (es ≡ first ∷ rest) × EpochStands state first × EpochsStand states rest
stand_first state states [] stand = absurd stand
stand_first state states (e ∷ es) stand = (e, es, refl, stand.0, stand.1)

pub keeps_again : (old : FollowState) (it : Followed) (setup : Parts) (was state : EpochState) (rest : List EpochState) (stream : StreamId) (report : Report) (lost calls reserved : ℕ)
    → Keeps old it → old.receiving ≡ was ∷ rest → length old.receiving ≡ 3 → EpochStands state (epoch_of old.config it setup)
    → stream ≡ was.receiver.config.setup.stream
    → ((e : FollowedEpoch) → EpochStands was e → report ≡ report_of e.history)
    → ((e : FollowedEpoch) → EpochStands was e → lost ≡ undelivered_in e.config e.history)
    → Keeps (record {
      config = old.config;
      opened = old.opened + 1;
      receiving = rest ++ state ∷ [];
      known = last_of 64 (old.known ++ stream ∷ []);
      queue = old.queue;
      turn = old.turn;
      ended = old.ended;
      records = old.records;
      early = old.early;
      unqueued = old.unqueued;
      dropped = old.dropped + lost;
      closed = added old.closed report;
      calls = calls;
      reserved = reserved;
    }) (after_opening old.config it (Ok setup))
keeps_again old it setup was state rest stream report lost calls reserved k are three one own counts loses =
    let e = epoch_of old.config it setup in
    let split = stand_first was rest (open_epochs it) (subst (λ (ss : List EpochState). EpochsStand ss (open_epochs it)) are k.receiving) in
    let first = split.0 in
    let others = split.1 in
    let count = stand_count old.receiving (open_epochs it) k.receiving in
    let all : length (first ∷ others) ≡ 3 = ap length (sym split.2) ∙ sym count ∙ three in
    let stream_is : stream ≡ stream_in first = own ∙ ap (λ (c : Config). c.setup.stream) split.3.config in
    record {
      opened = ap (λ n. n + 1) k.opened ∙ sym (length-append it.epochs (e ∷ []));
      receiving = subst (λ (es : List FollowedEpoch). EpochsStand (rest ++ state ∷ []) es) (sym (open_moved it first others split.2 all e)) (stand_push rest others state e split.4 one);
      known = ap (λ (s : StreamId). last_of 64 (old.known ++ s ∷ [])) stream_is ∙ streams_more old.known (closed_epochs it) first k.known
          ∙ ap (λ (es : List FollowedEpoch). map stream_in (last_of 64 es)) (sym (closed_moved it first others split.2 all e));
      queue = k.queue;
      turn = k.turn;
      ended = k.ended;
      records = k.records;
      early = k.early;
      unqueued = k.unqueued;
      dropped = ap (λ n. n + lost) k.dropped ∙ ap (λ n. it.dropped + n) (loses first split.3 ∙ sym (dropped_one first others all)) ∙ ap (λ (es : List FollowedEpoch). it.dropped + dropped_of es) (sym split.2);
      closed = ap (λ (r : Report). added r report) k.closed ∙ ap (added (report_over (closed_epochs it))) (counts first split.3) ∙ sym (report_more (closed_epochs it) first)
          ∙ ap report_over (sym (closed_moved it first others split.2 all e));
    }

-- ---- which streams are known

known_closed : (stream : StreamId) (es : List FollowedEpoch) → list_any (is_stream stream) (map stream_in es) ≡ list_any (λ (e : FollowedEpoch). has_stream stream e.config) es
known_closed stream [] = refl
known_closed stream (e ∷ es) = ap (λ (b : Bool). has_stream stream e.config || b) (known_closed stream es)

known_open : (stream : StreamId) (es : List FollowedEpoch) → list_any (has_stream stream) (map config_of es) ≡ list_any (λ (e : FollowedEpoch). has_stream stream e.config) es
known_open stream [] = refl
known_open stream (e ∷ es) = ap (λ (b : Bool). has_stream stream e.config || b) (known_open stream es)

-- the last 67 epochs are the last 64 that were closed, and those that are open
last_known : (it : Followed) → last_of 67 it.epochs ≡ last_of 64 (closed_epochs it) ++ open_epochs it
last_known it =
    let closed = take (oldest it) it.epochs in
    let size = length-take-le (oldest it) it.epochs (omega arith) in
    let skips : length it.epochs - 67 ≡ length closed - 64 = omega (arith, size) in
    ap (λ (n : ℕ). drop n it.epochs) skips ∙ ap (drop (length closed - 64)) (sym (take-append-drop (oldest it) it.epochs))
    ∙ drop-append-le (length closed - 64) closed (open_epochs it) (omega arith)

pub knows_are : (old : FollowState) (it : Followed) (stream : StreamId) → Keeps old it
    → (list_any (is_stream stream) old.known || list_any (has_stream stream) (configs_of old.receiving)) ≡ list_any (λ (e : FollowedEpoch). has_stream stream e.config) (last_of 67 it.epochs)
knows_are old it stream k =
    let test : FollowedEpoch → Bool = λ e. has_stream stream e.config in
    ap (λ (ss : List StreamId). list_any (is_stream stream) ss || list_any (has_stream stream) (configs_of old.receiving)) k.known
    ∙ ap (λ (b : Bool). b || list_any (has_stream stream) (configs_of old.receiving)) (known_closed stream (last_of 64 (closed_epochs it)))
    ∙ ap (λ (cs : List Config). list_any test (last_of 64 (closed_epochs it)) || list_any (has_stream stream) cs) (stand_configs old.receiving (open_epochs it) k.receiving)
    ∙ ap (λ (b : Bool). list_any test (last_of 64 (closed_epochs it)) || b) (known_open stream (open_epochs it))
    ∙ sym (list_any-append test (last_of 64 (closed_epochs it)) (open_epochs it))
    ∙ ap (list_any test) (sym (last_known it))

-- ---- limits

all_push : {A : Type 0} (P : A → Type 0) (xs : List A) (x : A) → AllByRecursion P xs → P x → AllByRecursion P (xs ++ x ∷ [])
all_push P [] x all one = (one, tt)
all_push P (y ∷ xs) x all one = (all.0, all_push P xs x all.1 one)

-- an epoch that begins anew is like the others
alike_again : (cfg : Config) (was state : EpochState) (setup : Parts) → IsAlike cfg was → state.receiver.config ≡ record was.receiver.config { setup = setup } → state.promises.most ≡ was.promises.most → IsAlike cfg state
alike_again cfg was state setup alike config most =
    let own : state.receiver.config ≡ config_with cfg setup = config ∙ ap (λ (c : Config). record c { setup = setup }) alike.0 in
    (own ∙ ap (config_with cfg) (sym (ap (λ (c : Config). c.setup) own)), most ∙ alike.1)

-- it begins with the configuration of the first, and its setup
pub config_again : (cfg : Config) (was state : EpochState) (setup : Parts) → IsAlike cfg was → state.receiver.config ≡ record was.receiver.config { setup = setup } → state.receiver.config ≡ config_with cfg setup
config_again cfg was state setup alike config = config ∙ ap (λ (c : Config). record c { setup = setup }) alike.0

pub kept_again : (cfg : Config) (old spares rest : List EpochState) (was state : EpochState) (setup : Parts) (room spare_room opened : ℕ) (queue : Waits) (flags : List Bool) (records early unqueued dropped lost calls : ℕ)
    → IsFollowKept cfg old spares room spare_room opened queue flags records early unqueued dropped calls → old ≡ was ∷ rest → opened < 2 ^ 32
    → state.receiver.config ≡ record was.receiver.config { setup = setup } → state.promises.most ≡ was.promises.most → state.receiver.calls ≤ set_count flags
    → lost < 4294967296
    → IsFollowKept cfg (rest ++ state ∷ []) spares room spare_room (opened + 1) queue flags records early unqueued (dropped + lost) calls
kept_again cfg old spares rest was state setup room spare_room opened queue flags records early unqueued dropped lost calls k are fewer config most few little =
    let alike = subst (λ (ss : List EpochState). AllByRecursion (IsAlike cfg) ss) are k.alike in
    let called = subst (λ (ss : List EpochState). AllByRecursion (IsCalled calls) ss) are k.called in
    let long : length (rest ++ state ∷ []) ≡ length rest + 1 = length-append rest (state ∷ []) in
    let old_long : length old ≡ length rest + 1 = ap length are ∙ omega arith in
    let all = k.all in
    let numbered = k.numbered in
    let had = k.few_dropped in
    let ends = k.few_ends in
    record {
      some = omega (arith, long);
      all = omega (arith, all, long, old_long);
      numbered = (omega (arith, long, old_long, numbered.0), omega (arith, fewer));
      rooms = k.rooms;
      alike = all_push (IsAlike cfg) rest state alike.1 (alike_again cfg was state setup alike.0 config most);
      spare = k.spare;
      called = all_push (IsCalled calls) rest state called.1 (omega (arith, few, ends));
      places = k.places;
      few_places = k.few_places;
      waiting = k.waiting;
      ingests = k.ingests;
      flags_all = k.flags_all;
      few_ends = k.few_ends;
      few_records = k.few_records;
      few_early = k.few_early;
      few_unqueued = k.few_unqueued;
      few_dropped = omega (arith, had, little);
      few = k.few;
    }

-- ---- memory

-- an epoch with as many entries in the place of another
pub rooms_again : (old rest : List EpochState) (was state : EpochState) → old ≡ was ∷ rest → room_of state ≡ room_of was → rooms_of (rest ++ state ∷ []) ≡ rooms_of old
rooms_again old rest was state are same =
    let both = sum_by-append room_of rest (state ∷ []) in
    let one = sum_by-cons room_of state [] in
    let before = ap rooms_of are ∙ sum_by-cons room_of was rest in
    omega (arith, both, one, before, same)

-- the first of a list that isn't empty
pub first_removed : {A : Type 0} (xs rest : List A) (x : A) → 0 < length xs → x ≡ get_or xs 0 x → rest ≡ drop 1 xs → xs ≡ x ∷ rest
first_removed [] rest x some is left = absurd (omega (arith, some))
first_removed (y ∷ xs) rest x some is left = ap (λ z. z ∷ xs) (sym is) ∙ ap (λ zs. x ∷ zs) (sym left)

-- ---- what its setup comes to

-- a setup of no equal commitments comes to a stream that is known, or opens an epoch
pub next_unequal : (it : Followed) (setup : Parts) (spelled : Result Parts (ℕ × SetupKind)) (equal : Option ℕ) (known : Bool) (stream : StreamId)
    → spelled ≡ Ok setup → equal ≡ None → equal ≡ first_equal setup.rows → known ≡ list_any (λ (e : FollowedEpoch). has_stream stream e.config) (last_of 67 it.epochs) → stream ≡ setup.stream
    → cond known (UsedStream stream) Opened ≡ next_judged it spelled
next_unequal it setup spelled equal known stream is none first knows own =
    ap (λ (s : StreamId). cond known (UsedStream s) Opened) own
    ∙ ap (λ (b : Bool). cond b (UsedStream setup.stream) Opened) (knows ∙ ap (λ (s : StreamId). list_any (λ (e : FollowedEpoch). has_stream s e.config) (last_of 67 it.epochs)) own)
    ∙ ap (next_of_setup it setup) (sym none ∙ first)
    ∙ ap (next_judged it) (sym is)

-- ---- the counts of all

pub report_all : (old : FollowState) (it : Followed) (report : Report) → Keeps old it → report ≡ counts_with old.closed (open_epochs it) → report ≡ report_over it.epochs
report_all old it report k is =
    is ∙ ap (λ (r : Report). counts_with r (open_epochs it)) k.closed
    ∙ sym (fold-append (λ sum epoch. added sum (report_of epoch.history)) no_report (closed_epochs it) (open_epochs it))
    ∙ ap report_over (take-append-drop (oldest it) it.epochs)
