-- The takes after the end of the only ingest give what waits in the epochs, and then one is over.
use Rattle.std.proofs.Common.{◌≡◌, ℕ, zero, suc, ◌+◌, ◌-◌, ◌<◌, ◌≤◌, Bool, true, false, cond, ◌&&◌, ◌||◌, nat_lt, ◌==◌, List, [], ◌∷◌, ◌++◌, length, length-append, map, get_or, replicate, Option, Some, None, refl, sym, ap, ◌∙◌, ◌⊎◌, inl, inr, ⊎_elim, arith, append_assoc}
use Rattle.std.specs.Prelude.{filter, flat_map, option_map, slice_get, sum_by}
use Rattle.std.specs.List.{list_all, list_any, range_with_len}
use Rattle.std.proofs.lemmas.Bool.{cases_Bool}
use Rattle.std.proofs.lemmas.Bool.Decides.{nat_tests}
use Rattle.std.proofs.lemmas.List.{append-nil}
use Rattle.std.proofs.lemmas.List.Folds.{list_any-append}
use Rattle.std.proofs.lemmas.List.FromFn.{map-range_with_len_more}
use Rattle.std.proofs.lemmas.List.Sums.{sum-map, sum_by-cons, sum_by_push}
use Rattle.std.proofs.lemmas.Option.{slice_get_cases}
use Rattle.tesla_base.specs.declared.release.Head.{Head}
use Rattle.tesla_commit.specs.Parts.{Parts}
use Rattle.tesla_fitting.specs.declared.config.Config.{Config}
use Rattle.tesla_receiver.specs.History.{Ends, Takes, arrival_in, arrivals_in, ends, given_in, gives, has_end, payload_of, reply_to, reply_with}
use Rattle.tesla_receiver.specs.Packets.{candidates, released}
use Rattle.tesla_receiver.specs.Events.{waiting_in}
use Rattle.tesla_receiver.specs.Entries.{Arrival, Entry}
use Rattle.tesla_receiver.specs.declared.history.Entry.TheVariants.{Taken, Ended}
use Rattle.tesla_receiver.proofs.Events.{arrivals_more}
use Rattle.tesla_state.specs.Releases.{head_of}
use Rattle.tesla_fitting.specs.declared.verdict.Verdict.{Verdict}
use Rattle.tesla_state.specs.declared.replies.Reply.{Reply}
use Rattle.tesla_state.specs.declared.replies.Reply.TheVariants.{Given, Over}
use Rattle.tesla_walks.specs.declared.release.Release.{Release}
use Rattle.tesla_rollover.specs.Epochs.{IsRollLegal, answers_in, next_of, payload_given, reply_at, roll_entry_of, up_to_given}
use Rattle.tesla_rollover.specs.History.{RollEntry, RollEnded, RollTaken, config_at, config_with, configs_in, ends_before, entries_on, epoch_count, has_roll_end, history_at, opens, roll_ends, setup_given, setups_opened, taken_on}
use Rattle.tesla_rollover.specs.Laws.{RollFinishes, roll_giving}
use Rattle.tesla_rollover.specs.Events.{roll_after_events, roll_finished, roll_waiting_in, waiting_at}
use Rattle.tesla_rollover.specs.Replies.{IsEmpty, IsOver, is_over}
use Rattle.tesla_rollover.specs.declared.answers.Next.{Next}
use Rattle.tesla_rollover.proofs.Entries.{at_more, count_same, setups_more}
use Rattle.tesla_rollover.proofs.Epochs.{taken_open}
use Rattle.tesla_rollover.proofs.Prefixes.{config_stays}
use Rattle.tesla_rollover.proofs.Legal.{answers_few, entered_legal, none_further, opens_one, past_end}
use Rattle.tesla_rollover.proofs.Numbers.{map_below, rest_same}

-- ---- sums over the numbers of epochs

sum_below : (f g : ℕ → ℕ) (n : ℕ) → ((k : ℕ) → k < n → f k ≡ g k) → sum_by f (range_with_len 0 n) ≡ sum_by g (range_with_len 0 n)
sum_below f g n same =
    sym (sum-map f (range_with_len 0 n)) ∙ ap (sum_by (λ (x : ℕ). x)) (map_below f g 0 n (λ k below. same k (omega (arith, below)))) ∙ sum-map g (range_with_len 0 n)

sum_rest : (f g : ℕ → ℕ) (a n : ℕ) → ((k : ℕ) → a ≤ k → g k ≡ f k) → sum_by g (range_with_len a n) ≡ sum_by f (range_with_len a n)
sum_rest f g a n same = sym (sum-map g (range_with_len a n)) ∙ ap (sum_by (λ (x : ℕ). x)) (rest_same f g a n same) ∙ sum-map f (range_with_len a n)

sum_more : (f : ℕ → ℕ) (n : ℕ) → sum_by f (range_with_len 0 (n + 1)) ≡ sum_by f (range_with_len 0 n) + f n
sum_more f n =
    sym (sum-map f (range_with_len 0 (n + 1))) ∙ ap (sum_by (λ (x : ℕ). x)) (map-range_with_len_more f 0 n n (omega arith)) ∙ sum_by_push (λ (x : ℕ). x) (map f (range_with_len 0 n)) (f n)
    ∙ ap (λ (s : ℕ). s + f n) (sum-map f (range_with_len 0 n))

-- ---- the epochs that a take asks

-- a receiver is over, and nothing waits
record OverAt (reply : Reply) (waits : ℕ) (after : Option Reply → ℕ) : Type 0 where
  is : reply ≡ Over
  none : waits ≡ 0
  still : after (Some Over) ≡ 0

-- a receiver gives a packet, and one fewer waits then
record GivesAt (reply : Reply) (waits : ℕ) (after : Option Reply → ℕ) : Type 0 where
  head : Head
  payload : List ℕ
  is : reply ≡ Given head payload
  fewer : after (Some (Given head payload)) + 1 ≡ waits

record AllOver (answers : List Reply) (waits : ℕ) : Type 0 where
  nothing : payload_given answers ≡ None
  over : list_all is_over answers ≡ true
  none : waits ≡ 0

record OneGives (answers : List Reply) (waits after : ℕ) : Type 0 where
  payload : List ℕ
  gave : payload_given answers ≡ Some payload
  fewer : after + 1 ≡ waits

module _ (reply : ℕ → Reply) (waits : ℕ → ℕ) (after : ℕ → Option Reply → ℕ) (kept : (k : ℕ) → after k None ≡ waits k) where
  abbrev answers : ℕ → ℕ → List Reply
  answers a n = up_to_given (map reply (range_with_len a n))

  abbrev left : ℕ → List Reply → ℕ → ℕ
  left a given k = after k (slice_get given (k - a))

  over_more : (a n : ℕ) → OverAt (reply a) (waits a) (after a) → AllOver (answers (a + 1) n) (sum_by waits (range_with_len (a + 1) n)) → AllOver (answers a (suc n)) (sum_by waits (range_with_len a (suc n)))
  over_more a n here all =
      let none = here.none in
      let others = all.none in
      record {
        nothing = ap (λ (r : Reply). payload_given (up_to_given (r ∷ map reply (range_with_len (a + 1) n)))) here.is ∙ all.nothing;
        over = ap (λ (r : Reply). list_all is_over (up_to_given (r ∷ map reply (range_with_len (a + 1) n)))) here.is ∙ all.over;
        none = sum_by-cons waits a (range_with_len (a + 1) n) ∙ omega (arith, none, others);
      }

  gives_later : (a n : ℕ) → OverAt (reply a) (waits a) (after a) → OneGives (answers (a + 1) n) (sum_by waits (range_with_len (a + 1) n)) (sum_by (left (a + 1) (answers (a + 1) n)) (range_with_len (a + 1) n))
      → OneGives (answers a (suc n)) (sum_by waits (range_with_len a (suc n))) (sum_by (left a (answers a (suc n))) (range_with_len a (suc n)))
  gives_later a n here one =
      let given : List Reply = answers (a + 1) n in
      let none = here.none in
      let fewer = one.fewer in
      let now : answers a (suc n) ≡ Over ∷ given = ap (λ (r : Reply). up_to_given (r ∷ map reply (range_with_len (a + 1) n))) here.is in
      let plain : a - a ≡ zero = omega arith in
      let first : left a (Over ∷ given) a ≡ 0 = ap (λ (j : ℕ). after a (slice_get (Over ∷ given) j)) plain ∙ here.still in
      let rest : sum_by (left a (Over ∷ given)) (range_with_len (a + 1) n) ≡ sum_by (left (a + 1) given) (range_with_len (a + 1) n) =
      sum_rest (left (a + 1) given) (left a (Over ∷ given)) (a + 1) n (λ k from. let step : k - a ≡ suc (k - (a + 1)) = omega (arith, from) in ap (λ (j : ℕ). after k (slice_get (Over ∷ given) j)) step) in
      let all : sum_by (left a (Over ∷ given)) (range_with_len a (suc n)) ≡ left a (Over ∷ given) a + sum_by (left a (Over ∷ given)) (range_with_len (a + 1) n) = sum_by-cons (left a (Over ∷ given)) a (range_with_len (a + 1) n) in
      let before : sum_by waits (range_with_len a (suc n)) ≡ waits a + sum_by waits (range_with_len (a + 1) n) = sum_by-cons waits a (range_with_len (a + 1) n) in
      record {
        payload = one.payload;
        gave = ap payload_given now ∙ one.gave;
        fewer = ap (λ (rs : List Reply). sum_by (left a rs) (range_with_len a (suc n)) + 1) now ∙ omega (arith, none, fewer, first, rest, all, before);
      }

  gives_here : (a n : ℕ) → GivesAt (reply a) (waits a) (after a) → OneGives (answers a (suc n)) (sum_by waits (range_with_len a (suc n))) (sum_by (left a (answers a (suc n))) (range_with_len a (suc n)))
  gives_here a n here =
      let given : Reply = Given here.head here.payload in
      let fewer = here.fewer in
      let now : answers a (suc n) ≡ given ∷ [] = ap (λ (r : Reply). up_to_given (r ∷ map reply (range_with_len (a + 1) n))) here.is in
      let plain : a - a ≡ zero = omega arith in
      let first : left a (given ∷ []) a ≡ after a (Some given) = ap (λ (j : ℕ). after a (slice_get (given ∷ []) j)) plain in
      let rest : sum_by (left a (given ∷ [])) (range_with_len (a + 1) n) ≡ sum_by waits (range_with_len (a + 1) n) =
      sum_rest waits (left a (given ∷ [])) (a + 1) n (λ k from. let step : k - a ≡ suc (k - (a + 1)) = omega (arith, from) in ap (λ (j : ℕ). after k (slice_get (given ∷ []) j)) step ∙ kept k) in
      let all : sum_by (left a (given ∷ [])) (range_with_len a (suc n)) ≡ left a (given ∷ []) a + sum_by (left a (given ∷ [])) (range_with_len (a + 1) n) = sum_by-cons (left a (given ∷ [])) a (range_with_len (a + 1) n) in
      let before : sum_by waits (range_with_len a (suc n)) ≡ waits a + sum_by waits (range_with_len (a + 1) n) = sum_by-cons waits a (range_with_len (a + 1) n) in
      record {
        payload = here.payload;
        gave = ap payload_given now;
        fewer = ap (λ (rs : List Reply). sum_by (left a rs) (range_with_len a (suc n)) + 1) now ∙ omega (arith, fewer, first, rest, all, before);
      }

  -- all are over and nothing waits, or one gives and one fewer waits then
  asks_from : (a n : ℕ) → ((k : ℕ) → a ≤ k → k < a + n → OverAt (reply k) (waits k) (after k) ⊎ GivesAt (reply k) (waits k) (after k))
      → AllOver (answers a n) (sum_by waits (range_with_len a n)) ⊎ OneGives (answers a n) (sum_by waits (range_with_len a n)) (sum_by (left a (answers a n)) (range_with_len a n))
  asks_from a zero each = inl (record { nothing = refl; over = refl; none = refl })
  asks_from a (suc n) each =
      ⊎_elim
      (λ here. ⊎_elim (λ all. inl (over_more a n here all)) (λ one. inr (gives_later a n here one)) (asks_from (a + 1) n (λ k from below. each k (omega (arith, from)) (omega (arith, below)))))
      (λ here. inr (gives_here a n here))
      (each a (omega arith) (omega arith))

-- ---- one receiver whose ingests have ended

waiting_more : (cfg : Config) (history : List Entry) (e : Entry) → arrival_in e ≡ [] → waiting_in cfg (history ++ e ∷ []) ≡ length (released cfg (arrivals_in history)) - (given_in history + cond (gives e) 1 0)
waiting_more cfg history e none =
    ap (λ (xs : List Arrival). length (released cfg xs) - given_in (history ++ e ∷ [])) (arrivals_more history e ∙ ap (λ (xs : List Arrival). arrivals_in history ++ xs) none ∙ append-nil (arrivals_in history))
    ∙ ap (λ (k : ℕ). length (released cfg (arrivals_in history)) - k) (sum_by_push (λ x. cond (gives x) 1 0) history e)

asked_one : (cfg : Config) (history : List Entry) → list_all (has_end history) (range_with_len 0 cfg.ingests) ≡ true
    → OverAt (reply_to cfg history) (waiting_in cfg history) (λ o. waiting_in cfg (history ++ taken_on 0 o)) ⊎ GivesAt (reply_to cfg history) (waiting_in cfg history) (λ o. waiting_in cfg (history ++ taken_on 0 o))
unfolding reply_to
asked_one cfg history ended =
    let xs : List Arrival = arrivals_in history in
    let over : Bool = list_all (has_end history) (range_with_len 0 cfg.ingests) in
    ⊎_elim
    (λ p.
    let payload : List ℕ = payload_of (slice_get xs p.0.place) in
    let head : Head = head_of (given_in history) p.0 payload in
    let later : waiting_in cfg (history ++ Taken 0 (Given head payload) ∷ []) ≡ length (released cfg xs) - (given_in history + 1) = waiting_more cfg history (Taken 0 (Given head payload)) refl in
    let some : given_in history < length (released cfg xs) = p.1 in
    inr (record {
      head = head;
      payload = payload;
      is = ap (λ (o : Option Release). reply_with xs (given_in history) o over) p.2;
      fewer = omega (arith, later, some);
    }))
    (λ p.
    let later : waiting_in cfg (history ++ Taken 0 Over ∷ []) ≡ length (released cfg xs) - (given_in history + 0) = waiting_more cfg history (Taken 0 Over) refl in
    let past : length (released cfg xs) ≤ given_in history = p.0 in
    inl (record {
      is = ap (λ (o : Option Release). reply_with xs (given_in history) o over) p.1 ∙ ap (λ (b : Bool). reply_with xs (given_in history) None b) ended;
      none = omega (arith, past);
      still = omega (arith, later, past);
    }))
    (slice_get_cases (released cfg xs) (given_in history)).1

released_none : (cfg : Config) → released cfg [] ≡ []
unfolding released candidates
released_none cfg = refl

nothing_waits : (cfg : Config) (history : List Entry) → arrivals_in history ≡ [] → waiting_in cfg history ≡ 0
nothing_waits cfg history none =
    ap (λ (xs : List Arrival). length (released cfg xs) - given_in history) none ∙ ap (λ (rs : List Release). length rs - given_in history) (released_none cfg) ∙ omega arith

-- ---- all epochs, with their ingest ended

record EndedAll (cfg : Config) (h : List RollEntry) : Type 0 where
  legal : IsRollLegal cfg h
  one : cfg.ingests ≡ 1
  ended : has_roll_end h 0 ≡ true
  each : (epoch : ℕ) → epoch < epoch_count h → has_end (history_at cfg.ingests h epoch) 0 ≡ true

ingests_are : (cfg : Config) (setups : List Parts) (epoch : ℕ) → (get_or (cfg ∷ map (config_with cfg) setups) epoch cfg).ingests ≡ cfg.ingests
ingests_are cfg setups zero = refl
ingests_are cfg setups (suc epoch) = later setups epoch
  where
    later : (setups : List Parts) (epoch : ℕ) → (get_or (map (config_with cfg) setups) epoch cfg).ingests ≡ cfg.ingests
    later [] epoch = refl
    later (setup ∷ setups) zero = refl
    later (setup ∷ setups) (suc epoch) = later setups epoch

ended_one : (cfg : Config) (h : List RollEntry) (epoch : ℕ) → EndedAll cfg h → epoch < epoch_count h → list_all (has_end (history_at cfg.ingests h epoch)) (range_with_len 0 (config_at cfg h epoch).ingests) ≡ true
ended_one cfg h epoch all there =
    let last : has_end (history_at cfg.ingests h epoch) 0 ≡ true = all.each epoch there in
    ap (λ (n : ℕ). list_all (has_end (history_at cfg.ingests h epoch)) (range_with_len 0 n)) (ingests_are cfg (setups_opened h) epoch ∙ all.one) ∙ rw last

abbrev after_at : Config → List RollEntry → ℕ → Option Reply → ℕ
after_at cfg h epoch o = waiting_in (config_at cfg h epoch) (history_at cfg.ingests h epoch ++ taken_on 0 o)

asked_all : (cfg : Config) (h : List RollEntry) → EndedAll cfg h
    → AllOver (answers_in cfg h) (roll_waiting_in cfg h) ⊎ OneGives (answers_in cfg h) (roll_waiting_in cfg h) (sum_by (λ (k : ℕ). after_at cfg h k (slice_get (answers_in cfg h) (k - 0))) (range_with_len 0 (epoch_count h)))
asked_all cfg h all =
    asks_from (reply_at cfg h) (waiting_at cfg h) (after_at cfg h) (λ k. ap (waiting_in (config_at cfg h k)) (append-nil (history_at cfg.ingests h k))) 0 (epoch_count h)
    (λ k from below. asked_one (config_at cfg h k) (history_at cfg.ingests h k) (ended_one cfg h k all (omega (arith, below))))

-- ---- a take

module _ (cfg : Config) (h : List RollEntry) (all : EndedAll cfg h) where
  abbrev next : Option Next
  next = option_map (next_of (configs_in cfg h) (length (answers_in cfg h) - 1) true) (payload_given (answers_in cfg h))

  abbrev entry : RollEntry
  entry = RollTaken 0 (answers_in cfg h) next

  -- an epoch that it opens has the ends alone
  history_new : opens next ≡ true → history_at cfg.ingests (h ++ entry ∷ []) (epoch_count h) ≡ ends_before cfg.ingests h
  history_new is =
      let here : (epoch_count h == epoch_count h) ≡ true = grind (arith, nat_tests) in
      at_more cfg.ingests h entry (epoch_count h)
      ∙ ap (λ (es : List Entry). es ++ entries_on cfg.ingests (epoch_count h) h entry) (none_further cfg h all.legal (epoch_count h) (omega arith))
      ∙ ap (λ (o : Option Reply). taken_on 0 o ++ cond (opens next && (epoch_count h == epoch_count h)) (ends_before cfg.ingests h) []) (past_end (answers_in cfg h) (epoch_count h) (answers_few cfg h))
      ∙ ap (λ (b : Bool). cond (b && (epoch_count h == epoch_count h)) (ends_before cfg.ingests h) []) is
      ∙ ap (λ (b : Bool). cond b (ends_before cfg.ingests h) []) here

  history_old : (epoch : ℕ) → epoch < epoch_count h → history_at cfg.ingests (h ++ entry ∷ []) epoch ≡ history_at cfg.ingests h epoch ++ taken_on 0 (slice_get (answers_in cfg h) epoch)
  history_old epoch there = at_more cfg.ingests h entry epoch ∙ ap (λ (es : List Entry). history_at cfg.ingests h epoch ++ es) (taken_open cfg.ingests 0 epoch h (answers_in cfg h) next there)

  count_more : opens next ≡ true → epoch_count (h ++ entry ∷ []) ≡ epoch_count h + 1
  count_more is =
      let it = opens_one (configs_in cfg h) (length (answers_in cfg h) - 1) true (map (reply_at cfg h) (range_with_len 0 (epoch_count h))) is in
      ap (λ (ps : List Parts). suc (length ps)) (setups_more h entry ∙ ap (λ (b : Bool). setups_opened h ++ cond b (flat_map setup_given (answers_in cfg h)) []) is ∙ ap (λ (ps : List Parts). setups_opened h ++ ps) it.1)
      ∙ ap suc (length-append (setups_opened h) (it.0 ∷ [])) ∙ omega arith

  count_kept : opens next ≡ false → epoch_count (h ++ entry ∷ []) ≡ epoch_count h
  count_kept is = count_same h entry (ap (λ (b : Bool). cond b (flat_map setup_given (answers_in cfg h)) []) is)

  -- nothing waits in an epoch that it opens
  waiting_old : roll_waiting_in cfg (h ++ entry ∷ []) ≡ sum_by (waiting_at cfg (h ++ entry ∷ [])) (range_with_len 0 (epoch_count h))
  waiting_old =
      ⊎_elim
      (λ (is : opens next ≡ true).
      let none : waiting_at cfg (h ++ entry ∷ []) (epoch_count h) ≡ 0 =
      nothing_waits (config_at cfg (h ++ entry ∷ []) (epoch_count h)) (history_at cfg.ingests (h ++ entry ∷ []) (epoch_count h))
      (ap arrivals_in (history_new is) ∙ ends_bring (filter (has_roll_end h) (range_with_len 0 cfg.ingests))) in
      ap (λ (n : ℕ). sum_by (waiting_at cfg (h ++ entry ∷ [])) (range_with_len 0 n)) (count_more is) ∙ sum_more (waiting_at cfg (h ++ entry ∷ [])) (epoch_count h) ∙ omega (arith, none))
      (λ (is : opens next ≡ false). ap (λ (n : ℕ). sum_by (waiting_at cfg (h ++ entry ∷ [])) (range_with_len 0 n)) (count_kept is))
      (cases_Bool (opens next))
    where
      ends_bring : (ingests : List ℕ) → arrivals_in (map (λ (ingest : ℕ). Ended ingest) ingests) ≡ []
      ends_bring [] = refl
      ends_bring (ingest ∷ ingests) = ends_bring ingests

  waiting_then : roll_waiting_in cfg (h ++ entry ∷ []) ≡ sum_by (λ (k : ℕ). after_at cfg h k (slice_get (answers_in cfg h) (k - 0))) (range_with_len 0 (epoch_count h))
  waiting_then =
      waiting_old
      ∙ sum_below (waiting_at cfg (h ++ entry ∷ [])) (λ (k : ℕ). after_at cfg h k (slice_get (answers_in cfg h) (k - 0))) (epoch_count h)
      (λ k there.
      let plain : k ≡ k - 0 = omega arith in
      ap (λ (c : Config). waiting_in c (history_at cfg.ingests (h ++ entry ∷ []) k)) (config_stays cfg h (entry ∷ []) k there)
      ∙ ap (waiting_in (config_at cfg h k)) (history_old k there)
      ∙ ap (λ (j : ℕ). after_at cfg h k (slice_get (answers_in cfg h) j)) plain)

  -- the ingest has ended in an epoch that it opens too
  ended_each : (epoch : ℕ) → epoch < epoch_count (h ++ entry ∷ []) → has_end (history_at cfg.ingests (h ++ entry ∷ []) epoch) 0 ≡ true
  ended_each epoch there =
      ⊎_elim
      (λ (older : nat_lt epoch (epoch_count h) ≡ true). ended_old (grind (arith, nat_tests, older)))
      (λ (newer : nat_lt epoch (epoch_count h) ≡ false).
      let past : epoch_count h ≤ epoch = grind (arith, nat_tests, newer) in
      ⊎_elim
      (λ (is : opens next ≡ true).
      let more = count_more is in
      let same : epoch ≡ epoch_count h = omega (arith, there, past, more) in
      ap (λ (k : ℕ). has_end (history_at cfg.ingests (h ++ entry ∷ []) k) 0) same ∙ ap (λ (es : List Entry). has_end es 0) (history_new is) ∙ ended_new)
      (λ (is : opens next ≡ false). let same = count_kept is in absurd (omega (arith, there, past, same)))
      (cases_Bool (opens next)))
      (cases_Bool (nat_lt epoch (epoch_count h)))
    where
      ended_old : epoch < epoch_count h → has_end (history_at cfg.ingests (h ++ entry ∷ []) epoch) 0 ≡ true
      ended_old was =
          ap (λ (es : List Entry). has_end es 0) (history_old epoch was) ∙ list_any-append (ends 0) (history_at cfg.ingests h epoch) (taken_on 0 (slice_get (answers_in cfg h) epoch))
          ∙ ap (λ (b : Bool). b || has_end (taken_on 0 (slice_get (answers_in cfg h) epoch)) 0) (all.each epoch was)

      ended_new : has_end (ends_before cfg.ingests h) 0 ≡ true
      ended_new =
          ap (λ (n : ℕ). has_end {V = Verdict} {R = Reply} (map (λ (ingest : ℕ). Ended ingest) (filter (has_roll_end h) (range_with_len 0 n))) 0) all.one
          ∙ ap (λ (b : Bool). has_end {V = Verdict} {R = Reply} (map (λ (ingest : ℕ). Ended ingest) (cond b (0 ∷ []) [])) 0) all.ended

  ended_then : EndedAll cfg (h ++ entry ∷ [])
  ended_then = record {
    legal = entered_legal cfg h true (Takes 0) all.legal;
    one = all.one;
    ended = list_any-append (roll_ends 0) h (entry ∷ []) ∙ ap (λ (b : Bool). b || list_any (roll_ends 0) (entry ∷ [])) all.ended;
    each = ended_each;
  }

-- ---- the takes

-- takes that give so many packets, and then one that is over
record TakesAll (cfg : Config) (h : List RollEntry) (n : ℕ) : Type 0 where
  given : List (List Reply × Next)
  last : List Reply
  entries : roll_after_events cfg h (replicate (suc n) (Takes 0)) ≡ h ++ (map roll_giving given ++ RollTaken 0 last None ∷ [])
  count : length given ≡ n
  over : list_all is_over last ≡ true

with_prefix : (h : List RollEntry) (e first : RollEntry) (others whole : List RollEntry) → whole ≡ (h ++ e ∷ []) ++ others → e ≡ first → whole ≡ h ++ first ∷ others
with_prefix h e first others whole is same = is ∙ append_assoc h (e ∷ []) others ∙ ap (λ (x : RollEntry). h ++ x ∷ others) same

takes_all : (cfg : Config) (n : ℕ) (h : List RollEntry) → EndedAll cfg h → roll_waiting_in cfg h ≡ n → TakesAll cfg h n
takes_all cfg zero h all waits =
    ⊎_elim
    (λ over. record {
      given = [];
      last = answers_in cfg h;
      entries = ap (λ (o : Option (List ℕ)). h ++ RollTaken 0 (answers_in cfg h) (option_map (next_of (configs_in cfg h) (length (answers_in cfg h) - 1) true) o) ∷ []) over.nothing;
      count = refl;
      over = over.over;
    })
    (λ one. let fewer = one.fewer in absurd (omega (arith, waits, fewer)))
    (asked_all cfg h all)
takes_all cfg (suc n) h all waits =
    ⊎_elim
    (λ over. let none = over.none in absurd (omega (arith, waits, none)))
    (λ one.
    let e : RollEntry = roll_entry_of cfg h true (Takes 0) in
    let next : Next = next_of (configs_in cfg h) (length (answers_in cfg h) - 1) true one.payload in
    let fewer = one.fewer in
    let then = waiting_then cfg h all in
    let gave : e ≡ roll_giving (answers_in cfg h, next) = ap (λ (o : Option (List ℕ)). RollTaken 0 (answers_in cfg h) (option_map (next_of (configs_in cfg h) (length (answers_in cfg h) - 1) true) o)) one.gave in
    let later = takes_all cfg n (h ++ e ∷ []) (ended_then cfg h all) (omega (arith, waits, fewer, then)) in
    record {
      given = (answers_in cfg h, next) ∷ later.given;
      last = later.last;
      entries = with_prefix h e (roll_giving (answers_in cfg h, next)) (map roll_giving later.given ++ RollTaken 0 later.last None ∷ []) (roll_after_events cfg (h ++ e ∷ []) (replicate (suc n) (Takes 0))) later.entries gave;
      count = ap suc later.count;
      over = later.over;
    })
    (asked_all cfg h all)

-- ---- the end of the only ingest

module _ (cfg : Config) (h : List RollEntry) where
  abbrev ended_h : List RollEntry
  ended_h = h ++ RollEnded 0 ∷ []

  count_ended : epoch_count ended_h ≡ epoch_count h
  count_ended = count_same h (RollEnded 0) refl

  history_ended : (epoch : ℕ) → epoch < epoch_count h → history_at cfg.ingests ended_h epoch ≡ history_at cfg.ingests h epoch ++ Ended 0 ∷ []
  history_ended epoch there =
      let within : nat_lt epoch (epoch_count h) ≡ true = grind (arith, nat_tests, there) in
      at_more cfg.ingests h (RollEnded 0) epoch ∙ ap (λ (b : Bool). history_at cfg.ingests h epoch ++ cond b (Ended 0 ∷ []) []) within

  ended_first : cfg.ingests ≡ 1 → IsRollLegal cfg h → EndedAll cfg ended_h
  ended_first one l = record {
    legal = entered_legal cfg h true (Ends 0) l;
    one = one;
    ended = list_any-append (roll_ends 0) h (RollEnded 0 ∷ []) ∙ or_true (has_roll_end h 0);
    each = λ epoch there.
        let was : epoch < epoch_count h = (let same = count_ended in omega (arith, there, same)) in
        ap (λ (es : List Entry). has_end es 0) (history_ended epoch was) ∙ list_any-append (ends 0) (history_at cfg.ingests h epoch) (Ended 0 ∷ []) ∙ or_true (has_end (history_at cfg.ingests h epoch) 0);
  }
    where
      or_true : (b : Bool) → (b || true) ≡ true
      or_true true = refl
      or_true false = refl

  -- an end leaves what waits
  waiting_ended : roll_waiting_in cfg ended_h ≡ roll_waiting_in cfg h
  waiting_ended =
      ap (λ (n : ℕ). sum_by (waiting_at cfg ended_h) (range_with_len 0 n)) count_ended
      ∙ sum_below (waiting_at cfg ended_h) (waiting_at cfg h) (epoch_count h)
      (λ k there.
      let later = waiting_more (config_at cfg h k) (history_at cfg.ingests h k) (Ended 0) refl in
      ap (λ (c : Config). waiting_in c (history_at cfg.ingests ended_h k)) (config_stays cfg h (RollEnded 0 ∷ []) k there)
      ∙ ap (waiting_in (config_at cfg h k)) (history_ended k there) ∙ omega (arith, later))

-- a finished history ends with what waited in the epochs, and an end
pub roll_finishes : (cfg : Config) (h : List RollEntry) → cfg.ingests ≡ 1 → IsRollLegal cfg h → RollFinishes cfg h
roll_finishes cfg h one l =
    let takes = takes_all cfg (roll_waiting_in cfg h) (h ++ RollEnded 0 ∷ []) (ended_first cfg h one l) (waiting_ended cfg h) in
    record {
      given = takes.given;
      last = takes.last;
      entries = with_prefix h (RollEnded 0) (RollEnded 0) (map roll_giving takes.given ++ RollTaken 0 takes.last None ∷ []) (roll_finished cfg h) takes.entries refl;
      count = takes.count;
      over = ap (λ (b : Bool). cond b IsOver IsEmpty) takes.over;
    }
