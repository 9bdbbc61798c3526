-- Nothing is due until the next interval begins of a stream that tells more keys.
use Rattle.std.proofs.Common.{◌≡◌, ◌∙◌, ℕ, zero, suc, ◌+◌, ◌-◌, ◌*◌, ◌/◌, ◌<◌, ◌≤◌, Bool, true, false, cond, List, [], ◌∷◌, ◌++◌, length, map, Option, Some, None, refl, sym, ap, subst, inl, inr, arith}
use Rattle.std.specs.Prelude.{Result, Ok, Err, if◌then◌else◌, not, ◌&&◌, ◌||◌, ◌⊎◌, ◌^◌, eqb, max, nat_le, nat_lt}
use Rattle.std.specs.List.{AllByRecursion, list_all, list_any}
use Rattle.std.proofs.Math.Nat.{le-div_iff_mul-le}
use Rattle.std.proofs.lemmas.Bool.{cases_Bool, cases_lt, le-ltb, leb-true, lt-leb, lt-ltb, ltb-true, ne_eqb}
use Rattle.std.proofs.lemmas.List.Sums.{sum_by-append}
use Rattle.tesla_base.specs.declared.names.Key.{Key}
use Rattle.tesla_base.specs.declared.names.Name.{Name}
use Rattle.tesla_clock.specs.Schedule.{Times}
use Rattle.tesla_commit.specs.Parts.{Parts}
use Rattle.tesla_sender.specs.Made.{Call, Message, Disclose, Chain, Stream, chains_from, chains_of, index_disclosed, interval_at, is_message_of, latest_of, messages_of, name_after}
use Rattle.tesla_sender.specs.declared.refusal.SendRefusal.{SendRefusal}
use Rattle.tesla_sender.proofs.Logs.{named}
use Rattle.tesla_feed.specs.Fed.{disclosed_by, first_interval, has_begun, is_due, is_unread, latest_from, name_from, tells_more}
use Rattle.tesla_feed.specs.Steps.{until_begin}
use Rattle.tesla_feed.proofs.Going.{both_ways}
use Rattle.tesla_feed.proofs.Kept.{log_tells}
use Rattle.tesla_feed.proofs.Logs.{intervals_rise}
use Rattle.tesla_feeds.specs.Events.{frames_read}
use Rattle.tesla_feeds.specs.Fed.{AllDone, Done, Fed, Part, after_item, after_message, after_missed, after_read, after_handover, call_done, disclosed, done_behind, done_each, done_on, handed_as, handed_over, handed_to, interval_of_part, is_on, is_past, may_hand_over, nothing_done, one_done, said, said_as}
use Rattle.tesla_feeds.specs.Laws.{FeedsRest, FeedsWait}
use Rattle.tesla_feeds.specs.Opening.{some_begun}
use Rattle.tesla_feeds.specs.Order.{greatest_delay, handover_to, is_in_window}
use Rattle.tesla_feeds.specs.Waits.{has_told_last, is_followed, tells_no_more, until_first, until_more, until_next}
use Rattle.tesla_feeds.proofs.Alone.{and_false, disclosed_more, none_newer, not_below}
use Rattle.tesla_feeds.proofs.Early.{and_first, each_none, quiet, told_where, waits_made}
use Rattle.tesla_feeds.proofs.Lists.{on_behind, on_here}
use Rattle.tesla_feeds.proofs.Streams.{each_same, on_same, over_same, said_same, stream_in, told_same}

-- ---- intervals

quotient_below : (a k n : ℕ) → a < (n + 1) * k → a / k ≤ n
quotient_below a zero n less = absurd (grind arith)
quotient_below a (suc k) n less =
    let divides = le-div_iff_mul-le {k = suc k} {x = n + 1} {y = a} (omega arith) in
    elim (cases_lt n (a / suc k)) as (λ _. a / suc k ≤ n) [
      | inl more ↦ (let fits : (n + 1) * suc k ≤ a = divides.0 (omega (arith, more)) in absurd (omega (arith, fits, less)))
      | inr within ↦ within
    ]

below_next : (times : Times) (reading n : ℕ) → reading < times.start + (n + 1) * times.length → interval_at times reading ≤ n
below_next times reading n less =
    elim (cases_Bool (nat_le times.start reading)) as (λ _. interval_at times reading ≤ n) [
      | inl begun ↦ (let from : times.start ≤ reading = leb-true _ _ begun in rw begun (quotient_below (reading - times.start) times.length n (omega (arith, from, less))))
      | inr before ↦ (rw before omega arith)
    ]

-- a reading before the next interval begins is in the same one
same_interval : (times : Times) (reading later : ℕ) → reading ≤ later → later < reading + until_begin times (interval_at times reading + 1) reading → interval_at times later ≡ interval_at times reading
same_interval times reading later le less =
    let i = interval_at times reading in
    let begin = times.start + (i + 1) * times.length in
    let before : later < begin = omega (arith, less, le) in
    omega (arith, intervals_rise times reading later le, below_next times later i before)

-- ---- the log of a stream in one interval

record Grows (times : Times) (first interval : ℕ) (log now : List Call) : Type 0 where
  fewer : messages_of times interval log ≤ messages_of times interval now
  later : latest_from times first now ≤ interval → latest_from times first log ≤ interval

grows_none : (times : Times) (first interval : ℕ) (log : List Call) → Grows times first interval log log
grows_none times first interval log = record { fewer = omega arith; later = λ le. le }

grows_both : (times : Times) (first interval : ℕ) (log mid now : List Call) → Grows times first interval log mid → Grows times first interval mid now → Grows times first interval log now
grows_both times first interval log mid now a b = record { fewer = omega (arith, a.fewer, b.fewer); later = λ le. a.later (b.later le) }

grows_call : (times : Times) (first interval : ℕ) (log : List Call) (call : Call) → latest_from times first log ≤ interval → Grows times first interval log (log ++ call ∷ [])
grows_call times first interval log call le = record {
  fewer = (let more = sum_by-append (λ c. cond {A = ℕ} (is_message_of times interval c) 1 0) log (call ∷ []) in omega (arith, more));
  later = λ other. le;
}

-- a message that has all of this has a name
named_by : (times : Times) (before number reading : ℕ) (payload : List ℕ) → length payload ≤ 1200 → 1 ≤ interval_at times reading → interval_at times reading ≤ times.last → before ≤ interval_at times reading → number < 65536
    → name_after times before number reading payload ≡ Ok (record { interval = interval_at times reading; number = number })
named_by times before number reading payload short some within later few =
    let a : nat_lt 1200 (length payload) ≡ false = le-ltb 1200 (length payload) short in
    let b : eqb (interval_at times reading) 0 ≡ false = ne_eqb _ _ (λ e. absurd (omega (arith, e, some))) in
    let c : nat_lt times.last (interval_at times reading) ≡ false = le-ltb times.last (interval_at times reading) within in
    let d : nat_lt (interval_at times reading) before ≡ false = le-ltb (interval_at times reading) before later in
    let e : nat_lt number 65536 ≡ true = lt-ltb number 65536 few in
    rw a rw b rw c rw d rw e refl

ok_err : (name : Name) (refusal : SendRefusal) (result : Result Name SendRefusal) → result ≡ Ok name → result ≡ Err refusal → ⊥
ok_err name refusal result ok err = absurd cc

-- ---- one stream

abbrev mk : Part → List Call → ℕ → Part
mk part log handed = record { stream = part.stream; first = part.first; next = part.next; log = log; handed = handed }

-- what becomes of a stream at a reading in an interval
record Passed (interval : ℕ) (part now : Part) (handed : ℕ) : Type 0 where
  log : List Call
  is : now ≡ mk part log handed
  grows : Grows part.stream.setup.times part.first interval part.log log

passed_both : (reading : ℕ) (part mid now : Part) (handed : ℕ) → Passed (interval_of_part part reading) part mid handed → Passed (interval_of_part mid reading) mid now mid.handed → Passed (interval_of_part part reading) part now handed
passed_both reading part mid now handed a b =
    let P : Part → Type 0 = λ p. Passed (interval_of_part p reading) p now p.handed in
    let own : Passed (interval_of_part part reading) (mk part a.log handed) now handed = subst P a.is b in
    record { log = own.log; is = own.is; grows = grows_both part.stream.setup.times part.first (interval_of_part part reading) part.log a.log own.log a.grows own.grows }

said_passes : (part : Part) (reading : ℕ) (payload : List ℕ) (name : Result Name SendRefusal) → name_from part.stream.setup.times part.first part.log reading payload ≡ name → Passed (interval_of_part part reading) part (said_as part reading payload name).part part.handed
said_passes part reading payload (Ok name) is =
    let times = part.stream.setup.times in
    let of = named times (latest_from times part.first part.log) _ reading payload name is in
    record { log = part.log ++ Message reading payload ∷ []; is = refl; grows = grows_call times part.first (interval_of_part part reading) part.log (Message reading payload) of.later }
said_passes part reading payload (Err refusal) is = record { log = part.log; is = refl; grows = grows_none part.stream.setup.times part.first (interval_of_part part reading) part.log }

told_passes : (part : Part) (reading : ℕ) (due : Bool) → is_due part.stream part.first part.log reading ≡ due → Passed (interval_of_part part reading) part (if due then call_done part (Disclose reading) else nothing_done part).part part.handed
told_passes part reading true is =
    let times = part.stream.setup.times in
    let of = log_tells part.stream part.first part.log reading is in
    record { log = part.log ++ Disclose reading ∷ []; is = refl; grows = grows_call times part.first (interval_of_part part reading) part.log (Disclose reading) (omega (arith, of.begun, of.later)) }
told_passes part reading false is = record { log = part.log; is = refl; grows = grows_none part.stream.setup.times part.first (interval_of_part part reading) part.log }

-- why no handover is made in the rest of the interval
abbrev Still : Part → ℕ → Option Parts → ℕ → Type 0
Still part reading None handed = Unit {0}
Still part reading (Some next) handed =
    (handed ≡ interval_of_part part reading)
    ⊎ ((handed ≡ part.handed) × ((may_hand_over part next reading ≡ false)
    ⊎ ((refusal : SendRefusal) × (name_from part.stream.setup.times part.first part.log reading (handover_to next) ≡ Err refusal))))

record Handed (part : Part) (reading : ℕ) (next : Option Parts) (now : Part) : Type 0 where
  handed : ℕ
  passed : Passed (interval_of_part part reading) part now handed
  still : Still part reading next handed

handed_passes : (part : Part) (reading : ℕ) (next : Parts) (name : Result Name SendRefusal) → name_from part.stream.setup.times part.first part.log reading (handover_to next) ≡ name → Handed part reading (Some next) (handed_as part reading (handover_to next) name).part
handed_passes part reading next (Ok name) is =
    let times = part.stream.setup.times in
    let payload = handover_to next in
    let of = named times (latest_from times part.first part.log) _ reading payload name is in
    record {
      handed = interval_of_part part reading;
      passed = record { log = part.log ++ Message reading payload ∷ []; is = refl; grows = grows_call times part.first (interval_of_part part reading) part.log (Message reading payload) of.later };
      still = inl refl;
    }
handed_passes part reading next (Err refusal) is = record {
  handed = part.handed;
  passed = record { log = part.log; is = refl; grows = grows_none part.stream.setup.times part.first (interval_of_part part reading) part.log };
  still = inr (refl, inr (refusal, is));
}

handed_where : (part : Part) (reading : ℕ) (next : Parts) (may : Bool) → may_hand_over part next reading ≡ may
    → Handed part reading (Some next) (if may then handed_as part reading (handover_to next) (name_from part.stream.setup.times part.first part.log reading (handover_to next)) else nothing_done part).part
handed_where part reading next true is = handed_passes part reading next _ refl
handed_where part reading next false is = record {
  handed = part.handed;
  passed = record { log = part.log; is = refl; grows = grows_none part.stream.setup.times part.first (interval_of_part part reading) part.log };
  still = inr (refl, inl is);
}

over_passes : (part : Part) (reading : ℕ) (next : Option Parts) → Handed part reading next (handed_to reading part next).part
over_passes part reading None = record {
  handed = part.handed;
  passed = record { log = part.log; is = refl; grows = grows_none part.stream.setup.times part.first (interval_of_part part reading) part.log };
  still = tt;
}
over_passes part reading (Some next) = handed_where part reading next (may_hand_over part next reading) refl

-- ---- no handover

none_where : (part : Part) (later : ℕ) (next : Parts) (may : Bool) → may_hand_over part next later ≡ may
    → (may ≡ true → (name : Result Name SendRefusal) → name_from part.stream.setup.times part.first part.log later (handover_to next) ≡ name → handed_as part later (handover_to next) name ≡ nothing_done part)
    → (if may then handed_as part later (handover_to next) (name_from part.stream.setup.times part.first part.log later (handover_to next)) else nothing_done part) ≡ nothing_done part
none_where part later next true is none = none refl _ refl
none_where part later next false is none = refl

-- one that was refused is refused still
refused_still : (part : Part) (reading later : ℕ) (log : List Call) (handed : ℕ) (payload : List ℕ) (refusal : SendRefusal) → interval_of_part part later ≡ interval_of_part part reading
    → Grows part.stream.setup.times part.first (interval_of_part part reading) part.log log → name_from part.stream.setup.times part.first part.log reading payload ≡ Err refusal
    → (name : Result Name SendRefusal) → name_from part.stream.setup.times part.first log later payload ≡ name → handed_as (mk part log handed) later payload name ≡ nothing_done (mk part log handed)
refused_still part reading later log handed payload refusal same grows err (Ok name) is =
    let times = part.stream.setup.times in
    let of = named times (latest_from times part.first log) (messages_of times (interval_at times later) log) later payload name is in
    let at : messages_of times (interval_at times later) log ≡ messages_of times (interval_at times reading) log = ap (λ (i : ℕ). messages_of times i log) same in
    let before : latest_from times part.first part.log ≤ interval_at times reading = grows.later (omega (arith, of.later, same)) in
    absurd (ok_err _ refusal _ (named_by times (latest_from times part.first part.log) (messages_of times (interval_at times reading) part.log) reading payload of.short (omega (arith, of.some, same)) (omega (arith, of.within, same)) before (omega (arith, of.few, at, grows.fewer))) err)
refused_still part reading later log handed payload refusal same grows err (Err other) is = refl

abbrev may_at : Part → Parts → ℕ → ℕ → Bool
may_at part next handed interval = nat_lt handed interval && is_in_window part.stream.setup.times (greatest_delay part.stream.setup) next.times interval

quiet_to : (part : Part) (reading later : ℕ) (next : Option Parts) (log : List Call) (handed : ℕ) → interval_of_part part later ≡ interval_of_part part reading
    → Grows part.stream.setup.times part.first (interval_of_part part reading) part.log log → Still part reading next handed → handed_to later (mk part log handed) next ≡ nothing_done (mk part log handed)
quiet_to part reading later None log handed same grows still = refl
quiet_to part reading later (Some next) log handed same grows (inl at) =
    let none : may_hand_over (mk part log handed) next later ≡ false = and_first (nat_lt handed (interval_of_part part later)) _ (le-ltb handed (interval_of_part part later) (omega (arith, at, same))) in
    none_where (mk part log handed) later next (may_hand_over (mk part log handed) next later) refl (λ e. absurd (both_ways _ e none))
quiet_to part reading later (Some next) log handed same grows (inr (kept, inl none)) =
    let it : may_hand_over (mk part log handed) next later ≡ false = ap (λ (h : ℕ). may_at part next h (interval_of_part part later)) kept ∙ ap (may_at part next part.handed) same ∙ none in
    none_where (mk part log handed) later next (may_hand_over (mk part log handed) next later) refl (λ e. absurd (both_ways _ e it))
quiet_to part reading later (Some next) log handed same grows (inr (kept, inr (refusal, err))) =
    none_where (mk part log handed) later next (may_hand_over (mk part log handed) next later) refl (λ e. refused_still part reading later log handed (handover_to next) refusal same grows err)

-- nor behind the last interval
past_none : (part : Part) (later : ℕ) (payload : List ℕ) (name : Result Name SendRefusal) → nat_lt part.stream.setup.times.last (interval_of_part part later) ≡ true → name_from part.stream.setup.times part.first part.log later payload ≡ name → handed_as part later payload name ≡ nothing_done part
past_none part later payload (Ok name) past is =
    let of = named part.stream.setup.times (latest_from part.stream.setup.times part.first part.log) _ later payload name is in
    absurd (let over = ltb-true _ _ past in omega (arith, over, of.within))
past_none part later payload (Err refusal) past is = refl

past_to : (part : Part) (later : ℕ) (next : Option Parts) → is_past part later ≡ true → handed_to later part next ≡ nothing_done part
past_to part later None past = refl
past_to part later (Some next) past = none_where part later next (may_hand_over part next later) refl (λ e name is. past_none part later (handover_to next) name past is)

-- ---- until when

and_second : (a b c : Bool) → (a && (b && c)) ≡ true → (b ≡ true) × (c ≡ true)
and_second true true true is = (refl, refl)
and_second true true false is = absurd cc
and_second true false c is = absurd cc
and_second false b c is = absurd cc

bound_where : (part : Part) (reading later : ℕ) (more : Bool) → tells_no_more part reading ≡ more → reading ≤ later
    → later < reading + (if more then 2 ^ 64 - 1 else until_begin part.stream.setup.times (interval_of_part part reading + 1) reading)
    → (tells_no_more part reading ≡ true) ⊎ (interval_of_part part later ≡ interval_of_part part reading)
bound_where part reading later true is le less = inl is
bound_where part reading later false is le less = inr (same_interval part.stream.setup.times reading later le less)

-- a stream tells no more, or it is in the same interval still
bound : (part : Part) (reading later : ℕ) → reading ≤ later → later < reading + until_more part reading → (tells_no_more part reading ≡ true) ⊎ (interval_of_part part later ≡ interval_of_part part reading)
bound part reading later le less = bound_where part reading later (tells_no_more part reading) refl le less

past_later : (part : Part) (reading later : ℕ) → reading ≤ later → is_past part reading ≡ true → is_past part later ≡ true
past_later part reading later le past =
    let over = ltb-true _ _ past in
    lt-ltb part.stream.setup.times.last (interval_of_part part later) (omega (arith, over, intervals_rise part.stream.setup.times reading later le))

-- ---- no key

-- no key is newer than the last one
lasts_of : (last number : ℕ) (rows : _) (seeds : List Key) → AllByRecursion (λ chain. chain.last ≡ last) (chains_from last number rows seeds)
lasts_of last number [] seeds = tt
lasts_of last number (row ∷ rows) [] = tt
lasts_of last number (row ∷ rows) (seed ∷ seeds) = (refl, lasts_of last (number + 1) rows seeds)

none_left : (last interval : ℕ) (most : Chain → ℕ) (chains : List Chain) → AllByRecursion (λ chain. chain.last ≡ last) chains → list_all (λ chain. nat_le last (most chain)) chains ≡ true
    → list_any (λ chain. nat_lt (most chain) (index_disclosed interval chain)) chains ≡ false
none_left last interval most [] lasts told = refl
none_left last interval most (chain ∷ chains) lasts told =
    let ways = both_true (nat_le last (most chain)) (list_all (λ c. nat_le last (most c)) chains) told in
    let reached = leb-true _ _ ways.0 in
    ap (λ (b : Bool). b || list_any (λ c. nat_lt (most c) (index_disclosed interval c)) chains) (le-ltb (most chain) (index_disclosed interval chain) (omega (arith, reached, lasts.0)))
    ∙ none_left last interval most chains lasts.1 ways.1
  where
    both_true : (a b : Bool) → (a && b) ≡ true → (a ≡ true) × (b ≡ true)
    both_true true true is = (refl, refl)
    both_true true false is = absurd cc
    both_true false b is = absurd cc

done_quiet : (part : Part) (reading later : ℕ) → tells_no_more part reading ≡ true → is_due part.stream part.first part.log later ≡ false
done_quiet part reading later done =
    let times = part.stream.setup.times in
    let told : has_told_last part ≡ true = (and_second (is_followed part.next) (is_past part reading) (has_told_last part) done).1 in
    and_false (has_begun times part.first later) (nat_le (latest_of times part.log) (interval_of_part part later)) (tells_more part.stream part.log (interval_of_part part later))
    (none_left times.last (interval_of_part part later) (disclosed_by times part.log) (chains_of part.stream) (lasts_of times.last 0 part.stream.setup.rows part.stream.seeds) told)

-- no key is newer than those of a call in the same interval
told_by_call : (stream : Stream) (first : ℕ) (log : List Call) (reading later : ℕ) → interval_at stream.setup.times later ≡ interval_at stream.setup.times reading → is_due stream first (log ++ Disclose reading ∷ []) later ≡ false
told_by_call stream first log reading later same =
    let times = stream.setup.times in
    let call = Disclose reading in
    let interval = interval_at times later in
    and_false (has_begun times first later) (nat_le (latest_of times (log ++ call ∷ [])) interval) (tells_more stream (log ++ call ∷ []) interval)
    (none_newer (disclosed_by times (log ++ call ∷ [])) (index_disclosed interval) (chains_of stream)
    (λ chain. ap (λ (n : ℕ). nat_lt n (index_disclosed interval chain)) (disclosed_more times log call chain)
    ∙ ap (λ (i : ℕ). nat_lt (max (disclosed_by times log chain) (index_disclosed (interval_at times reading) chain)) (index_disclosed i chain)) same
    ∙ not_below (disclosed_by times log chain) (index_disclosed (interval_at times reading) chain)))

-- whether one is due is the same at each reading of an interval
due_same : (stream : Stream) (first : ℕ) (log : List Call) (reading later : ℕ) → is_unread reading ≡ false → is_unread later ≡ false → interval_at stream.setup.times later ≡ interval_at stream.setup.times reading → is_due stream first log later ≡ is_due stream first log reading
due_same stream first log reading later read read_later same =
    let at : Bool → ℕ → Bool = λ unread interval. (not unread && nat_le first interval) && (nat_le (latest_of stream.setup.times log) interval && tells_more stream log interval) in
    ap (λ (u : Bool). at u (interval_at stream.setup.times later)) (read_later ∙ sym read) ∙ ap (at (is_unread reading)) same

told_as : (part : Part) (reading later : ℕ) (due : Bool) → is_due part.stream part.first part.log reading ≡ due → is_unread reading ≡ false → is_unread later ≡ false → reading ≤ later
    → later < reading + until_more (if due then call_done part (Disclose reading) else nothing_done part).part reading
    → disclosed later (if due then call_done part (Disclose reading) else nothing_done part).part ≡ nothing_done (if due then call_done part (Disclose reading) else nothing_done part).part
told_as part reading later true is read read_later le less =
    let now = (call_done part (Disclose reading)).part in
    let none : is_due now.stream now.first now.log later ≡ false = elim (bound now reading later le less) as (λ _. is_due now.stream now.first now.log later ≡ false) [
      | inl done ↦ done_quiet now reading later done
      | inr same ↦ told_by_call part.stream part.first part.log reading later same
    ] in
    told_where now later (is_due now.stream now.first now.log later) none
told_as part reading later false is read read_later le less =
    let none : is_due part.stream part.first part.log later ≡ false = elim (bound part reading later le less) as (λ _. is_due part.stream part.first part.log later ≡ false) [
      | inl done ↦ done_quiet part reading later done
      | inr same ↦ due_same part.stream part.first part.log reading later read read_later same ∙ is
    ] in
    told_where part later (is_due part.stream part.first part.log later) none

-- ---- all streams

abbrev handed_all : ℕ → List Part → List Part
handed_all reading parts = (done_on (handed_over reading) reading parts).parts

abbrev say : ℕ → Option (List ℕ) → Part → Part
say reading None part = part
say reading (Some payload) part = (said reading payload part).part

abbrev said_all : ℕ → Option (List ℕ) → List Part → List Part
said_all reading None parts = parts
said_all reading (Some payload) parts = (done_on (said reading payload) reading parts).parts

abbrev told_all : ℕ → List Part → List Part
told_all reading parts = (done_each (disclosed reading) parts).parts

abbrev after_all : ℕ → Option (List ℕ) → List Part → List Part
after_all reading payload parts = told_all reading (said_all reading payload (handed_all reading parts))

-- one stream behind all three
abbrev after_one : ℕ → Option (List ℕ) → Part → Part
after_one reading payload part = (disclosed reading (say reading payload (handed_over reading part).part)).part

say_passes : (part : Part) (reading : ℕ) (payload : Option (List ℕ)) → Passed (interval_of_part part reading) part (say reading payload part) part.handed
say_passes part reading None = record { log = part.log; is = refl; grows = grows_none part.stream.setup.times part.first (interval_of_part part reading) part.log }
say_passes part reading (Some payload) = said_passes part reading payload _ refl

say_keeps : (part : Part) (reading : ℕ) (payload : Option (List ℕ)) → (say reading payload part).stream ≡ part.stream
say_keeps part reading None = refl
say_keeps part reading (Some payload) = said_same part reading payload _

-- the stream that is on hands over no more
on_quiet : (part : Part) (reading later : ℕ) (payload : Option (List ℕ)) → reading ≤ later → later < reading + until_more (after_one reading payload part) reading → handed_over later (after_one reading payload part) ≡ nothing_done (after_one reading payload part)
on_quiet part reading later payload le less =
    let first = over_passes part reading part.next in
    let one = (handed_over reading part).part in
    let two = say reading payload one in
    let three = after_one reading payload part in
    let both : Passed (interval_of_part part reading) part two first.handed = passed_both reading part one two first.handed first.passed
    (subst (λ (h : ℕ). Passed (interval_of_part one reading) one two h) refl (say_passes one reading payload)) in
    let all : Passed (interval_of_part part reading) part three first.handed = passed_both reading part two three first.handed both (told_passes two reading (is_due two.stream two.first two.log reading) refl) in
    let own : three.stream ≡ part.stream = ap (λ (p : Part). p.stream) all.is in
    elim (bound three reading later le less) as (λ _. handed_over later three ≡ nothing_done three) [
      | inl done ↦ past_to three later three.next (past_later three reading later le (and_second (is_followed three.next) (is_past three reading) (has_told_last three) done).0)
      | inr same ↦ (
          let at : interval_of_part part later ≡ interval_of_part part reading = ap (λ (s : Stream). interval_at s.setup.times later) (sym own) ∙ same ∙ ap (λ (s : Stream). interval_at s.setup.times reading) own in
          subst (λ (p : Part). handed_over later p ≡ nothing_done p) (sym all.is) (quiet_to part reading later part.next all.log first.handed at all.grows first.still))
    ]

-- which stream is on is told by the streams alone
same_on : (reading : ℕ) (part now : Part) (parts nows : List Part) → now.stream ≡ part.stream → map stream_in nows ≡ map stream_in parts → is_on reading now nows ≡ is_on reading part parts
same_on reading part now [] [] own others = refl
same_on reading part now [] (next ∷ nows) own others = absurd cc
same_on reading part now (other ∷ parts) [] own others = absurd cc
same_on reading part now (other ∷ parts) (next ∷ nows) own others = ap (λ (s : Stream). not (nat_lt s.setup.times.last (interval_at s.setup.times reading))) own

said_streams : (reading : ℕ) (payload : Option (List ℕ)) (parts : List Part) → map stream_in (said_all reading payload parts) ≡ map stream_in parts
said_streams reading None parts = refl
said_streams reading (Some payload) parts = on_same (said reading payload) reading parts (λ part. said_same part reading payload _)

handed_streams : (reading : ℕ) (parts : List Part) → map stream_in (handed_all reading parts) ≡ map stream_in parts
handed_streams reading parts = on_same (handed_over reading) reading parts (λ part. over_same part reading part.next)

told_streams : (reading : ℕ) (parts : List Part) → map stream_in (told_all reading parts) ≡ map stream_in parts
told_streams reading parts = each_same (disclosed reading) parts (λ part. told_same part reading (is_due part.stream part.first part.log reading))

all_streams : (reading : ℕ) (payload : Option (List ℕ)) (parts : List Part) → map stream_in (after_all reading payload parts) ≡ map stream_in parts
all_streams reading payload parts =
    told_streams reading (said_all reading payload (handed_all reading parts)) ∙ said_streams reading payload (handed_all reading parts) ∙ handed_streams reading parts

said_on : (reading : ℕ) (payload : Option (List ℕ)) (part : Part) (parts : List Part) → is_on reading part parts ≡ true → said_all reading payload (part ∷ parts) ≡ say reading payload part ∷ parts
said_on reading None part parts on = refl
said_on reading (Some payload) part parts on = ap (λ (d : AllDone). d.parts) (on_here (said reading payload) reading part parts on)

said_behind : (reading : ℕ) (payload : Option (List ℕ)) (part : Part) (parts : List Part) → is_on reading part parts ≡ false → said_all reading payload (part ∷ parts) ≡ part ∷ said_all reading payload parts
said_behind reading None part parts on = refl
said_behind reading (Some payload) part parts on = ap (λ (d : AllDone). d.parts) (on_behind (said reading payload) reading part parts on)

after_on : (reading : ℕ) (payload : Option (List ℕ)) (part : Part) (parts : List Part) → is_on reading part parts ≡ true → after_all reading payload (part ∷ parts) ≡ after_one reading payload part ∷ told_all reading parts
after_on reading payload part parts on =
    let one = (handed_over reading part).part in
    let on_one : is_on reading one parts ≡ true = same_on reading part one parts parts (over_same part reading part.next) refl ∙ on in
    ap (λ (d : AllDone). told_all reading (said_all reading payload d.parts)) (on_here (handed_over reading) reading part parts on)
    ∙ ap (told_all reading) (said_on reading payload one parts on_one)

after_behind : (reading : ℕ) (payload : Option (List ℕ)) (part : Part) (parts : List Part) → is_on reading part parts ≡ false → after_all reading payload (part ∷ parts) ≡ (disclosed reading part).part ∷ after_all reading payload parts
after_behind reading payload part parts on =
    let behind : is_on reading part (handed_all reading parts) ≡ false = same_on reading part part parts (handed_all reading parts) refl (handed_streams reading parts) ∙ on in
    ap (λ (d : AllDone). told_all reading (said_all reading payload d.parts)) (on_behind (handed_over reading) reading part parts on)
    ∙ ap (told_all reading) (said_behind reading payload part (handed_all reading parts) behind)

-- the stream that is on stays on, unless its interval has ended
not_past : (past : Bool) → not past ≡ true → past ≡ true → ⊥
not_past true isn't is = absurd cc
not_past false isn't is = absurd cc

stays_on : (reading later : ℕ) (part now : Part) (parts nows : List Part) → now.stream ≡ part.stream → map stream_in nows ≡ map stream_in parts → reading ≤ later → later < reading + until_more now reading → is_on reading part parts ≡ true → is_on later now nows ≡ true
stays_on reading later part now [] [] own others le less on = refl
stays_on reading later part now [] (next ∷ nows) own others le less on = absurd cc
stays_on reading later part now (other ∷ parts) [] own others le less on = absurd cc
stays_on reading later part now (other ∷ parts) (next ∷ nows) own others le less on =
    let still : not (is_past now reading) ≡ true = ap (λ (s : Stream). not (nat_lt s.setup.times.last (interval_at s.setup.times reading))) own ∙ on in
    elim (bound now reading later le less) as (λ _. not (is_past now later) ≡ true) [
      | inl done ↦ absurd (not_past (is_past now reading) still (and_second (is_followed now.next) (is_past now reading) (has_told_last now) done).0)
      | inr same ↦ ap (λ (i : ℕ). not (nat_lt now.stream.setup.times.last i)) same ∙ still
    ]

past_is : (past : Bool) → not past ≡ false → past ≡ true
past_is true is = refl
past_is false is = absurd cc

-- one in front of it stays past
stays_past : (reading later : ℕ) (part now : Part) (parts nows : List Part) → now.stream ≡ part.stream → map stream_in nows ≡ map stream_in parts → reading ≤ later → is_on reading part parts ≡ false → is_on later now nows ≡ false
stays_past reading later part now [] nows own others le on = absurd cc
stays_past reading later part now (other ∷ parts) [] own others le on = absurd cc
stays_past reading later part now (other ∷ parts) (next ∷ nows) own others le on =
    let past : is_past now reading ≡ true = ap (λ (s : Stream). nat_lt s.setup.times.last (interval_at s.setup.times reading)) own ∙ past_is (is_past part reading) on in
    ap not (past_later now reading later le past)

-- what may rest, of a list of streams
abbrev IsBound : ℕ → ℕ → List Part → Type 0
IsBound reading later parts = later < reading + until_next parts reading

bound_first : (reading later : ℕ) (part : Part) (parts : List Part) → IsBound reading later (part ∷ parts) → later < reading + until_more part reading
bound_first reading later part parts less = omega (arith, less)

bound_others : (reading later : ℕ) (part : Part) (parts : List Part) → IsBound reading later (part ∷ parts) → IsBound reading later parts
bound_others reading later part parts less = omega (arith, less)

module _ (reading later : ℕ) (payload : Option (List ℕ)) (le : reading ≤ later) where
  abbrev RestsOn : List Part → Type 0
  RestsOn parts = IsBound reading later (after_all reading payload parts) → done_on (handed_over later) later (after_all reading payload parts) ≡ quiet (after_all reading payload parts)

  rests_where : (part : Part) (parts : List Part) (on : Bool) → is_on reading part parts ≡ on → RestsOn parts → RestsOn (part ∷ parts)
  rests_where part parts true on others less =
      let now = after_one reading payload part in
      let behind = told_all reading parts in
      let is : after_all reading payload (part ∷ parts) ≡ now ∷ behind = after_on reading payload part parts on in
      let bounded : IsBound reading later (now ∷ behind) = subst (IsBound reading later) is less in
      let less_now = bound_first reading later now behind bounded in
      let own : now.stream ≡ part.stream =
      told_same (say reading payload (handed_over reading part).part) reading (is_due (say reading payload (handed_over reading part).part).stream (say reading payload (handed_over reading part).part).first (say reading payload (handed_over reading part).part).log reading)
      ∙ say_keeps (handed_over reading part).part reading payload ∙ over_same part reading part.next in
      let here = stays_on reading later part now parts behind own (told_streams reading parts) le less_now on in
      subst (λ (ps : List Part). done_on (handed_over later) later ps ≡ quiet ps) (sym is)
      (on_here (handed_over later) later now behind here ∙ ap (λ (d : Done). one_done d behind) (on_quiet part reading later payload le less_now))
  rests_where part parts false on others less =
      let now = (disclosed reading part).part in
      let behind = after_all reading payload parts in
      let is : after_all reading payload (part ∷ parts) ≡ now ∷ behind = after_behind reading payload part parts on in
      let bounded : IsBound reading later (now ∷ behind) = subst (IsBound reading later) is less in
      let own : now.stream ≡ part.stream = told_same part reading (is_due part.stream part.first part.log reading) in
      let past = stays_past reading later part now parts behind own (all_streams reading payload parts) le on in
      subst (λ (ps : List Part). done_on (handed_over later) later ps ≡ quiet ps) (sym is)
      (on_behind (handed_over later) later now behind past ∙ ap (done_behind now) (others (bound_others reading later now behind bounded)))

  rests_none : (bytes : Option (List ℕ)) → done_on (handed_over later) later (after_all reading bytes []) ≡ quiet (after_all reading bytes [])
  rests_none None = refl
  rests_none (Some bytes) = refl

  -- no handover is due
  rests_on : (parts : List Part) → RestsOn parts
  rests_on [] less = rests_none payload
  rests_on (part ∷ parts) less = rests_where part parts (is_on reading part parts) refl (rests_on parts) less

  module _ (read : is_unread reading ≡ false) (read_later : is_unread later ≡ false) where
    -- no key is due
    none_told : (parts : List Part) → IsBound reading later (told_all reading parts) → AllByRecursion (λ part. disclosed later part ≡ nothing_done part) (told_all reading parts)
    none_told [] less = tt
    none_told (part ∷ parts) less =
        let now = (disclosed reading part).part in
        let behind = told_all reading parts in (
          told_as part reading later (is_due part.stream part.first part.log reading) refl read read_later le (bound_first reading later now behind less),
          none_told parts (bound_others reading later now behind less),
        )

    rests_each : (parts : List Part) → IsBound reading later (told_all reading parts) → done_each (disclosed later) (told_all reading parts) ≡ quiet (told_all reading parts)
    rests_each parts less = each_none (disclosed later) (told_all reading parts) (none_told parts less)

-- ---- an event

message_parts : (reading : ℕ) (payload : Option (List ℕ)) (fed : Fed) → (after_message reading payload fed).parts ≡ said_all reading payload fed.parts
message_parts reading None fed = refl
message_parts reading (Some payload) fed = refl

read_parts : (reading : ℕ) (payload : Option (List ℕ)) (fed : Fed) (unread : Bool) → unread ≡ false → (if unread then after_missed payload fed else after_read reading payload fed).parts ≡ after_all reading payload fed.parts
read_parts reading payload fed true read = absurd cc
read_parts reading payload fed false read = ap (told_all reading) (message_parts reading payload (after_handover reading fed))

quiet_frames : (later : ℕ) (fed : Fed) → done_on (handed_over later) later fed.parts ≡ quiet fed.parts → done_each (disclosed later) fed.parts ≡ quiet fed.parts → frames_read later None fed ≡ []
quiet_frames later fed on each =
    ap (λ (d : AllDone). d.frames ++ (done_each (disclosed later) d.parts).frames) on ∙ ap (λ (d : AllDone). d.frames) each

rests_at : (fed : Fed) (reading later : ℕ) (payload : Option (List ℕ)) (unread : Bool) → is_unread later ≡ unread → is_unread reading ≡ false → reading ≤ later
    → later < reading + until_next (after_item reading payload fed).parts reading → (if unread then [] else frames_read later None (after_item reading payload fed)) ≡ []
rests_at fed reading later payload true later_is read le less = refl
rests_at fed reading later payload false later_is read le less =
    let now = after_item reading payload fed in
    let parts : now.parts ≡ after_all reading payload fed.parts = read_parts reading payload fed (is_unread reading) read in
    let bounded : IsBound reading later (after_all reading payload fed.parts) = subst (IsBound reading later) parts less in
    quiet_frames later now
    (subst (λ (ps : List Part). done_on (handed_over later) later ps ≡ quiet ps) (sym parts) (rests_on reading later payload le fed.parts bounded))
    (subst (λ (ps : List Part). done_each (disclosed later) ps ≡ quiet ps) (sym parts) (rests_each reading later payload le read later_is (said_all reading payload (handed_all reading fed.parts)) bounded))

pub are_resting : FeedsRest
are_resting fed reading later payload read le less = rests_at fed reading later payload (is_unread later) refl read le less

-- ---- before the first interval

before_begin : (times : Times) (opening reading later : ℕ) → reading ≤ later → later < reading + until_begin times (first_interval times opening) reading → has_begun times (first_interval times opening) later ≡ false
before_begin times opening reading later le less =
    let i = interval_at times opening in
    let begin = times.start + (i + 1) * times.length in
    let before : later < begin = omega (arith, less, le) in
    let most = below_next times later i before in
    none_yet (is_unread later) (nat_le (i + 1) (interval_at times later)) (lt-leb (i + 1) (interval_at times later) (omega (arith, most)))
  where
    none_yet : (unread begun : Bool) → begun ≡ false → (not unread && begun) ≡ false
    none_yet true begun none = refl
    none_yet false begun none = none

none_begins : (streams : List Stream) (opening reading later : ℕ) → reading ≤ later → later < reading + until_first streams opening reading → some_begun streams opening later ≡ false
none_begins [] opening reading later le less = refl
none_begins (stream ∷ streams) opening reading later le less =
    ap (λ (b : Bool). b || some_begun streams opening later) (before_begin stream.setup.times opening reading later le (omega (arith, less)))
    ∙ none_begins streams opening reading later le (omega (arith, less))

pub are_waiting : FeedsWait
are_waiting streams opening reading later le less = waits_made streams opening later (none_begins streams opening reading later le less)
