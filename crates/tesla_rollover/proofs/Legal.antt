-- Legal histories of epochs: with one entry more they are legal, and no epoch that isn't open has a history.
use Rattle.std.proofs.Common.{◌≡◌, ℕ, zero, suc, ◌+◌, ◌<◌, ◌≤◌, Bool, true, false, cond, ◌&&◌, nat_lt, ◌==◌, List, [], ◌∷◌, ◌++◌, length, length-append, map, Option, Some, None, refl, sym, ap, subst, ◌∙◌, ⊎_elim, arith, append_assoc}
use Rattle.std.specs.Prelude.{slice_get, flat_map, unwrap_or, option_map, ◌-◌}
use Rattle.std.specs.List.{range_with_len, position, position_or_len}
use Rattle.std.proofs.lemmas.Bool.{cases_Bool}
use Rattle.std.proofs.lemmas.Bool.Decides.{nat_tests}
use Rattle.std.proofs.lemmas.List.{append-nil, length-map}
use Rattle.std.proofs.lemmas.List.FromFn.{length-map-range_with_len}
use Rattle.tesla_commit.specs.Parts.{Parts}
use Rattle.tesla_fitting.specs.declared.config.Config.{Config}
use Rattle.tesla_frame.specs.Frame.{Frame}
use Rattle.tesla_frame.specs.Reading.{frame_of}
use Rattle.tesla_receiver.specs.History.{Event, Arrives, Takes, Ends}
use Rattle.tesla_receiver.specs.Entries.{Entry}
use Rattle.tesla_receiver.specs.declared.history.Entry.TheVariants.{Arrived, Ended}
use Rattle.tesla_state.specs.declared.replies.Reply.{Reply}
use Rattle.tesla_rollover.specs.Epochs.{answers_in, arrival_at, epoch_for, epoch_with, IsRollLegal, IsRollLegalAfter, next_of, payload_given, reply_at, roll_entry_of, up_to_given, has_stream}
use Rattle.tesla_rollover.specs.History.{RollEntry, RollTaken, RollEnded, config_at, config_with, configs_in, ends_before, entries_on, epoch_count, history_at, opens, roll_event_of, setup_given, setups_opened, taken_on}
use Rattle.tesla_rollover.specs.declared.answers.Next.{Next}
use Rattle.tesla_rollover.specs.declared.answers.Next.TheVariants as nexts
use Rattle.tesla_fitting.specs.Fitting.{stream_of}
use Rattle.tesla_rollover.proofs.Answered.{asked_few, opens_setup, setups_of_given, setups_with}
use Rattle.tesla_rollover.proofs.Entries.{at_more, count_same, setups_more}

legal_after_more : (cfg : Config) (before h : List RollEntry) (e : RollEntry) (enough : Bool) → IsRollLegalAfter cfg before h → e ≡ roll_entry_of cfg (before ++ h) enough (roll_event_of e) → IsRollLegalAfter cfg before (h ++ e ∷ [])
legal_after_more cfg before [] e enough l answered = ((enough, answered ∙ ap (λ b. roll_entry_of cfg b enough (roll_event_of e)) (append-nil before)), tt)
legal_after_more cfg before (x ∷ h) e enough l answered =
    (l.0, legal_after_more cfg (before ++ x ∷ []) h e enough l.1 (answered ∙ ap (λ b. roll_entry_of cfg b enough (roll_event_of e)) (sym (append_assoc before (x ∷ []) h))))

-- the entry of an event is of that event
event_of-entry : (cfg : Config) (h : List RollEntry) (enough : Bool) (event : Event) → roll_event_of (roll_entry_of cfg h enough event) ≡ event
event_of-entry cfg h enough (Arrives ingest reading bytes) = refl
event_of-entry cfg h enough (Takes releaser) = refl
event_of-entry cfg h enough (Ends ingest) = refl

pub entered_legal : (cfg : Config) (h : List RollEntry) (enough : Bool) (event : Event) → IsRollLegal cfg h → IsRollLegal cfg (h ++ roll_entry_of cfg h enough event ∷ [])
entered_legal cfg h enough event l = legal_after_more cfg [] h (roll_entry_of cfg h enough event) enough l (ap (roll_entry_of cfg h enough) (sym (event_of-entry cfg h enough event)))

along : (cfg : Config) (P : List RollEntry → Type 0) → ((h : List RollEntry) (enough : Bool) (event : Event) → P h → P (h ++ roll_entry_of cfg h enough event ∷ [])) → (before h : List RollEntry) → IsRollLegalAfter cfg before h → P before → P (before ++ h)
along cfg P step before [] l p = subst P (sym (append-nil before)) p
along cfg P step before (e ∷ h) l p =
    subst P (append_assoc before (e ∷ []) h)
    (along cfg P step (before ++ e ∷ []) h l.1 (subst (λ (x : RollEntry). P (before ++ x ∷ [])) (sym l.0.1) (step before l.0.0 (roll_event_of e) p)))

-- what holds at first and stays with each event holds after each legal history
pub of_legal : (cfg : Config) (P : List RollEntry → Type 0) → P [] → ((h : List RollEntry) (enough : Bool) (event : Event) → P h → P (h ++ roll_entry_of cfg h enough event ∷ [])) → (h : List RollEntry) → IsRollLegal cfg h → P h
of_legal cfg P first step h l = along cfg P step [] h l first

-- ---- which epochs there are

pub configs_count : (cfg : Config) (h : List RollEntry) → length (configs_in cfg h) ≡ epoch_count h
configs_count cfg h = ap suc (length-map (setups_opened h) (config_with cfg))

position_below : {A : Type 0} (p : A → Bool) (xs : List A) (default : ℕ) → default < length xs → unwrap_or (position p xs) default < length xs
position_below p xs default some = below (position_or_len p xs) (length xs) default some
  where
    below : (k n default : ℕ) → default < n → unwrap_or (cond (nat_lt k n) (Some k) None) default < n
    below k n default some =
        ⊎_elim
        (λ e. subst (λ (b : Bool). unwrap_or (cond b (Some k) None) default < n) (sym e) (grind (arith, nat_tests, e)))
        (λ e. subst (λ (b : Bool). unwrap_or (cond b (Some k) None) default < n) (sym e) some)
        (cases_Bool (nat_lt k n))

pub epoch_below : (configs : List Config) (frame : Option Frame) → 0 < length configs → epoch_with configs frame < length configs
epoch_below configs None some = some
epoch_below configs (Some frame) some = position_below (has_stream (stream_of frame)) configs 0 some

-- a datagram goes to an epoch that is open
pub epoch_open : (cfg : Config) (h : List RollEntry) (bytes : List ℕ) → epoch_for cfg h bytes < epoch_count h
epoch_open cfg h bytes = subst (λ (n : ℕ). epoch_for cfg h bytes < n) (configs_count cfg h) (epoch_below (configs_in cfg h) (frame_of bytes) (omega arith))

-- a take asks epochs that are open
pub answers_few : (cfg : Config) (h : List RollEntry) → length (answers_in cfg h) ≤ epoch_count h
answers_few cfg h =
    let few = asked_few (map (reply_at cfg h) (range_with_len 0 (epoch_count h))) in
    let all = length-map-range_with_len (reply_at cfg h) 0 (epoch_count h) in
    omega (arith, few, all)

-- ---- a take that opens an epoch

next_opens : (next : Option Next) → opens next ≡ true → next ≡ Some nexts.Opened
next_opens None is = absurd cc
next_opens (Some nexts.Opened) is = refl
next_opens (Some nexts.Plain) is = absurd cc
next_opens (Some (nexts.Old newest)) is = absurd cc
next_opens (Some nexts.EpochsSpent) is = absurd cc
next_opens (Some (nexts.BadSetup line kind)) is = absurd cc
next_opens (Some (nexts.UsedStream stream)) is = absurd cc
next_opens (Some nexts.NoMemory) is = absurd cc

given_opens : (configs : List Config) (epoch : ℕ) (enough : Bool) (replies : List Reply) (payload : Option (List ℕ)) → payload_given (up_to_given replies) ≡ payload → option_map (next_of configs epoch enough) payload ≡ Some nexts.Opened
    → (setup : Parts) × (flat_map setup_given (up_to_given replies) ≡ setup ∷ [])
given_opens configs epoch enough replies None given is = absurd cc
given_opens configs epoch enough replies (Some payload) given is =
    let next : next_of configs epoch enough payload ≡ nexts.Opened = cc in
    let it = opens_setup configs epoch enough payload next in
    (it.0, setups_of_given replies ∙ ap (λ (o : Option (List ℕ)). setups_with o) given ∙ it.1)

-- a take that opens an epoch opens one, of the setup that the packet hands over to
pub opens_one : (configs : List Config) (epoch : ℕ) (enough : Bool) (replies : List Reply) → opens (option_map (next_of configs epoch enough) (payload_given (up_to_given replies))) ≡ true
    → (setup : Parts) × (flat_map setup_given (up_to_given replies) ≡ setup ∷ [])
opens_one configs epoch enough replies is =
    given_opens configs epoch enough replies (payload_given (up_to_given replies)) refl (next_opens (option_map (next_of configs epoch enough) (payload_given (up_to_given replies))) is)

-- ---- epochs that aren't open

abbrev NoFurther : ℕ → List RollEntry → Type 0
NoFurther ingests h = (epoch : ℕ) → epoch_count h ≤ epoch → history_at ingests h epoch ≡ []

empty_further : (ingests epoch : ℕ) → history_at ingests [] epoch ≡ []
unfolding history_at
empty_further ingests epoch = refl

not_here : (epoch k : ℕ) → epoch < k → (epoch == k) ≡ false
not_here epoch k less = grind (arith, nat_tests, less)

not_below : (k n : ℕ) → n ≤ k → nat_lt k n ≡ false
not_below k n most = grind (arith, nat_tests, most)

pub past_end : {A : Type 0} (xs : List A) (k : ℕ) → length xs ≤ k → slice_get xs k ≡ None
past_end [] k most = refl
past_end (x ∷ xs) zero most = absurd (omega (arith, most))
past_end (x ∷ xs) (suc k) most = past_end xs k (omega (arith, most))

further_taken : (ingests releaser epoch : ℕ) (h : List RollEntry) (answers : List Reply) (next : Option Next) → length answers ≤ epoch_count h → (opens next ≡ true → (setup : Parts) × (flat_map setup_given answers ≡ setup ∷ []))
    → epoch_count (h ++ RollTaken releaser answers next ∷ []) ≤ epoch → (epoch_count h ≤ epoch) × (entries_on ingests epoch h (RollTaken releaser answers next) ≡ [])
further_taken ingests releaser epoch h answers next few one most =
    ⊎_elim
    (λ (e : opens next ≡ true).
    let it = one e in
    let more : epoch_count (h ++ RollTaken releaser answers next ∷ []) ≡ epoch_count h + 1 =
    ap (λ (ps : List Parts). suc (length ps)) (setups_more h (RollTaken releaser answers next) ∙ ap (λ (b : Bool). setups_opened h ++ cond b (flat_map setup_given answers) []) e ∙ ap (λ ps. setups_opened h ++ ps) it.1)
    ∙ ap suc (length-append (setups_opened h) (it.0 ∷ [])) ∙ omega arith in
    let past : epoch_count h < epoch = omega (arith, most, more) in (
      omega (arith, past),
      ap (λ (o : Option Reply). taken_on releaser o ++ cond (opens next && (epoch == epoch_count h)) (ends_before ingests h) []) (past_end answers epoch (omega (arith, few, past)))
          ∙ ap (λ (b : Bool). cond (opens next && b) (ends_before ingests h) []) (grind (arith, nat_tests, past))
          ∙ none (opens next) (ends_before ingests h),
    ))
    (λ (e : opens next ≡ false).
    let same : epoch_count (h ++ RollTaken releaser answers next ∷ []) ≡ epoch_count h = count_same h (RollTaken releaser answers next) (ap (λ (b : Bool). cond b (flat_map setup_given answers) []) e) in
    let here : epoch_count h ≤ epoch = omega (arith, most, same) in (
      here,
      ap (λ (o : Option Reply). taken_on releaser o ++ cond (opens next && (epoch == epoch_count h)) (ends_before ingests h) []) (past_end answers epoch (omega (arith, few, here)))
          ∙ ap (λ (b : Bool). cond (b && (epoch == epoch_count h)) (ends_before ingests h) []) e,
    ))
    (cases_Bool (opens next))
  where
    none : (b : Bool) (xs : List Entry) → cond (b && false) xs [] ≡ []
    none true xs = refl
    none false xs = refl

further_event : (cfg : Config) (h : List RollEntry) (enough : Bool) (event : Event) → NoFurther cfg.ingests h → NoFurther cfg.ingests (h ++ roll_entry_of cfg h enough event ∷ [])
further_event cfg h enough (Arrives ingest reading bytes) none epoch most =
    let e : RollEntry = roll_entry_of cfg h enough (Arrives ingest reading bytes) in
    let here : epoch_count h ≤ epoch = (let same = count_same h e refl in omega (arith, most, same)) in
    let within = epoch_open cfg h bytes in
    at_more cfg.ingests h e epoch ∙ ap (λ xs. xs ++ entries_on cfg.ingests epoch h e) (none epoch here)
    ∙ ap (λ (b : Bool). cond b (Arrived (arrival_at (config_at cfg h (epoch_for cfg h bytes)) (history_at cfg.ingests h (epoch_for cfg h bytes)) ingest reading bytes) ∷ []) []) (not_here (epoch_for cfg h bytes) epoch (omega (arith, within, here)))
further_event cfg h enough (Takes releaser) none epoch most =
    let answers : List Reply = answers_in cfg h in
    let next : Option Next = option_map (next_of (configs_in cfg h) (length answers - 1) enough) (payload_given answers) in
    let it = further_taken cfg.ingests releaser epoch h answers next (answers_few cfg h)
    (opens_one (configs_in cfg h) (length answers - 1) enough (map (reply_at cfg h) (range_with_len 0 (epoch_count h)))) most in
    at_more cfg.ingests h (RollTaken releaser answers next) epoch ∙ ap (λ xs. xs ++ entries_on cfg.ingests epoch h (RollTaken releaser answers next)) (none epoch it.0) ∙ it.1
further_event cfg h enough (Ends ingest) none epoch most =
    let here : epoch_count h ≤ epoch = (let same = count_same h (RollEnded ingest) refl in omega (arith, most, same)) in
    at_more cfg.ingests h (RollEnded ingest) epoch ∙ ap (λ xs. xs ++ entries_on cfg.ingests epoch h (RollEnded ingest)) (none epoch here)
    ∙ ap (λ (b : Bool). cond b (Ended ingest ∷ []) []) (not_below epoch (epoch_count h) here)

-- an epoch that isn't open has no history
pub none_further : (cfg : Config) (h : List RollEntry) → IsRollLegal cfg h → (epoch : ℕ) → epoch_count h ≤ epoch → history_at cfg.ingests h epoch ≡ []
none_further cfg h l = of_legal cfg (NoFurther cfg.ingests) (λ epoch most. empty_further cfg.ingests epoch) (further_event cfg) h l
