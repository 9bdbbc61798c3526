-- The receivers stand for a history of epochs with one entry more.
use Rattle.std.proofs.Common.{◌≡◌, ℕ, suc, ◌+◌, ◌-◌, ◌<◌, ◌≤◌, Bool, true, false, cond, ◌&&◌, ◌==◌, List, [], ◌∷◌, ◌++◌, length, length-append, map, set, Option, Some, refl, sym, ap, subst, ◌∙◌, arith, add-zero}
use Rattle.std.specs.Prelude.{slice_get, flat_map, option_map}
use Rattle.std.specs.List.{range_with_len}
use Rattle.std.proofs.lemmas.Bool.Decides.{nat_tests}
use Rattle.std.proofs.lemmas.List.{append-nil, map_push}
use Rattle.std.proofs.lemmas.List.FromFn.{map-range_with_len_more}
use Rattle.std.proofs.lemmas.List.Sums.{sum_by_push}
use Rattle.tesla_commit.specs.Parts.{Parts}
use Rattle.tesla_fitting.specs.declared.config.Config.{Config}
use Rattle.tesla_receiver.specs.History.{Arrives, Ends, Takes}
use Rattle.tesla_receiver.specs.Stands.{Stands}
use Rattle.tesla_receiver.specs.Entries.{Arrival, Entry}
use Rattle.tesla_receiver.specs.declared.history.Entry.TheVariants.{Arrived}
use Rattle.tesla_state.specs.State.{State}
use Rattle.tesla_state.specs.declared.replies.Reply.{Reply}
use Rattle.tesla_rollover.specs.Epochs.{IsRollLegal, answers_in, arrival_at, epoch_for, next_of, payload_given, roll_entry_of}
use Rattle.tesla_rollover.specs.History.{RollEntry, RollArrived, RollTaken, RollEnded, config_at, config_with, configs_in, ends_before, entries_on, epoch_count, history_at, opens, roll_given_in, roll_gives, setup_given, setup_opened, setups_opened, taken_on}
use Rattle.tesla_rollover.specs.Kept.{with_end, with_takes}
use Rattle.tesla_rollover.specs.Stands.{RollStands, RollState, StandAll, config_in, histories_in}
use Rattle.tesla_rollover.specs.declared.answers.Next.{Next}
use Rattle.tesla_rollover.proofs.Entries.{at_more, count_same, histories_arrived, histories_ended, setups_more, setups_same}
use Rattle.tesla_rollover.proofs.InStep.{same_set, stand_more, stand_set, takes_are}
use Rattle.tesla_rollover.proofs.Legal.{answers_few, entered_legal, none_further, past_end}
use Rattle.tesla_rollover.proofs.Numbers.{map_below}

configs_same : (cfg : Config) (h : List RollEntry) (e : RollEntry) → setup_opened e ≡ [] → configs_in cfg h ≡ configs_in cfg (h ++ e ∷ [])
configs_same cfg h e none = ap (λ (ps : List Parts). cfg ∷ map (config_with cfg) ps) (sym (setups_same h e none))

given_same : (h : List RollEntry) (e : RollEntry) → roll_gives e ≡ false → roll_given_in h ≡ roll_given_in (h ++ e ∷ [])
given_same h e none = sym (sum_by_push (λ x. cond (roll_gives x) 1 0) h e ∙ ap (λ b. roll_given_in h + cond b 1 0) none ∙ add-zero (roll_given_in h))

given_more : (h : List RollEntry) (e : RollEntry) → roll_gives e ≡ true → roll_given_in h + 1 ≡ roll_given_in (h ++ e ∷ [])
given_more h e one = sym (sum_by_push (λ x. cond (roll_gives x) 1 0) h e ∙ ap (λ b. roll_given_in h + cond b 1 0) one)

-- ---- before any call

pub roll_opened : (cfg : Config) (state : State) → state.config ≡ cfg → Stands state [] → RollStands (record { config = cfg; receivers = state ∷ []; given = 0; calls = 0 }) []
unfolding history_at
roll_opened cfg state same stands = record { legal = tt; configs = ap (λ (c : Config). c ∷ []) same; receivers = (stands, tt); given = refl; calls = refl }

-- ---- an arrival and an end

pub roll_arrived : (old : RollState) (h : List RollEntry) (ingest reading : ℕ) (bytes : List ℕ) (before after : State) → RollStands old h → slice_get old.receivers (epoch_for old.config h bytes) ≡ Some before → after.config ≡ before.config
    → Stands after (history_at old.config.ingests h (epoch_for old.config h bytes) ++ Arrived (arrival_at (config_at old.config h (epoch_for old.config h bytes)) (history_at old.config.ingests h (epoch_for old.config h bytes)) ingest reading bytes) ∷ [])
    → RollStands (record { config = old.config; receivers = set old.receivers (epoch_for old.config h bytes) after; given = old.given; calls = old.calls + 1 }) (h ++ roll_entry_of old.config h true (Arrives ingest reading bytes) ∷ [])
roll_arrived old h ingest reading bytes before after st at same stands =
    let cfg : Config = old.config in
    let epoch : ℕ = epoch_for cfg h bytes in
    let arrival : Arrival = arrival_at (config_at cfg h epoch) (history_at cfg.ingests h epoch) ingest reading bytes in
    let e : RollEntry = RollArrived epoch arrival in
    record {
      legal = entered_legal cfg h true (Arrives ingest reading bytes) st.legal;
      configs = same_set config_in old.receivers epoch before after at same ∙ st.configs ∙ configs_same cfg h e refl;
      receivers = subst (λ (hs : List (List Entry)). StandAll (set old.receivers epoch after) hs) (sym (histories_arrived cfg.ingests h epoch arrival))
          (stand_set old.receivers (histories_in cfg.ingests h) epoch after (history_at cfg.ingests h epoch ++ Arrived arrival ∷ []) st.receivers stands);
      given = st.given ∙ given_same h e refl;
      calls = ap (λ (n : ℕ). n + 1) st.calls ∙ sym (length-append h (e ∷ []));
    }

pub roll_ended : (old : RollState) (h : List RollEntry) (ingest : ℕ) (after : List State) → RollStands old h → map config_in after ≡ map config_in old.receivers → StandAll after (map (with_end ingest) (histories_in old.config.ingests h))
    → RollStands (record { config = old.config; receivers = after; given = old.given; calls = old.calls + 1 }) (h ++ roll_entry_of old.config h true (Ends ingest) ∷ [])
roll_ended old h ingest after st same stands =
    let e : RollEntry = RollEnded ingest in
    record {
      legal = entered_legal old.config h true (Ends ingest) st.legal;
      configs = same ∙ st.configs ∙ configs_same old.config h e refl;
      receivers = subst (λ (hs : List (List Entry)). StandAll after hs) (sym (histories_ended old.config.ingests h ingest)) stands;
      given = st.given ∙ given_same h e refl;
      calls = ap (λ (n : ℕ). n + 1) st.calls ∙ sym (length-append h (e ∷ []));
    }

-- ---- a take

module _ (cfg : Config) (h : List RollEntry) (releaser : ℕ) (answers : List Reply) (next : Option Next) (few : length answers ≤ epoch_count h) where
  abbrev entry : RollEntry
  entry = RollTaken releaser answers next

  below_not : (k : ℕ) → k < epoch_count h → (opens next && (k == epoch_count h)) ≡ false
  below_not k below = ap (λ (b : Bool). opens next && b) (grind (arith, nat_tests, below)) ∙ never (opens next)
    where
      never : (b : Bool) → (b && false) ≡ false
      never true = refl
      never false = refl

  -- the histories of the epochs that were open, after the take
  taken_below : map (history_at cfg.ingests (h ++ entry ∷ [])) (range_with_len 0 (epoch_count h)) ≡ with_takes releaser answers (histories_in cfg.ingests h)
  taken_below =
      map_below (history_at cfg.ingests (h ++ entry ∷ [])) (λ k. history_at cfg.ingests h k ++ taken_on releaser (slice_get answers k)) 0 (epoch_count h)
      (λ k below. at_more cfg.ingests h entry k
      ∙ ap (λ (b : Bool). history_at cfg.ingests h k ++ (taken_on releaser (slice_get answers k) ++ cond b (ends_before cfg.ingests h) [])) (below_not k (omega (arith, below)))
      ∙ ap (λ (xs : List Entry). history_at cfg.ingests h k ++ xs) (append-nil (taken_on releaser (slice_get answers k))))
      ∙ sym (takes_are releaser answers (history_at cfg.ingests h) (epoch_count h) few)

  pub histories_taken : opens next ≡ false → histories_in cfg.ingests (h ++ entry ∷ []) ≡ with_takes releaser answers (histories_in cfg.ingests h)
  histories_taken closed =
      ap (λ n. map (history_at cfg.ingests (h ++ entry ∷ [])) (range_with_len 0 n)) (count_same h entry (ap (λ (b : Bool). cond b (flat_map setup_given answers) []) closed))
      ∙ taken_below

  setups_with_one : (setup : Parts) → opens next ≡ true → flat_map setup_given answers ≡ setup ∷ [] → setups_opened (h ++ entry ∷ []) ≡ setups_opened h ++ setup ∷ []
  setups_with_one setup opened_is one = setups_more h entry ∙ ap (λ (b : Bool). setups_opened h ++ cond b (flat_map setup_given answers) []) opened_is ∙ ap (λ ps. setups_opened h ++ ps) one

  pub histories_opened : (setup : Parts) → IsRollLegal cfg h → opens next ≡ true → flat_map setup_given answers ≡ setup ∷ [] → histories_in cfg.ingests (h ++ entry ∷ []) ≡ with_takes releaser answers (histories_in cfg.ingests h) ++ ends_before cfg.ingests h ∷ []
  histories_opened setup legal opened_is one =
      let count : epoch_count (h ++ entry ∷ []) ≡ epoch_count h + 1 =
      ap (λ (ps : List Parts). suc (length ps)) (setups_with_one setup opened_is one) ∙ ap suc (length-append (setups_opened h) (setup ∷ [])) ∙ omega arith in
      let newest : (epoch_count h == epoch_count h) ≡ true = grind (arith, nat_tests) in
      let last : history_at cfg.ingests (h ++ entry ∷ []) (epoch_count h) ≡ ends_before cfg.ingests h =
      at_more cfg.ingests h entry (epoch_count h)
      ∙ ap (λ (xs : List Entry). xs ++ entries_on cfg.ingests (epoch_count h) h entry) (none_further cfg h legal (epoch_count h) (omega arith))
      ∙ ap (λ (o : Option Reply). taken_on releaser o ++ cond (opens next && (epoch_count h == epoch_count h)) (ends_before cfg.ingests h) []) (past_end answers (epoch_count h) few)
      ∙ ap (λ (b : Bool). cond (b && (epoch_count h == epoch_count h)) (ends_before cfg.ingests h) []) opened_is
      ∙ ap (λ (b : Bool). cond b (ends_before cfg.ingests h) []) newest in
      ap (λ n. map (history_at cfg.ingests (h ++ entry ∷ [])) (range_with_len 0 n)) count
      ∙ map-range_with_len_more (history_at cfg.ingests (h ++ entry ∷ [])) 0 (epoch_count h) (epoch_count h) (omega arith)
      ∙ ap (λ (hs : List (List Entry)). hs ++ history_at cfg.ingests (h ++ entry ∷ []) (epoch_count h) ∷ []) taken_below
      ∙ ap (λ (last : List Entry). with_takes releaser answers (histories_in cfg.ingests h) ++ last ∷ []) last

  pub configs_opened : (setup : Parts) → opens next ≡ true → flat_map setup_given answers ≡ setup ∷ [] → configs_in cfg (h ++ entry ∷ []) ≡ configs_in cfg h ++ config_with cfg setup ∷ []
  configs_opened setup opened_is one = ap (λ (ps : List Parts). cfg ∷ map (config_with cfg) ps) (setups_with_one setup opened_is one) ∙ ap (λ (cs : List Config). cfg ∷ cs) (map_push (config_with cfg) (setups_opened h) setup)

-- a take that opened no epoch
pub roll_taken : (old : RollState) (h : List RollEntry) (enough : Bool) (releaser given : ℕ) (after : List State) → RollStands old h
    → let next = option_map (next_of (configs_in old.config h) (length (answers_in old.config h) - 1) enough) (payload_given (answers_in old.config h)) in
    opens next ≡ false → given ≡ old.given + cond (roll_gives (RollTaken releaser (answers_in old.config h) next)) 1 0 → map config_in after ≡ map config_in old.receivers
    → StandAll after (with_takes releaser (answers_in old.config h) (histories_in old.config.ingests h))
    → RollStands (record { config = old.config; receivers = after; given = given; calls = old.calls + 1 }) (h ++ roll_entry_of old.config h enough (Takes releaser) ∷ [])
roll_taken old h enough releaser given after st closed count same stands =
    let cfg : Config = old.config in
    let answers : List Reply = answers_in cfg h in
    let next : Option Next = option_map (next_of (configs_in cfg h) (length answers - 1) enough) (payload_given answers) in
    let e : RollEntry = RollTaken releaser answers next in
    record {
      legal = entered_legal cfg h enough (Takes releaser) st.legal;
      configs = same ∙ st.configs ∙ configs_same cfg h e (ap (λ (b : Bool). cond b (flat_map setup_given answers) []) closed);
      receivers = subst (λ (hs : List (List Entry)). StandAll after hs) (sym (histories_taken cfg h releaser answers next (answers_few cfg h) closed)) stands;
      given = count ∙ ap (λ (n : ℕ). n + cond (roll_gives e) 1 0) st.given ∙ sym (sum_by_push (λ x. cond (roll_gives x) 1 0) h e);
      calls = ap (λ (n : ℕ). n + 1) st.calls ∙ sym (length-append h (e ∷ []));
    }

-- a take that opened one
pub roll_taken_open : (old : RollState) (h : List RollEntry) (enough : Bool) (releaser given : ℕ) (after : List State) (setup : Parts) (opened : State) → RollStands old h
    → let next = option_map (next_of (configs_in old.config h) (length (answers_in old.config h) - 1) enough) (payload_given (answers_in old.config h)) in
    opens next ≡ true → flat_map setup_given (answers_in old.config h) ≡ setup ∷ [] → given ≡ old.given + cond (roll_gives (RollTaken releaser (answers_in old.config h) next)) 1 0 → map config_in after ≡ map config_in old.receivers
    → StandAll after (with_takes releaser (answers_in old.config h) (histories_in old.config.ingests h)) → opened.config ≡ config_with old.config setup → Stands opened (ends_before old.config.ingests h)
    → RollStands (record { config = old.config; receivers = after ++ opened ∷ []; given = given; calls = old.calls + 1 }) (h ++ roll_entry_of old.config h enough (Takes releaser) ∷ [])
roll_taken_open old h enough releaser given after setup opened st opened_is one count same stands config own =
    let cfg : Config = old.config in
    let answers : List Reply = answers_in cfg h in
    let next : Option Next = option_map (next_of (configs_in cfg h) (length answers - 1) enough) (payload_given answers) in
    let e : RollEntry = RollTaken releaser answers next in
    record {
      legal = entered_legal cfg h enough (Takes releaser) st.legal;
      configs = map_push config_in after opened ∙ ap (λ (cs : List Config). cs ++ opened.config ∷ []) (same ∙ st.configs) ∙ ap (λ (c : Config). configs_in cfg h ++ c ∷ []) config
          ∙ sym (configs_opened cfg h releaser answers next (answers_few cfg h) setup opened_is one);
      receivers = subst (λ (hs : List (List Entry)). StandAll (after ++ opened ∷ []) hs) (sym (histories_opened cfg h releaser answers next (answers_few cfg h) setup st.legal opened_is one))
          (stand_more after (with_takes releaser answers (histories_in cfg.ingests h)) opened (ends_before cfg.ingests h) stands own);
      given = count ∙ ap (λ (n : ℕ). n + cond (roll_gives e) 1 0) st.given ∙ sym (sum_by_push (λ x. cond (roll_gives x) 1 0) h e);
      calls = ap (λ (n : ℕ). n + 1) st.calls ∙ sym (length-append h (e ∷ []));
    }
