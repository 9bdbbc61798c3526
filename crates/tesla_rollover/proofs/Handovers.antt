-- The setup of each epoch after the first was handed over by a packet of the epoch before.
use Rattle.std.proofs.Common.{◌≡◌, ◌≢◌, ℕ, zero, suc, ◌+◌, ◌-◌, ◌<◌, ◌≤◌, Bool, true, false, cond, ◌||◌, not, nat_lt, ◌==◌, List, [], ◌∷◌, ◌++◌, length, length-append, map, get_or, Option, Some, None, Result, Ok, Err, refl, sym, ap, ◌∙◌, ⊎_elim, arith}
use Rattle.std.specs.Prelude.{flat_map, option_map, slice_get}
use Rattle.std.specs.List.{list_any, range_with_len}
use Rattle.std.proofs.lemmas.Bool.{cases_Bool}
use Rattle.std.proofs.lemmas.Bool.Decides.{nat_tests}
use Rattle.std.proofs.lemmas.List.{get_or_push, map-append}
use Rattle.std.proofs.lemmas.Option.{slice_get_within}
use Rattle.tesla_base.proofs.Lists.{slice_get-append}
use Rattle.tesla_base.specs.declared.release.Head.{Head}
use Rattle.tesla_commit.specs.Parsing.{judged}
use Rattle.tesla_commit.specs.Parts.{Parts}
use Rattle.tesla_commit.specs.declared.refusal.SetupKind.{SetupKind}
use Rattle.tesla_fitting.specs.declared.config.Config.{Config}
use Rattle.tesla_receiver.specs.History.{Event, Arrives, Takes, Ends}
use Rattle.tesla_receiver.specs.Entries.{Entry}
use Rattle.tesla_receiver.specs.declared.history.Entry.TheVariants.{Taken}
use Rattle.tesla_state.specs.declared.replies.Reply.{Reply}
use Rattle.tesla_state.specs.declared.replies.Reply.TheVariants.{Given, Empty, Over}
use Rattle.tesla_rollover.specs.Epochs.{IsRollLegal, answers_in, has_stream, most_epochs, next_judged, next_of, next_spelled, payload_given, reply_at, roll_entry_of, up_to_given}
use Rattle.tesla_rollover.specs.Handover.{handover_text, setup_judged, setup_spelled}
use Rattle.tesla_rollover.specs.History.{RollEntry, RollTaken, config_at, config_with, configs_in, epoch_count, history_at, opens, setup_given, setup_opened, setups_opened, taken_on}
use Rattle.tesla_rollover.specs.Laws.{IsHandedOver}
use Rattle.tesla_rollover.specs.declared.answers.Next.{Next}
use Rattle.tesla_rollover.specs.declared.answers.Next.TheVariants as nexts
use Rattle.tesla_rollover.proofs.Answered.{setups_of_given, setups_with}
use Rattle.tesla_rollover.proofs.Entries.{at_more, count_same, setups_more}
use Rattle.tesla_rollover.proofs.Epochs.{taken_open}
use Rattle.tesla_rollover.proofs.Prefixes.{config_stays, history_grows}
use Rattle.tesla_rollover.proofs.Legal.{configs_count, entered_legal, of_legal, opens_one}

-- ---- the packet that opens an epoch

-- the last answer gives the packet
pub record LastGives (answers : List Reply) (payload : List ℕ) : Type 0 where
  pub head : Head
  pub place : ℕ
  pub count : length answers ≡ suc place
  pub gives : slice_get answers place ≡ Some (Given head payload)

pub last_gives : (replies : List Reply) (payload : List ℕ) → payload_given (up_to_given replies) ≡ Some payload → LastGives (up_to_given replies) payload
last_gives [] payload is = absurd cc
last_gives (Given head carried ∷ replies) payload is =
    let same : carried ≡ payload = cc in
    record { head = head; place = 0; count = refl; gives = ap (λ (p : List ℕ). Some (Given head p)) same }
last_gives (Empty ∷ replies) payload is =
    let it = last_gives replies payload is in
    record { head = it.head; place = suc it.place; count = ap suc it.count; gives = it.gives }
last_gives (Over ∷ replies) payload is =
    let it = last_gives replies payload is in
    record { head = it.head; place = suc it.place; count = ap suc it.count; gives = it.gives }

opened_is : (next : Next) → opens (Some next) ≡ true → next ≡ nexts.Opened
opened_is nexts.Opened is = refl
opened_is nexts.Plain is = absurd cc
opened_is (nexts.Old newest) is = absurd cc
opened_is nexts.EpochsSpent is = absurd cc
opened_is (nexts.BadSetup line kind) is = absurd cc
opened_is (nexts.UsedStream stream) is = absurd cc
opened_is nexts.NoMemory is = absurd cc

opening_payload : (configs : List Config) (epoch : ℕ) (enough : Bool) (given : Option (List ℕ)) → opens (option_map (next_of configs epoch enough) given) ≡ true → (payload : List ℕ) × (given ≡ Some payload) × (next_of configs epoch enough payload ≡ nexts.Opened)
opening_payload configs epoch enough None is = absurd cc
opening_payload configs epoch enough (Some payload) is = (payload, refl, opened_is (next_of configs epoch enough payload) is)

-- the setup that a payload of the newest epoch spells, of a stream that no epoch has
record OpensOwn (configs : List Config) (epoch : ℕ) (setups : List Parts) : Type 0 where
  setup : Parts
  spelled : setups ≡ setup ∷ []
  newest : suc epoch ≡ length configs
  own : list_any (has_stream setup.stream) configs ≡ false

judged_own : (configs : List Config) (enough : Bool) (r : Result Parts (ℕ × SetupKind)) → next_judged configs enough r ≡ nexts.Opened
    → (setup : Parts) × (setup_judged r ≡ setup ∷ []) × (list_any (has_stream setup.stream) configs ≡ false)
judged_own configs enough (Err refused) is = absurd cc
judged_own configs enough (Ok setup) is = (setup, refl, unused (list_any (has_stream setup.stream) configs) is)
  where
    unused : (used : Bool) → cond used (nexts.UsedStream setup.stream) (cond enough nexts.Opened nexts.NoMemory) ≡ nexts.Opened → used ≡ false
    unused true is = absurd cc
    unused false is = refl

judged_newest : (last spent : Bool) (newest : ℕ) (spelled : Next) → cond (not last) (nexts.Old newest) (cond spent nexts.EpochsSpent spelled) ≡ nexts.Opened → (last ≡ true) × (spelled ≡ nexts.Opened)
judged_newest false spent newest spelled is = absurd cc
judged_newest true true newest spelled is = absurd cc
judged_newest true false newest spelled is = (refl, is)

spelled_own : (configs : List Config) (epoch : ℕ) (enough : Bool) (text : Option (List ℕ)) → next_spelled configs epoch enough text ≡ nexts.Opened → OpensOwn configs epoch (setup_spelled text)
spelled_own configs epoch enough None is = absurd cc
spelled_own configs epoch enough (Some text) is =
    let it = judged_newest (suc epoch == length configs) (length configs == most_epochs) (length configs - 1) (next_judged configs enough (judged text)) is in
    let setup = judged_own configs enough (judged text) it.1 in
    let last : (suc epoch == length configs) ≡ true = it.0 in
    record { setup = setup.0; spelled = setup.1; newest = grind (arith, nat_tests, last); own = setup.2 }

-- ---- streams

none_at : {A : Type 0} (p : A → Bool) (xs : List A) (i : ℕ) (default : A) → list_any p xs ≡ false → i < length xs → p (get_or xs i default) ≡ false
none_at p [] i default none within = absurd (omega (arith, within))
none_at p (x ∷ xs) zero default none within = first (p x) (list_any p xs) none
  where
    first : (a b : Bool) → (a || b) ≡ false → a ≡ false
    first true b is = absurd cc
    first false b is = refl
none_at p (x ∷ xs) (suc i) default none within = none_at p xs i default (later (p x) (list_any p xs) none) (omega (arith, within))
  where
    later : (a b : Bool) → (a || b) ≡ false → b ≡ false
    later true b is = absurd cc
    later false b is = is

differs : (a b : ℕ) → (a == b) ≡ false → a ≢ b
differs a b other same = let is : (a == b) ≡ true = grind (arith, nat_tests, same) in absurd cc

-- ---- an entry more

-- what was handed over stays so
handed_stays : (cfg : Config) (h more : List RollEntry) (epoch : ℕ) → suc epoch < epoch_count h → IsHandedOver cfg h epoch → IsHandedOver cfg (h ++ more) epoch
handed_stays cfg h more epoch there it =
    let grown = history_grows cfg.ingests h more epoch in
    let next : config_at cfg h (suc epoch) ≡ config_at cfg (h ++ more) (suc epoch) = sym (config_stays cfg h more (suc epoch) there) in
    record {
      releaser = it.releaser;
      head = it.head;
      payload = it.payload;
      place = it.place;
      gave = ap (λ (es : List Entry). slice_get es it.place) grown.1
          ∙ slice_get-append (history_at cfg.ingests h epoch) grown.0 it.place (slice_get_within (history_at cfg.ingests h epoch) it.place (Taken it.releaser (Given it.head it.payload)) it.gave) ∙ it.gave;
      handed = it.handed ∙ ap (λ (c : Config). c.setup ∷ []) next;
      own = λ earlier before same.
          let was : config_at cfg (h ++ more) earlier ≡ config_at cfg h earlier = config_stays cfg h more earlier (omega (arith, there, before)) in
          it.own earlier before (ap (λ (c : Config). c.setup.stream.0) (sym was) ∙ same ∙ ap (λ (c : Config). c.setup.stream.0) (sym next));
    }

module _ (cfg : Config) (h : List RollEntry) (enough : Bool) (releaser epoch : ℕ) (newest : suc epoch ≡ epoch_count h) where
  abbrev replies : List Reply
  replies = map (reply_at cfg h) (range_with_len 0 (epoch_count h))

  abbrev next : Option Next
  next = option_map (next_of (configs_in cfg h) (length (answers_in cfg h) - 1) enough) (payload_given (answers_in cfg h))

  abbrev entry : RollEntry
  entry = RollTaken releaser (answers_in cfg h) next

  -- the setup that a take opens was handed over by the packet that it gave
  handed_now : opens next ≡ true → IsHandedOver cfg (h ++ entry ∷ []) epoch
  handed_now is =
      let opening = opening_payload (configs_in cfg h) (length (answers_in cfg h) - 1) enough (payload_given (answers_in cfg h)) is in
      let last = last_gives replies opening.0 opening.1 in
      let own = spelled_own (configs_in cfg h) (length (answers_in cfg h) - 1) enough (handover_text opening.0) opening.2 in
      let count = last.count in
      let all : length (configs_in cfg h) ≡ epoch_count h = configs_count cfg h in
      let number = own.newest in
      let place : last.place ≡ epoch = omega (arith, count, all, number, newest) in
      let there : epoch < epoch_count h = omega (arith, newest) in
      let setups : setup_opened entry ≡ own.setup ∷ [] =
      ap (λ (b : Bool). cond b (flat_map setup_given (answers_in cfg h)) []) is ∙ setups_of_given replies ∙ ap (λ (o : Option (List ℕ)). setups_with o) opening.1 ∙ own.spelled in
      let configs : configs_in cfg (h ++ entry ∷ []) ≡ configs_in cfg h ++ config_with cfg own.setup ∷ [] =
      ap (λ (ps : List Parts). cfg ∷ map (config_with cfg) ps) (setups_more h entry ∙ ap (λ (ps : List Parts). setups_opened h ++ ps) setups)
      ∙ ap (λ (cs : List Config). cfg ∷ cs) (map-append (config_with cfg) (setups_opened h) (own.setup ∷ [])) in
      let config : config_at cfg (h ++ entry ∷ []) (suc epoch) ≡ config_with cfg own.setup =
      ap (λ (cs : List Config). get_or cs (suc epoch) cfg) configs ∙ get_or_push (configs_in cfg h) (config_with cfg own.setup) cfg (suc epoch) (all ∙ sym newest) in
      let gives : slice_get (answers_in cfg h) epoch ≡ Some (Given last.head opening.0) = ap (λ (k : ℕ). slice_get (answers_in cfg h) k) (sym place) ∙ last.gives in
      let history : history_at cfg.ingests (h ++ entry ∷ []) epoch ≡ history_at cfg.ingests h epoch ++ Taken releaser (Given last.head opening.0) ∷ [] =
      at_more cfg.ingests h entry epoch ∙ ap (λ (es : List Entry). history_at cfg.ingests h epoch ++ es) (taken_open cfg.ingests releaser epoch h (answers_in cfg h) next there ∙ ap (taken_on releaser) gives) in
      record {
        releaser = releaser;
        head = last.head;
        payload = opening.0;
        place = length (history_at cfg.ingests h epoch);
        gave = ap (λ (es : List Entry). slice_get es (length (history_at cfg.ingests h epoch))) history ∙ at_end (history_at cfg.ingests h epoch) (Taken releaser (Given last.head opening.0));
        handed = own.spelled ∙ ap (λ (c : Config). c.setup ∷ []) (sym config);
        own = λ earlier before same.
            let was : config_at cfg (h ++ entry ∷ []) earlier ≡ config_at cfg h earlier = config_stays cfg h (entry ∷ []) earlier (omega (arith, there, before)) in
            differs (config_at cfg h earlier).setup.stream.0 own.setup.stream.0 (none_at (has_stream own.setup.stream) (configs_in cfg h) earlier cfg own.own (omega (arith, all, there, before)))
            (ap (λ (c : Config). c.setup.stream.0) (sym was) ∙ same ∙ ap (λ (c : Config). c.setup.stream.0) config);
      }
    where
      at_end : (xs : List Entry) (x : Entry) → slice_get (xs ++ x ∷ []) (length xs) ≡ Some x
      at_end [] x = refl
      at_end (y ∷ xs) x = at_end xs x

record EpochsHanded (cfg : Config) (h : List RollEntry) : Type 0 where
  legal : IsRollLegal cfg h
  each : (epoch : ℕ) → suc epoch < epoch_count h → IsHandedOver cfg h epoch

-- an entry that opens no epoch
handed_same : (cfg : Config) (h : List RollEntry) (e : RollEntry) → setup_opened e ≡ [] → EpochsHanded cfg h → (epoch : ℕ) → suc epoch < epoch_count (h ++ e ∷ []) → IsHandedOver cfg (h ++ e ∷ []) epoch
handed_same cfg h e none before epoch there =
    let same = count_same h e none in
    let was : suc epoch < epoch_count h = omega (arith, there, same) in
    handed_stays cfg h (e ∷ []) epoch was (before.each epoch was)

handed_event : (cfg : Config) (h : List RollEntry) (enough : Bool) (event : Event) → EpochsHanded cfg h → (epoch : ℕ) → suc epoch < epoch_count (h ++ roll_entry_of cfg h enough event ∷ []) → IsHandedOver cfg (h ++ roll_entry_of cfg h enough event ∷ []) epoch
handed_event cfg h enough (Arrives ingest reading bytes) before epoch there = handed_same cfg h (roll_entry_of cfg h enough (Arrives ingest reading bytes)) refl before epoch there
handed_event cfg h enough (Ends ingest) before epoch there = handed_same cfg h (roll_entry_of cfg h enough (Ends ingest)) refl before epoch there
handed_event cfg h enough (Takes releaser) before epoch there =
    let e : RollEntry = roll_entry_of cfg h enough (Takes releaser) in
    let next : Option Next = option_map (next_of (configs_in cfg h) (length (answers_in cfg h) - 1) enough) (payload_given (answers_in cfg h)) in
    ⊎_elim
    (λ (is : opens next ≡ true).
    let it = opens_one (configs_in cfg h) (length (answers_in cfg h) - 1) enough (map (reply_at cfg h) (range_with_len 0 (epoch_count h))) is in
    let more : epoch_count (h ++ e ∷ []) ≡ epoch_count h + 1 =
    ap (λ (ps : List Parts). suc (length ps)) (setups_more h e ∙ ap (λ (b : Bool). setups_opened h ++ cond b (flat_map setup_given (answers_in cfg h)) []) is ∙ ap (λ (ps : List Parts). setups_opened h ++ ps) it.1)
    ∙ ap suc (length-append (setups_opened h) (it.0 ∷ [])) ∙ omega arith in
    ⊎_elim
    (λ (older : nat_lt (suc epoch) (epoch_count h) ≡ true).
    let was : suc epoch < epoch_count h = grind (arith, nat_tests, older) in
    handed_stays cfg h (e ∷ []) epoch was (before.each epoch was))
    (λ (newer : nat_lt (suc epoch) (epoch_count h) ≡ false).
    let past : epoch_count h ≤ suc epoch = grind (arith, nat_tests, newer) in
    handed_now cfg h enough releaser epoch (omega (arith, past, there, more)) is)
    (cases_Bool (nat_lt (suc epoch) (epoch_count h))))
    (λ (is : opens next ≡ false). handed_same cfg h e (ap (λ (b : Bool). cond b (flat_map setup_given (answers_in cfg h)) []) is) before epoch there)
    (cases_Bool (opens next))

-- each setup after the first was handed over
pub setups_handed : (cfg : Config) (h : List RollEntry) (epoch : ℕ) → IsRollLegal cfg h → suc epoch < epoch_count h → IsHandedOver cfg h epoch
setups_handed cfg h epoch l there =
    (of_legal cfg (EpochsHanded cfg) (record { legal = tt; each = λ epoch there. absurd (omega (arith, there)) })
    (λ h enough event before. record { legal = entered_legal cfg h enough event before.legal; each = handed_event cfg h enough event before }) h l).each epoch there
