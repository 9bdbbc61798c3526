-- A take answers the same in both, and opens an epoch in both, of the same setup, or in neither.
use Rattle.std.proofs.Common.{◌≡◌, ◌⊎◌, inl, inr, ⊎_elim, ℕ, suc, ◌+◌, ◌-◌, ◌≤◌, ◌^◌, Bool, true, false, cond, not, ◌==◌, List, [], ◌∷◌, ◌++◌, length, map, take, drop, Option, Some, None, Result, Ok, Err, refl, sym, ap, ap₂, subst, ◌∙◌, arith}
use Rattle.std.specs.Prelude.{flat_map, option_map}
use Rattle.std.specs.List.{list_all, list_any, range_with_len}
use Rattle.std.proofs.lemmas.Bool.{ne_eqb}
use Rattle.std.proofs.lemmas.List.{length-map, map_push}
use Rattle.tesla_base.proofs.Filtered.{filter_same}
use Rattle.tesla_base.specs.declared.release.Head.{Head}
use Rattle.tesla_commit.specs.Equal.{first_equal}
use Rattle.tesla_commit.specs.Parsing.{judged}
use Rattle.tesla_commit.specs.Parts.{Parts}
use Rattle.tesla_commit.specs.declared.refusal.SetupKind.{SetupKind}
use Rattle.tesla_fitting.specs.declared.config.Config.{Config}
use Rattle.tesla_receiver.specs.Entries.{Entry}
use Rattle.tesla_receiver.specs.History.{Takes}
use Rattle.tesla_receiver.specs.declared.history.Entry.TheVariants.{Taken, Ended}
use Rattle.tesla_state.specs.declared.replies.Reply.{Reply}
use Rattle.tesla_state.specs.declared.replies.Reply.TheVariants as replies
use Rattle.tesla_rollover.specs.Epochs.{answers_in, has_stream, most_epochs, payload_given, reply_at, roll_entry_of, up_to_given}
use Rattle.tesla_rollover.specs.Epochs as rolls
use Rattle.tesla_rollover.specs.Handover.{handover_text, setup_judged, setup_spelled}
use Rattle.tesla_rollover.specs.History.{RollEntry, RollTaken, config_at, config_with, configs_in, epoch_count, has_roll_end, history_at, opens, setup_given}
use Rattle.tesla_rollover.specs.History as opened
use Rattle.tesla_rollover.specs.Kept.{with_takes}
use Rattle.tesla_rollover.specs.Replies.{IsEmpty, IsOver, is_over, reply_from, reply_with}
use Rattle.tesla_rollover.specs.Stands.{histories_in}
use Rattle.tesla_rollover.specs.declared.answers.Next.{Next}
use Rattle.tesla_rollover.specs.declared.answers.Next.TheVariants as nexts
use Rattle.tesla_rollover.proofs.Answered.{GaveAt, setups_of_given, setups_with}
use Rattle.tesla_rollover.proofs.InStep.{configs_numbered}
use Rattle.tesla_rollover.proofs.Legal.{answers_few, entered_legal}
use Rattle.tesla_rollover.proofs.Moved.{configs_opened, histories_opened, histories_taken}
use Rattle.tesla_follow.specs.declared.answers.FollowNext.{FollowNext}
use Rattle.tesla_follow.specs.declared.answers.FollowNext.TheVariants.{Old, EpochsSpent, UsedStream, Opened}
use Rattle.tesla_follow.specs.declared.answers.FollowReply.TheVariants.{Released, Empty, Over}
use Rattle.tesla_follow.specs.Followed.{Accepted, Followed, FollowedEpoch, TakesOne, after_next, after_opening, after_text, asked_all, config_of, ends_before, gives_asked, gives_none, gives_released, head_at, history_of, is_known, most_known, most_numbered, next_judged, next_of, next_of_setup, next_spelled, oldest, takes_in_turn}
use Rattle.tesla_follow.specs.History.{after_event, entry_of}
use Rattle.tesla_follow.specs.Kept.{reply_of}
use Rattle.tesla_laws.specs.Rolled.{Gave, IsShared, IsSharedNext, next_shared, told_followed, told_reply}
use Rattle.tesla_laws.proofs.InStep.{Alike, Steps, any_config, configs_asked, configs_same, ends_kept, histories_asked, replies_from}

-- ---- which epoch gave a packet

-- the epoch that gave one
record GivesAt (cfg : Config) (it : Followed) (all : List Reply) (first : ℕ) (rs : List Reply) : Type 0 where
  epoch : ℕ
  head : Head
  payload : List ℕ
  is : gives_asked cfg it all first rs ≡ gives_released cfg it epoch head payload
  at : GaveAt first rs epoch head payload

-- none gave one
record GivesNone (cfg : Config) (it : Followed) (all : List Reply) (first : ℕ) (rs : List Reply) : Type 0 where
  is : gives_asked cfg it all first rs ≡ gives_none it all it.queue
  payload_is : payload_given rs ≡ None

-- behind one more answer that gave none
later : (first epoch : ℕ) (head : Head) (payload : List ℕ) (rs : List Reply) (reply : Reply) → payload_given (reply ∷ rs) ≡ payload_given rs → ((next : Next) → reply_from first (reply ∷ rs) next ≡ reply_from (first + 1) rs next)
    → GaveAt (suc first) rs epoch head payload → GaveAt first (reply ∷ rs) epoch head payload
later first epoch head payload rs reply none on at =
    let step : first + 1 ≡ suc first = omega arith in
    record {
      payload_is = none ∙ at.payload_is;
      number = (let number = at.number in omega (arith, number));
      reply = λ next. on next ∙ ap (λ (k : ℕ). reply_from k rs next) step ∙ at.reply next;
    }

outcome : (cfg : Config) (it : Followed) (all : List Reply) (qs : List Reply) (first : ℕ) → GivesAt cfg it all first (up_to_given qs) ⊎ GivesNone cfg it all first (up_to_given qs)
outcome cfg it all [] first = inr (record { is = refl; payload_is = refl })
outcome cfg it all (replies.Given head payload ∷ qs) first =
    inl (record { epoch = first; head = head; payload = payload; is = refl; at = record { payload_is = refl; number = omega arith; reply = λ next. refl } })
outcome cfg it all (replies.Empty ∷ qs) first =
    ⊎_elim
    (λ (p : GivesAt cfg it all (suc first) (up_to_given qs)). inl (record { epoch = p.epoch; head = p.head; payload = p.payload; is = p.is; at = later first p.epoch p.head p.payload (up_to_given qs) replies.Empty refl (λ next. refl) p.at }))
    (λ (p : GivesNone cfg it all (suc first) (up_to_given qs)). inr (record { is = p.is; payload_is = p.payload_is }))
    (outcome cfg it all qs (suc first))
outcome cfg it all (replies.Over ∷ qs) first =
    ⊎_elim
    (λ (p : GivesAt cfg it all (suc first) (up_to_given qs)). inl (record { epoch = p.epoch; head = p.head; payload = p.payload; is = p.is; at = later first p.epoch p.head p.payload (up_to_given qs) replies.Over refl (λ next. refl) p.at }))
    (λ (p : GivesNone cfg it all (suc first) (up_to_given qs)). inr (record { is = p.is; payload_is = p.payload_is }))
    (outcome cfg it all qs (suc first))

-- ---- what a payload came to

-- it opens no epoch, in neither
record StaysShut (cfg : Config) (followed : FollowNext) (rolled : Next) : Type 0 where
  same : next_shared followed ≡ Some rolled
  shut : opens (Some rolled) ≡ false
  still : (it : Followed) (payload : List ℕ) → after_next cfg it payload followed ≡ it

-- it opens one of the same setup, in both
record OpensBoth (text : Option (List ℕ)) (followed : FollowNext) (rolled : Next) : Type 0 where
  followed_is : followed ≡ Opened
  rolled_is : rolled ≡ nexts.Opened
  spelled : List ℕ
  setup : Parts
  text_is : text ≡ Some spelled
  setup_is : judged spelled ≡ Ok setup

-- no more epochs are known than there are
all_known : (es : List FollowedEpoch) → length es ≤ 3 → drop (length es - most_known) es ≡ es
all_known es few = let none : length es - most_known ≡ 0 = omega (arith, few) in ap (λ (n : ℕ). drop n es) none

module _ (cfg : Config) (it : Followed) (configs : List Config) (are : map config_of it.epochs ≡ configs) (few : length it.epochs ≤ 3) where
  abbrev Both : Option (List ℕ) → FollowNext → Next → Type 0
  Both text followed rolled = StaysShut cfg followed rolled ⊎ OpensBoth text followed rolled

  known_is : (setup : Parts) → is_known it setup ≡ list_any (has_stream setup.stream) configs
  known_is setup =
      ap (list_any (λ (epoch : FollowedEpoch). has_stream setup.stream epoch.config)) (all_known it.epochs few)
      ∙ any_config (has_stream setup.stream) it.epochs
      ∙ ap (list_any (has_stream setup.stream)) are

  count_is : length it.epochs ≡ length configs
  count_is = sym (length-map it.epochs config_of) ∙ ap length are

  known_both : (text : List ℕ) (setup : Parts) → judged text ≡ Ok setup → (b : Bool) → Both (Some text) (cond b (UsedStream setup.stream) Opened) (cond b (nexts.UsedStream setup.stream) nexts.Opened)
  known_both text setup is true = inl (record { same = refl; shut = refl; still = λ other payload. refl })
  known_both text setup is false = inr (record { followed_is = refl; rolled_is = refl; spelled = text; setup = setup; text_is = refl; setup_is = is })

  setup_both : (text : List ℕ) (setup : Parts) → judged text ≡ Ok setup → (chain : Option ℕ) → IsSharedNext (next_of_setup it setup chain)
      → Both (Some text) (next_of_setup it setup chain) (rolls.next_judged configs true (Ok setup))
  setup_both text setup is (Some chain) shared = absurd shared
  setup_both text setup is None shared =
      subst (λ (b : Bool). Both (Some text) (cond b (UsedStream setup.stream) Opened) (rolls.next_judged configs true (Ok setup))) (sym (known_is setup))
      (known_both text setup is (list_any (has_stream setup.stream) configs))

  judged_both : (text : List ℕ) (j : Result Parts (ℕ × SetupKind)) → judged text ≡ j → IsSharedNext (next_judged it j) → Both (Some text) (next_judged it j) (rolls.next_judged configs true j)
  judged_both text (Err refused) is shared = inl (record { same = refl; shut = refl; still = λ other payload. refl })
  judged_both text (Ok setup) is shared = setup_both text setup is (first_equal setup.rows) shared

  -- an epoch that isn't the newest hands nothing over
  newest_both : (text : List ℕ) (n : ℕ) (old : Bool) → n ≤ 3 → IsSharedNext (cond (not old) (Old (n - 1)) (cond (n == most_numbered) EpochsSpent (next_judged it (judged text))))
      → Both (Some text) (cond (not old) (Old (n - 1)) (cond (n == most_numbered) EpochsSpent (next_judged it (judged text)))) (cond (not old) (nexts.Old (n - 1)) (cond (n == most_epochs) nexts.EpochsSpent (rolls.next_judged configs true (judged text))))
  newest_both text n false small shared = inl (record { same = refl; shut = refl; still = λ other payload. refl })
  newest_both text n true small shared =
      let numbered : (n == most_numbered) ≡ false = ne_eqb n (2 ^ 32) (λ e. absurd (omega (arith, e, small))) in
      let sixteen : (n == most_epochs) ≡ false = ne_eqb n 16 (λ e. absurd (omega (arith, e, small))) in
      let told : IsSharedNext (next_judged it (judged text)) = subst (λ (b : Bool). IsSharedNext (cond b EpochsSpent (next_judged it (judged text)))) numbered shared in
      subst (λ (b : Bool). Both (Some text) (cond b EpochsSpent (next_judged it (judged text))) (cond (n == most_epochs) nexts.EpochsSpent (rolls.next_judged configs true (judged text)))) (sym numbered)
      (subst (λ (b : Bool). Both (Some text) (next_judged it (judged text)) (cond b nexts.EpochsSpent (rolls.next_judged configs true (judged text)))) (sym sixteen)
      (judged_both text (judged text) refl told))

  spelled_both : (epoch : ℕ) (text : Option (List ℕ)) → IsSharedNext (next_spelled it epoch text) → Both text (next_spelled it epoch text) (rolls.next_spelled configs epoch true text)
  spelled_both epoch None shared = inl (record { same = refl; shut = refl; still = λ other payload. refl })
  spelled_both epoch (Some text) shared =
      subst (λ (n : ℕ). Both (Some text) (next_spelled it epoch (Some text)) (cond (not (suc epoch == n)) (nexts.Old (n - 1)) (cond (n == most_epochs) nexts.EpochsSpent (rolls.next_judged configs true (judged text))))) count_is
      (newest_both text (length it.epochs) (suc epoch == length it.epochs) few shared)

-- ---- a take

module _ (cfg : Config) (it : Followed) (r : List RollEntry) (al : Alike cfg it r) (releaser : ℕ) where
  abbrev answers : List Reply
  answers = answers_in cfg r

  -- once the epochs were asked
  abbrev asked : Followed
  asked = record it { epochs = asked_all releaser answers it.epochs }

  abbrev next_rolled : Option Next
  next_rolled = option_map (rolls.next_of (configs_in cfg r) (length answers - 1) true) (payload_given answers)

  abbrev entry : RollEntry
  entry = RollTaken releaser answers next_rolled

  configs_now : map config_of asked.epochs ≡ configs_in cfg r
  configs_now = configs_asked releaser answers it.epochs ∙ al.configs

  histories_now : map history_of asked.epochs ≡ with_takes releaser answers (histories_in cfg.ingests r)
  histories_now = histories_asked releaser answers it.epochs ∙ ap (with_takes releaser answers) al.histories

  -- where none was opened
  shut_alike : (made : Followed) → made.epochs ≡ asked.epochs → made.ended ≡ it.ended → made.turn ≡ true → opens next_rolled ≡ false → Alike cfg made (r ++ entry ∷ [])
  shut_alike made same ended turn shut = record {
    configs = ap (map config_of) same ∙ configs_now ∙ sym (configs_same cfg r entry (ap (λ (b : Bool). cond b (flat_map setup_given answers) []) shut));
    histories = ap (map history_of) same ∙ histories_now ∙ sym (histories_taken cfg r releaser answers next_rolled (answers_few cfg r) shut);
    ends = λ ingest. ap (list_any (λ (other : ℕ). other == ingest)) ended ∙ al.ends ingest ∙ sym (ends_kept r entry ingest refl);
    turn = turn;
    legal = entered_legal cfg r true (Takes releaser) al.legal;
  }

  ends_are : ends_before cfg it ≡ opened.ends_before cfg.ingests r
  ends_are = ap (map (λ (ingest : ℕ). Ended ingest)) (filter_same (λ (ingest : ℕ). list_any (λ (other : ℕ). other == ingest) it.ended) (has_roll_end r) (range_with_len 0 cfg.ingests) al.ends)

  -- where one was
  open_alike : (made : Followed) (setup : Parts) → made.epochs ≡ asked.epochs ++ record { config = config_with cfg setup; history = ends_before cfg it; teaching = ends_before cfg it } ∷ [] → made.ended ≡ it.ended → made.turn ≡ true → opens next_rolled ≡ true
      → flat_map setup_given answers ≡ setup ∷ [] → Alike cfg made (r ++ entry ∷ [])
  open_alike made setup same ended turn opened_is one =
      let e : FollowedEpoch = record { config = config_with cfg setup; history = ends_before cfg it; teaching = ends_before cfg it } in
      record {
        configs = ap (map config_of) same ∙ map_push config_of asked.epochs e ∙ ap (λ (cs : List Config). cs ++ config_with cfg setup ∷ []) configs_now
            ∙ sym (configs_opened cfg r releaser answers next_rolled (answers_few cfg r) setup opened_is one);
        histories = ap (map history_of) same ∙ map_push history_of asked.epochs e
            ∙ ap₂ (λ (hs : List (List Entry)) (h : List Entry). hs ++ h ∷ []) histories_now ends_are
            ∙ sym (histories_opened cfg r releaser answers next_rolled (answers_few cfg r) setup al.legal opened_is one);
        ends = λ ingest. ap (list_any (λ (other : ℕ). other == ingest)) ended ∙ al.ends ingest ∙ sym (ends_kept r entry ingest refl);
        turn = turn;
        legal = entered_legal cfg r true (Takes releaser) al.legal;
      }

  -- ---- none gave a packet

  none_told : (over : Bool) → told_followed (Taken releaser (cond over Over Empty)) ≡ told_reply releaser (cond over IsOver IsEmpty)
  none_told true = refl
  none_told false = refl

  none_steps : it.queue ≡ [] → GivesNone cfg asked answers 0 answers → let taken = gives_asked cfg asked answers 0 answers in Steps cfg r taken.after (Taken releaser taken.reply) (Takes releaser)
  none_steps empty none =
      let nothing : next_rolled ≡ None = ap (option_map (rolls.next_of (configs_in cfg r) (length answers - 1) true)) none.payload_is in
      let is : gives_asked cfg asked answers 0 answers ≡ gives_none asked answers [] = none.is ∙ ap (gives_none asked answers) empty in
      subst (λ (taken : TakesOne). Steps cfg r taken.after (Taken releaser taken.reply) (Takes releaser)) (sym is)
      (record {
        told = none_told (list_all is_over answers) ∙ ap (λ (o : Option Next). told_reply releaser (reply_with answers o)) (sym nothing);
        alike = shut_alike asked refl refl al.turn (ap opens nothing);
      })

  -- ---- one gave a packet

  module _ (epoch : ℕ) (head : Head) (payload : List ℕ) (at : GaveAt 0 answers epoch head payload) where
    abbrev given : Followed
    given = record asked { turn = true; records = suc it.records }

    abbrev followed_next : FollowNext
    followed_next = next_of asked epoch payload

    abbrev rolled_next : Next
    rolled_next = rolls.next_of (configs_in cfg r) epoch true payload

    next_is : next_rolled ≡ Some rolled_next
    next_is =
        let number = at.number in
        let last : length answers - 1 ≡ epoch = omega (arith, number) in
        ap (option_map (rolls.next_of (configs_in cfg r) (length answers - 1) true)) at.payload_is
        ∙ ap (λ (k : ℕ). Some (rolls.next_of (configs_in cfg r) k true payload)) last

    reply_told : (next : Next) → next_shared followed_next ≡ Some next → rolled_next ≡ next
        → told_followed (Taken releaser (Released epoch (head_at it.records head) payload followed_next)) ≡ told_reply releaser (reply_with answers next_rolled)
    reply_told next shared is =
        ap (λ (o : Option Next). Gave releaser epoch (head_at 0 head) payload o) (shared ∙ ap (λ (n : Next). Some n) (sym is))
        ∙ ap (told_reply releaser) (sym (at.reply rolled_next))
        ∙ ap (λ (o : Option Next). told_reply releaser (reply_with answers o)) (sym next_is)

    abbrev ReleasedSteps : Type 0
    ReleasedSteps = Steps cfg r (after_next cfg given payload followed_next) (Taken releaser (Released epoch (head_at it.records head) payload followed_next)) (Takes releaser)

    shut_steps : StaysShut cfg followed_next rolled_next → ReleasedSteps
    shut_steps stays = record {
      told = reply_told rolled_next stays.same refl;
      alike = subst (λ (made : Followed). Alike cfg made (r ++ entry ∷ [])) (sym (stays.still given payload)) (shut_alike given refl refl refl (ap opens next_is ∙ stays.shut));
    }

    open_steps : OpensBoth (handover_text payload) followed_next rolled_next → ReleasedSteps
    open_steps both =
        let made : after_next cfg given payload followed_next ≡ after_opening cfg given (Ok both.setup) =
        ap (after_next cfg given payload) both.followed_is
        ∙ ap (after_text cfg given) both.text_is
        ∙ ap (after_opening cfg given) both.setup_is in
        let setups : flat_map setup_given answers ≡ both.setup ∷ [] =
        setups_of_given (map (reply_at cfg r) (range_with_len 0 (epoch_count r)))
        ∙ ap setups_with at.payload_is
        ∙ ap setup_spelled both.text_is
        ∙ ap setup_judged both.setup_is in
        record {
          told = reply_told nexts.Opened (ap next_shared both.followed_is) both.rolled_is;
          alike = subst (λ (made : Followed). Alike cfg made (r ++ entry ∷ [])) (sym made)
              (open_alike (after_opening cfg given (Ok both.setup)) both.setup refl refl refl (ap opens next_is ∙ ap (λ (n : Next). opens (Some n)) both.rolled_is) setups);
        }

    released_steps : length it.epochs ≤ 3 → IsSharedNext followed_next → ReleasedSteps
    released_steps few shared =
        let count : length asked.epochs ≡ length it.epochs = sym (length-map asked.epochs config_of) ∙ ap length (configs_asked releaser answers it.epochs) ∙ length-map it.epochs config_of in
        ⊎_elim shut_steps open_steps
        (spelled_both cfg asked (configs_in cfg r) configs_now (omega (arith, count, few)) epoch (handover_text payload) shared)

  -- ---- any take

  abbrev taking : List Reply → TakesOne
  taking rs = gives_asked cfg (record it { epochs = asked_all releaser rs it.epochs }) rs 0 rs

  given_steps : length it.epochs ≤ 3 → GivesAt cfg asked answers 0 answers → IsShared (Taken releaser (taking answers).reply) → Steps cfg r (taking answers).after (Taken releaser (taking answers).reply) (Takes releaser)
  given_steps few gives like =
      let shared : IsSharedNext (next_of asked gives.epoch gives.payload) = subst (λ (taken : TakesOne). IsShared (Taken releaser taken.reply)) gives.is like in
      subst (λ (taken : TakesOne). Steps cfg r taken.after (Taken releaser taken.reply) (Takes releaser)) (sym gives.is)
      (released_steps gives.epoch gives.head gives.payload gives.at few shared)

  answered_steps : length it.epochs ≤ 3 → it.queue ≡ [] → IsShared (Taken releaser (taking answers).reply) → Steps cfg r (taking answers).after (Taken releaser (taking answers).reply) (Takes releaser)
  answered_steps few empty like =
      ⊎_elim
      (λ (gives : GivesAt cfg asked answers 0 answers). given_steps few gives like)
      (λ (none : GivesNone cfg asked answers 0 answers). none_steps empty none)
      (outcome cfg asked answers (map (reply_at cfg r) (range_with_len 0 (epoch_count r))) 0)

  answers_are : answers ≡ up_to_given (map reply_of it.epochs)
  answers_are =
      ap up_to_given (sym (replies_from it.epochs (config_at cfg r) (history_at cfg.ingests r) 0 (epoch_count r) (al.configs ∙ configs_numbered cfg r) al.histories))

  abbrev TakingSteps : TakesOne → Type 0
  TakingSteps taken = IsShared (Taken releaser taken.reply) → Steps cfg r taken.after (Taken releaser taken.reply) (Takes releaser)

  -- where the oldest epoch that is open has this number
  abbrev taking_from : ℕ → TakesOne
  taking_from n = (let rs = up_to_given (map reply_of (drop n it.epochs)) in gives_asked cfg (record it { epochs = take n it.epochs ++ asked_all releaser rs (drop n it.epochs) }) rs n rs)

  asking_steps : length it.epochs ≤ 3 → it.queue ≡ [] → TakingSteps (taking_from (oldest it))
  asking_steps few empty =
      let first : 0 ≡ oldest it = omega (arith, few) in
      subst (λ (n : ℕ). TakingSteps (taking_from n)) first
      (subst (λ (rs : List Reply). TakingSteps (taking rs)) answers_are (answered_steps few empty))

  turn_steps : (queue : List Accepted) → it.queue ≡ queue → length it.epochs ≤ 3 → TakingSteps (takes_in_turn cfg it releaser true queue)
  turn_steps [] is few like = asking_steps few is like
  turn_steps (accepted ∷ others) is few like = absurd like

  pub takes : length it.epochs ≤ 3 → IsShared (entry_of cfg it (Takes releaser)) → Steps cfg r (after_event cfg it (Takes releaser)) (entry_of cfg it (Takes releaser)) (Takes releaser)
  takes few = subst (λ (turn : Bool). TakingSteps (takes_in_turn cfg it releaser turn it.queue)) (sym al.turn) (turn_steps it.queue refl few)
