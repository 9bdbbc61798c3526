-- Receivers that stand for histories, one by one.
use Rattle.std.proofs.Common.{◌≡◌, ℕ, zero, suc, ◌+◌, ◌-◌, ◌≤◌, List, [], ◌∷◌, ◌++◌, length, map, get_or, set, Some, refl, sym, ap, subst, ◌∙◌, arith}
use Rattle.std.specs.Prelude.{slice_get}
use Rattle.std.specs.List.{range_with_len}
use Rattle.std.proofs.lemmas.List.{append-nil}
use Rattle.std.proofs.lemmas.List.FromFn.{fill_by_all}
use Rattle.tesla_fitting.specs.declared.config.Config.{Config}
use Rattle.tesla_receiver.specs.History.{reply_to}
use Rattle.tesla_receiver.specs.Stands.{Stands}
use Rattle.tesla_receiver.specs.Entries.{Entry}
use Rattle.tesla_receiver.specs.declared.history.Entry.TheVariants.{Taken}
use Rattle.tesla_state.specs.State.{State}
use Rattle.tesla_state.specs.declared.replies.Reply.{Reply}
use Rattle.tesla_rollover.specs.Epochs.{reply_at}
use Rattle.tesla_rollover.specs.History.{RollEntry, configs_in, config_at, epoch_count, history_at, taken_on}
use Rattle.tesla_rollover.specs.Kept.{replies_of, with_takes}
use Rattle.tesla_rollover.specs.Stands.{StandAll, config_in, histories_in}
use Rattle.tesla_base.proofs.Lists.{map_same}
use Rattle.tesla_rollover.proofs.Legal.{configs_count}
use Rattle.tesla_rollover.proofs.Numbers.{rest_same}

-- the receiver of a number stands for the history of that number
stand_from : (states : List State) (f : ℕ → List Entry) (a n k : ℕ) (state : State) → StandAll states (map f (range_with_len a n)) → slice_get states k ≡ Some state → Stands state (f (a + k))
stand_from [] f a n k state all at = absurd cc
stand_from (s ∷ states) f a zero k state all at = absurd all
stand_from (s ∷ states) f a (suc n) zero state all at =
    let same : s ≡ state = cc in
    let here : a ≡ a + zero = omega arith in
    subst (λ (x : State). Stands x (f (a + zero))) same (subst (λ (j : ℕ). Stands s (f j)) here all.0)
stand_from (s ∷ states) f a (suc n) (suc k) state all at =
    let further : a + 1 + k ≡ a + suc k = omega arith in
    subst (λ (j : ℕ). Stands state (f j)) further (stand_from states f (a + 1) n k state all.1 at)

pub stand_at : (ingests : ℕ) (h : List RollEntry) (states : List State) (k : ℕ) (state : State) → StandAll states (histories_in ingests h) → slice_get states k ≡ Some state → Stands state (history_at ingests h k)
stand_at ingests h states k state all at =
    let plain : 0 + k ≡ k = omega arith in
    subst (λ (j : ℕ). Stands state (history_at ingests h j)) plain (stand_from states (history_at ingests h) 0 (epoch_count h) k state all at)

-- with one of both replaced
pub stand_set : (states : List State) (histories : List (List Entry)) (k : ℕ) (state : State) (history : List Entry) → StandAll states histories → Stands state history → StandAll (set states k state) (set histories k history)
stand_set [] [] k state history all one = tt
stand_set [] (h ∷ histories) k state history all one = absurd all
stand_set (s ∷ states) [] k state history all one = absurd all
stand_set (s ∷ states) (h ∷ histories) zero state history all one = (one, all.1)
stand_set (s ∷ states) (h ∷ histories) (suc k) state history all one = (all.0, stand_set states histories k state history all.1 one)

-- with one more of both
pub stand_more : (states : List State) (histories : List (List Entry)) (state : State) (history : List Entry) → StandAll states histories → Stands state history → StandAll (states ++ state ∷ []) (histories ++ history ∷ [])
stand_more [] [] state history all one = (one, tt)
stand_more [] (h ∷ histories) state history all one = absurd all
stand_more (s ∷ states) [] state history all one = absurd all
stand_more (s ∷ states) (h ∷ histories) state history all one = (all.0, stand_more states histories state history all.1 one)

-- ---- their configurations

configs_at : (states : List State) (configs : List Config) (k : ℕ) (state : State) (default : Config) → map config_in states ≡ configs → slice_get states k ≡ Some state → state.config ≡ get_or configs k default
configs_at states configs k state default same at = got states k at ∙ ap (λ (cs : List Config). get_or cs k default) same
  where
    got : (states : List State) (k : ℕ) → slice_get states k ≡ Some state → state.config ≡ get_or (map config_in states) k default
    got [] k at = absurd cc
    got (s ∷ states) zero at = let e : s ≡ state = cc in ap config_in (sym e)
    got (s ∷ states) (suc k) at = got states k at

pub config_is : (cfg : Config) (h : List RollEntry) (states : List State) (k : ℕ) (state : State) → map config_in states ≡ configs_in cfg h → slice_get states k ≡ Some state → state.config ≡ config_at cfg h k
config_is cfg h states k state same at = configs_at states (configs_in cfg h) k state cfg same at

-- what is the same of one state that was put in the place of another is the same of all
pub same_set : {A : Type 0} (f : State → A) (states : List State) (k : ℕ) (old new : State) → slice_get states k ≡ Some old → f new ≡ f old → map f (set states k new) ≡ map f states
same_set {A} f [] k old new at same = absurd cc
same_set {A} f (s ∷ states) zero old new at same = let e : s ≡ old = cc in ap (λ (c : A). c ∷ map f states) (same ∙ ap f (sym e))
same_set {A} f (s ∷ states) (suc k) old new at same = ap (λ (cs : List A). f s ∷ cs) (same_set f states k old new at same)

pub configs_numbered : (cfg : Config) (h : List RollEntry) → configs_in cfg h ≡ map (config_at cfg h) (range_with_len 0 (epoch_count h))
configs_numbered cfg h = fill_by_all (config_at cfg h) (configs_in cfg h) (epoch_count h) cfg (configs_count cfg h) (λ k below. refl)

-- ---- their answers

replies_from : (states : List State) (g : ℕ → Config) (f : ℕ → List Entry) (a n : ℕ) → map config_in states ≡ map g (range_with_len a n) → replies_of states (map f (range_with_len a n)) ≡ map (λ k. reply_to (g k) (f k)) (range_with_len a n)
replies_from [] g f a zero same = refl
replies_from [] g f a (suc n) same = absurd cc
replies_from (s ∷ states) g f a zero same = absurd cc
replies_from (s ∷ states) g f a (suc n) same =
    let first : s.config ≡ g a = cc in
    let others : map config_in states ≡ map g (range_with_len (a + 1) n) = cc in
    ap (λ (c : Config). reply_to c (f a) ∷ replies_of states (map f (range_with_len (a + 1) n))) first
    ∙ ap (λ (rs : List Reply). reply_to (g a) (f a) ∷ rs) (replies_from states g f (a + 1) n others)

-- the receivers' answers to a take are those of the epochs
pub replies_are : (cfg : Config) (h : List RollEntry) (states : List State) → map config_in states ≡ configs_in cfg h → replies_of states (histories_in cfg.ingests h) ≡ map (reply_at cfg h) (range_with_len 0 (epoch_count h))
replies_are cfg h states same = replies_from states (config_at cfg h) (history_at cfg.ingests h) 0 (epoch_count h) (same ∙ configs_numbered cfg h)

-- ---- takes

takes_from : (releaser : ℕ) (answers : List Reply) (f : ℕ → List Entry) (a n : ℕ) → length answers ≤ n → with_takes releaser answers (map f (range_with_len a n)) ≡ map (λ k. f k ++ taken_on releaser (slice_get answers (k - a))) (range_with_len a n)
takes_from releaser [] f a n few = rest_same (λ k. f k ++ []) f a n (λ k h. sym (append-nil (f k)))
takes_from releaser (reply ∷ answers) f a zero few = absurd (omega (arith, few))
takes_from releaser (reply ∷ answers) f a (suc n) few =
    let none : zero ≡ a - a = omega arith in
    ap (λ (hs : List (List Entry)). (f a ++ Taken releaser reply ∷ []) ∷ hs)
    (takes_from releaser answers f (a + 1) n (omega (arith, few))
    ∙ rest_same (λ k. f k ++ taken_on releaser (slice_get (reply ∷ answers) (k - a))) (λ k. f k ++ taken_on releaser (slice_get answers (k - (a + 1)))) (a + 1) n
    (λ k h. let step : suc (k - (a + 1)) ≡ k - a = omega (arith, h) in ap (λ (j : ℕ). f k ++ taken_on releaser (slice_get (reply ∷ answers) j)) step))
    ∙ ap (λ (j : ℕ). (f a ++ taken_on releaser (slice_get (reply ∷ answers) j)) ∷ map (λ k. f k ++ taken_on releaser (slice_get (reply ∷ answers) (k - a))) (range_with_len (a + 1) n)) none

-- the histories after a take with these answers
pub takes_are : (releaser : ℕ) (answers : List Reply) (f : ℕ → List Entry) (n : ℕ) → length answers ≤ n → with_takes releaser answers (map f (range_with_len 0 n)) ≡ map (λ k. f k ++ taken_on releaser (slice_get answers k)) (range_with_len 0 n)
takes_are releaser answers f n few =
    takes_from releaser answers f 0 n few
    ∙ map_same (λ k. f k ++ taken_on releaser (slice_get answers (k - 0))) (λ k. f k ++ taken_on releaser (slice_get answers k)) (range_with_len 0 n)
    (λ k. let plain : k - 0 ≡ k = omega arith in ap (λ (j : ℕ). f k ++ taken_on releaser (slice_get answers j)) plain)
