-- A call keeps what is kept within the limits.
use Rattle.std.proofs.Common.{◌≡◌, ℕ, zero, suc, ◌+◌, ◌^◌, ◌<◌, ◌≤◌, List, [], ◌∷◌, ◌++◌, length, length-append, map, take, drop, get_or, set, Some, refl, sym, ap, subst, ◌∙◌, arith}
use Rattle.std.specs.Prelude.{slice_get, sum_by}
use Rattle.std.specs.List.{AllByRecursion, range_with_len}
use Rattle.std.proofs.lemmas.List.Sums.{sum_by-cons}
use Rattle.tesla_commit.specs.Parts.{Parts}
use Rattle.tesla_fitting.specs.declared.config.Config.{Config}
use Rattle.tesla_receiver.specs.Events.{waiting_in}
use Rattle.tesla_receiver.specs.Entries.{Entry}
use Rattle.tesla_state.specs.State.{State}
use Rattle.tesla_rollover.specs.History.{RollEntry, config_at, configs_in, epoch_count, history_at}
use Rattle.tesla_rollover.specs.Kept.{HasIngests, IsCalled, IsRollKept, OpensEpoch, configs_of, receivers_of, waiting_of}
use Rattle.tesla_rollover.specs.Events.{roll_waiting_in}
use Rattle.tesla_rollover.specs.Stands.{config_in, histories_in}
use Rattle.tesla_rollover.specs.declared.epoch.Epoch.{Epoch}
use Rattle.tesla_rollover.proofs.InStep.{configs_numbered}

-- ---- lists

take_prefix : {A : Type 0} (n : ℕ) (ys zs : List A) → length ys ≡ n → take n (ys ++ zs) ≡ ys
take_prefix zero [] zs h = refl
take_prefix zero (y ∷ ys) zs h = absurd (omega (arith, h))
take_prefix (suc n) [] zs h = absurd (omega (arith, h))
take_prefix (suc n) (y ∷ ys) zs h = ap (λ rs. y ∷ rs) (take_prefix n ys zs (omega (arith, h)))

-- epochs with the same configurations are as many
pub as_many : (xs ys : List Epoch) → configs_of xs ≡ configs_of ys → length xs ≡ length ys
as_many [] [] same = refl
as_many [] (y ∷ ys) same = absurd cc
as_many (x ∷ xs) [] same = absurd cc
as_many (x ∷ xs) (y ∷ ys) same = let others : configs_of xs ≡ configs_of ys = cc in ap suc (as_many xs ys others)

-- as many epochs as there were are written back whole
pub epochs_back : (n : ℕ) (now new old : List Epoch) → length now ≡ n → configs_of new ≡ configs_of now → take n (new ++ drop (length new) old) ≡ new
epochs_back n now new old long same = take_prefix n new (drop (length new) old) (as_many new now same ∙ long)

pub receivers_set : (epochs : List Epoch) (k : ℕ) (epoch : Epoch) → receivers_of (set epochs k epoch) ≡ set (receivers_of epochs) k epoch.receiver
receivers_set [] k epoch = refl
receivers_set (e ∷ epochs) zero epoch = refl
receivers_set (e ∷ epochs) (suc k) epoch = ap (λ ss. e.receiver ∷ ss) (receivers_set epochs k epoch)

pub receiver_got : (epochs : List Epoch) (k : ℕ) (default : Epoch) → k < length epochs → slice_get (receivers_of epochs) k ≡ Some (get_or epochs k default).receiver
receiver_got [] k default below = absurd (omega (arith, below))
receiver_got (e ∷ epochs) zero default below = refl
receiver_got (e ∷ epochs) (suc k) default below = receiver_got epochs k default (omega (arith, below))

-- one epoch that was put behind none
pub receivers_first : (after before : List Epoch) (epoch : Epoch) → after ≡ before ++ epoch ∷ [] → before ≡ [] → receivers_of after ≡ epoch.receiver ∷ []
receivers_first after before epoch put none = ap receivers_of put ∙ ap (λ (es : List Epoch). receivers_of (es ++ epoch ∷ [])) none

-- ---- what is kept

pub same_ingests : (n : ℕ) (xs ys : List Epoch) → configs_of ys ≡ configs_of xs → AllByRecursion (HasIngests n) xs → AllByRecursion (HasIngests n) ys
same_ingests n [] [] same all = tt
same_ingests n [] (y ∷ ys) same all = absurd cc
same_ingests n (x ∷ xs) [] same all = absurd cc
same_ingests n (x ∷ xs) (y ∷ ys) same all =
    let first : y.receiver.config ≡ x.receiver.config = cc in
    let others : configs_of ys ≡ configs_of xs = cc in
    (ap (λ (c : Config). c.ingests) first ∙ all.0, same_ingests n xs ys others all.1)

one_call : (calls : ℕ) → calls + 256 + 1 ≡ calls + 1 + 256
one_call calls = omega arith

-- after a call that each epoch had once at most
pub kept_called : (cfg : Config) (epochs after : List Epoch) (room given calls now : ℕ) → IsRollKept cfg epochs room given calls → calls < 2 ^ 56 → now ≤ given + 1 → configs_of after ≡ configs_of epochs
    → AllByRecursion (IsCalled (calls + 256 + 1)) after → IsRollKept cfg after room now (calls + 1)
kept_called cfg epochs after room given calls now kept few more same called =
    let long : length after ≡ length epochs = as_many after epochs same in
    let some = kept.some in
    let most = kept.most in
    let within = kept.few_given in
    record {
      some = omega (arith, long, some);
      most = omega (arith, long, most);
      reserved = kept.reserved;
      same = same_ingests cfg.ingests epochs after same kept.same;
      called = subst (λ (n : ℕ). AllByRecursion (IsCalled n) after) (one_call calls) called;
      capacity = kept.capacity;
      quota = kept.quota;
      few_given = omega (arith, within, more);
      few = omega (arith, few);
      ingests = kept.ingests;
    }

-- with one epoch more
all_more : (P : Epoch → Type 0) (xs : List Epoch) (x : Epoch) → AllByRecursion P xs → P x → AllByRecursion P (xs ++ x ∷ [])
all_more P [] x all one = (one, tt)
all_more P (y ∷ xs) x all one = (all.0, all_more P xs x all.1 one)

pub kept_opened : (cfg : Config) (epochs : List Epoch) (first : State) (setup : Parts) (epoch : Epoch) (room given calls : ℕ) → IsRollKept cfg epochs room given calls → length epochs < 16 → OpensEpoch cfg first setup epoch → IsRollKept cfg (epochs ++ epoch ∷ []) room given calls
kept_opened cfg epochs first setup epoch room given calls kept fewer opens =
    let long : length (epochs ++ epoch ∷ []) ≡ length epochs + 1 = length-append epochs (epoch ∷ []) in
    let few = opens.few in
    let below = kept.ingests.1 in
    record {
      some = omega (arith, long);
      most = omega (arith, long, fewer);
      reserved = kept.reserved;
      same = all_more (HasIngests cfg.ingests) epochs epoch kept.same (ap (λ (c : Config). c.ingests) opens.config);
      called = all_more (IsCalled (calls + 256)) epochs epoch kept.called (omega (arith, few, below));
      capacity = kept.capacity;
      quota = kept.quota;
      few_given = kept.few_given;
      few = kept.few;
      ingests = kept.ingests;
    }

-- ---- what waits

waiting_from : (states : List State) (g : ℕ → Config) (f : ℕ → List Entry) (a n : ℕ) → map config_in states ≡ map g (range_with_len a n) → waiting_of states (map f (range_with_len a n)) ≡ sum_by (λ k. waiting_in (g k) (f k)) (range_with_len a n)
waiting_from [] g f a zero same = refl
waiting_from [] g f a (suc n) same = absurd cc
waiting_from (s ∷ states) g f a zero same = absurd cc
waiting_from (s ∷ states) g f a (suc n) same =
    let first : s.config ≡ g a = cc in
    let others : map config_in states ≡ map g (range_with_len (a + 1) n) = cc in
    ap (λ (c : Config). waiting_in c (f a) + waiting_of states (map f (range_with_len (a + 1) n))) first
    ∙ ap (λ (w : ℕ). waiting_in (g a) (f a) + w) (waiting_from states g f (a + 1) n others)
    ∙ sym (sum_by-cons (λ k. waiting_in (g k) (f k)) a (range_with_len (a + 1) n))

-- as many packets wait in the receivers as in the epochs
pub waiting_is : (cfg : Config) (h : List RollEntry) (states : List State) → map config_in states ≡ configs_in cfg h → waiting_of states (histories_in cfg.ingests h) ≡ roll_waiting_in cfg h
waiting_is cfg h states same = waiting_from states (config_at cfg h) (history_at cfg.ingests h) 0 (epoch_count h) (same ∙ configs_numbered cfg h)
