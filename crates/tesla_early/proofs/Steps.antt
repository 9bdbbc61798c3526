-- What each entry of a history does to the promises that were learnt before it.
use Rattle.std.proofs.Common.{◌≡◌, ◌≤◌, ℕ, zero, suc, Bool, true, false, List, [], ◌∷◌, ◌++◌, length, take, map, set, Option, Some, None, refl, sym, ap, ⊎_elim, ◌∙◌, ◌⊎◌, inl, inr, arith}
use Rattle.std.specs.Prelude.{slice_get}
use Rattle.std.proofs.lemmas.Bool.{cases_Bool, cases_eq, cond-false, cond-true}
use Rattle.std.proofs.lemmas.List.{map-append}
use Rattle.std.proofs.lemmas.Option.{slice_get_within}
use Rattle.sha2.specs.Sha256.{sha256}
use Rattle.tesla_base.proofs.Lists.{slice_get-append}
use Rattle.tesla_early.specs.Payloads.{promise_of}
use Rattle.tesla_early.specs.declared.promise.Promise.{Promise}
use Rattle.tesla_receiver.specs.Entries.{Arrival, Entry}
use Rattle.tesla_receiver.specs.declared.history.Entry.TheVariants.{Arrived, Taken, Ended}
use Rattle.tesla_state.specs.declared.replies.Reply.TheVariants.{Given, Empty, Over}
use Rattle.tesla_early.specs.Early.{Message, accepted, candidate, is_early, is_promised, learnt}
use Rattle.tesla_early.specs.Laws.{Gave, Taught, WasEarly, origin_of}
use Rattle.tesla_early.specs.Learnt.{Learnt, is_kept_by, taught_by, taught_with}
use Rattle.tesla_early.proofs.Learnt.{learnt_next, learnt_past}
use Rattle.tesla_early.proofs.FirstUsed.{UsesOne, map_set_same, set_here, set_there, used_up, uses_one}

-- the promises before an entry
abbrev pub before : ℕ → List Entry → ℕ → List Learnt
before most h n = learnt most (take n h)

-- the test of a message
abbrev pub is_of : Message → Learnt → Bool
is_of message = is_kept_by message.name (sha256 message.payload)

-- ---- an entry that teaches

pub after_given : (most : ℕ) (h : List Entry) (n : ℕ) (payload : List ℕ) → Gave h n payload → before most h (suc n) ≡ before most h n ++ taught_by n payload
after_given most h n payload gave = learnt_next most h n (Taken gave.releaser (Given gave.head payload)) gave.is

-- an early arrival uses one promise, and teaches its own
pub record Accepts (most : ℕ) (h : List Entry) (n : ℕ) (message : Message) : Type 0 where
  pub one : UsesOne most (is_of message) (before most h n)
  pub is : before most h (suc n) ≡ set (before most h n) one.place (used_up one.it) ++ taught_by n message.payload

pub after_accepted : (most : ℕ) (h : List Entry) (n : ℕ) (message : Message) → WasEarly most h n message → Accepts most h n message
after_accepted most h n message was =
    let kept = before most h n in
    let promised : is_promised most kept (Some message) ≡ true = ap (is_promised most kept) (sym was.candidate_is) ∙ was.early in
    let one = uses_one most (is_of message) kept promised in
    record {
      one = one;
      is = learnt_next most h n (Arrived was.arrival) was.is
          ∙ cond-true (is_early most (take n h) was.arrival) (accepted most kept n (candidate was.arrival)) kept was.early
          ∙ ap (accepted most kept n) was.candidate_is ∙ ap (λ ls. ls ++ taught_by n message.payload) one.is;
    }

-- ---- any entry

-- nothing is learnt and used, or a packet is given, or a message is accepted
abbrev pub Step : ℕ → List Entry → ℕ → Type 0
Step most h n =
    (before most h (suc n) ≡ before most h n) ⊎ (((payload : List ℕ) × Gave h n payload) ⊎ ((message : Message) × WasEarly most h n message))

arrived : (most : ℕ) (h : List Entry) (n : ℕ) (arrival : Arrival) (o : Option Message) → candidate arrival ≡ o → slice_get h n ≡ Some (Arrived arrival) → is_early most (take n h) arrival ≡ true → Step most h n
arrived most h n arrival None is at early =
    let never : false ≡ true = ap (is_promised most (before most h n)) (sym is) ∙ early in absurd (cc)
arrived most h n arrival (Some message) is at early = inr (inr (message, record { arrival = arrival; is = at; early = early; candidate_is = is }))

entry_step : (most : ℕ) (h : List Entry) (n : ℕ) (e : Entry) → slice_get h n ≡ Some e → Step most h n
entry_step most h n (Arrived arrival) at =
    ⊎_elim
    (λ early. arrived most h n arrival (candidate arrival) refl at early)
    (λ not_early. inl (learnt_next most h n (Arrived arrival) at
    ∙ cond-false (is_early most (take n h) arrival) (accepted most (before most h n) n (candidate arrival)) (before most h n) not_early))
    (cases_Bool (is_early most (take n h) arrival))
entry_step most h n (Taken releaser (Given head payload)) at = inr (inl (payload, record { releaser = releaser; head = head; is = at }))
entry_step most h n (Taken releaser Empty) at = inl (learnt_next most h n (Taken releaser Empty) at)
entry_step most h n (Taken releaser Over) at = inl (learnt_next most h n (Taken releaser Over) at)
entry_step most h n (Ended ingest) at = inl (learnt_next most h n (Ended ingest) at)

-- where nothing is got, the list is over
pub past_end : {A : Type 0} (xs : List A) (n : ℕ) → slice_get xs n ≡ None → length xs ≤ n
past_end [] n none = omega arith
past_end (x ∷ xs) zero none = absurd (cc)
past_end (x ∷ xs) (suc n) none = let rest = past_end xs n none in omega arith

index_step : (most : ℕ) (h : List Entry) (n : ℕ) (o : Option Entry) → slice_get h n ≡ o → Step most h n
index_step most h n (Some e) at = entry_step most h n e at
index_step most h n None at = inl (let past = past_end h n at in learnt_past most h (suc n) (omega arith) ∙ sym (learnt_past most h n past))

pub step : (most : ℕ) (h : List Entry) (n : ℕ) → Step most h n
step most h n = index_step most h n (slice_get h n) refl

-- ---- what stays of the promises

abbrev pub origins : ℕ → List Entry → ℕ → List (ℕ × Promise)
origins most h n = map origin_of (before most h n)

-- what an entry teaches
abbrev pub origins_with : ℕ → Option Promise → List (ℕ × Promise)
origins_with entry (Some promise) = (entry, promise) ∷ []
origins_with entry None = []

origins_of_taught : (n : ℕ) (o : Option Promise) → map origin_of (taught_with n o) ≡ origins_with n o
origins_of_taught n (Some promise) = refl
origins_of_taught n None = refl

pub origins_given : (most : ℕ) (h : List Entry) (n : ℕ) (payload : List ℕ) → Gave h n payload → origins most h (suc n) ≡ origins most h n ++ origins_with n (promise_of payload)
origins_given most h n payload gave =
    ap (map origin_of) (after_given most h n payload gave) ∙ map-append origin_of (before most h n) (taught_by n payload)
    ∙ ap (λ ks. origins most h n ++ ks) (origins_of_taught n (promise_of payload))

pub origins_accepted : (most : ℕ) (h : List Entry) (n : ℕ) (message : Message) → WasEarly most h n message → origins most h (suc n) ≡ origins most h n ++ origins_with n (promise_of message.payload)
origins_accepted most h n message was =
    let accepts = after_accepted most h n message was in
    let one = accepts.one in
    ap (map origin_of) accepts.is ∙ map-append origin_of (set (before most h n) one.place (used_up one.it)) (taught_by n message.payload)
    ∙ ap (λ ks. ks ++ map origin_of (taught_by n message.payload)) (map_set_same origin_of (before most h n) one.place one.it (used_up one.it) one.at refl)
    ∙ ap (λ ks. origins most h n ++ ks) (origins_of_taught n (promise_of message.payload))

pub origins_taught : (most : ℕ) (h : List Entry) (n : ℕ) (payload : List ℕ) → Taught most h n payload → origins most h (suc n) ≡ origins most h n ++ origins_with n (promise_of payload)
origins_taught most h n payload taught =
    ⊎_elim (λ gave. origins_given most h n payload gave) (λ early. origins_accepted most h n (record { name = early.0; payload = payload }) early.1) taught

-- the promises learnt change by those that the entry taught, or not at all
pub origins_step : (most : ℕ) (h : List Entry) (n : ℕ) → (origins most h (suc n) ≡ origins most h n) ⊎ ((payload : List ℕ) × Taught most h n payload)
origins_step most h n = ⊎_elim (λ stays. inl (ap (map origin_of) stays)) (λ teaches. inr (teaching teaches)) (step most h n)
  where
    teaching : ((payload : List ℕ) × Gave h n payload) ⊎ ((message : Message) × WasEarly most h n message) → (payload : List ℕ) × Taught most h n payload
    teaching (inl gave) = (gave.0, inl gave.1)
    teaching (inr early) = (early.0.payload, inr (early.0.name, early.1))

-- a used promise stays used
pub stays_used : (most : ℕ) (h : List Entry) (n index : ℕ) (it : Learnt) → slice_get (before most h n) index ≡ Some it → it.used ≡ true → (now : Learnt) × (slice_get (before most h (suc n)) index ≡ Some now) × (now.used ≡ true)
stays_used most h n index it at used =
    let Goal : Type 0 = (now : Learnt) × (slice_get (before most h (suc n)) index ≡ Some now) × (now.used ≡ true) in
    let within = slice_get_within (before most h n) index it at in
    ⊎_elim
    (λ stays. (it, ap (λ ls. slice_get ls index) stays ∙ at, used))
    (λ taught. ⊎_elim
    (λ gave. (it, ap (λ ls. slice_get ls index) (after_given most h n gave.0 gave.1) ∙ slice_get-append (before most h n) (taught_by n gave.0) index within ∙ at, used))
    (λ early. accepting early.0 (after_accepted most h n early.0 early.1))
    taught)
    (step most h n)
  where
    accepting : (message : Message) → Accepts most h n message → (now : Learnt) × (slice_get (before most h (suc n)) index ≡ Some now) × (now.used ≡ true)
    accepting message accepts =
        let one = accepts.one in
        let kept = before most h n in
        let change = set kept one.place (used_up one.it) in
        let here = slice_get_within kept one.place one.it one.at in
        ⊎_elim
        (λ same. (
          used_up one.it,
          ap (λ ls. slice_get ls index) accepts.is
              ∙ slice_get-append change (taught_by n message.payload) index (slice_get_within change index (used_up one.it) (ap (slice_get change) same ∙ set_here kept one.place (used_up one.it) here))
              ∙ ap (slice_get change) same ∙ set_here kept one.place (used_up one.it) here,
          refl,
        ))
        (λ differs. let there = set_there kept one.place index (used_up one.it) it differs at in
        (it, ap (λ ls. slice_get ls index) accepts.is ∙ slice_get-append change (taught_by n message.payload) index (slice_get_within change index it there) ∙ there, used))
        (cases_eq index one.place)
