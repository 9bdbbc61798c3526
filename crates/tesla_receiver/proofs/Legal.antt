-- What holds at first and stays with each event holds after each legal history.
use Rattle.std.proofs.Common.{◌≡◌, ℕ, ◌+◌, ◌≤◌, Bool, true, false, cond, List, [], ◌∷◌, ◌++◌, length, length-append, Option, Some, None, refl, sym, ap, subst, ⊎_elim, ◌∙◌, arith, append_assoc}
use Rattle.std.specs.Prelude.{slice_get, is_some}
use Rattle.std.specs.List.{list_all, range_with_len}
use Rattle.std.proofs.lemmas.List.{append-nil}
use Rattle.std.proofs.lemmas.List.Sums.{sum_by_push}
use Rattle.std.proofs.lemmas.Option.{slice_get_cases}
use Rattle.tesla_fitting.specs.declared.config.Config.{Config}
use Rattle.tesla_receiver.specs.Entries.{Arrival, Entry}
use Rattle.tesla_receiver.specs.declared.history.Entry.TheVariants.{Taken}
use Rattle.tesla_walks.specs.declared.release.Release.{Release}
use Rattle.tesla_receiver.specs.History.{Event, Arrives, Takes, Ends, event_of, entry_of, IsLegalAfter, IsLegal, arrival_in, arrivals_in, gives, given_in, has_end, reply_to, reply_with}
use Rattle.tesla_receiver.specs.Packets.{released}
use Rattle.tesla_receiver.proofs.Events.{arrivals_more}
use Rattle.tesla_receiver.proofs.Prefixes.{released_more}
use Rattle.tesla_receiver.proofs.Standing.{given_same}

along : (cfg : Config) (P : List Entry → Type 0) → ((h : List Entry) (event : Event) → P h → P (h ++ entry_of cfg h event ∷ [])) → (before h : List Entry) → IsLegalAfter cfg before h → P before → P (before ++ h)
along cfg P step before [] l p = subst P (sym (append-nil before)) p
along cfg P step before (e ∷ h) l p =
    subst P (append_assoc before (e ∷ []) h)
    (along cfg P step (before ++ e ∷ []) h l.1 (subst (λ (x : Entry). P (before ++ x ∷ [])) (sym l.0) (step before (event_of e) p)))

pub of_legal : (cfg : Config) (P : List Entry → Type 0) → P [] → ((h : List Entry) (event : Event) → P h → P (h ++ entry_of cfg h event ∷ [])) → (h : List Entry) → IsLegal cfg h → P h
of_legal cfg P first step h l = along cfg P step [] h l first

-- ---- no more was given than is released

pub gives_some : (releaser : ℕ) (xs : List Arrival) (given : ℕ) (o : Option Release) (over : Bool) → gives (Taken releaser (reply_with xs given o over)) ≡ is_some o
gives_some releaser xs given (Some release) over = refl
gives_some releaser xs given None true = refl
gives_some releaser xs given None false = refl

-- an entry that brings nothing leaves the arrivals
pub arrivals_same : (h : List Entry) (e : Entry) → arrival_in e ≡ [] → arrivals_in (h ++ e ∷ []) ≡ arrivals_in h
arrivals_same h e none = arrivals_more h e ∙ ap (λ xs. arrivals_in h ++ xs) none ∙ append-nil (arrivals_in h)

-- what was given after a take
pub given_take : (cfg : Config) (h : List Entry) (releaser : ℕ) → given_in (h ++ entry_of cfg h (Takes releaser) ∷ []) ≡ given_in h + cond (is_some (slice_get (released cfg (arrivals_in h)) (given_in h))) 1 0
unfolding reply_to
given_take cfg h releaser =
    sum_by_push (λ x. cond (gives x) 1 0) h (entry_of cfg h (Takes releaser))
    ∙ ap (λ b. given_in h + cond b 1 0) (gives_some releaser (arrivals_in h) (given_in h) (slice_get (released cfg (arrivals_in h)) (given_in h)) (list_all (has_end h) (range_with_len 0 cfg.ingests)))

abbrev GivenFits : Config → List Entry → Type 0
GivenFits cfg h = given_in h ≤ length (released cfg (arrivals_in h))

fits_event : (cfg : Config) (h : List Entry) (event : Event) → GivenFits cfg h → GivenFits cfg (h ++ entry_of cfg h event ∷ [])
fits_event cfg h (Arrives ingest reading bytes) fits =
    let e : Entry = entry_of cfg h (Arrives ingest reading bytes) in
    let given : given_in h ≡ given_in (h ++ e ∷ []) = given_same h e refl in
    let more = released_more cfg (arrivals_in h) (arrival_in e) in
    let long : length (released cfg (arrivals_in (h ++ e ∷ []))) ≡ length (released cfg (arrivals_in h)) + length more.0 =
    ap (λ xs. length (released cfg xs)) (arrivals_more h e) ∙ ap length more.1 ∙ length-append (released cfg (arrivals_in h)) more.0 in
    omega (arith, fits, given, long)
fits_event cfg h (Takes releaser) fits =
    let e : Entry = entry_of cfg h (Takes releaser) in
    let given : given_in (h ++ e ∷ []) ≡ given_in h + cond (is_some (slice_get (released cfg (arrivals_in h)) (given_in h))) 1 0 = given_take cfg h releaser in
    let long : length (released cfg (arrivals_in (h ++ e ∷ []))) ≡ length (released cfg (arrivals_in h)) = ap (λ xs. length (released cfg xs)) (arrivals_same h e refl) in
    ⊎_elim
    (λ p. let one : ◌≡◌ {A = ℕ} (cond (is_some (slice_get (released cfg (arrivals_in h)) (given_in h))) 1 0) 1 = ap (λ (o : Option Release). cond (is_some o) 1 0) p.2 in
    let below = p.1 in omega (arith, fits, given, long, one, below))
    (λ p. let none : ◌≡◌ {A = ℕ} (cond (is_some (slice_get (released cfg (arrivals_in h)) (given_in h))) 1 0) 0 = ap (λ (o : Option Release). cond (is_some o) 1 0) p.1 in
    omega (arith, fits, given, long, none))
    (slice_get_cases (released cfg (arrivals_in h)) (given_in h)).1
fits_event cfg h (Ends ingest) fits =
    let e : Entry = entry_of cfg h (Ends ingest) in
    let given : given_in h ≡ given_in (h ++ e ∷ []) = given_same h e refl in
    let long : length (released cfg (arrivals_in (h ++ e ∷ []))) ≡ length (released cfg (arrivals_in h)) = ap (λ xs. length (released cfg xs)) (arrivals_same h e refl) in
    omega (arith, fits, given, long)

-- no legal history gives more than is released
pub given_fits : (cfg : Config) (h : List Entry) → IsLegal cfg h → given_in h ≤ length (released cfg (arrivals_in h))
given_fits cfg h l = of_legal cfg (GivenFits cfg) (omega arith) (fits_event cfg) h l
