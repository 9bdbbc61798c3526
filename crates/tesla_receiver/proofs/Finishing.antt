-- The takes after the end of the only ingest give what waits, and then one is over.
use Rattle.std.proofs.Common.{◌≡◌, ℕ, zero, suc, ◌+◌, ◌-◌, Bool, true, cond, List, [], ◌∷◌, ◌++◌, length, map, replicate, Option, None, refl, sym, ap, ⊎_elim, ◌∙◌, arith, append_assoc}
use Rattle.std.specs.Prelude.{slice_get}
use Rattle.std.specs.List.{list_all, range_with_len}
use Rattle.std.proofs.lemmas.Bool.{or_right}
use Rattle.std.proofs.lemmas.List.{append-nil}
use Rattle.std.proofs.lemmas.List.Folds.{list_all-map}
use Rattle.std.proofs.lemmas.List.Sums.{sum_by_push}
use Rattle.std.proofs.lemmas.Option.{slice_get_cases, slice_get_past}
use Rattle.tesla_base.specs.declared.release.Head.{Head}
use Rattle.tesla_fitting.specs.declared.config.Config.{Config}
use Rattle.tesla_receiver.specs.Entries.{Entry}
use Rattle.tesla_receiver.specs.declared.history.Entry.TheVariants.{Taken, Ended}
use Rattle.tesla_state.specs.declared.replies.Reply.TheVariants.{Over}
use Rattle.tesla_walks.specs.declared.release.Release.{Release}
use Rattle.tesla_receiver.specs.Packets.{released}
use Rattle.tesla_receiver.specs.History.{Takes, entry_of, arrivals_in, gives, given_in, has_end, payload_of, reply_to, reply_with}
use Rattle.tesla_state.specs.Releases.{head_of}
use Rattle.tesla_receiver.specs.Events.{after_events, waiting_in, giving, Finishes}
use Rattle.tesla_receiver.proofs.Events.{arrivals_more}
use Rattle.tesla_receiver.proofs.Standing.{ended_same, has_end_more, given_same}

-- all ingests have ended
abbrev AllEnded : Config → List Entry → Type 0
AllEnded cfg h = list_all (has_end h) (range_with_len 0 cfg.ingests) ≡ true

-- takes that give so many packets, and then one that is over
record TakesOver (cfg : Config) (h : List Entry) (n : ℕ) : Type 0 where
  given : List (Head × List ℕ)
  entries : after_events cfg h (replicate (suc n) (Takes 0)) ≡ h ++ (map giving given ++ Taken 0 Over ∷ [])
  count : length given ≡ n

-- a take ends no ingest
ended_stays : (cfg : Config) (h : List Entry) → AllEnded cfg h → AllEnded cfg (h ++ entry_of cfg h (Takes 0) ∷ [])
ended_stays cfg h ended =
    let e : Entry = entry_of cfg h (Takes 0) in
    sym (list_all-map (λ b. b) (has_end (h ++ e ∷ [])) (range_with_len 0 cfg.ingests)) ∙ ap (list_all (λ b. b)) (sym (ended_same h e cfg.ingests (λ k. refl)))
    ∙ list_all-map (λ b. b) (has_end h) (range_with_len 0 cfg.ingests) ∙ ended

-- where none waits, a take is over
over_now : (cfg : Config) (h : List Entry) → AllEnded cfg h → waiting_in cfg h ≡ 0 → entry_of cfg h (Takes 0) ≡ Taken 0 Over
unfolding reply_to
over_now cfg h ended none =
    let xs = arrivals_in h in
    let past : slice_get (released cfg xs) (given_in h) ≡ None = slice_get_past (released cfg xs) (given_in h) (omega arith) in
    ap (λ (o : Option Release). Taken 0 (reply_with xs (given_in h) o (list_all (has_end h) (range_with_len 0 cfg.ingests)))) past
    ∙ ap (λ b. Taken 0 (reply_with xs (given_in h) None b)) ended

-- where one waits, a take gives it
gives_now : (cfg : Config) (h : List Entry) (n : ℕ) → waiting_in cfg h ≡ suc n → (p : Head × List ℕ) × (entry_of cfg h (Takes 0) ≡ giving p)
unfolding reply_to
gives_now cfg h n some =
    let xs = arrivals_in h in
    let ended : Bool = list_all (has_end h) (range_with_len 0 cfg.ingests) in
    ⊎_elim
    (λ p. (
      (head_of (given_in h) p.0 (payload_of (slice_get xs p.0.place)), payload_of (slice_get xs p.0.place)),
      ap (λ (o : Option Release). Taken 0 (reply_with xs (given_in h) o ended)) p.2,
    ))
    (λ p. absurd (omega (arith, p.0, some)))
    (slice_get_cases (released cfg xs) (given_in h)).1

-- one less waits after a take that gives
waits_less : (cfg : Config) (h : List Entry) (n : ℕ) (p : Head × List ℕ) → waiting_in cfg h ≡ suc n → entry_of cfg h (Takes 0) ≡ giving p → waiting_in cfg (h ++ entry_of cfg h (Takes 0) ∷ []) ≡ n
waits_less cfg h n p some gave =
    let e : Entry = entry_of cfg h (Takes 0) in
    let arrivals : arrivals_in (h ++ e ∷ []) ≡ arrivals_in h = arrivals_more h e ∙ append-nil (arrivals_in h) in
    let given : given_in (h ++ e ∷ []) ≡ given_in h + 1 = sum_by_push (λ x. cond (gives x) 1 0) h e ∙ ap (λ x. given_in h + cond (gives x) 1 0) gave in
    ap (λ xs. length (released cfg xs) - given_in (h ++ e ∷ [])) arrivals ∙ ap (λ g. length (released cfg (arrivals_in h)) - g) given ∙ omega (arith, some)

takes_over : (cfg : Config) (n : ℕ) (h : List Entry) → AllEnded cfg h → waiting_in cfg h ≡ n → TakesOver cfg h n
takes_over cfg zero h ended none = record { given = []; entries = ap (λ e. h ++ e ∷ []) (over_now cfg h ended none); count = refl }
takes_over cfg (suc n) h ended some =
    let e : Entry = entry_of cfg h (Takes 0) in
    let now = gives_now cfg h n some in
    let next = takes_over cfg n (h ++ e ∷ []) (ended_stays cfg h ended) (waits_less cfg h n now.0 some now.1) in
    record {
      given = now.0 ∷ next.given;
      entries = next.entries ∙ append_assoc h (e ∷ []) (map giving next.given ++ Taken 0 Over ∷ []) ∙ ap (λ (x : Entry). h ++ x ∷ (map giving next.given ++ Taken 0 Over ∷ [])) now.1;
      count = ap suc next.count;
    }

-- the end of the only ingest
ended_now : (cfg : Config) (h : List Entry) → cfg.ingests ≡ 1 → AllEnded cfg (h ++ Ended 0 ∷ [])
ended_now cfg h one =
    let last : has_end (h ++ Ended 0 ∷ []) 0 ≡ true = has_end_more h (Ended 0) 0 ∙ or_right (has_end h 0) true refl in
    ap (λ n. list_all (has_end (h ++ Ended 0 ∷ [])) (range_with_len 0 n)) one ∙ rw last

-- a finished history ends with what waited, and an end
pub finishes : (cfg : Config) (h : List Entry) → cfg.ingests ≡ 1 → Finishes cfg h
finishes cfg h one =
    let ended : List Entry = h ++ Ended 0 ∷ [] in
    let same : arrivals_in ended ≡ arrivals_in h = arrivals_more h (Ended 0) ∙ append-nil (arrivals_in h) in
    let given : given_in h ≡ given_in ended = given_same h (Ended 0) refl in
    let waits : waiting_in cfg ended ≡ waiting_in cfg h = ap (λ xs. length (released cfg xs) - given_in ended) same ∙ ap (λ g. length (released cfg (arrivals_in h)) - g) (sym given) in
    let takes = takes_over cfg (waiting_in cfg h) ended (ended_now cfg h one) waits in
    record {
      given = takes.given;
      entries = takes.entries ∙ append_assoc h (Ended 0 ∷ []) (map giving takes.given ++ Taken 0 Over ∷ []);
      count = takes.count;
    }
