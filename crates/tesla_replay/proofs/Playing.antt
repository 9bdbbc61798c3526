-- The release records of a history that is played are those of what is released.
use Rattle.std.proofs.Common.{◌≡◌, ℕ, zero, suc, ◌+◌, ◌<◌, ◌≤◌, Bool, true, false, cond, List, [], ◌∷◌, ◌++◌, length, length-append, map, take, replicate, get_or, Option, Some, None, refl, sym, ap, subst, ⊎_elim, ◌∙◌, arith}
use Rattle.std.specs.Prelude.{slice_get}
use Rattle.std.specs.List.{list_all, range_with_len}
use Rattle.std.proofs.lemmas.List.{append-nil, take-append-le, take_all}
use Rattle.std.proofs.lemmas.List.Sums.{sum_by_push}
use Rattle.std.proofs.lemmas.Option.{slice_get_within, get_or_from_slice_get, slice_get_cases}
use Rattle.tesla_capture.specs.Capture.{Record}
use Rattle.tesla_capture.specs.Capture as captures
use Rattle.tesla_fitting.specs.declared.config.Config.{Config}
use Rattle.tesla_receiver.specs.Entries.{Arrival, Entry}
use Rattle.tesla_receiver.specs.declared.history.Entry.TheVariants.{Arrived, Taken, Ended}
use Rattle.tesla_walks.specs.declared.release.Release.{Release}
use Rattle.tesla_receiver.specs.Packets.{released}
use Rattle.tesla_receiver.specs.Answer.{verdict_of}
use Rattle.tesla_receiver.specs.History.{Event, Arrives, Takes, Ends, entry_of, IsLegal, arrival_in, arrivals_in, gives, given_in, has_end, reply_to, reply_with}
use Rattle.tesla_receiver.specs.Events.{after_events, waiting_in, finished}
use Rattle.tesla_replay.specs.Records.{record_in, records_of, text_of, texts_of, released_text}
use Rattle.tesla_replay.specs.Played.{event_in, played}
use Rattle.tesla_receiver.proofs.Events.{arrivals_more, legal_after_events}
use Rattle.tesla_replay.proofs.Records.{records_more}
use Rattle.tesla_receiver.proofs.Prefixes.{released_more}
use Rattle.tesla_base.proofs.Lists.{flat_map_numbered_more}
use Rattle.tesla_replay.proofs.Texts.{texts_stay}
use Rattle.tesla_receiver.proofs.Standing.{given_same}

-- the records of releaser 0 are those of the first that were released, one for each packet given
pub record Wrote (cfg : Config) (h : List Entry) : Type 0 where
  pub few : given_in h ≤ length (released cfg (arrivals_in h))
  pub same : records_of 0 h ≡ texts_of (arrivals_in h) (take (given_in h) (released cfg (arrivals_in h)))

-- a take, if it is one, is of releaser 0
abbrev IsAlone : Event → Type 0
IsAlone (Arrives ingest reading bytes) = Unit {0}
IsAlone (Takes releaser) = releaser ≡ 0
IsAlone (Ends ingest) = Unit {0}

-- an entry that brings nothing and gives nothing
wrote_same : (cfg : Config) (h : List Entry) (e : Entry) → Wrote cfg h → arrival_in e ≡ [] → gives e ≡ false → record_in 0 e ≡ [] → Wrote cfg (h ++ e ∷ [])
wrote_same cfg h e w none quiet nothing =
    let arrivals : arrivals_in (h ++ e ∷ []) ≡ arrivals_in h = arrivals_more h e ∙ ap (λ r. arrivals_in h ++ r) none ∙ append-nil (arrivals_in h) in
    let given : given_in h ≡ given_in (h ++ e ∷ []) = given_same h e quiet in
    let records : records_of 0 (h ++ e ∷ []) ≡ records_of 0 h = records_more 0 h e ∙ ap (λ r. records_of 0 h ++ r) nothing ∙ append-nil (records_of 0 h) in
    record {
      few = subst (λ g. g ≤ length (released cfg (arrivals_in (h ++ e ∷ [])))) given (subst (λ (xs : List Arrival). given_in h ≤ length (released cfg xs)) (sym arrivals) w.few);
      same = records ∙ w.same ∙ ap (λ g. texts_of (arrivals_in h) (take g (released cfg (arrivals_in h)))) given
          ∙ ap (λ (xs : List Arrival). texts_of xs (take (given_in (h ++ e ∷ [])) (released cfg xs))) (sym arrivals);
    }

-- one arrival more
wrote_arrival : (cfg : Config) (h : List Entry) (arrival : Arrival) → Wrote cfg h → Wrote cfg (h ++ Arrived arrival ∷ [])
wrote_arrival cfg h arrival w =
    let e : Entry = Arrived arrival in
    let xs : List Arrival = arrivals_in h in
    let more = released_more cfg xs (arrival ∷ []) in
    let arrivals : arrivals_in (h ++ e ∷ []) ≡ xs ++ arrival ∷ [] = arrivals_more h e in
    let given : given_in h ≡ given_in (h ++ e ∷ []) = given_same h e refl in
    let records : records_of 0 (h ++ e ∷ []) ≡ records_of 0 h = records_more 0 h e ∙ append-nil (records_of 0 h) in
    let prefix : take (given_in h) (released cfg (xs ++ arrival ∷ [])) ≡ take (given_in h) (released cfg xs) =
    ap (take (given_in h)) more.1 ∙ take-append-le (given_in h) (released cfg xs) more.0 w.few in
    let long : length (released cfg (xs ++ arrival ∷ [])) ≡ length (released cfg xs) + length more.0 = ap length more.1 ∙ length-append (released cfg xs) more.0 in
    let few : given_in h ≤ length (released cfg (xs ++ arrival ∷ [])) = omega (arith, w.few, long) in
    record {
      few = subst (λ g. g ≤ length (released cfg (arrivals_in (h ++ e ∷ [])))) given (subst (λ (ys : List Arrival). given_in h ≤ length (released cfg ys)) (sym arrivals) few);
      same = records ∙ w.same ∙ sym (texts_stay cfg xs (arrival ∷ []) (given_in h)) ∙ ap (texts_of (xs ++ arrival ∷ [])) (sym prefix)
          ∙ ap (λ g. texts_of (xs ++ arrival ∷ []) (take g (released cfg (xs ++ arrival ∷ [])))) given
          ∙ ap (λ (ys : List Arrival). texts_of ys (take (given_in (h ++ e ∷ [])) (released cfg ys))) (sym arrivals);
    }

-- a take that gives the next packet
wrote_given : (cfg : Config) (h : List Entry) (release : Release) (ended : Bool) → Wrote cfg h → slice_get (released cfg (arrivals_in h)) (given_in h) ≡ Some release → Wrote cfg (h ++ Taken 0 (reply_with (arrivals_in h) (given_in h) (Some release) ended) ∷ [])
wrote_given cfg h release ended w next =
    let xs : List Arrival = arrivals_in h in
    let g : ℕ = given_in h in
    let e : Entry = Taken 0 (reply_with xs g (Some release) ended) in
    let arrivals : arrivals_in (h ++ e ∷ []) ≡ xs = arrivals_more h e ∙ append-nil xs in
    let given : g + 1 ≡ given_in (h ++ e ∷ []) = sym (sum_by_push (λ x. cond (gives x) 1 0) h e) in
    let inside : g < length (released cfg xs) = slice_get_within (released cfg xs) g release next in
    let here : get_or (released cfg xs) g release ≡ release = get_or_from_slice_get (released cfg xs) g release release next in
    let records : records_of 0 (h ++ e ∷ []) ≡ texts_of xs (take g (released cfg xs)) ++ text_of xs (g, release) = records_more 0 h e ∙ ap (λ r. r ++ text_of xs (g, release)) w.same in
    let texts : texts_of xs (take (g + 1) (released cfg xs)) ≡ texts_of xs (take g (released cfg xs)) ++ text_of xs (g, release) =
    flat_map_numbered_more (text_of xs) (released cfg xs) g release inside ∙ ap (λ (r : Release). texts_of xs (take g (released cfg xs)) ++ text_of xs (g, r)) here in
    let few : g + 1 ≤ length (released cfg xs) = omega (arith, inside) in
    record {
      few = subst (λ n. n ≤ length (released cfg (arrivals_in (h ++ e ∷ [])))) given (subst (λ (ys : List Arrival). g + 1 ≤ length (released cfg ys)) (sym arrivals) few);
      same = records ∙ sym texts ∙ ap (λ n. texts_of xs (take n (released cfg xs))) given
          ∙ ap (λ (ys : List Arrival). texts_of ys (take (given_in (h ++ e ∷ [])) (released cfg ys))) (sym arrivals);
    }

wrote_none : (cfg : Config) (h : List Entry) (ended : Bool) → Wrote cfg h → Wrote cfg (h ++ Taken 0 (reply_with (arrivals_in h) (given_in h) None ended) ∷ [])
wrote_none cfg h true w = wrote_same cfg h (Taken 0 (reply_with (arrivals_in h) (given_in h) None true)) w refl refl refl
wrote_none cfg h false w = wrote_same cfg h (Taken 0 (reply_with (arrivals_in h) (given_in h) None false)) w refl refl refl

wrote_take : (cfg : Config) (h : List Entry) → Wrote cfg h → Wrote cfg (h ++ entry_of cfg h (Takes 0) ∷ [])
unfolding reply_to
wrote_take cfg h w =
    let ended : Bool = list_all (has_end h) (range_with_len 0 cfg.ingests) in
    let xs : List Arrival = arrivals_in h in
    ⊎_elim
    (λ p. subst (λ (o : Option Release). Wrote cfg (h ++ Taken 0 (reply_with xs (given_in h) o ended) ∷ [])) (sym p.2) (wrote_given cfg h p.0 ended w p.2))
    (λ p. subst (λ (o : Option Release). Wrote cfg (h ++ Taken 0 (reply_with xs (given_in h) o ended) ∷ [])) (sym p.1) (wrote_none cfg h ended w))
    (slice_get_cases (released cfg xs) (given_in h)).1

-- one event more, where only releaser 0 takes
wrote_more : (cfg : Config) (h : List Entry) (event : Event) → IsAlone event → Wrote cfg h → Wrote cfg (h ++ entry_of cfg h event ∷ [])
wrote_more cfg h (Arrives ingest reading bytes) alone w =
    wrote_arrival cfg h (record { ingest = ingest; reading = reading; bytes = bytes; verdict = verdict_of cfg (arrivals_in h) (given_in h) ingest reading bytes }) w
wrote_more cfg h (Takes releaser) alone w = subst (λ r. Wrote cfg (h ++ entry_of cfg h (Takes r) ∷ [])) (sym alone) (wrote_take cfg h w)
wrote_more cfg h (Ends ingest) alone w = wrote_same cfg h (Ended ingest) w refl refl refl

record_alone : (r : Record) → IsAlone (event_in r)
record_alone (captures.Arrives reading bytes) = tt
record_alone captures.Takes = refl

wrote_records : (cfg : Config) (records : List Record) (h : List Entry) → Wrote cfg h → Wrote cfg (after_events cfg h (map event_in records))
wrote_records cfg [] h w = w
wrote_records cfg (r ∷ records) h w = wrote_records cfg records (h ++ entry_of cfg h (event_in r) ∷ []) (wrote_more cfg h (event_in r) (record_alone r) w)

-- after a take there is one packet less to give, or none
gives_next : (cfg : Config) (h : List Entry) (n : ℕ) → length (released cfg (arrivals_in h)) ≤ given_in h + suc n → length (released cfg (arrivals_in (h ++ entry_of cfg h (Takes 0) ∷ []))) ≤ given_in (h ++ entry_of cfg h (Takes 0) ∷ []) + n
unfolding reply_to
gives_next cfg h n most =
    let ended : Bool = list_all (has_end h) (range_with_len 0 cfg.ingests) in
    let xs : List Arrival = arrivals_in h in
    let e : Entry = entry_of cfg h (Takes 0) in
    let arrivals : arrivals_in (h ++ e ∷ []) ≡ xs = arrivals_more h e ∙ append-nil xs in
    let given : given_in (h ++ e ∷ []) ≡ given_in h + cond (gives e) 1 0 = sum_by_push (λ x. cond (gives x) 1 0) h e in
    let enough : length (released cfg xs) ≤ given_in h + cond (gives e) 1 0 + n =
    ⊎_elim
    (λ p. let one : gives e ≡ true = ap (λ (o : Option Release). gives (Taken 0 (reply_with xs (given_in h) o ended))) p.2 in
    subst (λ b. length (released cfg xs) ≤ given_in h + cond b 1 0 + n) (sym one) (omega (arith, most)))
    (λ p. omega (arith, p.0))
    (slice_get_cases (released cfg xs) (given_in h)).1 in
    subst (λ g. length (released cfg (arrivals_in (h ++ e ∷ []))) ≤ g + n) (sym given) (subst (λ (ys : List Arrival). length (released cfg ys) ≤ given_in h + cond (gives e) 1 0 + n) (sym arrivals) enough)

-- enough takes give all that is released
all_given : (cfg : Config) (n : ℕ) (h : List Entry) → Wrote cfg h → length (released cfg (arrivals_in h)) ≤ given_in h + n → records_of 0 (after_events cfg h (replicate n (Takes 0))) ≡ released_text cfg (arrivals_in (after_events cfg h (replicate n (Takes 0))))
all_given cfg zero h w most =
    w.same ∙ ap (texts_of (arrivals_in h)) (take_all (given_in h) (released cfg (arrivals_in h)) (omega (arith, most)))
all_given cfg (suc n) h w most =
    all_given cfg n (h ++ entry_of cfg h (Takes 0) ∷ []) (wrote_take cfg h w) (gives_next cfg h n most)

finished_all : (cfg : Config) (h : List Entry) → Wrote cfg h → records_of 0 (finished cfg h) ≡ released_text cfg (arrivals_in (finished cfg h))
finished_all cfg h w =
    let ended : List Entry = h ++ Ended 0 ∷ [] in
    let same : arrivals_in ended ≡ arrivals_in h = arrivals_more h (Ended 0) ∙ append-nil (arrivals_in h) in
    let given : given_in h ≡ given_in ended = given_same h (Ended 0) refl in
    let most : length (released cfg (arrivals_in ended)) ≤ given_in ended + suc (waiting_in cfg h) =
    subst (λ (xs : List Arrival). length (released cfg xs) ≤ given_in ended + suc (waiting_in cfg h)) (sym same)
    (subst (λ g. length (released cfg (arrivals_in h)) ≤ g + suc (waiting_in cfg h)) given (omega arith)) in
    all_given cfg (suc (waiting_in cfg h)) ended (wrote_more cfg h (Ends 0) tt w) most

-- what a whole capture's history writes is what is released of its arrivals
pub played_all : (cfg : Config) (records : List Record) → records_of 0 (played cfg records true) ≡ released_text cfg (arrivals_in (played cfg records true))
played_all cfg records =
    finished_all cfg (after_events cfg [] (map event_in records)) (wrote_records cfg records [] (record { few = omega arith; same = refl }))

-- what is played is a legal history
pub played_legal : (cfg : Config) (records : List Record) (whole : Bool) → IsLegal cfg (played cfg records whole)
played_legal cfg records false = legal_after_events cfg [] (map event_in records) tt
played_legal cfg records true =
    let h : List Entry = after_events cfg [] (map event_in records) in
    legal_after_events cfg (h ++ Ended 0 ∷ []) (replicate (suc (waiting_in cfg h)) (Takes 0)) (legal_after_events cfg h (Ends 0 ∷ []) (legal_after_events cfg [] (map event_in records) tt))
