-- Neither the capacity nor the quota is passed.
use Rattle.std.proofs.Common.{◌≡◌, ℕ, ◌+◌, ◌≤◌, Bool, true, false, cond, ◌||◌, List, [], ◌∷◌, ◌++◌, Option, Some, None, refl, sym, ap, subst, ⊎_elim, ◌∙◌, arith, ◌==◌, append_assoc}
use Rattle.std.specs.Prelude.{not, unwrap_or, option_map, find}
use Rattle.std.specs.List.{list_any}
use Rattle.std.proofs.lemmas.Bool.{cases_Bool, eqb-true, eqb-false}
use Rattle.std.proofs.lemmas.List.{append-nil}
use Rattle.std.proofs.lemmas.List.Sums.{sum_by_push}
use Rattle.tesla_base.specs.declared.names.StreamId.{StreamId}
use Rattle.tesla_clock.specs.Schedule.{bound_of}
use Rattle.tesla_frame.specs.declared.row.KeyRow.{KeyRow}
use Rattle.tesla_frame.specs.Frame.{Frame, Data, Disclosure, DataFrame}
use Rattle.tesla_frame.specs.Reading.{frame_of}
use Rattle.tesla_fitting.specs.declared.config.Config.{Config}
use Rattle.tesla_receiver.specs.Entries.{Arrival, Entry}
use Rattle.tesla_receiver.specs.declared.packet.Packet.{Packet}
use Rattle.tesla_fitting.specs.declared.verdict.Verdict.{Verdict}
use Rattle.tesla_fitting.specs.declared.verdict.Verdict.TheVariants.{Foreign, Misfit, Future, BadKey, Late, Repeat, Full, Kept}
use Rattle.tesla_fitting.specs.Rows.{keys_of}
use Rattle.tesla_receiver.specs.Packets.{packet_in, released}
use Rattle.tesla_state.specs.Releases.{has_name}
use Rattle.tesla_receiver.specs.Held.{held_of}
use Rattle.tesla_fitting.specs.Fitting.{stream_of, is_misfit, is_future}
use Rattle.tesla_receiver.specs.Answer.{is_bad, safe_chains, verdict_taken, verdict_on, verdict_of, late_arrival}
use Rattle.tesla_receiver.specs.History.{Event, Arrives, Takes, Ends, event_of, entry_of, IsLegalAfter, IsLegal, arrival_in, arrivals_in, gives, given_in, held_in, held_of_interval}
use Rattle.tesla_receiver.proofs.Events.{arrivals_more}
use Rattle.tesla_receiver.proofs.Held.{held_quiet, held_other, held_taken, held_rejudged}
use Rattle.tesla_receiver.proofs.Standing.{given_same}

-- ---- the verdict

-- there is room for a packet of the interval
record HasRoom (cfg : Config) (xs : List Arrival) (given interval : ℕ) : Type 0 where
  all : (held_of cfg xs given None == cfg.capacity) ≡ false
  own : (held_of cfg xs given (Some interval) == cfg.quota) ≡ false

kept_beneath : (a b c d : Bool) (set kept : ℕ) → cond a Late (cond b Repeat (cond (c || d) Full (Kept set))) ≡ Kept kept → (c ≡ false) × (d ≡ false)
kept_beneath true b c d set kept e = absurd (cc)
kept_beneath false true c d set kept e = absurd (cc)
kept_beneath false false true d set kept e = absurd (cc)
kept_beneath false false false true set kept e = absurd (cc)
kept_beneath false false false false set kept e = (refl, refl)

-- the packet that is kept, for which there is room
record KeepsWithin (cfg : Config) (xs : List Arrival) (given : ℕ) (o : Option Frame) : Type 0 where
  frame : DataFrame
  is : o ≡ Some (Data frame)
  room : HasRoom cfg xs given frame.name.interval

taken_within : (cfg : Config) (xs : List Arrival) (given : ℕ) (bound : Option ℕ) (frame : Frame) (kept : ℕ) → verdict_taken cfg xs given bound frame ≡ Kept kept → KeepsWithin cfg xs given (Some frame)
taken_within cfg xs given bound (Disclosure f) kept e = absurd (cc)
taken_within cfg xs given bound (Data f) kept e =
    let set : ℕ = safe_chains cfg xs bound f.name.interval in
    let beneath = kept_beneath (set == 0) (list_any (has_name f.name) (released cfg xs)) (held_of cfg xs given None == cfg.capacity) (held_of cfg xs given (Some f.name.interval) == cfg.quota) set kept e in
    record { frame = f; is = refl; room = record { all = beneath.0; own = beneath.1 } }

kept_unrefused : (a b c : Bool) (stream : StreamId) (bound : Option ℕ) (o : Option KeyRow) (v : Verdict) (kept : ℕ) → unwrap_or (cond a (Some (Foreign stream)) (cond b (Some Misfit) (cond c (Some (Future bound)) (option_map (λ (row : KeyRow). BadKey row.chain) o)))) v ≡ Kept kept → v ≡ Kept kept
kept_unrefused true b c stream bound o v kept e = absurd (cc)
kept_unrefused false true c stream bound o v kept e = absurd (cc)
kept_unrefused false false true stream bound o v kept e = absurd (cc)
kept_unrefused false false false stream bound (Some row) v kept e = absurd (cc)
kept_unrefused false false false stream bound None v kept e = e

on_within : (cfg : Config) (xs : List Arrival) (given : ℕ) (late : Arrival) (bound : Option ℕ) (o : Option Frame) (kept : ℕ) → verdict_on cfg xs given late bound o ≡ Kept kept → KeepsWithin cfg (xs ++ late ∷ []) given o
on_within cfg xs given late bound None kept e = absurd (cc)
on_within cfg xs given late bound (Some frame) kept e =
    taken_within cfg (xs ++ late ∷ []) given bound frame kept
    (kept_unrefused (not ((stream_of frame).0 == cfg.setup.stream.0)) (is_misfit cfg frame) (is_future cfg bound frame) (stream_of frame) bound (find (is_bad cfg xs) (keys_of cfg frame)) (verdict_taken cfg (xs ++ late ∷ []) given bound frame) kept e)

verdict_within : (cfg : Config) (xs : List Arrival) (given ingest reading : ℕ) (bytes : List ℕ) (kept : ℕ) → verdict_of cfg xs given ingest reading bytes ≡ Kept kept → KeepsWithin cfg (xs ++ late_arrival ingest reading bytes ∷ []) given (frame_of bytes)
unfolding verdict_of
verdict_within cfg xs given ingest reading bytes kept e =
    on_within cfg xs given (late_arrival ingest reading bytes) (bound_of cfg.setup.times cfg.lag reading) (frame_of bytes) kept e

-- ---- one arrival more

-- below a limit one more is within it
within_limit : (cfg : Config) (xs : List Arrival) (given ingest reading set : ℕ) (bytes : List ℕ) (asked : Option ℕ) (limit : ℕ) → (held_of cfg (xs ++ late_arrival ingest reading bytes ∷ []) given asked == limit) ≡ false → held_of cfg xs given asked ≤ limit → held_of cfg (xs ++ record { ingest = ingest; reading = reading; bytes = bytes; verdict = Kept set } ∷ []) given asked ≤ limit
within_limit cfg xs given ingest reading set bytes asked limit room h =
    let late : Arrival = late_arrival ingest reading bytes in
    let kept : Arrival = record { ingest = ingest; reading = reading; bytes = bytes; verdict = Kept set } in
    let before : held_of cfg (xs ++ late ∷ []) given asked ≤ held_of cfg xs given asked = held_quiet cfg xs late given asked refl in
    let below : held_of cfg (xs ++ late ∷ []) given asked ≡ limit → ⊥ = eqb-false (held_of cfg (xs ++ late ∷ []) given asked) limit room in
    let one : held_of cfg (xs ++ kept ∷ []) given asked ≤ held_of cfg (xs ++ late ∷ []) given asked + 1 = held_rejudged cfg xs kept late given asked refl in
    omega (arith, before, below, one, h)

-- what is held after one arrival more, where it was within a limit
abbrev StaysWithin : Config → Option ℕ → ℕ → Type 0
StaysWithin cfg asked limit =
    (xs : List Arrival) (given ingest reading : ℕ) (bytes : List ℕ) (v : Verdict) → v ≡ verdict_of cfg xs given ingest reading bytes → held_of cfg xs given asked ≤ limit
    → held_of cfg (xs ++ record { ingest = ingest; reading = reading; bytes = bytes; verdict = v } ∷ []) given asked ≤ limit

capacity_stays : (cfg : Config) → StaysWithin cfg None cfg.capacity
capacity_stays cfg xs given ingest reading bytes (Kept set) e h =
    let keeps = verdict_within cfg xs given ingest reading bytes set (sym e) in
    within_limit cfg xs given ingest reading set bytes None cfg.capacity keeps.room.all h
capacity_stays cfg xs given ingest reading bytes v e h =
    let less = held_quiet cfg xs (record { ingest = ingest; reading = reading; bytes = bytes; verdict = v }) given None refl in
    omega (arith, less, h)

quota_stays : (cfg : Config) (interval : ℕ) → StaysWithin cfg (Some interval) cfg.quota
quota_stays cfg interval xs given ingest reading bytes (Kept set) e h =
    let keeps = verdict_within cfg xs given ingest reading bytes set (sym e) in
    let kept : Arrival = record { ingest = ingest; reading = reading; bytes = bytes; verdict = Kept set } in
    let packet : Packet = record { chains = set; frame = keeps.frame } in
    ⊎_elim
    (λ same. within_limit cfg xs given ingest reading set bytes (Some interval) cfg.quota
    (subst (λ (i : ℕ). (held_of cfg (xs ++ late_arrival ingest reading bytes ∷ []) given (Some i) == cfg.quota) ≡ false) (eqb-true keeps.frame.name.interval interval same) keeps.room.own) h)
    (λ other. let less = held_other cfg xs kept given interval packet (ap (packet_in (Kept set)) keeps.is) other in omega (arith, less, h))
    (cases_Bool (keeps.frame.name.interval == interval))
quota_stays cfg interval xs given ingest reading bytes v e h =
    let less = held_quiet cfg xs (record { ingest = ingest; reading = reading; bytes = bytes; verdict = v }) given (Some interval) refl in
    omega (arith, less, h)

-- ---- one event more

-- ---- histories

module _ (cfg : Config) (asked : Option ℕ) (limit : ℕ) (stays : StaysWithin cfg asked limit) where
  -- the history holds no more than the limit
  abbrev IsWithin : List Entry → Type 0
  IsWithin h = held_of cfg (arrivals_in h) (given_in h) asked ≤ limit

  -- an entry that brings nothing
  within_quiet : (h : List Entry) (e : Entry) → arrival_in e ≡ [] → IsWithin h → IsWithin (h ++ e ∷ [])
  within_quiet h e none fits =
      let arrivals : arrivals_in (h ++ e ∷ []) ≡ arrivals_in h = arrivals_more h e ∙ ap (λ xs. arrivals_in h ++ xs) none ∙ append-nil (arrivals_in h) in
      let given : given_in (h ++ e ∷ []) ≡ given_in h + cond (gives e) 1 0 = sum_by_push (λ x. cond (gives x) 1 0) h e in
      let less = held_taken cfg (arrivals_in h) (given_in h) (cond (gives e) 1 0) asked in
      subst (λ (xs : List Arrival). held_of cfg xs (given_in (h ++ e ∷ [])) asked ≤ limit) (sym arrivals)
      (subst (λ (g : ℕ). held_of cfg (arrivals_in h) g asked ≤ limit) (sym given) (omega (arith, less, fits)))

  within_event : (h : List Entry) (event : Event) → IsWithin h → IsWithin (h ++ entry_of cfg h event ∷ [])
  within_event h (Arrives ingest reading bytes) fits =
      let e : Entry = entry_of cfg h (Arrives ingest reading bytes) in
      subst (λ (xs : List Arrival). held_of cfg xs (given_in (h ++ e ∷ [])) asked ≤ limit) (sym (arrivals_more h e))
      (subst (λ (g : ℕ). held_of cfg (arrivals_in h ++ arrival_in e) g asked ≤ limit) (given_same h e refl)
      (stays (arrivals_in h) (given_in h) ingest reading bytes (verdict_of cfg (arrivals_in h) (given_in h) ingest reading bytes) refl fits))
  within_event h (Takes releaser) fits = within_quiet h (entry_of cfg h (Takes releaser)) refl fits
  within_event h (Ends ingest) fits = within_quiet h (entry_of cfg h (Ends ingest)) refl fits

  within_along : (before h : List Entry) → IsLegalAfter cfg before h → IsWithin before → IsWithin (before ++ h)
  within_along before [] l fits = subst (λ (b : List Entry). IsWithin b) (sym (append-nil before)) fits
  within_along before (e ∷ h) l fits =
      subst (λ (b : List Entry). IsWithin b) (append_assoc before (e ∷ []) h)
      (within_along (before ++ e ∷ []) h l.1 (subst (λ (x : Entry). IsWithin (before ++ x ∷ [])) (sym l.0) (within_event before (event_of e) fits)))

  within_none : IsWithin []
  unfolding held_of
  within_none = omega arith

-- no legal history holds more packets than the capacity
pub capacity_kept : (cfg : Config) (h : List Entry) → IsLegal cfg h → held_in cfg h ≤ cfg.capacity
capacity_kept cfg h l = within_along cfg None cfg.capacity (capacity_stays cfg) [] h l (within_none cfg None cfg.capacity (capacity_stays cfg))

-- nor more of one interval than the quota
pub quota_kept : (cfg : Config) (h : List Entry) → IsLegal cfg h → (interval : ℕ) → held_of_interval cfg h interval ≤ cfg.quota
quota_kept cfg h l interval = within_along cfg (Some interval) cfg.quota (quota_stays cfg interval) [] h l (within_none cfg (Some interval) cfg.quota (quota_stays cfg interval))
