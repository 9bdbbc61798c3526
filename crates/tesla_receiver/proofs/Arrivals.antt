-- Each arrival of a legal history has the one verdict after those before it; one that took its keys wasn't refused.
use Rattle.std.proofs.Common.{◌≡◌, ℕ, zero, suc, Bool, true, List, [], ◌∷◌, ◌++◌, take, Option, Some, None, refl, sym, ap, subst, ◌∙◌, append_assoc, ◌==◌}
use Rattle.std.specs.Prelude.{not, find, slice_get, unwrap_or}
use Rattle.std.specs.List.{Contains, list_all}
use Rattle.std.proofs.lemmas.Bool.{both_ways}
use Rattle.std.proofs.lemmas.List.{append-nil}
use Rattle.std.proofs.lemmas.Option.{same_Some, slice_get-get_or}
use Rattle.tesla_base.proofs.Passing.{passes_at}
use Rattle.tesla_clock.specs.Schedule.{bound_of}
use Rattle.tesla_frame.specs.Frame.{Frame}
use Rattle.tesla_frame.specs.Reading.{frame_of}
use Rattle.tesla_fitting.specs.declared.config.Config.{Config}
use Rattle.tesla_fitting.specs.declared.verdict.Verdict.{Verdict}
use Rattle.tesla_fitting.specs.Fitting.{stream_of, is_misfit, is_future}
use Rattle.tesla_fitting.specs.Rows.{keys_of}
use Rattle.tesla_receiver.specs.Entries.{Arrival, Entry}
use Rattle.tesla_receiver.specs.declared.history.Entry.TheVariants.{Arrived, Taken, Ended}
use Rattle.tesla_receiver.specs.Answer.{is_bad, refusal, verdict_taken, verdict_on, verdict_of, late_arrival}
use Rattle.tesla_receiver.specs.History.{IsLegalAfter, IsLegal, arrivals_in, given_in}
use Rattle.tesla_receiver.specs.Keys.{takes_keys}
use Rattle.tesla_receiver.proofs.Arriving.{arrival_as, quiet_refusal}
use Rattle.tesla_receiver.proofs.Events.{arrivals_more}
use Rattle.tesla_receiver.proofs.Legal.{arrivals_same}

-- ---- what a list has

-- where it is
pub contained_at : {A : Type 0} (xs : List A) (x : A) → Contains xs x → (k : ℕ) × (slice_get xs k ≡ Some x)
contained_at xs x c = (c.0, slice_get-get_or xs c.0 x c.1 ∙ ap Some c.2)

-- it passes what all pass
pub contained_passes : {A : Type 0} (p : A → Bool) (xs : List A) (x : A) → list_all p xs ≡ true → Contains xs x → p x ≡ true
contained_passes p xs x all c = let at = contained_at xs x c in passes_at p xs at.0 x all at.1

-- ---- the verdict of each arrival

-- the arrival has the one verdict after those before it, when so many packets were given
pub record HasVerdict (cfg : Config) (before : List Arrival) (arrival : Arrival) : Type 0 where
  pub given : ℕ
  pub is : arrival.verdict ≡ verdict_of cfg before given arrival.ingest arrival.reading arrival.bytes

verdict_along : (cfg : Config) (before h : List Entry) (n : ℕ) (a : Arrival) → IsLegalAfter cfg before h → slice_get (arrivals_in h) n ≡ Some a → HasVerdict cfg (arrivals_in before ++ take n (arrivals_in h)) a
verdict_along cfg before [] n a l at = absurd (cc)
verdict_along cfg before (Arrived x ∷ h) zero a l at =
    let same : x ≡ a = same_Some x a at in
    let made : x ≡ arrival_as x.ingest x.reading x.bytes (verdict_of cfg (arrivals_in before) (given_in before) x.ingest x.reading x.bytes) = cc in
    subst (λ (y : Arrival). HasVerdict cfg (arrivals_in before ++ []) y) same
    (subst (λ (xs : List Arrival). HasVerdict cfg xs x) (sym (append-nil (arrivals_in before))) (record { given = given_in before; is = ap (λ (y : Arrival). y.verdict) made }))
verdict_along cfg before (Arrived x ∷ h) (suc n) a l at =
    subst (λ (xs : List Arrival). HasVerdict cfg xs a)
    (ap (λ xs. xs ++ take n (arrivals_in h)) (arrivals_more before (Arrived x)) ∙ append_assoc (arrivals_in before) (x ∷ []) (take n (arrivals_in h)))
    (verdict_along cfg (before ++ Arrived x ∷ []) h n a l.1 at)
verdict_along cfg before (Taken releaser reply ∷ h) n a l at =
    subst (λ (xs : List Arrival). HasVerdict cfg (xs ++ take n (arrivals_in h)) a) (arrivals_same before (Taken releaser reply) refl) (verdict_along cfg (before ++ Taken releaser reply ∷ []) h n a l.1 at)
verdict_along cfg before (Ended ingest ∷ h) n a l at =
    subst (λ (xs : List Arrival). HasVerdict cfg (xs ++ take n (arrivals_in h)) a) (arrivals_same before (Ended ingest) refl) (verdict_along cfg (before ++ Ended ingest ∷ []) h n a l.1 at)

-- the n-th arrival
pub verdict_at : (cfg : Config) (h : List Entry) (n : ℕ) (a : Arrival) → IsLegal cfg h → slice_get (arrivals_in h) n ≡ Some a → HasVerdict cfg (take n (arrivals_in h)) a
verdict_at cfg h n a l at = verdict_along cfg [] h n a l at

-- ---- one that took its keys

-- its frame wasn't refused, and it has the verdict on a frame whose keys are taken
pub record TookKeys (cfg : Config) (before : List Arrival) (arrival : Arrival) (given : ℕ) (bound : Option ℕ) (read : Option Frame) : Type 0 where
  pub frame : Frame
  pub framed : read ≡ Some frame
  pub unrefused : refusal cfg before bound frame ≡ None
  pub is : arrival.verdict ≡ verdict_taken cfg (before ++ late_arrival arrival.ingest arrival.reading arrival.bytes ∷ []) given bound frame

unrefused_on : (cfg : Config) (before : List Arrival) (bound : Option ℕ) (frame : Frame) (o : Option Verdict) (v taken : Verdict) → refusal cfg before bound frame ≡ o → v ≡ unwrap_or o taken → takes_keys v ≡ true → (o ≡ None) × (v ≡ taken)
unrefused_on cfg before bound frame None v taken e is takes = (refl, is)
unrefused_on cfg before bound frame (Some w) v taken e is takes =
    absurd (both_ways (takes_keys w)
    (quiet_refusal (not ((stream_of frame).0 == cfg.setup.stream.0)) (is_misfit cfg frame) (is_future cfg bound frame) (stream_of frame) bound (find (is_bad cfg before) (keys_of cfg frame)) w e)
    (ap takes_keys (sym is) ∙ takes))

taking_on : (cfg : Config) (before : List Arrival) (a : Arrival) (given : ℕ) (bound : Option ℕ) (o : Option Frame) → a.verdict ≡ verdict_on cfg before given (late_arrival a.ingest a.reading a.bytes) bound o → takes_keys a.verdict ≡ true → TookKeys cfg before a given bound o
taking_on cfg before a given bound None is takes = absurd (both_ways (takes_keys a.verdict) (ap takes_keys is) takes)
taking_on cfg before a given bound (Some frame) is takes =
    let parts = unrefused_on cfg before bound frame (refusal cfg before bound frame) a.verdict (verdict_taken cfg (before ++ late_arrival a.ingest a.reading a.bytes ∷ []) given bound frame) refl is takes in
    record { frame = frame; framed = refl; unrefused = parts.0; is = parts.1 }

-- an arrival that took its keys
pub took_keys : (cfg : Config) (before : List Arrival) (a : Arrival) (v : HasVerdict cfg before a) → takes_keys a.verdict ≡ true → TookKeys cfg before a v.given (bound_of cfg.setup.times cfg.lag a.reading) (frame_of a.bytes)
unfolding verdict_of
took_keys cfg before a v takes = taking_on cfg before a v.given (bound_of cfg.setup.times cfg.lag a.reading) (frame_of a.bytes) v.is takes
