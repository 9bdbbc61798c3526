-- A receiver's state stands for one arrival more.
use Rattle.std.proofs.Common.{◌≡◌, ℕ, ◌+◌, Bool, true, false, cond, ◌||◌, List, [], ◌∷◌, ◌++◌, length, length-append, map, drop, Option, Some, None, refl, sym, ap, ◌∙◌, ◌==◌}
use Rattle.std.specs.Prelude.{not, find, nat_lt, unwrap_or, option_map}
use Rattle.std.specs.List.{list_any}
use Rattle.std.proofs.lemmas.Bool.{and_parts}
use Rattle.std.proofs.lemmas.Option.{same_Some}
use Rattle.tesla_base.specs.declared.names.StreamId.{StreamId}
use Rattle.tesla_clock.specs.Safe.{has_chain}
use Rattle.tesla_frame.specs.Frame.{Frame, Data, Disclosure}
use Rattle.tesla_frame.specs.Reading.{frame_of}
use Rattle.tesla_frame.specs.declared.row.KeyRow.{KeyRow}
use Rattle.tesla_keys.specs.Tip.{Tip}
use Rattle.tesla_fitting.specs.declared.config.Config.{Config}
use Rattle.tesla_receiver.specs.Entries.{Arrival, Entry}
use Rattle.tesla_walks.specs.declared.release.Release.{Release}
use Rattle.tesla_state.specs.declared.report.Report.{Report}
use Rattle.tesla_fitting.specs.declared.verdict.Verdict.{Verdict}
use Rattle.tesla_fitting.specs.declared.verdict.Verdict.TheVariants.{Malformed, Foreign, Misfit, Future, BadKey, Late, Repeat, Full, Kept, Keys}
use Rattle.tesla_fitting.specs.Fitting.{stream_of, is_misfit, is_future}
use Rattle.tesla_receiver.specs.Answer.{is_bad, safe_chains, verdict_taken, refusal, verdict_on, verdict_of, late_arrival}
use Rattle.tesla_fitting.specs.Config.{chains}
use Rattle.tesla_receiver.specs.Held.{held_of}
use Rattle.tesla_receiver.specs.History.{Arrives, entry_of, arrivals_in, given_in}
use Rattle.tesla_fitting.specs.Rows.{keys_of}
use Rattle.tesla_receiver.specs.Keys.{takes_keys, greatest, newest, new_keys}
use Rattle.tesla_receiver.specs.Packets.{packet_in, released}
use Rattle.tesla_state.specs.Releases.{has_name}
use Rattle.tesla_receiver.specs.Report.{report_on}
use Rattle.tesla_walks.specs.Holding.{Holding}
use Rattle.tesla_state.specs.State.{State}
use Rattle.tesla_receiver.specs.Stands.{Stands, held_at, holdings}
use Rattle.tesla_state.specs.Steps.{new_rows, with_keys, refused, judged_taken, judged_frame, own, counted, entered_as, entered_with, entered_frame, refused_of, bound_at, judged, after_arrival}
use Rattle.tesla_receiver.specs.Tips.{tip_of}
use Rattle.tesla_receiver.proofs.Counts.{report_more}
use Rattle.tesla_receiver.proofs.Events.{arrivals_more}
use Rattle.tesla_receiver.proofs.Grown.{same_taken}
use Rattle.tesla_receiver.proofs.HeldAfter.{own_held}
use Rattle.tesla_receiver.proofs.Newest.{newest_more}
use Rattle.tesla_receiver.proofs.Judged.{fits_unrefused, refused_same, new_same, safe_some, judged_same}
use Rattle.tesla_receiver.proofs.KeptState.{Keeps, tips_keyed, waiting_keyed, held_keyed, keeps_keyed, keeps_quiet}
use Rattle.tesla_receiver.proofs.Legal.{given_fits}
use Rattle.tesla_receiver.proofs.Standing.{entered_legal, ended_same, given_same}
use Rattle.tesla_receiver.proofs.Verdicts.{verdict_malformed, verdict_refused, verdict_taking}

pub keeps_of : (s : State) (h : List Entry) → Stands s h → Keeps s (arrivals_in h) (given_in h)
keeps_of s h st = record { tips = st.tips; held = st.held; waiting = st.waiting }

-- ---- the verdict

module _ (s : State) (h : List Entry) (st : Stands s h) where
  taken_same : (ingest reading : ℕ) (bytes : List ℕ) (bound : Option ℕ) (frame : Frame) → frame_of bytes ≡ Some frame → refusal s.config (arrivals_in h) bound frame ≡ None → judged_taken (with_keys s (new_rows s frame)) bound frame ≡ verdict_taken s.config (arrivals_in h ++ late_arrival ingest reading bytes ∷ []) (given_in h) bound frame
  taken_same ingest reading bytes bound frame read none =
      let cfg : Config = s.config in
      let late : Arrival = late_arrival ingest reading bytes in
      let fits = fits_unrefused cfg (arrivals_in h) bound frame none in
      let keeps = keeps_of s h st in
      ap (λ new. judged_taken (with_keys s new) bound frame) (new_same s (arrivals_in h) (given_in h) late frame keeps read refl fits)
      ∙ judged_same (with_keys s (new_keys cfg (arrivals_in h) late)) (arrivals_in h ++ late ∷ []) (given_in h)
      (keeps_keyed s (arrivals_in h) (given_in h) late keeps (given_fits cfg h st.legal) refl) bound frame

  unrefused_same : (ingest reading : ℕ) (bytes : List ℕ) (bound : Option ℕ) (frame : Frame) (o : Option Verdict) → frame_of bytes ≡ Some frame → refusal s.config (arrivals_in h) bound frame ≡ o → unwrap_or o (judged_taken (with_keys s (new_rows s frame)) bound frame) ≡ unwrap_or o (verdict_taken s.config (arrivals_in h ++ late_arrival ingest reading bytes ∷ []) (given_in h) bound frame)
  unrefused_same ingest reading bytes bound frame (Some v) read e = refl
  unrefused_same ingest reading bytes bound frame None read e = taken_same ingest reading bytes bound frame read e

  frame_same : (ingest reading : ℕ) (bytes : List ℕ) (bound : Option ℕ) (o : Option Frame) → frame_of bytes ≡ o → judged_frame s bound o ≡ verdict_on s.config (arrivals_in h) (given_in h) (late_arrival ingest reading bytes) bound o
  frame_same ingest reading bytes bound None read = refl
  frame_same ingest reading bytes bound (Some frame) read =
      let same = refused_same s h (given_in h) st.legal (keeps_of s h st) bound frame in
      ap (λ o. unwrap_or o (judged_taken (with_keys s (new_rows s frame)) bound frame)) same
      ∙ unrefused_same ingest reading bytes bound frame (refusal s.config (arrivals_in h) bound frame) read refl

-- the verdict by what a receiver keeps is the one by the history
pub verdict_judged : (s : State) (h : List Entry) → Stands s h → (ingest reading : ℕ) (bytes : List ℕ) → verdict_of s.config (arrivals_in h) (given_in h) ingest reading bytes ≡ judged s reading bytes
unfolding verdict_of judged
verdict_judged s h st ingest reading bytes = sym (frame_same s h st ingest reading bytes (bound_at s reading) (frame_of bytes) refl)

-- ---- which verdicts take keys

-- a refusal takes no keys
pub quiet_refusal : (a b c : Bool) (stream : StreamId) (bound : Option ℕ) (o : Option KeyRow) (v : Verdict) → cond a (Some (Foreign stream)) (cond b (Some Misfit) (cond c (Some (Future bound)) (option_map (λ (row : KeyRow). BadKey row.chain) o))) ≡ Some v → takes_keys v ≡ false
quiet_refusal true b c stream bound o v e = ap takes_keys (sym (same_Some (Foreign stream) v e))
quiet_refusal false true c stream bound o v e = ap takes_keys (sym (same_Some Misfit v e))
quiet_refusal false false true stream bound o v e = ap takes_keys (sym (same_Some (Future bound) v e))
quiet_refusal false false false stream bound (Some row) v e = ap takes_keys (sym (same_Some (BadKey row.chain) v e))
quiet_refusal false false false stream bound None v e = absurd (cc)

-- an arrival that takes no key brings no packet
pub quiet_packet : (v : Verdict) (o : Option Frame) → takes_keys v ≡ false → packet_in v o ≡ None
quiet_packet Malformed o e = refl
quiet_packet (Foreign stream) o e = refl
quiet_packet Misfit o e = refl
quiet_packet (Future bound) o e = refl
quiet_packet (BadKey chain) o e = refl
quiet_packet Late o e = refl
quiet_packet Repeat o e = refl
quiet_packet Full o e = refl
quiet_packet (Kept set) o e = absurd (cc)
quiet_packet Keys o e = refl

takes_judged : (a b c : Bool) (set : ℕ) → takes_keys (cond a Late (cond b Repeat (cond c Full (Kept set)))) ≡ true
takes_judged true b c set = refl
takes_judged false true c set = refl
takes_judged false false true set = refl
takes_judged false false false set = refl

-- and the verdict on a frame that isn't refused does
pub takes_taken : (cfg : Config) (xs : List Arrival) (given : ℕ) (bound : Option ℕ) (frame : Frame) → takes_keys (verdict_taken cfg xs given bound frame) ≡ true
takes_taken cfg xs given bound (Disclosure f) = refl
takes_taken cfg xs given bound (Data f) =
    takes_judged (safe_chains cfg xs bound f.name.interval == 0) (list_any (has_name f.name) (released cfg xs))
    (held_of cfg xs given None == cfg.capacity || held_of cfg xs given (Some f.name.interval) == cfg.quota) (safe_chains cfg xs bound f.name.interval)

-- ---- the packet of the arrival

-- a set with which a packet is kept
record KeptWith (cfg : Config) (xs : List Arrival) (bound : Option ℕ) (interval set : ℕ) : Type 0 where
  same : safe_chains cfg xs bound interval ≡ set
  some : (safe_chains cfg xs bound interval == 0) ≡ false

kept_judged : (a b c : Bool) (made set : ℕ) → cond a Late (cond b Repeat (cond c Full (Kept made))) ≡ Kept set → (a ≡ false) × (made ≡ set)
kept_judged true b c made set e = absurd (cc)
kept_judged false true c made set e = absurd (cc)
kept_judged false false true made set e = absurd (cc)
kept_judged false false false made set e = (refl, cc)

-- the arrival with its verdict
abbrev pub arrival_as : ℕ → ℕ → List ℕ → Verdict → Arrival
arrival_as ingest reading bytes v = record { ingest = ingest; reading = reading; bytes = bytes; verdict = v }

own_kept : (cfg : Config) (xs ys : List Arrival) (given ingest reading : ℕ) (bytes : List ℕ) (bound : Option ℕ) (v : Verdict) (frame : Frame) → frame_of bytes ≡ Some frame → ((c : ℕ) → newest cfg (xs ++ arrival_as ingest reading bytes v ∷ []) c ≡ newest cfg ys c) → v ≡ verdict_taken cfg ys given bound frame → own (length xs) v frame ≡ held_at cfg (xs ++ arrival_as ingest reading bytes v ∷ []) given (length xs) (packet_in v (frame_of bytes))
own_kept cfg xs ys given ingest reading bytes bound (Kept set) (Data f) read newer e =
    let a : Arrival = arrival_as ingest reading bytes (Kept set) in
    let interval : ℕ = f.name.interval in
    let parts = kept_judged (safe_chains cfg ys bound interval == 0) (list_any (has_name f.name) (released cfg ys)) (held_of cfg ys given None == cfg.capacity || held_of cfg ys given (Some interval) == cfg.quota) (safe_chains cfg ys bound interval) set (sym e) in
    let found = safe_some cfg ys bound interval parts.0 in
    let both = and_parts (has_chain (safe_chains cfg ys bound interval) found.chain) (nat_lt (newest cfg ys found.chain) interval) found.passes in
    let safe : has_chain set found.chain ≡ true = ap (λ (n : ℕ). has_chain n found.chain) (sym parts.1) ∙ both.0 in
    let ahead : nat_lt (newest cfg (xs ++ a ∷ []) found.chain) interval ≡ true = ap (λ (n : ℕ). nat_lt n interval) (newer found.chain) ∙ both.1 in
    sym (own_held cfg xs a given found.chain (record { chains = set; frame = f }) (ap (packet_in (Kept set)) read) found.below safe ahead)
own_kept cfg xs ys given ingest reading bytes bound (Kept set) (Disclosure f) read newer e = absurd (cc)
own_kept cfg xs ys given ingest reading bytes bound Malformed frame read newer e = refl
own_kept cfg xs ys given ingest reading bytes bound (Foreign stream) frame read newer e = refl
own_kept cfg xs ys given ingest reading bytes bound Misfit frame read newer e = refl
own_kept cfg xs ys given ingest reading bytes bound (Future told) frame read newer e = refl
own_kept cfg xs ys given ingest reading bytes bound (BadKey chain) frame read newer e = refl
own_kept cfg xs ys given ingest reading bytes bound Late frame read newer e = refl
own_kept cfg xs ys given ingest reading bytes bound Repeat frame read newer e = refl
own_kept cfg xs ys given ingest reading bytes bound Full frame read newer e = refl
own_kept cfg xs ys given ingest reading bytes bound Keys frame read newer e = refl

-- ---- one arrival more

module _ (s : State) (h : List Entry) (st : Stands s h) (ingest reading : ℕ) (bytes : List ℕ) where
  entered : (v : Verdict) (tips : List Tip) (held : List Holding) (waiting : List Release) → v ≡ verdict_of s.config (arrivals_in h) (given_in h) ingest reading bytes → tips ≡ map (tip_of s.config (arrivals_in h ++ arrival_as ingest reading bytes v ∷ [])) (chains s.config) → held ≡ holdings s.config (arrivals_in h ++ arrival_as ingest reading bytes v ∷ []) (given_in h) → waiting ≡ drop (given_in h) (released s.config (arrivals_in h ++ arrival_as ingest reading bytes v ∷ [])) → Stands (entered_as v (record s { tips = tips; held = held; waiting = waiting })) (h ++ entry_of s.config h (Arrives ingest reading bytes) ∷ [])
  entered v tips held waiting told tips_are held_are waiting_are =
      let cfg : Config = s.config in
      let e : Entry = entry_of cfg h (Arrives ingest reading bytes) in
      let a : Arrival = arrival_as ingest reading bytes v in
      let arrivals : arrivals_in h ++ a ∷ [] ≡ arrivals_in (h ++ e ∷ []) = ap (λ w. arrivals_in h ++ arrival_as ingest reading bytes w ∷ []) told ∙ sym (arrivals_more h e) in
      let given : given_in h ≡ given_in (h ++ e ∷ []) = given_same h e refl in
      record {
        legal = entered_legal cfg h (Arrives ingest reading bytes) st.legal;
        tips = tips_are ∙ ap (λ ys. map (tip_of cfg ys) (chains cfg)) arrivals;
        held = held_are ∙ ap (λ ys. holdings cfg ys (given_in h)) arrivals ∙ ap (holdings cfg (arrivals_in (h ++ e ∷ []))) given;
        waiting = waiting_are ∙ ap (λ ys. drop (given_in h) (released cfg ys)) arrivals ∙ ap (λ (g : ℕ). drop g (released cfg (arrivals_in (h ++ e ∷ [])))) given;
        ended = st.ended ∙ ended_same h e cfg.ingests (λ k. refl);
        counts = ap (counted v) st.counts ∙ sym (report_more (arrivals_in h) a (given_in h)) ∙ ap (λ ys. report_on ys (given_in h)) arrivals ∙ ap (report_on (arrivals_in (h ++ e ∷ []))) given;
        calls = ap (λ (n : ℕ). n + 1) st.calls ∙ sym (length-append h (e ∷ []));
      }

  quiet_entered : (v : Verdict) → v ≡ verdict_of s.config (arrivals_in h) (given_in h) ingest reading bytes → takes_keys v ≡ false → Stands (entered_as v s) (h ++ entry_of s.config h (Arrives ingest reading bytes) ∷ [])
  quiet_entered v told quiet =
      let keeps = keeps_quiet s (arrivals_in h) (given_in h) (arrival_as ingest reading bytes v) (keeps_of s h st) (given_fits s.config h st.legal) quiet (quiet_packet v (frame_of bytes) quiet) in
      entered v s.tips s.held s.waiting told keeps.tips keeps.held keeps.waiting

  -- a frame whose keys are taken
  taken_entered : (v : Verdict) (frame : Frame) → frame_of bytes ≡ Some frame → refusal s.config (arrivals_in h) (bound_at s reading) frame ≡ None → v ≡ verdict_taken s.config (arrivals_in h ++ late_arrival ingest reading bytes ∷ []) (given_in h) (bound_at s reading) frame → Stands (entered_with (with_keys s (new_rows s frame)) (bound_at s reading) frame v) (h ++ entry_of s.config h (Arrives ingest reading bytes) ∷ [])
  taken_entered v frame read none e =
      let cfg : Config = s.config in
      let xs : List Arrival = arrivals_in h in
      let given : ℕ = given_in h in
      let late : Arrival = late_arrival ingest reading bytes in
      let a : Arrival = arrival_as ingest reading bytes v in
      let keeps = keeps_of s h st in
      let few = given_fits cfg h st.legal in
      let fits = fits_unrefused cfg xs (bound_at s reading) frame none in
      let takes : takes_keys v ≡ true = ap takes_keys e ∙ takes_taken cfg (xs ++ late ∷ []) given (bound_at s reading) frame in
      let new : new_rows s frame ≡ new_keys cfg xs a = new_same s xs given a frame keeps read takes fits in
      let count : s.counts.arrivals ≡ length xs = ap (λ (r : Report). r.arrivals) st.counts in
      let newer : (c : ℕ) → newest cfg (xs ++ a ∷ []) c ≡ newest cfg (xs ++ late ∷ []) c = λ c. newest_more cfg xs a c ∙ ap (greatest c (newest cfg xs c)) (same_taken cfg a Late takes) ∙ sym (newest_more cfg xs late c) in
      entered v (with_keys s (new_rows s frame)).tips ((with_keys s (new_rows s frame)).held ++ own s.counts.arrivals v frame) (with_keys s (new_rows s frame)).waiting
      (e ∙ verdict_taking cfg xs given ingest reading bytes frame (sym read) (sym none))
      (ap (λ ks. (with_keys s ks).tips) new ∙ tips_keyed s xs given a keeps few)
      (ap (λ ks. (with_keys s ks).held ++ own s.counts.arrivals v frame) new
      ∙ ap (λ (n : ℕ). (with_keys s (new_keys cfg xs a)).held ++ own n v frame) count
      ∙ ap (λ r. (with_keys s (new_keys cfg xs a)).held ++ r) (own_kept cfg xs (xs ++ late ∷ []) given ingest reading bytes (bound_at s reading) v frame read newer e)
      ∙ held_keyed s xs given a keeps few)
      (ap (λ ks. (with_keys s ks).waiting) new ∙ waiting_keyed s xs given a keeps few)

  refused_entered : (frame : Frame) (o : Option Verdict) → frame_of bytes ≡ Some frame → refusal s.config (arrivals_in h) (bound_at s reading) frame ≡ o → Stands (entered_frame s (bound_at s reading) (Some frame) o) (h ++ entry_of s.config h (Arrives ingest reading bytes) ∷ [])
  refused_entered frame (Some v) read e =
      quiet_entered v (verdict_refused s.config (arrivals_in h) (given_in h) ingest reading bytes frame v (sym read) (sym e))
      (quiet_refusal (not ((stream_of frame).0 == s.config.setup.stream.0)) (is_misfit s.config frame) (is_future s.config (bound_at s reading) frame) (stream_of frame) (bound_at s reading) (find (is_bad s.config (arrivals_in h)) (keys_of s.config frame)) v e)
  refused_entered frame None read e =
      taken_entered (judged_taken (with_keys s (new_rows s frame)) (bound_at s reading) frame) frame read e (taken_same s h st ingest reading bytes (bound_at s reading) frame read e)

  frame_entered : (o : Option Frame) → frame_of bytes ≡ o → Stands (entered_frame s (bound_at s reading) o (refused_of s (bound_at s reading) o)) (h ++ entry_of s.config h (Arrives ingest reading bytes) ∷ [])
  frame_entered None read = quiet_entered Malformed (verdict_malformed s.config (arrivals_in h) (given_in h) ingest reading bytes (sym read)) refl
  frame_entered (Some frame) read =
      refused_entered frame (refused s (bound_at s reading) frame) read (sym (refused_same s h (given_in h) st.legal (keeps_of s h st) (bound_at s reading) frame))

-- what is kept after an arrival stands for the history with it
pub stands_arrived : (s : State) (h : List Entry) → Stands s h → (ingest reading : ℕ) (bytes : List ℕ) → Stands (after_arrival s reading bytes) (h ++ entry_of s.config h (Arrives ingest reading bytes) ∷ [])
unfolding after_arrival
stands_arrived s h st ingest reading bytes = frame_entered s h st ingest reading bytes (frame_of bytes) refl
