-- A kept packet was safe on each chain of its set when it came.
use Rattle.std.proofs.Common.{◌≡◌, ℕ, ◌+◌, ◌<◌, Bool, true, false, cond, ◌||◌, List, [], ◌∷◌, ◌++◌, length, take, Option, Some, None, refl, sym, ap, subst, ⊎_elim, ◌∙◌, arith, ◌==◌}
use Rattle.std.specs.Prelude.{not, find, nat_lt, option_map}
use Rattle.std.specs.List.{list_any}
use Rattle.std.proofs.lemmas.Bool.{and_parts, both_ways, cases_Bool, cases_lt, eqb-true, ltb-true}
use Rattle.std.proofs.lemmas.Nat.Bits.{bit_at_above}
use Rattle.std.proofs.lemmas.Option.{same_Some}
use Rattle.tesla_clock.specs.Safe.{has_chain, chain_set}
use Rattle.tesla_clock.specs.Schedule.{bound_of}
use Rattle.tesla_clock.proofs.Sets.{set_has, small_set}
use Rattle.tesla_frame.specs.Frame.{Frame, Data, Disclosure, DataFrame}
use Rattle.tesla_frame.specs.Reading.{frame_of}
use Rattle.tesla_frame.specs.declared.row.KeyRow.{KeyRow}
use Rattle.tesla_fitting.specs.declared.config.Config.{Config}
use Rattle.tesla_fitting.specs.declared.verdict.Verdict.{Verdict}
use Rattle.tesla_fitting.specs.declared.verdict.Verdict.TheVariants.{Foreign, Misfit, Future, BadKey, Late, Repeat, Full, Kept}
use Rattle.tesla_fitting.specs.Config.{chain_row}
use Rattle.tesla_fitting.specs.Fitting.{stream_of, is_misfit, is_future}
use Rattle.tesla_fitting.specs.Rows.{keys_of}
use Rattle.tesla_receiver.specs.Entries.{Arrival}
use Rattle.tesla_receiver.specs.declared.packet.Packet.{Packet}
use Rattle.tesla_receiver.specs.Answer.{is_bad, refusal, safe_chains, verdict_taken, late_arrival}
use Rattle.tesla_receiver.specs.Arrivals.{IsSafeOn, KeptAreSafe}
use Rattle.tesla_receiver.specs.Held.{held_of}
use Rattle.tesla_receiver.specs.History.{arrivals_in}
use Rattle.tesla_receiver.specs.Keys.{takes_keys, greatest, newest}
use Rattle.tesla_receiver.specs.Packets.{is_safe, packet_in, released}
use Rattle.tesla_state.specs.Releases.{has_name}
use Rattle.tesla_receiver.proofs.Arrivals.{took_keys, verdict_at}
use Rattle.tesla_receiver.proofs.Arriving.{quiet_packet, takes_taken}
use Rattle.tesla_receiver.proofs.Grown.{same_taken}
use Rattle.tesla_receiver.proofs.Judged.{fits_unrefused}
use Rattle.tesla_receiver.proofs.Newest.{newest_more}

-- a chain of a set is below its bound and passes
set_only : (test : ℕ → Bool) (n c : ℕ) → has_chain (chain_set test n) c ≡ true → (c < n) × (test c ≡ true)
set_only test n c has =
    ⊎_elim
    (λ less. (less, sym (set_has test n c less) ∙ has))
    (λ least. absurd (both_ways (has_chain (chain_set test n) c) (ap (λ v. v == 1) (bit_at_above (chain_set test n) n c (small_set test n) least)) has))
    (cases_lt c n)

-- an arrival that brought a packet took its keys
kept_takes : (v : Verdict) (o : Option Frame) (packet : Packet) → packet_in v o ≡ Some packet → takes_keys v ≡ true
kept_takes v o packet kept = ⊎_elim (λ e. e) (λ e. let none : packet_in v o ≡ None = quiet_packet v o e in absurd (cc)) (cases_Bool (takes_keys v))

-- and has the set of its verdict
kept_with : (a b c : Bool) (set : ℕ) (f : DataFrame) (packet : Packet) → packet_in (cond a Late (cond b Repeat (cond c Full (Kept set)))) (Some (Data f)) ≡ Some packet → record { chains = set; frame = f } ≡ packet
kept_with true b c set f packet e = absurd (cc)
kept_with false true c set f packet e = absurd (cc)
kept_with false false true set f packet e = absurd (cc)
kept_with false false false set f packet e = same_Some (record { chains = set; frame = f }) packet e

own_stream : (a b c : Bool) (x y z : Verdict) (o : Option Verdict) → cond (not a) (Some x) (cond b (Some y) (cond c (Some z) o)) ≡ None → a ≡ true
own_stream true b c x y z o e = refl
own_stream false b c x y z o e = absurd (cc)

module _ (cfg : Config) (before : List Arrival) (a : Arrival) (chain : ℕ) where
  abbrev late : Arrival
  late = late_arrival a.ingest a.reading a.bytes

  -- by its keys the newest indexes are those with any verdict that takes them
  newest_late : takes_keys a.verdict ≡ true → newest cfg (before ++ late ∷ []) chain ≡ newest cfg (before ++ a ∷ []) chain
  newest_late takes =
      newest_more cfg before late chain ∙ ap (greatest chain (newest cfg before chain)) (sym (same_taken cfg a Late takes)) ∙ sym (newest_more cfg before a chain)

  safe_set_on : (bound : Option ℕ) (f : DataFrame) → frame_of a.bytes ≡ Some (Data f) → refusal cfg before bound (Data f) ≡ None → bound_of cfg.setup.times cfg.lag a.reading ≡ bound → takes_keys a.verdict ≡ true → has_chain (safe_chains cfg (before ++ late ∷ []) bound f.name.interval) chain ≡ true → IsSafeOn cfg before a (record { chains = safe_chains cfg (before ++ late ∷ []) bound f.name.interval; frame = f }) chain
  safe_set_on None f read unrefused told takes has = absurd (let below = (set_only (λ c. true) 0 chain has).0 in omega arith)
  safe_set_on (Some bound) f read unrefused told takes has =
      let interval : ℕ = f.name.interval in
      let parts = set_only (is_safe cfg (before ++ late ∷ []) bound interval) (length cfg.setup.rows) chain has in
      let both = and_parts (nat_lt bound (interval + (chain_row cfg chain).delay)) (nat_lt (newest cfg (before ++ late ∷ []) chain) interval) parts.1 in
      record {
        framed = read;
        stream = eqb-true (stream_of (Data f)).0 cfg.setup.stream.0
            (own_stream ((stream_of (Data f)).0 == cfg.setup.stream.0) (is_misfit cfg (Data f)) (is_future cfg (Some bound) (Data f)) (Foreign (stream_of (Data f))) Misfit (Future (Some bound))
            (option_map (λ (row : KeyRow). BadKey row.chain) (find (is_bad cfg before) (keys_of cfg (Data f)))) unrefused);
        fits = fits_unrefused cfg before (Some bound) (Data f) unrefused;
        chain_is = parts.0;
        bound = bound;
        bounded = told;
        undisclosed = ltb-true bound (interval + (chain_row cfg chain).delay) both.0;
        unknown = subst (λ (n : ℕ). n < interval) (newest_late takes) (ltb-true (newest cfg (before ++ late ∷ []) chain) interval both.1);
      }

  safe_on : (given : ℕ) (bound : Option ℕ) (packet : Packet) (frame : Frame) → frame_of a.bytes ≡ Some frame → refusal cfg before bound frame ≡ None → a.verdict ≡ verdict_taken cfg (before ++ late ∷ []) given bound frame → bound_of cfg.setup.times cfg.lag a.reading ≡ bound → packet_in a.verdict (Some frame) ≡ Some packet → has_chain packet.chains chain ≡ true → IsSafeOn cfg before a packet chain
  safe_on given bound packet (Disclosure f) read unrefused is told kept has =
      let none : packet_in a.verdict (Some (Disclosure f)) ≡ None = ap (λ v. packet_in v (Some (Disclosure f))) is in absurd (cc)
  safe_on given bound packet (Data f) read unrefused is told kept has =
      let xs : List Arrival = before ++ late ∷ [] in
      let set : ℕ = safe_chains cfg xs bound f.name.interval in
      let same : record { chains = set; frame = f } ≡ packet =
      kept_with (set == 0) (list_any (has_name f.name) (released cfg xs)) (held_of cfg xs given None == cfg.capacity || held_of cfg xs given (Some f.name.interval) == cfg.quota) set f packet
      (ap (λ v. packet_in v (Some (Data f))) (sym is) ∙ kept) in
      subst (λ (p : Packet). IsSafeOn cfg before a p chain) same
      (safe_set_on bound f read unrefused told (ap takes_keys is ∙ takes_taken cfg xs given bound (Data f)) (ap (λ (p : Packet). has_chain p.chains chain) same ∙ has))

-- the law
pub kept_safe : KeptAreSafe
kept_safe cfg h n a packet chain legal at kept has =
    let before : List Arrival = take n (arrivals_in h) in
    let v = verdict_at cfg h n a legal at in
    let took = took_keys cfg before a v (kept_takes a.verdict (frame_of a.bytes) packet kept) in
    safe_on cfg before a chain v.given (bound_of cfg.setup.times cfg.lag a.reading) packet took.frame took.framed took.unrefused took.is refl
    (ap (packet_in a.verdict) (sym took.framed) ∙ kept) has
