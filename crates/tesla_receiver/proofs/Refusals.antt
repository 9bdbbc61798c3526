-- An arrival that is refused changes nothing but the counts.
use Rattle.std.proofs.Common.{◌≡◌, ℕ, false, List, [], ◌∷◌, ◌++◌, length-append, refl, sym, ap, ◌∙◌, arith, cond}
use Rattle.std.specs.Prelude.{fold, filter, nat_lt}
use Rattle.std.proofs.Math.Bool.{or-false}
use Rattle.tesla_frame.specs.Reading.{frame_of}
use Rattle.tesla_frame.specs.declared.row.KeyRow.{KeyRow}
use Rattle.tesla_fitting.specs.declared.config.Config.{Config}
use Rattle.tesla_fitting.specs.declared.verdict.Verdict.{Verdict}
use Rattle.tesla_receiver.specs.Entries.{Arrival, Entry}
use Rattle.tesla_receiver.specs.Answer.{verdict_of}
use Rattle.tesla_receiver.specs.History.{Arrives, entry_of, IsLegal, arrivals_in, given_in, has_end}
use Rattle.tesla_receiver.specs.Keys.{takes_keys, keys_in, newest, new_keys}
use Rattle.tesla_receiver.specs.Packets.{released}
use Rattle.tesla_receiver.specs.Refusals.{ChangesCountsAlone}
use Rattle.tesla_receiver.specs.Report.{report_on}
use Rattle.tesla_receiver.specs.Stands.{holdings}
use Rattle.tesla_receiver.specs.Tips.{tip_of}
use Rattle.tesla_walks.specs.Tips.{raised}
use Rattle.tesla_state.specs.State.{State}
use Rattle.tesla_receiver.proofs.Arriving.{arrival_as, keeps_of, quiet_packet}
use Rattle.tesla_receiver.proofs.Counts.{report_more}
use Rattle.tesla_receiver.proofs.Events.{arrivals_more}
use Rattle.tesla_receiver.proofs.KeptState.{keeps_quiet}
use Rattle.tesla_receiver.proofs.Legal.{given_fits}
use Rattle.tesla_receiver.proofs.Standing.{given_same, has_end_more}
use Rattle.tesla_receiver.proofs.States.{state_of, stands_of}
use Rattle.tesla_receiver.proofs.Tips.{tip_more}

-- an arrival that takes no key brings no new one
none_new : (cfg : Config) (xs : List Arrival) (a : Arrival) → takes_keys a.verdict ≡ false → new_keys cfg xs a ≡ []
none_new cfg xs a quiet = ap (λ b. filter (λ (row : KeyRow). nat_lt (newest cfg xs row.chain.0) row.index) (cond b (keys_in cfg (frame_of a.bytes)) [])) quiet

module _ (cfg : Config) (h : List Entry) (ingest reading : ℕ) (bytes : List ℕ) (legal : IsLegal cfg h) where
  abbrev verdict : Verdict
  verdict = verdict_of cfg (arrivals_in h) (given_in h) ingest reading bytes

  abbrev arrival : Arrival
  arrival = arrival_as ingest reading bytes verdict

  abbrev entry : Entry
  entry = entry_of cfg h (Arrives ingest reading bytes)

  pub counts_alone : takes_keys verdict ≡ false → ChangesCountsAlone cfg h (h ++ entry ∷ []) verdict
  counts_alone quiet =
      let xs : List Arrival = arrivals_in h in
      let a : Arrival = arrival in
      let s : State = state_of cfg h 0 in
      let none = quiet_packet verdict (frame_of bytes) quiet in
      let now = keeps_quiet s xs (given_in h) a (keeps_of s h (stands_of cfg h 0 legal)) (given_fits cfg h legal) quiet none in
      let all : State = record s { held = holdings cfg xs 0; waiting = released cfg xs } in
      let whole = keeps_quiet all xs 0 a (record { tips = refl; held = refl; waiting = refl }) (omega arith) quiet none in
      let more : arrivals_in (h ++ entry ∷ []) ≡ xs ++ a ∷ [] = arrivals_more h entry in
      let given : given_in (h ++ entry ∷ []) ≡ given_in h = sym (given_same h entry refl) in
      record {
        tips = λ chain. ap (λ ys. tip_of cfg ys chain) more ∙ tip_more cfg xs a chain ∙ ap (fold (raised chain) (tip_of cfg xs chain)) (none_new cfg xs a quiet);
        held = ap (λ ys. holdings cfg ys (given_in (h ++ entry ∷ []))) more ∙ ap (holdings cfg (xs ++ a ∷ [])) given ∙ sym now.held;
        releases = ap (released cfg) more ∙ sym whole.waiting;
        given = given;
        ended = λ ingest. has_end_more h entry ingest ∙ or-false (has_end h ingest);
        report = ap (λ ys. report_on ys (given_in (h ++ entry ∷ []))) more ∙ ap (report_on (xs ++ a ∷ [])) given ∙ report_more xs a (given_in h);
        entries = length-append h (entry ∷ []);
      }
