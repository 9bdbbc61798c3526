-- A receiver's state stands for no event, also for fewer ingests, and for one end more.
use Rattle.std.proofs.Common.{◌≡◌, ℕ, zero, suc, ◌+◌, ◌≤◌, true, false, List, [], ◌∷◌, ◌++◌, length-append, map, take, drop, set, replicate, refl, ap, sym, ◌∙◌, arith}
use Rattle.tesla_fitting.specs.declared.config.Config.{Config}
use Rattle.tesla_receiver.specs.Entries.{Arrival, Entry}
use Rattle.tesla_receiver.specs.declared.history.Entry.TheVariants.{Ended}
use Rattle.tesla_fitting.specs.Config.{chains}
use Rattle.tesla_receiver.specs.History.{Ends, entry_of, arrivals_in, given_in}
use Rattle.tesla_receiver.specs.Keys.{fresh_keys}
use Rattle.tesla_receiver.specs.Packets.{candidates, released}
use Rattle.tesla_receiver.specs.Report.{report_on}
use Rattle.tesla_state.specs.State.{State}
use Rattle.tesla_receiver.specs.Stands.{Stands, holdings}
use Rattle.tesla_state.specs.Steps.{opened, after_end, after_limit, with_ingests}
use Rattle.tesla_receiver.specs.Tips.{tip_of}
use Rattle.tesla_receiver.proofs.Legal.{arrivals_same}
use Rattle.tesla_receiver.proofs.Standing.{entered_legal, ended_more, none_ended, given_same}

-- what is kept after an end stands for the history with it
pub stands_ended : (s : State) (h : List Entry) → Stands s h → (ingest : ℕ) → Stands (after_end s ingest) (h ++ entry_of s.config h (Ends ingest) ∷ [])
unfolding after_end
stands_ended s h st ingest =
    let cfg : Config = s.config in
    let e : Entry = Ended ingest in
    let arrivals : arrivals_in h ≡ arrivals_in (h ++ e ∷ []) = sym (arrivals_same h e refl) in
    let given : given_in h ≡ given_in (h ++ e ∷ []) = given_same h e refl in
    let after : List Arrival = arrivals_in (h ++ e ∷ []) in
    record {
      legal = entered_legal cfg h (Ends ingest) st.legal;
      tips = st.tips ∙ ap (λ ys. map (tip_of cfg ys) (chains cfg)) arrivals;
      held = st.held ∙ ap (λ ys. holdings cfg ys (given_in h)) arrivals ∙ ap (holdings cfg after) given;
      waiting = st.waiting ∙ ap (λ ys. drop (given_in h) (released cfg ys)) arrivals ∙ ap (λ (g : ℕ). drop g (released cfg after)) given;
      ended = ap (λ bs. set bs ingest true) st.ended ∙ ended_more h ingest cfg.ingests;
      counts = st.counts ∙ ap (λ ys. report_on ys (given_in h)) arrivals ∙ ap (report_on after) given;
      calls = ap (λ (n : ℕ). n + 1) st.calls ∙ sym (length-append h (e ∷ []));
    }

-- what is kept before any event stands for the empty history
pub stands_opened : (cfg : Config) (reserved : ℕ) → Stands (opened cfg reserved) []
unfolding tip_of fresh_keys holdings released candidates
stands_opened cfg reserved = record {
  legal = tt;
  tips = refl;
  held = refl;
  waiting = refl;
  ended = none_ended 0 cfg.ingests;
  counts = refl;
  calls = refl;
}

take_none : (m n : ℕ) → m ≤ n → take m (replicate n false) ≡ replicate m false
take_none zero n few = refl
take_none (suc m) zero few = absurd (omega (arith, few))
take_none (suc m) (suc n) few = ap (λ flags. false ∷ flags) (take_none m n (omega (arith, few)))

-- before any event the state that is left for fewer ingests stands for the empty history too
pub stands_limited : (s : State) (ingests : ℕ) → Stands s [] → ingests ≤ s.config.ingests → Stands (after_limit s ingests) []
unfolding after_limit tip_of fresh_keys holdings released candidates
stands_limited s ingests st few = record {
  legal = tt;
  tips = st.tips;
  held = st.held;
  waiting = st.waiting;
  ended = ap (take ingests) (st.ended ∙ sym (none_ended 0 s.config.ingests)) ∙ take_none ingests s.config.ingests few ∙ none_ended 0 ingests;
  counts = st.counts;
  calls = st.calls;
}

pub limit_config : (s : State) (ingests : ℕ) → (after_limit s ingests).config ≡ with_ingests s.config ingests
unfolding after_limit
limit_config s ingests = refl
