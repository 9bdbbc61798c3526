-- A legal history has one state that stands for it.
use Rattle.std.proofs.Common.{◌≡◌, ℕ, zero, suc, ◌+◌, Bool, true, false, ◌&&◌, nat_lt, get_or, List, length, length-drop, map, drop, count_by, refl, sym, ap, ◌∙◌, arith}
use Rattle.std.specs.List.{range_with_len}
use Rattle.std.proofs.lemmas.Bool.Decides.{nat_tests}
use Rattle.tesla_fitting.specs.declared.config.Config.{Config}
use Rattle.tesla_receiver.specs.Entries.{Entry}
use Rattle.tesla_fitting.specs.Config.{chains}
use Rattle.tesla_receiver.specs.History.{IsLegal, arrivals_in, given_in, held_in, held_of_interval, has_end}
use Rattle.tesla_receiver.specs.Packets.{released}
use Rattle.tesla_receiver.specs.Events.{waiting_in}
use Rattle.tesla_receiver.specs.Report.{report_of}
use Rattle.tesla_state.specs.State.{State}
use Rattle.tesla_receiver.specs.Stands.{Stands, holdings}
use Rattle.tesla_state.specs.Steps.{in_interval}
use Rattle.tesla_receiver.specs.Tips.{tip_of}
use Rattle.tesla_receiver.proofs.Judged.{held_all, held_interval}

-- what the definitions name after a history, with so much room
abbrev pub state_of : Config → List Entry → ℕ → State
state_of cfg h reserved = record {
  config = cfg;
  tips = map (tip_of cfg (arrivals_in h)) (chains cfg);
  held = holdings cfg (arrivals_in h) (given_in h);
  waiting = drop (given_in h) (released cfg (arrivals_in h));
  ended = map (has_end h) (range_with_len 0 cfg.ingests);
  counts = report_of h;
  calls = length h;
  reserved = reserved;
}

pub stands_of : (cfg : Config) (h : List Entry) (reserved : ℕ) → IsLegal cfg h → Stands (state_of cfg h reserved) h
stands_of cfg h reserved legal = record { legal = legal; tips = refl; held = refl; waiting = refl; ended = refl; counts = refl; calls = refl }

-- some state stands for a legal history
pub stands_some : (cfg : Config) (h : List Entry) → IsLegal cfg h → (s : State) × (s.config ≡ cfg) × Stands s h
stands_some cfg h legal = (state_of cfg h 0, refl, stands_of cfg h 0 legal)

stands_is : (s : State) (h : List Entry) → Stands s h → s ≡ state_of s.config h s.reserved
stands_is s h st =
    let named : State = state_of s.config h s.reserved in
    ap (λ v. record s { tips = v }) st.tips
    ∙ ap (λ v. record s { tips = named.tips; held = v }) st.held
    ∙ ap (λ v. record s { tips = named.tips; held = named.held; waiting = v }) st.waiting
    ∙ ap (λ v. record named { ended = v; counts = s.counts; calls = s.calls }) st.ended
    ∙ ap (λ v. record named { counts = v; calls = s.calls }) st.counts
    ∙ ap (λ (v : ℕ). record named { calls = v }) st.calls

-- and no other of the configuration and the room
pub stands_one : (s t : State) (h : List Entry) → Stands s h → Stands t h → s.config ≡ t.config → s.reserved ≡ t.reserved → s ≡ t
stands_one s t h a b same room =
    stands_is s h a ∙ ap (λ (cfg : Config). state_of cfg h s.reserved) same ∙ ap (state_of t.config h) room ∙ sym (stands_is t h b)

-- ---- numbers

pub held_number : (s : State) (h : List Entry) → Stands s h → length s.held ≡ held_in s.config h
held_number s h st = ap length st.held ∙ held_all s.config (arrivals_in h) (given_in h)

pub interval_number : (s : State) (h : List Entry) → Stands s h → (interval : ℕ) → count_by (in_interval interval) s.held ≡ held_of_interval s.config h interval
interval_number s h st interval = ap (count_by (in_interval interval)) st.held ∙ held_interval s.config (arrivals_in h) (given_in h) interval

pub waiting_number : (s : State) (h : List Entry) → Stands s h → length s.waiting ≡ waiting_in s.config h
waiting_number s h st = ap length st.waiting ∙ length-drop (given_in h) (released s.config (arrivals_in h))

-- the flag of a number, below which there are so many
flag_at : (f : ℕ → Bool) (a n c : ℕ) → get_or (map f (range_with_len a n)) c false ≡ (nat_lt c n && f (a + c))
flag_at f a zero c = let past : nat_lt c 0 ≡ false = grind (arith, nat_tests) in sym (ap (λ b. b && f (a + c)) past)
flag_at f a (suc n) zero =
    let here : nat_lt 0 (suc n) ≡ true = grind (arith, nat_tests) in
    let own : a ≡ a + zero = omega arith in
    ap f own ∙ sym (ap (λ b. b && f (a + zero)) here)
flag_at f a (suc n) (suc c) =
    let same : nat_lt (suc c) (suc n) ≡ nat_lt c n = grind (arith, nat_tests) in
    let further : a + 1 + c ≡ a + suc c = omega arith in
    flag_at f (a + 1) n c ∙ ap (λ k. nat_lt c n && f k) further ∙ sym (ap (λ b. b && f (a + suc c)) same)

pub ended_flag : (s : State) (h : List Entry) → Stands s h → (ingest : ℕ) → get_or s.ended ingest false ≡ (nat_lt ingest s.config.ingests && has_end h ingest)
ended_flag s h st ingest =
    let plain : 0 + ingest ≡ ingest = omega arith in
    ap (λ flags. get_or flags ingest false) st.ended ∙ flag_at (has_end h) 0 s.config.ingests ingest ∙ ap (λ k. nat_lt ingest s.config.ingests && has_end h k) plain
